use Rattle.std.proofs.Common.{◌≡◌, ◌+◌, ◌<◌, ◌≤◌, List, length, get_or, set, sym, ap, ◌∙◌, subst, arith, length-set}
use Rattle.std.specs.List.{refill}
use Rattle.std.proofs.lemmas.Bool.{eq-eqb, ne_eqb}
use Rattle.arrayvec.specs.ArrayVec.{ArrayVec}
use Rattle.syn_rows.specs.declared.Row.TheVariants.{Free}
use Rattle.syn_decide.specs.declared.decisions.NodeRow.{NodeRow}
use Rattle.syn_commit.proofs.Replacing.{IsSetting, refill_same, setting_ends, setting_here, setting_other}
use Rattle.syn_commit.proofs.stores.set_row.Goals.{then-as_slice-i, else-as_slice-i}
use Rattle.syn_commit.proofs.stores.set_row.Goals as goal

-- what stands past the end
abbrev none_there : NodeRow
none_there = record { node = 0; row = Free }

pub loop-i-preserved : goal.loop-i-preserved
loop-i-preserved c =
    let within : c.loop-i.i < length c.args.gates.now.items = omega (arith, c.loop-i-test.true, c.len-i-end.ensures.value) in
    let setting = c.loop-i.invariant.setting in
    record {
      setting = elim c.if-as_slice-i.branch [
        | then-as_slice-i w ↦
            let same = eq-eqb _ _ (ap (λ (rs : List NodeRow). (get_or rs c.loop-i.i none_there).node) (sym c.as_slice.ensures.value) ∙ w.if-as_slice-i.true) in
            let items : c.if-as_slice-i.gates.items ≡ set c.loop-i.gates.items c.loop-i.i (record { node = c.args.node; row = c.args.row }) =
            ap (λ (v : ArrayVec NodeRow). v.items) w.gates-is
            ∙ (ap (λ xs. refill (length c.loop-i.gates.items) c.loop-i.gates.items (set xs c.loop-i.i (record { node = c.args.node; row = c.args.row }))) w.as_mut_slice.ensures.value
            ∙ refill_same c.loop-i.gates.items (set c.loop-i.gates.items c.loop-i.i (record { node = c.args.node; row = c.args.row })) (length-set c.loop-i.gates.items c.loop-i.i (record { node = c.args.node; row = c.args.row }))) in
            subst (IsSetting c.args.node c.args.row c.args.gates.now.items (c.loop-i.i + 1)) (sym items)
            (setting_here c.args.node c.args.row c.args.gates.now.items c.loop-i.i c.loop-i.gates.items none_there setting within same)
        | else-as_slice-i w ↦
            let other = ne_eqb _ _ (λ e. w.if-as_slice-i.false (ap (λ (rs : List NodeRow). (get_or rs c.loop-i.i none_there).node) c.as_slice.ensures.value ∙ e)) in
            subst (λ (v : ArrayVec NodeRow). IsSetting c.args.node c.args.row c.args.gates.now.items (c.loop-i.i + 1) v.items) (sym w.gates-is)
            (setting_other c.args.node c.args.row c.args.gates.now.items c.loop-i.i c.loop-i.gates.items none_there setting within other)
      ];
    }

pub returns-clause-gates : goal.returns-clause-gates
returns-clause-gates c =
    let over : length c.args.gates.now.items ≤ c.loop-i.i = omega (arith, c.loop-i-test.false, c.len-i-end.ensures.value) in
    setting_ends c.args.node c.args.row c.args.gates.now.items c.loop-i.gates.items c.loop-i.i over c.loop-i.invariant.setting
