use Rattle.std.proofs.Common.{◌≡◌, ◌∷◌, [], ℕ, List, true, false, length, map, ap, sym, ◌∙◌, subst, arith}
use Rattle.std.specs.List.{list_all}
use Rattle.std.proofs.lemmas.List.{length_push, get_or_append_left}
use Rattle.syn_rows.specs.declared.Lit.{Lit}
use Rattle.syn_hashed.specs.Hashed.{lit_at}
use Rattle.syn_hashed.specs.Growing.{value_by}
use Rattle.syn_lutnet.specs.LutData.{fold_luts, lut_value, ones_of, ones_value}
use Rattle.syn_lutnet.specs.Data.{luts_data}
use Rattle.syn_lutnet.proofs.LutDepths.{gates_next}
use Rattle.syn_lut_rows.specs.LutLiterals.{reads_below}
use Rattle.syn_placing.proofs.Placed.{there_pushed}
use Rattle.syn_lut_rows.proofs.Literals.{signals_next, reads_here}
use Rattle.syn_lut_rows.proofs.name_luts.Goals as goal

pub lut_literal-requires-clause-inputs : goal.lut_literal-requires-clause-inputs
lut_literal-requires-clause-inputs c =
    let lut = c.lut-item.result in
    subst (λ n. list_all (reads_below n) lut.inputs.items ≡ true) (sym (ap (λ (ls : List Lit). length ls) c.as_slice.ensures.value ∙ c.loop-lut.invariant.len))
    (reads_here (length c.args.signals.now.items) c.args.luts.now c.loop-lut.lut-index lut c.loop-lut-test.true c.lut-item.is c.requires.inputs)

pub lut_literal-requires-clause-room : goal.lut_literal-requires-clause-room
lut_literal-requires-clause-room c =
    let next = gates_next c.args.luts.now c.loop-lut.lut-index c.lut-item.result c.loop-lut-test.true c.lut-item.is in
    omega (arith, next, c.loop-lut.invariant.few, c.requires.room)

pub loop-lut-preserved : goal.loop-lut-preserved
loop-lut-preserved c =
    let inv = c.loop-lut.invariant in
    let done = c.in_ok-literal.ensures in
    let lut = c.lut-item.result in
    let i : ℕ = c.loop-lut.lut-index in
    let luts = c.args.luts.now in
    let old = c.loop-lut.hashed.rows.items in
    let new = c.lut_literal.new.hashed.rows.items in
    let signals : List Lit = c.loop-lut.signals.items in
    let literal : Lit = c.in_ok-literal.literal in
    let pushed = c.in_ok-push.ensures.items in
    let long = ap (λ (ls : List Lit). length ls) pushed ∙ length_push signals literal in
    let next = gates_next luts i lut c.loop-lut-test.true c.lut-item.is in
    let reads : list_all (reads_below (length signals)) lut.inputs.items ≡ true =
    subst (λ n. list_all (reads_below n) lut.inputs.items ≡ true) (sym inv.len) (reads_here (length c.args.signals.now.items) luts i lut c.loop-lut-test.true c.lut-item.is c.requires.inputs) in
    record {
      sources = done.sources ∙ inv.sources;
      few = omega (arith, next, done.few, inv.few);
      there = there_pushed old new signals c.push.new.self.items literal done.grows inv.there done.there pushed;
      len = omega (arith, long, inv.len);
      begins = λ j lt. ap (λ (ls : List Lit). lit_at ls j) pushed ∙ get_or_append_left signals (literal ∷ []) (record { 0 = 0 }) j (omega (arith, lt, inv.len)) ∙ inv.begins j lt;
      values = λ given at_0. signals_next given old new signals c.push.new.self.items literal luts i lut (fold_luts lut_value false (map (value_by given c.args.hashed.now.rows.items) c.args.signals.now.items) (luts_data luts)) done.grows inv.there pushed reads c.loop-lut-test.true c.lut-item.is
          (done.value given at_0 ∙ ap (λ (ls : List Lit). ones_value (ones_of lut.truth) (map (value_by given old) (map (lit_at ls) lut.inputs.items))) c.as_slice.ensures.value) (inv.values given at_0);
    }
