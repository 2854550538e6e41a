use Rattle.std.proofs.Common.{◌≡◌, ◌^◌, nat_lt, true, ℕ, List, length, map, sym, ap, ◌∙◌, subst, arith}
use Rattle.std.specs.List.{list_all}
use Rattle.std.proofs.lemmas.List.{length-map}
use Rattle.syn_cones.specs.Cones.{IsCut, IsTruthOver}
use Rattle.syn_lutnet.specs.LutData.{ones_of}
use Rattle.syn_lutnet.proofs.Ones.{ones_give}
use Rattle.syn_covering.specs.Making.{number_at}
use Rattle.syn_covering.proofs.Assembled.{ones_over}
use Rattle.syn_covering.proofs.luts.make_lut.Goals as goal

pub function-requires-clause-few : goal.function-requires-clause-few
function-requires-clause-few g c = omega (arith, ap (λ (xs : List ℕ). length xs) c.cut-cut.ensures, (c.requires.cuts c.args.node c.requires.node.1).few)

pub function-requires-clause-cut : goal.function-requires-clause-cut
function-requires-clause-cut g c = subst (λ (xs : List ℕ). IsCut c.args.rows.now xs c.args.node) (sym c.cut-cut.ensures) (c.requires.cuts c.args.node c.requires.node.1).cut

pub returns : goal.returns
returns g c =
    let rows = c.args.rows.now in
    let cut : List ℕ = g.C.Choice.leaves c.args.choice.now c.args.node in
    let t = c.in_ok-truth.truth in
    let over : IsTruthOver rows cut c.args.node t = subst (λ (xs : List ℕ). IsTruthOver rows xs c.args.node t) c.cut-cut.ensures c.in_ok-truth.ensures in
    let inputs : c.inputs_of.result.items ≡ map (number_at c.args.signals.now) cut = c.inputs_of.ensures ∙ ap (map (number_at c.args.signals.now)) c.cut-cut.ensures in
    let vars : t.vars ≡ length c.inputs_of.result.items = over.vars ∙ sym (ap (λ (xs : List ℕ). length xs) inputs ∙ length-map cut (number_at c.args.signals.now)) in
    record {
      inputs = inputs;
      ones = ones_over rows cut c.args.node t over;
      rise = (ones_give t).rise;
      small = subst (λ n. list_all (λ m. nat_lt m (2 ^ n)) (ones_of t) ≡ true) vars (ones_give t).small;
    }
