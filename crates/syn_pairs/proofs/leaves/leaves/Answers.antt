use Rattle.std.proofs.Common.{sym, ap, subst, subst₂, ◌++◌, ◌∙◌, List}
use Rattle.syn_rows.specs.declared.Lit.{Lit}
use Rattle.syn_pairs.specs.Conjunctions.{AreLeaves, IsConjunction}
use Rattle.syn_pairs.proofs.Conjoining.{begun, gathered}
use Rattle.syn_pairs.proofs.leaves.leaves.Goals as goal

pub loop-init : goal.loop-init
loop-init c = λ order row.
    let rows = c.args.rows.now in
    subst₂ (AreLeaves rows c.args.node) (sym c.in_ok-waiting.ensures.items) (sym c.new-found.ensures.items) (begun rows order c.args.node c.args.a c.args.b row)

pub loop-preserved : goal.loop-preserved
loop-preserved c = λ order row. c.in_ok-step.ensures c.args.node order (c.loop.invariant order row)

pub returns : goal.returns
returns c = λ order row.
    let rows = c.args.rows.now in
    let waiting = c.loop.waiting.items in
    subst (IsConjunction rows c.args.node) (sym (c.in_ok-extend_from_slice.ensures.items ∙ ap (λ (xs : List Lit). waiting ++ xs) c.as_slice.ensures.value))
    (gathered rows c.args.node waiting c.loop.found.items (c.loop.invariant order row))
