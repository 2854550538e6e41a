use Rattle.std.proofs.Common.{◌+◌, List, ℕ, drop, get_or, subst}
use Rattle.std.proofs.lemmas.List.{drop_all, drop_more}
use Rattle.syn_paths.specs.Rooms.{AreTouched}
use Rattle.syn_paths.proofs.Chosen.{off_all, touched_less}
use Rattle.syn_paths.proofs.node_cut.take_all_off.Goals as goal

pub loop-node-preserved : goal.loop-node-preserved
loop-node-preserved c =
    let i = c.loop-node.node-index in
    let touched = c.args.touched.now in
    touched_less c.loop-node.next c.take_off.new.next (get_or touched i 0) (drop (i + 1) touched) (subst (λ (l : List ℕ). AreTouched c.loop-node.next l) (drop_more touched i 0 c.loop-node-test.true) c.loop-node.invariant)
    c.take_off.ensures.off c.take_off.ensures.others

pub returns-clause-off : goal.returns-clause-off
returns-clause-off c = off_all c.loop-node.next (subst (λ (l : List ℕ). AreTouched c.loop-node.next l) (drop_all c.loop-node.node-index c.args.touched.now c.loop-node-test.false) c.loop-node.invariant)
