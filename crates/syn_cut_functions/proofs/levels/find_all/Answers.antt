use Rattle.std.proofs.Common.{All, sym, subst}
use Rattle.std.proofs.lemmas.List.Elements.{All-push}
use Rattle.std.specs.Global.{Vec}
use Rattle.syn_cut_functions.specs.CutTruth.{IsFoundIn}
use Rattle.syn_cut_functions.specs.declared.levels.Found.{Found}
use Rattle.syn_cut_functions.proofs.levels.find_all.Goals as goal
use Rattle.syn_cut_functions.proofs.levels.find_all.Goals.{then-node-count+in_ok-find+in_ok-push, else-node-count}

pub loop-node-preserved : goal.loop-node-preserved
loop-node-preserved c =
    let P : Found → Type 0 = IsFoundIn c.args.graph.now.rows in
    elim c.if-node-count.branch [
      | then-node-count+in_ok-find+in_ok-push w ↦ subst (λ (v : Vec Found). All P v.items) (sym w.found-is) (subst (All P) (sym w.in_ok-push.ensures.items) (All-push P c.loop-node.found.items _ c.loop-node.invariant w.in_ok-find.ensures))
      | else-node-count w ↦ subst (λ (v : Vec Found). All P v.items) (sym w.found-is) c.loop-node.invariant
    ]
