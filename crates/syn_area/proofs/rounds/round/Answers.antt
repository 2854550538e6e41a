use Rattle.std.proofs.Common.{sym, subst}
use Rattle.std.proofs.lemmas.List.Elements.{All-nil}
use Rattle.syn_area.specs.Kept.{AreListed, IsKept}
use Rattle.syn_area.specs.declared.lists.Listed.{Listed}
use Rattle.syn_area.proofs.rounds.round.Goals as goal

pub loop-node-init : goal.loop-node-init
loop-node-init c =
    let rows = c.args.graph.now.rows in
    record {
      count = c.requires.count;
      kept = subst (AreListed rows) (sym c.clear.ensures) (All-nil (λ (l : Listed). IsKept rows l.node l.cut.items));
      fit = c.requires.fit;
    }
