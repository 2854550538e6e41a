use Rattle.std.proofs.Common.{ap, sym, subst, []}
use Rattle.syn_table.specs.declared.Known.{Known}
use Rattle.test_threads.specs.Rounds.{HoldsOne, loaded}
use Rattle.test_threads.proofs.Holding.{taken_holds}
use Rattle.test_threads.proofs.rounds.take_spare.Goals as goal

pub returns-clause-taken : goal.returns-clause-taken
returns-clause-taken c = λ done.
    subst (HoldsOne c.args.node (loaded c.args.node) [] []) (sym (ap (λ (k : Known). k.core) (c.take.ensures.taken done))) (taken_holds _ c.args.node c.requires.none)
