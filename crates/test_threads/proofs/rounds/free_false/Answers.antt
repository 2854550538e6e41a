use Rattle.test_threads.proofs.Holding.{may_free, freed_holds}
use Rattle.test_threads.proofs.rounds.free_false.Goals as goal

pub free-requires-clause-may : goal.free-requires-clause-may
free-requires-clause-may c = may_free _ c.args.node c.requires.made

pub returns-clause-freed : goal.returns-clause-freed
returns-clause-freed c = freed_holds _ _ c.args.node c.requires.made c.free.ensures.known
