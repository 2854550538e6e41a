use Rattle.std.proofs.Common.{[]}
use Rattle.test_threads.proofs.Holding.{may_pin_zero}
use Rattle.test_threads.proofs.rounds.make_false.Goals as goal

pub pin-requires-clause-may : goal.pin-requires-clause-may
pin-requires-clause-may c = may_pin_zero _ c.args.node [] c.requires.taken
