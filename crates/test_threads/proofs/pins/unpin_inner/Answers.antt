use Rattle.syn_table.specs.Seating.{known_of, nodes_of}
use Rattle.test_threads.proofs.Pinned.{at_rest}
use Rattle.test_threads.proofs.pins.unpin_inner.Goals as goal

pub returns-clause-resting : goal.returns-clause-resting
returns-clause-resting c = at_rest (nodes_of c.args.shared.now) 4 (known_of c.args.seat.now) (known_of c.unpin-last.new.seat) c.unpin-last.result c.requires.pinned c.seats_reach_nodes.ensures.shown c.unpin-last.ensures.known
