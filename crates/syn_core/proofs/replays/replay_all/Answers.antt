use Rattle.std.proofs.Common.{◌+◌, drop}
use Rattle.syn_core.proofs.Replaying.{from_index, runs_more, replay_first, replay_refuses}
use Rattle.syn_core.proofs.replays.replay_all.Goals as goal

pub returns-in-Err-clause-refused : goal.returns-in-Err-clause-refused
returns-in-Err-clause-refused c =
    replay_refuses c.loop-index.state c.args.start.now c.args.events.now c.loop-index.index c.index-events-index.result c.loop-index-test.true c.index-events-index.is c.loop-index.invariant.first
    c.in-Err.fault c.in-Err.ensures.refused

pub loop-index-preserved : goal.loop-index-preserved
loop-index-preserved c = record {
  runs = λ d run. c.loop-index.invariant.runs d
      (runs_more c.loop-index.state c.replay_one.new.state d (drop c.loop-index.index c.args.events.now) (drop (c.loop-index.index + 1) c.args.events.now) c.index-events-index.result
      (from_index c.args.events.now c.loop-index.index c.index-events-index.result c.loop-index-test.true c.index-events-index.is) c.in-Ok.ensures.ok run);
  first = λ i h. replay_first c.loop-index.state c.args.start.now c.args.events.now c.loop-index.index c.index-events-index.result c.loop-index-test.true c.index-events-index.is c.loop-index.invariant.first
      c.replay_one.new.state c.in-Ok.ensures.ok i h;
}
