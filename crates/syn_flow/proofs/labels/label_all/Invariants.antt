use Rattle.std.proofs.Common.{length}
use Rattle.syn_paths.specs.Rooms.{IsReady}
use Rattle.syn_flow.specs.Labelling.{IsLabelling}
use Rattle.syn_flow.proofs.labels.label_all.Given as goal

abbrev pub invariant-loop-n : goal.invariant-loop-n
invariant-loop-n l = record {
  labelled : IsLabelling l.k l.rows l.n l.labelling;
  ready : IsReady (length l.rows) l.room;
}
