use Rattle.std.proofs.Common.{◌≡◌, length, map}
use Rattle.syn_paths.specs.Rooms.{IsReady}
use Rattle.syn_paths.specs.Tops.{label_in}
use Rattle.syn_flow.specs.Checks.{AreNoted}
use Rattle.syn_flow.specs.Flows.{shown_of}
use Rattle.syn_flow.proofs.certificate.noted.Given as goal

abbrev pub invariant-loop-entry : goal.invariant-loop-entry
invariant-loop-entry l = record {
  noted : AreNoted l.k l.rows (label_in l.labels) (map shown_of l.paths) l.entry-index l.marks.items;
  ready : IsReady (length l.rows) l.room;
  long : length l.marks.items ≡ length l.rows;
}
