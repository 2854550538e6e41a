use Rattle.std.proofs.Common.{◌≡◌, ◌≤◌, List, length, Result}
use Rattle.std.specs.Vec.Iter.{into_iter_items, into_iter_len}
use Rattle.syn_words.specs.declared.Command.{Command}
use Rattle.syn_command_files.specs.Sources.{Flattens, Refused}
use Rattle.syn_command_files.proofs.sources.+push_commands.Given as goal

abbrev pub invariant-loop-command : goal.invariant-loop-command
invariant-loop-command g l = record {
  rest : (outcome : Result (List Command) Refused)
      → Flattens l.depth (g.F.Files.disk l.fn.files).told l.flat.items (into_iter_items l.command-iterator) outcome
      → Flattens l.depth (g.F.Files.disk l.fn.files).told l.fn.flat.items l.fn.commands.items outcome;
  len : into_iter_len l.command-iterator ≡ length (into_iter_items l.command-iterator);
  told : (g.F.Files.disk l.files).told ≡ (g.F.Files.disk l.fn.files).told;
  later : (g.F.Files.disk l.fn.files).faults ≤ (g.F.Files.disk l.files).faults;
}

abbrev pub decreases-push_commands : goal.decreases-push_commands
decreases-push_commands g l = l.depth
