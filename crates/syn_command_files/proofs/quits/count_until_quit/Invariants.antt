use Rattle.std.proofs.Common.{◌≡◌, ◌+◌, drop}
use Rattle.syn_command_files.specs.Sources.{count_until_quit}
use Rattle.syn_command_files.proofs.quits.count_until_quit.Given as goal

abbrev pub invariant-loop-i : goal.invariant-loop-i
invariant-loop-i l = l.i + count_until_quit (drop l.i l.commands) ≡ count_until_quit l.commands
