use Rattle.std.proofs.Common.{◌≡◌, drop}
use Rattle.syn_shell.specs.LineMode.{has_quit}
use Rattle.syn_shell.proofs.scripts.has_quit.Given as goal

abbrev pub invariant-loop-command : goal.invariant-loop-command
invariant-loop-command l = has_quit (drop l.command-index l.commands) ≡ has_quit l.commands
