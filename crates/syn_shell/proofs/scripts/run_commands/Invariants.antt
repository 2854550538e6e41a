use Rattle.std.proofs.Common.{Option, drop}
use Rattle.syn_shell.specs.Outside.{State, state}
use Rattle.syn_shell.specs.Scripts.{Refused, RunsCommands}
use Rattle.syn_shell.proofs.scripts.run_commands.Given as goal

abbrev pub invariant-loop-command : goal.invariant-loop-command
invariant-loop-command g l = (outcome : Option Refused) (after : State)
    → RunsCommands (drop l.command-index l.commands) (state l.session (g.F.Files.disk l.files) (g.O.Sink.screen l.out)) outcome after
    → RunsCommands l.commands (state l.fn.session (g.F.Files.disk l.fn.files) (g.O.Sink.screen l.fn.out)) outcome after
