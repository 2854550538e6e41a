use Rattle.std.proofs.Common.{ℕ, List, None}
use Rattle.syn_io.specs.Outside.{Input}
use Rattle.syn_shell.specs.Outside.{State, nothing_yet, state}
use Rattle.syn_shell.specs.Scripts.{Refused}
use Rattle.syn_shell.specs.LineMode.{RunsLines}
use Rattle.syn_shell.specs.Runs.{status_of}
use Rattle.syn_shell.specs.Stopping.{RanLines, first_status}
use Rattle.syn_shell.proofs.line_mode.run_lines.Given as goal

abbrev pub invariant-loop-taken : goal.invariant-loop-taken
invariant-loop-taken g l = (lines : List (List ℕ)) (more : List Refused) (after : State) (i' : Input)
    → RunsLines lines l._taken (state l.session (g.F.Files.disk l.files) (g.O.Sink.screen l.out)) (g.L.Lines.input l.lines) more after i'
    → RanLines (first_status l.status (status_of more)) 0 (state nothing_yet (g.F.Files.disk l.fn.files) (g.O.Sink.screen l.fn.out)) (g.L.Lines.input l.fn.lines) after i'
