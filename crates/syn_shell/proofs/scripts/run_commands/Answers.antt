use Rattle.std.proofs.Common.{◌+◌, drop, sym, subst, Option, None, Err}
use Rattle.std.proofs.lemmas.List.{drop_all}
use Rattle.syn_shell.specs.Outside.{State, state}
use Rattle.syn_shell.specs.Scripts.{Refused, RunsCommands}
use Rattle.syn_shell.specs.Stopping.{outcome_of}
use Rattle.syn_shell.proofs.Following.{left_at, goes_on, stops, ends}
use Rattle.syn_shell.proofs.scripts.run_commands.Goals as goal

pub loop-command-preserved : goal.loop-command-preserved
loop-command-preserved g c = λ outcome after runs.
    c.loop-command.invariant outcome after
    (goes_on (drop c.loop-command.command-index c.args.commands.now) (drop (c.loop-command.command-index + 1) c.args.commands.now) c.command-item.result
    (state c.loop-command.session (g.F.Files.disk c.loop-command.files) (g.O.Sink.screen c.loop-command.out))
    (state c.step.new.self (g.F.Files.disk c.step.new.files) (g.O.Sink.screen c.step.new.out))
    after outcome
    (left_at c.args.commands.now c.loop-command.command-index c.command-item.result c.loop-command-test.true c.command-item.is) c.in_default.ensures runs)

pub returns-in-Err : goal.returns-in-Err
returns-in-Err g c =
    let before : State = state c.loop-command.session (g.F.Files.disk c.loop-command.files) (g.O.Sink.screen c.loop-command.out) in
    let after : State = state c.step.new.self (g.F.Files.disk c.step.new.files) (g.O.Sink.screen c.step.new.out) in
    c.loop-command.invariant (outcome_of (Err c.stopped_at.result)) after
    (subst (λ (o : Option Refused). RunsCommands (drop c.loop-command.command-index c.args.commands.now) before o after) (sym c.stopped_at.ensures)
    (stops (drop c.loop-command.command-index c.args.commands.now) (drop (c.loop-command.command-index + 1) c.args.commands.now) c.command-item.result c.in-Err.cause before after
    (left_at c.args.commands.now c.loop-command.command-index c.command-item.result c.loop-command-test.true c.command-item.is) c.in-Err.ensures))

pub returns : goal.returns
returns g c =
    let now : State = state c.loop-command.session (g.F.Files.disk c.loop-command.files) (g.O.Sink.screen c.loop-command.out) in
    c.loop-command.invariant None now (ends (drop c.loop-command.command-index c.args.commands.now) now (drop_all c.loop-command.command-index c.args.commands.now c.loop-command-test.false))
