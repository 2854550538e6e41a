use Rattle.std.proofs.Common.{◌∙◌, ap, sym, Some}
use Rattle.syn_command_files.specs.Sources.{refusal_of}
use Rattle.syn_io.specs.Outside.{Disk, Screen}
use Rattle.syn_shell.specs.LineMode.{has_quit}
use Rattle.syn_shell.specs.Outside.{State, state}
use Rattle.syn_shell.specs.Scripts.{Refused, cause_of}
use Rattle.syn_shell.specs.Stopping.{source_in}
use Rattle.syn_shell.proofs.Hearing.{script_quits, script_refused, script_runs, script_stopped, script_through, told_as}
use Rattle.syn_shell.proofs.scripts.run_script.Goals as goal

pub returns-in-Err : goal.returns-in-Err
returns-in-Err g c =
    let s : Screen = g.O.Sink.screen c.args.out.now in
    let s' : Screen = g.O.Sink.screen c.report_refusal.new.out in
    script_refused c.report_refusal.result (source_in c.args.source) (refusal_of c.in-Err.unread) c.args.session.now (g.F.Files.disk c.args.files.now) (g.F.Files.disk c.commands_in.new.files) s s'
    c.in-Err.ensures.refused c.in-Err.ensures.failed c.commands_in.ensures.unchanged
    (told_as c.report_refusal.result c.from-cause.result (cause_of c.in-Err.unread.cause) c.as_slice.result.now c.in-Err.unread.name.items s s' c.from-cause.ensures c.as_slice.ensures.value c.report_refusal.ensures)

pub returns-in-Ok-run_commands : goal.returns-in-Ok-run_commands
returns-in-Ok-run_commands g c =
    let after : State = state c.run_commands.new.session (g.F.Files.disk c.run_commands.new.files) (g.O.Sink.screen c.run_commands.new.out) in
    script_quits (source_in c.args.source) c.in-Ok.commands c.as_slice-2.result.now c.args.session.now (g.F.Files.disk c.args.files.now) (g.F.Files.disk c.commands_in.new.files) (g.O.Sink.screen c.args.out.now) after
    c.in-Ok.ensures.commands c.commands_in.ensures.unchanged c.as_slice-2.ensures.value c.in-Ok-run_commands.ensures (ap has_quit (c.as_slice-2.ensures.value ∙ sym c.as_slice-in-Ok-run_commands.ensures.value) ∙ sym c.has_quit.ensures ∙ c.if-has_quit.true)

pub returns-in-Ok-2 : goal.returns-in-Ok-2
returns-in-Ok-2 g c =
    let after : State = state c.run_commands.new.session (g.F.Files.disk c.run_commands.new.files) (g.O.Sink.screen c.run_commands.new.out) in
    script_through (source_in c.args.source) c.in-Ok.commands c.as_slice-2.result.now c.args.session.now (g.F.Files.disk c.args.files.now) (g.F.Files.disk c.commands_in.new.files) (g.O.Sink.screen c.args.out.now) after
    c.in-Ok.ensures.commands c.commands_in.ensures.unchanged c.as_slice-2.ensures.value c.in-Ok-2.ensures (ap has_quit (c.as_slice-2.ensures.value ∙ sym c.as_slice-in-Ok-run_commands.ensures.value) ∙ sym c.has_quit.ensures ∙ c.if-has_quit.false)

pub returns : goal.returns
returns g c =
    let refused : Refused = record { cause = c.in-Err-run_commands.stopped.cause; name = c.in-Err-run_commands.stopped.name.now } in
    let before : State = state c.args.session.now (g.F.Files.disk c.args.files.now) (g.O.Sink.screen c.args.out.now) in
    let after : State = state c.run_commands.new.session (g.F.Files.disk c.run_commands.new.files) (g.O.Sink.screen c.run_commands.new.out) in
    script_stopped c.report_refusal-in-Err-run_commands.result (source_in c.args.source) refused before c.run_commands.new.session (g.F.Files.disk c.run_commands.new.files)
    (g.O.Sink.screen c.run_commands.new.out) (g.O.Sink.screen c.report_refusal-in-Err-run_commands.new.out)
    (script_runs (source_in c.args.source) c.in-Ok.commands c.as_slice-2.result.now (Some refused) c.args.session.now (g.F.Files.disk c.args.files.now) (g.F.Files.disk c.commands_in.new.files) (g.O.Sink.screen c.args.out.now) after
    c.in-Ok.ensures.commands c.commands_in.ensures.unchanged c.as_slice-2.ensures.value c.in-Err-run_commands.ensures)
    c.report_refusal-in-Err-run_commands.ensures
