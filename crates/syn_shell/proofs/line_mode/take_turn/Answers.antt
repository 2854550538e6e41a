use Rattle.std.proofs.Common.{ℕ, List, ap, sym, ◌∙◌, subst, Ok}
use Rattle.syn_shell.specs.declared.line_mode.Turn.{Turn}
use Rattle.syn_shell.specs.Scripts.{InText}
use Rattle.syn_io.specs.Outside.{Input}
use Rattle.syn_shell.specs.Outside.{State, state}
use Rattle.syn_shell.specs.Stopping.{Leaves, Turned}
use Rattle.syn_shell.proofs.Giving.{gave_line, gave_none}
use Rattle.syn_shell.proofs.Turning.{turned_none, turned_refused, turned_by}
use Rattle.syn_shell.proofs.line_mode.take_turn.Goals as goal

pub returns-in-Ok-None : goal.returns-in-Ok-None
returns-in-Ok-None g c =
    let i : Input = g.L.Lines.input c.args.lines.now in
    let j : Input = g.L.Lines.input c.next_line.new.lines in
    turned_none (state c.args.session.now (g.F.Files.disk c.args.files.now) (g.O.Sink.screen c.args.out.now)) i j
    (gave_none c.next_line.result i j (c.in-Ok-None.is ∙ ap (λ x. Ok x) c.in-Ok-None.field-0-is) c.next_line.ensures)

pub returns-in-Err : goal.returns-in-Err
returns-in-Err g c =
    let i : Input = g.L.Lines.input c.args.lines.now in
    let j : Input = g.L.Lines.input c.next_line.new.lines in
    turned_refused c.status.result c.report_refusal.result c.in-Err.cause c.args.session.now (g.F.Files.disk c.args.files.now)
    (g.O.Sink.screen c.args.out.now) (g.O.Sink.screen c.report_refusal.new.out) i j c.status.ensures c.in-Err.ensures c.report_refusal.ensures

pub returns : goal.returns
returns g c =
    let i : Input = g.L.Lines.input c.args.lines.now in
    let j : Input = g.L.Lines.input c.next_line.new.lines in
    let before : State = state c.args.session.now (g.F.Files.disk c.args.files.now) (g.O.Sink.screen c.args.out.now) in
    let after : State = state c.run_script.new.session (g.F.Files.disk c.run_script.new.files) (g.O.Sink.screen c.run_script.new.out) in
    let line : List ℕ = c.in-Ok-Some.line.items in
    subst (λ (t : Turn). Turned t before i after j) (sym c.behind.ensures)
    (turned_by c.run_script.result line before after i j
    (gave_line c.next_line.result c.in-Ok-Some.line i j (c.in-Ok-Some.is ∙ ap (λ x. Ok x) c.in-Ok-Some.field-0-is) c.next_line.ensures)
    (subst (λ (l : List ℕ). Leaves c.run_script.result (InText l) before after) c.as_slice.ensures.value c.run_script.ensures))
