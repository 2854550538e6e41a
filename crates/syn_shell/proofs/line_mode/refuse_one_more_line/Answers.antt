use Rattle.std.proofs.Common.{refl, ap, ◌∙◌, inl, inr, Ok}
use Rattle.syn_shell.specs.declared.refusal.Refusal.TheVariants.{TooManyLines}
use Rattle.syn_io.specs.Outside.{Input}
use Rattle.syn_shell.specs.Outside.{state}
use Rattle.syn_shell.specs.LineMode.{most_lines}
use Rattle.syn_shell.proofs.Giving.{gave_line, gave_none}
use Rattle.syn_shell.proofs.Turning.{none_left, none_run}
use Rattle.syn_shell.proofs.line_mode.refuse_one_more_line.Goals as goal

pub returns-in-Ok-None : goal.returns-in-Ok-None
returns-in-Ok-None g c =
    let i : Input = g.L.Lines.input c.args.lines.now in
    let j : Input = g.L.Lines.input c.next_line.new.lines in
    record {
      each = λ m files. none_left 0 most_lines (state m files (g.O.Sink.screen c.args.out.now)) i j refl
          (gave_none c.next_line.result i j (c.in-Ok-None.is ∙ ap (λ x. Ok x) c.in-Ok-None.field-0-is) c.next_line.ensures);
    }

pub returns-in-Ok-Some : goal.returns-in-Ok-Some
returns-in-Ok-Some g c =
    let i : Input = g.L.Lines.input c.args.lines.now in
    let j : Input = g.L.Lines.input c.next_line.new.lines in
    record {
      each = λ m files. none_run c.status.result most_lines c.report_refusal.result TooManyLines m files
          (g.O.Sink.screen c.args.out.now) (g.O.Sink.screen c.report_refusal.new.out) i j c.status.ensures
          (inr (refl, record { most = refl; line = c.in-Ok-Some.field-0-0.items; gave = gave_line c.next_line.result c.in-Ok-Some.field-0-0 i j (c.in-Ok-Some.is ∙ ap (λ x. Ok x) c.in-Ok-Some.field-0-is) c.next_line.ensures }))
          c.report_refusal.ensures;
    }

pub returns : goal.returns
returns g c =
    let i : Input = g.L.Lines.input c.args.lines.now in
    let j : Input = g.L.Lines.input c.next_line.new.lines in
    record {
      each = λ m files. none_run c.status-in-Err.result most_lines c.report_refusal-in-Err.result c.in-Err.cause m files
          (g.O.Sink.screen c.args.out.now) (g.O.Sink.screen c.report_refusal-in-Err.new.out) i j c.status-in-Err.ensures
          (inl c.in-Err.ensures) c.report_refusal-in-Err.ensures;
    }
