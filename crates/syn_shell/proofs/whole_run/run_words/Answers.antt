use Rattle.std.proofs.Common.{map, string_bytes}
use Rattle.syn_shell.proofs.Wording.{ran_file, ran_lines, ran_nothing, ran_text}
use Rattle.syn_shell.proofs.whole_run.run_words.Goals as goal

pub returns-in-Err : goal.returns-in-Err
returns-in-Err g c = record {
  ran =
      ran_nothing (map string_bytes c.args.words.now) c.in-Err.fault c.from.result c.report_refusal.result (g.F.Files.disk c.args.files.now)
      (g.O.Sink.screen c.args.out.now) (g.O.Sink.screen c.report_refusal.new.out)
      (g.L.Lines.input c.args.lines.now) c.status.result c.in-Err.ensures.refused c.from.ensures c.report_refusal.ensures c.status.ensures;
}

pub returns-in-Lines : goal.returns-in-Lines
returns-in-Lines g c = record {
  ran =
      ran_lines (map string_bytes c.args.words.now) (g.F.Files.disk c.args.files.now) (g.F.Files.disk c.run_lines.new.files)
      (g.O.Sink.screen c.args.out.now) (g.O.Sink.screen c.run_lines.new.out)
      (g.L.Lines.input c.args.lines.now) (g.L.Lines.input c.run_lines.new.lines) c.run_lines.result
      (rw c.in-Lines.is at c.in-Ok.ensures.run) c.run_lines.ensures;
}

pub returns-in-Script : goal.returns-in-Script
returns-in-Script g c = record {
  ran =
      ran_text (map string_bytes c.args.words.now) c.in-Script.script.now c.as_bytes.result.now (g.F.Files.disk c.args.files.now) (g.F.Files.disk c.run_one.new.files)
      (g.O.Sink.screen c.args.out.now) (g.O.Sink.screen c.run_one.new.out)
      (g.L.Lines.input c.args.lines.now) c.run_one.result (rw c.in-Script.is at c.in-Ok.ensures.run) c.as_bytes.ensures.value c.run_one.ensures;
}

pub returns-in-File : goal.returns-in-File
returns-in-File g c = record {
  ran =
      ran_file (map string_bytes c.args.words.now) c.in-File.name.now (g.F.Files.disk c.args.files.now) (g.F.Files.disk c.run_one-in-File.new.files)
      (g.O.Sink.screen c.args.out.now) (g.O.Sink.screen c.run_one-in-File.new.out)
      (g.L.Lines.input c.args.lines.now) c.run_one-in-File.result (rw c.in-File.is at c.in-Ok.ensures.run) c.run_one-in-File.ensures;
}
