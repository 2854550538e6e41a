use Rattle.std.proofs.Common.{map, string_bytes}
use Rattle.syn_shell.proofs.Completing.{ran_complete}
use Rattle.syn_shell.proofs.Concluding.{ran_accepted, ran_seven}
use Rattle.syn_shell.proofs.whole_run.run.Goals as goal

pub returns-clause-accepted : goal.returns-clause-accepted
returns-clause-accepted g c = λ is.
    ran_accepted (map string_bytes c.args.words.now) (g.F.Files.disk c.args.files.now) (g.F.Files.disk c.run_words.new.files)
    (g.O.Sink.screen c.args.out.now) (g.O.Sink.screen c.run_words.new.out)
    (g.L.Lines.input c.args.lines.now) (g.L.Lines.input c.run_words.new.lines) c.run_words.result c.run_words.ensures.ran is

pub returns-clause-failed : goal.returns-clause-failed
returns-clause-failed g c = λ is.
    ran_seven (map string_bytes c.args.words.now) (g.F.Files.disk c.args.files.now) (g.F.Files.disk c.run_words.new.files)
    (g.O.Sink.screen c.args.out.now) (g.O.Sink.screen c.run_words.new.out)
    (g.L.Lines.input c.args.lines.now) (g.L.Lines.input c.run_words.new.lines) c.run_words.result c.run_words.ensures.ran is

pub returns-clause-complete : goal.returns-clause-complete
returns-clause-complete g c =
    ran_complete c.not_both.ensures c.not_both-2.ensures (map string_bytes c.args.words.now) (g.F.Files.disk c.args.files.now) (g.F.Files.disk c.run_words.new.files) (g.O.Sink.screen c.args.out.now) (g.O.Sink.screen c.run_words.new.out)
    (g.L.Lines.input c.args.lines.now) (g.L.Lines.input c.run_words.new.lines) c.run_words.result
