use Rattle.std.proofs.Common.{◌≡◌, sym, subst, Option, IfErr}
use Rattle.syn_words.specs.declared.formats.NetworkFile.{NetworkFile}
use Rattle.syn_shell.specs.Comparing.{CompareRefused}
use Rattle.syn_shell.proofs.session.Session.compare.Goals as goal

pub returns-in-Some-clause-refused : goal.returns-in-Some-clause-refused
returns-in-Some-clause-refused g c =
    subst (λ (first : Option NetworkFile). IfErr c.compare_files.result (CompareRefused first c.args.second.now c.args.self.now.network (g.F.Files.disk c.args.files.now) (g.F.Files.disk c.compare_files.new.files) (g.O.Sink.screen c.args.out.now) (g.O.Sink.screen c.compare_files.new.out)))
    (sym c.in-Some.is) (c.compare_files.ensures.refused c.args.self.now.network)
