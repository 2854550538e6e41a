use Rattle.std.proofs.Common.{refl}
use Rattle.syn_shell.specs.Stopping.{source_in}
use Rattle.syn_shell.proofs.Wording.{left_from_none}
use Rattle.syn_shell.proofs.whole_run.run_one.Goals as goal

pub returns : goal.returns
returns g c =
    left_from_none c.run_script.result c.run_script.result (source_in c.args.source) c.new-session.result c.run_script.new.session (g.F.Files.disk c.args.files.now) (g.F.Files.disk c.run_script.new.files)
    (g.O.Sink.screen c.args.out.now) (g.O.Sink.screen c.run_script.new.out) c.status.result c.new-session.ensures refl c.status.ensures c.run_script.ensures
