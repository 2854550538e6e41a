use Rattle.syn_command_files.proofs.Concluding.{file_ended, file_flat, file_well}
use Rattle.syn_command_files.proofs.load_file.Goals as goal

pub returns-clause-flat : goal.returns-clause-flat
returns-clause-flat g c = file_flat c.args.name.now (g.F.Files.disk c.args.files.now).told c.file.result c.file.ensures.commands

pub returns-clause-ended : goal.returns-clause-ended
returns-clause-ended g c = file_ended c.args.name.now (g.F.Files.disk c.args.files.now).told c.file.result c.file.ensures.commands

pub returns-clause-accepted : goal.returns-clause-accepted
returns-clause-accepted g c = λ commands some loads.
    file_well c.args.name.now (g.F.Files.disk c.args.files.now).told commands c.file.result c.file.ensures.refused some loads
