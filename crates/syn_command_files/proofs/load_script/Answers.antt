use Rattle.syn_command_files.proofs.Concluding.{script_ended, script_flat, script_of_itself, script_well}
use Rattle.syn_command_files.proofs.load_script.Goals as goal

pub returns-clause-flat : goal.returns-clause-flat
returns-clause-flat g c = script_flat c.args.text.now (g.F.Files.disk c.args.files.now).told c.script.result c.script.ensures.commands

pub returns-clause-ended : goal.returns-clause-ended
returns-clause-ended g c = script_ended c.args.text.now (g.F.Files.disk c.args.files.now).told c.script.result c.script.ensures.commands

pub returns-clause-accepted : goal.returns-clause-accepted
returns-clause-accepted g c = λ commands some loads.
    script_well c.args.text.now (g.F.Files.disk c.args.files.now).told commands c.script.result c.script.ensures.refused some loads

pub returns-clause-alone : goal.returns-clause-alone
returns-clause-alone g c = λ said says plain.
    script_of_itself c.args.text.now (g.F.Files.disk c.args.files.now).told said c.script.result c.script.ensures.refused says plain
