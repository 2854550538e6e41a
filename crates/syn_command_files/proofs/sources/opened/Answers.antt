use Rattle.std.proofs.Common.{rules, arith, ◌≡◌, ◌<◌, Some}
use Rattle.syn_command_files.specs.Sources.{refusal_of, source_in}
use Rattle.syn_command_files.proofs.Refusing.{fails_at}
use Rattle.syn_command_files.proofs.sources.opened.Goals as goal

pub returns-in-Err-clause-refused : goal.returns-in-Err-clause-refused
returns-in-Err-clause-refused g c =
    let deep : 0 < c.args.depth = omega arith in
    let named : source_in c.args.command.now ≡ Some c.in-Some.name.now = search rules in
    fails_at c.args.depth (g.F.Files.disk c.args.files.now).told c.args.command.now c.in-Some.name.now (refusal_of c.in-Err.unread) deep named c.in-Err.ensures.refused
