use Rattle.std.proofs.Common.{rules, arith, ◌≡◌, ◌∷◌, ◌∙◌, Some}
use Rattle.std.specs.Vec.Iter.{into_iter_items}
use Rattle.std.proofs.lemmas.Result.{err_from_is_err_and}
use Rattle.syn_command_files.specs.Sources.{Opens, refusal_of}
use Rattle.syn_command_files.proofs.Refusing.{left_file, passed_on, refused_at, refused_in}
use Rattle.syn_command_files.proofs.sources.+push_commands.Goals as goal

pub returns-in-Err-clause-refused : goal.returns-in-Err-clause-refused
returns-in-Err-clause-refused g t c =
    let is : into_iter_items c.loop-command.command-iterator ≡ c.in-Some.command ∷ into_iter_items c.next.new.self = search rules in
    refused_at c.args.depth (g.F.Files.disk c.args.files.now).told (g.F.Files.disk c.loop-command.files).told
    c.args.commands.items c.args.flat.now.items (into_iter_items c.loop-command.command-iterator) c.loop-command.flat.items (into_iter_items c.next.new.self)
    c.in-Some.command (refusal_of c.in-Err.unread) c.loop-command.invariant.rest is c.loop-command.invariant.told c.in-Err.ensures.refused

pub returns-in_err-push_commands-in-Ok-Some-clause-refused : goal.returns-in_err-push_commands-in-Ok-Some-clause-refused
returns-in_err-push_commands-in-Ok-Some-clause-refused g t c =
    let is : into_iter_items c.loop-command.command-iterator ≡ c.in-Some.command ∷ into_iter_items c.next.new.self = search rules in
    let got : Opens c.args.depth (g.F.Files.disk c.loop-command.files).told c.in-Some.command (Some c.in-Ok-Some.said) = search rules in
    let p = err_from_is_err_and c.from_residual-in_err-push_commands-in-Ok-Some.result c.from_residual-in_err-push_commands-in-Ok-Some.ensures.1 in
    passed_on c.args.depth (g.F.Files.disk c.args.files.now).told c.args.commands.items c.args.flat.now.items
    c.from_residual-in_err-push_commands-in-Ok-Some.result p.0 c.in_err-push_commands-in-Ok-Some.field-0.0 p.1 p.2
    (refused_in c.args.depth (g.F.Files.disk c.args.files.now).told (g.F.Files.disk c.loop-command.files).told (g.F.Files.disk c.opened.new.files).told
    c.args.commands.items c.args.flat.now.items (into_iter_items c.loop-command.command-iterator) c.loop-command.flat.items (into_iter_items c.next.new.self)
    c.in-Ok-Some.said.items c.in-Some.command got.0 (refusal_of c.in_err-push_commands-in-Ok-Some.field-0.0)
    c.loop-command.invariant.rest is c.loop-command.invariant.told c.in-Ok-Some.ensures.unchanged.told got.1 c.in_err-push_commands-in-Ok-Some.ensures.refused)

pub loop-command-preserved-in_ok-push_commands-in-Ok-Some-8 : goal.loop-command-preserved-in_ok-push_commands-in-Ok-Some-8
loop-command-preserved-in_ok-push_commands-in-Ok-Some-8 g t c =
    let is : into_iter_items c.loop-command.command-iterator ≡ c.in-Some.command ∷ into_iter_items c.next.new.self = search rules in
    let got : Opens c.args.depth (g.F.Files.disk c.loop-command.files).told c.in-Some.command (Some c.in-Ok-Some.said) = search rules in
    record {
      rest =
          left_file c.args.depth (g.F.Files.disk c.args.files.now).told (g.F.Files.disk c.loop-command.files).told (g.F.Files.disk c.opened.new.files).told
          c.args.commands.items c.args.flat.now.items (into_iter_items c.loop-command.command-iterator) c.loop-command.flat.items (into_iter_items c.next.new.self)
          c.push_commands.new.flat.items c.in-Ok-Some.said.items c.in-Some.command got.0
          c.loop-command.invariant.rest is c.loop-command.invariant.told c.in-Ok-Some.ensures.unchanged.told got.1 c.in_ok-push_commands-in-Ok-Some.ensures.put;
      len = search rules;
      told = c.in_ok-push_commands-in-Ok-Some.ensures.unchanged.told ∙ (c.in-Ok-Some.ensures.unchanged.told ∙ c.loop-command.invariant.told);
      later =
          omega (arith, c.loop-command.invariant.later, c.in-Ok-Some.ensures.unchanged.later, c.in_ok-push_commands-in-Ok-Some.ensures.unchanged.later);
    }
