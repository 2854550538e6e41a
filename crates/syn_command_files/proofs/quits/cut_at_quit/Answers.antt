use Rattle.std.proofs.Common.{rules, ◌≡◌, ℕ, ap, ◌∙◌, take}
use Rattle.syn_command_files.specs.Sources.{count_until_quit}
use Rattle.syn_command_files.proofs.Quitting.{taken}
use Rattle.syn_command_files.proofs.quits.cut_at_quit.Goals as goal

pub returns : goal.returns
returns c =
    let count : c.count_until_quit-count.result ≡ count_until_quit c.args.commands.now.items = search rules in
    c.truncate.ensures.items ∙ (ap (λ (n : ℕ). take n c.args.commands.now.items) count ∙ taken c.args.commands.now.items)
