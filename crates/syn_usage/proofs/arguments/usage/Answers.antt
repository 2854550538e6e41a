use Rattle.std.proofs.Common.{rules, ◌≡◌, ap₂, ◌∙◌}
use Rattle.clap.specs.Words.{rule_of, with_rule}
use Rattle.syn_usage.specs.CommandLine.{file_option, script_option, silent_option, workers_option}
use Rattle.syn_usage.proofs.arguments.usage.Goals as goal

pub returns : goal.returns
returns c =
    let silent_is : rule_of c.action-silent.result ≡ silent_option = search rules in
    let script_is : rule_of c.short-script.result ≡ script_option = search rules in
    let file_is : rule_of c.short-file.result ≡ file_option = search rules in
    let workers_is : rule_of c.short-workers.result ≡ workers_option = search rules in
    c.in_ok-command.ensures.shape (search rules) ∙ ap₂ with_rule (c.in_ok-with_file.ensures.shape (search rules) ∙ ap₂ with_rule (c.in_ok-with_script.ensures.shape (search rules)
    ∙ ap₂ with_rule (c.in_ok-with_silent.ensures.shape (search rules) ∙ ap₂ with_rule c.new-2.ensures.app silent_is) script_is) file_is) workers_is
