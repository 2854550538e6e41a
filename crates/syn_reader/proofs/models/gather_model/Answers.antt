use Rattle.std.proofs.Common.{◌∙◌}
use Rattle.syn_models.specs.Views.{model_in}
use Rattle.syn_reader.specs.Owned.{first}
use Rattle.syn_reader.proofs.Finishing.{gathered_model}
use Rattle.syn_reader.proofs.models.gather_model.Goals as goal

pub returns-clause-spelled : goal.returns-clause-spelled
returns-clause-spelled c =
    let above = c.args.names.now in
    let all = first c.args.many c.args.statements.now in
    let begun = c.in_ok-begun.ensures in
    let made = c.finish.ensures in
    gathered_model above all c.in_ok-gathering.gathering (model_in c.finish.result) (c.in_ok-gathering.ensures.gathered above all begun.gathered) (made.name ∙ begun.name) made.said made.names made.words made.once
