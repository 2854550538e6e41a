use Rattle.std.proofs.Common.{◌≡◌, None, ◌∙◌}
use Rattle.syn_models.specs.Files.{all_in}
use Rattle.syn_models.specs.Views.{model_in}
use Rattle.syn_models.proofs.Siting.{marked_all}
use Rattle.syn_models.proofs.first_fault.mark_defined.Goals as goal

pub returns : goal.returns
returns c =
    let none : c.in_ok-_none._none ≡ None = c.in_ok-_none.ensures.found ∙ c.requires.none in
    let marked = rw none at c.in_ok-_none.ensures.marked in
    marked_all c.args.m.now.names (all_in c.args.file.now) (model_in c.args.m.now) c.statements_fault.new.marks marked
