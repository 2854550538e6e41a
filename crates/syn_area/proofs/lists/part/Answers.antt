use Rattle.std.proofs.Common.{ap, ◌∙◌, take}
use Rattle.syn_area.proofs.Visiting.{listed_part}
use Rattle.syn_area.proofs.lists.part.Goals as goal

pub returns : goal.returns
returns c = λ rows all. listed_part rows c.args.listed.now _ _ _ (c.split_at-2.ensures.front ∙ ap (take c.up_to-2.result) c.split_at.ensures.back) all
