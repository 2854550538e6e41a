use Rattle.std.proofs.Common.{ℕ, List, slice_set, ap, ◌∙◌}
use Rattle.std.proofs.lemmas.List.{map-set}
use Rattle.syn_cuts.specs.Leaves.{leaves}
use Rattle.syn_area.proofs.chosen.Chosen.set.Goals as goal

pub returns : goal.returns
returns c =
    map-set leaves c.self.inside.cuts.items c.args.node c.args.cut
    ∙ ap (λ (l : List (List ℕ)). slice_set l c.args.node c.args.cut.items) c.self.view_is
