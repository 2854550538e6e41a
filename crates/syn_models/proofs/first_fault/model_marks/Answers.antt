use Rattle.std.proofs.Common.{List, [], Bool, sym, subst}
use Rattle.syn_models.specs.Files.{all_in}
use Rattle.syn_models.specs.Marked.{Marked, defined_before}
use Rattle.syn_models.specs.Views.{model_in}
use Rattle.syn_models.proofs.first_fault.model_marks.Goals as goal

pub mark_defined-requires-clause-marked : goal.mark_defined-requires-clause-marked
mark_defined-requires-clause-marked c =
    subst (λ (slots : List Bool). Marked c.args.m.now.names (defined_before (all_in c.args.file.now) (model_in c.args.m.now) []) slots) (sym c.as_mut_slice.ensures.value) (c.in_ok-marks.ensures (all_in c.args.file.now))
