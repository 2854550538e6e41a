use Rattle.std.proofs.Common.{sym, ap, ◌∙◌}
use Rattle.syn_decide.specs.declared.decisions.NodeRow.{NodeRow}
use Rattle.syn_decide.specs.Hints.{placed_by_hits}
use Rattle.syn_decide.specs.Tasks.{task_of}
use Rattle.std.proofs.Common.{List}
use Rattle.syn_commit.proofs.suggestions.try_place.Goals as goal

pub place_again-requires : goal.place_again-requires
place_again-requires c = λ none.
    c.requires.rows ∙ ap (λ (hits : List NodeRow). (placed_by_hits (task_of c.args.trial.now.attempt) hits).extra) (sym (c.try_hint-hit.ensures.same none))
