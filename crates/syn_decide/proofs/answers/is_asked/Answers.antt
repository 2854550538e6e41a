use Rattle.std.proofs.Common.{List, ap, ◌∙◌}
use Rattle.syn_rows.specs.declared.Row.{Row}
use Rattle.syn_decide.specs.Hints.{is_asked}
use Rattle.syn_decide.proofs.answers.is_asked.Goals as goal

pub returns : goal.returns
returns c = c.is_asked.ensures ∙ ap (λ (extra : List Row). is_asked extra c.args.row) (c.as_slice.ensures.value ∙ c.place.ensures.extra)
