use Rattle.std.proofs.Common.{false, true, get_or, refl, ◌∙◌}
use Rattle.std.proofs.Math.ListN.{set}
use Rattle.syn_truth.specs.Words.{value_in}
use Rattle.syn_truth.proofs.Halves.{chosen_values, swap_last}
use Rattle.syn_truth.proofs.Truth.swap_with_last.Goals as goal

pub returns-clause-values : goal.returns-clause-values
returns-clause-values c = λ xs e.
    c.of_words.ensures.values xs e
    ∙ swap_last c.args.self c.requires.vars c.args.i c.requires.within c.chosen-low.result c.chosen-high.result
    (λ ys h l. c.chosen-low.ensures ys h l ∙ chosen_values ys l (get_or ys c.args.i false) c.args.self.low c.with_value.result (value_in c.args.self.low ys) (value_in c.args.self.high (set ys c.args.i false)) refl (c.with_value.ensures ys h l))
    (λ ys h l. c.chosen-high.ensures ys h l ∙ chosen_values ys l (get_or ys c.args.i false) c.with_value-2.result c.args.self.high (value_in c.args.self.low (set ys c.args.i true)) (value_in c.args.self.high ys) (c.with_value-2.ensures ys h l) refl)
    xs e
