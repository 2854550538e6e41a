use Rattle.std.proofs.Common.{◌&&◌, sym, ap, ◌∙◌}
use Rattle.std.specs.Bool.{beq}
use Rattle.syn_truth.specs.Truth.{holds_at_each}
use Rattle.syn_resub.proofs.Valued.{same_tables}
use Rattle.syn_resub.proofs.form_search.stands.Goals as goal

pub returns-then-may : goal.returns-then-may
returns-then-may c n f g has_table has_function =
    c.eq.ensures ∙ same_tables n c.args.table c.args.function f g has_table has_function ∙ ap (λ b. b && holds_at_each n (λ xs. beq (f xs) (g xs))) (sym c.if-may.true)
