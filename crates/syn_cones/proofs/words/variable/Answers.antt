-- Each word is tried at each minterm, by computing.
use Rattle.std.proofs.Common.{◌≡◌, ℕ, ◌<◌, true, get_or, eqb, refl}
use Rattle.std.proofs.lemmas.Bool.{eqb-true}
use Rattle.std.specs.Int.{bit_at}
use Rattle.syn_truth.specs.Truth.{minterm_of}
use Rattle.syn_truth.proofs.Shifts.{every, every_at}
use Rattle.syn_cones.specs.declared.words.TheConstants.{VARIABLES}
use Rattle.syn_cones.proofs.Wording.{minterm_in_word, variable_value}
use Rattle.syn_cones.proofs.words.variable.Goals as goal

each_bit : (i : ℕ) → i < 6 → every 64 (λ m. eqb (bit_at (get_or VARIABLES i 0) m) (bit_at m i)) ≡ true
each_bit = every_at 6 (λ i. every 64 (λ m. eqb (bit_at (get_or VARIABLES i 0) m) (bit_at m i))) refl

pub returns : goal.returns
returns c = λ xs inside few.
    variable_value (get_or VARIABLES c.args.i 0) c.args.i xs
    (eqb-true _ _ (every_at 64 (λ m. eqb (bit_at (get_or VARIABLES c.args.i 0) m) (bit_at m c.args.i)) (each_bit c.args.i c.requires) (minterm_of xs) (minterm_in_word xs few)))
