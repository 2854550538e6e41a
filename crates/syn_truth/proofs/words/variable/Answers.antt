-- Each word is tried at each minterm, by computing.
use Rattle.std.proofs.Common.{◌≡◌, ℕ, ◌<◌, ◌^◌, true, get_or, eqb, ltb, refl}
use Rattle.std.proofs.lemmas.Bool.{eqb-true, ltb-true}
use Rattle.std.specs.Int.{bit_at}
use Rattle.syn_truth.specs.declared.words.TheConstants.{VARIABLES}
use Rattle.syn_truth.proofs.Shifts.{every, every_at}
use Rattle.syn_truth.proofs.words.variable.Goals as goal

each_within : (i : ℕ) → i < 7 → ltb (get_or VARIABLES i 0) (2 ^ 128) ≡ true
each_within = every_at 7 (λ i. ltb (get_or VARIABLES i 0) (2 ^ 128)) refl

each_bit : (i : ℕ) → i < 7 → every 128 (λ m. eqb (bit_at (get_or VARIABLES i 0) m) (bit_at m i)) ≡ true
each_bit = every_at 7 (λ i. every 128 (λ m. eqb (bit_at (get_or VARIABLES i 0) m) (bit_at m i))) refl

pub returns : goal.returns
returns c = record {
  within = ltb-true _ _ (each_within c.args.i c.requires);
  bit = λ m h. eqb-true _ _ (every_at 128 (λ m. eqb (bit_at (get_or VARIABLES c.args.i 0) m) (bit_at m c.args.i)) (each_bit c.args.i c.requires) m h);
}
