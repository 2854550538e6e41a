-- How many bytes stand before the first that passes a test.
use Rattle.std.proofs.Common.{◌≡◌, ℕ, suc, ◌+◌, ◌≤◌, nat_lt, not, Bool, true, false, cond, List, length, refl, sym, ap, ◌∙◌, arith, Option, Some, None}
use Rattle.std.proofs.lemmas.Bool.Decides.{nat_tests}
use Rattle.std.specs.Option.{unwrap_or}
use Rattle.std.specs.List.{position_or_len}
use Rattle.std.proofs.lemmas.List.Sums.{prefix_len-le-length}
use Rattle.std.proofs.lemmas.List.Recursion.{is_position_or_len}
use Rattle.syn_lex.specs.Pieces.{before}

before_is : (test : ℕ → Bool) (bs : List ℕ) → before test bs ≡ position_or_len test bs
before_is test = is_position_or_len (before test) test refl (λ b bs. step (test b) (before test bs))
  where
    step : (t : Bool) (n : ℕ) → cond t 0 (suc n) ≡ cond t 0 (1 + n)
    step true n = refl
    step false n = omega arith

-- what std's `position` finds, or the length
pub first_or_len : (test : ℕ → Bool) (bs : List ℕ) (place : Option ℕ)
    → place ≡ cond (nat_lt (position_or_len test bs) (length bs)) (Some (position_or_len test bs)) None
    → unwrap_or place (length bs) ≡ before test bs
first_or_len test bs place e = ap (λ (o : Option ℕ). unwrap_or o (length bs)) e ∙ (go (nat_lt (position_or_len test bs) (length bs)) refl ∙ sym (before_is test bs))
  where
    within : position_or_len test bs ≤ length bs
    within = prefix_len-le-length (λ b. not (test b)) bs

    go : (t : Bool) → nat_lt (position_or_len test bs) (length bs) ≡ t → unwrap_or (cond t (Some (position_or_len test bs)) None) (length bs) ≡ position_or_len test bs
    go true h = refl
    go false h = grind (arith, nat_tests, within, h)
