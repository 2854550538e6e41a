-- Numbers of many digits, clipped at the greatest area.
use Rattle.std.proofs.Common.{◌≡◌, ℕ, ◌+◌, ◌-◌, ◌*◌, ◌<◌, ◌≤◌, min, List, [], ◌∷◌, drop, get_or, length, refl, sym, ap, ◌∙◌, inl, inr, arith}
use Rattle.std.proofs.lemmas.Bool.{cases_lt}
use Rattle.std.proofs.lemmas.List.{drop_more}
use Rattle.syn_words.specs.Numbers.{number_after}
use Rattle.syn_command_files.specs.Luts.{most_area}

grows : (n : ℕ) (digits : List ℕ) → n ≤ number_after n digits
grows n [] = omega arith
grows n (digit ∷ digits) = omega (arith, grows (n * 10 + (digit - 48)) digits)

-- what is clipped first is clipped in the end
pub clipped : (n : ℕ) (digits : List ℕ) → min most_area (number_after (min most_area n) digits) ≡ min most_area (number_after n digits)
clipped n digits = elim (cases_lt n most_area) [
  | inl lt ↦
      let same : min most_area n ≡ n = omega (arith, lt) in
      ap (λ m. min most_area (number_after m digits)) same
  | inr ge ↦
      let top : min most_area n ≡ most_area = omega (arith, ge) in
      ap (λ m. min most_area (number_after m digits)) top ∙ omega (arith, ge, grows most_area digits, grows n digits)
]

-- one digit more
pub digit_more : (n next i : ℕ) (digits : List ℕ) → i < length digits → next ≡ min most_area (n * 10 + (get_or digits i 0 - 48))
    → min most_area (number_after next (drop (i + 1) digits)) ≡ min most_area (number_after n (drop i digits))
digit_more n next i digits lt e =
    let digit : ℕ = get_or digits i 0 in
    ap (λ m. min most_area (number_after m (drop (i + 1) digits))) e
    ∙ clipped (n * 10 + (digit - 48)) (drop (i + 1) digits)
    ∙ ap (λ (ds : List ℕ). min most_area (number_after n ds)) (sym (drop_more digits i 0 lt))
