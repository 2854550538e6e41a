-- Lists of plans found by class.
use Rattle.std.proofs.Common.{◌≡◌, ℕ, ◌+◌, ◌<◌, List, map, length, get_or, refl, sym, ap, ◌∙◌, inl, inr, arith}
use Rattle.std.proofs.lemmas.Bool.{cases_eq, cases_lt}
use Rattle.std.proofs.lemmas.List.{get_or-map, get_or_past, get_or_read, length-map}
use Rattle.syn_npn.specs.Keys.{canon_key, class_of}
use Rattle.syn_npn.proofs.Least.{canon_key-parts}
use Rattle.syn_library.specs.declared.class_plans.ClassPlans.{ClassPlans}
use Rattle.syn_library.specs.Prepared.{AreFound, class_found}

class_of-lt : (f : ℕ) → class_of f < 65536
class_of-lt f = (canon_key-parts f (canon_key f) refl).0

there : (lists : List ClassPlans) (place class : ℕ) → class < 65536 → get_or (map (λ p. p.class) lists) place 65536 ≡ class → place < length lists
there lists place class small found =
    elim (cases_lt place (length lists)) [
      | inl l ↦ l
      | inr past ↦ absurd (omega (arith, sym (get_or_past (map (λ p. p.class) lists) place 65536 (omega (arith, length-map lists (λ p. p.class)))) ∙ found))
    ]

-- what stands at the noted place of a class that is found
pub class_at : (lists : List ClassPlans) (places : List ℕ) (f other place : ℕ) (entry : ClassPlans) → class_found lists places (class_of f) ≡ class_of f → other ≡ class_of f → other < length places → place ≡ get_or places other place → entry ≡ get_or lists place entry → entry.class ≡ other
class_at lists places f other place entry found same within at is =
    let noted : place ≡ get_or places (class_of f) 0 = get_or_read places other place within at 0 ∙ ap (λ k. get_or places k 0) same in
    let here : get_or (map (λ p. p.class) lists) place 65536 ≡ class_of f = ap (λ k. get_or (map (λ p. p.class) lists) k 65536) noted ∙ found in
    ap (λ p. p.class) is
    ∙ sym (get_or-map (λ p. p.class) lists place entry 65536 (there lists place (class_of f) (class_of-lt f) here))
    ∙ here
    ∙ sym same

-- one function more
pub found_more : (n class : ℕ) (lists more : List ClassPlans) (places noted : List ℕ) → AreFound n lists places → ((other : ℕ) → other < 65536 → class_found lists places other ≡ other → class_found more noted other ≡ other) → class ≡ class_of n → class_found more noted class ≡ class → AreFound (n + 1) more noted
found_more n class lists more places noted found kept is added f l =
    elim (cases_eq f n) [
      | inl e ↦
          let same : class ≡ class_of f = is ∙ ap class_of (sym e) in
          sym (ap (class_found more noted) same) ∙ added ∙ same
      | inr e ↦ kept (class_of f) (class_of-lt f) (found f (omega arith))
    ]
