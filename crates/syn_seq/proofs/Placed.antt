-- Where node 0 and the sources move to, one by one, and the sources of the frame with the kept latches alone.
use Rattle.std.proofs.Common.{◌≡◌, ℕ, zero, suc, ◌+◌, ◌-◌, ◌<◌, ◌≤◌, false, List, [], ◌∷◌, ◌++◌, length, get_or, refl, sym, ap, ◌∙◌, subst, inl, inr, arith}
use Rattle.std.proofs.lemmas.Bool.{both_ways, cases_lt}
use Rattle.std.proofs.lemmas.List.{get_or_append_left, get_or_push, length-append, length_push}
use Rattle.syn_netlist.specs.Lists.{Latch}
use Rattle.syn_seq.specs.Code.{SmallTargets, is_kept, next_after, place_after, place_list, places_from, up_to}
use Rattle.syn_seq.specs.Rounds.{Dropped, Fate, Kept, Merged, fate_at, kept_by, no_latch}

-- how many latches are kept before one
abbrev pub kept_before : List Fate → ℕ → ℕ
kept_before [] j = 0
kept_before (f ∷ fs) zero = 0
kept_before (f ∷ fs) (suc j) = next_after 0 f + kept_before fs j

pub length-up_to : (n : ℕ) → length (up_to n) ≡ n
length-up_to zero = refl
length-up_to (suc n) = length_push (up_to n) n ∙ omega (arith, length-up_to n)

pub at_up_to : (n k : ℕ) → k < n → get_or (up_to n) k 0 ≡ k
at_up_to zero k lt = absurd (omega (arith, lt))
at_up_to (suc n) k lt = elim (cases_lt k n) [
  | inl less ↦ get_or_append_left (up_to n) (n ∷ []) 0 k (omega (arith, less, length-up_to n)) ∙ at_up_to n k less
  | inr past ↦
      let e : n ≡ k = omega (arith, lt, past) in
      get_or_push (up_to n) n 0 k (length-up_to n ∙ e) ∙ e
]

-- earlier places stay
stays : (first next : ℕ) (places : List ℕ) (fates : List Fate) (k : ℕ) → k < length places → get_or (places_from first next places fates) k 0 ≡ get_or places k 0
stays first next places [] k lt = refl
stays first next places (f ∷ fs) k lt =
    let one : List ℕ = place_after first places next f ∷ [] in
    stays first (next_after next f) (places ++ one) fs k (omega (arith, lt, length-append places one)) ∙ get_or_append_left places one 0 k lt

pub all_placed : (first next : ℕ) (places : List ℕ) (fates : List Fate) → length (places_from first next places fates) ≡ length places + length fates
all_placed first next places [] = omega arith
all_placed first next places (f ∷ fs) =
    let p : ℕ = place_after first places next f in
    all_placed first (next_after next f) (places ++ p ∷ []) fs ∙ omega (arith, length_push places p)

same_place : (first : ℕ) (places all : List ℕ) (next : ℕ) (f : Fate) → ((i : ℕ) → f ≡ Merged i → get_or places (first + i) 0 ≡ get_or all (first + i) 0) → place_after first places next f ≡ place_after first all next f
same_place first places all next Kept h = refl
same_place first places all next (Merged i) h = h i refl
same_place first places all next Dropped h = refl

next_more : (next : ℕ) (f : Fate) → next_after next f ≡ next + next_after 0 f
next_more next Kept = omega arith
next_more next (Merged i) = omega arith
next_more next Dropped = omega arith

place_from : (first next : ℕ) (places : List ℕ) (fates : List Fate) (j : ℕ) → j < length fates → ((i : ℕ) → fate_at fates j ≡ Merged i → first + i < length places + j)
    → get_or (places_from first next places fates) (length places + j) 0 ≡ place_after first (places_from first next places fates) (next + kept_before fates j) (fate_at fates j)
place_from first next places [] j lt h = absurd (omega (arith, lt))
place_from first next places (f ∷ fs) zero lt h =
    let p : ℕ = place_after first places next f in
    let all : List ℕ = places_from first (next_after next f) (places ++ p ∷ []) fs in
    let here : length places < length (places ++ p ∷ []) = omega (arith, length_push places p) in
    let none : length places + 0 ≡ length places = omega arith in
    let same : next ≡ next + 0 = omega arith in
    ap (λ (k : ℕ). get_or all k 0) none ∙ stays first (next_after next f) (places ++ p ∷ []) fs (length places) here ∙ get_or_push places p 0 (length places) refl
    ∙ same_place first places all next f (λ i e. sym (stays first next places (f ∷ fs) (first + i) (omega (arith, h i e))))
    ∙ ap (λ (k : ℕ). place_after first all k f) same
place_from first next places (f ∷ fs) (suc j) lt h =
    let p : ℕ = place_after first places next f in
    let more : List ℕ = places ++ p ∷ [] in
    let all : List ℕ = places_from first (next_after next f) more fs in
    let long : length more ≡ length places + 1 = length_push places p in
    let at : length places + suc j ≡ length more + j = omega (arith, long) in
    let kept : next_after next f + kept_before fs j ≡ next + (next_after 0 f + kept_before fs j) = omega (arith, next_more next f) in
    ap (λ (k : ℕ). get_or all k 0) at
    ∙ place_from first (next_after next f) more fs j (omega (arith, lt)) (λ i e. omega (arith, h i e, at))
    ∙ ap (λ (k : ℕ). place_after first all k (fate_at fs j)) kept

pub count_places : (first : ℕ) (fates : List Fate) → length (place_list first fates) ≡ first + length fates
count_places first fates = all_placed first first (up_to first) fates ∙ omega (arith, length-up_to first)

-- inputs and clocks stay
pub place_free : (first : ℕ) (fates : List Fate) (k : ℕ) → k < first → get_or (place_list first fates) k 0 ≡ k
place_free first fates k lt = stays first first (up_to first) fates k (omega (arith, lt, length-up_to first)) ∙ at_up_to first k lt

-- a latch moves by its fate
pub place_latch : (first : ℕ) (fates : List Fate) → SmallTargets fates → (j : ℕ) → j < length fates → get_or (place_list first fates) (first + j) 0 ≡ place_after first (place_list first fates) (first + kept_before fates j) (fate_at fates j)
place_latch first fates small j lt =
    let long = length-up_to first in
    let at : first + j ≡ length (up_to first) + j = omega (arith, long) in
    ap (λ (k : ℕ). get_or (place_list first fates) k 0) at ∙ place_from first first (up_to first) fates j lt (λ i e. omega (arith, small j i e, long))

-- kept latches stand at their places among those that are kept
pub kept_place : (fates : List Fate) (ls : List Latch) (j : ℕ) → j < length ls → fate_at fates j ≡ Kept → (get_or (kept_by fates ls) (kept_before fates j) no_latch ≡ get_or ls j no_latch) × (kept_before fates j < length (kept_by fates ls))
kept_place [] ls j lt e = absurd (both_ways false refl (ap is_kept e))
kept_place (f ∷ fs) [] j lt e = absurd (omega (arith, lt))
kept_place (Kept ∷ fs) (l ∷ ls) zero lt e = (refl, omega arith)
kept_place (Merged i ∷ fs) (l ∷ ls) zero lt e = absurd (both_ways false refl (ap is_kept e))
kept_place (Dropped ∷ fs) (l ∷ ls) zero lt e = absurd (both_ways false refl (ap is_kept e))
kept_place (Kept ∷ fs) (l ∷ ls) (suc j) lt e =
    let rest = kept_place fs ls j (omega (arith, lt)) e in
    let one : 0 + 1 + kept_before fs j ≡ suc (kept_before fs j) = omega arith in
    (ap (λ (k : ℕ). get_or (l ∷ kept_by fs ls) k no_latch) one ∙ rest.0, omega (arith, rest.1))
kept_place (Merged i ∷ fs) (l ∷ ls) (suc j) lt e =
    let rest = kept_place fs ls j (omega (arith, lt)) e in
    let one : 0 + kept_before fs j ≡ kept_before fs j = omega arith in
    (ap (λ (k : ℕ). get_or (kept_by fs ls) k no_latch) one ∙ rest.0, omega (arith, rest.1))
kept_place (Dropped ∷ fs) (l ∷ ls) (suc j) lt e =
    let rest = kept_place fs ls j (omega (arith, lt)) e in
    let one : 0 + kept_before fs j ≡ kept_before fs j = omega arith in
    (ap (λ (k : ℕ). get_or (kept_by fs ls) k no_latch) one ∙ rest.0, omega (arith, rest.1))

-- and each place among them is one of a kept latch
pub record IsKeptAt (fates : List Fate) (ls : List Latch) (r : ℕ) : Type 0 where
  pub number : ℕ
  pub inside : number < length ls
  pub fate : fate_at fates number ≡ Kept
  pub place : kept_before fates number ≡ r

shifted : (f : Fate) (fs : List Fate) (l : Latch) (ls : List Latch) (r s : ℕ) → next_after 0 f + r ≡ s → IsKeptAt fs ls r → IsKeptAt (f ∷ fs) (l ∷ ls) s
shifted f fs l ls r s e k = record { number = suc k.number; inside = omega (arith, k.inside); fate = k.fate; place = ap (λ (x : ℕ). next_after 0 f + x) k.place ∙ e }

pub kept_at : (fates : List Fate) (ls : List Latch) (r : ℕ) → r < length (kept_by fates ls) → IsKeptAt fates ls r
kept_at [] ls r lt = absurd (omega (arith, lt))
kept_at (Kept ∷ fs) [] r lt = absurd (omega (arith, lt))
kept_at (Merged i ∷ fs) [] r lt = absurd (omega (arith, lt))
kept_at (Dropped ∷ fs) [] r lt = absurd (omega (arith, lt))
kept_at (Kept ∷ fs) (l ∷ ls) zero lt = record { number = 0; inside = omega arith; fate = refl; place = refl }
kept_at (Kept ∷ fs) (l ∷ ls) (suc r) lt = shifted Kept fs l ls r (suc r) (omega arith) (kept_at fs ls r (omega (arith, lt)))
kept_at (Merged i ∷ fs) (l ∷ ls) r lt = shifted (Merged i) fs l ls r r (omega arith) (kept_at fs ls r lt)
kept_at (Dropped ∷ fs) (l ∷ ls) r lt = shifted Dropped fs l ls r r (omega arith) (kept_at fs ls r lt)

-- places are no later than the last that is left
pub place_low : (first : ℕ) (fates : List Fate) (ls : List Latch) → 0 < first → length fates ≡ length ls → SmallTargets fates → ((j i : ℕ) → fate_at fates j ≡ Merged i → fate_at fates i ≡ Kept) → (k : ℕ) → k < length (place_list first fates)
    → get_or (place_list first fates) k 0 ≤ first - 1 + length (kept_by fates ls)
place_low first fates ls some count small kept k lt = elim (cases_lt k first) [
  | inl free ↦ omega (arith, place_free first fates k free, free)
  | inr past ↦
      let j : ℕ = k - first in
      let same : first + j ≡ k = omega (arith, past) in
      let inside : j < length fates = omega (arith, lt, count_places first fates, past) in
      subst (λ (m : ℕ). get_or (place_list first fates) m 0 ≤ first - 1 + length (kept_by fates ls)) same (latch_low j inside)
]
  where
    kept_low : (j : ℕ) → j < length fates → fate_at fates j ≡ Kept → get_or (place_list first fates) (first + j) 0 ≤ first - 1 + length (kept_by fates ls)
    kept_low j jn e =
        let at : get_or (place_list first fates) (first + j) 0 ≡ first + kept_before fates j = place_latch first fates small j jn ∙ ap (place_after first (place_list first fates) (first + kept_before fates j)) e in
        omega (arith, at, (kept_place fates ls j (omega (arith, jn, count)) e).1, some)

    by_fate : (j : ℕ) → j < length fates → (f : Fate) → fate_at fates j ≡ f → get_or (place_list first fates) (first + j) 0 ≤ first - 1 + length (kept_by fates ls)
    by_fate j jn Kept e = kept_low j jn e
    by_fate j jn (Merged i) e =
        let at : get_or (place_list first fates) (first + j) 0 ≡ get_or (place_list first fates) (first + i) 0 = place_latch first fates small j jn ∙ ap (place_after first (place_list first fates) (first + kept_before fates j)) e in
        let less : i < length fates = omega (arith, small j i e, jn) in
        omega (arith, at, kept_low i less (kept j i e))
    by_fate j jn Dropped e =
        let at : get_or (place_list first fates) (first + j) 0 ≡ 0 = place_latch first fates small j jn ∙ ap (place_after first (place_list first fates) (first + kept_before fates j)) e in
        omega (arith, at)

    latch_low : (j : ℕ) → j < length fates → get_or (place_list first fates) (first + j) 0 ≤ first - 1 + length (kept_by fates ls)
    latch_low j jn = by_fate j jn (fate_at fates j) refl
