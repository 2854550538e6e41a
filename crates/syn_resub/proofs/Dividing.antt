-- The divisors are divisors.
use Rattle.std.proofs.Common.{◌≡◌, ℕ, zero, suc, ◌<◌, ◌≤◌, nat_eq, if◌then◌else◌, Bool, true, false, List, [], ◌∷◌, ◌++◌, append_assoc, length, take, refl, sym, ap, ◌∙◌, subst, inl, inr, arith}
use Rattle.std.proofs.lemmas.Bool.{and_from, and_parts, both_ways, cases_eq, cases_lt, cond-true, or_cases, or_left, or_right}
use Rattle.std.proofs.lemmas.List.{length-take, take-append-le, take_all}
use Rattle.syn_rows.specs.declared.Row.{Row}
use Rattle.syn_rows.specs.declared.Row.TheVariants.{Free, Source, And, Alias}
use Rattle.syn_rows.specs.Nodes.{has_node}
use Rattle.syn_rows.specs.Rows.{AllRefs, node_of, row_at}
use Rattle.syn_rows.proofs.Nodes.{has_cases, has_here, has_left, has_one, has_right, has_there}
use Rattle.syn_cones.specs.Walk.{rises}
use Rattle.syn_resub.specs.Divisors.{divides, divisors_below, joins}
use Rattle.syn_resub.specs.Laws.{DivisorsAreDivisors}
use Rattle.syn_resub.proofs.Places.{rises-take, rises_push}
use Rattle.syn_resub.proofs.Scanned.{are_below, has-take, more_below}

-- what joins nodes joins more of them
pub joins_among : (xs ys : List ℕ) (row : Row) → AllRefs (λ m. has_node xs m ≡ true → has_node ys m ≡ true) row → joins xs row ≡ true → joins ys row ≡ true
joins_among xs ys Free more h = h
joins_among xs ys Source more h = h
joins_among xs ys (Alias a) more h = h
joins_among xs ys (And a b) more h =
    let parts = and_parts (has_node xs (node_of a)) (has_node xs (node_of b)) h in
    and_from (has_node ys (node_of a)) (has_node ys (node_of b)) (more.0 parts.0) (more.1 parts.1)

every_ref : (P : ℕ → Type 0) → ((m : ℕ) → P m) → (row : Row) → AllRefs P row
every_ref P all Free = tt
every_ref P all Source = tt
every_ref P all (And a b) = (all (node_of a), all (node_of b))
every_ref P all (Alias a) = all (node_of a)

low_refs : (P : ℕ → Type 0) (n : ℕ) → ((m : ℕ) → m < n → P m) → (row : Row) → AllRefs (λ m. m < n) row → AllRefs P row
low_refs P n all Free h = tt
low_refs P n all Source h = tt
low_refs P n all (And a b) h = (all (node_of a) h.0, all (node_of b) h.1)
low_refs P n all (Alias a) h = all (node_of a) h

module _ (rows : List Row) (leaves : List ℕ) where
  abbrev below : ℕ → List ℕ
  below n = divisors_below rows leaves n

  rises_below : (n : ℕ) → rises (below n) ≡ true
  rises_below zero = refl
  rises_below (suc n) = by (divides rows leaves (below n) n) (rises_below n)
    where
      by : (b : Bool) → rises (below n) ≡ true → rises (if b then below n ++ n ∷ [] else below n) ≡ true
      by true rise = rises_push (below n) n rise (λ m h. are_below rows leaves n m h)
      by false rise = rise

  -- a divisor below a number divides what is before it, and ends the divisors below the next
  divides_before : (k n : ℕ) → has_node (below k) n ≡ true → (divides rows leaves (below n) n ≡ true) × (n < k)
  divides_before zero n h = absurd (both_ways false refl h)
  divides_before (suc k) n h = by (divides rows leaves (below k) k) refl h (divides_before k n)
    where
      by : (b : Bool) → divides rows leaves (below k) k ≡ b → has_node (if b then below k ++ k ∷ [] else below k) n ≡ true
          → (has_node (below k) n ≡ true → (divides rows leaves (below n) n ≡ true) × (n < k)) → (divides rows leaves (below n) n ≡ true) × (n < suc k)
      by true is h ih = elim (has_cases (below k) (k ∷ []) n h) [
        | inl old ↦ let both = ih old in let lt = both.1 in (both.0, omega (arith, lt))
        | inr new ↦ let same = has_one k n new in (subst (λ i. divides rows leaves (below i) i ≡ true) same is, omega (arith, same))
      ]
      by false is h ih = let both = ih h in let lt = both.1 in (both.0, omega (arith, lt))

  -- small divisors were there before
  below_before : (n k p : ℕ) → n ≤ k → p < n → has_node (below k) p ≡ true → has_node (below n) p ≡ true
  below_before n zero p le less h = absurd (both_ways false refl h)
  below_before n (suc k) p le less h = elim (cases_eq n (suc k)) [
    | inl same ↦ subst (λ i. has_node (below i) p ≡ true) (sym same) h
    | inr other ↦ by (omega (arith, le, other)) (divides rows leaves (below k) k) h (below_before n k p (omega (arith, le, other)) less)
  ]
    where
      by : n ≤ k → (b : Bool) → has_node (if b then below k ++ k ∷ [] else below k) p ≡ true → (has_node (below k) p ≡ true → has_node (below n) p ≡ true) → has_node (below n) p ≡ true
      by low true h ih = elim (has_cases (below k) (k ∷ []) p h) [ inl old ↦ ih old | inr new ↦ absurd (let same = has_one k p new in omega (arith, same, less, low)) ]
      by low false h ih = ih h

  ends_with : (n : ℕ) → divides rows leaves (below n) n ≡ true → below (suc n) ≡ below n ++ n ∷ []
  ends_with n h = cond-true (divides rows leaves (below n) n) (below n ++ n ∷ []) (below n) h

  -- what stands before a divisor among the first 64 is among them
  among_first : (node n : ℕ) → has_node (take 64 (below node)) n ≡ true → (p : ℕ) → has_node (below n) p ≡ true → has_node (take 64 (below node)) p ≡ true
  among_first node n h p there =
      let both = divides_before node n (has-take 64 (below node) n h) in
      let lt = both.1 in
      let (more, is) = more_below rows leaves (suc n) node lt in
      let all : below node ≡ below n ++ n ∷ more = is ∙ ap (λ l. l ++ more) (ends_with n both.0) ∙ append_assoc (below n) (n ∷ []) more in
      elim (cases_lt (length (below n)) 64) [
        | inl few ↦ ap (λ l. has_node (take 64 l) p) all ∙ taken (below n) (n ∷ more) 64 (omega (arith, few)) there
        | inr many ↦ absurd (
            let cut : take 64 (below node) ≡ take 64 (below n) = ap (take 64) all ∙ take-append-le 64 (below n) (n ∷ more) many in
            let less = are_below rows leaves n n (has-take 64 (below n) n (ap (λ l. has_node l n) (sym cut) ∙ h)) in
            omega (arith, less))
      ]
    where
      taken : (xs ys : List ℕ) (k : ℕ) → length xs ≤ k → has_node xs p ≡ true → has_node (take k (xs ++ ys)) p ≡ true
      taken [] ys k l h = absurd (both_ways false refl h)
      taken (x ∷ xs) ys zero l h = absurd (omega (arith, l))
      taken (x ∷ xs) ys (suc k) l h = elim (or_cases (nat_eq x p) (has_node xs p) h) [
        | inl e ↦ or_left (nat_eq x p) (has_node (take k (xs ++ ys)) p) e
        | inr t ↦ has_there x p (take k (xs ++ ys)) (taken xs ys k (omega (arith, l)) t)
      ]

pub divisors_are : DivisorsAreDivisors
divisors_are rows leaves node order = record {
  rise = rises-take 64 (below node) (rises_below rows leaves node);
  few = let le = length-take 64 (below node) in omega (arith, le);
  below = λ n h. are_below rows leaves node n (has-take 64 (below node) n h);
  divide = λ n h. divides_more n (below n) (take 64 (below node)) (among_first rows leaves node n h) (divides_before rows leaves node n (has-take 64 (below node) n h)).0;
  all = λ few n less h. all few n less h;
}
  where
    below : ℕ → List ℕ
    below n = divisors_below rows leaves n

    divides_more : (n : ℕ) (xs ys : List ℕ) → ((p : ℕ) → has_node xs p ≡ true → has_node ys p ≡ true) → divides rows leaves xs n ≡ true → divides rows leaves ys n ≡ true
    divides_more n xs ys more h = elim (or_cases (has_node leaves n) (joins xs (row_at rows n)) h) [
      | inl leaf ↦ or_left (has_node leaves n) (joins ys (row_at rows n)) leaf
      | inr join ↦ or_right (has_node leaves n) (joins ys (row_at rows n)) (joins_among xs ys (row_at rows n) (every_ref (λ m. has_node xs m ≡ true → has_node ys m ≡ true) more (row_at rows n)) join)
    ]

    all : length (take 64 (below node)) < 64 → (n : ℕ) → n < node → divides rows leaves (take 64 (below node)) n ≡ true → has_node (take 64 (below node)) n ≡ true
    all few n less h =
        let whole : take 64 (below node) ≡ below node = take_all 64 (below node) (let le = length-take 64 (below node) in omega (arith, le, few)) in
        let again : divides rows leaves (below node) n ≡ true = ap (λ l. divides rows leaves l n) (sym whole) ∙ h in
        let here : divides rows leaves (below n) n ≡ true = elim (or_cases (has_node leaves n) (joins (below node) (row_at rows n)) again) [
          | inl leaf ↦ or_left (has_node leaves n) (joins (below n) (row_at rows n)) leaf
          | inr join ↦ or_right (has_node leaves n) (joins (below n) (row_at rows n)) (joins_among (below node) (below n) (row_at rows n) (low_refs (λ m. has_node (below node) m ≡ true → has_node (below n) m ≡ true) n (λ m low t. before m low t) (row_at rows n) (order n)) join)
        ] in
        let (more, is) = more_below rows leaves (suc n) node less in
        ap (λ l. has_node l n) (whole ∙ is)
        ∙ has_left (below (suc n)) more n (ap (λ l. has_node l n) (ends_with rows leaves n here) ∙ has_right (below n) (n ∷ []) n (has_here n []))
      where
        before : (p : ℕ) → p < n → has_node (below node) p ≡ true → has_node (below n) p ≡ true
        before p low t = below_before rows leaves n node p (omega (arith, less)) low t
