-- The index of pairs while rows are added.
use Rattle.std.proofs.Common.{◌≡◌, ℕ, ◌<◌, ◌≤◌, Some, None, List, [], ◌∷◌, ◌++◌, length, set, refl, sym, ap, ◌∙◌, subst, arith, inl, inr}
use Rattle.std.proofs.lemmas.List.{length_push, length-set, get_or_append_left, get_or_push, get_or_past, get_or-set_same, get_or-set_other}
use Rattle.std.proofs.lemmas.Bool.{cases_eq, cases_lt}
use Rattle.syn_rows.specs.declared.Lit.{Lit}
use Rattle.syn_rows.specs.declared.Row.{Row}
use Rattle.syn_rows.specs.declared.Row.TheVariants.{Free, Source, And, Alias}
use Rattle.syn_rows.specs.Rows.{row_at}
use Rattle.syn_hashed.specs.Pairs.{bucket, bucket_of, IsIn, number_at, IsGreatest, IsIndex}

not_none : (k : ℕ) → None ≡ Some k → ⊥
not_none k e = cc

same_some : (j k : ℕ) → Some j ≡ Some k → j ≡ k
same_some j k e = cc

-- an AND stands at a node that is there
pub in_there : (count : ℕ) (rows : List Row) (k n : ℕ) → IsIn count rows k n → n < length rows
in_there count rows k n h = elim (cases_lt n (length rows)) [
  | inl lt ↦ lt
  | inr ge ↦ absurd (not_none k (sym (ap (bucket_of count) (get_or_past rows n Free ge)) ∙ h))
]

-- older nodes have the rows that they had
older : (count : ℕ) (rows : List Row) (row : Row) (n : ℕ) → n < length rows → bucket_of count (row_at (rows ++ row ∷ []) n) ≡ bucket_of count (row_at rows n)
older count rows row n lt = ap (bucket_of count) (get_or_append_left rows (row ∷ []) Free n lt)

newest : (count : ℕ) (rows : List Row) (row : Row) → bucket_of count (row_at (rows ++ row ∷ []) (length rows)) ≡ bucket_of count row
newest count rows row = ap (bucket_of count) (get_or_push rows row Free (length rows) refl)

-- what is greatest below a bound stays so
greatest_kept : (count : ℕ) (rows : List Row) (row : Row) (k bound n : ℕ) → bound ≤ length rows → IsGreatest count rows k bound n → IsGreatest count (rows ++ row ∷ []) k bound n
greatest_kept count rows row k bound n low g = record {
  own = λ ne. older count rows row n (omega (arith, g.below ne)) ∙ g.own ne;
  below = g.below;
  greatest = λ m lt h. g.greatest m lt (sym (older count rows row m (omega arith)) ∙ h);
}

-- and below a bound that is one more, where the node there is not of the bucket
greatest_more : (count : ℕ) (rows : List Row) (row : Row) (k n : ℕ) → (bucket_of count row ≡ Some k → ⊥) → IsGreatest count rows k (length rows) n → IsGreatest count (rows ++ row ∷ []) k (length (rows ++ row ∷ [])) n
greatest_more count rows row k n other g = record {
  own = λ ne. older count rows row n (g.below ne) ∙ g.own ne;
  below = λ ne. omega (arith, g.below ne, length_push rows row);
  greatest = λ m lt h. elim (cases_eq m (length rows)) [
    | inl e ↦ absurd (other (sym (newest count rows row) ∙ ap (λ i. bucket_of count (row_at (rows ++ row ∷ []) i)) (sym e) ∙ h))
    | inr ne ↦ (let low : m < length rows = omega (arith, lt, ne, length_push rows row) in g.greatest m low (sym (older count rows row m low) ∙ h))
  ];
}

-- the node there is the greatest of its own bucket
greatest_newest : (count : ℕ) (rows : List Row) (row : Row) (k n : ℕ) → bucket_of count row ≡ Some k → n ≡ length rows → IsGreatest count (rows ++ row ∷ []) k (length (rows ++ row ∷ [])) n
greatest_newest count rows row k n here e = record {
  own = λ ne. ap (λ i. bucket_of count (row_at (rows ++ row ∷ []) i)) e ∙ newest count rows row ∙ here;
  below = λ ne. omega (arith, e, length_push rows row);
  greatest = λ m lt h. omega (arith, e, lt, length_push rows row);
}

-- a row that is no AND
pub other_linked : (count : ℕ) (rows : List Row) (row : Row) (heads next : List ℕ) → bucket_of count row ≡ None → length rows < length next → IsIndex count rows heads next → IsIndex count (rows ++ row ∷ []) heads next
other_linked count rows row heads next none room x = record {
  many = x.many;
  some = x.some;
  long = omega (arith, room, length_push rows row);
  of_bucket = λ k lt. greatest_more count rows row k (number_at heads k) (λ h. not_none k (sym none ∙ h)) (x.of_bucket k lt);
  of_node = λ k n h. elim (cases_eq n (length rows)) [
    | inl e ↦ absurd (not_none k (sym (ap (λ i. bucket_of count (row_at (rows ++ row ∷ []) i)) e ∙ newest count rows row ∙ none) ∙ h))
    | inr ne ↦
        let low : n < length rows = omega (arith, in_there count (rows ++ row ∷ []) k n h, ne, length_push rows row) in
        greatest_kept count rows row k n (number_at next n) (omega arith) (x.of_node k n (sym (older count rows row n low) ∙ h))
  ];
}

-- an AND, which becomes the greatest of its bucket
pub and_linked : (count : ℕ) (rows : List Row) (a b : Lit) (heads next : List ℕ) (k node : ℕ) → k ≡ bucket count a b → k < count → node ≡ length rows → length rows < length next → IsIndex count rows heads next
    → IsIndex count (rows ++ And a b ∷ []) (set heads k node) (set next node (number_at heads k))
and_linked count rows a b heads next k node is inside at room x = record {
  many = length-set heads k node ∙ x.many;
  some = x.some;
  long = omega (arith, room, length_push rows (And a b), length-set next node (number_at heads k));
  of_bucket = λ j lt. elim (cases_eq j k) [
    | inl e ↦ greatest_newest count rows (And a b) j (number_at (set heads k node) j) (ap Some (sym (e ∙ is))) (ap (number_at (set heads k node)) e ∙ get_or-set_same heads k node 0 (omega (arith, inside, x.many)) ∙ at)
    | inr ne ↦
        subst (IsGreatest count (rows ++ And a b ∷ []) j (length (rows ++ And a b ∷ []))) (sym (get_or-set_other heads k j node 0 ne))
        (greatest_more count rows (And a b) j (number_at heads j) (λ h. ne (sym (is ∙ same_some (bucket count a b) j h))) (x.of_bucket j lt))
  ];
  of_node = λ j n h. elim (cases_eq n node) [
    | inl e ↦
        let mine : j ≡ k = sym (is ∙ same_some (bucket count a b) j (sym (ap (λ i. bucket_of count (row_at (rows ++ And a b ∷ []) i)) (e ∙ at) ∙ newest count rows (And a b)) ∙ h)) in
        let value : number_at (set next node (number_at heads k)) n ≡ number_at heads j = ap (number_at (set next node (number_at heads k))) e ∙ get_or-set_same next node (number_at heads k) 0 (omega (arith, at, room)) ∙ ap (number_at heads) (sym mine) in
        let old : IsGreatest count (rows ++ And a b ∷ []) j (length rows) (number_at heads j) = greatest_kept count rows (And a b) j (length rows) (number_at heads j) (omega arith) (x.of_bucket j (omega (arith, mine, inside))) in
        subst (λ i. IsGreatest count (rows ++ And a b ∷ []) j i (number_at (set next node (number_at heads k)) n)) (sym (e ∙ at)) (subst (IsGreatest count (rows ++ And a b ∷ []) j (length rows)) (sym value) old)
    | inr ne ↦
        let low : n < length rows = omega (arith, in_there count (rows ++ And a b ∷ []) j n h, ne, at, length_push rows (And a b)) in
        subst (IsGreatest count (rows ++ And a b ∷ []) j n) (sym (get_or-set_other next node n (number_at heads k) 0 ne))
        (greatest_kept count rows (And a b) j n (number_at next n) (omega arith) (x.of_node j n (sym (older count rows (And a b) n low) ∙ h)))
  ];
}

-- room for a further row
pub longer_kept : (count : ℕ) (rows : List Row) (heads next : List ℕ) (x : ℕ) → IsIndex count rows heads next → IsIndex count rows heads (next ++ x ∷ [])
longer_kept count rows heads next x i = record {
  many = i.many;
  some = i.some;
  long = omega (arith, i.long, length_push next x);
  of_bucket = i.of_bucket;
  of_node = λ k n h. subst (IsGreatest count rows k n) (sym (get_or_append_left next (x ∷ []) 0 n (omega (arith, in_there count rows k n h, i.long)))) (i.of_node k n h);
}

-- Where the search stands at a node: it is 0 or of the pair's bucket, and what has the pair is no greater.
pub record IsSought (count : ℕ) (rows : List Row) (a b : Lit) (node : ℕ) : Type 0 where
  pub own : (node ≡ 0 → ⊥) → IsIn count rows (bucket count a b) node
  pub left : (n : ℕ) → row_at rows n ≡ And a b → n ≤ node

pub sought_next : (count : ℕ) (rows : List Row) (heads next : List ℕ) (a b : Lit) (node : ℕ) → IsIndex count rows heads next → (node ≡ 0 → ⊥) → (row_at rows node ≡ And a b → ⊥) → IsSought count rows a b node
    → IsSought count rows a b (number_at next node) × (number_at next node < node)
sought_next count rows heads next a b node x ne other s = (record { own = g.own; left = left }, elim (cases_eq (number_at next node) 0) [ inl e ↦ omega (arith, e, ne) | inr more ↦ g.below more ])
  where
    g : IsGreatest count rows (bucket count a b) node (number_at next node)
    g = x.of_node (bucket count a b) node (s.own ne)

    left : (n : ℕ) → row_at rows n ≡ And a b → n ≤ number_at next node
    left n at = elim (cases_eq n node) [
      | inl e ↦ absurd (other (ap (row_at rows) (sym e) ∙ at))
      | inr ne ↦ g.greatest n (omega (arith, s.left n at, ne)) (ap (bucket_of count) at)
    ]

pub no_and : (count : ℕ) (row : Row) → ((a b : Lit) → row ≡ And a b → ⊥) → bucket_of count row ≡ None
no_and count Free h = refl
no_and count Source h = refl
no_and count (And a b) h = absurd (h a b refl)
no_and count (Alias a) h = refl
