-- The rows of a file: they can be compacted, and have the values of its variables.
use Rattle.std.specs.List.{AllByRecursion, list_all}
use Rattle.std.proofs.Common.{◌≡◌, ℕ, zero, suc, ◌+◌, ◌-◌, ◌*◌, ◌%◌, ◌<◌, ◌≤◌, ◌==◌, ◌&&◌, ◌⊎◌, not, nat_eq, nat_lt, Bool, true, false, if◌then◌else◌, List, [], ◌∷◌, ◌++◌, length, map, replicate, get_or, refl, sym, ap, ap₂, ◌∙◌, subst, inl, inr, arith, eq-eqb, ne_eqb, lt-ltb, length-append}
use Rattle.std.proofs.lemmas.Bool.{and_from, and_parts, both_ways, cases_lt, cond-false, ltb-true, not-true, or_left, or_right}
use Rattle.std.proofs.lemmas.List.{get_or-append-add, get_or-map, get_or-replicate, get_or_append_left, get_or_past, length-map, length-replicate}
use Rattle.std.proofs.lemmas.List.Elements.{All-from_recursion, recursion_from_All}
use Rattle.syn_rows.specs.declared.Row.{Row}
use Rattle.syn_rows.specs.declared.Row.TheVariants.{Free, Source}
use Rattle.syn_rows.specs.Reach.{Ands, ands_from}
use Rattle.syn_rows.specs.Rows.{AllRefs, Rises, node_of, refs_below, row_at}
use Rattle.syn_rows.specs.Values.{Fits, RowFits, given_by, lit_value}
use Rattle.syn_rows.proofs.Ends.{ands_are_there}
use Rattle.syn_hashed.specs.Compacting.{CanCompact, HasSources, IsThere}
use Rattle.syn_hashed.proofs.Compacted.{has_valuation_is}
use Rattle.syn_lists.specs.Numbers.{distinct_numbers, has_number}
use Rattle.syn_aiger_files.specs.declared.files.Aig.{Aig}
use Rattle.syn_aiger_files.specs.declared.files.AigAnd.{AigAnd}
use Rattle.syn_aiger_files.specs.Files.{variable_of}
use Rattle.syn_aiger.specs.Networks.{IsTotalAig}
use Rattle.syn_aiger.specs.Placing.{IsSound, ReadsDefined, and_row, has_sides, is_defined, lit_in, node_in, or_zero, rows_in}
use Rattle.syn_aiger.specs.Ranks.{HasRank, ReadsBelow}
use Rattle.syn_aiger.specs.Values.{FitsAig, IsAndOf, and_variable, defined_variables, source_literals, source_variables, value_of}
use Rattle.syn_aiger.proofs.Sound.{has_left as has_left_number}
use Rattle.syn_aiger.proofs.Placed.{IsPlaced, front_has, node_placed, place_at, place_some, place_there}

-- an AND with its row and its variable
abbrev pub IsAt : Aig → List AigAnd → ℕ → AigAnd → Type 0
IsAt g ands k a = (get_or (map (and_row g) ands) k Free ≡ and_row g a) × (get_or (map and_variable ands) k 0 ≡ and_variable a)

pub and_there : (g : Aig) (P : AigAnd → Type 0) (ands : List AigAnd) (k : ℕ) → k < length ands → AllByRecursion P ands → (a : AigAnd) × IsAt g ands k a × P a
and_there g P [] k l h = absurd (omega arith)
and_there g P (a ∷ ands) zero l h = (a, (refl, refl), h.0)
and_there g P (a ∷ ands) (suc k) l h = and_there g P ands k (omega arith) h.1

all_by : (g : Aig) (P : AigAnd → Type 0) (ands : List AigAnd) → ((k : ℕ) (a : AigAnd) → k < length ands → IsAt g ands k a → P a) → AllByRecursion P ands
all_by g P [] h = tt
all_by g P (a ∷ ands) h = (h 0 a (omega arith) (refl, refl), all_by g P ands (λ k b l at. h (suc k) b (omega arith) at))

pub all_sides : (g : Aig) (ands : List AigAnd) → list_all (has_sides g) ands ≡ true → AllByRecursion (λ a. has_sides g a ≡ true) ands
all_sides g [] h = tt
all_sides g (a ∷ ands) h = let p = and_parts (has_sides g a) (list_all (has_sides g) ands) h in (p.0, all_sides g ands p.1)

both_all : (P Q : AigAnd → Type 0) (ands : List AigAnd) → AllByRecursion P ands → AllByRecursion Q ands → AllByRecursion (λ a. P a × Q a) ands
both_all P Q [] h k = tt
both_all P Q (a ∷ ands) h k = ((h.0, k.0), both_all P Q ands h.1 k.1)

node_of_lit : (g : Aig) (l : ℕ) → node_of (lit_in g l) ≡ node_in g (variable_of l)
node_of_lit g l = omega arith

and_swap : (x y : Bool) → (x && y) ≡ (y && x)
and_swap true true = refl
and_swap true false = refl
and_swap false true = refl
and_swap false false = refl

module _ (g : Aig) where
  abbrev ds : List ℕ
  ds = defined_variables g

  abbrev first : ℕ
  first = length (source_literals g) + 1

  abbrev rows : List Row
  rows = rows_in g

  abbrev fronts : List Row
  fronts = replicate first Source

  many_sources : length (source_variables g) ≡ length (source_literals g)
  many_sources = length-map (source_literals g) variable_of

  pub many_defined : length ds ≡ first + length g.ands
  many_defined = omega (arith, many_sources, length-append (source_variables g) (map and_variable g.ands), length-map g.ands and_variable)

  pub many_rows : length rows ≡ first + length g.ands
  many_rows = omega (arith, length-append fronts (map (and_row g) g.ands), length-replicate first Source, length-map g.ands (and_row g))

  front_row : (n : ℕ) → n < first → row_at rows n ≡ Source
  front_row n l = get_or_append_left fronts (map (and_row g) g.ands) Free n (omega (arith, length-replicate first Source)) ∙ get_or-replicate first n Source Free l

  gate_row : (k : ℕ) → row_at rows (first + k) ≡ get_or (map (and_row g) g.ands) k Free
  gate_row k = ap (row_at rows) (let e : first + k ≡ length fronts + k = omega (arith, length-replicate first Source) in e) ∙ get_or-append-add fronts (map (and_row g) g.ands) k Free

  past_row : (n : ℕ) → first + length g.ands ≤ n → row_at rows n ≡ Free
  past_row n l = get_or_past rows n Free (omega (arith, many_rows))

  gate_variable : (k : ℕ) → get_or ds (first + k) 0 ≡ get_or (map and_variable g.ands) k 0
  gate_variable k =
      ap (λ (n : ℕ). get_or ds n 0) (let e : first + k ≡ length (0 ∷ source_variables g) + k = omega (arith, many_sources) in e)
      ∙ get_or-append-add (0 ∷ source_variables g) (map and_variable g.ands) k 0

  -- what a node is: a source, an AND, or none
  abbrev Shown : (AigAnd → Type 0) → ℕ → Type 0
  Shown P n = ((n < first) × (row_at rows n ≡ Source)) ⊎ (((a : AigAnd) × (row_at rows n ≡ and_row g a) × (get_or ds n 0 ≡ and_variable a) × P a) ⊎ ((first + length g.ands ≤ n) × (row_at rows n ≡ Free)))

  shown : (P : AigAnd → Type 0) → AllByRecursion P g.ands → (n : ℕ) → Shown P n
  shown P h n = elim (cases_lt n first) [
    | inl l ↦ inl (l, front_row n l)
    | inr ge ↦ elim (cases_lt n (first + length g.ands)) [
      | inl l ↦
          let a = and_there g P g.ands (n - first) (omega arith) h in
          let e : first + (n - first) ≡ n = omega arith in
          inr (inl (a.0, ap (row_at rows) (sym e) ∙ gate_row (n - first) ∙ a.1.0, ap (λ (m : ℕ). get_or ds m 0) (sym e) ∙ gate_variable (n - first) ∙ a.1.1, a.2))
      | inr p ↦ inr (inr (p, past_row n p))
    ]
  ]

  is_there : (n : ℕ) → n < length ds → IsThere rows n
  is_there n l e = elim (shown (λ a. ℕ) (numbers g.ands) n) [
    | inl s ↦ absurd (let q : Path Row Source Free = sym s.1 ∙ e in cc)
    | inr r ↦ elim r [
      | inl a ↦ absurd (let q : Path Row (and_row g a.0) Free = sym a.1 ∙ e in cc)
      | inr p ↦ absurd (omega (arith, p.0, many_defined))
    ]
  ]
    where
      numbers : (ands : List AigAnd) → AllByRecursion (λ a. ℕ) ands
      numbers [] = tt
      numbers (a ∷ ands) = (0, numbers ands)

  placed : (l : ℕ) → is_defined g l ≡ true → IsPlaced ds (variable_of l) (node_in g (variable_of l))
  placed l h = node_placed ds (variable_of l) h

  lit_there : (l : ℕ) → is_defined g l ≡ true → IsThere rows (node_of (lit_in g l))
  lit_there l h = subst (IsThere rows) (sym (node_of_lit g l)) (is_there (node_in g (variable_of l)) (placed l h).within)

  module _ (defined : ReadsDefined g) where
    sides : AllByRecursion (λ a. has_sides g a ≡ true) g.ands
    sides = all_sides g g.ands defined.sides

    refs_there : (n : ℕ) → AllRefs (IsThere rows) (row_at rows n)
    refs_there n = elim (shown (λ a. has_sides g a ≡ true) sides n) [
      | inl s ↦ subst (AllRefs (IsThere rows)) (sym s.1) tt
      | inr r ↦ elim r [
        | inl a ↦
            let p = and_parts (is_defined g a.0.first) (is_defined g a.0.second) a.3 in
            subst (AllRefs (IsThere rows)) (sym a.1) (lit_there a.0.second p.1, lit_there a.0.first p.0)
        | inr p ↦ subst (AllRefs (IsThere rows)) (sym p.1) tt
      ]
    ]

    not_source : (n : ℕ) → length (source_literals g) < n → row_at rows n ≡ Source → ⊥
    not_source n l e = elim (shown (λ a. has_sides g a ≡ true) sides n) [
      | inl s ↦ absurd (omega (arith, s.0))
      | inr r ↦ elim r [
        | inl a ↦ absurd (let q : Path Row (and_row g a.0) Source = sym a.1 ∙ e in cc)
        | inr p ↦ absurd (let q : Path Row Free Source = sym p.1 ∙ e in cc)
      ]
    ]

    rises : (rank : ℕ → ℕ) → AllByRecursion (ReadsBelow rank) g.ands → Rises rows (λ n. rank (get_or ds n 0))
    rises rank below n = elim (shown (λ a. (has_sides g a ≡ true) × ReadsBelow rank a) (both_all (λ a. has_sides g a ≡ true) (ReadsBelow rank) g.ands sides below) n) [
      | inl s ↦ subst (AllRefs (λ m. rank (get_or ds m 0) < rank (get_or ds n 0))) (sym s.1) tt
      | inr r ↦ elim r [
        | inl a ↦
            let p = and_parts (is_defined g a.0.first) (is_defined g a.0.second) a.3.0 in
            subst (AllRefs (λ m. rank (get_or ds m 0) < rank (get_or ds n 0))) (sym a.1) (side a.0 a.0.second a.2 p.1 a.3.1.1, side a.0 a.0.first a.2 p.0 a.3.1.0)
        | inr p ↦ subst (AllRefs (λ m. rank (get_or ds m 0) < rank (get_or ds n 0))) (sym p.1) tt
      ]
    ]
      where
        side : (a : AigAnd) (l : ℕ) → get_or ds n 0 ≡ and_variable a → is_defined g l ≡ true → rank (variable_of l) < rank (and_variable a) → rank (get_or ds (node_of (lit_in g l)) 0) < rank (get_or ds n 0)
        side a l e h lt =
            let left : rank (get_or ds (node_of (lit_in g l)) 0) ≡ rank (variable_of l) = ap rank (ap (λ (m : ℕ). get_or ds m 0) (node_of_lit g l) ∙ (placed l h).at) in
            let right : rank (get_or ds n 0) ≡ rank (and_variable a) = ap rank e in
            omega arith

    lits_there : (ls : List ℕ) → list_all (is_defined g) ls ≡ true → AllByRecursion (λ l. IsThere rows (node_of l)) (map (lit_in g) ls)
    lits_there [] h = tt
    lits_there (l ∷ ls) h = let p = and_parts (is_defined g l) (list_all (is_defined g) ls) h in (lit_there l p.0, lits_there ls p.1)

    pub can_compact : HasRank g → (ls : List ℕ) → list_all (is_defined g) ls ≡ true → CanCompact (length (source_literals g)) rows (map (lit_in g) ls)
    can_compact r ls h = record {
      front = front_row;
      others = not_source;
      refs = refs_there;
      named = All-from_recursion (λ l. IsThere rows (node_of l)) (map (lit_in g) ls) (lits_there ls h);
      acyclic = (λ n. r.0 (get_or ds n 0), rises r.0 r.1);
    }

    -- a fitting valuation of the variables

    module _ (v : ℕ → Bool) (fit : FitsAig g v) where
      abbrev node_value : ℕ → Bool
      node_value n = v (get_or ds n 0)

      literal_value : (l : ℕ) → is_defined g l ≡ true → lit_value node_value (lit_in g l) ≡ value_of v l
      literal_value l h =
          let at : node_value (node_of (lit_in g l)) ≡ v (variable_of l) = ap v (ap (λ (m : ℕ). get_or ds m 0) (node_of_lit g l) ∙ (placed l h).at) in
          ap (λ (b : Bool). if (lit_in g l).0 % 2 == 0 then b else not b) at
          ∙ ap (λ (k : ℕ). if k == 0 then v (variable_of l) else not (v (variable_of l))) (let e : (2 * node_in g (variable_of l) + l % 2) % 2 ≡ l % 2 = omega arith in e)

      row_fits : (n : ℕ) → RowFits node_value n (row_at rows n)
      row_fits n = elim (shown (λ a. (has_sides g a ≡ true) × IsAndOf v a) (both_all (λ a. has_sides g a ≡ true) (IsAndOf v) g.ands sides (recursion_from_All (IsAndOf v) g.ands fit.ands)) n) [
        | inl s ↦ subst (RowFits node_value n) (sym s.1) tt
        | inr r ↦ elim r [
          | inl a ↦
              let p = and_parts (is_defined g a.0.first) (is_defined g a.0.second) a.3.0 in
              subst (RowFits node_value n) (sym a.1)
              (ap v a.2 ∙ a.3.1 ∙ and_swap (value_of v a.0.first) (value_of v a.0.second)
              ∙ ap₂ (λ (x y : Bool). x && y) (sym (literal_value a.0.second p.1)) (sym (literal_value a.0.first p.0)))
          | inr p ↦ subst (RowFits node_value n) (sym p.1) tt
        ]
      ]

      pub fits : Fits rows node_value
      fits = record { constant = fit.constant; each = row_fits }

      pub has_sources : HasSources (length (source_literals g)) (given_by (map v (source_variables g))) node_value
      has_sources zero l = fit.constant
      has_sources (suc k) l =
          ap v (get_or_append_left (source_variables g) (map and_variable g.ands) 0 k (omega (arith, many_sources)))
          ∙ sym (get_or-map v (source_variables g) k 0 false (omega (arith, many_sources)))

      pub literal_values : (ls : List ℕ) → list_all (is_defined g) ls ≡ true → map (lit_value node_value) (map (lit_in g) ls) ≡ map (value_of v) ls
      literal_values [] h = refl
      literal_values (l ∷ ls) h = let p = and_parts (is_defined g l) (list_all (is_defined g) ls) h in ap₂ (λ (b : Bool) (bs : List Bool). b ∷ bs) (literal_value l p.0) (literal_values ls p.1)

    -- a fitting valuation of the nodes

    module _ (sound : IsSound g) (u : ℕ → Bool) (fit : Fits rows u) where
      abbrev variable_value : ℕ → Bool
      variable_value x = u (node_in g x)

      value_back : (l : ℕ) → lit_value u (lit_in g l) ≡ value_of variable_value l
      value_back l =
          ap (λ (n : ℕ). if (lit_in g l).0 % 2 == 0 then u n else not (u n)) (node_of_lit g l)
          ∙ ap (λ (k : ℕ). if k == 0 then variable_value (variable_of l) else not (variable_value (variable_of l))) (let e : (2 * node_in g (variable_of l) + l % 2) % 2 ≡ l % 2 = omega arith in e)

      node_at : (n : ℕ) → n < length ds → node_in g (get_or ds n 0) ≡ n
      node_at n l = ap or_zero (place_at ds n sound.once l)

      and_value : (k : ℕ) (a : AigAnd) → k < length g.ands → IsAt g g.ands k a → IsAndOf variable_value a
      and_value k a l at =
          let row : row_at rows (first + k) ≡ and_row g a = gate_row k ∙ at.0 in
          let here : node_in g (and_variable a) ≡ first + k = ap (node_in g) (sym (gate_variable k ∙ at.1)) ∙ node_at (first + k) (omega (arith, many_defined)) in
          let value : u (first + k) ≡ (lit_value u (lit_in g a.second) && lit_value u (lit_in g a.first)) = subst (RowFits u (first + k)) row (fit.each (first + k)) in
          ap u here ∙ value ∙ ap₂ (λ (x y : Bool). x && y) (value_back a.second) (value_back a.first) ∙ and_swap (value_of variable_value a.second) (value_of variable_value a.first)

      fits_back : FitsAig g variable_value
      fits_back = record { constant = fit.constant; ands = All-from_recursion (IsAndOf variable_value) g.ands (all_by g (IsAndOf variable_value) g.ands and_value) }

    pub total : IsSound g → HasRank g → IsTotalAig g
    total sound r given =
        let start : ℕ → Bool = λ n. if get_or ds n 0 == 0 then false else given (get_or ds n 0) in
        let u = has_valuation_is (length (source_literals g)) rows [] (can_compact r [] refl) start refl in
        (variable_value sound u.0 u.1, fits_back sound u.0 u.1, sources_given sound u.0 u.1 u.2 (source_variables g) (λ x h. h))
      where
        sources_given : (sound : IsSound g) (u : ℕ → Bool) (fit : Fits rows u) → HasSources (length (source_literals g)) (λ n. if get_or ds n 0 == 0 then false else given (get_or ds n 0)) u
            → (xs : List ℕ) → ((x : ℕ) → has_number xs x ≡ true → has_number (source_variables g) x ≡ true) → map (variable_value sound u fit) xs ≡ map given xs
        sources_given sound u fit start [] sub = refl
        sources_given sound u fit start (x ∷ xs) sub =
            let here : has_number (source_variables g) x ≡ true = sub x (or_left (nat_eq x x) (has_number xs x) (eq-eqb x x refl)) in
            let there : has_number ds x ≡ true = or_right (nat_eq 0 x) (has_number (source_variables g ++ map and_variable g.ands) x) (has_left_number (source_variables g) (map and_variable g.ands) x here) in
            let p = place_there ds x there in
            let is : node_in g x ≡ p.0 = ap or_zero p.1 in
            let front : nat_lt p.0 (length (0 ∷ source_variables g)) ≡ true = sym (front_has (0 ∷ source_variables g) (map and_variable g.ands) x p.0 p.1) ∙ or_right (nat_eq 0 x) (has_number (source_variables g) x) here in
            let low = ltb-true p.0 (length (0 ∷ source_variables g)) front in
            let inside : p.0 < length (source_literals g) + 1 = omega (arith, low, many_sources) in
            let at : get_or ds p.0 0 ≡ x = (place_some ds x p.0 p.1).at in
            let parts = and_parts (not (has_number (source_variables g ++ map and_variable g.ands) 0)) (distinct_numbers (source_variables g ++ map and_variable g.ands)) sound.once in
            let none : has_number (source_variables g ++ map and_variable g.ands) 0 ≡ false = not-true (has_number (source_variables g ++ map and_variable g.ands) 0) parts.0 in
            let nonzero : (x == 0) ≡ false = ne_eqb x 0 (λ e. both_ways (has_number (source_variables g ++ map and_variable g.ands) 0) none (has_left_number (source_variables g) (map and_variable g.ands) 0 (ap (has_number (source_variables g)) (sym e) ∙ here))) in
            ap₂ (λ (b : Bool) (bs : List Bool). b ∷ bs)
            (ap u is ∙ start p.0 inside ∙ ap (λ (y : ℕ). if y == 0 then false else given y) at ∙ cond-false (x == 0) false (given x) nonzero)
            (sources_given sound u fit start xs (λ y h. sub y (or_right (nat_eq x y) (has_number xs y) h)))

    -- how many ANDs are reached

    below_rows : (k : ℕ) (ands : List AigAnd) → length ds ≡ k → list_all (has_sides g) ands ≡ true → list_all (refs_below k) (map (and_row g) ands) ≡ true
    below_rows k [] e h = refl
    below_rows k (a ∷ ands) e h =
        let p = and_parts (has_sides g a) (list_all (has_sides g) ands) h in
        let q = and_parts (is_defined g a.first) (is_defined g a.second) p.0 in
        and_from (nat_lt (node_of (lit_in g a.second)) k && nat_lt (node_of (lit_in g a.first)) k) (list_all (refs_below k) (map (and_row g) ands))
        (and_from (nat_lt (node_of (lit_in g a.second)) k) (nat_lt (node_of (lit_in g a.first)) k) (low a.second q.1) (low a.first q.0))
        (below_rows k ands e p.1)
      where
        low : (l : ℕ) → is_defined g l ≡ true → nat_lt (node_of (lit_in g l)) k ≡ true
        low l h = lt-ltb (node_of (lit_in g l)) k (omega (arith, node_of_lit g l, (placed l h).within))

    all_sources : (k n : ℕ) (more : List Row) → list_all (refs_below k) more ≡ true → list_all (refs_below k) (replicate n Source ++ more) ≡ true
    all_sources k zero more h = h
    all_sources k (suc n) more h = all_sources k n more h

    lits_low : (ls : List ℕ) → list_all (is_defined g) ls ≡ true → list_all (λ l. nat_lt (node_of l) (length rows)) (map (lit_in g) ls) ≡ true
    lits_low [] h = refl
    lits_low (l ∷ ls) h =
        let p = and_parts (is_defined g l) (list_all (is_defined g) ls) h in
        and_from (nat_lt (node_of (lit_in g l)) (length rows)) (list_all (λ l. nat_lt (node_of l) (length rows)) (map (lit_in g) ls))
        (lt-ltb (node_of (lit_in g l)) (length rows) (omega (arith, node_of_lit g l, (placed l p.0).within, many_rows, many_defined)))
        (lits_low ls p.1)

    ands_gates : (set : ℕ → Bool) (n : ℕ) (ands : List AigAnd) → ands_from n set (map (and_row g) ands) ≤ length ands
    ands_gates set n [] = omega arith
    ands_gates set n (a ∷ ands) = let le = ands_gates set (n + 1) ands in let one = at_most (set n) in omega arith
      where
        at_most : (b : Bool) → (if true && b then 1 else 0) ≤ 1
        at_most true = omega arith
        at_most false = omega arith

    ands_all : (set : ℕ → Bool) (n m : ℕ) → ands_from n set (replicate m Source ++ map (and_row g) g.ands) ≤ length g.ands
    ands_all set n zero = ands_gates set n g.ands
    ands_all set n (suc m) = let le = ands_all set (n + 1) m in omega arith

    -- No more ANDs are reached than the file has.
    pub few_ands : (ls : List ℕ) → list_all (is_defined g) ls ≡ true → (k : ℕ) × Ands rows (map (lit_in g) ls) k × (k ≤ length g.ands)
    few_ands ls h =
        let same : length ds ≡ length rows = omega (arith, many_rows, many_defined) in
        let has = ands_are_there rows (map (lit_in g) ls) (all_sources (length rows) first (map (and_row g) g.ands) (below_rows (length rows) g.ands same defined.sides)) (lits_low ls h) in
        let le = ands_all has.1.0 0 first in
        (has.0, has.1, (let e = has.1.2 in omega arith))
