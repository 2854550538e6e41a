-- One seat's view and one word change: what stays, and what has to be shown again.
use Rattle.std.proofs.Common.{◌≡◌, ◌≢◌, ℕ, zero, suc, ◌+◌, ◌<◌, ◌≤◌, true, List, [], ◌∷◌, length, set, get_or, Option, Some, None, refl, sym, ap, ◌∙◌, subst, arith, inl, inr, nat_eq, if◌then◌else◌, eq-zero-or-pos, ◌+ℤ◌}
use Rattle.std.proofs.lemmas.Bool.{cases_eq, eq-eqb, ne_eqb}
use Rattle.std.proofs.lemmas.Int.{ints}
use mathlib.Core.Option.{some}
use lib.ListN.{get_elem?}
use Rattle.syn_rows.specs.declared.Row.{Row}
use Rattle.syn_rows.specs.declared.Row.TheVariants.{Free, Source, And, Alias}
use Rattle.syn_rows.specs.Rows.{row_at, node_of}
use Rattle.syn_rows.specs.References.{hits, times, refs, sum_below, refs_by_rows, refs_by_literals}
use Rattle.syn_core_laws.specs.declared.View.{View}
use Rattle.syn_rows.specs.Nodes.{has_node}
use Rattle.syn_core_laws.specs.Views.{known_row, refs_known, own_refs}
use Rattle.syn_core_laws.specs.Cores.{Core, all_pins, differences}
use Rattle.syn_core_laws.specs.Sound.{RowRests, IsSeatSound, IsSound}
use Rattle.syn_core_laws.proofs.Listing.{at_set, at_one, set_else, set_there}
use Rattle.syn_core_laws.proofs.Counting.{sum_two, sum_at, hits_other, pins_set, pins_at, pins_two, differences_set}

-- ---- rows
pub row_there : (rows : List Row) (n : ℕ) → row_at rows n ≢ Free → n < length rows
row_there [] n h = absurd (h refl)
row_there (r ∷ rs) zero h = omega arith
row_there (r ∷ rs) (suc n) h = let rest : n < length rs = row_there rs n h in omega arith

-- a row that refers to the node rests on it
pub rests_on : (rows : List Row) (keys : List ℕ) (m n : ℕ) (r : Row) → RowRests rows keys m r → 1 ≤ refs n r → (row_at rows n ≢ Free) × (get_or keys n 0 < get_or keys m 0)
rests_on rows keys m n Free h le = absurd (omega arith)
rests_on rows keys m n Source h le = absurd (omega arith)
rests_on rows keys m n (And a b) h le = elim (cases_eq n (node_of a)) [
  | inl e ↦ subst (λ k. (row_at rows k ≢ Free) × (get_or keys k 0 < get_or keys m 0)) (sym e) h.0
  | inr ne ↦ elim (cases_eq n (node_of b)) [
    | inl e ↦ subst (λ k. (row_at rows k ≢ Free) × (get_or keys k 0 < get_or keys m 0)) (sym e) h.1
    | inr ne' ↦
        let one : hits n (node_of a) ≡ 0 = hits_other n (node_of a) ne in
        let two : hits n (node_of b) ≡ 0 = hits_other n (node_of b) ne' in
        absurd (omega arith)
  ]
]
rests_on rows keys m n (Alias a) h le = elim (cases_eq n (node_of a)) [
  | inl e ↦ subst (λ k. (row_at rows k ≢ Free) × (get_or keys k 0 < get_or keys m 0)) (sym e) h
  | inr ne ↦ let one : hits n (node_of a) ≡ 0 = hits_other n (node_of a) ne in absurd (omega arith)
]

-- ---- the seats after a step of the seat id
module _ (l : List View) (id : ℕ) (v w : View) where
  pub number_was : get_elem? l id ≡ some v → w.number ≡ v.number → (j : ℕ) (u : View) → get_elem? (set l id w) j ≡ some u → (t : View) × (get_elem? l j ≡ some t) × (t.number ≡ u.number)
  number_was at same j u e =
      elim (at_set l id j w u e) [
        | inl h ↦ (v, subst (λ k. get_elem? l k ≡ some v) (sym h.0) at, sym same ∙ ap (λ (z : View). z.number) h.1)
        | inr h ↦ (u, h.1, refl)
      ]

  pub apart_after : get_elem? l id ≡ some v → w.number ≡ v.number
      → ((i j : ℕ) (a b : View) → get_elem? l i ≡ some a → get_elem? l j ≡ some b → a.number ≡ b.number → a.number < 64 → i ≡ j)
      → (i j : ℕ) (a b : View) → get_elem? (set l id w) i ≡ some a → get_elem? (set l id w) j ≡ some b → a.number ≡ b.number → a.number < 64 → i ≡ j
  apart_after at same apart i j a b ei ej e small =
      let x = number_was at same i a ei in
      let y = number_was at same j b ej in
      apart i j x.0 y.0 x.1 y.1 (x.2 ∙ (e ∙ sym y.2)) (subst (λ k. k < 64) (sym x.2) small)

  pub each_after : (P : View → Type 0) → ((j : ℕ) (u : View) → j ≢ id → get_elem? l j ≡ some u → P u) → P w → (j : ℕ) (u : View) → get_elem? (set l id w) j ≡ some u → P u
  each_after P others mine j u e =
      elim (at_set l id j w u e) [
        | inl h ↦ subst P h.1 mine
        | inr h ↦ others j u h.0 h.1
      ]

-- each holder has its place afterwards
pub claimant_after : (l : List View) (id : ℕ) (v w : View) (n : ℕ) → get_elem? l id ≡ some v → (has_node v.held n ≡ true → has_node w.held n ≡ true)
    → (j : ℕ) × (u : View) × (get_elem? l j ≡ some u) × (has_node u.held n ≡ true) → (j : ℕ) × (u : View) × (get_elem? (set l id w) j ≡ some u) × (has_node u.held n ≡ true)
claimant_after l id v w n at keeps t = elim (cases_eq t.0 id) [
  | inl e ↦ (id, w, set_there l id v w at, keeps (subst (λ (z : View). has_node z.held n ≡ true) (at_one l id t.1 v (subst (λ k. get_elem? l k ≡ some t.1) e t.2) at) t.3))
  | inr ne ↦ (t.0, t.1, set_else l id t.0 w ne ∙ t.2, t.3)
]

-- ---- the state after a step of the seat id
module _ (c : Core) (id : ℕ) (v w : View) (s : IsSound c) (at : get_elem? c.seats id ≡ some v) (number : w.number ≡ v.number) where
  -- claims may change: rows, counts and keys stay, and so do the seat's pins and difference
  pub claims_after : (claims : List ℕ) → length claims ≡ length c.claims
      → ((n : ℕ) → get_or claims n 0 ≢ 0 → (j : ℕ) × (u : View) × (get_elem? (set c.seats id w) j ≡ some u) × (has_node u.held n ≡ true)) → w.pins ≡ v.pins → w.difference ≡ v.difference
      → ((j : ℕ) (u : View) → j ≢ id → get_elem? c.seats j ≡ some u → IsSeatSound claims c.rows c.counts c.keys u)
      → IsSeatSound claims c.rows c.counts c.keys w
      → IsSound (record c { claims = claims; seats = set c.seats id w })
  claims_after claims count claimant pins difference others mine = record {
    claims_count = count ∙ s.claims_count;
    counts_count = s.counts_count;
    keys_count = s.keys_count;
    apart = apart_after c.seats id v w at number s.apart;
    claimant = claimant;
    constant = s.constant;
    source_stays = s.source_stays;
    source_was = s.source_was;
    source_keys = s.source_keys;
    unused = s.unused;
    rests = s.rests;
    counted = λ n.
        let moved : all_pins n (set c.seats id w) + times n v.pins ≡ all_pins n c.seats + times n w.pins = pins_set n c.seats id v w at in
        let same : times n w.pins ≡ times n v.pins = ap (times n) pins in
        let was : get_or c.counts n 0 ≡ refs_by_rows n c.rows + refs_by_literals n c.observed + all_pins n c.seats = s.counted n in
        omega arith;
    values = s.values;
    and_rows =
        let moved : differences (set c.seats id w) +ℤ v.difference ≡ differences c.seats +ℤ w.difference = differences_set c.seats id v w at in
        let was = s.and_rows in
        omega (arith, ints);
    seats = each_after c.seats id v w (IsSeatSound claims c.rows c.counts c.keys) others mine;
  }

  -- counts may change, with the seat's pins
  pub counts_after : (counts : List ℕ) → length counts ≡ length c.counts → w.held ≡ v.held → w.difference ≡ v.difference
      → ((n : ℕ) → get_or counts n 0 + times n v.pins ≡ get_or c.counts n 0 + times n w.pins)
      → ((n : ℕ) → row_at c.rows n ≡ Free → get_or counts n 0 ≡ 0)
      → ((j : ℕ) (u : View) → j ≢ id → get_elem? c.seats j ≡ some u → IsSeatSound c.claims c.rows counts c.keys u)
      → IsSeatSound c.claims c.rows counts c.keys w
      → IsSound (record c { counts = counts; seats = set c.seats id w })
  counts_after counts count held difference move unused others mine = record {
    claims_count = s.claims_count;
    counts_count = count ∙ s.counts_count;
    keys_count = s.keys_count;
    apart = apart_after c.seats id v w at number s.apart;
    claimant = λ n e. claimant_after c.seats id v w n at (λ h. subst (λ l. has_node l n ≡ true) (sym held) h) (s.claimant n e);
    constant = s.constant;
    source_stays = s.source_stays;
    source_was = s.source_was;
    source_keys = s.source_keys;
    unused = unused;
    rests = s.rests;
    counted = λ n.
        let moved : all_pins n (set c.seats id w) + times n v.pins ≡ all_pins n c.seats + times n w.pins = pins_set n c.seats id v w at in
        let new : get_or counts n 0 + times n v.pins ≡ get_or c.counts n 0 + times n w.pins = move n in
        let was : get_or c.counts n 0 ≡ refs_by_rows n c.rows + refs_by_literals n c.observed + all_pins n c.seats = s.counted n in
        omega arith;
    values = s.values;
    and_rows =
        let moved : differences (set c.seats id w) +ℤ v.difference ≡ differences c.seats +ℤ w.difference = differences_set c.seats id v w at in
        let was = s.and_rows in
        omega (arith, ints);
    seats = each_after c.seats id v w (IsSeatSound c.claims c.rows counts c.keys) others mine;
  }

-- ---- what a sole node tells of the others
module _ (c : Core) (id : ℕ) (v : View) (s : IsSound c) (at : get_elem? c.seats id ≡ some v) where
  -- a known row's references are the row's
  known_le : (m i : ℕ) → (o : Option Row) → known_row v i ≡ o → refs_known m o ≤ refs m (row_at c.rows i)
  known_le m i None e = omega arith
  known_le m i (Some r) e = let is : row_at c.rows i ≡ r = ((s.seats id v at).knows_rows i r e).1 in let same : refs m (row_at c.rows i) ≡ refs m r = ap (refs m) is in omega arith

  pub own_le : (m : ℕ) (i : ℕ) → refs_known m (known_row v i) ≤ refs m (row_at c.rows i)
  own_le m i = known_le m i (known_row v i) refl

  -- references beside the seat's own are none
  pub sole_alone : (m : ℕ) (g : ℕ → ℕ) → has_node v.sole m ≡ true → ((i : ℕ) → i < length c.rows → refs_known m (known_row v i) + g i ≤ refs m (row_at c.rows i)) → (i : ℕ) → i < length c.rows → g i ≡ 0
  sole_alone m g sole each i lt =
      let is : get_or c.counts m 0 ≡ own_refs (length c.rows) v m + times m v.pins = ((s.seats id v at).soles m sole).2 in
      let was : get_or c.counts m 0 ≡ refs_by_rows m c.rows + refs_by_literals m c.observed + all_pins m c.seats = s.counted m in
      let pins : times m v.pins ≤ all_pins m c.seats = pins_at m c.seats id v at in
      let both : own_refs (length c.rows) v m + sum_below (length c.rows) g ≤ refs_by_rows m c.rows =
      sum_two (length c.rows) (λ k. refs_known m (known_row v k)) g (λ k. refs m (row_at c.rows k)) each in
      let one : g i ≤ sum_below (length c.rows) g = sum_at (length c.rows) i g lt in
      omega arith

  -- no other seat pins it
  pub sole_pins : (m j : ℕ) (u : View) → has_node v.sole m ≡ true → j ≢ id → get_elem? c.seats j ≡ some u → times m u.pins ≡ 0
  sole_pins m j u sole ne there =
      let is : get_or c.counts m 0 ≡ own_refs (length c.rows) v m + times m v.pins = ((s.seats id v at).soles m sole).2 in
      let was : get_or c.counts m 0 ≡ refs_by_rows m c.rows + refs_by_literals m c.observed + all_pins m c.seats = s.counted m in
      let pins : times m u.pins + times m v.pins ≤ all_pins m c.seats = pins_two m c.seats j id u v ne there at in
      let both : own_refs (length c.rows) v m + sum_below (length c.rows) (λ k. 0) ≤ refs_by_rows m c.rows =
      sum_two (length c.rows) (λ k. refs_known m (known_row v k)) (λ k. 0) (λ k. refs m (row_at c.rows k)) (λ k lt. omega (arith, own_le m k)) in
      omega arith

  -- no row that the seat doesn't know refers to it
  pub sole_unknown : (m i : ℕ) → has_node v.sole m ≡ true → known_row v i ≡ None → refs m (row_at c.rows i) ≡ 0
  sole_unknown m i sole none = elim (eq-zero-or-pos (refs m (row_at c.rows i))) [
    | inl e ↦ e
    | inr some_there ↦
        let lt : i < length c.rows = row_there c.rows i (λ free. let no : refs m (row_at c.rows i) ≡ 0 = ap (refs m) free in omega arith) in
        let only_here : ℕ → ℕ = λ k. if nat_eq k i then refs m (row_at c.rows i) else 0 in
        let zero_there : only_here i ≡ 0 = sole_alone m only_here sole (λ k l. elim (cases_eq k i) [
          | inl e ↦
              let mine : refs_known m (known_row v k) ≡ 0 = subst (λ z. refs_known m (known_row v z) ≡ 0) (sym e) (ap (refs_known m) none) in
              let theirs : only_here k ≡ refs m (row_at c.rows i) = ap (λ b. if b then refs m (row_at c.rows i) else 0) (eq-eqb k i e) in
              let same : refs m (row_at c.rows k) ≡ refs m (row_at c.rows i) = ap (λ z. refs m (row_at c.rows z)) e in
              omega arith
          | inr ne ↦
              let theirs : only_here k ≡ 0 = ap (λ b. if b then refs m (row_at c.rows i) else 0) (ne_eqb k i ne) in
              omega (arith, own_le m k)
        ]) i lt in
        sym (ap (λ b. if b then refs m (row_at c.rows i) else 0) (eq-eqb i i refl)) ∙ zero_there
  ]
