-- Pin, unpin, load count and load key keep the core sound.
use Rattle.std.proofs.Common.{◌≡◌, ◌≢◌, ◌⊎◌, ℕ, suc, ◌+◌, ◌-◌, ◌<◌, ◌≤◌, ◌&&◌, Bool, true, false, nat_eq, if◌then◌else◌, List, ◌∷◌, length, set, get_or, length-set, Option, Some, None, refl, sym, ap, ◌∙◌, subst, arith, inl, inr}
use Rattle.std.proofs.lemmas.List.{get_or-set_same, get_or-set_other}
use Rattle.std.proofs.lemmas.Bool.{cases_eq, eqb-true}
use mathlib.Core.Option.{some}
use lib.ListN.{get_elem?}
use Rattle.syn_rows.specs.declared.Row.{Row}
use Rattle.syn_rows.specs.declared.Row.TheVariants.{Free, Source, And, Alias}
use Rattle.syn_rows.specs.Rows.{row_at, is_derived}
use Rattle.syn_rows.specs.References.{hits, times, refs, refs_by_rows}
use Rattle.syn_core_laws.specs.declared.View.{View}
use Rattle.syn_rows.specs.Nodes.{has_node}
use Rattle.syn_core_laws.specs.Lists.{without_one, look}
use Rattle.syn_core_laws.specs.Views.{is_derived_known, is_mine, known_row, refs_known, own_refs, own_pins, differs, is_sole, pinned, unpinned, count_loaded, key_loaded}
use Rattle.syn_core_laws.specs.Cores.{Core}
use Rattle.syn_core_laws.specs.Sound.{KnowsDerived, IsSeatSound, IsSound}
use Rattle.syn_core_laws.specs.Events.{sits, count_stored, MayPin}
use Rattle.syn_rows.proofs.Nodes.{has_there, here_or_there}
use Rattle.syn_core_laws.proofs.Listing.{and_left, and_right, or_cases, or_left, or_right, other_is, has_only, look_here, look_there, kept_look, number_there}
use Rattle.syn_core_laws.proofs.Counting.{sum_at, hits_same, hits_other, times_has, times_less, length_less, pins_at}
use Rattle.syn_core_laws.proofs.Seating.{row_there, claimant_after, claims_after, counts_after, own_le, sole_alone, sole_pins}
use Rattle.syn_core_laws.proofs.Claiming.{other_number}

-- another seat has the node neither on its zero list nor among its sole nodes
pub record IsUntouched (u : View) (n : ℕ) : Type 0 where
  pub idle : has_node u.idle n ≢ true
  pub sole : has_node u.sole n ≢ true

-- a count that changes is of no node that the other seat watches
other_count : (claims : List ℕ) (rows : List Row) (counts keys : List ℕ) (u : View) (n x : ℕ) → IsUntouched u n → IsSeatSound claims rows counts keys u → IsSeatSound claims rows (set counts n x) keys u
other_count claims rows counts keys u n x free t = record {
  holds = t.holds;
  holder = t.holder;
  knows_rows = t.knows_rows;
  knows_keys = t.knows_keys;
  idles = λ m e.
      let was = t.idles m e in
      (was.0, get_or-set_other counts n m x 0 (λ same. free.idle (subst (λ k. has_node u.idle k ≡ true) same e)) ∙ was.1);
  few = t.few;
  soles = λ m e.
      let was = t.soles m e in
      (was.0, was.1, get_or-set_other counts n m x 0 (λ same. free.sole (subst (λ k. has_node u.sole k ≡ true) same e)) ∙ was.2);
}

gate_is_used : (r : Row) → is_derived r ≡ true → r ≢ Source
gate_is_used Free h e = absurd (cc)
gate_is_used Source h e = absurd (cc)
gate_is_used (And a b) h e = absurd (cc)
gate_is_used (Alias a) h e = absurd (cc)

module _ (c : Core) (id : ℕ) (v : View) (s : IsSound c) (at : get_elem? c.seats id ≡ some v) where
  -- a known row's references are among the count
  pub refs_count : (n m : ℕ) (r : Row) → known_row v m ≡ Some r → 1 ≤ refs n r → 1 ≤ get_or c.counts n 0
  refs_count n m r e le =
      let is : row_at c.rows m ≡ r = ((s.seats id v at).knows_rows m r e).1 in
      let same : refs n (row_at c.rows m) ≡ refs n r = ap (refs n) is in
      let lt : m < length c.rows = row_there c.rows m (λ free. let no : refs n (row_at c.rows m) ≡ 0 = ap (refs n) free in omega arith) in
      let some_there : refs n (row_at c.rows m) ≤ refs_by_rows n c.rows = sum_at (length c.rows) m (λ k. refs n (row_at c.rows k)) lt in
      omega (arith, s.counted n)

  pub pins_count : (n : ℕ) → has_node v.pins n ≡ true → 1 ≤ get_or c.counts n 0
  pins_count n h = omega (arith, s.counted n, times_has n v.pins h, pins_at n c.seats id v at)

  -- a seat may pin only what is there
  pub pin_there : (n : ℕ) → MayPin v n → row_at c.rows n ≢ Free
  pin_there n (inl (inl used)) free = used.2 (sym (((s.seats id v at).knows_rows n used.0 used.1).1) ∙ free)
  pin_there n (inl (inr from)) free = elim from.3 [
    | inl e ↦ let source : row_at c.rows n ≡ Source = ap (row_at c.rows) e ∙ s.constant in absurd (cc)
    | inr le ↦ let none : get_or c.counts n 0 ≡ 0 = s.unused n free in absurd (omega (arith, refs_count n from.0 from.1 from.2 le))
  ]
  pin_there n (inr own) free = let none : get_or c.counts n 0 ≡ 0 = s.unused n free in absurd (omega (arith, pins_count n own))

  -- a seat may pin only what no other seat watches
  pub pin_untouched : (n : ℕ) → v.number < 64 → MayPin v n → (j : ℕ) (u : View) → j ≢ id → get_elem? c.seats j ≡ some u → IsUntouched u n
  pin_untouched n small (inl (inl used)) j u ne there =
      let t : IsSeatSound c.claims c.rows c.counts c.keys v = s.seats id v at in
      let k : IsSeatSound c.claims c.rows c.counts c.keys u = s.seats j u there in
      let mine : get_or c.claims n 0 ≡ suc v.number = t.holds n (t.knows_rows n used.0 used.1).0 in
      record {
        idle = λ h.
            let gate = (k.idles n h).0 in
            let theirs : get_or c.claims n 0 ≡ suc u.number = k.holds n (k.knows_rows n gate.0 gate.1).0 in
            other_number c id v s at small j u ne there (omega arith);
        sole = λ h. let theirs : get_or c.claims n 0 ≡ suc u.number = k.holds n (k.soles n h).0 in other_number c id v s at small j u ne there (omega arith);
      }
  pin_untouched n small (inl (inr from)) j u ne there = record { idle = λ h. idle_none from.3 h; sole = λ h. sole_none from.3 h }
    where
      k : IsSeatSound c.claims c.rows c.counts c.keys u
      k = s.seats j u there

      idle_none : (n ≡ 0) ⊎ (1 ≤ refs n from.1) → has_node u.idle n ≡ true → ⊥
      idle_none (inl e) h =
          let gate = (k.idles n h).0 in
          gate_is_used gate.0 gate.2 (sym (k.knows_rows n gate.0 gate.1).1 ∙ (ap (row_at c.rows) e ∙ s.constant))
      idle_none (inr le) h = let none : get_or c.counts n 0 ≡ 0 = (k.idles n h).1 in absurd (omega (arith, refs_count n from.0 from.1 from.2 le))

      sole_none : (n ≡ 0) ⊎ (1 ≤ refs n from.1) → has_node u.sole n ≡ true → ⊥
      sole_none (inl e) h = (k.soles n h).1 e
      sole_none (inr le) h =
          let mine : refs_known n (known_row v from.0) ≡ refs n from.1 = ap (refs_known n) from.2 in
          let is : row_at c.rows from.0 ≡ from.1 = ((s.seats id v at).knows_rows from.0 from.1 from.2).1 in
          let lt : from.0 < length c.rows = row_there c.rows from.0 (λ free. let no : refs n from.1 ≡ 0 = ap (refs n) (sym is ∙ free) in omega arith) in
          let none : refs_known n (known_row v from.0) ≡ 0 = sole_alone c j u s there n (λ i. refs_known n (known_row v i)) h (λ i l. two_seats i (known_row u i) refl (known_row v i) refl) from.0 lt in
          absurd (omega arith)
        where
          two_seats : (i : ℕ) (o : Option Row) → known_row u i ≡ o → (p : Option Row) → known_row v i ≡ p → refs_known n o + refs_known n p ≤ refs n (row_at c.rows i)
          two_seats i None eo p ep = let mine : refs_known n p ≤ refs n (row_at c.rows i) = subst (λ z. refs_known n z ≤ refs n (row_at c.rows i)) ep (own_le c id v s at n i) in omega arith
          two_seats i (Some r) eo None ep = let theirs : refs_known n (Some r) ≤ refs n (row_at c.rows i) = subst (λ z. refs_known n z ≤ refs n (row_at c.rows i)) eo (own_le c j u s there n i) in omega arith
          two_seats i (Some r) eo (Some q) ep =
              let theirs : get_or c.claims i 0 ≡ suc u.number = k.holds i (k.knows_rows i r eo).0 in
              let mine : get_or c.claims i 0 ≡ suc v.number = (s.seats id v at).holds i ((s.seats id v at).knows_rows i q ep).0 in
              absurd (other_number c id v s at small j u ne there (omega arith))
  pin_untouched n small (inr own) j u ne there = record {
    idle = λ h. let none : get_or c.counts n 0 ≡ 0 = ((s.seats j u there).idles n h).1 in absurd (omega (arith, pins_count n own));
    sole = λ h. let none : times n v.pins ≡ 0 = sole_pins c j u s there n id v h (λ e. ne (sym e)) at in absurd (omega (arith, times_has n v.pins own));
  }

  -- a pin
  pub pin_sound : (n : ℕ) → v.number < 64 → MayPin v n → length v.pins < 512 → IsSound (count_stored c id (pinned v n) n (suc (get_or c.counts n 0)))
  pin_sound n small may room =
      let t : IsSeatSound c.claims c.rows c.counts c.keys v = s.seats id v at in
      let used : row_at c.rows n ≢ Free = pin_there n may in
      let inside : n < length c.counts = omega (arith, s.counts_count, row_there c.rows n used) in
      let counts : List ℕ = set c.counts n (suc (get_or c.counts n 0)) in
      let here : get_or counts n 0 ≡ suc (get_or c.counts n 0) = get_or-set_same c.counts n (suc (get_or c.counts n 0)) 0 inside in
      let there : (m : ℕ) → m ≢ n → get_or counts m 0 ≡ get_or c.counts m 0 = λ m ne. get_or-set_other c.counts n m (suc (get_or c.counts n 0)) 0 ne in
      counts_after c id v (pinned v n) s at refl counts (length-set c.counts n (suc (get_or c.counts n 0))) refl refl
      (λ m. elim (cases_eq m n) [
        | inl e ↦
            let one : hits m n ≡ 1 = subst (λ k. hits m k ≡ 1) e (hits_same m) in
            let new : get_or counts m 0 ≡ suc (get_or c.counts m 0) = subst (λ k. get_or counts k 0 ≡ suc (get_or c.counts k 0)) (sym e) here in
            omega arith
        | inr ne ↦ let none : hits m n ≡ 0 = hits_other m n ne in omega (arith, there m ne)
      ])
      (λ m free. there m (λ e. used (ap (row_at c.rows) (sym e) ∙ free)) ∙ s.unused m free)
      (λ j u ne at_j. other_count c.claims c.rows c.counts c.keys u n (suc (get_or c.counts n 0)) (pin_untouched n small may j u ne at_j) (s.seats j u at_j))
      record {
        holds = t.holds;
        holder = t.holder;
        knows_rows = t.knows_rows;
        knows_keys = λ m k e.
            let was = t.knows_keys m k e in (
              elim (or_cases (has_node v.held m) (has_node v.pins m) was.0) [
                | inl h ↦ or_left (has_node v.held m) (has_node (n ∷ v.pins) m) h
                | inr h ↦ or_right (has_node v.held m) (has_node (n ∷ v.pins) m) (has_there n m v.pins h)
              ],
              was.1,
            );
        idles = λ m e.
            let h = has_only (differs n) m v.idle e in
            let was = t.idles m h.0 in
            (was.0, there m (other_is n m h.1) ∙ was.1);
        few = omega arith;
        soles = λ m e.
            let was = t.soles m e in (
              was.0,
              was.1,
              elim (cases_eq m n) [
                | inl same ↦
                    let one : hits m n ≡ 1 = subst (λ k. hits m k ≡ 1) same (hits_same m) in
                    let new : get_or counts m 0 ≡ suc (get_or c.counts m 0) = subst (λ k. get_or counts k 0 ≡ suc (get_or c.counts k 0)) (sym same) here in
                    omega (arith, was.2)
                | inr ne ↦ let none : hits m n ≡ 0 = hits_other m n ne in omega (arith, there m ne, was.2)
              ],
            );
      }

  -- a pin is taken back
  pub unpin_sound : (n : ℕ) → v.number < 64 → has_node v.pins n ≡ true → IsSound (count_stored c id (unpinned v n (get_or c.counts n 0)) n (get_or c.counts n 0 - 1))
  unpin_sound n small own =
      let t : IsSeatSound c.claims c.rows c.counts c.keys v = s.seats id v at in
      let count : ℕ = get_or c.counts n 0 in
      let some_there : 1 ≤ count = pins_count n own in
      let inside : n < length c.counts = number_there c.counts n (λ e. omega arith) in
      let counts : List ℕ = set c.counts n (count - 1) in
      let here : get_or counts n 0 ≡ count - 1 = get_or-set_same c.counts n (count - 1) 0 inside in
      let there : (m : ℕ) → m ≢ n → get_or counts m 0 ≡ get_or c.counts m 0 = λ m ne. get_or-set_other c.counts n m (count - 1) 0 ne in
      let fewer : (m : ℕ) → times m (without_one n v.pins) + hits m n ≡ times m v.pins = λ m. times_less m n v.pins (times_has n v.pins own) in
      let move : (m : ℕ) → get_or counts m 0 + hits m n ≡ get_or c.counts m 0 = λ m. elim (cases_eq m n) [
        | inl e ↦
            let one : hits m n ≡ 1 = subst (λ k. hits m k ≡ 1) e (hits_same m) in
            let new : get_or counts m 0 ≡ count - 1 = subst (λ k. get_or counts k 0 ≡ count - 1) (sym e) here in
            let old : get_or c.counts m 0 ≡ count = ap (λ k. get_or c.counts k 0) e in
            omega arith
        | inr ne ↦ let none : hits m n ≡ 0 = hits_other m n ne in omega (arith, there m ne)
      ] in
      counts_after c id v (unpinned v n count) s at refl counts (length-set c.counts n (count - 1)) refl refl
      (λ m. omega (arith, move m, fewer m))
      (λ m free. let none : get_or c.counts m 0 ≡ 0 = s.unused m free in omega (arith, move m))
      (λ j u ne at_j. other_count c.claims c.rows c.counts c.keys u n (count - 1) (pin_untouched n small (inr own) j u ne at_j) (s.seats j u at_j))
      record {
        holds = t.holds;
        holder = t.holder;
        knows_rows = t.knows_rows;
        knows_keys = λ m k e.
            let h = kept_look (is_mine (record v { pins = without_one n v.pins })) m k v.keys e in
            (h.1, (t.knows_keys m k h.0).1);
        idles = λ m e. unpin_idles n m count refl (known_row v n) refl (nat_eq count 1) refl some_there here there t e;
        few = omega (arith, length_less n v.pins, t.few);
        soles = λ m e. let was = t.soles m e in (was.0, was.1, omega (arith, was.2, move m, fewer m));
      }
    where
      old_idle : (n m count : ℕ) → count ≡ get_or c.counts n 0 → 1 ≤ count → ((k : ℕ) → k ≢ n → get_or (set c.counts n (count - 1)) k 0 ≡ get_or c.counts k 0)
          → IsSeatSound c.claims c.rows c.counts c.keys v → has_node v.idle m ≡ true → KnowsDerived v m × (get_or (set c.counts n (count - 1)) m 0 ≡ 0)
      old_idle n m count is le there t e =
          let was = t.idles m e in
          (was.0, there m (λ same. let zero_there : get_or c.counts n 0 ≡ 0 = ap (λ k. get_or c.counts k 0) (sym same) ∙ was.1 in absurd (omega arith)) ∙ was.1)

      new_idle : (n m count : ℕ) (r : Row) (g : Bool) → is_derived r ≡ g → count ≡ get_or c.counts n 0 → known_row v n ≡ Some r → nat_eq count 1 ≡ true → 1 ≤ count
          → get_or (set c.counts n (count - 1)) n 0 ≡ count - 1 → ((k : ℕ) → k ≢ n → get_or (set c.counts n (count - 1)) k 0 ≡ get_or c.counts k 0)
          → IsSeatSound c.claims c.rows c.counts c.keys v
          → has_node (if g then n ∷ v.idle else v.idle) m ≡ true → KnowsDerived v m × (get_or (set c.counts n (count - 1)) m 0 ≡ 0)
      new_idle n m count r false eg is eo eb le here there t e = old_idle n m count is le there t e
      new_idle n m count r true eg is eo eb le here there t e = elim (here_or_there n m v.idle e) [
        | inl same ↦
            let one : count ≡ 1 = eqb-true count 1 eb in
            let none : get_or (set c.counts n (count - 1)) n 0 ≡ 0 = omega arith in
            (subst (λ k. KnowsDerived v k) (sym same) (r, eo, eg), ap (λ k. get_or (set c.counts n (count - 1)) k 0) same ∙ none)
        | inr was ↦ old_idle n m count is le there t was
      ]

      unpin_idles : (n m count : ℕ) → count ≡ get_or c.counts n 0 → (o : Option Row) → known_row v n ≡ o → (b : Bool) → nat_eq count 1 ≡ b → 1 ≤ count
          → get_or (set c.counts n (count - 1)) n 0 ≡ count - 1 → ((k : ℕ) → k ≢ n → get_or (set c.counts n (count - 1)) k 0 ≡ get_or c.counts k 0)
          → IsSeatSound c.claims c.rows c.counts c.keys v
          → has_node (if b && is_derived_known o then n ∷ v.idle else v.idle) m ≡ true → KnowsDerived v m × (get_or (set c.counts n (count - 1)) m 0 ≡ 0)
      unpin_idles n m count is o eo false eb le here there t e = old_idle n m count is le there t e
      unpin_idles n m count is None eo true eb le here there t e = old_idle n m count is le there t e
      unpin_idles n m count is (Some r) eo true eb le here there t e = new_idle n m count r (is_derived r) refl is eo eb le here there t e

  -- the count of a held node is loaded
  pub load_count_sound : (n : ℕ) → has_node v.held n ≡ true → IsSound (sits c id (count_loaded (length c.rows) v n (get_or c.counts n 0)))
  load_count_sound n mine =
      let t : IsSeatSound c.claims c.rows c.counts c.keys v = s.seats id v at in
      claims_after c id v (count_loaded (length c.rows) v n (get_or c.counts n 0)) s at refl c.claims refl (λ m e. claimant_after c.seats id v (count_loaded (length c.rows) v n (get_or c.counts n 0)) m at (λ h. h) (s.claimant m e)) refl refl (λ j u ne there. s.seats j u there)
      record {
        holds = t.holds;
        holder = t.holder;
        knows_rows = t.knows_rows;
        knows_keys = t.knows_keys;
        idles = t.idles;
        few = t.few;
        soles = λ m e. load_soles n m mine (is_sole (length c.rows) v n (get_or c.counts n 0)) refl t e;
      }
    where
      load_soles : (n m : ℕ) → has_node v.held n ≡ true → (b : Bool) → is_sole (length c.rows) v n (get_or c.counts n 0) ≡ b → IsSeatSound c.claims c.rows c.counts c.keys v
          → has_node (if b then n ∷ v.sole else v.sole) m ≡ true → (has_node v.held m ≡ true) × (m ≢ 0) × (get_or c.counts m 0 ≡ own_refs (length c.rows) v m + own_pins v m)
      load_soles n m mine false eb t e = t.soles m e
      load_soles n m mine true eb t e = elim (here_or_there n m v.sole e) [
        | inl same ↦
            let nonzero : n ≢ 0 = other_is 0 n (and_left (differs 0 n) (nat_eq (get_or c.counts n 0) (own_refs (length c.rows) v n + own_pins v n)) eb) in
            let equal : get_or c.counts n 0 ≡ own_refs (length c.rows) v n + own_pins v n =
            eqb-true (get_or c.counts n 0) (own_refs (length c.rows) v n + own_pins v n) (and_right (differs 0 n) (nat_eq (get_or c.counts n 0) (own_refs (length c.rows) v n + own_pins v n)) eb) in
            subst (λ k. (has_node v.held k ≡ true) × (k ≢ 0) × (get_or c.counts k 0 ≡ own_refs (length c.rows) v k + own_pins v k)) (sym same) (mine, nonzero, equal)
        | inr was ↦ t.soles m was
      ]

  -- the key of a held or pinned node is loaded
  pub load_key_sound : (n : ℕ) → is_mine v n ≡ true → IsSound (sits c id (key_loaded v n (get_or c.keys n 0)))
  load_key_sound n mine =
      let t : IsSeatSound c.claims c.rows c.counts c.keys v = s.seats id v at in
      let key : ℕ = get_or c.keys n 0 in
      claims_after c id v (key_loaded v n key) s at refl c.claims refl (λ m e. claimant_after c.seats id v (key_loaded v n key) m at (λ h. h) (s.claimant m e)) refl refl (λ j u ne there. s.seats j u there)
      record {
        holds = t.holds;
        holder = t.holder;
        knows_rows = t.knows_rows;
        knows_keys = λ m k e. elim (cases_eq m n) [
          | inl same ↦
              let is : look m ((n, key) ∷ v.keys) ≡ Some key = subst (λ z. look z ((n, key) ∷ v.keys) ≡ Some key) (sym same) (look_here n key v.keys) in
              let equal : key ≡ k = let x : Some key ≡ Some k = sym is ∙ e in cc in
              (subst (λ z. is_mine v z ≡ true) (sym same) mine, ap (λ z. get_or c.keys z 0) same ∙ equal)
          | inr ne ↦ t.knows_keys m k (sym (look_there m n key v.keys ne) ∙ e)
        ];
        idles = t.idles;
        few = t.few;
        soles = t.soles;
      }

  -- ---- a sole node's count is no other seat's to change
  pub count_stays : (n m j x : ℕ) (u : View) → v.number < 64 → MayPin v n → j ≢ id → get_elem? c.seats j ≡ some u → has_node u.sole m ≡ true → get_or (set c.counts n x) m 0 ≡ get_or c.counts m 0
  count_stays n m j x u small may ne there h =
      let free : IsUntouched u n = pin_untouched n small may j u ne there in
      get_or-set_other c.counts n m x 0 (λ same. free.sole (subst (λ k. has_node u.sole k ≡ true) same h))
