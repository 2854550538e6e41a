-- Set key, make, redefine and free keep the core sound.
use Rattle.std.proofs.Common.{◌≡◌, ◌≢◌, ℕ, zero, suc, ◌+◌, ◌<◌, ◌≤◌, ◌||◌, Bool, true, false, nat_eq, if◌then◌else◌, List, [], ◌∷◌, ◌++◌, length, set, get_or, length-set, Some, refl, sym, ap, ◌∙◌, subst, arith, inl, inr, eq-zero-or-pos, if◌then◌else◌, ℤ, pos, ◌+ℤ◌, ◌-ℤ◌}
use Rattle.std.proofs.lemmas.List.{get_or-set_same, get_or-set_other}
use Rattle.std.proofs.lemmas.Bool.{cases_eq, eqb-true}
use Rattle.std.proofs.lemmas.Int.{ints}
use mathlib.Core.Option.{some}
use lib.ListN.{get_elem?}
use Rattle.syn_rows.specs.declared.Row.{Row}
use Rattle.syn_rows.specs.declared.Row.TheVariants.{Free, Source, And, Alias}
use Rattle.syn_rows.specs.Rows.{row_at, refs_of, AllRefs, is_derived}
use Rattle.syn_rows.specs.Values.{RowFits, Fits, SameSources}
use Rattle.syn_rows.specs.References.{times, refs, and_count, all_ands, sum_below, refs_by_rows, refs_by_literals}
use Rattle.syn_core_laws.specs.declared.View.{View}
use Rattle.syn_core_laws.specs.declared.Change.{Change}
use Rattle.syn_core_laws.specs.declared.Made.{Made}
use Rattle.syn_rows.specs.Nodes.{has_node}
use Rattle.syn_core_laws.specs.Lists.{only, without_each, look, kept}
use Rattle.syn_core_laws.specs.Views.{is_mine, known_row, known_key, refs_known, own_refs, differs, key_set, last_key, made, redefined, freed, pins_after}
use Rattle.syn_core_laws.specs.Cores.{Core, all_pins, differences}
use Rattle.syn_core_laws.specs.Sound.{RowRests, KnowsDerived, Agree, IsSeatSound, IsSound}
use Rattle.syn_core_laws.specs.Events.{key_stored, row_stored, KeyBelow, MayRest, IsAnd}
use Rattle.syn_core_laws.specs.SameValue.{SameValue}
use Rattle.syn_rows.proofs.Nodes.{has_right, here_or_there}
use Rattle.syn_core_laws.proofs.Listing.{or_cases, or_left, or_right, other_is, has_only, look_here, look_there, kept_look, number_there}
use Rattle.syn_core_laws.proofs.Counting.{sum_change, sum_at, has_times, times_append, times_less_each, length_less_each, pins_set, differences_set}
use Rattle.syn_core_laws.proofs.Seating.{row_there, claimant_after, apart_after, each_after}
use Rattle.syn_core_laws.proofs.Claiming.{other_number}
use Rattle.syn_core_laws.proofs.Pinning.{pins_count}
use Rattle.syn_core_laws.proofs.Fitting.{all_refs, same_fits, gate_value, moved, moved_there, fits_moved, fits_itself, agree_moved}

row_past : (rows : List Row) (n : ℕ) → length rows ≤ n → row_at rows n ≡ Free
row_past [] n le = refl
row_past (r ∷ rs) zero le = absurd (omega arith)
row_past (r ∷ rs) (suc n) le = row_past rs n (omega arith)

module _ (c : Core) (id : ℕ) (v : View) (s : IsSound c) (at : get_elem? c.seats id ≡ some v) where
  pub held_there : (n : ℕ) → has_node v.held n ≡ true → n < length c.rows
  held_there n mine = let is : get_or c.claims n 0 ≡ suc v.number = (s.seats id v at).holds n mine in omega (arith, number_there c.claims n (λ e. omega arith), s.claims_count)

  -- no other seat holds it
  held_alone : (n : ℕ) → v.number < 64 → has_node v.held n ≡ true → (j : ℕ) (u : View) → j ≢ id → get_elem? c.seats j ≡ some u → has_node u.held n ≢ true
  held_alone n small mine j u ne there h =
      let ours : get_or c.claims n 0 ≡ suc v.number = (s.seats id v at).holds n mine in
      let theirs : get_or c.claims n 0 ≡ suc u.number = (s.seats j u there).holds n h in
      other_number c id v s at small j u ne there (omega arith)

  -- the key of a node that is free and held
  pub set_key_sound : (n key : ℕ) → v.number < 64 → known_row v n ≡ Some Free → IsSound (key_stored c id (key_set v n key) n key)
  set_key_sound n key small known =
      let t : IsSeatSound c.claims c.rows c.counts c.keys v = s.seats id v at in
      let mine : has_node v.held n ≡ true = (t.knows_rows n Free known).0 in
      let free : row_at c.rows n ≡ Free = (t.knows_rows n Free known).1 in
      let inside : n < length c.keys = omega (arith, s.keys_count, held_there n mine) in
      let here : get_or (set c.keys n key) n 0 ≡ key = get_or-set_same c.keys n key 0 inside in
      let there : (m : ℕ) → m ≢ n → get_or (set c.keys n key) m 0 ≡ get_or c.keys m 0 = λ m ne. get_or-set_other c.keys n m key 0 ne in
      let used : (m : ℕ) → row_at c.rows m ≢ Free → m ≢ n = λ m u e. u (ap (row_at c.rows) e ∙ free) in
      record {
        claims_count = s.claims_count;
        counts_count = s.counts_count;
        keys_count = length-set c.keys n key ∙ s.keys_count;
        apart = apart_after c.seats id v (key_set v n key) at refl s.apart;
        claimant = λ m e. claimant_after c.seats id v (key_set v n key) m at (λ h. h) (s.claimant m e);
        constant = s.constant;
        source_stays = s.source_stays;
        source_was = s.source_was;
        source_keys = λ m e. there m (λ same. let no : Free ≡ Source = sym free ∙ (ap (row_at c.rows) (sym same) ∙ e) in absurd (cc)) ∙ s.source_keys m e;
        unused = s.unused;
        rests = λ i. elim (cases_eq i n) [
          | inl e ↦ subst (λ (r : Row). RowRests c.rows (set c.keys n key) i r) (sym (ap (row_at c.rows) e ∙ free)) tt
          | inr ne ↦ all_refs (λ m. (row_at c.rows m ≢ Free) × (get_or c.keys m 0 < get_or c.keys i 0)) (λ m. (row_at c.rows m ≢ Free) × (get_or (set c.keys n key) m 0 < get_or (set c.keys n key) i 0)) (row_at c.rows i)
              (λ m one h. (h.0, omega (arith, h.1, there m (used m h.0), there i ne))) (s.rests i)
        ];
        counted = λ m.
            let moved_pins : all_pins m (set c.seats id (key_set v n key)) + times m v.pins ≡ all_pins m c.seats + times m v.pins = pins_set m c.seats id v (key_set v n key) at in
            omega (arith, s.counted m);
        values = s.values;
        and_rows =
            let moved_sum : differences (set c.seats id (key_set v n key)) +ℤ v.difference ≡ differences c.seats +ℤ v.difference = differences_set c.seats id v (key_set v n key) at in
            let was = s.and_rows in
            omega (arith, ints);
        seats = each_after c.seats id v (key_set v n key) (IsSeatSound c.claims c.rows c.counts (set c.keys n key))
            (λ j u ne at_j. let k : IsSeatSound c.claims c.rows c.counts c.keys u = s.seats j u at_j in record {
              holds = k.holds;
              holder = k.holder;
              knows_rows = k.knows_rows;
              knows_keys = λ m x e.
                  let was = k.knows_keys m x e in (
                    was.0,
                    there m (λ same. elim (or_cases (has_node u.held m) (has_node u.pins m) was.0) [
                      | inl h ↦ held_alone n small mine j u ne at_j (subst (λ z. has_node u.held z ≡ true) same h)
                      | inr h ↦
                          let some_there : 1 ≤ get_or c.counts n 0 = pins_count c j u s at_j n (subst (λ z. has_node u.pins z ≡ true) same h) in
                          let none : get_or c.counts n 0 ≡ 0 = s.unused n free in
                          absurd (omega arith)
                    ]) ∙ was.1,
                  );
              idles = k.idles;
              few = k.few;
              soles = k.soles;
            })
            record {
              holds = t.holds;
              holder = t.holder;
              knows_rows = t.knows_rows;
              knows_keys = λ m x e. elim (cases_eq m n) [
                | inl same ↦
                    let is : look m ((n, key) ∷ v.keys) ≡ Some key = subst (λ z. look z ((n, key) ∷ v.keys) ≡ Some key) (sym same) (look_here n key v.keys) in
                    let equal : key ≡ x = let y : Some key ≡ Some x = sym is ∙ e in cc in
                    (or_left (has_node v.held m) (has_node v.pins m) (subst (λ z. has_node v.held z ≡ true) (sym same) mine), ap (λ z. get_or (set c.keys n key) z 0) same ∙ (here ∙ equal))
                | inr ne ↦ let was = t.knows_keys m x (sym (look_there m n key v.keys ne) ∙ e) in (was.0, there m ne ∙ was.1)
              ];
              idles = t.idles;
              few = t.few;
              soles = t.soles;
            };
      }

-- a row that a seat stores into a node that it holds
module _ (c : Core) (id : ℕ) (v : View) (s : IsSound c) (at : get_elem? c.seats id ≡ some v) (small : v.number < 64)
    (n : ℕ) (old row : Row) (known : known_row v n ≡ Some old) (was_no_source : old ≢ Source) (is_no_source : row ≢ Source)
    (pins : List ℕ) (told : List (ℕ × ℕ)) (idle : List ℕ) (changes : List Change) (makes : List Made) (difference : ℤ) where
  abbrev storing : View
  storing = record v { pins = pins; rows = (n, row) ∷ v.rows; keys = told; idle = idle; changes = changes; makes = makes; difference = difference }

  store_sound : (row ≡ Free → get_or c.counts n 0 ≡ 0)
      → ((i : ℕ) → RowRests (set c.rows n row) c.keys i (row_at (set c.rows n row) i))
      → ((m : ℕ) → refs m row + times m pins ≡ refs m old + times m v.pins)
      → ((x w : ℕ → Bool) → Fits (set c.rows n row) x → Fits c.opening w → SameSources c.opening x w → Agree c.observed x w)
      → pos (and_count row) +ℤ v.difference ≡ pos (and_count old) +ℤ difference
      → ((m k : ℕ) → look m told ≡ Some k → ((has_node v.held m || has_node pins m) ≡ true) × (get_or c.keys m 0 ≡ k))
      → ((m : ℕ) → has_node idle m ≡ true → ((r : Row) × (look m ((n, row) ∷ v.rows) ≡ Some r) × (is_derived r ≡ true)) × (get_or c.counts m 0 ≡ 0))
      → length pins ≤ 512
      → IsSound (row_stored c id storing n row)
  store_sound unused rests move values sum keys idles few =
      let t : IsSeatSound c.claims c.rows c.counts c.keys v = s.seats id v at in
      let mine : has_node v.held n ≡ true = (t.knows_rows n old known).0 in
      let was_old : row_at c.rows n ≡ old = (t.knows_rows n old known).1 in
      let inside : n < length c.rows = held_there c id v s at n mine in
      let long : length (set c.rows n row) ≡ length c.rows = length-set c.rows n row in
      let here : row_at (set c.rows n row) n ≡ row = get_or-set_same c.rows n row Free inside in
      let there : (m : ℕ) → m ≢ n → row_at (set c.rows n row) m ≡ row_at c.rows m = λ m ne. get_or-set_other c.rows n m row Free ne in
      let no_source : (m : ℕ) → row_at c.rows m ≡ Source → m ≢ n = λ m e same. was_no_source (sym was_old ∙ (ap (row_at c.rows) (sym same) ∙ e)) in
      let no_new : (m : ℕ) → row_at (set c.rows n row) m ≡ Source → m ≢ n = λ m e same. is_no_source (sym here ∙ (ap (row_at (set c.rows n row)) (sym same) ∙ e)) in
      record {
        claims_count = s.claims_count ∙ sym long;
        counts_count = s.counts_count ∙ sym long;
        keys_count = s.keys_count ∙ sym long;
        apart = apart_after c.seats id v storing at refl s.apart;
        claimant = λ m e. claimant_after c.seats id v storing m at (λ h. h) (s.claimant m e);
        constant = there 0 (no_source 0 s.constant) ∙ s.constant;
        source_stays = λ m e. there m (no_source m (s.source_stays m e)) ∙ s.source_stays m e;
        source_was = λ m e. s.source_was m (sym (there m (no_new m e)) ∙ e);
        source_keys = λ m e. s.source_keys m (sym (there m (no_new m e)) ∙ e);
        unused = λ m e. elim (cases_eq m n) [
          | inl same ↦ ap (λ z. get_or c.counts z 0) same ∙ unused (sym here ∙ (ap (row_at (set c.rows n row)) (sym same) ∙ e))
          | inr ne ↦ s.unused m (sym (there m ne) ∙ e)
        ];
        rests = rests;
        counted = λ m.
            let by_rows : refs_by_rows m (set c.rows n row) ≡ sum_below (length c.rows) (λ i. refs m (row_at (set c.rows n row) i)) = ap (λ k. sum_below k (λ i. refs m (row_at (set c.rows n row) i))) long in
            let change : sum_below (length c.rows) (λ i. refs m (row_at (set c.rows n row) i)) + refs m (row_at c.rows n) ≡ refs_by_rows m c.rows + refs m (row_at (set c.rows n row) n) =
            sum_change (length c.rows) n (λ i. refs m (row_at (set c.rows n row) i)) (λ i. refs m (row_at c.rows i)) inside (λ i ne. ap (refs m) (there i ne)) in
            let one : refs m (row_at c.rows n) ≡ refs m old = ap (refs m) was_old in
            let two : refs m (row_at (set c.rows n row) n) ≡ refs m row = ap (refs m) here in
            let moved_pins : all_pins m (set c.seats id storing) + times m v.pins ≡ all_pins m c.seats + times m pins = pins_set m c.seats id v storing at in
            let was : get_or c.counts m 0 ≡ refs_by_rows m c.rows + refs_by_literals m c.observed + all_pins m c.seats = s.counted m in
            omega (arith, move m);
        values = values;
        and_rows =
            let by_rows : all_ands (set c.rows n row) ≡ sum_below (length c.rows) (λ i. and_count (row_at (set c.rows n row) i)) = ap (λ k. sum_below k (λ i. and_count (row_at (set c.rows n row) i))) long in
            let change : sum_below (length c.rows) (λ i. and_count (row_at (set c.rows n row) i)) + and_count (row_at c.rows n) ≡ all_ands c.rows + and_count (row_at (set c.rows n row) n) =
            sum_change (length c.rows) n (λ i. and_count (row_at (set c.rows n row) i)) (λ i. and_count (row_at c.rows i)) inside (λ i ne. ap and_count (there i ne)) in
            let one : and_count (row_at c.rows n) ≡ and_count old = ap and_count was_old in
            let two : and_count (row_at (set c.rows n row) n) ≡ and_count row = ap and_count here in
            let moved_sum : differences (set c.seats id storing) +ℤ v.difference ≡ differences c.seats +ℤ difference = differences_set c.seats id v storing at in
            and_sum (all_ands (set c.rows n row)) (all_ands c.rows) (all_ands c.opening) (and_count old) (and_count row) (differences c.seats) (differences (set c.seats id storing)) v.difference difference
            (omega arith) s.and_rows moved_sum sum;
        seats = each_after c.seats id v storing (IsSeatSound c.claims (set c.rows n row) c.counts c.keys)
            (λ j u ne at_j. let k : IsSeatSound c.claims c.rows c.counts c.keys u = s.seats j u at_j in record {
              holds = k.holds;
              holder = k.holder;
              knows_rows = λ m r e.
                  let was = k.knows_rows m r e in
                  (was.0, there m (λ same. held_alone c id v s at n small mine j u ne at_j (subst (λ z. has_node u.held z ≡ true) same was.0)) ∙ was.1);
              knows_keys = k.knows_keys;
              idles = k.idles;
              few = k.few;
              soles = λ m e.
                  let was = k.soles m e in
                  let same : own_refs (length (set c.rows n row)) u m ≡ own_refs (length c.rows) u m = ap (λ z. own_refs z u m) long in
                  (was.0, was.1, omega (arith, was.2));
            })
            record {
              holds = t.holds;
              holder = t.holder;
              knows_rows = λ m r e. elim (cases_eq m n) [
                | inl same ↦
                    let is : look m ((n, row) ∷ v.rows) ≡ Some row = subst (λ z. look z ((n, row) ∷ v.rows) ≡ Some row) (sym same) (look_here n row v.rows) in
                    let equal : row ≡ r = let y : Some row ≡ Some r = sym is ∙ e in cc in
                    (subst (λ z. has_node v.held z ≡ true) (sym same) mine, ap (row_at (set c.rows n row)) same ∙ (here ∙ equal))
                | inr ne ↦ let was = t.knows_rows m r (sym (look_there m n row v.rows ne) ∙ e) in (was.0, there m ne ∙ was.1)
              ];
              knows_keys = keys;
              idles = idles;
              few = few;
              soles = λ m e.
                  let was = t.soles m e in
                  let size : own_refs (length (set c.rows n row)) storing m ≡ own_refs (length c.rows) storing m = ap (λ z. own_refs z storing m) long in
                  let change : own_refs (length c.rows) storing m + refs_known m (known_row v n) ≡ own_refs (length c.rows) v m + refs_known m (known_row storing n) =
                  sum_change (length c.rows) n (λ i. refs_known m (known_row storing i)) (λ i. refs_known m (known_row v i)) inside (λ i ne. ap (refs_known m) (look_there i n row v.rows ne)) in
                  let one : refs_known m (known_row v n) ≡ refs m old = ap (refs_known m) known in
                  let two : refs_known m (known_row storing n) ≡ refs m row = ap (refs_known m) (look_here n row v.rows) in
                  (was.0, was.1, omega (arith, was.2, move m));
            };
      }
    where
      and_sum : (after before first o r : ℕ) (d e x y : ℤ) → after + o ≡ before + r → pos before ≡ pos first +ℤ d → e +ℤ x ≡ d +ℤ y → pos r +ℤ x ≡ pos o +ℤ y → pos after ≡ pos first +ℤ e
      and_sum after before first o r d e x y h1 h2 h3 h4 = omega (arith, ints)

gate_no_source : (r : Row) → is_derived r ≡ true → r ≢ Source
gate_no_source Free h e = absurd (cc)
gate_no_source Source h e = absurd (cc)
gate_no_source (And a b) h e = absurd (cc)
gate_no_source (Alias a) h e = absurd (cc)

gate_no_free : (r : Row) → is_derived r ≡ true → r ≢ Free
gate_no_free Free h e = absurd (cc)
gate_no_free Source h e = absurd (cc)
gate_no_free (And a b) h e = absurd (cc)
gate_no_free (Alias a) h e = absurd (cc)

module _ (c : Core) (id : ℕ) (v : View) (s : IsSound c) (at : get_elem? c.seats id ≡ some v) (small : v.number < 64) where
  -- a known key is the word
  pub key_is : (m k : ℕ) → known_key v m ≡ Some k → get_or c.keys m 0 ≡ k
  key_is m k e = go (nat_eq m 0) refl e
    where
      go : (b : Bool) → nat_eq m 0 ≡ b → (if b then Some 0 else look m v.keys) ≡ Some k → get_or c.keys m 0 ≡ k
      go true is h = let zero_there : 0 ≡ k = cc in ap (λ z. get_or c.keys z 0) (eqb-true m 0 is) ∙ (s.source_keys 0 s.constant ∙ zero_there)
      go false is h = ((s.seats id v at).knows_keys m k h).1

  -- the row's nodes are there, with smaller keys
  may_rests : (n : ℕ) (row : Row) → MayRest v (get_or c.keys n 0) row → RowRests c.rows c.keys n row
  may_rests n row may =
      all_refs (KeyBelow v (get_or c.keys n 0)) (λ m. (row_at c.rows m ≢ Free) × (get_or c.keys m 0 < get_or c.keys n 0)) row
      (λ m one below.
      let pinned_there : 1 ≤ get_or c.counts m 0 = pins_count c id v s at m (has_times m v.pins (omega (arith, may.0 m))) in
      let theirs : get_or c.keys m 0 ≡ below.0 = key_is m below.0 below.1 in
      ((λ free. let none : get_or c.counts m 0 ≡ 0 = s.unused m free in absurd (omega arith)), omega (arith, below.2)))
      may.1

  -- all rows rest on what is there after a row that isn't free is stored
  rests_after : (n : ℕ) (row : Row) → n < length c.rows → row ≢ Free → RowRests c.rows c.keys n row → (i : ℕ) → RowRests (set c.rows n row) c.keys i (row_at (set c.rows n row) i)
  rests_after n row inside used rest i =
      let here : row_at (set c.rows n row) n ≡ row = get_or-set_same c.rows n row Free inside in
      let keeps : (k : ℕ) (r : Row) → RowRests c.rows c.keys k r → RowRests (set c.rows n row) c.keys k r =
      λ k r. all_refs (λ m. (row_at c.rows m ≢ Free) × (get_or c.keys m 0 < get_or c.keys k 0)) (λ m. (row_at (set c.rows n row) m ≢ Free) × (get_or c.keys m 0 < get_or c.keys k 0)) r
      (λ m one h. (
        (λ free. elim (cases_eq m n) [
          | inl e ↦ used (sym here ∙ (ap (row_at (set c.rows n row)) (sym e) ∙ free))
          | inr ne ↦ h.0 (sym (get_or-set_other c.rows n m row Free ne) ∙ free)
        ]),
        h.1,
      )) in
      elim (cases_eq i n) [
        | inl e ↦ subst (λ z. RowRests (set c.rows n row) c.keys z (row_at (set c.rows n row) z)) (sym e) (subst (λ r. RowRests (set c.rows n row) c.keys n r) (sym here) (keeps n row rest))
        | inr ne ↦ subst (λ r. RowRests (set c.rows n row) c.keys i r) (sym (get_or-set_other c.rows n i row Free ne)) (keeps i (row_at c.rows i) (s.rests i))
      ]

  known_after : (n : ℕ) (row : Row) → is_derived row ≡ true → (m : ℕ) → KnowsDerived v m → (r : Row) × (look m ((n, row) ∷ v.rows) ≡ Some r) × (is_derived r ≡ true)
  known_after n row gate m was = elim (cases_eq m n) [
    | inl same ↦ (row, subst (λ z. look z ((n, row) ∷ v.rows) ≡ Some row) (sym same) (look_here n row v.rows), gate)
    | inr ne ↦ (was.0, look_there m n row v.rows ne ∙ was.1, was.2)
  ]

  -- an `And` row is stored into a free node
  pub make_sound : (n : ℕ) (row : Row) → known_row v n ≡ Some Free → IsAnd row → MayRest v (get_or c.keys n 0) row → IsSound (row_stored c id (made v n row) n row)
  make_sound n row known is_and may =
      let t : IsSeatSound c.claims c.rows c.counts c.keys v = s.seats id v at in
      let mine : has_node v.held n ≡ true = (t.knows_rows n Free known).0 in
      let free : row_at c.rows n ≡ Free = (t.knows_rows n Free known).1 in
      let inside : n < length c.rows = held_there c id v s at n mine in
      let is : row ≡ And is_and.0 is_and.1 = is_and.2 in
      let gate : is_derived row ≡ true = ap is_derived is in
      let one_more : and_count row ≡ 1 = ap and_count is in
      store_sound c id v s at small n Free row known (λ e. absurd (cc)) (gate_no_source row gate)
      (without_each (refs_of row) v.pins) (kept (is_mine (record v { pins = without_each (refs_of row) v.pins })) v.keys) (n ∷ v.idle) v.changes (v.makes ++ (record { node = n; row = row; key = last_key v n }) ∷ []) (v.difference +ℤ pos 1)
      (λ e. absurd (gate_no_free row gate e))
      (rests_after n row inside (gate_no_free row gate) (may_rests n row may))
      (λ m. omega (arith, times_less_each m (refs_of row) v.pins may.0))
      (λ x w fits was same. s.values x w record {
        constant = fits.constant;
        each = λ m. elim (cases_eq m n) [
          | inl e ↦ subst (λ (r : Row). RowFits x m r) (sym (ap (row_at c.rows) e ∙ free)) tt
          | inr ne ↦ subst (λ r. RowFits x m r) (get_or-set_other c.rows n m row Free ne) (fits.each m)
        ];
      } was same)
      (make_sum (and_count row) v.difference one_more)
      (λ m k e. let h = kept_look (is_mine (record v { pins = without_each (refs_of row) v.pins })) m k v.keys e in (h.1, (t.knows_keys m k h.0).1))
      (λ m e. elim (cases_eq m n) [
        | inl same ↦ ((row, subst (λ z. look z ((n, row) ∷ v.rows) ≡ Some row) (sym same) (look_here n row v.rows), gate), ap (λ z. get_or c.counts z 0) same ∙ s.unused n free)
        | inr ne ↦ elim (here_or_there n m v.idle e) [
          | inl same ↦ absurd (ne same)
          | inr was ↦ let h = t.idles m was in (known_after n row gate m h.0, h.1)
        ]
      ])
      (omega (arith, length_less_each (refs_of row) v.pins, t.few))
    where
      make_sum : (r : ℕ) (x : ℤ) → r ≡ 1 → pos r +ℤ x ≡ pos 0 +ℤ (x +ℤ pos 1)
      make_sum r x e = omega (arith, ints)

  -- a row is stored in the place of another of the same value
  pub redefine_sound : (n : ℕ) (old row : Row) (over : List ℕ) → known_row v n ≡ Some old → is_derived old ≡ true → is_derived row ≡ true → MayRest v (get_or c.keys n 0) row
      → length (pins_after v old row) ≤ 512 → SameValue v over old row → IsSound (row_stored c id (redefined v n old row) n row)
  redefine_sound n old row over known was_gate gate may room same_value =
      let t : IsSeatSound c.claims c.rows c.counts c.keys v = s.seats id v at in
      let mine : has_node v.held n ≡ true = (t.knows_rows n old known).0 in
      let was_old : row_at c.rows n ≡ old = (t.knows_rows n old known).1 in
      let inside : n < length c.rows = held_there c id v s at n mine in
      store_sound c id v s at small n old row known (gate_no_source old was_gate) (gate_no_source row gate)
      (pins_after v old row) (kept (is_mine (record v { pins = pins_after v old row })) v.keys) v.idle
      (v.changes ++ (record { node = n; old = old; new = row }) ∷ []) v.makes ((v.difference +ℤ pos (and_count row)) -ℤ pos (and_count old))
      (λ e. absurd (gate_no_free row gate e))
      (rests_after n row inside (gate_no_free row gate) (may_rests n row may))
      (λ m. omega (arith, times_less_each m (refs_of row) v.pins may.0, times_append m (refs_of old) (without_each (refs_of row) v.pins)))
      (λ x w fits was same. s.values x w record {
        constant = fits.constant;
        each = λ m. elim (cases_eq m n) [
          | inl e ↦ subst (λ z. RowFits x z (row_at c.rows z)) (sym e) (subst (λ r. RowFits x n r) (sym was_old) (old_fits n old row over known was_old inside may same_value x fits))
          | inr ne ↦ subst (λ r. RowFits x m r) (get_or-set_other c.rows n m row Free ne) (fits.each m)
        ];
      } was same)
      (redefine_sum (and_count row) (and_count old) v.difference)
      (λ m k e. let h = kept_look (is_mine (record v { pins = pins_after v old row })) m k v.keys e in (h.1, (t.knows_keys m k h.0).1))
      (λ m e. let h = t.idles m e in (known_after n row gate m h.0, h.1))
      room
    where
      redefine_sum : (r o : ℕ) (x : ℤ) → pos r +ℤ x ≡ pos o +ℤ ((x +ℤ pos r) -ℤ pos o)
      redefine_sum r o x = omega (arith, ints)

      old_fits : (n : ℕ) (old row : Row) (over : List ℕ) → known_row v n ≡ Some old → row_at c.rows n ≡ old → n < length c.rows → MayRest v (get_or c.keys n 0) row → SameValue v over old row
          → (x : ℕ → Bool) → Fits (set c.rows n row) x → RowFits x n old
      old_fits n old row over known was_old inside may same_value x fits =
          let smaller : (k : ℕ) (r : Row) → RowRests c.rows c.keys k r → AllRefs (λ i. get_or c.keys i 0 < get_or c.keys k 0) r =
          λ k r. all_refs (λ m. (row_at c.rows m ≢ Free) × (get_or c.keys m 0 < get_or c.keys k 0)) (λ m. get_or c.keys m 0 < get_or c.keys k 0) r (λ m one h. h.1) in
          let known_is : (m : ℕ) (r : Row) → known_row v m ≡ Some r → row_at c.rows m ≡ r = λ m r e. ((s.seats id v at).knows_rows m r e).1 in
          same_fits c.keys v over x n fits.constant
          (λ m r e lt. subst (λ z. RowFits x m z) (get_or-set_other c.rows n m row Free (λ same. let equal : get_or c.keys m 0 ≡ get_or c.keys n 0 = ap (λ z. get_or c.keys z 0) same in omega arith) ∙ known_is m r e) (fits.each m))
          (λ m r e. smaller m r (subst (λ z. RowRests c.rows c.keys m z) (known_is m r e) (s.rests m)))
          old row
          (smaller n old (subst (λ z. RowRests c.rows c.keys n z) was_old (s.rests n)))
          (smaller n row (may_rests n row may))
          same_value
          (subst (λ z. RowFits x n z) (get_or-set_same c.rows n row Free inside) (fits.each n))

  -- a row to which nobody refers is freed
  pub free_sound : (n : ℕ) (old : Row) → known_row v n ≡ Some old → has_node v.idle n ≡ true → length (pins_after v old Free) ≤ 512 → IsSound (row_stored c id (freed v n old) n Free)
  free_sound n old known unused_there room =
      let t : IsSeatSound c.claims c.rows c.counts c.keys v = s.seats id v at in
      let mine : has_node v.held n ≡ true = (t.knows_rows n old known).0 in
      let was_old : row_at c.rows n ≡ old = (t.knows_rows n old known).1 in
      let inside : n < length c.rows = held_there c id v s at n mine in
      let gone = t.idles n unused_there in
      let equal : old ≡ gone.0.0 = let y : Some old ≡ Some gone.0.0 = sym known ∙ gone.0.1 in cc in
      let was_gate : is_derived old ≡ true = ap is_derived equal ∙ gone.0.2 in
      let none : get_or c.counts n 0 ≡ 0 = gone.1 in
      let here : row_at (set c.rows n Free) n ≡ Free = get_or-set_same c.rows n Free Free inside in
      let there : (m : ℕ) → m ≢ n → row_at (set c.rows n Free) m ≡ row_at c.rows m = λ m ne. get_or-set_other c.rows n m Free Free ne in
      let no_refs : (i : ℕ) → refs n (row_at c.rows i) ≡ 0 = no_refs_to n none in
      let no_literals : refs_by_literals n c.observed ≡ 0 = omega (arith, s.counted n) in
      let no_constant : 0 ≢ n = λ e. gate_no_source old was_gate (sym was_old ∙ (ap (row_at c.rows) (sym e) ∙ s.constant)) in
      store_sound c id v s at small n old Free known (gate_no_source old was_gate) (λ e. absurd (cc))
      (refs_of old ++ v.pins) v.keys (only (differs n) v.idle)
      (v.changes ++ (record { node = n; old = old; new = Free }) ∷ []) v.makes (v.difference -ℤ pos (and_count old))
      (λ e. none)
      (λ i. elim (cases_eq i n) [
        | inl e ↦ subst (λ z. RowRests (set c.rows n Free) c.keys z (row_at (set c.rows n Free) z)) (sym e) (subst (λ (r : Row). RowRests (set c.rows n Free) c.keys n r) (sym here) tt)
        | inr ne ↦ subst (λ r. RowRests (set c.rows n Free) c.keys i r) (sym (there i ne))
            (all_refs (λ m. (row_at c.rows m ≢ Free) × (get_or c.keys m 0 < get_or c.keys i 0)) (λ m. (row_at (set c.rows n Free) m ≢ Free) × (get_or c.keys m 0 < get_or c.keys i 0)) (row_at c.rows i)
            (λ m one h. ((λ free. h.0 (sym (there m (λ e. let some_there : 1 ≤ refs n (row_at c.rows i) = subst (λ z. 1 ≤ refs z (row_at c.rows i)) e one in omega (arith, no_refs i))) ∙ free)), h.1))
            (s.rests i))
      ])
      (λ m. omega (arith, times_append m (refs_of old) v.pins))
      (λ x w fits was same.
      let b : Bool = gate_value x old in
      agree_moved x w n b c.observed no_literals (s.values (moved x n b) w record {
        constant = moved_there x n b 0 no_constant ∙ fits.constant;
        each = λ m. elim (cases_eq m n) [
          | inl e ↦ subst (λ z. RowFits (moved x n b) z (row_at c.rows z)) (sym e) (subst (λ r. RowFits (moved x n b) n r) (sym was_old)
              (fits_itself x n old (ap (refs n) (sym was_old) ∙ no_refs n)))
          | inr ne ↦ fits_moved x n b m (row_at c.rows m) (no_refs m) ne (subst (λ r. RowFits x m r) (there m ne) (fits.each m))
        ];
      } was (λ m e. moved_there x n b m (λ same_node. gate_no_source old was_gate (sym was_old ∙ (ap (row_at c.rows) (sym same_node) ∙ s.source_stays m e))) ∙ same m e)))
      (free_sum (and_count old) v.difference)
      (λ m k e.
      let was = t.knows_keys m k e in (
        elim (or_cases (has_node v.held m) (has_node v.pins m) was.0) [
          | inl h ↦ or_left (has_node v.held m) (has_node (refs_of old ++ v.pins) m) h
          | inr h ↦ or_right (has_node v.held m) (has_node (refs_of old ++ v.pins) m) (has_right (refs_of old) v.pins m h)
        ],
        was.1,
      ))
      (λ m e.
      let h = has_only (differs n) m v.idle e in
      let k = t.idles m h.0 in
      ((k.0.0, look_there m n Free v.rows (other_is n m h.1) ∙ k.0.1, k.0.2), k.1))
      room
    where
      free_sum : (o : ℕ) (x : ℤ) → pos 0 +ℤ x ≡ pos o +ℤ (x -ℤ pos o)
      free_sum o x = omega (arith, ints)

      no_refs_to : (n : ℕ) → get_or c.counts n 0 ≡ 0 → (i : ℕ) → refs n (row_at c.rows i) ≡ 0
      no_refs_to n none i = elim (eq-zero-or-pos (refs n (row_at c.rows i))) [
        | inl e ↦ e
        | inr more ↦
            let lt : i < length c.rows = row_there c.rows i (λ free. let no : refs n (row_at c.rows i) ≡ 0 = ap (refs n) free in omega arith) in
            let one : refs n (row_at c.rows i) ≤ refs_by_rows n c.rows = sum_at (length c.rows) i (λ k. refs n (row_at c.rows k)) lt in
            absurd (omega (arith, s.counted n))
      ]
