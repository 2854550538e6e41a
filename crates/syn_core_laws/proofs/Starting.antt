-- The start of a graph is sound.
use Rattle.std.proofs.Common.{◌≡◌, ◌≢◌, ◌⊎◌, ℕ, zero, suc, ◌+◌, ◌<◌, ◌≤◌, Bool, List, [], ◌∷◌, ◌++◌, length, replicate, get_or, length-append, refl, sym, ap, ◌∙◌, subst, arith, inl, inr, eq-zero-or-pos, ℤ, pos, ◌+ℤ◌, if◌then◌else◌, nat_eq, not, ◌%◌}
use Rattle.std.proofs.lemmas.List.{length-replicate}
use Rattle.std.proofs.lemmas.Int.{ints}
use mathlib.Core.Option.{some, some-injective, some-ne-none}
use lib.ListN.{get_elem?}
use Rattle.syn_rows.specs.declared.Row.{Row}
use Rattle.syn_rows.specs.declared.Row.TheVariants.{Free}
use Rattle.syn_rows.specs.declared.Lit.{Lit}
use Rattle.syn_rows.specs.Rows.{row_at, node_of}
use Rattle.syn_rows.specs.Values.{Fits, SameSources}
use Rattle.syn_rows.specs.References.{hits, refs, refs_by_rows, refs_by_literals, sum_below, all_ands}
use Rattle.syn_core_laws.specs.declared.View.{View}
use Rattle.syn_core_laws.specs.Cores.{all_pins, differences}
use Rattle.syn_core_laws.specs.Sound.{RowRests, Agree, IsSeatSound, IsSound}
use Rattle.syn_core_laws.specs.Openings.{AllThere, IsStart, empty_view, seats_from, counts_from, opened, OpeningsAreSound}
use Rattle.syn_core_laws.proofs.Counting.{hits_other}
use Rattle.syn_core_laws.proofs.Seating.{rests_on}
use Rattle.syn_core_laws.proofs.Fitting.{all_refs}
use Rattle.syn_core_laws.proofs.Laws.{value_below}

-- what stands behind a list is its default: reading is the same
spare_is : {A : Type 0} (k n : ℕ) (d : A) → get_or (replicate k d) n d ≡ d
spare_is zero n d = refl
spare_is (suc k) zero d = refl
spare_is (suc k) (suc n) d = spare_is k n d

get_spare : {A : Type 0} (xs : List A) (k n : ℕ) (d : A) → get_or (xs ++ replicate k d) n d ≡ get_or xs n d
get_spare [] k n d = spare_is k n d
get_spare (x ∷ xs) k zero d = refl
get_spare (x ∷ xs) k (suc n) d = get_spare xs k n d

counts_at : (rows : List Row) (observed : List Lit) (first more n : ℕ) → n < more → get_or (counts_from rows observed first more) n 0 ≡ refs_by_rows (first + n) rows + refs_by_literals (first + n) observed
counts_at rows observed first zero n lt = absurd (omega arith)
counts_at rows observed first (suc more) zero lt = ap (λ k. refs_by_rows k rows + refs_by_literals k observed) (omega arith)
counts_at rows observed first (suc more) (suc n) lt =
    counts_at rows observed (suc first) more n (omega arith) ∙ ap (λ k. refs_by_rows k rows + refs_by_literals k observed) (omega arith)

counts_long : (rows : List Row) (observed : List Lit) (first more : ℕ) → length (counts_from rows observed first more) ≡ more
counts_long rows observed first zero = refl
counts_long rows observed first (suc more) = ap suc (counts_long rows observed (suc first) more)

get_past : (l : List ℕ) (n : ℕ) → length l ≤ n → get_or l n 0 ≡ 0
get_past [] n le = refl
get_past (x ∷ xs) zero le = absurd (omega arith)
get_past (x ∷ xs) (suc n) le = get_past xs n (omega arith)

-- ---- seats
seat_is : (first more id : ℕ) (v : View) → get_elem? (seats_from first more) id ≡ some v → (empty_view (first + id) ≡ v) × (id < more)
seat_is first zero id v e = absurd (some-ne-none v (sym e))
seat_is first (suc more) zero v e = (ap empty_view (omega arith) ∙ some-injective (empty_view first) v e, omega arith)
seat_is first (suc more) (suc id) v e = let t = seat_is (suc first) more id v e in (ap empty_view (omega arith) ∙ t.0, omega (arith, t.1))

no_pins : (m first more : ℕ) → all_pins m (seats_from first more) ≡ 0
no_pins m first zero = refl
no_pins m first (suc more) = no_pins_more (no_pins m (suc first) more)
  where
    no_pins_more : all_pins m (seats_from (suc first) more) ≡ 0 → 0 + all_pins m (seats_from (suc first) more) ≡ 0
    no_pins_more e = omega arith

no_difference : (first more : ℕ) → differences (seats_from first more) ≡ pos 0
no_difference first zero = refl
no_difference first (suc more) = no_difference_more (differences (seats_from (suc first) more)) (no_difference (suc first) more)
  where
    no_difference_more : (d : ℤ) → d ≡ pos 0 → pos 0 +ℤ d ≡ pos 0
    no_difference_more d e = omega (arith, ints)

-- ---- a node past the end has no references
no_literals : (rows : List Row) (ls : List Lit) (n : ℕ) → AllThere rows ls → row_at rows n ≡ Free → refs_by_literals n ls ≡ 0
no_literals rows [] n all free = refl
no_literals rows (l ∷ ls) n all free =
    let rest : refs_by_literals n ls ≡ 0 = no_literals rows ls n all.1 free in
    let here : hits n (node_of l) ≡ 0 = hits_other n (node_of l) (λ e. all.0 (ap (row_at rows) (sym e) ∙ free)) in
    omega arith

sum_none : (n : ℕ) (f : ℕ → ℕ) → ((i : ℕ) → f i ≡ 0) → sum_below n f ≡ 0
sum_none zero f h = refl
sum_none (suc n) f h = let front : sum_below n f ≡ 0 = sum_none n f h in omega (arith, h n)

no_references : (rows : List Row) (keys : List ℕ) (n : ℕ) → ((i : ℕ) → RowRests rows keys i (row_at rows i)) → row_at rows n ≡ Free → refs_by_rows n rows ≡ 0
no_references rows keys n rests free = sum_none (length rows) (λ i. refs n (row_at rows i)) (λ i. elim (eq-zero-or-pos (refs n (row_at rows i))) [
  | inl e ↦ e
  | inr more ↦ absurd ((rests_on rows keys i n (row_at rows i) (rests i) more).0 free)
])

agree_all : (rows : List Row) (keys : List ℕ) (v w : ℕ → Bool) → ((n : ℕ) → RowRests rows keys n (row_at rows n)) → Fits rows v → Fits rows w → SameSources rows v w → (ls : List Lit) → AllThere rows ls → Agree ls v w
agree_all rows keys v w rests fv fw same [] all = tt
agree_all rows keys v w rests fv fw same (l ∷ ls) all = (
  ap (λ z. if nat_eq (l.0 % 2) 0 then z else not z) (value_below rows keys v w rests fv fw same (suc (get_or keys (node_of l) 0)) (node_of l) (omega arith) all.0),
  agree_all rows keys v w rests fv fw same ls all.1,
)

pub opened_sound : (rows : List Row) (observed : List Lit) (keys : List ℕ) (seats : ℕ) → IsStart rows observed keys → IsSound (opened rows observed keys seats)
opened_sound rows observed keys seats s = record {
  claims_count = length-replicate (length rows) 0;
  counts_count = counts_long rows observed 0 (length rows);
  keys_count = s.count;
  apart = λ i j v w ei ej same small.
      let x = seat_is 0 seats i v ei in
      let y = seat_is 0 seats j w ej in
      let one : 0 + i ≡ v.number = ap (λ (z : View). z.number) x.0 in
      let two : 0 + j ≡ w.number = ap (λ (z : View). z.number) y.0 in
      omega arith;
  claimant = λ n e. absurd (e (spare_is (length rows) n 0));
  constant = s.constant;
  source_stays = λ n e. e;
  source_was = λ n e. e;
  source_keys = s.source_keys;
  unused = λ n free. elim (counted n) [
    | inl lt ↦
        let is : get_or (counts_from rows observed 0 (length rows)) n 0 ≡ refs_by_rows n rows + refs_by_literals n observed =
        counts_at rows observed 0 (length rows) n lt ∙ ap (λ k. refs_by_rows k rows + refs_by_literals k observed) (omega arith) in
        omega (arith, no_references rows keys n s.rests free, no_literals rows observed n s.observes free)
    | inr le ↦ get_past (counts_from rows observed 0 (length rows)) n (omega (arith, counts_long rows observed 0 (length rows)))
  ];
  rests = s.rests;
  counted = λ n. elim (counted n) [
    | inl lt ↦
        let is : get_or (counts_from rows observed 0 (length rows)) n 0 ≡ refs_by_rows n rows + refs_by_literals n observed =
        counts_at rows observed 0 (length rows) n lt ∙ ap (λ k. refs_by_rows k rows + refs_by_literals k observed) (omega arith) in
        omega (arith, no_pins n 0 seats)
    | inr le ↦
        let free : row_at rows n ≡ Free = row_past rows n le in
        let none : get_or (counts_from rows observed 0 (length rows)) n 0 ≡ 0 = get_past (counts_from rows observed 0 (length rows)) n (omega (arith, counts_long rows observed 0 (length rows))) in
        omega (arith, no_pins n 0 seats, no_references rows keys n s.rests free, no_literals rows observed n s.observes free)
  ];
  values = λ v w fv fw same. agree_all rows keys v w s.rests fv fw same observed s.observes;
  and_rows = no_sum (all_ands rows) (differences (seats_from 0 seats)) (no_difference 0 seats);
  seats = λ id v e. subst (IsSeatSound (replicate (length rows) 0) rows (counts_from rows observed 0 (length rows)) keys) (seat_is 0 seats id v e).0 record {
    holds = λ n h. absurd (cc);
    holder = λ small n h. let none : get_or (replicate {A = ℕ} (length rows) 0) n 0 ≡ 0 = spare_is (length rows) n 0 in let is : get_or (replicate {A = ℕ} (length rows) 0) n 0 ≡ suc (0 + id) = h in absurd (omega arith);
    knows_rows = λ n r h. absurd (cc);
    knows_keys = λ n k h. absurd (cc);
    idles = λ n h. absurd (cc);
    few = omega arith;
    soles = λ n h. absurd (cc);
  };
}
  where
    row_past : (rows : List Row) (n : ℕ) → length rows ≤ n → row_at rows n ≡ Free
    row_past [] n le = refl
    row_past (r ∷ rs) zero le = absurd (omega arith)
    row_past (r ∷ rs) (suc n) le = row_past rs n (omega arith)

    counted : (n : ℕ) → (n < length rows) ⊎ (length rows ≤ n)
    counted n = grind arith

    no_sum : (a : ℕ) (d : ℤ) → d ≡ pos 0 → pos a ≡ pos a +ℤ d
    no_sum a d e = omega (arith, ints)

-- ---- spare rows
spare_there : (rows : List Row) (spare : ℕ) (ls : List Lit) → AllThere rows ls → AllThere (rows ++ replicate spare Free) ls
spare_there rows spare [] all = all
spare_there rows spare (l ∷ ls) all = ((λ e. all.0 (sym (get_spare rows spare (node_of l) Free) ∙ e)), spare_there rows spare ls all.1)

pub spare_start : (rows : List Row) (observed : List Lit) (keys : List ℕ) (spare : ℕ) → IsStart rows observed keys → IsStart (rows ++ replicate spare Free) observed (keys ++ replicate spare 0)
spare_start rows observed keys spare s =
    let row : (n : ℕ) → row_at (rows ++ replicate spare Free) n ≡ row_at rows n = λ n. get_spare rows spare n Free in
    let key : (n : ℕ) → get_or (keys ++ replicate spare 0) n 0 ≡ get_or keys n 0 = λ n. get_spare keys spare n 0 in
    record {
      count = length-append keys (replicate spare 0) ∙ (omega (arith, s.count, length-replicate {A = ℕ} spare 0, length-replicate {A = Row} spare Free, length-append rows (replicate spare Free)));
      constant = row 0 ∙ s.constant;
      source_keys = λ n e. key n ∙ s.source_keys n (sym (row n) ∙ e);
      rests = λ n. subst (λ r. RowRests (rows ++ replicate spare Free) (keys ++ replicate spare 0) n r) (sym (row n))
          (all_refs (λ m. (row_at rows m ≢ Free) × (get_or keys m 0 < get_or keys n 0)) (λ m. (row_at (rows ++ replicate spare Free) m ≢ Free) × (get_or (keys ++ replicate spare 0) m 0 < get_or (keys ++ replicate spare 0) n 0)) (row_at rows n)
          (λ m one h. ((λ e. h.0 (sym (row m) ∙ e)), omega (arith, h.1, key m, key n))) (s.rests n));
      observes = spare_there rows spare observed s.observes;
    }

pub openings_are_sound : OpeningsAreSound
openings_are_sound rows observed keys spare seats s few = opened_sound (rows ++ replicate spare Free) observed (keys ++ replicate spare 0) seats (spare_start rows observed keys spare s)
