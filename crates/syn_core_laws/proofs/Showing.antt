-- What a sound core shows of each seat, and of each count.
use Rattle.std.proofs.Common.{◌≡◌, ◌≢◌, ℕ, zero, suc, ◌+◌, ◌<◌, ◌≤◌, Bool, true, get_or, length, Option, Some, None, refl, sym, ap, ◌∙◌, subst, arith, inl, inr}
use Rattle.std.proofs.lemmas.Bool.{cases_Bool, false_from_ne_true}
use mathlib.Core.Option.{some}
use lib.ListN.{get_elem?}
use Rattle.syn_rows.specs.declared.Row.{Row}
use Rattle.syn_rows.specs.declared.Row.TheVariants.{Free}
use Rattle.syn_rows.specs.Rows.{row_at}
use Rattle.syn_rows.specs.References.{refs, refs_by_rows, sum_below}
use Rattle.syn_core_laws.specs.declared.View.{View}
use Rattle.syn_rows.specs.Nodes.{has_node}
use Rattle.syn_core_laws.specs.Views.{known_row, is_derived_known, refs_known, own_refs}
use Rattle.syn_core_laws.specs.Cores.{Core}
use Rattle.syn_core_laws.specs.Sound.{IsSound}
use Rattle.syn_core_laws.specs.Openings.{empty_view}
use Rattle.syn_core_laws.specs.Shown.{HasNoCircle, IsShown, SeatsAreShown, CountsCoverSeats}
use Rattle.syn_core_laws.proofs.Counting.{sum_at, sum_two, pins_at}
use Rattle.syn_core_laws.proofs.Seating.{rests_on, own_le}
use Rattle.syn_core_laws.proofs.Pinning.{pins_count}
use Rattle.syn_core_laws.proofs.Storing.{held_there}

pub counts_cover_seats : CountsCoverSeats
counts_cover_seats c id v n s at =
    let rows : own_refs (length c.rows) v n + sum_below (length c.rows) (λ i. 0) ≤ refs_by_rows n c.rows =
    sum_two (length c.rows) (λ i. refs_known n (known_row v i)) (λ i. 0) (λ i. refs n (row_at c.rows i)) (λ i lt. omega (arith, own_le c id v s at n i)) in
    omega (arith, s.counted n, pins_at n c.seats id v at)

-- ---- a set of which each node has another of greater rank is empty
climbs : (nodes : ℕ) (rank : ℕ → ℕ) (set : ℕ → Bool) → ((m : ℕ) → set m ≡ true → (n : ℕ) × (n < nodes) × (set n ≡ true) × (rank m < rank n))
    → (fuel m : ℕ) → sum_below nodes rank < rank m + fuel → set m ≡ true → ⊥
climbs nodes rank set next zero m enough h =
    let t : (n : ℕ) × (n < nodes) × (set n ≡ true) × (rank m < rank n) = next m h in
    let few : rank t.0 ≤ sum_below nodes rank = sum_at nodes t.0 rank t.1 in
    let more : rank m < rank t.0 = t.3 in
    absurd (omega arith)
climbs nodes rank set next (suc fuel) m enough h =
    let t : (n : ℕ) × (n < nodes) × (set n ≡ true) × (rank m < rank n) = next m h in
    let more : rank m < rank t.0 = t.3 in
    climbs nodes rank set next fuel t.0 (omega arith) t.2

module _ (c : Core) (id : ℕ) (v : View) (s : IsSound c) (at : get_elem? c.seats id ≡ some v) where
  -- where a known row refers to a node, the node is there and its key is smaller
  known_rests : (m n : ℕ) → 1 ≤ refs_known m (known_row v n) → (row_at c.rows m ≢ Free) × (get_or c.keys m 0 < get_or c.keys n 0)
  known_rests m n le = go (known_row v n) refl le
    where
      go : (o : Option Row) → known_row v n ≡ o → 1 ≤ refs_known m o → (row_at c.rows m ≢ Free) × (get_or c.keys m 0 < get_or c.keys n 0)
      go None e le = absurd (omega arith)
      go (Some r) e le =
          let is : row_at c.rows n ≡ r = ((s.seats id v at).knows_rows n r e).1 in
          rests_on c.rows c.keys n m (row_at c.rows n) (s.rests n) (subst (λ x. 1 ≤ refs m x) (sym is) le)

  no_circle : HasNoCircle (length c.rows) v
  no_circle set next m = elim (cases_Bool (set m)) [
    | inl h ↦
        let key : ℕ → ℕ = λ k. get_or c.keys k 0 in
        absurd (climbs (length c.rows) key set
        (λ k h. let t : (n : ℕ) × (n < length c.rows) × (set n ≡ true) × (1 ≤ refs_known k (known_row v n)) = next k h in (t.0, t.1, t.2, (known_rests k t.0 t.3).1))
        (suc (sum_below (length c.rows) key)) m (omega arith) h)
    | inr h ↦ h
  ]

pub seats_are_shown : SeatsAreShown
seats_are_shown c id v s at =
    let t = s.seats id v at in
    record {
      no_circle = no_circle c id v s at;
      used = λ n m le free. (known_rests c id v s at m n le).0 (t.knows_rows m Free free).1;
      pinned = λ n mine free.
          let some_there : 1 ≤ get_or c.counts n 0 = pins_count c id v s at n mine in
          let none : get_or c.counts n 0 ≡ 0 = s.unused n (t.knows_rows n Free free).1 in
          absurd (omega arith);
      rows = λ n r e. let held : has_node v.held n ≡ true = (t.knows_rows n r e).0 in (held_there c id v s at n held, held);
      keys = λ n key e. (t.knows_keys n key e).0;
      idles = λ n h.
          let known = (t.idles n h).0 in
          (ap is_derived_known known.1 ∙ known.2, omega (arith, counts_cover_seats c id v n s at, (t.idles n h).1));
      few = t.few;
    }

-- a seat that knows nothing shows it
pub empty_shown : (nodes number : ℕ) → IsShown nodes (empty_view number)
empty_shown nodes number = record {
  no_circle = λ set next m. false_from_ne_true (set m) (λ h. no_refs (next m h).3);
  used = λ n m le free. no_refs le;
  pinned = λ n h. absurd (cc);
  rows = λ n r e. absurd (cc);
  keys = λ n key e. absurd (cc);
  idles = λ n h. absurd (cc);
  few = omega arith;
}
  where
    no_refs : 1 ≤ 0 → ⊥
    no_refs le = absurd (omega arith)
