-- The seats' views in the core, read by place.
use Rattle.std.proofs.Common.{◌≡◌, ◌⊎◌, ℕ, zero, suc, ◌≤◌, List, [], ◌∷◌, ◌++◌, drop, refl, sym, ap, ◌∙◌, arith, inl, inr}
use mathlib.Core.Option.{some, some-injective, some-ne-none}
use lib.ListN.{get_elem?}
use Rattle.syn_core_laws.specs.declared.View.{View}
use Rattle.syn_table.specs.declared.Known.{Known}
use Rattle.syn_core_laws.specs.Cores.{Core}
use Rattle.syn_table.specs.Laying.{IsLaid}
use Rattle.syn_table.specs.Rule.{views_of, HasOwnNumber, IsTied}

pub views_last : (seats : List Known) (w : Known) → views_of (seats ++ w ∷ []) ≡ views_of seats ++ w.core ∷ []
views_last [] w = refl
views_last (x ∷ xs) w = ap (λ (vs : List View). x.core ∷ vs) (views_last xs w)

-- each view of the core is some seat's at that place
pub seat_of_view : (seats : List Known) (id : ℕ) (v : View) → get_elem? (views_of seats) id ≡ some v → (k : Known) × (get_elem? seats id ≡ some k) × (k.core ≡ v)
seat_of_view [] id v e = absurd (some-ne-none v (sym e))
seat_of_view (x ∷ xs) zero v e = (x, refl, some-injective x.core v e)
seat_of_view (x ∷ xs) (suc id) v e = seat_of_view xs id v e

-- the last place of a list that grew by one
pub seat_last : (seats : List Known) (w k : Known) (i : ℕ) → get_elem? (seats ++ w ∷ []) i ≡ some k → (get_elem? seats i ≡ some k) ⊎ (w ≡ k)
seat_last [] w k zero e = inr (some-injective w k e)
seat_last [] w k (suc i) e = absurd (some-ne-none k (sym e))
seat_last (x ∷ xs) w k zero e = inl e
seat_last (x ∷ xs) w k (suc i) e = seat_last xs w k i e

-- ---- a core with other seats
pub laid_as : (words : List ℕ) (c : Core) (seats : List View) → IsLaid words c → IsLaid words (record c { seats = seats })
laid_as words c seats l = record { size = l.size; claims = l.claims; rows = l.rows; counts = l.counts; keys = l.keys }

-- a seat without a number has no pins
pub spent_pins : (c : Core) (seats : List Known) → c.seats ≡ views_of seats → ((j : ℕ) (x : Known) → get_elem? seats j ≡ some x → IsTied c x) → (j : ℕ) (v : View) → get_elem? c.seats j ≡ some v → 64 ≤ v.number → v.pins ≡ []
spent_pins c seats views tied j v e ge = go (seat_of_view seats j v (ap (λ (vs : List View). get_elem? vs j) (sym views) ∙ e))
  where
    go : (x : Known) × (get_elem? seats j ≡ some x) × (x.core ≡ v) → v.pins ≡ []
    go (x, ex, same) = sym (ap (λ (y : View). y.pins) same) ∙ ap (λ (y : View). y.pins) ((tied j x ex).spent (let n = ap (λ (y : View). y.number) same in omega (arith, n, ge))).1

-- ---- numbers of which the first is the seat's own
pub own_from : (k : Known) (others : List ℕ) → k.numbers ≡ k.core.number ∷ others → HasOwnNumber k
own_from k others e = e ∙ ap (λ (ns : List ℕ). k.core.number ∷ ns) (sym (ap (drop 1) e))
