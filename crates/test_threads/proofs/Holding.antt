-- The steps of a seat that makes a row in a spare node and frees it again are allowed, and what it knows after each.
use Rattle.std.proofs.Common.{◌≡◌, ℕ, ◌≤◌, not, if◌then◌else◌, List, [], ◌∷◌, ◌++◌, length, Some, refl, ap, ◌∙◌, arith, inl, inr, sym, subst}
use Rattle.std.proofs.lemmas.Bool.{eq-eqb}
use Rattle.syn_rows.specs.declared.Row.{Row}
use Rattle.syn_rows.specs.declared.Row.TheVariants.{Free}
use Rattle.syn_rows.specs.Rows.{refs_of}
use Rattle.syn_core_laws.specs.declared.View.{View}
use Rattle.syn_rows.specs.Nodes.{has_node}
use Rattle.syn_core_laws.specs.Lists.{only, look}
use Rattle.syn_core_laws.specs.Views.{differs, known_row, freed}
use Rattle.syn_core_laws.specs.Events.{MayPin, MayFree}
use Rattle.syn_rows.proofs.Nodes.{has_here}
use Rattle.syn_core_laws.proofs.Listing.{look_here}
use Rattle.syn_table.specs.declared.Known.{Known}
use Rattle.syn_table.specs.Steps.{Frees}
use Rattle.test_threads.specs.Rewriting.{and, taken}
use Rattle.test_threads.specs.Rounds.{HoldsOne, HoldsNone, loaded, remade, freed_again}

-- no other node is left
none_other : (n : ℕ) → only (differs n) (n ∷ []) ≡ []
none_other n = ap (λ b. if not b then n ∷ [] else []) (eq-eqb n n refl)

pub taken_holds : (v : View) (n : ℕ) → HoldsNone v → HoldsOne n (loaded n) [] [] (taken v n Free)
taken_holds v n h = record {
  held = ap (λ l. n ∷ l) h.held;
  told = ap (λ (l : List (ℕ × Row)). (n, Free) ∷ l) h.told;
  own = h.own;
  zeros = h.zeros;
}

module _ (v : View) (n : ℕ) where
  knows_free : (pins : List ℕ) → HoldsOne n (loaded n) pins [] v → known_row v n ≡ Some Free
  knows_free pins h = ap (look n) h.told ∙ look_here n Free []

  pub may_pin_zero : (pins : List ℕ) → HoldsOne n (loaded n) pins [] v → MayPin v 0
  may_pin_zero pins h = inl (inr (n, Free, knows_free pins h, inl refl))

  knows_made : HoldsOne n (remade n) [] (n ∷ []) v → known_row v n ≡ Some (and 0 1)
  knows_made h = ap (look n) h.told ∙ look_here n (and 0 1) (loaded n)

  pub may_free : HoldsOne n (remade n) [] (n ∷ []) v → MayFree v n
  may_free h = (
    ap (λ (xs : List ℕ). has_node xs n) h.zeros ∙ has_here n [],
    λ old known.
        let same : old ≡ and 0 1 = let e : Some old ≡ Some (and 0 1) = sym known ∙ knows_made h in cc in
        subst (λ (r : Row). length (refs_of r ++ v.pins) ≤ 512) (sym same) (subst (λ (l : List ℕ). length (refs_of (and 0 1) ++ l) ≤ 512) (sym h.own) (omega arith)),
  )

-- after a free, whichever row the seat knew
pub freed_holds : (k new : Known) (n : ℕ) → HoldsOne n (remade n) [] (n ∷ []) k.core → Frees k n new → HoldsOne n (freed_again n) (0 ∷ 0 ∷ []) [] new.core
freed_holds k new n h told =
    let same : told.0 ≡ and 0 1 = let e : Some told.0 ≡ Some (and 0 1) = sym told.1 ∙ knows_made k.core n h in cc in
    let is : new.core ≡ freed k.core n (and 0 1) = ap (λ (x : Known). x.core) told.2 ∙ ap (freed k.core n) same in
    subst (HoldsOne n (freed_again n) (0 ∷ 0 ∷ []) []) (sym is) record {
      held = h.held;
      told = ap (λ (l : List (ℕ × Row)). (n, Free) ∷ l) h.told;
      own = ap (λ l. 0 ∷ 0 ∷ l) h.own;
      zeros = ap (only (differs n)) h.zeros ∙ none_other n;
    }
