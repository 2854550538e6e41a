-- Steps along a way are set one after the other.
use Rattle.std.proofs.Common.{◌≡◌, ℕ, ◌<◌, if◌then◌else◌, nat_eq, Bool, true, false, List, [], ◌∷◌, length, refl, sym, ap, ◌∙◌, subst, inl, inr, None, Some}
use Rattle.std.proofs.Math.ListN.{set}
use Rattle.std.proofs.lemmas.Bool.{both_ways, cases_Bool, eq-eqb, or_parts}
use Rattle.std.proofs.lemmas.List.{get_or-set_same, get_or-set_other}
use Rattle.syn_paths.specs.declared.places.Next.{Next}
use Rattle.syn_paths.specs.declared.places.Next.TheVariants.{Off, Last}
use Rattle.syn_paths.specs.declared.places.Place.{Place}
use Rattle.syn_paths.specs.declared.places.Place.TheVariants.{In, Out}
use Rattle.syn_paths.specs.declared.places.Step.{Step}
use Rattle.syn_paths.specs.Augmenting.{along, AreOnce, has_place, next_by, same_place}
use Rattle.syn_paths.specs.Searching.{IsWayAt, left, next_at, node_at, place_at, step_at}
use Rattle.syn_rows.proofs.Nodes.{same_node}

-- what is set at a node, and elsewhere
set_at : (next : List Next) (w v : ℕ) (x : Next) → w < length next → nat_eq w v ≡ true → next_at (set next w x) v ≡ x
set_at next w v x lt e = subst (λ k. next_at (set next w x) k ≡ x) (same_node w v e) (get_or-set_same next w x Off lt)

set_off : (next : List Next) (w v : ℕ) (x : Next) → nat_eq w v ≡ false → next_at (set next w x) v ≡ next_at next v
set_off next w v x e = get_or-set_other next w v x Off (λ is. both_ways (nat_eq w v) e (eq-eqb w v (sym is)))

-- a way looks at the steps only where it doesn't leave
along_same : (f g : ℕ → Next) (way : List Place) (v : ℕ) → f v ≡ g v → along f way v ≡ along g way v
along_same f g [] v e = e
along_same f g (In w ∷ way) v e = along_same f g way v e
along_same f g (Out w ∷ []) v e = ap (λ (x : Next). if nat_eq w v then Last else x) e
along_same f g (Out w ∷ place ∷ way) v e = ap (λ (x : Next). if nat_eq w v then next_by w place else x) (along_same f g (place ∷ way) v e)

pub along_away : (f : ℕ → Next) (way : List Place) (v : ℕ) → has_place way (Out v) ≡ false → along f way v ≡ f v
along_away f [] v away = refl
along_away f (In w ∷ way) v away = along_away f way v (or_parts (same_place (In w) (Out v)) (has_place way (Out v)) away).1
along_away f (Out w ∷ []) v away = cond_off (nat_eq w v) Last (f v) (or_parts (nat_eq w v) false away).0
  where
    cond_off : (b : Bool) (x y : Next) → b ≡ false → (if b then x else y) ≡ y
    cond_off true x y e = absurd (both_ways true e refl)
    cond_off false x y e = refl
along_away f (Out w ∷ place ∷ way) v away =
    let parts = or_parts (nat_eq w v) (has_place (place ∷ way) (Out v)) away in
    cond_off (nat_eq w v) (next_by w place) (along f (place ∷ way) v) parts.0 ∙ along_away f (place ∷ way) v parts.1
  where
    cond_off : (b : Bool) (x y : Next) → b ≡ false → (if b then x else y) ≡ y
    cond_off true x y e = absurd (both_ways true e refl)
    cond_off false x y e = refl

-- one step of the way is set
pub along_step : (next : List Next) (place other : Place) (way : List Place) (v : ℕ) → node_at place < length next → AreOnce (place ∷ other ∷ way)
    → along (next_at next) (place ∷ other ∷ way) v ≡ along (next_at (left next place (next_by (node_at place) other))) (other ∷ way) v
along_step next (In w) other way v lt once = refl
along_step next (Out w) other way v lt once = elim (cases_Bool (nat_eq w v)) [
  | inl here ↦ on (nat_eq w v) here ∙ sym (along_away (next_at (set next w (next_by w other))) (other ∷ way) v (subst (λ k. has_place (other ∷ way) (Out k) ≡ false) (same_node w v here) once.0) ∙ set_at next w v (next_by w other) lt here)
  | inr there ↦ off (nat_eq w v) there ∙ along_same (next_at next) (next_at (set next w (next_by w other))) (other ∷ way) v (sym (set_off next w v (next_by w other) there))
]
  where
    on : (b : Bool) → b ≡ true → (if b then next_by w other else along (next_at next) (other ∷ way) v) ≡ next_by w other
    on true e = refl
    on false e = absurd (both_ways false refl e)

    off : (b : Bool) → b ≡ false → (if b then next_by w other else along (next_at next) (other ∷ way) v) ≡ along (next_at next) (other ∷ way) v
    off true e = absurd (both_ways true e refl)
    off false e = refl

-- the last one is
pub along_last : (next : List Next) (place : Place) (v : ℕ) → node_at place < length next → along (next_at next) (place ∷ []) v ≡ next_at (left next place Last) v
along_last next (In w) v lt = refl
along_last next (Out w) v lt = elim (cases_Bool (nat_eq w v)) [
  | inl here ↦ on (nat_eq w v) here ∙ sym (set_at next w v Last lt here)
  | inr there ↦ off (nat_eq w v) there ∙ sym (set_off next w v Last there)
]
  where
    on : (b : Bool) → b ≡ true → (if b then Last else next_at next v) ≡ Last
    on true e = refl
    on false e = absurd (both_ways false refl e)

    off : (b : Bool) → b ≡ false → (if b then Last else next_at next v) ≡ next_at next v
    off true e = absurd (both_ways true e refl)
    off false e = refl

pub follow_step : (whole : ℕ → Next) (trail : List Step) (next : List Next) (i j : ℕ) → (step_at trail i).from ≡ Some j → node_at (place_at trail i) < length next
    → (rest : List Place) → IsWayAt trail i rest → AreOnce (place_at trail i ∷ rest) → ((v : ℕ) → whole v ≡ along (next_at next) (place_at trail i ∷ rest) v)
    → (after : List Place) × IsWayAt trail j after × AreOnce (place_at trail j ∷ after) × ((v : ℕ) → whole v ≡ along (next_at (left next (place_at trail i) (next_by (node_at (place_at trail i)) (place_at trail j)))) (place_at trail j ∷ after) v)
follow_step whole trail next i j is lt [] none once same = absurd (cc (is, none))
follow_step whole trail next i j is lt (p ∷ rest) (k, at, place, recorded) once same =
    let e : k ≡ j = cc (is, at) in
    let here : p ≡ place_at trail j = sym place ∙ ap (place_at trail) e in (
      rest,
      subst (λ x. IsWayAt trail x rest) e recorded,
      subst (λ x. AreOnce (x ∷ rest)) here once.1,
      λ v. same v ∙ along_step next (place_at trail i) p rest v lt once ∙ ap (λ (x : Place). along (next_at (left next (place_at trail i) (next_by (node_at (place_at trail i)) x))) (x ∷ rest) v) here,
    )

pub follow_last : (whole : ℕ → Next) (trail : List Step) (next : List Next) (i : ℕ) → (step_at trail i).from ≡ None → node_at (place_at trail i) < length next
    → (rest : List Place) → IsWayAt trail i rest → ((v : ℕ) → whole v ≡ along (next_at next) (place_at trail i ∷ rest) v) → (v : ℕ) → next_at (left next (place_at trail i) Last) v ≡ whole v
follow_last whole trail next i is lt [] none same v = sym (same v ∙ along_last next (place_at trail i) v lt)
follow_last whole trail next i is lt (p ∷ rest) (k, at, place, recorded) same v = absurd (cc (is, at))
