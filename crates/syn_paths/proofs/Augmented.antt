-- One path more.
use Rattle.std.proofs.Common.{◌≡◌, ◌≢◌, ◌||◌, ℕ, zero, suc, ◌⊎◌, nat_eq, if◌then◌else◌, Bool, true, false, List, [], ◌∷◌, refl, sym, ap, ◌∙◌, subst, inl, inr, arith}
use Rattle.std.proofs.lemmas.Bool.{both_ways, cases_Bool, or_cases, or_left, or_right, or_parts}
use Rattle.syn_rows.specs.declared.Row.{Row}
use Rattle.syn_rows.specs.declared.Row.TheVariants.{Free, Source, And, Alias}
use Rattle.syn_rows.specs.Nodes.{has_node}
use Rattle.syn_rows.specs.Rows.{refs_of, row_at}
use Rattle.syn_cones.specs.Cones.{is_end, Refers}
use Rattle.syn_rows.specs.Values.{is_open}
use Rattle.syn_paths.specs.declared.places.Next.{Next}
use Rattle.syn_paths.specs.declared.places.Next.TheVariants.{Off, Last, To}
use Rattle.syn_paths.specs.declared.places.Place.{Place}
use Rattle.syn_paths.specs.declared.places.Place.TheVariants.{In, Out}
use Rattle.syn_paths.specs.Augmenting.{along, AreOnce, GoesInto, has_place, IsFlow, MayGo, next_by, OnePathMore, same_place}
use Rattle.syn_rows.proofs.Nodes.{node_same, same_node}

-- places and steps told apart

abbrev place_node : Place → ℕ
place_node (In v) = v
place_node (Out v) = v

abbrev is_out : Place → Bool
is_out (In v) = false
is_out (Out v) = true

abbrev step_kind : Next → ℕ
step_kind Off = 0
step_kind Last = 1
step_kind (To w) = 2

abbrev step_node : Next → ℕ
step_node Off = 0
step_node Last = 0
step_node (To w) = w

pub place_same : (p q : Place) → same_place p q ≡ true → p ≡ q
place_same (In v) (In w) h = ap In (same_node v w h)
place_same (In v) (Out w) h = absurd (both_ways false refl h)
place_same (Out v) (In w) h = absurd (both_ways false refl h)
place_same (Out v) (Out w) h = ap Out (same_node v w h)

pub same_self : (p : Place) → same_place p p ≡ true
same_self (In v) = node_same v
same_self (Out v) = node_same v

pub off_to : (v : Next) (w : ℕ) → v ≡ Off → v ≡ To w → ⊥
off_to v w a b = let clash : step_kind Off ≡ step_kind (To w) = ap step_kind (sym a ∙ b) in absurd (omega (arith, clash))

-- q comes right behind p

abbrev Then : List Place → Place → Place → Type 0
Then [] p q = ⊥
Then (x ∷ []) p q = ⊥
Then (x ∷ y ∷ way) p q = ((x ≡ p) × (y ≡ q)) ⊎ Then (y ∷ way) p q

has_head : (x : Place) (way : List Place) → has_place (x ∷ way) x ≡ true
has_head x way = or_left (same_place x x) (has_place way x) (same_self x)

then_has : (way : List Place) (p q : Place) → Then way p q → has_place way p ≡ true
then_has [] p q h = absurd h
then_has (x ∷ []) p q h = absurd h
then_has (x ∷ y ∷ way) p q (inl e) = subst (λ k. has_place (x ∷ y ∷ way) k ≡ true) e.0 (has_head x (y ∷ way))
then_has (x ∷ y ∷ way) p q (inr t) = or_right (same_place x p) (has_place (y ∷ way) p) (then_has (y ∷ way) p q t)

then_behind : (x : Place) (way : List Place) (p q : Place) → Then (x ∷ way) p q → has_place way q ≡ true
then_behind x [] p q h = absurd h
then_behind x (y ∷ way) p q (inl e) = subst (λ k. has_place (y ∷ way) k ≡ true) e.1 (has_head y way)
then_behind x (y ∷ way) p q (inr t) = or_right (same_place y q) (has_place way q) (then_behind y way p q t)

-- each place has one before it, and one behind it

one_before : (way : List Place) (p r q : Place) → AreOnce way → Then way p q → Then way r q → p ≡ r
one_before [] p r q once h t = absurd h
one_before (x ∷ []) p r q once h t = absurd h
one_before (x ∷ y ∷ way) p r q once (inl e) (inl f) = sym e.0 ∙ f.0
one_before (x ∷ y ∷ way) p r q once (inl e) (inr t) = absurd (both_ways (has_place way y) once.1.0 (subst (λ k. has_place way k ≡ true) (sym e.1) (then_behind y way r q t)))
one_before (x ∷ y ∷ way) p r q once (inr h) (inl f) = absurd (both_ways (has_place way y) once.1.0 (subst (λ k. has_place way k ≡ true) (sym f.1) (then_behind y way p q h)))
one_before (x ∷ y ∷ way) p r q once (inr h) (inr t) = one_before (y ∷ way) p r q once.1 h t

before : (x : Place) (way : List Place) (q : Place) → has_place way q ≡ true → (p : Place) × Then (x ∷ way) p q
before x [] q h = absurd (both_ways false refl h)
before x (y ∷ way) q h = elim (or_cases (same_place y q) (has_place way q) h) [
  | inl e ↦ (x, inl (refl, place_same y q e))
  | inr t ↦ let found = before y way q t in (found.0, inr found.1)
]

-- what the way says

may_go : (rows : List Row) (InSet : ℕ → Type 0) (next : ℕ → Next) (x : Place) (way : List Place) (p q : Place) → GoesInto rows InSet next x way → Then (x ∷ way) p q → MayGo rows InSet next p q
may_go rows InSet next x [] p q go h = absurd h
may_go rows InSet next (In v) (y ∷ way) p q go (inl e) = subst (λ k. MayGo rows InSet next p k) e.1 (subst (λ k. MayGo rows InSet next k y) e.0 go.0)
may_go rows InSet next (Out v) (y ∷ way) p q go (inl e) = subst (λ k. MayGo rows InSet next p k) e.1 (subst (λ k. MayGo rows InSet next k y) e.0 go.0)
may_go rows InSet next (In v) (y ∷ way) p q go (inr t) = may_go rows InSet next y way p q go.1 t
may_go rows InSet next (Out v) (y ∷ way) p q go (inr t) = may_go rows InSet next y way p q go.1 t

behind_in : (rows : List Row) (InSet : ℕ → Type 0) (next : ℕ → Next) (x : Place) (way : List Place) (v : ℕ) → GoesInto rows InSet next x way → has_place (x ∷ way) (In v) ≡ true → (q : Place) × Then (x ∷ way) (In v) q
behind_in rows InSet next (In u) [] v go h = absurd go
behind_in rows InSet next (Out u) [] v go h = absurd (both_ways false refl h)
behind_in rows InSet next (In u) (y ∷ way) v go h = elim (or_cases (same_place (In u) (In v)) (has_place (y ∷ way) (In v)) h) [
  | inl e ↦ (y, inl (place_same (In u) (In v) e, refl))
  | inr t ↦ let found = behind_in rows InSet next y way v go.1 t in (found.0, inr found.1)
]
behind_in rows InSet next (Out u) (y ∷ way) v go h = elim (or_cases (same_place (Out u) (In v)) (has_place (y ∷ way) (In v)) h) [
  | inl e ↦ absurd (both_ways false refl e)
  | inr t ↦ let found = behind_in rows InSet next y way v go.1 t in (found.0, inr found.1)
]

-- what a node's step is along the way: as before, or by what comes behind its place, or the last

data Along (rows : List Row) (InSet : ℕ → Type 0) (next : ℕ → Next) (way : List Place) (v : ℕ) : Type 0 where
  stays : has_place way (Out v) ≡ false → along next way v ≡ next v → Along rows InSet next way v
  goes : (q : Place) → Then way (Out v) q → along next way v ≡ next_by v q → Along rows InSet next way v
  ends : (t : ℕ) → InSet t → Refers rows t v → along next way v ≡ Last → Along rows InSet next way v

along_is : (rows : List Row) (InSet : ℕ → Type 0) (next : ℕ → Next) (x : Place) (way : List Place) (v : ℕ) → GoesInto rows InSet next x way → Along rows InSet next (x ∷ way) v
along_is rows InSet next (In u) [] v go = absurd go
along_is rows InSet next (In u) (y ∷ way) v go = elim (along_is rows InSet next y way v go.1) [
  | stays away e ↦ stays away e
  | goes q t e ↦ goes q (inr t) e
  | ends t top r e ↦ ends t top r e
]
along_is rows InSet next (Out u) [] v go = by (nat_eq u v) refl
  where
    by : (b : Bool) → nat_eq u v ≡ b → Along rows InSet next (Out u ∷ []) v
    by true e = ends go.0 go.1 (subst (λ k. Refers rows go.0 k) (same_node u v e) go.2) (ap (λ (c : Bool). if c then Last else next v) e)
    by false e = stays (ap (λ (c : Bool). c || false) e) (ap (λ (c : Bool). if c then Last else next v) e)
along_is rows InSet next (Out u) (y ∷ way) v go = by (nat_eq u v) refl (along_is rows InSet next y way v go.1)
  where
    by : (b : Bool) → nat_eq u v ≡ b → Along rows InSet next (y ∷ way) v → Along rows InSet next (Out u ∷ y ∷ way) v
    by true e rest = goes y (inl (ap Out (same_node u v e), refl)) (ap (λ (c : Bool). if c then next_by u y else along next (y ∷ way) v) e ∙ ap (λ k. next_by k y) (same_node u v e))
    by false e (stays away is) = stays (ap (λ (c : Bool). c || has_place (y ∷ way) (Out v)) e ∙ away) (ap (λ (c : Bool). if c then next_by u y else along next (y ∷ way) v) e ∙ is)
    by false e (goes q t is) = goes q (inr t) (ap (λ (c : Bool). if c then next_by u y else along next (y ∷ way) v) e ∙ is)
    by false e (ends t top r is) = ends t top r (ap (λ (c : Bool). if c then next_by u y else along next (y ∷ way) v) e ∙ is)

-- a source refers to nothing

open_refs : (row : Row) (m : ℕ) → is_open row ≡ true → has_node (refs_of row) m ≡ true → ⊥
open_refs Free m o h = both_ways false refl h
open_refs Source m o h = both_ways false refl h
open_refs (And a b) m o h = both_ways false refl o
open_refs (Alias a) m o h = both_ways false refl o

pub end_refers : (rows : List Row) (n m : ℕ) → is_end rows n ≡ true → Refers rows n m → ⊥
end_refers rows zero m e r = both_ways false refl r
end_refers rows (suc n) m e r = open_refs (row_at rows (suc n)) m e r

-- what the step to a place says

by_to : (v w : ℕ) (q : Place) → next_by v q ≡ To w → (q ≡ In w) × (v ≢ w)
by_to v w (Out u) h = absurd (off_to Off w refl h)
by_to v w (In u) h = go (nat_eq v u) refl h
  where
    go : (b : Bool) → nat_eq v u ≡ b → (if b then Off else To u) ≡ To w → (In u ≡ In w) × (v ≢ w)
    go true e h = absurd (off_to Off w refl h)
    go false e h = let same : u ≡ w = ap step_node h in (ap In same, λ is. both_ways (nat_eq v u) e (subst (λ k. nat_eq v k ≡ true) (is ∙ sym same) (node_same v)))

by_off : (v w : ℕ) → next_by v (In w) ≡ Off → v ≡ w
by_off v w h = go (nat_eq v w) refl h
  where
    go : (b : Bool) → nat_eq v w ≡ b → (if b then Off else To w) ≡ Off → v ≡ w
    go true e h = same_node v w e
    go false e h = absurd (off_to Off w refl (sym h))

pub by_last : (v : ℕ) (q : Place) → next_by v q ≡ Last → ⊥
by_last v (Out u) h = let clash : step_kind Off ≡ step_kind Last = ap step_kind h in absurd (omega (arith, clash))
by_last v (In u) h = go (nat_eq v u) h
  where
    go : (b : Bool) → (if b then Off else To u) ≡ Last → ⊥
    go true h = let clash : step_kind Off ≡ step_kind Last = ap step_kind h in absurd (omega (arith, clash))
    go false h = let clash : step_kind (To u) ≡ step_kind Last = ap step_kind h in absurd (omega (arith, clash))

-- the steps along a way from a source

record IsWay (rows : List Row) (InSet : ℕ → Type 0) (next : ℕ → Next) (s : ℕ) (way : List Place) : Type 0 where
  flow : IsFlow rows InSet next
  source : is_end rows s ≡ true
  off : next s ≡ Off
  outside : InSet s → ⊥
  once : AreOnce (In s ∷ way)
  go : GoesInto rows InSet next (In s) way

out_node : (u v : ℕ) → Out u ≡ Out v → u ≡ v
out_node u v e = ap place_node e

in_node : (u v : ℕ) → In u ≡ In v → u ≡ v
in_node u v e = ap place_node e

behind_head : (s v : ℕ) (way : List Place) → has_place (In s ∷ way) (Out v) ≡ true → has_place way (Out v) ≡ true
behind_head s v way h = elim (or_cases (same_place (In s) (Out v)) (has_place way (Out v)) h) [ inl none ↦ absurd (both_ways false refl none) | inr t ↦ t ]

-- an `Out` follows its own `In`, of a node on no path, or the `In` of the node behind its own
data Left (next : ℕ → Next) (s : ℕ) (way : List Place) (v : ℕ) : Type 0 where
  fresh : Then (In s ∷ way) (In v) (Out v) → next v ≡ Off → Left next s way v
  back : (w : ℕ) → Then (In s ∷ way) (In w) (Out v) → next v ≡ To w → Left next s way v

left : (rows : List Row) (InSet : ℕ → Type 0) (next : ℕ → Next) (s : ℕ) (way : List Place) → IsWay rows InSet next s way → (v : ℕ) → has_place (In s ∷ way) (Out v) ≡ true → Left next s way v
left rows InSet next s way x v h = let found = before (In s) way (Out v) (behind_head s v way h) in at found.0 found.1 (may_go rows InSet next (In s) way found.0 (Out v) x.go found.1)
  where
    at : (p : Place) → Then (In s ∷ way) p (Out v) → MayGo rows InSet next p (Out v) → Left next s way v
    at (Out u) t may = absurd may
    at (In w) t (inl e) = fresh (subst (λ k. Then (In s ∷ way) (In k) (Out v)) e.0 t) (subst (λ k. next k ≡ Off) e.0 e.1)
    at (In w) t (inr e) = back w t e

-- an `In` of a node on a path is followed by the `Out` of the node before it
followed : (rows : List Row) (InSet : ℕ → Type 0) (next : ℕ → Next) (s : ℕ) (way : List Place) → IsWay rows InSet next s way → (w : ℕ) → has_place (In s ∷ way) (In w) ≡ true
    → ((next w ≡ Off) × (has_place (In s ∷ way) (Out w) ≡ true)) ⊎ ((u : ℕ) × (next u ≡ To w) × (has_place (In s ∷ way) (Out u) ≡ true))
followed rows InSet next s way x w h = let found = behind_in rows InSet next (In s) way w x.go h in at found.0 found.1 (may_go rows InSet next (In s) way (In w) found.0 x.go found.1)
  where
    at : (q : Place) → Then (In s ∷ way) (In w) q → MayGo rows InSet next (In w) q
        → ((next w ≡ Off) × (has_place (In s ∷ way) (Out w) ≡ true)) ⊎ ((u : ℕ) × (next u ≡ To w) × (has_place (In s ∷ way) (Out u) ≡ true))
    at (In u) t may = absurd may
    at (Out u) t (inl e) = inl (e.1, subst (λ k. has_place (In s ∷ way) (Out k) ≡ true) (sym e.0) (or_right false (has_place way (Out u)) (then_behind (In s) way (In w) (Out u) t)))
    at (Out u) t (inr e) = inr (u, e, or_right false (has_place way (Out u)) (then_behind (In s) way (In w) (Out u) t))

in_outside : (rows : List Row) (InSet : ℕ → Type 0) (next : ℕ → Next) (s : ℕ) (way : List Place) → IsWay rows InSet next s way → (v : ℕ) → has_place (In s ∷ way) (In v) ≡ true → InSet v → ⊥
in_outside rows InSet next s way x v h = elim (or_cases (same_place (In s) (In v)) (has_place way (In v)) h) [
  | inl e ↦ subst (λ k. InSet k → ⊥) (in_node s v (place_same (In s) (In v) e)) x.outside
  | inr t ↦ let found = before (In s) way (In v) t in at found.0 (may_go rows InSet next (In s) way found.0 (In v) x.go found.1)
]
  where
    at : (p : Place) → MayGo rows InSet next p (In v) → InSet v → ⊥
    at (In u) may = absurd may
    at (Out u) (inl e) = e.1
    at (Out u) (inr e) = x.flow.outside v (subst (λ k. next k ≢ Off) e.0 e.1)

to_not_off : (next : ℕ → Next) (v w : ℕ) → next v ≡ To w → next v ≢ Off
to_not_off next v w e is = off_to (next v) w is e

last_to : (w : ℕ) → Last ≡ To w → ⊥
last_to w h = let clash : step_kind Last ≡ step_kind (To w) = ap step_kind h in absurd (omega (arith, clash))

-- where the way doesn't leave a node, its step stays
stays_at : (rows : List Row) (InSet : ℕ → Type 0) (next : ℕ → Next) (s : ℕ) (way : List Place) → IsWay rows InSet next s way → (v : ℕ) → has_place (In s ∷ way) (Out v) ≡ false → along next (In s ∷ way) v ≡ next v
stays_at rows InSet next s way x v away = go (In s) way v away
  where
    go : (y : Place) (rest : List Place) (v : ℕ) → has_place (y ∷ rest) (Out v) ≡ false → along next (y ∷ rest) v ≡ next v
    go (In u) [] v h = refl
    go (In u) (z ∷ rest) v h = go z rest v h
    go (Out u) [] v h = ap (λ (c : Bool). if c then Last else next v) (or_parts (nat_eq u v) false h).0
    go (Out u) (z ∷ rest) v h = let parts = or_parts (nat_eq u v) (has_place (z ∷ rest) (Out v)) h in
        ap (λ (c : Bool). if c then next_by u z else along next (z ∷ rest) v) parts.0 ∙ go z rest v parts.1

outside : (rows : List Row) (InSet : ℕ → Type 0) (next : ℕ → Next) (s : ℕ) (way : List Place) → IsWay rows InSet next s way → (v : ℕ) → along next (In s ∷ way) v ≢ Off → InSet v → ⊥
outside rows InSet next s way x v on = elim (cases_Bool (has_place (In s ∷ way) (Out v))) [
  | inl h ↦ by (left rows InSet next s way x v h)
  | inr away ↦ x.flow.outside v (λ e. on (same away ∙ e))
]
  where
    by : Left next s way v → InSet v → ⊥
    by (fresh t e) = in_outside rows InSet next s way x v (then_has (In s ∷ way) (In v) (Out v) t)
    by (back w t e) = x.flow.outside v (to_not_off next v w e)

    same : has_place (In s ∷ way) (Out v) ≡ false → along next (In s ∷ way) v ≡ next v
    same away = stays_at rows InSet next s way x v away

refers : (rows : List Row) (InSet : ℕ → Type 0) (next : ℕ → Next) (s : ℕ) (way : List Place) → IsWay rows InSet next s way → (v w : ℕ) → along next (In s ∷ way) v ≡ To w → Refers rows w v
refers rows InSet next s way x v w is = by (along_is rows InSet next (In s) way v x.go)
  where
    by : Along rows InSet next (In s ∷ way) v → Refers rows w v
    by (stays away e) = x.flow.refers v w (sym e ∙ is)
    by (ends t top r e) = absurd (last_to w (sym e ∙ is))
    by (goes q t e) =
        let to = by_to v w q (sym e ∙ is) in
        elim (may_go rows InSet next (In s) way (Out v) (In w) x.go (subst (λ k. Then (In s ∷ way) (Out v) k) to.0 t)) [
          | inl found ↦ found.0
          | inr own ↦ absurd (to.1 own.0)
        ]

-- the node is not left where its step stayed, and where it is left its step is that of the way
goes_on : (rows : List Row) (InSet : ℕ → Type 0) (next : ℕ → Next) (s : ℕ) (way : List Place) → IsWay rows InSet next s way → (v w : ℕ) → along next (In s ∷ way) v ≡ To w → along next (In s ∷ way) w ≢ Off
goes_on rows InSet next s way x v w is off = by (along_is rows InSet next (In s) way v x.go) (along_is rows InSet next (In s) way w x.go)
  where
    -- w is entered from v
    entered : v ≢ w → Then (In s ∷ way) (Out v) (In w) → Along rows InSet next (In s ∷ way) w → ⊥
    entered differ t (stays away e) = elim (followed rows InSet next s way x w (or_right (same_place (In s) (In w)) (has_place way (In w)) (then_behind (In s) way (Out v) (In w) t))) [
      | inl new ↦ both_ways (has_place (In s ∷ way) (Out w)) away new.1
      | inr found ↦ x.flow.goes_on found.0 w found.1 (sym e ∙ off)
    ]
    entered differ t (ends top a b e) = let clash : step_kind Last ≡ step_kind Off = ap step_kind (sym e ∙ off) in absurd (omega (arith, clash))
    entered differ t (goes (Out u) r e) = absurd (may_go rows InSet next (In s) way (Out w) (Out u) x.go r)
    entered differ t (goes (In u) r e) =
        let same : w ≡ u = by_off w u (sym e ∙ off) in
        differ (out_node v w (one_before (In s ∷ way) (Out v) (Out w) (In w) x.once t (subst (λ k. Then (In s ∷ way) (Out w) (In k)) (sym same) r)))

    -- v goes to w as before
    kept : has_place (In s ∷ way) (Out v) ≡ false → next v ≡ To w → Along rows InSet next (In s ∷ way) w → ⊥
    kept away old (stays no_out e) = x.flow.goes_on v w old (sym e ∙ off)
    kept away old (ends top a b e) = let clash : step_kind Last ≡ step_kind Off = ap step_kind (sym e ∙ off) in absurd (omega (arith, clash))
    kept away old (goes (Out u) r e) = absurd (may_go rows InSet next (In s) way (Out w) (Out u) x.go r)
    kept away old (goes (In u) r e) =
        let same : w ≡ u = by_off w u (sym e ∙ off) in
        elim (followed rows InSet next s way x w (or_right (same_place (In s) (In w)) (has_place way (In w)) (then_behind (In s) way (Out w) (In w) (subst (λ k. Then (In s ∷ way) (Out w) (In k)) (sym same) r)))) [
          | inl new ↦ x.flow.goes_on v w old new.0
          | inr found ↦ both_ways (has_place (In s ∷ way) (Out v)) away (subst (λ k. has_place (In s ∷ way) (Out k) ≡ true) (x.flow.once found.0 v w found.1 old) found.2)
        ]

    by : Along rows InSet next (In s ∷ way) v → Along rows InSet next (In s ∷ way) w → ⊥
    by (stays away e) there = kept away (sym e ∙ is) there
    by (ends top a b e) there = last_to w (sym e ∙ is)
    by (goes q t e) there = let to = by_to v w q (sym e ∙ is) in entered to.1 (subst (λ k. Then (In s ∷ way) (Out v) k) to.0 t) there

once : (rows : List Row) (InSet : ℕ → Type 0) (next : ℕ → Next) (s : ℕ) (way : List Place) → IsWay rows InSet next s way → (v w y : ℕ) → along next (In s ∷ way) v ≡ To y → along next (In s ∷ way) w ≡ To y → v ≡ w
once rows InSet next s way x v w y a b = by (along_is rows InSet next (In s) way v x.go) (along_is rows InSet next (In s) way w x.go)
  where
    to : (u : ℕ) (q : Place) → Then (In s ∷ way) (Out u) q → along next (In s ∷ way) u ≡ next_by u q → along next (In s ∷ way) u ≡ To y → Then (In s ∷ way) (Out u) (In y)
    to u q t e is = subst (λ k. Then (In s ∷ way) (Out u) k) (by_to u y q (sym e ∙ is)).0 t

    -- one goes there along the way, the other as before: then the way goes back to that one
    mixed : (u : ℕ) → Then (In s ∷ way) (Out u) (In y) → (o : ℕ) → has_place (In s ∷ way) (Out o) ≡ false → next o ≡ To y → ⊥
    mixed u t o away old = elim (followed rows InSet next s way x y (or_right (same_place (In s) (In y)) (has_place way (In y)) (then_behind (In s) way (Out u) (In y) t))) [
      | inl new ↦ x.flow.goes_on o y old new.0
      | inr found ↦ both_ways (has_place (In s ∷ way) (Out o)) away (subst (λ k. has_place (In s ∷ way) (Out k) ≡ true) (x.flow.once found.0 o y found.1 old) found.2)
    ]

    by : Along rows InSet next (In s ∷ way) v → Along rows InSet next (In s ∷ way) w → v ≡ w
    by (stays away e) (stays no_out f) = x.flow.once v w y (sym e ∙ a) (sym f ∙ b)
    by (stays away e) (goes q t f) = absurd (mixed w (to w q t f b) v away (sym e ∙ a))
    by (goes q t e) (stays away f) = absurd (mixed v (to v q t e a) w away (sym f ∙ b))
    by (goes q t e) (goes r u f) = out_node v w (one_before (In s ∷ way) (Out v) (Out w) (In y) x.once (to v q t e a) (to w r u f b))
    by (ends t c d e) there = absurd (last_to y (sym e ∙ a))
    by (stays away e) (ends t c d f) = absurd (last_to y (sym f ∙ b))
    by (goes q t e) (ends u c d f) = absurd (last_to y (sym f ∙ b))

last : (rows : List Row) (InSet : ℕ → Type 0) (next : ℕ → Next) (s : ℕ) (way : List Place) → IsWay rows InSet next s way → (v : ℕ) → along next (In s ∷ way) v ≡ Last → (t : ℕ) × InSet t × Refers rows t v
last rows InSet next s way x v is = by (along_is rows InSet next (In s) way v x.go)
  where
    by : Along rows InSet next (In s ∷ way) v → (t : ℕ) × InSet t × Refers rows t v
    by (stays away e) = x.flow.last v (sym e ∙ is)
    by (goes q t e) = absurd (by_last v q (sym e ∙ is))
    by (ends t top r e) = (t, top, r)

-- what comes behind a node's place sets its step
goes_at : (next : ℕ → Next) (way : List Place) (u : ℕ) (q : Place) → AreOnce way → Then way (Out u) q → along next way u ≡ next_by u q
goes_at next [] u q once t = absurd t
goes_at next (x ∷ []) u q once t = absurd t
goes_at next (In a ∷ y ∷ way) u q once (inl e) = absurd (both_ways false refl (ap is_out e.0))
goes_at next (In a ∷ y ∷ way) u q once (inr t) = goes_at next (y ∷ way) u q once.1 t
goes_at next (Out a ∷ y ∷ way) u q once (inl e) =
    ap (λ (c : Bool). if c then next_by a y else along next (y ∷ way) u) (subst (λ k. nat_eq a k ≡ true) (ap place_node e.0) (node_same a)) ∙ ap (λ k. next_by k y) (ap place_node e.0) ∙ ap (next_by u) e.1
goes_at next (Out a ∷ y ∷ way) u q once (inr t) = by (nat_eq a u) refl (goes_at next (y ∷ way) u q once.1 t)
  where
    by : (b : Bool) → nat_eq a u ≡ b → along next (y ∷ way) u ≡ next_by u q → (if b then next_by a y else along next (y ∷ way) u) ≡ next_by u q
    by true e rest = absurd (both_ways (has_place (y ∷ way) (Out a)) once.0 (subst (λ k. has_place (y ∷ way) (Out k) ≡ true) (sym (same_node a u e)) (then_has (y ∷ way) (Out u) q t)))
    by false e rest = rest

-- a node that isn't entered keeps the one before it, and that one its step
fed_before : (rows : List Row) (InSet : ℕ → Type 0) (next : ℕ → Next) (s : ℕ) (way : List Place) → IsWay rows InSet next s way → (u v : ℕ) → has_place (In s ∷ way) (In v) ≡ false → next u ≡ To v → along next (In s ∷ way) u ≡ To v
fed_before rows InSet next s way x u v away old = elim (cases_Bool (has_place (In s ∷ way) (Out u))) [
  | inl h ↦ absurd (by (left rows InSet next s way x u h))
  | inr none ↦ stays_at rows InSet next s way x u none ∙ old
]
  where
    by : Left next s way u → ⊥
    by (fresh t e) = off_to (next u) v e old
    by (back w t e) = let same : w ≡ v = ap step_node (sym e ∙ old) in
        both_ways (has_place (In s ∷ way) (In v)) away (subst (λ k. has_place (In s ∷ way) (In k) ≡ true) same (then_has (In s ∷ way) (In w) (Out u) t))

fed : (rows : List Row) (InSet : ℕ → Type 0) (next : ℕ → Next) (s : ℕ) (way : List Place) → IsWay rows InSet next s way → (v : ℕ) → along next (In s ∷ way) v ≢ Off
    → (is_end rows v ≡ true) ⊎ ((u : ℕ) × (along next (In s ∷ way) u ≡ To v))
fed rows InSet next s way x v on = elim (cases_Bool (has_place (In s ∷ way) (In v))) [
  | inl h ↦ elim (or_cases (same_place (In s) (In v)) (has_place way (In v)) h) [
    | inl e ↦ inl (subst (λ k. is_end rows k ≡ true) (in_node s v (place_same (In s) (In v) e)) x.source)
    | inr t ↦ let found = before (In s) way (In v) t in entered found.0 found.1
  ]
  | inr away ↦ elim (x.flow.fed v (was away)) [
    | inl source ↦ inl source
    | inr found ↦ inr (found.0, fed_before rows InSet next s way x found.0 v away found.1)
  ]
]
  where
    entered : (p : Place) → Then (In s ∷ way) p (In v) → (is_end rows v ≡ true) ⊎ ((u : ℕ) × (along next (In s ∷ way) u ≡ To v))
    entered (In u) t = absurd (may_go rows InSet next (In s) way (In u) (In v) x.go t)
    entered (Out u) t = inr (u, goes_at next (In s ∷ way) u (In v) x.once t ∙ to (nat_eq u v) refl)
      where
        to : (b : Bool) → nat_eq u v ≡ b → (if b then Off else To v) ≡ To v
        to true e = absurd (on (subst (λ k. along next (In s ∷ way) k ≡ Off) (same_node u v e) (goes_at next (In s ∷ way) u (In v) x.once t ∙ ap (λ (c : Bool). if c then Off else To v) e)))
        to false e = refl

    was : has_place (In s ∷ way) (In v) ≡ false → next v ≢ Off
    was away is = elim (cases_Bool (has_place (In s ∷ way) (Out v))) [
      | inl h ↦ by (left rows InSet next s way x v h)
      | inr none ↦ on (stays_at rows InSet next s way x v none ∙ is)
    ]
      where
        by : Left next s way v → ⊥
        by (fresh t e) = both_ways (has_place (In s ∷ way) (In v)) away (then_has (In s ∷ way) (In v) (Out v) t)
        by (back w t e) = off_to (next v) w is e

-- the source is on a path then
begun : (rows : List Row) (InSet : ℕ → Type 0) (next : ℕ → Next) (s : ℕ) (way : List Place) → IsWay rows InSet next s way → along next (In s ∷ way) s ≢ Off
begun rows InSet next s way x off = elim (followed rows InSet next s way x s (has_head (In s) way)) [
  | inr found ↦ end_refers rows s found.0 x.source (x.flow.refers found.0 s found.1)
  | inl new ↦ by new.1 (along_is rows InSet next (In s) way s x.go)
]
  where
    by : has_place (In s ∷ way) (Out s) ≡ true → Along rows InSet next (In s ∷ way) s → ⊥
    by there (stays away e) = both_ways (has_place (In s ∷ way) (Out s)) away there
    by there (ends a b c e) = let clash : step_kind Last ≡ step_kind Off = ap step_kind (sym e ∙ off) in absurd (omega (arith, clash))
    by there (goes (Out u) t e) = absurd (may_go rows InSet next (In s) way (Out s) (Out u) x.go t)
    by there (goes (In u) t e) =
        both_ways (has_place way (In s)) x.once.0 (subst (λ k. has_place way (In k) ≡ true) (sym (by_off s u (sym e ∙ off))) (then_behind (In s) way (Out s) (In u) t))

pub one_more : (rows : List Row) (InSet : ℕ → Type 0) (next : ℕ → Next) (s : ℕ) (way : List Place) → OnePathMore rows next s way InSet
one_more rows InSet next s way order flow source off out once_each go =
    let x : IsWay rows InSet next s way = record { flow = flow; source = source; off = off; outside = out; once = once_each; go = go } in (
      record {
        outside = outside rows InSet next s way x;
        refers = refers rows InSet next s way x;
        goes_on = goes_on rows InSet next s way x;
        once = once rows InSet next s way x;
        last = last rows InSet next s way x;
        fed = fed rows InSet next s way x;
      },
      begun rows InSet next s way x,
    )
