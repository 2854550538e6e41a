-- What a search finds is a way without repeats.
use Rattle.std.proofs.Common.{◌≡◌, ◌≢◌, ℕ, zero, suc, ◌⊎◌, ◌<◌, if◌then◌else◌, nat_eq, Bool, true, false, List, [], ◌∷◌, length, map, refl, sym, ap, ◌∙◌, subst, inl, inr, arith, Option, None, Some}
use Rattle.std.proofs.lemmas.Bool.{both_ways, false_from_ne_true}
use Rattle.syn_rows.specs.declared.Row.{Row}
use Rattle.syn_paths.specs.declared.places.Next.{Next}
use Rattle.syn_paths.specs.declared.places.Next.TheVariants.{Off, Last, To}
use Rattle.syn_paths.specs.declared.places.Place.{Place}
use Rattle.syn_paths.specs.declared.places.Place.TheVariants.{In, Out}
use Rattle.syn_paths.specs.declared.places.Step.{Step}
use Rattle.syn_rows.specs.Nodes.{has_node}
use Rattle.syn_rows.specs.Rows.{InOrder}
use Rattle.syn_cones.specs.Cones.{is_end, Refers, refs_at}
use Rattle.syn_paths.specs.Augmenting.{along, AreOnce, GoesInto, has_place, IsFlow, MayGo, next_by}
use Rattle.syn_paths.specs.Searching.{AreLow, before, CameFrom, HasWay, into_out, is_found, IsBegun, IsFoundAt, IsTrail, IsWayAt, next_at, node_at, own_out, place_at, step_at}
use Rattle.syn_rows.proofs.Nodes.{has_here, has_there, same_node}
use Rattle.syn_paths.proofs.Augmented.{end_refers, off_to, one_more}
use Rattle.syn_paths.proofs.Searched.{place_cases, place_either, place_head, place_tail}

-- places before a place

pub outs_has : (nodes : List ℕ) (p : Place) → has_place (map Out nodes) p ≡ true → (v : ℕ) × (p ≡ Out v) × (has_node nodes v ≡ true)
outs_has [] p h = absurd (both_ways false refl h)
outs_has (n ∷ nodes) p h = elim (place_either (Out n) p (map Out nodes) h) [
  | inl e ↦ (n, e, has_here n nodes)
  | inr t ↦ let found = outs_has nodes p t in (found.0, found.1, has_there n found.0 nodes found.2)
]

is_one : (q p : Place) → has_place (q ∷ []) p ≡ true → p ≡ q
is_one q p h = elim (place_either q p [] h) [ inl e ↦ e | inr t ↦ absurd (both_ways false refl t) ]

pub own_is : (w : ℕ) (behind : Next) (p : Place) → has_place (own_out w behind) p ≡ true → (p ≡ Out w) × (behind ≢ Off)
own_is w Off p h = absurd (both_ways false refl h)
own_is w Last p h = (is_one (Out w) p h, λ e. cc)
own_is w (To v) p h = (is_one (Out w) p h, λ e. off_to (To v) v e refl)

pub into_is : (w : ℕ) (behind : Next) (p : Place) → has_place (into_out w behind) p ≡ true → ((p ≡ In w) × (behind ≡ Off)) ⊎ ((v : ℕ) × (p ≡ In v) × (behind ≡ To v))
into_is w Off p h = inl (is_one (In w) p h, refl)
into_is w Last p h = absurd (both_ways false refl h)
into_is w (To v) p h = inr (v, is_one (In v) p h, refl)

-- they are low, and a unit may go from them

before_low : (rows : List Row) (next : List Next) (InSet IsBelow Low : ℕ → Type 0) → AreLow rows next InSet IsBelow Low → (place p : Place) → Low (node_at place) → has_place (before rows next place) p ≡ true → Low (node_at p)
before_low rows next InSet IsBelow Low low (In w) p at h = elim (place_cases (own_out w (next_at next w)) (map Out (refs_at rows w)) p h) [
  | inl own ↦ subst (λ k. Low (node_at k)) (sym (own_is w (next_at next w) p own).0) at
  | inr ref ↦ let found = outs_has (refs_at rows w) p ref in subst (λ k. Low (node_at k)) (sym found.1) (low.refs w found.0 at found.2)
]
before_low rows next InSet IsBelow Low low (Out w) p at h = elim (into_is w (next_at next w) p h) [
  | inl off ↦ subst (λ k. Low (node_at k)) (sym off.0) at
  | inr (v, e, to) ↦ subst (λ k. Low (node_at k)) (sym e) (low.steps w v to)
]

before_goes : (rows : List Row) (next : List Next) (InSet IsBelow Low : ℕ → Type 0) → AreLow rows next InSet IsBelow Low → (place p : Place) → Low (node_at place) → has_place (before rows next place) p ≡ true
    → MayGo rows InSet (next_at next) p place
before_goes rows next InSet IsBelow Low low (In w) p at h = elim (place_cases (own_out w (next_at next w)) (map Out (refs_at rows w)) p h) [
  | inl own ↦ let is = own_is w (next_at next w) p own in subst (λ k. MayGo rows InSet (next_at next) k (In w)) (sym is.0) (inr (refl, is.1))
  | inr ref ↦ let found = outs_has (refs_at rows w) p ref in subst (λ k. MayGo rows InSet (next_at next) k (In w)) (sym found.1) (inl (found.2, low.out w at))
]
before_goes rows next InSet IsBelow Low low (Out w) p at h = elim (into_is w (next_at next w) p h) [
  | inl off ↦ subst (λ k. MayGo rows InSet (next_at next) k (Out w)) (sym off.0) (inl (refl, off.1))
  | inr (v, e, to) ↦ subst (λ k. MayGo rows InSet (next_at next) k (Out w)) (sym e) (inr to)
]

-- all that the trail has is low

low_by : (rows : List Row) (next : List Next) (InSet IsBelow Low : ℕ → Type 0) (trail : List Step) → AreLow rows next InSet IsBelow Low → (i : ℕ) → ((j : ℕ) → j < i → Low (node_at (place_at trail j)))
    → (place : Place) (from : Option ℕ) → CameFrom rows next IsBelow trail i place from → Low (node_at place)
low_by rows next InSet IsBelow Low trail low i smaller (In v) None came = absurd came
low_by rows next InSet IsBelow Low trail low i smaller (Out v) None came = low.starts v came
low_by rows next InSet IsBelow Low trail low i smaller place (Some j) came = before_low rows next InSet IsBelow Low low (place_at trail j) place (smaller j came.0) came.1

low_below : (rows : List Row) (next : List Next) (InSet IsBelow Low : ℕ → Type 0) (trail : List Step) → AreLow rows next InSet IsBelow Low → IsTrail rows next IsBelow trail → (limit i : ℕ) → i < limit → i < length trail → Low (node_at (place_at trail i))
low_below rows next InSet IsBelow Low trail low t zero i lt here = absurd (omega (arith, lt))
low_below rows next InSet IsBelow Low trail low t (suc limit) i lt here =
    low_by rows next InSet IsBelow Low trail low i (λ j less. low_below rows next InSet IsBelow Low trail low t limit j (omega (arith, less, lt)) (omega (arith, less, here))) (place_at trail i) (step_at trail i).from (t.came i here)

pub low_at : (rows : List Row) (next : List Next) (InSet IsBelow Low : ℕ → Type 0) (trail : List Step) → AreLow rows next InSet IsBelow Low → IsTrail rows next IsBelow trail → (i : ℕ) → i < length trail → Low (node_at (place_at trail i))
low_at rows next InSet IsBelow Low trail low t i here = low_below rows next InSet IsBelow Low trail low t (suc i) i (omega arith) here

-- a way from each place of it

goes_on : (rows : List Row) (InSet : ℕ → Type 0) (next : ℕ → Next) (place other : Place) (way : List Place) → MayGo rows InSet next place other → GoesInto rows InSet next other way → GoesInto rows InSet next place (other ∷ way)
goes_on rows InSet next (In v) other way may goes = (may, goes)
goes_on rows InSet next (Out v) other way may goes = (may, goes)

way_begins : (rows : List Row) (next : List Next) (InSet IsBelow Low : ℕ → Type 0) → AreLow rows next InSet IsBelow Low → (place : Place) → IsBegun IsBelow place → GoesInto rows InSet (next_at next) place []
way_begins rows next InSet IsBelow Low low (In v) begun = absurd begun
way_begins rows next InSet IsBelow Low low (Out v) begun = low.below v begun

way_by : (rows : List Row) (next : List Next) (InSet IsBelow Low : ℕ → Type 0) (trail : List Step) → AreLow rows next InSet IsBelow Low → IsTrail rows next IsBelow trail → (i : ℕ) → i < length trail
    → ((j : ℕ) → j < i → HasWay rows next InSet trail j) → (from : Option ℕ) → (step_at trail i).from ≡ from → CameFrom rows next IsBelow trail i (place_at trail i) from → HasWay rows next InSet trail i
way_by rows next InSet IsBelow Low trail low t i here smaller None is came = record {
  way = [];
  recorded = is;
  goes = way_begins rows next InSet IsBelow Low low (place_at trail i) came;
  once = (refl, tt);
  behind = λ q h. absurd (both_ways false refl h);
}
way_by rows next InSet IsBelow Low trail low t i here smaller (Some j) is came =
    let rest = smaller j came.0 in
    record {
      way = place_at trail j ∷ rest.way;
      recorded = (j, is, refl, rest.recorded);
      goes = goes_on rows InSet (next_at next) (place_at trail i) (place_at trail j) rest.way
          (before_goes rows next InSet IsBelow Low low (place_at trail j) (place_at trail i) (low_at rows next InSet IsBelow Low trail low t j (omega (arith, came.0, here))) came.1) rest.goes;
      once = (
        false_from_ne_true (has_place (place_at trail j ∷ rest.way) (place_at trail i)) (λ h. elim (place_either (place_at trail j) (place_at trail i) rest.way h) [
          | inl e ↦ t.once j i came.0 here (sym e)
          | inr there ↦ let at = rest.behind (place_at trail i) there in t.once at.0 i (omega (arith, at.1, came.0)) here at.2
        ]),
        rest.once,
      );
      behind = λ q h. elim (place_either (place_at trail j) q rest.way h) [
        | inl e ↦ (j, came.0, sym e)
        | inr there ↦ let at = rest.behind q there in (at.0, omega (arith, at.1, came.0), at.2)
      ];
    }

way_below : (rows : List Row) (next : List Next) (InSet IsBelow Low : ℕ → Type 0) (trail : List Step) → AreLow rows next InSet IsBelow Low → IsTrail rows next IsBelow trail → (limit i : ℕ) → i < limit → i < length trail → HasWay rows next InSet trail i
way_below rows next InSet IsBelow Low trail low t zero i lt here = absurd (omega (arith, lt))
way_below rows next InSet IsBelow Low trail low t (suc limit) i lt here =
    way_by rows next InSet IsBelow Low trail low t i here (λ j less. way_below rows next InSet IsBelow Low trail low t limit j (omega (arith, less, lt)) (omega (arith, less, here))) (step_at trail i).from refl (t.came i here)

pub way_at : (rows : List Row) (next : List Next) (InSet IsBelow Low : ℕ → Type 0) (trail : List Step) → AreLow rows next InSet IsBelow Low → IsTrail rows next IsBelow trail → (i : ℕ) → i < length trail → HasWay rows next InSet trail i
way_at rows next InSet IsBelow Low trail low t i here = way_below rows next InSet IsBelow Low trail low t (suc i) i (omega arith) here

-- a source that is met is on no path

source_is : (rows : List Row) (place : Place) → is_found rows place ≡ true → (s : ℕ) × (place ≡ In s) × (is_end rows s ≡ true)
source_is rows (In v) h = (v, refl, h)
source_is rows (Out v) h = absurd (both_ways false refl h)

came_off : (rows : List Row) (next : List Next) (InSet IsBelow : ℕ → Type 0) (trail : List Step) → IsFlow rows InSet (next_at next) → (i s : ℕ) → is_end rows s ≡ true → (place : Place) (from : Option ℕ) → place ≡ In s → CameFrom rows next IsBelow trail i place from → next_at next s ≡ Off
came_off rows next InSet IsBelow trail flow i s source place None e came = absurd (subst (IsBegun IsBelow) e came)
came_off rows next InSet IsBelow trail flow i s source place (Some j) e came = go (place_at trail j) (subst (λ k. has_place (before rows next (place_at trail j)) k ≡ true) e came.1)
  where
    in_same : (u v : ℕ) → In u ≡ In v → u ≡ v
    in_same u v e = ap node_at e

    go : (other : Place) → has_place (before rows next other) (In s) ≡ true → next_at next s ≡ Off
    go (In w) h = elim (place_cases (own_out w (next_at next w)) (map Out (refs_at rows w)) (In s) h) [
      | inl own ↦ cc ((own_is w (next_at next w) (In s) own).0)
      | inr ref ↦ cc ((outs_has (refs_at rows w) (In s) ref).1)
    ]
    go (Out w) h = elim (into_is w (next_at next w) (In s) h) [
      | inl off ↦ subst (λ k. next_at next k ≡ Off) (sym (in_same s w off.0)) off.1
      | inr (v, is, to) ↦ absurd (end_refers rows s w source (subst (λ k. Refers rows k w) (sym (in_same s v is)) (flow.refers w v to)))
    ]

-- a node loses its step only where the way goes back through it
along_off : (rows : List Row) (InSet : ℕ → Type 0) (next : ℕ → Next) (p : Place) (way : List Place) (v : ℕ) → GoesInto rows InSet next p way → next v ≢ Off → along next (p ∷ way) v ≡ Off → has_place way (In v) ≡ true
along_off rows InSet next (In w) [] v goes on h = absurd goes
along_off rows InSet next (In w) (q ∷ way) v goes on h = place_tail q (In v) way (along_off rows InSet next q way v goes.1 on h)
along_off rows InSet next (Out w) [] v goes on h = go (nat_eq w v) h
  where
    go : (b : Bool) → (if b then Last else next v) ≡ Off → has_place [] (In v) ≡ true
    go true e = absurd (cc e)
    go false e = absurd (on e)
along_off rows InSet next (Out w) (Out x ∷ way) v goes on h = absurd goes.0
along_off rows InSet next (Out w) (In x ∷ way) v goes on h = go (nat_eq w v) refl h (λ e. along_off rows InSet next (In x) way v goes.1 on e)
  where
    same : (b : Bool) → nat_eq w x ≡ b → (if b then Off else To x) ≡ Off → w ≡ x
    same true t e = same_node w x t
    same false t e = absurd (cc e)

    go : (b : Bool) → nat_eq w v ≡ b → (if b then next_by w (In x) else along next (In x ∷ way) v) ≡ Off → (along next (In x ∷ way) v ≡ Off → has_place way (In v) ≡ true) → has_place (In x ∷ way) (In v) ≡ true
    go true is e rest = subst (λ k. has_place (In x ∷ way) (In k) ≡ true) (sym (same (nat_eq w x) refl e) ∙ same_node w v is) (place_head (In x) way)
    go false is e rest = place_tail (In x) (In v) way (rest e)

-- a source that is on a path along the way, and wasn't, is its first node

leaves_first : (rows : List Row) (InSet : ℕ → Type 0) (next : ℕ → Next) (w x v : ℕ) → MayGo rows InSet next (In w) (Out x) → x ≡ v → next v ≡ Off → v ≡ w
leaves_first rows InSet next w x v (inl (e, off)) same off_v = sym same ∙ sym e
leaves_first rows InSet next w x v (inr to) same off_v = absurd (off_to (next x) w (subst (λ k. next k ≡ Off) (sym same) off_v) to)

enters_none : (rows : List Row) (InSet : ℕ → Type 0) (next : ℕ → Next) (x y v : ℕ) → MayGo rows InSet next (Out x) (In y) → is_end rows v ≡ true → next v ≡ Off → v ≡ y → ⊥
enters_none rows InSet next x y v (inl (r, out)) source off e = end_refers rows v x source (subst (λ k. Refers rows k x) (sym e) r)
enters_none rows InSet next x y v (inr (same, on)) source off e = on (subst (λ k. next k ≡ Off) (e ∙ sym same) off)

only_new : (rows : List Row) (InSet : ℕ → Type 0) (next : ℕ → Next) (w : ℕ) (way : List Place) (v : ℕ) → GoesInto rows InSet next (In w) way → is_end rows v ≡ true → next v ≡ Off → along next (In w ∷ way) v ≢ Off → v ≡ w
only_new rows InSet next w [] v goes source off on = absurd goes
only_new rows InSet next w (In x ∷ way) v goes source off on = absurd goes.0
only_new rows InSet next w (Out x ∷ []) v goes source off on = go (nat_eq x v) refl on
  where
    go : (b : Bool) → nat_eq x v ≡ b → (if b then Last else next v) ≢ Off → v ≡ w
    go true e there = leaves_first rows InSet next w x v goes.0 (same_node x v e) off
    go false e there = absurd (there off)
only_new rows InSet next w (Out x ∷ Out y ∷ way) v goes source off on = absurd goes.1.0
only_new rows InSet next w (Out x ∷ In y ∷ way) v goes source off on = go (nat_eq x v) refl on (λ there. only_new rows InSet next y way v goes.1.1 source off there)
  where
    go : (b : Bool) → nat_eq x v ≡ b → (if b then next_by x (In y) else along next (In y ∷ way) v) ≢ Off → (along next (In y ∷ way) v ≢ Off → v ≡ y) → v ≡ w
    go true e there rest = leaves_first rows InSet next w x v goes.0 (same_node x v e) off
    go false e there rest = absurd (enters_none rows InSet next x y v goes.1.0 source off (rest there))

-- one path more, along the way that the trail records
pub more_found : (rows : List Row) (next : List Next) (InSet IsBelow Low : ℕ → Type 0) (trail : List Step) → InOrder rows → IsFlow rows InSet (next_at next) → AreLow rows next InSet IsBelow Low → IsTrail rows next IsBelow trail
    → (i : ℕ) → IsFoundAt rows trail i
    → (s : ℕ) × (way : List Place) × (is_end rows s ≡ true) × (next_at next s ≡ Off) × (place_at trail i ≡ In s) × IsWayAt trail i way × AreOnce (In s ∷ way)
    × IsFlow rows InSet (along (next_at next) (In s ∷ way)) × (along (next_at next) (In s ∷ way) s ≢ Off) × ((q : Place) → has_place (In s ∷ way) q ≡ true → Low (node_at q))
    × ((v : ℕ) → is_end rows v ≡ true → next_at next v ≢ Off → along (next_at next) (In s ∷ way) v ≢ Off)
    × ((v : ℕ) → is_end rows v ≡ true → next_at next v ≡ Off → along (next_at next) (In s ∷ way) v ≢ Off → v ≡ s)
more_found rows next InSet IsBelow Low trail order flow low t i found =
    let source = source_is rows (place_at trail i) found.source in
    let has = way_at rows next InSet IsBelow Low trail low t i found.there in
    let off = came_off rows next InSet IsBelow trail flow i source.0 source.2 (place_at trail i) (step_at trail i).from source.1 (t.came i found.there) in
    let out = low.out source.0 (subst (λ k. Low (node_at k)) source.1 (low_at rows next InSet IsBelow Low trail low t i found.there)) in
    let once = subst (λ k. AreOnce (k ∷ has.way)) source.1 has.once in
    let more = one_more rows InSet (next_at next) source.0 has.way order flow source.2 off out once (subst (λ k. GoesInto rows InSet (next_at next) k has.way) source.1 has.goes) in (
      source.0,
      has.way,
      source.2,
      off,
      source.1,
      has.recorded,
      once,
      more.0,
      more.1,
      λ q h. elim (place_either (In source.0) q has.way h) [
        | inl e ↦ subst (λ k. Low (node_at k)) (source.1 ∙ sym e) (low_at rows next InSet IsBelow Low trail low t i found.there)
        | inr there ↦ let at = has.behind q there in
            subst (λ k. Low (node_at k)) at.2 (low_at rows next InSet IsBelow Low trail low t at.0 (omega (arith, at.1, found.there)))
      ],
      λ v end on gone.
          let there = along_off rows InSet (next_at next) (In source.0) has.way v (subst (λ k. GoesInto rows InSet (next_at next) k has.way) source.1 has.goes) on gone in
          let at = has.behind (In v) there in
          on (came_off rows next InSet IsBelow trail flow at.0 v end (place_at trail at.0) (step_at trail at.0).from at.2 (t.came at.0 (omega (arith, at.1, found.there)))),
      λ v end off there. only_new rows InSet (next_at next) source.0 has.way v (subst (λ k. GoesInto rows InSet (next_at next) k has.way) source.1 has.goes) end off there,
    )
