-- One path more is added.
use Rattle.std.proofs.Common.{◌≡◌, ◌≢◌, ℕ, ◌⊎◌, ◌<◌, nat_lt, true, List, [], ◌∷◌, ◌++◌, refl, sym, ◌∙◌, subst, inl, inr, arith}
use Rattle.std.proofs.lemmas.Bool.{and_from, cases_Bool, lt-ltb}
use Rattle.syn_rows.specs.declared.Row.{Row}
use Rattle.syn_paths.specs.declared.places.Next.{Next}
use Rattle.syn_paths.specs.declared.places.Next.TheVariants.{Off, Last, To}
use Rattle.syn_paths.specs.declared.places.Place.{Place}
use Rattle.syn_paths.specs.declared.places.Place.TheVariants.{In, Out}
use Rattle.syn_paths.specs.declared.places.Step.{Step}
use Rattle.syn_rows.specs.Nodes.{has_node}
use Rattle.syn_rows.specs.Rows.{InOrder}
use Rattle.syn_cones.specs.Cones.{is_end}
use Rattle.syn_paths.specs.Tops.{IsInTop}
use Rattle.syn_paths.specs.Augmenting.{along, AreOnce, has_place, IsFlow}
use Rattle.syn_paths.specs.Checking.{all_within}
use Rattle.syn_paths.specs.Tops.{label_in}
use Rattle.syn_paths.specs.Searching.{AreLow, IsFoundAt, IsStart, IsTrail, IsWayAt, next_at, NextWithin, node_at, place_at, TrailWithin}
use Rattle.syn_paths.specs.Tops.{FallsBelow}
use Rattle.syn_paths.specs.Adding.{ArePaths, AreStarts, IsAdded}
use Rattle.syn_paths.specs.Rooms.{AreTouched, HoldsPaths}
use Rattle.syn_paths.proofs.Listed.{distinct_both}
use Rattle.syn_rows.proofs.Nodes.{has_cases, has_here, has_left, has_one, has_right, has_there}
use Rattle.syn_paths.proofs.Falling.{refers_below}
use Rattle.syn_paths.proofs.Checked.{top_below}
use Rattle.syn_paths.proofs.Augmented.{off_to}
use Rattle.syn_paths.proofs.Found.{low_at, more_found}
use Rattle.syn_paths.proofs.Followed.{along_away}

abbrev pub IsLow : List ℕ → ℕ → ℕ → ℕ → Type 0
IsLow labels root level v = (v < root) × (label_in labels v < level)

abbrev pub Top : List Row → List ℕ → ℕ → ℕ → ℕ → Type 0
Top rows labels root level = IsInTop rows (label_in labels) root level

pub start_low : (rows : List Row) (labels : List ℕ) (root level : ℕ) (starts : List ℕ) → InOrder rows → AreStarts rows labels root level starts → (v : ℕ) → IsStart starts v → IsLow labels root level v
start_low rows labels root level starts order s v h =
    let at = s.below v h in (omega (arith, refers_below rows at.0 v order at.2, top_below rows (label_in labels) root level at.0 order at.1), s.low v h)

pub low_out : (rows : List Row) (labels : List ℕ) (root level v : ℕ) → v < root → label_in labels v < level → IsInTop rows (label_in labels) root level v → ⊥
low_out rows labels root level v lt less (inl e) = omega (arith, lt, e)
low_out rows labels root level v lt less (inr (at, cone)) = omega (arith, less, at)

pub are_low : (rows : List Row) (labels : List ℕ) (root level : ℕ) (next : List Next) (starts : List ℕ) → InOrder rows → FallsBelow rows (label_in labels) root → AreStarts rows labels root level starts → ArePaths rows labels root level next
    → AreLow rows next (Top rows labels root level) (IsStart starts) (IsLow labels root level)
are_low rows labels root level next starts order falls s p = record {
  out = λ v low top. low_out rows labels root level v low.0 low.1 top;
  starts = start_low rows labels root level starts order s;
  below = s.below;
  refs = λ w v low r. (omega (arith, low.0, refers_below rows w v order r), omega (arith, low.1, falls w v low.0 r));
  steps = λ w v to. p.low v (p.flow.goes_on w v to);
}

pub next_within : (rows : List Row) (labels : List ℕ) (root level : ℕ) (next : List Next) (count : ℕ) → ArePaths rows labels root level next → root < count → NextWithin next count
next_within rows labels root level next count p lt w v to = omega (arith, lt, (p.low v (p.flow.goes_on w v to)).0)

pub starts_within : (rows : List Row) (labels : List ℕ) (root level : ℕ) (starts : List ℕ) (count : ℕ) → InOrder rows → AreStarts rows labels root level starts → root < count → all_within count starts ≡ true
starts_within rows labels root level starts count order s lt = each starts (λ v h. omega (arith, lt, (start_low rows labels root level starts order s v h).0))
  where
    each : (ms : List ℕ) → ((m : ℕ) → has_node ms m ≡ true → m < count) → all_within count ms ≡ true
    each [] f = refl
    each (m ∷ ms) f = and_from (nat_lt m count) (all_within count ms) (lt-ltb m count (f m (has_here m ms))) (each ms (λ k h. f k (has_there m k ms h)))

-- the trail's steps

pub trail_within : (rows : List Row) (labels : List ℕ) (root level : ℕ) (next : List Next) (starts : List ℕ) (trail : List Step) (count : ℕ) → InOrder rows → FallsBelow rows (label_in labels) root → AreStarts rows labels root level starts
    → ArePaths rows labels root level next → IsTrail rows next (IsStart starts) trail → root < count → TrailWithin trail count
trail_within rows labels root level next starts trail count order falls s p t lt i here =
    omega (arith, lt, (low_at rows next (Top rows labels root level) (IsStart starts) (IsLow labels root level) trail (are_low rows labels root level next starts order falls s p) t i here).0)

-- steps that are the same everywhere

flow_same : (rows : List Row) (InSet : ℕ → Type 0) (f g : ℕ → Next) → ((v : ℕ) → g v ≡ f v) → IsFlow rows InSet f → IsFlow rows InSet g
flow_same rows InSet f g same flow = record {
  outside = λ v on. flow.outside v (λ e. on (same v ∙ e));
  refers = λ v w to. flow.refers v w (sym (same v) ∙ to);
  goes_on = λ v w to e. flow.goes_on v w (sym (same v) ∙ to) (sym (same w) ∙ e);
  once = λ v w x to also. flow.once v w x (sym (same v) ∙ to) (sym (same w) ∙ also);
  last = λ v e. flow.last v (sym (same v) ∙ e);
  fed = λ v on. elim (flow.fed v (λ e. on (same v ∙ e))) [
    | inl source ↦ inl source
    | inr (u, to) ↦ inr (u, same u ∙ to)
  ];
}

pub off_or_on : (n : Next) → (n ≡ Off) ⊎ (n ≢ Off)
off_or_on Off = inl refl
off_or_on Last = inr (λ e. cc)
off_or_on (To w) = inr (λ e. off_to (To w) w e refl)

-- the steps that were followed are paths, one more
pub added : (rows : List Row) (labels : List ℕ) (root level : ℕ) (next after : List Next) (starts : List ℕ) (trail : List Step) (i : ℕ) → InOrder rows → FallsBelow rows (label_in labels) root → AreStarts rows labels root level starts
    → ArePaths rows labels root level next → IsTrail rows next (IsStart starts) trail → IsFoundAt rows trail i
    → ((way : List Place) → IsWayAt trail i way → AreOnce (place_at trail i ∷ way) → (v : ℕ) → next_at after v ≡ along (next_at next) (place_at trail i ∷ way) v)
    → ArePaths rows labels root level after × ((s : ℕ) × (place_at trail i ≡ In s) × IsAdded rows next after s) × ((v : ℕ) → is_end rows v ≡ true → next_at next v ≢ Off → next_at after v ≢ Off)
added rows labels root level next after starts trail i order falls s p t found followed = (
  record { flow = flow_same rows (Top rows labels root level) (along (next_at next) (In source ∷ way)) (next_at after) same flow; low = low },
  (source, more.4, record { source = is; off = off; on = λ e. on (sym (same source) ∙ e); only = only }),
  λ v end was e. more.10 v end was (sym (same v) ∙ e),
)
  where
    more : (s : ℕ) × (way : List Place) × (is_end rows s ≡ true) × (next_at next s ≡ Off) × (place_at trail i ≡ In s) × IsWayAt trail i way × AreOnce (In s ∷ way)
        × IsFlow rows (Top rows labels root level) (along (next_at next) (In s ∷ way)) × (along (next_at next) (In s ∷ way) s ≢ Off) × ((q : Place) → has_place (In s ∷ way) q ≡ true → IsLow labels root level (node_at q))
        × ((v : ℕ) → is_end rows v ≡ true → next_at next v ≢ Off → along (next_at next) (In s ∷ way) v ≢ Off)
        × ((v : ℕ) → is_end rows v ≡ true → next_at next v ≡ Off → along (next_at next) (In s ∷ way) v ≢ Off → v ≡ s)
    more = more_found rows next (Top rows labels root level) (IsStart starts) (IsLow labels root level) trail order p.flow (are_low rows labels root level next starts order falls s p) t i found

    source : ℕ
    source = more.0

    way : List Place
    way = more.1

    is : is_end rows source ≡ true
    is = more.2

    off : next_at next source ≡ Off
    off = more.3

    same : (v : ℕ) → next_at after v ≡ along (next_at next) (In source ∷ way) v
    same v = subst (λ k. next_at after v ≡ along (next_at next) (k ∷ way) v) more.4 (followed way more.5 (subst (λ k. AreOnce (k ∷ way)) (sym more.4) more.6) v)

    flow : IsFlow rows (Top rows labels root level) (along (next_at next) (In source ∷ way))
    flow = more.7

    on : along (next_at next) (In source ∷ way) source ≢ Off
    on = more.8

    low : (v : ℕ) → next_at after v ≢ Off → (v < root) × (label_in labels v < level)
    low v h = elim (cases_Bool (has_place (In source ∷ way) (Out v))) [
      | inl there ↦ more.9 (Out v) there
      | inr away ↦ p.low v (λ e. h (same v ∙ along_away (next_at next) (In source ∷ way) v away ∙ e))
    ]

    only : (v : ℕ) → is_end rows v ≡ true → next_at after v ≢ Off → (next_at next v ≢ Off) ⊎ (v ≡ source)
    only v end there = elim (off_or_on (next_at next v)) [ inl o ↦ inr (more.11 v end o (λ e. there (same v ∙ e))) | inr o ↦ inl o ]

-- they are held, with the source and the nodes that were touched
pub holds_more : (rows : List Row) (labels : List ℕ) (root level : ℕ) (next after : List Next) (sources touched : List ℕ) (s : ℕ) → HoldsPaths rows labels root level next sources touched → ArePaths rows labels root level after
    → IsAdded rows next after s → ((v : ℕ) → is_end rows v ≡ true → next_at next v ≢ Off → next_at after v ≢ Off) → (more : List ℕ) → AreTouched after more → HoldsPaths rows labels root level after (sources ++ s ∷ []) more
holds_more rows labels root level next after sources touched s h paths one keeps more t = record {
  paths = paths;
  sources_are = λ v there. elim (has_cases sources (s ∷ []) v there) [
    | inl old ↦ let was = h.sources_are v old in (was.0, keeps v was.0 was.1)
    | inr new ↦ let e = has_one s v new in (subst (λ k. is_end rows k ≡ true) e one.source, subst (λ k. next_at after k ≢ Off) e one.on)
  ];
  once = distinct_both sources (s ∷ []) h.once refl (λ x old new. (h.sources_are x old).1 (subst (λ k. next_at next k ≡ Off) (has_one s x new) one.off));
  each = λ v end on. elim (one.only v end on) [
    | inl was ↦ has_left sources (s ∷ []) v (h.each v end was)
    | inr e ↦ has_right sources (s ∷ []) v (subst (λ k. has_node (s ∷ []) k ≡ true) (sym e) (has_here s []))
  ];
  touched_are = t;
}
