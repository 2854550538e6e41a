-- The leaves of a search that is done are the least cut.
use Rattle.std.proofs.Common.{◌≡◌, ◌≢◌, ℕ, zero, suc, ◌+◌, ◌⊎◌, ◌<◌, ◌≤◌, nat_lt, not, true, false, List, [], ◌∷◌, ◌++◌, length, map, flat_map, refl, sym, ap, ◌∙◌, subst, inl, inr, arith, Option, None, Some}
use Rattle.std.specs.List.{list_all}
use Rattle.std.proofs.lemmas.Bool.{and_from, and_parts, both_ways, cases_Bool, cases_eq, false_from_ne_true, ltb-true, not_from_false}
use Rattle.std.proofs.lemmas.List.{get_or_past}
use Rattle.syn_rows.specs.declared.Row.{Row}
use Rattle.syn_rows.specs.Nodes.{has_node}
use Rattle.syn_rows.specs.Rows.{InOrder}
use Rattle.syn_lists.specs.Numbers.{distinct_numbers}
use Rattle.syn_cones.specs.Cones.{is_end, LeadsTo, Refers, refs_at}
use Rattle.syn_cones.specs.Walk.{rises}
use Rattle.syn_paths.specs.declared.places.Next.{Next}
use Rattle.syn_paths.specs.declared.places.Next.TheVariants.{Off, Last, To}
use Rattle.syn_paths.specs.declared.places.Place.{Place}
use Rattle.syn_paths.specs.declared.places.Place.TheVariants.{In, Out}
use Rattle.syn_paths.specs.declared.places.Step.{Step}
use Rattle.syn_paths.specs.Tops.{FallsBelow, IsInTop, IsLowFor, label_in}
use Rattle.syn_paths.specs.Paths.{ArePathsInto}
use Rattle.syn_paths.specs.LeastCuts.{IsCutOutside, IsInside, IsLeastCut}
use Rattle.syn_paths.specs.Augmenting.{has_place}
use Rattle.syn_paths.specs.Searching.{before, CameFrom, is_seen, IsStart, IsTrail, next_at, own_out, place_at, State, state, step_at}
use Rattle.syn_paths.specs.Adding.{ArePaths, AreStarts}
use Rattle.syn_paths.specs.Listing.{AreLists, AreSources, GoesUp, IsListFrom}
use Rattle.syn_rows.proofs.Nodes.{has_here, has_there, here_or_there}
use Rattle.syn_cones.proofs.Walking.{led_more}
use Rattle.syn_paths.proofs.Falling.{refers_below}
use Rattle.syn_paths.proofs.Checked.{cone_on, top_below, top_cone}
use Rattle.syn_paths.proofs.Augmented.{off_to}
use Rattle.syn_paths.proofs.Searched.{place_cases, trail_of}
use Rattle.syn_paths.proofs.Found.{into_is, outs_has, own_is}
use Rattle.syn_paths.proofs.Added.{Top}
use Rattle.syn_paths.proofs.Listed.{on_lists, on_one}
use Rattle.syn_paths.proofs.Sounded.{behind_inside, IsInsideIn, IsReachedIn, off_paths, outside_many, top_led}
use Rattle.syn_paths.proofs.Cutting.{AreLeaves, IsDone, leaves_cut, refs_reached, start_reached}
use Rattle.syn_paths.proofs.Few.{leaves_few, same_list}

-- paths as lists are there

list_there : (next : List Next) → GoesUp next → (limit v : ℕ) → length next ≤ v + limit → next_at next v ≢ Off → (path : List ℕ) × IsListFrom next v path
list_there next up zero v le on = absurd (on (get_or_past next v Off (omega (arith, le))))
list_there next up (suc limit) v le on = go (next_at next v) refl (λ w less there. list_there next up limit w (omega (arith, le, less)) there)
  where
    go : (b : Next) → next_at next v ≡ b → ((w : ℕ) → v < w → next_at next w ≢ Off → (path : List ℕ) × IsListFrom next w path) → (path : List ℕ) × IsListFrom next v path
    go Off e rest = absurd (on e)
    go Last e rest = ([], e)
    go (To w) e rest = let more = rest w (up.up v w e) (up.on v w e) in (w ∷ more.0, (e, more.1))

pub lists_there : (rows : List Row) (next : List Next) → GoesUp next → (sources : List ℕ) → AreSources rows next sources → (lists : List (List ℕ)) × AreLists next sources lists
lists_there rows next up [] on = ([], tt)
lists_there rows next up (s ∷ sources) on =
    let list = list_there next up (length next) s (omega arith) (on s (has_here s sources)).1 in
    let rest = lists_there rows next up sources (λ v h. on v (has_there s v sources h)) in
    ((s ∷ list.0) ∷ rest.0, ((list.0, refl, list.1), rest.1))

-- a step stands in one of them

split_list : (next : List Next) (s : ℕ) (path : List ℕ) → IsListFrom next s path → (v w : ℕ) → has_node (s ∷ path) v ≡ true → next_at next v ≡ To w → (lower : List ℕ) × (upper : List ℕ) × (s ∷ path ≡ lower ++ v ∷ w ∷ upper)
split_list next s [] last v w h to = elim (here_or_there s v [] h) [
  | inl e ↦ let at : next_at next s ≡ To w = subst (λ k. next_at next k ≡ To w) e to in absurd (cc (at, last))
  | inr t ↦ absurd (both_ways false refl t)
]
split_list next s (x ∷ path) (on, rest) v w h to = elim (here_or_there s v (x ∷ path) h) [
  | inl e ↦
      let at : next_at next s ≡ To w = subst (λ k. next_at next k ≡ To w) e to in
      let same : x ≡ w = cc (at, on) in
      ([], path, ap (λ k. k ∷ x ∷ path) (sym e) ∙ ap (λ k. v ∷ k ∷ path) same)
  | inr t ↦ let more = split_list next x path rest v w t to in (s ∷ more.0, more.1, ap (λ (l : List ℕ). s ∷ l) more.2)
]

split_lists : (next : List Next) (sources : List ℕ) (lists : List (List ℕ)) → AreLists next sources lists → (s : ℕ) → has_node sources s ≡ true → (path : List ℕ) → IsListFrom next s path
    → (before : List (List ℕ)) × (after : List (List ℕ)) × (lists ≡ before ++ (s ∷ path) ∷ after)
split_lists next [] lists are s h path from = absurd (both_ways false refl h)
split_lists next (x ∷ sources) [] are s h path from = absurd are
split_lists next (x ∷ sources) (list ∷ lists) ((own, is, onto), more) s h path from = elim (here_or_there x s sources h) [
  | inl e ↦
      let onto2 : IsListFrom next s own = subst (λ k. IsListFrom next k own) (sym e) onto in
      let same : s ∷ path ≡ list = ap (λ (l : List ℕ). s ∷ l) (same_list next s path own from onto2) ∙ ap (λ k. k ∷ own) e ∙ sym is in
      ([], lists, ap (λ (l : List ℕ). l ∷ lists) (sym same))
  | inr t ↦ let rest = split_lists next sources lists more s t path from in (list ∷ rest.0, rest.1, ap (λ (ls : List (List ℕ)). list ∷ ls) rest.2)
]

-- what stands in one is on a path
node_on : (next : List Next) (s : ℕ) (path : List ℕ) → IsListFrom next s path → (x : ℕ) → has_node (s ∷ path) x ≡ true → next_at next x ≢ Off
node_on next s [] last x h e = elim (here_or_there s x [] h) [
  | inl q ↦ let at : next_at next s ≡ Off = subst (λ k. next_at next k ≡ Off) q e in cc (at, last)
  | inr t ↦ both_ways false refl t
]
node_on next s (y ∷ path) (to, rest) x h e = elim (here_or_there s x (y ∷ path) h) [
  | inl q ↦ off_to (next_at next s) y (subst (λ k. next_at next k ≡ Off) q e) to
  | inr t ↦ node_on next y path rest x t e
]

-- what a search for a node goes by, with its paths as lists
pub record HasPaths (rows : List Row) (labels : List ℕ) (root level : ℕ) (next : List Next) (starts sources : List ℕ) (lists : List (List ℕ)) : Type 0 where
  pub order : InOrder rows
  pub falls : FallsBelow rows (label_in labels) root
  pub low : IsLowFor rows (label_in labels) root level
  pub begins : AreStarts rows labels root level starts
  pub paths : ArePaths rows labels root level next
  pub up : GoesUp next
  pub each : (s : ℕ) → is_end rows s ≡ true → next_at next s ≢ Off → has_node sources s ≡ true
  pub listed : AreLists next sources lists
  pub into : ArePathsInto rows (IsInTop rows (label_in labels) root level) (length sources) lists

-- what a place may be marked for
abbrev IsSoundPlace : List Row → List ℕ → ℕ → ℕ → ℕ → Place → Type 0
IsSoundPlace rows labels root level count (In v) = IsInsideIn rows (label_in labels) root level count v
IsSoundPlace rows labels root level count (Out v) = IsReachedIn rows (label_in labels) root level count v

start_sound : (rows : List Row) (labels : List ℕ) (root level : ℕ) (next : List Next) (starts sources : List ℕ) (lists : List (List ℕ)) → HasPaths rows labels root level next starts sources lists → (v : ℕ) → IsStart starts v → IsReachedIn rows (label_in labels) root level (length sources) v
start_sound rows labels root level next starts sources lists h v st leaves cut few =
    let at = h.begins.below v st in
    let way = top_led rows (label_in labels) leaves root level h.order h.falls h.low cut.outside at.0 at.1 in
    led_more rows leaves root way.0 at.0 v way.1 (false_from_ne_true (has_node leaves at.0) (λ there. cut.outside at.0 there at.1)) at.2

off_away : (rows : List Row) (labels : List ℕ) (root level : ℕ) (next : List Next) (starts sources : List ℕ) (lists : List (List ℕ)) → HasPaths rows labels root level next starts sources lists → (w : ℕ) → next_at next w ≡ Off → has_node (flat_map (λ path. path) lists) w ≡ false
off_away rows labels root level next starts sources lists h w off = false_from_ne_true (has_node (flat_map (λ path. path) lists) w) (λ there. let at = on_one next sources lists h.listed w there in node_on next at.0 at.1 at.3 w at.4 off)

to_inside : (rows : List Row) (labels : List ℕ) (root level : ℕ) (next : List Next) (starts sources : List ℕ) (lists : List (List ℕ)) → HasPaths rows labels root level next starts sources lists → (w v : ℕ) → next_at next w ≡ To v → IsReachedIn rows (label_in labels) root level (length sources) w → IsInsideIn rows (label_in labels) root level (length sources) v
to_inside rows labels root level next starts sources lists h w v to reached =
    let at = on_lists rows (Top rows labels root level) next h.paths.flow h.up sources lists h.listed h.each (suc w) w (omega arith) (λ e. off_to (next_at next w) v e to) in
    let one = split_list next at.0 at.1 at.3 w v at.4 to in
    let all = split_lists next sources lists h.listed at.0 at.2 at.1 at.3 in
    behind_inside rows (label_in labels) root level (length sources) lists h.order h.falls h.low h.into w v all.0 all.1 one.0 one.1 (all.2 ∙ ap (λ (l : List ℕ). all.0 ++ l ∷ all.1) one.2) reached

before_sound : (rows : List Row) (labels : List ℕ) (root level : ℕ) (next : List Next) (starts sources : List ℕ) (lists : List (List ℕ)) → HasPaths rows labels root level next starts sources lists → (q p : Place) → IsSoundPlace rows labels root level (length sources) q → has_place (before rows next q) p ≡ true → IsSoundPlace rows labels root level (length sources) p
before_sound rows labels root level next starts sources lists h (In w) p sound b = elim (place_cases (own_out w (next_at next w)) (map Out (refs_at rows w)) p b) [
  | inl own ↦ subst (IsSoundPlace rows labels root level (length sources)) (sym (own_is w (next_at next w) p own).0) (λ leaves cut few. (sound leaves cut few).0)
  | inr ref ↦
      let found = outs_has (refs_at rows w) p ref in
      subst (IsSoundPlace rows labels root level (length sources)) (sym found.1) (λ leaves cut few.
      let inside = sound leaves cut few in led_more rows leaves root inside.0.0 w found.0 inside.0.1 inside.1 found.2)
]
before_sound rows labels root level next starts sources lists h (Out w) p sound b = elim (into_is w (next_at next w) p b) [
  | inl off ↦ subst (IsSoundPlace rows labels root level (length sources)) (sym off.0)
      (off_paths rows (label_in labels) root level (length sources) lists h.order h.falls h.low h.into w sound (off_away rows labels root level next starts sources lists h w off.1))
  | inr (v, e, to) ↦ subst (IsSoundPlace rows labels root level (length sources)) (sym e) (to_inside rows labels root level next starts sources lists h w v to sound)
]

sound_by : (rows : List Row) (labels : List ℕ) (root level : ℕ) (next : List Next) (starts sources : List ℕ) (lists : List (List ℕ)) → HasPaths rows labels root level next starts sources lists → (trail : List Step) (i : ℕ) → ((j : ℕ) → j < i → IsSoundPlace rows labels root level (length sources) (place_at trail j))
    → (place : Place) (from : Option ℕ) → CameFrom rows next (IsStart starts) trail i place from → IsSoundPlace rows labels root level (length sources) place
sound_by rows labels root level next starts sources lists h trail i smaller (In v) None came = absurd came
sound_by rows labels root level next starts sources lists h trail i smaller (Out v) None came = start_sound rows labels root level next starts sources lists h v came
sound_by rows labels root level next starts sources lists h trail i smaller place (Some j) came = before_sound rows labels root level next starts sources lists h (place_at trail j) place (smaller j came.0) came.1

trail_sound : (rows : List Row) (labels : List ℕ) (root level : ℕ) (next : List Next) (starts sources : List ℕ) (lists : List (List ℕ)) → HasPaths rows labels root level next starts sources lists → (trail : List Step) → IsTrail rows next (IsStart starts) trail → (limit i : ℕ) → i < limit → i < length trail → IsSoundPlace rows labels root level (length sources) (place_at trail i)
trail_sound rows labels root level next starts sources lists h trail t zero i lt here = absurd (omega (arith, lt))
trail_sound rows labels root level next starts sources lists h trail t (suc limit) i lt here =
    sound_by rows labels root level next starts sources lists h trail i (λ j less. trail_sound rows labels root level next starts sources lists h trail t limit j (omega (arith, less, lt)) (omega (arith, less, here))) (place_at trail i) (step_at trail i).from (t.came i here)

-- each mark is sound
seen_sound : (rows : List Row) (labels : List ℕ) (root level : ℕ) (next : List Next) (starts sources : List ℕ) (lists : List (List ℕ)) → HasPaths rows labels root level next starts sources lists → (stamp : ℕ) (s : State) → IsDone rows next starts stamp s → (p : Place) → is_seen s.ins s.outs stamp p ≡ true → IsSoundPlace rows labels root level (length sources) p
seen_sound rows labels root level next starts sources lists h stamp s w p seen =
    let at = w.stands p seen in
    subst (IsSoundPlace rows labels root level (length sources)) at.2
    (trail_sound rows labels root level next starts sources lists h s.trail (trail_of rows next (IsStart starts) stamp (state s.ins s.outs s.trail []) [] w) (suc at.0) at.0 (omega arith) at.1)

-- rising nodes stand once

pub above_all : (n m : ℕ) (ms : List ℕ) → list_all (nat_lt n) ms ≡ true → has_node ms m ≡ true → n < m
above_all n m [] all h = absurd (both_ways false refl h)
above_all n m (x ∷ xs) all h =
    let parts = and_parts (nat_lt n x) (list_all (nat_lt n) xs) all in
    let less = ltb-true n x parts.0 in
    elim (here_or_there x m xs h) [ inl e ↦ omega (arith, less, e) | inr t ↦ above_all n m xs parts.1 t ]

pub rises_once : (ns : List ℕ) → rises ns ≡ true → distinct_numbers ns ≡ true
rises_once [] h = refl
rises_once (n ∷ ns) h =
    let parts = and_parts (list_all (nat_lt n) ns) (rises ns) h in
    and_from (not (has_node ns n)) (distinct_numbers ns)
    (not_from_false (has_node ns n) (false_from_ne_true (has_node ns n) (λ there. let less = above_all n n ns parts.0 there in absurd (omega (arith, less))))) (rises_once ns parts.1)

-- what is inside the leaves is in the top, or entered

lead_away : (rows : List Row) (leaves : List ℕ) (n : ℕ) (path : List ℕ) (m : ℕ) → LeadsTo rows leaves n path m → has_node leaves m ≡ false → has_node leaves n ≡ false
lead_away rows leaves n [] m e away = subst (λ k. has_node leaves k ≡ false) (sym e) away
lead_away rows leaves n (next ∷ path) m way away = way.0

abbrev IsWithin : List Row → List ℕ → ℕ → ℕ → ℕ → State → ℕ → Type 0
IsWithin rows labels root level stamp s x = IsInTop rows (label_in labels) root level x ⊎ (is_seen s.ins s.outs stamp (In x) ≡ true)

next_within : (rows : List Row) (labels : List ℕ) (root level : ℕ) (next : List Next) (starts sources : List ℕ) (lists : List (List ℕ)) → HasPaths rows labels root level next starts sources lists → (stamp : ℕ) (s : State) (leaves : List ℕ) → IsDone rows next starts stamp s → AreLeaves s stamp leaves → (x y : ℕ) → Refers rows x y → has_node leaves y ≡ false
    → IsWithin rows labels root level stamp s x → IsWithin rows labels root level stamp s y
next_within rows labels root level next starts sources lists h stamp s leaves w l x y r away within = elim within [
  | inl top ↦ elim (cases_eq (label_in labels y) level) [
    | inl same ↦ inl (inr (same, cone_on rows root x y (top_cone rows (label_in labels) root level x top) r))
    | inr other ↦
        let less : y < root = omega (arith, refers_below rows x y h.order r, top_below rows (label_in labels) root level x h.order top) in
        inr (entered (start_reached rows next starts stamp s w y (h.begins.all x y top r (outside less other))))
  ]
  | inr seen ↦ inr (entered (refs_reached rows next starts stamp s w x y seen r))
]
  where
    entered : is_seen s.ins s.outs stamp (Out y) ≡ true → is_seen s.ins s.outs stamp (In y) ≡ true
    entered reached = elim (cases_Bool (is_seen s.ins s.outs stamp (In y))) [ inl inner ↦ inner | inr outer ↦ absurd (both_ways (has_node leaves y) away (l.all y reached outer)) ]

    outside : y < root → (label_in labels y ≡ level → ⊥) → IsInTop rows (label_in labels) root level y → ⊥
    outside less other (inl e) = omega (arith, less, e)
    outside less other (inr (at, cone)) = other at

inside_within : (rows : List Row) (labels : List ℕ) (root level : ℕ) (next : List Next) (starts sources : List ℕ) (lists : List (List ℕ)) → HasPaths rows labels root level next starts sources lists → (stamp : ℕ) (s : State) (leaves : List ℕ) → IsDone rows next starts stamp s → AreLeaves s stamp leaves → (x : ℕ) (path : List ℕ) (m : ℕ) → LeadsTo rows leaves x path m → has_node leaves m ≡ false
    → IsWithin rows labels root level stamp s x → IsWithin rows labels root level stamp s m
inside_within rows labels root level next starts sources lists h stamp s leaves w l x [] m e away within = subst (IsWithin rows labels root level stamp s) e within
inside_within rows labels root level next starts sources lists h stamp s leaves w l x (y ∷ path) m (own, r, rest) away within =
    inside_within rows labels root level next starts sources lists h stamp s leaves w l y path m rest away (next_within rows labels root level next starts sources lists h stamp s leaves w l x y r (lead_away rows leaves y path m rest away) within)

within_inside : (rows : List Row) (labels : List ℕ) (root level : ℕ) (next : List Next) (starts sources : List ℕ) (lists : List (List ℕ)) → HasPaths rows labels root level next starts sources lists → (stamp : ℕ) (s : State) → IsDone rows next starts stamp s → (other : List ℕ) → IsCutOutside rows (label_in labels) root level other → length other ≤ length sources
    → (m : ℕ) → IsWithin rows labels root level stamp s m → IsInside rows other root m
within_inside rows labels root level next starts sources lists h stamp s w other cut few m (inl top) =
    (top_led rows (label_in labels) other root level h.order h.falls h.low cut.outside m top, false_from_ne_true (has_node other m) (λ there. cut.outside m there top))
within_inside rows labels root level next starts sources lists h stamp s w other cut few m (inr seen) = seen_sound rows labels root level next starts sources lists h stamp s w (In m) seen other cut few

-- The rising leaves of a search that is done are the least cut, and no more than the paths.
pub leaves_least : (rows : List Row) (labels : List ℕ) (root level : ℕ) (next : List Next) (starts sources : List ℕ) (lists : List (List ℕ)) → HasPaths rows labels root level next starts sources lists → (stamp : ℕ) (s : State) (leaves : List ℕ) → ((t : ℕ) → IsInTop rows (label_in labels) root level t → is_end rows t ≡ false) → IsDone rows next starts stamp s
    → AreLeaves s stamp leaves → ((v : ℕ) → has_node leaves v ≡ true → is_seen s.ins s.outs stamp (In v) ≡ false) → rises leaves ≡ true
    → IsLeastCut rows (label_in labels) root level leaves × (length leaves ≤ length sources)
leaves_least rows labels root level next starts sources lists h stamp s leaves away w l out rise = (
  record {
    outside = leaves_cut rows labels root level next starts stamp s leaves h.order h.falls h.begins h.paths away w l;
    rise = rise;
    fewest = λ other cut. omega (arith, few, outside_many rows (label_in labels) root level (length sources) lists h.order h.falls h.low h.into other cut);
    least = λ other cut same m inside. within_inside rows labels root level next starts sources lists h stamp s w other cut (omega (arith, same, few)) m
        (inside_within rows labels root level next starts sources lists h stamp s leaves w l root inside.0.0 m inside.0.1 inside.1 (inl (inl refl)));
  },
  few,
)
  where
    few : length leaves ≤ length sources
    few = omega (
      arith,
      h.into.count_is,
      leaves_few rows (Top rows labels root level) next starts stamp s sources lists leaves h.paths.flow h.up w h.listed h.each (rises_once leaves rise) (λ v there. (l.reached v there, out v there)),
    )
