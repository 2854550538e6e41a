-- What a search may mark: what is marked in every cut with as many leaves as there are paths.
use Rattle.std.proofs.Common.{◌≡◌, ℕ, zero, suc, ◌⊎◌, ◌<◌, ◌≤◌, Bool, true, false, All, List, [], ◌∷◌, ◌++◌, length, flat_map, slice_index_or, length-append, append_assoc, refl, sym, ap, ◌∙◌, subst, inl, inr, arith}
use Rattle.std.specs.List.{list_any}
use Rattle.std.proofs.lemmas.Bool.{both_ways, false_from_ne_true, or_cases, or_left, or_parts, or_right}
use Rattle.syn_rows.specs.declared.Row.{Row}
use Rattle.syn_rows.specs.Nodes.{has_node}
use Rattle.syn_rows.specs.Rows.{InOrder}
use Rattle.syn_cones.specs.Cones.{IsCut, LeadsTo, LeadsToSource, Refers}
use Rattle.syn_lists.specs.Numbers.{distinct_numbers}
use Rattle.syn_paths.specs.Tops.{FallsBelow, IsInTop, IsLowFor}
use Rattle.syn_paths.specs.Paths.{ArePathsInto, IsPathInto, LeadsUp}
use Rattle.syn_paths.specs.LeastCuts.{IsCutOutside, IsInside}
use Rattle.syn_cones.proofs.Walking.{cut_led}
use Rattle.syn_paths.proofs.Disjoint.{but, but_fewer, disjoint_meet, each_but}
use Rattle.syn_paths.proofs.Falling.{path_meets, refers_below, way_low}

abbrev Meets : List ℕ → List ℕ → Type 0
Meets nodes path = list_any (has_node nodes) path ≡ true

-- no more nodes than disjoint paths that meet them: each is on a path

on_path : (paths : List (List ℕ)) (nodes : List ℕ) (v : ℕ) → distinct_numbers (flat_map (λ path. path) paths) ≡ true → All (Meets nodes) paths → length nodes ≤ length paths
    → has_node (flat_map (λ path. path) paths) v ≡ false → has_node nodes v ≡ false
on_path paths nodes v once meet few away = false_from_ne_true (has_node nodes v) (λ there.
    absurd (omega (arith, few, but_fewer v nodes there, disjoint_meet paths (but v nodes) once (each_but v nodes paths away meet))))

-- and each path meets one alone

all_cons : (P : List ℕ → Type 0) (x : List ℕ) (xs : List (List ℕ)) → P x → All P xs → All P (x ∷ xs)
all_cons P x xs here rest zero d lt = here
all_cons P x xs here rest (suc k) d lt = rest k d (omega (arith, lt))

all_tail : (P : List ℕ → Type 0) (x : List ℕ) (xs : List (List ℕ)) → All P (x ∷ xs) → All P xs
all_tail P x xs all k d lt = all (suc k) d (omega (arith, lt))

split_more : (P : List ℕ → Type 0) (before after : List (List ℕ)) (lower upper : List ℕ) → All P (before ++ (lower ++ upper) ∷ after) → P lower → P upper → All P (before ++ lower ∷ upper ∷ after)
split_more P [] after lower upper all low up = all_cons P lower (upper ∷ after) low (all_cons P upper after up (all_tail P (lower ++ upper) after all))
split_more P (b ∷ bs) after lower upper all low up =
    all_cons P b (bs ++ lower ∷ upper ∷ after) (all zero b (omega arith)) (split_more P bs after lower upper (all_tail P b (bs ++ (lower ++ upper) ∷ after) all) low up)

flat_split : (before after : List (List ℕ)) (lower upper : List ℕ) → flat_map (λ p. p) (before ++ (lower ++ upper) ∷ after) ≡ flat_map (λ p. p) (before ++ lower ∷ upper ∷ after)
flat_split [] after lower upper = append_assoc lower upper (flat_map (λ p. p) after)
flat_split (b ∷ bs) after lower upper = ap (λ (l : List ℕ). b ++ l) (flat_split bs after lower upper)

one_meets : (before after : List (List ℕ)) (lower upper nodes : List ℕ) → distinct_numbers (flat_map (λ p. p) (before ++ (lower ++ upper) ∷ after)) ≡ true → All (Meets nodes) (before ++ (lower ++ upper) ∷ after)
    → length nodes ≤ length (before ++ (lower ++ upper) ∷ after) → Meets nodes lower → list_any (has_node nodes) upper ≡ false
one_meets before after lower upper nodes once meet few low = false_from_ne_true (list_any (has_node nodes) upper) (λ up.
    let more = disjoint_meet (before ++ lower ∷ upper ∷ after) nodes (subst (λ l. distinct_numbers l ≡ true) (flat_split before after lower upper) once) (split_more (Meets nodes) before after lower upper meet low up) in
    absurd (omega (arith, few, more, length-append before ((lower ++ upper) ∷ after), length-append before (lower ∷ upper ∷ after))))

-- ways down

pub led_on : (rows : List Row) (leaves : List ℕ) (n : ℕ) (path : List ℕ) (m w : ℕ) → LeadsTo rows leaves n path m → has_node leaves m ≡ false → Refers rows m w → LeadsTo rows leaves n (path ++ w ∷ []) w
led_on rows leaves n [] m w e away r = (subst (λ x. has_node leaves x ≡ false) (sym e) away, subst (λ x. Refers rows x w) (sym e) r, refl)
led_on rows leaves n (next ∷ path) m w way away r = (way.0, way.1, led_on rows leaves next path m w way.2 away r)

-- a way down within the top meets no leaf of a cut outside it

within_top : (rows : List Row) (label : ℕ → ℕ) (leaves : List ℕ) (n level : ℕ) → InOrder rows → FallsBelow rows label n → ((m : ℕ) → has_node leaves m ≡ true → IsInTop rows label n level m → ⊥)
    → (x : ℕ) → x < n → (up : List ℕ) → LeadsTo rows [] n up x → label x ≡ level → (path : List ℕ) (t : ℕ) → LeadsTo rows [] x path t → label t ≡ level → LeadsTo rows leaves x path t
within_top rows label leaves n level order falls outside x lt up led at [] t e end = e
within_top rows label leaves n level order falls outside x lt up led at (next ∷ path) t way end =
    let own : has_node leaves x ≡ false = false_from_ne_true (has_node leaves x) (λ h. outside x h (inr (at, (up, led)))) in
    let less : next < n = omega (arith, lt, refers_below rows x next order way.1) in
    let low = way_low rows label n order falls next path t less way.2 in
    let same : label next ≡ level = omega (arith, at, end, low, falls x next lt way.1) in
    (own, way.1, within_top rows label leaves n level order falls outside next less (up ++ next ∷ []) (led_on rows [] n up x next led refl way.1) same path t way.2 end)

pub top_led : (rows : List Row) (label : ℕ → ℕ) (leaves : List ℕ) (n level : ℕ) → InOrder rows → FallsBelow rows label n → IsLowFor rows label n level
    → ((m : ℕ) → has_node leaves m ≡ true → IsInTop rows label n level m → ⊥) → (t : ℕ) → IsInTop rows label n level t → (path : List ℕ) × LeadsTo rows leaves n path t
top_led rows label leaves n level order falls fan_ins outside t (inl e) = ([], sym e)
top_led rows label leaves n level order falls fan_ins outside t (inr (at, ([], led))) = ([], led)
top_led rows label leaves n level order falls fan_ins outside t (inr (at, (next ∷ path, led))) =
    let own : has_node leaves n ≡ false = false_from_ne_true (has_node leaves n) (λ h. outside n h (inl refl)) in
    let less = refers_below rows n next order led.1 in
    let low = way_low rows label n order falls next path t less led.2 in
    let same : label next ≡ level = omega (arith, at, low, fan_ins next led.1) in
    (next ∷ path, (own, led.1, within_top rows label leaves n level order falls outside next less (next ∷ []) (refl, led.1, refl) same path t led.2 at))

-- the upper part of a path, which meets no leaf, is led to

led_down : (rows : List Row) (label : ℕ → ℕ) (leaves : List ℕ) (n level : ℕ) → ((t : ℕ) → IsInTop rows label n level t → (path : List ℕ) × LeadsTo rows leaves n path t)
    → ((m : ℕ) → has_node leaves m ≡ true → IsInTop rows label n level m → ⊥) → (w : ℕ) (upper : List ℕ) → LeadsUp rows (IsInTop rows label n level) w upper → list_any (has_node leaves) upper ≡ false
    → (path : List ℕ) × LeadsTo rows leaves n path w
led_down rows label leaves n level tops outside w [] up none =
    let way = tops up.0 up.1 in
    (way.0 ++ w ∷ [], led_on rows leaves n way.0 up.0 w way.1 (false_from_ne_true (has_node leaves up.0) (λ h. outside up.0 h up.1)) up.2)
led_down rows label leaves n level tops outside w (m ∷ ms) up none =
    let parts = or_parts (has_node leaves m) (list_any (has_node leaves) ms) none in
    let way = led_down rows label leaves n level tops outside m ms up.1 parts.1 in
    (way.0 ++ w ∷ [], led_on rows leaves n way.0 m w way.1 parts.0 up.0)

-- the lower part of a path leads to a source

climb : (rows : List Row) (InSet : ℕ → Type 0) (leaves : List ℕ) (s : ℕ) (below : List ℕ) → LeadsToSource rows s below → (lower : List ℕ) (v w : ℕ) (upper : List ℕ) → LeadsUp rows InSet s (lower ++ v ∷ w ∷ upper)
    → (down : List ℕ) × LeadsToSource rows v down × LeadsUp rows InSet w upper × (list_any (has_node leaves) down ≡ true → (list_any (has_node leaves) (s ∷ lower) ≡ true) ⊎ (list_any (has_node leaves) below ≡ true))
climb rows InSet leaves s below led [] v w upper up = (
  s ∷ below,
  (up.0, led),
  up.1.1,
  λ met. elim (or_cases (has_node leaves s) (list_any (has_node leaves) below) met) [
    | inl here ↦ inl (or_left (has_node leaves s) false here)
    | inr there ↦ inr there
  ],
)
climb rows InSet leaves s below led (m ∷ ms) v w upper up =
    let on = climb rows InSet leaves m (s ∷ below) (up.0, led) ms v w upper up.1 in (
      on.0,
      on.1,
      on.2,
      λ met. elim (on.3 met) [
        | inl inside ↦ inl (or_right (has_node leaves s) (list_any (has_node leaves) (m ∷ ms)) inside)
        | inr behind ↦ elim (or_cases (has_node leaves s) (list_any (has_node leaves) below) behind) [
          | inl here ↦ inl (or_left (has_node leaves s) (list_any (has_node leaves) (m ∷ ms)) here)
          | inr there ↦ inr there
        ]
      ],
    )

any_append : (test : ℕ → Bool) (xs ys : List ℕ) → (list_any test xs ≡ true) ⊎ (list_any test ys ≡ true) → list_any test (xs ++ ys) ≡ true
any_append test [] ys (inl h) = absurd (both_ways false refl h)
any_append test [] ys (inr h) = h
any_append test (x ∷ xs) ys (inl h) = elim (or_cases (test x) (list_any test xs) h) [
  | inl here ↦ or_left (test x) (list_any test (xs ++ ys)) here
  | inr there ↦ or_right (test x) (list_any test (xs ++ ys)) (any_append test xs ys (inl there))
]
any_append test (x ∷ xs) ys (inr h) = or_right (test x) (list_any test (xs ++ ys)) (any_append test xs ys (inr h))

-- of a path with v and then w: the part up to v meets a leaf of a cut of v, and the part behind it leads up
low_part : (rows : List Row) (InSet : ℕ → Type 0) (leaves : List ℕ) (lower : List ℕ) (v w : ℕ) (upper : List ℕ) → IsPathInto rows InSet (lower ++ v ∷ w ∷ upper) → IsCut rows leaves v
    → Meets leaves (lower ++ v ∷ []) × LeadsUp rows InSet w upper × Refers rows w v
low_part rows InSet leaves [] v w upper h cut = (cut [] h.0, h.1.1, h.1.0)
low_part rows InSet leaves (s ∷ lower) v w upper h cut =
    let on = climb rows InSet leaves s [] h.0 lower v w upper h.1 in (
      any_append (has_node leaves) (s ∷ lower) (v ∷ []) (elim (or_cases (has_node leaves v) (list_any (has_node leaves) on.0) (cut on.0 on.1)) [
        | inl here ↦ inr (or_left (has_node leaves v) false here)
        | inr there ↦ elim (on.3 there) [ inl inside ↦ inl inside | inr none ↦ absurd (both_ways false refl none) ]
      ]),
      on.2,
      refers_next rows InSet s lower v w upper h.1,
    )
  where
    refers_next : (rows : List Row) (InSet : ℕ → Type 0) (s : ℕ) (lower : List ℕ) (v w : ℕ) (upper : List ℕ) → LeadsUp rows InSet s (lower ++ v ∷ w ∷ upper) → Refers rows w v
    refers_next rows InSet s [] v w upper up = up.1.0
    refers_next rows InSet s (m ∷ ms) v w upper up = refers_next rows InSet m ms v w upper up.1

path_at : (P : List ℕ → Type 0) (before after : List (List ℕ)) (path : List ℕ) → All P (before ++ path ∷ after) → P path
path_at P [] after path all = all zero path (omega arith)
path_at P (b ∷ bs) after path all = path_at P bs after path (all_tail P b (bs ++ path ∷ after) all)

-- every path into the top meets a leaf of each cut outside it
pub outside_meets : (rows : List Row) (label : ℕ → ℕ) (n level count : ℕ) (paths : List (List ℕ)) → InOrder rows → FallsBelow rows label n → IsLowFor rows label n level → ArePathsInto rows (IsInTop rows label n level) count paths
    → (leaves : List ℕ) → IsCutOutside rows label n level leaves → All (Meets leaves) paths
outside_meets rows label n level count paths order falls fan_ins ps leaves cut i d lt = path_meets rows leaves (IsInTop rows label n level) behind_top (slice_index_or paths i d) (ps.each i d lt)
  where
    behind_top : (t : ℕ) (rest : List ℕ) → IsInTop rows label n level t → LeadsToSource rows t rest → Meets leaves rest
    behind_top t rest top down =
        let way = top_led rows label leaves n level order falls fan_ins cut.outside t top in
        elim (or_cases (has_node leaves t) (list_any (has_node leaves) rest) (cut_led rows leaves n way.0 t cut.cut way.1 rest down)) [
          | inl here ↦ absurd (cut.outside t here top)
          | inr there ↦ there
        ]

-- so a cut outside the top has no fewer leaves than there are paths
pub outside_many : (rows : List Row) (label : ℕ → ℕ) (n level count : ℕ) (paths : List (List ℕ)) → InOrder rows → FallsBelow rows label n → IsLowFor rows label n level → ArePathsInto rows (IsInTop rows label n level) count paths
    → (leaves : List ℕ) → IsCutOutside rows label n level leaves → count ≤ length leaves
outside_many rows label n level count paths order falls fan_ins ps leaves cut =
    omega (arith, ps.count_is, disjoint_meet paths leaves ps.once (outside_meets rows label n level count paths order falls fan_ins ps leaves cut))

-- A node is reached from a node past no leaf of any cut outside its top with at most so many leaves, or lies inside each such cut: what a search may mark.
abbrev pub IsReachedIn : List Row → (ℕ → ℕ) → ℕ → ℕ → ℕ → ℕ → Type 0
IsReachedIn rows label n level count v = (leaves : List ℕ) → IsCutOutside rows label n level leaves → length leaves ≤ count → (path : List ℕ) × LeadsTo rows leaves n path v

abbrev pub IsInsideIn : List Row → (ℕ → ℕ) → ℕ → ℕ → ℕ → ℕ → Type 0
IsInsideIn rows label n level count v = (leaves : List ℕ) → IsCutOutside rows label n level leaves → length leaves ≤ count → IsInside rows leaves n v

-- a reached node that is on no path is inside
pub off_paths : (rows : List Row) (label : ℕ → ℕ) (n level count : ℕ) (paths : List (List ℕ)) → InOrder rows → FallsBelow rows label n → IsLowFor rows label n level → ArePathsInto rows (IsInTop rows label n level) count paths
    → (v : ℕ) → IsReachedIn rows label n level count v → has_node (flat_map (λ path. path) paths) v ≡ false → IsInsideIn rows label n level count v
off_paths rows label n level count paths order falls fan_ins ps v reached away leaves cut few =
    (reached leaves cut few, on_path paths leaves v ps.once (outside_meets rows label n level count paths order falls fan_ins ps leaves cut) (omega (arith, few, ps.count_is)) away)

-- and so is the node that comes behind a reached one on its path
pub behind_inside : (rows : List Row) (label : ℕ → ℕ) (n level count : ℕ) (paths : List (List ℕ)) → InOrder rows → FallsBelow rows label n → IsLowFor rows label n level → ArePathsInto rows (IsInTop rows label n level) count paths
    → (v w : ℕ) (before after : List (List ℕ)) (lower upper : List ℕ) → paths ≡ before ++ (lower ++ v ∷ w ∷ upper) ∷ after → IsReachedIn rows label n level count v → IsInsideIn rows label n level count w
behind_inside rows label n level count paths order falls fan_ins ps v w before after lower upper split reached leaves cut few =
    let way = reached leaves cut few in
    let meets = outside_meets rows label n level count paths order falls fan_ins ps leaves cut in
    let path = path_at (IsPathInto rows (IsInTop rows label n level)) before after (lower ++ v ∷ w ∷ upper) (subst (λ l. All (IsPathInto rows (IsInTop rows label n level)) l) split ps.each) in
    let parts = low_part rows (IsInTop rows label n level) leaves lower v w upper path (cut_led rows leaves n way.0 v cut.cut way.1) in
    let joined : (lower ++ v ∷ []) ++ w ∷ upper ≡ lower ++ v ∷ w ∷ upper = append_assoc lower (v ∷ []) (w ∷ upper) in
    let here : paths ≡ before ++ ((lower ++ v ∷ []) ++ w ∷ upper) ∷ after = split ∙ ap (λ (l : List ℕ). before ++ l ∷ after) (sym joined) in
    let few_here : length leaves ≤ length paths = omega (arith, few, ps.count_is) in
    let none = one_meets before after (lower ++ v ∷ []) (w ∷ upper) leaves (subst (λ l. distinct_numbers (flat_map (λ p. p) l) ≡ true) here ps.once) (subst (λ l. All (Meets leaves) l) here meets) (subst (λ l. length leaves ≤ length l) here few_here) parts.0 in
    let both = or_parts (has_node leaves w) (list_any (has_node leaves) upper) none in
    (led_down rows label leaves n level (λ t top. top_led rows label leaves n level order falls fan_ins cut.outside t top) cut.outside w upper parts.1 both.1, both.0)
