-- The walk of the top of a node is exact.
use Rattle.std.proofs.Common.{◌≡◌, ℕ, ◌+◌, ◌⊎◌, ◌<◌, ◌≤◌, if◌then◌else◌, nat_eq, nat_lt, Bool, true, false, List, [], ◌∷◌, ◌++◌, length, length-append, refl, sym, ◌∙◌, subst, inl, inr, arith}
use Rattle.std.proofs.Math.ListN.{set, length-set}
use Rattle.std.specs.List.{sum_by}
use Rattle.std.proofs.lemmas.Bool.{and_parts, and_from, both_ways, cases_Bool, eq-eqb, ltb-true, lt-ltb}
use Rattle.std.proofs.lemmas.List.Sums.{sum_by-set}
use Rattle.syn_rows.specs.declared.Row.{Row}
use Rattle.syn_rows.specs.Nodes.{has_node}
use Rattle.syn_rows.specs.Rows.{InOrder}
use Rattle.syn_cones.specs.Cones.{LeadsTo, Refers, refs_at}
use Rattle.syn_paths.specs.Tops.{IsInTop}
use Rattle.syn_paths.specs.Checking.{all_within, AreBelow, is_marked, mark_all, NoneMarked}
use Rattle.syn_paths.specs.Tops.{label_in}
use Rattle.syn_paths.specs.Walking.{IsEntered, IsTopWalk, unmarked, wait_all, wait_with, walk_left}
use Rattle.syn_paths.specs.Tops.{FallsBelow, IsLowFor}
use Rattle.syn_rows.proofs.Nodes.{has_cases, has_here, has_left, has_one, has_right, has_there, here_or_there, same_node}
use Rattle.syn_paths.proofs.Falling.{refers_below, way_low}
use Rattle.syn_paths.proofs.Checked.{cone_on, marked_before, marked_here, marked_still, top_below, top_cone}

-- what waits

wait_cases : (labels : List ℕ) (level : ℕ) (marks : List ℕ) (stamp : ℕ) (waiting : List ℕ) (n t : ℕ) → has_node (wait_with labels level marks stamp waiting n) t ≡ true → (has_node waiting t ≡ true) ⊎ ((t ≡ n) × (label_in labels n ≡ level))
wait_cases labels level marks stamp waiting n t h = go (is_marked marks stamp n) (nat_eq (label_in labels n) level) refl h
  where
    go : (a b : Bool) → nat_eq (label_in labels n) level ≡ b → has_node (if a then waiting else if b then waiting ++ n ∷ [] else waiting) t ≡ true → (has_node waiting t ≡ true) ⊎ ((t ≡ n) × (label_in labels n ≡ level))
    go true b e h = inl h
    go false true e h = elim (has_cases waiting (n ∷ []) t h) [ inl w ↦ inl w | inr o ↦ inr (sym (has_one n t o), same_node (label_in labels n) level e) ]
    go false false e h = inl h

wait_keeps : (labels : List ℕ) (level : ℕ) (marks : List ℕ) (stamp : ℕ) (waiting : List ℕ) (n t : ℕ) → has_node waiting t ≡ true → has_node (wait_with labels level marks stamp waiting n) t ≡ true
wait_keeps labels level marks stamp waiting n t h = go (is_marked marks stamp n) (nat_eq (label_in labels n) level)
  where
    go : (a b : Bool) → has_node (if a then waiting else if b then waiting ++ n ∷ [] else waiting) t ≡ true
    go true b = h
    go false true = has_left waiting (n ∷ []) t h
    go false false = h

wait_new : (labels : List ℕ) (level : ℕ) (marks : List ℕ) (stamp : ℕ) (waiting : List ℕ) (n : ℕ) → is_marked marks stamp n ≡ false → label_in labels n ≡ level → has_node (wait_with labels level marks stamp waiting n) n ≡ true
wait_new labels level marks stamp waiting n new at = go (is_marked marks stamp n) (nat_eq (label_in labels n) level) new (eq-eqb (label_in labels n) level at)
  where
    go : (a b : Bool) → a ≡ false → b ≡ true → has_node (if a then waiting else if b then waiting ++ n ∷ [] else waiting) n ≡ true
    go true b e f = absurd (both_ways true e refl)
    go false true e f = has_right waiting (n ∷ []) n (has_here n [])
    go false false e f = absurd (both_ways false refl f)

-- the walk begins

pub top_begins : (rows : List Row) (labels : List ℕ) (root level : ℕ) (marks : List ℕ) (stamp : ℕ) → NoneMarked marks stamp → IsTopWalk rows labels root level marks stamp (root ∷ []) []
top_begins rows labels root level marks stamp none = record {
  sound = λ m h. absurd (both_ways (is_marked marks stamp m) (none m) h);
  to_mark = λ m h. absurd (both_ways false refl h);
  waits = λ t h. inl (sym (has_one root t h));
  closed = λ t entered. elim entered [
    | inl e ↦ inl (subst (λ k. has_node (root ∷ []) k ≡ true) (sym e) (has_here root []))
    | inr at ↦ absurd (both_ways (is_marked marks stamp t) (none t) at.0)
  ];
}

-- one that waits is taken
pub top_taken : (rows : List Row) (labels : List ℕ) (root level : ℕ) (marks : List ℕ) (stamp : ℕ) (front : List ℕ) (n : ℕ) → IsTopWalk rows labels root level marks stamp (front ++ n ∷ []) []
    → IsTopWalk rows labels root level marks stamp front (refs_at rows n)
top_taken rows labels root level marks stamp front n w = record {
  sound = w.sound;
  to_mark = λ m h. (n, w.waits n (has_right front (n ∷ []) n (has_here n [])), h);
  waits = λ t h. w.waits t (has_left front (n ∷ []) t h);
  closed = λ t entered. elim (w.closed t entered) [
    | inl h ↦ elim (has_cases front (n ∷ []) t h) [
      | inl f ↦ inl f
      | inr o ↦ inr (λ m r. inr (subst (λ k. Refers rows k m) (sym (has_one n t o)) r))
    ]
    | inr f ↦ inr (λ m r. elim (f m r) [ inl h ↦ inl h | inr away ↦ absurd (both_ways false refl away) ])
  ];
}

-- one is marked
top_marked : (rows : List Row) (labels : List ℕ) (root level : ℕ) (marks : List ℕ) (stamp : ℕ) (waiting : List ℕ) (n : ℕ) (todo : List ℕ) → n < length marks → IsTopWalk rows labels root level marks stamp waiting (n ∷ todo)
    → IsTopWalk rows labels root level (set marks n stamp) stamp (wait_with labels level marks stamp waiting n) todo
top_marked rows labels root level marks stamp waiting n todo lt w = record {
  sound = λ m h. elim (marked_before marks stamp n m h) [
    | inl e ↦ subst (λ k. (t : ℕ) × IsInTop rows (label_in labels) root level t × Refers rows t k) (sym e) own
    | inr before ↦ w.sound m before
  ];
  to_mark = λ m h. w.to_mark m (has_there n m todo h);
  waits = λ t h. elim (wait_cases labels level marks stamp waiting n t h) [
    | inl before ↦ w.waits t before
    | inr new ↦ subst (IsInTop rows (label_in labels) root level) (sym new.0) (inr (new.1, cone_on rows root own.0 n (top_cone rows (label_in labels) root level own.0 own.1) own.2))
  ];
  closed = λ t entered. elim entered [
    | inl e ↦ later t (w.closed t (inl e))
    | inr at ↦ elim (marked_before marks stamp n t at.0) [
      | inl e ↦ elim (cases_Bool (is_marked marks stamp n)) [
        | inl known ↦ later t (w.closed t (inr (subst (λ k. is_marked marks stamp k ≡ true) (sym e) known, at.1)))
        | inr new ↦ inl (subst (λ k. has_node (wait_with labels level marks stamp waiting n) k ≡ true) (sym e) (wait_new labels level marks stamp waiting n new (subst (λ k. label_in labels k ≡ level) e at.1)))
      ]
      | inr before ↦ later t (w.closed t (inr (before, at.1)))
    ]
  ];
}
  where
    own : (t : ℕ) × IsInTop rows (label_in labels) root level t × Refers rows t n
    own = w.to_mark n (has_here n todo)

    later : (t : ℕ) → (has_node waiting t ≡ true) ⊎ ((m : ℕ) → Refers rows t m → (is_marked marks stamp m ≡ true) ⊎ (has_node (n ∷ todo) m ≡ true))
        → (has_node (wait_with labels level marks stamp waiting n) t ≡ true) ⊎ ((m : ℕ) → Refers rows t m → (is_marked (set marks n stamp) stamp m ≡ true) ⊎ (has_node todo m ≡ true))
    later t (inl h) = inl (wait_keeps labels level marks stamp waiting n t h)
    later t (inr f) = inr (λ m r. elim (f m r) [
      | inl h ↦ inl (marked_still marks stamp n m lt h)
      | inr h ↦ elim (here_or_there n m todo h) [
        | inl e ↦ inl (subst (λ k. is_marked (set marks n stamp) stamp k ≡ true) (sym e) (marked_here marks stamp n lt))
        | inr there ↦ inr there
      ]
    ])

-- all are marked
pub top_all : (rows : List Row) (labels : List ℕ) (root level : ℕ) (marks : List ℕ) (stamp : ℕ) (waiting todo : List ℕ) → all_within (length marks) todo ≡ true → IsTopWalk rows labels root level marks stamp waiting todo
    → IsTopWalk rows labels root level (mark_all marks stamp todo) stamp (wait_all labels level marks stamp waiting todo) []
top_all rows labels root level marks stamp waiting [] within w = w
top_all rows labels root level marks stamp waiting (n ∷ todo) within w =
    let parts = and_parts (nat_lt n (length marks)) (all_within (length marks) todo) within in
    top_all rows labels root level (set marks n stamp) stamp (wait_with labels level marks stamp waiting n) todo (subst (λ k. all_within k todo ≡ true) (sym (length-set marks n stamp)) parts.1)
    (top_marked rows labels root level marks stamp waiting n todo (ltb-true n (length marks) parts.0) w)

-- what is marked at the end is below the top

entered_on : (rows : List Row) (labels : List ℕ) (root level : ℕ) (marks : List ℕ) (stamp : ℕ) → InOrder rows → FallsBelow rows (label_in labels) root → IsLowFor rows (label_in labels) root level → IsTopWalk rows labels root level marks stamp [] []
    → (n : ℕ) (path : List ℕ) (t : ℕ) → n ≤ root → IsEntered labels level marks stamp root n → LeadsTo rows [] n path t → label_in labels t ≡ level → IsEntered labels level marks stamp root t
entered_on rows labels root level marks stamp order falls low w n [] t le entered e at = subst (IsEntered labels level marks stamp root) e entered
entered_on rows labels root level marks stamp order falls low w n (next ∷ path) t le entered way at =
    entered_on rows labels root level marks stamp order falls low w next path t (omega (arith, before)) (inr (marked, omega (arith, up entered, at, way_low rows (label_in labels) root order falls next path t before way.2))) way.2 at
  where
    before : next < root
    before = omega (arith, le, refers_below rows n next order way.1)

    marked : is_marked marks stamp next ≡ true
    marked = elim (w.closed n entered) [
      | inl away ↦ absurd (both_ways false refl away)
      | inr f ↦ elim (f next way.1) [ inl h ↦ h | inr away ↦ absurd (both_ways false refl away) ]
    ]

    up : IsEntered labels level marks stamp root n → label_in labels next ≤ level
    up (inl e) = low next (subst (λ k. Refers rows k next) e way.1)
    up (inr here) =
        let top = w.sound n here.0 in
        omega (arith, here.1, falls n next (omega (arith, refers_below rows top.0 n order top.2, top_below rows (label_in labels) root level top.0 order top.1)) way.1)

pub top_ends : (rows : List Row) (labels : List ℕ) (root level : ℕ) (marks : List ℕ) (stamp : ℕ) → InOrder rows → FallsBelow rows (label_in labels) root → IsLowFor rows (label_in labels) root level → IsTopWalk rows labels root level marks stamp [] []
    → AreBelow rows (IsInTop rows (label_in labels) root level) marks stamp
top_ends rows labels root level marks stamp order falls low w = record {
  sound = w.sound;
  all = λ t m top r. elim (w.closed t (entered t top)) [
    | inl away ↦ absurd (both_ways false refl away)
    | inr f ↦ elim (f m r) [ inl h ↦ h | inr away ↦ absurd (both_ways false refl away) ]
  ];
}
  where
    entered : (t : ℕ) → IsInTop rows (label_in labels) root level t → IsEntered labels level marks stamp root t
    entered t (inl e) = inl e
    entered t (inr (at, (path, way))) = entered_on rows labels root level marks stamp order falls low w root path t (omega arith) (inl refl) way at

-- the walk gets shorter

mark_less : (labels : List ℕ) (level : ℕ) (marks : List ℕ) (stamp : ℕ) (waiting : List ℕ) (n : ℕ) → n < length marks → walk_left (set marks n stamp) stamp (wait_with labels level marks stamp waiting n) ≤ walk_left marks stamp waiting
mark_less labels level marks stamp waiting n lt = go (is_marked marks stamp n) (nat_eq (label_in labels n) level) (nat_eq stamp stamp) (eq-eqb stamp stamp refl) (sum_by-set (unmarked stamp) marks n stamp 0 lt)
  where
    go : (a b c : Bool) → c ≡ true → sum_by (unmarked stamp) (set marks n stamp) + (if a then 0 else 1) ≡ sum_by (unmarked stamp) marks + (if c then 0 else 1)
        → length (if a then waiting else if b then waiting ++ n ∷ [] else waiting) + sum_by (unmarked stamp) (set marks n stamp) ≤ length waiting + sum_by (unmarked stamp) marks
    go a b false e sum = absurd (both_ways false refl e)
    go true b true e sum = omega (arith, sum)
    go false true true e sum = omega (arith, sum, length-append waiting (n ∷ []))
    go false false true e sum = omega (arith, sum)

pub all_less : (labels : List ℕ) (level : ℕ) (marks : List ℕ) (stamp : ℕ) (waiting todo : List ℕ) → all_within (length marks) todo ≡ true
    → walk_left (mark_all marks stamp todo) stamp (wait_all labels level marks stamp waiting todo) ≤ walk_left marks stamp waiting
all_less labels level marks stamp waiting [] within = omega arith
all_less labels level marks stamp waiting (n ∷ todo) within =
    let parts = and_parts (nat_lt n (length marks)) (all_within (length marks) todo) within in
    omega (
      arith,
      all_less labels level (set marks n stamp) stamp (wait_with labels level marks stamp waiting n) todo (subst (λ k. all_within k todo ≡ true) (sym (length-set marks n stamp)) parts.1),
      mark_less labels level marks stamp waiting n (ltb-true n (length marks) parts.0),
    )

pub mark_all_long : (marks : List ℕ) (stamp : ℕ) (nodes : List ℕ) → length (mark_all marks stamp nodes) ≡ length marks
mark_all_long marks stamp [] = refl
mark_all_long marks stamp (n ∷ nodes) = mark_all_long (set marks n stamp) stamp nodes ∙ length-set marks n stamp

-- what a node refers to stands there

pub refs_stand : (rows : List Row) (n count : ℕ) → InOrder rows → n < count → all_within count (refs_at rows n) ≡ true
refs_stand rows n count order lt = each (refs_at rows n) (λ m h. omega (arith, lt, refers_below rows n m order h))
  where
    each : (ms : List ℕ) → ((m : ℕ) → has_node ms m ≡ true → m < count) → all_within count ms ≡ true
    each [] f = refl
    each (m ∷ ms) f = and_from (nat_lt m count) (all_within count ms) (lt-ltb m count (f m (has_here m ms))) (each ms (λ k h. f k (has_there m k ms h)))

pub taken_stands : (rows : List Row) (labels : List ℕ) (root level : ℕ) (marks : List ℕ) (stamp : ℕ) (front : List ℕ) (n : ℕ) → InOrder rows → IsTopWalk rows labels root level marks stamp (front ++ n ∷ []) [] → n ≤ root
taken_stands rows labels root level marks stamp front n order w = top_below rows (label_in labels) root level n order (w.waits n (has_right front (n ∷ []) n (has_here n [])))

-- one turn of the walk
pub top_turn : (rows : List Row) (labels : List ℕ) (root level : ℕ) (marks : List ℕ) (stamp : ℕ) (front : List ℕ) (n : ℕ) → InOrder rows → root < length marks → IsTopWalk rows labels root level marks stamp (front ++ n ∷ []) []
    → IsTopWalk rows labels root level (mark_all marks stamp (refs_at rows n)) stamp (wait_all labels level marks stamp front (refs_at rows n)) []
top_turn rows labels root level marks stamp front n order lt w =
    top_all rows labels root level marks stamp front (refs_at rows n) (refs_stand rows n (length marks) order (omega (arith, lt, taken_stands rows labels root level marks stamp front n order w)))
    (top_taken rows labels root level marks stamp front n w)

pub turn_less : (rows : List Row) (labels : List ℕ) (root level : ℕ) (marks : List ℕ) (stamp : ℕ) (front : List ℕ) (n : ℕ) → InOrder rows → root < length marks → IsTopWalk rows labels root level marks stamp (front ++ n ∷ []) []
    → walk_left (mark_all marks stamp (refs_at rows n)) stamp (wait_all labels level marks stamp front (refs_at rows n)) < walk_left marks stamp (front ++ n ∷ [])
turn_less rows labels root level marks stamp front n order lt w =
    let within = refs_stand rows n (length marks) order (omega (arith, lt, taken_stands rows labels root level marks stamp front n order w)) in
    omega (arith, all_less labels level marks stamp front (refs_at rows n) within, length-append front (n ∷ []))
