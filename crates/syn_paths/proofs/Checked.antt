-- The tests of lists are exact: the lists are paths into the top of a node.
use Rattle.std.proofs.Common.{◌≡◌, ◌≢◌, ◌↔◌, ℕ, zero, suc, ◌⊎◌, ◌<◌, ◌≤◌, ◌&&◌, not, nat_eq, nat_lt, Bool, true, false, All, List, [], ◌∷◌, ◌++◌, length, flat_map, get_or, refl, sym, ap, ◌∙◌, subst, inl, inr, arith}
use Rattle.std.proofs.Math.ListN.{set, length-set}
use Rattle.std.proofs.lemmas.Bool.{and_parts, and_from, both_ways, cases_Bool, eq-eqb, eqb-true, ne_eqb, false_from_ne_true, lt-ltb, ltb-true, not-true, not_from_false, cases_lt}
use Rattle.std.proofs.lemmas.List.{get_or_past, get_or-set_same, get_or-set_other}
use Rattle.syn_rows.specs.declared.Row.{Row}
use Rattle.syn_rows.specs.Nodes.{has_node}
use Rattle.syn_rows.specs.Rows.{InOrder}
use Rattle.syn_cones.specs.Cones.{is_end, LeadsTo, Refers, refs_at}
use Rattle.syn_paths.specs.Paths.{ArePathsInto, IsPathInto, LeadsUp}
use Rattle.syn_lists.specs.Numbers.{distinct_numbers}
use Rattle.syn_paths.specs.Tops.{IsInCone, IsInTop}
use Rattle.syn_paths.specs.Checking.{all_within, are_lists, are_new, AreBelow, AreUpTo, goes_up, is_list, is_marked, is_off, mark_all, NoneMarked}
use Rattle.syn_paths.specs.Tops.{label_in}
use Rattle.syn_rows.proofs.Nodes.{has_here, has_there, here_or_there, same_node}
use Rattle.syn_paths.proofs.Falling.{refers_below}
use Rattle.syn_paths.proofs.Sounded.{led_on}

-- marks

pub marked_within : (marks : List ℕ) (stamp n : ℕ) → 0 < stamp → is_marked marks stamp n ≡ true → n < length marks
marked_within marks stamp n some h = elim (cases_lt n (length marks)) [
  | inl lt ↦ lt
  | inr past ↦ absurd (omega (arith, some, eqb-true (get_or marks n 0) stamp h, get_or_past marks n 0 past))
]

pub marked_here : (marks : List ℕ) (stamp n : ℕ) → n < length marks → is_marked (set marks n stamp) stamp n ≡ true
marked_here marks stamp n lt = eq-eqb (get_or (set marks n stamp) n 0) stamp (get_or-set_same marks n stamp 0 lt)

pub marked_other : (marks : List ℕ) (stamp n m : ℕ) → m ≢ n → is_marked (set marks n stamp) stamp m ≡ is_marked marks stamp m
marked_other marks stamp n m other = ap (λ x. nat_eq x stamp) (get_or-set_other marks n m stamp 0 other)

-- marking keeps what is marked
pub marked_still : (marks : List ℕ) (stamp n m : ℕ) → n < length marks → is_marked marks stamp m ≡ true → is_marked (set marks n stamp) stamp m ≡ true
marked_still marks stamp n m lt h = elim (cases_Bool (nat_eq m n)) [
  | inl e ↦ subst (λ k. is_marked (set marks n stamp) stamp k ≡ true) (sym (same_node m n e)) (marked_here marks stamp n lt)
  | inr e ↦ marked_other marks stamp n m (λ is. both_ways (nat_eq m n) e (eq-eqb m n is)) ∙ h
]

-- what is marked is the one, or was marked
pub marked_before : (marks : List ℕ) (stamp n m : ℕ) → is_marked (set marks n stamp) stamp m ≡ true → (m ≡ n) ⊎ (is_marked marks stamp m ≡ true)
marked_before marks stamp n m h = elim (cases_Bool (nat_eq m n)) [
  | inl e ↦ inl (same_node m n e)
  | inr e ↦ inr (sym (marked_other marks stamp n m (λ is. both_ways (nat_eq m n) e (eq-eqb m n is))) ∙ h)
]

-- no node twice

within_set : (marks : List ℕ) (n x : ℕ) (nodes : List ℕ) → all_within (length marks) nodes ≡ true → all_within (length (set marks n x)) nodes ≡ true
within_set marks n x nodes h = subst (λ k. all_within k nodes ≡ true) (sym (length-set marks n x)) h

pub new_distinct : (marks : List ℕ) (stamp : ℕ) (nodes : List ℕ) → all_within (length marks) nodes ≡ true → are_new marks stamp nodes ≡ true
    → (distinct_numbers nodes ≡ true) × ((m : ℕ) → has_node nodes m ≡ true → is_marked marks stamp m ≡ false)
new_distinct marks stamp [] within h = (refl, λ m there. absurd (both_ways false refl there))
new_distinct marks stamp (n ∷ nodes) within h =
    let here = and_parts (nat_lt n (length marks)) (all_within (length marks) nodes) within in
    let parts = and_parts (not (is_marked marks stamp n)) (are_new (set marks n stamp) stamp nodes) h in
    let rest = new_distinct (set marks n stamp) stamp nodes (within_set marks n stamp nodes here.1) parts.1 in
    let lt : n < length marks = ltb-true n (length marks) here.0 in
    let away : has_node nodes n ≡ false = false_from_ne_true (has_node nodes n) (λ there. both_ways (is_marked (set marks n stamp) stamp n) (rest.1 n there) (marked_here marks stamp n lt)) in (
      and_from (not (has_node nodes n)) (distinct_numbers nodes) (not_from_false (has_node nodes n) away) rest.0,
      λ m there. elim (here_or_there n m nodes there) [
        | inl e ↦ subst (λ k. is_marked marks stamp k ≡ false) (sym e) (not-true (is_marked marks stamp n) parts.0)
        | inr t ↦ false_from_ne_true (is_marked marks stamp m) (λ marked. both_ways (is_marked (set marks n stamp) stamp m) (rest.1 m t) (marked_still marks stamp n m lt marked))
      ],
    )

pub distinct_new : (marks : List ℕ) (stamp : ℕ) (nodes : List ℕ) → distinct_numbers nodes ≡ true → ((m : ℕ) → has_node nodes m ≡ true → is_marked marks stamp m ≡ false) → are_new marks stamp nodes ≡ true
distinct_new marks stamp [] once free = refl
distinct_new marks stamp (n ∷ nodes) once free =
    let parts = and_parts (not (has_node nodes n)) (distinct_numbers nodes) once in
    and_from (not (is_marked marks stamp n)) (are_new (set marks n stamp) stamp nodes) (not_from_false (is_marked marks stamp n) (free n (has_here n nodes)))
    (distinct_new (set marks n stamp) stamp nodes parts.1 (λ m there.
    marked_other marks stamp n m (λ is. both_ways (has_node nodes n) (not-true (has_node nodes n) parts.0) (subst (λ k. has_node nodes k ≡ true) is there))
    ∙ free m (has_there n m nodes there)))

pub new-append : (marks : List ℕ) (stamp : ℕ) (xs ys : List ℕ) → are_new marks stamp (xs ++ ys) ≡ (are_new marks stamp xs && are_new (mark_all marks stamp xs) stamp ys)
new-append marks stamp [] ys = refl
new-append marks stamp (x ∷ xs) ys =
    go (not (is_marked marks stamp x)) (are_new (set marks x stamp) stamp (xs ++ ys)) (are_new (set marks x stamp) stamp xs) (are_new (mark_all (set marks x stamp) stamp xs) stamp ys) (new-append (set marks x stamp) stamp xs ys)
  where
    go : (b p q r : Bool) → p ≡ (q && r) → (b && p) ≡ ((b && q) && r)
    go true p q r e = e
    go false p q r e = refl

-- one list: within

up_within : (rows : List Row) (labels : List ℕ) (level : ℕ) (marks : List ℕ) (stamp n : ℕ) (path : List ℕ) → InOrder rows → 0 < stamp → goes_up rows labels level marks stamp n path ≡ true
    → (n < length marks) × (all_within (length marks) path ≡ true)
up_within rows labels level marks stamp n [] order some h = (marked_within marks stamp n some h, refl)
up_within rows labels level marks stamp n (m ∷ path) order some h =
    let parts = and_parts (has_node (refs_at rows m) n && is_off labels level m) (goes_up rows labels level marks stamp m path) h in
    let here = and_parts (has_node (refs_at rows m) n) (is_off labels level m) parts.0 in
    let rest = up_within rows labels level marks stamp m path order some parts.1 in
    (omega (arith, refers_below rows m n order here.0, rest.0), and_from (nat_lt m (length marks)) (all_within (length marks) path) (lt-ltb m (length marks) rest.0) rest.1)

pub list_within : (rows : List Row) (labels : List ℕ) (level : ℕ) (marks : List ℕ) (stamp : ℕ) (list : List ℕ) → InOrder rows → 0 < stamp → is_list rows labels level marks stamp list ≡ true → all_within (length marks) list ≡ true
list_within rows labels level marks stamp [] order some h = refl
list_within rows labels level marks stamp (n ∷ path) order some h =
    let parts = and_parts (is_end rows n && is_off labels level n) (goes_up rows labels level marks stamp n path) h in
    let up = up_within rows labels level marks stamp n path order some parts.1 in
    and_from (nat_lt n (length marks)) (all_within (length marks) path) (lt-ltb n (length marks) up.0) up.1

-- one list: a path

cone_below : (rows : List Row) (n : ℕ) (path : List ℕ) (m : ℕ) → InOrder rows → LeadsTo rows [] n path m → m ≤ n
cone_below rows n [] m order e = omega (arith, e)
cone_below rows n (next ∷ path) m order way = omega (arith, refers_below rows n next order way.1, cone_below rows next path m order way.2)

pub top_below : (rows : List Row) (label : ℕ → ℕ) (root level t : ℕ) → InOrder rows → IsInTop rows label root level t → t ≤ root
top_below rows label root level t order (inl e) = omega (arith, e)
top_below rows label root level t order (inr (at, (path, way))) = cone_below rows root path t order way

-- a node of the top lies in the cone, and so does what it refers to
pub top_cone : (rows : List Row) (label : ℕ → ℕ) (root level t : ℕ) → IsInTop rows label root level t → IsInCone rows root t
top_cone rows label root level t (inl e) = ([], sym e)
top_cone rows label root level t (inr (at, cone)) = cone

pub cone_on : (rows : List Row) (root t m : ℕ) → IsInCone rows root t → Refers rows t m → IsInCone rows root m
cone_on rows root t m (path, way) r = (path ++ m ∷ [], led_on rows [] root path t m way refl r)

-- what leads up to the top lies below the node, in its cone
up_below : (rows : List Row) (label : ℕ → ℕ) (root level n : ℕ) (path : List ℕ) → InOrder rows → LeadsUp rows (IsInTop rows label root level) n path → (n < root) × IsInCone rows root n
up_below rows label root level n [] order (t, top, r) =
    (omega (arith, refers_below rows t n order r, top_below rows label root level t order top), cone_on rows root t n (top_cone rows label root level t top) r)
up_below rows label root level n (m ∷ path) order (r, up) =
    let rest = up_below rows label root level m path order up in
    (omega (arith, refers_below rows m n order r, rest.0), cone_on rows root m n rest.1 r)

-- such a node is in the top where it has the label
off_out : (rows : List Row) (labels : List ℕ) (root level n : ℕ) → n < root → is_off labels level n ≡ true → IsInTop rows (label_in labels) root level n → ⊥
off_out rows labels root level n below off (inl e) = omega (arith, below, e)
off_out rows labels root level n below off (inr (at, cone)) = both_ways (nat_eq (label_in labels n) level) (not-true (nat_eq (label_in labels n) level) off) (eq-eqb (label_in labels n) level at)

out_off : (rows : List Row) (labels : List ℕ) (root level n : ℕ) → IsInCone rows root n → (IsInTop rows (label_in labels) root level n → ⊥) → is_off labels level n ≡ true
out_off rows labels root level n cone out =
    not_from_false (nat_eq (label_in labels n) level) (false_from_ne_true (nat_eq (label_in labels n) level) (λ e. out (inr (same_node (label_in labels n) level e, cone))))

all_cons : (P : ℕ → Type 0) (x : ℕ) (xs : List ℕ) → P x → All P xs → All P (x ∷ xs)
all_cons P x xs here rest zero d lt = here
all_cons P x xs here rest (suc k) d lt = rest k d (omega (arith, lt))

all_none : (P : ℕ → Type 0) → All P []
all_none P k d lt = absurd (omega (arith, lt))

all_tail : (P : ℕ → Type 0) (x : ℕ) (xs : List ℕ) → All P (x ∷ xs) → All P xs
all_tail P x xs all k d lt = all (suc k) d (omega (arith, lt))

up_path : (rows : List Row) (labels : List ℕ) (root level : ℕ) (marks : List ℕ) (stamp n : ℕ) (path : List ℕ) → InOrder rows → AreBelow rows (IsInTop rows (label_in labels) root level) marks stamp
    → goes_up rows labels level marks stamp n path ≡ true → LeadsUp rows (IsInTop rows (label_in labels) root level) n path × All (λ m. IsInTop rows (label_in labels) root level m → ⊥) path
up_path rows labels root level marks stamp n [] order below h = (below.sound n h, all_none (λ m. IsInTop rows (label_in labels) root level m → ⊥))
up_path rows labels root level marks stamp n (m ∷ path) order below h =
    let parts = and_parts (has_node (refs_at rows m) n && is_off labels level m) (goes_up rows labels level marks stamp m path) h in
    let here = and_parts (has_node (refs_at rows m) n) (is_off labels level m) parts.0 in
    let rest = up_path rows labels root level marks stamp m path order below parts.1 in
    let low = up_below rows (label_in labels) root level m path order rest.0 in
    ((here.0, rest.0), all_cons (λ m. IsInTop rows (label_in labels) root level m → ⊥) m path (off_out rows labels root level m low.0 here.1) rest.1)

pub list_path : (rows : List Row) (labels : List ℕ) (root level : ℕ) (marks : List ℕ) (stamp : ℕ) (list : List ℕ) → InOrder rows → AreBelow rows (IsInTop rows (label_in labels) root level) marks stamp
    → is_list rows labels level marks stamp list ≡ true → IsPathInto rows (IsInTop rows (label_in labels) root level) list
list_path rows labels root level marks stamp [] order below h = absurd (both_ways false refl h)
list_path rows labels root level marks stamp (n ∷ path) order below h =
    let parts = and_parts (is_end rows n && is_off labels level n) (goes_up rows labels level marks stamp n path) h in
    let here = and_parts (is_end rows n) (is_off labels level n) parts.0 in
    let rest = up_path rows labels root level marks stamp n path order below parts.1 in
    let low = up_below rows (label_in labels) root level n path order rest.0 in
    (here.0, rest.0, all_cons (λ m. IsInTop rows (label_in labels) root level m → ⊥) n path (off_out rows labels root level n low.0 here.1) rest.1)

path_up : (rows : List Row) (labels : List ℕ) (root level : ℕ) (marks : List ℕ) (stamp n : ℕ) (path : List ℕ) → InOrder rows → AreBelow rows (IsInTop rows (label_in labels) root level) marks stamp
    → LeadsUp rows (IsInTop rows (label_in labels) root level) n path → All (λ m. IsInTop rows (label_in labels) root level m → ⊥) path → goes_up rows labels level marks stamp n path ≡ true
path_up rows labels root level marks stamp n [] order below (t, top, r) out = below.all t n top r
path_up rows labels root level marks stamp n (m ∷ path) order below (r, up) out =
    let low = up_below rows (label_in labels) root level m path order up in
    and_from (has_node (refs_at rows m) n && is_off labels level m) (goes_up rows labels level marks stamp m path)
    (and_from (has_node (refs_at rows m) n) (is_off labels level m) r (out_off rows labels root level m low.1 (out zero m (omega arith))))
    (path_up rows labels root level marks stamp m path order below up (all_tail (λ m. IsInTop rows (label_in labels) root level m → ⊥) m path out))

pub path_list : (rows : List Row) (labels : List ℕ) (root level : ℕ) (marks : List ℕ) (stamp : ℕ) (list : List ℕ) → InOrder rows → AreBelow rows (IsInTop rows (label_in labels) root level) marks stamp
    → IsPathInto rows (IsInTop rows (label_in labels) root level) list → is_list rows labels level marks stamp list ≡ true
path_list rows labels root level marks stamp [] order below h = absurd h
path_list rows labels root level marks stamp (n ∷ path) order below (source, up, out) =
    let low = up_below rows (label_in labels) root level n path order up in
    and_from (is_end rows n && is_off labels level n) (goes_up rows labels level marks stamp n path)
    (and_from (is_end rows n) (is_off labels level n) source (out_off rows labels root level n low.1 (out zero n (omega arith))))
    (path_up rows labels root level marks stamp n path order below up (all_tail (λ m. IsInTop rows (label_in labels) root level m → ⊥) n path out))

-- all lists

lists_all : (P : List ℕ → Type 0) (x : List ℕ) (xs : List (List ℕ)) → P x → All P xs → All P (x ∷ xs)
lists_all P x xs here rest zero d lt = here
lists_all P x xs here rest (suc k) d lt = rest k d (omega (arith, lt))

within-append : (count : ℕ) (xs ys : List ℕ) → all_within count xs ≡ true → all_within count ys ≡ true → all_within count (xs ++ ys) ≡ true
within-append count [] ys h k = k
within-append count (x ∷ xs) ys h k =
    let parts = and_parts (nat_lt x count) (all_within count xs) h in
    and_from (nat_lt x count) (all_within count (xs ++ ys)) parts.0 (within-append count xs ys parts.1 k)

lists_paths : (rows : List Row) (labels : List ℕ) (root level : ℕ) (marks : List ℕ) (stamp : ℕ) (met : List ℕ) (lists : List (List ℕ)) → InOrder rows → 0 < stamp
    → AreBelow rows (IsInTop rows (label_in labels) root level) marks stamp → are_lists rows labels level marks stamp met lists ≡ true
    → All (IsPathInto rows (IsInTop rows (label_in labels) root level)) lists × (are_new met stamp (flat_map (λ path. path) lists) ≡ true) × (all_within (length marks) (flat_map (λ path. path) lists) ≡ true)
lists_paths rows labels root level marks stamp met [] order some below h = (λ k d lt. absurd (omega (arith, lt)), refl, refl)
lists_paths rows labels root level marks stamp met (list ∷ lists) order some below h =
    let parts = and_parts (is_list rows labels level marks stamp list) (are_new met stamp list && are_lists rows labels level marks stamp (mark_all met stamp list) lists) h in
    let new = and_parts (are_new met stamp list) (are_lists rows labels level marks stamp (mark_all met stamp list) lists) parts.1 in
    let rest = lists_paths rows labels root level marks stamp (mark_all met stamp list) lists order some below new.1 in (
      lists_all (IsPathInto rows (IsInTop rows (label_in labels) root level)) list lists (list_path rows labels root level marks stamp list order below parts.0) rest.0,
      new-append met stamp list (flat_map (λ path. path) lists) ∙ and_from (are_new met stamp list) (are_new (mark_all met stamp list) stamp (flat_map (λ path. path) lists)) new.0 rest.1,
      within-append (length marks) list (flat_map (λ path. path) lists) (list_within rows labels level marks stamp list order some parts.0) rest.2,
    )

paths_lists : (rows : List Row) (labels : List ℕ) (root level : ℕ) (marks : List ℕ) (stamp : ℕ) (met : List ℕ) (lists : List (List ℕ)) → InOrder rows
    → AreBelow rows (IsInTop rows (label_in labels) root level) marks stamp → All (IsPathInto rows (IsInTop rows (label_in labels) root level)) lists → are_new met stamp (flat_map (λ path. path) lists) ≡ true
    → are_lists rows labels level marks stamp met lists ≡ true
paths_lists rows labels root level marks stamp met [] order below paths new = refl
paths_lists rows labels root level marks stamp met (list ∷ lists) order below paths new =
    let parts = and_parts (are_new met stamp list) (are_new (mark_all met stamp list) stamp (flat_map (λ path. path) lists)) (sym (new-append met stamp list (flat_map (λ path. path) lists)) ∙ new) in
    and_from (is_list rows labels level marks stamp list) (are_new met stamp list && are_lists rows labels level marks stamp (mark_all met stamp list) lists)
    (path_list rows labels root level marks stamp list order below (paths zero list (omega arith)))
    (and_from (are_new met stamp list) (are_lists rows labels level marks stamp (mark_all met stamp list) lists) parts.0
    (paths_lists rows labels root level marks stamp (mark_all met stamp list) lists order below (λ k d lt. paths (suc k) d (omega (arith, lt))) parts.1))

-- The tests of the lists are exact, where the marked nodes are those below the top and none is met yet.
pub lists_exact : (rows : List Row) (labels : List ℕ) (root level : ℕ) (marks : List ℕ) (stamp : ℕ) (met : List ℕ) (lists : List (List ℕ)) → InOrder rows → 0 < stamp
    → AreBelow rows (IsInTop rows (label_in labels) root level) marks stamp → NoneMarked met stamp → length marks ≡ length met
    → (are_lists rows labels level marks stamp met lists ≡ true) ↔ ArePathsInto rows (IsInTop rows (label_in labels) root level) (length lists) lists
lists_exact rows labels root level marks stamp met lists order some below none long = (
  λ h. let all = lists_paths rows labels root level marks stamp met lists order some below h in
      record {
        count_is = refl;
        each = all.0;
        once = (new_distinct met stamp (flat_map (λ path. path) lists) (subst (λ k. all_within k (flat_map (λ path. path) lists) ≡ true) long all.2) all.1).0;
      },
  λ paths. paths_lists rows labels root level marks stamp met lists order below paths.each (distinct_new met stamp (flat_map (λ path. path) lists) paths.once (λ m there. none m)),
)

-- stamps

pub up_to_set : (marks : List ℕ) (n stamp : ℕ) → AreUpTo marks stamp → AreUpTo (set marks n stamp) stamp
up_to_set marks n stamp up = record { each = each }
  where
    each : (m : ℕ) → get_or (set marks n stamp) m 0 ≤ stamp
    each m = elim (cases_Bool (nat_eq m n)) [
      | inl e ↦ subst (λ k. get_or (set marks n stamp) k 0 ≤ stamp) (sym (same_node m n e)) (elim (cases_lt n (length marks)) [
        | inl lt ↦ omega (arith, get_or-set_same marks n stamp 0 lt)
        | inr past ↦ let long : length (set marks n stamp) ≤ n = omega (arith, length-set marks n stamp, past) in omega (arith, get_or_past (set marks n stamp) n 0 long)
      ])
      | inr e ↦ omega (arith, get_or-set_other marks n m stamp 0 (λ is. both_ways (nat_eq m n) e (eq-eqb m n is)), up.each m)
    ]

pub up_to_all : (marks : List ℕ) (stamp : ℕ) (nodes : List ℕ) → AreUpTo marks stamp → AreUpTo (mark_all marks stamp nodes) stamp
up_to_all marks stamp [] up = up
up_to_all marks stamp (n ∷ nodes) up = up_to_all (set marks n stamp) stamp nodes (up_to_set marks n stamp up)

pub none_marked : (marks : List ℕ) (before stamp : ℕ) → AreUpTo marks before → before < stamp → NoneMarked marks stamp
none_marked marks before stamp up lt m = ne_eqb (get_or marks m 0) stamp (λ e. absurd (omega (arith, up.each m, lt, e)))

pub up_to_more : (marks : List ℕ) (before stamp : ℕ) → AreUpTo marks before → before ≤ stamp → AreUpTo marks stamp
up_to_more marks before stamp up le = record { each = λ m. omega (arith, up.each m, le) }

-- the number of lists is looked at too

paths_all : (rows : List Row) (InSet : ℕ → Type 0) (count : ℕ) (lists : List (List ℕ)) → ArePathsInto rows InSet count lists → ArePathsInto rows InSet (length lists) lists
paths_all rows InSet count lists paths = record { count_is = refl; each = paths.each; once = paths.once }

pub count_decides : (rows : List Row) (InSet : ℕ → Type 0) (count : ℕ) (lists : List (List ℕ)) (test : Bool) → (test ≡ true) ↔ ArePathsInto rows InSet (length lists) lists → test ≡ true
    → (nat_eq (length lists) count ≡ true) ↔ ArePathsInto rows InSet count lists
count_decides rows InSet count lists test exact passed = (λ e. subst (λ k. ArePathsInto rows InSet k lists) (same_node (length lists) count e) (exact.0 passed), λ paths. eq-eqb (length lists) count paths.count_is)

pub test_decides : (rows : List Row) (InSet : ℕ → Type 0) (count : ℕ) (lists : List (List ℕ)) (test : Bool) → (test ≡ true) ↔ ArePathsInto rows InSet (length lists) lists → test ≡ false
    → (test ≡ true) ↔ ArePathsInto rows InSet count lists
test_decides rows InSet count lists test exact failed = (λ e. absurd (both_ways test failed e), λ paths. exact.1 (paths_all rows InSet count lists paths))
