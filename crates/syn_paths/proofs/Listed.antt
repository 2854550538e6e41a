-- Paths read off as lists share no node.
use Rattle.std.proofs.Common.{◌≡◌, ◌≢◌, ℕ, zero, suc, ◌⊎◌, ◌<◌, not, true, false, All, List, [], ◌∷◌, ◌++◌, length, flat_map, refl, sym, ap, subst, inl, inr, arith}
use Rattle.std.proofs.lemmas.Bool.{and_parts, and_from, both_ways, false_from_ne_true, not-true, not_from_false}
use Rattle.syn_rows.specs.declared.Row.{Row}
use Rattle.syn_paths.specs.declared.places.Next.{Next}
use Rattle.syn_paths.specs.declared.places.Next.TheVariants.{Off, To}
use Rattle.syn_rows.specs.Nodes.{has_node}
use Rattle.syn_rows.specs.Rows.{InOrder}
use Rattle.syn_cones.specs.Cones.{is_end}
use Rattle.syn_paths.specs.Paths.{ArePathsInto, IsPathInto, LeadsUp}
use Rattle.syn_lists.specs.Numbers.{distinct_numbers}
use Rattle.syn_paths.specs.Tops.{IsInTop}
use Rattle.syn_paths.specs.Augmenting.{IsFlow}
use Rattle.syn_paths.specs.Tops.{label_in}
use Rattle.syn_paths.specs.Searching.{next_at}
use Rattle.syn_paths.specs.Adding.{ArePaths}
use Rattle.syn_paths.specs.Listing.{AreLists, AreSources, GoesUp, HasListFrom, IsListFrom}
use Rattle.syn_rows.proofs.Nodes.{has_cases, has_here, has_there, here_or_there}
use Rattle.syn_paths.proofs.Falling.{refers_below}
use Rattle.syn_paths.proofs.Augmented.{end_refers, off_to}

pub goes_up : (rows : List Row) (labels : List ℕ) (root level : ℕ) (next : List Next) → InOrder rows → root < length next → ArePaths rows labels root level next → GoesUp next
goes_up rows labels root level next order lt p = record {
  on = p.flow.goes_on;
  up = λ v w to. refers_below rows w v order (p.flow.refers v w to);
  there = λ v w to. omega (arith, lt, (p.low w (p.flow.goes_on v w to)).0);
}

-- a list is a path

list_up : (rows : List Row) (InSet : ℕ → Type 0) (next : List Next) → IsFlow rows InSet (next_at next) → (v : ℕ) (path : List ℕ) → IsListFrom next v path → LeadsUp rows InSet v path × All (λ m. InSet m → ⊥) (v ∷ path)
list_up rows InSet next flow v [] last = (flow.last v last, cons (flow.outside v (λ e. cc (e, last))))
  where
    cons : (InSet v → ⊥) → All (λ m. InSet m → ⊥) (v ∷ [])
    cons here zero d lt = here
    cons here (suc k) d lt = absurd (omega (arith, lt))
list_up rows InSet next flow v (w ∷ path) (to, rest) = let up = list_up rows InSet next flow w path rest in ((flow.refers v w to, up.0), cons (flow.outside v (λ e. off_to (next_at next v) w e to)) up.1)
  where
    cons : (InSet v → ⊥) → All (λ m. InSet m → ⊥) (w ∷ path) → All (λ m. InSet m → ⊥) (v ∷ w ∷ path)
    cons here more zero d lt = here
    cons here more (suc k) d lt = more k d (omega (arith, lt))

-- where two lists meet

rises_all : (next : List Next) → GoesUp next → (v : ℕ) (path : List ℕ) → IsListFrom next v path → (x : ℕ) → has_node path x ≡ true → v < x
rises_all next up v [] last x h = absurd (both_ways false refl h)
rises_all next up v (w ∷ path) (to, rest) x h = elim (here_or_there w x path h) [
  | inl e ↦ omega (arith, e, up.up v w to)
  | inr t ↦ omega (arith, up.up v w to, rises_all next up w path rest x t)
]

back : (rows : List Row) (InSet : ℕ → Type 0) (next : List Next) → IsFlow rows InSet (next_at next) → (v w : ℕ) → next_at next v ≡ To w → (s : ℕ) (path : List ℕ) → IsListFrom next s path → has_node (s ∷ path) w ≡ true
    → (w ≡ s) ⊎ (has_node (s ∷ path) v ≡ true)
back rows InSet next flow v w to s [] last h = elim (here_or_there s w [] h) [ inl e ↦ inl e | inr t ↦ absurd (both_ways false refl t) ]
back rows InSet next flow v w to s (x ∷ path) (on, rest) h = elim (here_or_there s w (x ∷ path) h) [
  | inl e ↦ inl e
  | inr t ↦ elim (back rows InSet next flow v w to x path rest t) [
    | inl e ↦ inr (subst (λ k. has_node (s ∷ x ∷ path) k ≡ true) (flow.once s v x on (subst (λ k. next_at next v ≡ To k) e to)) (has_here s (x ∷ path)))
    | inr there ↦ inr (has_there s v (x ∷ path) there)
  ]
]

meet : (rows : List Row) (InSet : ℕ → Type 0) (next : List Next) → IsFlow rows InSet (next_at next) → (s : ℕ) (path : List ℕ) → IsListFrom next s path → (x v : ℕ) (other : List ℕ) → IsListFrom next v other
    → has_node (v ∷ other) x ≡ true → has_node (s ∷ path) x ≡ true → (has_node (s ∷ path) v ≡ true) ⊎ (has_node (v ∷ other) s ≡ true)
meet rows InSet next flow s path from x v [] last h there = elim (here_or_there v x [] h) [
  | inl e ↦ inl (subst (λ k. has_node (s ∷ path) k ≡ true) e there)
  | inr t ↦ absurd (both_ways false refl t)
]
meet rows InSet next flow s path from x v (w ∷ other) (to, rest) h there = elim (here_or_there v x (w ∷ other) h) [
  | inl e ↦ inl (subst (λ k. has_node (s ∷ path) k ≡ true) e there)
  | inr t ↦ elim (meet rows InSet next flow s path from x w other rest t there) [
    | inl met ↦ elim (back rows InSet next flow v w to s path from met) [
      | inl e ↦ inr (has_there v s (w ∷ other) (subst (λ k. has_node (w ∷ other) k ≡ true) e (has_here w other)))
      | inr own ↦ inl own
    ]
    | inr met ↦ inr (has_there v s (w ∷ other) met)
  ]
]

followed : (next : List Next) (v : ℕ) (path : List ℕ) → IsListFrom next v path → (s : ℕ) → has_node path s ≡ true → (u : ℕ) × (next_at next u ≡ To s)
followed next v [] last s h = absurd (both_ways false refl h)
followed next v (w ∷ path) (to, rest) s h = elim (here_or_there w s path h) [
  | inl e ↦ (v, subst (λ k. next_at next v ≡ To k) (sym e) to)
  | inr t ↦ followed next w path rest s t
]

-- a source on a list is its first
source_first : (rows : List Row) (InSet : ℕ → Type 0) (next : List Next) → IsFlow rows InSet (next_at next) → (v : ℕ) (path : List ℕ) → IsListFrom next v path → (s : ℕ) → is_end rows s ≡ true → has_node (v ∷ path) s ≡ true → s ≡ v
source_first rows InSet next flow v path from s source h = elim (here_or_there v s path h) [
  | inl e ↦ e
  | inr t ↦ let at = followed next v path from s t in absurd (end_refers rows s at.0 source (flow.refers at.0 s at.1))
]

one_source : (rows : List Row) (InSet : ℕ → Type 0) (next : List Next) → IsFlow rows InSet (next_at next) → (s v x : ℕ) (path other : List ℕ) → is_end rows s ≡ true → is_end rows v ≡ true → IsListFrom next s path → IsListFrom next v other
    → has_node (s ∷ path) x ≡ true → has_node (v ∷ other) x ≡ true → s ≡ v
one_source rows InSet next flow s v x path other source also from onto h there = elim (meet rows InSet next flow s path from x v other onto there h) [
  | inl met ↦ sym (source_first rows InSet next flow s path from v also met)
  | inr met ↦ source_first rows InSet next flow v other onto s source met
]

-- all lists

list_once : (next : List Next) → GoesUp next → (v : ℕ) (path : List ℕ) → IsListFrom next v path → distinct_numbers (v ∷ path) ≡ true
list_once next up v [] last = refl
list_once next up v (w ∷ path) (to, rest) = and_from (not (has_node (w ∷ path) v)) (distinct_numbers (w ∷ path))
    (not_from_false (has_node (w ∷ path) v) (false_from_ne_true (has_node (w ∷ path) v) (λ h. let less = rises_all next up v (w ∷ path) (to, rest) v h in absurd (omega (arith, less)))))
    (list_once next up w path rest)

pub distinct_both : (xs ys : List ℕ) → distinct_numbers xs ≡ true → distinct_numbers ys ≡ true → ((x : ℕ) → has_node xs x ≡ true → has_node ys x ≡ true → ⊥) → distinct_numbers (xs ++ ys) ≡ true
distinct_both [] ys h k apart = k
distinct_both (x ∷ xs) ys h k apart =
    let parts = and_parts (not (has_node xs x)) (distinct_numbers xs) h in
    and_from (not (has_node (xs ++ ys) x)) (distinct_numbers (xs ++ ys))
    (not_from_false (has_node (xs ++ ys) x) (false_from_ne_true (has_node (xs ++ ys) x) (λ there. elim (has_cases xs ys x there) [
      | inl a ↦ both_ways (has_node xs x) (not-true (has_node xs x) parts.0) a
      | inr b ↦ apart x (has_here x xs) b
    ])))
    (distinct_both xs ys parts.1 k (λ y a b. apart y (has_there x y xs a) b))

-- a node on one of the lists is on that of one of the sources
pub on_one : (next : List Next) (sources : List ℕ) (lists : List (List ℕ)) → AreLists next sources lists → (x : ℕ) → has_node (flat_map (λ path. path) lists) x ≡ true
    → (v : ℕ) × (path : List ℕ) × (has_node sources v ≡ true) × IsListFrom next v path × (has_node (v ∷ path) x ≡ true)
on_one next [] [] are x h = absurd (both_ways false refl h)
on_one next [] (list ∷ lists) are x h = absurd are
on_one next (s ∷ sources) [] are x h = absurd are
on_one next (s ∷ sources) (list ∷ lists) ((path, is, from), more) x h = elim (has_cases list (flat_map (λ p. p) lists) x h) [
  | inl here ↦ (s, path, has_here s sources, from, subst (λ l. has_node l x ≡ true) is here)
  | inr there ↦ let at = on_one next sources lists more x there in (at.0, at.1, has_there s at.0 sources at.2, at.3, at.4)
]

all_once : (rows : List Row) (InSet : ℕ → Type 0) (next : List Next) → IsFlow rows InSet (next_at next) → GoesUp next → (sources : List ℕ) (lists : List (List ℕ)) → AreSources rows next sources → distinct_numbers sources ≡ true
    → AreLists next sources lists → distinct_numbers (flat_map (λ path. path) lists) ≡ true
all_once rows InSet next flow up [] [] on once are = refl
all_once rows InSet next flow up [] (list ∷ lists) on once are = absurd are
all_once rows InSet next flow up (s ∷ sources) [] on once are = absurd are
all_once rows InSet next flow up (s ∷ sources) (list ∷ lists) on once ((path, is, from), more) =
    let parts = and_parts (not (has_node sources s)) (distinct_numbers sources) once in
    distinct_both list (flat_map (λ p. p) lists) (subst (λ l. distinct_numbers l ≡ true) (sym is) (list_once next up s path from))
    (all_once rows InSet next flow up sources lists (λ v h. on v (has_there s v sources h)) parts.1 more)
    (λ x a b.
    let at = on_one next sources lists more x b in
    let same = one_source rows InSet next flow s at.0 x path at.1 (on s (has_here s sources)).0 (on at.0 (has_there s at.0 sources at.2)).0 from at.3 (subst (λ l. has_node l x ≡ true) is a) at.4 in
    both_ways (has_node sources s) (not-true (has_node sources s) parts.0) (subst (λ k. has_node sources k ≡ true) (sym same) at.2))

all_paths : (rows : List Row) (InSet : ℕ → Type 0) (next : List Next) → IsFlow rows InSet (next_at next) → (sources : List ℕ) (lists : List (List ℕ)) → AreSources rows next sources → AreLists next sources lists
    → (length lists ≡ length sources) × All (IsPathInto rows InSet) lists
all_paths rows InSet next flow [] [] on are = (refl, λ k d lt. absurd (omega (arith, lt)))
all_paths rows InSet next flow [] (list ∷ lists) on are = absurd are
all_paths rows InSet next flow (s ∷ sources) [] on are = absurd are
all_paths rows InSet next flow (s ∷ sources) (list ∷ lists) on ((path, is, from), more) =
    let rest = all_paths rows InSet next flow sources lists (λ v h. on v (has_there s v sources h)) more in
    let up = list_up rows InSet next flow s path from in
    (ap suc rest.0, cons (subst (IsPathInto rows InSet) (sym is) ((on s (has_here s sources)).0, up.0, up.1)) rest.1)
  where
    cons : IsPathInto rows InSet list → All (IsPathInto rows InSet) lists → All (IsPathInto rows InSet) (list ∷ lists)
    cons here others zero d lt = here
    cons here others (suc k) d lt = others k d (omega (arith, lt))

-- The lists are disjoint paths into the top.
pub lists_into : (rows : List Row) (labels : List ℕ) (root level : ℕ) (next : List Next) (sources : List ℕ) (lists : List (List ℕ)) → InOrder rows → root < length next → ArePaths rows labels root level next
    → AreSources rows next sources → distinct_numbers sources ≡ true → AreLists next sources lists → ArePathsInto rows (IsInTop rows (label_in labels) root level) (length sources) lists
lists_into rows labels root level next sources lists order lt p on once are =
    let all = all_paths rows (IsInTop rows (label_in labels) root level) next p.flow sources lists on are in
    record {
      count_is = all.0;
      each = all.1;
      once = all_once rows (IsInTop rows (label_in labels) root level) next p.flow (goes_up rows labels root level next order lt p) sources lists on once are;
    }

pub lists_more : (next : List Next) (sources : List ℕ) (lists : List (List ℕ)) (s : ℕ) (list : List ℕ) → AreLists next sources lists → HasListFrom next s list → AreLists next (sources ++ s ∷ []) (lists ++ list ∷ [])
lists_more next [] [] s list are has = (has, tt)
lists_more next [] (other ∷ lists) s list are has = absurd are
lists_more next (v ∷ sources) [] s list are has = absurd are
lists_more next (v ∷ sources) (other ∷ lists) s list are has = (are.0, lists_more next sources lists s list are.1 has)

-- each node on a path is on one of the lists

step_on : (next : List Next) (s : ℕ) (path : List ℕ) → IsListFrom next s path → (u v : ℕ) → has_node (s ∷ path) u ≡ true → next_at next u ≡ To v → has_node (s ∷ path) v ≡ true
step_on next s [] last u v h to = elim (here_or_there s u [] h) [
  | inl e ↦ let at : next_at next s ≡ To v = subst (λ k. next_at next k ≡ To v) e to in absurd (cc (at, last))
  | inr t ↦ absurd (both_ways false refl t)
]
step_on next s (w ∷ path) (on, rest) u v h to = elim (here_or_there s u (w ∷ path) h) [
  | inl e ↦
      let at : next_at next s ≡ To v = subst (λ k. next_at next k ≡ To v) e to in
      let same : w ≡ v = cc (at, on) in
      has_there s v (w ∷ path) (subst (λ k. has_node (w ∷ path) k ≡ true) same (has_here w path))
  | inr t ↦ has_there s v (w ∷ path) (step_on next w path rest u v t to)
]

list_of : (next : List Next) (sources : List ℕ) (lists : List (List ℕ)) → AreLists next sources lists → (s : ℕ) → has_node sources s ≡ true → (path : List ℕ) × IsListFrom next s path
list_of next [] lists are s h = absurd (both_ways false refl h)
list_of next (x ∷ sources) [] are s h = absurd are
list_of next (x ∷ sources) (list ∷ lists) ((path, is, from), more) s h = elim (here_or_there x s sources h) [
  | inl e ↦ (path, subst (λ k. IsListFrom next k path) (sym e) from)
  | inr t ↦ list_of next sources lists more s t
]

pub on_lists : (rows : List Row) (InSet : ℕ → Type 0) (next : List Next) → IsFlow rows InSet (next_at next) → GoesUp next → (sources : List ℕ) (lists : List (List ℕ)) → AreLists next sources lists
    → ((s : ℕ) → is_end rows s ≡ true → next_at next s ≢ Off → has_node sources s ≡ true) → (limit v : ℕ) → v < limit → next_at next v ≢ Off
    → (s : ℕ) × (path : List ℕ) × (has_node sources s ≡ true) × IsListFrom next s path × (has_node (s ∷ path) v ≡ true)
on_lists rows InSet next flow up sources lists are each zero v lt on = absurd (omega (arith, lt))
on_lists rows InSet next flow up sources lists are each (suc limit) v lt on = elim (flow.fed v on) [
  | inl source ↦
      let there = each v source on in
      let list = list_of next sources lists are v there in
      (v, list.0, there, list.1, has_here v list.0)
  | inr (u, to) ↦
      let at = on_lists rows InSet next flow up sources lists are each limit u (omega (arith, lt, up.up u v to)) (λ e. off_to (next_at next u) v e to) in
      (at.0, at.1, at.2, at.3, step_on next at.0 at.1 at.3 u v at.4 to)
]
