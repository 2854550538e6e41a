-- What the walk of the top meets outside it is where a search starts.
use Rattle.std.proofs.Common.{◌≡◌, ◌≢◌, ℕ, ◌⊎◌, ◌<◌, ◌≤◌, if◌then◌else◌, nat_eq, nat_lt, Bool, true, false, List, [], ◌∷◌, ◌++◌, length, refl, sym, subst, inl, inr, arith}
use Rattle.std.proofs.Math.ListN.{set, length-set}
use Rattle.std.proofs.lemmas.Bool.{and_parts, both_ways, cases_Bool, cases_lt, eq-eqb, ltb-true}
use Rattle.syn_rows.specs.declared.Row.{Row}
use Rattle.syn_rows.specs.Nodes.{has_node}
use Rattle.syn_rows.specs.Rows.{InOrder}
use Rattle.syn_cones.specs.Cones.{Refers}
use Rattle.syn_paths.specs.Tops.{FallsBelow, IsInTop, IsLowFor, label_in}
use Rattle.syn_paths.specs.Checking.{all_within, AreBelow, is_marked, mark_all, NoneMarked}
use Rattle.syn_paths.specs.Walking.{AreOffLevel, start_all, start_with}
use Rattle.syn_paths.specs.Adding.{AreStarts}
use Rattle.syn_rows.proofs.Nodes.{has_cases, has_here, has_left, has_one, has_right, same_node}
use Rattle.syn_paths.proofs.Checked.{cone_on, marked_before, marked_here, marked_still, top_below, top_cone}

start_has : (labels : List ℕ) (level : ℕ) (marks : List ℕ) (stamp : ℕ) (starts : List ℕ) (n v : ℕ) → has_node (start_with labels level marks stamp starts n) v ≡ true → (has_node starts v ≡ true) ⊎ ((v ≡ n) × (label_in labels n ≡ level → ⊥))
start_has labels level marks stamp starts n v h = go (is_marked marks stamp n) (nat_eq (label_in labels n) level) refl h
  where
    go : (a b : Bool) → nat_eq (label_in labels n) level ≡ b → has_node (if a then starts else if b then starts else starts ++ n ∷ []) v ≡ true → (has_node starts v ≡ true) ⊎ ((v ≡ n) × (label_in labels n ≡ level → ⊥))
    go true b e h = inl h
    go false true e h = inl h
    go false false e h = elim (has_cases starts (n ∷ []) v h) [
      | inl s ↦ inl s
      | inr o ↦ inr (sym (has_one n v o), λ is. both_ways (nat_eq (label_in labels n) level) e (eq-eqb (label_in labels n) level is))
    ]

start_keeps : (labels : List ℕ) (level : ℕ) (marks : List ℕ) (stamp : ℕ) (starts : List ℕ) (n v : ℕ) → has_node starts v ≡ true → has_node (start_with labels level marks stamp starts n) v ≡ true
start_keeps labels level marks stamp starts n v h = go (is_marked marks stamp n) (nat_eq (label_in labels n) level)
  where
    go : (a b : Bool) → has_node (if a then starts else if b then starts else starts ++ n ∷ []) v ≡ true
    go true b = h
    go false true = h
    go false false = has_left starts (n ∷ []) v h

start_new : (labels : List ℕ) (level : ℕ) (marks : List ℕ) (stamp : ℕ) (starts : List ℕ) (n : ℕ) → is_marked marks stamp n ≡ false → (label_in labels n ≡ level → ⊥) → has_node (start_with labels level marks stamp starts n) n ≡ true
start_new labels level marks stamp starts n new other = go (is_marked marks stamp n) (nat_eq (label_in labels n) level) new refl
  where
    go : (a b : Bool) → a ≡ false → nat_eq (label_in labels n) level ≡ b → has_node (if a then starts else if b then starts else starts ++ n ∷ []) n ≡ true
    go true b e f = absurd (both_ways true e refl)
    go false true e f = absurd (other (same_node (label_in labels n) level f))
    go false false e f = has_right starts (n ∷ []) n (has_here n [])

-- one is marked
starts_one : (labels : List ℕ) (level : ℕ) (marks : List ℕ) (stamp : ℕ) (starts : List ℕ) (n : ℕ) → n < length marks → AreOffLevel labels level marks stamp starts → AreOffLevel labels level (set marks n stamp) stamp (start_with labels level marks stamp starts n)
starts_one labels level marks stamp starts n lt o = record {
  marked = λ v h. elim (start_has labels level marks stamp starts n v h) [
    | inl s ↦ marked_still marks stamp n v lt (o.marked v s)
    | inr new ↦ subst (λ k. is_marked (set marks n stamp) stamp k ≡ true) (sym new.0) (marked_here marks stamp n lt)
  ];
  off = λ v h at. elim (start_has labels level marks stamp starts n v h) [
    | inl s ↦ o.off v s at
    | inr new ↦ new.1 (subst (λ k. label_in labels k ≡ level) new.0 at)
  ];
  all = λ v h other. elim (marked_before marks stamp n v h) [
    | inl e ↦ elim (cases_Bool (is_marked marks stamp n)) [
      | inl known ↦ start_keeps labels level marks stamp starts n v (o.all v (subst (λ k. is_marked marks stamp k ≡ true) (sym e) known) other)
      | inr new ↦ subst (λ k. has_node (start_with labels level marks stamp starts n) k ≡ true) (sym e)
          (start_new labels level marks stamp starts n new (λ at. other (subst (λ k. label_in labels k ≡ level) (sym e) at)))
    ]
    | inr before ↦ start_keeps labels level marks stamp starts n v (o.all v before other)
  ];
}

-- all are
pub starts_all : (labels : List ℕ) (level : ℕ) (marks : List ℕ) (stamp : ℕ) (starts todo : List ℕ) → all_within (length marks) todo ≡ true → AreOffLevel labels level marks stamp starts
    → AreOffLevel labels level (mark_all marks stamp todo) stamp (start_all labels level marks stamp starts todo)
starts_all labels level marks stamp starts [] within o = o
starts_all labels level marks stamp starts (n ∷ todo) within o =
    let parts = and_parts (nat_lt n (length marks)) (all_within (length marks) todo) within in
    starts_all labels level (set marks n stamp) stamp (start_with labels level marks stamp starts n) todo (subst (λ k. all_within k todo ≡ true) (sym (length-set marks n stamp)) parts.1)
    (starts_one labels level marks stamp starts n (ltb-true n (length marks) parts.0) o)

pub starts_none : (labels : List ℕ) (level : ℕ) (marks : List ℕ) (stamp : ℕ) → NoneMarked marks stamp → AreOffLevel labels level marks stamp []
starts_none labels level marks stamp none = record {
  marked = λ v h. absurd (both_ways false refl h);
  off = λ v h at. both_ways false refl h;
  all = λ v h other. absurd (both_ways (is_marked marks stamp v) (none v) h);
}

-- They are the starts, once what the top refers to is marked.
pub are_starts : (rows : List Row) (labels : List ℕ) (root level : ℕ) (marks : List ℕ) (stamp : ℕ) (starts : List ℕ) → InOrder rows → FallsBelow rows (label_in labels) root → IsLowFor rows (label_in labels) root level
    → AreBelow rows (IsInTop rows (label_in labels) root level) marks stamp → AreOffLevel labels level marks stamp starts → AreStarts rows labels root level starts
are_starts rows labels root level marks stamp starts order falls low below o = record {
  low = λ v h.
      let at = below.sound v (o.marked v h) in
      let other : label_in labels v ≢ level = o.off v h in
      let most : label_in labels v ≤ level = high at.0 v at.1 at.2 in
      omega (arith, other, most);
  below = λ v h. below.sound v (o.marked v h);
  all = λ t v top r away. o.all v (below.all t v top r) (λ at. away (inr (at, cone_on rows root t v (top_cone rows (label_in labels) root level t top) r)));
}
  where
    high : (t v : ℕ) → IsInTop rows (label_in labels) root level t → Refers rows t v → label_in labels v ≤ level
    high t v (inl e) r = low v (subst (λ k. Refers rows k v) e r)
    high t v (inr (at, cone)) r = elim (cases_lt t root) [
      | inl less ↦ omega (arith, at, falls t v less r)
      | inr past ↦ let le = top_below rows (label_in labels) root level t order (inr (at, cone)) in
          let e : t ≡ root = omega (arith, past, le) in
          low v (subst (λ k. Refers rows k v) e r)
    ]
