-- Gate by gate, a literal's node is node 0, a used leaf, a hit or a new gate.
use Rattle.std.proofs.Common.{◌≡◌, ◌≢◌, ◌⊎◌, ℕ, zero, suc, ◌+◌, ◌*◌, ◌/◌, ◌%◌, ◌<◌, ◌≤◌, ◌==◌, ◌&&◌, ◌||◌, nat_lt, Bool, true, false, if◌then◌else◌, List, [], ◌∷◌, ◌++◌, length, get_or, Option, Some, None, refl, sym, ◌∙◌, subst, arith, inl, inr}
use Rattle.std.specs.List.{AllByRecursion}
use Rattle.std.proofs.lemmas.Bool.{and_from, cases_lt, cond_both, eq-eqb, lt-ltb, or_left, or_right}
use Rattle.std.proofs.lemmas.List.{get_or_append_left, get_or_past, get_or_push, length_push}
use Rattle.syn_rows.specs.declared.Lit.{Lit}
use Rattle.syn_rows.specs.declared.Row.{Row}
use Rattle.syn_rows.specs.declared.Row.TheVariants.{Free, And}
use Rattle.syn_rows.specs.Rows.{node_of, row_at}
use Rattle.syn_rows.specs.Joining.{complement, constant, lit_of, ordered_and, same_pair, simple_and}
use Rattle.syn_rows.specs.Nodes.{has_node}
use Rattle.syn_rows.proofs.JoinLaws.{complement_node, simple_by}
use Rattle.syn_rows.proofs.Nodes.{has_here}
use Rattle.syn_plan.specs.declared.PLit.{PLit}
use Rattle.syn_plan.specs.Gates.{index_of}
use Rattle.syn_plan.specs.Naming.{gates_name, names}
use Rattle.syn_gain.specs.Placing.{Met, Placed, begun, each_below, found, leaf_literals, literal_for, literal_met, or_else, place_gate, place_gates, place_pair, with_gate}
use Rattle.syn_gain.proofs.Bounds.{each_push}
use Rattle.syn_decide.specs.declared.decisions.NodeRow.{NodeRow}
use Rattle.syn_decide.specs.Tasks.{Task}
use Rattle.syn_decide.specs.Walk.{nodes_of}
use Rattle.syn_decide.specs.Functions.{used_from, uses}
use Rattle.syn_decide.specs.Hints.{first_new, is_new_gate, is_pair_of, literal_hit, literal_listed, placed_by_hits}
use Rattle.syn_commit_laws.specs.Origins.{IsFanIn, IsFrom, NewRowsReferToOrigins}
use Rattle.syn_commit_laws.proofs.Keeping.{length_each}

-- ---- indexes of a plan: those of leaves are used ones
abbrev IsNamed : Task → ℕ → Type 0
IsNamed t i = (j : ℕ) → i ≡ suc j → j < t.proposal.count → uses t j ≡ true

abbrev GateIsNamed : Task → PLit × PLit → Type 0
GateIsNamed t gate = IsNamed t (index_of gate.0) × IsNamed t (index_of gate.1)

used_by : (t : Task) (j : ℕ) → j < t.proposal.count → (gates_name j t.proposal.gates || names j t.proposal.out) ≡ true → uses t j ≡ true
used_by t j lt h = and_from (nat_lt j t.proposal.count) (gates_name j t.proposal.gates || names j t.proposal.out) (lt-ltb j t.proposal.count lt) h

names_it : (j : ℕ) (l : PLit) → index_of l ≡ suc j → names j l ≡ true
names_it j l e = eq-eqb (index_of l) (1 + j) (omega (arith, e))

out_named : (t : Task) → IsNamed t (index_of t.proposal.out)
out_named t j e lt = used_by t j lt (or_right (gates_name j t.proposal.gates) (names j t.proposal.out) (names_it j t.proposal.out e))

gates_named : (t : Task) (gates : List (PLit × PLit)) → ((j : ℕ) → gates_name j gates ≡ true → gates_name j t.proposal.gates ≡ true) → AllByRecursion (GateIsNamed t) gates
gates_named t [] up = tt
gates_named t (gate ∷ gates) up = (
  (
    λ j e lt. used_by t j lt (or_left (gates_name j t.proposal.gates) (names j t.proposal.out) (up j (or_left (names j gate.0 || names j gate.1) (gates_name j gates) (or_left (names j gate.0) (names j gate.1) (names_it j gate.0 e))))),
    λ j e lt. used_by t j lt (or_left (gates_name j t.proposal.gates) (names j t.proposal.out) (up j (or_left (names j gate.0 || names j gate.1) (gates_name j gates) (or_right (names j gate.0) (names j gate.1) (names_it j gate.1 e))))),
  ),
  gates_named t gates (λ j h. up j (or_right (names j gate.0 || names j gate.1) (gates_name j gates) h)),
)

-- a used leaf is among the used leaves
has_used : (t : Task) (i : ℕ) (leaves : List ℕ) (j k : ℕ) → k ≡ i + j → uses t k ≡ true → j < length leaves → has_node (used_from t i leaves) (get_or leaves j 0) ≡ true
has_used t i [] j k e u lt = absurd (omega arith)
has_used t i (leaf ∷ leaves) zero k e u lt =
    let here : uses t i ≡ true = subst (λ n. uses t n ≡ true) (let same : k ≡ i = omega (arith, e) in same) u in
    subst (λ b. has_node (if b then leaf ∷ used_from t (i + 1) leaves else used_from t (i + 1) leaves) leaf ≡ true) (sym here) (has_here leaf (used_from t (i + 1) leaves))
has_used t i (leaf ∷ leaves) (suc j) k e u lt = go (uses t i) (has_used t (i + 1) leaves j k (omega (arith, e)) u (omega arith))
  where
    go : (b : Bool) → has_node (used_from t (i + 1) leaves) (get_or leaves j 0) ≡ true → has_node (if b then leaf ∷ used_from t (i + 1) leaves else used_from t (i + 1) leaves) (get_or leaves j 0) ≡ true
    go true h = or_right (leaf == get_or leaves j 0) (has_node (used_from t (i + 1) leaves) (get_or leaves j 0)) h
    go false h = h

-- ---- what holds while gates are placed
module _ (t : Task) (hits : List NodeRow) where
  abbrev From : ℕ → ℕ → Type 0
  From m n = IsFrom t (nodes_of hits) m n

  from_more : (m k n : ℕ) → m ≤ k → From m n → From k n
  from_more m k n le (inl old) = inl old
  from_more m k n le (inr (inl hit)) = inr (inl hit)
  from_more m k n le (inr (inr new)) = inr (inr (new.0, omega (arith, new.1, le)))

  plain_node : (n : ℕ) → node_of (lit_of n) ≡ n
  plain_node n = omega arith

  abbrev IsNewRow : ℕ → Row → Type 0
  IsNewRow i row = (a : Lit) × (b : Lit) × (row ≡ And a b) × IsFanIn t (nodes_of hits) i a × IsFanIn t (nodes_of hits) i b

  record AreFrom (s : Placed) : Type 0 where
    literals : (i : ℕ) → IsNamed t i → From (length s.extra) (node_of (get_or s.literals i constant))
    met : AllByRecursion (λ m. From (length s.extra) (node_of m.literal)) s.met
    rows : (i : ℕ) → i < length s.extra → IsNewRow i (row_at s.extra i)

  -- a plan's literal
  literal_from : (s : Placed) (l : PLit) → AreFrom s → IsNamed t (index_of l) → From (length s.extra) (node_of (literal_for s.literals l))
  literal_from s l a named =
      cond_both (l.0 % 2 == 0) (get_or s.literals (index_of l) constant) (complement (get_or s.literals (index_of l) constant)) (λ (x : Lit). From (length s.extra) (node_of x))
      (λ _. a.literals (index_of l) named)
      (λ _. subst (From (length s.extra)) (sym (complement_node (get_or s.literals (index_of l) constant))) (a.literals (index_of l) named))

  -- ---- a pair that is found
  met_from : (m : ℕ) (ms : List Met) (x y l : Lit) → AllByRecursion (λ q. From m (node_of q.literal)) ms → literal_met ms x y ≡ Some l → From m (node_of l)
  met_from m [] x y l h e = absurd (cc)
  met_from m (q ∷ ms) x y l h e = go (same_pair x y q.first q.second) e (met_from m ms x y l h.1)
    where
      go : (b : Bool) → (if b then Some q.literal else literal_met ms x y) ≡ Some l → (literal_met ms x y ≡ Some l → From m (node_of l)) → From m (node_of l)
      go true f next = let same : q.literal ≡ l = cc in subst (λ (z : Lit). From m (node_of z)) same h.0
      go false f next = next f

  listed_from : (rows : List NodeRow) (x y l : Lit) → literal_listed rows x y ≡ Some l → has_node (nodes_of rows) (node_of l) ≡ true
  listed_from [] x y l e = absurd (cc)
  listed_from (q ∷ rows) x y l e = go (is_pair_of x y q.row) e (listed_from rows x y l)
    where
      go : (b : Bool) → (if b then Some (lit_of q.node) else literal_listed rows x y) ≡ Some l → (literal_listed rows x y ≡ Some l → has_node (nodes_of rows) (node_of l) ≡ true) → has_node (nodes_of (q ∷ rows)) (node_of l) ≡ true
      go true f next =
          let same : lit_of q.node ≡ l = cc in
          subst (λ (z : Lit). has_node (nodes_of (q ∷ rows)) (node_of z) ≡ true) same (subst (λ k. has_node (nodes_of (q ∷ rows)) k ≡ true) (sym (plain_node q.node)) (has_here q.node (nodes_of rows)))
      go false f next = or_right (q.node == node_of l) (has_node (nodes_of rows) (node_of l)) (next f)

  hit_from : (m : ℕ) (x y l : Lit) → literal_hit hits x y ≡ Some l → From m (node_of l)
  hit_from m x y l e = go (is_new_gate x || is_new_gate y) e
    where
      go : (b : Bool) → (if b then None else literal_listed hits x y) ≡ Some l → From m (node_of l)
      go true f = absurd (cc)
      go false f = inr (inl (listed_from hits x y l f))

  module _ (s : Placed) (a : AreFrom s) (x y : Lit) (x_from : From (length s.extra) (node_of x)) (y_from : From (length s.extra) (node_of y)) where
    abbrev rest : Option Lit
    rest = or_else (literal_met s.met x y) (literal_hit hits x y)

    rest_from : (l : Lit) → rest ≡ Some l → From (length s.extra) (node_of l)
    rest_from l e = go (literal_met s.met x y) refl e
      where
        go : (o : Option Lit) → literal_met s.met x y ≡ o → or_else o (literal_hit hits x y) ≡ Some l → From (length s.extra) (node_of l)
        go (Some k) f g = let same : k ≡ l = cc in subst (λ (z : Lit). From (length s.extra) (node_of z)) same (met_from (length s.extra) s.met x y k a.met f)
        go None f g = hit_from (length s.extra) x y l g

    found_from : (l : Lit) → found (literal_hit hits) s.met x y ≡ Some l → From (length s.extra) (node_of l)
    found_from l e = by e
      where
        to : (k : Lit) → From (length s.extra) (node_of k) → or_else (Some k) rest ≡ Some l → From (length s.extra) (node_of l)
        to k f g = let same : k ≡ l = cc in subst (λ (z : Lit). From (length s.extra) (node_of z)) same f

        by : or_else (simple_and x y) rest ≡ Some l → From (length s.extra) (node_of l)
        by = simple_by (λ o. or_else o rest ≡ Some l → From (length s.extra) (node_of l)) x y
            (λ _. to x x_from) (λ _ _. to constant (inl (inl refl))) (λ _. to constant (inl (inl refl))) (λ _. to y y_from) (λ _. to x x_from) (λ _ _ _ f. rest_from l f)

    fan_in : (z : Lit) → From (length s.extra) (node_of z) → 2 ≤ z.0 → IsFanIn t (nodes_of hits) (length s.extra) z
    fan_in z f le = record { from = f; other = λ e. absurd (omega (arith, le, e)) }

    not_found : found (literal_hit hits) s.met x y ≡ None → IsNewRow (length s.extra) (ordered_and x y)
    not_found e = by e
      where
        never : (k : Lit) → or_else (Some k) rest ≡ None → IsNewRow (length s.extra) (ordered_and x y)
        never k f = absurd (cc)

        both : 2 ≤ x.0 → 2 ≤ y.0 → IsNewRow (length s.extra) (ordered_and x y)
        both p q = cond_both (nat_lt x.0 y.0) (And x y) (And y x) (λ row. IsNewRow (length s.extra) row)
            (λ _. (x, y, refl, fan_in x x_from p, fan_in y y_from q)) (λ _. (y, x, refl, fan_in y y_from q, fan_in x x_from p))

        by : or_else (simple_and x y) rest ≡ None → IsNewRow (length s.extra) (ordered_and x y)
        by = simple_by (λ o. or_else o rest ≡ None → IsNewRow (length s.extra) (ordered_and x y)) x y
            (λ _. never x) (λ _ _. never constant) (λ _. never constant) (λ _. never y) (λ _. never x) (λ _ p q _. both p q)

    -- one gate more
    old_more : (l : Lit) (extra : List Row) → length s.extra ≤ length extra → From (length extra) (node_of l) → ((i : ℕ) → i < length extra → IsNewRow i (row_at extra i)) → AreFrom (with_gate s x y l extra)
    old_more l extra le here rows = record {
      literals = each_push (λ i z. IsNamed t i → From (length extra) (node_of z)) s.literals l constant (λ i n. from_more (length s.extra) (length extra) (node_of (get_or s.literals i constant)) le (a.literals i n)) (λ n. here);
      met = (here, up s.met a.met);
      rows = rows;
    }
      where
        up : (ms : List Met) → AllByRecursion (λ m. From (length s.extra) (node_of m.literal)) ms → AllByRecursion (λ m. From (length extra) (node_of m.literal)) ms
        up [] h = tt
        up (m ∷ ms) h = (from_more (length s.extra) (length extra) (node_of m.literal) le h.0, up ms h.1)

    pair_from : (o : Option Lit) → found (literal_hit hits) s.met x y ≡ o → AreFrom (place_pair first_new s x y o)
    pair_from (Some l) e = old_more l s.extra (omega arith) (found_from l e) a.rows
    pair_from None e =
        let size : length (s.extra ++ ordered_and x y ∷ []) ≡ length s.extra + 1 = (let e = length_push s.extra (ordered_and x y) in omega (arith, e)) in
        let node : node_of (lit_of (first_new + length s.extra)) ≡ first_new + length s.extra = plain_node (first_new + length s.extra) in
        old_more (lit_of (first_new + length s.extra)) (s.extra ++ ordered_and x y ∷ []) (omega (arith, size)) (inr (inr (omega (arith, node), omega (arith, node, size)))) (λ i lt. elim (cases_lt i (length s.extra)) [
          | inl old ↦ subst (IsNewRow i) (sym (get_or_append_left s.extra (ordered_and x y ∷ []) Free i old)) (a.rows i old)
          | inr ge ↦
              let last : length s.extra ≡ i = omega (arith, lt, ge, size) in
              subst (IsNewRow i) (sym (get_or_push s.extra (ordered_and x y) Free i last)) (subst (λ k. IsNewRow k (ordered_and x y)) last (not_found e))
        ])

  gate_from : (s : Placed) (gate : PLit × PLit) → AreFrom s → GateIsNamed t gate → AreFrom (place_gate (literal_hit hits) first_new s gate)
  gate_from s gate a n =
      pair_from s a (literal_for s.literals gate.0) (literal_for s.literals gate.1) (literal_from s gate.0 a n.0) (literal_from s gate.1 a n.1)
      (found (literal_hit hits) s.met (literal_for s.literals gate.0) (literal_for s.literals gate.1)) refl

  gates_from : (s : Placed) (gates : List (PLit × PLit)) → AreFrom s → AllByRecursion (GateIsNamed t) gates → AreFrom (place_gates (literal_hit hits) first_new s gates)
  gates_from s [] a n = a
  gates_from s (gate ∷ gates) a n = gates_from (place_gate (literal_hit hits) first_new s gate) gates (gate_from s gate a n.0) n.1

  -- ---- before any gate
  leaf_from : (j : ℕ) → j < t.proposal.count → uses t j ≡ true → From 0 (node_of (lit_of (get_or t.proposal.leaves j 0)))
  leaf_from j lt u = subst (From 0) (sym (plain_node (get_or t.proposal.leaves j 0))) (elim (cases_lt j (length t.proposal.leaves)) [
    | inl less ↦ inl (inr (has_used t 0 t.proposal.leaves j j (omega arith) u less))
    | inr ge ↦ inl (inl (get_or_past t.proposal.leaves j 0 ge))
  ])

  leaves_from : (n : ℕ) → n ≤ t.proposal.count → (i : ℕ) → IsNamed t (suc i) → From 0 (node_of (get_or (each_below n (λ j. lit_of (get_or t.proposal.leaves j 0))) i constant))
  leaves_from zero le = λ i named. inl (inl refl)
  leaves_from (suc n) le = each_push (λ i z. IsNamed t (suc i) → From 0 (node_of z)) (each_below n (λ j. lit_of (get_or t.proposal.leaves j 0))) (lit_of (get_or t.proposal.leaves n 0)) constant
      (leaves_from n (omega (arith, le)))
      (subst (λ k. IsNamed t (suc k) → From 0 (node_of (lit_of (get_or t.proposal.leaves n 0)))) (sym (length_each n (λ j. lit_of (get_or t.proposal.leaves j 0)))) (λ named. leaf_from n (omega (arith, le)) (named n refl (omega (arith, le)))))

  begun_from : AreFrom (begun t.proposal.count t.proposal.leaves)
  begun_from = record { literals = each; met = tt; rows = λ i lt. absurd (omega arith) }
    where
      each : (i : ℕ) → IsNamed t i → From 0 (node_of (get_or (constant ∷ leaf_literals t.proposal.count t.proposal.leaves) i constant))
      each zero named = inl (inl refl)
      each (suc i) named = leaves_from t.proposal.count (omega arith) i named

  all_from : AreFrom (placed_by_hits t hits)
  all_from = gates_from (begun t.proposal.count t.proposal.leaves) t.proposal.gates begun_from (gates_named t t.proposal.gates (λ j h. h))

pub new_rows_refer_to_origins : NewRowsReferToOrigins
new_rows_refer_to_origins t hits = record {
  rows = (all_from t hits).rows;
  out = literal_from t hits (placed_by_hits t hits) t.proposal.out (all_from t hits) (out_named t);
}
