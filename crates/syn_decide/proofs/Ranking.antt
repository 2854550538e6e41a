-- Rows along which a rank rises are in no circle.
use Rattle.std.proofs.Common.{◌≡◌, ◌⊎◌, ℕ, zero, suc, ◌+◌, ◌<◌, ◌≤◌, Bool, true, false, nat_lt, nat_le, ◌==◌, ◌||◌, if◌then◌else◌, List, [], ◌∷◌, ◌++◌, length, replicate, Option, Some, None, refl, sym, ap, ◌∙◌, subst, arith, rules, inl, inr}
use Rattle.std.specs.List.{AllByRecursion}
use Rattle.syn_rows.specs.declared.Row.{Row}
use Rattle.syn_rows.specs.declared.Row.TheVariants as row
use Rattle.syn_rows.specs.declared.Lit.{Lit}
use Rattle.syn_rows.specs.Rows.{AllRefs, node_of, refs_of}
use Rattle.syn_rows.specs.Rows.{is_derived}
use Rattle.std.proofs.lemmas.Bool.{or_cases}
use Rattle.syn_rows.specs.Nodes.{has_node}
use Rattle.syn_rows.proofs.Nodes.{node_same, same_node}
use Rattle.syn_core_laws.specs.SameValue.{both, known_value, turned_by, value_by, value_of_row}
use Rattle.syn_core_laws.specs.declared.Seen.{Seen}
use Rattle.syn_core_laws.specs.declared.Seen.TheVariants as seen
use Rattle.syn_decide.specs.declared.decisions.NodeRow.{NodeRow}
use Rattle.syn_decide.specs.declared.decisions.Want.{Want}
use Rattle.syn_decide.specs.declared.decisions.Want.TheVariants as want
use Rattle.syn_decide.specs.Tasks.{Task}
use Rattle.syn_decide.specs.Decided.{Decided, Answered, Next, Unfit, Reach, Wide, Differs}
use Rattle.syn_decide.specs.declared.decisions.TheConstants.{MAX_INNER}
use Rattle.syn_decide.specs.Walk.{enters, from_entered, nodes_of, row_among}
use Rattle.syn_decide.specs.Functions.{has_none, in_circle, is_same_function, leaf_value, now_table, used_leaves, variables, was_table}
use Rattle.syn_decide.specs.Fold.{State, Stage, Walking, Keying, Hinting, Counting, Ended, Failed, after_reads, after_walk, answered, at, begin, decided, failed, first_unmet, read_at, read_one, row_loaded, uncounted, walk_on, wanted_at, wanted_count, wanted_key, wants, with_inner}
use Rattle.syn_decide.specs.Walked.{AreGates, IsKnown, IsWalked, RanksRise, RefersToKnown}
use Rattle.syn_decide.proofs.Folding.{after_snoc}
use Rattle.syn_decide.proofs.Walking.{always_walked, gate_more, node_row}

le_from : (a b : ℕ) → nat_le a b ≡ true → a ≤ b
le_from a b h = search rules

le_true : (a b : ℕ) → a ≤ b → nat_le a b ≡ true
le_true a b h = search rules

le_false : (a b : ℕ) → b < a → nat_le a b ≡ false
le_false a b h = search rules

-- how many of the rows have a rank of at most x
count_upto : (ℕ → ℕ) → ℕ → List NodeRow → ℕ
count_upto rank x [] = 0
count_upto rank x (r ∷ rows) = (if nat_le (rank r.node) x then 1 else 0) + count_upto rank x rows

upto_all : (rank : ℕ → ℕ) (x : ℕ) (rows : List NodeRow) → count_upto rank x rows ≤ length rows
unfolding count_upto
upto_all rank x [] = omega arith
upto_all rank x (r ∷ rows) = let rest = upto_all rank x rows in go (nat_le (rank r.node) x) rest
  where
    go : (b : Bool) → count_upto rank x rows ≤ length rows → (if b then 1 else 0) + count_upto rank x rows ≤ length (r ∷ rows)
    go true l = omega arith
    go false l = omega arith

step_grow : (a y x : ℕ) (c d : ℕ) → y ≤ x → c ≤ d → (if nat_le a y then 1 else 0) + c ≤ (if nat_le a x then 1 else 0) + d
step_grow a y x c d h l = go (nat_le a y) (nat_le a x) (λ e. le_true a x (let low = le_from a y e in omega (arith, low, h)))
  where
    go : (p q : Bool) → (p ≡ true → q ≡ true) → (if p then 1 else 0) + c ≤ (if q then 1 else 0) + d
    go true true f = omega arith
    go true false f = let e : false ≡ true = f refl in absurd (cc)
    go false true f = omega arith
    go false false f = omega arith

upto_grow : (rank : ℕ → ℕ) (y x : ℕ) (rows : List NodeRow) → y ≤ x → count_upto rank y rows ≤ count_upto rank x rows
unfolding count_upto
upto_grow rank y x [] h = omega arith
upto_grow rank y x (r ∷ rows) h = step_grow (rank r.node) y x (count_upto rank y rows) (count_upto rank x rows) h (upto_grow rank y x rows h)

-- a row of a greater rank is counted more
upto_less : (rank : ℕ → ℕ) (y n : ℕ) (rows : List NodeRow) → has_node (nodes_of rows) n ≡ true → y < rank n → count_upto rank y rows + 1 ≤ count_upto rank (rank n) rows
unfolding count_upto
upto_less rank y n [] h l = absurd (cc)
upto_less rank y n (r ∷ rows) h l =
    elim (or_cases (r.node == n) (has_node (nodes_of rows) n) h) [
      | inl e ↦ (
          let same : r.node ≡ n = same_node r.node n e in
          let ranks : rank r.node ≡ rank n = ap rank same in
          first (nat_le (rank r.node) y) (nat_le (rank r.node) (rank n)) (le_false (rank r.node) y (omega (arith, ranks, l))) (le_true (rank r.node) (rank n) (omega (arith, ranks))) (upto_grow rank y (rank n) rows (omega (arith, l)))
          )
      | inr k ↦ (let rest = upto_less rank y n rows k l in let more = step_grow (rank r.node) y (rank n) (count_upto rank y rows + 1) (count_upto rank (rank n) rows) (omega (arith, l)) rest in omega (arith, more))
    ]
  where
    first : (p q : Bool) → p ≡ false → q ≡ true → count_upto rank y rows ≤ count_upto rank (rank n) rows → ((if p then 1 else 0) + count_upto rank y rows) + 1 ≤ (if q then 1 else 0) + count_upto rank (rank n) rows
    first true q e f g = absurd (cc)
    first false true e f g = omega arith
    first false false e f g = absurd (cc)

-- a row that is there is counted
upto_some : (rank : ℕ → ℕ) (n : ℕ) (rows : List NodeRow) → has_node (nodes_of rows) n ≡ true → count_upto rank (rank n) rows ≤ 0 → ⊥
unfolding count_upto
upto_some rank n [] h l = absurd (cc)
upto_some rank n (r ∷ rows) h l =
    elim (or_cases (r.node == n) (has_node (nodes_of rows) n) h) [
      | inl e ↦ (let ranks : rank r.node ≡ rank n = ap rank (same_node r.node n e) in first (nat_le (rank r.node) (rank n)) (le_true (rank r.node) (rank n) (omega (arith, ranks))) l)
      | inr k ↦ upto_some rank n rows k (omega (arith, l))
    ]
  where
    first : (q : Bool) → q ≡ true → (if q then 1 else 0) + count_upto rank (rank n) rows ≤ 0 → ⊥
    first true e l = absurd (omega arith)
    first false e l = absurd (cc)

-- the row of a node that is there, with what holds of each row
record IsThere (P : NodeRow → Type 0) (rows : List NodeRow) (n : ℕ) : Type 0 where
  entry : NodeRow
  node_is : entry.node ≡ n
  row_is : row_among rows n ≡ Some entry.row
  holds : P entry

there : (P : NodeRow → Type 0) (rows : List NodeRow) (n : ℕ) → has_node (nodes_of rows) n ≡ true → AllByRecursion P rows → IsThere P rows n
there P [] n h a = absurd (cc)
there P (r ∷ rows) n h a = go (r.node == n) refl h (λ k. there P rows n k a.1)
  where
    go : (b : Bool) → (r.node == n) ≡ b → (b || has_node (nodes_of rows) n) ≡ true → (has_node (nodes_of rows) n ≡ true → IsThere P rows n) → IsThere P (r ∷ rows) n
    go true e k next = record { entry = r; node_is = same_node r.node n e; row_is = ap (λ b. if b then Some r.row else row_among rows n) e; holds = a.0 }
    go false e k next =
        let rest = next k in
        record { entry = rest.entry; node_is = rest.node_is; row_is = ap (λ b. if b then Some r.row else row_among rows n) e ∙ rest.row_is; holds = rest.holds }

both_valued : (x y : Option Bool) → has_none x ≡ false → has_none y ≡ false → has_none (both x y) ≡ false
both_valued None y h k = absurd (cc)
both_valued (Some a) None h k = absurd (cc)
both_valued (Some a) (Some b) h k = refl

turned_valued : (l : Lit) (x : Option Bool) → has_none x ≡ false → has_none (turned_by l x) ≡ false
turned_valued l None h = absurd (cc)
turned_valued l (Some b) h = refl

row_valued : (V : ℕ → Option Bool) (r : Row) → is_derived r ≡ true → AllRefs (λ m. has_none (V m) ≡ false) r → has_none (value_of_row V r) ≡ false
row_valued V row.Free g h = absurd (cc)
row_valued V row.Source g h = absurd (cc)
row_valued V (row.And a b) g h = both_valued (turned_by a (V (node_of a))) (turned_by b (V (node_of b))) (turned_valued a (V (node_of a)) h.0) (turned_valued b (V (node_of b)) h.1)
row_valued V (row.Alias a) g h = turned_valued a (V (node_of a)) h

both_refs : (P Q R : ℕ → Type 0) (r : Row) → ((m : ℕ) → P m → Q m → R m) → AllRefs P r → AllRefs Q r → AllRefs R r
both_refs P Q R row.Free f p q = tt
both_refs P Q R row.Source f p q = tt
both_refs P Q R (row.And a b) f p q = (f (node_of a) p.0 q.0, f (node_of b) p.1 q.1)
both_refs P Q R (row.Alias a) f p q = f (node_of a) p q

all_both : (P Q : NodeRow → Type 0) (rows : List NodeRow) → AllByRecursion P rows → AllByRecursion Q rows → AllByRecursion (λ r. P r × Q r) rows
all_both P Q [] p q = tt
all_both P Q (r ∷ rows) p q = ((p.0, q.0), all_both P Q rows p.1 q.1)

-- a leaf and node 0 have a value after any number of rows
open_valued : (known : ℕ → Option Row) (leaves : List ℕ) (choice : ℕ → Bool) (k m : ℕ) → ((m ≡ 0) ⊎ (has_node leaves m ≡ true)) → has_none (value_by known leaves choice k m) ≡ false
open_valued known leaves choice k m h = by_steps k (has_node leaves m) (m == 0) refl refl (side h)
  where
    side : ((m ≡ 0) ⊎ (has_node leaves m ≡ true)) → (has_node leaves m ≡ true) ⊎ ((m == 0) ≡ true)
    side (inl e) = inr (ap (λ n. n == 0) e)
    side (inr e) = inl e

    top : (a b : Bool) (x : Bool) (rest : Option Bool) → (a ≡ true) ⊎ (b ≡ true) → has_none (if a then Some x else (if b then Some false else rest)) ≡ false
    top true b x rest h = refl
    top false true x rest h = refl
    top false false x rest (inl e) = absurd (cc)
    top false false x rest (inr e) = absurd (cc)

    by_steps : (k : ℕ) (a b : Bool) → has_node leaves m ≡ a → (m == 0) ≡ b → (has_node leaves m ≡ true) ⊎ ((m == 0) ≡ true) → has_none (value_by known leaves choice k m) ≡ false
    by_steps zero a b e f h = top (has_node leaves m) (m == 0) (choice m) None h
    by_steps (suc k) a b e f h = top (has_node leaves m) (m == 0) (choice m) (known_value (value_by known leaves choice k) (known m)) h

rest_valued : (a b x : Bool) (rest : Option Bool) → has_none rest ≡ false → has_none (if a then Some x else (if b then Some false else rest)) ≡ false
rest_valued true b x rest h = refl
rest_valued false true x rest h = refl
rest_valued false false x rest h = h

-- what is asked of the inner rows
record Fine (t : Task) (inner : List NodeRow) (rank : ℕ → ℕ) : Type 0 where
  closed : RefersToKnown t inner []
  gates : AreGates inner
  rise : RanksRise rank inner

valued : (t : Task) (inner : List NodeRow) (rank : ℕ → ℕ) (choice : ℕ → Bool) → Fine t inner rank → (k n : ℕ) → has_node (nodes_of inner) n ≡ true → count_upto rank (rank n) inner ≤ k
    → has_none (value_by (row_among inner) t.proposal.leaves choice k n) ≡ false
valued t inner rank choice f zero n h l = absurd (upto_some rank n inner h l)
valued t inner rank choice f (suc k) n h l = rest_valued (has_node t.proposal.leaves n) (n == 0) (choice n) _ (go (there _ inner n h (all_both _ _ inner f.closed (all_both _ _ inner f.gates f.rise))) (valued t inner rank choice f k))
  where
    go : IsThere (λ r. AllRefs (IsKnown t inner []) r.row × ((is_derived r.row ≡ true) × AllRefs (λ m. rank m < rank r.node) r.row)) inner n
        → ((m : ℕ) → has_node (nodes_of inner) m ≡ true → count_upto rank (rank m) inner ≤ k → has_none (value_by (row_among inner) t.proposal.leaves choice k m) ≡ false)
        → has_none (known_value (value_by (row_among inner) t.proposal.leaves choice k) (row_among inner n)) ≡ false
    go at next =
        ap (λ o. has_none (known_value (value_by (row_among inner) t.proposal.leaves choice k) o)) at.row_is
        ∙ row_valued (value_by (row_among inner) t.proposal.leaves choice k) at.entry.row at.holds.1.0
        (both_refs (IsKnown t inner []) (λ m. rank m < rank at.entry.node) (λ m. has_none (value_by (row_among inner) t.proposal.leaves choice k m) ≡ false) at.entry.row each at.holds.0 at.holds.1.1)
      where
        each : (m : ℕ) → IsKnown t inner [] m → rank m < rank at.entry.node → has_none (value_by (row_among inner) t.proposal.leaves choice k m) ≡ false
        each m (inl o) r = open_valued (row_among inner) t.proposal.leaves choice k m o
        each m (inr (inl o)) r =
            let ranks : rank at.entry.node ≡ rank n = ap rank at.node_is in
            let fewer = upto_less rank (rank m) n inner h (omega (arith, ranks, r)) in
            next m o (omega (arith, fewer, l))
        each m (inr (inr o)) r = absurd (cc)

pub no_circle : (t : Task) (inner : List NodeRow) (rank : ℕ → ℕ) → RefersToKnown t inner [] → AreGates inner → RanksRise rank inner → has_node (nodes_of inner) t.proposal.root ≡ true → in_circle t inner ≡ false
no_circle t inner rank c g r h =
    valued t inner rank (leaf_value t.proposal.leaves (replicate (variables t) false)) (record { closed = c; gates = g; rise = r }) (length inner) t.proposal.root h (upto_all rank (rank t.proposal.root) inner)

-- the walk is at the node whose row comes next
row_next : (s : State) (stage : Stage) (n : ℕ) → wanted_at s stage ≡ Next (want.Row n) → (waiting : List ℕ) × (stage ≡ Walking (n ∷ waiting))
row_next s (Walking []) n e = absurd (cc)
row_next s (Walking (m ∷ waiting)) n e = (waiting, ap (λ k. Walking (k ∷ waiting)) (ap node_in e))
  where
    node_of_want : Want → ℕ
    node_of_want (want.Row k) = k
    node_of_want (want.Key k) = k
    node_of_want (want.Count k) = k

    node_in : Decided → ℕ
    node_in (Answered answer) = 0
    node_in (Next w) = node_of_want w
    node_in Unfit = 0
row_next s (Keying []) n e = absurd (cc)
row_next s (Keying (m ∷ left)) n e = absurd (cc)
row_next s (Hinting last) n e = absurd (no_row (uncounted s) n e)
  where
    no_row : (left : List NodeRow) (n : ℕ) → wanted_count left ≡ Next (want.Row n) → ⊥
    no_row [] n e = absurd (cc)
    no_row (r ∷ left) n e = absurd (cc)
row_next s Counting n e = absurd (no_row (uncounted s) n e)
  where
    no_row : (left : List NodeRow) (n : ℕ) → wanted_count left ≡ Next (want.Row n) → ⊥
    no_row [] n e = absurd (cc)
    no_row (r ∷ left) n e = absurd (cc)
row_next s (Ended answer) n e = absurd (cc)
row_next s Failed n e = absurd (cc)

key_wanted : (used : List ℕ) (root : ℕ) → wanted_key (used ++ root ∷ []) ≡ Unfit → ⊥
key_wanted [] root e = absurd (cc)
key_wanted (n ∷ used) root e = absurd (cc)

-- after the walk only a circle fits nothing
over_fits : (t : Task) (s : State) (inner : List NodeRow) → in_circle t inner ≡ false → (o : Option ℕ) → wanted_at s (after_walk t inner o) ≡ Unfit → ⊥
over_fits t s inner h (Some leaf) e = absurd (cc)
over_fits t s inner h None e = go (in_circle t inner) (is_same_function t inner) h e
  where
    go : (b c : Bool) → b ≡ false → wanted_at s (if b then Failed else (if c then Keying (used_leaves t ++ t.proposal.root ∷ []) else Ended (Differs (was_table t) (now_table t inner)))) ≡ Unfit → ⊥
    go true c h e = absurd (cc)
    go false true h e = key_wanted (used_leaves t) t.proposal.root e
    go false false h e = absurd (cc)

on_fits : (t : Task) (s : State) (inner : List NodeRow) (waiting : List ℕ) → (waiting ≡ [] → in_circle t inner ≡ false) → wanted_at s (walk_on t inner waiting) ≡ Unfit → ⊥
on_fits t s inner [] h e = over_fits t s inner (h refl) (first_unmet t inner) e
on_fits t s inner (n ∷ waiting) h e = go (nat_lt (length inner) MAX_INNER) e
  where
    go : (b : Bool) → wanted_at s (if b then Walking (n ∷ waiting) else Ended (Wide n)) ≡ Unfit → ⊥
    go true e = absurd (cc)
    go false e = absurd (cc)

-- the row that is asked for fits
loaded_fits : (t : Task) (s : State) (n : ℕ) (r : Row) (waiting : List ℕ) (rank : ℕ → ℕ) → IsWalked t s.inner (Walking (n ∷ waiting)) → RanksRise rank (s.inner ++ node_row n r ∷ []) → wants (row_loaded t s n r waiting) ≡ Unfit → ⊥
loaded_fits t s n r waiting rank w rise e = go (is_derived r) refl e
  where
    go : (b : Bool) → is_derived r ≡ b → wants (if b then at (with_inner s n r) (walk_on t (with_inner s n r).inner (from_entered t.proposal.leaves (with_inner s n r).inner (refs_of r ++ waiting))) else answered s (Reach n)) ≡ Unfit → ⊥
    go true g e =
        let more = gate_more t s.inner n r waiting w g in
        on_fits t (at (with_inner s n r) (walk_on t (with_inner s n r).inner (from_entered t.proposal.leaves (with_inner s n r).inner (refs_of r ++ waiting)))) (s.inner ++ node_row n r ∷ [])
        (from_entered t.proposal.leaves (s.inner ++ node_row n r ∷ []) (refs_of r ++ waiting))
        (λ none. no_circle t (s.inner ++ node_row n r ∷ []) rank (subst (λ l. RefersToKnown t (s.inner ++ node_row n r ∷ []) l) none more.1) more.3 rise more.2) e
    go false g e = absurd (cc)

pub rows_always_fit : (t : Task) (reads : List Seen) (rank : ℕ → ℕ) (n : ℕ) (r : Row) → enters t.proposal.leaves [] t.proposal.root ≡ true → decided t reads ≡ Next (want.Row n)
    → RanksRise rank ((after_reads t (begin t) reads).inner ++ node_row n r ∷ []) → decided t (reads ++ seen.Row n r ∷ []) ≡ Unfit → ⊥
rows_always_fit t reads rank n r root_in next rise e =
    let s : State = after_reads t (begin t) reads in
    let at_node : (waiting : List ℕ) × (s.stage ≡ Walking (n ∷ waiting)) = row_next s s.stage n next in
    let step : read_one t s (seen.Row n r) ≡ row_loaded t s n r at_node.0 =
    ap (λ stage. read_at t s stage (seen.Row n r)) at_node.1 ∙ ap (λ b. if b then row_loaded t s n r at_node.0 else failed s) (node_same n) in
    loaded_fits t s n r at_node.0 rank (subst (λ stage. IsWalked t s.inner stage) at_node.1 (always_walked t reads root_in)) rise
    (sym (ap wants (after_snoc t (begin t) reads (seen.Row n r) ∙ step)) ∙ e)
