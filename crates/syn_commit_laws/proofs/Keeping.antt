-- The row that a commit gives its root keeps the root's value.
use Rattle.std.proofs.Common.{◌≡◌, ℕ, zero, suc, ◌+◌, ◌-◌, ◌<◌, ◌≤◌, ◌==◌, ◌&&◌, ◌||◌, not, nat_lt, Bool, true, false, if◌then◌else◌, List, [], ◌∷◌, ◌++◌, length, map, get_or, replicate, take, Some, refl, sym, ap, ap₂, ◌∙◌, subst, arith, rules, inl, inr, max}
use Rattle.std.specs.Bool.{beq}
use Rattle.std.specs.List.{AllByRecursion}
use Rattle.std.proofs.Math.Nat.{le-max_left, le-max_right}
use Rattle.std.proofs.lemmas.Bool.{and_parts, cases_lt, eq-eqb, ltb-true, ne_eqb, or_left, or_right}
use Rattle.std.proofs.lemmas.List.{get_or-append_right, get_or-map, get_or-take, get_or_append_left, get_or_past, get_or_push, length-append, length-map, length-replicate, length-take-le, length_push}
use Rattle.std.proofs.lemmas.List.Filters.{length-filter_both}
use Rattle.syn_rows.specs.declared.Lit.{Lit}
use Rattle.syn_rows.specs.declared.Row.{Row}
use Rattle.syn_rows.specs.Rows.{row_at}
use Rattle.syn_rows.specs.Joining.{constant, lit_of}
use Rattle.syn_rows.specs.Nodes.{has_node}
use Rattle.syn_rows.proofs.Nodes.{has_at, here_or_there}
use Rattle.syn_rows.proofs.Nodes.{has_none as lacks_all}
use Rattle.syn_truth.proofs.Each.{each_at, same_from_test}
use Rattle.syn_plan.specs.declared.PLit.{PLit}
use Rattle.syn_plan.specs.Gates.{index_of, values_after}
use Rattle.syn_plan.specs.Naming.{gates_name, names}
use Rattle.syn_gain.specs.Leaves.{are_below, rise_above}
use Rattle.syn_gain.specs.Placing.{begun, each_below, leaf_literals}
use Rattle.syn_gain.proofs.Bounds.{below_each}
use Rattle.syn_core_laws.specs.declared.View.{View}
use Rattle.syn_core_laws.specs.Views.{known_row}
use Rattle.syn_core_laws.specs.SameValue.{HasValue}
use Rattle.syn_decide.specs.declared.decisions.NodeRow.{NodeRow}
use Rattle.syn_decide.specs.Tasks.{Task}
use Rattle.syn_decide.specs.Walk.{is_met, row_among}
use Rattle.syn_decide.specs.Functions.{has_none, leaf_value, now_value, root_value, uses, variables, was_value}
use Rattle.syn_decide.specs.Hints.{first_new, is_last_new, literal_hit, new_root_row, out_literal, placed_by_hits, rows_needed}
use Rattle.syn_decide.specs.Fitting.{HitsAreInside, IsFitting, IsInside}
use Rattle.syn_commit_laws.specs.Redefining.{AreStored, IsInOrder, MetLeavesAreFew, RedefinesKeepValue, met_leaves, row_made}
use Rattle.syn_decide.proofs.Choices.{choice_free}
use Rattle.syn_commit_laws.proofs.Valued.{LitHas, chosen_value}
use Rattle.syn_commit_laws.proofs.Placed.{AreRight, gates_right, lit_plain, output_right}
use Rattle.syn_commit_laws.proofs.Chosen.{known_among, over_lacks, over_meets, root_moves, root_there, something, used_met}
use Rattle.syn_commit_laws.proofs.Stored.{Has, IsRow, hit_is, more, new_is, old_has, one, root_is, zero_is}

-- ---- lists
lacks_low : (low n : ℕ) (ns : List ℕ) → rise_above low ns ≡ true → n ≤ low → has_node ns n ≡ false
lacks_low low n [] h le = refl
lacks_low low n (m ∷ ns) h le =
    let parts = and_parts (nat_lt low m) (rise_above m ns) h in
    let above : low < m = ltb-true low m parts.0 in
    ap₂ (λ b c. b || c) (ne_eqb m n (λ e. omega (arith, le, above))) (lacks_low m n ns parts.1 (omega (arith, le, above)))

lacks_high : (high : ℕ) (ns : List ℕ) → are_below high ns ≡ true → has_node ns high ≡ false
lacks_high high ns h = lacks_all ns high (λ i lt e. let low = below_each high ns h i lt in omega (arith, low, e))

-- a leaf is below what all leaves are below
pub leaf_below : (high : ℕ) (leaves : List ℕ) (m : ℕ) → are_below high leaves ≡ true → has_node leaves m ≡ true → m < high
leaf_below high [] m b h = absurd (cc)
leaf_below high (n ∷ leaves) m b h =
    let parts = and_parts (nat_lt n high) (are_below high leaves) b in
    elim (here_or_there n m leaves h) [ inl same ↦ (let lt = ltb-true n high parts.0 in omega (arith, lt, same)) | inr there ↦ leaf_below high leaves m parts.1 there ]

pub length_each : {A : Type 0} (n : ℕ) (f : ℕ → A) → length (each_below n f) ≡ n
length_each zero f = refl
length_each (suc n) f = let rest = length_each n f in omega (arith, rest, length_push (each_below n f) (f n))

each_is : (n : ℕ) (f : ℕ → Lit) (i : ℕ) → i < n → get_or (each_below n f) i constant ≡ f i
each_is zero f i lt = absurd (omega arith)
each_is (suc n) f i lt = go (each_is n f i) (length_each n f)
  where
    go : (i < n → get_or (each_below n f) i constant ≡ f i) → length (each_below n f) ≡ n → get_or (each_below n f ++ f n ∷ []) i constant ≡ f i
    go next long = elim (cases_lt i n) [
      | inl less ↦ get_or_append_left (each_below n f) (f n ∷ []) constant i (omega (arith, less, long)) ∙ next less
      | inr ge ↦ let last : n ≡ i = omega (arith, lt, ge) in get_or_push (each_below n f) (f n) constant i (long ∙ last) ∙ ap f last
    ]

all_false : (n i : ℕ) → get_or (replicate n false) i false ≡ false
all_false zero i = refl
all_false (suc n) zero = refl
all_false (suc n) (suc i) = all_false n i

one_row : (a b : Row) → Some a ≡ Some b → a ≡ b
one_row a b e = cc

-- ---- which indexes of a plan its gates and its output name
abbrev needed : Task → ℕ → Bool
needed t zero = true
needed t (suc i) = not (nat_lt i t.proposal.count) || (gates_name i t.proposal.gates || names i t.proposal.out)

named_needed : (t : Task) (l : PLit) → ((i : ℕ) → names i l ≡ true → (gates_name i t.proposal.gates || names i t.proposal.out) ≡ true) → needed t (index_of l) ≡ true
named_needed t l f = go (index_of l) refl
  where
    go : (k : ℕ) → index_of l ≡ k → needed t k ≡ true
    go zero e = refl
    go (suc i) e = or_right (not (nat_lt i t.proposal.count)) (gates_name i t.proposal.gates || names i t.proposal.out) (f i (eq-eqb (index_of l) (1 + i) (omega (arith, e))))

gates_needed : (t : Task) (gates : List (PLit × PLit)) → ((i : ℕ) → gates_name i gates ≡ true → gates_name i t.proposal.gates ≡ true)
    → AllByRecursion (λ gate. (needed t (index_of gate.0) ≡ true) × (needed t (index_of gate.1) ≡ true)) gates
gates_needed t [] f = tt
gates_needed t (gate ∷ gates) f = (
  (
    named_needed t gate.0 (λ i h. or_left (gates_name i t.proposal.gates) (names i t.proposal.out) (f i (or_left (names i gate.0 || names i gate.1) (gates_name i gates) (or_left (names i gate.0) (names i gate.1) h)))),
    named_needed t gate.1 (λ i h. or_left (gates_name i t.proposal.gates) (names i t.proposal.out) (f i (or_left (names i gate.0 || names i gate.1) (gates_name i gates) (or_right (names i gate.0) (names i gate.1) h)))),
  ),
  gates_needed t gates (λ i h. f i (or_right (names i gate.0 || names i gate.1) (gates_name i gates) h)),
)

needed_used : (t : Task) (i : ℕ) → i < t.proposal.count → needed t (suc i) ≡ true → uses t i ≡ true
needed_used t i lt h = go (nat_lt i t.proposal.count) (search rules) h
  where
    go : (b : Bool) → b ≡ true → (not b || (gates_name i t.proposal.gates || names i t.proposal.out)) ≡ true → (b && (gates_name i t.proposal.gates || names i t.proposal.out)) ≡ true
    go true e h = h
    go false e h = absurd (cc)

module _ (t : Task) (inner hits : List NodeRow) (made : List ℕ) (v : View) (choice : ℕ → Bool) (order : IsInOrder t) (fit : IsFitting t inner) (stored : AreStored t inner hits made v) where
  abbrev ys : List Bool
  ys = replicate (variables t - length t.proposal.leaves) false

  -- the values of the variables: those of the leaves, and false for each further one
  abbrev xs : List Bool
  xs = map choice t.proposal.leaves ++ ys

  abbrev extra : List Row
  extra = (placed_by_hits t hits).extra

  abbrev HasNow : ℕ → ℕ → Bool → Type 0
  HasNow m n b = Has (known_row v) (met_leaves t inner) choice made extra m n b

  length_xs : length xs ≡ variables t
  length_xs =
      let most : length t.proposal.leaves ≤ max (length t.proposal.leaves) t.proposal.count = le-max_left (length t.proposal.leaves) t.proposal.count in
      omega (arith, most, length-append (map choice t.proposal.leaves) ys, length-map t.proposal.leaves choice, length-replicate (variables t - length t.proposal.leaves) false)

  out_over : (n : ℕ) → has_node t.proposal.leaves n ≡ false → has_node (met_leaves t inner) n ≡ false
  out_over n h = over_lacks t inner (known_row v) choice ys stored.inner_known n h

  constant_out : has_node (met_leaves t inner) 0 ≡ false
  constant_out = out_over 0 (lacks_low 0 0 t.proposal.leaves order.rising (omega arith))

  row_there : (n : ℕ) (r : Row) → IsInside t n → known_row v n ≡ Some r → IsRow (known_row v) (met_leaves t inner) n r
  row_there n r inside e = record { other = inside.other; out = out_over n inside.inside; row = e }

  hits_there : (rows : List NodeRow) → AllByRecursion (λ h. known_row v h.node ≡ Some h.row) rows → HitsAreInside t rows → AllByRecursion (λ h. IsRow (known_row v) (met_leaves t inner) h.node h.row × (h.node < first_new)) rows
  hits_there [] k i = tt
  hits_there (h ∷ rows) k i = ((row_there h.node h.row i.0.0 k.0, i.0.1), hits_there rows k.1 i.1)

  made_there : (i : ℕ) → i < rows_needed t (placed_by_hits t hits) → IsRow (known_row v) (met_leaves t inner) (get_or made i 0) (row_made made (row_at extra i))
  made_there i lt = record { other = (stored.made_out i lt).0; out = (stored.made_out i lt).1; row = stored.made_known i lt }

  few : length extra ≤ suc (rows_needed t (placed_by_hits t hits))
  few = go (is_last_new extra (out_literal t (placed_by_hits t hits)))
    where
      go : (b : Bool) → length extra ≤ suc (length extra - (if b then 1 else 0))
      go true = omega arith
      go false = omega arith

  -- a leaf that is used
  leaf_right : (m j : ℕ) → uses t j ≡ true → LitHas (HasNow m) (lit_of (get_or t.proposal.leaves j 0)) (get_or xs j false)
  leaf_right m j u = elim (cases_lt j (length t.proposal.leaves)) [
    | inl lt ↦
        let leaf : ℕ = get_or t.proposal.leaves j 0 in
        let below : leaf < t.proposal.root = below_each t.proposal.root t.proposal.leaves order.below j lt in
        let met : is_met inner leaf ≡ true = used_met t inner t.proposal.leaves 0 j j fit.met lt (omega arith) u in
        let chosen = chosen_value (known_row v) (met_leaves t inner) choice leaf (over_meets t inner (known_row v) choice ys stored.inner_known leaf (has_at t.proposal.leaves j leaf lt refl) met) in
        let value : get_or xs j false ≡ choice leaf =
        get_or_append_left (map choice t.proposal.leaves) ys false j (omega (arith, lt, length-map t.proposal.leaves choice)) ∙ get_or-map choice t.proposal.leaves j 0 false lt in
        subst (LitHas (HasNow m) (lit_of leaf)) (sym value)
        (lit_plain (HasNow m) (one (known_row v) (met_leaves t inner) choice made extra constant_out m) (zero_is (known_row v) (met_leaves t inner) choice made extra constant_out m) leaf (choice leaf)
        (old_has (known_row v) (met_leaves t inner) choice made extra constant_out m leaf (choice leaf) (omega (arith, below, order.there)) chosen))
    | inr ge ↦
        let leaf : get_or t.proposal.leaves j 0 ≡ 0 = get_or_past t.proposal.leaves j 0 ge in
        let value : get_or xs j false ≡ false =
        get_or-append_right (map choice t.proposal.leaves) ys (length t.proposal.leaves) j false (length-map t.proposal.leaves choice) ge ∙ all_false (variables t - length t.proposal.leaves) (j - length t.proposal.leaves) in
        subst (λ (n : ℕ). LitHas (HasNow m) (lit_of n) (get_or xs j false)) (sym leaf)
        (subst (LitHas (HasNow m) (lit_of 0)) (sym value) (false, zero_is (known_row v) (met_leaves t inner) choice made extra constant_out m, refl))
  ]

  begun_right : AreRight HasNow (needed t) (begun t.proposal.count t.proposal.leaves) (false ∷ take t.proposal.count xs)
  begun_right = record {
    count = let literals = length_each t.proposal.count (λ i. lit_of (get_or t.proposal.leaves i 0)) in omega (arith, literals, taken);
    each = each;
    met = tt;
  }
    where
      taken : length (take t.proposal.count xs) ≡ t.proposal.count
      taken =
          let most : t.proposal.count ≤ max (length t.proposal.leaves) t.proposal.count = le-max_right (length t.proposal.leaves) t.proposal.count in
          length-take-le t.proposal.count xs (omega (arith, most, length_xs))

      each : (i : ℕ) → needed t i ≡ true → LitHas (HasNow 0) (get_or (constant ∷ leaf_literals t.proposal.count t.proposal.leaves) i constant) (get_or (false ∷ take t.proposal.count xs) i false)
      each zero need = (false, zero_is (known_row v) (met_leaves t inner) choice made extra constant_out 0, refl)
      each (suc j) need = elim (cases_lt j t.proposal.count) [
        | inl lt ↦
            subst (λ (l : Lit). LitHas (HasNow 0) l (get_or (take t.proposal.count xs) j false)) (sym (each_is t.proposal.count (λ i. lit_of (get_or t.proposal.leaves i 0)) j lt))
            (subst (LitHas (HasNow 0) (lit_of (get_or t.proposal.leaves j 0))) (sym (get_or-take t.proposal.count xs j false lt)) (leaf_right 0 j (needed_used t j lt need)))
        | inr ge ↦
            let literals = length_each t.proposal.count (λ i. lit_of (get_or t.proposal.leaves i 0)) in
            subst (λ (l : Lit). LitHas (HasNow 0) l (get_or (take t.proposal.count xs) j false)) (sym (get_or_past (leaf_literals t.proposal.count t.proposal.leaves) j constant (omega (arith, literals, ge))))
            (subst (LitHas (HasNow 0) constant) (sym (get_or_past (take t.proposal.count xs) j false (omega (arith, taken, ge)))) (false, zero_is (known_row v) (met_leaves t inner) choice made extra constant_out 0, refl))
      ]

  -- the plan's output has the plan's value
  out_right : LitHas (HasNow (length extra)) (out_literal t (placed_by_hits t hits)) (was_value t xs)
  out_right =
      let look = hit_is (known_row v) (met_leaves t inner) choice made extra constant_out hits (hits_there hits stored.hits_known stored.hits_inside) in
      let place = new_is (known_row v) (met_leaves t inner) choice made extra constant_out (rows_needed t (placed_by_hits t hits)) made_there few in
      output_right HasNow (one (known_row v) (met_leaves t inner) choice made extra constant_out) (zero_is (known_row v) (met_leaves t inner) choice made extra constant_out)
      (more (known_row v) (met_leaves t inner) choice made extra constant_out) first_new (literal_hit hits) extra (needed t) look place (placed_by_hits t hits)
      (values_after (false ∷ take t.proposal.count xs) t.proposal.gates) t.proposal.out
      (gates_right HasNow (one (known_row v) (met_leaves t inner) choice made extra constant_out) (zero_is (known_row v) (met_leaves t inner) choice made extra constant_out)
      (more (known_row v) (met_leaves t inner) choice made extra constant_out) first_new (literal_hit hits) extra (needed t) look place t.proposal.gates (begun t.proposal.count t.proposal.leaves)
      (false ∷ take t.proposal.count xs) begun_right (gates_needed t t.proposal.gates (λ i h. h)) refl)
      (named_needed t t.proposal.out (λ i h. or_right (gates_name i t.proposal.gates) (names i t.proposal.out) h))

  -- the root has a value by the inner rows
  root_value_is : root_value t inner xs ≡ Some (now_value t inner xs)
  root_value_is =
      something (root_value t inner xs)
      (choice_free (row_among inner) t.proposal.leaves (leaf_value t.proposal.leaves xs) (leaf_value t.proposal.leaves (replicate (variables t) false)) (length inner) t.proposal.root ∙ fit.no_circle)

  no_leaf : has_node t.proposal.leaves t.proposal.root ≡ false
  no_leaf = lacks_high t.proposal.root t.proposal.leaves order.below

  old_right : (old : Row) → known_row v t.proposal.root ≡ Some old → HasValue (known_row v) (met_leaves t inner) choice old (now_value t inner xs)
  old_right old e =
      let other : (t.proposal.root == 0) ≡ false = ne_eqb t.proposal.root 0 order.positive in
      let row = root_there t inner (known_row v) choice ys stored.inner_known (length inner) t.proposal.root no_leaf other (ap has_none root_value_is) in
      subst (λ (r : Row). HasValue (known_row v) (met_leaves t inner) choice r (now_value t inner xs))
      (one_row row.0 old (sym (known_among (known_row v) inner t.proposal.root row.0 stored.inner_known row.1) ∙ e))
      (root_moves t inner (known_row v) choice ys stored.inner_known (length inner) t.proposal.root row.0 (now_value t inner xs) no_leaf other row.1 root_value_is)

  new_right : HasValue (known_row v) (met_leaves t inner) choice (row_made made (new_root_row t (placed_by_hits t hits))) (now_value t inner xs)
  new_right =
      let same : was_value t xs ≡ now_value t inner xs = same_from_test (was_value t xs) (now_value t inner xs) (each_at (variables t) (λ zs. beq (was_value t zs) (now_value t inner zs)) fit.same xs length_xs) in
      root_is (known_row v) (met_leaves t inner) choice made extra constant_out (rows_needed t (placed_by_hits t hits)) made_there (out_literal t (placed_by_hits t hits)) (now_value t inner xs) refl
      (subst (LitHas (HasNow (length extra)) (out_literal t (placed_by_hits t hits))) same out_right)

pub redefines_keep_value : RedefinesKeepValue
redefines_keep_value t inner hits made v old order fit stored e choice =
    (now_value t inner (xs t inner hits made v choice order fit stored), old_right t inner hits made v choice order fit stored old e, new_right t inner hits made v choice order fit stored)

pub met_leaves_are_few : MetLeavesAreFew
met_leaves_are_few t inner = let parts = length-filter_both (is_met inner) (λ n. not (is_met inner n)) (λ n. refl) t.proposal.leaves in omega (arith, parts)
