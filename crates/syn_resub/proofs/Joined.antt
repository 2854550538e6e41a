-- What a form's plan becomes: the gates of divisors' cones become the literals of their rows, and only the last gate may make a row.
use Rattle.std.proofs.Common.{◌≡◌, ℕ, zero, suc, ◌+◌, ◌*◌, ◌/◌, ◌%◌, ◌<◌, nat_eq, nat_lt, if◌then◌else◌, Bool, true, false, List, [], ◌∷◌, ◌++◌, append_assoc, length, length-append, get_or, map, refl, sym, ap, ap₂, ◌∙◌, subst, inl, inr, arith}
use Rattle.std.proofs.lemmas.Bool.{both_ways, cases_Bool, cases_eq, cases_lt, cond-false, cond-true, eq-eqb, lt-ltb, ne_eqb, or_cases}
use Rattle.std.proofs.lemmas.List.{append-nil, get_or-append-add, get_or_append_left, get_or_push, length-map, length_push, map-append}
use Rattle.syn_rows.specs.declared.Lit.{Lit}
use Rattle.syn_rows.specs.declared.Row.{Row}
use Rattle.syn_rows.specs.declared.Row.TheVariants.{And}
use Rattle.syn_rows.specs.Joining.{complement, constant, lit_of, ordered_and}
use Rattle.syn_rows.specs.Nodes.{has_node}
use Rattle.syn_rows.specs.Rows.{InOrder, node_of, row_at}
use Rattle.syn_rows.proofs.JoinLaws.{NeedRow, needs_none, same_lit}
use Rattle.syn_rows.proofs.Nodes.{has_here, has_one, has_right, has_there}
use Rattle.syn_hashed.specs.Joined.{PairsOnce, or_else}
use Rattle.syn_hashed.proofs.Looking.{found_below}
use Rattle.syn_plan.specs.declared.PLit.{PLit}
use Rattle.syn_gain.specs.Placing.{each_below, leaf_literals, literal_for}
use Rattle.syn_gain.specs.Replacements.{new_root_by, new_rows_by}
use Rattle.syn_gain.specs.Searching.{PlacedPair, Searched, literal_new, or_new, placed_pair, search_gate, search_gates, searched, state}
use Rattle.syn_gain.proofs.Searches.{searched_is_placed}
use Rattle.syn_growing.specs.Plans.{over}
use Rattle.syn_resub.specs.declared.forms.Form.{Form}
use Rattle.syn_resub.specs.declared.forms.Form.TheVariants.{Constant, One, Both}
use Rattle.syn_resub.specs.Laws.{AreDivisors}
use Rattle.syn_resub.specs.Needed.{AreInner, IsMadeOf, is_there}
use Rattle.syn_resub.specs.Placing.{placed_form, placed_root, signed_lit}
use Rattle.syn_resub.specs.Resubstitution.{gate_of, gates_of, index_in, lit_in, needed_below, place_of, plan_for, sign_bit}
use Rattle.syn_resub.proofs.Gated.{there_before}
use Rattle.syn_resub.proofs.Needing.{both_listed, fan_ins_below, needed_are_below, needed_are_inner, needed_are_there}
use Rattle.syn_resub.proofs.Places.{at_place, place-append, place_within}

-- literals

each_long : {A : Type 0} (n : ℕ) (f : ℕ → A) → length (each_below n f) ≡ n
each_long zero f = refl
each_long (suc n) f = length_push (each_below n f) (f n) ∙ (let long = each_long n f in omega (arith, long))

each_at : {A : Type 0} (n : ℕ) (f : ℕ → A) (i : ℕ) (d : A) → i < n → get_or (each_below n f) i d ≡ f i
each_at zero f i d lt = absurd (omega (arith, lt))
each_at (suc n) f i d lt = elim (cases_lt i n) [
  | inl less ↦ get_or_append_left (each_below n f) (f n ∷ []) d i (let long = each_long n f in omega (arith, long, less)) ∙ each_at n f i d less
  | inr ge ↦ let same : i ≡ n = omega (arith, lt, ge) in get_or_push (each_below n f) (f n) d i (let long = each_long n f in omega (arith, long, same)) ∙ ap f (sym same)
]

-- a literal is its node's, under its sign
under_sign : (l : Lit) → (if nat_eq (l.0 % 2) 0 then lit_of (node_of l) else complement (lit_of (node_of l))) ≡ l
under_sign l = elim (cases_eq (l.0 % 2) 0) [
  | inl even ↦ cond-true (nat_eq (l.0 % 2) 0) (lit_of (node_of l)) (complement (lit_of (node_of l))) (eq-eqb (l.0 % 2) 0 even) ∙ same_lit (lit_of (node_of l)) l (omega (arith, even))
  | inr odd ↦
      let n = node_of l in
      let plain : (2 * n) % 2 ≡ 0 = omega arith in
      let up : (complement (lit_of n)).0 ≡ 2 * n + 1 = cond-true (nat_eq ((2 * n) % 2) 0) (2 * n + 1) _ (eq-eqb ((2 * n) % 2) 0 plain) in
      cond-false (nat_eq (l.0 % 2) 0) (lit_of n) (complement (lit_of n)) (ne_eqb (l.0 % 2) 0 odd) ∙ same_lit (complement (lit_of n)) l (omega (arith, up, odd))
]

-- the literals of an index under a sign
signed_at : (literals : List Lit) (i : ℕ) (l : Lit) (sign : Bool) → get_or literals i constant ≡ l → literal_for literals (record { 0 = 2 * i + sign_bit sign }) ≡ signed_lit sign l
signed_at literals i l sign at = by sign
  where
    by : (s : Bool) → literal_for literals (record { 0 = 2 * i + sign_bit s }) ≡ signed_lit s l
    by true =
        let parity : (2 * i + 1) % 2 ≡ 1 = omega arith in
        let half : (2 * i + 1) / 2 ≡ i = omega arith in
        ap₂ (λ r k. if nat_eq r 0 then get_or literals k constant else complement (get_or literals k constant)) parity half ∙ ap complement at
    by false =
        let parity : (2 * i + 0) % 2 ≡ 0 = omega arith in
        let half : (2 * i + 0) / 2 ≡ i = omega arith in
        ap₂ (λ r k. if nat_eq r 0 then get_or literals k constant else complement (get_or literals k constant)) parity half ∙ at

-- one gate behind others
gates-push : (rows : List Row) (root : ℕ) (s : Searched) (gates : List (PLit × PLit)) (gate : PLit × PLit) → search_gates rows root s (gates ++ gate ∷ []) ≡ search_gate rows root (search_gates rows root s gates) gate
gates-push rows root s [] gate = refl
gates-push rows root s (g ∷ gs) gate = gates-push rows root (search_gate rows root s g) gs gate

module _ (rows : List Row) (leaves : List ℕ) (root : ℕ) (order : InOrder rows) (pairs : PairsOnce rows) (needs : (n : ℕ) (a b : Lit) → row_at rows n ≡ And a b → NeedRow a b) where
  -- the literals of the constant, the leaves and inner nodes
  abbrev lits : List ℕ → List Lit
  lits inner = constant ∷ (leaf_literals (length leaves) leaves ++ map lit_of inner)

  long_leaves : length (leaf_literals (length leaves) leaves) ≡ length leaves
  long_leaves = each_long (length leaves) (λ i. lit_of (get_or leaves i 0))

  at_index : (inner more : List ℕ) (n : ℕ) → is_there leaves inner n ≡ true → get_or (lits inner) (index_in leaves (inner ++ more) n) constant ≡ lit_of n
  at_index inner more n there = elim (cases_Bool (has_node leaves n)) [
    | inl leaf ↦
        ap (λ i. get_or (lits inner) i constant) (cond-true (has_node leaves n) (1 + place_of n leaves) (1 + length leaves + place_of n (inner ++ more)) leaf ∙ (let e : 1 + place_of n leaves ≡ suc (place_of n leaves) = omega arith in e))
        ∙ get_or_append_left (leaf_literals (length leaves) leaves) (map lit_of inner) constant (place_of n leaves) (let lt = place_within n leaves leaf in omega (arith, lt, long_leaves))
        ∙ each_at (length leaves) (λ i. lit_of (get_or leaves i 0)) (place_of n leaves) constant (place_within n leaves leaf)
        ∙ ap lit_of (at_place n leaves leaf)
    | inr never ↦
        let here : has_node inner n ≡ true = elim (or_cases (has_node leaves n) (has_node inner n) there) [ inl leaf ↦ absurd (both_ways (has_node leaves n) never leaf) | inr t ↦ t ] in
        ap (λ i. get_or (lits inner) i constant)
        (cond-false (has_node leaves n) (1 + place_of n leaves) (1 + length leaves + place_of n (inner ++ more)) never
        ∙ (let same = place-append n inner more here in let e : 1 + length leaves + place_of n (inner ++ more) ≡ suc (length (leaf_literals (length leaves) leaves) + place_of n inner) = omega (arith, same, long_leaves) in e))
        ∙ get_or-append-add (leaf_literals (length leaves) leaves) (map lit_of inner) (place_of n inner) constant
        ∙ get_map inner (place_of n inner) (place_within n inner here)
        ∙ ap lit_of (at_place n inner here)
  ]
    where
      get_map : (ns : List ℕ) (i : ℕ) → i < length ns → get_or (map lit_of ns) i constant ≡ lit_of (get_or ns i 0)
      get_map [] i lt = absurd (omega (arith, lt))
      get_map (m ∷ ms) zero lt = refl
      get_map (m ∷ ms) (suc i) lt = get_map ms i (omega (arith, lt))

  literal_is : (inner more : List ℕ) (l : Lit) → is_there leaves inner (node_of l) ≡ true → literal_for (lits inner) (lit_in leaves (inner ++ more) l) ≡ l
  literal_is inner more l there =
      let index = index_in leaves (inner ++ more) (node_of l) in
      let parity : (2 * index + l.0 % 2) % 2 ≡ l.0 % 2 = omega arith in
      let half : (2 * index + l.0 % 2) / 2 ≡ index = omega arith in
      ap₂ (λ r i. if nat_eq r 0 then get_or (lits inner) i constant else complement (get_or (lits inner) i constant)) parity half
      ∙ ap (λ (t : Lit). if nat_eq (l.0 % 2) 0 then t else complement t) (at_index inner more (node_of l) there)
      ∙ under_sign l

  -- the pair of a row below the root becomes the row's literal
  pair_is : (n : ℕ) (a b : Lit) → row_at rows n ≡ And a b → n < root → placed_pair rows root [] a b ≡ record { literal = lit_of n; extra = [] }
  pair_is n a b is less =
      let ordered : row_at rows n ≡ ordered_and a b = is ∙ sym (cond-true (nat_lt a.0 b.0) (And a b) (And b a) (lt-ltb a.0 b.0 (pairs.ordered n a b is))) in
      ap₂ (λ s t. or_new (length rows) [] a b (or_else s (or_else t (literal_new (length rows) [] 0 a b)))) (needs_none a b (needs n a b is)) (sym (found_below rows pairs root a b n ordered less (lit_of n) refl))

  -- the gates so far become the literals of their nodes
  gates_from : (before after : List ℕ) → AreInner rows leaves (before ++ after) → ((m : ℕ) → has_node (before ++ after) m ≡ true → m < root)
      → search_gates rows root (state (lits before) []) (map (λ n. gate_of leaves (before ++ after) (row_at rows n)) after) ≡ state (lits (before ++ after)) []
  gates_from before [] are within = ap (λ ns. state (lits ns) []) (sym (append-nil before))
  gates_from before (n ∷ after) are within =
      let (a, b, is, first, second) = are.join n here in
      let small = fan_ins_below rows n a b order is in
      let before_a = there_before rows leaves before n after are (node_of a) first small.0 in
      let before_b = there_before rows leaves before n after are (node_of b) second small.1 in
      let gate_is : gate_of leaves (before ++ n ∷ after) (row_at rows n) ≡ (lit_in leaves (before ++ n ∷ after) a, lit_in leaves (before ++ n ∷ after) b) = ap (gate_of leaves (before ++ n ∷ after)) is in
      let placed : placed_pair rows root [] (literal_for (lits before) (gate_of leaves (before ++ n ∷ after) (row_at rows n)).0) (literal_for (lits before) (gate_of leaves (before ++ n ∷ after) (row_at rows n)).1) ≡ record { literal = lit_of n; extra = [] } =
      ap (λ (g : PLit × PLit). placed_pair rows root [] (literal_for (lits before) g.0) (literal_for (lits before) g.1)) gate_is
      ∙ ap₂ (λ x y. placed_pair rows root [] x y) (literal_is before (n ∷ after) a before_a) (literal_is before (n ∷ after) b before_b)
      ∙ pair_is n a b is (within n here) in
      let longer : (before ++ n ∷ []) ++ after ≡ before ++ n ∷ after = append_assoc before (n ∷ []) after in
      ap (λ (p : PlacedPair). search_gates rows root (state (lits before ++ p.literal ∷ []) p.extra) (map (λ m. gate_of leaves (before ++ n ∷ after) (row_at rows m)) after)) placed
      ∙ ap (λ (l : List Lit). search_gates rows root (state (constant ∷ l) []) (map (λ m. gate_of leaves (before ++ n ∷ after) (row_at rows m)) after))
      (append_assoc (leaf_literals (length leaves) leaves) (map lit_of before) (lit_of n ∷ []) ∙ ap (λ l. leaf_literals (length leaves) leaves ++ l) (sym (map-append lit_of before (n ∷ []))))
      ∙ ap (λ l. search_gates rows root (state (lits (before ++ n ∷ [])) []) (map (λ m. gate_of leaves l (row_at rows m)) after)) (sym longer)
      ∙ gates_from (before ++ n ∷ []) after (subst (AreInner rows leaves) (sym longer) are) (λ m h. within m (ap (λ l. has_node l m) (sym longer) ∙ h))
      ∙ ap (λ ns. state (lits ns) []) longer
    where
      here : has_node (before ++ n ∷ after) n ≡ true
      here = has_right before (n ∷ after) n (has_here n after)

  gates_become : (inner : List ℕ) → AreInner rows leaves inner → ((m : ℕ) → has_node inner m ≡ true → m < root) → searched rows root (length leaves) leaves (gates_of rows leaves inner) ≡ state (lits inner) []
  gates_become inner are within = ap (λ (l : List Lit). search_gates rows root (state (constant ∷ l) []) (gates_of rows leaves inner)) (sym (append-nil (leaf_literals (length leaves) leaves))) ∙ gates_from [] inner are within

  plain : (inner : List ℕ) (l : Lit) → is_there leaves inner (node_of l) ≡ true → literal_for (lits inner) (lit_in leaves inner l) ≡ l
  plain inner l there = ap (λ i. literal_for (lits inner) (lit_in leaves i l)) (sym (append-nil inner)) ∙ literal_is inner [] l there

  module _ (ds : List ℕ) (are : AreDivisors rows leaves root ds) where
    -- what a form's plan becomes, found by searching
    form_searched : (form : Form) → IsMadeOf ds form
        → (literal_for (searched rows root (length leaves) leaves (plan_for rows leaves root form).gates).literals (plan_for rows leaves root form).out ≡ (placed_form rows root form).literal)
        × ((searched rows root (length leaves) leaves (plan_for rows leaves root form).gates).extra ≡ (placed_form rows root form).extra)
    form_searched (Constant true) made = (refl, refl)
    form_searched (Constant false) made = (refl, refl)
    form_searched (One l) made =
        let is = gates_become inner (needed_are_inner rows leaves root ds are order (node_of l ∷ []) listed) (needed_are_below rows leaves root ds are order (node_of l ∷ []) listed) in (
          ap (λ (s : Searched). literal_for s.literals (lit_in leaves inner l)) is ∙ plain inner l (needed_are_there rows leaves root ds are order (node_of l ∷ []) listed (node_of l) (has_here (node_of l) [])),
          ap (λ (s : Searched). s.extra) is,
        )
      where
        inner : List ℕ
        inner = needed_below rows leaves root (node_of l ∷ [])

        listed : (m : ℕ) → has_node (node_of l ∷ []) m ≡ true → has_node ds m ≡ true
        listed m h = subst (λ k. has_node ds k ≡ true) (has_one (node_of l) m h) made
    form_searched (Both l m sign) made =
        (ap (λ (s : Searched). literal_for s.literals out) is ∙ signed_at (lits inner ++ p.literal ∷ []) (1 + length leaves + length inner) p.literal sign last, ap (λ (s : Searched). s.extra) is)
      where
        roots : List ℕ
        roots = node_of l ∷ node_of m ∷ []

        inner : List ℕ
        inner = needed_below rows leaves root roots

        out : PLit
        out = record { 0 = 2 * (1 + length leaves + length inner) + sign_bit sign }

        p : PlacedPair
        p = placed_pair rows root [] l m

        listed : (k : ℕ) → has_node roots k ≡ true → has_node ds k ≡ true
        listed = both_listed ds (node_of l) (node_of m) l m refl refl made

        is_root : (k : ℕ) → has_node roots k ≡ true → is_there leaves inner k ≡ true
        is_root = needed_are_there rows leaves root ds are order roots listed

        is : searched rows root (length leaves) leaves (gates_of rows leaves inner ++ (lit_in leaves inner l, lit_in leaves inner m) ∷ []) ≡ state (lits inner ++ p.literal ∷ []) p.extra
        is =
            gates-push rows root (state (constant ∷ leaf_literals (length leaves) leaves) []) (gates_of rows leaves inner) (lit_in leaves inner l, lit_in leaves inner m)
            ∙ ap (λ (s : Searched). search_gate rows root s (lit_in leaves inner l, lit_in leaves inner m)) (gates_become inner (needed_are_inner rows leaves root ds are order roots listed) (needed_are_below rows leaves root ds are order roots listed))
            ∙ ap₂ (λ x y. state (lits inner ++ (placed_pair rows root [] x y).literal ∷ []) (placed_pair rows root [] x y).extra)
            (plain inner l (is_root (node_of l) (has_here (node_of l) (node_of m ∷ []))))
            (plain inner m (is_root (node_of m) (has_there (node_of l) (node_of m) (node_of m ∷ []) (has_here (node_of m) []))))

        last : get_or (lits inner ++ p.literal ∷ []) (1 + length leaves + length inner) constant ≡ p.literal
        last = get_or_push (lits inner) p.literal constant (1 + length leaves + length inner) (let sum = length-append (leaf_literals (length leaves) leaves) (map lit_of inner) in let len = length-map inner lit_of in omega (arith, sum, len, long_leaves))

    pub rows_are : (form : Form) → IsMadeOf ds form → (placed_form rows root form).extra ≡ new_rows_by rows (over root leaves (plan_for rows leaves root form))
    rows_are form made = sym (form_searched form made).1 ∙ (searched_is_placed rows root (length leaves) leaves (plan_for rows leaves root form).gates).1

    pub root_is : (form : Form) → IsMadeOf ds form → placed_root rows (placed_form rows root form) ≡ new_root_by rows (over root leaves (plan_for rows leaves root form))
    root_is form made =
        let placed = searched_is_placed rows root (length leaves) leaves (plan_for rows leaves root form).gates in
        ap₂ (λ (x : List Row) (l : Lit). placed_root rows (record { literal = l; extra = x })) (rows_are form made)
        (sym (form_searched form made).0 ∙ ap (λ (ls : List Lit). literal_for ls (plan_for rows leaves root form).out) placed.0)
