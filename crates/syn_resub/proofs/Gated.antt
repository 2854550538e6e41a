-- The values of a form's plan.
use Rattle.std.proofs.Common.{◌≡◌, ℕ, zero, suc, ◌+◌, ◌*◌, ◌/◌, ◌%◌, ◌<◌, ◌≤◌, ◌==◌, ◌&&◌, nat_eq, nat_lt, not, if◌then◌else◌, Bool, true, false, List, [], ◌∷◌, ◌++◌, append_assoc, length, length-append, get_or, map, refl, sym, ap, ap₂, ◌∙◌, subst, inl, inr, arith}
use Rattle.std.specs.List.{list_all}
use Rattle.std.proofs.lemmas.Bool.{and_parts, both_ways, cases_Bool, cond-false, cond-true, ltb-true, or_cases, or_left, or_right}
use Rattle.std.proofs.lemmas.List.{append-nil, get_or-append-add, get_or_append_left, get_or_push, length-map, map-append}
use Rattle.syn_rows.specs.declared.Lit.{Lit}
use Rattle.syn_rows.specs.declared.Row.{Row}
use Rattle.syn_rows.specs.Nodes.{has_node}
use Rattle.syn_rows.specs.Rows.{InOrder, node_of, row_at}
use Rattle.syn_rows.specs.Values.{value_in}
use Rattle.syn_rows.proofs.Nodes.{has_cases, has_here, has_one, has_right, has_there, same_node}
use Rattle.syn_growing.proofs.Sorted.{all_in}
use Rattle.syn_plan.specs.declared.PLit.{PLit}
use Rattle.syn_plan.specs.Gates.{literal_value, values_after}
use Rattle.syn_cones.specs.Values.{value_over, values_over}
use Rattle.syn_cones.specs.Walk.{rises}
use Rattle.syn_resub.specs.declared.forms.Form.{Form}
use Rattle.syn_resub.specs.declared.forms.Form.TheVariants.{Constant, One, Both}
use Rattle.syn_resub.specs.Divided.{lit_over}
use Rattle.syn_resub.specs.Forms.{form_value, signed}
use Rattle.syn_resub.specs.Laws.{AreDivisors}
use Rattle.syn_resub.specs.Needed.{AreInner, IsMadeOf, is_there}
use Rattle.syn_resub.specs.Resubstitution.{gate_of, gates_of, index_in, lit_in, needed_below, place_of, plan_for, sign_bit}
use Rattle.syn_resub.proofs.Needing.{fan_ins_below, needed_are_below, needed_are_inner, needed_are_there}
use Rattle.syn_resub.proofs.Places.{at_place, before_at, place-append, place_within}
use Rattle.syn_resub.proofs.Valued.{value_of_and, value_of_leaf}

-- indexes

-- a node below an inner one has a smaller index than its gate
pub index_before : (leaves inner : List ℕ) (n j : ℕ) → rises inner ≡ true → is_there leaves inner n ≡ true → n < get_or inner j 0 → index_in leaves inner n < 1 + length leaves + j
index_before leaves inner n j rise there less = elim (cases_Bool (has_node leaves n)) [
  | inl leaf ↦ let is = cond-true (has_node leaves n) (1 + place_of n leaves) (1 + length leaves + place_of n inner) leaf in let lt = place_within n leaves leaf in omega (arith, is, lt)
  | inr never ↦
      let is = cond-false (has_node leaves n) (1 + place_of n leaves) (1 + length leaves + place_of n inner) never in
      let here = in_inner never in
      let lt = before_at inner (place_of n inner) j rise (place_within n inner here) (let at = at_place n inner here in omega (arith, at, less)) in
      omega (arith, is, lt)
]
  where
    in_inner : has_node leaves n ≡ false → has_node inner n ≡ true
    in_inner never = elim (or_cases (has_node leaves n) (has_node inner n) there) [ inl leaf ↦ absurd (both_ways (has_node leaves n) never leaf) | inr t ↦ t ]

-- a node below an inner one is a leaf or stands before it
pub there_before : (rows : List Row) (leaves before : List ℕ) (n : ℕ) (after : List ℕ) → AreInner rows leaves (before ++ n ∷ after) → (m : ℕ) → is_there leaves (before ++ n ∷ after) m ≡ true → m < n → is_there leaves before m ≡ true
there_before rows leaves before n after are m h less = elim (or_cases (has_node leaves m) (has_node (before ++ n ∷ after) m) h) [
  | inl leaf ↦ or_left (has_node leaves m) (has_node before m) leaf
  | inr inside ↦ or_right (has_node leaves m) (has_node before m) (elim (has_cases before (n ∷ after) m inside) [
    | inl old ↦ old
    | inr new ↦ absurd (let le = first_after before n after m are.rise new in omega (arith, le, less))
  ])
]
  where
    first_after : (ms : List ℕ) (n : ℕ) (ns : List ℕ) (m : ℕ) → rises (ms ++ n ∷ ns) ≡ true → has_node (n ∷ ns) m ≡ true → n ≤ m
    first_after [] n ns m rise h = elim (or_cases (nat_eq n m) (has_node ns m) h) [
      | inl e ↦ let same = same_node n m e in omega (arith, same)
      | inr t ↦ let lt = ltb-true n m (all_in (nat_lt n) ns m (and_parts (list_all (nat_lt n) ns) (rises ns) rise).0 t) in omega (arith, lt)
    ]
    first_after (k ∷ ks) n ns m rise h = first_after ks n ns m (and_parts (list_all (nat_lt k) (ks ++ n ∷ ns)) (rises (ks ++ n ∷ ns)) rise).1 h

-- values

module _ (rows : List Row) (leaves : List ℕ) (xs : List Bool) (order : InOrder rows) (long : length xs ≡ length leaves) where
  abbrev v : ℕ → Bool
  v n = value_over rows leaves n xs

  abbrev values : List ℕ → List Bool
  values inner = false ∷ (xs ++ map v inner)

  -- the value at a node's index
  at_index : (inner more : List ℕ) (n : ℕ) → is_there leaves inner n ≡ true → ((m : ℕ) → has_node leaves m ≡ true → m < length rows) → get_or (values inner) (index_in leaves (inner ++ more) n) false ≡ v n
  at_index inner more n there low = elim (cases_Bool (has_node leaves n)) [
    | inl leaf ↦
        ap (λ i. get_or (values inner) i false) (cond-true (has_node leaves n) (1 + place_of n leaves) (1 + length leaves + place_of n (inner ++ more)) leaf ∙ (let e : 1 + place_of n leaves ≡ suc (place_of n leaves) = omega arith in e))
        ∙ get_or_append_left xs (map v inner) false (place_of n leaves) (let lt = place_within n leaves leaf in omega (arith, lt, long))
        ∙ sym (value_of_leaf rows leaves n xs order (low n leaf) leaf long)
    | inr never ↦
        let here : has_node inner n ≡ true = elim (or_cases (has_node leaves n) (has_node inner n) there) [ inl leaf ↦ absurd (both_ways (has_node leaves n) never leaf) | inr t ↦ t ] in
        ap (λ i. get_or (values inner) i false)
        (cond-false (has_node leaves n) (1 + place_of n leaves) (1 + length leaves + place_of n (inner ++ more)) never
        ∙ (let same = place-append n inner more here in let e : 1 + length leaves + place_of n (inner ++ more) ≡ suc (length xs + place_of n inner) = omega (arith, same, long) in e))
        ∙ get_or-append-add xs (map v inner) (place_of n inner) false
        ∙ get_map inner (place_of n inner) (place_within n inner here)
        ∙ ap v (at_place n inner here)
  ]
    where
      get_map : (ns : List ℕ) (i : ℕ) → i < length ns → get_or (map v ns) i false ≡ v (get_or ns i 0)
      get_map [] i lt = absurd (omega (arith, lt))
      get_map (m ∷ ms) zero lt = refl
      get_map (m ∷ ms) (suc i) lt = get_map ms i (omega (arith, lt))

  -- the value of a literal
  pub literal_is : (inner more : List ℕ) (l : Lit) → is_there leaves inner (node_of l) ≡ true → ((m : ℕ) → has_node leaves m ≡ true → m < length rows) → literal_value (values inner) (lit_in leaves (inner ++ more) l) ≡ lit_over rows leaves l xs
  literal_is inner more l there low =
      let index = index_in leaves (inner ++ more) (node_of l) in
      let parity : (2 * index + l.0 % 2) % 2 ≡ l.0 % 2 = omega arith in
      let half : (2 * index + l.0 % 2) / 2 ≡ index = omega arith in
      ap₂ (λ r i. if nat_eq r 0 then get_or (values inner) i false else not (get_or (values inner) i false)) parity half
      ∙ ap (λ x. if l.0 % 2 == 0 then x else not x) (at_index inner more (node_of l) there low)

  -- the gates so far have the values of their nodes
  gates_from : (before after : List ℕ) → AreInner rows leaves (before ++ after) → ((m : ℕ) → has_node (before ++ after) m ≡ true → m < length rows) → ((m : ℕ) → has_node leaves m ≡ true → m < length rows)
      → values_after (values before) (map (λ n. gate_of leaves (before ++ after) (row_at rows n)) after) ≡ values (before ++ after)
  gates_from before [] are within low = ap values (sym (append-nil before))
  gates_from before (n ∷ after) are within low =
      let (a, b, is, first, second) = are.join n here in
      let small = fan_ins_below rows n a b order is in
      let before_a = there_before rows leaves before n after are (node_of a) first small.0 in
      let before_b = there_before rows leaves before n after are (node_of b) second small.1 in
      let gate_is : gate_of leaves (before ++ n ∷ after) (row_at rows n) ≡ (lit_in leaves (before ++ n ∷ after) a, lit_in leaves (before ++ n ∷ after) b) = ap (gate_of leaves (before ++ n ∷ after)) is in
      let value : (literal_value (values before) (gate_of leaves (before ++ n ∷ after) (row_at rows n)).0 && literal_value (values before) (gate_of leaves (before ++ n ∷ after) (row_at rows n)).1) ≡ v n =
      ap (λ (g : PLit × PLit). literal_value (values before) g.0 && literal_value (values before) g.1) gate_is
      ∙ ap₂ (λ x y. x && y) (literal_is before (n ∷ after) a before_a low) (literal_is before (n ∷ after) b before_b low)
      ∙ sym (value_of_and rows leaves n a b xs order (within n here) (are.apart n here) is) in
      let longer : (before ++ n ∷ []) ++ after ≡ before ++ n ∷ after = append_assoc before (n ∷ []) after in
      ap (λ (x : Bool). values_after (values before ++ x ∷ []) (map (λ m. gate_of leaves (before ++ n ∷ after) (row_at rows m)) after)) value
      ∙ ap (λ (l : List Bool). values_after (false ∷ l) (map (λ m. gate_of leaves (before ++ n ∷ after) (row_at rows m)) after)) (append_assoc xs (map v before) (v n ∷ []) ∙ ap (λ l. xs ++ l) (sym (map-append v before (n ∷ []))))
      ∙ ap (λ l. values_after (values (before ++ n ∷ [])) (map (λ m. gate_of leaves l (row_at rows m)) after)) (sym longer)
      ∙ gates_from (before ++ n ∷ []) after (subst (AreInner rows leaves) (sym longer) are) (λ m h. within m (ap (λ l. has_node l m) (sym longer) ∙ h)) low
      ∙ ap values longer
    where
      here : has_node (before ++ n ∷ after) n ≡ true
      here = has_right before (n ∷ after) n (has_here n after)

  pub gates_have : (inner : List ℕ) → AreInner rows leaves inner → ((m : ℕ) → has_node inner m ≡ true → m < length rows) → ((m : ℕ) → has_node leaves m ≡ true → m < length rows)
      → values_after (false ∷ xs) (gates_of rows leaves inner) ≡ values inner
  gates_have inner are within low = ap (λ (l : List Bool). values_after (false ∷ l) (gates_of rows leaves inner)) (sym (append-nil xs)) ∙ gates_from [] inner are within low

  -- the values after one gate more
  values-push : (vs : List Bool) (gates : List (PLit × PLit)) (gate : PLit × PLit)
      → values_after vs (gates ++ gate ∷ []) ≡ values_after vs gates ++ (literal_value (values_after vs gates) gate.0 && literal_value (values_after vs gates) gate.1) ∷ []
  values-push vs [] gate = refl
  values-push vs (g ∷ gs) gate = values-push (vs ++ (literal_value vs g.0 && literal_value vs g.1) ∷ []) gs gate

  module _ (node : ℕ) (ds : List ℕ) (are : AreDivisors rows leaves node ds) (there : node < length rows) (low : (m : ℕ) → has_node leaves m ≡ true → m < length rows) where
    plain : (inner : List ℕ) (l : Lit) → is_there leaves inner (node_of l) ≡ true → literal_value (values inner) (lit_in leaves inner l) ≡ lit_over rows leaves l xs
    plain inner l h = ap (λ i. literal_value (values inner) (lit_in leaves i l)) (sym (append-nil inner)) ∙ literal_is inner [] l h low

    -- a form's plan has the form's value
    pub plan_has : (form : Form) → IsMadeOf ds form → literal_value (values_after (false ∷ xs) (plan_for rows leaves node form).gates) (plan_for rows leaves node form).out ≡ form_value (value_in (values_over rows leaves xs)) form
    plan_has (Constant true) made = refl
    plan_has (Constant false) made = refl
    plan_has (One l) made =
        ap (λ vs. literal_value vs (lit_in leaves inner l)) (gates_have inner (needed_are_inner rows leaves node ds are order (node_of l ∷ []) listed) (λ m h. let lt = needed_are_below rows leaves node ds are order (node_of l ∷ []) listed m h in omega (arith, lt, there)) low)
        ∙ plain inner l (needed_are_there rows leaves node ds are order (node_of l ∷ []) listed (node_of l) (has_here (node_of l) []))
      where
        inner : List ℕ
        inner = needed_below rows leaves node (node_of l ∷ [])

        listed : (m : ℕ) → has_node (node_of l ∷ []) m ≡ true → has_node ds m ≡ true
        listed m h = subst (λ k. has_node ds k ≡ true) (has_one (node_of l) m h) made
    plan_has (Both l m sign) made =
        ap (λ vs. literal_value vs out) (values-push (false ∷ xs) (gates_of rows leaves inner) (lit_in leaves inner l, lit_in leaves inner m)
        ∙ ap (λ vs. vs ++ (literal_value vs (lit_in leaves inner l) && literal_value vs (lit_in leaves inner m)) ∷ []) (gates_have inner (needed_are_inner rows leaves node ds are order roots listed) (λ k h. let lt = needed_are_below rows leaves node ds are order roots listed k h in omega (arith, lt, there)) low)
        ∙ ap₂ (λ x y. values inner ++ (x && y) ∷ []) (plain inner l (is_root (node_of l) (has_here (node_of l) (node_of m ∷ [])))) (plain inner m (is_root (node_of m) (has_there (node_of l) (node_of m) (node_of m ∷ []) (has_here (node_of m) [])))))
        ∙ out_is sign
      where
        roots : List ℕ
        roots = node_of l ∷ node_of m ∷ []

        inner : List ℕ
        inner = needed_below rows leaves node roots

        out : PLit
        out = record { 0 = 2 * (1 + length leaves + length inner) + sign_bit sign }

        listed : (k : ℕ) → has_node roots k ≡ true → has_node ds k ≡ true
        listed k h = elim (or_cases (nat_eq (node_of l) k) (has_node (node_of m ∷ []) k) h) [
          | inl e ↦ subst (λ i. has_node ds i ≡ true) (same_node (node_of l) k e) made.0
          | inr t ↦ subst (λ i. has_node ds i ≡ true) (has_one (node_of m) k t) made.1
        ]

        is_root : (k : ℕ) → has_node roots k ≡ true → is_there leaves inner k ≡ true
        is_root k h = needed_are_there rows leaves node ds are order roots listed k h

        both : Bool
        both = lit_over rows leaves l xs && lit_over rows leaves m xs

        last : get_or (values inner ++ both ∷ []) (1 + length leaves + length inner) false ≡ both
        last = get_or_push (values inner) both false (1 + length leaves + length inner) (let sum = length-append xs (map v inner) in let len = length-map inner v in omega (arith, sum, len, long))

        out_is : (sign : Bool) → literal_value (values inner ++ both ∷ []) (record { 0 = 2 * (1 + length leaves + length inner) + sign_bit sign }) ≡ signed sign both
        out_is false =
            let parity : (2 * (1 + length leaves + length inner) + 0) % 2 ≡ 0 = omega arith in
            let half : (2 * (1 + length leaves + length inner) + 0) / 2 ≡ 1 + length leaves + length inner = omega arith in
            ap₂ (λ r i. if nat_eq r 0 then get_or (values inner ++ both ∷ []) i false else not (get_or (values inner ++ both ∷ []) i false)) parity half ∙ last
        out_is true =
            let parity : (2 * (1 + length leaves + length inner) + 1) % 2 ≡ 1 = omega arith in
            let half : (2 * (1 + length leaves + length inner) + 1) / 2 ≡ 1 + length leaves + length inner = omega arith in
            ap₂ (λ r i. if nat_eq r 0 then get_or (values inner ++ both ∷ []) i false else not (get_or (values inner ++ both ∷ []) i false)) parity half ∙ ap not last
