-- The literals that a plan's indexes become have the plan's values, gate by gate.
use Rattle.std.proofs.Common.{◌≡◌, ◌≢◌, ◌⊎◌, ℕ, suc, ◌+◌, ◌*◌, ◌/◌, ◌%◌, ◌<◌, ◌≤◌, ◌==◌, ◌&&◌, not, Bool, true, false, if◌then◌else◌, IfSome, List, [], ◌∷◌, ◌++◌, length, get_or, Option, Some, None, refl, sym, ap, ap₂, ◌∙◌, subst, arith, inl, inr}
use Rattle.std.specs.List.{AllByRecursion}
use Rattle.std.proofs.lemmas.Bool.{cases_eq, cases_lt}
use Rattle.std.proofs.lemmas.List.{append-nil, append_assoc, length-append, length_push, get_or_append_left, get_or_push, get_or_past}
use Rattle.syn_rows.specs.declared.Lit.{Lit}
use Rattle.syn_rows.specs.declared.Row.{Row}
use Rattle.syn_rows.specs.declared.Row.TheVariants.{Free}
use Rattle.syn_rows.specs.Rows.{node_of, row_at}
use Rattle.syn_rows.specs.Values.{lit_value}
use Rattle.syn_rows.specs.Joining.{constant, lit_of, complement, simple_and, same_pair, ordered_and}
use Rattle.syn_rows.proofs.JoinLaws.{and_turned, complement_node, complement_value, opposite_value, pair_cases, plain_value, same_lit, simple_by}
use Rattle.syn_plan.specs.declared.PLit.{PLit}
use Rattle.syn_plan.specs.Gates.{index_of, literal_value, values_after}
use Rattle.syn_gain.specs.Placing.{Met, Placed, found, literal_for, literal_met, or_else, place_gate, place_gates, place_pair, with_gate}
use Rattle.syn_commit_laws.proofs.Valued.{LitHas}

same_and : (a b : Bool) → a ≡ b → a ≡ (a && b)
same_and true b e = e
same_and false b e = refl

opposite_and : (a b : Bool) → b ≡ not a → false ≡ (a && b)
opposite_and true b e = sym e
opposite_and false b e = refl

-- a pair that was met has the value of its AND
abbrev pub MetHas : (ℕ → Bool → Type 0) → Met → Type 0
MetHas H m = (a : Bool) × (b : Bool) × LitHas H m.first a × LitHas H m.second b × LitHas H m.literal (a && b)

-- ---- where each node has one value at most, and node 0 is false
module _ (H : ℕ → Bool → Type 0) (one : (n : ℕ) (a b : Bool) → H n a → H n b → a ≡ b) (zero_is : H 0 false) where
  lit_one : (l : Lit) (a b : Bool) → LitHas H l a → LitHas H l b → a ≡ b
  lit_one l a b v w = sym v.2 ∙ ap (λ c. lit_value (λ _. c) l) (one (node_of l) v.0 w.0 v.1 w.1) ∙ w.2

  lit_constant : LitHas H constant false
  lit_constant = (false, zero_is, refl)

  lit_true : LitHas H (record { 0 = 1 }) true
  lit_true = (false, zero_is, refl)

  pub lit_plain : (n : ℕ) (b : Bool) → H n b → LitHas H (lit_of n) b
  lit_plain n b h = (b, subst (λ (m : ℕ). H m b) (let half : n ≡ (2 * n) / 2 = omega arith in half) h, plain_value (λ _. b) n)

  lit_complement : (l : Lit) (b : Bool) → LitHas H l b → LitHas H (complement l) (not b)
  lit_complement l b v = (v.0, subst (λ (m : ℕ). H m v.0) (sym (complement_node l)) v.1, complement_value (λ _. v.0) l ∙ ap not v.2)

  simple_is : (x y : Lit) (a b : Bool) → LitHas H x a → LitHas H y b → IfSome (simple_and x y) (λ l. LitHas H l (a && b))
  simple_is x y a b v w =
      simple_by (λ o. IfSome o (λ l. LitHas H l (a && b))) x y
      (λ e. to x a (same_and a b (lit_one x a b v (subst (λ (l : Lit). LitHas H l b) (sym (same_lit x y e)) w))) v)
      (λ ne e. to constant false (opposite_and a b (opposite ne e)) lit_constant)
      (λ z. to constant false (zeros z) lit_constant)
      (λ e. to y b (sym (ap (λ c. c && b) (lit_one (record { 0 = 1 }) a true (subst (λ (l : Lit). LitHas H l a) (same_lit x (record { 0 = 1 }) e) v) lit_true))) w)
      (λ e. to x a (sym (ap (λ c. a && c) (lit_one (record { 0 = 1 }) b true (subst (λ (l : Lit). LitHas H l b) (same_lit y (record { 0 = 1 }) e) w) lit_true) ∙ and_turned a true)) v)
      (λ _ _ _. tt)
    where
      to : (l : Lit) (c : Bool) → c ≡ (a && b) → LitHas H l c → LitHas H l (a && b)
      to l c e h = subst (LitHas H l) e h

      opposite : x.0 ≢ y.0 → node_of x ≡ node_of y → b ≡ not a
      opposite ne e =
          let same : v.0 ≡ w.0 = one (node_of y) v.0 w.0 (subst (λ (m : ℕ). H m v.0) e v.1) w.1 in
          sym w.2 ∙ opposite_value (λ _. w.0) x y ne e ∙ ap (λ c. not (lit_value (λ _. c) x)) (sym same) ∙ ap not v.2

      zeros : (x.0 ≡ 0) ⊎ (y.0 ≡ 0) → false ≡ (a && b)
      zeros (inl e) = sym (ap (λ c. c && b) (lit_one constant a false (subst (λ (l : Lit). LitHas H l a) (same_lit x constant e) v) lit_constant))
      zeros (inr e) = sym (ap (λ c. a && c) (lit_one constant b false (subst (λ (l : Lit). LitHas H l b) (same_lit y constant e) w) lit_constant) ∙ and_turned a false)

  met_is : (ms : List Met) (x y : Lit) (a b : Bool) → AllByRecursion (MetHas H) ms → LitHas H x a → LitHas H y b → IfSome (literal_met ms x y) (λ l. LitHas H l (a && b))
  met_is [] x y a b h v w = tt
  met_is (m ∷ ms) x y a b h v w = go (same_pair x y m.first m.second) refl (met_is ms x y a b h.1 v w)
    where
      go : (c : Bool) → same_pair x y m.first m.second ≡ c → IfSome (literal_met ms x y) (λ l. LitHas H l (a && b)) → IfSome (if c then Some m.literal else literal_met ms x y) (λ l. LitHas H l (a && b))
      go true e next = elim (pair_cases x y m.first m.second e) [
        | inl s ↦
            let p : a ≡ h.0.0 = lit_one m.first a h.0.0 (subst (λ (l : Lit). LitHas H l a) s.0 v) h.0.2 in
            let q : b ≡ h.0.1 = lit_one m.second b h.0.1 (subst (λ (l : Lit). LitHas H l b) s.1 w) h.0.3 in
            subst (LitHas H m.literal) (sym (ap₂ (λ c d. c && d) p q)) h.0.4
        | inr s ↦
            let p : a ≡ h.0.1 = lit_one m.second a h.0.1 (subst (λ (l : Lit). LitHas H l a) s.0 v) h.0.3 in
            let q : b ≡ h.0.0 = lit_one m.first b h.0.0 (subst (λ (l : Lit). LitHas H l b) s.1 w) h.0.2 in
            subst (LitHas H m.literal) (sym (ap₂ (λ c d. c && d) p q ∙ and_turned h.0.1 h.0.0)) h.0.4
      ]
      go false e next = next

  pick_is : (literals : List Lit) (values : List Bool) (l : PLit) → LitHas H (get_or literals (index_of l) constant) (get_or values (index_of l) false) → LitHas H (literal_for literals l) (literal_value values l)
  pick_is literals values l v = go (l.0 % 2 == 0)
    where
      go : (b : Bool) → LitHas H (if b then get_or literals (index_of l) constant else complement (get_or literals (index_of l) constant)) (if b then get_or values (index_of l) false else not (get_or values (index_of l) false))
      go true = v
      go false = lit_complement (get_or literals (index_of l) constant) (get_or values (index_of l) false) v

first_there : (P : Lit → Type 0) (o p q : Option Lit) → IfSome o P → IfSome p P → IfSome q P → IfSome (or_else o (or_else p q)) P
first_there P (Some l) p q f g h = f
first_there P None (Some l) q f g h = g
first_there P None None q f g h = h

-- ---- new rows are only added
pair_starts : (first : ℕ) (s : Placed) (x y : Lit) (o : Option Lit) (rest : List Row) → (more : List Row) × ((place_pair first s x y o).extra ++ rest ≡ s.extra ++ more)
pair_starts first s x y (Some l) rest = (rest, refl)
pair_starts first s x y None rest = (ordered_and x y ∷ rest, append_assoc s.extra (ordered_and x y ∷ []) rest)

starts : (look : Lit → Lit → Option Lit) (first : ℕ) (gates : List (PLit × PLit)) (s : Placed) → (rest : List Row) × ((place_gates look first s gates).extra ≡ s.extra ++ rest)
starts look first [] s = ([], sym (append-nil s.extra))
starts look first (gate ∷ gates) s =
    let next = starts look first gates (place_gate look first s gate) in
    let here = pair_starts first s (literal_for s.literals gate.0) (literal_for s.literals gate.1) (found look s.met (literal_for s.literals gate.0) (literal_for s.literals gate.1)) next.0 in
    (here.0, next.1 ∙ here.1)

-- each needed index became a literal of its value, and so did each pair
pub record AreRight (H : ℕ → ℕ → Bool → Type 0) (needed : ℕ → Bool) (s : Placed) (values : List Bool) : Type 0 where
  pub count : length s.literals ≡ length values
  pub each : (i : ℕ) → needed i ≡ true → LitHas (H (length s.extra)) (get_or s.literals i constant) (get_or values i false)
  pub met : AllByRecursion (MetHas (H (length s.extra))) s.met

-- ---- gate by gate: H m tells the values of nodes while there are m new rows
module _ (H : ℕ → ℕ → Bool → Type 0) (one : (m n : ℕ) (a b : Bool) → H m n a → H m n b → a ≡ b) (zero_is : (m : ℕ) → H m 0 false)
    (more : (m k n : ℕ) (b : Bool) → m ≤ k → H m n b → H k n b)
    (first : ℕ) (look : Lit → Lit → Option Lit) (extra : List Row) (needed : ℕ → Bool)
    (look_is : (m : ℕ) (x y : Lit) (a b : Bool) → LitHas (H m) x a → LitHas (H m) y b → IfSome (look x y) (λ l. LitHas (H m) l (a && b)))
    (new_is : (m : ℕ) (x y : Lit) (a b : Bool) → m < length extra → row_at extra m ≡ ordered_and x y → LitHas (H m) x a → LitHas (H m) y b → H (suc m) (first + m) (a && b)) where
  lit_more : (m k : ℕ) (l : Lit) (b : Bool) → m ≤ k → LitHas (H m) l b → LitHas (H k) l b
  lit_more m k l b le v = (v.0, more m k (node_of l) v.0 le v.1, v.2)

  met_more : (m k : ℕ) (ms : List Met) → m ≤ k → AllByRecursion (MetHas (H m)) ms → AllByRecursion (MetHas (H k)) ms
  met_more m k [] le h = tt
  met_more m k (p ∷ ms) le h =
      ((h.0.0, h.0.1, lit_more m k p.first h.0.0 le h.0.2, lit_more m k p.second h.0.1 le h.0.3, lit_more m k p.literal (h.0.0 && h.0.1) le h.0.4), met_more m k ms le h.1)

  with_value : (s : Placed) (values : List Bool) (x y l : Lit) (a b : Bool) (rows : List Row) → length s.extra ≤ length rows → AreRight H needed s values → LitHas (H (length s.extra)) x a → LitHas (H (length s.extra)) y b
      → LitHas (H (length rows)) l (a && b) → AreRight H needed (with_gate s x y l rows) (values ++ (a && b) ∷ [])
  with_value s values x y l a b rows le g v w h = record {
    count = omega (arith, g.count, length_push s.literals l, length_push values (a && b));
    each = λ i need. elim (cases_lt i (length s.literals)) [
      | inl lt ↦
          subst (λ (k : Lit). LitHas (H (length rows)) k (get_or (values ++ (a && b) ∷ []) i false)) (sym (get_or_append_left s.literals (l ∷ []) constant i lt))
          (subst (LitHas (H (length rows)) (get_or s.literals i constant)) (sym (get_or_append_left values ((a && b) ∷ []) false i (omega (arith, g.count))))
          (lit_more (length s.extra) (length rows) (get_or s.literals i constant) (get_or values i false) le (g.each i need)))
      | inr ge ↦ elim (cases_eq i (length s.literals)) [
        | inl e ↦
            subst (λ (k : Lit). LitHas (H (length rows)) k (get_or (values ++ (a && b) ∷ []) i false)) (sym (get_or_push s.literals l constant i (sym e)))
            (subst (LitHas (H (length rows)) l) (sym (get_or_push values (a && b) false i (sym (e ∙ g.count)))) h)
        | inr ne ↦
            subst (λ (k : Lit). LitHas (H (length rows)) k (get_or (values ++ (a && b) ∷ []) i false)) (sym (get_or_past (s.literals ++ l ∷ []) i constant (omega (arith, length_push s.literals l))))
            (subst (LitHas (H (length rows)) constant) (sym (get_or_past (values ++ (a && b) ∷ []) i false (omega (arith, g.count, length_push values (a && b))))) (lit_constant (H (length rows)) (one (length rows)) (zero_is (length rows))))
      ]
    ];
    met = ((a, b, lit_more (length s.extra) (length rows) x a le v, lit_more (length s.extra) (length rows) y b le w, h), met_more (length s.extra) (length rows) s.met le g.met);
  }

  new_there : (rows : List Row) (row : Row) (rest : List Row) → extra ≡ (rows ++ row ∷ []) ++ rest → (length rows < length extra) × (row_at extra (length rows) ≡ row)
  new_there rows row rest e =
      let long : length rows < length (rows ++ row ∷ []) = omega (arith, length_push rows row) in (
        omega (arith, ap length e, length-append (rows ++ row ∷ []) rest, length_push rows row),
        ap (λ rs. get_or rs (length rows) Free) e ∙ get_or_append_left (rows ++ row ∷ []) rest Free (length rows) long ∙ get_or_push rows row Free (length rows) refl,
      )

  pair_right : (s : Placed) (values : List Bool) (x y : Lit) (a b : Bool) (o : Option Lit) (rest : List Row) → AreRight H needed s values → LitHas (H (length s.extra)) x a → LitHas (H (length s.extra)) y b
      → IfSome o (λ l. LitHas (H (length s.extra)) l (a && b)) → extra ≡ (place_pair first s x y o).extra ++ rest → AreRight H needed (place_pair first s x y o) (values ++ (a && b) ∷ [])
  pair_right s values x y a b (Some l) rest g v w h e = with_value s values x y l a b s.extra (omega arith) g v w h
  pair_right s values x y a b None rest g v w h e =
      let there = new_there s.extra (ordered_and x y) rest e in
      let longer : suc (length s.extra) ≡ length (s.extra ++ ordered_and x y ∷ []) = omega (arith, length_push s.extra (ordered_and x y)) in
      let k : ℕ = length (s.extra ++ ordered_and x y ∷ []) in
      with_value s values x y (lit_of (first + length s.extra)) a b (s.extra ++ ordered_and x y ∷ []) (omega (arith, longer)) g v w
      (lit_plain (H k) (one k) (zero_is k) (first + length s.extra) (a && b) (subst (λ (j : ℕ). H j (first + length s.extra) (a && b)) longer (new_is (length s.extra) x y a b there.0 there.1 v w)))

  -- all gates
  pub gates_right : (gates : List (PLit × PLit)) (s : Placed) (values : List Bool) → AreRight H needed s values → AllByRecursion (λ gate. (needed (index_of gate.0) ≡ true) × (needed (index_of gate.1) ≡ true)) gates
      → extra ≡ (place_gates look first s gates).extra → AreRight H needed (place_gates look first s gates) (values_after values gates)
  gates_right [] s values g n e = g
  gates_right (gate ∷ gates) s values g n e =
      gates_right gates (place_gate look first s gate) (values ++ (literal_value values gate.0 && literal_value values gate.1) ∷ [])
      (pair_right s values x y a b (found look s.met x y) rest.0 g v w
      (first_there (λ l. LitHas (H m) l (a && b)) (simple_and x y) (literal_met s.met x y) (look x y)
      (simple_is (H m) (one m) (zero_is m) x y a b v w)
      (met_is (H m) (one m) (zero_is m) s.met x y a b g.met v w)
      (look_is m x y a b v w))
      (e ∙ rest.1))
      n.1 e
    where
      m : ℕ
      m = length s.extra

      x : Lit
      x = literal_for s.literals gate.0

      y : Lit
      y = literal_for s.literals gate.1

      a : Bool
      a = literal_value values gate.0

      b : Bool
      b = literal_value values gate.1

      v : LitHas (H m) x a
      v = pick_is (H m) (one m) (zero_is m) s.literals values gate.0 (g.each (index_of gate.0) n.0.0)

      w : LitHas (H m) y b
      w = pick_is (H m) (one m) (zero_is m) s.literals values gate.1 (g.each (index_of gate.1) n.0.1)

      rest : (more : List Row) × ((place_gates look first (place_gate look first s gate) gates).extra ≡ (place_gate look first s gate).extra ++ more)
      rest = starts look first gates (place_gate look first s gate)

  -- and a literal of the plan after them
  pub output_right : (s : Placed) (values : List Bool) (l : PLit) → AreRight H needed s values → needed (index_of l) ≡ true → LitHas (H (length s.extra)) (literal_for s.literals l) (literal_value values l)
  output_right s values l g n = pick_is (H (length s.extra)) (one (length s.extra)) (zero_is (length s.extra)) s.literals values l (g.each (index_of l) n)
