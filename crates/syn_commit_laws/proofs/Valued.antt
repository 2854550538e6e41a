-- Values of nodes, literals and rows by known rows, whatever the number of steps.
use Rattle.std.proofs.Common.{◌≡◌, ◌≢◌, ℕ, suc, ◌+◌, ◌≤◌, ◌==◌, ◌&&◌, ◌||◌, nat_lt, Bool, true, false, if◌then◌else◌, List, [], ◌∷◌, ◌++◌, map, Option, Some, None, refl, sym, ap, ap₂, ◌∙◌, subst, arith}
use Rattle.std.specs.List.{filter}
use Rattle.std.proofs.lemmas.Bool.{cond_both, ne_eqb}
use Rattle.syn_rows.specs.declared.Row.{Row}
use Rattle.syn_rows.specs.declared.Row.TheVariants.{And, Alias}
use Rattle.syn_rows.specs.declared.Lit.{Lit}
use Rattle.syn_rows.specs.Rows.{node_of}
use Rattle.syn_rows.specs.Values.{lit_value}
use Rattle.syn_rows.specs.Joining.{ordered_and}
use Rattle.syn_rows.specs.Nodes.{has_node}
use Rattle.syn_rows.proofs.JoinLaws.{and_turned}
use Rattle.syn_rows.proofs.Nodes.{same_node}
use Rattle.syn_core_laws.specs.SameValue.{HasValue, both, known_value, turned_by, value_by, value_of_row}
use Rattle.syn_decide.specs.Functions.{leaf_value}
use Rattle.syn_decide.proofs.Steps.{more_steps, of_each, row_moves}

-- the choice of a value for a node of a list
pub leaf_chosen : (choice : ℕ → Bool) (leaves : List ℕ) (ys : List Bool) (n : ℕ) → has_node leaves n ≡ true → leaf_value leaves (map choice leaves ++ ys) n ≡ choice n
leaf_chosen choice [] ys n h = absurd (cc)
leaf_chosen choice (leaf ∷ leaves) ys n h = go (leaf == n) refl h (leaf_chosen choice leaves ys n)
  where
    go : (b : Bool) → (leaf == n) ≡ b → (b || has_node leaves n) ≡ true → (has_node leaves n ≡ true → leaf_value leaves (map choice leaves ++ ys) n ≡ choice n)
        → (if b then choice leaf else leaf_value leaves (map choice leaves ++ ys) n) ≡ choice n
    go true e h next = ap choice (same_node leaf n e)
    go false e h next = next h

-- the nodes of a list that pass a test
pub has_filtered : (p : ℕ → Bool) (ns : List ℕ) (n : ℕ) → has_node (filter p ns) n ≡ (has_node ns n && p n)
has_filtered p [] n = refl
has_filtered p (m ∷ ns) n = go (p m) refl (m == n) refl (has_filtered p ns n)
  where
    go : (b : Bool) → p m ≡ b → (c : Bool) → (m == n) ≡ c → has_node (filter p ns) n ≡ (has_node ns n && p n) → has_node (if b then m ∷ filter p ns else filter p ns) n ≡ ((c || has_node ns n) && p n)
    go true e true f next = ap (λ d. d || has_node (filter p ns) n) f ∙ sym (ap p (sym (same_node m n f)) ∙ e)
    go true e false f next = ap (λ d. d || has_node (filter p ns) n) f ∙ next
    go false e true f next = next ∙ (ap (λ d. has_node ns n && d) off ∙ none (has_node ns n)) ∙ sym off
      where
        off : p n ≡ false
        off = ap p (sym (same_node m n f)) ∙ e

        none : (d : Bool) → (d && false) ≡ false
        none true = refl
        none false = refl
    go false e false f next = next

-- the literal has this value, where H tells which nodes have which
abbrev pub LitHas : (ℕ → Bool → Type 0) → Lit → Bool → Type 0
LitHas H l b = (c : Bool) × H (node_of l) c × (lit_value (λ _. c) l ≡ b)

module _ (known : ℕ → Option Row) (over : List ℕ) (choice : ℕ → Bool) where
  -- the node has this value
  abbrev pub Val : ℕ → Bool → Type 0
  Val n b = (k : ℕ) × (value_by known over choice k n ≡ Some b)

  abbrev pub LitVal : Lit → Bool → Type 0
  LitVal l b = LitHas Val l b

  pub one_value : (n : ℕ) (a b : Bool) → Val n a → Val n b → a ≡ b
  one_value n a b v w =
      let x : value_by known over choice (v.0 + w.0) n ≡ Some a = more_steps known over choice (v.0 + w.0) v.0 (omega arith) n a v.1 in
      let y : value_by known over choice (v.0 + w.0) n ≡ Some b = more_steps known over choice (v.0 + w.0) w.0 (omega arith) n b w.1 in
      cc

  more_row : (k m : ℕ) (r : Row) (b : Bool) → k ≤ m → value_of_row (value_by known over choice k) r ≡ Some b → value_of_row (value_by known over choice m) r ≡ Some b
  more_row k m r b le h =
      row_moves (value_by known over choice k) (value_by known over choice m) r b
      (of_each (λ n. (c : Bool) → value_by known over choice k n ≡ Some c → value_by known over choice m n ≡ Some c) r (λ n c. more_steps known over choice m k le n c)) h

  pub one_row_value : (r : Row) (a b : Bool) → HasValue known over choice r a → HasValue known over choice r b → a ≡ b
  one_row_value r a b v w =
      let x : value_of_row (value_by known over choice (v.0 + w.0)) r ≡ Some a = more_row v.0 (v.0 + w.0) r a (omega arith) v.1 in
      let y : value_of_row (value_by known over choice (v.0 + w.0)) r ≡ Some b = more_row w.0 (v.0 + w.0) r b (omega arith) w.1 in
      cc

  pub chosen_value : (n : ℕ) → has_node over n ≡ true → Val n (choice n)
  chosen_value n h = (0, ap (λ p. if p then Some (choice n) else (if n == 0 then Some false else None)) h)

  pub constant_value : has_node over 0 ≡ false → Val 0 false
  constant_value h = (0, ap (λ p. if p then Some (choice 0) else Some false) h)

  pub known_row_value : (n : ℕ) (r : Row) (b : Bool) → has_node over n ≡ false → n ≢ 0 → known n ≡ Some r → HasValue known over choice r b → Val n b
  known_row_value n r b out other e v = (
    suc v.0,
    ap (λ p. if p then Some (choice n) else (if n == 0 then Some false else known_value (value_by known over choice v.0) (known n))) out
        ∙ ap (λ q. if q then Some false else known_value (value_by known over choice v.0) (known n)) (ne_eqb n 0 other)
        ∙ ap (known_value (value_by known over choice v.0)) e ∙ v.1,
  )

  pub alias_value : (l : Lit) (b : Bool) → LitVal l b → HasValue known over choice (Alias l) b
  alias_value l b v = (v.1.0, ap (turned_by l) v.1.1 ∙ ap (λ z. Some z) v.2)

  and_value : (x y : Lit) (a b : Bool) → LitVal x a → LitVal y b → HasValue known over choice (And x y) (a && b)
  and_value x y a b v w =
      let k : ℕ = v.1.0 + w.1.0 in (
        k,
        ap₂ (λ p q. both (turned_by x p) (turned_by y q)) (more_steps known over choice k v.1.0 (omega arith) (node_of x) v.0 v.1.1) (more_steps known over choice k w.1.0 (omega arith) (node_of y) w.0 w.1.1)
            ∙ ap₂ (λ p q. Some (p && q)) v.2 w.2,
      )

  pub pair_value : (x y : Lit) (a b : Bool) → LitVal x a → LitVal y b → HasValue known over choice (ordered_and x y) (a && b)
  pair_value x y a b v w =
      cond_both (nat_lt x.0 y.0) (And x y) (And y x) (λ r. HasValue known over choice r (a && b)) (λ _. and_value x y a b v w)
      (λ _. subst (HasValue known over choice (And y x)) (and_turned b a) (and_value y x b a w v))
