-- Hits, stored rows and the root's new row have the values of their pairs.
use Rattle.std.proofs.Common.{◌≡◌, ◌≢◌, ℕ, suc, ◌+◌, ◌-◌, ◌*◌, ◌/◌, ◌%◌, ◌<◌, ◌≤◌, ◌==◌, ◌&&◌, ◌||◌, not, nat_le, nat_lt, Bool, true, false, if◌then◌else◌, IfSome, List, [], ◌∷◌, length, get_or, Option, Some, None, refl, sym, ap, ap₂, ◌∙◌, subst, arith, rules, inl, inr}
use Rattle.std.specs.List.{AllByRecursion}
use Rattle.std.proofs.lemmas.Bool.{and_parts, cases_eq, cond_both, eqb-true, leb-true}
use Rattle.std.proofs.lemmas.List.{get_or_default, get_or_past}
use Rattle.syn_rows.specs.declared.Lit.{Lit}
use Rattle.syn_rows.specs.declared.Row.{Row}
use Rattle.syn_rows.specs.declared.Row.TheVariants.{Free, Source, And, Alias}
use Rattle.syn_rows.specs.Rows.{node_of, row_at}
use Rattle.syn_rows.specs.Joining.{lit_of, ordered_and}
use Rattle.syn_rows.specs.Nodes.{has_node}
use Rattle.syn_rows.proofs.JoinLaws.{and_turned, even_value, same_lit}
use Rattle.syn_core_laws.specs.SameValue.{HasValue}
use Rattle.syn_gain.specs.Placing.{root_row}
use Rattle.syn_decide.specs.declared.decisions.NodeRow.{NodeRow}
use Rattle.syn_decide.specs.Hints.{first_new, is_last_new, is_new_gate, is_pair, is_pair_of, literal_hit, literal_listed}
use Rattle.syn_commit_laws.specs.Redefining.{literal_made, row_made}
use Rattle.syn_commit_laws.proofs.Valued.{LitHas, LitVal, Val, alias_value, constant_value, known_row_value, one_row_value, one_value, pair_value}
use Rattle.syn_commit_laws.proofs.Placed.{lit_plain}

pub le_true : (a b : ℕ) → a ≤ b → nat_le a b ≡ true
le_true a b h = search rules

pub le_false : (a b : ℕ) → b < a → nat_le a b ≡ false
le_false a b h = search rules

-- a row that is the pair of two literals
pub row_of_pair : (x y : Lit) (r : Row) → is_pair_of x y r ≡ true → r ≡ ordered_and x y
row_of_pair x y r h = go (nat_lt x.0 y.0) h
  where
    exact : (a b : Lit) (r : Row) → is_pair a b r ≡ true → r ≡ And a b
    exact a b Free h = absurd (cc)
    exact a b Source h = absurd (cc)
    exact a b (And c d) h =
        let parts = and_parts (a.0 == c.0) (b.0 == d.0) h in
        sym (ap₂ (λ k l. And k l) (same_lit a c (eqb-true a.0 c.0 parts.0)) (same_lit b d (eqb-true b.0 d.0 parts.1)))
    exact a b (Alias c) h = absurd (cc)

    go : (b : Bool) → (if b then is_pair x y r else is_pair y x r) ≡ true → r ≡ (if b then And x y else And y x)
    go true h = exact x y r h
    go false h = exact y x r h

-- a node by whether it is a new gate: a new gate, of which there are m, has the value of its row
abbrev pub At : (ℕ → Option Row) → List ℕ → (ℕ → Bool) → List ℕ → List Row → Bool → ℕ → ℕ → Bool → Type 0
At known over choice made extra true m n b = (n < first_new + m) × HasValue known over choice (row_made made (row_at extra (n - first_new))) b
At known over choice made extra false m n b = Val known over choice n b

-- the values of nodes while there are m new gates
abbrev pub Has : (ℕ → Option Row) → List ℕ → (ℕ → Bool) → List ℕ → List Row → ℕ → ℕ → Bool → Type 0
Has known over choice made extra m n b = At known over choice made extra (nat_le first_new n) m n b

-- the node's row is known to be this one, and the node is neither chosen nor node 0
pub record IsRow (known : ℕ → Option Row) (over : List ℕ) (n : ℕ) (r : Row) : Type 0 where
  pub other : n ≢ 0
  pub out : has_node over n ≡ false
  pub row : known n ≡ Some r

module _ (known : ℕ → Option Row) (over : List ℕ) (choice : ℕ → Bool) (made : List ℕ) (extra : List Row) (constant_out : has_node over 0 ≡ false) where
  pub one : (m n : ℕ) (a b : Bool) → Has known over choice made extra m n a → Has known over choice made extra m n b → a ≡ b
  one m n a b = go (nat_le first_new n)
    where
      go : (c : Bool) → At known over choice made extra c m n a → At known over choice made extra c m n b → a ≡ b
      go true v w = one_row_value known over choice (row_made made (row_at extra (n - first_new))) a b v.1 w.1
      go false v w = one_value known over choice n a b v w

  pub zero_is : (m : ℕ) → Has known over choice made extra m 0 false
  zero_is m = constant_value known over choice constant_out

  pub more : (m k n : ℕ) (b : Bool) → m ≤ k → Has known over choice made extra m n b → Has known over choice made extra k n b
  more m k n b le = go (nat_le first_new n)
    where
      go : (c : Bool) → At known over choice made extra c m n b → At known over choice made extra c k n b
      go true v = (omega (arith, v.0, le), v.1)
      go false v = v

  -- a node of a table
  pub old_has : (m n : ℕ) (b : Bool) → n < first_new → Val known over choice n b → Has known over choice made extra m n b
  old_has m n b lt v = subst (λ (c : Bool). At known over choice made extra c m n b) (sym (le_false first_new n lt)) v

  old_value : (m : ℕ) (l : Lit) (b : Bool) → is_new_gate l ≡ false → LitHas (Has known over choice made extra m) l b → LitVal known over choice l b
  old_value m l b e v = (v.0, subst (λ (c : Bool). At known over choice made extra c m (node_of l) v.0) e v.1, v.2)

  -- hits
  listed_is : (m : ℕ) (hits : List NodeRow) (x y : Lit) (a b : Bool) → AllByRecursion (λ h. IsRow known over h.node h.row × (h.node < first_new)) hits → LitVal known over choice x a → LitVal known over choice y b
      → IfSome (literal_listed hits x y) (λ l. LitHas (Has known over choice made extra m) l (a && b))
  listed_is m [] x y a b h v w = tt
  listed_is m (q ∷ hits) x y a b h v w = go (is_pair_of x y q.row) refl (listed_is m hits x y a b h.1 v w)
    where
      go : (c : Bool) → is_pair_of x y q.row ≡ c → IfSome (literal_listed hits x y) (λ l. LitHas (Has known over choice made extra m) l (a && b))
          → IfSome (if c then Some (lit_of q.node) else literal_listed hits x y) (λ l. LitHas (Has known over choice made extra m) l (a && b))
      go true e next =
          lit_plain (Has known over choice made extra m) (one m) (zero_is m) q.node (a && b)
          (old_has m q.node (a && b) h.0.1
          (known_row_value known over choice q.node q.row (a && b) h.0.0.out h.0.0.other h.0.0.row
          (subst (λ (r : Row). HasValue known over choice r (a && b)) (sym (row_of_pair x y q.row e)) (pair_value known over choice x y a b v w))))
      go false e next = next

  pub hit_is : (hits : List NodeRow) → AllByRecursion (λ h. IsRow known over h.node h.row × (h.node < first_new)) hits
      → (m : ℕ) (x y : Lit) (a b : Bool) → LitHas (Has known over choice made extra m) x a → LitHas (Has known over choice made extra m) y b → IfSome (literal_hit hits x y) (λ l. LitHas (Has known over choice made extra m) l (a && b))
  hit_is hits h m x y a b v w = go (is_new_gate x) refl (is_new_gate y) refl
    where
      go : (c : Bool) → is_new_gate x ≡ c → (d : Bool) → is_new_gate y ≡ d → IfSome (if c || d then None else literal_listed hits x y) (λ l. LitHas (Has known over choice made extra m) l (a && b))
      go true e d f = tt
      go false e true f = tt
      go false e false f = listed_is m hits x y a b h (old_value m x a e v) (old_value m y b f w)

  -- new gates, of which the first have nodes
  module _ (need : ℕ) (made_is : (i : ℕ) → i < need → IsRow known over (get_or made i 0) (row_made made (row_at extra i))) where
    made_value : (m : ℕ) (l : Lit) (b : Bool) → m ≤ need → LitHas (Has known over choice made extra m) l b → LitVal known over choice (literal_made made l) b
    made_value m l b le v = go (is_new_gate l) refl v.1
      where
        go : (c : Bool) → is_new_gate l ≡ c → At known over choice made extra c m (node_of l) v.0 → LitVal known over choice (if c then record { 0 = 2 * get_or made (node_of l - first_new) 0 + l.0 % 2 } else l) b
        go false e h = (v.0, h, v.2)
        go true e h =
            let new : first_new ≤ node_of l = leb-true first_new (node_of l) e in
            let at : IsRow known over (get_or made (node_of l - first_new) 0) (row_made made (row_at extra (node_of l - first_new))) = made_is (node_of l - first_new) (omega (arith, new, h.0, le)) in
            let half : get_or made (node_of l - first_new) 0 ≡ (2 * get_or made (node_of l - first_new) 0 + l.0 % 2) / 2 = omega arith in
            let sign : (2 * get_or made (node_of l - first_new) 0 + l.0 % 2) % 2 ≡ l.0 % 2 = omega arith in (
              v.0,
              subst (λ (n : ℕ). Val known over choice n v.0) half (known_row_value known over choice (get_or made (node_of l - first_new) 0) (row_made made (row_at extra (node_of l - first_new))) v.0 at.out at.other at.row h.1),
              ap (λ (k : ℕ). if k == 0 then v.0 else not v.0) sign ∙ v.2,
            )

    stored_value : (x y : Lit) (a b : Bool) → LitVal known over choice (literal_made made x) a → LitVal known over choice (literal_made made y) b → HasValue known over choice (row_made made (ordered_and x y)) (a && b)
    stored_value x y a b v w =
        cond_both (nat_lt x.0 y.0) (And x y) (And y x) (λ r. HasValue known over choice (row_made made r) (a && b)) (λ _. pair_value known over choice (literal_made made x) (literal_made made y) a b v w)
        (λ _. subst (HasValue known over choice (row_made made (And y x))) (and_turned b a) (pair_value known over choice (literal_made made y) (literal_made made x) b a w v))

    pub new_is : length extra ≤ suc need → (m : ℕ) (x y : Lit) (a b : Bool) → m < length extra → row_at extra m ≡ ordered_and x y
        → LitHas (Has known over choice made extra m) x a → LitHas (Has known over choice made extra m) y b → Has known over choice made extra (suc m) (first_new + m) (a && b)
    new_is few m x y a b lt e v w =
        subst (λ (c : Bool). At known over choice made extra c (suc m) (first_new + m) (a && b)) (sym (le_true first_new (first_new + m) (omega arith))) (
          omega arith,
          subst (λ (r : Row). HasValue known over choice (row_made made r) (a && b)) (sym e ∙ ap (row_at extra) (let back : m ≡ (first_new + m) - first_new = omega arith in back))
              (stored_value x y a b (made_value m x a (omega arith) v) (made_value m y b (omega arith) w)),
        )

    alias_is : (out : Lit) (b : Bool) → length extra ≤ need → LitHas (Has known over choice made extra (length extra)) out b → HasValue known over choice (row_made made (Alias out)) b
    alias_is out b le v = alias_value known over choice (literal_made made out) b (made_value (length extra) out b le v)

    -- the last new gate's row
    last_is : (out : Lit) (b : Bool) (k : ℕ) → length extra ≡ suc k → out.0 ≡ 2 * (first_new + k) → LitHas (Has known over choice made extra (length extra)) out b → HasValue known over choice (row_made made (row_at extra k)) b
    last_is out b k long at v =
        let node : node_of out ≡ first_new + k = omega (arith, at) in
        let new : nat_le first_new (node_of out) ≡ true = le_true first_new (node_of out) (omega (arith, node)) in
        let here : At known over choice made extra true (length extra) (node_of out) v.0 = subst (λ (c : Bool). At known over choice made extra c (length extra) (node_of out) v.0) new v.1 in
        subst (λ (r : Row). HasValue known over choice (row_made made r) b) (ap (row_at extra) (let back : node_of out - first_new ≡ k = omega (arith, node) in back))
        (subst (HasValue known over choice (row_made made (row_at extra (node_of out - first_new)))) (sym (even_value (λ _. v.0) out (omega (arith, at))) ∙ v.2) here.1)

    -- the root's row
    pub root_is : (out : Lit) (b : Bool) → need ≡ length extra - (if is_last_new extra out then 1 else 0) → LitHas (Has known over choice made extra (length extra)) out b → HasValue known over choice (row_made made (root_row first_new extra out)) b
    root_is out b e v = go (out.0 + 2 == 2 * (first_new + length extra)) refl
      where
        all_need : (c d : Bool) → c ≡ false → need ≡ length extra - (if d && c then 1 else 0) → length extra ≤ need
        all_need true d f e = absurd (cc)
        all_need false true f e = omega (arith, e)
        all_need false false f e = omega (arith, e)

        go : (c : Bool) → (out.0 + 2 == 2 * (first_new + length extra)) ≡ c → HasValue known over choice (row_made made (if c then get_or extra (length extra - 1) (Alias out) else Alias out)) b
        go false f = alias_is out b (all_need (out.0 + 2 == 2 * (first_new + length extra)) (nat_lt 0 (length extra)) f e) v
        go true f = elim (cases_eq (length extra) 0) [
          | inl none ↦
              subst (λ (r : Row). HasValue known over choice (row_made made r) b) (sym (get_or_past extra (length extra - 1) (Alias out) (omega (arith, none)))) (alias_is out b (omega (arith, none)) v)
          | inr some ↦
              let test : out.0 + 2 ≡ 2 * (first_new + length extra) = eqb-true (out.0 + 2) (2 * (first_new + length extra)) f in
              let long : length extra ≡ suc (length extra - 1) = omega (arith, some) in
              subst (λ (r : Row). HasValue known over choice (row_made made r) b) (get_or_default extra (length extra - 1) Free (Alias out) (omega (arith, long)))
              (last_is out b (length extra - 1) long (omega (arith, test, long)) v)
        ]
