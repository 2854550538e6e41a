-- Values by rows where the leaves have other values: what doesn't hang on the choice, and what is the same by the same choice.
use Rattle.std.proofs.Common.{◌≡◌, ℕ, zero, suc, ◌==◌, ◌||◌, Bool, false, true, if◌then◌else◌, List, [], ◌∷◌, ◌++◌, length, ◌≤◌, Option, Some, None, refl, sym, ap, ap₂, ◌∙◌, arith}
use Rattle.syn_rows.specs.declared.Row.{Row}
use Rattle.syn_rows.specs.declared.Row.TheVariants.{Free, Source, And, Alias}
use Rattle.syn_rows.specs.declared.Lit.{Lit}
use Rattle.syn_rows.specs.Rows.{node_of}
use Rattle.syn_rows.specs.Nodes.{has_node}
use Rattle.syn_core_laws.specs.SameValue.{both, known_value, turned_by, value_by, value_of_row}
use Rattle.syn_decide.specs.declared.decisions.NodeRow.{NodeRow}
use Rattle.syn_decide.specs.Functions.{has_none, leaf_value}
use Rattle.syn_decide.specs.Walk.{row_among}
use Rattle.syn_decide.specs.Words.{value_after}

-- whether a literal, a pair and a row have a value hangs on whether their nodes have one
turned_none : (l : Lit) (x : Option Bool) → has_none (turned_by l x) ≡ has_none x
turned_none l None = refl
turned_none l (Some b) = refl

both_none : (x y : Option Bool) → has_none (both x y) ≡ (has_none x || has_none y)
both_none None y = refl
both_none (Some a) None = refl
both_none (Some a) (Some b) = refl

row_none : (V W : ℕ → Option Bool) → ((m : ℕ) → has_none (V m) ≡ has_none (W m)) → (r : Row) → has_none (value_of_row V r) ≡ has_none (value_of_row W r)
row_none V W h Free = refl
row_none V W h Source = refl
row_none V W h (And a b) =
    both_none (turned_by a (V (node_of a))) (turned_by b (V (node_of b)))
    ∙ ap₂ (λ p q. p || q) (turned_none a (V (node_of a)) ∙ h (node_of a) ∙ sym (turned_none a (W (node_of a)))) (turned_none b (V (node_of b)) ∙ h (node_of b) ∙ sym (turned_none b (W (node_of b))))
    ∙ sym (both_none (turned_by a (W (node_of a))) (turned_by b (W (node_of b))))
row_none V W h (Alias a) = turned_none a (V (node_of a)) ∙ h (node_of a) ∙ sym (turned_none a (W (node_of a)))

known_none : (V W : ℕ → Option Bool) → ((m : ℕ) → has_none (V m) ≡ has_none (W m)) → (o : Option Row) → has_none (known_value V o) ≡ has_none (known_value W o)
known_none V W h None = refl
known_none V W h (Some r) = row_none V W h r

open_none : (p q x y : Bool) (v w : Option Bool) → has_none v ≡ has_none w → has_none (if p then Some x else (if q then Some false else v)) ≡ has_none (if p then Some y else (if q then Some false else w))
open_none true q x y v w h = refl
open_none false true x y v w h = refl
open_none false false x y v w h = h

-- whether a node has a value doesn't hang on the choice
pub choice_free : (known : ℕ → Option Row) (over : List ℕ) (c d : ℕ → Bool) (k n : ℕ) → has_none (value_by known over c k n) ≡ has_none (value_by known over d k n)
choice_free known over c d zero n = open_none (has_node over n) (n == 0) (c n) (d n) None None refl
choice_free known over c d (suc k) n =
    open_none (has_node over n) (n == 0) (c n) (d n) (known_value (value_by known over c k) (known n)) (known_value (value_by known over d k) (known n))
    (known_none (value_by known over c k) (value_by known over d k) (choice_free known over c d k) (known n))

pub none_is_none : (o : Option Bool) → None ≡ o → has_none o ≡ true
none_is_none None e = refl
none_is_none (Some b) e = absurd (cc)

pub is_none : (o : Option Bool) → has_none o ≡ true → None ≡ o
is_none None e = refl
is_none (Some b) e = absurd (cc)

-- ---- the same choice
row_same : (V W : ℕ → Option Bool) → ((m : ℕ) → V m ≡ W m) → (r : Row) → value_of_row V r ≡ value_of_row W r
row_same V W h Free = refl
row_same V W h Source = refl
row_same V W h (And a b) = ap₂ (λ x y. both (turned_by a x) (turned_by b y)) (h (node_of a)) (h (node_of b))
row_same V W h (Alias a) = ap (turned_by a) (h (node_of a))

known_same : (V W : ℕ → Option Bool) → ((m : ℕ) → V m ≡ W m) → (o : Option Row) → known_value V o ≡ known_value W o
known_same V W h None = refl
known_same V W h (Some r) = row_same V W h r

same_choice : (known : ℕ → Option Row) (over : List ℕ) (c d : ℕ → Bool) → ((m : ℕ) → c m ≡ d m) → (k n : ℕ) → value_by known over c k n ≡ value_by known over d k n
same_choice known over c d h zero n = ap (λ b. if has_node over n then Some b else (if n == 0 then Some false else None)) (h n)
same_choice known over c d h (suc k) n =
    ap₂ (λ b o. if has_node over n then Some b else (if n == 0 then Some false else o)) (h n)
    (known_same (value_by known over c k) (value_by known over d k) (same_choice known over c d h k) (known n))

-- ---- values past those of the leaves
leaf_more : (leaves : List ℕ) (xs ys : List Bool) (n : ℕ) → length leaves ≤ length xs → leaf_value leaves (xs ++ ys) n ≡ leaf_value leaves xs n
leaf_more [] xs ys n h = refl
leaf_more (leaf ∷ leaves) [] ys n h = absurd (omega (arith, h))
leaf_more (leaf ∷ leaves) (x ∷ xs) ys n h = ap (λ b. if leaf == n then x else b) (leaf_more leaves xs ys n (omega (arith, h)))

pub value_more : (inner : List NodeRow) (leaves : List ℕ) (xs ys : List Bool) (k n : ℕ) → length leaves ≤ length xs → value_after inner leaves (xs ++ ys) k n ≡ value_after inner leaves xs k n
value_more inner leaves xs ys k n h =
    same_choice (row_among inner) leaves (leaf_value leaves (xs ++ ys)) (leaf_value leaves xs) (λ m. leaf_more leaves xs ys m h) k n
