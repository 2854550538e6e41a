-- A value that is there by so many rows stays by more of them.
use Rattle.std.proofs.Common.{◌≡◌, ℕ, zero, suc, ◌≤◌, ◌==◌, Bool, true, false, if◌then◌else◌, List, Option, Some, None, refl, ap, ap₂, ◌∙◌, subst, arith, inl, inr}
use Rattle.std.proofs.lemmas.Bool.{cases_eq}
use Rattle.std.proofs.lemmas.Option.{none-some}
use Rattle.syn_rows.specs.declared.Row.{Row}
use Rattle.syn_rows.specs.declared.Row.TheVariants as row
use Rattle.syn_rows.specs.Rows.{AllRefs, node_of}
use Rattle.syn_rows.specs.Nodes.{has_node}
use Rattle.syn_core_laws.specs.SameValue.{both, known_value, turned_by, value_by, value_of_row}

-- each value of the first is one of the second
abbrev pub Keeps : (ℕ → Option Bool) → (ℕ → Option Bool) → Type 0
Keeps V W = (m : ℕ) (b : Bool) → V m ≡ Some b → W m ≡ Some b

-- the value of a row stays where those of its nodes do
pub row_moves : (V W : ℕ → Option Bool) (r : Row) (b : Bool) → AllRefs (λ m. (c : Bool) → V m ≡ Some c → W m ≡ Some c) r → value_of_row V r ≡ Some b → value_of_row W r ≡ Some b
row_moves V W row.Free b k h = absurd (none-some b h)
row_moves V W row.Source b k h = absurd (none-some b h)
row_moves V W (row.And x y) b k h = go (V (node_of x)) (V (node_of y)) k.0 k.1 h
  where
    go : (p q : Option Bool) → ((c : Bool) → p ≡ Some c → W (node_of x) ≡ Some c) → ((c : Bool) → q ≡ Some c → W (node_of y) ≡ Some c)
        → both (turned_by x p) (turned_by y q) ≡ Some b → both (turned_by x (W (node_of x))) (turned_by y (W (node_of y))) ≡ Some b
    go None q f g h = absurd (none-some b h)
    go (Some p) None f g h = absurd (none-some b h)
    go (Some p) (Some q) f g h = ap₂ (λ u v. both (turned_by x u) (turned_by y v)) (f p refl) (g q refl) ∙ h
row_moves V W (row.Alias x) b k h = go (V (node_of x)) k h
  where
    go : (p : Option Bool) → ((c : Bool) → p ≡ Some c → W (node_of x) ≡ Some c) → turned_by x p ≡ Some b → turned_by x (W (node_of x)) ≡ Some b
    go None f h = absurd (none-some b h)
    go (Some p) f h = ap (turned_by x) (f p refl) ∙ h

-- what holds of each node holds of those that a row refers to
pub of_each : (P : ℕ → Type 0) (r : Row) → ((m : ℕ) → P m) → AllRefs P r
of_each P row.Free k = tt
of_each P row.Source k = tt
of_each P (row.And x y) k = (k (node_of x), k (node_of y))
of_each P (row.Alias x) k = k (node_of x)

pub row_stays : (V W : ℕ → Option Bool) → Keeps V W → (r : Row) (b : Bool) → value_of_row V r ≡ Some b → value_of_row W r ≡ Some b
row_stays V W k r b h = row_moves V W r b (of_each (λ m. (c : Bool) → V m ≡ Some c → W m ≡ Some c) r k) h

pub known_stays : (V W : ℕ → Option Bool) → Keeps V W → (o : Option Row) (b : Bool) → known_value V o ≡ Some b → known_value W o ≡ Some b
known_stays V W k None b h = absurd (none-some b h)
known_stays V W k (Some r) b h = row_stays V W k r b h

-- a value by rows of two numbers of steps: a leaf and node 0 have it by any
pub open_stays : (p q x : Bool) (v w : Option Bool) (b : Bool) → (v ≡ Some b → w ≡ Some b)
    → (if p then Some x else (if q then Some false else v)) ≡ Some b → (if p then Some x else (if q then Some false else w)) ≡ Some b
open_stays true q x v w b f h = h
open_stays false true x v w b f h = h
open_stays false false x v w b f h = f h

pub one_step : (known : ℕ → Option Row) (over : List ℕ) (choice : ℕ → Bool) (k : ℕ) → Keeps (value_by known over choice k) (value_by known over choice (suc k))
one_step known over choice zero n b h = open_stays (has_node over n) (n == 0) (choice n) None (known_value (value_by known over choice 0) (known n)) b (λ e. absurd (none-some b e)) h
one_step known over choice (suc k) n b h =
    open_stays (has_node over n) (n == 0) (choice n) (known_value (value_by known over choice k) (known n)) (known_value (value_by known over choice (suc k)) (known n)) b
    (known_stays (value_by known over choice k) (value_by known over choice (suc k)) (one_step known over choice k) (known n) b) h

pub more_steps : (known : ℕ → Option Row) (over : List ℕ) (choice : ℕ → Bool) (m k : ℕ) → k ≤ m → Keeps (value_by known over choice k) (value_by known over choice m)
more_steps known over choice zero k le n b h = subst (λ z. value_by known over choice z n ≡ Some b) (let none : k ≡ 0 = omega arith in none) h
more_steps known over choice (suc m) k le n b h = elim (cases_eq k (suc m)) [
  | inl e ↦ subst (λ z. value_by known over choice z n ≡ Some b) e h
  | inr ne ↦ one_step known over choice m n b (more_steps known over choice m k (omega arith) n b h)
]
