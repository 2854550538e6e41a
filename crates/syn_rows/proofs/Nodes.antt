-- Lists of nodes: what stands in them.
use Rattle.std.proofs.Common.{◌≡◌, ◌≢◌, ℕ, zero, suc, ◌<◌, ◌||◌, nat_eq, Bool, true, false, List, [], ◌∷◌, ◌++◌, length, get_or, refl, sym, ap, ◌∙◌, inl, inr, ◌⊎◌, arith}
use Rattle.std.specs.List.Sorted.{IsPermutation}
use Rattle.std.proofs.lemmas.List.Sorted.{list_any-IsPermutation}
use Rattle.std.proofs.lemmas.Bool.{or_cases, or_left, or_right, or_from, both_ways, eq-eqb, ne_eqb, eqb-true}
use Rattle.syn_rows.specs.Nodes.{has_node}

pub same_node : (m n : ℕ) → nat_eq m n ≡ true → m ≡ n
same_node m n e = eqb-true m n e

pub node_same : (n : ℕ) → nat_eq n n ≡ true
node_same n = eq-eqb n n refl

-- the first, and one behind it

pub has_here : (n : ℕ) (ms : List ℕ) → has_node (n ∷ ms) n ≡ true
has_here n ms = or_left (nat_eq n n) (has_node ms n) (node_same n)

pub has_there : (m n : ℕ) (ms : List ℕ) → has_node ms n ≡ true → has_node (m ∷ ms) n ≡ true
has_there m n ms h = or_right (nat_eq m n) (has_node ms n) h

pub here_or_there : (m n : ℕ) (ms : List ℕ) → has_node (m ∷ ms) n ≡ true → (n ≡ m) ⊎ (has_node ms n ≡ true)
here_or_there m n ms h = elim (or_cases (nat_eq m n) (has_node ms n) h) [ inl e ↦ inl (sym (same_node m n e)) | inr t ↦ inr t ]

pub has_one : (m n : ℕ) → has_node (m ∷ []) n ≡ true → m ≡ n
has_one m n h = elim (or_cases (nat_eq m n) false h) [ inl e ↦ same_node m n e | inr z ↦ absurd (both_ways false refl z) ]

-- two lists, one behind the other

pub has_node-append : (xs ys : List ℕ) (n : ℕ) → has_node (xs ++ ys) n ≡ (has_node xs n || has_node ys n)
has_node-append [] ys n = refl
has_node-append (x ∷ xs) ys n = ap (λ t. nat_eq x n || t) (has_node-append xs ys n) ∙ sym (or_assoc (nat_eq x n) (has_node xs n) (has_node ys n))
  where
    or_assoc : (a b c : Bool) → ((a || b) || c) ≡ (a || (b || c))
    or_assoc true b c = refl
    or_assoc false b c = refl

pub has_left : (xs ys : List ℕ) (n : ℕ) → has_node xs n ≡ true → has_node (xs ++ ys) n ≡ true
has_left xs ys n h = has_node-append xs ys n ∙ or_left (has_node xs n) (has_node ys n) h

pub has_right : (xs ys : List ℕ) (n : ℕ) → has_node ys n ≡ true → has_node (xs ++ ys) n ≡ true
has_right xs ys n h = has_node-append xs ys n ∙ or_right (has_node xs n) (has_node ys n) h

pub has_cases : (xs ys : List ℕ) (n : ℕ) → has_node (xs ++ ys) n ≡ true → (has_node xs n ≡ true) ⊎ (has_node ys n ≡ true)
has_cases xs ys n h = or_cases (has_node xs n) (has_node ys n) (sym (has_node-append xs ys n) ∙ h)

-- places, and other orders

pub has_at : (xs : List ℕ) (i n : ℕ) → i < length xs → get_or xs i 0 ≡ n → has_node xs n ≡ true
has_at [] i n lt e = absurd (omega arith)
has_at (x ∷ xs) zero n lt e = or_left (nat_eq x n) (has_node xs n) (eq-eqb x n e)
has_at (x ∷ xs) (suc i) n lt e = has_there x n xs (has_at xs i n (omega arith) e)

pub has_none : (xs : List ℕ) (n : ℕ) → ((i : ℕ) → i < length xs → get_or xs i 0 ≢ n) → has_node xs n ≡ false
has_none [] n h = refl
has_none (x ∷ xs) n h = or_from (nat_eq x n) (has_node xs n) (ne_eqb x n (h 0 (omega arith))) (has_none xs n (λ i lt. h (suc i) (omega arith)))

pub has_sorted : (xs ys : List ℕ) (n : ℕ) → IsPermutation xs ys → has_node ys n ≡ has_node xs n
has_sorted xs ys n p = sym (list_any-IsPermutation (λ m. nat_eq m n) xs ys p)
