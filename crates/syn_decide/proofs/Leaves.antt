-- A leaf, sought along the list of leaves.
use Rattle.std.proofs.Common.{◌≡◌, ℕ, suc, ◌+◌, ◌<◌, ◌==◌, ◌||◌, Bool, true, false, if◌then◌else◌, List, length, drop, get_or, refl, sym, ap, ap₂, ◌∙◌, arith, drop-cons}
use Rattle.syn_rows.proofs.Nodes.{same_node}
use Rattle.syn_rows.specs.Nodes.{has_node}
use Rattle.syn_decide.specs.Functions.{leaf_value}

pub apart_test : (a b : ℕ) → (a ≡ b → ⊥) → (a == b) ≡ false
apart_test a b h = go (a == b) refl
  where
    go : (c : Bool) → (a == b) ≡ c → c ≡ false
    go true e = absurd (h (same_node a b e))
    go false e = refl

-- past another leaf
pub has_past : (n : ℕ) (leaves : List ℕ) (i : ℕ) → i < length leaves → (get_or leaves i 0 == n) ≡ false → has_node (drop (i + 1) leaves) n ≡ has_node (drop i leaves) n
has_past n leaves i l e =
    sym (ap (λ ns. has_node ns n) (drop-cons leaves i 0 l) ∙ ap (λ b. b || has_node (drop (suc i) leaves) n) e ∙ ap (λ k. has_node (drop k leaves) n) (let next : suc i ≡ i + 1 = omega arith in next))

pub value_past : (n : ℕ) (leaves : List ℕ) (xs : List Bool) (i : ℕ) → i < length leaves → i < length xs → (get_or leaves i 0 == n) ≡ false
    → leaf_value (drop (i + 1) leaves) (drop (i + 1) xs) n ≡ leaf_value (drop i leaves) (drop i xs) n
value_past n leaves xs i l m e =
    sym (ap₂ (λ ls ys. leaf_value ls ys n) (drop-cons leaves i 0 l) (drop-cons xs i false m)
    ∙ ap (λ b. if b then get_or xs i false else leaf_value (drop (suc i) leaves) (drop (suc i) xs) n) e
    ∙ ap (λ k. leaf_value (drop k leaves) (drop k xs) n) (let next : suc i ≡ i + 1 = omega arith in next))
