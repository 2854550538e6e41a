-- The leaves that a plan uses, along the list of leaves.
use Rattle.std.proofs.Common.{◌≡◌, ℕ, suc, ◌+◌, ◌<◌, Bool, true, false, not, if◌then◌else◌, List, [], ◌∷◌, ◌++◌, length, drop, get_or, refl, sym, ap, ◌∙◌, arith, drop-cons, cond, Some}
use Rattle.std.specs.Prelude.{find}
use Rattle.syn_decide.specs.declared.decisions.NodeRow.{NodeRow}
use Rattle.syn_decide.specs.Tasks.{Task}
use Rattle.syn_decide.specs.Walk.{is_met}
use Rattle.syn_decide.specs.Functions.{used_from, uses}

-- one leaf
used_step : (t : Task) (leaves : List ℕ) (i d : ℕ) → i < length leaves
    → used_from t i (drop i leaves) ≡ (if uses t i then get_or leaves i d ∷ used_from t (i + 1) (drop (i + 1) leaves) else used_from t (i + 1) (drop (i + 1) leaves))
used_step t leaves i d l =
    ap (used_from t i) (drop-cons leaves i d l)
    ∙ ap (λ k. if uses t i then get_or leaves i d ∷ used_from t (i + 1) (drop k leaves) else used_from t (i + 1) (drop k leaves)) (let next : suc i ≡ i + 1 = omega arith in next)

-- a leaf that isn't used
pub used_skip : (t : Task) (leaves : List ℕ) (i : ℕ) → i < length leaves → uses t i ≡ false → used_from t i (drop i leaves) ≡ used_from t (i + 1) (drop (i + 1) leaves)
used_skip t leaves i l h =
    used_step t leaves i 0 l ∙ ap (λ b. if b then get_or leaves i 0 ∷ used_from t (i + 1) (drop (i + 1) leaves) else used_from t (i + 1) (drop (i + 1) leaves)) h

-- a leaf that is used
pub used_take : (t : Task) (leaves : List ℕ) (i d : ℕ) → i < length leaves → uses t i ≡ true → used_from t i (drop i leaves) ≡ get_or leaves i d ∷ used_from t (i + 1) (drop (i + 1) leaves)
used_take t leaves i d l h =
    used_step t leaves i d l ∙ ap (λ b. if b then get_or leaves i d ∷ used_from t (i + 1) (drop (i + 1) leaves) else used_from t (i + 1) (drop (i + 1) leaves)) h

-- what waits for a key stays the same past a leaf that isn't used
pub keys_skip : (t : Task) (leaves w : List ℕ) (root i at : ℕ) → i ≡ at + 1 → at < length leaves → uses t at ≡ false
    → w ≡ used_from t i (drop i leaves) ++ root ∷ [] → w ≡ used_from t at (drop at leaves) ++ root ∷ []
keys_skip t leaves w root i at e l h k =
    k ∙ ap (λ j. used_from t j (drop j leaves) ++ root ∷ []) e ∙ ap (λ us. us ++ root ∷ []) (sym (used_skip t leaves at l h))

find_not : (inner : List NodeRow) (leaf : ℕ) (rest : List ℕ) → is_met inner leaf ≡ true → find (λ n. not (is_met inner n)) (leaf ∷ rest) ≡ find (λ n. not (is_met inner n)) rest
find_not inner leaf rest h = ap (λ b. cond (not b) (Some leaf) (find (λ n. not (is_met inner n)) rest)) h

-- the search for an unmet leaf goes on past a leaf that isn't used
pub unmet_unused : (t : Task) (inner : List NodeRow) (leaves : List ℕ) (i : ℕ) → i < length leaves → uses t i ≡ false
    → find (λ n. not (is_met inner n)) (used_from t (i + 1) (drop (i + 1) leaves)) ≡ find (λ n. not (is_met inner n)) (used_from t i (drop i leaves))
unmet_unused t inner leaves i l h = ap (find (λ n. not (is_met inner n))) (sym (used_skip t leaves i l h))

-- and past one that is met
pub unmet_met : (t : Task) (inner : List NodeRow) (leaves : List ℕ) (i d : ℕ) → i < length leaves → uses t i ≡ true → is_met inner (get_or leaves i d) ≡ true
    → find (λ n. not (is_met inner n)) (used_from t (i + 1) (drop (i + 1) leaves)) ≡ find (λ n. not (is_met inner n)) (used_from t i (drop i leaves))
unmet_met t inner leaves i d l h k =
    sym (find_not inner (get_or leaves i d) _ k) ∙ ap (find (λ n. not (is_met inner n))) (sym (used_take t leaves i d l h))

-- and so past one that is met, whether it is used or not
pub unmet_past : (t : Task) (inner : List NodeRow) (leaves : List ℕ) (i d : ℕ) → i < length leaves → is_met inner (get_or leaves i d) ≡ true
    → find (λ n. not (is_met inner n)) (used_from t (i + 1) (drop (i + 1) leaves)) ≡ find (λ n. not (is_met inner n)) (used_from t i (drop i leaves))
unmet_past t inner leaves i d l k = go (uses t i) refl
  where
    go : (b : Bool) → uses t i ≡ b → find (λ n. not (is_met inner n)) (used_from t (i + 1) (drop (i + 1) leaves)) ≡ find (λ n. not (is_met inner n)) (used_from t i (drop i leaves))
    go true e = unmet_met t inner leaves i d l e k
    go false e = unmet_unused t inner leaves i l e
