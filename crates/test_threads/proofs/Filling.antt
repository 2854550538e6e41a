-- A seat that knows nothing fills a pool twice and empties it: it holds nothing again.
use Rattle.std.proofs.Common.{◌≡◌, ℕ, ◌+◌, ◌<◌, ◌≤◌, ◌&&◌, ◌||◌, not, Bool, true, false, List, [], ◌∷◌, ◌++◌, length, refl, ap, ◌∙◌, arith, inl, inr}
use Rattle.syn_rows.specs.Nodes.{has_node}
use Rattle.syn_rows.proofs.Nodes.{has_node-append}
use Rattle.syn_core_laws.specs.declared.View.{View}
use Rattle.syn_core_laws.specs.Openings.{empty_view}
use Rattle.syn_commit.specs.Pools.{HoldsNoneOf, IsEmptied, IsFilled, found_free}
use Rattle.syn_commit.proofs.Resting.{empty_list}
use Rattle.syn_commit.proofs.Trying.{found_below}

pub none_held : (v : View) → v ≡ empty_view 0 → (n : ℕ) → has_node v.held n ≡ false
none_held v e n = ap (λ (y : View). has_node y.held n) e

-- behind the nodes that were tried nothing is held
pub none_behind : (v w : View) (grown : List ℕ) → v ≡ empty_view 0 → IsFilled 0 10 v [] w grown → HoldsNoneOf w 10 600
none_behind v w grown e filled n from within = filled.1.held n ∙ (ap (λ b. b || has_node (found_free filled.0) n) (none_held v e n) ∙ later (has_node (found_free filled.0) n) refl)
  where
    few : length filled.0 ≤ 10
    few = elim filled.2 [ inl all ↦ omega (arith, all) | inr part ↦ omega (arith, part.0) ]

    later : (b : Bool) → has_node (found_free filled.0) n ≡ b → b ≡ false
    later true h = let below : n < 0 + length filled.0 = found_below 0 filled.0 filled.1.order n h in absurd (omega (arith, few))
    later false h = refl

-- the pool's nodes are all that is held, and they are let go
pub all_let_go : (v w x y : View) (grown larger : List ℕ) → v ≡ empty_view 0 → IsFilled 0 10 v [] w grown → IsFilled 10 600 w grown x larger → IsEmptied x larger y → y.held ≡ []
all_let_go v w x y grown larger e first second gone = empty_list y.held (λ n.
    gone.held n ∙ (ap (λ b. b && not (has_node larger n)) (second.1.held n ∙ ap (λ b. b || has_node (found_free second.0) n) (first.1.held n ∙ ap (λ b. b || has_node (found_free first.0) n) (none_held v e n)))
    ∙ (ap (λ b. (has_node (found_free first.0) n || has_node (found_free second.0) n) && not b) (pool n) ∙ never (has_node (found_free first.0) n || has_node (found_free second.0) n))))
  where
    pool : (n : ℕ) → has_node larger n ≡ (has_node (found_free first.0) n || has_node (found_free second.0) n)
    pool n = ap (λ ns. has_node ns n) (second.1.joined ∙ ap (λ ns. ns ++ found_free second.0) first.1.joined) ∙ has_node-append (found_free first.0) (found_free second.0) n

    never : (b : Bool) → (b && not b) ≡ false
    never true = refl
    never false = refl
