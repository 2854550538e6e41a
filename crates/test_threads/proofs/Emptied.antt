-- A seat at rest fills a pool: it holds the pool alone.
use Rattle.std.proofs.Common.{◌≡◌, ℕ, suc, ◌<◌, ◌==◌, ◌&&◌, ◌||◌, if◌then◌else◌, Bool, true, false, List, [], ◌∷◌, ◌++◌, refl, sym, ap, ap₂, ◌∙◌, arith}
use Rattle.std.proofs.lemmas.Bool.{ne_eqb}
use Rattle.syn_rows.specs.Nodes.{has_node}
use Rattle.syn_fanout_free.specs.Freed.{is_free}
use Rattle.syn_core_laws.specs.declared.View.{View}
use Rattle.syn_core_laws.specs.declared.Seen.{Seen}
use Rattle.syn_core_laws.specs.declared.Seen.TheVariants as seen
use Rattle.syn_commit.specs.Giving.{HoldsAlone, IsAtRest}
use Rattle.syn_commit.specs.Pools.{AreTries, HoldsNoneOf, IsFilled, KeepsPool, found_free}

pub none_there : (v : View) (from count : ℕ) → IsAtRest v → HoldsNoneOf v from count
none_there v from count rest n low high = ap (λ ns. has_node ns n) rest.held

-- no node below the first that is tried joins the pool
found_above : (from : ℕ) (met : List Seen) (n : ℕ) → AreTries from met → n < from → has_node (found_free met) n ≡ false
found_above from [] n order below = refl
found_above from (seen.Row node row ∷ met) n order below = go (is_free row) (found_above (suc from) met n order.1 (omega (arith, below)))
  where
    other : (node == n) ≡ false
    other = let same = order.0 in ne_eqb node n (λ e. omega (arith, below, e, same))

    go : (b : Bool) → has_node (found_free met) n ≡ false → has_node (if b then node ∷ found_free met else found_free met) n ≡ false
    go true later = ap₂ (λ b c. b || c) other later
    go false later = later
found_above from (seen.Miss node ∷ met) n order below = found_above (suc from) met n order.1 (omega (arith, below))
found_above from (seen.Key node key ∷ met) n order below = absurd order
found_above from (seen.Count node count own ∷ met) n order below = absurd order

pub below_pool : (from count : ℕ) (v w : View) (pool grown : List ℕ) (n : ℕ) → pool ≡ [] → IsFilled from count v pool w grown → n < from → has_node grown n ≡ false
below_pool from count v w pool grown n fresh filled below =
    ap (λ ns. has_node ns n) (filled.1.joined ∙ ap (λ ns. ns ++ found_free filled.0) fresh) ∙ found_above from filled.0 n filled.1.order below

-- the pool's nodes are all that is held
pub holds_pool : (from count : ℕ) (v w : View) (pool grown : List ℕ) → IsAtRest v → pool ≡ [] → IsFilled from count v pool w grown → KeepsPool w grown → HoldsAlone grown w
holds_pool from count v w pool grown rest fresh filled keeps = record {
  spare = keeps;
  held = λ n. filled.1.held n ∙ ap (λ ns. has_node ns n || has_node (found_free filled.0) n) rest.held ∙ ap (λ ns. has_node ns n) (sym (filled.1.joined ∙ ap (λ ns. ns ++ found_free filled.0) fresh));
  pins = filled.1.rest.pins ∙ rest.pins;
  idle = filled.1.rest.idle ∙ rest.idle;
}
