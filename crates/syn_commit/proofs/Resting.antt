-- A seat that lets its pool go is at rest.
use Rattle.std.proofs.Common.{◌≡◌, ℕ, ◌&&◌, not, Bool, true, false, List, [], ◌∷◌, refl, ap, ◌∙◌}
use Rattle.syn_rows.specs.Nodes.{has_node}
use Rattle.syn_rows.proofs.Nodes.{has_here}
use Rattle.syn_core_laws.specs.declared.View.{View}
use Rattle.syn_commit.specs.Giving.{HoldsAlone, IsAtRest}
use Rattle.syn_commit.specs.Pools.{IsEmptied}

pub empty_list : (ns : List ℕ) → ((n : ℕ) → has_node ns n ≡ false) → ns ≡ []
empty_list [] h = refl
empty_list (n ∷ ns) h = let here : has_node (n ∷ ns) n ≡ true = has_here n ns in let none : has_node (n ∷ ns) n ≡ false = h n in absurd (cc)

-- the pool is let go
pub at_rest : (v w : View) (pool : List ℕ) → HoldsAlone pool v → IsEmptied v pool w → IsAtRest w
at_rest v w pool alone gone = record {
  held = empty_list w.held (λ n. gone.held n ∙ (ap (λ b. b && not (has_node pool n)) (alone.held n) ∙ never (has_node pool n)));
  pins = gone.rest.pins ∙ alone.pins;
  idle = gone.rest.idle ∙ alone.idle;
}
  where
    never : (b : Bool) → (b && not b) ≡ false
    never true = refl
    never false = refl
