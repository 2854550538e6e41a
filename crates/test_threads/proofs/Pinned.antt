-- A seat that takes its one pin back is at rest.
use Rattle.std.proofs.Common.{◌≡◌, ℕ, ◌==◌, ◌&&◌, if◌then◌else◌, Bool, true, false, [], ◌∷◌, Option, None, Some, refl, sym, ap, ◌∙◌}
use Rattle.std.proofs.lemmas.Bool.{eq-eqb}
use Rattle.syn_rows.specs.declared.Row.{Row}
use Rattle.syn_rows.specs.Nodes.{has_node}
use Rattle.syn_core_laws.specs.declared.View.{View}
use Rattle.syn_core_laws.specs.Lists.{without_one}
use Rattle.syn_core_laws.specs.Shown.{IsShown}
use Rattle.syn_core_laws.specs.Views.{is_derived_known, known_row}
use Rattle.syn_table.specs.declared.Known.{Known}
use Rattle.syn_table.specs.Steps.{Unpins}
use Rattle.syn_commit.specs.Giving.{IsAtRest}
use Rattle.test_threads.specs.Resting.{HasPinned}

-- the seat holds nothing, so it knows no row
no_row : (nodes n m : ℕ) (v : View) → HasPinned n v → IsShown nodes v → known_row v m ≡ None
no_row nodes n m v has shown = go (known_row v m) refl
  where
    go : (r : Option Row) → known_row v m ≡ r → r ≡ None
    go None e = refl
    go (Some row) e =
        let there : has_node v.held m ≡ true = (shown.rows m row e).1 in
        let none : has_node v.held m ≡ false = ap (λ ns. has_node ns m) has.held in
        let contra : true ≡ false = sym there ∙ none in absurd (cc)

pub at_rest : (nodes n : ℕ) (k new : Known) (last : Bool) → HasPinned n k.core → IsShown nodes k.core → Unpins k n last new → IsAtRest new.core
at_rest nodes n k new last has shown told = record {
  held = ap (λ (x : Known). x.core.held) told.2 ∙ has.held;
  pins = ap (λ (x : Known). x.core.pins) told.2 ∙ ap (without_one n) has.pins ∙ ap (λ b. if b then [] else n ∷ []) (eq-eqb n n refl);
  idle = ap (λ (x : Known). x.core.idle) told.2 ∙ ap (λ r. if (told.0 == 1) && is_derived_known r then n ∷ k.core.idle else k.core.idle) (no_row nodes n n k.core has shown) ∙ idle (told.0 == 1) ∙ has.idle;
}
  where
    idle : (b : Bool) → (if b && false then n ∷ k.core.idle else k.core.idle) ≡ k.core.idle
    idle true = refl
    idle false = refl
