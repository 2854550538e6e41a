-- The LUTs of cuts of at most k leaves have at most k inputs.
use Rattle.std.proofs.Common.{◌≡◌, ℕ, suc, ◌<◌, nat_le, Bool, true, List, [], ◌∷◌, length, refl, ap, ◌∙◌, arith}
use Rattle.std.specs.List.{list_all}
use Rattle.std.proofs.lemmas.Bool.{and_from, le-leb}
use Rattle.std.proofs.lemmas.List.{length-map}
use Rattle.syn_lutnet.specs.LutData.{Lut, lut_at}
use Rattle.syn_covering.specs.Mappings.{node_at, signal_of, MappingFits}
use Rattle.syn_covering.proofs.Matching.{has_node_at}
use Rattle.syn_covering.proofs.Mapped.{node_is_and}

all_from_each : (p : Lut → Bool) (ls : List Lut) → ((j : ℕ) → j < length ls → p (lut_at ls j) ≡ true) → list_all p ls ≡ true
all_from_each p [] h = refl
all_from_each p (l ∷ ls) h = and_from (p l) (list_all p ls) (h 0 (omega arith)) (all_from_each p ls (λ j lt. h (suc j) (omega arith)))

pub mapping_small : MappingFits
mapping_small count k cut rows lits nodes luts outs fit graph mapping = all_from_each (λ l. nat_le (length l.inputs) k) luts each
  where
    each : (j : ℕ) → j < length luts → nat_le (length (lut_at luts j).inputs) k ≡ true
    each j lt =
        let inside : j < length nodes = omega (arith, lt, mapping.long) in
        let gate = node_is_and count k cut rows lits nodes luts outs fit graph mapping (node_at nodes j) (has_node_at nodes j inside) in
        let few = (fit (node_at nodes j) gate).few in
        ap (λ (xs : List ℕ). nat_le (length xs) k) (mapping.inputs j inside) ∙ ap (λ n. nat_le n k) (length-map (cut (node_at nodes j)) (signal_of count nodes)) ∙ le-leb (length (cut (node_at nodes j))) k few
