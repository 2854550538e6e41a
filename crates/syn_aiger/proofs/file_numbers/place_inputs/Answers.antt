use Rattle.std.proofs.Common.{◌≡◌, ◌∷◌, [], List, ℕ, map, true, sym, subst}
use Rattle.syn_lists.specs.Numbers.{distinct_numbers}
use Rattle.syn_aiger_files.specs.Files.{variable_of}
use Rattle.syn_aiger.specs.Placing.{HasPlaces}
use Rattle.syn_aiger.proofs.file_numbers.place_inputs.Goals as goal

pub returns-in_ok-place_literals-in-Some : goal.returns-in_ok-place_literals-in-Some
returns-in_ok-place_literals-in-Some c =
    subst (λ (ls : List ℕ). HasPlaces c.place_literals.new.places (0 ∷ map variable_of ls)) c.in-Some.ensures.listed
    (c.in_ok-place_literals-in-Some.ensures.places (0 ∷ []) c.first-places.ensures (subst (λ (ls : List ℕ). distinct_numbers (0 ∷ map variable_of ls) ≡ true) (sym c.in-Some.ensures.listed) c.requires.once))
