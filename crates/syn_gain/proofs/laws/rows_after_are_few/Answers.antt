use Rattle.std.proofs.Common.{ℕ, ◌+◌, ◌≤◌, List, [], ◌∷◌, length, Option, Some, None, arith}
use Rattle.std.proofs.lemmas.List.{length_push}
use Rattle.syn_rows.specs.declared.Lit.{Lit}
use Rattle.syn_rows.specs.Joining.{ordered_and}
use Rattle.syn_plan.specs.declared.PLit.{PLit}
use Rattle.syn_gain.specs.Placing.{Placed, begun, found, literal_below, literal_for, place_gate, place_gates, place_pair}
use Rattle.syn_gain.proofs.Owning.{after_length}
use Rattle.syn_gain.proofs.laws.rows_after_are_few.Goals as goal

pair_adds : (first : ℕ) (s : Placed) (x y : Lit) (o : Option Lit) → length (place_pair first s x y o).extra ≤ length s.extra + 1
pair_adds first s x y (Some l) = omega arith
pair_adds first s x y None = omega (arith, length_push s.extra (ordered_and x y))

gates_add : (look_up : Lit → Lit → Option Lit) (first : ℕ) (s : Placed) (gates : List (PLit × PLit)) → length (place_gates look_up first s gates).extra ≤ length s.extra + length gates
gates_add look_up first s [] = omega arith
gates_add look_up first s (gate ∷ gates) =
    let x = literal_for s.literals gate.0 in
    let y = literal_for s.literals gate.1 in
    omega (arith, pair_adds first s x y (found look_up s.met x y), gates_add look_up first (place_gate look_up first s gate) gates)

pub returns : goal.returns
returns c rows r = omega (arith, after_length rows r, gates_add (literal_below rows r.root) (length rows) (begun r.count r.leaves) r.gates)
