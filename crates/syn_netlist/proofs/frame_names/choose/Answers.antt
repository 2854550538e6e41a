use Rattle.std.proofs.Common.{◌≡◌, ℕ, ◌+◌, ◌≤◌, ◌++◌, [], ◌∷◌, List, length, get_or, None, Some, sym, subst, arith, rules}
use Rattle.std.proofs.Math.ListN.{set}
use Rattle.syn_netlist.specs.Choosing.{ArePlaces}
use Rattle.syn_netlist.specs.Numbers.{word_at}
use Rattle.syn_netlist.proofs.Renumbering.{chosen_already, placed_more, room_for}
use Rattle.syn_netlist.proofs.frame_names.choose.Goals as goal

pub push-requires-clause-few : goal.push-requires-clause-few
push-requires-clause-few c =
    let none : get_or c.args.places.now c.args.number None ≡ None = search rules in
    let room : length c.args.names.now + 1 ≤ length c.args.all.now = room_for c.args.all.now c.args.names.now c.args.places.now c.args.number c.len-count.ensures.distinct c.requires.placed c.requires.below none in
    omega (arith, room, c.len-count.ensures.value)

pub returns-in-Some-clause-names : goal.returns-in-Some-clause-names
returns-in-Some-clause-names c =
    let some : get_or c.args.places.now c.args.number None ≡ Some c.in-Some.field-0 = search rules in
    chosen_already c.args.all.now c.args.names.now c.args.places.now c.args.number c.in-Some.field-0 c.requires.placed c.requires.below some

pub returns-in_ok-push-in-None-clause-placed : goal.returns-in_ok-push-in-None-clause-placed
returns-in_ok-push-in-None-clause-placed c =
    let none : get_or c.args.places.now c.args.number None ≡ None = search rules in
    let grown : c.push.new.self ≡ c.args.names.now ++ word_at c.args.all.now c.args.number ∷ [] = search rules in
    subst (λ (own : List (List ℕ)). ArePlaces c.args.all.now own (set c.args.places.now c.args.number (Some c.len-place.result))) (sym grown)
    (subst (λ (k : ℕ). ArePlaces c.args.all.now (c.args.names.now ++ word_at c.args.all.now c.args.number ∷ []) (set c.args.places.now c.args.number (Some k))) (sym c.len-place.ensures.value)
    (placed_more c.args.all.now c.args.names.now c.args.places.now c.args.number c.len-count.ensures.distinct c.requires.placed c.requires.below none))
