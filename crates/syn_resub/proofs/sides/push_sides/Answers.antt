use Rattle.std.proofs.Common.{sym, ◌∙◌, [], ◌∷◌, ◌++◌, get_or}
use Rattle.std.proofs.lemmas.List.Elements.{All-push, All-same}
use Rattle.syn_resub.specs.Sides.{AreSides}
use Rattle.syn_resub.proofs.Found.{sides_kept, sides_pushed, sides_test}
use Rattle.syn_resub.proofs.sides.push_sides.Goals as goal

pub returns-then-may_stand-clause-divisors : goal.returns-then-may_stand-clause-divisors
returns-then-may_stand-clause-divisors c =
    let rows = c.args.graph.now.rows in
    let leaves = c.args.divided.now.leaves.items in
    let s = c.at-sides.result in
    sides_pushed rows leaves c.args.node (get_or c.args.divided.now.nodes.items c.args.place 0) c.args.all.now.items c.push.new.self.items s c.at-sides.ensures.sides c.at-sides.ensures.divisor
    (sym (sides_test rows leaves c.args.node s c.at-sides.ensures.sides) ∙ sym c.may_stand.ensures ∙ c.if-may_stand.true) c.push.ensures.items

pub returns-then-may_stand-clause-sides : goal.returns-then-may_stand-clause-sides
returns-then-may_stand-clause-sides c all =
    All-same (AreSides c.args.graph.now.rows c.args.divided.now.leaves.items c.args.node) c.push.new.self.items (c.args.all.now.items ++ c.at-sides.result ∷ []) c.push.ensures.items
    (All-push (AreSides c.args.graph.now.rows c.args.divided.now.leaves.items c.args.node) c.args.all.now.items c.at-sides.result all c.at-sides.ensures.sides)

pub returns-else-may_stand-clause-divisors : goal.returns-else-may_stand-clause-divisors
returns-else-may_stand-clause-divisors c =
    let rows = c.args.graph.now.rows in
    let leaves = c.args.divided.now.leaves.items in
    let s = c.at-sides.result in
    sides_kept rows leaves c.args.node (get_or c.args.divided.now.nodes.items c.args.place 0) c.args.all.now.items s c.at-sides.ensures.divisor
    (sym (sides_test rows leaves c.args.node s c.at-sides.ensures.sides) ∙ sym c.may_stand.ensures ∙ c.if-may_stand.false)
