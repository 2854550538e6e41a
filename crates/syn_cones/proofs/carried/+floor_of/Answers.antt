use Rattle.std.proofs.Common.{◌≡◌, subst, arith}
use Rattle.syn_rows.specs.Rows.{row_at}
use Rattle.syn_rows.specs.declared.Row.TheVariants.{And}
use Rattle.syn_rows.proofs.Nodes.{has_at}
use Rattle.syn_cones.specs.CutTruth.{IsFloor}
use Rattle.syn_cones.proofs.Carrying.{and_floor, leaf_floor}
use Rattle.syn_cones.proofs.carried.+floor_of.Goals as goal

pub returns-in-Some : goal.returns-in-Some
returns-in-Some t c = let at = c.in-Some.ensures.some in leaf_floor c.args.rows.now c.args.leaves.now c.args.node 4294967295 (has_at c.args.leaves.now c.in-Some.field-0 c.args.node at.0 at.1)

pub returns-else-first-eq0 : goal.returns-else-first-eq0
returns-else-first-eq0 t c =
    let rows = c.args.rows.now in
    let leaves = c.args.leaves.now in
    let a = c.in-And.a in
    let b = c.in-And.b in
    let row : row_at rows c.args.node ≡ And a b = c.in-And.is in
    let x = c.floor_of-first.result in
    let y = c.floor_of-second.result in
    let first = subst (λ m. IsFloor rows leaves m x) c.node.ensures c.floor_of-first.ensures in
    let second = subst (λ m. IsFloor rows leaves m y) c.node-in-And.ensures c.floor_of-second.ensures in
    and_floor rows leaves c.args.node x y c.min-in-And.result a b row first second (omega (arith, c.min.ensures, c.min-in-And.ensures)) (omega (arith, c.min.ensures, c.min-in-And.ensures)) (omega (arith, c.min-in-And.ensures))
