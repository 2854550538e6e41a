use Rattle.std.proofs.Common.{◌≡◌, ◌+◌, ◌<◌, ◌∷◌, ◌++◌, [], ℕ, List, All, length, set, suc, sym, ap, subst, arith, Some}
use Rattle.std.specs.List.Sorted.{IsPermutation}
use Rattle.syn_rows.specs.declared.Lit.{Lit}
use Rattle.syn_rows.specs.declared.Row.{Row}
use Rattle.syn_rows.specs.Rows.{node_of}
use Rattle.syn_balance.specs.Balancing.{IsBalancing}
use Rattle.syn_balance.specs.Joining.{IsJoining}
use Rattle.syn_balance.specs.Leaves.{leaves_of}
use Rattle.syn_balance.specs.Rule.{AreOne}
use Rattle.syn_balance.proofs.Gathering.{IsGathered, gathered, gathered_match, room_for, gathered_wait, gathered_joined}
use Rattle.syn_balance.proofs.balancer.balance_node.Goals as goal

pub join-requires-clause-some : goal.join-requires-clause-some
join-requires-clause-some c =
    let count : ℕ = c.args.hashed.now.source_count in
    let rows : List Row = c.args.rows.now in
    let new : List Row = c.args.hashed.now.rows.items in
    let g : IsGathered rows new c.args.node c.in-And.a c.in-And.b c.args.waiting.now c.take_both.new.waiting c.in_ok-leaves.leaves.items =
    gathered count rows c.requires.roots.0 c.args.roots.now c.args.node c.args.literals.now c.args.waiting.now new c.in-And.a c.in-And.b c.in_ok-leaves.leaves.items c.take_both.new.waiting
    c.requires.hashed c.requires.roots.1 c.requires.balancing c.requires.above c.requires.inside c.in-And.is c.in_ok-leaves.ensures in
    let some = g.stand.some in
    omega (arith, some, ap length c.as_slice.ensures)

pub join-requires-clause-there : goal.join-requires-clause-there
join-requires-clause-there c =
    let count : ℕ = c.args.hashed.now.source_count in
    let rows : List Row = c.args.rows.now in
    let new : List Row = c.args.hashed.now.rows.items in
    let g : IsGathered rows new c.args.node c.in-And.a c.in-And.b c.args.waiting.now c.take_both.new.waiting c.in_ok-leaves.leaves.items =
    gathered count rows c.requires.roots.0 c.args.roots.now c.args.node c.args.literals.now c.args.waiting.now new c.in-And.a c.in-And.b c.in_ok-leaves.leaves.items c.take_both.new.waiting
    c.requires.hashed c.requires.roots.1 c.requires.balancing c.requires.above c.requires.inside c.in-And.is c.in_ok-leaves.ensures in
    subst (λ (k : List Lit). All (λ l. node_of l < length new) k) (sym c.as_slice.ensures) g.stand.there

pub join-requires-clause-room : goal.join-requires-clause-room
join-requires-clause-room c =
    let count : ℕ = c.args.hashed.now.source_count in
    let rows : List Row = c.args.rows.now in
    let new : List Row = c.args.hashed.now.rows.items in
    let g : IsGathered rows new c.args.node c.in-And.a c.in-And.b c.args.waiting.now c.take_both.new.waiting c.in_ok-leaves.leaves.items =
    gathered count rows c.requires.roots.0 c.args.roots.now c.args.node c.args.literals.now c.args.waiting.now new c.in-And.a c.in-And.b c.in_ok-leaves.leaves.items c.take_both.new.waiting
    c.requires.hashed c.requires.roots.1 c.requires.balancing c.requires.above c.requires.inside c.in-And.is c.in_ok-leaves.ensures in
    let room = room_for count rows c.args.roots.now c.args.node c.args.literals.now c.args.waiting.now c.take_both.new.waiting new c.in-And.a c.in-And.b c.in_ok-leaves.leaves.items c.requires.balancing g c.requires.inside c.requires.few in
    omega (arith, room, ap length c.as_slice.ensures)

pub returns-in_ok-literal-clause-balancing : goal.returns-in_ok-literal-clause-balancing
returns-in_ok-literal-clause-balancing c =
    let count : ℕ = c.args.hashed.now.source_count in
    let rows : List Row = c.args.rows.now in
    let new : List Row = c.args.hashed.now.rows.items in
    let g : IsGathered rows new c.args.node c.in-And.a c.in-And.b c.args.waiting.now c.take_both.new.waiting c.in_ok-leaves.leaves.items =
    gathered count rows c.requires.roots.0 c.args.roots.now c.args.node c.args.literals.now c.args.waiting.now new c.in-And.a c.in-And.b c.in_ok-leaves.leaves.items c.take_both.new.waiting
    c.requires.hashed c.requires.roots.1 c.requires.balancing c.requires.above c.requires.inside c.in-And.is c.in_ok-leaves.ensures in
    let same : IsPermutation (leaves_of c.args.literals.now c.requires.balancing.leaves c.in-And.a ++ leaves_of c.args.literals.now c.requires.balancing.leaves c.in-And.b) c.in_ok-leaves.leaves.items =
    gathered_match count rows c.requires.roots.0 c.args.roots.now c.args.node c.args.literals.now c.args.waiting.now new c.in-And.a c.in-And.b c.in_ok-leaves.leaves.items c.take_both.new.waiting
    c.requires.hashed c.requires.roots.1 c.requires.balancing c.requires.above c.requires.inside c.in-And.is c.in_ok-leaves.ensures in
    let more : List Row = c.join.new.hashed.rows.items in
    let left = c.take_both.new.waiting in
    subst (λ (k : ℕ). IsBalancing count rows c.args.roots.now k (set c.args.literals.now c.args.node (Some c.in_ok-literal.literal)) left more) (let e : suc c.args.node ≡ c.args.node + 1 = omega arith in e)
    (gathered_joined count rows c.args.roots.now c.args.node c.args.literals.now c.args.waiting.now left new more c.in-And.a c.in-And.b c.in_ok-literal.literal c.in_ok-leaves.leaves.items c.requires.balancing g same c.requires.above c.requires.inside c.in-And.is c.if-roots-node.true
    (subst (λ (k : List Lit). IsJoining new k more (c.in_ok-literal.literal ∷ [])) c.as_slice.ensures c.in_ok-literal.ensures.joining)
    (subst (λ (k : List Lit). AreOne new k more c.in_ok-literal.literal) c.as_slice.ensures c.in_ok-literal.ensures.one))

pub returns-else-roots-node-clause-balancing : goal.returns-else-roots-node-clause-balancing
returns-else-roots-node-clause-balancing c =
    let count : ℕ = c.args.hashed.now.source_count in
    let rows : List Row = c.args.rows.now in
    let new : List Row = c.args.hashed.now.rows.items in
    let g : IsGathered rows new c.args.node c.in-And.a c.in-And.b c.args.waiting.now c.take_both.new.waiting c.in_ok-leaves.leaves.items =
    gathered count rows c.requires.roots.0 c.args.roots.now c.args.node c.args.literals.now c.args.waiting.now new c.in-And.a c.in-And.b c.in_ok-leaves.leaves.items c.take_both.new.waiting
    c.requires.hashed c.requires.roots.1 c.requires.balancing c.requires.above c.requires.inside c.in-And.is c.in_ok-leaves.ensures in
    let same : IsPermutation (leaves_of c.args.literals.now c.requires.balancing.leaves c.in-And.a ++ leaves_of c.args.literals.now c.requires.balancing.leaves c.in-And.b) c.in_ok-leaves.leaves.items =
    gathered_match count rows c.requires.roots.0 c.args.roots.now c.args.node c.args.literals.now c.args.waiting.now new c.in-And.a c.in-And.b c.in_ok-leaves.leaves.items c.take_both.new.waiting
    c.requires.hashed c.requires.roots.1 c.requires.balancing c.requires.above c.requires.inside c.in-And.is c.in_ok-leaves.ensures in
    let left = c.take_both.new.waiting in
    subst (λ (k : ℕ). IsBalancing count rows c.args.roots.now k c.args.literals.now (set left c.args.node c.of.result) new) (let e : suc c.args.node ≡ c.args.node + 1 = omega arith in e)
    (subst (λ (k : List Lit). IsBalancing count rows c.args.roots.now (suc c.args.node) c.args.literals.now (set left c.args.node k) new) (sym c.of.ensures)
    (gathered_wait count rows c.args.roots.now c.args.node c.args.literals.now c.args.waiting.now left new c.in-And.a c.in-And.b c.in_ok-leaves.leaves.items c.requires.balancing g same c.requires.above c.requires.inside c.in-And.is c.if-roots-node.false))
