use Rattle.std.proofs.Common.{ℕ, length, arith, rules, ap, subst}
use Rattle.std.specs.BinaryHeap.{heap_items}
use Rattle.std.specs.declared.cmp.Reverse.{Reverse}
use Rattle.syn_rows.specs.declared.Lit.{Lit}
use Rattle.syn_hashed.specs.Hashed.{IsHashed}
use Rattle.syn_balance.proofs.LevelLists.{level_found}
use Rattle.syn_hashed.proofs.LevelLaws.{length-levels}
use Rattle.syn_balance.proofs.Joins.{AreLeast, least_two, more_leaves, least_joined, least_rule}
use Rattle.syn_balance.proofs.joiner.join_least.Goals as goal

pub and-requires-clause-second : goal.and-requires-clause-second
and-requires-clause-second c =
    (least_two c.args.hashed.now.rows.items (heap_items c.args.heap.now) (heap_items c.pop.new.self) (heap_items c.pop-2.new.self) c.in-Some.field-0 c.in-Some-pop.field-0 c.requires.leaves
    c.in-Some.ensures.permutation (c.in-Some.ensures.below_top c.requires.order) c.in-Some-pop.ensures.permutation (c.in-Some-pop.ensures.below_top (search rules))).inside_b

pub index-level-requires : goal.index-level-requires
index-level-requires c = omega (arith, ap length c.in_ok-literal.ensures.levels, length-levels c.and.new.hashed.rows.items, c.in_ok-literal.ensures.there, c.node.ensures)

-- the joined leaf
abbrev joined : ℕ → Lit → Reverse (ℕ × Lit)
joined level l = record { 0 = (level, l) }

pub returns-clause-leaves : goal.returns-clause-leaves
returns-clause-leaves c =
    let s : AreLeast c.args.hashed.now.rows.items (heap_items c.args.heap.now) (heap_items c.pop-2.new.self) c.in-Some.field-0.0.1 c.in-Some-pop.field-0.0.1 =
    least_two c.args.hashed.now.rows.items (heap_items c.args.heap.now) (heap_items c.pop.new.self) (heap_items c.pop-2.new.self) c.in-Some.field-0 c.in-Some-pop.field-0 c.requires.leaves
    c.in-Some.ensures.permutation (c.in-Some.ensures.below_top c.requires.order) c.in-Some-pop.ensures.permutation (c.in-Some-pop.ensures.below_top (search rules)) in
    more_leaves c.args.hashed.now.rows.items c.and.new.hashed.rows.items (heap_items c.pop-2.new.self) (heap_items c.push.new.self) (joined c.index-level.result.now c.in_ok-literal.literal)
    c.in_ok-literal.ensures.grows s.rest c.in_ok-push.ensures.permutation c.in_ok-literal.ensures.there
    (level_found c.and.new.hashed.rows.items c.and.new.levels.items c.in_ok-literal.literal c.node.result c.index-level.result.now c.in_ok-literal.ensures.levels c.node.ensures c.in_ok-literal.ensures.there c.index-level.ensures)

pub returns-clause-joining : goal.returns-clause-joining
returns-clause-joining c =
    let s : AreLeast c.args.hashed.now.rows.items (heap_items c.args.heap.now) (heap_items c.pop-2.new.self) c.in-Some.field-0.0.1 c.in-Some-pop.field-0.0.1 =
    least_two c.args.hashed.now.rows.items (heap_items c.args.heap.now) (heap_items c.pop.new.self) (heap_items c.pop-2.new.self) c.in-Some.field-0 c.in-Some-pop.field-0 c.requires.leaves
    c.in-Some.ensures.permutation (c.in-Some.ensures.below_top c.requires.order) c.in-Some-pop.ensures.permutation (c.in-Some-pop.ensures.below_top (search rules)) in
    least_joined c.args.hashed.now.source_count c.args.hashed.now.rows.items c.and.new.hashed.rows.items (heap_items c.args.heap.now) (heap_items c.pop-2.new.self) (heap_items c.push.new.self) c.in-Some.field-0.0.1 c.in-Some-pop.field-0.0.1
    (joined c.index-level.result.now c.in_ok-literal.literal) s
    (subst (λ (k : ℕ). IsHashed k c.and.new.hashed.rows.items) c.in_ok-literal.ensures.sources c.and.new.hashed.hashed)
    c.in_ok-push.ensures.permutation c.in_ok-literal.ensures.grows c.in_ok-literal.ensures.few c.in_ok-literal.ensures.there c.in_ok-literal.ensures.value c.in_ok-literal.ensures.joined

pub returns-clause-least : goal.returns-clause-least
returns-clause-least c =
    let s : AreLeast c.args.hashed.now.rows.items (heap_items c.args.heap.now) (heap_items c.pop-2.new.self) c.in-Some.field-0.0.1 c.in-Some-pop.field-0.0.1 =
    least_two c.args.hashed.now.rows.items (heap_items c.args.heap.now) (heap_items c.pop.new.self) (heap_items c.pop-2.new.self) c.in-Some.field-0 c.in-Some-pop.field-0 c.requires.leaves
    c.in-Some.ensures.permutation (c.in-Some.ensures.below_top c.requires.order) c.in-Some-pop.ensures.permutation (c.in-Some-pop.ensures.below_top (search rules)) in
    least_rule c.args.hashed.now.rows.items c.and.new.hashed.rows.items (heap_items c.args.heap.now) (heap_items c.pop-2.new.self) (heap_items c.push.new.self) c.in-Some.field-0.0.1 c.in-Some-pop.field-0.0.1
    (joined c.index-level.result.now c.in_ok-literal.literal) s c.in_ok-push.ensures.permutation c.in_ok-literal.ensures.literal c.in_ok-literal.ensures.rows
