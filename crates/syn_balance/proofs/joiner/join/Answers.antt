use Rattle.std.proofs.Common.{◌≡◌, ◌∙◌, ℕ, suc, List, map, length, refl, ap, subst, arith, rules}
use Rattle.std.specs.List.Sorted.{IsPermutation}
use Rattle.std.proofs.lemmas.List.{length-map}
use Rattle.std.specs.BinaryHeap.{heap_items}
use Rattle.std.specs.declared.cmp.Reverse.{Reverse}
use Rattle.syn_rows.specs.declared.Lit.{Lit}
use Rattle.syn_rows.specs.Levels.{levels_of}
use Rattle.syn_hashed.proofs.LevelLaws.{length-levels}
use Rattle.syn_balance.specs.Heaps.{leaf, literal_in}
use Rattle.syn_balance.proofs.Joins.{heap_begins, joining_through}
use Rattle.syn_balance.proofs.joiner.join.Goals as goal

pub with_levels-requires : goal.with_levels-requires
with_levels-requires c i d lt =
    let there = c.requires.there i d lt in
    omega (arith, there, ap length c.as_slice.ensures.value, ap length c.requires.levels, length-levels c.args.hashed.now.rows.items)

pub loop-hashed-init : goal.loop-hashed-init
loop-hashed-init c =
    let same : c.as_slice.result.now ≡ levels_of c.args.hashed.now.rows.items = c.as_slice.ensures.value ∙ c.requires.levels in
    let begun = heap_begins c.args.hashed.now.rows.items c.as_slice.result.now c.args.leaves.now (heap_items c.from-heap.result) same c.requires.there
    (subst (λ (k : List (Reverse (ℕ × Lit))). IsPermutation k (heap_items c.from-heap.result)) c.in_ok-entries.ensures c.from-heap.ensures.1) in
    record {
      sources = search rules;
      levels = c.requires.levels;
      entries = begun.0;
      order = c.from-heap.ensures.2;
      some = omega (arith, c.from-heap.ensures.0, ap length c.in_ok-entries.ensures, length-map c.args.leaves.now (leaf c.as_slice.result.now), c.requires.some);
      joined = (0, (refl, begun.2));
      joining = begun.1;
    }

pub loop-hashed-preserved : goal.loop-hashed-preserved
loop-hashed-preserved c =
    let one = c.in_ok-join_least.ensures in
    let so_far = c.loop-hashed.invariant.joined in
    record {
      sources = search rules;
      levels = one.levels;
      entries = one.leaves;
      order = one.order;
      some = omega (arith, one.fewer);
      joined = (suc so_far.0, (c.loop-hashed.hashed.rows.items, map literal_in (heap_items c.loop-hashed.heap), so_far.1, one.least));
      joining = joining_through c.args.hashed.now.rows.items c.loop-hashed.hashed.rows.items c.join_least.new.hashed.rows.items c.args.leaves.now (map literal_in (heap_items c.loop-hashed.heap)) (map literal_in (heap_items c.join_least.new.heap)) c.loop-hashed.invariant.joining one.joining;
    }
