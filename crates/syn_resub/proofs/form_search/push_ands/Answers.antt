use Rattle.std.proofs.Common.{◌≡◌, ◌++◌, rules, List, drop, filter, length, map, take, arith, ap, ◌∙◌, sym}
use Rattle.std.proofs.lemmas.List.{drop_all}
use Rattle.std.specs.List.{flat_map}
use Rattle.syn_resub.specs.declared.sides.Sides.{Sides}
use Rattle.syn_resub.specs.Forms.{all_ands, ands_over, stands_for}
use Rattle.syn_resub.specs.Sides.{divisor_of}
use Rattle.syn_resub.proofs.Found.{ands_step, found_end, found_full}
use Rattle.syn_resub.proofs.form_search.push_ands.Goals as goal

pub loop-i-preserved : goal.loop-i-preserved
loop-i-preserved c =
    let lt = c.loop-i-test.true in
    record {
      within = omega (arith, lt);
      few = c.push_ands_with.ensures.few;
      rest = ands_step c.args.graph.now.rows c.args.divided.now.leaves.items c.args.node c.args.sides.now c.loop-i.i c.index-sides-i.result c.loop-i.found.items c.push_ands_with.new.found.items _ lt c.index-sides-i.is
          (c.push_ands_with.ensures.found
          ∙ ap (λ (l : List Sides). take 16 (c.loop-i.found.items ++ filter (stands_for c.args.graph.now.rows c.args.divided.now.leaves.items c.args.node) (flat_map (ands_over (divisor_of c.index-sides-i.result)) (map divisor_of l)))) c.split_at.ensures.back)
          c.loop-i.invariant.rest;
    }

pub returns-then-is_full-clause-found : goal.returns-then-is_full-clause-found
returns-then-is_full-clause-found c =
    let rows = c.args.graph.now.rows in
    let leaves = c.args.divided.now.leaves.items in
    let full : length c.loop-i.found.items ≡ 16 = search rules in
    sym (found_full 16 c.loop-i.found.items (filter (stands_for rows leaves c.args.node) (all_ands (map divisor_of (drop c.loop-i.i c.args.sides.now)))) full) ∙ c.loop-i.invariant.rest

pub returns-clause-found : goal.returns-clause-found
returns-clause-found c =
    found_end 16 c.loop-i.found.items (filter (stands_for c.args.graph.now.rows c.args.divided.now.leaves.items c.args.node) (all_ands (map divisor_of (drop c.loop-i.i c.args.sides.now)))) _ c.loop-i.invariant.few
    (ap (λ (l : List Sides). filter (stands_for c.args.graph.now.rows c.args.divided.now.leaves.items c.args.node) (all_ands (map divisor_of l))) (drop_all c.loop-i.i c.args.sides.now (omega (arith, c.loop-i-test.false))))
    c.loop-i.invariant.rest
