use Rattle.std.proofs.Common.{◌<◌, length, map, filter, ap, ◌∙◌, sym, ◌++◌, arith}
use Rattle.std.proofs.lemmas.List.{append-nil, drop_all}
use Rattle.syn_resub.specs.Sides.{divisor_of, may_stand}
use Rattle.syn_resub.proofs.Found.{passes_step}
use Rattle.syn_resub.proofs.sides.all_sides.Goals as goal

pub loop-place-preserved : goal.loop-place-preserved
loop-place-preserved c =
    let nodes = c.args.divided.now.nodes.items in
    let lt : c.loop-place.place < length nodes = omega (arith, c.loop-place-test.true, c.len-place-end.ensures.value) in
    record {
      within = omega (arith, lt);
      few = c.push_sides.ensures.few;
      rest = passes_step (may_stand c.args.graph.now.rows c.args.divided.now.leaves.items c.args.node) nodes c.loop-place.place (map divisor_of c.loop-place.all.items) (map divisor_of c.push_sides.new.all.items) _ lt c.push_sides.ensures.divisors c.loop-place.invariant.rest;
      sides = c.push_sides.ensures.sides c.loop-place.invariant.sides;
    }

pub returns-clause-divisors : goal.returns-clause-divisors
returns-clause-divisors c =
    let nodes = c.args.divided.now.nodes.items in
    sym (ap (λ l. map divisor_of c.loop-place.all.items ++ filter (may_stand c.args.graph.now.rows c.args.divided.now.leaves.items c.args.node) l) (drop_all c.loop-place.place nodes (omega (arith, c.loop-place-test.false, c.len-place-end.ensures.value))) ∙ append-nil (map divisor_of c.loop-place.all.items))
    ∙ c.loop-place.invariant.rest
