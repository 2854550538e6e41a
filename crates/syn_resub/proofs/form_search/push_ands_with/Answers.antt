use Rattle.std.proofs.Common.{List, drop, filter, map, arith, ap}
use Rattle.std.proofs.lemmas.List.{drop_all}
use Rattle.std.specs.List.{flat_map}
use Rattle.syn_resub.specs.declared.sides.Sides.{Sides}
use Rattle.syn_resub.specs.Forms.{ands_over, stands_for}
use Rattle.syn_resub.specs.Sides.{divisor_of}
use Rattle.syn_resub.proofs.Found.{found_end, with_step}
use Rattle.syn_resub.proofs.form_search.push_ands_with.Goals as goal

pub loop-second-preserved : goal.loop-second-preserved
loop-second-preserved c =
    let lt = c.loop-second-test.true in
    record {
      within = omega (arith, lt);
      few = c.push_ands_over.ensures.few;
      rest = with_step c.args.graph.now.rows c.args.divided.now.leaves.items c.args.node (divisor_of c.args.first.now) c.args.others.now c.loop-second.second-index c.second-item.result c.loop-second.found.items c.push_ands_over.new.found.items _ lt c.second-item.is c.push_ands_over.ensures.found c.loop-second.invariant.rest;
    }

pub returns-clause-found : goal.returns-clause-found
returns-clause-found c =
    found_end 16 c.loop-second.found.items (filter (stands_for c.args.graph.now.rows c.args.divided.now.leaves.items c.args.node) (flat_map (ands_over (divisor_of c.args.first.now)) (map divisor_of (drop c.loop-second.second-index c.args.others.now)))) _ c.loop-second.invariant.few
    (ap (λ (l : List Sides). filter (stands_for c.args.graph.now.rows c.args.divided.now.leaves.items c.args.node) (flat_map (ands_over (divisor_of c.args.first.now)) (map divisor_of l))) (drop_all c.loop-second.second-index c.args.others.now (omega (arith, c.loop-second-test.false))))
    c.loop-second.invariant.rest
