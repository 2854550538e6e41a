use Rattle.std.proofs.Common.{◌<◌, List, ℕ, drop, filter, length, map, ap, arith}
use Rattle.std.specs.List.{flat_map}
use Rattle.std.proofs.lemmas.List.{drop_all}
use Rattle.syn_resub.specs.declared.forms.Form.TheVariants.{One}
use Rattle.syn_resub.specs.Forms.{literals_of, stands_for}
use Rattle.syn_resub.proofs.Found.{divisors_step, found_end}
use Rattle.syn_resub.proofs.form_search.push_divisors.Goals as goal

pub loop-place-preserved : goal.loop-place-preserved
loop-place-preserved c =
    let lt : c.loop-place.place < length c.args.divided.now.nodes.items = omega (arith, c.loop-place-test.true, c.len-place-end.ensures.value) in
    record {
      within = omega (arith, lt);
      few = c.push_divisor.ensures.few;
      rest = divisors_step c.args.graph.now.rows c.args.divided.now.leaves.items c.args.node c.args.divided.now.nodes.items c.loop-place.place c.loop-place.found.items c.push_divisor.new.found.items _ lt c.push_divisor.ensures.found c.loop-place.invariant.rest;
    }

pub returns-clause-found : goal.returns-clause-found
returns-clause-found c =
    found_end 16 c.loop-place.found.items (filter (stands_for c.args.graph.now.rows c.args.divided.now.leaves.items c.args.node) (map One (flat_map literals_of (drop c.loop-place.place c.args.divided.now.nodes.items)))) _ c.loop-place.invariant.few
    (ap (λ (l : List ℕ). filter (stands_for c.args.graph.now.rows c.args.divided.now.leaves.items c.args.node) (map One (flat_map literals_of l))) (drop_all c.loop-place.place c.args.divided.now.nodes.items (omega (arith, c.loop-place-test.false, c.len-place-end.ensures.value))))
    c.loop-place.invariant.rest
