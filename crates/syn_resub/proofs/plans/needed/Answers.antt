use Rattle.std.proofs.Common.{◌≡◌, length, sym, ◌∙◌, subst, arith}
use Rattle.std.proofs.lemmas.List.{take_all}
use Rattle.syn_resub.specs.Needed.{Needs}
use Rattle.syn_resub.proofs.Needing.{all_has, need_begins, need_ends}
use Rattle.syn_resub.proofs.plans.needed.Goals as goal

pub loop-i-init : goal.loop-i-init
loop-i-init c =
    let wanted : c.loop-root.wanted.items ≡ c.args.roots.now = c.loop-root.invariant.rest ∙ take_all c.loop-root.root-index c.args.roots.now (omega (arith, c.loop-root-test.false)) in
    record {
      within = omega arith;
      needs = subst (λ l. Needs c.args.graph.now.rows c.args.leaves.now c.args.nodes.now c.args.node c.args.roots.now (length c.args.nodes.now) c.loop-root.wanted.items l) (sym c.new-inner.ensures)
          (need_begins c.args.graph.now.rows c.args.leaves.now c.args.node c.args.nodes.now c.args.roots.now c.requires.divisors c.loop-root.wanted.items wanted c.requires.few (all_has c.args.nodes.now c.args.roots.now c.requires.there));
    }

pub returns : goal.returns
returns c =
    need_ends c.args.graph.now.rows c.args.leaves.now c.args.node c.args.nodes.now c.args.roots.now c.requires.divisors c.loop-i.gathered.wanted.items c.loop-i.gathered.inner.items
    (subst (λ k. Needs c.args.graph.now.rows c.args.leaves.now c.args.nodes.now c.args.node c.args.roots.now k c.loop-i.gathered.wanted.items c.loop-i.gathered.inner.items) (let past = c.loop-i-test.false in let none : c.loop-i.i ≡ 0 = omega (arith, past) in none) c.loop-i.invariant.needs)
