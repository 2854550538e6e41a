use Rattle.std.proofs.Common.{rules, ◌≡◌, ◌<◌, List, length, sym, subst, arith}
use Rattle.syn_rows.specs.declared.Row.{Row}
use Rattle.syn_rows.specs.Rows.{InOrder}
use Rattle.syn_hashed.specs.Indexed.{IsIndexOf}
use Rattle.syn_hashed.specs.Joined.{PairsOnce}
use Rattle.syn_gain.proofs.Bounds.{below_each}
use Rattle.syn_gain.proofs.NodesThere.{begun_placed}
use Rattle.syn_gain.proofs.Owning.{graph_order, graph_pairs, root_there}
use Rattle.syn_proposals.proofs.compatible.hits_of.Goals as goal

pub place_gates-requires : goal.place_gates-requires
place_gates-requires c =
    let graph = c.args.graph.now in
    let r = c.args.candidate in
    let slice = c.as_slice-rows.result.now in
    let rows : graph.rows ≡ slice = sym c.as_slice-rows.ensures in
    let there : r.root < length slice = subst (λ (rs : List Row). r.root < length rs) rows (root_there graph r.root c.requires.root) in
    let few : length slice < 536870912 = subst (λ (rs : List Row). length rs < 536870912) rows graph.few in (
      search rules,
      (
        record {
          indexed = subst (λ (rs : List Row). IsIndexOf rs c.args.uses.now.pairs) rows c.requires.uses.pairs;
          once = subst PairsOnce rows (graph_pairs graph);
          order = subst (λ (rs : List Row). InOrder rs) rows (graph_order graph);
          few = few;
          within = omega (arith, there);
        },
        (
          search rules,
          (
            search rules,
            (
              c.begin.ensures.none,
              begun_placed (length slice) r.plan.now.leaves r.leaves.now c.begin.new.self.literals.items c.begin.ensures.literals (omega (arith, there)) (omega (arith, few))
                  (λ i lt. omega (arith, below_each r.root r.leaves.now r.below_root i lt, there)),
            ),
          ),
        ),
      ),
    )
