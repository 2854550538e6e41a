use Rattle.std.proofs.Common.{◌+◌, length, ap, sym, ◌∙◌, subst}
use Rattle.std.proofs.lemmas.List.{length_push}
use Rattle.syn_cut_functions.specs.Functions.{HaveFunctions}
use Rattle.syn_cut_functions.proofs.Listed.{more_listed}
use Rattle.syn_cut_functions.proofs.numbered.all_numbers.Goals as goal

pub loop-node-preserved : goal.loop-node-preserved
loop-node-preserved c =
    let rows = c.args.graph.now.rows in
    let was = c.loop-node.invariant in
    record {
      lists = c.in_ok-numbers.ensures.lists;
      count = ap length c.in_ok-push.ensures.items ∙ length_push c.loop-node.all.items _ ∙ ap (λ n. n + 1) was.count;
      functions = subst (HaveFunctions rows) (sym c.in_ok-push.ensures.items) (more_listed rows c.loop-node.all.items _ c.loop-node.node was.count was.functions c.in_ok-numbers.ensures.numbers);
    }
