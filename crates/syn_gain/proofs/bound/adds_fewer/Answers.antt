use Rattle.std.proofs.Common.{rules, ◌≡◌, ◌<◌, List, length, nat_lt, sym, ap, ◌∙◌, subst}
use Rattle.syn_rows.specs.declared.Row.{Row}
use Rattle.syn_rows.specs.Rows.{InOrder}
use Rattle.syn_hashed.specs.Joined.{PairsOnce}
use Rattle.syn_gain.specs.Proposals.{replacement_of}
use Rattle.syn_gain.specs.Searching.{new_rows_anywhere}
use Rattle.syn_gain.proofs.Owning.{graph_order, graph_pairs, root_there}
use Rattle.syn_gain.proofs.bound.adds_fewer.Goals as goal

pub adds_fewer_anywhere-requires : goal.adds_fewer_anywhere-requires
adds_fewer_anywhere-requires c =
    let rows : c.args.graph.now.rows ≡ c.as_slice-rows.result.now = sym c.as_slice-rows.ensures in (
      search rules,
      (
        search rules,
        (
          subst PairsOnce rows (graph_pairs c.args.graph.now),
          (
            subst (λ (r : List Row). InOrder r) rows (graph_order c.args.graph.now),
            (search rules, (subst (λ (r : List Row). c.args.candidate.root < length r) rows (root_there c.args.graph.now c.args.candidate.root c.requires.root), (c.is_small.ensures.few c.if-is_small.true, search rules))),
          ),
        ),
      ),
    )

pub returns-then-is_small : goal.returns-then-is_small
returns-then-is_small c = c.adds_fewer_anywhere.ensures ∙ ap (λ (rows : List Row). nat_lt (length (new_rows_anywhere rows (replacement_of c.args.candidate))) c.args.limit) c.as_slice-rows.ensures
