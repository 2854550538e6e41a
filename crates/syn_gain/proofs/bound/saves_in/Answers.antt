use Rattle.std.proofs.Common.{rules, ◌≡◌, ◌<◌, length, List, sym, ap, ◌∙◌, subst}
use Rattle.syn_rows.specs.declared.Row.{Row}
use Rattle.syn_rows.specs.Rows.{InOrder}
use Rattle.syn_hashed.specs.Joined.{PairsOnce}
use Rattle.syn_fanout_free.specs.Saved.{count_in}
use Rattle.syn_fanout_free.proofs.Ends.{reached_referred}
use Rattle.syn_gain.specs.Proposals.{replacement_of}
use Rattle.syn_gain.specs.Replacements.{new_root_by, new_rows_by}
use Rattle.syn_gain.proofs.Owning.{as_owned, as_extra, candidate_below, graph_order, graph_pairs, nothing_saved, root_there, some_saved}
use Rattle.syn_gain.proofs.bound.saves_in.Goals as goal

pub place_into-row-requires : goal.place_into-row-requires
place_into-row-requires g c =
    let rows : c.args.graph.now.rows ≡ c.as_slice-rows.result.now = sym c.as_slice-rows.ensures in (
      search rules,
      (
        search rules,
        (
          subst PairsOnce rows (graph_pairs c.args.graph.now),
          (
            subst (λ (r : List Row). InOrder r) rows (graph_order c.args.graph.now),
            (search rules, (subst (λ (r : List Row). c.args.candidate.root < length r) rows (root_there c.args.graph.now c.args.candidate.root c.requires.root), (c.requires.room, c.requires.indexes))),
          ),
        ),
      ),
    )

pub gain_is_positive-requires-clause-order : goal.gain_is_positive-requires-clause-order
gain_is_positive-requires-clause-order g c = subst (λ (r : List Row). InOrder r) (sym c.as_slice-rows.ensures) (graph_order c.args.graph.now)

pub gain_is_positive-requires-clause-referred : goal.gain_is_positive-requires-clause-referred
gain_is_positive-requires-clause-referred g c =
    reached_referred c.as_slice-rows.result.now c.args.graph.now.observed (count_in c.as_slice.result.now) c.args.candidate.root
    (as_owned c.args.graph.now c.args.uses.now c.args.candidate.root c.requires.uses c.requires.root c.as_slice-rows.result.now c.as_slice.result.now c.as_slice-rows.ensures c.as_slice.ensures.value)

pub gain_is_positive-requires-clause-extra : goal.gain_is_positive-requires-clause-extra
gain_is_positive-requires-clause-extra g c =
    let graph = c.args.graph.now in
    let r = replacement_of c.args.candidate in
    as_extra graph r (candidate_below c.args.candidate) c.requires.root c.as_slice-rows.result.now c.as_slice-2.result.now c.place_into-row.result c.as_slice-rows.ensures
    (c.place_into-row.ensures.root ∙ ap (λ (rows : List Row). new_root_by rows r) c.as_slice-rows.ensures)
    (c.as_slice-2.ensures.value ∙ c.place_into-row.ensures.extra ∙ ap (λ (rows : List Row). new_rows_by rows r) c.as_slice-rows.ensures)

pub returns-clause-some : goal.returns-clause-some
returns-clause-some g c =
    let graph = c.args.graph.now in
    let r = replacement_of c.args.candidate in
    some_saved graph.rows c.as_slice-rows.result.now c.as_slice-2.result.now graph.observed (count_in c.as_slice.result.now) r c.place_into-row.result c.gain_is_positive.result
    c.as_slice-rows.ensures
    (c.place_into-row.ensures.root ∙ ap (λ (rows : List Row). new_root_by rows r) c.as_slice-rows.ensures)
    (c.as_slice-2.ensures.value ∙ c.place_into-row.ensures.extra ∙ ap (λ (rows : List Row). new_rows_by rows r) c.as_slice-rows.ensures)
    (as_owned graph c.args.uses.now r.root c.requires.uses c.requires.root c.as_slice-rows.result.now c.as_slice.result.now c.as_slice-rows.ensures c.as_slice.ensures.value)
    c.gain_is_positive.ensures.some

pub returns-clause-none : goal.returns-clause-none
returns-clause-none g c =
    let graph = c.args.graph.now in
    let r = replacement_of c.args.candidate in
    nothing_saved graph.rows c.as_slice-rows.result.now c.as_slice-2.result.now graph.observed (count_in c.as_slice.result.now) r c.place_into-row.result c.gain_is_positive.result
    c.as_slice-rows.ensures
    (c.place_into-row.ensures.root ∙ ap (λ (rows : List Row). new_root_by rows r) c.as_slice-rows.ensures)
    (c.as_slice-2.ensures.value ∙ c.place_into-row.ensures.extra ∙ ap (λ (rows : List Row). new_rows_by rows r) c.as_slice-rows.ensures)
    (as_owned graph c.args.uses.now r.root c.requires.uses c.requires.root c.as_slice-rows.result.now c.as_slice.result.now c.as_slice-rows.ensures c.as_slice.ensures.value)
    c.gain_is_positive.ensures.none
