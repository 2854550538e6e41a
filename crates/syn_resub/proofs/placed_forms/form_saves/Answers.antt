use Rattle.std.proofs.Common.{List, sym, ◌∙◌, subst}
use Rattle.syn_rows.specs.declared.Row.{Row}
use Rattle.syn_rows.specs.Rows.{InOrder}
use Rattle.syn_fanout_free.specs.Saved.{count_in}
use Rattle.syn_fanout_free.proofs.Ends.{reached_referred}
use Rattle.syn_gain.proofs.Owning.{as_owned, graph_order, nothing_saved, some_saved}
use Rattle.syn_resub.proofs.Saving.{extra_is, form_replacement}
use Rattle.syn_resub.proofs.placed_forms.form_saves.Goals as goal

pub gain_is_positive-requires-clause-order : goal.gain_is_positive-requires-clause-order
gain_is_positive-requires-clause-order c = subst (λ (r : List Row). InOrder r) (sym c.as_slice-rows.ensures) (graph_order c.args.graph.now)

pub gain_is_positive-requires-clause-referred : goal.gain_is_positive-requires-clause-referred
gain_is_positive-requires-clause-referred c =
    reached_referred c.as_slice-rows.result.now c.args.graph.now.observed (count_in c.as_slice-counts.result.now) c.args.node
    (as_owned c.args.graph.now c.args.uses.now c.args.node c.requires.uses c.requires.gate c.as_slice-rows.result.now c.as_slice-counts.result.now c.as_slice-rows.ensures c.as_slice-counts.ensures.value)

pub gain_is_positive-requires-clause-extra : goal.gain_is_positive-requires-clause-extra
gain_is_positive-requires-clause-extra c =
    extra_is c.args.graph.now c.args.node c.args.divided.now c.requires.divided c.args.form c.requires.made c.as_slice-rows.result.now c.as_slice-extra.result.now c.new_rows-made.result.root
    c.as_slice-rows.ensures c.new_rows-made.ensures.root (c.as_slice-extra.ensures.value ∙ c.new_rows-made.ensures.extra)

pub returns-clause-some : goal.returns-clause-some
returns-clause-some c =
    let graph = c.args.graph.now in
    some_saved graph.rows c.as_slice-rows.result.now c.as_slice-extra.result.now graph.observed (count_in c.as_slice-counts.result.now) (form_replacement graph c.args.node c.args.divided.now c.requires.divided c.args.form c.requires.made) c.new_rows-made.result.root c.gain_is_positive.result
    c.as_slice-rows.ensures c.new_rows-made.ensures.root (c.as_slice-extra.ensures.value ∙ c.new_rows-made.ensures.extra)
    (as_owned graph c.args.uses.now c.args.node c.requires.uses c.requires.gate c.as_slice-rows.result.now c.as_slice-counts.result.now c.as_slice-rows.ensures c.as_slice-counts.ensures.value)
    c.gain_is_positive.ensures.some

pub returns-clause-none : goal.returns-clause-none
returns-clause-none c =
    let graph = c.args.graph.now in
    nothing_saved graph.rows c.as_slice-rows.result.now c.as_slice-extra.result.now graph.observed (count_in c.as_slice-counts.result.now) (form_replacement graph c.args.node c.args.divided.now c.requires.divided c.args.form c.requires.made) c.new_rows-made.result.root c.gain_is_positive.result
    c.as_slice-rows.ensures c.new_rows-made.ensures.root (c.as_slice-extra.ensures.value ∙ c.new_rows-made.ensures.extra)
    (as_owned graph c.args.uses.now c.args.node c.requires.uses c.requires.gate c.as_slice-rows.result.now c.as_slice-counts.result.now c.as_slice-rows.ensures c.as_slice-counts.ensures.value)
    c.gain_is_positive.ensures.none
