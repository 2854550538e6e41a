use Rattle.std.proofs.Common.{List, length, ap, ap₂, ◌∙◌}
use Rattle.syn_rows.specs.declared.Lit.{Lit}
use Rattle.syn_rows.specs.declared.Row.{Row}
use Rattle.syn_rows.specs.Rows.{lits_within, refs_within}
use Rattle.syn_seq.proofs.Within.{needing_count, needing_within, outputs_within}
use Rattle.syn_seq.proofs.needs.needed.Goals as goal

pub reached-requires-clause-rows : goal.reached-requires-clause-rows
reached-requires-clause-rows c = ap refs_within (c.as_slice.ensures.value ∙ c.in_ok-rows.ensures) ∙ needing_within c.network_of_graph.ensures c.args.graph.now

pub reached-requires-clause-observed : goal.reached-requires-clause-observed
reached-requires-clause-observed c =
    ap₂ (λ (rows : List Row) (lits : List Lit). lits_within rows lits) (c.as_slice.ensures.value ∙ c.in_ok-rows.ensures) (c.as_slice-2.ensures.value ∙ c.in_ok-outputs.ensures)
    ∙ outputs_within c.network_of_graph.ensures c.args.graph.now

pub returns-clause-length : goal.returns-clause-length
returns-clause-length c = c.in_ok-marks.ensures.length ∙ ap length (c.as_slice.ensures.value ∙ c.in_ok-rows.ensures) ∙ needing_count c.network_of_graph.ensures c.args.graph.now
