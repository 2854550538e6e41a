use Rattle.std.proofs.Common.{List, ◌+◌, ◌-◌, ◌++◌, length, take, ap, ◌∙◌}
use Rattle.std.proofs.lemmas.List.{take_rest}
use Rattle.syn_rows.specs.declared.Row.{Row}
use Rattle.syn_seq.proofs.Needing.{needing_are}
use Rattle.syn_seq.proofs.needs.needing_rows.Goals as goal

pub returns : goal.returns
returns c =
    let all : List Row = c.as_slice-all.result.now in
    let front : List Row = take (c.args.graph.now.body.source_count + 1 - length c.as_slice-latches.result.now) all in
    c.in_ok-rows.ensures
    ∙ ap (λ (x : List Row). front ++ (c.deref.result.now ++ x)) (take_rest all (c.args.graph.now.body.source_count + 1))
    ∙ needing_are c.network_of_graph.ensures c.args.graph.now c.args.lits.now c.requires.lits all c.deref.result.now c.as_slice-latches.result.now c.as_slice-all.ensures (c.deref.ensures.value ∙ c.in_ok-needs.ensures) c.as_slice-latches.ensures
