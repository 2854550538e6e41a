use Rattle.std.proofs.Common.{length, ap, ◌∙◌, arith}
use Rattle.syn_netlist.specs.Lists.{Frame, observed}
use Rattle.syn_aiger.proofs.Graphed.{as_many, body_with, can_with, few_with}
use Rattle.syn_aiger.proofs.reader.body_of.Goals as goal

pub compact-requires-clause-can : goal.compact-requires-clause-can
compact-requires-clause-can c =
    let g = c.args.file.now.aig in
    can_with g c.args.file.now.sound c.requires.defined c.requires.rank c.in_ok-lits.ensures.defined c.source_count-count.result c.as_slice.result.now c.as_slice-2.result.now c.source_count-count.ensures (c.as_slice.ensures.value ∙ c.in_ok-rows.ensures) (c.as_slice-2.ensures.value ∙ c.in_ok-lits.ensures.lits)

pub compact-requires-clause-few : goal.compact-requires-clause-few
compact-requires-clause-few c =
    let g = c.args.file.now.aig in
    let le = few_with g c.args.file.now.sound c.requires.defined c.requires.rank c.in_ok-lits.ensures.defined c.source_count-count.result c.as_slice.result.now c.as_slice-2.result.now c.source_count-count.ensures (c.as_slice.ensures.value ∙ c.in_ok-rows.ensures) (c.as_slice-2.ensures.value ∙ c.in_ok-lits.ensures.lits) in omega arith

pub compact-requires-clause-lits : goal.compact-requires-clause-lits
compact-requires-clause-lits c =
    let g = c.args.file.now.aig in
    let many = ap length (c.as_slice-2.ensures.value ∙ c.in_ok-lits.ensures.lits) ∙ as_many g c.args.file.now.sound c.requires.defined c.requires.rank c.in_ok-lits.ensures.defined in
    omega (arith, many, c.few_observed.ensures, c.requires.names, ap (λ (f : Frame). length (observed f)) c.requires.frame)

pub returns-clause-body : goal.returns-clause-body
returns-clause-body c =
    let g = c.args.file.now.aig in
    body_with g c.args.file.now.sound c.requires.defined c.requires.rank c.in_ok-lits.ensures.defined c.source_count-count.result c.as_slice.result.now c.as_slice-2.result.now c.source_count-count.ensures (c.as_slice.ensures.value ∙ c.in_ok-rows.ensures) (c.as_slice-2.ensures.value ∙ c.in_ok-lits.ensures.lits)
    c.in_ok-body.body.rows c.in_ok-body.body.observed c.in_ok-body.ensures.compacted
