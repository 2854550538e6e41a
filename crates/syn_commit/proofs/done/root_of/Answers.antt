use Rattle.std.proofs.Common.{List, get_or, length, ap, ◌∙◌, arith}
use Rattle.std.proofs.lemmas.List.{get_or_default}
use Rattle.syn_decide.specs.declared.decisions.NodeRow.{NodeRow}
use Rattle.syn_commit.proofs.done.root_of.Goals as goal

pub returns : goal.returns
returns c d =
    let size = ap length c.inner.ensures.rows in
    get_or_default c.inner.result.now 0 _ d (omega (arith, size, c.requires)) ∙ ap (λ (rs : List NodeRow). get_or rs 0 d) c.inner.ensures.rows
