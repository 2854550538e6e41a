use Rattle.std.proofs.lemmas.Result.{IfOk-weaker}
use Rattle.syn_settled.specs.Fewest.{AreWrittenLutsOf}
use Rattle.syn_settled.specs.Settled.{IsSettled}
use Rattle.syn_settled.proofs.Keeping.{written}
use Rattle.syn_settled.proofs.fewest.found.Goals as goal

pub returns : goal.returns
returns c =
    let graph = c.args.graph.now in
    let was = c.in_ok-mapped.mapped in
    IfOk-weaker c.settle.result (IsSettled was) (AreWrittenLutsOf c.args.k graph) (λ now s. written c.args.k graph was now c.in_ok-mapped.ensures s) c.settle.ensures
