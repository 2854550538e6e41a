use Rattle.std.proofs.Common.{sym}
use Rattle.syn_npn.proofs.Least.{canon_key-canon}
use Rattle.syn_npn.proofs.classes.of_key.Goals as goal

pub returns-clause-canon : goal.returns-clause-canon
returns-clause-canon c = λ f e.
    let told = c.at-transform.ensures in
    canon_key-canon f c.args.key c.at-transform.result e (sym told.perm) (sym told.flips) (sym told.neg)
