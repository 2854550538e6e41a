use Rattle.std.proofs.lemmas.Result.{IfOk-weaker}
use Rattle.syn_absorb.specs.Nets.{IsAbsorbed}
use Rattle.syn_settled.specs.Settled.{IsSettled}
use Rattle.syn_settled.proofs.Keeping.{settled}
use Rattle.syn_settled.proofs.settling.settle.Goals as goal

pub returns : goal.returns
returns c =
    let trimmed = c.in_ok-trimmed.trimmed in
    IfOk-weaker c.absorb.result (IsAbsorbed trimmed) (IsSettled c.args.net.now) (λ now a. settled c.args.net.now trimmed now c.in_ok-trimmed.ensures a) c.absorb.ensures
