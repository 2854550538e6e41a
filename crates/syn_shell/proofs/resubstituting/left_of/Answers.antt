use Rattle.std.proofs.lemmas.Result.{IfOk-weaker}
use Rattle.syn_absorb.specs.Nets.{IsAbsorbed}
use Rattle.syn_settled.specs.Settled.{IsSettled}
use Rattle.syn_settled.proofs.Keeping.{settled}
use Rattle.syn_shell.proofs.resubstituting.left_of.Goals as goal

pub returns : goal.returns
returns c =
    let left = c.in_ok-left.left in
    IfOk-weaker c.absorb.result (IsAbsorbed left) (IsSettled c.args.net.now) (λ now a. settled c.args.net.now left now c.in_ok-left.ensures a) c.absorb.ensures
