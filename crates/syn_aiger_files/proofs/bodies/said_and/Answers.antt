use Rattle.std.proofs.Common.{sym, ◌∙◌, arith}
use Rattle.syn_aiger_files.proofs.Saying.{says_and}
use Rattle.syn_aiger_files.proofs.bodies.said_and.Goals as goal

pub returns-then-second-most : goal.returns-then-second-most
returns-then-second-most c ls seen =
    let d = c.in_ok-define-in-Three.ensures ls seen in (
      says_and c.args.most ls c.in-Three.literal c.in-Three.first c.in-Three.second c.args.numbers c.in-Three.is (sym d.0 ∙ c.if-branch.true) (omega (arith, c.if-first-most.true)) (omega (arith, c.if-second-most.true)),
      d.1 c.if-branch.true,
    )
