use Rattle.std.proofs.Common.{refl, arith}
use Rattle.syn_proposals.specs.Following.{Follows}
use Rattle.syn_pool.proofs.Turning.{one_applied}
use Rattle.syn_pool.proofs.passes.checks.commit_or_apply.Goals as goal

pub returns : goal.returns
returns g c =
    let f : Follows c.args.viewed.now.graph.now 1 c.in_ok-next.next = c.in_ok-next.ensures.follows in (
      record { same = f.same; count = omega (arith, f.count) },
      omega (arith, f.count),
      λ _. omega arith,
      one_applied c.args.viewed.now.graph.now c.in_ok-next.next c.args.found.now (record { done = 0; gained = 0 }) refl refl f (λ i d lt. (c.requires.sound i d lt, c.requires.saves i d lt)) c.in_ok-next.ensures.applied,
    )
