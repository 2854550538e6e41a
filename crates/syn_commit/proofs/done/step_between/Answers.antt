use Rattle.std.proofs.Common.{◌+◌, ◌-◌, ◌≤◌, sym, subst, arith}
use Rattle.std.proofs.lemmas.Nat.{le-div}
use Rattle.syn_commit.proofs.done.step_between.Goals as goal

pub returns-clause-some : goal.returns-clause-some
returns-clause-some c =
    subst (λ k. 1 ≤ k) (sym c.in-Some.ensures.even) (le-div 1 (c.args.high - c.args.low) (c.args.need + 1) (omega arith) (let room = c.in-Some.ensures.room in omega (arith, room)))

pub returns-clause-below : goal.returns-clause-below
returns-clause-below c = c.in-Some.ensures.below c.args.need (omega arith)
