use Rattle.std.proofs.Common.{◌-◌, ◌/◌, ◌^◌, ◌≤◌, ap, ◌∙◌, arith}
use Rattle.std.proofs.Math.Nat.{pow-le-pow_right}
use Rattle.std.proofs.lemmas.Nat.{one_shl}
use Rattle.std.proofs.lemmas.Nat.Bits.{ones_shr}
use Rattle.syn_cones.proofs.words.ones.Goals as goal

pub overflow_sub-result : goal.overflow_sub-result
overflow_sub-result c =
    let below : 2 ^ c.args.vars ≤ 2 ^ 6 = pow-le-pow_right (omega arith) c.requires in
    let shifted = one_shl c.args.vars 32 (omega arith) in
    omega (arith, below, shifted)

pub returns : goal.returns
returns c =
    let below : 2 ^ c.args.vars ≤ 2 ^ 6 = pow-le-pow_right (omega arith) c.requires in
    ap (λ k. (2 ^ 64 - 1) / 2 ^ (64 - k)) (one_shl c.args.vars 32 (omega arith))
    ∙ ones_shr 64 (64 - 2 ^ c.args.vars) (omega arith)
    ∙ ap (λ k. 2 ^ k - 1) (omega arith)
