use Rattle.std.proofs.Common.{ap, arith}
use Rattle.std.proofs.Math.Nat.{pow-le-pow_right}
use Rattle.syn_truth.specs.Truth.{minterm_of}
use Rattle.syn_truth.proofs.Minterms.{minterm_below}
use Rattle.syn_truth.proofs.Operations.{bit_at_masked}
use Rattle.std.proofs.Common.{◌<◌, nat_eq}
use Rattle.syn_cones.proofs.carried.short.Goals as goal

pub returns : goal.returns
returns c = λ xs few.
    let low : minterm_of xs < 16 = omega (arith, minterm_below xs, pow-le-pow_right {n = 2} (omega arith) few) in
    ap (λ b. nat_eq b 1) (bit_at_masked c.args.word 16 (minterm_of xs) low)
