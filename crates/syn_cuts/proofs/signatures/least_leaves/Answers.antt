use Rattle.std.proofs.Common.{ℕ, [], get_or, bit_or, count_ones, ap₂, arith}
use Rattle.std.proofs.lemmas.Nat.{ones-le, or_lt}
use Rattle.syn_cuts.proofs.Signing.{union_bits}
use Rattle.syn_cuts.proofs.signatures.least_leaves.Goals as goal

pub overflow_cast-result : goal.overflow_cast-result
overflow_cast-result c =
    let word = get_or c.args.words.now c.args.i 0 in
    let fits = c.type_inv.words c.args.i in
    let few = ones-le 64 (bit_or c.args.bits word) (or_lt 64 c.args.bits word (omega arith) (omega (arith, fits))) in
    omega (arith, few)

pub returns-then-i-words : goal.returns-then-i-words
returns-then-i-words c = λ cut others is are.
    let few = union_bits cut (get_or others c.args.i []) in
    let same = ap₂ (λ (x y : ℕ). count_ones (bit_or x y)) is (are c.args.i c.if-i-words.true) in
    omega (arith, few, same)
