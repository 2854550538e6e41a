use Rattle.std.proofs.Common.{ℕ, ◌^◌, ◌-◌, ◌*◌, ◌%◌, ap, ◌∙◌, nat_eq, bit_and, bit_or}
use Rattle.std.specs.Int.{bit_at}
use Rattle.syn_truth.specs.Truth.{minterm_of}
use Rattle.syn_truth.proofs.Operations.{cofactor_false_at}
use Rattle.syn_truth.proofs.words.with_false.Goals as goal

pub returns : goal.returns
returns c = λ xs within few.
    let low : ℕ = bit_and c.args.word (2 ^ 128 - 1 - c.variable.result) in
    ap (λ s. nat_eq (bit_at (bit_or low (low * 2 ^ s % 2 ^ 128)) (minterm_of xs)) 1) c.stride.ensures.stride
    ∙ ap (λ b. nat_eq b 1) (cofactor_false_at c.args.word c.variable.result c.args.i xs c.variable.ensures within few)
