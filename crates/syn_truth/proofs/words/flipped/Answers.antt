use Rattle.std.proofs.Common.{ℕ, ◌^◌, ◌-◌, ◌*◌, ◌/◌, ◌%◌, ap, ◌∙◌, nat_eq, bit_and, bit_or}
use Rattle.std.specs.Int.{bit_at}
use Rattle.syn_truth.specs.Truth.{minterm_of}
use Rattle.syn_truth.proofs.Operations.{flip_at}
use Rattle.syn_truth.proofs.words.flipped.Goals as goal

pub returns : goal.returns
returns c = λ xs within few.
    let high : ℕ = bit_and c.args.word c.variable-mask.result in
    let low : ℕ = bit_and c.args.word (2 ^ 128 - 1 - c.variable-mask.result) in
    ap (λ s. nat_eq (bit_at (bit_or (high / 2 ^ s) (low * 2 ^ s % 2 ^ 128)) (minterm_of xs)) 1) c.stride-distance.ensures.stride
    ∙ ap (λ b. nat_eq b 1) (flip_at c.args.word c.variable-mask.result c.args.i xs c.variable-mask.ensures within few)
