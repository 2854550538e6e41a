use Rattle.std.proofs.Common.{◌^◌, ◌/◌, ap, ◌∙◌, nat_eq, bit_and, bit_or}
use Rattle.std.specs.Int.{bit_at}
use Rattle.syn_truth.specs.Truth.{minterm_of}
use Rattle.syn_truth.proofs.Operations.{cofactor_true_at}
use Rattle.syn_truth.proofs.words.with_true.Goals as goal

pub returns : goal.returns
returns c = λ xs within few.
    ap (λ s. nat_eq (bit_at (bit_or (bit_and c.args.word c.variable.result) (bit_and c.args.word c.variable.result / 2 ^ s)) (minterm_of xs)) 1) c.stride.ensures.stride
    ∙ ap (λ b. nat_eq b 1) (cofactor_true_at c.args.word c.variable.result c.args.i xs c.variable.ensures within few)
