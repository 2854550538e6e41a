use Rattle.std.proofs.Common.{ℕ, ◌^◌, ◌-◌, ◌*◌, ◌/◌, ◌%◌, ap, ap₂, ◌∙◌, nat_eq, bit_and, bit_or, arith}
use Rattle.std.proofs.lemmas.Nat.{pow_below}
use Rattle.std.specs.Int.{bit_at}
use Rattle.syn_truth.specs.Truth.{minterm_of}
use Rattle.syn_truth.proofs.Swaps.{swap_at}
use Rattle.syn_truth.proofs.words.swapped.Goals as goal

pub overflow_sub-distance : goal.overflow_sub-distance
overflow_sub-distance c = omega (arith, pow_below c.args.low c.args.high c.requires.rising)

pub returns : goal.returns
returns c = λ xs within few.
    let n : ℕ = c.args.word in
    let ups : ℕ = bit_and c.variable-low_mask.result (2 ^ 128 - 1 - c.variable-high_mask.result) in
    let downs : ℕ = bit_and c.variable-high_mask.result (2 ^ 128 - 1 - c.variable-low_mask.result) in
    let stay : ℕ = bit_and n (2 ^ 128 - 1 - bit_or ups downs) in
    ap (λ s. nat_eq (bit_at (bit_or (bit_or stay (bit_and n ups * 2 ^ s % 2 ^ 128)) (bit_and n downs / 2 ^ s)) (minterm_of xs)) 1)
    (ap₂ (λ a b. a - b) c.stride.ensures.stride c.stride-2.ensures.stride)
    ∙ ap (λ b. nat_eq b 1)
    (swap_at n c.variable-low_mask.result c.variable-high_mask.result c.args.low c.args.high c.variable-low_mask.ensures c.variable-high_mask.ensures c.requires.rising c.requires.within xs within few)
