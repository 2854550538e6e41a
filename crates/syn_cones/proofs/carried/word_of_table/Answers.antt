use Rattle.std.proofs.Common.{◌<◌, ◌≤◌, length, sym, ap, ◌∙◌, nat_eq, arith}
use Rattle.std.proofs.Math.Nat.{pow-le-pow_right}
use Rattle.syn_truth.specs.Truth.{minterm_of}
use Rattle.syn_truth.proofs.Halves.{by_word, only_word}
use Rattle.syn_truth.proofs.Minterms.{minterm_below}
use Rattle.syn_truth.proofs.Operations.{bit_at_masked}
use Rattle.syn_cones.proofs.carried.word_of_table.Goals as goal

pub returns : goal.returns
returns c = λ xs len.
    let table = c.args.table in
    let few : length xs ≤ 4 = omega (arith, len, c.requires) in
    let low : minterm_of xs < 16 = omega (arith, minterm_below xs, pow-le-pow_right {n = 2} (omega arith) few) in
    ap (λ b. nat_eq b 1) (bit_at_masked table.low 16 (minterm_of xs) low)
    ∙ sym (by_word table xs len ∙ only_word table.low table.high xs (omega (arith, len, c.requires)))
