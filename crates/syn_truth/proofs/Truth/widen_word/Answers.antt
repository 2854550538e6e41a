use Rattle.std.proofs.Common.{◌≡◌, ℕ, suc, ◌+◌, ◌<◌, ◌^◌, ◌*◌, ◌%◌, min, length, take, sym, subst, ap, ◌∙◌, nat_eq, bit_or, arith}
use Rattle.std.proofs.lemmas.List.{length-take-le}
use Rattle.std.specs.Int.{bit_at}
use Rattle.syn_truth.specs.Truth.{minterm_of}
use Rattle.syn_truth.proofs.Operations.{widen_at, widen_below}
use Rattle.syn_truth.proofs.Halves.{by_word, only_word, whole_width}
use Rattle.syn_truth.proofs.Truth.widen_word.Goals as goal

pub returns-clause-values : goal.returns-clause-values
returns-clause-values c = λ xs e.
    let count : length (take c.args.self.vars xs) ≡ c.args.self.vars = length-take-le c.args.self.vars xs (omega (arith, e)) in
    let small : c.args.self.low < 2 ^ (2 ^ c.args.self.vars) = omega (arith, c.args.self.low_small, ap (λ k. 2 ^ k) (whole_width c.args.self.vars (omega (arith, c.requires)))) in
    by_word _ xs e
    ∙ only_word (bit_or c.args.self.low (c.args.self.low * 2 ^ c.stride.result % 2 ^ 128)) 0 xs (omega (arith, e, c.requires))
    ∙ ap (λ s. nat_eq (bit_at (bit_or c.args.self.low (c.args.self.low * 2 ^ s % 2 ^ 128)) (minterm_of xs)) 1) c.stride.ensures.stride
    ∙ ap (λ b. nat_eq b 1) (widen_at c.args.self.low c.args.self.vars xs c.requires (omega (arith, e)) small)
    ∙ sym (by_word c.args.self (take c.args.self.vars xs) count ∙ only_word c.args.self.low c.args.self.high (take c.args.self.vars xs) (omega (arith, count, c.requires)))

pub invariant_of-result-clause-low_small : goal.invariant_of-result-clause-low_small
invariant_of-result-clause-low_small c =
    let small : c.args.self.low < 2 ^ (2 ^ c.args.self.vars) = omega (arith, c.args.self.low_small, ap (λ k. 2 ^ k) (whole_width c.args.self.vars (omega (arith, c.requires)))) in
    let width : 2 ^ suc c.args.self.vars ≡ min (2 ^ (c.args.self.vars + 1)) 128 = ap (λ k. 2 ^ k) (omega arith) ∙ sym (whole_width (c.args.self.vars + 1) (omega (arith, c.requires))) in
    subst (λ (k : ℕ). bit_or c.args.self.low (c.args.self.low * 2 ^ c.stride.result % 2 ^ 128) < 2 ^ k) width
    (subst (λ (s : ℕ). bit_or c.args.self.low (c.args.self.low * 2 ^ s % 2 ^ 128) < 2 ^ (2 ^ suc c.args.self.vars)) (sym c.stride.ensures.stride)
    (widen_below c.args.self.low c.args.self.vars c.requires small))
