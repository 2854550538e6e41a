use Rattle.std.proofs.Common.{◌^◌, ap, arith}
use Rattle.syn_truth.proofs.Minterms.{values_at, length-values_at, minterm_of-values_at, minterm_below}
use Rattle.syn_truth.proofs.laws.each_minterm.Goals as goal

pub returns : goal.returns
returns c = λ n. (λ m h. (values_at n m, length-values_at n m, minterm_of-values_at n m h), λ xs h. omega (arith, minterm_below xs, ap (λ k. 2 ^ k) h))
