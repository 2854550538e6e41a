-- Each byte is tried at each minterm, by computing.
use Rattle.std.proofs.Common.{◌≡◌, ℕ, ◌*◌, ◌%◌, true, bit_and, bit_or, refl, subst, sym, arith}
use Rattle.syn_cones.proofs.Gaps.{gap_value, has_gap}
use Rattle.syn_cones.proofs.carried.with_gap.Goals as goal

abbrev pub fourth : ℕ → ℕ
fourth x = bit_or x (x * 256 % 65536)

abbrev pub nibbles : ℕ → ℕ
nibbles x = bit_and (bit_or x (x * 16 % 65536)) 3855

abbrev pub third : ℕ → ℕ
third x = bit_or (nibbles x) (nibbles x * 16 % 65536)

abbrev pub pairs : ℕ → ℕ
pairs x = bit_and (bit_or (nibbles x) (nibbles x * 4 % 65536)) 13107

abbrev pub second : ℕ → ℕ
second x = bit_or (pairs x) (pairs x * 4 % 65536)

abbrev pub bits : ℕ → ℕ
bits x = bit_and (bit_or (pairs x) (pairs x * 2 % 65536)) 21845

abbrev pub first : ℕ → ℕ
first x = bit_or (bits x) (bits x * 2 % 65536)

first_gap : has_gap first 0 ≡ true
first_gap = refl

second_gap : has_gap second 1 ≡ true
second_gap = refl

third_gap : has_gap third 2 ≡ true
third_gap = refl

fourth_gap : has_gap fourth 3 ≡ true
fourth_gap = refl

pub returns-then-i-eq3 : goal.returns-then-i-eq3
returns-then-i-eq3 c = λ xs inside few. gap_value fourth c.args.i c.args.word xs (subst (λ k. has_gap fourth k ≡ true) (sym c.if-i-eq3.true) fourth_gap) c.requires inside few

pub returns-then-i-eq2 : goal.returns-then-i-eq2
returns-then-i-eq2 c = λ xs inside few. gap_value third c.args.i c.args.word xs (subst (λ k. has_gap third k ≡ true) (sym c.if-i-eq2.true) third_gap) c.requires inside few

pub returns-then-i-eq1 : goal.returns-then-i-eq1
returns-then-i-eq1 c = λ xs inside few. gap_value second c.args.i c.args.word xs (subst (λ k. has_gap second k ≡ true) (sym c.if-i-eq1.true) second_gap) c.requires inside few

pub returns : goal.returns
returns c = λ xs inside few.
    let least : c.args.i ≡ 0 = omega arith in
    gap_value first c.args.i c.args.word xs (subst (λ k. has_gap first k ≡ true) (sym least) first_gap) c.requires inside few
