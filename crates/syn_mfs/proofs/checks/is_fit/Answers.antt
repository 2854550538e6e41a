use Rattle.std.proofs.Common.{rules, ◌≡◌, ℕ, true, List, length, ap, subst, arith}
use Rattle.std.specs.List.{list_all}
use Rattle.syn_lists.specs.Numbers.{distinct_numbers}
use Rattle.syn_lutnet.specs.LutData.{is_input}
use Rattle.syn_mfs.proofs.Later.{fit_from}
use Rattle.syn_mfs.proofs.checks.is_fit.Goals as goal

pub returns-in-None-clause-fit : goal.returns-in-None-clause-fit
returns-in-None-clause-fit c =
    let inputs : List ℕ = c.as_slice-inputs.result.now in
    let same = c.as_slice-inputs.ensures.value in
    let inside : list_all (is_input c.args.signal) inputs ≡ true = search rules in
    let once : distinct_numbers inputs ≡ true = rw c.in-None.is at c.first_twice.ensures.none in
    λ e.
    fit_from c.args.signal c.args.lut.now (omega (arith, ap (λ (is : List ℕ). length is) same, c.if-inputs-lt2.false)) (subst (λ (is : List ℕ). list_all (is_input c.args.signal) is ≡ true) same inside)
    (subst (λ (is : List ℕ). distinct_numbers is ≡ true) same once)
