use Rattle.std.proofs.Common.{◌≡◌, ℕ, List, length, ap, arith}
use Rattle.syn_absorb.proofs.Narrowing.{ignores_twin, narrower, needed_all}
use Rattle.syn_absorb.proofs.narrow.narrowed.Goals as goal

pub returns-in-Some-clause-some : goal.returns-in-Some-clause-some
returns-in-Some-clause-some c =
    let lut = c.args.lut.now in
    let idle = c.in-Some.ensures.some in
    narrower lut c.without.result lut.truth c.as_slice-inputs.result.now c.in-Some.i c.as_slice-inputs.ensures.value c.without.ensures idle.1

pub returns-in-Some-clause-fewer : goal.returns-in-Some-clause-fewer
returns-in-Some-clause-fewer c = omega (arith, c.without.ensures.fewer, ap (λ (ns : List ℕ). length ns) c.as_slice-inputs.ensures.value)

pub returns-in-Some-first_twice-clause-some : goal.returns-in-Some-first_twice-clause-some
returns-in-Some-first_twice-clause-some c =
    let lut = c.args.lut.now in
    let inputs = c.as_slice-inputs.result.now in
    let twice = c.in-Some-first_twice.ensures.some in
    let vars : lut.truth.vars ≡ length inputs = omega (arith, lut.vars, ap (λ (ns : List ℕ). length ns) c.as_slice-inputs.ensures.value) in
    narrower lut c.without-in-Some-first_twice.result c.joined-truth.result inputs c.in-Some-first_twice.j c.as_slice-inputs.ensures.value c.without-in-Some-first_twice.ensures
    (λ w low. ignores_twin lut.truth c.joined-truth.result inputs c.in-Some-first_twice.i c.in-Some-first_twice.j vars twice.0 twice.1 twice.2 c.joined-truth.ensures.values w)

pub returns-in-Some-first_twice-clause-fewer : goal.returns-in-Some-first_twice-clause-fewer
returns-in-Some-first_twice-clause-fewer c = omega (arith, c.without-in-Some-first_twice.ensures.fewer, ap (λ (ns : List ℕ). length ns) c.as_slice-inputs.ensures.value)

pub returns-in-None-clause-none : goal.returns-in-None-clause-none
returns-in-None-clause-none c = needed_all c.args.lut.now c.as_slice-inputs.result.now c.as_slice-inputs.ensures.value c.in_default.ensures.none c.in-None.ensures.none
