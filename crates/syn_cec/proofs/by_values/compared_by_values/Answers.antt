use Rattle.std.proofs.Common.{ℕ, ◌^◌, Bool, IfNone, IfSome, List, Option, ap, subst, arith}
use Rattle.std.proofs.lemmas.Nat.{one_shl}
use Rattle.syn_truth.proofs.Minterms.{minterm_below}
use Rattle.syn_cec.specs.Compared.{DiffersAt, SameAt}
use Rattle.syn_cec.proofs.Padding.{below_next, same_at_all}
use Rattle.syn_cec.proofs.by_values.compared_by_values.Goals as goal

pub returns-in-Some : goal.returns-in-Some
returns-in-Some c =
    let first = c.args.first.now in
    let second = c.args.second.now in
    let at : DiffersAt first second c.as_slice.result.now c.in-Some.signal =
    subst (λ (o : Option ℕ). IfSome o (DiffersAt first second c.as_slice.result.now)) c.in-Some.is c.in_ok-signal.ensures.some in
    (c.in_ok-values.ensures.count, subst (λ (bits : List Bool). DiffersAt first second bits c.in-Some.signal) c.as_slice.ensures.value at)

pub loop-number-preserved : goal.loop-number-preserved
loop-number-preserved c =
    let first = c.args.first.now in
    let second = c.args.second.now in
    let same : SameAt first second c.as_slice.result.now = subst (λ (o : Option ℕ). IfNone o (SameAt first second c.as_slice.result.now)) c.in-None.is c.in_ok-signal.ensures.none in
    below_next first second first.source_count c.loop-number.number c.in_ok-values.values.items c.in_ok-values.ensures.count c.in_ok-values.ensures.minterm
    (subst (λ (bits : List Bool). SameAt first second bits) c.as_slice.ensures.value same) c.loop-number.invariant

pub returns : goal.returns
returns c =
    let first = c.args.first.now in
    same_at_all first c.args.second.now c.requires.sources
    (λ xs long. c.loop-number.invariant xs long
    (omega (arith, minterm_below xs, ap (λ (k : ℕ). 2 ^ k) long, one_shl first.source_count 32 (omega (arith, c.requires.few)), c.loop-number-test.false, c.loop-number.auto.number-end)))
