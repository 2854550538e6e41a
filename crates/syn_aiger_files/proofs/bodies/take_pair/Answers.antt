use Rattle.std.proofs.Common.{ℕ, List, option_map, sym, ap, ◌∙◌, arith, Bor}
use Rattle.syn_aiger_files.specs.Texts.{delta}
use Rattle.syn_aiger_files.proofs.Pairing.{pair_cut, pair_far, pair_good, pair_none, pair_under, pair_zero}
use Rattle.syn_aiger_files.proofs.bodies.take_pair.Goals as goal

pub returns-in_default-clause-pair : goal.returns-in_default-clause-pair
returns-in_default-clause-pair c = pair_none c.args.literal (delta 5 c.args.bytes.now) (ap (option_map (λ (r : ℕ × Bor (List ℕ)). (r.0, r.1.now))) (sym c.in_default.is) ∙ c.delta.ensures.value)

pub returns-then-by-eq0-clause-pair : goal.returns-then-by-eq0-clause-pair
returns-then-by-eq0-clause-pair c = pair_zero c.args.literal (delta 5 c.args.bytes.now) c.in-Some.by c.in-Some.rest.now (ap (option_map (λ (r : ℕ × Bor (List ℕ)). (r.0, r.1.now))) (sym c.in-Some.is) ∙ c.delta.ensures.value) (omega (arith, c.if-by-eq0.true))

pub returns-then-by-literal-clause-pair : goal.returns-then-by-literal-clause-pair
returns-then-by-literal-clause-pair c = pair_far c.args.literal (delta 5 c.args.bytes.now) c.in-Some.by c.in-Some.rest.now (ap (option_map (λ (r : ℕ × Bor (List ℕ)). (r.0, r.1.now))) (sym c.in-Some.is) ∙ c.delta.ensures.value) (omega (arith, c.if-by-literal.true))

pub returns-in_default-delta-clause-pair : goal.returns-in_default-delta-clause-pair
returns-in_default-delta-clause-pair c = pair_cut c.args.literal (delta 5 c.args.bytes.now) c.in-Some.by c.in-Some.rest.now (ap (option_map (λ (r : ℕ × Bor (List ℕ)). (r.0, r.1.now))) (sym c.in-Some.is) ∙ c.delta.ensures.value) (omega (arith, c.if-by-eq0.false)) (omega (arith, c.if-by-literal.false)) (ap (option_map (λ (r : ℕ × Bor (List ℕ)). (r.0, r.1.now))) (sym c.in_default-delta.is) ∙ c.delta-2.ensures.value)

pub returns-then-under-first-clause-pair : goal.returns-then-under-first-clause-pair
returns-then-under-first-clause-pair c = pair_under c.args.literal (delta 5 c.args.bytes.now) c.in-Some.by c.in-Some.rest.now (ap (option_map (λ (r : ℕ × Bor (List ℕ)). (r.0, r.1.now))) (sym c.in-Some.is) ∙ c.delta.ensures.value) (omega (arith, c.if-by-eq0.false)) (omega (arith, c.if-by-literal.false)) c.in-Some-delta.under c.in-Some-delta.rest.now (ap (option_map (λ (r : ℕ × Bor (List ℕ)). (r.0, r.1.now))) (sym c.in-Some-delta.is) ∙ c.delta-2.ensures.value) (omega (arith, c.if-under-first.true))

pub returns-clause-pair : goal.returns-clause-pair
returns-clause-pair c = pair_good c.args.literal (delta 5 c.args.bytes.now) c.in-Some.by c.in-Some.rest.now (ap (option_map (λ (r : ℕ × Bor (List ℕ)). (r.0, r.1.now))) (sym c.in-Some.is) ∙ c.delta.ensures.value) (omega (arith, c.if-by-eq0.false)) (omega (arith, c.if-by-literal.false)) c.in-Some-delta.under c.in-Some-delta.rest.now (ap (option_map (λ (r : ℕ × Bor (List ℕ)). (r.0, r.1.now))) (sym c.in-Some-delta.is) ∙ c.delta-2.ensures.value) (omega (arith, c.if-under-first.false))

pub returns-clause-within : goal.returns-clause-within
returns-clause-within c = omega (arith, c.in-Some.ensures.within, c.in-Some-delta.ensures.within)
