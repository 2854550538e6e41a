use Rattle.std.proofs.Common.{◌≡◌, ◌+◌, ℕ, List, count_by, take, length, ◌∙◌, arith}
use Rattle.syn_rows.specs.declared.Lit.{Lit}
use Rattle.syn_hashed.specs.Pairs.{number_at}
use Rattle.syn_absorb.specs.Flips.{is_opposite, is_plain}
use Rattle.syn_absorb.proofs.Observing.{counted_all, counted_few, counted_next}
use Rattle.syn_absorb.proofs.marks.count_all.Goals as goal

pub loop-lit-preserved : goal.loop-lit-preserved
loop-lit-preserved c =
    let inv = c.loop-lit.invariant in
    let lits : List Lit = c.args.lits.now in
    let i : ℕ = c.loop-lit.lit-index in
    let plain : (n : ℕ) → number_at c.count_lit.new.plain n ≡ count_by (is_plain n) (take (i + 1) lits) =
    (λ n. counted_next (is_plain n) lits i _ (number_at c.loop-lit.plain n) (number_at c.count_lit.new.plain n) c.loop-lit-test.true (inv.plain n) (c.count_lit.ensures.plain n)) in
    let opposite : (n : ℕ) → number_at c.count_lit.new.opposite n ≡ count_by (is_opposite n) (take (i + 1) lits) =
    (λ n. counted_next (is_opposite n) lits i _ (number_at c.loop-lit.opposite n) (number_at c.count_lit.new.opposite n) c.loop-lit-test.true (inv.opposite n) (c.count_lit.ensures.opposite n)) in
    record {
      long = c.count_lit.auto.plain ∙ inv.long;
      long_opposite = c.count_lit.auto.opposite ∙ inv.long_opposite;
      few = λ n. counted_few (is_plain n) lits (i + 1) (number_at c.count_lit.new.plain n) (plain n);
      few_opposite = λ n. counted_few (is_opposite n) lits (i + 1) (number_at c.count_lit.new.opposite n) (opposite n);
      plain = plain;
      opposite = opposite;
    }

pub returns-clause-plain : goal.returns-clause-plain
returns-clause-plain c n = let all : length c.args.lits.now ≡ c.loop-lit.lit-index = omega arith in counted_all (is_plain n) c.args.lits.now c.loop-lit.lit-index _ all (c.loop-lit.invariant.plain n)

pub returns-clause-opposite : goal.returns-clause-opposite
returns-clause-opposite c n = let all : length c.args.lits.now ≡ c.loop-lit.lit-index = omega arith in counted_all (is_opposite n) c.args.lits.now c.loop-lit.lit-index _ all (c.loop-lit.invariant.opposite n)
