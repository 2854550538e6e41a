use Rattle.std.proofs.Common.{ℕ, ◌≡◌, List, sym, subst, arith, inl, inr}
use Rattle.std.proofs.lemmas.Bool.{cases_lt}
use Rattle.syn_truth.specs.declared.Truth.{Truth}
use Rattle.syn_fraig.specs.Tables.{AreAlike, HasTables}
use Rattle.syn_fraig.proofs.by_values.settle.Goals as goal

pub loop-round-preserved : goal.loop-round-preserved
loop-round-preserved c = λ round lt.
    let has : HasTables c.args.rows.now c.loop-round.round c.as_slice.result.now =
    subst (λ (ts : List Truth). HasTables c.args.rows.now c.loop-round.round ts) (sym c.as_slice.ensures.value) c.in_ok-fill.ensures in
    elim (cases_lt round c.loop-round.round) [
      | inl low ↦ c.compare.ensures.kept c.args.rows.now round (sym has.long) (c.loop-round.invariant round low)
      | inr ge ↦
          let last : c.loop-round.round ≡ round = omega arith in
          subst (λ (r : ℕ). AreAlike c.args.rows.now r c.compare.new.alike) last (c.compare.ensures.here c.args.rows.now c.loop-round.round has)
    ]

pub returns : goal.returns
returns c = λ round lt. c.loop-round.invariant round (omega arith)
