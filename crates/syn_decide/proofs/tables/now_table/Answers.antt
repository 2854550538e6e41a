use Rattle.std.proofs.Common.{length, subst, sym, refl}
use Rattle.syn_decide.specs.Tables.{IsNodeTable}
use Rattle.syn_decide.proofs.Tabling.{low_tells, none_tells}
use Rattle.syn_decide.proofs.tables.now_table.Goals as goal

pub returns-in_err-low-clause-values : goal.returns-in_err-low-clause-values
returns-in_err-low-clause-values c =
    subst (IsNodeTable c.args.vars c.args.attempt.now.candidate.leaves.now c.args.inner.now (length c.args.inner.now) c.args.attempt.now.candidate.root) (sym c.from_residual.ensures)
    (none_tells c.args.vars _ _ _ c.in_err-low.ensures)

pub returns-then-vars-lt-MAX_VARS-clause-values : goal.returns-then-vars-lt-MAX_VARS-clause-values
returns-then-vars-lt-MAX_VARS-clause-values c = low_tells c.args.vars _ _ _ c.in_ok-low.low 0 c.of_words.result c.if-vars-lt-MAX_VARS.true c.requires.within refl c.of_words.ensures.values c.in_ok-low.ensures

pub returns-in_err-high-clause-values : goal.returns-in_err-high-clause-values
returns-in_err-high-clause-values c =
    subst (IsNodeTable c.args.vars c.args.attempt.now.candidate.leaves.now c.args.inner.now (length c.args.inner.now) c.args.attempt.now.candidate.root) (sym c.from_residual-in_err-high.ensures)
    (none_tells c.args.vars _ _ _ c.in_err-high.ensures)
