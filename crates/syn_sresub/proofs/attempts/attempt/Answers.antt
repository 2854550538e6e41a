use Rattle.std.proofs.Common.{List, subst, sym}
use Rattle.syn_rows.specs.declared.Row.{Row}
use Rattle.syn_sresub.specs.Replacing.{IsAndOf}
use Rattle.syn_fraig.specs.Sweeping.{AreTrueBy}
use Rattle.syn_fraig.proofs.Grown.{still_true}
use Rattle.syn_remaking.proofs.Results.{OnOk-of}
use Rattle.syn_sresub.proofs.attempts.attempt.Goals as goal

pub ask-requires-clause-clauses : goal.ask-requires-clause-clauses
ask-requires-clause-clauses c = subst (λ (rs : List Row). AreTrueBy rs c.args.solver.now.clauses) (sym c.as_slice-rows.ensures.value) c.requires.clauses

pub replace_if-requires : goal.replace_if-requires
replace_if-requires c = λ e. subst (λ (rs : List Row). IsAndOf rs c.args.m c.args.x c.args.y) c.as_slice-rows.ensures.value (c.in_ok-answer.ensures.same e)

pub returns-clause-clauses : goal.returns-clause-clauses
returns-clause-clauses c =
    OnOk-of c.replace_if.result
    (still_true c.args.hashed.now.rows.items c.replace_if.new.hashed.rows.items c.ask.new.solver.clauses c.replace_if.ensures.grows
    (subst (λ (rs : List Row). AreTrueBy rs c.ask.new.solver.clauses) c.as_slice-rows.ensures.value c.in_ok-answer.ensures.clauses))
