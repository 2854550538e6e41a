use Rattle.std.proofs.Common.{List, sym, subst}
use Rattle.std.proofs.lemmas.Result.{IfOk-weaker}
use Rattle.syn_rows.specs.declared.Row.{Row}
use Rattle.syn_hashed.specs.Hashed.{lit_at}
use Rattle.syn_fraig.specs.Merging.{SameBy}
use Rattle.syn_fraig.specs.Sweeping.{AreTrueBy}
use Rattle.syn_fraig.proofs.Grown.{still_true}
use Rattle.syn_mfs.proofs.Placings.{has_value}
use Rattle.syn_mfs.proofs.questions.ask_lut.Goals as goal

pub ask-requires-clause-clauses : goal.ask-requires-clause-clauses
ask-requires-clause-clauses c =
    subst (λ (rs : List Row). AreTrueBy rs c.args.tools.now.solver.clauses) (sym c.as_slice.ensures.value)
    (still_true c.args.hashed.now.rows.items c.lut_literal.new.hashed.rows.items c.args.tools.now.solver.clauses c.lut_literal.ensures.grows c.requires.clauses)

pub returns-clause-value : goal.returns-clause-value
returns-clause-value c =
    let new = c.lut_literal.new.hashed in
    let lits = c.args.lits.now in
    let lit = c.in_ok-lit.lit in
    IfOk-weaker c.ask.result _ _
    (λ a same e.
    has_value new.source_count c.args.hashed.now.rows.items new.rows.items lits c.args.lut.now c.args.signal lit new.hashed c.lut_literal.ensures.grows c.requires.there c.requires.inputs c.in_ok-lit.ensures.value
    (subst (λ (rs : List Row). SameBy rs lit (lit_at lits c.args.signal)) c.as_slice.ensures.value (same e)))
    c.ask.ensures.same
