use Rattle.std.proofs.Common.{sym, ap, ◌∙◌, arith, inl, inr}
use Rattle.std.proofs.lemmas.Bool.{eqb-true}
use Rattle.syn_lex.specs.Lines.{joins}
use Rattle.syn_lex.proofs.Splits.{nil_from_length}
use Rattle.syn_lex.proofs.Steps.{some_left}
use Rattle.syn_lex.proofs.JoinLaws.{goes_on_below, goes_on_here}
use Rattle.syn_lex.proofs.cut_logical.Goals as goal
use Rattle.syn_lex.proofs.cut_logical.Goals.{then-is_empty-via-then-is_empty, then-is_empty-via-else-is_empty+then-not-joins}

pub returns-then-is_empty : goal.returns-then-is_empty
returns-then-is_empty c =
    goes_on_here c.args.bytes.now c.lines.rest.now c.cut_piece.result.0.now c.cut_piece.result.1.now c.split_at.result.0.now c.lines.joined c.lines.count c.lines.invariant.joined c.cut_piece.ensures
    (elim c.then-is_empty.branch [
      | then-is_empty-via-then-is_empty w ↦ inl (nil_from_length _ (eqb-true _ 0 (sym c.is_empty.ensures ∙ w.if-is_empty.true)))
      | then-is_empty-via-else-is_empty+then-not-joins w ↦ inr (ap joins (sym w.without_comment.ensures.value) ∙ (sym w.joins.ensures ∙ w.if-not-joins.true))
    ])
    c.split_at.ensures.front

pub lines-preserved : goal.lines-preserved
lines-preserved c =
    let some = some_left c.cut_piece.result.1.now (sym c.is_empty.ensures ∙ c.if-is_empty.false) in
    let full = c.cut_piece.ensures.full some in
    record {
      joined = goes_on_below c.args.bytes.now c.lines.rest.now c.cut_piece.result.0.now c.cut_piece.result.1.now c.lines.joined c.lines.count c.lines.invariant.joined c.cut_piece.ensures some
          (ap joins (sym c.without_comment.ensures.value) ∙ (sym c.joins.ensures ∙ c.if-not-joins.false));
      some = some;
      sizes = omega (arith, full, c.lines.invariant.sizes);
      few = omega (arith, c.lines.invariant.few);
    }
