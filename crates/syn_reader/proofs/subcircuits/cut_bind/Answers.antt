use Rattle.std.proofs.Common.{Option, Some, None, sym, ◌∙◌}
use Rattle.std.proofs.lemmas.Bool.{cond-true, cond-false}
use Rattle.syn_models.specs.Models.{Bind}
use Rattle.syn_reader.specs.Subcircuits.{is_no_bind}
use Rattle.syn_reader.proofs.Binding.{cut_none, cut_some, sides_are_words}
use Rattle.syn_reader.proofs.subcircuits.cut_bind.Goals as goal

pub returns-in_default-clause-none : goal.returns-in_default-clause-none
returns-in_default-clause-none c =
    cut_none c.args.word.now c.split_at.result.0.now c.split_at.result.1.now c.bytes_before.result c.bytes_before.ensures.value c.split_at.ensures.front c.split_at.ensures.back c.in_default.ensures.cases

pub returns-then-is_no_bind-clause-none : goal.returns-then-is_no_bind-clause-none
returns-then-is_no_bind-clause-none c =
    let formal = c.split_at.result.0.now in
    let actual = c.in-Some.actual.now in
    let bind : Option Bind = Some (record { formal = formal; actual = actual }) in
    cut_some c.args.word.now formal c.split_at.result.1.now c.bytes_before.result c.in-Some.field-0-0.now actual c.bytes_before.ensures.value c.split_at.ensures.front c.split_at.ensures.back c.in-Some.ensures.cases.0
    ∙ cond-true (is_no_bind formal actual) None bind (sym c.is_no_bind.ensures ∙ c.if-is_no_bind.true)

pub returns-clause-some : goal.returns-clause-some
returns-clause-some c =
    let formal = c.split_at.result.0.now in
    let actual = c.in-Some.actual.now in
    let bind : Option Bind = Some (record { formal = formal; actual = actual }) in
    cut_some c.args.word.now formal c.split_at.result.1.now c.bytes_before.result c.in-Some.field-0-0.now actual c.bytes_before.ensures.value c.split_at.ensures.front c.split_at.ensures.back c.in-Some.ensures.cases.0
    ∙ cond-false (is_no_bind formal actual) None bind (sym c.is_no_bind.ensures ∙ c.if-is_no_bind.false)

pub returns-clause-words : goal.returns-clause-words
returns-clause-words c =
    sides_are_words c.args.word.now c.split_at.result.0.now c.split_at.result.1.now c.in-Some.field-0-0.now c.in-Some.actual.now c.split_at.ensures.by_index.0 c.in-Some.ensures.cases.0 (sym c.is_no_bind.ensures ∙ c.if-is_no_bind.false) c.requires
