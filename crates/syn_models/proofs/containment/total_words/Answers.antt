use Rattle.std.proofs.Common.{length, slice_index_or, List, ℕ, ap, ◌∙◌, arith}
use Rattle.std.proofs.lemmas.List.{length-map}
use Rattle.syn_models.specs.Contained.{words_by}
use Rattle.syn_models.proofs.ModelTables.{serves, total_is}
use Rattle.syn_models.proofs.containment.total_words.Goals as goal

pub totals-requires-clause-before : goal.totals-requires-clause-before
totals-requires-clause-before c = serves c.args.models.now c.args.inner.now c.args.order.now c.requires.some c.requires.distinct c.requires.below c.requires.words c.requires.order

pub bounds-as_slice-0 : goal.bounds-as_slice-0
bounds-as_slice-0 c = omega (arith, c.requires.some, ap length c.as_slice.ensures.value ∙ c.in_ok-totals.ensures.size ∙ ap length (c.deref.ensures.value ∙ c.in_ok-words.ensures) ∙ length-map c.args.models.now words_by)

pub returns : goal.returns
returns c = record {
  each = λ tree o.
      ap (λ (xs : List ℕ). slice_index_or xs 0 0) c.as_slice.ensures.value
      ∙ total_is c.args.models.now c.args.inner.now c.args.order.now c.deref.result.now c.in_ok-totals.totals.items c.requires.some c.requires.distinct c.requires.below c.requires.words c.requires.all (c.deref.ensures.value ∙ c.in_ok-words.ensures) c.in_ok-totals.ensures.each tree o;
}
