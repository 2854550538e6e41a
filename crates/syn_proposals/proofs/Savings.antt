-- There is one number that a proposal saves; and first proposals of parts.
use Rattle.std.proofs.Common.{◌≡◌, ℕ, ◌+◌, ◌-◌, ◌<◌, ℤ, pos, ◌+ℤ◌, ◌≤ℤ◌, List, ◌++◌, length, slice_index_or, inl, inr, refl, sym, ◌∙◌, subst, arith}
use Rattle.std.proofs.lemmas.Int.{ints}
use Rattle.std.proofs.lemmas.Bool.{cases_lt}
use Rattle.std.proofs.lemmas.List.{get_or_append_left, get_or-append-add, get_or-append_right, length-append}
use Rattle.syn_rows.specs.declared.Lit.{Lit}
use Rattle.syn_rows.specs.declared.Row.{Row}
use Rattle.syn_rows.proofs.Reaches.{one_ands_is}
use Rattle.syn_gain.specs.Replacements.{Replacement, SavedBy, rows_after_by}
use Rattle.syn_proposals.specs.Closing.{SavesNothing}
use Rattle.syn_proposals.specs.Laws.{ClosedSavesNothing, FirstOfParts}

saved_once : (rows : List Row) (observed : List Lit) (r : Replacement) (s t : ℤ) → SavedBy rows observed r s → SavedBy rows observed r t → s ≡ t
saved_once rows observed r s t (j, k, was, now, e) (j', k', was', now', e') =
    same j k j' k' s t (one_ands_is rows observed j j' was was') (one_ands_is (rows_after_by rows r) observed k k' now now') e e'
  where
    same : (j k j' k' : ℕ) (s t : ℤ) → j ≡ j' → k ≡ k' → pos j ≡ (pos k +ℤ s) → pos j' ≡ (pos k' +ℤ t) → s ≡ t
    same j k j' k' s t ej ek e e' = omega (arith, ints)

pub closed_saves_nothing : ClosedSavesNothing
unfolding SavesNothing
closed_saves_nothing rows observed proposals closed node i d s gate lt saved =
    let nothing = closed node gate i d lt in
    subst (λ t. t ≤ℤ pos 0) (saved_once rows observed (slice_index_or (proposals node) i d) nothing.0 s nothing.1 saved) nothing.2

pub first_of_parts : FirstOfParts
first_of_parts rows observed before part after r nothing first = record {
  place = length before + first.place;
  there = let p = first.there in let m = long in let n = longer in omega arith;
  at = λ d. low (length before + first.place) d first.there (omega arith) ∙ get_or-append-add before part first.place d ∙ first.at d;
  saves = first.saves;
  before = λ k d zero lt. elim (cases_lt k (length before)) [
    | inl front ↦ subst (SavesNothing rows observed) (sym (low k d first.there (omega arith) ∙ get_or_append_left before part d k front)) (nothing k d front)
    | inr past ↦ subst (SavesNothing rows observed) (sym (low k d first.there (omega arith) ∙ get_or-append_right before part (length before) k d refl past)) (first.before (k - length before) d (omega arith) (omega arith))
  ];
}
  where
    long : length (before ++ part) ≡ length before + length part
    long = length-append before part

    longer : length (before ++ part ++ after) ≡ length (before ++ part) + length after
    longer = length-append (before ++ part) after

    low : (k : ℕ) (d : Replacement) → first.place < length part → k < length before + first.place + 1 → slice_index_or (before ++ part ++ after) k d ≡ slice_index_or (before ++ part) k d
    low k d there lt = get_or_append_left (before ++ part) after d k (let m = long in omega arith)
