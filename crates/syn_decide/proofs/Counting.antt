-- Counted rows are the first of the inner rows.
use Rattle.std.proofs.Common.{◌≡◌, ℕ, List, [], ◌∷◌, ◌++◌, length, map, drop, refl, sym, ap, ◌∙◌}
use Rattle.syn_decide.specs.declared.decisions.Counted.{Counted}
use Rattle.syn_decide.specs.declared.decisions.NodeRow.{NodeRow}
use Rattle.syn_decide.specs.Dying.{counted_of}
use Rattle.syn_decide.specs.Walked.{without_count}

pub first_counted : (inner : List NodeRow) (counts : List ℕ) → map without_count (counted_of inner counts) ++ drop (length counts) inner ≡ inner
first_counted [] [] = refl
first_counted [] (c ∷ counts) = refl
first_counted (r ∷ inner) [] = refl
first_counted (r ∷ inner) (c ∷ counts) = ap (λ rs. r ∷ rs) (first_counted inner counts)

-- no count, no counted row
none_counted : (inner : List NodeRow) → counted_of inner [] ≡ []
none_counted [] = refl
none_counted (r ∷ inner) = refl

nothing_more : (rows : List Counted) → rows ++ [] ≡ rows
nothing_more [] = refl
nothing_more (r ∷ rows) = ap (λ rs. r ∷ rs) (nothing_more rows)

-- after the last count the rows that were made are all
pub all_counted : (rows whole : List Counted) (inner : List NodeRow) (rest : List ℕ) → rest ≡ [] → rows ++ counted_of inner rest ≡ whole → rows ≡ whole
all_counted rows whole inner rest e h = sym (ap (λ z. rows ++ z) (ap (counted_of inner) e ∙ none_counted inner) ∙ nothing_more rows) ∙ h
