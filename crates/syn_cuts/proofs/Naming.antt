-- Rows are told by their numbers.
use Rattle.std.proofs.Common.{◌≡◌, ℕ, All, List, [], ◌∷◌, refl, sym, ap, subst}
use Rattle.std.proofs.lemmas.List.Elements.{All-weaker}
use Rattle.syn_rows.specs.declared.Row.{Row}
use Rattle.syn_rows.specs.declared.Row.TheVariants.{Free, Source, And, Alias}
use Rattle.syn_cuts.specs.Lists.{IsFound}
use Rattle.syn_cuts.specs.Naming.{numbers_of, rows_of, listing_of, AreFoundFor}

-- the rows of the numbers of rows
pub rows_again : (rows : List Row) → rows_of (numbers_of rows) ≡ rows
rows_again [] = refl
rows_again (Free ∷ rows) = ap (λ l. Free ∷ l) (rows_again rows)
rows_again (Source ∷ rows) = ap (λ l. Source ∷ l) (rows_again rows)
rows_again (And a b ∷ rows) = ap (λ l. And a b ∷ l) (rows_again rows)
rows_again (Alias a ∷ rows) = ap (λ l. Alias a ∷ l) (rows_again rows)

-- what is found of rows, by their name

pub found_named : (k : ℕ) (rows : List Row) (name : List ℕ) (found : List (ℕ × List (List ℕ))) → name ≡ listing_of k rows → All (IsFound k rows) found → AreFoundFor name found
found_named k rows name found is all = subst (λ t. AreFoundFor t found) (sym is) (subst (λ rs. All (IsFound k rs) found) (sym (rows_again rows)) all)

pub found_of : (k : ℕ) (rows : List Row) (name : List ℕ) (found : List (ℕ × List (List ℕ))) → name ≡ listing_of k rows → AreFoundFor name found → All (IsFound k rows) found
found_of k rows name found is all = subst (λ rs. All (IsFound k rs) found) (rows_again rows) (subst (λ t. AreFoundFor t found) is all)

pub all_found_of : (k : ℕ) (rows : List Row) (name : List ℕ) (lists : List (List (ℕ × List (List ℕ)))) → name ≡ listing_of k rows → All (AreFoundFor name) lists → All (λ found. All (IsFound k rows) found) lists
all_found_of k rows name lists is = All-weaker (AreFoundFor name) (λ found. All (IsFound k rows) found) (λ found all. found_of k rows name found is all) lists
