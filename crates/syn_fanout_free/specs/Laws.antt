-- The laws on what a replacement frees, saves and keeps.
use Rattle.std.specs.Prelude.{◌≡◌, ℕ, ◌+◌, ◌↔◌, Bool, true, false, not, List, map, ℤ, pos, ◌+ℤ◌}
use Rattle.syn_rows.specs.declared.Lit.{Lit}
use Rattle.syn_rows.specs.declared.Row.{Row}
use Rattle.syn_rows.specs.Rows.{row_at, refs_within, lits_within, is_derived}
use Rattle.syn_rows.specs.Values.{lit_value, RowFits, Fits}
use Rattle.syn_rows.specs.Reach.{is_and, IsReachedSet, Reached, Ands}
use Rattle.syn_rows.specs.References.{refs_by_rows, refs_by_literals, all_ands}
use Rattle.syn_fanout_free.specs.Freed.{is_free, is_new, Keeps, RefersInside, IsReplacement, IsLocal, IsFreed, IsFreedByCount, SparesUsed, added, lost}
use Rattle.syn_fanout_free.specs.Saved.{IsSaved}

-- The freed ones of the old ANDs and aliases are those that are no longer reached.
abbrev pub FreedAreUnreached : Type 0
FreedAreUnreached =
    (was now : List Row) (observed : List Lit) (n : ℕ) (rank : ℕ → ℕ) (kept freed after : ℕ → Bool)
    → IsReplacement was now observed n rank → IsLocal was now observed n kept freed → IsReachedSet now observed after
    → (m : ℕ) → is_derived (row_at was m) ≡ true → after m ≡ not (freed m)

-- All ANDs before and the kept new ones are the ANDs reached afterwards and the lost ones.
abbrev pub SavedIsLocal : Type 0
SavedIsLocal =
    (was now : List Row) (observed : List Lit) (n : ℕ) (rank : ℕ → ℕ) (kept freed : ℕ → Bool)
    → IsReplacement was now observed n rank → IsLocal was now observed n kept freed
    → (k : ℕ) → Ands now observed k → all_ands was + added was now n kept ≡ k + lost was n freed

-- Where fewer nodes may be freed, what is freed is no longer reached all the same.
abbrev pub FewerAreUnreached : Type 0
FewerAreUnreached =
    (was now : List Row) (observed : List Lit) (n : ℕ) (may freed after : ℕ → Bool)
    → Keeps was now n → IsReachedSet now observed after → SparesUsed was now n after may → IsFreed was observed n may freed
    → (m : ℕ) → freed m ≡ true → after m ≡ false

-- Where the counts of the nodes that may be freed are all references, freed by counts is freed.
abbrev pub CountsTell : Type 0
CountsTell =
    (was : List Row) (observed : List Lit) (counts : ℕ → ℕ) (n : ℕ) (may freed : ℕ → Bool)
    → ((m : ℕ) → may m ≡ true → counts m ≡ refs_by_rows m was + refs_by_literals m observed)
    → IsFreedByCount was counts n may freed ↔ IsFreed was observed n may freed

-- equal values at all nodes that had a row
abbrev pub AgreesOnOld : List Row → (ℕ → Bool) → (ℕ → Bool) → Type 0
AgreesOnOld was v w = (m : ℕ) → is_free (row_at was m) ≡ false → w m ≡ v m

-- each new row fits its node's value
abbrev pub FitsNew : List Row → List Row → ℕ → (ℕ → Bool) → Type 0
FitsNew was now n w = (m : ℕ) → is_new was n m ≡ true → RowFits w m (row_at now m)

-- A valuation that fits the rows before, with values for the new rows so that they fit, n's new row with the value that n had, fits the rows afterwards and gives the observed literals the same values.
abbrev pub ValuesAreKept : Type 0
ValuesAreKept =
    (was now : List Row) (observed : List Lit) (n : ℕ) (v w : ℕ → Bool)
    → Keeps was now n → RefersInside was observed → is_free (row_at was 0) ≡ false
    → Fits was v → AgreesOnOld was v w → FitsNew was now n w
    → Fits now w × (map (lit_value w) observed ≡ map (lit_value v) observed)

-- There is one number of saved ANDs, and it is the difference of the counts.
abbrev pub SavedTells : Type 0
SavedTells =
    (was now : List Row) (observed : List Lit) (s : ℤ) (j k : ℕ)
    → IsSaved was now observed s → Ands was observed j → Ands now observed k → pos j ≡ (pos k +ℤ s)

-- Where each AND is reached, the number of reached ANDs is that of all.
abbrev pub AllAndsReached : Type 0
AllAndsReached =
    (rows : List Row) (observed : List Lit) → refs_within rows ≡ true → lits_within rows observed ≡ true
    → ((m : ℕ) → is_and (row_at rows m) ≡ true → Reached rows observed m) → Ands rows observed (all_ands rows)
