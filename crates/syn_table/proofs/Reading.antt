-- Rows that are read from the words of a closed table, one after the other.
use Rattle.std.proofs.Common.{◌≡◌, ℕ, zero, suc, ◌+◌, ◌*◌, ◌<◌, List, [], ◌∷◌, ◌++◌, length, get_or, refl, sym, ap, ◌∙◌, arith, inl, inr, length-append}
use Rattle.std.proofs.lemmas.Bool.{cases_lt}
use Rattle.std.proofs.lemmas.List.{get_or_push}
use mathlib.Core.Option.{some, some-injective, some-ne-none}
use lib.ListN.{get_elem?}
use Rattle.syn_rows.specs.declared.Row.{Row}
use Rattle.syn_rows.specs.declared.Row.TheVariants.{Free}
use Rattle.syn_rows.specs.Packing.{word_of, Packs}
use Rattle.syn_rows.specs.Rows.{row_at}
use Rattle.syn_table.specs.Closing.{ReadsBack}

pub entry_is : (l : List ℕ) (i a : ℕ) → get_elem? l i ≡ some a → get_or l i 0 ≡ a
entry_is [] i a e = absurd (some-ne-none a (sym e))
entry_is (x ∷ xs) zero a e = some-injective x a e
entry_is (x ∷ xs) (suc i) a e = entry_is xs i a e

before : (rows : List Row) (row : Row) (n : ℕ) → n < length rows → row_at (rows ++ row ∷ []) n ≡ row_at rows n
before [] row n lt = absurd (omega arith)
before (r ∷ rs) row zero lt = refl
before (r ∷ rs) row (suc n) lt = before rs row n (omega arith)

pub reads_more : (words : List ℕ) (rows : List Row) (row : Row) (node word : ℕ) → length rows ≡ node → ReadsBack words rows → get_elem? words (2 + 4 * node) ≡ some word → ((r : Row) → Packs r → word_of r ≡ word → row ≡ r) → ReadsBack words (rows ++ row ∷ [])
reads_more words rows row node word size back at is n lt r packs e = elim (cases_lt n (length rows)) [
  | inl low ↦ before rows row n low ∙ back n low r packs e
  | inr high ↦
      let same : n ≡ node = omega (arith, length-append rows (row ∷ []), size, lt, high) in
      let here : row_at (rows ++ row ∷ []) n ≡ row = get_or_push rows row Free n (let z : length rows ≡ n = omega (arith, size, same) in z) in
      here ∙ is r packs (e ∙ (ap (λ k. get_or words (2 + 4 * k) 0) same ∙ entry_is words (2 + 4 * node) word at))
]
