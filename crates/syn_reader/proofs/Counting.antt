-- How many statements and words a file's models have.
use Rattle.std.proofs.Common.{◌≡◌, ℕ, suc, ◌+◌, ◌≤◌, ◌<◌, ◌==◌, ◌&&◌, Bool, true, false, if◌then◌else◌, List, [], ◌∷◌, length, filter, refl, arith}
use Rattle.std.specs.List.{onto_first}
use Rattle.std.proofs.lemmas.Bool.{both_ways}
use Rattle.std.proofs.lemmas.List.{length-map}
use Rattle.syn_lex.specs.Lines.{LogicalLine, has_words, joined, joined_lines, joins, logical_lines, physical_lines, without_comment}
use Rattle.syn_lex.specs.Words.{words_at}
use Rattle.syn_reader.specs.Heard.{word_count}
use Rattle.syn_reader.specs.Statements.{Statement, begins_model, is_end, is_model, is_row, statement_of, statements}
use Rattle.syn_reader.specs.Owned.{behind, first, others, own}
use Rattle.syn_reader.specs.Parted.{words_in, words_of}

-- the statements of the first model and those below it are all
counts : (count : Statement → ℕ) (total : List Statement → ℕ) → ((s : Statement) (ss : List Statement) → total (s ∷ ss) ≡ count s + total ss) → total [] ≡ 0 → (many : Bool) (ss : List Statement) → total (own many ss) + total (behind many ss) ≡ total ss
counts count total c z many [] = let a = z in omega (arith, a)
counts count total c z many (s ∷ ss) = go (many && is_model s.kind) (counts count total c z many ss)
  where
    go : (b : Bool) → total (own many ss) + total (behind many ss) ≡ total ss → total (if b then [] else s ∷ own many ss) + total (if b then s ∷ ss else behind many ss) ≡ total (s ∷ ss)
    go true h = let a = z in omega (arith, a)
    go false h = let a = c s (own many ss) in let b = c s ss in omega (arith, a, b, h)

words_apart : (many : Bool) (ss : List Statement) → word_count (own many ss) + word_count (behind many ss) ≡ word_count ss
words_apart = counts (λ s. length s.words) word_count (λ s ss. refl) refl

totals_apart : (many : Bool) (ss : List Statement) → words_of (own many ss) + words_of (behind many ss) ≡ words_of ss
totals_apart = counts words_in words_of (λ s ss. refl) refl

lengths_apart : (many : Bool) (ss : List Statement) → length (own many ss) + length (behind many ss) ≡ length ss
lengths_apart = counts (λ s. 1) length (λ s ss. omega arith) refl

pub words_first : (many : Bool) (ss : List Statement) → word_count (first many ss) + word_count (others many ss) ≡ word_count ss
words_first many [] = refl
words_first many (s ∷ ss) = let a = words_apart many ss in omega (arith, a)

pub totals_first : (many : Bool) (ss : List Statement) → words_of (first many ss) + words_of (others many ss) ≡ words_of ss
totals_first many [] = refl
totals_first many (s ∷ ss) = let a = totals_apart many ss in omega (arith, a)

pub others_shorter : (many : Bool) (ss : List Statement) → begins_model ss ≡ true → length (others many ss) < length ss
others_shorter many [] h = absurd (both_ways false refl h)
others_shorter many (s ∷ ss) h = let a = lengths_apart many ss in omega (arith, a)

pub others_few : (many : Bool) (ss : List Statement) → length (others many ss) ≤ length ss
others_few many [] = omega arith
others_few many (s ∷ ss) = let a = lengths_apart many ss in omega (arith, a)

-- no more lines than bytes
pieces_few : (bytes : List ℕ) → length (physical_lines bytes) ≤ length bytes
pieces_few [] = omega arith
pieces_few (b ∷ bs) = go (b == 10) (pieces_few bs)
  where
    onto : (ls : List (List ℕ)) → length (onto_first b ls) ≤ suc (length ls)
    onto [] = omega arith
    onto (l ∷ ls) = omega arith

    some : (ls : List (List ℕ)) (n : ℕ) → length ls ≤ n → length (onto_first b ls) ≤ suc n
    some ls n h = let o = onto ls in omega (arith, o, h)

    go : (t : Bool) → length (physical_lines bs) ≤ length bs → length (if t then [] ∷ physical_lines bs else onto_first b (physical_lines bs)) ≤ suc (length bs)
    go true h = omega (arith, h)
    go false h = some (physical_lines bs) (length bs) h

joined_few : (line : LogicalLine) (lines : List LogicalLine) → length (joined line lines) ≤ suc (length lines)
joined_few line [] = omega arith
joined_few line (next ∷ lines) = omega arith

lines_few : (number at : ℕ) (lines : List (List ℕ)) → length (joined_lines number at lines) ≤ length lines
lines_few number at [] = omega arith
lines_few number at (line ∷ lines) = go (joins (without_comment line)) (lines_few (suc number) (at + length line + 1) lines)
  where
    here : LogicalLine
    here = record { number = number; words = words_at at (without_comment line) }

    below : List LogicalLine
    below = joined_lines (suc number) (at + length line + 1) lines

    go : (t : Bool) → length below ≤ length lines → length (if t then joined here below else here ∷ below) ≤ suc (length lines)
    go true h = let j = joined_few here below in omega (arith, j, h)
    go false h = omega (arith, h)

filtered_few : (lines : List LogicalLine) → length (filter has_words lines) ≤ length lines
filtered_few [] = omega arith
filtered_few (l ∷ ls) = go (has_words l) (filtered_few ls)
  where
    go : (t : Bool) → length (filter has_words ls) ≤ length ls → length (if t then l ∷ filter has_words ls else filter has_words ls) ≤ suc (length ls)
    go true h = omega (arith, h)
    go false h = omega (arith, h)

pub few_statements : (bytes : List ℕ) → length (statements bytes) ≤ length bytes
few_statements bytes =
    let a = length-map (logical_lines bytes) statement_of in
    let b = filtered_few (joined_lines 1 0 (physical_lines bytes)) in
    let c = lines_few 1 0 (physical_lines bytes) in
    let d = pieces_few bytes in
    omega (arith, a, b, c, d)

-- each line counts no more than its words and its keyword
pub totals_few : (ss : List Statement) → words_of ss ≤ word_count ss + length ss
totals_few [] = omega arith
totals_few (s ∷ ss) = go (is_row s.kind) (is_end s.kind) (totals_few ss)
  where
    go : (r e : Bool) → words_of ss ≤ word_count ss + length ss → (if r then length s.words else if e then 0 else suc (length s.words)) + words_of ss ≤ (length s.words + word_count ss) + suc (length ss)
    go true e h = omega (arith, h)
    go false true h = omega (arith, h)
    go false false h = omega (arith, h)
