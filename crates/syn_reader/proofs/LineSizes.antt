-- No line of a file has more letters than the file has bytes, and all lines together have no more words.
use Rattle.std.proofs.Common.{arith, ◌≡◌, ℕ, suc, ◌+◌, ◌≤◌, ◌==◌, Bool, true, false, if◌then◌else◌, List, [], ◌∷◌, ◌++◌, length, map, filter, refl}
use Rattle.std.specs.List.{onto_first}
use Rattle.std.proofs.lemmas.Bool.{and_parts, both_ways}
use Rattle.syn_lex.specs.Words.{Word, text_of, is_word_byte, begins_word, grown, words_at}
use Rattle.syn_lex.specs.Lines.{LogicalLine, physical_lines, without_comment, joins, joined, joined_lines, has_words, logical_lines}
use Rattle.syn_netlist.specs.Words.{is_word}
use Rattle.syn_reader.specs.declared.Kind.TheVariants as kinds
use Rattle.syn_reader.specs.Heard.{all_words, lines_words, word_count}
use Rattle.syn_reader.specs.Statements.{Statement, begins_model, begins_with_dot, keywords, kind_in, statement_at, statement_of, statements}
use Rattle.syn_reader.proofs.LineWords.{logical_words}
use Rattle.syn_reader.specs.Parted.{by_model, parted}

-- the letters of words
abbrev size_words : List Word → ℕ
size_words [] = 0
size_words (w ∷ ws) = length w.text + size_words ws

abbrev pub size_text : List (List ℕ) → ℕ
size_text [] = 0
size_text (w ∷ ws) = length w + size_text ws

abbrev size_lines : List LogicalLine → ℕ
size_lines [] = 0
size_lines (l ∷ ls) = size_words l.words + size_lines ls

grown_size : (at b : ℕ) (ws : List Word) → size_words (grown at b ws) ≤ suc (size_words ws)
grown_size at b [] = omega arith
grown_size at b (w ∷ ws) = omega arith

words_at_size : (at : ℕ) (bs : List ℕ) → size_words (words_at at bs) ≤ length bs
words_at_size at [] = omega arith
words_at_size at (b ∷ bs) = go (is_word_byte b) (begins_word bs) (words_at_size (suc at) bs)
  where
    go : (t u : Bool) → size_words (words_at (suc at) bs) ≤ length bs
        → size_words (if t then (if u then grown at b (words_at (suc at) bs) else record { at = at; text = b ∷ [] } ∷ words_at (suc at) bs) else words_at (suc at) bs) ≤ suc (length bs)
    go true true h = let g = grown_size at b (words_at (suc at) bs) in omega (arith, g, h)
    go true false h = omega (arith, h)
    go false u h = omega (arith, h)

comment_size : (line : List ℕ) → length (without_comment line) ≤ length line
comment_size [] = omega arith
comment_size (b ∷ bs) = go (b == 35) (comment_size bs)
  where
    go : (t : Bool) → length (without_comment bs) ≤ length bs → length (if t then b ∷ [] else b ∷ without_comment bs) ≤ suc (length bs)
    go true h = omega (arith, h)
    go false h = omega (arith, h)

size_append : (vs ws : List Word) → size_words (vs ++ ws) ≡ size_words vs + size_words ws
size_append [] ws = omega arith
size_append (v ∷ vs) ws = let e = size_append vs ws in omega (arith, e)

joined_size : (line : LogicalLine) (lines : List LogicalLine) → size_lines (joined line lines) ≤ size_words line.words + size_lines lines
joined_size line [] = omega arith
joined_size line (next ∷ lines) = let e = size_append line.words next.words in omega (arith, e)

lines_size : (number at : ℕ) (lines : List (List ℕ)) → size_lines (joined_lines number at lines) ≤ size_text lines
lines_size number at [] = omega arith
lines_size number at (line ∷ lines) = go (joins (without_comment line)) (lines_size (suc number) (at + length line + 1) lines)
  where
    go : (t : Bool) → size_lines (joined_lines (suc number) (at + length line + 1) lines) ≤ size_text lines
        → size_lines (if t then joined (record { number = number; words = words_at at (without_comment line) }) (joined_lines (suc number) (at + length line + 1) lines) else record { number = number; words = words_at at (without_comment line) } ∷ joined_lines (suc number) (at + length line + 1) lines) ≤ length line + size_text lines
    go true h =
        let j = joined_size (record { number = number; words = words_at at (without_comment line) }) (joined_lines (suc number) (at + length line + 1) lines) in
        let w = words_at_size at (without_comment line) in
        let s = comment_size line in
        omega (arith, j, w, s, h)
    go false h = let w = words_at_size at (without_comment line) in let s = comment_size line in omega (arith, w, s, h)

physical_size : (bytes : List ℕ) → size_text (physical_lines bytes) ≤ length bytes
physical_size [] = omega arith
physical_size (b ∷ bs) = go (b == 10) (physical_size bs)
  where
    onto : (ls : List (List ℕ)) → size_text (onto_first b ls) ≤ suc (size_text ls)
    onto [] = omega arith
    onto (l ∷ ls) = omega arith

    go : (t : Bool) → size_text (physical_lines bs) ≤ length bs → size_text (if t then [] ∷ physical_lines bs else onto_first b (physical_lines bs)) ≤ suc (length bs)
    go true h = omega (arith, h)
    go false h = let o = onto (physical_lines bs) in omega (arith, o, h)

filtered_size : (lines : List LogicalLine) → size_lines (filter has_words lines) ≤ size_lines lines
filtered_size [] = omega arith
filtered_size (l ∷ ls) = go (has_words l) (filtered_size ls)
  where
    go : (t : Bool) → size_lines (filter has_words ls) ≤ size_lines ls → size_lines (if t then l ∷ filter has_words ls else filter has_words ls) ≤ size_words l.words + size_lines ls
    go true h = omega (arith, h)
    go false h = omega (arith, h)

logical_size : (bytes : List ℕ) → size_lines (logical_lines bytes) ≤ length bytes
logical_size bytes =
    let b = filtered_size (joined_lines 1 0 (physical_lines bytes)) in
    let c = lines_size 1 0 (physical_lines bytes) in
    let d = physical_size bytes in
    omega (arith, b, c, d)

-- Each statement has no more letters than this, a keyword apart.
abbrev pub Short : ℕ → List Statement → Type 0
Short most [] = Unit {0}
Short most (s ∷ ss) = (size_text s.words ≤ most) × Short most ss

abbrev pub AllShort : ℕ → List (List Statement) → Type 0
AllShort most [] = Unit {0}
AllShort most (p ∷ ps) = Short most p × AllShort most ps

at_size : (line : ℕ) (words : List (List ℕ)) → size_text (statement_at line words).words ≤ size_text words
at_size line [] = omega arith
at_size line (w ∷ ws) = go (begins_with_dot w)
  where
    go : (t : Bool) → size_text (let s : Statement = if t then record { line = line; kind = kind_in keywords w; words = ws } else record { line = line; kind = kinds.Row; words = w ∷ ws } in s).words ≤ length w + size_text ws
    go true = omega arith
    go false = omega arith

texts_size : (ws : List Word) → size_text (map text_of ws) ≡ size_words ws
texts_size [] = refl
texts_size (w ∷ ws) = let e = texts_size ws in omega (arith, e)

lines_short : (most : ℕ) (lines : List LogicalLine) → size_lines lines ≤ most → Short most (map statement_of lines)
lines_short most [] h = tt
lines_short most (l ∷ ls) h =
    let here = at_size l.number (map text_of l.words) in
    let size = texts_size l.words in
    (omega (arith, here, size, h), lines_short most ls (omega (arith, h)))

onto_short : (most : ℕ) (s : Statement) (ps : List (List Statement)) → size_text s.words ≤ most → AllShort most ps → AllShort most (onto_first s ps)
onto_short most s [] h a = ((h, tt), tt)
onto_short most s (p ∷ ps) h a = ((h, a.0), a.1)

parted_short : (most : ℕ) (ss : List Statement) → Short most ss → AllShort most (parted ss)
parted_short most [] h = tt
parted_short most (s ∷ ss) h = go (begins_model ss) (parted_short most ss h.1)
  where
    go : (b : Bool) → AllShort most (parted ss) → AllShort most (if b then (s ∷ []) ∷ parted ss else onto_first s (parted ss))
    go true a = ((h.0, tt), a)
    go false a = onto_short most s (parted ss) h.0 a

parts_short : (most : ℕ) (ss : List Statement) → Short most ss → AllShort most (by_model ss)
parts_short most ss h = go (begins_model ss)
  where
    go : (b : Bool) → AllShort most (if b then parted ss else ss ∷ [])
    go true = parted_short most ss h
    go false = (h, tt)

-- the statements of a file, model by model
pub file_short : (bytes : List ℕ) → AllShort (length bytes) (by_model (statements bytes))
file_short bytes = parts_short (length bytes) (statements bytes) (lines_short (length bytes) (logical_lines bytes) (logical_size bytes))

-- a word of the format has a letter or more, so there are no more words than letters
one_letter : (text : List ℕ) → is_word text ≡ true → 1 ≤ length text
one_letter [] h = absurd (both_ways false refl h)
one_letter (b ∷ bs) h = omega arith

no_more_than_letters : (ws : List Word) → all_words ws ≡ true → length (map text_of ws) ≤ size_words ws
no_more_than_letters [] h = omega arith
no_more_than_letters (w ∷ ws) h =
    let both = and_parts (is_word w.text) (all_words ws) h in
    let here = one_letter w.text both.0 in
    let rest = no_more_than_letters ws both.1 in
    omega (arith, here, rest)

line_few : (line : ℕ) (words : List (List ℕ)) → length (statement_at line words).words ≤ length words
line_few line [] = omega arith
line_few line (w ∷ ws) = go (begins_with_dot w)
  where
    go : (t : Bool) → length (let s : Statement = if t then record { line = line; kind = kind_in keywords w; words = ws } else record { line = line; kind = kinds.Row; words = w ∷ ws } in s).words ≤ suc (length ws)
    go true = omega arith
    go false = omega arith

lines_few : (lines : List LogicalLine) → lines_words lines ≡ true → word_count (map statement_of lines) ≤ size_lines lines
lines_few [] h = omega arith
lines_few (l ∷ ls) h =
    let both = and_parts (all_words l.words) (lines_words ls) h in
    let here = line_few l.number (map text_of l.words) in
    let letters = no_more_than_letters l.words both.0 in
    let rest = lines_few ls both.1 in
    omega (arith, here, letters, rest)

-- the statements of a text have no more words than it has bytes
pub few_words : (bytes : List ℕ) → word_count (statements bytes) ≤ length bytes
few_words bytes =
    let a = lines_few (logical_lines bytes) (logical_words bytes) in
    let b = logical_size bytes in
    omega (arith, a, b)
