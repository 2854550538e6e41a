-- The words of logical lines: each is one of the format.
use Rattle.std.proofs.Common.{◌≡◌, ℕ, suc, ◌+◌, Bool, true, false, if◌then◌else◌, List, [], ◌∷◌, ◌++◌, length, filter, refl}
use Rattle.std.specs.List.{list_all}
use Rattle.std.proofs.lemmas.Bool.{and_parts, and_from, both_ways}
use Rattle.syn_lex.specs.Words.{Word, is_word_byte, begins_word, grown, words_at}
use Rattle.syn_lex.specs.Lines.{LogicalLine, physical_lines, without_comment, joins, joined, joined_lines, has_words, logical_lines}
use Rattle.syn_netlist.specs.Words.{is_word}
use Rattle.syn_reader.specs.Heard.{all_words, line_words, lines_words}

letters : (w : List ℕ) → is_word w ≡ true → list_all is_word_byte w ≡ true
letters [] h = absurd (both_ways false refl h)
letters (b ∷ bs) h = h

grown_words : (at b : ℕ) (ws : List Word) → is_word_byte b ≡ true → all_words ws ≡ true → all_words (grown at b ws) ≡ true
grown_words at b [] e h = refl
grown_words at b (w ∷ ws) e h =
    let p = and_parts (is_word w.text) (all_words ws) h in
    and_from (is_word (b ∷ w.text)) (all_words ws) (and_from (is_word_byte b) (list_all is_word_byte w.text) e (letters w.text p.0)) p.1

words_at_words : (at : ℕ) (bs : List ℕ) → all_words (words_at at bs) ≡ true
words_at_words at [] = refl
words_at_words at (b ∷ bs) = go (is_word_byte b) refl (begins_word bs) (words_at_words (suc at) bs)
  where
    go : (t : Bool) → is_word_byte b ≡ t → (u : Bool) → all_words (words_at (suc at) bs) ≡ true
        → all_words (if t then (if u then grown at b (words_at (suc at) bs) else record { at = at; text = b ∷ [] } ∷ words_at (suc at) bs) else words_at (suc at) bs) ≡ true
    go true e true h = grown_words at b (words_at (suc at) bs) e h
    go true e false h = and_from (is_word (b ∷ [])) (all_words (words_at (suc at) bs)) (and_from (is_word_byte b) true e refl) h
    go false e u h = h

all_append : (vs ws : List Word) → all_words vs ≡ true → all_words ws ≡ true → all_words (vs ++ ws) ≡ true
all_append [] ws h k = k
all_append (v ∷ vs) ws h k = let p = and_parts (is_word v.text) (all_words vs) h in and_from (is_word v.text) (all_words (vs ++ ws)) p.0 (all_append vs ws p.1 k)

joined_words : (line : LogicalLine) (lines : List LogicalLine) → line_words line ≡ true → lines_words lines ≡ true → lines_words (joined line lines) ≡ true
joined_words line [] h k = and_from (line_words line) true h refl
joined_words line (next ∷ lines) h k =
    let p = and_parts (line_words next) (lines_words lines) k in
    and_from (all_words (line.words ++ next.words)) (lines_words lines) (all_append line.words next.words h p.0) p.1

all_joined : (number at : ℕ) (lines : List (List ℕ)) → lines_words (joined_lines number at lines) ≡ true
all_joined number at [] = refl
all_joined number at (line ∷ lines) = go (joins (without_comment line)) (all_joined (suc number) (at + length line + 1) lines)
  where
    go : (t : Bool) → lines_words (joined_lines (suc number) (at + length line + 1) lines) ≡ true
        → lines_words (if t then joined (record { number = number; words = words_at at (without_comment line) }) (joined_lines (suc number) (at + length line + 1) lines) else record { number = number; words = words_at at (without_comment line) } ∷ joined_lines (suc number) (at + length line + 1) lines) ≡ true
    go true h = joined_words (record { number = number; words = words_at at (without_comment line) }) _ (words_at_words at (without_comment line)) h
    go false h = and_from (all_words (words_at at (without_comment line))) _ (words_at_words at (without_comment line)) h

filtered_words : (lines : List LogicalLine) → lines_words lines ≡ true → lines_words (filter has_words lines) ≡ true
filtered_words [] h = refl
filtered_words (l ∷ ls) h = let p = and_parts (line_words l) (lines_words ls) h in go (has_words l) p.0 (filtered_words ls p.1)
  where
    go : (t : Bool) → line_words l ≡ true → lines_words (filter has_words ls) ≡ true → lines_words (if t then l ∷ filter has_words ls else filter has_words ls) ≡ true
    go true e k = and_from (line_words l) (lines_words (filter has_words ls)) e k
    go false e k = k

pub logical_words : (bytes : List ℕ) → lines_words (logical_lines bytes) ≡ true
logical_words bytes = filtered_words (joined_lines 1 0 (physical_lines bytes)) (all_joined 1 0 (physical_lines bytes))
