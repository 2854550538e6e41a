-- Texts that commands print.
use Rattle.std.specs.Prelude.{ℕ, nat_lt, if◌then◌else◌, List, [], ◌∷◌, ◌++◌, length, map}
use Rattle.syn_lex.specs.Words.{Word}
use Rattle.syn_words.specs.Quotes.{meant}

-- A line with a blank behind it, where it has a byte.
abbrev pub apart : List ℕ → List ℕ
apart line = if nat_lt 0 (length line) then line ++ 32 ∷ [] else line

-- A word behind those of a line, a blank apart where it isn't the first.
abbrev pub with_word : List ℕ → List ℕ → List ℕ
with_word line word = apart line ++ map meant word

-- The line of these words behind those of a line, ended by a line feed.
abbrev pub echoed_after : List ℕ → List Word → List ℕ
echoed_after line [] = line ++ 10 ∷ []
echoed_after line (word ∷ words) = echoed_after (with_word line word.text) words

-- The line of words, one blank apart, ended by a line feed.
abbrev pub echoed : List Word → List ℕ
echoed words = echoed_after [] words
