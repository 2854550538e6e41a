-- Phrases: the commands of a script as words.
use Rattle.std.specs.Prelude.{ℕ, ◌+◌, List, [], ◌∷◌, length}
use Rattle.syn_lex.specs.Pieces as lex
use Rattle.syn_lex.specs.Words.{Word}
use Rattle.syn_words.specs.Words.{words_at}
use Rattle.syn_words.specs.declared.words.Phrase.{Phrase}

-- The pieces of a text: the bytes before each semicolon, and those behind the last one where there are any.
abbrev pub pieces : List ℕ → List (List ℕ)
pieces text = lex.pieces 59 text

-- The phrase of a piece's words before further phrases. A piece without words is skipped.
abbrev pub onto_phrases : List Word → ℕ → List Phrase → List Phrase
onto_phrases [] end phrases = phrases
onto_phrases (word ∷ words) end phrases = record { name = word; further = words; end = end } ∷ phrases

-- The phrases of pieces of which the first begins at an offset.
abbrev pub phrases_at : ℕ → List (List ℕ) → List Phrase
phrases_at at [] = []
phrases_at at (piece ∷ pieces) = onto_phrases (words_at at piece) (at + length piece) (phrases_at (at + length piece + 1) pieces)

-- The phrases of a text.
abbrev pub phrases : List ℕ → List Phrase
phrases text = phrases_at 0 (pieces text)
