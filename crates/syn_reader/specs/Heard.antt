-- What the statements that are left of a text are, as the reader meets them.
use Rattle.std.specs.Prelude.{ℕ, ◌≡◌, ◌+◌, Bool, List, [], ◌∷◌, length}
use Rattle.std.specs.List.{list_all}
use Rattle.syn_lex.specs.Words.{Word}
use Rattle.syn_lex.specs.Lines.{LogicalLine}
use Rattle.syn_netlist.specs.Words.{is_word}
use Rattle.syn_reader.specs.declared.Kind.{Kind}
use Rattle.syn_reader.specs.Statements.{Statement}

abbrev pub statement : ℕ → Kind → List (List ℕ) → Statement
statement line kind words = record { line = line; kind = kind; words = words }

-- Each word of a line is one of the format.
abbrev pub all_words : List Word → Bool
all_words words = list_all (λ word. is_word word.text) words

abbrev pub line_words : LogicalLine → Bool
line_words line = all_words line.words

abbrev pub lines_words : List LogicalLine → Bool
lines_words lines = list_all line_words lines

-- The first of the statements is of this kind.
abbrev pub Begins : Kind → List Statement → Type 0
Begins kind [] = ⊥
Begins kind (s ∷ ss) = s.kind ≡ kind

-- How many words the statements have, keywords apart.
abbrev pub word_count : List Statement → ℕ
word_count [] = 0
word_count (s ∷ ss) = length s.words + word_count ss
