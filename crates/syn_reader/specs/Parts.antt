-- The statement that a line stands for.
use Rattle.std.specs.Prelude.{Bool, true, List, [], ◌∷◌, map, Option, Some, None}
use Rattle.syn_lex.specs.Words.{text_of}
use Rattle.syn_lex.specs.Lines.{LogicalLine, is_nil}
use Rattle.syn_reader.specs.declared.statements.Parts.{Parts}
use Rattle.syn_reader.specs.Heard.{all_words}
use Rattle.syn_reader.specs.Statements.{Statement}

abbrev pub statement_in : Parts → Statement
statement_in parts = record { line = parts.line; kind = parts.kind; words = map text_of parts.words }

-- The statement that was read ahead, where there is one.
abbrev pub ahead : Option Parts → List Statement
ahead None = []
ahead (Some parts) = statement_in parts ∷ []

abbrev pub ahead_words : Option Parts → Bool
ahead_words None = true
ahead_words (Some parts) = all_words parts.words

-- Where no statement was read ahead, no line is left.
abbrev pub is_settled : Option Parts → List LogicalLine → Bool
is_settled None lines = is_nil lines
is_settled (Some parts) lines = true
