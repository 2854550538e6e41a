-- Statements: logical lines sorted by their keyword.
use Rattle.std.specs.Prelude.{ℕ, ◌==◌, Bool, true, false, if◌then◌else◌, List, [], ◌∷◌, map, bytes_eq, codes}
use Rattle.syn_lex.specs.Words.{text_of}
use Rattle.syn_lex.specs.Lines.{LogicalLine, logical_lines}
use Rattle.syn_reader.specs.declared.Kind.{Kind}
use Rattle.syn_reader.specs.declared.Kind.TheVariants as kinds

-- A statement: the number of its line, what kind it is, and its words; behind a keyword these are the further words.
pub record Statement : Type 0 where
  pub line : ℕ
  pub kind : Kind
  pub words : List (List ℕ)

-- The keywords.
abbrev pub keywords : List (List ℕ × Kind)
keywords =
    (codes ".model", kinds.Model)
    ∷ (codes ".inputs", kinds.Inputs)
    ∷ (codes ".outputs", kinds.Outputs)
    ∷ (codes ".clock", kinds.Clock)
    ∷ (codes ".names", kinds.Names)
    ∷ (codes ".latch", kinds.Latch)
    ∷ (codes ".subckt", kinds.Subckt)
    ∷ (codes ".end", kinds.End)
    ∷ []

-- The kind of a keyword: unknown where it isn't one of these.
abbrev pub kind_in : List (List ℕ × Kind) → List ℕ → Kind
kind_in [] word = kinds.Unknown
kind_in (k ∷ ks) word = if bytes_eq k.0 word then k.1 else kind_in ks word

abbrev pub begins_with_dot : List ℕ → Bool
begins_with_dot [] = false
begins_with_dot (b ∷ bs) = b == 46

-- A first word that begins with a dot is a keyword, one of these or unknown; any other line is a row.
abbrev pub statement_at : ℕ → List (List ℕ) → Statement
statement_at line [] = record { line = line; kind = kinds.Row; words = [] }
statement_at line (word ∷ words) =
    if begins_with_dot word
    then record { line = line; kind = kind_in keywords word; words = words }
    else record { line = line; kind = kinds.Row; words = word ∷ words }

abbrev pub statement_of : LogicalLine → Statement
statement_of line = statement_at line.number (map text_of line.words)

-- The statements of a text: its logical lines, in order.
abbrev pub statements : List ℕ → List Statement
statements bytes = map statement_of (logical_lines bytes)

-- Tests on the kind of a statement.
abbrev pub is_row : Kind → Bool
is_row kinds.Row = true
is_row kind = false

abbrev pub is_unknown : Kind → Bool
is_unknown kinds.Unknown = true
is_unknown kind = false

abbrev pub is_model : Kind → Bool
is_model kinds.Model = true
is_model kind = false

abbrev pub is_names : Kind → Bool
is_names kinds.Names = true
is_names kind = false

abbrev pub is_latch : Kind → Bool
is_latch kinds.Latch = true
is_latch kind = false

abbrev pub is_subckt : Kind → Bool
is_subckt kinds.Subckt = true
is_subckt kind = false

abbrev pub is_end : Kind → Bool
is_end kinds.End = true
is_end kind = false

-- The first of the statements is `.model`.
abbrev pub begins_model : List Statement → Bool
begins_model [] = false
begins_model (s ∷ ss) = is_model s.kind

-- The rows right below a statement, up to the next keyword.
abbrev pub rows_below : List Statement → List (List (List ℕ))
rows_below [] = []
rows_below (s ∷ ss) = if is_row s.kind then s.words ∷ rows_below ss else []
