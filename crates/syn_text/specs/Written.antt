-- The lines of a written netlist, and the statements that they are.
use Rattle.std.specs.Prelude.{ℕ, suc, ◌&&◌, not, Bool, true, false, List, [], ◌∷◌, ◌++◌, map, codes}
use Rattle.std.specs.List.{list_all}
use Rattle.syn_netlist.specs.Words.{is_word}
use Rattle.syn_netlist.specs.Lists.{Latch, Table, Netlist}
use Rattle.syn_netlist.specs.TextLines.{line}
use Rattle.syn_text.specs.Printed.{kind_words, digit}
use Rattle.syn_reader.specs.declared.Kind.{Kind}
use Rattle.syn_reader.specs.declared.Kind.TheVariants as kinds
use Rattle.syn_reader.specs.Statements.{Statement, begins_with_dot}
use Rattle.syn_reader.specs.Shapes.{row_words}

-- A line: the kind of its statement and that statement's words.
pub record Line : Type 0 where
  pub kind : Kind
  pub words : List (List ℕ)

abbrev pub said : Kind → List (List ℕ) → Line
said kind words = record { kind = kind; words = words }

-- All words of a line, the keyword in front.
abbrev pub with_keyword : Kind → List (List ℕ) → List (List ℕ)
with_keyword kinds.Model words = codes ".model" ∷ words
with_keyword kinds.Inputs words = codes ".inputs" ∷ words
with_keyword kinds.Outputs words = codes ".outputs" ∷ words
with_keyword kinds.Clock words = codes ".clock" ∷ words
with_keyword kinds.Names words = codes ".names" ∷ words
with_keyword kinds.Latch words = codes ".latch" ∷ words
with_keyword kinds.End words = codes ".end" ∷ words
with_keyword kind words = words

-- The bytes of a line of these words.
abbrev pub words_line : List (List ℕ) → List ℕ
words_line [] = 10 ∷ []
words_line (w ∷ ws) = line w ws

abbrev pub line_bytes : Line → List ℕ
line_bytes l = words_line (with_keyword l.kind l.words)

-- A row begins with a word that is no keyword.
abbrev pub is_row_start : List (List ℕ) → Bool
is_row_start [] = false
is_row_start (w ∷ ws) = not (begins_with_dot w)

abbrev pub kind_fits : Kind → List (List ℕ) → Bool
kind_fits kinds.Row words = is_row_start words
kind_fits kinds.Unknown words = false
kind_fits kinds.Subckt words = false
kind_fits kind words = true

-- A line that reads as the statement of its kind: its words are words of the format, and a row begins with no keyword.
abbrev pub line_fits : Line → Bool
line_fits l = list_all is_word l.words && kind_fits l.kind l.words

-- The words of a latch line.
abbrev pub latch_words : Latch → List (List ℕ)
latch_words l = l.feed ∷ l.output ∷ (kind_words l.kind ++ digit l.init ∷ [])

abbrev pub row_said : List (List ℕ) → Bool → List ℕ → Line
row_said inputs on part = said kinds.Row (row_words inputs on part)

-- A table's line, and its rows.
abbrev pub table_said : Table → List Line
table_said t = said kinds.Names (t.inputs ++ t.output ∷ []) ∷ map (row_said t.inputs t.on) t.rows

-- From the tables to the end.
abbrev pub from_tables : List Table → List Line
from_tables [] = said kinds.End [] ∷ []
from_tables (t ∷ ts) = table_said t ++ from_tables ts

-- From the latches to the end.
abbrev pub from_latches : List Latch → List Table → List Line
from_latches [] ts = from_tables ts
from_latches (l ∷ ls) ts = said kinds.Latch (latch_words l) ∷ from_latches ls ts

-- From the clocks, where there are any, to the end.
abbrev pub from_clocks : List (List ℕ) → List Latch → List Table → List Line
from_clocks [] ls ts = from_latches ls ts
from_clocks (c ∷ cs) ls ts = said kinds.Clock (c ∷ cs) ∷ from_latches ls ts

-- The lines of a netlist.
abbrev pub lines_of : Netlist → List Line
lines_of n =
    said kinds.Model (n.frame.model ∷ [])
    ∷ said kinds.Inputs n.frame.inputs
    ∷ said kinds.Outputs n.frame.outputs
    ∷ from_clocks n.frame.clocks n.frame.latches n.tables

-- The statements of lines, numbered from a number on.
abbrev pub numbered : ℕ → List Line → List Statement
numbered k [] = []
numbered k (l ∷ ls) = record { line = k; kind = l.kind; words = l.words } ∷ numbered (suc k) ls

-- The statements of a written netlist.
abbrev pub written : Netlist → List Statement
written n = numbered 1 (lines_of n)
