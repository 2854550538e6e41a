-- What the reader has gathered of a model from the statements above a point.
use Rattle.std.specs.Prelude.{ℕ, suc, ◌≡◌, ◌+◌, ◌≤◌, ◌&&◌, ◌||◌, Bool, true, if◌then◌else◌, List, [], ◌∷◌, ◌++◌, length, map, option_map, Some, None, ◌⊎◌}
use Rattle.std.specs.List.{list_all}
use Rattle.syn_netlist.specs.Words.{has_word}
use Rattle.syn_models.specs.Kept.{statement_in, statements_below, is_spelled, kind_has_no_nil}
use Rattle.syn_models.specs.Models as models
use Rattle.syn_models.specs.Models.{StatementKind, Subcircuit, binds_once, names_in, subcircuits_in}
use Rattle.syn_reader.specs.declared.Kind.{Kind}
use Rattle.syn_reader.specs.Definitions.{names_defined}
use Rattle.syn_reader.specs.Faults.{Fault, SubcktShape, PortTwice}
use Rattle.syn_reader.specs.Marking.{forbidden, Adds}
use Rattle.syn_reader.specs.Statements.{is_names}
use Rattle.syn_reader.specs.declared.model_words.Gathering.{Gathering}
use Rattle.syn_reader.specs.Computed.{said_by}
use Rattle.syn_reader.specs.Saying.{on_line}
use Rattle.syn_reader.specs.Subcircuits.{bound_twice, subcircuit_of}

-- What is said above, in words.
abbrev pub said_in : Gathering → List models.Statement
said_in g = map (statement_in g.signals.names) g.statements.items

-- Whether what stands above forbids a definition.
abbrev pub forbids_in : Gathering → Kind → List ℕ → Bool
forbids_in g = forbidden g.signals.names g.signals.marks.items

-- A subcircuit that a model may hold: its model and its formals are words, and no formal is bound twice.
abbrev pub is_held : Subcircuit → Bool
is_held c = is_spelled c && binds_once c

-- What a model may hold: such subcircuits, and no control and no actual that is named `NIL`.
abbrev pub may_stand : models.Statement → Bool
may_stand s = kind_has_no_nil s.kind && list_all is_held (subcircuits_in s.kind)

-- All numbers are of names, of which each has a mark, and a model may hold what is said.
pub record IsSound (g : Gathering) : Type 0 where
  pub marked : length g.signals.marks.items ≡ length g.signals.names
  pub below : statements_below (length g.signals.names) g.statements.items ≡ true
  pub held : list_all may_stand (said_in g) ≡ true

-- How many words rows have.
abbrev pub row_total : List (List (List ℕ)) → ℕ
row_total [] = 0
row_total (r ∷ rs) = length r + row_total rs

-- How many words a keyword's line has, and the rows of a table with it.
abbrev pub line_total : Kind → List (List ℕ) → List (List (List ℕ)) → ℕ
line_total kind words rows = suc (length words) + (if is_names kind then row_total rows else 0)

-- A line was gathered, with these rows below it: it says this, behind what is said above.
pub record Gathers (kind : Kind) (line : ℕ) (words : List (List ℕ)) (rows : List (List (List ℕ))) (old new : Gathering) : Type 0 where
  pub says : StatementKind
  pub said : (rest : List models.Statement) → said_by line kind words rows rest ≡ Some (on_line line says rest)
  pub put : said_in new ≡ said_in old ++ on_line line says []
  pub defined : Adds kind (names_defined kind words) (forbids_in old) (forbids_in new)
  pub known : (word : List ℕ) → has_word new.signals.names word ≡ (has_word old.signals.names word || has_word (names_in says) word)
  pub count : length new.signals.names ≤ length old.signals.names + length words
  pub total : new.words ≡ old.words + line_total kind words rows

-- The fault of a `.subckt` line with these words: of their shape, or else of a formal that is bound twice.
abbrev pub IsSubcktFault : ℕ → List (List ℕ) → Fault → Type 0
IsSubcktFault line words fault =
    ((fault ≡ SubcktShape line) × (subcircuit_of words ≡ None))
    ⊎ ((c : Subcircuit) × (subcircuit_of words ≡ Some c) × (option_map (PortTwice line) (bound_twice (Some c)) ≡ Some fault))
