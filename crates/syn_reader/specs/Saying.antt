-- The models that a text spells.
use Rattle.std.specs.Prelude.{ℕ, ◌≡◌, true, List, [], ◌∷◌, flat_map, Some, None}
use Rattle.syn_netlist.specs.Lists.{Latch, Table}
use Rattle.syn_netlist.specs.Words.{has_word, distinct}
use Rattle.syn_models.specs.Models as models
use Rattle.syn_models.specs.Models.{StatementKind, Inputs, Outputs, Clock, OneLatch, OneTable, OneSubcircuit, Model, names_in}
use Rattle.syn_reader.specs.declared.Kind.{Kind}
use Rattle.syn_reader.specs.declared.Kind.TheVariants as kinds
use Rattle.syn_reader.specs.Shapes.{IsLatch, IsTable}
use Rattle.syn_reader.specs.Statements.{Statement, rows_below, statements}
use Rattle.syn_reader.specs.ModelFaults.{first_line_fault}
use Rattle.syn_reader.specs.Parted.{by_model, name_in, words_of}
use Rattle.syn_reader.specs.Subcircuits.{subcircuit_of}

-- What is said on a line, in front of what is said below.
abbrev pub on_line : ℕ → StatementKind → List models.Statement → List models.Statement
on_line line kind rest = record { line = line; kind = kind } ∷ rest

-- What a line with these words, and with these rows below it, says in front of the rest, by its keyword. A row has its place in its table; `.model` and `.end` say nothing of their own.
abbrev pub Says : ℕ → Kind → List (List ℕ) → List (List (List ℕ)) → List models.Statement → List models.Statement → Type 0
Says line kinds.Model words rows rest said = said ≡ rest
Says line kinds.Inputs words rows rest said = said ≡ on_line line (Inputs words) rest
Says line kinds.Outputs words rows rest said = said ≡ on_line line (Outputs words) rest
Says line kinds.Clock words rows rest said = said ≡ on_line line (Clock words) rest
Says line kinds.Names words rows rest said = (table : Table) × IsTable words rows table × (said ≡ on_line line (OneTable table) rest)
Says line kinds.Latch words rows rest said = (latch : Latch) × IsLatch words latch × (said ≡ on_line line (OneLatch latch) rest)
Says line kinds.Subckt words rows rest said = (c : models.Subcircuit) × (subcircuit_of words ≡ Some c) × (said ≡ on_line line (OneSubcircuit c) rest)
Says line kinds.End words rows rest said = said ≡ rest
Says line kinds.Row words rows rest said = said ≡ rest
Says line kinds.Unknown words rows rest said = ⊥

-- The statements of a model say these.
abbrev pub Say : List Statement → List models.Statement → Type 0
Say [] said = said ≡ []
Say (s ∷ ss) said = (rest : List models.Statement) × Say ss rest × Says s.line s.kind s.words (rows_below ss) rest said

abbrev pub names_of : List models.Statement → List (List ℕ)
names_of said = flat_map (λ s. names_in s.kind) said

-- The statements spell the model: its name, what they say, its words, and for its names, each once and in some order, those that its statements have.
pub record SpellModel (ss : List Statement) (m : Model) : Type 0 where
  pub name : m.name ≡ name_in ss
  pub said : Say ss m.statements
  pub words : m.words ≡ words_of ss
  pub names : (word : List ℕ) → has_word m.names word ≡ has_word (names_of m.statements) word
  pub once : distinct m.names ≡ true

-- Each list of statements spells its model.
abbrev pub SpellAll : List (List Statement) → List Model → Type 0
SpellAll [] [] = Unit {0}
SpellAll [] (m ∷ ms) = ⊥
SpellAll (ss ∷ more) [] = ⊥
SpellAll (ss ∷ more) (m ∷ ms) = SpellModel ss m × SpellAll more ms

-- The text spells the models: its statements do, model by model, and no disallowed byte and no fault of a line stands in it.
pub record SpellsModels (bytes : List ℕ) (ms : List Model) : Type 0 where
  pub faultless : first_line_fault bytes ≡ None
  pub spelled : SpellAll (by_model (statements bytes)) ms
