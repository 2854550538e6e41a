-- What the types of models by numbers keep, and the parts of the view in words that need no more than a list of names.
use Rattle.std.specs.Prelude.{ℕ, ◌&&◌, not, Bool, true, List, ◌∷◌, map, bytes_eq}
use Rattle.std.specs.List.{list_all}
use Rattle.syn_netlist.specs.Words.{is_word}
use Rattle.syn_netlist.specs.Lists.{control_of}
use Rattle.syn_netlist.specs.Numbers.{word_at, words_at, all_below}
use Rattle.syn_netlist.specs.Kept.{latch_in, latch_numbers, nil_word}
use Rattle.syn_netlist.specs.Tables.{table_in}
use Rattle.syn_models.specs.declared.hierarchy.Bind.{Bind}
use Rattle.syn_models.specs.declared.hierarchy.Subcircuit.{Subcircuit}
use Rattle.syn_models.specs.declared.hierarchy.StatementKind.{StatementKind}
use Rattle.syn_models.specs.declared.hierarchy.StatementKind.TheVariants as kinds
use Rattle.syn_models.specs.declared.hierarchy.Statement.{Statement}
use Rattle.syn_models.specs.Models as models

-- each number stands for the word at its place in the names
abbrev pub bind_in : List (List ℕ) → Bind → models.Bind
bind_in names b = record { formal = b.formal; actual = word_at names b.actual }

abbrev pub subcircuit_in : List (List ℕ) → Subcircuit → models.Subcircuit
subcircuit_in names c = record { model = c.model; binds = map (bind_in names) c.binds }

abbrev pub kind_in : List (List ℕ) → StatementKind → models.StatementKind
kind_in names (kinds.Inputs numbers) = models.Inputs (words_at names numbers)
kind_in names (kinds.Outputs numbers) = models.Outputs (words_at names numbers)
kind_in names (kinds.Clock numbers) = models.Clock (words_at names numbers)
kind_in names (kinds.Latch latch) = models.OneLatch (latch_in names latch)
kind_in names (kinds.Table table) = models.OneTable (table_in names table)
kind_in names (kinds.Subckt c) = models.OneSubcircuit (subcircuit_in names c)

abbrev pub statement_in : List (List ℕ) → Statement → models.Statement
statement_in names s = record { line = s.line; kind = kind_in names s.kind }

-- the model in words of these parts by numbers
abbrev pub model_of : List (List ℕ) → List ℕ → List Statement → ℕ → models.Model
model_of names name statements words = record { name = name; names = names; statements = map (statement_in names) statements; words = words }

-- the number of an actual
abbrev pub actual_number : Bind → ℕ
actual_number b = b.actual

-- the numbers of names that a statement has
abbrev pub numbers_in : StatementKind → List ℕ
numbers_in (kinds.Inputs numbers) = numbers
numbers_in (kinds.Outputs numbers) = numbers
numbers_in (kinds.Clock numbers) = numbers
numbers_in (kinds.Latch latch) = latch_numbers latch
numbers_in (kinds.Table table) = table.output ∷ table.inputs
numbers_in (kinds.Subckt c) = map actual_number c.binds

-- all names of the statements are below the count
abbrev pub statements_below : ℕ → List Statement → Bool
statements_below count statements = list_all (λ s. all_below count (numbers_in s.kind)) statements

-- the model that a subcircuit contains, and the formals, are words
abbrev pub is_spelled : models.Subcircuit → Bool
is_spelled c = is_word c.model && list_all is_word (map models.formal_of c.binds)

-- the models that a model contains, and their formals, are words
abbrev pub formals_are_words : models.Model → Bool
formals_are_words m = list_all is_spelled (models.subcircuits_of m)

-- the word isn't `NIL`
abbrev pub not_nil : List ℕ → Bool
not_nil word = not (bytes_eq nil_word word)

-- no control of a latch and no actual is named `NIL`
abbrev pub kind_has_no_nil : models.StatementKind → Bool
kind_has_no_nil (models.OneLatch latch) = list_all not_nil (control_of latch.kind)
kind_has_no_nil (models.OneSubcircuit c) = list_all not_nil (map models.actual_in c.binds)
kind_has_no_nil kind = true

abbrev pub has_no_nil : models.Model → Bool
has_no_nil m = list_all (λ s. kind_has_no_nil s.kind) m.statements
