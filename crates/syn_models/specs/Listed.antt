-- The ports of a model by numbers of its names.
use Rattle.std.specs.Prelude.{◌≡◌, ℕ, ◌<◌, true, false, List, [], ◌∷◌, length, slice_index_or}
use Rattle.syn_netlist.specs.Numbers.{word_at, words_at, all_below}
use Rattle.syn_netlist.specs.Words.{has_word}
use Rattle.syn_models.specs.declared.hierarchy.Model.{Model}
use Rattle.syn_models.specs.declared.hierarchy.Statement.{Statement}
use Rattle.syn_models.specs.declared.hierarchy.StatementKind.{StatementKind}
use Rattle.syn_models.specs.declared.hierarchy.StatementKind.TheVariants as kinds
use Rattle.syn_models.specs.declared.ports.Ports.{Ports}
use Rattle.syn_models.specs.declared.ports.Role.{Role}
use Rattle.syn_models.specs.declared.ports.Role.TheVariants as roles
use Rattle.syn_models.specs.Models as models
use Rattle.syn_models.specs.Views.{model_in}

-- the numbers that a statement lists in a role
abbrev pub numbers_listed : Role → StatementKind → List ℕ
numbers_listed roles.Input (kinds.Inputs numbers) = numbers
numbers_listed roles.Clock (kinds.Clock numbers) = numbers
numbers_listed roles.Output (kinds.Outputs numbers) = numbers
numbers_listed role kind = []

abbrev pub listed_in : Role → Statement → List ℕ
listed_in role s = numbers_listed role s.kind

-- the words that a statement in words lists in a role
abbrev pub words_listed : Role → models.StatementKind → List (List ℕ)
words_listed roles.Input = models.inputs_in
words_listed roles.Clock = models.clocks_in
words_listed roles.Output = models.outputs_in

-- the numbers of the names that a statement defines by itself
abbrev pub plain_numbers : StatementKind → List ℕ
plain_numbers (kinds.Inputs numbers) = numbers
plain_numbers (kinds.Clock numbers) = numbers
plain_numbers (kinds.Latch latch) = latch.output ∷ []
plain_numbers (kinds.Table table) = table.output ∷ []
plain_numbers kind = []

abbrev pub plain_in : Statement → List ℕ
plain_in s = plain_numbers s.kind

-- These are the ports of the model: in list order, and as marks. A word that is no name of the model is no port.
pub record ArePorts (m : Model) (p : Ports) : Type 0 where
  pub below : all_below (length m.names) p.reading.items ≡ true
  pub listed : words_at m.names p.reading.items ≡ models.reading_ports (model_in m)
  pub reads_size : length p.reads.items ≡ length m.names
  pub reads : (i : ℕ) → i < length m.names → slice_index_or p.reads.items i false ≡ models.is_reading (model_in m) (word_at m.names i)
  pub outputs_size : length p.outputs.items ≡ length m.names
  pub outputs : (i : ℕ) → i < length m.names → slice_index_or p.outputs.items i false ≡ has_word (models.outputs_of (model_in m)) (word_at m.names i)
  pub known : (word : List ℕ) → has_word m.names word ≡ false → models.is_port (model_in m) word ≡ false

-- These are the ports of each model.
abbrev pub AllPorts : List Model → List Ports → Type 0
AllPorts [] [] = Unit {0}
AllPorts [] (p ∷ ps) = ⊥
AllPorts (m ∷ ms) [] = ⊥
AllPorts (m ∷ ms) (p ∷ ps) = ArePorts m p × AllPorts ms ps
