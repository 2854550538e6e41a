-- The statements that are left of one model, and of those below it.
use Rattle.std.specs.Prelude.{ℕ, ◌≡◌, ◌+◌, ◌^◌, ◌<◌, ◌≤◌, ◌&&◌, Bool, true, false, if◌then◌else◌, List, [], ◌∷◌, ◌++◌, length, flat_map, option_map, None}
use Rattle.std.specs.List.{list_any}
use Rattle.syn_lex.specs.Lines.{is_nil}
use Rattle.syn_netlist.specs.Words.{has_word}
use Rattle.syn_reader.specs.declared.Kind.{Kind}
use Rattle.syn_reader.specs.declared.Kind.TheVariants as kinds
use Rattle.syn_reader.specs.Definitions.{definitions}
use Rattle.syn_reader.specs.Heard.{Begins, word_count}
use Rattle.syn_reader.specs.LineFaults.{first_fault_of_lines, table_above}
use Rattle.syn_reader.specs.Marking.{forbidden_by}
use Rattle.syn_reader.specs.Statements.{Statement, is_end, is_model}
use Rattle.syn_reader.specs.declared.model_words.Gathering.{Gathering}
use Rattle.syn_reader.specs.Computed.{said_of}
use Rattle.syn_reader.specs.ModelFaults.{model_checks}
use Rattle.syn_reader.specs.Gathers.{forbids_in, said_in}
use Rattle.syn_reader.specs.Parted.{words_of}
use Rattle.syn_reader.specs.Saying.{names_of}

-- The statements up to the next model: to the next `.model` in a file of models, else all.
abbrev pub own : Bool → List Statement → List Statement
own many [] = []
own many (s ∷ ss) = if many && is_model s.kind then [] else s ∷ own many ss

-- Those of the models below.
abbrev pub behind : Bool → List Statement → List Statement
behind many [] = []
behind many (s ∷ ss) = if many && is_model s.kind then s ∷ ss else behind many ss

-- The statements of the first model, and those of the models below it.
abbrev pub first : Bool → List Statement → List Statement
first many [] = []
first many (s ∷ ss) = s ∷ own many ss

abbrev pub others : Bool → List Statement → List Statement
others many [] = []
others many (s ∷ ss) = behind many ss

-- The statements above, of all these of a model, are gathered, and the rest of them are left; models of these names stand above the model.
pub record HasGathered (models : List (List ℕ)) (all rest : List Statement) (g : Gathering) : Type 0 where
  pub above : List Statement
  pub faults : first_fault_of_lines (model_checks models) above rest ≡ first_fault_of_lines (model_checks models) [] all
  pub going : list_any (λ t. is_end t.kind) above ≡ false
  pub begun : is_nil above ≡ true → Begins kinds.Model rest → ⊥
  pub closed : Begins kinds.Row rest → table_above above ≡ None
  pub taken : (kind : Kind) (word : List ℕ) → forbidden_by (flat_map definitions above) kind word ≡ forbids_in g kind word
  pub said : option_map (λ out. said_in g ++ out) (said_of rest) ≡ said_of all
  pub known : (word : List ℕ) → has_word g.signals.names word ≡ has_word (names_of (said_in g)) word
  pub count : length g.signals.names + word_count rest ≤ word_count all
  pub total : g.words + words_of rest ≡ words_of all
  pub few : length g.signals.names ≤ g.words

-- Some statements of a model were gathered and these are left; all of them have few words.
abbrev pub HasRoom : List Statement → Gathering → Type 0
HasRoom rest g = (models : List (List ℕ)) × (all : List Statement) × HasGathered models all rest g × (word_count all < 2 ^ 32) × (words_of all < 2 ^ 62)
