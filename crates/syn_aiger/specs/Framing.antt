-- The frame of a file by numbers of names, the literals of names by their numbers, and what becomes of a file's rows.
use Rattle.std.specs.Prelude.{ℕ, ◌≡◌, ◌<◌, true, List, [], length, map, slice_index}
use Rattle.syn_rows.specs.declared.Lit.{Lit}
use Rattle.syn_rows.specs.declared.Row.{Row}
use Rattle.syn_hashed.specs.Compacting.{IsCompacted}
use Rattle.syn_netlist.specs.declared.Latch.{Latch}
use Rattle.syn_netlist.specs.Kept.{latches_below, no_nil_control, frame_of as frame_by}
use Rattle.syn_netlist.specs.Numbers.{all_below, word_at}
use Rattle.syn_netlist.specs.Words.{is_word}
use Rattle.syn_aiger_files.specs.declared.files.Aig.{Aig}
use Rattle.syn_aiger.specs.Naming.{literal_named}
use Rattle.syn_aiger.specs.Networks.{frame_of, observed_literals}
use Rattle.syn_aiger.specs.Placing.{is_defined, lit_in, rows_in}
use Rattle.syn_aiger.specs.Values.{source_literals}

-- A model's name, numbers of names and latches are those of a file's frame, which has no clocks.
pub record AreParts (g : Aig) (names : List (List ℕ)) (model inputs outputs : List ℕ) (latches : List Latch) : Type 0 where
  pub model_is_word : is_word model ≡ true
  pub inputs_below : all_below (length names) inputs ≡ true
  pub outputs_below : all_below (length names) outputs ≡ true
  pub latches_low : latches_below (length names) latches ≡ true
  pub controls : no_nil_control names latches ≡ true
  pub frame : frame_by names model inputs [] outputs latches ≡ frame_of g

-- The literals of the names by their numbers.
abbrev pub AreLiterals : Aig → List (List ℕ) → List ℕ → Type 0
AreLiterals g names literals = (i : ℕ) → i < length names → slice_index literals i ≡ literal_named g (word_at names i)

-- The literals of all names are defined.
abbrev pub AllDefined : Aig → List (List ℕ) → Type 0
AllDefined g names = (i : ℕ) → i < length names → is_defined g (literal_named g (word_at names i)) ≡ true

-- Rows and literals are what compaction makes of a file's rows and of the literals of its observed signals.
abbrev pub IsBodyOf : Aig → List Row → List Lit → Type 0
IsBodyOf g rows lits = IsCompacted (length (source_literals g)) (rows_in g) (map (lit_in g) (observed_literals g)) rows lits
