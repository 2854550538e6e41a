-- The lists of a written file, from a frame's lists by numbers of names and from the literals of names.
use Rattle.std.specs.Prelude.{◌≡◌, ℕ, ◌+◌, ◌*◌, ◌<◌, if◌then◌else◌, true, false, List, [], ◌∷◌, length, map, slice_index_or, is_some, Option, Some, None}
use Rattle.syn_rows.specs.declared.Lit.{Lit}
use Rattle.syn_netlist.specs.declared.Latch.{Latch}
use Rattle.syn_netlist.specs.Lists.{Netlist}
use Rattle.syn_lists.specs.Numbers.{has_number}
use Rattle.syn_netlist.specs.Numbers.{word_at}
use Rattle.syn_netlist.specs.Words.{has_word}
use Rattle.syn_aiger_files.specs.declared.files.AigLatch.{AigLatch}
use Rattle.syn_aiger.specs.Writing.{literal_in, reset_by}

-- the output of the first latch with a type
abbrev pub typed_output : List Latch → Option ℕ
typed_output [] = None
typed_output (latch ∷ latches) = if is_some latch.kind then Some latch.output else typed_output latches

-- the literal of a name by its number
abbrev pub literal_at : List ℕ → ℕ → ℕ
literal_at literals number = slice_index_or literals number 0

-- the latch of a variable
abbrev pub latch_at : List ℕ → ℕ → Latch → AigLatch
latch_at literals variable latch = record { literal = 2 * variable; next = literal_at literals latch.feed; reset = reset_by (2 * variable) latch.init }

-- the latches, from a variable on
abbrev pub latches_at : List ℕ → ℕ → List Latch → List AigLatch
latches_at literals variable [] = []
latches_at literals variable (latch ∷ latches) = latch_at literals variable latch ∷ latches_at literals (variable + 1) latches

abbrev pub lit_number : Lit → ℕ
lit_number l = l.0

-- Each of these signals that is not left has the literal that stands beside it.
abbrev pub ArePlaced : List ℕ → List Lit → List ℕ → List ℕ → Type 0
ArePlaced signals lits left literals = (f : ℕ → ℕ) → map f signals ≡ map lit_number lits → (n : ℕ) → has_number signals n ≡ true → has_number left n ≡ false → literal_at literals n ≡ f n

-- Each of the names that is among these words has its literal in the netlist.
abbrev pub HaveLiterals : Netlist → List (List ℕ) → List (List ℕ) → List ℕ → Type 0
HaveLiterals m names words literals = (n : ℕ) → n < length names → has_word words (word_at names n) ≡ true → literal_at literals n ≡ literal_in m (word_at names n)
