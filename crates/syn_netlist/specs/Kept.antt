-- What the types of netlists by numbers keep, as tests of their fields, and the parts of the view in words that need no more than a list of names.
use Rattle.std.specs.Prelude.{ℕ, ◌==◌, ◌&&◌, ◌||◌, not, Bool, true, List, [], ◌∷◌, length, map, bytes_eq, Option, Some, None}
use Rattle.std.specs.List.{list_all}
use Rattle.syn_netlist.specs.declared.LatchKind.{LatchKind}
use Rattle.syn_netlist.specs.declared.Latch.{Latch}
use Rattle.syn_netlist.specs.Lists as lists
use Rattle.syn_netlist.specs.Numbers.{word_at, words_at, kind_at, all_below}

-- the latch in words that a latch by numbers stands for
abbrev pub latch_in : List (List ℕ) → Latch → lists.Latch
latch_in names latch = record { feed = word_at names latch.feed; output = word_at names latch.output; kind = kind_at names latch.kind; init = latch.init }

-- the frame in words of these parts by numbers
abbrev pub frame_of : List (List ℕ) → List ℕ → List ℕ → List ℕ → List ℕ → List Latch → lists.Frame
frame_of names model inputs clocks outputs latches = record {
  model = model;
  inputs = words_at names inputs;
  clocks = words_at names clocks;
  outputs = words_at names outputs;
  latches = map (latch_in names) latches;
}

-- the number of the control of a latch, where it is a signal
abbrev pub control_number : Option (LatchKind × Option ℕ) → List ℕ
control_number None = []
control_number (Some (kind, None)) = []
control_number (Some (kind, Some i)) = i ∷ []

-- the numbers of names that a latch has
abbrev pub latch_numbers : Latch → List ℕ
latch_numbers latch = latch.feed ∷ latch.output ∷ control_number latch.kind

-- all names of the latches are below the count
abbrev pub latches_below : ℕ → List Latch → Bool
latches_below count latches = list_all (λ latch. all_below count (latch_numbers latch)) latches

-- the word `NIL`, which as a control is no signal (BLIF manual, section .latch)
abbrev pub nil_word : List ℕ
nil_word = 78 ∷ 73 ∷ 76 ∷ []

-- no latch has a control that is named `NIL`
abbrev pub no_nil_control : List (List ℕ) → List Latch → Bool
no_nil_control names latches = list_all (λ latch. list_all (λ i. not (bytes_eq nil_word (word_at names i))) (control_number latch.kind)) latches

-- a character of a row: `0`, `1` or `-` (BLIF manual, section .names)
abbrev pub is_row_character : ℕ → Bool
is_row_character c = (c == 48) || (c == 49) || (c == 45)

-- a row fits so many inputs: it has one character for each
abbrev pub row_fits : ℕ → List ℕ → Bool
row_fits inputs row = (length row == inputs) && list_all is_row_character row

-- each row fits
abbrev pub rows_fit : ℕ → List (List ℕ) → Bool
rows_fit inputs rows = list_all (row_fits inputs) rows

-- rows that are there may list the on-set or the off-set; no rows list the on-set (this project's choice)
abbrev pub polarity_fits : List (List ℕ) → Bool → Bool
polarity_fits [] on = on
polarity_fits (row ∷ rows) on = true
