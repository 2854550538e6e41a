-- Latches as the reader meets them.
use Rattle.std.specs.Prelude.{ℕ, ◌≡◌, Bool, List, [], ◌∷◌, ◌++◌, Option, Some, None}
use Rattle.std.specs.Borrow.{Bor}
use Rattle.std.specs.List.{list_all}
use Rattle.syn_netlist.specs.Words.{is_word}
use Rattle.syn_netlist.specs.declared.LatchKind.{LatchKind}
use Rattle.syn_netlist.specs.Lists.{Latch}
use Rattle.syn_reader.specs.declared.latch_lines.Rest.{Rest}
use Rattle.syn_reader.specs.declared.latch_lines.LatchLine.{LatchLine}
use Rattle.syn_reader.specs.Computed.{type_of, init_of, signal_of, latch}

abbrev pub are_words : List (List ℕ) → Bool
are_words words = list_all is_word words

-- The words of a type with its control.
abbrev pub kind_words : Option (Bor (List ℕ) × Bor (List ℕ)) → List (List ℕ)
kind_words None = []
kind_words (Some (word, control)) = word.now ∷ control.now ∷ []

-- The word of an initial value.
abbrev pub init_words : Option (Bor (List ℕ)) → List (List ℕ)
init_words None = []
init_words (Some word) = word.now ∷ []

-- The words behind the output.
abbrev pub rest_words : Rest → List (List ℕ)
rest_words rest = kind_words rest.kind ++ init_words rest.init

-- The words spell this type, and this word of a control.
abbrev pub IsKind : Option (Bor (List ℕ) × Bor (List ℕ)) → Option (LatchKind × Bor (List ℕ)) → Type 0
IsKind None None = Unit
IsKind (Some (word, control)) (Some (kind, name)) = (type_of word.now ≡ Some kind) × (name.now ≡ control.now)
IsKind words kind = ⊥

-- The word spells this initial value.
abbrev pub IsInit : Option (Bor (List ℕ)) → ℕ → Type 0
IsInit None init = init ≡ 3
IsInit (Some word) init = init_of word.now ≡ Some init

-- The word of a control.
abbrev pub control_words : Option (LatchKind × Bor (List ℕ)) → List (List ℕ)
control_words None = []
control_words (Some (kind, control)) = control.now ∷ []

-- The type, and the control where it is a signal.
abbrev pub kind_of : Option (LatchKind × Bor (List ℕ)) → Option (LatchKind × Option (List ℕ))
kind_of None = None
kind_of (Some (kind, control)) = Some (kind, signal_of control.now)

-- The latch that a line spells.
abbrev pub latch_of_line : LatchLine → Latch
latch_of_line line = latch line.feed.now line.output.now (kind_of line.kind) line.init
