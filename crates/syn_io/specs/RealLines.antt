-- What lines of a reader have left, where the reader tells what it has left.
use Rattle.std.specs.Prelude.{ℕ, ◌-◌, List, drop, take, Option}
use Rattle.std.specs.Io.KnownBytes.{prepend_known}
use Rattle.syn_io.specs.Outside.{Input}
use Rattle.syn_io.specs.declared.real_lines.RealLines.{RealLines}

-- The bytes that were read and not taken yet.
abbrev pub unread : {R : Type 0} → RealLines R → List ℕ
unread lines = take (lines.end - lines.at) (drop lines.at lines.buffer.items)

-- These, and then what the reader has left.
abbrev pub known_left : {R : Type 0} → (R → Option (List ℕ)) → RealLines R → Option (List ℕ)
known_left remaining lines = prepend_known (unread lines) (remaining lines.reader)

-- They tell what is left where the reader does.
abbrev pub input_over : {R : Type 0} → (R → Option (List ℕ)) → RealLines R → Input
input_over remaining lines = record { told = known_left remaining lines; faults = lines.faults }
