-- What lines in memory hold.
use Rattle.std.specs.Prelude.{ℕ, List, drop, Some}
use Rattle.syn_io.specs.Outside.{Input}
use Rattle.syn_io.specs.declared.calls.Calls.{Calls}
use Rattle.syn_io.specs.declared.mem_lines.MemLines.{MemLines}

-- The bytes that are left.
abbrev pub bytes_left : MemLines → List ℕ
bytes_left held = drop held.at held.bytes.items

-- The calls of `next`.
abbrev pub line_calls : MemLines → Calls
line_calls held = held.calls

-- How often a call has failed.
abbrev pub line_faults : MemLines → ℕ
line_faults held = held.faults

-- They tell the bytes that are left.
abbrev pub input_of : MemLines → Input
input_of held = record { told = Some (bytes_left held); faults = line_faults held }
