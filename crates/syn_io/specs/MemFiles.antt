-- What files in memory hold.
use Rattle.std.specs.Prelude.{ℕ, List, Some}
use Rattle.syn_io.specs.Outside.{Disk}
use Rattle.syn_io.specs.NamedFiles.{all_named}
use Rattle.syn_io.specs.declared.calls.Calls.{Calls}
use Rattle.syn_io.specs.declared.mem_files.MemFiles.{MemFiles}

-- The files, as names with their bytes.
abbrev pub files_in : MemFiles → List (List ℕ × List ℕ)
files_in held = all_named held.files.items

-- The calls of `get`.
abbrev pub get_calls : MemFiles → Calls
get_calls held = held.gets

-- The calls of `put`.
abbrev pub put_calls : MemFiles → Calls
put_calls held = held.puts

-- How often a call has failed.
abbrev pub file_faults : MemFiles → ℕ
file_faults held = held.faults

-- They tell the files.
abbrev pub disk_of : MemFiles → Disk
disk_of held = record { told = Some (files_in held); faults = file_faults held }
