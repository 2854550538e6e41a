-- Files in memory, as names with their bytes.
use Rattle.std.specs.Prelude.{ℕ, List, map, string_bytes}
use Rattle.syn_io.specs.declared.mem_files.MemFile.{MemFile}

-- A file's name and bytes.
abbrev pub named_bytes : MemFile → List ℕ × List ℕ
named_bytes file = (string_bytes file.name, file.bytes.items)

abbrev pub all_named : List MemFile → List (List ℕ × List ℕ)
all_named files = map named_bytes files
