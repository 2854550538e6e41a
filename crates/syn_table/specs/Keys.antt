-- Keys: numbers that rise along references, so far apart that others fit between them.
use Rattle.std.specs.Prelude.{ℕ, ◌*◌, ◌^◌, List, map}
use Rattle.syn_rows.specs.declared.Row.{Row}
use Rattle.syn_rows.specs.Levels.{levels_of}

-- the key of a node by its level
abbrev pub key_of_level : ℕ → ℕ
key_of_level level = level * 2 ^ 32

-- the keys of rows: each node's by its level
abbrev pub spread_of : List Row → List ℕ
spread_of rows = map key_of_level (levels_of rows)
