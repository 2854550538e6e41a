-- What files, lines and a sink tell of themselves, and their counts of faults.
use Rattle.std.specs.Prelude.{◌≡◌, ℕ, ◌+◌, ◌-◌, ◌^◌, ◌≤◌, min, not, is_some, ◌&&◌, ◌==◌, Bool, true, if◌then◌else◌, List, [], ◌∷◌, ◌++◌, filter, Option, None, Some, bytes_eq}
use Rattle.std.specs.List.{before_first, after_first}

-- Files: their names with their bytes where that is told, and how often a call has failed.
pub record Disk : Type 0 where
  pub told : Option (List (List ℕ × List ℕ))
  pub faults : ℕ

-- Lines: the bytes that are left where that is told, and how often a call has failed.
pub record Input : Type 0 where
  pub told : Option (List ℕ)
  pub faults : ℕ

-- A sink: the bytes that it took where that is told, and how often a call has failed.
pub record Screen : Type 0 where
  pub told : Option (List ℕ)
  pub faults : ℕ

-- A count rose in a call. One that stands at the end of its 64 bits counts as risen.
abbrev pub Rose : ℕ → ℕ → Type 0
Rose before now = min (before + 1) (2 ^ 64 - 1) ≤ now

-- The bytes of the file of that name, in a list of names with their bytes.
abbrev pub file_at : List ℕ → List (List ℕ × List ℕ) → Option (List ℕ)
file_at name [] = None
file_at name (file ∷ files) = if bytes_eq file.0 name then Some file.1 else file_at name files

-- The files of all other names.
abbrev pub without_file : List ℕ → List (List ℕ × List ℕ) → List (List ℕ × List ℕ)
without_file name files = filter (λ file. not (bytes_eq file.0 name)) files

-- The list with these bytes for the file of that name, in its place, or as a last one where it is missing.
abbrev pub with_file : List ℕ → List ℕ → List (List ℕ × List ℕ) → List (List ℕ × List ℕ)
with_file name bytes [] = (name, bytes) ∷ []
with_file name bytes (file ∷ files) = if bytes_eq file.0 name then (file.0, bytes) ∷ files else file ∷ with_file name bytes files

-- No two files have one name.
abbrev pub has_distinct_names : List (List ℕ × List ℕ) → Bool
has_distinct_names [] = true
has_distinct_names (file ∷ files) = not (is_some (file_at file.0 files)) && has_distinct_names files

abbrev pub is_line_feed : ℕ → Bool
is_line_feed byte = byte == 10

-- The next line: the bytes before the next line feed, or before the end where a byte is left.
abbrev pub next_line : List ℕ → Option (List ℕ)
next_line [] = None
next_line (byte ∷ bytes) = Some (before_first is_line_feed (byte ∷ bytes))

-- What is left behind the next line and its line feed.
abbrev pub after_line : List ℕ → List ℕ
after_line bytes = after_first is_line_feed bytes

-- The bytes taken grew by a first part of the piece, which may be none or all of it.
abbrev pub GrewByPart : List ℕ → List ℕ → List ℕ → Type 0
GrewByPart before piece now = (part : List ℕ) × (rest : List ℕ) × (piece ≡ part ++ rest) × (now ≡ before ++ part)
