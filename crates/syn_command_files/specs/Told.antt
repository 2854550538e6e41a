-- What files tell of one of them, and of no change of theirs.
use Rattle.std.specs.Prelude.{◌≡◌, ◌≤◌, ◌<◌, ℕ, List, length, Option, Some, IfSome, IsSomeAnd}
use Rattle.syn_io.specs.Outside.{Disk, file_at}

-- Of the files that are told, the one of that name has these bytes.
abbrev pub HasBytes : List ℕ → Option (List (List ℕ × List ℕ)) → List ℕ → Type 0
HasBytes name told bytes = IfSome told (λ list. file_at name list ≡ Some bytes)

-- Of the files that are told, the one of that name has more bytes than so many.
abbrev pub HasMoreBytes : List ℕ → Option (List (List ℕ × List ℕ)) → ℕ → Type 0
HasMoreBytes name told limit = IfSome told (λ list. IsSomeAnd (file_at name list) (λ bytes. limit < length bytes))

-- The file of that name has these bytes, where the files are told.
abbrev pub FileIs : List ℕ → Disk → List ℕ → Type 0
FileIs name files bytes = HasBytes name files.told bytes

-- No file changed.
pub record FilesUnchanged (before after : Disk) : Type 0 where
  pub told : after.told ≡ before.told
  pub later : before.faults ≤ after.faults
