-- Pieces of bytes: what stands between the bytes that end them.
use Rattle.std.specs.Prelude.{ℕ, suc, ◌≡◌, ◌<◌, ◌≤◌, ◌+◌, ◌==◌, ◌⊎◌, if◌then◌else◌, Bool, List, [], ◌∷◌, ◌++◌, length}
use Rattle.std.specs.List.{onto_first}

-- The pieces of bytes: those before each byte of a value, and those behind the last one where there are any.
abbrev pub pieces : ℕ → List ℕ → List (List ℕ)
pieces end [] = []
pieces end (b ∷ bs) = if b == end then [] ∷ pieces end bs else onto_first b (pieces end bs)

-- What the code measures: the number of bytes before the first that passes a test.
abbrev pub before : (ℕ → Bool) → List ℕ → ℕ
before test [] = 0
before test (b ∷ bs) = if test b then 0 else suc (before test bs)

-- The bytes are the first piece, and what stands behind the byte that ends it.
pub record IsCut (end : ℕ) (bytes piece behind : List ℕ) : Type 0 where
  pub is_first : pieces end bytes ≡ piece ∷ pieces end behind
  pub parts : (bytes ≡ piece ++ end ∷ behind) ⊎ ((bytes ≡ piece) × (behind ≡ []))
  pub full : 0 < length behind → length piece + 1 + length behind ≡ length bytes
  pub less : length behind < length bytes
  pub front : length piece ≤ length bytes
