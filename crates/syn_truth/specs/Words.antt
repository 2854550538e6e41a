-- Words of 128 bits as tables: bit m of a word is the value at the minterm m of variables 0 to 6.
use Rattle.std.specs.Prelude.{◌≡◌, ℕ, ◌^◌, ◌<◌, ◌≤◌, ◌==◌, Bool, List, length}
use Rattle.std.specs.Int.{bit_at}
use Rattle.syn_truth.specs.Truth.{minterm_of}

-- a word that has a 1 at each minterm at which variable i is true, and at no other
pub record IsMask (word i : ℕ) : Type 0 where
  pub within : word < 2 ^ 128
  pub bit : (m : ℕ) → m < 128 → bit_at word m ≡ bit_at m i

-- the value in a word, or in any number, where the variables have these values, variable 0 first
abbrev pub value_in : ℕ → List Bool → Bool
value_in word xs = bit_at word (minterm_of xs) == 1

-- P holds at each list of values of at most 7 variables that has a value of variable i
abbrev pub AtEachWith : ℕ → (List Bool → Type 0) → Type 0
AtEachWith i P = (xs : List Bool) → i < length xs → length xs ≤ 7 → P xs
