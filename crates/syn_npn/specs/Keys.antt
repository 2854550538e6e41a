-- Least keys of functions, and tables of them.
use Rattle.std.specs.Prelude.{◌≡◌, ℕ, zero, suc, min, ◌/◌, ◌%◌, ◌<◌, ◌==◌, ◌&&◌, if◌then◌else◌, nat_lt, List, slice_index_or, length}
use Rattle.syn_npn.specs.Permutations.{key_at}

-- the least of g 0, .., g n
unfoldable pub least_of : ℕ → (ℕ → ℕ) → ℕ
least_of zero g = g 0
least_of (suc n) g = min (least_of n g) (g (suc n))

-- the least key of a function: its class, and below it the place of the first transform that gives the class
unfoldable pub canon_key : ℕ → ℕ
canon_key function = least_of 767 (key_at function)

-- the least key of each function from 0 on
abbrev pub IsKeyed : List ℕ → Type 0
IsKeyed keys = (function : ℕ) → function < length keys → slice_index_or keys function 0 ≡ canon_key function

-- the class of a function, its least image
abbrev pub class_of : ℕ → ℕ
class_of function = canon_key function / 1024

-- the key that is noted for a function after so many transforms of a class, where 4294967295 stands for none
abbrev pub noted : ℕ → ℕ → ℕ → ℕ → ℕ
noted places class old function =
    if old == 4294967295 && class_of function == class && nat_lt (canon_key function % 1024) places then canon_key function else old

abbrev pub AreNoted : ℕ → ℕ → List ℕ → List ℕ → Type 0
AreNoted places class old new = (function : ℕ) → function < 65536 → slice_index_or new function 0 ≡ noted places class (slice_index_or old function 0) function

-- the functions whose classes are below a number have their keys, and no others have
abbrev pub AreSeen : ℕ → List ℕ → Type 0
AreSeen number keys =
    (function : ℕ) → function < 65536 → slice_index_or keys function 0 ≡ (if nat_lt (class_of function) number then canon_key function else 4294967295)
