-- The bytes of a script.
use Rattle.std.specs.Prelude.{ℕ, suc, nat_le, nat_lt, ◌&&◌, ◌||◌, ◌==◌, not, Bool, if◌then◌else◌, List, [], ◌∷◌, Option, Some, None}

-- A byte may stand in a script: a tab, a CR, and 32 to 126. An LF may not.
abbrev pub may_stand : ℕ → Bool
may_stand b = b == 9 || b == 13 || (nat_le 32 b && nat_le b 126)

-- A byte may stand: also one above 127, where bytes may be held as such.
abbrev pub may_stand_if : Bool → ℕ → Bool
may_stand_if held b = may_stand b || (held && nat_lt 127 b)

-- The offset of the first other byte, in bytes that begin at an offset.
abbrev pub bad_byte_at : Bool → ℕ → List ℕ → Option ℕ
bad_byte_at held at [] = None
bad_byte_at held at (b ∷ bs) = if may_stand_if held b then bad_byte_at held (suc at) bs else Some at

-- The same in a whole text.
abbrev pub bad_byte : Bool → List ℕ → Option ℕ
bad_byte held text = bad_byte_at held 0 text

-- A byte of a word: 33 to 126, and those above 127, which stand for what is held in quotes. Spaces, tabs and CRs stand between words.
abbrev pub is_word_byte : ℕ → Bool
is_word_byte b = nat_lt 32 b && not (b == 127)
