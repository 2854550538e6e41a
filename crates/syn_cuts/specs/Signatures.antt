-- Signatures of cuts: a word that has for each leaf the bit of its number modulo 64.
use Rattle.std.specs.Prelude.{◌≡◌, ℕ, ◌<◌, ◌%◌, ◌^◌, List, [], ◌∷◌, length, bit_or, slice_index_or}

-- the bits of leaves, beside those that are there
abbrev pub signature_with : ℕ → List ℕ → ℕ
signature_with bits [] = bits
signature_with bits (x ∷ xs) = signature_with (bit_or bits (2 ^ (x % 64))) xs

-- the signature of a cut
abbrev pub signature : List ℕ → ℕ
signature c = signature_with 0 c

-- the words are the signatures of the first cuts, as many as there are words
abbrev pub AreSignatures : List ℕ → List (List ℕ) → Type 0
AreSignatures words cuts = (i : ℕ) → i < length words → slice_index_or words i 0 ≡ signature (slice_index_or cuts i [])
