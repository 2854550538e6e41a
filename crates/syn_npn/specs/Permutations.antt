-- The transforms by their places in their order.
use Rattle.std.specs.Prelude.{◌≡◌, ℕ, ◌+◌, ◌*◌, ◌/◌, ◌%◌, ◌<◌, ◌==◌, Bool, List, [], slice_index_or}
use Rattle.syn_npn.specs.declared.TheConstants.{PERMUTATIONS}
use Rattle.syn_npn.specs.Values.{image_by}

-- the permutation at a place of the code's table, which has them in lexicographic order
unfoldable pub permutation_at : ℕ → List ℕ
permutation_at place = slice_index_or PERMUTATIONS place []

-- the permutation of the transform at a place
abbrev pub perm_at : ℕ → List ℕ
perm_at place = permutation_at (place / 16 % 24)

-- whether the transform at a place complements the value
abbrev pub neg_at : ℕ → Bool
neg_at place = place / 384 == 1

-- the image of a function by the transform at a place
abbrev pub image_at : ℕ → ℕ → ℕ
image_at function place = image_by (perm_at place) (place % 16) (neg_at place) function

-- the image and the place as one number: a lesser image, or an equal one at an earlier place, has a lesser key
unfoldable pub key_at : ℕ → ℕ → ℕ
key_at function place = image_at function place * 1024 + place

-- the key of a transform's image
abbrev pub IsKey : ℕ → ℕ → Type 0
IsKey function key = (place : ℕ) × (place < 768) × (key ≡ key_at function place)
