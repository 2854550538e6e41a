-- Images by their values.
use Rattle.std.specs.Prelude.{ℕ, Bool, List}
use Rattle.syn_npn.specs.Images.{differ, number_of, read_at, value_at}

-- the value of the image at a minterm: the function's where the transform reads it, complemented where neg is set
abbrev pub image_value : List ℕ → ℕ → Bool → ℕ → ℕ → Bool
image_value perm flips neg function minterm = differ neg (value_at function (read_at perm flips minterm))

-- the image by a permutation, flips and a negation, as a number
unfoldable pub image_by : List ℕ → ℕ → Bool → ℕ → ℕ
image_by perm flips neg function = number_of 16 (image_value perm flips neg function)
