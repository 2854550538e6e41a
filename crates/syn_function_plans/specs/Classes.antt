-- The class of a function of four variables, and the first transform to it, as numbers.
use Rattle.std.specs.Prelude.{ℕ, zero, suc, min, ◌==◌, if◌then◌else◌}
use Rattle.syn_npn.specs.Permutations.{image_at}

-- the least of g 0, .., g n
unfoldable pub least_to : ℕ → (ℕ → ℕ) → ℕ
least_to zero g = g 0
least_to (suc n) g = min (least_to n g) (g (suc n))

-- the first of the places 0, .., n at which g has a value, if it has that value there
unfoldable pub first_to : ℕ → (ℕ → ℕ) → ℕ → ℕ
first_to zero g value = 0
first_to (suc n) g value = if g (first_to n g value) == value then first_to n g value else suc n

-- the class: the least of the images by the 768 transforms
unfoldable pub class_of : ℕ → ℕ
class_of function = least_to 767 (image_at function)

-- the place, in the order of transforms, of the first one that gives it
unfoldable pub transform_of : ℕ → ℕ
transform_of function = first_to 767 (image_at function) (class_of function)
