-- Transforms of functions of four variables, their images and their order.
use Rattle.std.specs.Prelude.{◌≡◌, ℕ, ◌+◌, ◌*◌, ◌≤◌, if◌then◌else◌, Bool, List, slice_index}
use Rattle.syn_npn.specs.declared.Transform.{Transform}
use Rattle.syn_npn.specs.Values.{image_by}

-- the image of a function by a transform
abbrev pub image_of : Transform → ℕ → ℕ
image_of t function = image_by t.perm t.flips t.neg function

-- a number that orders the transforms: plain before negated, then permutations in lexicographic order, then
-- flips rising
abbrev pub order_by : List ℕ → ℕ → Bool → ℕ
order_by perm flips neg = (((((if neg then 1 else 0) * 4 + slice_index perm 0) * 4 + slice_index perm 1) * 4 + slice_index perm 2) * 4 + slice_index perm 3) * 16 + flips

abbrev pub order_of : Transform → ℕ
order_of t = order_by t.perm t.flips t.neg

-- the class of a function is its least image, and the transform is the first of those that give it
pub record IsCanon (function class : ℕ) (transform : Transform) : Type 0 where
  pub image : class ≡ image_of transform function
  pub least : (t : Transform) → class ≤ image_of t function
  pub first : (t : Transform) → image_of t function ≡ class → order_of transform ≤ order_of t

-- A function has one class and one transform.
abbrev pub OneCanon : Type 0
OneCanon = (function class other : ℕ) (t u : Transform) → IsCanon function class t → IsCanon function other u → (class ≡ other) × (t ≡ u)
