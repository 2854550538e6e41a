-- What ties the class of a function and the transform to it, as numbers, to transforms.
use Rattle.std.specs.Prelude.{◌≡◌, ℕ, ◌%◌}
use Rattle.syn_npn.specs.declared.Transform.{Transform}
use Rattle.syn_npn.specs.Permutations.{neg_at, perm_at}
use Rattle.syn_npn.specs.Transforms.{IsCanon}
use Rattle.syn_function_plans.specs.Classes.{class_of, transform_of}

-- a transform is the one at this place
pub record IsAt (place : ℕ) (t : Transform) : Type 0 where
  pub perm : t.perm ≡ perm_at place
  pub flips : t.flips ≡ place % 16
  pub neg : t.neg ≡ neg_at place

-- The class of a function and its transform are these.
abbrev pub ClassOfFunction : Type 0
ClassOfFunction = (function class : ℕ) (t : Transform) → IsCanon function class t → (class ≡ class_of function) × IsAt (transform_of function) t
