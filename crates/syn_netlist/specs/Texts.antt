-- The bytes of vectors, as lists.
use Rattle.std.specs.Prelude.{ℕ, List, map}
use Rattle.std.specs.Global.{Vec}

-- the bytes of each
abbrev pub texts : List (Vec ℕ) → List (List ℕ)
texts vectors = map (λ v. v.items) vectors
