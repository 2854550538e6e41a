-- Lines of words, as they are written.
use Rattle.std.specs.Prelude.{ℕ, List, [], ◌∷◌, ◌++◌}

-- words, one blank before each
abbrev pub blanked : List (List ℕ) → List ℕ
blanked [] = []
blanked (w ∷ ws) = (32 ∷ w) ++ blanked ws

-- a line: its first word, then the others one blank apart, then a line feed
abbrev pub line : List ℕ → List (List ℕ) → List ℕ
line word words = word ++ (blanked words ++ 10 ∷ [])
