-- What is told of a time.
use Rattle.std.specs.Prelude.{ℕ, ◌/◌, ◌%◌, ◌++◌, List, [], ◌∷◌, codes, decimal, Option, Some, None}

-- hundredths of a second as seconds with two digits behind the point
abbrev pub seconds : ℕ → List ℕ
seconds hundredths = decimal (hundredths / 100) ++ codes "." ++ decimal (hundredths / 10 % 10) ++ decimal (hundredths % 10)

-- what is told of how long something took, in hundredths of a second, where that is known
abbrev pub seconds_text : Option ℕ → List ℕ
seconds_text None = codes "elapse: unknown" ++ 10 ∷ []
seconds_text (Some hundredths) = codes "elapse: " ++ seconds hundredths ++ codes " seconds" ++ 10 ∷ []
