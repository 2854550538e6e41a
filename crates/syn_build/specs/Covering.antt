-- Literals of rows of characters and of covers.
use Rattle.std.specs.Prelude.{◌≡◌, ℕ, ◌&&◌, ◌||◌, Bool, false, List, map}
use Rattle.syn_rows.specs.declared.Lit.{Lit}
use Rattle.syn_rows.specs.declared.Row.{Row}
use Rattle.syn_netlist.specs.Covers.{cover_value, fits_bit, matches}
use Rattle.syn_hashed.specs.Growing.{value_by}

-- for all given values, the literal's value by the new rows says whether the first literal and the character's fit hold by the old ones
abbrev pub IsFit : List Row → Lit → ℕ → Lit → List Row → Lit → Type 0
IsFit old all character input new l = (given : ℕ → Bool) → given 0 ≡ false → value_by given new l ≡ (value_by given old all && fits_bit character (value_by given old input))

-- for all given values, the literal's value by the new rows says whether the row matches the inputs' values by the old ones
abbrev pub IsMatch : List Row → List ℕ → List Lit → List Row → Lit → Type 0
IsMatch old row inputs new l = (given : ℕ → Bool) → given 0 ≡ false → value_by given new l ≡ matches row (map (value_by given old) inputs)

-- for all given values, the literal's value by the new rows says whether the first literal or the row's match holds by the old ones
abbrev pub IsOrMatch : List Row → Lit → List ℕ → List Lit → List Row → Lit → Type 0
IsOrMatch old any row inputs new l = (given : ℕ → Bool) → given 0 ≡ false → value_by given new l ≡ (value_by given old any || matches row (map (value_by given old) inputs))

-- for all given values, the literal's value by the new rows is the cover's value of the inputs' values by the old ones
abbrev pub IsCover : List Row → List (List ℕ) → Bool → List Lit → List Row → Lit → Type 0
IsCover old rows on inputs new l = (given : ℕ → Bool) → given 0 ≡ false → value_by given new l ≡ cover_value rows on (map (value_by given old) inputs)
