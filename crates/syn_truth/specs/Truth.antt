-- What a truth table says: its value at each list of values of its variables.
use Rattle.std.specs.Prelude.{◌≡◌, ◌≢◌, ℕ, zero, suc, ◌+◌, ◌*◌, ◌%◌, ◌^◌, ◌<◌, ◌==◌, ◌&&◌, if◌then◌else◌, nat_lt, Bool, true, false, List, [], ◌∷◌, length, slice_set}
use Rattle.std.specs.Int.{bit_at}
use Rattle.syn_truth.specs.declared.Truth.{Truth}

-- a value as a number
abbrev pub digit : Bool → ℕ
digit true = 1
digit false = 0

-- the minterm at which the variables have these values, variable 0 first: its bit j is the value of variable j
abbrev pub minterm_of : List Bool → ℕ
minterm_of [] = 0
minterm_of (x ∷ xs) = digit x + 2 * minterm_of xs

-- the value of a table at a minterm: the minterms 0 to 127 stand in the low word, 128 to 255 in the high one
unfoldable pub value_at : Truth → ℕ → Bool
value_at f m = bit_at (if nat_lt m 128 then f.low else f.high) (m % 128) == 1

-- the value of a table where its variables have these values, variable 0 first
unfoldable pub value_of : Truth → List Bool → Bool
value_of f xs = value_at f (minterm_of xs)

-- P holds at each list of values of n variables
abbrev pub AtEach : ℕ → (List Bool → Type 0) → Type 0
AtEach n P = (xs : List Bool) → length xs ≡ n → P xs

-- the same as a test: p holds at each list of values of n variables
abbrev pub holds_at_each : ℕ → (List Bool → Bool) → Bool
holds_at_each zero p = p []
holds_at_each (suc n) p = holds_at_each n (λ xs. p (true ∷ xs)) && holds_at_each n (λ xs. p (false ∷ xs))

-- the table depends on variable i: at some values of the others its value changes with it
abbrev pub Depends : Truth → ℕ → Type 0
Depends f i = (xs : List Bool) × (length xs ≡ f.vars) × (value_of f (slice_set xs i true) ≢ value_of f (slice_set xs i false))

-- Tables of as many variables with the same values are one table.
abbrev pub OneTable : Type 0
OneTable = (f g : Truth) → f.vars ≡ g.vars → AtEach f.vars (λ xs. value_of f xs ≡ value_of g xs) → f ≡ g

-- Each number below 2 ^ n is the minterm of a list of n values, and the minterm of such a list is such a number.
abbrev pub EachMinterm : Type 0
EachMinterm = (n : ℕ) → ((m : ℕ) → m < 2 ^ n → (xs : List Bool) × (length xs ≡ n) × (minterm_of xs ≡ m)) × AtEach n (λ xs. minterm_of xs < 2 ^ n)
