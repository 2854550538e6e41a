-- What a check of a clause knows: marked literals are true, and what a clause becomes by them.
use Rattle.std.specs.Prelude.{◌≡◌, ℕ, ◌≤◌, ◌<◌, Bool, true, false, All, List, length, slice_index_or}
use Rattle.syn_rows.specs.Values.{lit_value}
use Rattle.syn_sat.specs.declared.checking.Open.{Open}
use Rattle.syn_sat.specs.declared.checking.Open.TheVariants.{Nothing, One, More}

-- in the valuation each literal that has the stamp of this check is true
abbrev pub Agrees : (ℕ → Bool) → List ℕ → ℕ → Type 0
Agrees v stamps now = (i : ℕ) → i < length stamps → slice_index_or stamps i 0 ≡ now → lit_value v (record { 0 = i }) ≡ true

-- what is left of a clause: nothing, one literal, or more
abbrev pub open_value : (ℕ → Bool) → Open → Bool
open_value v Nothing = false
open_value v (One l) = lit_value v l
open_value v More = true

-- no stamp is later than this check
abbrev pub AreUpTo : List ℕ → ℕ → Type 0
AreUpTo stamps now = All (λ s. s ≤ now) stamps
