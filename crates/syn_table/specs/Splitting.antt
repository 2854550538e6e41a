-- What seats know after a split and after a join.
use Rattle.std.specs.Prelude.{◌≡◌, ℕ, ◌<◌, ◌≤◌, All, List, [], ◌∷◌, ◌++◌, length}
use Rattle.atomic_table.specs.Table.{Step, Me}
use Rattle.syn_core_laws.specs.Openings.{empty_view}
use Rattle.syn_core_laws.specs.Splits.{view_after_join}
use Rattle.syn_table.specs.declared.Known.{Known}

-- the last of the numbers, 0 where there is none
abbrev pub last_of : List ℕ → ℕ
last_of [] = 0
last_of (n ∷ []) = n
last_of (n ∷ m ∷ more) = last_of (m ∷ more)

-- the numbers but the last
abbrev pub all_but_last : List ℕ → List ℕ
all_but_last [] = []
all_but_last (n ∷ []) = []
all_but_last (n ∷ m ∷ more) = n ∷ all_but_last (m ∷ more)

-- the seat that hands on its last number knows all that it knew
abbrev pub without_last : Known → Known
without_last k = record k { numbers = all_but_last k.numbers }

-- the new seat has that number alone, and knows nothing but the opening
abbrev pub split_from : Known → Known
split_from k = record { core = empty_view (last_of k.numbers); numbers = last_of k.numbers ∷ []; opening = k.opening; observed = k.observed }

-- the seat that takes in another has both seats' numbers, misses and differences
abbrev pub with_joined : Known → Known → Known
with_joined k other = record k { core = view_after_join k.core other.core; numbers = k.numbers ++ other.numbers }

-- a seat that is spent: it has no number and knows nothing, and its difference is 0
abbrev pub spent_known : Known
spent_known = record { core = empty_view 64; numbers = []; opening = []; observed = [] }

-- numbers that a seat can have: at most 64, each below 64
pub record AreNumbers (numbers : List ℕ) : Type 0 where
  pub few : length numbers ≤ 64
  pub small : All (λ n. n < 64) numbers

-- the seat stays as it is; its numbers are ones that a seat can have
abbrev pub TellsNumbers : Step ℕ → Me ℕ Known → ℕ → Me ℕ Known → Type 0
TellsNumbers s me found new = (new ≡ me) × AreNumbers me.0.numbers
