-- Names numbered as the signals are.
use Rattle.std.specs.Prelude.{◌≡◌, ℕ, ◌<◌, List}
use Rattle.syn_netlist.specs.Numbers.{word_at}
use Rattle.syn_gen.specs.Generated.{signal}

-- the word of each of the first so many numbers is the signal's name
pub record AreSignals (count : ℕ) (names : List (List ℕ)) : Type 0 where
  pub at : (i : ℕ) → i < count → word_at names i ≡ signal i
