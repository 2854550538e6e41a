-- Draws: numbers that look random, of a state of 64 bits (a linear congruence; multiplier and increment are those of Knuth's MMIX).
use Rattle.std.specs.Prelude.{ℕ, zero, suc, ◌+◌, ◌*◌, ◌/◌, ◌%◌, ◌^◌}
use Rattle.syn_gen.specs.declared.draws.Drawn.{Drawn}

-- the state after a draw
unfoldable pub after_draw : ℕ → ℕ
after_draw state = (state * 6364136223846793005 + 1442695040888963407) % 2 ^ 64

-- what a draw gives: the upper 32 bits of the state after it
unfoldable pub draw : ℕ → ℕ
draw state = after_draw state / 2 ^ 32

-- the state after so many draws
abbrev pub after_draws : ℕ → ℕ → ℕ
after_draws zero state = state
after_draws (suc n) state = after_draws n (after_draw state)

-- What is drawn for a table with so many signals before it: its three input signals in order, and its truth, which is no constant.
abbrev pub drawn : ℕ → ℕ → Drawn
drawn signals state = record {
  first = draw state % signals;
  second = draw (after_draws 1 state) % signals;
  third = draw (after_draws 2 state) % signals;
  truth = draw (after_draws 3 state) % 254 + 1;
}
