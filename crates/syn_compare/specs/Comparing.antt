-- What is compared of two netlists whose frames are matched, and how they compare.
use Rattle.std.specs.Prelude.{◌≡◌, ◌≢◌, ℕ, ◌<◌, ◌≤◌, ◌^◌, ◌⊎◌, ◌++◌, if◌then◌else◌, Bool, List, [], ◌∷◌, length, map, bytes_eq}
use Rattle.syn_netlist.specs.Lists.{Frame, Latch, Netlist, sources}
use Rattle.syn_netlist.specs.Numbers.{word_at}
use Rattle.syn_netlist.specs.Values.{Consistent}
use Rattle.syn_compare.specs.Matching.{latch_names}
use Rattle.syn_compare.specs.declared.answers.Comparison.{Comparison}
use Rattle.syn_compare.specs.declared.answers.Comparison.TheVariants.{Equivalent, Different, Undecided}

-- what the latch of a name loads
abbrev pub feed_of : List Latch → List ℕ → List ℕ
feed_of [] word = []
feed_of (latch ∷ latches) word = if bytes_eq latch.output word then latch.feed else feed_of latches word

-- the names by which signals are compared: the outputs, and the latches
abbrev pub compared : Frame → List (List ℕ)
compared frame = frame.outputs ++ latch_names frame

-- a frame's signals by the names that another one compares: its outputs, and what its latches load
abbrev pub signals : Frame → Frame → List (List ℕ)
signals order frame = order.outputs ++ map (feed_of frame.latches) (latch_names order)

-- Equivalent: valuations consistent with the one and with the other that agree on the sources agree on the signals. Different: two that have the given values at the sources differ at the signal of this name. Undecided: there are some signals, and more than 12 sources, or too many signals for a graph.
abbrev pub Compares : Netlist → Netlist → Comparison → Type 0
Compares n m Equivalent = (v w : List ℕ → Bool) → Consistent n v → Consistent m w → map v (sources n.frame) ≡ map w (sources n.frame)
    → map v (signals n.frame n.frame) ≡ map w (signals n.frame m.frame)
Compares n m (Different signal values) = (v w : List ℕ → Bool) × Consistent n v × Consistent m w × (map v (sources n.frame) ≡ values.items) × (map w (sources n.frame) ≡ values.items)
    × (i : ℕ) × (i < length (compared n.frame)) × (word_at (compared n.frame) i ≡ signal)
    × (v (word_at (signals n.frame n.frame) i) ≢ w (word_at (signals n.frame m.frame) i))
Compares n m (Undecided signals of) = (0 < signals) × (signals ≤ of) × (of ≡ length (compared n.frame)) × ((12 < length (sources n.frame)) ⊎ (2 ^ 31 ≤ of))
