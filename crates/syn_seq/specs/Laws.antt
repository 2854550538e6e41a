-- Laws of runs.
use Rattle.std.specs.Prelude.{◌≡◌, ℕ, ◌<◌, All, Bool, List, ◌∷◌, length, map}
use Rattle.syn_netlist.specs.Lists.{Netlist, observed}
use Rattle.syn_netlist.specs.Meaning.{SameMeaning}
use Rattle.syn_netlist.specs.Order.{DefinedOnce, Ordered}
use Rattle.syn_netlist.specs.Values.{Consistent, IsTotal}
use Rattle.syn_network.specs.GraphShape.{GraphShape}
use Rattle.syn_seq.specs.Runs.{BeginAlike, Begins, IsRun, free_signals, values_in}
use Rattle.syn_seq.specs.Sequential.{SameSequentially}
use Rattle.syn_seq.specs.Rounds.{AreFates, Fate, HasFate, fate_at, swept_frame}

-- For all values of inputs and clocks, step by step, and each choice of values with which the latches may begin, a netlist that has a consistent valuation for each choice of source values has a run.
abbrev pub RunsAreThere : Type 0
RunsAreThere =
    (n : Netlist) (given : List ℕ → Bool) (more : List (List ℕ → Bool)) → DefinedOnce n → IsTotal n → All (Begins given) n.frame.latches
    → (vs : List (List ℕ → Bool)) × IsRun n vs × (values_in (free_signals n.frame) vs ≡ values_in (free_signals n.frame) (given ∷ more)) × BeginAlike n.frame.latches vs (given ∷ more)

-- What means the same gives the same outputs over every sequence of inputs.
abbrev pub SameMeaningIsSequential : Type 0
SameMeaningIsSequential = (n m : Netlist) → SameMeaning n m → SameSequentially n m

-- Giving the same outputs over every sequence of inputs is transitive.
abbrev pub SequentialIsTransitive : Type 0
SequentialIsTransitive = (n m p : Netlist) → DefinedOnce m → SameSequentially n m → SameSequentially m p → SameSequentially n p

-- One round keeps the outputs over every sequence of inputs: a graph with the kept latches alone, in which each observed signal has the value that it has in the graph before where a merged latch has the value of the one that it is merged into, and a dropped one is 0.
abbrev pub RoundKeeps : Type 0
RoundKeeps =
    (n m : Netlist) (fates : List Fate) → Ordered n → GraphShape n → Ordered m → GraphShape m → AreFates n fates
    → m.frame ≡ swept_frame n.frame fates
    → ((v w : List ℕ → Bool) → Consistent n v → Consistent m w
    → map v (free_signals n.frame) ≡ map w (free_signals n.frame)
    → ((j : ℕ) → j < length fates → HasFate n fates v w j (fate_at fates j))
    → map v (observed m.frame) ≡ map w (observed m.frame))
    → SameSequentially n m
