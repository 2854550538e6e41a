-- Why a LUT net is not made a graph.
use Rattle.std.specs.Prelude.{◌≡◌, ℕ, ◌<◌, ⊤}
use Rattle.syn_build.specs.declared.luts.BuildFault.{BuildFault}
use Rattle.syn_build.specs.declared.luts.BuildFault.TheVariants.{TooManyGates, NoMemory}

-- the most gates of a LUT net that is made a graph
abbrev pub most_gates : ℕ
most_gates = 4194304

-- a net of so many gates is refused for them where they are more than the most, and the number is told; want of memory tells nothing
abbrev pub TellsFault : ℕ → BuildFault → Type 0
TellsFault gates (TooManyGates n) = (n ≡ gates) × (most_gates < gates)
TellsFault gates NoMemory = ⊤
