-- What a refused replay tells.
use Rattle.std.specs.Prelude.{◌≡◌, ℕ, List, ⊤}
use Rattle.syn_core.specs.declared.ReplayFault.{ReplayFault}
use Rattle.syn_core.specs.declared.ReplayFault.TheVariants as Replay
use Rattle.syn_core_laws.specs.declared.Event.{Event}
use Rattle.syn_core_laws.specs.Cores.{Core}
use Rattle.syn_core_laws.specs.Events.{Allowed}
use Rattle.syn_core_laws.specs.Runs.{FirstForbidden}

-- what a refused replay tells
abbrev pub Refuses : Core → List Event → ReplayFault → Type 0
Refuses c es (Replay.NotAllowed index) = FirstForbidden c es index
Refuses c es Replay.NoMemory = ⊤

-- what the refusal of the event at this index tells
abbrev pub RefusesHere : Core → Event → ℕ → ReplayFault → Type 0
RefusesHere c e index (Replay.NotAllowed i) = (i ≡ index) × (Allowed c e.seat e.kind → ⊥)
RefusesHere c e index Replay.NoMemory = ⊤
