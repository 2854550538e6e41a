-- How many refusals of a run are of the files, of the lines and of the sink, beside their counts of faults.
use Rattle.std.specs.Prelude.{◌⊎◌, ℕ, ◌+◌, ◌-◌, ◌^◌, ◌<◌, ◌≤◌, Bool, true, false, if◌then◌else◌, List, [], ◌∷◌}
use Rattle.syn_io.specs.Outside.{Rose, Disk, Screen, Input}
use Rattle.syn_shell.specs.declared.refusal.FileCause.{FileCause}
use Rattle.syn_shell.specs.declared.refusal.FileCause.TheVariants as causes
use Rattle.syn_shell.specs.declared.refusal.Refusal.{Refusal}
use Rattle.syn_shell.specs.declared.refusal.Refusal.TheVariants.{GetFailed, NotRead, PutFailed, LineFailed, SinkFailed}
use Rattle.syn_shell.specs.Scripts.{Refused}

abbrev pub is_get : FileCause → Bool
is_get causes.GetFailed = true
is_get other = false

abbrev pub is_of_files : Refusal → Bool
is_of_files GetFailed = true
is_of_files PutFailed = true
is_of_files (NotRead name cause) = is_get cause
is_of_files other = false

abbrev pub is_of_lines : Refusal → Bool
is_of_lines LineFailed = true
is_of_lines other = false

abbrev pub is_of_sink : Refusal → Bool
is_of_sink SinkFailed = true
is_of_sink other = false

-- how many refusals are such
abbrev pub how_many : (Refusal → Bool) → List Refused → ℕ
how_many p [] = 0
how_many p (refused ∷ more) = (if p refused.cause then 1 else 0) + how_many p more

-- A count of faults doesn't fall, and where it ends below the end of its 64 bits it rose by as many as there were refusals, or more.
pub record Covers (before after refusals : ℕ) : Type 0 where
  pub later : before ≤ after
  pub each : after < 2 ^ 64 - 1 → before + refusals ≤ after

-- There are no more refusals of the files, of the lines and of the sink than their counts of faults rose by.
pub record FaultsCover (refusals : List Refused) (d : Disk) (s : Screen) (i : Input) (d' : Disk) (s' : Screen) (i' : Input) : Type 0 where
  pub files : Covers d.faults d'.faults (how_many is_of_files refusals)
  pub sink : Covers s.faults s'.faults (how_many is_of_sink refusals)
  pub lines : Covers i.faults i'.faults (how_many is_of_lines refusals)

-- A call of the files, of the lines or of the sink failed.
abbrev pub SomeFault : Disk → Screen → Input → Disk → Screen → Input → Type 0
SomeFault d s i d' s' i' = Rose d.faults d'.faults ⊎ (Rose s.faults s'.faults ⊎ Rose i.faults i'.faults)
