-- What follows of a run: a status of 0 or of 7, and how many lines are run.
use Rattle.std.proofs.Common.{◌≡◌, ℕ, ◌+◌, ◌-◌, ◌^◌, ◌<◌, ◌≤◌, nat_eq, nat_lt, List, [], ◌∷◌, length, sym, ap, ◌∙◌, arith, inl, inr}
use Rattle.std.proofs.lemmas.Bool.{both_ways, cases_Bool, eq-eqb, ltb-true, ltb-false}
use Rattle.syn_io.specs.Outside.{Rose, Disk, Screen, Input}
use Rattle.syn_reader.specs.declared.ReadFault.{ReadFault}
use Rattle.syn_reader.specs.declared.ReadFault.TheVariants as file
use Rattle.syn_aiger_files.specs.declared.fault.AigFault.{AigFault}
use Rattle.syn_aiger_files.specs.declared.fault.AigFault.TheVariants as aiger
use Rattle.syn_shell.specs.declared.refusal.FileCause.TheVariants as causes
use Rattle.syn_shell.specs.declared.refusal.Refusal.{Refusal}
use Rattle.syn_shell.specs.declared.refusal.Refusal.TheVariants.{Read, ReadAiger, NotRead, GetFailed, PutFailed, LineFailed, SinkFailed}
use Rattle.syn_shell.specs.Outside.{State}
use Rattle.syn_shell.specs.Lines.{aiger_status, read_status, refusal_status}
use Rattle.syn_shell.specs.Scripts.{Refused}
use Rattle.syn_shell.specs.LineMode.{RunsLines, most_lines}
use Rattle.syn_usage.specs.Usage.{usage_of}
use Rattle.syn_shell.specs.Counts.{Covers, FaultsCover, SomeFault}
use Rattle.syn_shell.specs.Runs.{Ran, RanAccepted, RunsUsage, RunsWords, status_of}
use Rattle.syn_shell.proofs.Turning.{is_refused}

rose_by : (a b n : ℕ) → Covers a b (1 + n) → Rose a b
rose_by a b n h = elim (cases_Bool (nat_lt b (2 ^ 64 - 1))) [
  | inl less ↦
      let inside : b < 2 ^ 64 - 1 = ltb-true b (2 ^ 64 - 1) less in
      omega (arith, h.each inside)
  | inr end ↦
      let outside : 2 ^ 64 - 1 ≤ b = ltb-false b (2 ^ 64 - 1) end in
      omega arith
]

read_not_seven : (fault : ReadFault) → read_status fault ≡ 7 → ⊥
read_not_seven (file.TooManyWords count) e = absurd (omega (arith, e))
read_not_seven (file.TooManySources count) e = absurd (omega (arith, e))
read_not_seven (file.TooLarge cost) e = absurd (omega (arith, e))
read_not_seven file.NoMemory e = absurd (omega (arith, e))
read_not_seven other e = absurd (omega (arith, e))

aiger_not_seven : (fault : AigFault) → aiger_status fault ≡ 7 → ⊥
aiger_not_seven (aiger.TooManySources count) e = absurd (omega (arith, e))
aiger_not_seven (aiger.TooManyGates count) e = absurd (omega (arith, e))
aiger_not_seven aiger.NoMemory e = absurd (omega (arith, e))
aiger_not_seven other e = absurd (omega (arith, e))

seven_by : (cause : Refusal) (name : List ℕ) (more : List Refused) (d d' : Disk) (s s' : Screen) (i i' : Input) → refusal_status cause ≡ 7 → FaultsCover (record { cause = cause; name = name } ∷ more) d s i d' s' i' → SomeFault d s i d' s' i'
seven_by GetFailed name more d d' s s' i i' e f = inl (rose_by d.faults d'.faults _ f.files)
seven_by PutFailed name more d d' s s' i i' e f = inl (rose_by d.faults d'.faults _ f.files)
seven_by SinkFailed name more d d' s s' i i' e f = inr (inl (rose_by s.faults s'.faults _ f.sink))
seven_by LineFailed name more d d' s s' i i' e f = inr (inr (rose_by i.faults i'.faults _ f.lines))
seven_by (Read fault) name more d d' s s' i i' e f = absurd (read_not_seven fault e)
seven_by (ReadAiger fault) name more d d' s s' i i' e f = absurd (aiger_not_seven fault e)
seven_by (NotRead file (causes.Read fault)) name more d d' s s' i i' e f = absurd (read_not_seven fault e)
seven_by (NotRead file (causes.ReadAiger fault)) name more d d' s s' i i' e f = absurd (aiger_not_seven fault e)
seven_by (NotRead file causes.TooLong) name more d d' s s' i i' e f = absurd (omega (arith, e))
seven_by (NotRead file causes.GetFailed) name more d d' s s' i i' e f = inl (rose_by d.faults d'.faults _ f.files)
seven_by other name more d d' s s' i i' e f = absurd (omega (arith, e))

seven_of : (refusals : List Refused) (d d' : Disk) (s s' : Screen) (i i' : Input) → status_of refusals ≡ 7 → FaultsCover refusals d s i d' s' i' → SomeFault d s i d' s' i'
seven_of [] d d' s s' i i' e f = absurd (omega (arith, e))
seven_of (refused ∷ more) d d' s s' i i' e f = seven_by refused.cause refused.name more d d' s s' i i' e f

-- a status of 7 comes only where a count of faults rose
pub ran_seven : (words : List (List ℕ)) (d d' : Disk) (s s' : Screen) (i i' : Input) (status : ℕ) → Ran words d s i d' s' i' status → status ≡ 7 → SomeFault d s i d' s' i'
ran_seven words d d' s s' i i' status ran e = seven_of ran.refusals d d' s s' i i' (sym ran.status_is ∙ e) ran.faults

none_of : (words : List (List ℕ)) (refusals : List Refused) (before after : State) (i i' : Input) → RunsWords words before i refusals after i' → status_of refusals ≡ 0 → RunsUsage (usage_of words) before i [] after i'
none_of words [] before after i i' (inl runs) e = runs
none_of words [] before after i i' (inr ((is, telling), same)) e = absurd (cc)
none_of words (refused ∷ more) before after i i' runs e = absurd (both_ways (nat_eq (refusal_status refused.cause) 0) (is_refused refused.cause) (eq-eqb (refusal_status refused.cause) 0 e))

-- a status of 0 comes only where nothing was refused
pub ran_accepted : (words : List (List ℕ)) (d d' : Disk) (s s' : Screen) (i i' : Input) (status : ℕ) → Ran words d s i d' s' i' status → status ≡ 0 → RanAccepted words d s i d' s' i'
ran_accepted words d d' s s' i i' status ran e = (ran.kept, none_of words ran.refusals _ _ i i' ran.runs (sym ran.status_is ∙ e))

-- no more lines are run than the most
pub few_run : (lines : List (List ℕ)) (taken : ℕ) (before after : State) (refusals : List Refused) (i i' : Input) → taken ≤ most_lines → RunsLines lines taken before i refusals after i' → taken + length lines ≤ most_lines
few_run [] taken before after refusals i i' le runs = omega arith
few_run (line ∷ lines) taken before after refusals i i' le (j, outcome, done, lt, gave, runs, inl (told, more, on, stays, is, rest)) =
    let rest_few : taken + 1 + length lines ≤ most_lines = few_run lines (taken + 1) told after more j i' (omega arith) rest in
    omega (arith, rest_few)
few_run (line ∷ lines) taken before after refusals i i' le (j, outcome, done, lt, gave, runs, inr (ends, is, none, same)) = omega (arith, lt, ap length none)
