-- Line mode: each line is a script of its own, and the run goes on behind a refusal.
use Rattle.std.specs.Prelude.{◌≡◌, ◌⊎◌, ℕ, ◌+◌, ◌<◌, ◌≤◌, List, [], ◌∷◌, ◌++◌, length, Option, Some, None, Bool, true, false, if◌then◌else◌, ⊤}
use mathlib.Core.Logic.{inl, inr}
use Rattle.syn_io.specs.Outside.{Rose, Input}
use Rattle.syn_words.specs.declared.Command.{Command}
use Rattle.syn_command_files.specs.Sources.{is_quit}
use Rattle.syn_shell.specs.declared.refusal.Refusal.{Refusal}
use Rattle.syn_shell.specs.declared.refusal.Refusal.TheVariants.{LineTooLong, TooManyLines, LineFailed, NoMemory}
use Rattle.syn_shell.specs.Outside.{State, GaveLine, GaveNone, LineIsLong}
use Rattle.syn_shell.specs.Scripts.{Refused, InText, nameless, RunsScript, Announced, SinkGaveUp, Source}

-- the most lines that are run
abbrev pub most_lines : ℕ
most_lines = 1048576

-- the refusals of a script: one at most
abbrev pub listed : Option Refused → List Refused
listed None = []
listed (Some refused) = refused ∷ []

-- Why no line is given.
abbrev pub LineRefused : Input → Input → Refusal → Type 0
LineRefused before after LineFailed = Rose before.faults after.faults × (before.faults ≤ after.faults)
LineRefused before after LineTooLong = LineIsLong before after
LineRefused before after NoMemory = before.faults ≤ after.faults
LineRefused before after other = ⊥

-- A line is given after as many as are run.
pub record IsOneTooMany (taken : ℕ) (before after : Input) : Type 0 where
  pub most : taken ≡ most_lines
  pub line : List ℕ
  pub gave : GaveLine line before after

-- Why no further line is run, where one may be left: none is given, or it is one too many.
abbrev pub NoFurther : ℕ → Input → Input → Refusal → Type 0
NoFurther taken before after cause = LineRefused before after cause ⊎ ((cause ≡ TooManyLines) × IsOneTooMany taken before after)

-- Where no further line is run: none is left, or why none is run is told, as far as the sink takes it.
abbrev pub EndsHere : ℕ → State → Input → List Refused → State → Input → Type 0
EndsHere taken before i refusals after i' =
    (GaveNone i i' × (refusals ≡ []) × (after ≡ before))
    ⊎ ((cause : Refusal) × NoFurther taken i i' cause × (refusals ≡ nameless cause ∷ []) × (Announced (nameless cause) before after ⊎ SinkGaveUp (nameless cause) before after))

-- Behind a script the run goes on: nothing was refused, or the line of the refusal was put.
abbrev pub GoesOn : Option Refused → State → State → Type 0
GoesOn None before after = after ≡ before
GoesOn (Some refused) before after = Announced refused before after

-- Behind a script the run ends: something was refused, and the sink failed.
abbrev pub EndsBySink : Option Refused → State → State → Type 0
EndsBySink None before after = ⊥
EndsBySink (Some refused) before after = SinkGaveUp refused before after

-- The commands of a script that was run have one that ends the run.
abbrev pub has_quit : List Command → Bool
has_quit [] = false
has_quit (c ∷ cs) = if is_quit c then true else has_quit cs

-- A script was run to its end, and has a command that ends the run.
abbrev pub Quits : (source : Source) (before : State) (outcome : Option Refused) (after : State) → RunsScript source before outcome after → Type 0
Quits source before outcome after (inl unread) = ⊥
Quits source before outcome after (inr (commands, start, loads, only, runs)) = (outcome ≡ None) × (has_quit commands ≡ true)

-- It is none that does.
abbrev pub StaysOn : (source : Source) (before : State) (outcome : Option Refused) (after : State) → RunsScript source before outcome after → Type 0
StaysOn source before outcome after (inl unread) = ⊤
StaysOn source before outcome after (inr (commands, start, loads, only, runs)) = outcome ≡ None → has_quit commands ≡ false

-- Behind a script the run of lines ends: something was refused, and the sink failed, or the script ends the run.
abbrev pub EndsLines : (source : Source) (before : State) (outcome : Option Refused) (done after : State) → RunsScript source before outcome done → Type 0
EndsLines source before outcome done after runs = EndsBySink outcome done after ⊎ (Quits source before outcome done runs × (after ≡ done))

-- These lines are run one after the other, after so many others, and then no further one; with the refusals in their order.
abbrev pub RunsLines : List (List ℕ) → ℕ → State → Input → List Refused → State → Input → Type 0
RunsLines [] taken before i refusals after i' = EndsHere taken before i refusals after i'
RunsLines (line ∷ lines) taken before i refusals after i' =
    (j : Input) × (outcome : Option Refused) × (done : State) × (taken < most_lines) × GaveLine line i j × (runs : RunsScript (InText line) before outcome done)
    × (((told : State) × (more : List Refused) × GoesOn outcome done told × StaysOn (InText line) before outcome done runs × (refusals ≡ listed outcome ++ more) × RunsLines lines (taken + 1) told j more after i')
    ⊎ (EndsLines (InText line) before outcome done after runs × (refusals ≡ listed outcome) × (lines ≡ []) × (i' ≡ j)))

-- No run of lines runs more than the most; with the one that is refused as one too many, it takes one more at most.
abbrev pub FewLines : Type 0
FewLines = (lines : List (List ℕ)) (before after : State) (refusals : List Refused) (i i' : Input) → RunsLines lines 0 before i refusals after i' → length lines ≤ most_lines
