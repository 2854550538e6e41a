-- What a session's network came from, along a run: the netlist that was read or generated last. What the network keeps of it, and so what each write gives, is said here in one piece.
use Rattle.std.specs.Prelude.{◌≡◌, ℕ, ◌+◌, Bool, true, false, List, [], ◌∷◌, ◌++◌, Option, Some, None, Result, Ok, Err}
use mathlib.Core.Logic.{inl, inr}
use Rattle.syn_io.specs.Outside.{Disk, Input, Screen}
use Rattle.syn_netlist.specs.Lists.{Netlist}
use Rattle.syn_netlist.specs.Meaning.{SameMeaning}
use Rattle.syn_netlist.specs.Order.{Ordered}
use Rattle.syn_text.specs.Printed.{printed}
use Rattle.syn_gen.specs.Generated.{generated}
use Rattle.syn_reader.specs.Reading.{Reads}
use Rattle.syn_seq.specs.Sequential.{SameSequentially}
use Rattle.syn_aiger_files.specs.declared.files.Aig.{Aig}
use Rattle.syn_aiger.specs.Faults.{Spells}
use Rattle.syn_aiger.specs.Networks.{IsGraphOfAig}
use Rattle.syn_aiger.specs.Writing.{IsWrittenAs}
use Rattle.syn_words.specs.declared.Command.{Command}
use Rattle.syn_words.specs.declared.Command.TheVariants as commands
use Rattle.syn_words.specs.declared.recipes.Recipe.{Recipe}
use Rattle.syn_words.specs.declared.recipes.Recipe.TheVariants as recipes
use Rattle.syn_shell.specs.declared.refusal.Refusal.{Refusal}
use Rattle.syn_command_files.specs.Told.{FileIs}
use Rattle.syn_shell.specs.Outside.{State}
use Rattle.syn_shell.specs.Steps.{kept_by}
use Rattle.syn_shell.specs.Scripts.{Refused, InFile, InText, RunsCommands, RunsScript, Source}
use Rattle.syn_shell.specs.LineMode.{RunsLines}
use Rattle.syn_usage.specs.Usage.{Usage, OneScript, OneFile, EachLine, Faulty, usage_of}
use Rattle.syn_shell.specs.Runs.{Ran, RunsUsage, RunsWords}

-- A command that was run, with its answer, from the state before it to the one after it.
pub record Step : Type 0 where
  pub command : Command
  pub before : State
  pub answer : Result (Unit {0}) Refusal
  pub after : State

-- the steps of commands that were run one after the other: the accepted ones, and the one that was refused
abbrev pub steps_of_commands : (commands : List Command) (before : State) (outcome : Option Refused) (after : State) → RunsCommands commands before outcome after → List Step
steps_of_commands [] before outcome after runs = []
steps_of_commands (c ∷ cs) before outcome after (inl (between, step, more)) = record { command = c; before = before; answer = Ok tt; after = between } ∷ steps_of_commands cs between outcome after more
steps_of_commands (c ∷ cs) before outcome after (inr (cause, is, step)) = record { command = c; before = before; answer = Err cause; after = after } ∷ []

-- those of a script: none where it was refused before any of its commands ran
abbrev pub steps_of_script : (source : Source) (before : State) (outcome : Option Refused) (after : State) → RunsScript source before outcome after → List Step
steps_of_script source before outcome after (inl refused) = []
steps_of_script source before outcome after (inr (commands, start, loads, only, runs)) = steps_of_commands commands start outcome after runs

-- those of lines, one script after the other
abbrev pub steps_of_lines : (lines : List (List ℕ)) (taken : ℕ) (before : State) (i : Input) (refusals : List Refused) (after : State) (i' : Input) → RunsLines lines taken before i refusals after i' → List Step
steps_of_lines [] taken before i refusals after i' runs = []
steps_of_lines (line ∷ lines) taken before i refusals after i' (j, outcome, done, lt, gave, runs, inl (told, more, on, stays, is, rest)) =
    steps_of_script (InText line) before outcome done runs ++ steps_of_lines lines (taken + 1) told j more after i' rest
steps_of_lines (line ∷ lines) taken before i refusals after i' (j, outcome, done, lt, gave, runs, inr ends) = steps_of_script (InText line) before outcome done runs

-- those of what words ask for
abbrev pub steps_of_usage : (usage : Usage) (before : State) (i : Input) (refusals : List Refused) (after : State) (i' : Input) → RunsUsage usage before i refusals after i' → List Step
steps_of_usage (OneScript text) before i refusals after i' ((outcome, done, runs, is, ends), same) = steps_of_script (InText text) before outcome done runs
steps_of_usage (OneFile name) before i refusals after i' ((outcome, done, runs, is, ends), same) = steps_of_script (InFile name) before outcome done runs
steps_of_usage EachLine before i refusals after i' (lines, runs) = steps_of_lines lines 0 before i refusals after i' runs
steps_of_usage Faulty before i refusals after i' runs = []

-- those of words: none where memory was refused before
abbrev pub steps_of_words : (words : List (List ℕ)) (before : State) (i : Input) (refusals : List Refused) (after : State) (i' : Input) → RunsWords words before i refusals after i' → List Step
steps_of_words words before i refusals after i' (inl runs) = steps_of_usage (usage_of words) before i refusals after i' runs
steps_of_words words before i refusals after i' (inr nothing) = []

-- Where a netlist comes from: a file of that name, or an AIGER file, with properties or without, as the files were when it was read; or it was generated, from a seed and a size.
pub data Place : Type 0 where
  OfFile : List ℕ → Disk → Place
  OfAiger : Bool → List ℕ → Disk → Place
  OfSeed : ℕ → ℕ → Place

-- The netlist is one that comes from there: the file's bytes read as it; or they spell an AIGER file of which it is a graph; or it is the generated one.
abbrev pub ComesFrom : Place → Netlist → Type 0
ComesFrom (OfFile name files) n = (bytes : List ℕ) × FileIs name files bytes × Reads bytes n
ComesFrom (OfAiger properties name files) n = (bytes : List ℕ) × (g : Aig) × FileIs name files bytes × Spells properties bytes g × IsGraphOfAig g n
ComesFrom (OfSeed seed size) n = n ≡ generated seed size

-- Where a network came from, and whether its latches were swept since.
pub record Origin : Type 0 where
  pub place : Place
  pub swept : Bool

-- a network that comes from there, as it was read or generated
abbrev pub fresh : Place → Option Origin
fresh place = Some (record { place = place; swept = false })

-- the same, with latches swept
abbrev pub swept_since : Option Origin → Option Origin
swept_since None = None
swept_since (Some origin) = Some (record { place = origin.place; swept = true })

-- where a network comes from that a recipe made anew: from where it came before, with latches swept where the recipe sweeps them
abbrev pub origin_made : Recipe → Option Origin → Option Origin
origin_made recipes.Sweep origin = swept_since origin
origin_made other origin = origin

-- where the network comes from behind a command that was accepted: from what it reads or generates, else from where it came before
abbrev pub origin_by : Command → Disk → Option Origin → Option Origin
origin_by (commands.Read name) files origin = fresh (OfFile name files)
origin_by (commands.ReadAiger properties name) files origin = fresh (OfAiger properties name files)
origin_by (commands.Generate seed size) files origin = fresh (OfSeed seed size)
origin_by (commands.Make recipe) files origin = origin_made recipe origin
origin_by other files origin = origin

-- the same behind a command, accepted or refused: one that is refused leaves the network
abbrev pub origin_behind : Command → Disk → Result (Unit {0}) Refusal → Option Origin → Option Origin
origin_behind c files (Ok done) origin = origin_by c files origin
origin_behind c files (Err cause) origin = origin

-- the same behind steps: that of the last accepted read or generation
abbrev pub origin_after : List Step → Option Origin → Option Origin
origin_after [] origin = origin
origin_after (s ∷ ss) origin = origin_after ss (origin_behind s.command s.before.files s.answer origin)

-- What a netlist is to one before it: it means the same; where latches were swept between, it gives the same outputs over every sequence of inputs.
abbrev pub IsSameBy : Bool → Netlist → Netlist → Type 0
IsSameBy false n m = SameMeaning n m
IsSameBy true n m = SameSequentially n m

-- A netlist keeps what came from there: it is the same as the netlist that did, and reads only earlier signals.
abbrev pub Keeps : Origin → Netlist → Type 0
Keeps origin m = (n : Netlist) × ComesFrom origin.place n × IsSameBy origin.swept n m × Ordered m

-- the command writes a file
abbrev pub writes : Command → Bool
writes (commands.Write name) = true
writes (commands.WriteAiger ascii bare name) = true
writes other = false

-- What is found in the file that a command wrote, by its format: the printed form of the netlist, which reads back from it; or bytes that spell an AIGER file that keeps what the netlist means, but for the types of latches where these are left out.
abbrev pub Gives : Command → Disk → Netlist → Type 0
Gives (commands.Write name) files m = FileIs name files (printed m) × Reads (printed m) m
Gives (commands.WriteAiger ascii bare name) files m = (bytes : List ℕ) × (g : Aig) × FileIs name files bytes × Spells false bytes g × IsWrittenAs (kept_by bare m) g
Gives other files m = ⊥

-- What each write of a run gives: behind an accepted write, whatever steps were before and after it, the file gives a netlist that keeps what was read or generated last before the write, which there is.
abbrev pub EachWriteKeeps : Type 0
EachWriteKeeps =
    (words : List (List ℕ)) (d : Disk) (s : Screen) (i : Input) (d' : Disk) (s' : Screen) (i' : Input) (status : ℕ) (ran : Ran words d s i d' s' i' status)
    (front back : List Step) (write : Step) → steps_of_words words _ i ran.refusals _ i' ran.runs ≡ front ++ write ∷ back → writes write.command ≡ true → write.answer ≡ Ok tt
    → (origin : Origin) × (m : Netlist) × (origin_after front None ≡ Some origin) × Gives write.command write.after.files m × Keeps origin m
