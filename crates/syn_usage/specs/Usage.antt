-- What is run by the words of a call.
use Rattle.std.specs.Prelude.{◌≡◌, ℕ, List, [], ◌∷◌, Option, Some, None, ⊤}
use Rattle.syn_usage.specs.CommandLine.{file_in, refusals, script_in, workers_in}
use Rattle.syn_usage.specs.declared.arguments.Work.{Work}
use Rattle.syn_usage.specs.declared.arguments.Work.TheVariants.{Lines, Script, File}
use Rattle.syn_usage.specs.declared.arguments.UsageFault.{UsageFault}
use Rattle.syn_usage.specs.declared.arguments.UsageFault.TheVariants.{Words, NoMemory}

-- One script is run, or the file of a name, or the lines are, each a script; or the words are faulty.
pub data Usage : Type 0 where
  OneScript : List ℕ → Usage
  OneFile : List ℕ → Usage
  EachLine : Usage
  Faulty : Usage

-- What is run by a script and a file's name, where they are given: not both may be, and without them the lines are run.
abbrev pub run_by : Option (List ℕ) → Option (List ℕ) → Usage
run_by None None = EachLine
run_by (Some script) None = OneScript script
run_by None (Some file) = OneFile file
run_by (Some script) (Some file) = Faulty

-- What is run by words with these causes of a refusal, this number of workers and this usage: they are faulty where there is a cause or no number.
abbrev pub usage_by : {K : Type 0} → List K → Option ℕ → Usage → Usage
usage_by [] (Some workers) wanted = wanted
usage_by [] None wanted = Faulty
usage_by (cause ∷ causes) workers wanted = Faulty

-- What is run by words. The number of workers is no part of it: they change nothing that is told.
abbrev pub usage_of : List (List ℕ) → Usage
usage_of words = usage_by (refusals words) (workers_in words) (run_by (script_in words) (file_in words))

-- What is run by the work of arguments.
abbrev pub usage_in : Work → Usage
usage_in Lines = EachLine
usage_in (Script text) = OneScript text.now
usage_in (File name) = OneFile name.now

-- Why words are refused: they are faulty, or memory was refused.
abbrev pub WordsRefused : List (List ℕ) → UsageFault → Type 0
WordsRefused words Words = usage_of words ≡ Faulty
WordsRefused words NoMemory = ⊤
