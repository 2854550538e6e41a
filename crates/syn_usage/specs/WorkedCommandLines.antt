-- Worked words with what they ask for, and words that are refused.
use Rattle.std.specs.Prelude.{ℕ, ◌≡◌, List, [], ◌∷◌, Option, Some, codes}
use Rattle.syn_usage.specs.CommandLine.{workers_in}
use Rattle.syn_usage.specs.Usage.{Usage, OneScript, OneFile, EachLine, Faulty, usage_of}

-- All the words of a call ask that this is run, with so many workers.
abbrev pub AllAsk : List (List ℕ) → Usage → ℕ → Type 0
AllAsk words wanted workers = (usage_of words ≡ wanted) × (workers_in words ≡ Some workers)

-- The program's name, and the words behind it, ask that this is run, with so many workers.
abbrev pub Asks : List (List ℕ) → Usage → ℕ → Type 0
Asks words = AllAsk (codes "synth" ∷ words)

-- The words behind the program's name are refused.
abbrev pub IsRefused : List (List ℕ) → Type 0
IsRefused words = usage_of (codes "synth" ∷ words) ≡ Faulty

pub record WorkedCommandLines : Type 0 where
  pub nothing_at_all : AllAsk [] EachLine 1
  pub none : Asks [] EachLine 1
  pub script : Asks (codes "-c" ∷ codes "ps; b" ∷ []) (OneScript (codes "ps; b")) 1
  pub empty_script : Asks (codes "-c" ∷ [] ∷ []) (OneScript []) 1
  pub attached : Asks (codes "-cps" ∷ []) (OneScript (codes "ps")) 1
  pub file : Asks (codes "-f" ∷ codes "x" ∷ []) (OneFile (codes "x")) 1
  pub silent : Asks (codes "-s" ∷ []) EachLine 1
  pub silent_script : Asks (codes "-s" ∷ codes "-c" ∷ codes "ps" ∷ []) (OneScript (codes "ps")) 1
  pub silent_file : Asks (codes "-s" ∷ codes "-f" ∷ codes "x" ∷ []) (OneFile (codes "x")) 1
  pub silent_behind : Asks (codes "-f" ∷ codes "x" ∷ codes "-s" ∷ []) (OneFile (codes "x")) 1
  pub in_one_word : Asks (codes "-sc" ∷ codes "ps" ∷ []) (OneScript (codes "ps")) 1
  pub workers : Asks (codes "-w" ∷ codes "16" ∷ []) EachLine 16
  pub workers_script : Asks (codes "-w" ∷ codes "04" ∷ codes "-c" ∷ codes "ps" ∷ []) (OneScript (codes "ps")) 4
  pub file_workers : Asks (codes "-f" ∷ codes "x" ∷ codes "-w" ∷ codes "4" ∷ []) (OneFile (codes "x")) 4
  pub no_script : IsRefused (codes "-c" ∷ [])
  pub no_file : IsRefused (codes "-f" ∷ [])
  pub two_scripts : IsRefused (codes "-c" ∷ codes "ps" ∷ codes "-c" ∷ codes "b" ∷ [])
  pub two_files : IsRefused (codes "-f" ∷ codes "x" ∷ codes "-f" ∷ codes "y" ∷ [])
  pub script_and_file : IsRefused (codes "-c" ∷ codes "ps" ∷ codes "-f" ∷ codes "x" ∷ [])
  pub silent_twice : IsRefused (codes "-s" ∷ codes "-s" ∷ [])
  pub silent_value : IsRefused (codes "-s" ∷ codes "x" ∷ [])
  pub help : IsRefused (codes "-h" ∷ [])
  pub long_help : IsRefused (codes "--help" ∷ [])
  pub version : IsRefused (codes "--version" ∷ [])
  pub stray_word : IsRefused (codes "ps" ∷ [])
  pub unknown_option : IsRefused (codes "-x" ∷ [])
  pub word_behind : IsRefused (codes "-c" ∷ codes "ps" ∷ codes "b" ∷ [])
  pub no_worker : IsRefused (codes "-w" ∷ codes "0" ∷ [])
  pub too_many_workers : IsRefused (codes "-w" ∷ codes "17" ∷ [])
  pub signed_workers : IsRefused (codes "-w" ∷ codes "+4" ∷ [])
  pub no_number : IsRefused (codes "-w" ∷ codes "x" ∷ [])
