-- What a script and a file of commands come to before anything runs: the commands up to the first `quit`, or the first fault.
use Rattle.std.specs.Prelude.{◌≡◌, ◌≢◌, ◌⊎◌, ℕ, ◌≤◌, ◌<◌, length, List, [], Option, Ok, Err, ⊤}
use Rattle.syn_words.specs.declared.Command.{Command}
use Rattle.syn_words.specs.declared.ScriptFault.TheVariants as script
use Rattle.syn_words.specs.Scripts.{IsScript, IsFirstFault}
use Rattle.syn_command_files.specs.declared.LoadFault.{LoadFault}
use Rattle.syn_command_files.specs.declared.LoadFault.TheVariants as faults
use Rattle.syn_command_files.specs.Sources.{FailsIn, FileSays, Flattens, most_deep, no_memory, Refused, text_limit, until_quit}

-- Commands come to these, with those of files in place and up to the first that ends the run.
abbrev pub ComesTo : Option (List (List ℕ × List ℕ)) → List Command → List Command → Type 0
ComesTo told said commands = (flat : List Command) × Flattens most_deep told [] said (Ok flat) × (commands ≡ until_quit flat)

-- A file that the commands name is refused, in this order the first.
abbrev pub MeetsFault : Option (List (List ℕ × List ℕ)) → List Command → Refused → Type 0
MeetsFault told said refusal = Flattens most_deep told [] said (Err refusal)

-- The text is a script, not too long, that says these commands.
pub record ScriptSays (text : List ℕ) (said : List Command) : Type 0 where
  pub short : length text ≤ text_limit
  pub says : IsScript text said

-- The text is a script that comes to these commands.
abbrev pub LoadsScript : List ℕ → Option (List (List ℕ × List ℕ)) → List Command → Type 0
LoadsScript text told commands = (said : List Command) × ScriptSays text said × ComesTo told said commands

-- The file of that name comes to these commands.
abbrev pub LoadsFile : List ℕ → Option (List (List ℕ × List ℕ)) → List Command → Type 0
LoadsFile name told commands = (said : List Command) × FileSays told name said × ComesTo told said commands

-- Why a text is no script: it is too long, or this is its first fault.
abbrev pub ScriptFails : List ℕ → LoadFault → Type 0
ScriptFails text faults.ScriptTooLong = text_limit < length text
ScriptFails text (faults.Script fault) = (length text ≤ text_limit) × IsFirstFault text fault × (fault ≢ script.NoMemory)
ScriptFails text other = ⊥

-- Why a script is refused: memory was, or it is none, or a file that its commands name is the first that is refused.
abbrev pub ScriptRefused : List ℕ → Option (List (List ℕ × List ℕ)) → Refused → Type 0
ScriptRefused text told refusal =
    (refusal ≡ no_memory)
    ⊎ ((refusal.name ≡ []) × ScriptFails text refusal.cause)
    ⊎ ((said : List Command) × ScriptSays text said × MeetsFault told said refusal)

-- Why a file of commands is refused: memory was, or it gives none, or a file that its commands name is the first that is refused.
abbrev pub FileRefused : List ℕ → Option (List (List ℕ × List ℕ)) → Refused → Type 0
FileRefused name told refusal =
    (refusal ≡ no_memory)
    ⊎ FailsIn told name refusal
    ⊎ ((said : List Command) × FileSays told name said × MeetsFault told said refusal)

-- The cause is one that may come for any files: memory was refused, or a call failed.
abbrev pub IsOutside : LoadFault → Type 0
IsOutside faults.NoMemory = ⊤
IsOutside faults.GetFailed = ⊤
IsOutside other = ⊥
