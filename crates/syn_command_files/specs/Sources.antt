-- The commands of texts, with the commands of each file that `source` names in their place.
use Rattle.std.specs.Prelude.{◌≡◌, ◌⊎◌, ℕ, zero, suc, ◌≤◌, ◌<◌, length, Bool, true, false, if◌then◌else◌, List, [], ◌∷◌, ◌++◌, Option, Some, None, Result, Ok, Err, ⊤, Vec}
use Rattle.std.specs.Global.{Global}
use Rattle.syn_words.specs.declared.Command.{Command}
use Rattle.syn_words.specs.declared.Command.TheVariants as commands
use Rattle.syn_words.specs.Files.{IsCommandFile, IsFirstFileFault}
use Rattle.syn_words.specs.declared.ScriptFault.{ScriptFault}
use Rattle.syn_command_files.specs.declared.LoadFault.{LoadFault}
use Rattle.syn_command_files.specs.declared.LoadFault.TheVariants as faults
use Rattle.syn_command_files.specs.declared.Unread.{Unread}
use Rattle.syn_io.specs.Outside.{Disk, Rose}
use Rattle.syn_command_files.specs.Told.{HasBytes, HasMoreBytes}

-- the most bytes of a script, and of a file of commands
abbrev pub text_limit : ℕ
text_limit = 65536

-- so many files deep at most
abbrev pub most_deep : ℕ
most_deep = 16

-- A refusal: its cause, and the name of the file in which it is. No byte is the name of the script itself.
pub record Refused : Type 0 where
  pub cause : LoadFault
  pub name : List ℕ

abbrev pub refused : LoadFault → List ℕ → Refused
refused cause name = record { cause = cause; name = name }

-- memory was refused
abbrev pub no_memory : Refused
no_memory = refused faults.NoMemory []

-- what the code tells of a refusal
abbrev pub refusal_of : Unread → Refused
refusal_of unread = refused unread.cause unread.name.items

-- The name of the file whose commands a command stands for.
abbrev pub source_in : Command → Option (List ℕ)
source_in (commands.Source name) = Some name
source_in other = None

-- The command ends the run.
abbrev pub is_quit : Command → Bool
is_quit commands.Quit = true
is_quit other = false

-- Commands up to the first that ends the run, that one included.
abbrev pub until_quit : List Command → List Command
until_quit [] = []
until_quit (c ∷ cs) = if is_quit c then c ∷ [] else c ∷ until_quit cs

-- The number of commands up to the first that ends the run, that one included; of all where none does.
abbrev pub count_until_quit : List Command → ℕ
count_until_quit [] = 0
count_until_quit (c ∷ cs) = if is_quit c then 1 else suc (count_until_quit cs)

-- Neither this command, by what it stands for, nor a further one stands for those of a file.
abbrev pub stays : Option (List ℕ) → Bool → Bool
stays None further = further
stays (Some name) further = false

-- No command stands for those of a file.
abbrev pub has_no_source : List Command → Bool
has_no_source [] = true
has_no_source (c ∷ cs) = stays (source_in c) (has_no_source cs)

-- The file of that name has this text, which is not too long.
pub record HasText (told : Option (List (List ℕ × List ℕ))) (name text : List ℕ) : Type 0 where
  pub file : HasBytes name told text
  pub short : length text ≤ text_limit

-- The file of that name has a text, not too long, that says these commands.
abbrev pub FileSays : Option (List (List ℕ × List ℕ)) → List ℕ → List Command → Type 0
FileSays told name said = (text : List ℕ) × HasText told name text × IsCommandFile text said

-- Why the file of that name gives no commands: its first fault, or it is too long, or it could not be got.
abbrev pub FileFails : Option (List (List ℕ × List ℕ)) → List ℕ → LoadFault → Type 0
FileFails told name (faults.File line word fault) = (text : List ℕ) × HasText told name text × IsFirstFileFault text line word fault
FileFails told name faults.FileTooLong = HasMoreBytes name told text_limit
FileFails told name faults.GetFailed = ⊤
FileFails told name other = ⊥

-- A refusal whose cause is in the file of that name.
abbrev pub FailsIn : Option (List (List ℕ × List ℕ)) → List ℕ → Refused → Type 0
FailsIn told name refusal = FileFails told name refusal.cause × (refusal.name ≡ name)

-- A refusal for the first fault of the text of the file of that name.
abbrev pub FaultIn : List ℕ → List ℕ → Refused → Type 0
FaultIn name text refusal =
    (line : ℕ) × (word : List ℕ) × (fault : ScriptFault) × IsFirstFileFault text line word fault × (refusal ≡ refused (faults.File line word fault) name)

-- What a command puts behind those before: itself, or by a rule what the file that it names says.
abbrev pub Puts : (List ℕ → List Command → Result (List Command) Refused → Type 0) → Option (List ℕ) → Command → List Command → Result (List Command) Refused → Type 0
Puts Source None c before outcome = outcome ≡ Ok (before ++ c ∷ [])
Puts Source (Some name) c before outcome = Source name before outcome

-- What commands put behind those before, one after the other up to the first that is refused, by a rule for those that name a file.
abbrev pub PutsAll : (List ℕ → List Command → Result (List Command) Refused → Type 0) → List Command → List Command → Result (List Command) Refused → Type 0
PutsAll Source [] before outcome = outcome ≡ Ok before
PutsAll Source (c ∷ cs) before outcome =
    ((between : List Command) × Puts Source (source_in c) c before (Ok between) × PutsAll Source cs between outcome)
    ⊎ ((refusal : Refused) × (outcome ≡ Err refusal) × Puts Source (source_in c) c before (Err refusal))

-- What a file puts behind commands, where files are taken so many deep: what its commands put, or why it gives none; at no depth it is refused.
abbrev pub Sources : ℕ → Option (List (List ℕ × List ℕ)) → List ℕ → List Command → Result (List Command) Refused → Type 0
Sources zero told name before outcome = outcome ≡ Err (refused faults.TooDeep name)
Sources (suc depth) told name before outcome =
    ((said : List Command) × FileSays told name said × PutsAll (Sources depth told) said before outcome)
    ⊎ ((refusal : Refused) × FailsIn told name refusal × (outcome ≡ Err refusal))

-- What commands put behind those before, where files are taken so many deep.
abbrev pub Flattens : ℕ → Option (List (List ℕ × List ℕ)) → List Command → List Command → Result (List Command) Refused → Type 0
Flattens depth told before said outcome = PutsAll (Sources depth told) said before outcome

-- The commands are those of the file that a command names, where files are taken so many deep.
pub record OpensFile (depth : ℕ) (told : Option (List (List ℕ × List ℕ))) (c : Command) (said : List Command) (name : List ℕ) : Type 0 where
  pub deep : 0 < depth
  pub named : source_in c ≡ Some name
  pub says : FileSays told name said

-- What is got for a command: nothing for one that stands for itself, and else the commands of its file.
abbrev pub Opens : ℕ → Option (List (List ℕ × List ℕ)) → Command → Option (Vec Command Global) → Type 0
Opens depth told c None = source_in c ≡ None
Opens depth told c (Some said) = (name : List ℕ) × OpensFile depth told c said.items name

-- The command is refused, whatever stands before it.
abbrev pub FailsAt : ℕ → Option (List (List ℕ × List ℕ)) → Command → Refused → Type 0
FailsAt depth told c refusal = (before : List Command) → Puts (Sources depth told) (source_in c) c before (Err refusal)

-- Where a call failed, the count of faults rose.
abbrev pub CountsFailure : LoadFault → Disk → Disk → Type 0
CountsFailure faults.GetFailed before after = Rose before.faults after.faults
CountsFailure other before after = ⊤
