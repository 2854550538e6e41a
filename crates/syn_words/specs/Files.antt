-- Files of commands: what a text says as one, and where its first fault is.
use Rattle.std.specs.Prelude.{◌≡◌, ℕ, ◌+◌, ◌==◌, min, Bool, true, false, if◌then◌else◌, List, [], ◌∷◌, length, drop, map, take, Result, Ok, Err, ⊤}
use Rattle.syn_words.specs.Quotes.{meant, script_of}
use Rattle.syn_words.specs.Phrases.{phrases}
use Rattle.syn_words.specs.declared.words.Phrase.{Phrase}
use Rattle.syn_words.specs.Scripts.{meaning_by}
use Rattle.syn_words.specs.declared.Command.{Command}
use Rattle.syn_words.specs.declared.ScriptFault.{ScriptFault}
use Rattle.syn_words.specs.declared.ScriptFault.TheVariants.{BadByte, UnknownCommand, MissingWord, ExtraWord, UnknownEnding, BadNumber, OutOfRange, NoMemory}
use Rattle.syn_words.specs.declared.files.FileFault.{FileFault}
use Rattle.syn_words.specs.declared.files.FileFault.TheVariants as faults

-- What the text of a file of commands says.
abbrev pub meaning_of_file : List ℕ → Result (List Command) ScriptFault
meaning_of_file text = meaning_by true (script_of text)

-- The text of a file has these commands.
abbrev pub IsCommandFile : List ℕ → List Command → Type 0
IsCommandFile text commands = meaning_of_file text ≡ Ok commands

-- The place of a fault.
abbrev pub place_of : ScriptFault → ℕ
place_of (BadByte at) = at
place_of (UnknownCommand at) = at
place_of (MissingWord at) = at
place_of (ExtraWord at) = at
place_of (UnknownEnding at) = at
place_of (BadNumber at) = at
place_of (OutOfRange at) = at
place_of NoMemory = 0

-- The fault is one of a word.
abbrev pub has_word : ScriptFault → Bool
has_word (BadByte at) = false
has_word (MissingWord at) = false
has_word NoMemory = false
has_word other = true

-- The number of the line behind a byte of this one.
abbrev pub next_line : ℕ → ℕ → ℕ
next_line line b = if b == 10 then line + 1 else line

-- The number of the line on which bytes end, where they begin on this one.
abbrev pub line_after : ℕ → List ℕ → ℕ
line_after line [] = line
line_after line (b ∷ bs) = line_after (next_line line b) bs

-- The number of the line of a place, from 1.
abbrev pub line_of : ℕ → List ℕ → ℕ
line_of at text = line_after 1 (take (min at (length text)) text)

-- The first word of phrases, as it is meant; nothing where there is none.
abbrev pub first_meant : List Phrase → List ℕ
first_meant [] = []
first_meant (phrase ∷ phrases) = map meant phrase.name.text

-- The word at a place of a script.
abbrev pub word_from : ℕ → List ℕ → List ℕ
word_from at script = first_meant (phrases (drop (min at (length script)) script))

-- The word of a fault, by the script of the file; nothing where it isn't one of a word.
abbrev pub word_of : ScriptFault → List ℕ → List ℕ
word_of fault script = if has_word fault then word_from (place_of fault) script else []

-- The text of a file has this first fault, on this line, at this word.
pub record IsFirstFileFault (text : List ℕ) (line : ℕ) (word : List ℕ) (fault : ScriptFault) : Type 0 where
  pub first : meaning_of_file text ≡ Err fault
  pub place : line ≡ line_of (place_of fault) text
  pub shown : word ≡ word_of fault (script_of text)

-- Why a text is no file of commands: its first fault, or memory was refused.
abbrev pub IsFileFault : List ℕ → FileFault → Type 0
IsFileFault text (faults.First line word fault) = IsFirstFileFault text line word fault
IsFileFault text faults.NoMemory = ⊤
