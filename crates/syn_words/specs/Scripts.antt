-- Scripts: what a text says, the commands that it spells or its first fault.
use Rattle.std.specs.Prelude.{◌≡◌, ℕ, Bool, false, List, [], ◌∷◌, ◌++◌, Option, Some, None, Result, Ok, Err}
use Rattle.syn_words.specs.Bytes.{bad_byte}
use Rattle.syn_words.specs.Phrases.{phrases}
use Rattle.syn_words.specs.declared.words.Phrase.{Phrase}
use Rattle.syn_words.specs.Forms.{and_then}
use Rattle.syn_words.specs.Commands.{said}
use Rattle.syn_words.specs.declared.Command.{Command}
use Rattle.syn_words.specs.declared.ScriptFault.{ScriptFault}
use Rattle.syn_words.specs.declared.ScriptFault.TheVariants.{BadByte}

-- What a phrase says behind commands that were read: they and its own, or its fault.
abbrev pub said_onto : List Command → Phrase → Result (List Command) ScriptFault
said_onto before phrase = and_then (said phrase) (λ commands. Ok (before ++ commands))

-- What phrases say behind commands that were read: all commands in order, or the fault of the first phrase that has one.
abbrev pub said_after : List Command → List Phrase → Result (List Command) ScriptFault
said_after before [] = Ok before
said_after before (phrase ∷ phrases) = and_then (said_onto before phrase) (λ commands. said_after commands phrases)

-- The same, by the first byte that may not stand in a script: it comes before all else.
abbrev pub said_unless : Option ℕ → List Phrase → Result (List Command) ScriptFault
said_unless (Some at) phrases = Err (BadByte at)
said_unless None phrases = said_after [] phrases

-- What a text says, where bytes may be held in quotes or not: the commands that its phrases spell in order, or its first fault in text order.
abbrev pub meaning_by : Bool → List ℕ → Result (List Command) ScriptFault
meaning_by held text = said_unless (bad_byte held text) (phrases text)

-- What a script says.
abbrev pub meaning : List ℕ → Result (List Command) ScriptFault
meaning text = meaning_by false text

-- The text is a script of these commands.
abbrev pub IsScript : List ℕ → List Command → Type 0
IsScript text commands = meaning text ≡ Ok commands

-- The text is no script, for this first fault.
abbrev pub IsFirstFault : List ℕ → ScriptFault → Type 0
IsFirstFault text fault = meaning text ≡ Err fault
