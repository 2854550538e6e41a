-- Laws of scripts.
use Rattle.std.specs.Prelude.{ℕ, ◌≡◌, ◌⊎◌, List}
use Rattle.syn_words.specs.Scripts.{IsScript, IsFirstFault}
use Rattle.syn_words.specs.declared.Command.{Command}
use Rattle.syn_words.specs.declared.ScriptFault.{ScriptFault}

-- A text is a script of some commands, or has a first fault.
abbrev pub EitherOr : Type 0
EitherOr = (text : List ℕ) → ((commands : List Command) × IsScript text commands) ⊎ ((fault : ScriptFault) × IsFirstFault text fault)

-- A script has no first fault.
abbrev pub NotBoth : Type 0
NotBoth = (text : List ℕ) (commands : List Command) (fault : ScriptFault) → IsScript text commands → IsFirstFault text fault → ⊥

-- A text is a script of one list of commands at most.
abbrev pub OneScript : Type 0
OneScript = (text : List ℕ) (commands others : List Command) → IsScript text commands → IsScript text others → commands ≡ others

-- A text has at most one first fault.
abbrev pub OneFault : Type 0
OneFault = (text : List ℕ) (fault other : ScriptFault) → IsFirstFault text fault → IsFirstFault text other → fault ≡ other
