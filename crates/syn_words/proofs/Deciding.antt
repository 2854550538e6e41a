-- Each text is a script or has a first fault.
use Rattle.std.proofs.Common.{◌≡◌, ℕ, List, refl, ◌⊎◌, inl, inr, Result, Ok, Err}
use Rattle.syn_words.specs.Scripts.{meaning, IsScript, IsFirstFault}
use Rattle.syn_words.specs.declared.Command.{Command}
use Rattle.syn_words.specs.declared.ScriptFault.{ScriptFault}

pub script_or_fault : (text : List ℕ) → ((commands : List Command) × IsScript text commands) ⊎ ((fault : ScriptFault) × IsFirstFault text fault)
script_or_fault text = go (meaning text) refl
  where
    go : (r : Result (List Command) ScriptFault) → meaning text ≡ r → ((commands : List Command) × IsScript text commands) ⊎ ((fault : ScriptFault) × IsFirstFault text fault)
    go (Ok commands) e = inl (commands, e)
    go (Err fault) e = inr (fault, e)

pub script_has_no_fault : (text : List ℕ) (commands : List Command) (fault : ScriptFault) → IsScript text commands → IsFirstFault text fault → ⊥
script_has_no_fault text commands fault script found = cc
