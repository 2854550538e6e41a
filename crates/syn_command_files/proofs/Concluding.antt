-- What a result of loading is besides: without `source`, up to the first `quit`, refused for what is not well.
use Rattle.std.proofs.Common.{◌≡◌, ◌⊎◌, ℕ, List, [], true, Option, IsSome, IfErr, IfOk, Result, Ok, Err, inl, inr, Vec, refl, sym, subst}
use Rattle.std.specs.Global.{Global}
use Rattle.syn_words.specs.declared.Command.{Command}
use Rattle.syn_command_files.specs.declared.LoadFault.{LoadFault}
use Rattle.syn_command_files.specs.declared.LoadFault.TheVariants as faults
use Rattle.syn_command_files.specs.declared.Unread.{Unread}
use Rattle.syn_command_files.specs.Sources.{FailsIn, FileSays, has_no_source, no_memory, refusal_of, Refused, refused, until_quit}
use Rattle.syn_command_files.specs.Loading.{ComesTo, FileRefused, IsOutside, LoadsFile, LoadsScript, MeetsFault, ScriptFails, ScriptRefused, ScriptSays}
use Rattle.syn_command_files.proofs.Deciding.{comes_ended, comes_plain, file_accepted, script_accepted, script_alone}

pub script_flat : (text : List ℕ) (told : Option (List (List ℕ × List ℕ))) (r : Result (Vec Command Global) Unread)
    → IfOk r (λ cs. LoadsScript text told cs.items) → IfOk r (λ cs. has_no_source cs.items ≡ true)
script_flat text told (Ok cs) (said, says, comes) = comes_plain told said cs.items comes
script_flat text told (Err unread) loads = tt

pub script_ended : (text : List ℕ) (told : Option (List (List ℕ × List ℕ))) (r : Result (Vec Command Global) Unread)
    → IfOk r (λ cs. LoadsScript text told cs.items) → IfOk r (λ cs. until_quit cs.items ≡ cs.items)
script_ended text told (Ok cs) (said, says, comes) = comes_ended told said cs.items comes
script_ended text told (Err unread) loads = tt

pub file_flat : (name : List ℕ) (told : Option (List (List ℕ × List ℕ))) (r : Result (Vec Command Global) Unread)
    → IfOk r (λ cs. LoadsFile name told cs.items) → IfOk r (λ cs. has_no_source cs.items ≡ true)
file_flat name told (Ok cs) (said, says, comes) = comes_plain told said cs.items comes
file_flat name told (Err unread) loads = tt

pub file_ended : (name : List ℕ) (told : Option (List (List ℕ × List ℕ))) (r : Result (Vec Command Global) Unread)
    → IfOk r (λ cs. LoadsFile name told cs.items) → IfOk r (λ cs. until_quit cs.items ≡ cs.items)
file_ended name told (Ok cs) (said, says, comes) = comes_ended told said cs.items comes
file_ended name told (Err unread) loads = tt

pub script_well : (text : List ℕ) (told : Option (List (List ℕ × List ℕ))) (commands : List Command) (r : Result (Vec Command Global) Unread)
    → IfErr r (λ unread. ScriptRefused text told (refusal_of unread)) → IsSome told → LoadsScript text told commands → IfErr r (λ unread. IsOutside unread.cause)
script_well text told commands (Ok cs) is some loads = tt
script_well text told commands (Err unread) is some loads = script_accepted text told commands (refusal_of unread) some loads is

pub script_of_itself : (text : List ℕ) (told : Option (List (List ℕ × List ℕ))) (said : List Command) (r : Result (Vec Command Global) Unread)
    → IfErr r (λ unread. ScriptRefused text told (refusal_of unread)) → ScriptSays text said → has_no_source said ≡ true → IfErr r (λ unread. unread.cause ≡ faults.NoMemory)
script_of_itself text told said (Ok cs) is says plain = tt
script_of_itself text told said (Err unread) is says plain = script_alone text told said (refusal_of unread) says plain is

pub file_well : (name : List ℕ) (told : Option (List (List ℕ × List ℕ))) (commands : List Command) (r : Result (Vec Command Global) Unread)
    → IfErr r (λ unread. FileRefused name told (refusal_of unread)) → IsSome told → LoadsFile name told commands → IfErr r (λ unread. IsOutside unread.cause)
file_well name told commands (Ok cs) is some loads = tt
file_well name told commands (Err unread) is some loads = file_accepted name told commands (refusal_of unread) some loads is

-- from what the commands say to what the text or the file is

pub script_comes : (text : List ℕ) (told : Option (List (List ℕ × List ℕ))) (said : List Command) (r : Result (Vec Command Global) Unread) → ScriptSays text said
    → IfOk r (λ cs. ComesTo told said cs.items) → IfOk r (λ cs. LoadsScript text told cs.items)
script_comes text told said (Ok cs) says comes = (said, says, comes)
script_comes text told said (Err unread) says comes = tt

pub script_meets : (text : List ℕ) (told : Option (List (List ℕ × List ℕ))) (said : List Command) (r : Result (Vec Command Global) Unread) → ScriptSays text said
    → IfErr r (λ unread. (refusal_of unread ≡ no_memory) ⊎ MeetsFault told said (refusal_of unread)) → IfErr r (λ unread. ScriptRefused text told (refusal_of unread))
script_meets text told said (Ok cs) says meets = tt
script_meets text told said (Err unread) says (inl memory) = inl memory
script_meets text told said (Err unread) says (inr meets) = inr (inr (said, says, meets))

pub file_comes : (name : List ℕ) (told then : Option (List (List ℕ × List ℕ))) (said : List Command) (r : Result (Vec Command Global) Unread) → then ≡ told → FileSays told name said
    → IfOk r (λ cs. ComesTo then said cs.items) → IfOk r (λ cs. LoadsFile name told cs.items)
file_comes name told then said (Ok cs) same says comes = (said, says, let P : Option (List (List ℕ × List ℕ)) → Type 0 = λ t. ComesTo t said cs.items in subst P same comes)
file_comes name told then said (Err unread) same says comes = tt

pub file_meets : (name : List ℕ) (told then : Option (List (List ℕ × List ℕ))) (said : List Command) (r : Result (Vec Command Global) Unread) → then ≡ told → FileSays told name said
    → IfErr r (λ unread. (refusal_of unread ≡ no_memory) ⊎ MeetsFault then said (refusal_of unread)) → IfErr r (λ unread. FileRefused name told (refusal_of unread))
file_meets name told then said (Ok cs) same says meets = tt
file_meets name told then said (Err unread) same says (inl memory) = inl memory
file_meets name told then said (Err unread) same says (inr meets) =
    inr (inr (said, says, let P : Option (List (List ℕ × List ℕ)) → Type 0 = λ t. MeetsFault t said (refusal_of unread) in subst P same meets))

pub script_none : (text : List ℕ) (told : Option (List (List ℕ × List ℕ))) (cause : LoadFault) → (cause ≡ faults.NoMemory) ⊎ ScriptFails text cause → ScriptRefused text told (refused cause [])
script_none text told cause (inl memory) = inl (let P : LoadFault → Type 0 = λ x. refused x [] ≡ no_memory in subst P (sym memory) refl)
script_none text told cause (inr fails) = inr (inl (refl, fails))

pub file_none : (name : List ℕ) (told : Option (List (List ℕ × List ℕ))) (r : Refused) → (r ≡ no_memory) ⊎ FailsIn told name r → FileRefused name told r
file_none name told r (inl memory) = inl memory
file_none name told r (inr fails) = inr (inl fails)
