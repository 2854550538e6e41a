-- What is well is refused only for memory and failed calls.
use Rattle.std.proofs.Common.{◌≡◌, ℕ, List, [], true, Option, None, Some, IsSome, Ok, Err, refl, sym, ap, subst, ◌∙◌, inl, inr, arith}
use Rattle.syn_words.specs.declared.Command.{Command}
use Rattle.syn_words.specs.declared.ScriptFault.{ScriptFault}
use Rattle.syn_words.specs.Scripts.{IsFirstFault, IsScript}
use Rattle.syn_command_files.specs.declared.LoadFault.{LoadFault}
use Rattle.syn_command_files.specs.declared.LoadFault.TheVariants as faults
use Rattle.syn_command_files.specs.Sources.{has_no_source, most_deep, PutsAll, Refused, Sources, until_quit}
use Rattle.syn_command_files.specs.Loading.{ComesTo, FileRefused, IsOutside, LoadsFile, LoadsScript, ScriptFails, ScriptRefused, ScriptSays}
use Rattle.syn_command_files.proofs.Quitting.{differ, no_source_until, until_again}
use Rattle.syn_command_files.proofs.Putting.{all_plain, flat_or_failed, plain_passes, says_one, says_or_fails, sources_plain}

outside_of : (cause : LoadFault) → cause ≡ faults.GetFailed → IsOutside cause
outside_of cause is = subst (λ (x : LoadFault). IsOutside x) (sym is) tt

memory_is_outside : (cause : LoadFault) → cause ≡ faults.NoMemory → IsOutside cause
memory_is_outside cause is = subst (λ (x : LoadFault). IsOutside x) (sym is) tt

pub comes_plain : (told : Option (List (List ℕ × List ℕ))) (said commands : List Command) → ComesTo told said commands → has_no_source commands ≡ true
comes_plain told said commands (flat, puts, is) =
    subst (λ (cs : List Command). has_no_source cs ≡ true) (sym is)
    (no_source_until flat (all_plain (Sources most_deep told) (sources_plain most_deep told) said [] flat refl puts))

pub comes_ended : (told : Option (List (List ℕ × List ℕ))) (said commands : List Command) → ComesTo told said commands → until_quit commands ≡ commands
comes_ended told said commands (flat, puts, is) = ap until_quit is ∙ (until_again flat ∙ sym is)

no_script : (text : List ℕ) (said : List Command) (fault : ScriptFault) → IsScript text said → IsFirstFault text fault → ⊥
no_script text said fault says first = cc

one_script : (text : List ℕ) (said other : List Command) → IsScript text said → IsScript text other → said ≡ other
one_script text said other says tells = cc

script_says_or_fails : (text : List ℕ) (said : List Command) (cause : LoadFault) → ScriptSays text said → ScriptFails text cause → ⊥
script_says_or_fails text said (faults.Script fault) says (short, first, other) = no_script text said fault says.says first
script_says_or_fails text said faults.ScriptTooLong says long = omega (arith, long, says.short)
script_says_or_fails text said (faults.File line word fault) says fails = fails
script_says_or_fails text said faults.FileTooLong says fails = fails
script_says_or_fails text said faults.TooDeep says fails = fails
script_says_or_fails text said faults.GetFailed says fails = fails
script_says_or_fails text said faults.NoMemory says fails = fails

script_says_one : (text : List ℕ) (said other : List Command) → ScriptSays text said → ScriptSays text other → said ≡ other
script_says_one text said other says tells = one_script text said other says.says tells.says

meets_failed : (list : List (List ℕ × List ℕ)) (said other commands : List Command) (refusal : Refused) → said ≡ other
    → ComesTo (Some list) said commands → PutsAll (Sources most_deep (Some list)) other [] (Err refusal) → IsOutside refusal.cause
meets_failed list said other commands refusal same (flat, puts, is) meets =
    outside_of refusal.cause (flat_or_failed most_deep list other [] flat refusal (subst (λ (cs : List Command). PutsAll (Sources most_deep (Some list)) cs [] (Ok flat)) same puts) meets)

script_accepted_by : (text : List ℕ) (list : List (List ℕ × List ℕ)) (commands : List Command) (refusal : Refused)
    → LoadsScript text (Some list) commands → ScriptRefused text (Some list) refusal → IsOutside refusal.cause
script_accepted_by text list commands refusal loads (inl memory) = memory_is_outside refusal.cause (ap (λ (r : Refused). r.cause) memory)
script_accepted_by text list commands refusal (said, says, comes) (inr (inl (name, fails))) = absurd (script_says_or_fails text said refusal.cause says fails)
script_accepted_by text list commands refusal (said, says, comes) (inr (inr (other, tells, meets))) =
    meets_failed list said other commands refusal (script_says_one text said other says tells) comes meets

pub script_accepted : (text : List ℕ) (told : Option (List (List ℕ × List ℕ))) (commands : List Command) (refusal : Refused)
    → IsSome told → LoadsScript text told commands → ScriptRefused text told refusal → IsOutside refusal.cause
script_accepted text None commands refusal some loads is = absurd (differ some)
script_accepted text (Some list) commands refusal some loads is = script_accepted_by text list commands refusal loads is

pub script_alone : (text : List ℕ) (told : Option (List (List ℕ × List ℕ))) (said : List Command) (refusal : Refused)
    → ScriptSays text said → has_no_source said ≡ true → ScriptRefused text told refusal → refusal.cause ≡ faults.NoMemory
script_alone text told said refusal says plain (inl memory) = ap (λ (r : Refused). r.cause) memory
script_alone text told said refusal says plain (inr (inl (name, fails))) = absurd (script_says_or_fails text said refusal.cause says fails)
script_alone text told said refusal says plain (inr (inr (other, tells, meets))) =
    let same : said ≡ other = script_says_one text said other says tells in
    absurd (plain_passes (Sources most_deep told) other [] refusal (subst (λ (cs : List Command). has_no_source cs ≡ true) same plain) meets)

file_accepted_by : (name : List ℕ) (list : List (List ℕ × List ℕ)) (commands : List Command) (refusal : Refused)
    → LoadsFile name (Some list) commands → FileRefused name (Some list) refusal → IsOutside refusal.cause
file_accepted_by name list commands refusal loads (inl memory) = memory_is_outside refusal.cause (ap (λ (r : Refused). r.cause) memory)
file_accepted_by name list commands refusal (said, says, comes) (inr (inl fails)) =
    outside_of refusal.cause (says_or_fails list name said refusal.cause says fails.0)
file_accepted_by name list commands refusal (said, says, comes) (inr (inr (other, tells, meets))) =
    meets_failed list said other commands refusal (says_one list name said other says tells) comes meets

pub file_accepted : (name : List ℕ) (told : Option (List (List ℕ × List ℕ))) (commands : List Command) (refusal : Refused)
    → IsSome told → LoadsFile name told commands → FileRefused name told refusal → IsOutside refusal.cause
file_accepted name None commands refusal some loads is = absurd (differ some)
file_accepted name (Some list) commands refusal some loads is = file_accepted_by name list commands refusal loads is
