-- A run that was ready is refused for want of memory alone, or where a call failed.
use Rattle.std.proofs.Common.{◌≡◌, ◌≢◌, ◌⊎◌, ℕ, ◌+◌, ◌<◌, ◌≤◌, Bool, false, List, [], ◌∷◌, ◌++◌, length, refl, sym, ◌∙◌, subst, arith, inl, inr, Option, None, Some, IfSome, IsSome, Result, Ok, Err}
use Rattle.std.specs.Option.{IsSomeAnd}
use Rattle.syn_io.specs.Outside.{Disk, Input, Screen, file_at, next_line}
use Rattle.syn_reader.specs.Causes.{fault_in}
use Rattle.syn_reader.specs.Faults.{Fault}
use Rattle.syn_reader.specs.Laws.{NotBoth}
use Rattle.syn_reader.specs.Limits.{IsFirstFault, Within}
use Rattle.syn_reader.specs.Reading.{Reads}
use Rattle.syn_aiger_files.specs.declared.files.Aig.{Aig}
use Rattle.syn_aiger.specs.Faults.{Spells}
use Rattle.syn_aiger.specs.Faults as aiger
use Rattle.syn_aiger.specs.Laws as aiger_laws
use Rattle.syn_aiger.specs.Writing.{first_typed}
use Rattle.syn_words.specs.declared.Command.{Command}
use Rattle.syn_words.specs.declared.Command.TheVariants as commands
use Rattle.syn_command_files.specs.declared.LoadFault.{LoadFault}
use Rattle.syn_command_files.specs.declared.LoadFault.TheVariants as faults
use Rattle.syn_command_files.specs.Loading.{IsOutside}
use Rattle.syn_command_files.specs.Luts.{line_of, sizes_in}
use Rattle.syn_command_files.specs.Sources as sources
use Rattle.syn_command_files.specs.Sources.{text_limit}
use Rattle.syn_command_files.proofs.Deciding.{file_accepted, script_accepted, script_alone}
use Rattle.syn_netlist.specs.Lists.{Frame, Netlist}
use Rattle.syn_compare.specs.Matching.{AreMatched, IsFault}
use Rattle.syn_compare.specs.declared.answers.CompareFault.{CompareFault}
use Rattle.syn_compare.specs.declared.answers.CompareFault.TheVariants as compare
use Rattle.syn_words.specs.declared.formats.NetworkFile.{NetworkFile}
use Rattle.syn_words.specs.declared.formats.NetworkFile.TheVariants as files
use Rattle.syn_words.specs.declared.inputs.LutSizes.{LutSizes}
use Rattle.syn_shell.specs.declared.refusal.FileCause.{FileCause}
use Rattle.syn_shell.specs.declared.refusal.FileCause.TheVariants as causes
use Rattle.syn_shell.specs.declared.refusal.Refusal.{Refusal}
use Rattle.syn_shell.specs.declared.refusal.Refusal.TheVariants.{Read, ReadAiger, ReadLuts, NotRead, Unmatched, FileTooLong, LineTooLong, TooManyGates, LatchType, NoNetwork, GetFailed, PutFailed, LineFailed, SinkFailed, NoMemory}
use Rattle.syn_build.specs.BuildFaults.{most_gates}
use Rattle.syn_shell.specs.Networks.{Written, gates_in}
use Rattle.syn_shell.specs.Outside.{State}
use Rattle.syn_shell.specs.Comparing.{CompareRefused, IsNotRead, cause_in}
use Rattle.syn_shell.specs.Lines.{IsLevelsText, IsStatsLine, refusal_status}
use Rattle.syn_shell.specs.Reads.{file_limit, AigerReadRefused, GetRefused, LutsRefused, ReadRefused}
use Rattle.syn_shell.specs.Steps.{Denied, gates_for, with_luts, AigerRefused, AigerWriteRefused, GeneratingRefused, MakingRefused, PrintRefused, TextRefused, TimeRefused, WriteRefused}
use Rattle.syn_shell.specs.Scripts.{Refused, InFile, InText, LoadFails, RunsCommands, RunsScript, Source, cause_of, nameless}
use Rattle.syn_shell.specs.LineMode.{LineRefused, NoFurther, RunsLines, listed, most_lines}
use Rattle.syn_usage.specs.Usage.{Usage, OneScript, OneFile, EachLine, Faulty, usage_of}
use Rattle.syn_shell.specs.Runs.{RunsUsage, RunsWords, status_of}
use Rattle.syn_shell.specs.Readiness.{CommandsReady, HasFirst, HasLuts, HoldsNetwork, IsComparable, IsComplete, IsLoadable, IsReadable, IsReadableAiger, LineReady, LinesReady, Needs, ScriptReady, UsageReady, WordsReady}
use Rattle.syn_shell.proofs.Concluding.{ran_seven}
use Rattle.syn_shell.proofs.Recipes.{filled_gates}

-- statuses that a ready run may end with, if a call may have failed
abbrev IsFine : ℕ → Type 0
IsFine status = (status ≡ 0) ⊎ ((status ≡ 7) ⊎ (status ≡ 8))

failed : IsFine 7
failed = inr (inl refl)

no_memory : IsFine 8
no_memory = inr (inr refl)

fine_as : (refusals others : List Refused) → refusals ≡ others → IsFine (status_of others) → IsFine (status_of refusals)
fine_as refusals others is fine = subst (λ (rs : List Refused). IsFine (status_of rs)) (sym is) fine

-- what reads or spells within its limits has no first fault, in both formats
record NothingIsBoth : Type 0 where
  blif : NotBoth
  aiger : aiger_laws.NotBoth

-- the bytes of a file that is told and there are as they need be

there_at : (needed : List ℕ → Type 0) (found : Option (List ℕ)) (bytes : List ℕ) → IsSomeAnd found needed → found ≡ Some bytes → needed bytes
there_at needed None bytes needs is = absurd needs
there_at needed (Some b) bytes needs is = subst needed (same b bytes is) needs
  where
    same : (x y : List ℕ) → Some x ≡ Some y → x ≡ y
    same x y e = cc

there_in : (needed : List ℕ → Type 0) (name : List ℕ) (told : Option (List (List ℕ × List ℕ))) (bytes : List ℕ)
    → IsSomeAnd told (λ list. IsSomeAnd (file_at name list) needed) → IfSome told (λ list. file_at name list ≡ Some bytes) → needed bytes
there_in needed name None bytes needs file = absurd needs
there_in needed name (Some list) bytes needs file = there_at needed (file_at name list) bytes needs file

-- they aren't too long

short_at : (needed : List ℕ → Type 0) → ((b : List ℕ) → needed b → length b ≤ file_limit) → (found : Option (List ℕ)) → IsSomeAnd found needed → IsSomeAnd found (λ b. file_limit < length b) → ⊥
short_at needed short None needs long = needs
short_at needed short (Some b) needs long = let few = short b needs in absurd (omega (arith, few, long))

not_too_long : (needed : List ℕ → Type 0) → ((b : List ℕ) → needed b → length b ≤ file_limit) → (name : List ℕ) (told : Option (List (List ℕ × List ℕ)))
    → IsSomeAnd told (λ list. IsSomeAnd (file_at name list) needed) → IfSome told (λ list. IsSomeAnd (file_at name list) (λ b. file_limit < length b)) → ⊥
not_too_long needed short name None needs long = needs
not_too_long needed short name (Some list) needs long = short_at needed short (file_at name list) needs long

-- the bytes are short enough, and spell a netlist, or an AIGER file, within the limits
abbrev ReadsWithin : List ℕ → Type 0
ReadsWithin bytes = (length bytes ≤ file_limit) × (net : Netlist) × Reads bytes net × Within bytes net

abbrev SpellsWithin : Bool → List ℕ → Type 0
SpellsWithin properties bytes = (length bytes ≤ file_limit) × (g : Aig) × Spells properties bytes g × aiger.Within g

-- the bytes are short enough, and say what LUTs there are
abbrev HasSizes : List ℕ → Type 0
HasSizes bytes = (length bytes ≤ file_limit) × (sizes : LutSizes) × (sizes_in bytes ≡ Ok sizes)

no_fault_here : NotBoth → (bytes : List ℕ) (fault : Option Fault) → ReadsWithin bytes → IsSomeAnd fault (IsFirstFault bytes) → ⊥
no_fault_here not_both bytes None needs first = first
no_fault_here not_both bytes (Some fault) (short, net, reads, within) first = not_both bytes net fault reads within first

there_is_one : (m : Option Written) → IsSome m → m ≡ None → ⊥
there_is_one None some none = cc
there_is_one (Some net) some none = cc

-- a refused command whose needs are met

get_fine : (needed : List ℕ → Type 0) → ((b : List ℕ) → needed b → length b ≤ file_limit) → (name : List ℕ) (before after : Disk) (cause : Refusal)
    → IsSomeAnd before.told (λ list. IsSomeAnd (file_at name list) needed) → GetRefused name before after cause → IsFine (refusal_status cause)
get_fine needed short name before after GetFailed needs why = failed
get_fine needed short name before after FileTooLong needs why = absurd (not_too_long needed short name before.told needs why)
get_fine needed short name before after NoMemory needs why = no_memory
get_fine needed short name before after other needs why = absurd why

read_fine : NothingIsBoth → (name : List ℕ) (before after : Disk) (cause : Refusal) → IsReadable name before → ReadRefused name before after cause → IsFine (refusal_status cause)
read_fine not_both name before after (Read fault) needs why = absurd (no_fault_here not_both.blif why.bytes (fault_in fault) (there_in ReadsWithin name before.told why.bytes needs why.file) why.first)
read_fine not_both name before after other needs why = get_fine ReadsWithin (λ b h. h.0) name before after other needs why

aiger_read_fine : NothingIsBoth → (properties : Bool) (name : List ℕ) (before after : Disk) (cause : Refusal) → IsReadableAiger properties name before → AigerReadRefused properties name before after cause → IsFine (refusal_status cause)
aiger_read_fine not_both properties name before after (ReadAiger fault) needs why =
    let (short, g, spells, within) = there_in (SpellsWithin properties) name before.told why.bytes needs why.file in
    absurd (not_both.aiger properties why.bytes g fault spells within why.first)
aiger_read_fine not_both properties name before after other needs why = get_fine (SpellsWithin properties) (λ b h. h.0) name before after other needs why

luts_fine : (name : List ℕ) (before after : Disk) (cause : Refusal) → HasLuts name before → LutsRefused name before after cause → IsFine (refusal_status cause)
luts_fine name before after (ReadLuts fault) needs why = let (short, sizes, says) = there_in HasSizes name before.told why.bytes needs why.file in absurd (no_fault why.bytes sizes (line_of fault) says why.first)
  where
    no_fault : (bytes : List ℕ) (sizes : LutSizes) (line : ℕ) → sizes_in bytes ≡ Ok sizes → sizes_in bytes ≡ Err line → ⊥
    no_fault bytes sizes line is first = let both : ◌≡◌ {A = Result LutSizes ℕ} (Ok sizes) (Err line) = sym is ∙ first in cc
luts_fine name before after other needs why = get_fine HasSizes (λ b h. h.0) name before after other needs why

print_fine : (tells : Written → List ℕ → Type 0) (m : Option Written) (before after : Screen) (cause : Refusal) → IsSome m → PrintRefused tells m before after cause → IsFine (refusal_status cause)
print_fine tells m before after NoNetwork needs why = absurd (there_is_one m needs why.0)
print_fine tells m before after SinkFailed needs why = failed
print_fine tells m before after NoMemory needs why = no_memory
print_fine tells m before after other needs why = absurd why

write_fine : (m : Option Written) (name : List ℕ) (before after : Disk) (cause : Refusal) → IsSome m → WriteRefused m name before after cause → IsFine (refusal_status cause)
write_fine m name before after NoNetwork needs why = absurd (there_is_one m needs why.0)
write_fine m name before after PutFailed needs why = failed
write_fine m name before after NoMemory needs why = no_memory
write_fine m name before after other needs why = absurd why

-- not too many gates make the network a graph, and no latch has a type where types aren't left out
abbrev HasAiger : Bool → Option Written → Type 0
HasAiger bare m = IsSomeAnd m (λ net. (gates_in net ≤ most_gates) × (bare ≡ false → first_typed net.netlist.frame ≡ None))

there_is_an_aiger : (bare : Bool) (m : Option Written) → HasAiger bare m → IsSome m
there_is_an_aiger bare None needs = absurd needs
there_is_an_aiger bare (Some net) needs = refl

has_aiger : (bare : Bool) (m : Option Written) (cause : Refusal) → HasAiger bare m → IsSomeAnd m (λ net. AigerRefused bare net cause) → IsFine (refusal_status cause)
has_aiger bare None cause needs why = absurd needs
has_aiger bare (Some net) cause needs why = by cause why
  where
    none : (found : Option (List ℕ)) (latch : List ℕ) → found ≡ None → found ≡ Some latch → ⊥
    none found latch e h = let z : ◌≡◌ {A = Option (List ℕ)} None (Some latch) = sym e ∙ h in cc

    by : (c : Refusal) → AigerRefused bare net c → IsFine (refusal_status c)
    by (TooManyGates gates) why = let few = needs.0 in absurd (omega (arith, few, why.0, why.1))
    by (LatchType latch) why = absurd (none (first_typed net.netlist.frame) latch (needs.1 why.0) why.2)
    by NoMemory why = no_memory
    by other why = absurd why

aiger_write_fine : (bare : Bool) (m : Option Written) (name : List ℕ) (before after : Disk) (cause : Refusal) → HasAiger bare m → AigerWriteRefused bare m name before after cause → IsFine (refusal_status cause)
aiger_write_fine bare m name before after (TooManyGates gates) needs why = has_aiger bare m (TooManyGates gates) needs why.0
aiger_write_fine bare m name before after (LatchType latch) needs why = has_aiger bare m (LatchType latch) needs why.0
aiger_write_fine bare m name before after other needs why = write_fine m name before after other (there_is_an_aiger bare m needs) why

text_fine : (text : List ℕ) (before after : Screen) (cause : Refusal) → TextRefused text before after cause → IsFine (refusal_status cause)
text_fine text before after SinkFailed why = failed
text_fine text before after other why = absurd why

-- there is a network, of which not too many gates are made
abbrev HasFewGates : (Written → ℕ) → Option Written → Type 0
HasFewGates gates_of m = IsSomeAnd m (λ net. gates_of net ≤ most_gates)

there_is_a_graph : (gates_of : Written → ℕ) (m : Option Written) → HasFewGates gates_of m → m ≡ None → ⊥
there_is_a_graph gates_of None needs none = needs
there_is_a_graph gates_of (Some net) needs none = cc

not_too_many : (gates_of : Written → ℕ) (m : Option Written) (gates : ℕ) → HasFewGates gates_of m → MakingRefused gates_of m (TooManyGates gates) → ⊥
not_too_many gates_of None gates needs many = needs
not_too_many gates_of (Some net) gates needs many = absurd (omega (arith, needs, many.0, many.1))

making_fine : (gates_of : Written → ℕ) (m : Option Written) (cause : Refusal) → HasFewGates gates_of m → MakingRefused gates_of m cause → IsFine (refusal_status cause)
making_fine gates_of m NoNetwork needs why = absurd (there_is_a_graph gates_of m needs why)
making_fine gates_of m (TooManyGates gates) needs why = absurd (not_too_many gates_of m gates needs why)
making_fine gates_of m NoMemory needs why = no_memory
making_fine gates_of m other needs why = absurd why

generating_fine : (cause : Refusal) → GeneratingRefused cause → IsFine (refusal_status cause)
generating_fine NoMemory why = no_memory
generating_fine other why = absurd why

time_fine : (before after : Screen) (cause : Refusal) → TimeRefused before after cause → IsFine (refusal_status cause)
time_fine before after SinkFailed why = failed
time_fine before after NoMemory why = no_memory
time_fine before after other why = absurd why

-- comparisons

as_alone : (name : List ℕ) (cause : FileCause) → refusal_status (NotRead name cause) ≡ refusal_status (cause_in cause)
as_alone name (causes.Read fault) = refl
as_alone name (causes.ReadAiger fault) = refl
as_alone name causes.TooLong = refl
as_alone name causes.GetFailed = refl

file_fine : NothingIsBoth → (file : NetworkFile) (d d' : Disk) (name : List ℕ) (cause : FileCause) → HoldsNetwork file d → IsNotRead file d d' (NotRead name cause) → IsFine (refusal_status (NotRead name cause))
file_fine not_both (files.Blif f) d d' name cause needs why = subst IsFine (sym (as_alone name cause)) (read_fine not_both f d d' (cause_in cause) needs why.1)
file_fine not_both (files.Aiger f) d d' name cause needs why = subst IsFine (sym (as_alone name cause)) (aiger_read_fine not_both false f d d' (cause_in cause) needs why.1)

one_of_both : NothingIsBoth → (first : Option NetworkFile) (second : NetworkFile) (before : State) (d' : Disk) (name : List ℕ) (cause : FileCause) → HasFirst first before → HoldsNetwork second before.files
    → IsSomeAnd first (λ file. IsNotRead file before.files d' (NotRead name cause)) ⊎ IsNotRead second before.files d' (NotRead name cause) → IsFine (refusal_status (NotRead name cause))
one_of_both not_both None second before d' name cause one other (inl why) = absurd why
one_of_both not_both (Some file) second before d' name cause one other (inl why) = file_fine not_both file before.files d' name cause one why
one_of_both not_both first second before d' name cause one other (inr why) = file_fine not_both second before.files d' name cause other why

no_none : (first : Option NetworkFile) (before : State) → HasFirst first before → first ≡ None → IsSomeAnd before.network (λ net. gates_in net ≤ most_gates)
no_none None before one none = one
no_none (Some file) before one none = absurd (cc)

name_in_both : (a : Option (List ℕ)) (word : List ℕ) → a ≡ None → a ≡ Some word → ⊥
name_in_both a word none some = let z : ◌≡◌ {A = Option (List ℕ)} None (Some word) = sym none ∙ some in cc

never_unmatched : (f g : Frame) (fault : CompareFault) → AreMatched f g → IsFault f g fault → fault ≢ compare.NoMemory → ⊥
never_unmatched f g (compare.Input word) are is other = name_in_both _ word are.givens_are is
never_unmatched f g (compare.Output word) are is other = name_in_both _ word are.outputs_are is.1
never_unmatched f g (compare.Latch word) are is other = name_in_both _ word are.latches_are is.2
never_unmatched f g compare.NoMemory are is other = other refl

compare_fine : NothingIsBoth → (first : Option NetworkFile) (second : NetworkFile) (before : State) (d' : Disk) (s s' : Screen) (cause : Refusal) → IsComparable first second before
    → CompareRefused first second before.network before.files d' s s' cause → IsFine (refusal_status cause)
compare_fine not_both first second before d' s s' NoNetwork needs (none, gone, same) = absurd (there_is_a_graph gates_in before.network (no_none first before needs.first_is none) gone)
compare_fine not_both first second before d' s s' (TooManyGates gates) needs (none, many, same) = absurd (not_too_many gates_in before.network gates (no_none first before needs.first_is none) many)
compare_fine not_both first second before d' s s' (NotRead name cause) needs (why, same) = one_of_both not_both first second before d' name cause needs.first_is needs.second_is why
compare_fine not_both first second before d' s s' (Unmatched fault) needs (why, same) = absurd (never_unmatched why.n.frame why.m.frame fault (needs.match why.n why.m why.first_is why.second_is) why.fault_is why.name)
compare_fine not_both first second before d' s s' SinkFailed needs why = failed
compare_fine not_both first second before d' s s' NoMemory needs why = no_memory
compare_fine not_both first second before d' s s' other needs why = absurd why

denied_fine : NothingIsBoth → (c : Command) (before after : State) (cause : Refusal) → Needs c before → Denied c before cause after → IsFine (refusal_status cause)
denied_fine not_both (commands.Read name) before after cause needs (stays, why, stand, same) = read_fine not_both name before.files after.files cause needs why
denied_fine not_both (commands.ReadAiger properties name) before after cause needs (stays, why, stand, same) = aiger_read_fine not_both properties name before.files after.files cause needs why
denied_fine not_both (commands.ReadLuts name) before after cause needs (stays, why, stand, same) = luts_fine name before.files after.files cause needs why
denied_fine not_both (commands.Generate seed size) before after cause needs (stays, why, stand, same) = generating_fine cause why
denied_fine not_both commands.Stats before after cause needs (stays, why, same) = print_fine IsStatsLine before.network before.sink after.sink cause needs why
denied_fine not_both commands.Levels before after cause needs (stays, why, same) = print_fine IsLevelsText before.network before.sink after.sink cause needs why
denied_fine not_both commands.Time before after cause needs (stays, why, same) = time_fine before.sink after.sink cause why
denied_fine not_both (commands.Compare conflicts first second) before after cause needs (stays, why, stand) = compare_fine not_both first second before after.files before.sink after.sink cause needs why
denied_fine not_both (commands.Write name) before after cause needs (stays, why, same) = write_fine before.network name before.files after.files cause needs why
denied_fine not_both (commands.WriteAiger ascii bare name) before after cause needs (stays, why, same) = aiger_write_fine bare before.network name before.files after.files cause needs why
denied_fine not_both (commands.Print text) before after cause needs (stays, why, same) = text_fine text before.sink after.sink cause why
denied_fine not_both (commands.Source name) before after cause needs none = absurd none
denied_fine not_both commands.Quit before after cause needs none = absurd none
denied_fine not_both (commands.Make recipe) before after cause needs (stays, why, stand, same) =
    making_fine (gates_for (with_luts before.luts recipe)) before.network cause (subst (λ (gates_of : Written → ℕ). HasFewGates gates_of before.network) (sym (filled_gates before.luts recipe)) needs) why

abbrev OutcomeFine : Option Refused → Type 0
OutcomeFine outcome = IsFine (status_of (listed outcome))

outcome_as : (outcome other : Option Refused) → outcome ≡ other → OutcomeFine other → OutcomeFine outcome
outcome_as outcome other is fine = subst OutcomeFine (sym is) fine

commands_fine : NothingIsBoth → (cs : List Command) (before after : State) (outcome : Option Refused) (runs : RunsCommands cs before outcome after) → CommandsReady cs before outcome after runs → OutcomeFine outcome
commands_fine not_both [] before after outcome (none, same) ready = outcome_as outcome None none (inl refl)
commands_fine not_both (c ∷ cs) before after outcome (inl (between, step, more)) (needs, ready) = commands_fine not_both cs between after outcome more ready
commands_fine not_both (c ∷ cs) before after outcome (inr (cause, is, step)) needs = outcome_as outcome _ is (denied_fine not_both c before after cause needs step)

-- why there are no commands, where there may be some
outside_fine : (cause : LoadFault) → IsOutside cause → IsFine (refusal_status (cause_of cause))
outside_fine faults.GetFailed outside = failed
outside_fine faults.NoMemory outside = no_memory
outside_fine (faults.Script fault) outside = absurd outside
outside_fine (faults.File line word fault) outside = absurd outside
outside_fine faults.ScriptTooLong outside = absurd outside
outside_fine faults.FileTooLong outside = absurd outside
outside_fine faults.TooDeep outside = absurd outside

unread_fine : (source : Source) (files : Disk) (refusal : sources.Refused) → IsLoadable source files → LoadFails source files.told refusal → IsFine (refusal_status (cause_of refusal.cause))
unread_fine (InText text) files refusal (inl (told, commands, loads)) fails = outside_fine refusal.cause (script_accepted text files.told commands refusal told loads fails)
unread_fine (InText text) files refusal (inr (said, says, alone)) fails =
    subst (λ (c : LoadFault). IsFine (refusal_status (cause_of c))) (sym (script_alone text files.told said refusal says alone fails)) no_memory
unread_fine (InFile name) files refusal (inl (told, commands, loads)) fails = outside_fine refusal.cause (file_accepted name files.told commands refusal told loads fails)
unread_fine (InFile name) files refusal (inr none) fails = absurd none

script_fine : NothingIsBoth → (source : Source) (before after : State) (outcome : Option Refused) (runs : RunsScript source before outcome after) → ScriptReady source before outcome after runs → OutcomeFine outcome
script_fine not_both source before after outcome (inl (refusal, fails, unread)) ready = outcome_as outcome _ unread.told (unread_fine source before.files refusal ready fails)
script_fine not_both source before after outcome (inr (commands, start, loads, only, runs)) ready = commands_fine not_both commands start after outcome runs ready

-- the first status of more refusals behind those of a script
first_fine : (outcome : Option Refused) (more : List Refused) → OutcomeFine outcome → IsFine (status_of more) → IsFine (status_of (listed outcome ++ more))
first_fine None more here behind = behind
first_fine (Some refused) more here behind = here

long_at : (taken : ℕ) (line : Option (List ℕ)) → IfSome line (λ l. (length l ≤ text_limit) × (taken < most_lines)) → IsSomeAnd line (λ l. text_limit < length l) → ⊥
long_at taken None ready long = long
long_at taken (Some line) ready long = absurd (omega (arith, ready.0, long))

not_long : (taken : ℕ) (told : Option (List ℕ)) → IsSomeAnd told (λ left. IfSome (next_line left) (λ l. (length l ≤ text_limit) × (taken < most_lines)))
    → IfSome told (λ left. IsSomeAnd (next_line left) (λ l. text_limit < length l)) → ⊥
not_long taken None ready long = ready
not_long taken (Some left) ready long = long_at taken (next_line left) ready long

one_left : (taken : ℕ) (found : Option (List ℕ)) (line : List ℕ) → taken ≡ most_lines → IfSome found (λ l. (length l ≤ text_limit) × (taken < most_lines)) → Some line ≡ found → ⊥
one_left taken None line all ready is = absurd (cc)
one_left taken (Some l) line all ready is = absurd (omega (arith, ready.1, all))

not_many : (taken : ℕ) (told : Option (List ℕ)) (line : List ℕ) → taken ≡ most_lines → IsSomeAnd told (λ left. IfSome (next_line left) (λ l. (length l ≤ text_limit) × (taken < most_lines)))
    → IfSome told (λ left. Some line ≡ next_line left) → ⊥
not_many taken None line all ready is = ready
not_many taken (Some left) line all ready is = one_left taken (next_line left) line all ready is

line_fine : (taken : ℕ) (cause : Refusal) (i i' : Input) → LineReady taken i → LineRefused i i' cause → IsFine (refusal_status cause)
line_fine taken LineFailed i i' ready why = failed
line_fine taken LineTooLong i i' ready why = absurd (not_long taken i.told ready why.long)
line_fine taken NoMemory i i' ready why = no_memory
line_fine taken other i i' ready why = absurd why

further_fine : (taken : ℕ) (cause : Refusal) (i i' : Input) → LineReady taken i → NoFurther taken i i' cause → IsFine (refusal_status cause)
further_fine taken cause i i' ready (inl why) = line_fine taken cause i i' ready why
further_fine taken cause i i' ready (inr (is, many)) = absurd (not_many taken i.told many.line many.most ready many.gave.next)

lines_fine : NothingIsBoth → (lines : List (List ℕ)) (taken : ℕ) (before after : State) (refusals : List Refused) (i i' : Input) (runs : RunsLines lines taken before i refusals after i')
    → LinesReady lines taken before i refusals after i' runs → IsFine (status_of refusals)
lines_fine not_both [] taken before after refusals i i' (inl (gave, none, same)) ready = fine_as refusals [] none (inl refl)
lines_fine not_both [] taken before after refusals i i' (inr (cause, why, is, announced)) ready = fine_as refusals (nameless cause ∷ []) is (further_fine taken cause i i' ready why)
lines_fine not_both (line ∷ lines) taken before after refusals i i' (j, outcome, done, lt, gave, runs, inl (announced, more, on, stays, is, rest)) (here, behind) =
    fine_as refusals (listed outcome ++ more) is (first_fine outcome more (script_fine not_both (InText line) before done outcome runs here) (lines_fine not_both lines (taken + 1) announced after more j i' rest behind))
lines_fine not_both (line ∷ lines) taken before after refusals i i' (j, outcome, done, lt, gave, runs, inr (ends, is, none, same)) here =
    fine_as refusals (listed outcome) is (script_fine not_both (InText line) before done outcome runs here)

usage_fine : NothingIsBoth → (usage : Usage) (before after : State) (refusals : List Refused) (i i' : Input) (runs : RunsUsage usage before i refusals after i') → UsageReady usage before i refusals after i' runs → IsFine (status_of refusals)
usage_fine not_both (OneScript text) before after refusals i i' ((outcome, done, runs, is, ends), same) ready = fine_as refusals (listed outcome) is (script_fine not_both (InText text) before done outcome runs ready)
usage_fine not_both (OneFile name) before after refusals i i' ((outcome, done, runs, is, ends), same) ready = fine_as refusals (listed outcome) is (script_fine not_both (InFile name) before done outcome runs ready)
usage_fine not_both EachLine before after refusals i i' (lines, runs) ready = lines_fine not_both lines 0 before after refusals i i' runs ready
usage_fine not_both Faulty before after refusals i i' runs ready = absurd ready

words_fine : NothingIsBoth → (words : List (List ℕ)) (before after : State) (refusals : List Refused) (i i' : Input) (runs : RunsWords words before i refusals after i') → WordsReady words before i refusals after i' runs → IsFine (status_of refusals)
words_fine not_both words before after refusals i i' (inl runs) ready = usage_fine not_both (usage_of words) before after refusals i i' runs ready
words_fine not_both words before after refusals i i' (inr ((is, announced), same)) ready = fine_as refusals (nameless NoMemory ∷ []) is no_memory

pub ran_complete : NotBoth → aiger_laws.NotBoth → (words : List (List ℕ)) (d d' : Disk) (s s' : Screen) (i i' : Input) (status : ℕ) → IsComplete words d s i d' s' i' status
ran_complete blif aiger_law words d d' s s' i i' status ran ready stand =
    go (subst IsFine (sym ran.status_is) (words_fine (record { blif = blif; aiger = aiger_law }) words _ _ ran.refusals i i' ran.runs ready))
  where
    go : IsFine status → (status ≡ 0) ⊎ (status ≡ 8)
    go (inl none) = inl none
    go (inr (inl seven)) = absurd (stand (ran_seven words d d' s s' i i' status ran seven))
    go (inr (inr eight)) = inr eight
