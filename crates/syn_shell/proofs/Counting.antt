-- Refusals of the files, of the lines and of the sink, and their counts of faults.
use Rattle.std.proofs.Common.{◌≡◌, ◌⊎◌, ℕ, ◌+◌, ◌-◌, ◌^◌, ◌<◌, ◌≤◌, Bool, List, [], ◌∷◌, ◌++◌, refl, sym, ap, subst, arith, inl, inr, Option, None, Some, IsSomeAnd}
use Rattle.syn_io.specs.Outside.{Rose, Disk, Screen, Input}
use Rattle.syn_shell.specs.Networks.{Written}
use Rattle.syn_words.specs.declared.Command.{Command}
use Rattle.syn_words.specs.declared.Command.TheVariants as commands
use Rattle.syn_words.specs.declared.formats.NetworkFile.{NetworkFile}
use Rattle.syn_words.specs.declared.formats.NetworkFile.TheVariants as files
use Rattle.syn_shell.specs.declared.refusal.FileCause.TheVariants as causes
use Rattle.syn_shell.specs.declared.refusal.Refusal.{Refusal}
use Rattle.syn_shell.specs.declared.refusal.Refusal.TheVariants.{Words, Script, Read, ReadAiger, ReadLuts, NotRead, Unmatched, FileTooLong, LineTooLong, TooManyGates, LatchType, NoNetwork, GetFailed, PutFailed, LineFailed, SinkFailed, NoMemory}
use Rattle.syn_shell.specs.Outside.{State}
use Rattle.syn_shell.specs.Reads.{GetRefused, ReadRefused, AigerReadRefused, LutsRefused}
use Rattle.syn_shell.specs.Steps.{Accepted, Denied, gates_for, with_luts, GeneratingRefused, MakingRefused, PrintRefused, TextRefused, TimeRefused, WriteRefused, AigerWriteRefused}
use Rattle.syn_shell.specs.Comparing.{CompareRefused, IsNotRead}
use Rattle.syn_shell.specs.Lines.{IsLevelsText, IsStatsLine}
use Rattle.syn_shell.specs.Scripts.{Refused, InFile, InText, OnlyCounts, RunsCommands, RunsScript, SinkGaveUp, Announced, Source, cause_of, nameless}
use Rattle.syn_shell.specs.LineMode.{EndsBySink, EndsLines, GoesOn, LineRefused, NoFurther, RunsLines, listed}
use Rattle.syn_usage.specs.Usage.{Usage, OneScript, OneFile, EachLine, Faulty, usage_of}
use Rattle.syn_command_files.specs.declared.LoadFault.{LoadFault}
use Rattle.syn_command_files.specs.declared.LoadFault.TheVariants as faults
use Rattle.syn_command_files.specs.Sources.{CountsFailure}
use Rattle.syn_shell.specs.Runs.{RunsUsage, RunsWords}
use Rattle.syn_shell.specs.Counts.{Covers, FaultsCover, how_many, is_of_files, is_of_lines, is_of_sink}

-- counts that stand, that rose, and one after the other

covers_none : (a b : ℕ) → a ≤ b → Covers a b 0
covers_none a b le = record { later = le; each = λ lt. omega arith }

covers_same : (a b : ℕ) → b ≡ a → Covers a b 0
covers_same a b e = covers_none a b (omega (arith, e))

covers_one : (a b : ℕ) → a ≤ b → Rose a b → Covers a b 1
covers_one a b le rose = record { later = le; each = λ lt. omega (arith, rose) }

covers_both : (a b c n k : ℕ) → Covers a b n → Covers b c k → Covers a c (n + k)
covers_both a b c n k g h = record { later = omega (arith, g.later, h.later); each = λ lt. let inside : b < 2 ^ 64 - 1 = omega (arith, h.later) in omega (arith, g.each inside, h.each lt) }

covers_as : (a b n k : ℕ) → n ≡ k → Covers a b n → Covers a b k
covers_as a b n k e h = subst (Covers a b) e h

how_many_both : (p : Refusal → Bool) (xs ys : List Refused) → how_many p (xs ++ ys) ≡ how_many p xs + how_many p ys
how_many_both p [] ys = omega arith
how_many_both p (x ∷ xs) ys = omega (arith, how_many_both p xs ys)

-- what a part of a run counts: the files and the sink; it has no refusal of the lines
pub record Counted (refusals : List Refused) (d : Disk) (s : Screen) (d' : Disk) (s' : Screen) : Type 0 where
  pub files : Covers d.faults d'.faults (how_many is_of_files refusals)
  pub sink : Covers s.faults s'.faults (how_many is_of_sink refusals)
  pub lines : how_many is_of_lines refusals ≡ 0

disk_same : (d d' : Disk) → d' ≡ d → Covers d.faults d'.faults 0
disk_same d d' e = covers_same d.faults d'.faults (ap (λ (x : Disk). x.faults) e)

sink_same : (s s' : Screen) → s' ≡ s → Covers s.faults s'.faults 0
sink_same s s' e = covers_same s.faults s'.faults (ap (λ (x : Screen). x.faults) e)

-- by the cause of a refused command

get_counted : (file name : List ℕ) (cause : Refusal) (d d' : Disk) (s s' : Screen) → GetRefused file d d' cause → d.faults ≤ d'.faults → s' ≡ s → Counted (record { cause = cause; name = name } ∷ []) d s d' s'
get_counted file name GetFailed d d' s s' why le e = record { files = covers_one d.faults d'.faults le why; sink = sink_same s s' e; lines = refl }
get_counted file name FileTooLong d d' s s' why le e = record { files = covers_none d.faults d'.faults le; sink = sink_same s s' e; lines = refl }
get_counted file name NoMemory d d' s s' why le e = record { files = covers_none d.faults d'.faults le; sink = sink_same s s' e; lines = refl }
get_counted file name other d d' s s' why le e = absurd why

read_counted : (file name : List ℕ) (cause : Refusal) (d d' : Disk) (s s' : Screen) → ReadRefused file d d' cause → d.faults ≤ d'.faults → s' ≡ s → Counted (record { cause = cause; name = name } ∷ []) d s d' s'
read_counted file name (Read fault) d d' s s' why le e = record { files = covers_none d.faults d'.faults le; sink = sink_same s s' e; lines = refl }
read_counted file name other d d' s s' why le e = get_counted file name other d d' s s' why le e

aiger_read_counted : (properties : Bool) (file name : List ℕ) (cause : Refusal) (d d' : Disk) (s s' : Screen) → AigerReadRefused properties file d d' cause → d.faults ≤ d'.faults → s' ≡ s → Counted (record { cause = cause; name = name } ∷ []) d s d' s'
aiger_read_counted properties file name (ReadAiger fault) d d' s s' why le e = record { files = covers_none d.faults d'.faults le; sink = sink_same s s' e; lines = refl }
aiger_read_counted properties file name other d d' s s' why le e = get_counted file name other d d' s s' why le e

print_counted : (tells : Written → List ℕ → Type 0) (m : Option Written) (name : List ℕ) (cause : Refusal) (d d' : Disk) (s s' : Screen) → PrintRefused tells m s s' cause → d' ≡ d → Counted (record { cause = cause; name = name } ∷ []) d s d' s'
print_counted tells m name NoNetwork d d' s s' (none, same) e = record { files = disk_same d d' e; sink = sink_same s s' same; lines = refl }
print_counted tells m name SinkFailed d d' s s' (net, line, is, text, part) e = record { files = disk_same d d' e; sink = covers_one s.faults s'.faults part.later part.failed; lines = refl }
print_counted tells m name NoMemory d d' s s' same e = record { files = disk_same d d' e; sink = sink_same s s' same; lines = refl }
print_counted tells m name other d d' s s' why e = absurd why

write_counted : (m : Option Written) (file name : List ℕ) (cause : Refusal) (d d' : Disk) (s s' : Screen) → WriteRefused m file d d' cause → s' ≡ s → Counted (record { cause = cause; name = name } ∷ []) d s d' s'
write_counted m file name NoNetwork d d' s s' (none, same) e = record { files = disk_same d d' same; sink = sink_same s s' e; lines = refl }
write_counted m file name PutFailed d d' s s' (some, rose, others) e = record { files = covers_one d.faults d'.faults others.later rose; sink = sink_same s s' e; lines = refl }
write_counted m file name NoMemory d d' s s' others e = record { files = covers_none d.faults d'.faults others.later; sink = sink_same s s' e; lines = refl }
write_counted m file name other d d' s s' why e = absurd why

aiger_write_counted : (bare : Bool) (m : Option Written) (file name : List ℕ) (cause : Refusal) (d d' : Disk) (s s' : Screen) → AigerWriteRefused bare m file d d' cause → s' ≡ s → Counted (record { cause = cause; name = name } ∷ []) d s d' s'
aiger_write_counted bare m file name (TooManyGates gates) d d' s s' why e = record { files = disk_same d d' why.1; sink = sink_same s s' e; lines = refl }
aiger_write_counted bare m file name (LatchType latch) d d' s s' why e = record { files = disk_same d d' why.1; sink = sink_same s s' e; lines = refl }
aiger_write_counted bare m file name other d d' s s' why e = write_counted m file name other d d' s s' why e

luts_counted : (file name : List ℕ) (cause : Refusal) (d d' : Disk) (s s' : Screen) → LutsRefused file d d' cause → d.faults ≤ d'.faults → s' ≡ s → Counted (record { cause = cause; name = name } ∷ []) d s d' s'
luts_counted file name (ReadLuts fault) d d' s s' why le e = record { files = covers_none d.faults d'.faults le; sink = sink_same s s' e; lines = refl }
luts_counted file name other d d' s s' why le e = get_counted file name other d d' s s' why le e

text_counted : (text name : List ℕ) (cause : Refusal) (d d' : Disk) (s s' : Screen) → TextRefused text s s' cause → d' ≡ d → Counted (record { cause = cause; name = name } ∷ []) d s d' s'
text_counted text name SinkFailed d d' s s' part e = record { files = disk_same d d' e; sink = covers_one s.faults s'.faults part.later part.failed; lines = refl }
text_counted text name other d d' s s' why e = absurd why

making_counted : (gates_of : Written → ℕ) (m : Option Written) (name : List ℕ) (cause : Refusal) (d d' : Disk) (s s' : Screen) → MakingRefused gates_of m cause → d' ≡ d → s' ≡ s → Counted (record { cause = cause; name = name } ∷ []) d s d' s'
making_counted gates_of m name NoNetwork d d' s s' why e f = record { files = disk_same d d' e; sink = sink_same s s' f; lines = refl }
making_counted gates_of m name (TooManyGates gates) d d' s s' why e f = record { files = disk_same d d' e; sink = sink_same s s' f; lines = refl }
making_counted gates_of m name NoMemory d d' s s' why e f = record { files = disk_same d d' e; sink = sink_same s s' f; lines = refl }
making_counted gates_of m name other d d' s s' why e f = absurd why

generating_counted : (name : List ℕ) (cause : Refusal) (d d' : Disk) (s s' : Screen) → GeneratingRefused cause → d' ≡ d → s' ≡ s → Counted (record { cause = cause; name = name } ∷ []) d s d' s'
generating_counted name NoMemory d d' s s' why e f = record { files = disk_same d d' e; sink = sink_same s s' f; lines = refl }
generating_counted name other d d' s s' why e f = absurd why

time_counted : (name : List ℕ) (cause : Refusal) (d d' : Disk) (s s' : Screen) → TimeRefused s s' cause → d' ≡ d → Counted (record { cause = cause; name = name } ∷ []) d s d' s'
time_counted name SinkFailed d d' s s' (hundredths, part) e = record { files = disk_same d d' e; sink = covers_one s.faults s'.faults part.later part.failed; lines = refl }
time_counted name NoMemory d d' s s' same e = record { files = disk_same d d' e; sink = sink_same s s' same; lines = refl }
time_counted name other d d' s s' why e = absurd why

-- a file that isn't read to be compared: it could not be read, or nothing failed

rose_when_read : (file : NetworkFile) (d d' : Disk) (told : List ℕ) → IsNotRead file d d' (NotRead told causes.GetFailed) → Rose d.faults d'.faults
rose_when_read (files.Blif f) d d' told why = why.1
rose_when_read (files.Aiger f) d d' told why = why.1

rose_by_either : (first : Option NetworkFile) (second : NetworkFile) (d d' : Disk) (told : List ℕ)
    → IsSomeAnd first (λ file. IsNotRead file d d' (NotRead told causes.GetFailed)) ⊎ IsNotRead second d d' (NotRead told causes.GetFailed) → Rose d.faults d'.faults
rose_by_either None second d d' told (inl why) = absurd why
rose_by_either (Some file) second d d' told (inl why) = rose_when_read file d d' told why
rose_by_either first second d d' told (inr why) = rose_when_read second d d' told why

compare_counted : (first : Option NetworkFile) (second : NetworkFile) (m : Option Written) (name : List ℕ) (cause : Refusal) (d d' : Disk) (s s' : Screen) → CompareRefused first second m d d' s s' cause → d.faults ≤ d'.faults
    → Counted (record { cause = cause; name = name } ∷ []) d s d' s'
compare_counted first second m name NoNetwork d d' s s' (none, gone, same) le = record { files = covers_none d.faults d'.faults le; sink = sink_same s s' same; lines = refl }
compare_counted first second m name (TooManyGates gates) d d' s s' (none, many, same) le = record { files = covers_none d.faults d'.faults le; sink = sink_same s s' same; lines = refl }
compare_counted first second m name (NotRead told causes.GetFailed) d d' s s' (why, same) le = record { files = covers_one d.faults d'.faults le (rose_by_either first second d d' told why); sink = sink_same s s' same; lines = refl }
compare_counted first second m name (NotRead told (causes.Read fault)) d d' s s' (why, same) le = record { files = covers_none d.faults d'.faults le; sink = sink_same s s' same; lines = refl }
compare_counted first second m name (NotRead told (causes.ReadAiger fault)) d d' s s' (why, same) le = record { files = covers_none d.faults d'.faults le; sink = sink_same s s' same; lines = refl }
compare_counted first second m name (NotRead told causes.TooLong) d d' s s' (why, same) le = record { files = covers_none d.faults d'.faults le; sink = sink_same s s' same; lines = refl }
compare_counted first second m name (Unmatched fault) d d' s s' (why, same) le = record { files = covers_none d.faults d'.faults le; sink = sink_same s s' same; lines = refl }
compare_counted first second m name SinkFailed d d' s s' why le = record { files = covers_none d.faults d'.faults le; sink = covers_one s.faults s'.faults why.took.later why.took.failed; lines = refl }
compare_counted first second m name NoMemory d d' s s' same le = record { files = covers_none d.faults d'.faults le; sink = sink_same s s' same; lines = refl }
compare_counted first second m name other d d' s s' why le = absurd why

-- a command that is refused, and one that is accepted

refused_counted : (c : Command) (name : List ℕ) (cause : Refusal) (before after : State) → Denied c before cause after → Counted (record { cause = cause; name = name } ∷ []) before.files before.sink after.files after.sink
refused_counted (commands.Read file) name cause before after (stays, why, stand, e) = read_counted file name cause before.files after.files before.sink after.sink why stand.later e
refused_counted (commands.ReadAiger properties file) name cause before after (stays, why, stand, e) = aiger_read_counted properties file name cause before.files after.files before.sink after.sink why stand.later e
refused_counted (commands.ReadLuts file) name cause before after (stays, why, stand, e) = luts_counted file name cause before.files after.files before.sink after.sink why stand.later e
refused_counted (commands.Generate seed size) name cause before after (stays, why, e, f) = generating_counted name cause before.files after.files before.sink after.sink why e f
refused_counted commands.Stats name cause before after (stays, why, e) = print_counted IsStatsLine before.network name cause before.files after.files before.sink after.sink why e
refused_counted commands.Levels name cause before after (stays, why, e) = print_counted IsLevelsText before.network name cause before.files after.files before.sink after.sink why e
refused_counted commands.Time name cause before after (stays, why, e) = time_counted name cause before.files after.files before.sink after.sink why e
refused_counted (commands.Compare conflicts first second) name cause before after (stays, why, stand) = compare_counted first second before.network name cause before.files after.files before.sink after.sink why stand.later
refused_counted (commands.Write file) name cause before after (stays, why, e) = write_counted before.network file name cause before.files after.files before.sink after.sink why e
refused_counted (commands.WriteAiger ascii bare file) name cause before after (stays, why, e) = aiger_write_counted bare before.network file name cause before.files after.files before.sink after.sink why e
refused_counted (commands.Print text) name cause before after (stays, why, e) = text_counted text name cause before.files after.files before.sink after.sink why e
refused_counted (commands.Source file) name cause before after none = absurd none
refused_counted commands.Quit name cause before after none = absurd none
refused_counted (commands.Make recipe) name cause before after (stays, why, e, f) = making_counted (gates_for (with_luts before.luts recipe)) before.network name cause before.files after.files before.sink after.sink why e f

stands_counted : (before after : State) → after ≡ before → Counted [] before.files before.sink after.files after.sink
stands_counted before after e = record { files = disk_same before.files after.files (ap (λ (x : State). x.files) e); sink = sink_same before.sink after.sink (ap (λ (x : State). x.sink) e); lines = refl }

accepted_counted : (c : Command) (before after : State) → Accepted c before after → Counted [] before.files before.sink after.files after.sink
accepted_counted (commands.Read file) before after (net, is, read, stand, e) = record { files = covers_none before.files.faults after.files.faults stand.later; sink = sink_same before.sink after.sink e; lines = refl }
accepted_counted (commands.ReadAiger properties file) before after (net, is, read, stand, e) = record { files = covers_none before.files.faults after.files.faults stand.later; sink = sink_same before.sink after.sink e; lines = refl }
accepted_counted (commands.ReadLuts file) before after (same, luts, stand, e) = record { files = covers_none before.files.faults after.files.faults stand.later; sink = sink_same before.sink after.sink e; lines = refl }
accepted_counted (commands.Generate seed size) before after (net, is, graph, e, f) = record { files = disk_same before.files after.files e; sink = sink_same before.sink after.sink f; lines = refl }
accepted_counted commands.Stats before after (net, line, some, stays, e, text, took) = record { files = disk_same before.files after.files e; sink = covers_none before.sink.faults after.sink.faults took.later; lines = refl }
accepted_counted commands.Levels before after (net, text, some, stays, e, tells, took) = record { files = disk_same before.files after.files e; sink = covers_none before.sink.faults after.sink.faults took.later; lines = refl }
accepted_counted commands.Time before after (hundredths, stays, e, took) = record { files = disk_same before.files after.files e; sink = covers_none before.sink.faults after.sink.faults took.later; lines = refl }
accepted_counted (commands.Compare conflicts first second) before after (stays, stand, put) = record { files = covers_none before.files.faults after.files.faults stand.later; sink = covers_none before.sink.faults after.sink.faults put.took.later; lines = refl }
accepted_counted (commands.Write file) before after (net, some, stays, bytes, reads, others, e) = record { files = covers_none before.files.faults after.files.faults others.later; sink = sink_same before.sink after.sink e; lines = refl }
accepted_counted (commands.WriteAiger ascii bare file) before after (net, bytes, some, stays, there, are, others, e) = record { files = covers_none before.files.faults after.files.faults others.later; sink = sink_same before.sink after.sink e; lines = refl }
accepted_counted (commands.Print text) before after (stays, e, took) = record { files = disk_same before.files after.files e; sink = covers_none before.sink.faults after.sink.faults took.later; lines = refl }
accepted_counted (commands.Source file) before after same = stands_counted before after same
accepted_counted commands.Quit before after same = stands_counted before after same
accepted_counted (commands.Make recipe) before after (made, stays, e, f) = record { files = disk_same before.files after.files e; sink = sink_same before.sink after.sink f; lines = refl }

-- parts one after the other

counted_both : (xs ys : List Refused) (d e d' : Disk) (s t s' : Screen) → Counted xs d s e t → Counted ys e t d' s' → Counted (xs ++ ys) d s d' s'
counted_both xs ys d e d' s t s' g h = record {
  files = covers_as d.faults d'.faults _ _ (sym (how_many_both is_of_files xs ys)) (covers_both d.faults e.faults d'.faults _ _ g.files h.files);
  sink = covers_as s.faults s'.faults _ _ (sym (how_many_both is_of_sink xs ys)) (covers_both s.faults t.faults s'.faults _ _ g.sink h.sink);
  lines = omega (arith, how_many_both is_of_lines xs ys, g.lines, h.lines);
}

abbrev CountedIn : List Refused → State → State → Type 0
CountedIn refusals before after = Counted refusals before.files before.sink after.files after.sink

commands_counted : (cs : List Command) (before after : State) (outcome : Option Refused) → RunsCommands cs before outcome after → CountedIn (listed outcome) before after
commands_counted [] before after outcome (none, same) = subst (λ (o : Option Refused). CountedIn (listed o) before after) (sym none) (stands_counted before after same)
commands_counted (c ∷ cs) before after outcome (inl (between, step, more)) =
    counted_both [] (listed outcome) before.files between.files after.files before.sink between.sink after.sink
    (accepted_counted c before between step) (commands_counted cs between after outcome more)
commands_counted (c ∷ cs) before after outcome (inr (cause, is, step)) =
    subst (λ (o : Option Refused). CountedIn (listed o) before after) (sym is) (refused_counted c _ cause before after step)

-- a refusal that is neither of the files nor of the sink nor of the lines
nothing_counted : (refused : Refused) (before after : State) → how_many is_of_files (refused ∷ []) ≡ 0 → how_many is_of_sink (refused ∷ []) ≡ 0 → how_many is_of_lines (refused ∷ []) ≡ 0 → CountedIn [] before after → CountedIn (refused ∷ []) before after
nothing_counted refused before after f s l h = record {
  files = covers_as before.files.faults after.files.faults 0 _ (sym f) h.files;
  sink = covers_as before.sink.faults after.sink.faults 0 _ (sym s) h.sink;
  lines = l;
}

-- why there are no commands
load_counted : (cause : LoadFault) (name : List ℕ) (d d' : Disk) (s s' : Screen) → CountsFailure cause d d' → d.faults ≤ d'.faults → s' ≡ s → Counted (record { cause = cause_of cause; name = name } ∷ []) d s d' s'
load_counted (faults.Script fault) name d d' s s' counted le e = record { files = covers_none d.faults d'.faults le; sink = sink_same s s' e; lines = refl }
load_counted (faults.File line word fault) name d d' s s' counted le e = record { files = covers_none d.faults d'.faults le; sink = sink_same s s' e; lines = refl }
load_counted faults.ScriptTooLong name d d' s s' counted le e = record { files = covers_none d.faults d'.faults le; sink = sink_same s s' e; lines = refl }
load_counted faults.FileTooLong name d d' s s' counted le e = record { files = covers_none d.faults d'.faults le; sink = sink_same s s' e; lines = refl }
load_counted faults.TooDeep name d d' s s' counted le e = record { files = covers_none d.faults d'.faults le; sink = sink_same s s' e; lines = refl }
load_counted faults.GetFailed name d d' s s' rose le e = record { files = covers_one d.faults d'.faults le rose; sink = sink_same s s' e; lines = refl }
load_counted faults.NoMemory name d d' s s' counted le e = record { files = covers_none d.faults d'.faults le; sink = sink_same s s' e; lines = refl }

only_counted : (before after : State) → OnlyCounts before after → CountedIn [] before after
only_counted before after only = record { files = covers_none before.files.faults after.files.faults only.files.later; sink = sink_same before.sink after.sink only.sink; lines = refl }

script_counted : (source : Source) (before after : State) (outcome : Option Refused) → RunsScript source before outcome after → CountedIn (listed outcome) before after
script_counted source before after outcome (inl (refusal, fails, unread)) =
    subst (λ (o : Option Refused). CountedIn (listed o) before after) (sym unread.told)
    (load_counted refusal.cause refusal.name before.files after.files before.sink after.sink unread.counted unread.only.files.later unread.only.sink)
script_counted source before after outcome (inr (cs, start, loads, only, runs)) =
    counted_both [] (listed outcome) before.files start.files after.files before.sink start.sink after.sink (only_counted before start only) (commands_counted cs start after outcome runs)

announced_counted : (refused : Refused) (before after : State) → Announced refused before after → CountedIn [] before after
announced_counted refused before after h = record { files = disk_same before.files after.files h.only.files; sink = covers_none before.sink.faults after.sink.faults h.line.later; lines = refl }

gave_up_counted : (refused : Refused) (before after : State) → SinkGaveUp refused before after → CountedIn [] before after
gave_up_counted refused before after h = record {
  files = disk_same before.files after.files h.only.files;
  sink = elim (h.failed) [ inl same ↦ sink_same before.sink after.sink same.1 | inr part ↦ covers_none before.sink.faults after.sink.faults part.1.later ];
  lines = refl;
}

telling_counted : (refused : Refused) (before after : State) → Announced refused before after ⊎ SinkGaveUp refused before after → CountedIn [] before after
telling_counted refused before after (inl told) = announced_counted refused before after told
telling_counted refused before after (inr gave_up) = gave_up_counted refused before after gave_up

goes_on_counted : (outcome : Option Refused) (before after : State) → GoesOn outcome before after → CountedIn [] before after
goes_on_counted None before after e = stands_counted before after e
goes_on_counted (Some refused) before after told = announced_counted refused before after told

ends_counted : (outcome : Option Refused) (before after : State) → EndsBySink outcome before after → CountedIn [] before after
ends_counted None before after h = absurd h
ends_counted (Some refused) before after gave_up = gave_up_counted refused before after gave_up

ends_lines_counted : (line : List ℕ) (before : State) (outcome : Option Refused) (done after : State) (runs : RunsScript (InText line) before outcome done) → EndsLines (InText line) before outcome done after runs → CountedIn [] done after
ends_lines_counted line before outcome done after runs (inl ends) = ends_counted outcome done after ends
ends_lines_counted line before outcome done after runs (inr (quits, same)) = stands_counted done after same

-- a refusal counted, and then its line told
counted_then_none : (xs : List Refused) (before between after : State) → CountedIn xs before between → CountedIn [] between after → CountedIn xs before after
counted_then_none xs before between after g h = record {
  files = covers_as before.files.faults after.files.faults _ _ (omega arith) (covers_both before.files.faults between.files.faults after.files.faults (how_many is_of_files xs) 0 g.files h.files);
  sink = covers_as before.sink.faults after.sink.faults _ _ (omega arith) (covers_both before.sink.faults between.sink.faults after.sink.faults (how_many is_of_sink xs) 0 g.sink h.sink);
  lines = g.lines;
}

abbrev CoverIn : List Refused → State → Input → State → Input → Type 0
CoverIn refusals before i after i' = FaultsCover refusals before.files before.sink i after.files after.sink i'

-- a part without lines, and the lines beside it
beside : (xs : List Refused) (before after : State) (i i' : Input) → CountedIn xs before after → i.faults ≤ i'.faults → CoverIn xs before i after i'
beside xs before after i i' h le = record { files = h.files; sink = h.sink; lines = covers_as i.faults i'.faults 0 _ (sym h.lines) (covers_none i.faults i'.faults le) }

cover_both : (xs ys : List Refused) (before between after : State) (i j i' : Input) → CoverIn xs before i between j → CoverIn ys between j after i' → CoverIn (xs ++ ys) before i after i'
cover_both xs ys before between after i j i' g h = record {
  files = covers_as before.files.faults after.files.faults _ _ (sym (how_many_both is_of_files xs ys)) (covers_both before.files.faults between.files.faults after.files.faults _ _ g.files h.files);
  sink = covers_as before.sink.faults after.sink.faults _ _ (sym (how_many_both is_of_sink xs ys)) (covers_both before.sink.faults between.sink.faults after.sink.faults _ _ g.sink h.sink);
  lines = covers_as i.faults i'.faults _ _ (sym (how_many_both is_of_lines xs ys)) (covers_both i.faults j.faults i'.faults _ _ g.lines h.lines);
}

-- why no further line is run

pub record OfLines (cause : Refusal) (i i' : Input) : Type 0 where
  pub files : how_many is_of_files (nameless cause ∷ []) ≡ 0
  pub sink : how_many is_of_sink (nameless cause ∷ []) ≡ 0
  pub lines : Covers i.faults i'.faults (how_many is_of_lines (nameless cause ∷ []))

line_counted : (cause : Refusal) (i i' : Input) → LineRefused i i' cause → OfLines cause i i'
line_counted LineFailed i i' (rose, le) = record { files = refl; sink = refl; lines = covers_one i.faults i'.faults le rose }
line_counted LineTooLong i i' why = record { files = refl; sink = refl; lines = covers_none i.faults i'.faults why.later }
line_counted NoMemory i i' why = record { files = refl; sink = refl; lines = covers_none i.faults i'.faults why }
line_counted other i i' why = absurd why

further_counted : (taken : ℕ) (cause : Refusal) (i i' : Input) → NoFurther taken i i' cause → OfLines cause i i'
further_counted taken cause i i' (inl why) = line_counted cause i i' why
further_counted taken cause i i' (inr (is, many)) = subst (λ (x : Refusal). OfLines x i i') (sym is) (record { files = refl; sink = refl; lines = covers_none i.faults i'.faults many.gave.later })

refused_line_counted : (cause : Refusal) (before after : State) (i i' : Input) → OfLines cause i i' → CountedIn [] before after → CoverIn (nameless cause ∷ []) before i after i'
refused_line_counted cause before after i i' why h = record {
  files = covers_as before.files.faults after.files.faults 0 _ (sym why.files) h.files;
  sink = covers_as before.sink.faults after.sink.faults 0 _ (sym why.sink) h.sink;
  lines = why.lines;
}

-- the lines

lines_counted : (lines : List (List ℕ)) (taken : ℕ) (before after : State) (refusals : List Refused) (i i' : Input) → RunsLines lines taken before i refusals after i' → CoverIn refusals before i after i'
lines_counted [] taken before after refusals i i' (inl (gave, none, same)) = subst (λ (rs : List Refused). CoverIn rs before i after i') (sym none) (beside [] before after i i' (stands_counted before after same) gave.later)
lines_counted [] taken before after refusals i i' (inr (cause, why, is, telling)) =
    subst (λ (rs : List Refused). CoverIn rs before i after i') (sym is) (refused_line_counted cause before after i i' (further_counted taken cause i i' why) (telling_counted (nameless cause) before after telling))
lines_counted (line ∷ lines) taken before after refusals i i' (j, outcome, done, lt, gave, runs, inl (told, more, on, stays, is, rest)) =
    subst (λ (rs : List Refused). CoverIn rs before i after i') (sym is)
    (cover_both (listed outcome) more before told after i j i'
    (beside (listed outcome) before told i j (counted_then_none (listed outcome) before done told (script_counted (InText line) before done outcome runs) (goes_on_counted outcome done told on)) gave.later)
    (lines_counted lines (taken + 1) told after more j i' rest))
lines_counted (line ∷ lines) taken before after refusals i i' (j, outcome, done, lt, gave, runs, inr (ends, is, none, same)) =
    subst (λ (rs : List Refused). CoverIn rs before i after i') (sym is)
    (beside (listed outcome) before after i i' (counted_then_none (listed outcome) before done after (script_counted (InText line) before done outcome runs) (ends_lines_counted line before outcome done after runs ends))
    (omega (arith, gave.later, ap (λ (x : Input). x.faults) same)))

-- a whole run

same_input : (i i' : Input) → i' ≡ i → i.faults ≤ i'.faults
same_input i i' e = omega (arith, ap (λ (x : Input). x.faults) e)

ends_one : (outcome : Option Refused) (done after : State) → GoesOn outcome done after ⊎ EndsBySink outcome done after → CountedIn [] done after
ends_one outcome done after (inl on) = goes_on_counted outcome done after on
ends_one outcome done after (inr ends) = ends_counted outcome done after ends

usage_counted : (usage : Usage) (before after : State) (refusals : List Refused) (i i' : Input) → RunsUsage usage before i refusals after i' → CoverIn refusals before i after i'
usage_counted (OneScript text) before after refusals i i' ((outcome, done, runs, is, ends), same) =
    subst (λ (rs : List Refused). CoverIn rs before i after i') (sym is)
    (beside (listed outcome) before after i i' (counted_then_none (listed outcome) before done after (script_counted (InText text) before done outcome runs) (ends_one outcome done after ends)) (same_input i i' same))
usage_counted (OneFile name) before after refusals i i' ((outcome, done, runs, is, ends), same) =
    subst (λ (rs : List Refused). CoverIn rs before i after i') (sym is)
    (beside (listed outcome) before after i i' (counted_then_none (listed outcome) before done after (script_counted (InFile name) before done outcome runs) (ends_one outcome done after ends)) (same_input i i' same))
usage_counted EachLine before after refusals i i' (lines, runs) = lines_counted lines 0 before after refusals i i' runs
usage_counted Faulty before after refusals i i' ((is, telling), same) =
    subst (λ (rs : List Refused). CoverIn rs before i after i') (sym is)
    (beside (nameless Words ∷ []) before after i i' (nothing_counted (nameless Words) before after refl refl refl (telling_counted (nameless Words) before after telling)) (same_input i i' same))

pub words_counted : (words : List (List ℕ)) (before after : State) (refusals : List Refused) (i i' : Input) → RunsWords words before i refusals after i' → FaultsCover refusals before.files before.sink i after.files after.sink i'
words_counted words before after refusals i i' (inl runs) = usage_counted (usage_of words) before after refusals i i' runs
words_counted words before after refusals i i' (inr ((is, telling), same)) =
    subst (λ (rs : List Refused). CoverIn rs before i after i') (sym is)
    (beside (nameless NoMemory ∷ []) before after i i' (nothing_counted (nameless NoMemory) before after refl refl refl (telling_counted (nameless NoMemory) before after telling)) (same_input i i' same))
