-- Lines one after the other, and the status that is kept.
use Rattle.std.proofs.Common.{◌≡◌, ℕ, ◌+◌, ◌<◌, nat_eq, false, List, [], ◌∷◌, ◌++◌, refl, sym, ap, ◌∙◌, subst, inl, inr, Option, None, Some}
use Rattle.std.proofs.lemmas.Bool.{cases_Bool, cond-true, cond-false}
use Rattle.syn_reader.specs.declared.ReadFault.{ReadFault}
use Rattle.syn_reader.specs.declared.ReadFault.TheVariants as file
use Rattle.syn_aiger_files.specs.declared.fault.AigFault.{AigFault}
use Rattle.syn_aiger_files.specs.declared.fault.AigFault.TheVariants as aiger
use Rattle.syn_shell.specs.declared.refusal.FileCause.{FileCause}
use Rattle.syn_shell.specs.declared.refusal.FileCause.TheVariants as causes
use Rattle.syn_shell.specs.declared.refusal.Refusal.{Refusal}
use Rattle.syn_shell.specs.declared.refusal.Refusal.TheVariants.{Words, Script, CommandFile, Read, ReadAiger, ReadLuts, NotRead, Unmatched, FileTooLong, LineTooLong, CommandFileTooLong, TooDeep, TooManyLines, TooManyGates, LatchType, NoNetwork, GetFailed, PutFailed, LineFailed, SinkFailed, NoMemory}
use Rattle.syn_shell.specs.declared.refusal_lines.Reported.{Reported}
use Rattle.syn_shell.specs.declared.refusal_lines.Reported.TheVariants.{Whole, Cut}
use Rattle.syn_shell.specs.declared.line_mode.Turn.{Turn}
use Rattle.syn_shell.specs.declared.line_mode.Turn.TheVariants as turn
use Rattle.syn_io.specs.Outside.{Disk, Screen, Input}
use Rattle.syn_shell.specs.Outside.{Kept, State, nothing_yet, state, GaveLine, GaveNone}
use Rattle.syn_shell.specs.Lines.{aiger_status, not_read_status, read_status, refusal_status}
use Rattle.syn_shell.specs.Scripts.{InText, Source, Refused, nameless, RunsScript}
use Rattle.syn_shell.specs.declared.scripts.Ending.{Ending}
use Rattle.syn_shell.specs.declared.scripts.Ending.TheVariants.{Quit, Stops, Through}
use Rattle.syn_shell.specs.LineMode.{StaysOn, GoesOn, LineRefused, NoFurther, RunsLines, listed, most_lines}
use Rattle.syn_shell.specs.Runs.{status_of}
use Rattle.syn_shell.specs.Stopping.{first_status, status_in, Leaves, RanLines, AnnouncesAs, Turned, turn_of}
use Rattle.syn_shell.proofs.Hearing.{nothing_run, nothing_status}

-- no refusal has the status of an accepted run

read_refused : (fault : ReadFault) → nat_eq (read_status fault) 0 ≡ false
read_refused (file.TooManyWords count) = refl
read_refused (file.TooManySources count) = refl
read_refused (file.TooLarge cost) = refl
read_refused file.NoMemory = refl
read_refused other = refl

aiger_refused : (fault : AigFault) → nat_eq (aiger_status fault) 0 ≡ false
aiger_refused (aiger.TooManySources count) = refl
aiger_refused (aiger.TooManyGates count) = refl
aiger_refused aiger.NoMemory = refl
aiger_refused other = refl

not_read_refused : (cause : FileCause) → nat_eq (not_read_status cause) 0 ≡ false
not_read_refused (causes.Read fault) = read_refused fault
not_read_refused (causes.ReadAiger fault) = aiger_refused fault
not_read_refused causes.TooLong = refl
not_read_refused causes.GetFailed = refl

pub is_refused : (cause : Refusal) → nat_eq (refusal_status cause) 0 ≡ false
is_refused Words = refl
is_refused (Script fault) = refl
is_refused (CommandFile line word fault) = refl
is_refused (Read fault) = read_refused fault
is_refused (ReadAiger fault) = aiger_refused fault
is_refused (ReadLuts fault) = refl
is_refused (NotRead name cause) = not_read_refused cause
is_refused (Unmatched fault) = refl
is_refused FileTooLong = refl
is_refused LineTooLong = refl
is_refused CommandFileTooLong = refl
is_refused TooDeep = refl
is_refused TooManyLines = refl
is_refused (TooManyGates gates) = refl
is_refused (LatchType latch) = refl
is_refused NoNetwork = refl
is_refused GetFailed = refl
is_refused PutFailed = refl
is_refused LineFailed = refl
is_refused SinkFailed = refl
is_refused NoMemory = refl

-- the first status of a script's refusals and of more is that of all of them
first_of_all : (outcome : Option Refused) (more : List Refused) → first_status (status_of (listed outcome)) (status_of more) ≡ status_of (listed outcome ++ more)
first_of_all None more = refl
first_of_all (Some refused) more = cond-false (nat_eq (refusal_status refused.cause) 0) (status_of more) (refusal_status refused.cause) (is_refused refused.cause)

-- of three statuses the first is kept, however they are grouped
pub first_of_three : (a b c : ℕ) → first_status (first_status a b) c ≡ first_status a (first_status b c)
first_of_three a b c = elim (cases_Bool (nat_eq a 0)) [
  | inl h ↦ ap (λ (x : ℕ). first_status x c) (cond-true (nat_eq a 0) b a h) ∙ sym (cond-true (nat_eq a 0) (first_status b c) a h)
  | inr h ↦ ap (λ (x : ℕ). first_status x c) (cond-false (nat_eq a 0) b a h) ∙ cond-false (nat_eq a 0) c a h ∙ sym (cond-false (nat_eq a 0) (first_status b c) a h)
]

-- a line that was run stands before those that are run behind it
pub one_more : (line : List ℕ) (lines : List (List ℕ)) (taken : ℕ) (before done told after : State) (i j i' : Input) (outcome : Option Refused) (more : List Refused) → taken < most_lines
    → GaveLine line i j → (runs : RunsScript (InText line) before outcome done) → GoesOn outcome done told → StaysOn (InText line) before outcome done runs → RunsLines lines (taken + 1) told j more after i' → RunsLines (line ∷ lines) taken before i (listed outcome ++ more) after i'
one_more line lines taken before done told after i j i' outcome more lt gave runs on stays rest = (j, outcome, done, lt, gave, runs, inl (told, more, on, stays, refl, rest))

-- what is run behind a turn that goes on is run from before it
pub turn_on : (taken status next kept : ℕ) (line : List ℕ) (outcome : Option Refused) (before done told after : State) (i j i' : Input) (lines : List (List ℕ)) (more : List Refused) → taken < most_lines
    → GaveLine line i j → (runs : RunsScript (InText line) before outcome done) → GoesOn outcome done told → StaysOn (InText line) before outcome done runs → next ≡ status_of (listed outcome) → kept ≡ first_status status next
    → RunsLines lines (taken + 1) told j more after i'
    → (all : List Refused) × RunsLines (line ∷ lines) taken before i all after i' × (first_status kept (status_of more) ≡ first_status status (status_of all))
turn_on taken status next kept line outcome before done told after i j i' lines more lt gave runs on stays next_is kept_is rest = (
  listed outcome ++ more,
  one_more line lines taken before done told after i j i' outcome more lt gave runs on stays rest,
  ap (λ (x : ℕ). first_status x (status_of more)) kept_is ∙ first_of_three status next (status_of more)
      ∙ ap (λ (x : ℕ). first_status status (first_status x (status_of more))) next_is ∙ ap (first_status status) (first_of_all outcome more),
)

-- no line is left
pub none_left : (status taken : ℕ) (st : State) (i i' : Input) → status ≡ 0 → GaveNone i i' → RanLines status taken st i st i'
none_left status taken st i i' is gave = ([], [], inl (gave, refl, refl), is)

-- no further line is run, and that is told
pub none_run : (status taken : ℕ) (t : Reported) (cause : Refusal) (m : Kept) (d : Disk) (s s' : Screen) (i i' : Input) → status ≡ status_in t → NoFurther taken i i' cause → AnnouncesAs t (nameless cause) s s'
    → RanLines status taken (state m d s) i (state m d s') i'
none_run status taken t cause m d s s' i i' is why tells = ([], nameless cause ∷ [], inr (cause, why, refl, (nothing_run t cause m d s s' tells).1), is ∙ nothing_status t cause s s' tells)

pub turned_none : (st : State) (i i' : Input) → GaveNone i i' → Turned (turn.Ends 0) st i st i'
turned_none st i i' gave = ([], [], λ taken lt. inl (gave, refl, refl), refl)

pub turned_refused : (status : ℕ) (t : Reported) (cause : Refusal) (m : Kept) (d : Disk) (s s' : Screen) (i i' : Input) → status ≡ status_in t → LineRefused i i' cause → AnnouncesAs t (nameless cause) s s'
    → Turned (turn.Ends status) (state m d s) i (state m d s') i'
turned_refused status t cause m d s s' i i' is why tells = ([], nameless cause ∷ [], λ taken lt. inr (cause, inl why, refl, (nothing_run t cause m d s s' tells).1), is ∙ nothing_status t cause s s' tells)

-- a script that is refused doesn't end the run by a command
stays_on : (source : Source) (before : State) (refused : Refused) (after : State) (runs : RunsScript source before (Some refused) after) → StaysOn source before (Some refused) after runs
stays_on source before refused after (inl unread) = tt
stays_on source before refused after (inr (commands, start, loads, only, runs)) = λ none. absurd (cc)

pub turned_by : (left : Ending) (line : List ℕ) (st st' : State) (i j : Input) → GaveLine line i j → Leaves left (InText line) st st' → Turned (turn_of left) st i st' j
turned_by Through line st st' i j gave (runs, stays) = (line, None, st', gave, runs, refl, stays, refl)
turned_by Quit line st st' i j gave (runs, quits) = (line ∷ [], [], λ taken lt. (j, None, st', lt, gave, runs, inr (inr (quits, refl), refl, refl, refl)), refl)
turned_by (Stops (Whole status)) line st st' i j gave (refused, done, runs, told) = (line, Some refused, done, gave, runs, told.1, stays_on (InText line) st refused done runs, told.0)
turned_by (Stops (Cut status)) line st st' i j gave (refused, done, runs, told) = (line ∷ [], refused ∷ [], λ taken lt. (j, Some refused, done, lt, gave, runs, inr (inl told.1, refl, refl, refl)), told.0)

-- the lines begin with no network
pub begins : (lines : List (List ℕ)) (more : List Refused) (m : Kept) (d : Disk) (s : Screen) (after : State) (i i' : Input) → m ≡ nothing_yet → RunsLines lines 0 (state m d s) i more after i'
    → RanLines (first_status 0 (status_of more)) 0 (state nothing_yet d s) i after i'
begins lines more m d s after i i' is runs = (lines, more, subst (λ (n : Kept). RunsLines lines 0 (state n d s) i more after i') is runs, refl)

-- the status at an end
pub at_end : (result status next : ℕ) (refusals : List Refused) (before after : State) (i i' : Input) → next ≡ status_of refusals → result ≡ first_status status next
    → RanLines (first_status status (status_of refusals)) 0 before i after i' → RanLines result 0 before i after i'
at_end result status next refusals before after i i' next_is is h = subst (λ (x : ℕ). RanLines x 0 before i after i') (sym (is ∙ ap (first_status status) next_is)) h

-- behind a turn that goes on
pub goes_on_from : (taken status next kept : ℕ) (before told start after : State) (i j i0 i' : Input) (lines : List (List ℕ)) (more : List Refused) → taken < most_lines → Turned (turn.GoesOn next) before i told j → kept ≡ first_status status next
    → RunsLines lines (taken + 1) told j more after i'
    → ((ls : List (List ℕ)) (all : List Refused) → RunsLines ls taken before i all after i' → RanLines (first_status status (status_of all)) 0 start i0 after i')
    → RanLines (first_status kept (status_of more)) 0 start i0 after i'
goes_on_from taken status next kept before told start after i j i0 i' lines more lt (line, outcome, done, gave, runs, on, stays, next_is) kept_is rest earlier =
    let t = turn_on taken status next kept line outcome before done told after i j i' lines more lt gave runs on stays next_is kept_is rest in
    subst (λ (x : ℕ). RanLines x 0 start i0 after i') (sym t.2) (earlier (line ∷ lines) t.0 t.1)

-- at a turn that ends the run
pub ends_at : (taken status next result : ℕ) (before start after : State) (i i0 i' : Input) → taken < most_lines → Turned (turn.Ends next) before i after i' → result ≡ first_status status next
    → ((ls : List (List ℕ)) (all : List Refused) → RunsLines ls taken before i all after i' → RanLines (first_status status (status_of all)) 0 start i0 after i')
    → RanLines result 0 start i0 after i'
ends_at taken status next result before start after i i0 i' lt (lines, refusals, each, next_is) is earlier = at_end result status next refusals start after i0 i' next_is is (earlier lines refusals (each taken lt))

-- behind as many lines as are run
pub ends_last : (taken status next result : ℕ) (before start after : State) (i i0 i' : Input) → taken ≡ most_lines → RanLines next most_lines before i after i' → result ≡ first_status status next
    → ((ls : List (List ℕ)) (all : List Refused) → RunsLines ls taken before i all after i' → RanLines (first_status status (status_of all)) 0 start i0 after i')
    → RanLines result 0 start i0 after i'
ends_last taken status next result before start after i i0 i' all_taken (lines, refusals, runs, next_is) is earlier =
    at_end result status next refusals start after i0 i' next_is is (earlier lines refusals (subst (λ (n : ℕ). RunsLines lines n before i refusals after i') (sym all_taken) runs))
