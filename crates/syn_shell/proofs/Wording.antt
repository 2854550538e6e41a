-- What is run by what the words mean.
use Rattle.std.proofs.Common.{◌≡◌, ℕ, List, [], ◌∷◌, refl, sym, ap, ◌∙◌, subst, inl, inr, Option, None, Some}
use Rattle.syn_shell.specs.declared.refusal.Refusal.{Refusal}
use Rattle.syn_shell.specs.declared.refusal_lines.Reported.{Reported}
use Rattle.syn_shell.specs.declared.refusal_lines.Reported.TheVariants.{Whole, Cut}
use Rattle.syn_io.specs.Outside.{Disk, Screen, Input}
use Rattle.syn_shell.specs.Outside.{Kept, State, nothing_yet, state}
use Rattle.syn_usage.specs.declared.arguments.UsageFault.{UsageFault}
use Rattle.syn_usage.specs.declared.arguments.UsageFault.TheVariants as usage
use Rattle.syn_usage.specs.Usage.{Usage, OneScript, OneFile, EachLine, usage_of, WordsRefused}
use Rattle.syn_shell.specs.declared.scripts.Ending.{Ending}
use Rattle.syn_shell.specs.declared.scripts.Ending.TheVariants.{Quit, Stops, Through}
use Rattle.syn_shell.specs.Scripts.{InFile, InText, Refused, Source, nameless}
use Rattle.syn_shell.specs.Runs.{Ran, RunsNothing, RunsOne, RunsUsage, RunsWords, status_of, usage_cause}
use Rattle.syn_shell.specs.Stopping.{status_in, status_left, Leaves, RanLines, RanOne, AnnouncesAs}
use Rattle.syn_shell.proofs.Counting.{words_counted}
use Rattle.syn_shell.proofs.Hearing.{nothing_run, nothing_status}

words_refused : (words : List (List ℕ)) (fault : UsageFault) (st after : State) (i : Input) (refusals : List Refused) → WordsRefused words fault → RunsNothing (usage_cause fault) st refusals after → RunsWords words st i refusals after i
words_refused words usage.Words st after i refusals h nothing = inl (subst (λ (u : Usage). RunsUsage u st i refusals after i) (sym h) (nothing, refl))
words_refused words usage.NoMemory st after i refusals h nothing = inr (nothing, refl)

-- a run by what it did
ran_by : (words : List (List ℕ)) (kept : Kept) (refusals : List Refused) (d d' : Disk) (s s' : Screen) (i i' : Input) (status : ℕ) → RunsWords words (state nothing_yet d s) i refusals (state kept d' s') i' → status ≡ status_of refusals
    → Ran words d s i d' s' i' status
ran_by words kept refusals d d' s s' i i' status runs is = record {
  kept = kept;
  refusals = refusals;
  runs = runs;
  status_is = is;
  faults = words_counted words (state nothing_yet d s) (state kept d' s') refusals i i' runs;
}

-- words that are refused
pub ran_nothing : (words : List (List ℕ)) (fault : UsageFault) (cause : Refusal) (t : Reported) (d : Disk) (s s' : Screen) (i : Input) (status : ℕ) → WordsRefused words fault → cause ≡ usage_cause fault → AnnouncesAs t (nameless cause) s s'
    → status ≡ status_in t → Ran words d s i d s' i status
ran_nothing words fault cause t d s s' i status h cause_is tells is =
    ran_by words nothing_yet (nameless cause ∷ []) d d s s' i i status
    (words_refused words fault (state nothing_yet d s) (state nothing_yet d s') i (nameless cause ∷ []) h
    (subst (λ (c : Refusal). RunsNothing c (state nothing_yet d s) (nameless cause ∷ []) (state nothing_yet d s')) cause_is (nothing_run t cause nothing_yet d s s' tells)))
    (is ∙ nothing_status t cause s s' tells)

-- what is run of a script or a file
abbrev usage_for : Source → Usage
usage_for (InText text) = OneScript text
usage_for (InFile name) = OneFile name

usage_runs : (source : Source) (before after : State) (i : Input) (refusals : List Refused) → RunsOne source before refusals after → RunsUsage (usage_for source) before i refusals after i
usage_runs (InText text) before after i refusals runs = (runs, refl)
usage_runs (InFile name) before after i refusals runs = (runs, refl)

-- words with a script or a file
pub ran_script : (words : List (List ℕ)) (source : Source) (m : Kept) (refusals : List Refused) (d d' : Disk) (s s' : Screen) (i : Input) (status : ℕ) → usage_of words ≡ usage_for source
    → RunsOne source (state nothing_yet d s) refusals (state m d' s') → status ≡ status_of refusals → Ran words d s i d' s' i status
ran_script words source m refusals d d' s s' i status usage runs is =
    ran_by words m refusals d d' s s' i i status (inl (subst (λ (u : Usage). RunsUsage u (state nothing_yet d s) i refusals (state m d' s') i) (sym usage) (usage_runs source (state nothing_yet d s) (state m d' s') i refusals runs))) is

ran_left : (words : List (List ℕ)) (source : Source) (left : Ending) (m : Kept) (d d' : Disk) (s s' : Screen) (i : Input) (status : ℕ) → usage_of words ≡ usage_for source
    → Leaves left source (state nothing_yet d s) (state m d' s') → status ≡ status_left left → Ran words d s i d' s' i status
ran_left words source Through m d d' s s' i status usage (runs, stays) is = ran_script words source m [] d d' s s' i status usage (None, state m d' s', runs, refl, inl refl) is
ran_left words source Quit m d d' s s' i status usage (runs, quits) is = ran_script words source m [] d d' s s' i status usage (None, state m d' s', runs, refl, inl refl) is
ran_left words source (Stops (Whole kept)) m d d' s s' i status usage (refused, done, runs, told) is =
    ran_script words source m (refused ∷ []) d d' s s' i status usage (Some refused, done, runs, refl, inl told.1) (is ∙ told.0)
ran_left words source (Stops (Cut kept)) m d d' s s' i status usage (refused, done, runs, told) is =
    ran_script words source m (refused ∷ []) d d' s s' i status usage (Some refused, done, runs, refl, inr told.1) (is ∙ told.0)

-- words that ask for lines
pub ran_lines : (words : List (List ℕ)) (d d' : Disk) (s s' : Screen) (i i' : Input) (status : ℕ) → usage_of words ≡ EachLine → (m : Kept) × RanLines status 0 (state nothing_yet d s) i (state m d' s') i' → Ran words d s i d' s' i' status
ran_lines words d d' s s' i i' status usage (m, (lines, refusals, runs, is)) =
    ran_by words m refusals d d' s s' i i' status (inl (subst (λ (u : Usage). RunsUsage u (state nothing_yet d s) i refusals (state m d' s') i') (sym usage) (lines, runs))) is

-- words with a script that was run, or with a file of commands
pub ran_text : (words : List (List ℕ)) (script text : List ℕ) (d d' : Disk) (s s' : Screen) (i : Input) (status : ℕ) → usage_of words ≡ OneScript script → text ≡ script → RanOne status (InText text) d s d' s' → Ran words d s i d' s' i status
ran_text words script text d d' s s' i status usage text_is (left, m, leaves, is) = ran_left words (InText text) left m d d' s s' i status (usage ∙ ap OneScript (sym text_is)) leaves is

pub ran_file : (words : List (List ℕ)) (name : List ℕ) (d d' : Disk) (s s' : Screen) (i : Input) (status : ℕ) → usage_of words ≡ OneFile name → RanOne status (InFile name) d s d' s' → Ran words d s i d' s' i status
ran_file words name d d' s s' i status usage (left, m, leaves, is) = ran_left words (InFile name) left m d d' s s' i status usage leaves is

-- a script that was run from what a session begins with
pub left_from_none : (result left : Ending) (source : Source) (n m : Kept) (d d' : Disk) (s s' : Screen) (status : ℕ) → n ≡ nothing_yet → result ≡ left → status ≡ status_left left
    → Leaves result source (state n d s) (state m d' s') → RanOne status source d s d' s'
left_from_none result left source n m d d' s s' status none is status_is leaves =
    (left, m, subst (λ (o : Kept). Leaves left source (state o d s) (state m d' s')) none (subst (λ (r : Ending). Leaves r source (state n d s) (state m d' s')) is leaves), status_is)
