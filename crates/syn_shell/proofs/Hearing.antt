-- What became of the line of a refusal.
use Rattle.std.proofs.Common.{◌≡◌, ℕ, true, false, List, [], ◌∷◌, refl, subst, inl, inr, Option, None, Some, Vec, Global}
use Rattle.syn_words.specs.declared.Command.{Command}
use Rattle.syn_shell.specs.declared.refusal.Refusal.{Refusal}
use Rattle.syn_shell.specs.declared.refusal_lines.Reported.{Reported}
use Rattle.syn_shell.specs.declared.refusal_lines.Reported.TheVariants.{Whole, Cut}
use Rattle.syn_io.specs.Outside.{Disk, Screen}
use Rattle.syn_shell.specs.Outside.{Kept, State, state}
use Rattle.syn_shell.specs.Lines.{refusal_status}
use Rattle.syn_command_files.specs.Sources.{CountsFailure}
use Rattle.syn_command_files.specs.Sources as sources
use Rattle.syn_command_files.specs.Told.{FilesUnchanged}
use Rattle.syn_shell.specs.declared.scripts.Ending.TheVariants.{Quit, Stops, Through}
use Rattle.syn_shell.specs.LineMode.{has_quit}
use Rattle.syn_shell.specs.Scripts.{LoadFails, Loads, Refused, RunsCommands, RunsScript, Source, nameless, refused_by}
use Rattle.syn_shell.specs.Runs.{RunsNothing}
use Rattle.syn_shell.specs.Stopping.{status_in, IsAnnounced, Leaves, AnnouncesAs}

pub is_announced : (t : Reported) (refused : Refused) (m : Kept) (d : Disk) (s s' : Screen) → AnnouncesAs t refused s s' → IsAnnounced t refused (state m d s) (state m d s')
is_announced (Whole status) refused m d s s' h = (h.0, record { only = record { network = refl; luts = refl; files = refl }; line = h.2; sink = h.1 })
is_announced (Cut status) refused m d s s' h = (h.0, record { only = record { network = refl; luts = refl; files = refl }; failed = h.1 })

pub nothing_run : (t : Reported) (cause : Refusal) (m : Kept) (d : Disk) (s s' : Screen) → AnnouncesAs t (nameless cause) s s' → RunsNothing cause (state m d s) (nameless cause ∷ []) (state m d s')
nothing_run (Whole status) cause m d s s' h = (refl, inl (is_announced (Whole status) (nameless cause) m d s s' h).1)
nothing_run (Cut status) cause m d s s' h = (refl, inr (is_announced (Cut status) (nameless cause) m d s s' h).1)

pub nothing_status : (t : Reported) (cause : Refusal) (s s' : Screen) → AnnouncesAs t (nameless cause) s s' → status_in t ≡ refusal_status cause
nothing_status (Whole status) cause s s' h = h.0
nothing_status (Cut status) cause s s' h = h.0

-- another name of what is told
pub told_as : (t : Reported) (cause other : Refusal) (name text : List ℕ) (s s' : Screen) → cause ≡ other → name ≡ text → AnnouncesAs t (record { cause = cause; name = name }) s s' → AnnouncesAs t (record { cause = other; name = text }) s s'
told_as t cause other name text s s' e f h = subst (λ (c : Refusal). AnnouncesAs t (record { cause = c; name = text }) s s') e (subst (λ (n : List ℕ). AnnouncesAs t (record { cause = cause; name = n }) s s') f h)

-- a script that comes to no commands
pub script_refused : (t : Reported) (source : Source) (refusal : sources.Refused) (m : Kept) (d d' : Disk) (s s' : Screen) → LoadFails source d.told refusal → CountsFailure refusal.cause d d' → FilesUnchanged d d'
    → AnnouncesAs t (refused_by refusal) s s' → Leaves (Stops t) source (state m d s) (state m d' s')
script_refused t source refusal m d d' s s' fails counted unchanged tells = (
  refused_by refusal,
  state m d' s,
  inl (refusal, fails, record { told = refl; only = record { network = refl; luts = refl; files = unchanged; sink = refl }; counted = counted }),
  is_announced t (refused_by refusal) m d' s s' tells,
)

-- commands that are run, of those that a script comes to
pub script_runs : (source : Source) (commands : Vec Command Global) (cs : List Command) (outcome : Option Refused) (m : Kept) (d d' : Disk) (s : Screen) (after : State) → Loads source d.told commands.items
    → FilesUnchanged d d' → cs ≡ commands.items → RunsCommands cs (state m d' s) outcome after → RunsScript source (state m d s) outcome after
script_runs source commands cs outcome m d d' s after loads unchanged is runs = inr (
  commands.items,
  state m d' s,
  loads,
  record { network = refl; luts = refl; files = unchanged; sink = refl },
  subst (λ (x : List Command). RunsCommands x (state m d' s) outcome after) is runs,
)

-- a script one of whose commands is refused
pub script_stopped : (t : Reported) (source : Source) (refused : Refused) (before : State) (m : Kept) (d : Disk) (s s' : Screen)
    → RunsScript source before (Some refused) (state m d s) → AnnouncesAs t refused s s' → Leaves (Stops t) source before (state m d s')
script_stopped t source refused before m d s s' runs tells = (refused, state m d s, runs, is_announced t refused m d s s' tells)

-- a script that is run to its end, by whether a command ends the run
pub script_through : (source : Source) (commands : Vec Command Global) (cs : List Command) (m : Kept) (d d' : Disk) (s : Screen) (after : State) → Loads source d.told commands.items
    → FilesUnchanged d d' → cs ≡ commands.items → RunsCommands cs (state m d' s) None after → has_quit cs ≡ false → Leaves Through source (state m d s) after
unfolding script_runs
script_through source commands cs m d d' s after loads unchanged is runs none =
    (script_runs source commands cs None m d d' s after loads unchanged is runs, λ through. subst (λ (x : List Command). has_quit x ≡ false) is none)

pub script_quits : (source : Source) (commands : Vec Command Global) (cs : List Command) (m : Kept) (d d' : Disk) (s : Screen) (after : State) → Loads source d.told commands.items
    → FilesUnchanged d d' → cs ≡ commands.items → RunsCommands cs (state m d' s) None after → has_quit cs ≡ true → Leaves Quit source (state m d s) after
unfolding script_runs
script_quits source commands cs m d d' s after loads unchanged is runs some =
    (script_runs source commands cs None m d d' s after loads unchanged is runs, (refl, subst (λ (x : List Command). has_quit x ≡ true) is some))
