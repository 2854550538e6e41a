-- Each write of a run gives what was read or generated last before it: step by step the network keeps that.
use Rattle.std.proofs.Common.{◌≡◌, ℕ, ◌+◌, Bool, true, false, if◌then◌else◌, List, [], ◌∷◌, ◌++◌, refl, sym, ap, subst, subst₂, inl, inr, Option, None, Some, Result, Ok, Err}
use Rattle.syn_io.specs.Outside.{Input}
use Rattle.syn_netlist.specs.Lists.{Netlist}
use Rattle.syn_netlist.specs.Meaning.{SameFromFunction, SameMeaning, SameIsTransitive}
use Rattle.syn_netlist.specs.Order.{Ordered}
use Rattle.syn_network.specs.GraphShape.{GraphHasFunction, GraphShape}
use Rattle.syn_seq.specs.Laws.{SameMeaningIsSequential, SequentialIsTransitive}
use Rattle.syn_aiger.specs.Writing.{aig_of}
use Rattle.syn_words.specs.declared.Command.{Command}
use Rattle.syn_words.specs.declared.Command.TheVariants as commands
use Rattle.syn_words.specs.declared.inputs.LutSizes.{LutSizes}
use Rattle.syn_words.specs.declared.recipes.Recipe.{Recipe}
use Rattle.syn_words.specs.declared.recipes.Recipe.TheVariants as recipes
use Rattle.syn_shell.specs.declared.refusal.Refusal.{Refusal}
use Rattle.syn_shell.specs.Networks.{Written, graph_network}
use Rattle.syn_shell.specs.Outside.{State}
use Rattle.syn_shell.specs.Makes.{IsMappedAndResubstituted, Makes, MakesOfGraph, OnGraph, OnLuts, luts_in}
use Rattle.syn_shell.specs.Steps.{Denied, Remakes, SessionStep, with_luts}
use Rattle.syn_shell.specs.Scripts.{Refused, InFile, InText, RunsCommands, RunsScript, Source}
use Rattle.syn_shell.specs.LineMode.{EndsBySink, EndsLines, GoesOn, RunsLines}
use Rattle.syn_usage.specs.Usage.{Usage, OneScript, OneFile, EachLine, Faulty, usage_of}
use Rattle.syn_shell.specs.Runs.{RunsUsage, RunsWords}
use Rattle.syn_shell.proofs.Recipes.{kept_of, sweeps}
use Rattle.syn_shell.specs.Origins.{EachWriteKeeps, Gives, IsSameBy, Keeps, Origin, Step, origin_after, origin_behind, origin_made, swept_since, steps_of_commands, steps_of_lines, steps_of_script, steps_of_usage, steps_of_words, writes}

-- the laws that say how sameness begins, at a graph, and goes on from step to step
record AreLaws : Type 0 where
  means : SameIsTransitive
  runs : SequentialIsTransitive
  weaker : SameMeaningIsSequential
  graph_has : GraphHasFunction
  same_function : SameFromFunction

-- a graph means the same as itself
means_itself : AreLaws → (m : Netlist) → Ordered m → GraphShape m → SameMeaning m m
means_itself laws m ordered shape = let has = (laws.graph_has m shape ordered).1 in laws.same_function m m _ refl has has

-- what a recipe makes of a network is the same, by whether it sweeps, and reads only earlier signals

abbrev IsKeptIn : Bool → Written → Written → Type 0
IsKeptIn swept old new = IsSameBy swept old.netlist new.netlist × Ordered new.netlist

-- the same behind one that means the same
same_then : AreLaws → (swept : Bool) (n m p : Netlist) → Ordered m → SameMeaning n m → IsSameBy swept m p → IsSameBy swept n p
same_then laws false n m p ordered first second = laws.means n m p first second
same_then laws true n m p ordered first second = laws.runs n m p ordered.once (laws.weaker n m first) second

-- one behind the other
both_same : AreLaws → (before after : Bool) (n m p : Netlist) → Ordered m → IsSameBy before n m → IsSameBy after m p → IsSameBy (if after then true else before) n p
both_same laws false after n m p ordered first second = subst (λ (swept : Bool). IsSameBy swept n p) (or_false after) (same_then laws after n m p ordered first second)
  where
    or_false : (x : Bool) → x ≡ (if x then true else false)
    or_false true = refl
    or_false false = refl
both_same laws true true n m p ordered first second = laws.runs n m p ordered.once first second
both_same laws true false n m p ordered first second = laws.runs n m p ordered.once first (laws.weaker m p second)

kept_on_graph : AreLaws → (r : Recipe) (mark : Bool) (old new : Written) → old.mapped ≡ mark → OnGraph (MakesOfGraph r) mark old new → IsKeptIn (sweeps r) old new
kept_on_graph laws r false old new is made = let h = kept_of r old new is made in (h.same, h.ordered)
kept_on_graph laws r true old new is (graph, remade, made) =
    let h = kept_of r graph new remade.graph made in
    (same_then laws (sweeps r) old.netlist graph.netlist new.netlist remade.ordered remade.same h.same, h.ordered)

kept_on_luts : (sizes : LutSizes) (mark : Bool) (old new : Written) → OnLuts (IsMappedAndResubstituted sizes) mark old new → IsKeptIn false old new
kept_on_luts sizes false old new made = (made.luts.same, made.luts.ordered)
kept_on_luts sizes true old new made = (made.same, made.ordered)

made_kept : AreLaws → (r : Recipe) (old new : Written) → Makes r old new → IsKeptIn (sweeps r) old new
made_kept laws recipes.Strash old new made = (made.same, made.ordered)
made_kept laws (recipes.ResubstituteLuts window sizes) old new made = kept_on_luts (luts_in sizes) old.mapped old new made
made_kept laws other old new made = kept_on_graph laws other old.mapped old new refl made

-- the network keeps what it came from; or there is neither
abbrev IsKept : Option Origin → Option Written → Type 0
IsKept None m = m ≡ None
IsKept (Some origin) m = (net : Written) × (m ≡ Some net) × Keeps origin net.netlist

same_network : (a b : Written) (m : Option Written) → m ≡ Some a → m ≡ Some b → a ≡ b
same_network a b m x y = cc

stays_kept : (origin : Option Origin) (before after : State) → after.network ≡ before.network → IsKept origin before.network → IsKept origin after.network
stays_kept origin before after same kept = subst (IsKept origin) (sym same) kept

-- where the network comes from that a recipe made
made_origin : (r : Recipe) (origin : Option Origin) → (if sweeps r then swept_since origin else origin) ≡ origin_made r origin
made_origin recipes.Sweep origin = refl
made_origin other origin = refl

-- LUTs change nothing of where it comes from
filled_origin : (sizes : LutSizes) (r : Recipe) (origin : Option Origin) → origin_made (with_luts sizes r) origin ≡ origin_made r origin
filled_origin sizes (recipes.Map area named) origin = refl
filled_origin sizes (recipes.MapByFlow named) origin = refl
filled_origin sizes recipes.Sweep origin = refl
filled_origin sizes other origin = refl

kept_by : AreLaws → (swept : Bool) (origin : Origin) (old new : Written) → IsKeptIn swept old new → Keeps origin old.netlist → IsKept (if swept then swept_since (Some origin) else Some origin) (Some new)
kept_by laws true origin old new (same, ordered) (n, from, first, above) = (new, refl, (n, from, both_same laws origin.swept true n old.netlist new.netlist above first same, ordered))
kept_by laws false origin old new (same, ordered) (n, from, first, above) = (new, refl, (n, from, both_same laws origin.swept false n old.netlist new.netlist above first same, ordered))

remade_kept : AreLaws → (r : Recipe) (origin : Option Origin) (m m' : Option Written) → Remakes r m m' → IsKept origin m → IsKept (origin_made r origin) m'
remade_kept laws r None m m' (old, new, was, is, gates, made) none = absurd (cc)
remade_kept laws r (Some origin) m m' (old, new, was, is, gates, made) (net, there, keeps) =
    let here : Keeps origin old.netlist = subst (λ (a : Written). Keeps origin a.netlist) (same_network net old m there was) keeps in
    subst₂ IsKept (made_origin r (Some origin)) (sym is) (kept_by laws (sweeps r) origin old new (made_kept laws r old new made) here)

denied_stays : (c : Command) (before : State) (cause : Refusal) (after : State) → Denied c before cause after → after.network ≡ before.network
denied_stays (commands.Read name) before cause after h = h.0.network
denied_stays (commands.ReadAiger properties name) before cause after h = h.0.network
denied_stays (commands.ReadLuts name) before cause after h = h.0.network
denied_stays (commands.Generate seed size) before cause after h = h.0.network
denied_stays commands.Stats before cause after h = h.0.network
denied_stays commands.Levels before cause after h = h.0.network
denied_stays commands.Time before cause after h = h.0.network
denied_stays (commands.Compare conflicts first second) before cause after h = h.0.network
denied_stays (commands.Write name) before cause after h = h.0.network
denied_stays (commands.WriteAiger ascii bare name) before cause after h = h.0.network
denied_stays (commands.Print text) before cause after h = h.0.network
denied_stays (commands.Source name) before cause after h = absurd h
denied_stays commands.Quit before cause after h = absurd h
denied_stays (commands.Make recipe) before cause after h = h.0.network

accepted_kept : AreLaws → (c : Command) (before after : State) (origin : Option Origin) → SessionStep c before (Ok tt) after → IsKept origin before.network → IsKept (origin_behind c before.files (Ok tt) origin) after.network
accepted_kept laws (commands.Read name) before after origin (net, is, read, stand, same) kept = (graph_network net, is.network, (read.netlist, (read.bytes, read.file, read.reads), read.graph.same, read.graph.ordered))
accepted_kept laws (commands.ReadAiger properties name) before after origin (net, is, read, stand, same) kept =
    (graph_network net, is.network, (net, (read.bytes, read.aig, read.file, read.spells, read.graph), means_itself laws net read.graph.ordered read.graph.shape, read.graph.ordered))
accepted_kept laws (commands.ReadLuts name) before after origin (same, luts, stand, sink) kept = stays_kept origin before after same kept
accepted_kept laws (commands.Generate seed size) before after origin (net, is, graph, stand, same) kept = (graph_network net, is.network, (_, refl, graph.same, graph.ordered))
accepted_kept laws commands.Stats before after origin (net, line, is, stays, files, text, took) kept = stays_kept origin before after stays.network kept
accepted_kept laws commands.Levels before after origin (net, text, is, stays, files, tells, took) kept = stays_kept origin before after stays.network kept
accepted_kept laws commands.Time before after origin (hundredths, stays, files, took) kept = stays_kept origin before after stays.network kept
accepted_kept laws (commands.Compare conflicts first second) before after origin (stays, stand, compared) kept = stays_kept origin before after stays.network kept
accepted_kept laws (commands.Write name) before after origin (net, is, stays, file, reads, others, sink) kept = stays_kept origin before after stays.network kept
accepted_kept laws (commands.WriteAiger ascii bare name) before after origin (net, bytes, is, stays, file, are, others, sink) kept = stays_kept origin before after stays.network kept
accepted_kept laws (commands.Print text) before after origin (stays, files, took) kept = stays_kept origin before after stays.network kept
accepted_kept laws (commands.Source name) before after origin same kept = stays_kept origin before after (ap (λ (s : State). s.network) same) kept
accepted_kept laws commands.Quit before after origin same kept = stays_kept origin before after (ap (λ (s : State). s.network) same) kept
accepted_kept laws (commands.Make recipe) before after origin (made, stays, files, sink) kept =
    subst (λ (o : Option Origin). IsKept o after.network) (filled_origin before.luts recipe origin) (remade_kept laws (with_luts before.luts recipe) origin before.network after.network made kept)

step_kept : AreLaws → (c : Command) (before : State) (answer : Result (Unit {0}) Refusal) (after : State) (origin : Option Origin) → SessionStep c before answer after → IsKept origin before.network
    → IsKept (origin_behind c before.files answer origin) after.network
step_kept laws c before (Ok tt) after origin step kept = accepted_kept laws c before after origin step kept
step_kept laws c before (Err cause) after origin step kept = stays_kept origin before after (denied_stays c before cause after step) kept

-- the steps of a run lead from network to network

abbrev Leads : Option Written → List Step → Option Written → Type 0
Leads m [] m' = m' ≡ m
Leads m (s ∷ ss) m' = (s.before.network ≡ m) × SessionStep s.command s.before s.answer s.after × Leads s.after.network ss m'

leads_on : (m k m' : Option Written) (xs ys : List Step) → Leads m xs k → Leads k ys m' → Leads m (xs ++ ys) m'
leads_on m k m' [] ys same more = subst (λ (x : Option Written). Leads x ys m') same more
leads_on m k m' (x ∷ xs) ys (from, step, rest) more = (from, step, leads_on x.after.network k m' xs ys rest more)

leads_to : (m k m' : Option Written) (xs : List Step) → Leads m xs k → m' ≡ k → Leads m xs m'
leads_to m k m' xs leads same = subst (Leads m xs) (sym same) leads

commands_lead : (cs : List Command) (before : State) (outcome : Option Refused) (after : State) (runs : RunsCommands cs before outcome after)
    → Leads before.network (steps_of_commands cs before outcome after runs) after.network
commands_lead [] before outcome after (none, same) = ap (λ (s : State). s.network) same
commands_lead (c ∷ cs) before outcome after (inl (between, step, more)) = (refl, step, commands_lead cs between outcome after more)
commands_lead (c ∷ cs) before outcome after (inr (cause, is, step)) = (refl, step, refl)

script_leads : (source : Source) (before : State) (outcome : Option Refused) (after : State) (runs : RunsScript source before outcome after)
    → Leads before.network (steps_of_script source before outcome after runs) after.network
script_leads source before outcome after (inl (refusal, fails, unread)) = unread.only.network
script_leads source before outcome after (inr (commands, start, loads, only, runs)) =
    subst (λ (m : Option Written). Leads m (steps_of_commands commands start outcome after runs) after.network) only.network (commands_lead commands start outcome after runs)

goes_on_stays : (outcome : Option Refused) (before after : State) → GoesOn outcome before after → after.network ≡ before.network
goes_on_stays None before after same = ap (λ (s : State). s.network) same
goes_on_stays (Some refused) before after told = told.only.network

ends_stays : (outcome : Option Refused) (before after : State) → EndsBySink outcome before after → after.network ≡ before.network
ends_stays None before after h = absurd h
ends_stays (Some refused) before after gave_up = gave_up.only.network

ends_lines_stay : (line : List ℕ) (before : State) (outcome : Option Refused) (done after : State) (runs : RunsScript (InText line) before outcome done) → EndsLines (InText line) before outcome done after runs → after.network ≡ done.network
ends_lines_stay line before outcome done after runs (inl ends) = ends_stays outcome done after ends
ends_lines_stay line before outcome done after runs (inr (quits, same)) = ap (λ (s : State). s.network) same

lines_lead : (lines : List (List ℕ)) (taken : ℕ) (before : State) (i : Input) (refusals : List Refused) (after : State) (i' : Input) (runs : RunsLines lines taken before i refusals after i')
    → Leads before.network (steps_of_lines lines taken before i refusals after i' runs) after.network
lines_lead [] taken before i refusals after i' (inl (gave, none, same)) = ap (λ (s : State). s.network) same
lines_lead [] taken before i refusals after i' (inr (cause, why, is, inl told)) = told.only.network
lines_lead [] taken before i refusals after i' (inr (cause, why, is, inr gave_up)) = gave_up.only.network
lines_lead (line ∷ lines) taken before i refusals after i' (j, outcome, done, lt, gave, runs, inl (told, more, on, stays, is, rest)) =
    leads_on before.network told.network after.network (steps_of_script (InText line) before outcome done runs) (steps_of_lines lines (taken + 1) told j more after i' rest)
    (leads_to before.network done.network told.network _ (script_leads (InText line) before outcome done runs) (goes_on_stays outcome done told on)) (lines_lead lines (taken + 1) told j more after i' rest)
lines_lead (line ∷ lines) taken before i refusals after i' (j, outcome, done, lt, gave, runs, inr (ends, is, none, same)) =
    leads_to before.network done.network after.network _ (script_leads (InText line) before outcome done runs) (ends_lines_stay line before outcome done after runs ends)

usage_leads : (usage : Usage) (before : State) (i : Input) (refusals : List Refused) (after : State) (i' : Input) (runs : RunsUsage usage before i refusals after i')
    → (m : Option Written) × Leads before.network (steps_of_usage usage before i refusals after i' runs) m
usage_leads (OneScript text) before i refusals after i' ((outcome, done, runs, is, ends), same) = (done.network, script_leads (InText text) before outcome done runs)
usage_leads (OneFile name) before i refusals after i' ((outcome, done, runs, is, ends), same) = (done.network, script_leads (InFile name) before outcome done runs)
usage_leads EachLine before i refusals after i' (lines, runs) = (after.network, lines_lead lines 0 before i refusals after i' runs)
usage_leads Faulty before i refusals after i' runs = (before.network, refl)

words_lead : (words : List (List ℕ)) (before : State) (i : Input) (refusals : List Refused) (after : State) (i' : Input) (runs : RunsWords words before i refusals after i')
    → (m : Option Written) × Leads before.network (steps_of_words words before i refusals after i' runs) m
words_lead words before i refusals after i' (inl runs) = usage_leads (usage_of words) before i refusals after i' runs
words_lead words before i refusals after i' (inr nothing) = (before.network, refl)

-- a step among them

abbrev IsReachedFrom : Option Origin → List Step → Step → Type 0
IsReachedFrom origin front s = IsKept (origin_after front origin) s.before.network × SessionStep s.command s.before s.answer s.after

step_among : AreLaws → (front back : List Step) (s : Step) (origin : Option Origin) (m m' : Option Written) → IsKept origin m → Leads m (front ++ s ∷ back) m' → IsReachedFrom origin front s
step_among laws [] back s origin m m' kept (from, step, rest) = (subst (IsKept origin) (sym from) kept, step)
step_among laws (f ∷ front) back s origin m m' kept (from, step, rest) =
    let here : IsKept origin f.before.network = subst (IsKept origin) (sym from) kept in
    step_among laws front back s (origin_behind f.command f.before.files f.answer origin) f.after.network m' (step_kept laws f.command f.before f.answer f.after origin step here) rest

abbrev Given : Option Origin → Command → State → Type 0
Given found c after = (origin : Origin) × (m : Netlist) × (found ≡ Some origin) × Gives c after.files m × Keeps origin m

-- what a write gives, where the netlist that it writes is that of the network

given_of : (found : Option Origin) (c : Command) (net : Written) (before after : State) → before.network ≡ Some net → Gives c after.files net.netlist → IsKept found before.network → Given found c after
given_of None c net before after is gives none = absurd (cc)
given_of (Some origin) c net before after is gives (kept, there, keeps) =
    (origin, net.netlist, refl, gives, subst (λ (a : Written). Keeps origin a.netlist) (same_network kept net before.network there is) keeps)

write_gives : (found : Option Origin) (c : Command) (before after : State) → writes c ≡ true → IsKept found before.network → SessionStep c before (Ok tt) after → Given found c after
write_gives found (commands.Write name) before after writing kept (net, is, stays, file, reads, others, sink) = given_of found (commands.Write name) net before after is (file, reads) kept
write_gives found (commands.WriteAiger ascii bare name) before after writing kept (net, bytes, is, stays, file, are, others, sink) =
    given_of found (commands.WriteAiger ascii bare name) net before after is (bytes, aig_of are.graph.netlist, file, are.spells, are.keeps) kept
write_gives found other before after writing kept step = absurd (cc)

write_among : (found : Option Origin) (c : Command) (before : State) (answer : Result (Unit {0}) Refusal) (after : State) → writes c ≡ true → answer ≡ Ok tt
    → IsKept found before.network → SessionStep c before answer after → Given found c after
write_among found c before answer after writing accepted kept step =
    write_gives found c before after writing kept (subst (λ (r : Result (Unit {0}) Refusal). SessionStep c before r after) accepted step)

pub each_write : SameIsTransitive → SequentialIsTransitive → SameMeaningIsSequential → GraphHasFunction → SameFromFunction → EachWriteKeeps
each_write means runs weaker graph_has same_function words d s i d' s' i' status ran front back write are writing accepted =
    let laws : AreLaws = record { means = means; runs = runs; weaker = weaker; graph_has = graph_has; same_function = same_function } in
    let leads = words_lead words _ i ran.refusals _ i' ran.runs in
    let there = step_among laws front back write None _ leads.0 refl (subst (λ (ss : List Step). Leads None ss leads.0) are leads.1) in
    write_among (origin_after front None) write.command write.before write.answer write.after writing accepted there.0 there.1
