-- A file reads as a netlist within the limits, or has a first fault.
use Rattle.std.proofs.Common.{◌≡◌, ℕ, ◌<◌, ◌≤◌, Bool, true, false, if◌then◌else◌, List, [], ◌∷◌, length, map, refl, subst, inl, inr, ◌⊎◌, Option, Some, None, option_map}
use Rattle.std.proofs.lemmas.Bool.{cases_lt}
use Rattle.std.proofs.lemmas.List.Elements.{All-from_recursion}
use Rattle.syn_lex.specs.Lines.{bad_byte}
use Rattle.syn_netlist.specs.Costs.{cost_of}
use Rattle.syn_netlist.specs.Faults.{ReachesCircle, IsAnsweredCircle}
use Rattle.syn_netlist.specs.Lists.{Netlist, output_of, sources}
use Rattle.syn_netlist.specs.Order.{DefinedOnce}
use Rattle.syn_netlist.proofs.Sets.{distinct_right}
use Rattle.syn_models.proofs.Circles.{circle_or_none}
use Rattle.syn_models.proofs.Faults.{either_flat}
use Rattle.syn_models.proofs.Once.{flattening_defines_once}
use Rattle.std.specs.Option.{option_or}
use Rattle.syn_models.specs.declared.flat_fault.FlatFault.{FlatFault}
use Rattle.syn_models.specs.declared.flat_fault.FlatFault.TheVariants as flat
use Rattle.syn_models.specs.FlatFaults.{Flattens, IsFirstFlatFault, Site, WithinWords, checks, defined_twice, first_found, first_of_models, first_of_statements, first_undriven, port_missing, statement_fault, unknown_model, unknown_port}
use Rattle.syn_models.specs.Models.{Model, Models, OneSubcircuit, Statement, StatementKind, all_of, alone}
use Rattle.syn_reader.specs.Faults.{Fault, BadByte, UnknownModel, UnknownPort, PortMissing, DefinedTwice, Undriven, Recursion, TooManyWords, Cycle, TooManySources, TooLarge, models_fault}
use Rattle.syn_reader.specs.Statements.{statements}
use Rattle.syn_reader.proofs.Fine.{or_none}
use Rattle.syn_reader.specs.ModelFaults.{first_fault_of_models, first_line_fault}
use Rattle.syn_reader.specs.Parted.{by_model}
use Rattle.syn_reader.specs.Laws.{EitherOr}
use Rattle.syn_reader.specs.Limits.{Within, IsFirstFault, most_cost, most_sources}
use Rattle.syn_reader.specs.Reading.{Reads, Spells}
use Rattle.syn_reader.proofs.Built.{FileModels, file_models}

-- The models' fault, where there is one, is a fault of the file: no want of memory.
abbrev Told : Option FlatFault → Type 0
Told None = Unit {0}
Told (Some f) = (g : Fault) × (models_fault f ≡ Some g)

or_told : (a b : Option FlatFault) → Told a → Told b → Told (option_or a b)
or_told None b s t = t
or_told (Some f) b s t = s

if_told : (test : Bool) (f : FlatFault) → Told (Some f) → Told (if test then Some f else None)
if_told true f t = t
if_told false f t = tt

map_told : (o : Option (List ℕ)) (f : List ℕ → FlatFault) → ((w : List ℕ) → Told (Some (f w))) → Told (option_map f o)
map_told None f t = tt
map_told (Some w) f t = t w

site_told : (site : Site) → Told (first_found checks site)
site_told site =
    or_told _ _ (if_told (unknown_model site) _ (UnknownModel site.line, refl))
    (or_told _ _ (map_told (unknown_port site) _ (λ w. (UnknownPort site.line w, refl)))
    (or_told _ _ (map_told (port_missing site) _ (λ w. (PortMissing site.line w, refl)))
    (or_told _ None (map_told (defined_twice site) _ (λ w. (DefinedTwice site.line w, refl))) tt)))

kind_told : (ms : List Model) (home : Model) (above : List Statement) (line : ℕ) (kind : StatementKind) → Told (statement_fault checks ms home above line kind)
kind_told ms home above line (OneSubcircuit c) = site_told (record { line = line; here = c; models = ms; home = home; above = above })
kind_told ms home above line kind = tt

statements_told : (ms : List Model) (home : Model) (above ss : List Statement) → Told (first_of_statements checks ms home above ss)
statements_told ms home above [] = tt
statements_told ms home above (s ∷ ss) = or_told _ _ (kind_told ms home above s.line s.kind) (statements_told ms home (s ∷ above) ss)

models_told : (all ms : List Model) → Told (first_of_models checks all ms)
models_told all [] = tt
models_told all (m ∷ ms) = or_told _ _ (statements_told all m [] m.statements) (models_told all ms)

told_fault : (models : Models) (f : FlatFault) → IsFirstFlatFault models f → (g : Fault) × (models_fault f ≡ Some g)
told_fault models f (inl e) =
    subst Told e (or_told _ _ (models_told (all_of models) (all_of models)) (map_told (first_undriven (all_of models) (all_of models)) flat.Undriven (λ w. (Undriven w, refl))))
told_fault models (flat.Recursion names) (inr t) = (Recursion names, refl)
told_fault models (flat.TooManyWords count) (inr t) = (TooManyWords count, refl)
told_fault models other (inr t) = absurd t.1

pub either_or : EitherOr
either_or bytes = go (first_line_fault bytes) refl
  where
    net : (ms : Models) (n : Netlist) → Spells bytes ms → Flattens ms n → WithinWords ms
        → (((w : List ℕ) → ReachesCircle n.tables w → ⊥) ⊎ ((names : List (List ℕ)) × (first : List ℕ) × (before : List (List ℕ)) × (set : List ℕ → Bool) × IsAnsweredCircle n.tables first before names set))
        → (most_sources < length (sources n.frame)) ⊎ (length (sources n.frame) ≤ most_sources) → (most_cost < cost_of n) ⊎ (cost_of n ≤ most_cost)
        → ((m : Netlist) × Reads bytes m × Within bytes m) ⊎ ((fault : Fault) × IsFirstFault bytes fault)
    net ms n s f w (inr c) a b = inr (Cycle c.0, inr (inr (ms, s, w, (n, f, (c.1, c.2, c.3, c.4)))))
    net ms n s f w (inl c) (inl a) b = inr (TooManySources (length (sources n.frame)), inr (inr (ms, s, w, (n, f, (c, refl, a)))))
    net ms n s f w (inl c) (inr a) (inl b) = inr (TooLarge (cost_of n), inr (inr (ms, s, w, (n, f, (c, a, refl, b)))))
    net ms n s f w (inl c) (inr a) (inr b) = inl (n, record { models = ms; spelled = s; flattened = f; acyclic = c }, record { words = (ms, s, w); netlist = record { sources = a; cost = b } })

    file : first_line_fault bytes ≡ None → FileModels (statements bytes) → ((m : Netlist) × Reads bytes m × Within bytes m) ⊎ ((fault : Fault) × IsFirstFault bytes fault)
    file e m =
        let s : Spells bytes m.models = record { faultless = e; spelled = m.spelled } in
        elim (either_flat m.models m.names) [
          | inr x ↦ let told = told_fault m.models x.0 x.1 in inr (told.0, inr (inl (m.models, s, (x.0, x.1, told.1))))
          | inl x ↦
              let n = x.0 in
              let once : DefinedOnce n = flattening_defines_once m.models n m.closed (All-from_recursion (λ (k : Model). DefinedOnce (alone k)) (all_of m.models) m.once) x.1.faultless x.1.flattening in
              net m.models n s x.1 x.2 (circle_or_none n.tables (distinct_right (sources n.frame) (map output_of n.tables) once.all)) (cases_lt most_sources (length (sources n.frame))) (cases_lt most_cost (cost_of n))
        ]

    go : (o : Option Fault) → first_line_fault bytes ≡ o → ((m : Netlist) × Reads bytes m × Within bytes m) ⊎ ((fault : Fault) × IsFirstFault bytes fault)
    go (Some fault) e = inr (fault, inl e)
    go None e = file e (file_models (statements bytes) (or_none (option_map BadByte (bad_byte bytes)) (first_fault_of_models [] (by_model (statements bytes))) e).1)
