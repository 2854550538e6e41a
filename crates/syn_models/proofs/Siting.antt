-- What the checks of one subcircuit find together.
use Rattle.std.proofs.Common.{◌≡◌, ℕ, ◌<◌, ◌≤◌, ◌++◌, ◌||◌, Bool, true, false, if◌then◌else◌, List, [], ◌∷◌, map, flat_map, length, get_or, bytes_eq, refl, sym, ap, ◌∙◌, inl, inr, Option, Some, None, option_map, arith}
use Rattle.std.specs.List.{list_all}
use Rattle.std.specs.Option.{option_or}
use Rattle.std.proofs.lemmas.Bool.{and_parts, and_from, both_ways, cases_Bool}
use Rattle.std.proofs.lemmas.List.{length-map}
use Rattle.syn_netlist.specs.Numbers.{word_at}
use Rattle.syn_netlist.specs.Words.{has_word, distinct}
use Rattle.syn_netlist.proofs.Arranging.{none_found}
use Rattle.syn_netlist.proofs.Sets.{has_word-append}
use Rattle.syn_models.specs.declared.flat_fault.FlatFault.{FlatFault}
use Rattle.syn_models.specs.declared.flat_fault.FlatFault.TheVariants.{UnknownModel, UnknownPort, PortMissing, DefinedTwice}
use Rattle.syn_models.specs.declared.hierarchy.Bind.{Bind}
use Rattle.syn_models.specs.declared.hierarchy.Model as code
use Rattle.syn_models.specs.declared.ports.Ports.{Ports}
use Rattle.syn_models.specs.FlatFaults.{defined_in, is_absent, foreign, unbound, defines_of, defined_plainly, defined_inside, first_again, checks, first_found}
use Rattle.syn_models.specs.Kept.{bind_in}
use Rattle.syn_models.specs.Listed.{ArePorts, AllPorts}
use Rattle.syn_models.specs.Marked.{Marked, above_of, pushed, defined_before, site_of, subcircuit_at}
use Rattle.syn_models.specs.Models.{Subcircuit, Statement, Model, formal_of, is_port, model_named}
use Rattle.syn_models.specs.Models as models
use Rattle.syn_models.specs.Views.{model_in}
use Rattle.syn_models.proofs.Listing.{ports_at}
use Rattle.syn_models.proofs.Placing.{or_none}
use Rattle.syn_models.proofs.WordSets.{pigeons}

pub ports_of_number : (ms : List code.Model) (ps : List Ports) (i : ℕ) (r : code.Model) (p : Ports) → AllPorts ms ps → i < length ms → r ≡ get_or ms i r → p ≡ get_or ps i p → ArePorts (get_or ms i r) p
ports_of_number ms ps i r p a l e f = ports_at ms ps i (get_or ms i r) p a l (ap (get_or ms i) e) f

-- formals that are ports are names of the model, and no more than it has where none stands twice

all_ports_names : (m : code.Model) (p : Ports) → ArePorts m p → (ws : List (List ℕ)) → list_all (is_port (model_in m)) ws ≡ true → list_all (has_word m.names) ws ≡ true
all_ports_names m p a [] h = refl
all_ports_names m p a (w ∷ ws) h =
    let parts = and_parts (is_port (model_in m) w) (list_all (is_port (model_in m)) ws) h in
    and_from (has_word m.names w) (list_all (has_word m.names) ws)
    (elim (cases_Bool (has_word m.names w)) [ inl t ↦ t | inr f ↦ absurd (both_ways (is_port (model_in m) w) (a.known w f) parts.0) ])
    (all_ports_names m p a ws parts.1)

pub few_binds : (m : code.Model) (p : Ports) (names : List (List ℕ)) (bs : List Bind) → ArePorts m p → distinct (map formal_of (map (bind_in names) bs)) ≡ true → foreign (map (bind_in names) bs) (Some (model_in m)) ≡ None → length bs ≤ length m.names
few_binds m p names bs a d none =
    let all = all_ports_names m p a (map formal_of (map (bind_in names) bs)) (none_found (is_port (model_in m)) (map formal_of (map (bind_in names) bs)) none) in
    let size = pigeons (map formal_of (map (bind_in names) bs)) m.names d all in
    omega (arith, size, length-map (map (bind_in names) bs) formal_of, length-map bs (bind_in names))

-- formals don't depend on the names of actuals
pub formals_any : (a b : List (List ℕ)) (bs : List Bind) → map formal_of (map (bind_in a) bs) ≡ map formal_of (map (bind_in b) bs)
formals_any a b [] = refl
formals_any a b (x ∷ xs) = ap (λ (l : List (List ℕ)). x.formal ∷ l) (formals_any a b xs)

-- the faults of a subcircuit by the model that it contains, and by what its checks find
abbrev by_model : ℕ → List (List ℕ) → List models.Bind → Option Model → Option FlatFault
by_model line before binds o =
    option_or (if is_absent o then Some (UnknownModel line) else None)
    (option_or (option_map (UnknownPort line) (foreign binds o))
    (option_or (option_map (PortMissing line) (unbound binds o))
    (option_or (option_map (DefinedTwice line) (first_again before (defines_of binds o))) None)))

abbrev by_finds : ℕ → Option (List ℕ) → Option (List ℕ) → Option (List ℕ) → Option FlatFault
by_finds line a b c = option_or (option_map (UnknownPort line) a) (option_or (option_map (PortMissing line) b) (option_or (option_map (DefinedTwice line) c) None))

-- a subcircuit without a fault but that its actuals may be defined twice
pub twice_found : (all : List Model) (m : Model) (above : List Statement) (line : ℕ) (c : Subcircuit) (inside : Model) (r : Option (List ℕ)) → model_named all c.model ≡ Some inside
    → foreign c.binds (Some inside) ≡ None → unbound c.binds (Some inside) ≡ None → r ≡ first_again (defined_before all m above) (defines_of c.binds (Some inside))
    → option_or (option_map (DefinedTwice line) r) None ≡ first_found checks (site_of all m above line c)
twice_found all m above line c inside r e port missing twice =
    ap (λ (x : Option (List ℕ)). by_finds line None None x) twice
    ∙ sym (ap (λ (x : Option (List ℕ)). by_finds line None x (first_again (defined_before all m above) (defines_of c.binds (Some inside)))) missing)
    ∙ sym (ap (λ (x : Option (List ℕ)). by_finds line x (unbound c.binds (Some inside)) (first_again (defined_before all m above) (defines_of c.binds (Some inside)))) port)
    ∙ sym (ap (by_model line (defined_before all m above) c.binds) e)

-- the order of what is marked doesn't matter

pub marked_same : (names a b : List (List ℕ)) (marks : List Bool) → ((w : List ℕ) → has_word a w ≡ has_word b w) → Marked names a marks → Marked names b marks
marked_same names a b marks same h = record { size = h.size; at = λ i l. h.at i l ∙ same (word_at names i) }

or_swap : (a b c : Bool) → (a || (b || c)) ≡ (b || (a || c))
or_swap true true c = refl
or_swap true false c = refl
or_swap false true c = refl
or_swap false false c = refl

or_both : (a b c : Bool) → ((a || b) || c) ≡ (a || (b || c))
or_both true b c = refl
or_both false b c = refl

has_pushed : (before ws : List (List ℕ)) (w : List ℕ) → has_word (pushed before ws) w ≡ (has_word ws w || has_word before w)
has_pushed before [] w = refl
has_pushed before (x ∷ xs) w = has_pushed (x ∷ before) xs w ∙ or_swap (has_word xs w) (bytes_eq x w) (has_word before w) ∙ sym (or_both (bytes_eq x w) (has_word xs w) (has_word before w))

-- what is marked below a subcircuit
pub marked_below : (names : List (List ℕ)) (all : List Model) (m : Model) (above : List Statement) (line : ℕ) (c : Subcircuit) (inside : Model) (marks : List Bool) → model_named all c.model ≡ Some inside
    → Marked names (pushed (defined_before all m above) (defines_of c.binds (Some inside))) marks → Marked names (defined_before all m (subcircuit_at line c ∷ above)) marks
marked_below names all m above line c inside marks e h =
    let plain : List (List ℕ) = flat_map (λ (s : Statement). defined_plainly s.kind) m.statements in
    let before : List (List ℕ) = flat_map (λ (s : Statement). defined_inside all s.kind) above in
    let now : List (List ℕ) = defines_of c.binds (Some inside) in
    marked_same names (pushed (plain ++ before) now) (plain ++ (defines_of c.binds (model_named all c.model) ++ before)) marks
    (λ w. has_pushed (plain ++ before) now w
    ∙ ap (λ b. has_word now w || b) (has_word-append plain before w)
    ∙ or_swap (has_word now w) (has_word plain w) (has_word before w)
    ∙ ap (λ b. has_word plain w || b) (sym (has_word-append now before w))
    ∙ sym (has_word-append plain (now ++ before) w)
    ∙ ap (λ (o : Option Model). has_word (plain ++ (defines_of c.binds o ++ before)) w) (sym e))
    h

-- statements in either order define the same

has_above : (all : List Model) (above ss : List Statement) (w : List ℕ)
    → has_word (flat_map (λ (s : Statement). defined_inside all s.kind) (above_of above ss)) w ≡ (has_word (flat_map (λ (s : Statement). defined_inside all s.kind) ss) w || has_word (flat_map (λ (s : Statement). defined_inside all s.kind) above) w)
has_above all above [] w = refl
has_above all above (s ∷ ss) w =
    let here : List (List ℕ) = defined_inside all s.kind in
    let below : List (List ℕ) = flat_map (λ (t : Statement). defined_inside all t.kind) ss in
    let before : List (List ℕ) = flat_map (λ (t : Statement). defined_inside all t.kind) above in
    has_above all (s ∷ above) ss w
    ∙ ap (λ b. has_word below w || b) (has_word-append here before w)
    ∙ or_swap (has_word below w) (has_word here w) (has_word before w)
    ∙ sym (or_both (has_word here w) (has_word below w) (has_word before w))
    ∙ ap (λ b. b || has_word before w) (sym (has_word-append here below w))

pub marked_all : (names : List (List ℕ)) (all : List Model) (m : Model) (marks : List Bool) → Marked names (defined_before all m (above_of [] m.statements)) marks → Marked names (defined_in all m) marks
marked_all names all m marks h =
    let plain : List (List ℕ) = flat_map (λ (s : Statement). defined_plainly s.kind) m.statements in
    let inside : List (List ℕ) = flat_map (λ (s : Statement). defined_inside all s.kind) m.statements in
    marked_same names (defined_before all m (above_of [] m.statements)) (defined_in all m) marks
    (λ w. has_word-append plain (flat_map (λ (s : Statement). defined_inside all s.kind) (above_of [] m.statements)) w
    ∙ ap (λ b. has_word plain w || b) (has_above all [] m.statements w ∙ or_none (has_word inside w))
    ∙ sym (has_word-append plain inside w))
    h
