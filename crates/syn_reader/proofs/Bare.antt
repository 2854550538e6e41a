-- What is wrong with models doesn't depend on their lists of names.
use Rattle.std.proofs.Common.{◌≡◌, ℕ, not, Bool, true, false, if◌then◌else◌, List, [], ◌∷◌, ◌++◌, map, flat_map, find, bytes_eq, refl, ap, ap₂, ◌∙◌, Option, Some, None, option_map}
use Rattle.std.specs.Option.{option_or}
use Rattle.syn_netlist.specs.Words.{has_word}
use Rattle.syn_models.specs.declared.flat_fault.FlatFault.{FlatFault}
use Rattle.syn_models.specs.declared.flat_fault.FlatFault.TheVariants.{UnknownModel, UnknownPort, PortMissing, DefinedTwice, Undriven}
use Rattle.syn_models.specs.Models.{Bind, Subcircuit, StatementKind, Inputs, Outputs, Clock, OneLatch, OneTable, OneSubcircuit, Statement, Model, Models, all_of, model_named}
use Rattle.syn_models.specs.FlatFaults.{Site, checks, contents, is_absent, foreign, unbound, reads_of, defines_of, defined_plainly, defined_inside, first_again, first_found, statement_fault, first_of_statements, first_of_models, names_read, first_undriven, first_fault_of_models}

-- a model without its list of names
abbrev pub bare : Model → Model
bare m = record { name = m.name; names = []; statements = m.statements; words = m.words }

abbrev pub all_bare : Models → Models
all_bare models = record { main = bare models.main; others = map bare models.others }

named_bare : (ms : List Model) (name : List ℕ) → model_named (map bare ms) name ≡ option_map bare (model_named ms name)
named_bare [] name = refl
named_bare (m ∷ ms) name = go (bytes_eq m.name name) (named_bare ms name)
  where
    go : (b : Bool) → model_named (map bare ms) name ≡ option_map bare (model_named ms name) → (if b then Some (bare m) else model_named (map bare ms) name) ≡ option_map bare (if b then Some m else model_named ms name)
    go true e = refl
    go false e = e

absent_bare : (o : Option Model) → is_absent (option_map bare o) ≡ is_absent o
absent_bare None = refl
absent_bare (Some m) = refl

foreign_bare : (binds : List Bind) (o : Option Model) → foreign binds (option_map bare o) ≡ foreign binds o
foreign_bare binds None = refl
foreign_bare binds (Some m) = refl

unbound_bare : (binds : List Bind) (o : Option Model) → unbound binds (option_map bare o) ≡ unbound binds o
unbound_bare binds None = refl
unbound_bare binds (Some m) = refl

reads_bare : (binds : List Bind) (o : Option Model) → reads_of binds (option_map bare o) ≡ reads_of binds o
reads_bare binds None = refl
reads_bare binds (Some m) = refl

defines_bare : (binds : List Bind) (o : Option Model) → defines_of binds (option_map bare o) ≡ defines_of binds o
defines_bare binds None = refl
defines_bare binds (Some m) = refl

inside_bare : (ms : List Model) (kind : StatementKind) → defined_inside (map bare ms) kind ≡ defined_inside ms kind
inside_bare ms (Inputs words) = refl
inside_bare ms (Outputs words) = refl
inside_bare ms (Clock words) = refl
inside_bare ms (OneLatch latch) = refl
inside_bare ms (OneTable table) = refl
inside_bare ms (OneSubcircuit c) = ap (defines_of c.binds) (named_bare ms c.model) ∙ defines_bare c.binds (model_named ms c.model)

all_inside : (ms : List Model) (ss : List Statement) → flat_map (λ s. defined_inside (map bare ms) s.kind) ss ≡ flat_map (λ s. defined_inside ms s.kind) ss
all_inside ms [] = refl
all_inside ms (s ∷ ss) = ap₂ (λ (a b : List (List ℕ)). a ++ b) (inside_bare ms s.kind) (all_inside ms ss)

read_bare : (ms : List Model) (kind : StatementKind) → names_read (map bare ms) kind ≡ names_read ms kind
read_bare ms (Inputs words) = refl
read_bare ms (Outputs words) = refl
read_bare ms (Clock words) = refl
read_bare ms (OneLatch latch) = refl
read_bare ms (OneTable table) = refl
read_bare ms (OneSubcircuit c) = ap (reads_of c.binds) (named_bare ms c.model) ∙ reads_bare c.binds (model_named ms c.model)

all_read : (ms : List Model) (ss : List Statement) → flat_map (λ s. names_read (map bare ms) s.kind) ss ≡ flat_map (λ s. names_read ms s.kind) ss
all_read ms [] = refl
all_read ms (s ∷ ss) = ap₂ (λ (a b : List (List ℕ)). a ++ b) (read_bare ms s.kind) (all_read ms ss)

abbrev site : ℕ → Subcircuit → List Model → Model → List Statement → Site
site line c ms home above = record { line = line; here = c; models = ms; home = home; above = above }

-- the first of the four faults of a subcircuit
abbrev answer : ℕ → Bool → Option (List ℕ) → Option (List ℕ) → Option (List ℕ) → Option FlatFault
answer line absent port missing twice =
    option_or (if absent then Some (UnknownModel line) else None)
    (option_or (option_map (UnknownPort line) port)
    (option_or (option_map (PortMissing line) missing)
    (option_or (option_map (DefinedTwice line) twice) None)))

found_bare : (line : ℕ) (c : Subcircuit) (ms : List Model) (home : Model) (above : List Statement) → first_found checks (site line c (map bare ms) (bare home) above) ≡ first_found checks (site line c ms home above)
found_bare line c ms home above =
    let o : Option Model = model_named ms c.model in
    let p : Option Model = model_named (map bare ms) c.model in
    let plain : List (List ℕ) = flat_map (λ (s : Statement). defined_plainly s.kind) home.statements in
    let e : p ≡ option_map bare o = named_bare ms c.model in
    let absent : is_absent p ≡ is_absent o = ap is_absent e ∙ absent_bare o in
    let port : foreign c.binds p ≡ foreign c.binds o = ap (foreign c.binds) e ∙ foreign_bare c.binds o in
    let missing : unbound c.binds p ≡ unbound c.binds o = ap (unbound c.binds) e ∙ unbound_bare c.binds o in
    let twice : first_again (plain ++ flat_map (λ (s : Statement). defined_inside (map bare ms) s.kind) above) (defines_of c.binds p) ≡ first_again (plain ++ flat_map (λ (s : Statement). defined_inside ms s.kind) above) (defines_of c.binds o)
    = ap₂ (λ (a b : List (List ℕ)). first_again (plain ++ a) b) (all_inside ms above) (ap (defines_of c.binds) e ∙ defines_bare c.binds o) in
    ap₂ (λ (a : Bool) (b : Option (List ℕ)). answer line a b (unbound c.binds p) (first_again (plain ++ flat_map (λ (s : Statement). defined_inside (map bare ms) s.kind) above) (defines_of c.binds p))) absent port
    ∙ ap₂ (λ (a b : Option (List ℕ)). answer line (is_absent o) (foreign c.binds o) a b) missing twice

kind_bare : (ms : List Model) (home : Model) (above : List Statement) (line : ℕ) (kind : StatementKind) → statement_fault checks (map bare ms) (bare home) above line kind ≡ statement_fault checks ms home above line kind
kind_bare ms home above line (Inputs words) = refl
kind_bare ms home above line (Outputs words) = refl
kind_bare ms home above line (Clock words) = refl
kind_bare ms home above line (OneLatch latch) = refl
kind_bare ms home above line (OneTable table) = refl
kind_bare ms home above line (OneSubcircuit c) = found_bare line c ms home above

statements_bare : (ms : List Model) (home : Model) (above ss : List Statement) → first_of_statements checks (map bare ms) (bare home) above ss ≡ first_of_statements checks ms home above ss
statements_bare ms home above [] = refl
statements_bare ms home above (s ∷ ss) = ap₂ (λ (a b : Option FlatFault). option_or a b) (kind_bare ms home above s.line s.kind) (statements_bare ms home (s ∷ above) ss)

models_bare : (all ms : List Model) → first_of_models checks (map bare all) (map bare ms) ≡ first_of_models checks all ms
models_bare all [] = refl
models_bare all (m ∷ ms) = ap₂ (λ (a b : Option FlatFault). option_or a b) (statements_bare all m [] m.statements) (models_bare all ms)

-- the first of the read names that isn't defined
abbrev missing : List (List ℕ) → List (List ℕ) → Option (List ℕ)
missing names read = find (λ name. not (has_word names name)) read

undriven_bare : (all ms : List Model) → first_undriven (map bare all) (map bare ms) ≡ first_undriven all ms
undriven_bare all [] = refl
undriven_bare all (m ∷ ms) = ap₂ (λ (a b : Option (List ℕ)). option_or a b)
    (ap₂ (λ (a b : List (List ℕ)). missing (flat_map (λ (s : Statement). defined_plainly s.kind) m.statements ++ a) b) (all_inside all m.statements) (all_read all m.statements))
    (undriven_bare all ms)

pub fault_bare : (models : Models) → first_fault_of_models (all_bare models) ≡ first_fault_of_models models
fault_bare models =
    let all : List Model = all_of models in
    ap₂ (λ (a : Option FlatFault) (b : Option (List ℕ)). option_or a (option_map Undriven b)) (models_bare all all) (undriven_bare all all)

pub contents_bare : (ms : List Model) → map contents (map bare ms) ≡ map contents ms
contents_bare [] = refl
contents_bare (m ∷ ms) = ap (λ l. contents m ∷ l) (contents_bare ms)
