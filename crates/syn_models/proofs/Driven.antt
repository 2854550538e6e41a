-- The flattening of models without a fault defines each name that it reads: an input of an instance is called as an actual that the model outside reads, and so defines; an output that the model outside counts on is defined inside.
use Rattle.std.proofs.Common.{◌≡◌, ℕ, suc, ◌+◌, ◌≤◌, not, Bool, true, false, List, [], ◌∷◌, ◌++◌, map, filter, find, flat_map, bytes_eq, refl, sym, ap, ◌∙◌, subst, inl, inr, Option, Some, None, option_map, arith, append-nil}
use Rattle.std.specs.List.{list_all}
use Rattle.std.specs.Option.{option_or}
use Rattle.std.proofs.lemmas.Bool.{and_parts, and_from, or_cases, or_from, or_left, or_right, cases_Bool, both_ways, cond-true, cond-false, not-true, not_from_true, false_from_ne_true}
use Rattle.std.proofs.lemmas.List.Concat.{flat_map-append}
use Rattle.syn_netlist.specs.declared.LatchKind.{LatchKind}
use Rattle.syn_netlist.specs.Words.{has_word, distinct, without}
use Rattle.syn_netlist.specs.Lists.{Latch, Table, Netlist, latch_output, output_of, latch_reads, control_of}
use Rattle.syn_netlist.specs.Order.{defined}
use Rattle.syn_netlist.specs.Faults.{first_undriven, inputs_of as table_inputs, reads}
use Rattle.syn_netlist.proofs.Arranging.{none_found}
use Rattle.syn_netlist.proofs.Sets.{same_word, word_same, has_word-append, has_left, has_right, all_at, all_each}
use Rattle.syn_models.specs.Models.{Bind, Subcircuit, StatementKind, Inputs, Outputs, Clock, OneLatch, OneTable, OneSubcircuit, Statement, Model, Models, all_of, inputs_in, clocks_in, outputs_in, subcircuits_in, inputs_of, clocks_of, outputs_of, reading_ports, is_reading, is_port, actual_of, formal_of, actual_in, is_bound, binds_once, formals_once}
use Rattle.syn_models.specs.Opening.{Opened, End, Plain, Instance, Opens, instances}
use Rattle.syn_models.specs.Flattening.{inner_name, outer_or, called_inside, as_it_is, called_kind, called_latch, flat, latches_called, tables_called, flattened}
use Rattle.syn_models.specs.declared.flat_fault.FlatFault.TheVariants.{Undriven}
use Rattle.syn_models.specs.FlatFaults.{Site, checks, statement_fault, first_of_statements, first_of_models, first_fault_of_models, foreign, unbound, reads_of, defines_of, defined_plainly, defined_in, names_read, undriven_in}
use Rattle.syn_models.specs.FlatFaults as faults
use Rattle.syn_models.specs.Laws.{FlatteningIsDriven}
use Rattle.syn_models.proofs.Existing.{Among, named_among}
use Rattle.syn_models.proofs.Occurrences.{occ, bit-on, occ-append, occ_none, none_occ}
use Rattle.syn_models.proofs.Once.{makes_plainly, makes, made, made_is, plain_of, inside_of, makes_counted, or_none_parts, map_none, site_faultless, has_false_left, among_faultless, listed, reading_listed, all_append}

-- what statements read
abbrev reads_in : List Model → List Statement → List (List ℕ)
reads_in models ss = flat_map (λ (s : Statement). names_read models s.kind) ss

-- What is known of each instance: no formal is bound twice, all are ports, all ports that read are bound, and its model defines what it reads.
abbrev Ready : List Model → Opened → Type 0
Ready models End = Unit {0}
Ready models (Plain kind rest) = Ready models rest
Ready models (Instance c m inside rest) =
    (binds_once c ≡ true) × (foreign c.binds (Some m) ≡ None) × (unbound c.binds (Some m) ≡ None) × (list_all (has_word (defined_in models m)) (reads_in models m.statements) ≡ true)
    × Opens models m.statements inside × Ready models inside × Ready models rest

-- What is known of each model.
record IsReady (models : List Model) (m : Model) : Type 0 where
  pub faultless : first_of_statements checks models m [] m.statements ≡ None
  pub driven : undriven_in models m ≡ None
  pub formals : formals_once m ≡ true

all_append_parts : (test : Subcircuit → Bool) (xs ys : List Subcircuit) → list_all test (xs ++ ys) ≡ true → (list_all test xs ≡ true) × (list_all test ys ≡ true)
all_append_parts test [] ys a = (refl, a)
all_append_parts test (x ∷ xs) ys a =
    let parts = and_parts (test x) (list_all test (xs ++ ys)) a in
    let more = all_append_parts test xs ys parts.1 in
    (and_from (test x) (list_all test xs) parts.0 more.0, more.1)

ready_tree : (models : List Model) → ((m : Model) → Among models m → IsReady models m) → (home : Model) (above ss : List Statement) (tree : Opened) → first_of_statements checks models home above ss ≡ None
    → list_all binds_once (flat_map (λ (s : Statement). subcircuits_in s.kind) ss) ≡ true → Opens models ss tree → Ready models tree
ready_tree models ready home above [] End e b o = tt
ready_tree models ready home above [] (Plain kind rest) e b o = absurd o
ready_tree models ready home above [] (Instance c m inside rest) e b o = absurd o
ready_tree models ready home above (s ∷ ss) End e b o = absurd o
ready_tree models ready home above (s ∷ ss) (Plain kind rest) e b o =
    ready_tree models ready home (s ∷ above) ss rest (or_none_parts (statement_fault checks models home above s.line s.kind) (first_of_statements checks models home (s ∷ above) ss) e).1
    (all_append_parts binds_once (subcircuits_in s.kind) (flat_map (λ (s : Statement). subcircuits_in s.kind) ss) b).1 o.2
ready_tree models ready home above (s ∷ ss) (Instance c m inside rest) e b o =
    let parts = or_none_parts (statement_fault checks models home above s.line s.kind) (first_of_statements checks models home (s ∷ above) ss) e in
    let binds = all_append_parts binds_once (subcircuits_in s.kind) (flat_map (λ (s : Statement). subcircuits_in s.kind) ss) b in
    let site : Site = record { line = s.line; here = c; models = models; home = home; above = above } in
    let fine = site_faultless site (sym (ap (statement_fault checks models home above s.line) o.0) ∙ parts.0) in
    let mine = ready m (named_among models c.model m o.1).0 in (
      (and_parts (binds_once c) true (sym (ap (λ (k : StatementKind). list_all binds_once (subcircuits_in k)) o.0) ∙ binds.0)).0,
      sym (ap (foreign c.binds) o.1) ∙ fine.unknown_port,
      sym (ap (unbound c.binds) o.1) ∙ fine.port_missing,
      none_found (has_word (defined_in models m)) (reads_in models m.statements) mine.driven,
      o.2,
      ready_tree models ready m [] m.statements inside mine.faultless mine.formals o.2,
      ready_tree models ready home (s ∷ above) ss rest parts.1 binds.1 o.3,
    )

-- lists

has_called : (called : List ℕ → List ℕ) (xs : List (List ℕ)) (y : List ℕ) → has_word xs y ≡ true → 1 ≤ occ (called y) (map called xs)
has_called called [] y h = absurd (both_ways false refl h)
has_called called (x ∷ xs) y h = elim (or_cases (bytes_eq x y) (has_word xs y) h) [
  | inl e ↦ (let same : bytes_eq (called x) (called y) ≡ true = subst (λ (k : List ℕ). bytes_eq (called x) (called k) ≡ true) (same_word x y e) (word_same (called x)) in omega (arith, bit-on (bytes_eq (called x) (called y)) same))
  | inr t ↦ omega (arith, has_called called xs y t)
]

all_called : (test : List ℕ → Bool) (called : List ℕ → List ℕ) (xs : List (List ℕ)) → ((x : List ℕ) → has_word xs x ≡ true → test (called x) ≡ true) → list_all test (map called xs) ≡ true
all_called test called [] h = refl
all_called test called (x ∷ xs) h = and_from (test (called x)) (list_all test (map called xs)) (h x (or_left (bytes_eq x x) (has_word xs x) (word_same x))) (all_called test called xs (λ y t. h y (or_right (bytes_eq x y) (has_word xs y) t)))

-- what a model defines and doesn't read as a port it makes

one_plain_none : (kind : StatementKind) (y : List ℕ) → has_word (inputs_in kind) y ≡ false → has_word (clocks_in kind) y ≡ false → has_word (makes_plainly kind) y ≡ false → has_word (defined_plainly kind) y ≡ false
one_plain_none (OneLatch l) y a b c = c
one_plain_none (OneTable t) y a b c = c
one_plain_none (Inputs ws) y a b c = a
one_plain_none (Outputs ws) y a b c = refl
one_plain_none (Clock ws) y a b c = b
one_plain_none (OneSubcircuit s) y a b c = refl

plain_none : (ss : List Statement) (y : List ℕ) → has_word (flat_map (λ (s : Statement). inputs_in s.kind) ss) y ≡ false → has_word (flat_map (λ (s : Statement). clocks_in s.kind) ss) y ≡ false → has_word (plain_of ss) y ≡ false
    → has_word (flat_map (λ (s : Statement). defined_plainly s.kind) ss) y ≡ false
plain_none [] y a b c = refl
plain_none (s ∷ ss) y a b c =
    let (a0, a1) = has_false_left (inputs_in s.kind) (flat_map (λ (s : Statement). inputs_in s.kind) ss) y a in
    let (b0, b1) = has_false_left (clocks_in s.kind) (flat_map (λ (s : Statement). clocks_in s.kind) ss) y b in
    let (c0, c1) = has_false_left (makes_plainly s.kind) (plain_of ss) y c in
    has_word-append (defined_plainly s.kind) (flat_map (λ (s : Statement). defined_plainly s.kind) ss) y
    ∙ or_from (has_word (defined_plainly s.kind) y) (has_word (flat_map (λ (s : Statement). defined_plainly s.kind) ss) y) (one_plain_none s.kind y a0 b0 c0) (plain_none ss y a1 b1 c1)

defined_makes : (models : List Model) (m : Model) (tree : Opened) → Opens models m.statements tree → (y : List ℕ) → has_word (defined_in models m) y ≡ true → is_reading m y ≡ false → has_word (makes tree) y ≡ true
defined_makes models m tree o y h r = elim (cases_Bool (has_word (makes tree) y)) [
  | inl t ↦ t
  | inr f ↦ (
      let counted = makes_counted models m.statements tree o y in
      let zero_occ = occ_none y (makes tree) f in
      let plain : has_word (plain_of m.statements) y ≡ false = none_occ y (plain_of m.statements) (omega arith) in
      let inside : has_word (inside_of models m.statements) y ≡ false = none_occ y (inside_of models m.statements) (omega arith) in
      let (i, c) = has_false_left (inputs_of m) (clocks_of m) y r in
      absurd (both_ways (has_word (defined_in models m) y)
      (has_word-append (flat_map (λ (s : Statement). defined_plainly s.kind) m.statements) (inside_of models m.statements) y
      ∙ or_from (has_word (flat_map (λ (s : Statement). defined_plainly s.kind) m.statements) y) (has_word (inside_of models m.statements) y) (plain_none m.statements y i c plain) inside) h))
]

outputs_read : (models : List Model) (ss : List Statement) (y : List ℕ) → has_word (flat_map (λ (s : Statement). outputs_in s.kind) ss) y ≡ true → has_word (reads_in models ss) y ≡ true
outputs_read models [] y h = h
outputs_read models (s ∷ ss) y h = elim (or_cases (has_word (outputs_in s.kind) y) (has_word (flat_map (λ (s : Statement). outputs_in s.kind) ss) y) (sym (has_word-append (outputs_in s.kind) (flat_map (λ (s : Statement). outputs_in s.kind) ss) y) ∙ h)) [
  | inl t ↦ has_left (names_read models s.kind) (reads_in models ss) y (one s.kind t)
  | inr t ↦ has_right (names_read models s.kind) (reads_in models ss) y (outputs_read models ss y t)
]
  where
    one : (kind : StatementKind) → has_word (outputs_in kind) y ≡ true → has_word (names_read models kind) y ≡ true
    one (OneLatch l) h = absurd (both_ways false refl h)
    one (OneTable t) h = absurd (both_ways false refl h)
    one (Inputs ws) h = absurd (both_ways false refl h)
    one (Outputs ws) h = h
    one (Clock ws) h = absurd (both_ways false refl h)
    one (OneSubcircuit c) h = absurd (both_ways false refl h)

-- binds

-- an actual that is defined is that of a formal that doesn't read
pub record IsDefining (test : Bind → Bool) (binds : List Bind) (y : List ℕ) : Type 0 where
  pub formal : List ℕ
  pub bound : actual_of binds formal ≡ Some y
  pub there : has_word (map formal_of binds) formal ≡ true
  pub chosen : (b : Bind) × (b.formal ≡ formal) × (test b ≡ true)

defining_bind : (test : Bind → Bool) (binds : List Bind) (y : List ℕ) → distinct (map formal_of binds) ≡ true → has_word (map actual_in (filter test binds)) y ≡ true → IsDefining test binds y
defining_bind test [] y d h = absurd (both_ways false refl h)
defining_bind test (b ∷ bs) y d h = by_test (test b) refl (λ t. defining_bind test bs y parts.1 t)
  where
    parts : (not (has_word (map formal_of bs) b.formal) ≡ true) × (distinct (map formal_of bs) ≡ true)
    parts = and_parts (not (has_word (map formal_of bs) b.formal)) (distinct (map formal_of bs)) d

    later : IsDefining test bs y → IsDefining test (b ∷ bs) y
    later r =
        let apart : bytes_eq b.formal r.formal ≡ false = false_from_ne_true (bytes_eq b.formal r.formal) (λ e. both_ways (has_word (map formal_of bs) b.formal) (not-true (has_word (map formal_of bs) b.formal) parts.0) (subst (λ (k : List ℕ). has_word (map formal_of bs) k ≡ true) (sym (same_word b.formal r.formal e)) r.there)) in
        record {
          formal = r.formal;
          bound = cond-false (bytes_eq b.formal r.formal) (Some b.actual) (actual_of bs r.formal) apart ∙ r.bound;
          there = or_right (bytes_eq b.formal r.formal) (has_word (map formal_of bs) r.formal) r.there;
          chosen = r.chosen;
        }

    by_test : (t : Bool) → test b ≡ t → (has_word (map actual_in (filter test bs)) y ≡ true → IsDefining test bs y) → IsDefining test (b ∷ bs) y
    by_test false e ih = later (ih (sym (ap (λ (l : List Bind). has_word (map actual_in l) y) (cond-false (test b) (b ∷ filter test bs) (filter test bs) e)) ∙ h))
    by_test true e ih =
        let here : has_word (b.actual ∷ map actual_in (filter test bs)) y ≡ true = sym (ap (λ (l : List Bind). has_word (map actual_in l) y) (cond-true (test b) (b ∷ filter test bs) (filter test bs) e)) ∙ h in
        elim (or_cases (bytes_eq b.actual y) (has_word (map actual_in (filter test bs)) y) here) [
          | inl s ↦ record {
            formal = b.formal;
            bound = cond-true (bytes_eq b.formal b.formal) (Some b.actual) (actual_of bs b.formal) (word_same b.formal) ∙ ap (λ (w : List ℕ). Some w) (same_word b.actual y s);
            there = or_left (bytes_eq b.formal b.formal) (has_word (map formal_of bs) b.formal) (word_same b.formal);
            chosen = (b, refl, e);
          }
          | inr r ↦ later (ih r)
        ]

-- the actual of a bound formal is chosen where the test is on formals and holds
chosen_actual : (test : List ℕ → Bool) (binds : List Bind) (y : List ℕ) → is_bound binds y ≡ true → test y ≡ true → (a : List ℕ) × (actual_of binds y ≡ Some a) × (has_word (map actual_in (filter (λ (b : Bind). test b.formal) binds)) a ≡ true)
chosen_actual test [] y h t = absurd (both_ways false refl h)
chosen_actual test (b ∷ bs) y h t = by_word (bytes_eq b.formal y) refl (λ r. chosen_actual test bs y r t)
  where
    more : (a : List ℕ) → has_word (map actual_in (filter (λ (b : Bind). test b.formal) bs)) a ≡ true → has_word (map actual_in (filter (λ (b : Bind). test b.formal) (b ∷ bs))) a ≡ true
    more a r = elim (cases_Bool (test b.formal)) [
      | inl e ↦ ap (λ (l : List Bind). has_word (map actual_in l) a) (cond-true (test b.formal) (b ∷ filter (λ (b : Bind). test b.formal) bs) (filter (λ (b : Bind). test b.formal) bs) e) ∙ or_right (bytes_eq b.actual a) (has_word (map actual_in (filter (λ (b : Bind). test b.formal) bs)) a) r
      | inr e ↦ ap (λ (l : List Bind). has_word (map actual_in l) a) (cond-false (test b.formal) (b ∷ filter (λ (b : Bind). test b.formal) bs) (filter (λ (b : Bind). test b.formal) bs) e) ∙ r
    ]

    by_word : (e : Bool) → bytes_eq b.formal y ≡ e → (is_bound bs y ≡ true → (a : List ℕ) × (actual_of bs y ≡ Some a) × (has_word (map actual_in (filter (λ (b : Bind). test b.formal) bs)) a ≡ true))
        → (a : List ℕ) × (actual_of (b ∷ bs) y ≡ Some a) × (has_word (map actual_in (filter (λ (b : Bind). test b.formal) (b ∷ bs))) a ≡ true)
    by_word true e ih = (
      b.actual,
      cond-true (bytes_eq b.formal y) (Some b.actual) (actual_of bs y) e,
      ap (λ (l : List Bind). has_word (map actual_in l) b.actual) (cond-true (test b.formal) (b ∷ filter (λ (b : Bind). test b.formal) bs) (filter (λ (b : Bind). test b.formal) bs) (subst (λ (k : List ℕ). test k ≡ true) (sym (same_word b.formal y e)) t))
          ∙ or_left (bytes_eq b.actual b.actual) (has_word (map actual_in (filter (λ (b : Bind). test b.formal) bs)) b.actual) (word_same b.actual),
    )
    by_word false e ih =
        let r = ih (elim (or_cases (bytes_eq b.formal y) (is_bound bs y) h) [ inl s ↦ absurd (both_ways (bytes_eq b.formal y) e s) | inr s ↦ s ]) in
        (r.0, cond-false (bytes_eq b.formal y) (Some b.actual) (actual_of bs y) e ∙ r.1, more r.0 r.2)

-- an output is a port: it is defined inside, and no port that reads
output_made : (models : List Model) (m : Model) (binds : List Bind) (inside : Opened) (formal : List ℕ) → foreign binds (Some m) ≡ None → list_all (has_word (defined_in models m)) (reads_in models m.statements) ≡ true → Opens models m.statements inside
    → has_word (map formal_of binds) formal ≡ true → is_reading m formal ≡ false → has_word (makes inside) formal ≡ true
output_made models m binds inside formal known driven o there r =
    let port : is_port m formal ≡ true = all_at (is_port m) (map formal_of binds) formal (none_found (is_port m) (map formal_of binds) known) there in
    let output : has_word (outputs_of m) formal ≡ true = elim (or_cases (is_reading m formal) (has_word (outputs_of m) formal) port) [ inl t ↦ absurd (both_ways (is_reading m formal) r t) | inr t ↦ t ] in
    defined_makes models m inside o formal (all_at (has_word (defined_in models m)) (reads_in models m.statements) formal driven (outputs_read models m.statements formal output)) r

-- what statements make is defined in the flattening, as it is called there
arrives : (models : List Model) (inner : ℕ → List ℕ → List ℕ) (next : ℕ) (called : List ℕ → List ℕ) (tree : Opened) → Ready models tree → (y : List ℕ) → has_word (makes tree) y ≡ true → 1 ≤ made (called y) inner next called tree
arrives models inner next called End ready y h = absurd (both_ways false refl h)
arrives models inner next called (Plain kind rest) ready y h = elim (or_cases (has_word (makes_plainly kind) y) (has_word (makes rest) y) (sym (has_word-append (makes_plainly kind) (makes rest) y) ∙ h)) [
  | inl t ↦ omega (arith, has_called called (makes_plainly kind) y t)
  | inr t ↦ omega (arith, arrives models inner next called rest ready y t)
]
arrives models inner next called (Instance c m inside rest) ready y h =
    elim (or_cases (has_word (defines_of c.binds (Some m)) y) (has_word (makes rest) y) (sym (has_word-append (defines_of c.binds (Some m)) (makes rest) y) ∙ h)) [
      | inl t ↦ (
          let b = defining_bind (λ (b : Bind). not (is_reading m b.formal)) c.binds y ready.0 t in
          let r : is_reading m b.formal ≡ false = ap (is_reading m) (sym b.chosen.1) ∙ not-true (is_reading m b.chosen.0.formal) b.chosen.2 in
          let in_it : has_word (makes inside) b.formal ≡ true = output_made models m c.binds inside b.formal ready.1 ready.3 ready.4 b.there r in
          let own : List ℕ → List ℕ = called_inside called (inner next) c.binds in
          let there : 1 ≤ made (own b.formal) inner (suc next) own inside = arrives models inner (suc next) own inside ready.5 b.formal in_it in
          let same : own b.formal ≡ called y = ap (outer_or called (inner next b.formal)) b.bound in
          let there_too : 1 ≤ made (called y) inner (suc next) own inside = subst (λ (w : List ℕ). 1 ≤ made w inner (suc next) own inside) same there in
          omega arith)
      | inr t ↦ omega (arith, arrives models inner (suc (next + instances inside)) called rest ready.6 y t)
    ]

-- reads

called_reads : (called : List ℕ → List ℕ) (l : Latch) → latch_reads (called_latch called l) ≡ map called (latch_reads l)
called_reads called l = ap (λ (ws : List (List ℕ)). called l.feed ∷ ws) (control l.kind)
  where
    control : (kind : Option (LatchKind × Option (List ℕ))) → control_of (called_kind called kind) ≡ map called (control_of kind)
    control None = refl
    control (Some (kind, None)) = refl
    control (Some (kind, Some name)) = refl

-- both lists of what a flattening reads
abbrev ReadsHold : (List ℕ → Bool) → List Latch → List Table → Type 0
ReadsHold test latches tables = (list_all test (flat_map latch_reads latches) ≡ true) × (list_all test (flat_map table_inputs tables) ≡ true)

reads_joined : (test : List ℕ → Bool) (xs ys : List Latch) (ts us : List Table) → ReadsHold test xs ts → ReadsHold test ys us → ReadsHold test (xs ++ ys) (ts ++ us)
reads_joined test xs ys ts us a b = (
  ap (list_all test) (flat_map-append latch_reads xs ys) ∙ all_append test (flat_map latch_reads xs) (flat_map latch_reads ys) a.0 b.0,
  ap (list_all test) (flat_map-append table_inputs ts us) ∙ all_append test (flat_map table_inputs ts) (flat_map table_inputs us) a.1 b.1,
)

one_reads : (models : List Model) (test : List ℕ → Bool) (called : List ℕ → List ℕ) (kind : StatementKind) → ((y : List ℕ) → has_word (names_read models kind) y ≡ true → test (called y) ≡ true) → ReadsHold test (latches_called called kind) (tables_called called kind)
one_reads models test called (OneLatch l) h = (ap (list_all test) (append-nil (latch_reads (called_latch called l)) ∙ called_reads called l) ∙ all_called test called (latch_reads l) h, refl)
one_reads models test called (OneTable t) h = (refl, ap (list_all test) (append-nil (map called t.inputs)) ∙ all_called test called t.inputs h)
one_reads models test called (Inputs ws) h = (refl, refl)
one_reads models test called (Outputs ws) h = (refl, refl)
one_reads models test called (Clock ws) h = (refl, refl)
one_reads models test called (OneSubcircuit c) h = (refl, refl)

-- where a test holds of what is defined, and of what the statements' own names that they read are called, it holds of all that the flattening reads
reads_hold : (models : List Model) (test : List ℕ → Bool) (inner : ℕ → List ℕ → List ℕ) (next : ℕ) (called : List ℕ → List ℕ) (ss : List Statement) (tree : Opened) → Opens models ss tree → Ready models tree
    → ((w : List ℕ) → 1 ≤ made w inner next called tree → test w ≡ true) → ((y : List ℕ) → has_word (reads_in models ss) y ≡ true → test (called y) ≡ true)
    → ReadsHold test (flat latches_called inner next called tree) (flat tables_called inner next called tree)
reads_hold models test inner next called [] End o ready d r = (refl, refl)
reads_hold models test inner next called [] (Plain kind rest) o ready d r = absurd o
reads_hold models test inner next called [] (Instance c m inside rest) o ready d r = absurd o
reads_hold models test inner next called (s ∷ ss) End o ready d r = absurd o
reads_hold models test inner next called (s ∷ ss) (Plain kind rest) o ready d r =
    reads_joined test (latches_called called kind) (flat latches_called inner next called rest) (tables_called called kind) (flat tables_called inner next called rest)
    (one_reads models test called kind (λ y h. r y (has_left (names_read models s.kind) (reads_in models ss) y (ap (λ (k : StatementKind). has_word (names_read models k) y) o.0 ∙ h))))
    (reads_hold models test inner next called ss rest o.2 ready (λ w l. d w (omega arith)) (λ y h. r y (has_right (names_read models s.kind) (reads_in models ss) y h)))
reads_hold models test inner next called (s ∷ ss) (Instance c m inside rest) o ready d r =
    let own : List ℕ → List ℕ = called_inside called (inner next) c.binds in
    let here : (y : List ℕ) → has_word (reads_of c.binds (Some m)) y ≡ true → test (called y) ≡ true =
    λ y h. r y (has_left (names_read models s.kind) (reads_in models ss) y (ap (λ (k : StatementKind). has_word (names_read models k) y) o.0 ∙ ap (λ (x : Option Model). has_word (reads_of c.binds x) y) o.1 ∙ h)) in
    let read : (y : List ℕ) → has_word (reads_in models m.statements) y ≡ true → test (own y) ≡ true =
    λ y h. (
    let known : has_word (defined_in models m) y ≡ true = all_at (has_word (defined_in models m)) (reads_in models m.statements) y ready.3 h in
    elim (cases_Bool (is_reading m y)) [
      | inl t ↦ (
          let bound : is_bound c.binds y ≡ true = all_at (is_bound c.binds) (reading_ports m) y (none_found (is_bound c.binds) (reading_ports m) ready.2) t in
          let a = chosen_actual (is_reading m) c.binds y bound t in
          ap test (ap (outer_or called (inner next y)) a.1) ∙ here a.0 a.2)
      | inr f ↦ (
          let there : 1 ≤ made (own y) inner (suc next) own inside = arrives models inner (suc next) own inside ready.5 y (defined_makes models m inside ready.4 y known f) in
          d (own y) (omega arith))
    ]) in
    reads_joined test (flat latches_called inner (suc next) own inside) (flat latches_called inner (suc (next + instances inside)) called rest) (flat tables_called inner (suc next) own inside) (flat tables_called inner (suc (next + instances inside)) called rest)
    (reads_hold models test inner (suc next) own m.statements inside o.2 ready.5 (λ w l. d w (omega arith)) read)
    (reads_hold models test inner (suc (next + instances inside)) called ss rest o.3 ready.6 (λ w l. d w (omega arith)) (λ y h. r y (has_right (names_read models s.kind) (reads_in models ss) y h)))

-- the whole

word_none : (a b : Option (List ℕ)) → option_or a b ≡ None → (a ≡ None) × (b ≡ None)
word_none None b e = (refl, e)
word_none (Some f) b e = absurd (let z : ◌≡◌ {A = Option (List ℕ)} (Some f) None = e in cc)

among_driven : (models ms : List Model) → faults.first_undriven models ms ≡ None → (m : Model) → Among ms m → undriven_in models m ≡ None
among_driven models [] e m h = absurd h
among_driven models (x ∷ xs) e m (inl s) = subst (λ (k : Model). undriven_in models k ≡ None) s (word_none (undriven_in models x) (faults.first_undriven models xs) e).0
among_driven models (x ∷ xs) e m (inr h) = among_driven models xs (word_none (undriven_in models x) (faults.first_undriven models xs) e).1 m h

among_formals : (ms : List Model) → list_all formals_once ms ≡ true → (m : Model) → Among ms m → formals_once m ≡ true
among_formals [] a m h = absurd h
among_formals (x ∷ xs) a m (inl e) = subst (λ (k : Model). formals_once k ≡ true) e (and_parts (formals_once x) (list_all formals_once xs) a).0
among_formals (x ∷ xs) a m (inr h) = among_formals xs (and_parts (formals_once x) (list_all formals_once xs) a).1 m h

pub find_none : (test : List ℕ → Bool) (ws : List (List ℕ)) → list_all test ws ≡ true → find (λ w. not (test w)) ws ≡ None
find_none test [] h = refl
find_none test (w ∷ ws) h =
    let parts = and_parts (test w) (list_all test ws) h in
    cond-false (not (test w)) (Some w) (find (λ w. not (test w)) ws) (not_from_true (test w) parts.0) ∙ find_none test ws parts.1

pub flattened_driven : (models : Models) (tree : Opened) (count : ℕ) → list_all formals_once (all_of models) ≡ true → first_fault_of_models models ≡ None → Opens (all_of models) models.main.statements tree → first_undriven (flattened models.main tree count) ≡ None
flattened_driven models tree count formals e o =
    let all : List Model = all_of models in
    let main : Model = models.main in
    let parts = or_none_parts (first_of_models checks all all) (option_map Undriven (faults.first_undriven all all)) e in
    let undriven = map_none Undriven (faults.first_undriven all all) parts.1 in
    let ready : (m : Model) → Among all m → IsReady all m = λ m h. record { faultless = among_faultless all all parts.0 m h; driven = among_driven all all undriven m h; formals = among_formals all formals m h } in
    let mine = ready main (inl refl) in
    let good : Ready all tree = ready_tree all ready main [] main.statements tree mine.faultless mine.formals o in
    let n : Netlist = flattened main tree count in
    let lats : List Latch = flat latches_called (inner_name count) 1 as_it_is tree in
    let tabs : List Table = flat tables_called (inner_name count) 1 as_it_is tree in
    let some : (w : List ℕ) → 1 ≤ listed main w + made w (inner_name count) 1 as_it_is tree → has_word (defined n) w ≡ true =
    λ w l. elim (cases_Bool (has_word (defined n) w)) [
      | inl t ↦ t
      | inr f ↦ absurd (omega (
        arith,
        occ_none w (defined n) f,
        made_is w (inner_name count) 1 as_it_is tree,
        occ-append w (inputs_of main ++ (without (inputs_of main) (clocks_of main) ++ map latch_output lats)) (map output_of tabs),
        occ-append w (inputs_of main) (without (inputs_of main) (clocks_of main) ++ map latch_output lats),
        occ-append w (without (inputs_of main) (clocks_of main)) (map latch_output lats),
      ))
    ] in
    let own : (y : List ℕ) → has_word (reads_in all main.statements) y ≡ true → has_word (defined n) y ≡ true =
    λ y h. (
    let known : has_word (defined_in all main) y ≡ true = all_at (has_word (defined_in all main)) (reads_in all main.statements) y (none_found (has_word (defined_in all main)) (reads_in all main.statements) mine.driven) h in
    elim (cases_Bool (is_reading main y)) [
      | inl t ↦ some y (omega (arith, reading_listed main y t))
      | inr f ↦ some y (omega (arith, arrives all (inner_name count) 1 as_it_is tree good y (defined_makes all main tree o y known f)))
    ]) in
    let inside = reads_hold all (has_word (defined n)) (inner_name count) 1 as_it_is main.statements tree o good (λ w l. some w (omega arith)) own in
    let outputs : list_all (has_word (defined n)) (outputs_of main) ≡ true = all_each (has_word (defined n)) (outputs_of main) (λ y h. own y (outputs_read all main.statements y h)) in
    find_none (has_word (defined n)) (reads n)
    (all_append (has_word (defined n)) (outputs_of main) (flat_map latch_reads lats ++ flat_map table_inputs tabs) outputs (all_append (has_word (defined n)) (flat_map latch_reads lats) (flat_map table_inputs tabs) inside.0 inside.1))

pub flattening_is_driven : FlatteningIsDriven
flattening_is_driven models n formals e f = subst (λ (n : Netlist). first_undriven n ≡ None) (sym f.is) (flattened_driven models f.tree f.count formals e f.opens)
