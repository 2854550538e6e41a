-- The flattening is put together, and keeps what a netlist's type asks.
use Rattle.std.proofs.Common.{◌≡◌, ℕ, suc, ◌+◌, ◌^◌, ◌≤◌, ◌<◌, ◌++◌, ◌&&◌, not, get_or, Bool, true, false, List, [], ◌∷◌, map, flat_map, length, bytes_eq, refl, sym, ap, ap₂, ◌∙◌, subst, inl, inr, Option, Some, None, arith}
use Rattle.std.specs.List.{list_all, All, AllByRecursion}
use Rattle.std.proofs.lemmas.Bool.{and_parts, and_from, both_ways, not-true, not_from_false, false_from_ne_true, cases_Bool, cases_lt, cond-true, cond-false}
use Rattle.std.proofs.lemmas.List.Elements.{All-from_recursion}
use Rattle.syn_netlist.specs.declared.LatchKind.{LatchKind}
use Rattle.syn_netlist.specs.declared.Latch as code_latch
use Rattle.syn_netlist.specs.declared.tables.Table as code_table
use Rattle.syn_netlist.specs.Kept.{latch_in, frame_of, no_nil_control, control_number}
use Rattle.syn_netlist.specs.Lists.{Latch, Table, Frame, Netlist, control_of, output_of, sources}
use Rattle.syn_netlist.specs.Numbers.{word_at, words_at, all_below, kind_at, Grows}
use Rattle.syn_netlist.specs.Order.{DefinedOnce}
use Rattle.syn_netlist.specs.Tables.{table_in}
use Rattle.syn_netlist.specs.Words.{has_word, distinct}
use Rattle.syn_netlist.proofs.Growing.{all_below-more, length-grows, no_nil_words, words_at-grows}
use Rattle.syn_netlist.proofs.Places.{has_word_at, below_parts}
use Rattle.syn_netlist.proofs.Sets.{has_left}
use Rattle.syn_models.specs.Answers.{models_in, IsFirst, frame_with}
use Rattle.syn_models.specs.declared.hierarchy.Bind as binding
use Rattle.syn_models.specs.declared.hierarchy.Model as code
use Rattle.syn_models.specs.declared.hierarchy.Statement as statements
use Rattle.syn_models.specs.declared.hierarchy.StatementKind as numbered
use Rattle.syn_models.specs.declared.hierarchy.StatementKind.TheVariants as kinds
use Rattle.syn_models.specs.declared.met.Instance as met
use Rattle.syn_models.specs.declared.met.Part.{Part}
use Rattle.syn_models.specs.declared.ports.Role.{Role}
use Rattle.syn_models.specs.declared.ports.Role.TheVariants as roles
use Rattle.syn_models.specs.Called.{Spells}
use Rattle.syn_models.specs.Calling.{Calls, IsFewest, inner_count, AreMaps, AreSpelled, BelowPart, SpelledPart, latches_by, tables_by, map_at}
use Rattle.syn_models.specs.FlatFaults.{first_fault_of_models, greatest, told, most_words, NoRecursion, IsFirstFlatFault, WithinWords}
use Rattle.syn_models.specs.declared.flat_fault.FlatFault.TheVariants.{TooManyWords}
use Rattle.syn_models.specs.Flattening.{as_it_is, called_inside, outer_or, called_kind, called_latch, inner_name, flat, latches_called, tables_called, IsFlattening}
use Rattle.syn_models.specs.Kept.{actual_number, bind_in, has_no_nil, kind_has_no_nil, kind_in, not_nil, numbers_in, statement_in, statements_below}
use Rattle.syn_models.specs.Listed.{listed_in, words_listed}
use Rattle.syn_models.specs.Models.{Bind, Models, StatementKind, Inputs, Outputs, Clock, OneLatch, OneTable, OneSubcircuit, Statement, Model, all_of, actual_in, actual_of, alone, inputs_of, clocks_of, is_closed, model_named, names_in}
use Rattle.syn_models.specs.Opening.{Opened, End, Plain, Instance, Opens, instances, words_inside, words_of}
use Rattle.syn_models.specs.Views.{model_in}
use Rattle.syn_models.specs.Walking.{entries_of, entry_in, part_in, homes_of, HomedPart, IsWalked}
use Rattle.syn_models.proofs.Callings.{flat_by_parts, slashes_by_entries, calls_exist, few_names}
use Rattle.syn_models.proofs.Existing.{Among, named_among}
use Rattle.syn_models.proofs.Faults.{opened_without}
use Rattle.syn_models.proofs.InnerNames.{inner_not_nil}
use Rattle.syn_models.proofs.Listing.{words_of_listed, listed_below}
use Rattle.syn_models.proofs.Once.{all_append, flattening_defines_once}
use Rattle.syn_models.proofs.Totalling.{told_few, told_many}

abbrev netlist : Frame → List Table → Netlist
netlist frame tables = record { frame = frame; tables = tables }

abbrev frame : List ℕ → List (List ℕ) → List (List ℕ) → List (List ℕ) → List Latch → Frame
frame model inputs clocks outputs latches = record { model = model; inputs = inputs; clocks = clocks; outputs = outputs; latches = latches }

-- the names of statements are names of the model

actuals_in : (names : List (List ℕ)) (bs : List binding.Bind) → map actual_in (map (bind_in names) bs) ≡ words_at names (map actual_number bs)
actuals_in names [] = refl
actuals_in names (b ∷ bs) = ap (λ (l : List (List ℕ)). word_at names b.actual ∷ l) (actuals_in names bs)

control_words : (names : List (List ℕ)) (kind : Option (LatchKind × Option ℕ)) → control_of (kind_at names kind) ≡ words_at names (control_number kind)
control_words names None = refl
control_words names (Some (kind, None)) = refl
control_words names (Some (kind, Some i)) = refl

kind_names : (names : List (List ℕ)) (kind : numbered.StatementKind) → names_in (kind_in names kind) ≡ words_at names (numbers_in kind)
kind_names names (kinds.Inputs ns) = refl
kind_names names (kinds.Outputs ns) = refl
kind_names names (kinds.Clock ns) = refl
kind_names names (kinds.Latch l) = ap (λ (ws : List (List ℕ)). word_at names l.feed ∷ word_at names l.output ∷ ws) (control_words names l.kind)
kind_names names (kinds.Table t) = refl
kind_names names (kinds.Subckt c) = actuals_in names c.binds

all_there : (names : List (List ℕ)) (numbers : List ℕ) → all_below (length names) numbers ≡ true → list_all (has_word names) (words_at names numbers) ≡ true
all_there names [] h = refl
all_there names (n ∷ ns) h =
    let parts = below_parts (length names) n ns h in
    and_from (has_word names (word_at names n)) (list_all (has_word names) (words_at names ns)) (has_word_at names n parts.0) (all_there names ns parts.1)

statements_closed : (names : List (List ℕ)) (ss : List statements.Statement) → statements_below (length names) ss ≡ true → list_all (λ (s : Statement). list_all (has_word names) (names_in s.kind)) (map (statement_in names) ss) ≡ true
statements_closed names [] h = refl
statements_closed names (s ∷ ss) h =
    let parts = and_parts (all_below (length names) (numbers_in s.kind)) (statements_below (length names) ss) h in
    and_from (list_all (has_word names) (names_in (kind_in names s.kind))) (list_all (λ (s : Statement). list_all (has_word names) (names_in s.kind)) (map (statement_in names) ss))
    (ap (list_all (has_word names)) (kind_names names s.kind) ∙ all_there names (numbers_in s.kind) parts.0) (statements_closed names ss parts.1)

models_closed : (ms : List code.Model) → list_all is_closed (map model_in ms) ≡ true
models_closed [] = refl
models_closed (m ∷ ms) = and_from (is_closed (model_in m)) (list_all is_closed (map model_in ms)) (statements_closed m.names m.statements m.below) (models_closed ms)

models_once : (ms : List code.Model) → AllByRecursion (λ (m : Model). DefinedOnce (alone m)) (map model_in ms)
models_once [] = tt
models_once (m ∷ ms) = (m.once, models_once ms)

-- no control is called `NIL`

abbrev latch_clear : Latch → Bool
latch_clear latch = list_all not_nil (control_of latch.kind)

no_nil_among : (ms : List code.Model) (m : Model) → Among (map model_in ms) m → has_no_nil m ≡ true
no_nil_among [] m h = absurd h
no_nil_among (x ∷ xs) m (inl e) = subst (λ (k : Model). has_no_nil k ≡ true) e x.no_nil
no_nil_among (x ∷ xs) m (inr h) = no_nil_among xs m h

actual_clear : (binds : List Bind) (name actual : List ℕ) → list_all not_nil (map actual_in binds) ≡ true → actual_of binds name ≡ Some actual → not_nil actual ≡ true
actual_clear [] name actual h e = absurd (let z : ◌≡◌ {A = Option (List ℕ)} None (Some actual) = e in cc)
actual_clear (b ∷ bs) name actual h e =
    let parts = and_parts (not_nil b.actual) (list_all not_nil (map actual_in bs)) h in
    elim (cases_Bool (bytes_eq b.formal name)) [
      | inl t ↦ (let s : Some b.actual ≡ Some actual = sym (cond-true (bytes_eq b.formal name) (Some b.actual) (actual_of bs name) t) ∙ e in let same : b.actual ≡ actual = cc in subst (λ (w : List ℕ). not_nil w ≡ true) same parts.0)
      | inr t ↦ actual_clear bs name actual parts.1 (sym (cond-false (bytes_eq b.formal name) (Some b.actual) (actual_of bs name) t) ∙ e)
    ]

abbrev Clear : (List ℕ → List ℕ) → Type 0
Clear called = (name : List ℕ) → not_nil name ≡ true → not_nil (called name) ≡ true

inside_clear : (called inner : List ℕ → List ℕ) (binds : List Bind) → ((name : List ℕ) → not_nil (inner name) ≡ true) → Clear called → list_all not_nil (map actual_in binds) ≡ true → Clear (called_inside called inner binds)
inside_clear called inner binds free clear h name n = go (actual_of binds name) refl
  where
    go : (o : Option (List ℕ)) → actual_of binds name ≡ o → not_nil (called_inside called inner binds name) ≡ true
    go None e = ap (λ (o : Option (List ℕ)). not_nil (outer_or called (inner name) o)) e ∙ free name
    go (Some a) e = ap (λ (o : Option (List ℕ)). not_nil (outer_or called (inner name) o)) e ∙ clear a (actual_clear binds name a h e)

kind_clear : (called : List ℕ → List ℕ) (kind : Option (LatchKind × Option (List ℕ))) → Clear called → list_all not_nil (control_of kind) ≡ true → list_all not_nil (control_of (called_kind called kind)) ≡ true
kind_clear called None clear h = refl
kind_clear called (Some (kind, None)) clear h = refl
kind_clear called (Some (kind, Some name)) clear h = and_from (not_nil (called name)) true (clear name (and_parts (not_nil name) true h).0) refl

plain_clear : (called : List ℕ → List ℕ) (kind : StatementKind) → Clear called → kind_has_no_nil kind ≡ true → list_all latch_clear (latches_called called kind) ≡ true
plain_clear called (Inputs ws) clear h = refl
plain_clear called (Outputs ws) clear h = refl
plain_clear called (Clock ws) clear h = refl
plain_clear called (OneLatch latch) clear h = and_from (latch_clear (called_latch called latch)) true (kind_clear called latch.kind clear h) refl
plain_clear called (OneTable t) clear h = refl
plain_clear called (OneSubcircuit c) clear h = refl

flat_clear : (models : List Model) (inner : ℕ → List ℕ → List ℕ) → ((k : ℕ) (name : List ℕ) → not_nil (inner k name) ≡ true) → ((name : List ℕ) (m : Model) → model_named models name ≡ Some m → has_no_nil m ≡ true)
    → (next : ℕ) (called : List ℕ → List ℕ) → Clear called → (ss : List Statement) (tree : Opened) → list_all (λ (s : Statement). kind_has_no_nil s.kind) ss ≡ true → Opens models ss tree → list_all latch_clear (flat latches_called inner next called tree) ≡ true
flat_clear models inner free all next called clear [] End h o = refl
flat_clear models inner free all next called clear [] (Plain kind rest) h o = absurd o
flat_clear models inner free all next called clear [] (Instance c m inside rest) h o = absurd o
flat_clear models inner free all next called clear (s ∷ ss) End h o = absurd o
flat_clear models inner free all next called clear (s ∷ ss) (Plain kind rest) h o =
    let parts = and_parts (kind_has_no_nil s.kind) (list_all (λ (s : Statement). kind_has_no_nil s.kind) ss) h in
    all_append latch_clear (latches_called called kind) (flat latches_called inner next called rest) (plain_clear called kind clear (subst (λ (k : StatementKind). kind_has_no_nil k ≡ true) o.0 parts.0)) (flat_clear models inner free all next called clear ss rest parts.1 o.2)
flat_clear models inner free all next called clear (s ∷ ss) (Instance c m inside rest) h o =
    let parts = and_parts (kind_has_no_nil s.kind) (list_all (λ (s : Statement). kind_has_no_nil s.kind) ss) h in
    let own : List ℕ → List ℕ = called_inside called (inner next) c.binds in
    all_append latch_clear (flat latches_called inner (suc next) own inside) (flat latches_called inner (suc (next + instances inside)) called rest)
    (flat_clear models inner free all (suc next) own (inside_clear called (inner next) c.binds (free next) clear (subst (λ (k : StatementKind). kind_has_no_nil k ≡ true) o.0 parts.0)) m.statements inside (all c.model m o.1) o.2)
    (flat_clear models inner free all (suc (next + instances inside)) called clear ss rest parts.1 o.3)

-- the maps of parts

below_parts_all : (count : ℕ) (homes : List (List (List ℕ))) (maps : List (List ℕ)) (ps : List Part) → AreMaps count homes maps → AllByRecursion (HomedPart homes) ps → AllByRecursion (BelowPart count maps) ps
below_parts_all count homes maps [] are h = tt
below_parts_all count homes maps (p ∷ ps) are h = (are.below p.place.number h.0.below, below_parts_all count homes maps ps are h.1)

spelled_parts : (all : List (List ℕ)) (homes : List (List (List ℕ))) (calls : ℕ → List ℕ → List ℕ) (maps : List (List ℕ)) (ps : List Part) → AreSpelled all homes calls maps → AllByRecursion (HomedPart homes) ps → AllByRecursion (SpelledPart all calls maps) ps
spelled_parts all homes calls maps [] s h = tt
spelled_parts all homes calls maps (p ∷ ps) s h = (
  subst (λ (own : List (List ℕ)). Spells all own (calls p.place.number) (map_at maps p.place.number)) h.0.names (s p.place.number h.0.below),
  spelled_parts all homes calls maps ps s h.1,
)

pub parts_below : (models : List Model) (main : code.Model) (list : List met.Instance) (parts : List Part) (count : ℕ) (maps : List (List ℕ)) → IsWalked models main list parts → AreMaps count (homes_of main list) maps → AllByRecursion (BelowPart count maps) parts
parts_below models main list parts count maps w are = below_parts_all count (homes_of main list) maps parts are w.homed

-- the flattening

pub record IsAssembled (ms : List code.Model) (main : code.Model) (latches : List Latch) (tables : List Table) : Type 0 where
  pub flat : IsFlattening (models_in ms) (record { frame = frame_with main latches; tables = tables })
  pub once : DefinedOnce (record { frame = frame_with main latches; tables = tables })
  pub clear : list_all latch_clear latches ≡ true

pub assembled : (ms : List code.Model) (main : code.Model) (list : List met.Instance) (parts : List Part) (all : List (List ℕ)) (maps : List (List ℕ)) (count : ℕ) (latches : List Latch) (tables : List Table)
    → IsFirst ms main → IsWalked (map model_in ms) main list parts → first_fault_of_models (models_in ms) ≡ None → IsFewest main.names (map entry_in list) count
    → ((calls : ℕ → List ℕ → List ℕ) → calls 0 ≡ as_it_is → Calls calls (inner_name count) 1 (map entry_in list) → AreSpelled all (homes_of main list) calls maps)
    → ((calls : ℕ → List ℕ → List ℕ) → AllByRecursion (SpelledPart all calls maps) parts → latches ≡ flat_map (latches_by calls) (map part_in parts))
    → ((calls : ℕ → List ℕ → List ℕ) → AllByRecursion (SpelledPart all calls maps) parts → tables ≡ flat_map (tables_by calls) (map part_in parts))
    → IsAssembled ms main latches tables
assembled ms main list parts all maps count latches tables first w none fewest spelled gives_latches gives_tables = go first.others first.is
  where
    go : (others : List code.Model) → ms ≡ main ∷ others → IsAssembled ms main latches tables
    go others e =
        let c = calls_exist (inner_name count) as_it_is main.names list w.wired in
        let said = spelled_parts all (homes_of main list) c.calls maps parts (spelled c.calls c.begins c.goes) w.homed in
        let goes : Calls c.calls (inner_name count) 1 (entries_of 0 1 w.tree) = subst (Calls c.calls (inner_name count) 1) (sym w.entries) c.goes in
        let latches_are : latches ≡ flat latches_called (inner_name count) 1 as_it_is w.tree =
        gives_latches c.calls said ∙ ap (flat_map (latches_by c.calls)) (sym w.met) ∙ sym (flat_by_parts latches_called c.calls (inner_name count) 0 1 w.tree goes) ∙ ap (λ (f : List ℕ → List ℕ). flat latches_called (inner_name count) 1 f w.tree) c.begins in
        let tables_are : tables ≡ flat tables_called (inner_name count) 1 as_it_is w.tree =
        gives_tables c.calls said ∙ ap (flat_map (tables_by c.calls)) (sym w.met) ∙ sym (flat_by_parts tables_called c.calls (inner_name count) 0 1 w.tree goes) ∙ ap (λ (f : List ℕ → List ℕ). flat tables_called (inner_name count) 1 f w.tree) c.begins in
        let opens : Opens (map model_in (main ∷ others)) (model_in main).statements w.tree = subst (λ (l : List code.Model). Opens (map model_in l) (model_in main).statements w.tree) e w.opens in
        let whole : IsFlattening (models_in (main ∷ others)) (record { frame = frame_with main latches; tables = tables }) = record {
          tree = w.tree;
          opens = opens;
          count = count;
          slashes = slashes_by_entries (model_in main) w.tree (map entry_in list) count w.entries fewest;
          is = ap₂ (λ (l : List Latch) (t : List Table). netlist (frame_with main l) t) latches_are tables_are;
        } in
        let faultless : first_fault_of_models (models_in (main ∷ others)) ≡ None = subst (λ (l : List code.Model). first_fault_of_models (models_in l) ≡ None) e none in
        let closed : list_all is_closed (all_of (models_in (main ∷ others))) ≡ true = models_closed (main ∷ others) in
        let each : All (λ (m : Model). DefinedOnce (alone m)) (all_of (models_in (main ∷ others))) = All-from_recursion (λ (m : Model). DefinedOnce (alone m)) (map model_in (main ∷ others)) (models_once (main ∷ others)) in
        let clear_all : list_all latch_clear (flat latches_called (inner_name count) 1 as_it_is w.tree) ≡ true =
        flat_clear (map model_in (main ∷ others)) (inner_name count) (λ k name. inner_not_nil count k name fewest.some) (λ name m n. no_nil_among (main ∷ others) m (named_among (map model_in (main ∷ others)) name m n).0) 1 as_it_is (λ name h. h) (model_in main).statements w.tree main.no_nil opens in
        record {
          flat = subst (λ (l : List code.Model). IsFlattening (models_in l) (netlist (frame_with main latches) tables)) (sym e) whole;
          once = flattening_defines_once (models_in (main ∷ others)) (netlist (frame_with main latches) tables) closed each faultless whole;
          clear = ap (list_all latch_clear) latches_are ∙ clear_all;
        }

-- what the types ask

distinct_left : (xs ys : List (List ℕ)) → distinct (xs ++ ys) ≡ true → distinct xs ≡ true
distinct_left [] ys h = refl
distinct_left (x ∷ xs) ys h =
    let parts = and_parts (not (has_word (xs ++ ys) x)) (distinct (xs ++ ys)) h in
    let out : has_word (xs ++ ys) x ≡ false = not-true (has_word (xs ++ ys) x) parts.0 in
    and_from (not (has_word xs x)) (distinct xs) (not_from_false (has_word xs x) (false_from_ne_true (has_word xs x) (λ t. both_ways (has_word (xs ++ ys) x) out (has_left xs ys x t)))) (distinct_left xs ys parts.1)

pub sources_once : (n : Netlist) → DefinedOnce n → distinct (sources n.frame) ≡ true
sources_once n o = distinct_left (sources n.frame) (map output_of n.tables) o.all

pub controls_clear : (all : List (List ℕ)) (latches : List code_latch.Latch) → list_all latch_clear (map (latch_in all) latches) ≡ true → no_nil_control all latches ≡ true
controls_clear all latches h = no_nil_words all latches ∙ h

pub listed_words : (all : List (List ℕ)) (main : code.Model) (role : Role) (numbers : List ℕ) → Grows main.names all → numbers ≡ flat_map (listed_in role) main.statements → words_at all numbers ≡ flat_map (λ (s : Statement). words_listed role s.kind) (map (statement_in main.names) main.statements)
listed_words all main role numbers g e = ap (words_at all) e ∙ words_at-grows main.names all (flat_map (listed_in role) main.statements) g (listed_below (length main.names) role main.statements main.below) ∙ words_of_listed main.names role main.statements

pub listed_low : (all : List (List ℕ)) (main : code.Model) (role : Role) (numbers : List ℕ) → Grows main.names all → numbers ≡ flat_map (listed_in role) main.statements → all_below (length all) numbers ≡ true
listed_low all main role numbers g e = ap (all_below (length all)) e ∙ all_below-more (length main.names) (length all) (flat_map (listed_in role) main.statements) (length-grows main.names all g) (listed_below (length main.names) role main.statements main.below)

pub frame_is : (all : List (List ℕ)) (main : code.Model) (model : List ℕ) (inputs clocks outputs : List ℕ) (latches given : List code_latch.Latch) → Grows main.names all → model ≡ main.name → inputs ≡ flat_map (listed_in roles.Input) main.statements → clocks ≡ flat_map (listed_in roles.Clock) main.statements
    → outputs ≡ flat_map (listed_in roles.Output) main.statements → latches ≡ given → frame_of all model inputs clocks outputs latches ≡ frame_with main (map (latch_in all) given)
frame_is all main model inputs clocks outputs latches given g m e f h l =
    ap₂ (λ (n : List ℕ) (ls : List code_latch.Latch). frame n (words_at all inputs) (words_at all clocks) (words_at all outputs) (map (latch_in all) ls)) m l
    ∙ ap₂ (λ (a b : List (List ℕ)). frame main.name a b (words_at all outputs) (map (latch_in all) given)) (listed_words all main roles.Input inputs g e) (listed_words all main roles.Clock clocks g f)
    ∙ ap (λ (c : List (List ℕ)). frame main.name (inputs_of (model_in main)) (clocks_of (model_in main)) c (map (latch_in all) given)) (listed_words all main roles.Output outputs g h)

pub put_together : (ms : List code.Model) (main : code.Model) (list list' : List met.Instance) (parts parts' : List Part) (all : List (List ℕ)) (maps maps' maps'' : List (List ℕ)) (count : ℕ) (latches : List code_latch.Latch) (tables : List code_table.Table)
    → list' ≡ list → parts' ≡ parts → maps' ≡ maps → maps'' ≡ maps → IsFirst ms main → IsWalked (map model_in ms) main list parts → first_fault_of_models (models_in ms) ≡ None → IsFewest main.names (map entry_in list') count
    → ((calls : ℕ → List ℕ → List ℕ) → calls 0 ≡ as_it_is → Calls calls (inner_name count) 1 (map entry_in list') → AreSpelled all (homes_of main list') calls maps)
    → ((names : List (List ℕ)) (calls : ℕ → List ℕ → List ℕ) → AllByRecursion (SpelledPart names calls maps') parts' → map (latch_in names) latches ≡ flat_map (latches_by calls) (map part_in parts'))
    → ((names : List (List ℕ)) (calls : ℕ → List ℕ → List ℕ) → AllByRecursion (SpelledPart names calls maps'') parts' → map (table_in names) tables ≡ flat_map (tables_by calls) (map part_in parts'))
    → IsAssembled ms main (map (latch_in all) latches) (map (table_in all) tables)
put_together ms main list list' parts parts' all maps maps' maps'' count latches tables el ep em et first w none fewest spelled gives_latches gives_tables =
    assembled ms main list' parts' all maps count (map (latch_in all) latches) (map (table_in all) tables) first
    (subst (λ (l : List met.Instance). IsWalked (map model_in ms) main l parts') (sym el) (subst (IsWalked (map model_in ms) main list) (sym ep) w)) none fewest spelled
    (λ calls s. gives_latches all calls (subst (λ (m : List (List ℕ)). AllByRecursion (SpelledPart all calls m) parts') (sym em) s))
    (λ calls s. gives_tables all calls (subst (λ (m : List (List ℕ)). AllByRecursion (SpelledPart all calls m) parts') (sym et) s))

-- the whole

pub first_of : (ms : List code.Model) (x : code.Model) → 1 ≤ length ms → x ≡ get_or ms 0 x → IsFirst ms x
first_of [] x l e = absurd (omega arith)
first_of (m ∷ ms) x l e = record { others = ms; is = ap (λ (y : code.Model). y ∷ ms) (sym e) }

told_more : (n : ℕ) → most_words < told n → most_words < n
told_more n l = elim (cases_lt most_words n) [ inl m ↦ m | inr m ↦ absurd (let e : told n ≡ n = told_few n (omega arith) in omega arith) ]

told_within : (n : ℕ) → told n ≤ most_words → n ≤ most_words
told_within n l = elim (cases_lt most_words n) [
  | inl m ↦ absurd (elim (cases_lt greatest n) [ inl g ↦ (let e : told n ≡ greatest = told_many n g in omega arith) | inr g ↦ (let e : told n ≡ n = told_few n g in omega arith) ])
  | inr m ↦ m
]

abbrev Tells : Models → ℕ → Type 0
Tells models words = (tree : Opened) → Opens (all_of models) models.main.statements tree → words ≡ told (words_of models.main tree)

pub over_words : (models : Models) (words : ℕ) → first_fault_of_models models ≡ None → NoRecursion models → Tells models words → most_words < words → IsFirstFlatFault models (TooManyWords words)
over_words models words none acyclic tells more =
    let (tree, opens) = opened_without models none acyclic in
    let is : words ≡ told (words_of models.main tree) = tells tree opens in
    inr (none, (acyclic, (tree, opens, told_more (words_of models.main tree) (omega arith), is)))

pub within_words : (models : Models) (words : ℕ) → first_fault_of_models models ≡ None → NoRecursion models → Tells models words → words ≤ most_words → WithinWords models
within_words models words none acyclic tells few =
    let (tree, opens) = opened_without models none acyclic in
    let is : words ≡ told (words_of models.main tree) = tells tree opens in
    (tree, opens, told_within (words_of models.main tree) (omega arith))

pub opens_main : (ms : List code.Model) (main : code.Model) → IsFirst ms main → first_fault_of_models (models_in ms) ≡ None → NoRecursion (models_in ms) → (tree : Opened) × Opens (map model_in ms) (model_in main).statements tree
opens_main ms main first none acyclic = go first.others first.is
  where
    go : (others : List code.Model) → ms ≡ main ∷ others → (tree : Opened) × Opens (map model_in ms) (model_in main).statements tree
    go others e =
        let (tree, opens) = opened_without (models_in (main ∷ others)) (subst (λ (l : List code.Model). first_fault_of_models (models_in l) ≡ None) e none) (subst (λ (l : List code.Model). NoRecursion (models_in l)) e acyclic) in
        (tree, subst (λ (l : List code.Model). Opens (map model_in l) (model_in main).statements tree) (sym e) opens)

pub room : (ms : List code.Model) (main : code.Model) (list : List met.Instance) (parts : List Part) (words : ℕ) → IsFirst ms main → IsWalked (map model_in ms) main list parts → Tells (models_in ms) words → words ≤ most_words → length main.names + inner_count list < 2 ^ 31
room ms main list parts words first w tells few = go first.others first.is
  where
    go : (others : List code.Model) → ms ≡ main ∷ others → length main.names + inner_count list < 2 ^ 31
    go others e =
        let opens : Opens (map model_in (main ∷ others)) (model_in main).statements w.tree = subst (λ (l : List code.Model). Opens (map model_in l) (model_in main).statements w.tree) e w.opens in
        let is : words ≡ told (words_of (model_in main) w.tree) = subst (λ (l : List code.Model). Tells (models_in l) words) e tells w.tree opens in
        let all : words_of (model_in main) w.tree ≤ most_words = told_within (words_of (model_in main) w.tree) (omega arith) in
        let names : inner_count list ≤ words_inside w.tree = few_names ms (model_in main).statements w.tree list w.opens w.entries in
        let own : length main.names ≤ main.words = main.counted in
        omega arith

pub parts_low : (models : List Model) (main : code.Model) (list list' : List met.Instance) (parts parts' : List Part) (count : ℕ) (maps maps' : List (List ℕ)) → list' ≡ list → parts' ≡ parts → maps' ≡ maps → IsWalked models main list parts → AreMaps count (homes_of main list') maps
    → AllByRecursion (BelowPart count maps') parts'
parts_low models main list list' parts parts' count maps maps' el ep em w are =
    subst (λ (m : List (List ℕ)). AllByRecursion (BelowPart count m) parts') (sym em)
    (parts_below models main list' parts' count maps (subst (λ (l : List met.Instance). IsWalked models main l parts') (sym el) (subst (IsWalked models main list) (sym ep) w)) are)
