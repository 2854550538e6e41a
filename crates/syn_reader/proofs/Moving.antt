-- A file's only model, without subcircuits, is its own flattening.
use Rattle.std.proofs.Common.{arith, ◌≡◌, ◌<◌, ◌≤◌, ◌^◌, ℕ, ◌&&◌, nat_lt, Bool, true, false, List, [], ◌∷◌, ◌++◌, length, map, flat_map, slice_index_or, refl, sym, ap, ap₂, ◌∙◌, subst, inl, inr, None, append_assoc, append-nil}
use Rattle.std.specs.List.{list_all}
use Rattle.std.proofs.lemmas.Bool.{and_from, and_parts, both_ways, cases_Bool, cond-false, ltb-true}
use Rattle.std.proofs.lemmas.List.Folds.{list_all-append}
use Rattle.std.proofs.lemmas.List.{map-append}
use Rattle.syn_netlist.specs.declared.Latch.{Latch}
use Rattle.syn_netlist.specs.declared.tables.Table.{Table}
use Rattle.syn_netlist.specs.Kept.{frame_of, latch_in, latch_numbers, latches_below, no_nil_control}
use Rattle.syn_netlist.specs.Lists as lists
use Rattle.syn_netlist.specs.Lists.{Netlist, control_of}
use Rattle.syn_netlist.specs.Numbers.{all_below}
use Rattle.syn_netlist.specs.Tables.{table_in, tables_below}
use Rattle.syn_models.specs.declared.flat_fault.FlatFault.TheVariants.{TooManyWords}
use Rattle.syn_models.specs.declared.hierarchy.Model.{Model}
use Rattle.syn_models.specs.declared.hierarchy.Statement.{Statement}
use Rattle.syn_models.specs.declared.hierarchy.StatementKind.{StatementKind}
use Rattle.syn_models.specs.declared.hierarchy.StatementKind.TheVariants as kinds
use Rattle.syn_models.specs.declared.ports.Role.TheVariants.{Clock, Input, Output}
use Rattle.syn_models.specs.Answers.{frame_with, models_in}
use Rattle.syn_models.specs.Flattening.{IsFlattening}
use Rattle.syn_models.specs.FlatFaults.{Flattens, IsFirstFlatFault, IsTreeFault, WithinWords, first_fault_of_models, greatest, most_words, told}
use Rattle.syn_models.specs.Kept.{kind_has_no_nil, kind_in, not_nil, numbers_in, statement_in, statements_below}
use Rattle.syn_models.specs.Listed.{listed_in}
use Rattle.syn_models.specs.Models as models
use Rattle.syn_models.specs.Models.{alone}
use Rattle.syn_models.specs.Opening.{is_subcircuit, words_of}
use Rattle.syn_models.specs.Views.{model_in}
use Rattle.syn_models.proofs.Assembling.{controls_clear, frame_is}
use Rattle.syn_netlist.proofs.Growing.{Grows-same}
use Rattle.syn_reader.specs.Alone.{is_alone, is_plain, is_plain_kind, latch_in_kind, latches_in, table_in_kind, tables_in}
use Rattle.syn_reader.proofs.OneLists.{Plain}
use Rattle.syn_reader.proofs.OneModel.{none_within, only, only_acyclic, only_flat, plain_opens, plain_tree}

-- the only model
pub one_is : (ms : List Model) (m : Model) → is_alone ms ≡ true → m ≡ slice_index_or ms 0 m → (ms ≡ m ∷ []) × (list_all is_plain m.statements ≡ true)
one_is [] m h e = absurd (both_ways false refl h)
one_is (x ∷ []) m h e = (ap (λ (k : Model). k ∷ []) (sym e), subst (λ (k : Model). list_all is_plain k.statements ≡ true) (sym e) h)
one_is (x ∷ y ∷ ys) m h e = absurd (both_ways false refl h)

plain_kind : (names : List (List ℕ)) (kind : StatementKind) → is_plain_kind kind ≡ true → is_subcircuit (kind_in names kind) ≡ false
plain_kind names (kinds.Inputs numbers) h = refl
plain_kind names (kinds.Outputs numbers) h = refl
plain_kind names (kinds.Clock numbers) h = refl
plain_kind names (kinds.Latch latch) h = refl
plain_kind names (kinds.Table table) h = refl
plain_kind names (kinds.Subckt c) h = absurd (both_ways false refl h)

pub plain_said : (names : List (List ℕ)) (ss : List Statement) → list_all is_plain ss ≡ true → Plain (map (statement_in names) ss)
plain_said names [] h = tt
plain_said names (s ∷ ss) h = let p = and_parts (is_plain s) (list_all is_plain ss) h in (plain_kind names s.kind p.0, plain_said names ss p.1)

-- what statements list, one after the other
pub one_listed : {B : Type 0} (f : Statement → List B) (old new : List B) (x : Statement) (items rest : List Statement) (all : List B) → items ≡ x ∷ rest → new ≡ old ++ f x → old ++ flat_map f items ≡ all → new ++ flat_map f rest ≡ all
one_listed {B = B} f old new x items rest all e n h = ap (λ (l : List B). l ++ flat_map f rest) n ∙ (append_assoc old (f x) (flat_map f rest) ∙ (ap (λ (l : List Statement). old ++ flat_map f l) (sym e) ∙ h))

pub all_listed : {B : Type 0} (f : Statement → List B) (old : List B) (items : List Statement) (all : List B) → items ≡ [] → old ++ flat_map f items ≡ all → old ≡ all
all_listed {B = B} f old items all e h = sym (append-nil old) ∙ (ap (λ (l : List Statement). old ++ flat_map f l) (sym e) ∙ h)

pub no_more : (items : List Statement) → length items ≡ 0 → items ≡ []
no_more [] h = refl
no_more (x ∷ xs) h = absurd (omega (arith, h))

-- latches and tables in words
latch_words : (names : List (List ℕ)) (kind : StatementKind) → map (latch_in names) (latch_in_kind kind) ≡ models.latches_in (kind_in names kind)
latch_words names (kinds.Inputs numbers) = refl
latch_words names (kinds.Outputs numbers) = refl
latch_words names (kinds.Clock numbers) = refl
latch_words names (kinds.Latch latch) = refl
latch_words names (kinds.Table table) = refl
latch_words names (kinds.Subckt c) = refl

pub latches_words : (names : List (List ℕ)) (ss : List Statement) → map (latch_in names) (flat_map latches_in ss) ≡ flat_map (λ s. models.latches_in s.kind) (map (statement_in names) ss)
latches_words names [] = refl
latches_words names (s ∷ ss) = map-append (latch_in names) (latches_in s) (flat_map latches_in ss) ∙ ap₂ (λ (a b : List lists.Latch). a ++ b) (latch_words names s.kind) (latches_words names ss)

table_words : (names : List (List ℕ)) (kind : StatementKind) → map (table_in names) (table_in_kind kind) ≡ models.tables_in (kind_in names kind)
table_words names (kinds.Inputs numbers) = refl
table_words names (kinds.Outputs numbers) = refl
table_words names (kinds.Clock numbers) = refl
table_words names (kinds.Latch latch) = refl
table_words names (kinds.Table table) = refl
table_words names (kinds.Subckt c) = refl

pub tables_words : (names : List (List ℕ)) (ss : List Statement) → map (table_in names) (flat_map tables_in ss) ≡ flat_map (λ s. models.tables_in s.kind) (map (statement_in names) ss)
tables_words names [] = refl
tables_words names (s ∷ ss) = map-append (table_in names) (tables_in s) (flat_map tables_in ss) ∙ ap₂ (λ (a b : List lists.Table). a ++ b) (table_words names s.kind) (tables_words names ss)

-- their numbers
latch_low : (n : ℕ) (kind : StatementKind) → all_below n (numbers_in kind) ≡ true → latches_below n (latch_in_kind kind) ≡ true
latch_low n (kinds.Inputs numbers) h = refl
latch_low n (kinds.Outputs numbers) h = refl
latch_low n (kinds.Clock numbers) h = refl
latch_low n (kinds.Latch latch) h = and_from (all_below n (numbers_in (kinds.Latch latch))) true h refl
latch_low n (kinds.Table table) h = refl
latch_low n (kinds.Subckt c) h = refl

pub latches_low : (n : ℕ) (ss : List Statement) → statements_below n ss ≡ true → latches_below n (flat_map latches_in ss) ≡ true
latches_low n [] h = refl
latches_low n (s ∷ ss) h =
    let p = and_parts (all_below n (numbers_in s.kind)) (statements_below n ss) h in
    list_all-append (λ (latch : Latch). all_below n (latch_numbers latch)) (latches_in s) (flat_map latches_in ss) ∙ and_from (latches_below n (latches_in s)) (latches_below n (flat_map latches_in ss)) (latch_low n s.kind p.0) (latches_low n ss p.1)

table_low : (n : ℕ) (kind : StatementKind) → all_below n (numbers_in kind) ≡ true → tables_below n (table_in_kind kind) ≡ true
table_low n (kinds.Inputs numbers) h = refl
table_low n (kinds.Outputs numbers) h = refl
table_low n (kinds.Clock numbers) h = refl
table_low n (kinds.Latch latch) h = refl
table_low n (kinds.Table table) h = and_from (all_below n (numbers_in (kinds.Table table))) true h refl
table_low n (kinds.Subckt c) h = refl

pub tables_low : (n : ℕ) (ss : List Statement) → statements_below n ss ≡ true → tables_below n (flat_map tables_in ss) ≡ true
tables_low n [] h = refl
tables_low n (s ∷ ss) h =
    let p = and_parts (all_below n (numbers_in s.kind)) (statements_below n ss) h in
    list_all-append (λ (table : Table). nat_lt table.output n && all_below n table.inputs) (tables_in s) (flat_map tables_in ss) ∙ and_from (tables_below n (tables_in s)) (tables_below n (flat_map tables_in ss)) (table_low n s.kind p.0) (tables_low n ss p.1)

-- a control that isn't `NIL`
abbrev clear : lists.Latch → Bool
clear l = list_all not_nil (control_of l.kind)

kind_clear : (kind : models.StatementKind) → kind_has_no_nil kind ≡ true → list_all clear (models.latches_in kind) ≡ true
kind_clear (models.Inputs words) h = refl
kind_clear (models.Outputs words) h = refl
kind_clear (models.Clock words) h = refl
kind_clear (models.OneLatch latch) h = and_from (clear latch) true h refl
kind_clear (models.OneTable table) h = refl
kind_clear (models.OneSubcircuit c) h = refl

all_clear : (said : List models.Statement) → list_all (λ s. kind_has_no_nil s.kind) said ≡ true → list_all clear (flat_map (λ s. models.latches_in s.kind) said) ≡ true
all_clear [] h = refl
all_clear (s ∷ ss) h =
    let p = and_parts (kind_has_no_nil s.kind) (list_all (λ (t : models.Statement). kind_has_no_nil t.kind) ss) h in
    let rest = flat_map (λ (t : models.Statement). models.latches_in t.kind) ss in
    list_all-append clear (models.latches_in s.kind) rest ∙ and_from (list_all clear (models.latches_in s.kind)) (list_all clear rest) (kind_clear s.kind p.0) (all_clear ss p.1)

-- what a netlist of these parts keeps
pub moved_controls : (m : Model) → no_nil_control m.names (flat_map latches_in m.statements) ≡ true
moved_controls m = controls_clear m.names (flat_map latches_in m.statements) (ap (list_all clear) (latches_words m.names m.statements) ∙ all_clear (map (statement_in m.names) m.statements) m.no_nil)

pub moved_frame : (m : Model) (inputs clocks outputs : List ℕ) (latches : List Latch) → inputs ≡ flat_map (listed_in Input) m.statements → clocks ≡ flat_map (listed_in Clock) m.statements → outputs ≡ flat_map (listed_in Output) m.statements
    → latches ≡ flat_map latches_in m.statements → frame_of m.names m.name inputs clocks outputs latches ≡ (alone (model_in m)).frame
moved_frame m inputs clocks outputs latches i c o l = frame_is m.names m m.name inputs clocks outputs latches (flat_map latches_in m.statements) (Grows-same m.names) refl i c o l ∙ ap (frame_with m) (latches_words m.names m.statements)

-- the model in words
plain_words : (m : Model) → list_all is_plain m.statements ≡ true → Plain (model_in m).statements
plain_words m h = plain_said m.names m.statements h

pub alone_flattens : (ms : List Model) (m : Model) (n : Netlist) → ms ≡ m ∷ [] → list_all is_plain m.statements ≡ true → first_fault_of_models (models_in ms) ≡ None → n ≡ alone (model_in m) → Flattens (models_in ms) n
alone_flattens ms m n e h none is =
    subst (λ (l : List Model). Flattens (models_in l) n) (sym e) (record {
      faultless = ap (λ (l : List Model). first_fault_of_models (models_in l)) (sym e) ∙ none;
      acyclic = only_acyclic (model_in m) (plain_words m h);
      flattening = subst (IsFlattening (only (model_in m))) (sym is) (only_flat (model_in m) (plain_words m h));
    })

pub alone_within : (ms : List Model) (m : Model) → ms ≡ m ∷ [] → list_all is_plain m.statements ≡ true → m.words ≤ most_words → WithinWords (models_in ms)
alone_within ms m e h few =
    let said = (model_in m).statements in
    let inside = none_within said in
    subst (λ (l : List Model). WithinWords (models_in l)) (sym e) (plain_tree said, plain_opens (model_in m ∷ []) said (plain_words m h), omega (arith, few, inside))

pub alone_too_long : (ms : List Model) (m : Model) → ms ≡ m ∷ [] → list_all is_plain m.statements ≡ true → first_fault_of_models (models_in ms) ≡ None → most_words < m.words → m.words < 2 ^ 64 → IsFirstFlatFault (models_in ms) (TooManyWords m.words)
alone_too_long ms m e h none many fits =
    let said = (model_in m).statements in
    let inside = none_within said in
    let total : words_of (model_in m) (plain_tree said) ≡ m.words = omega (arith, inside) in
    let test : nat_lt greatest m.words ≡ false = elim (cases_Bool (nat_lt greatest m.words)) [
      | inl t ↦ absurd (let z : 18446744073709551615 < m.words = ltb-true greatest m.words t in omega (arith, z, fits))
      | inr f ↦ f
    ] in
    let same : m.words ≡ told (words_of (model_in m) (plain_tree said)) = sym (ap told total ∙ cond-false (nat_lt greatest m.words) greatest m.words test) in
    inr (none, subst (λ (l : List Model). IsTreeFault (models_in l) (TooManyWords m.words)) (sym e) (only_acyclic (model_in m) (plain_words m h), (plain_tree said, plain_opens (model_in m ∷ []) said (plain_words m h), omega (arith, total, many), same)))
