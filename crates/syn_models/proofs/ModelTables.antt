-- Which models contain which, by numbers and in words.
use Rattle.std.proofs.Common.{◌≡◌, ℕ, zero, suc, ◌+◌, ◌≤◌, ◌<◌, ◌++◌, ◌&&◌, nat_lt, Bool, true, List, [], ◌∷◌, map, flat_map, length, take, get_or, slice_index_or, option_map, refl, sym, ap, ap₂, ◌∙◌, subst, inl, inr, Option, None, arith}
use Rattle.std.specs.List.{list_all}
use Rattle.std.proofs.lemmas.Bool.{and_parts, and_from, lt-ltb}
use Rattle.std.proofs.lemmas.List.{map-append, length-map, take_more}
use Rattle.syn_netlist.specs.declared.tables.Table.{Table}
use Rattle.syn_netlist.specs.Lists as lists
use Rattle.syn_netlist.specs.Words.{has_word, distinct}
use Rattle.syn_netlist.specs.Numbers.{word_at, words_at, all_below}
use Rattle.syn_lists.specs.Numbers.{has_number}
use Rattle.syn_netlist.specs.Tables.{table_in, tables_below}
use Rattle.syn_netlist.specs.Faults.{no_table, IsTableOrder, PutsInOrder}
use Rattle.syn_models.specs.Answers.{models_in}
use Rattle.std.specs.Option.{option_or}
use Rattle.syn_models.specs.declared.flat_fault.FlatFault.{FlatFault}
use Rattle.syn_models.specs.declared.flat_fault.FlatFault.TheVariants.{Undriven}
use Rattle.syn_models.specs.declared.hierarchy.Model as code
use Rattle.syn_models.specs.declared.hierarchy.Statement.{Statement}
use Rattle.syn_models.specs.declared.hierarchy.StatementKind.{StatementKind}
use Rattle.syn_models.specs.declared.hierarchy.StatementKind.TheVariants as kinds
use Rattle.syn_models.specs.Contained.{contained_name, contained_by, words_by}
use Rattle.syn_models.specs.FlatFaults.{model_of, contents, checks, first_of_models, first_fault_of_models, first_undriven, told}
use Rattle.syn_models.specs.Kept.{kind_in, statement_in}
use Rattle.syn_models.specs.Models as models
use Rattle.syn_models.specs.Models.{Model, all_of, name_of, subcircuits_in}
use Rattle.syn_models.specs.Numbered.{inner_at, contains_before, total_at, words_in, IsTotal, ContainsByNumbers}
use Rattle.syn_models.specs.Opening.{Opened, Opens, words_of}
use Rattle.syn_models.specs.Totals.{containing}
use Rattle.syn_models.specs.Views.{model_in}
use Rattle.syn_models.proofs.Existing.{Among}
use Rattle.syn_models.proofs.Faults.{models_known, none_parts}
use Rattle.syn_models.proofs.Places.{numbered_totals_are_told}
use Rattle.syn_models.proofs.Serving.{order_serves_totals}
use Rattle.syn_models.proofs.Totalling.{inputs_known}

kind_contained : (names : List (List ℕ)) (kind : StatementKind) → map model_of (subcircuits_in (kind_in names kind)) ≡ contained_name kind
kind_contained names (kinds.Inputs ns) = refl
kind_contained names (kinds.Outputs ns) = refl
kind_contained names (kinds.Clock ns) = refl
kind_contained names (kinds.Latch l) = refl
kind_contained names (kinds.Table t) = refl
kind_contained names (kinds.Subckt c) = refl

contained_words : (names : List (List ℕ)) (ss : List Statement) → map model_of (flat_map (λ (s : models.Statement). subcircuits_in s.kind) (map (statement_in names) ss)) ≡ flat_map contained_by ss
contained_words names [] = refl
contained_words names (s ∷ ss) =
    map-append model_of (subcircuits_in (kind_in names s.kind)) (flat_map (λ (s : models.Statement). subcircuits_in s.kind) (map (statement_in names) ss))
    ∙ ap₂ (λ (a b : List (List ℕ)). a ++ b) (kind_contained names s.kind) (contained_words names ss)

-- the names that the model's table reads
pub contents_by : (m : code.Model) → (contents (model_in m)).inputs ≡ flat_map contained_by m.statements
contents_by m = contained_words m.names m.statements

among_at : (ms : List code.Model) (i : ℕ) (m : code.Model) → i < length ms → m ≡ get_or ms i m → Among (map model_in ms) (model_in m)
among_at [] i m l e = absurd (omega arith)
among_at (x ∷ xs) zero m l e = inl (ap model_in (sym e))
among_at (x ∷ xs) (suc i) m l e = inr (among_at xs i m (omega arith) e)

-- where no subcircuit has a fault, each model that one of them contains is there
pub all_there : (ms : List code.Model) (i : ℕ) (m : code.Model) → first_of_models checks (map model_in ms) (map model_in ms) ≡ None → i < length ms → m ≡ get_or ms i m
    → list_all (has_word (map name_of (map model_in ms))) (flat_map contained_by m.statements) ≡ true
all_there ms i m none l e =
    sym (ap (list_all (has_word (map name_of (map model_in ms)))) (contents_by m))
    ∙ inputs_known (map model_in ms) (model_in m).statements (models_known (map model_in ms) (map model_in ms) none (model_in m) (among_at ms i m l e))

contents_at : (ms : List code.Model) (i : ℕ) (ws : List (List (List ℕ))) → i < length ms → ws ≡ map (λ (m : code.Model). flat_map contained_by m.statements) ms
    → get_or ws i [] ≡ (slice_index_or (map contents (map model_in ms)) i no_table).inputs
contents_at [] i ws l e = absurd (omega arith)
contents_at (m ∷ ms) zero ws l e = ap (λ (k : List (List (List ℕ))). get_or k 0 []) e ∙ sym (contents_by m)
contents_at (m ∷ ms) (suc i) ws l e = ap (λ (k : List (List (List ℕ))). get_or k (suc i) []) e ∙ contents_at ms i (map (λ (m : code.Model). flat_map contained_by m.statements) ms) (omega arith) refl

words_inner : (names : List (List ℕ)) (inner : List (List ℕ)) (i : ℕ) → words_at names (inner_at inner i) ≡ get_or (map (words_at names) inner) i []
words_inner names [] i = refl
words_inner names (x ∷ xs) zero = refl
words_inner names (x ∷ xs) (suc i) = words_inner names xs i

below_inner : (count : ℕ) (inner : List (List ℕ)) (i : ℕ) → list_all (all_below count) inner ≡ true → all_below count (inner_at inner i) ≡ true
below_inner count [] i h = refl
below_inner count (x ∷ xs) zero h = (and_parts (all_below count x) (list_all (all_below count) xs) h).0
below_inner count (x ∷ xs) (suc i) h = below_inner count xs i (and_parts (all_below count x) (list_all (all_below count) xs) h).1

models_size : (ms : List code.Model) → length (map model_in ms) ≡ length ms
models_size [] = refl
models_size (m ∷ ms) = ap suc (models_size ms)

pub contains : (ms : List code.Model) (inner : List (List ℕ)) → list_all (all_below (length ms)) inner ≡ true
    → map (words_at (map name_of (map model_in ms))) inner ≡ map (λ (m : code.Model). flat_map contained_by m.statements) ms → ContainsByNumbers (map model_in ms) inner
contains ms inner b e = record {
  below = λ i l. ap (λ (n : ℕ). all_below n (inner_at inner i)) (models_size ms) ∙ below_inner (length ms) inner i b;
  named = λ i l. words_inner (map name_of (map model_in ms)) inner i ∙ contents_at ms i (map (words_at (map name_of (map model_in ms))) inner) (let s = models_size ms in omega arith) e;
}

-- the tables of models

abbrev table : List (List ℕ) → List ℕ → List (List ℕ) → Bool → lists.Table
table inputs output rows on = record { inputs = inputs; output = output; rows = rows; on = on }

contents_is : (ms : List Model) (i : ℕ) → slice_index_or (map contents ms) i no_table ≡ table (slice_index_or (map contents ms) i no_table).inputs (word_at (map name_of ms) i) [] true
contents_is [] i = refl
contents_is (m ∷ ms) zero = refl
contents_is (m ∷ ms) (suc i) = contents_is ms i

table_is : (names : List (List ℕ)) (t : Table) (xs : List ℕ) (i : ℕ) → t.inputs ≡ xs → t.output ≡ i → t.rows ≡ [] → t.on ≡ true → table_in names t ≡ table (words_at names xs) (word_at names i) [] true
table_is names t xs i e f g h =
    ap₂ (λ (a : List ℕ) (b : ℕ). table (words_at names a) (word_at names b) t.rows t.on) e f
    ∙ ap₂ (λ (a : List (List ℕ)) (b : Bool). table (words_at names xs) (word_at names i) a b) g h

pub table_there : (ms : List code.Model) (inner : List (List ℕ)) (i : ℕ) (t : Table) → i < length ms → map (words_at (map name_of (map model_in ms))) inner ≡ map (λ (m : code.Model). flat_map contained_by m.statements) ms
    → t.inputs ≡ inner_at inner i → t.output ≡ i → t.rows ≡ [] → t.on ≡ true → table_in (map name_of (map model_in ms)) t ≡ slice_index_or (map contents (map model_in ms)) i no_table
table_there ms inner i t l e inputs output rows on =
    let names : List (List ℕ) = map name_of (map model_in ms) in
    table_is names t (inner_at inner i) i inputs output rows on
    ∙ ap (λ (ws : List (List ℕ)). table ws (word_at names i) [] true) (words_inner names inner i ∙ contents_at ms i (map (words_at names) inner) l e)
    ∙ sym (contents_is (map model_in ms) i)

pub tables_more : (ms : List code.Model) (tables : List Table) (t : Table) (i : ℕ) → i < length ms → map (table_in (map name_of (map model_in ms))) tables ≡ take i (map contents (map model_in ms))
    → table_in (map name_of (map model_in ms)) t ≡ slice_index_or (map contents (map model_in ms)) i no_table
    → map (table_in (map name_of (map model_in ms))) (tables ++ t ∷ []) ≡ take (i + 1) (map contents (map model_in ms))
tables_more ms tables t i l e f =
    map-append (table_in (map name_of (map model_in ms))) tables (t ∷ [])
    ∙ ap₂ (λ (a : List lists.Table) (b : lists.Table). a ++ b ∷ []) e f
    ∙ sym (take_more (map contents (map model_in ms)) i no_table (let s = length-map (map model_in ms) contents in let r = models_size ms in omega arith))

pub table_below : (count : ℕ) (inner : List (List ℕ)) (i : ℕ) (t : Table) → list_all (all_below count) inner ≡ true → i < count → t.inputs ≡ inner_at inner i → t.output ≡ i → (nat_lt t.output count && all_below count t.inputs) ≡ true
table_below count inner i t h l e f =
    and_from (nat_lt t.output count) (all_below count t.inputs) (ap (λ (n : ℕ). nat_lt n count) f ∙ lt-ltb i count l) (ap (all_below count) e ∙ below_inner count inner i h)

pub tables_below_more : (count : ℕ) (tables : List Table) (t : Table) → tables_below count tables ≡ true → (nat_lt t.output count && all_below count t.inputs) ≡ true → tables_below count (tables ++ t ∷ []) ≡ true
tables_below_more count [] t h e = and_from (nat_lt t.output count && all_below count t.inputs) true e refl
tables_below_more count (x ∷ xs) t h e =
    let parts = and_parts (nat_lt x.output count && all_below count x.inputs) (tables_below count xs) h in
    and_from (nat_lt x.output count && all_below count x.inputs) (tables_below count (xs ++ t ∷ [])) parts.0 (tables_below_more count xs t parts.1 e)

-- all models in words

pub all_are : (ms : List code.Model) → 1 ≤ length ms → all_of (models_in ms) ≡ map model_in ms
all_are [] l = absurd (omega arith)
all_are (m ∷ ms) l = refl

pub checked_first : (models : models.Models) → first_fault_of_models models ≡ None → first_of_models checks (all_of models) (all_of models) ≡ None
checked_first models e = (none_parts (first_of_models checks (all_of models) (all_of models)) (option_map Undriven (first_undriven (all_of models) (all_of models))) e).0

-- an order of the models serves

pub serves : (ms : List code.Model) (inner : List (List ℕ)) (order : List ℕ) → 1 ≤ length ms → distinct (map name_of (map model_in ms)) ≡ true → list_all (all_below (length ms)) inner ≡ true
    → map (words_at (map name_of (map model_in ms))) inner ≡ map (λ (m : code.Model). flat_map contained_by m.statements) ms
    → PutsInOrder (containing (models_in ms)) order → contains_before inner [] order ≡ true
serves [] inner order l d b e p = absurd (omega arith)
serves (m ∷ ms) inner order l d b e p = order_serves_totals (models_in (m ∷ ms)) inner order d (contains (m ∷ ms) inner b e) p

pub order_below : (ms : List code.Model) (order : List ℕ) → 1 ≤ length ms → PutsInOrder (containing (models_in ms)) order → all_below (length ms) order ≡ true
order_below [] order l p = absurd (omega arith)
order_below (m ∷ ms) order l p = ap (λ (n : ℕ). all_below n order) (sym (length-map (map model_in (m ∷ ms)) contents ∙ models_size (m ∷ ms))) ∙ p.below

words_same : (ms : List code.Model) → map words_in (map model_in ms) ≡ map words_by ms
words_same [] = refl
words_same (m ∷ ms) = ap (λ (l : List ℕ). m.words ∷ l) (words_same ms)

pub total_is : (ms : List code.Model) (inner : List (List ℕ)) (order words totals : List ℕ) → 1 ≤ length ms → distinct (map name_of (map model_in ms)) ≡ true → list_all (all_below (length ms)) inner ≡ true
    → map (words_at (map name_of (map model_in ms))) inner ≡ map (λ (m : code.Model). flat_map contained_by m.statements) ms
    → IsTableOrder (containing (models_in ms)) order → words ≡ map words_by ms → ((m : ℕ) → has_number order m ≡ true → IsTotal words inner totals m)
    → (tree : Opened) → Opens (all_of (models_in ms)) (models_in ms).main.statements tree → total_at totals 0 ≡ told (words_of (models_in ms).main tree)
total_is [] inner order words totals l d b e all w is tree o = absurd (omega arith)
total_is (m ∷ ms) inner order words totals l d b e all w is tree o =
    let full : List Model = map model_in (m ∷ ms) in
    numbered_totals_are_told (models_in (m ∷ ms)) inner totals d (contains (m ∷ ms) inner b e)
    (λ k s. subst (λ (ws : List ℕ). IsTotal ws inner totals k) (w ∙ sym (words_same (m ∷ ms))) (is k (all.all k (let z = length-map full contents in omega arith)))) tree o

pub first_is : (ms : List code.Model) (found : Option FlatFault) → 1 ≤ length ms → found ≡ option_or (first_of_models checks (map model_in ms) (map model_in ms)) (option_map Undriven (first_undriven (map model_in ms) (map model_in ms))) → found ≡ None → first_fault_of_models (models_in ms) ≡ None
first_is ms found l e none = ap (λ (all : List Model). option_or (first_of_models checks all all) (option_map Undriven (first_undriven all all))) (all_are ms l) ∙ sym e ∙ none
