-- What a model without subcircuits reads and defines, by its statements and as a netlist.
use Rattle.std.proofs.Common.{◌≡◌, ℕ, not, ◌&&◌, ◌||◌, Bool, true, false, List, [], ◌∷◌, ◌++◌, map, flat_map, bytes_eq, refl, sym, ap, ap₂, ◌∙◌, Option, Some, None, option_map, append-nil}
use Rattle.std.specs.List.{list_all}
use Rattle.std.specs.Option.{option_or}
use Rattle.std.proofs.lemmas.Bool.{and_parts, both_ways}
use Rattle.std.proofs.lemmas.List.{map-append}
use Rattle.std.proofs.lemmas.Map.Views.{any-filter_same}
use Rattle.syn_netlist.specs.Faults.{first_undefined}
use Rattle.syn_netlist.specs.Lists.{Netlist, latch_output, output_of, sources}
use Rattle.syn_netlist.specs.Numbers.{word_at, words_at}
use Rattle.syn_netlist.specs.Order.{defined}
use Rattle.syn_netlist.specs.Words.{has_word, without}
use Rattle.syn_netlist.proofs.Places.{words_at-control}
use Rattle.syn_netlist.proofs.Sets.{has_word-append, same_word}
use Rattle.syn_models.specs.declared.flat_fault.FlatFault.{FlatFault}
use Rattle.syn_models.specs.declared.flat_fault.FlatFault.TheVariants.{Undriven}
use Rattle.syn_models.specs.declared.hierarchy.Model.{Model}
use Rattle.syn_models.specs.declared.hierarchy.Statement.{Statement}
use Rattle.syn_models.specs.declared.hierarchy.StatementKind.{StatementKind}
use Rattle.syn_models.specs.declared.hierarchy.StatementKind.TheVariants as kinds
use Rattle.syn_models.specs.Answers.{models_in}
use Rattle.syn_models.specs.FlatFaults.{defined_inside, first_fault_of_models, names_read, undriven_in}
use Rattle.syn_models.specs.Kept.{kind_in, statement_in}
use Rattle.syn_models.specs.Models as models
use Rattle.syn_models.specs.Models.{Inputs, Outputs, Clock, OneLatch, OneTable, OneSubcircuit, alone, clocks_of, inputs_of, latches_of, tables_of}
use Rattle.syn_models.specs.Reading.{numbers_read, read_in}
use Rattle.syn_models.specs.Views.{model_in}
use Rattle.syn_models.proofs.Circles.{find_same}
use Rattle.syn_reader.specs.Alone.{is_plain, is_plain_kind}
use Rattle.syn_reader.proofs.Moving.{plain_said}
use Rattle.syn_reader.proofs.OneLists.{Plain, defined_all, read_all}
use Rattle.syn_reader.proofs.OneModel.{missing, no_faults, none_inside}

-- what statements read, by numbers and in words
kind_reads : (names : List (List ℕ)) (all : List models.Model) (kind : StatementKind) → is_plain_kind kind ≡ true → words_at names (numbers_read [] kind) ≡ names_read all (kind_in names kind)
kind_reads names all (kinds.Inputs numbers) h = refl
kind_reads names all (kinds.Outputs numbers) h = refl
kind_reads names all (kinds.Clock numbers) h = refl
kind_reads names all (kinds.Latch latch) h = ap (λ (l : List (List ℕ)). word_at names latch.feed ∷ l) (words_at-control names latch.kind)
kind_reads names all (kinds.Table table) h = refl
kind_reads names all (kinds.Subckt c) h = absurd (both_ways false refl h)

reads_words : (names : List (List ℕ)) (all : List models.Model) (ss : List Statement) → list_all is_plain ss ≡ true → words_at names (flat_map (read_in []) ss) ≡ read_all all (map (statement_in names) ss)
reads_words names all [] h = refl
reads_words names all (s ∷ ss) h =
    let p = and_parts (is_plain s) (list_all is_plain ss) h in
    map-append (word_at names) (numbers_read [] s.kind) (flat_map (read_in []) ss) ∙ ap₂ (λ (a b : List (List ℕ)). a ++ b) (kind_reads names all s.kind p.0) (reads_words names all ss p.1)

-- a word more among inputs, clocks, latches' outputs or tables' outputs
as_input : (x i r : Bool) → (x || (i || r)) ≡ ((x || i) || r)
as_input true i r = refl
as_input false i r = refl

as_clock : (x i c r : Bool) → (x || (i || (c || r))) ≡ (i || ((x || c) || r))
as_clock true true c r = refl
as_clock true false c r = refl
as_clock false i c r = refl

as_latch : (x i c l t : Bool) → (x || (i || (c || (l || t)))) ≡ (i || (c || ((x || l) || t)))
as_latch true true c l t = refl
as_latch true false true l t = refl
as_latch true false false l t = refl
as_latch false i c l t = refl

as_table : (x i c l t : Bool) → (x || (i || (c || (l || t)))) ≡ (i || (c || (l || (x || t))))
as_table true true c l t = refl
as_table true false true l t = refl
as_table true false false true t = refl
as_table true false false false t = refl
as_table false i c l t = refl

as_sources : (i c l t : Bool) → ((i || ((not i && c) || l)) || t) ≡ (i || (c || (l || t)))
as_sources true c l t = refl
as_sources false true l t = refl
as_sources false false l t = refl

-- whether a word is one of those that statements list as inputs or clocks, or that their latches or tables define
abbrev lists_have : List models.Statement → List ℕ → Bool
lists_have said w =
    has_word (flat_map (λ s. models.inputs_in s.kind) said) w || (has_word (flat_map (λ s. models.clocks_in s.kind) said) w
    || (has_word (map latch_output (flat_map (λ s. models.latches_in s.kind) said)) w || has_word (map output_of (flat_map (λ s. models.tables_in s.kind) said)) w))

one_more : (kind : models.StatementKind) (line : ℕ) (ss : List models.Statement) (w : List ℕ) → has_word (defined_all ss) w ≡ lists_have ss w → has_word (defined_all (record { line = line; kind = kind } ∷ ss)) w ≡ lists_have (record { line = line; kind = kind } ∷ ss) w
one_more (Inputs words) line ss w h =
    let inputs = flat_map (λ (s : models.Statement). models.inputs_in s.kind) ss in
    let more = has_word (flat_map (λ (s : models.Statement). models.clocks_in s.kind) ss) w || (has_word (map latch_output (flat_map (λ (s : models.Statement). models.latches_in s.kind) ss)) w || has_word (map output_of (flat_map (λ (s : models.Statement). models.tables_in s.kind) ss)) w) in
    has_word-append words (defined_all ss) w ∙ ap (λ (b : Bool). has_word words w || b) h ∙ as_input (has_word words w) (has_word inputs w) more ∙ ap (λ (b : Bool). b || more) (sym (has_word-append words inputs w))
one_more (Outputs words) line ss w h = h
one_more (Clock words) line ss w h =
    let inputs = has_word (flat_map (λ (s : models.Statement). models.inputs_in s.kind) ss) w in
    let clocks = flat_map (λ (s : models.Statement). models.clocks_in s.kind) ss in
    let more = has_word (map latch_output (flat_map (λ (s : models.Statement). models.latches_in s.kind) ss)) w || has_word (map output_of (flat_map (λ (s : models.Statement). models.tables_in s.kind) ss)) w in
    has_word-append words (defined_all ss) w ∙ ap (λ (b : Bool). has_word words w || b) h ∙ as_clock (has_word words w) inputs (has_word clocks w) more ∙ ap (λ (b : Bool). inputs || (b || more)) (sym (has_word-append words clocks w))
one_more (OneLatch latch) line ss w h =
    let inputs = has_word (flat_map (λ (s : models.Statement). models.inputs_in s.kind) ss) w in
    let clocks = has_word (flat_map (λ (s : models.Statement). models.clocks_in s.kind) ss) w in
    let latches = has_word (map latch_output (flat_map (λ (s : models.Statement). models.latches_in s.kind) ss)) w in
    let tables = has_word (map output_of (flat_map (λ (s : models.Statement). models.tables_in s.kind) ss)) w in
    ap (λ (b : Bool). bytes_eq latch.output w || b) h ∙ as_latch (bytes_eq latch.output w) inputs clocks latches tables
one_more (OneTable table) line ss w h =
    let inputs = has_word (flat_map (λ (s : models.Statement). models.inputs_in s.kind) ss) w in
    let clocks = has_word (flat_map (λ (s : models.Statement). models.clocks_in s.kind) ss) w in
    let latches = has_word (map latch_output (flat_map (λ (s : models.Statement). models.latches_in s.kind) ss)) w in
    let tables = has_word (map output_of (flat_map (λ (s : models.Statement). models.tables_in s.kind) ss)) w in
    ap (λ (b : Bool). bytes_eq table.output w || b) h ∙ as_table (bytes_eq table.output w) inputs clocks latches tables
one_more (OneSubcircuit c) line ss w h = h

all_have : (said : List models.Statement) (w : List ℕ) → has_word (defined_all said) w ≡ lists_have said w
all_have [] w = refl
all_have (s ∷ ss) w = one_more s.kind s.line ss w (all_have ss w)

has_without : (xs ys : List (List ℕ)) (w : List ℕ) → has_word (without xs ys) w ≡ (not (has_word xs w) && has_word ys w)
has_without xs ys w = any-filter_same (λ (y : List ℕ). bytes_eq y w) (λ (y : List ℕ). not (has_word xs y)) (not (has_word xs w)) (λ y e. ap (λ (k : List ℕ). not (has_word xs k)) (same_word y w e)) ys

-- the netlist of a model alone defines what its statements do
defined_alone : (m : models.Model) (w : List ℕ) → has_word (defined_all m.statements) w ≡ has_word (defined (alone m)) w
defined_alone m w =
    let latches = map latch_output (latches_of m) in
    let tables = has_word (map output_of (tables_of m)) w in
    all_have m.statements w
    ∙ sym (as_sources (has_word (inputs_of m) w) (has_word (clocks_of m) w) (has_word latches w) tables)
    ∙ ap (λ (b : Bool). (has_word (inputs_of m) w || (b || has_word latches w)) || tables) (sym (has_without (inputs_of m) (clocks_of m) w))
    ∙ ap (λ (b : Bool). (has_word (inputs_of m) w || b) || tables) (sym (has_word-append (without (inputs_of m) (clocks_of m)) latches w))
    ∙ ap (λ (b : Bool). b || tables) (sym (has_word-append (inputs_of m) (without (inputs_of m) (clocks_of m) ++ latches) w))
    ∙ sym (has_word-append (sources (alone m).frame) (map output_of (tables_of m)) w)

or_last : (o : Option (List ℕ)) → option_or o None ≡ o
or_last None = refl
or_last (Some word) = refl

-- The first fault of a model without subcircuits is the first name that it reads and never defines.
pub alone_fault : (ms : List Model) (m : Model) (n : Netlist) (names : List (List ℕ)) (reads : List ℕ) (r : Option (List ℕ)) → ms ≡ m ∷ [] → list_all is_plain m.statements ≡ true → n ≡ alone (model_in m) → names ≡ m.names → reads ≡ flat_map (read_in []) m.statements
    → r ≡ first_undefined n (words_at names reads) → first_fault_of_models (models_in ms) ≡ option_map Undriven r
alone_fault ms m n names reads r one h is same read found =
    let w : models.Model = model_in m in
    let all : List models.Model = w ∷ [] in
    let p : Plain w.statements = plain_said m.names m.statements h in
    let none : defined_all w.statements ++ flat_map (λ (s : models.Statement). defined_inside all s.kind) w.statements ≡ defined_all w.statements
    = ap (λ (l : List (List ℕ)). defined_all w.statements ++ l) (none_inside all w.statements p) ∙ append-nil (defined_all w.statements) in
    let words : words_at names reads ≡ read_all all w.statements = ap₂ words_at same read ∙ reads_words m.names all m.statements h in
    let first : undriven_in all w ≡ r =
    ap (λ (l : List (List ℕ)). missing l (read_all all w.statements)) none
    ∙ find_same (λ x. not (has_word (defined_all w.statements) x)) (λ x. not (has_word (defined (alone w)) x)) (λ x. ap not (defined_alone w x)) (read_all all w.statements)
    ∙ sym (found ∙ ap₂ first_undefined is words) in
    ap (λ (l : List Model). first_fault_of_models (models_in l)) one
    ∙ ap₂ (λ (a : Option FlatFault) (b : Option (List ℕ)). option_or a (option_map Undriven b))
    (ap (λ (a : Option FlatFault). option_or a None) (no_faults all w [] w.statements p))
    (or_last (undriven_in all w) ∙ first)
