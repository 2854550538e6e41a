-- What statements read, by numbers and in words, and the first of it that isn't defined.
use Rattle.std.proofs.Common.{◌≡◌, ℕ, zero, suc, ◌<◌, ◌++◌, nat_lt, not, Bool, true, false, List, [], ◌∷◌, map, filter, find, flat_map, length, get_or, slice_index_or, refl, sym, ap, ap₂, ◌∙◌, inl, inr, Option, Some, None, option_map, arith}
use Rattle.std.proofs.lemmas.Bool.{and_parts, and_from, cases_Bool, cond-true, cond-false, ltb-true, not_from_true, not_from_false}
use Rattle.std.proofs.lemmas.List.{map-append}
use Rattle.syn_netlist.specs.Kept.{control_number}
use Rattle.syn_netlist.specs.Numbers.{word_at, words_at, all_below}
use Rattle.syn_netlist.specs.Walk.{is_unmarked}
use Rattle.syn_netlist.specs.Words.{has_word}
use Rattle.syn_netlist.proofs.Places.{all_below-append, words_at-control}
use Rattle.syn_models.specs.declared.hierarchy.Bind.{Bind}
use Rattle.syn_models.specs.declared.hierarchy.Model as code
use Rattle.syn_models.specs.declared.hierarchy.Statement.{Statement}
use Rattle.syn_models.specs.declared.hierarchy.StatementKind.{StatementKind}
use Rattle.syn_models.specs.declared.hierarchy.StatementKind.TheVariants as kinds
use Rattle.syn_models.specs.FlatFaults.{Check, reads_of, names_read, first_of_statements, first_of_models}
use Rattle.syn_models.specs.Kept.{actual_number, bind_in, kind_in, numbers_in, statement_in, statements_below}
use Rattle.syn_models.specs.Marked.{Marked}
use Rattle.syn_models.specs.Models as models
use Rattle.syn_models.specs.Models.{Model, is_reading, model_named}
use Rattle.syn_models.specs.Reading.{bound_numbers, numbers_read, read_in}
use Rattle.syn_models.specs.Views.{model_in}
use Rattle.syn_models.proofs.Once.{or_none_parts}

bound_words : (names : List (List ℕ)) (bs : List Bind) (o : Option Model) → words_at names (bound_numbers bs o) ≡ reads_of (map (bind_in names) bs) o
bound_words names bs None = refl
bound_words names [] (Some m) = refl
bound_words names (b ∷ bs) (Some m) = elim (cases_Bool (is_reading m b.formal)) [
  | inl t ↦
      ap (λ (l : List Bind). words_at names (map actual_number l)) (cond-true (is_reading m b.formal) (b ∷ filter (λ (x : Bind). is_reading m x.formal) bs) (filter (λ (x : Bind). is_reading m x.formal) bs) t)
      ∙ ap (λ (l : List (List ℕ)). word_at names b.actual ∷ l) (bound_words names bs (Some m))
      ∙ sym (ap (map models.actual_in) (cond-true (is_reading m b.formal) (bind_in names b ∷ filter (λ (x : models.Bind). is_reading m x.formal) (map (bind_in names) bs)) (filter (λ (x : models.Bind). is_reading m x.formal) (map (bind_in names) bs)) t))
  | inr f ↦
      ap (λ (l : List Bind). words_at names (map actual_number l)) (cond-false (is_reading m b.formal) (b ∷ filter (λ (x : Bind). is_reading m x.formal) bs) (filter (λ (x : Bind). is_reading m x.formal) bs) f)
      ∙ bound_words names bs (Some m)
      ∙ sym (ap (map models.actual_in) (cond-false (is_reading m b.formal) (bind_in names b ∷ filter (λ (x : models.Bind). is_reading m x.formal) (map (bind_in names) bs)) (filter (λ (x : models.Bind). is_reading m x.formal) (map (bind_in names) bs)) f))
]

kind_reads : (names : List (List ℕ)) (all : List Model) (kind : StatementKind) → words_at names (numbers_read all kind) ≡ names_read all (kind_in names kind)
kind_reads names all (kinds.Inputs ns) = refl
kind_reads names all (kinds.Outputs ns) = refl
kind_reads names all (kinds.Clock ns) = refl
kind_reads names all (kinds.Latch l) = ap (λ (ws : List (List ℕ)). word_at names l.feed ∷ ws) (words_at-control names l.kind)
kind_reads names all (kinds.Table t) = refl
kind_reads names all (kinds.Subckt c) = bound_words names c.binds (model_named all c.model)

reads_words : (names : List (List ℕ)) (all : List Model) (ss : List Statement) → words_at names (flat_map (read_in all) ss) ≡ flat_map (λ (s : models.Statement). names_read all s.kind) (map (statement_in names) ss)
reads_words names all [] = refl
reads_words names all (s ∷ ss) = map-append (word_at names) (numbers_read all s.kind) (flat_map (read_in all) ss) ∙ ap₂ (λ (a b : List (List ℕ)). a ++ b) (kind_reads names all s.kind) (reads_words names all ss)

bound_below : (count : ℕ) (bs : List Bind) (o : Option Model) → all_below count (map actual_number bs) ≡ true → all_below count (bound_numbers bs o) ≡ true
bound_below count bs None h = refl
bound_below count [] (Some m) h = refl
bound_below count (b ∷ bs) (Some m) h =
    let parts = and_parts (nat_lt b.actual count) (all_below count (map actual_number bs)) h in
    let rest = bound_below count bs (Some m) parts.1 in
    elim (cases_Bool (is_reading m b.formal)) [
      | inl t ↦ ap (λ (l : List Bind). all_below count (map actual_number l)) (cond-true (is_reading m b.formal) (b ∷ filter (λ (x : Bind). is_reading m x.formal) bs) (filter (λ (x : Bind). is_reading m x.formal) bs) t)
          ∙ and_from (nat_lt b.actual count) (all_below count (bound_numbers bs (Some m))) parts.0 rest
      | inr f ↦ ap (λ (l : List Bind). all_below count (map actual_number l)) (cond-false (is_reading m b.formal) (b ∷ filter (λ (x : Bind). is_reading m x.formal) bs) (filter (λ (x : Bind). is_reading m x.formal) bs) f) ∙ rest
    ]

kind_reads_below : (count : ℕ) (all : List Model) (kind : StatementKind) → all_below count (numbers_in kind) ≡ true → all_below count (numbers_read all kind) ≡ true
kind_reads_below count all (kinds.Inputs ns) h = refl
kind_reads_below count all (kinds.Outputs ns) h = h
kind_reads_below count all (kinds.Clock ns) h = refl
kind_reads_below count all (kinds.Latch l) h =
    let feed = and_parts (nat_lt l.feed count) (all_below count (l.output ∷ control_number l.kind)) h in
    and_from (nat_lt l.feed count) (all_below count (control_number l.kind)) feed.0 (and_parts (nat_lt l.output count) (all_below count (control_number l.kind)) feed.1).1
kind_reads_below count all (kinds.Table t) h = (and_parts (nat_lt t.output count) (all_below count t.inputs) h).1
kind_reads_below count all (kinds.Subckt c) h = bound_below count c.binds (model_named all c.model) h

pub reads_below : (count : ℕ) (all : List Model) (ss : List Statement) → statements_below count ss ≡ true → all_below count (flat_map (read_in all) ss) ≡ true
reads_below count all [] h = refl
reads_below count all (s ∷ ss) h =
    let parts = and_parts (all_below count (numbers_in s.kind)) (statements_below count ss) h in
    all_below-append count (numbers_read all s.kind) (flat_map (read_in all) ss) (kind_reads_below count all s.kind parts.0) (reads_below count all ss parts.1)

-- the first that isn't marked is the first that isn't among the words
unmarked_is : (names words : List (List ℕ)) (marks : List Bool) (ns : List ℕ) → Marked names words marks → all_below (length names) ns ≡ true
    → option_map (word_at names) (find (is_unmarked marks) ns) ≡ find (λ (name : List ℕ). not (has_word words name)) (words_at names ns)
unmarked_is names words marks [] h b = refl
unmarked_is names words marks (n ∷ ns) h b =
    let parts = and_parts (nat_lt n (length names)) (all_below (length names) ns) b in
    let same : slice_index_or marks n false ≡ has_word words (word_at names n) = h.at n (ltb-true n (length names) parts.0) in
    elim (cases_Bool (slice_index_or marks n false)) [
      | inl t ↦
          ap (option_map (word_at names)) (cond-false (not (slice_index_or marks n false)) (Some n) (find (is_unmarked marks) ns) (not_from_true (slice_index_or marks n false) t))
          ∙ unmarked_is names words marks ns h parts.1
          ∙ sym (cond-false (not (has_word words (word_at names n))) (Some (word_at names n)) (find (λ (name : List ℕ). not (has_word words name)) (words_at names ns)) (not_from_true (has_word words (word_at names n)) (sym same ∙ t)))
      | inr f ↦
          ap (option_map (word_at names)) (cond-true (not (slice_index_or marks n false)) (Some n) (find (is_unmarked marks) ns) (not_from_false (slice_index_or marks n false) f))
          ∙ sym (cond-true (not (has_word words (word_at names n))) (Some (word_at names n)) (find (λ (name : List ℕ). not (has_word words name)) (words_at names ns)) (not_from_false (has_word words (word_at names n)) (sym same ∙ f)))
    ]

pub undriven_is : (m : code.Model) (all : List Model) (words : List (List ℕ)) (marks : List Bool) (r : Option ℕ) → Marked m.names words marks → r ≡ find (is_unmarked marks) (flat_map (read_in all) m.statements)
    → option_map (word_at m.names) r ≡ find (λ (name : List ℕ). not (has_word words name)) (flat_map (λ (s : models.Statement). names_read all s.kind) (model_in m).statements)
undriven_is m all words marks r h e =
    ap (option_map (word_at m.names)) e
    ∙ unmarked_is m.names words marks (flat_map (read_in all) m.statements) h (reads_below (length m.names) all m.statements m.below)
    ∙ ap (find (λ (name : List ℕ). not (has_word words name))) (reads_words m.names all m.statements)

-- where no model has a fault, none has
pub models_none : (list : List Check) (all : List Model) (ms : List code.Model) (i : ℕ) (m : code.Model) → first_of_models list all (map model_in ms) ≡ None → i < length ms → m ≡ get_or ms i m
    → first_of_statements list all (model_in m) [] (model_in m).statements ≡ None
models_none list all [] i m e l s = absurd (omega arith)
models_none list all (x ∷ xs) zero m e l s =
    ap (λ (k : code.Model). first_of_statements list all (model_in k) [] (model_in k).statements) s
    ∙ (or_none_parts (first_of_statements list all (model_in x) [] (model_in x).statements) (first_of_models list all (map model_in xs)) e).0
models_none list all (x ∷ xs) (suc i) m e l s =
    models_none list all xs i m (or_none_parts (first_of_statements list all (model_in x) [] (model_in x).statements) (first_of_models list all (map model_in xs)) e).1 (omega arith) s
