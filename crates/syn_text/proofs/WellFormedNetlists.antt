-- The netlist in words that one by numbers stands for can be written.
use Rattle.std.proofs.Common.{◌≡◌, ℕ, ◌<◌, ◌&&◌, not, nat_lt, true, List, [], ◌∷◌, length, map, bytes_eq, refl, ap, ◌∙◌, Option, Some, None, arith}
use Rattle.std.specs.List.{list_all}
use Rattle.std.proofs.lemmas.Bool.Decides.{nat_tests}
use Rattle.std.proofs.lemmas.Bool.{and_parts, and_from, ltb-true}
use Rattle.std.proofs.lemmas.List.{length-map}
use Rattle.syn_netlist.specs.Words.{is_word}
use Rattle.syn_netlist.specs.Numbers.{word_at, words_at, kind_at, all_below}
use Rattle.syn_netlist.specs.declared.LatchKind.{LatchKind}
use Rattle.syn_netlist.specs.declared.Latch.{Latch}
use Rattle.syn_netlist.specs.declared.tables.Table.{Table}
use Rattle.syn_netlist.specs.declared.netlists.Netlist.{Netlist}
use Rattle.syn_netlist.specs.Lists.{control_of}
use Rattle.syn_netlist.specs.Kept.{latch_in, control_number, latch_numbers, latches_below, nil_word, no_nil_control, rows_fit, polarity_fits}
use Rattle.syn_netlist.specs.Tables.{table_in, tables_below}
use Rattle.syn_netlist.specs.Views.{netlist_in}
use Rattle.syn_netlist.proofs.Places.{has_word_at}
use Rattle.syn_netlist.proofs.Sets.{all_at}
use Rattle.syn_text.specs.WellFormed.{latch_fits, table_fits, IsWellFormed}

at_is_word : (names : List (List ℕ)) (i : ℕ) → list_all is_word names ≡ true → i < length names → is_word (word_at names i) ≡ true
at_is_word names i a l = all_at is_word names (word_at names i) a (has_word_at names i l)

are_words : (names : List (List ℕ)) (is : List ℕ) → list_all is_word names ≡ true → all_below (length names) is ≡ true → list_all is_word (words_at names is) ≡ true
are_words names [] a h = refl
are_words names (i ∷ is) a h =
    let p = and_parts (nat_lt i (length names)) (all_below (length names) is) h in
    and_from (is_word (word_at names i)) (list_all is_word (words_at names is)) (at_is_word names i a (ltb-true i (length names) p.0)) (are_words names is a p.1)

-- latches
control_words : (names : List (List ℕ)) (kind : Option (LatchKind × Option ℕ)) → list_all is_word names ≡ true → all_below (length names) (control_number kind) ≡ true → list_all is_word (control_of (kind_at names kind)) ≡ true
control_words names None a h = refl
control_words names (Some (k, None)) a h = refl
control_words names (Some (k, Some i)) a h = are_words names (i ∷ []) a h

no_nil : (names : List (List ℕ)) (kind : Option (LatchKind × Option ℕ)) → list_all (λ i. not (bytes_eq nil_word (word_at names i))) (control_number kind) ≡ true → list_all (λ w. not (bytes_eq nil_word w)) (control_of (kind_at names kind)) ≡ true
no_nil names None h = refl
no_nil names (Some (k, None)) h = refl
no_nil names (Some (k, Some i)) h = h

small : (i : ℕ) → i < 4 → nat_lt i 4 ≡ true
small i h = grind (arith, nat_tests)

latch_in_fits : (names : List (List ℕ)) (l : Latch) → list_all is_word names ≡ true → all_below (length names) (latch_numbers l) ≡ true → list_all (λ i. not (bytes_eq nil_word (word_at names i))) (control_number l.kind) ≡ true → latch_fits (latch_in names l) ≡ true
latch_in_fits names l a h s =
    let p = and_parts (nat_lt l.feed (length names)) (nat_lt l.output (length names) && all_below (length names) (control_number l.kind)) h in
    let q = and_parts (nat_lt l.output (length names)) (all_below (length names) (control_number l.kind)) p.1 in
    and_from _ (nat_lt l.init 4)
    (and_from _ (list_all (λ w. not (bytes_eq nil_word w)) (control_of (kind_at names l.kind)))
    (and_from (is_word (word_at names l.output)) _ (at_is_word names l.output a (ltb-true l.output (length names) q.0))
    (and_from (is_word (word_at names l.feed)) (list_all is_word (control_of (kind_at names l.kind))) (at_is_word names l.feed a (ltb-true l.feed (length names) p.0)) (control_words names l.kind a q.1)))
    (no_nil names l.kind s))
    (small l.init l.init_small)

latches_in_fit : (names : List (List ℕ)) (ls : List Latch) → list_all is_word names ≡ true → latches_below (length names) ls ≡ true → no_nil_control names ls ≡ true → list_all latch_fits (map (latch_in names) ls) ≡ true
latches_in_fit names [] a h s = refl
latches_in_fit names (l ∷ ls) a h s =
    let p = and_parts (all_below (length names) (latch_numbers l)) (latches_below (length names) ls) h in
    let q = and_parts (list_all (λ i. not (bytes_eq nil_word (word_at names i))) (control_number l.kind)) (no_nil_control names ls) s in
    and_from (latch_fits (latch_in names l)) (list_all latch_fits (map (latch_in names) ls)) (latch_in_fits names l a p.0 q.0) (latches_in_fit names ls a p.1 q.1)

-- tables
table_in_fits : (names : List (List ℕ)) (t : Table) → list_all is_word names ≡ true → (nat_lt t.output (length names) && all_below (length names) t.inputs) ≡ true → table_fits (table_in names t) ≡ true
table_in_fits names t a h =
    let p = and_parts (nat_lt t.output (length names)) (all_below (length names) t.inputs) h in
    and_from _ (polarity_fits t.rows t.on)
    (and_from _ (rows_fit (length (words_at names t.inputs)) t.rows)
    (and_from (is_word (word_at names t.output)) (list_all is_word (words_at names t.inputs)) (at_is_word names t.output a (ltb-true t.output (length names) p.0)) (are_words names t.inputs a p.1))
    (ap (λ n. rows_fit n t.rows) (length-map t.inputs (word_at names)) ∙ t.rows_fit))
    t.polarity

tables_in_fit : (names : List (List ℕ)) (ts : List Table) → list_all is_word names ≡ true → tables_below (length names) ts ≡ true → list_all table_fits (map (table_in names) ts) ≡ true
tables_in_fit names [] a h = refl
tables_in_fit names (t ∷ ts) a h =
    let p = and_parts (nat_lt t.output (length names) && all_below (length names) t.inputs) (tables_below (length names) ts) h in
    and_from (table_fits (table_in names t)) (list_all table_fits (map (table_in names) ts)) (table_in_fits names t a p.0) (tables_in_fit names ts a p.1)

pub netlist_in_fits : (n : Netlist) → list_all is_word n.frame.names ≡ true → IsWellFormed (netlist_in n)
netlist_in_fits n a = record {
  model = n.frame.model_is_word;
  inputs = are_words n.frame.names n.frame.inputs a n.frame.inputs_below;
  clocks = are_words n.frame.names n.frame.clocks a n.frame.clocks_below;
  outputs = are_words n.frame.names n.frame.outputs a n.frame.outputs_below;
  latches = latches_in_fit n.frame.names n.frame.latches a n.frame.latches_below n.frame.controls;
  tables = tables_in_fit n.frame.names n.tables a n.tables_below;
  once = record { clocks = n.frame.clocks_once; all = n.once };
}
