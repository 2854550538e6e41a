-- Drawing table after table, and what the tables read and define.
use Rattle.std.proofs.Common.{◌≡◌, ℕ, suc, ◌+◌, ◌<◌, ◌&&◌, nat_lt, true, false, List, [], ◌∷◌, ◌++◌, map, filter, append_assoc, refl, sym, ap, ap₂, ◌∙◌, arith}
use Rattle.std.proofs.lemmas.Bool.{and_from, and_parts, cond-false, lt-ltb}
use Rattle.std.proofs.lemmas.List.{append-nil, map-append}
use Rattle.std.proofs.lemmas.List.Elements.{filter-append}
use Rattle.syn_netlist.specs.declared.tables.Table as code
use Rattle.syn_netlist.specs.Lists.{Table}
use Rattle.syn_netlist.specs.Numbers.{all_below, word_at, words_at}
use Rattle.syn_netlist.specs.Tables.{table_in, tables_below}
use Rattle.syn_netlist.proofs.Places.{below_from}
use Rattle.syn_gen.specs.declared.draws.Drawn.{Drawn}
use Rattle.syn_gen.specs.Draws.{after_draws, drawn}
use Rattle.syn_gen.specs.Generated.{is_true_at, minterm_row, numbers_below, signal, table_of, tables_from, truth_rows}
use Rattle.syn_gen.specs.Signals.{AreSignals}

-- a table by numbers stands for what was drawn
table_is : (count : ℕ) (names : List (List ℕ)) (d : Drawn) (output : ℕ) (t : code.Table) → AreSignals count names → output < count → d.first < count → d.second < count → d.third < count
    → t.output ≡ output → t.inputs ≡ d.first ∷ d.second ∷ d.third ∷ [] → t.rows ≡ truth_rows d.truth → t.on ≡ true → table_in names t ≡ table_of output d
table_is count names d output t are lo l1 l2 l3 eo ei er en =
    let n1 = are.at d.first l1 in
    let n2 = are.at d.second l2 in
    let n3 = are.at d.third l3 in
    let no : word_at names t.output ≡ signal output = ap (word_at names) eo ∙ are.at output lo in
    let ni : words_at names t.inputs ≡ signal d.first ∷ signal d.second ∷ signal d.third ∷ [] = ap (words_at names) ei ∙ cc (n1, n2, n3) in
    cc (no, ni, er, en)

-- one table more
pub more_tables : (count : ℕ) (names : List (List ℕ)) (tables more : List code.Table) (left those output next state after : ℕ) (d : Drawn) (t : code.Table) (all : List Table)
    → AreSignals count names → output < count → d.first < output → d.second < output → d.third < output
    → t.output ≡ output → t.inputs ≡ d.first ∷ d.second ∷ d.third ∷ [] → t.rows ≡ truth_rows d.truth → t.on ≡ true
    → d ≡ drawn output state → after ≡ after_draws 4 state → more ≡ tables ++ t ∷ [] → those ≡ suc left → next ≡ suc output
    → map (table_in names) tables ++ tables_from those output state ≡ all → map (table_in names) more ++ tables_from left next after ≡ all
more_tables count names tables more left those output next state after d t all are lo l1 l2 l3 eo ei er en ed ea told et eu before =
    let one = table_is count names d output t are lo (omega arith) (omega arith) (omega arith) eo ei er en in
    ap₂ (λ (l : List code.Table) k. map (table_in names) l ++ tables_from left k after) told eu
    ∙ ap (λ (l : List Table). l ++ tables_from left (suc output) after) (map-append (table_in names) tables (t ∷ []))
    ∙ append_assoc (map (table_in names) tables) (table_in names t ∷ []) (tables_from left (suc output) after)
    ∙ ap₂ (λ (x : Table) s. map (table_in names) tables ++ x ∷ tables_from left (suc output) s) (one ∙ ap (table_of output) ed) ea
    ∙ sym (ap (λ k. map (table_in names) tables ++ tables_from k output state) et)
    ∙ before

pub below_more : (count : ℕ) (tables more : List code.Table) (output : ℕ) (d : Drawn) (t : code.Table) → output < count → d.first < output → d.second < output → d.third < output
    → t.output ≡ output → t.inputs ≡ d.first ∷ d.second ∷ d.third ∷ [] → more ≡ tables ++ t ∷ [] → tables_below count tables ≡ true → tables_below count more ≡ true
below_more count tables more output d t lo l1 l2 l3 eo ei told before = ap (tables_below count) told ∙ pushed tables before
  where
    inputs : all_below count t.inputs ≡ true
    inputs = ap (all_below count) ei ∙ below_from count d.first (d.second ∷ d.third ∷ []) (omega arith) (below_from count d.second (d.third ∷ []) (omega arith) (below_from count d.third [] (omega arith) refl))

    one : (nat_lt t.output count && all_below count t.inputs) ≡ true
    one = and_from (nat_lt t.output count) (all_below count t.inputs) (lt-ltb t.output count (omega arith)) inputs

    pushed : (ts : List code.Table) → tables_below count ts ≡ true → tables_below count (ts ++ t ∷ []) ≡ true
    pushed [] h = and_from (nat_lt t.output count && all_below count t.inputs) true one refl
    pushed (x ∷ xs) h =
        let parts = and_parts (nat_lt x.output count && all_below count x.inputs) (tables_below count xs) h in
        and_from (nat_lt x.output count && all_below count x.inputs) (tables_below count (xs ++ t ∷ [])) parts.0 (pushed xs parts.1)

-- the row of one minterm more, where it is one of value 1

minterms_more : (truth m : ℕ) → map minterm_row (filter (is_true_at truth) (numbers_below (m + 1))) ≡ map minterm_row (filter (is_true_at truth) (numbers_below m)) ++ map minterm_row (filter (is_true_at truth) (m ∷ []))
minterms_more truth m =
    (let same : m + 1 ≡ suc m = omega arith in ap (λ k. map minterm_row (filter (is_true_at truth) (numbers_below k))) same)
    ∙ ap (map minterm_row) (filter-append (is_true_at truth) (numbers_below m) (m ∷ []))
    ∙ map-append minterm_row (filter (is_true_at truth) (numbers_below m)) (filter (is_true_at truth) (m ∷ []))

pub same_rows : (truth m : ℕ) (rows : List (List ℕ)) → is_true_at truth m ≡ false
    → rows ≡ map minterm_row (filter (is_true_at truth) (numbers_below m)) → rows ≡ map minterm_row (filter (is_true_at truth) (numbers_below (m + 1)))
same_rows truth m rows is was =
    was
    ∙ sym (append-nil (map minterm_row (filter (is_true_at truth) (numbers_below m))))
    ∙ sym (minterms_more truth m ∙ ap (λ (l : List ℕ). map minterm_row (filter (is_true_at truth) (numbers_below m)) ++ map minterm_row l) (cond-false (is_true_at truth m) (m ∷ []) [] is))
