-- The first name that is read and never defined, by numbers and by words.
use Rattle.std.proofs.Common.{◌≡◌, ℕ, ◌<◌, not, Bool, true, false, List, [], ◌∷◌, ◌++◌, length, map, flat_map, find, get_or, refl, sym, ap, ap₂, ◌∙◌, subst, inl, inr, Option, Some, option_map}
use Rattle.std.proofs.lemmas.Bool.{cases_Bool, cond-true, cond-false, not_from_false, not_from_true}
use Rattle.std.proofs.lemmas.List.{map-append}
use Rattle.syn_netlist.specs.declared.netlists.Netlist.{Netlist}
use Rattle.syn_netlist.specs.declared.tables.Table.{Table}
use Rattle.syn_netlist.specs.Faults.{reads, first_undefined, first_undriven, inputs_of}
use Rattle.syn_netlist.specs.Lists.{output_of, sources}
use Rattle.syn_netlist.specs.Marks.{read_numbers, AreMarks}
use Rattle.syn_netlist.specs.Numbers.{word_at, words_at, all_below}
use Rattle.syn_netlist.specs.Order.{defined}
use Rattle.syn_netlist.specs.Tables.{table_in}
use Rattle.syn_netlist.specs.Views.{netlist_in}
use Rattle.syn_netlist.specs.Walk.{is_unmarked, table_inputs, table_output}
use Rattle.syn_netlist.specs.Words.{has_word, distinct}
use Rattle.syn_netlist.proofs.Firsts.{table_outputs_below, table_inputs_below}
use Rattle.syn_netlist.proofs.Places.{below_parts, all_below-append, has_words, reads_below, words_at-reads}

pub words_at-table_outputs : (names : List (List ℕ)) (tables : List Table) → words_at names (map table_output tables) ≡ map output_of (map (table_in names) tables)
words_at-table_outputs names [] = refl
words_at-table_outputs names (t ∷ ts) = ap (λ (ws : List (List ℕ)). word_at names t.output ∷ ws) (words_at-table_outputs names ts)

pub words_at-table_inputs : (names : List (List ℕ)) (tables : List Table) → words_at names (flat_map table_inputs tables) ≡ flat_map inputs_of (map (table_in names) tables)
words_at-table_inputs names [] = refl
words_at-table_inputs names (t ∷ ts) = map-append (word_at names) t.inputs (flat_map table_inputs ts) ∙ ap (λ (ws : List (List ℕ)). words_at names t.inputs ++ ws) (words_at-table_inputs names ts)

pub defined_words : (n : Netlist) (from : List ℕ) → words_at n.frame.names from ≡ sources (netlist_in n).frame → words_at n.frame.names (from ++ map table_output n.tables) ≡ defined (netlist_in n)
defined_words n from e = map-append (word_at n.frame.names) from (map table_output n.tables) ∙ ap₂ (λ (a b : List (List ℕ)). a ++ b) e (words_at-table_outputs n.frame.names n.tables)

-- the numbers of all places that read a name
abbrev pub all_reads : Netlist → List ℕ
all_reads n = n.frame.outputs ++ (flat_map read_numbers n.frame.latches ++ flat_map table_inputs n.tables)

reads_words : (n : Netlist) → words_at n.frame.names (all_reads n) ≡ reads (netlist_in n)
reads_words n =
    map-append (word_at n.frame.names) n.frame.outputs (flat_map read_numbers n.frame.latches ++ flat_map table_inputs n.tables)
    ∙ ap (λ (ws : List (List ℕ)). words_at n.frame.names n.frame.outputs ++ ws)
    (map-append (word_at n.frame.names) (flat_map read_numbers n.frame.latches) (flat_map table_inputs n.tables)
    ∙ ap₂ (λ (a b : List (List ℕ)). a ++ b) (words_at-reads n.frame.names n.frame.latches) (words_at-table_inputs n.frame.names n.tables))

reads_there : (n : Netlist) → all_below (length n.frame.names) (all_reads n) ≡ true
reads_there n =
    let count : ℕ = length n.frame.names in
    all_below-append count n.frame.outputs (flat_map read_numbers n.frame.latches ++ flat_map table_inputs n.tables) n.frame.outputs_below
    (all_below-append count (flat_map read_numbers n.frame.latches) (flat_map table_inputs n.tables) (reads_below count n.frame.latches n.frame.latches_below) (table_inputs_below count n.tables n.tables_below))

find_words : (names : List (List ℕ)) (defined : List ℕ) (marks : List Bool) → distinct names ≡ true → all_below (length names) defined ≡ true → length marks ≡ length names → AreMarks defined marks
    → (numbers : List ℕ) → all_below (length names) numbers ≡ true → find (λ w. not (has_word (words_at names defined) w)) (words_at names numbers) ≡ option_map (word_at names) (find (is_unmarked marks) numbers)
find_words names defined marks d hd len m [] h = refl
find_words names defined marks d hd len m (n ∷ ns) h =
    let (lt, rest) = below_parts (length names) n ns h in
    let test : has_word (words_at names defined) (word_at names n) ≡ get_or marks n false = has_words names defined n d hd lt ∙ sym (m.at n (subst (λ k. n < k) (sym len) lt)) in
    go (get_or marks n false) test refl (find_words names defined marks d hd len m ns rest)
  where
    go : (b : Bool) → has_word (words_at names defined) (word_at names n) ≡ b → get_or marks n false ≡ b → find (λ w. not (has_word (words_at names defined) w)) (words_at names ns) ≡ option_map (word_at names) (find (is_unmarked marks) ns)
        → find (λ w. not (has_word (words_at names defined) w)) (word_at names n ∷ words_at names ns) ≡ option_map (word_at names) (find (is_unmarked marks) (n ∷ ns))
    go true e f r =
        cond-false (not (has_word (words_at names defined) (word_at names n))) (Some (word_at names n)) (find (λ w. not (has_word (words_at names defined) w)) (words_at names ns)) (not_from_true _ e) ∙ r
        ∙ ap (λ (o : Option ℕ). option_map (word_at names) o) (sym (cond-false (is_unmarked marks n) (Some n) (find (is_unmarked marks) ns) (not_from_true _ f)))
    go false e f r =
        cond-true (not (has_word (words_at names defined) (word_at names n))) (Some (word_at names n)) (find (λ w. not (has_word (words_at names defined) w)) (words_at names ns)) (not_from_false _ e)
        ∙ ap (λ (o : Option ℕ). option_map (word_at names) o) (sym (cond-true (is_unmarked marks n) (Some n) (find (is_unmarked marks) ns) (not_from_false _ f)))

-- the first of these names that isn't defined, by marks
pub undefined_is : (n : Netlist) (from : List ℕ) (marks : List Bool) (numbers : List ℕ) → distinct n.frame.names ≡ true → words_at n.frame.names from ≡ sources (netlist_in n).frame → all_below (length n.frame.names) from ≡ true
    → length marks ≡ length n.frame.names → AreMarks (from ++ map table_output n.tables) marks → all_below (length n.frame.names) numbers ≡ true
    → first_undefined (netlist_in n) (words_at n.frame.names numbers) ≡ option_map (word_at n.frame.names) (find (is_unmarked marks) numbers)
undefined_is n from marks numbers d e h len m below =
    ap (λ (a : List (List ℕ)). find (λ w. not (has_word a w)) (words_at n.frame.names numbers)) (sym (defined_words n from e))
    ∙ find_words n.frame.names (from ++ map table_output n.tables) marks d (all_below-append (length n.frame.names) from (map table_output n.tables) h (table_outputs_below (length n.frame.names) n.tables n.tables_below)) len m numbers below

pub undriven_is : (n : Netlist) (from : List ℕ) (marks : List Bool) → distinct n.frame.names ≡ true → words_at n.frame.names from ≡ sources (netlist_in n).frame → all_below (length n.frame.names) from ≡ true
    → length marks ≡ length n.frame.names → AreMarks (from ++ map table_output n.tables) marks → first_undriven (netlist_in n) ≡ option_map (word_at n.frame.names) (find (is_unmarked marks) (all_reads n))
undriven_is n from marks d e h len m =
    ap (first_undefined (netlist_in n)) (sym (reads_words n)) ∙ undefined_is n from marks (all_reads n) d e h len m (reads_there n)

pub find_below : (p : ℕ → Bool) (count : ℕ) (numbers : List ℕ) (i : ℕ) → all_below count numbers ≡ true → find p numbers ≡ Some i → i < count
find_below p count [] i h e = cc
find_below p count (n ∷ ns) i h e =
    let (lt, rest) = below_parts count n ns h in
    elim (cases_Bool (p n)) [
      | inl t ↦ (let same : Some n ≡ Some i = sym (cond-true (p n) (Some n) (find p ns) t) ∙ e in let eq : n ≡ i = cc in subst (λ k. k < count) eq lt)
      | inr f ↦ find_below p count ns i rest (sym (cond-false (p n) (Some n) (find p ns) f) ∙ e)
    ]

pub undriven_below : (n : Netlist) (marks : List Bool) (i : ℕ) → find (is_unmarked marks) (all_reads n) ≡ Some i → i < length n.frame.names
undriven_below n marks i e = find_below (is_unmarked marks) (length n.frame.names) (all_reads n) i (reads_there n) e
