-- Where the walk meets its path again, the names from there on are the answered circle.
use Rattle.std.proofs.Common.{◌≡◌, ℕ, zero, suc, ◌<◌, ◌||◌, not, nat_eq, Bool, true, false, List, [], ◌∷◌, ◌++◌, length, map, find, take, get_or, bytes_eq, refl, sym, ap, ap₂, ◌∙◌, subst, inl, inr, Option, Some, None, MatchOption, Contains, arith}
use Rattle.std.specs.List.{list_any, list_all}
use Rattle.std.proofs.lemmas.Bool.{and_parts, and_from, cases_Bool, cond-true, cond-false, or_cases, or_from, or_left, or_right, both_ways, false_from_ne_true}
use Rattle.std.proofs.lemmas.Bool.Decides.{eqb_tells}
use Rattle.std.proofs.lemmas.List.{map-append, length-map}
use Rattle.std.proofs.lemmas.List.Elements.{Contains-get_or}
use Rattle.std.proofs.lemmas.List.Folds.{list_any_at}
use Rattle.syn_netlist.specs.declared.netlists.Netlist.{Netlist}
use Rattle.syn_netlist.specs.declared.order_walk.Stage.{Stage}
use Rattle.syn_netlist.specs.declared.tables.Table.{Table}
use Rattle.syn_netlist.specs.Faults.{EachReadsAnother, IsCyclicSet, AnswersCircle, GoesOn, next_in, no_table}
use Rattle.syn_netlist.specs.Lists as lists
use Rattle.syn_netlist.specs.Lists.{output_of, sources}
use Rattle.syn_lists.specs.Numbers.{has_number}
use Rattle.syn_netlist.specs.Numbers.{word_at, words_at, all_below}
use Rattle.syn_netlist.specs.Tables.{table_in}
use Rattle.syn_netlist.specs.Views.{netlist_in}
use Rattle.syn_netlist.specs.Walk.{table_output, inputs_at, output_at, driver_at, stage_at, is_done, is_finished, driver_among, reads_made, seen_at, Leads, Linked, Begins, AreDrivers, IsOrderWalk, Meets, from_number, output_words}
use Rattle.syn_lists.specs.Numbers.{distinct_numbers}
use Rattle.syn_netlist.specs.Words.{has_word, distinct}
use Rattle.syn_netlist.proofs.Arranging.{word_of_output, words_of_inputs}
use Rattle.syn_netlist.proofs.CyclicSets.{to_in, in_has, one_table, next_is, cyclic_set}
use Rattle.syn_netlist.proofs.Firsts.{table_outputs_below}
use Rattle.syn_netlist.proofs.Places.{below_at, below_parts, has_words}
use Rattle.syn_netlist.proofs.Sets.{word_same, same_word, distinct_right}
use Rattle.syn_netlist.proofs.Undriven.{words_at-table_outputs}
use Rattle.syn_netlist.proofs.Walking.{driver_is, inputs_below, finished_among}
use Rattle.syn_lists.proofs.Once.{has_other}

-- the first that passes
find_first : (p : List ℕ → Bool) (xs : List (List ℕ)) (k : ℕ) → k < length xs → ((j : ℕ) → j < k → p (word_at xs j) ≡ false) → p (word_at xs k) ≡ true → find p xs ≡ Some (word_at xs k)
find_first p [] k lt before here = absurd (omega arith)
find_first p (x ∷ xs) zero lt before here = cond-true (p x) (Some x) (find p xs) here
find_first p (x ∷ xs) (suc k) lt before here = cond-false (p x) (Some x) (find p xs) (before 0 (omega arith)) ∙ find_first p xs k (omega arith) (λ j l. before (suc j) (omega arith)) here

word_at-words : (names : List (List ℕ)) (numbers : List ℕ) (k : ℕ) → k < length numbers → word_at (words_at names numbers) k ≡ word_at names (get_or numbers k 0)
word_at-words names [] k lt = absurd (omega arith)
word_at-words names (n ∷ ns) zero lt = refl
word_at-words names (n ∷ ns) (suc k) lt = word_at-words names ns k (omega arith)

-- distinct words of distinct numbers
distinct_words : (names : List (List ℕ)) (numbers : List ℕ) → distinct names ≡ true → all_below (length names) numbers ≡ true → distinct_numbers numbers ≡ true → distinct (words_at names numbers) ≡ true
distinct_words names [] d b o = refl
distinct_words names (n ∷ ns) d b o =
    let (lt, rest) = below_parts (length names) n ns b in
    let parts = and_parts (not (has_number ns n)) (distinct_numbers ns) o in
    and_from (not (has_word (words_at names ns) (word_at names n))) (distinct (words_at names ns)) (ap not (has_words names ns n d rest lt) ∙ parts.0) (distinct_words names ns d rest parts.1)

-- a word among the words of numbers is that of one of them
word_among : (names : List (List ℕ)) (numbers : List ℕ) (w : List ℕ) → has_word (words_at names numbers) w ≡ true → (t : ℕ) × (has_number numbers t ≡ true) × (bytes_eq (word_at names t) w ≡ true)
word_among names [] w h = absurd (both_ways false refl h)
word_among names (n ∷ ns) w h = elim (or_cases (bytes_eq (word_at names n) w) (has_word (words_at names ns) w) h) [
  | inl e ↦ (n, or_left (nat_eq n n) (has_number ns n) (elim (eqb_tells n n) [ inl (t, f) ↦ t | inr (t, f) ↦ absurd (f refl) ]), e)
  | inr r ↦ (let (t, there, same) = word_among names ns w r in (t, or_right (nat_eq n t) (has_number ns t) there, same))
]

among_words : (names : List (List ℕ)) (numbers : List ℕ) (t : ℕ) → has_number numbers t ≡ true → has_word (words_at names numbers) (word_at names t) ≡ true
among_words names [] t h = absurd (both_ways false refl h)
among_words names (n ∷ ns) t h = elim (or_cases (nat_eq n t) (has_number ns t) h) [
  | inl e ↦ or_left (bytes_eq (word_at names n) (word_at names t)) (has_word (words_at names ns) (word_at names t)) (elim (eqb_tells n t) [ inl (u, f) ↦ ap (λ k. bytes_eq (word_at names n) (word_at names k)) (sym f) ∙ word_same (word_at names n) | inr (u, f) ↦ absurd (both_ways (nat_eq n t) u e) ])
  | inr r ↦ or_right (bytes_eq (word_at names n) (word_at names t)) (has_word (words_at names ns) (word_at names t)) (among_words names ns t r)
]

has_below : (count : ℕ) (numbers : List ℕ) (t : ℕ) → all_below count numbers ≡ true → has_number numbers t ≡ true → t < count
has_below count [] t b h = absurd (both_ways false refl h)
has_below count (n ∷ ns) t b h =
    let (lt, rest) = below_parts count n ns b in
    elim (or_cases (nat_eq n t) (has_number ns t) h) [
      | inl e ↦ elim (eqb_tells n t) [ inl (u, f) ↦ subst (λ k. k < count) f lt | inr (u, f) ↦ absurd (both_ways (nat_eq n t) u e) ]
      | inr r ↦ has_below count ns t rest r
    ]

-- the part of a list from the first place of a number
split_from : (ns : List ℕ) (n : ℕ) → has_number ns n ≡ true → (a : List ℕ) × (b : List ℕ) × (ns ≡ a ++ n ∷ b) × (from_number n ns ≡ n ∷ b)
split_from [] n h = absurd (both_ways false refl h)
split_from (x ∷ xs) n h = elim (eqb_tells x n) [
  | inl (t, e) ↦ ([], xs, ap (λ k. k ∷ xs) e, cond-true (nat_eq x n) (x ∷ xs) (from_number n xs) t ∙ ap (λ k. k ∷ xs) e)
  | inr (t, e) ↦ (
      let r = split_from xs n (elim (or_cases (nat_eq x n) (has_number xs n) h) [ inl y ↦ absurd (both_ways (nat_eq x n) t y) | inr y ↦ y ]) in
      (x ∷ r.0, r.1, ap (λ (l : List ℕ). x ∷ l) r.2, cond-false (nat_eq x n) (x ∷ xs) (from_number n xs) t ∙ r.3))
]

pub from_below : (count n : ℕ) (ns : List ℕ) → all_below count ns ≡ true → all_below count (from_number n ns) ≡ true
from_below count n [] b = refl
from_below count n (x ∷ xs) b = elim (cases_Bool (nat_eq x n)) [
  | inl e ↦ ap (all_below count) (cond-true (nat_eq x n) (x ∷ xs) (from_number n xs) e) ∙ b
  | inr e ↦ ap (all_below count) (cond-false (nat_eq x n) (x ∷ xs) (from_number n xs) e) ∙ from_below count n xs (below_parts count x xs b).1
]

-- each table leads to the next, the last to `back`
abbrev Chain : List Table → List (Option ℕ) → List ℕ → List ℕ → ℕ → Type 0
Chain tables drivers seen [] back = Unit {0}
Chain tables drivers seen (t ∷ []) back = Leads tables drivers seen t back
Chain tables drivers seen (t ∷ u ∷ path) back = Leads tables drivers seen t u × Chain tables drivers seen (u ∷ path) back

chain_from : (tables : List Table) (drivers : List (Option ℕ)) (seen front : List ℕ) (last back : ℕ) → Linked tables drivers seen (front ++ last ∷ []) → Leads tables drivers seen last back → Chain tables drivers seen (front ++ last ∷ []) back
chain_from tables drivers seen [] last back l m = m
chain_from tables drivers seen (p ∷ []) last back l m = (l.0, m)
chain_from tables drivers seen (p ∷ q ∷ ps) last back l m = (l.0, chain_from tables drivers seen (q ∷ ps) last back l.1 m)

chain_leads : (tables : List Table) (drivers : List (Option ℕ)) (seen whole path : List ℕ) (back : ℕ) → Chain tables drivers seen path back → ((x : ℕ) → has_number path x ≡ true → has_number whole x ≡ true) → has_number whole back ≡ true
    → (t : ℕ) → has_number path t ≡ true → (u : ℕ) × Leads tables drivers seen t u × (has_number whole u ≡ true)
chain_leads tables drivers seen whole [] back c sub again t h = absurd (both_ways false refl h)
chain_leads tables drivers seen whole (p ∷ []) back c sub again t h = elim (eqb_tells p t) [
  | inl (u, e) ↦ (back, subst (λ k. Leads tables drivers seen k back) e c, again)
  | inr (u, e) ↦ absurd (both_ways (nat_eq p t || false) (or_from (nat_eq p t) false u refl) h)
]
chain_leads tables drivers seen whole (p ∷ q ∷ ps) back c sub again t h = elim (eqb_tells p t) [
  | inl (u, e) ↦ (q, subst (λ k. Leads tables drivers seen k q) e c.0, sub q (or_right (nat_eq p q) (has_number (q ∷ ps) q) (or_left (nat_eq q q) (has_number ps q) (elim (eqb_tells q q) [ inl (v, f) ↦ v | inr (v, f) ↦ absurd (f refl) ]))))
  | inr (u, e) ↦ chain_leads tables drivers seen whole (q ∷ ps) back c.1 (λ x k. sub x (or_right (nat_eq p x) (has_number (q ∷ ps) x) k)) again t
      (elim (or_cases (nat_eq p t) (has_number (q ∷ ps) t) h) [ inl y ↦ absurd (both_ways (nat_eq p t) u y) | inr y ↦ y ])
]

all_taken : (p : ℕ → Bool) (k : ℕ) (xs : List ℕ) (j : ℕ) → list_all p (take k xs) ≡ true → j < k → j < length xs → p (get_or xs j 0) ≡ true
all_taken p k [] j h l lt = absurd (omega arith)
all_taken p zero (x ∷ xs) j h l lt = absurd (omega arith)
all_taken p (suc k) (x ∷ xs) zero h l lt = (and_parts (p x) (list_all p (take k xs)) h).0
all_taken p (suc k) (x ∷ xs) (suc j) h l lt = all_taken p k xs j (and_parts (p x) (list_all p (take k xs)) h).1 (omega arith) (omega arith)

number_there : (n : ℕ) (ns : List ℕ) → has_number (n ∷ ns) n ≡ true
number_there n ns = or_left (nat_eq n n) (has_number ns n) (elim (eqb_tells n n) [ inl (t, f) ↦ t | inr (t, f) ↦ absurd (f refl) ])

-- the words of the outputs
abbrev pub outs : Netlist → List (List ℕ)
outs n = map output_of (netlist_in n).tables

outs_once : (n : Netlist) → distinct (outs n) ≡ true
outs_once n = distinct_right (sources (netlist_in n).frame) (outs n) n.once

outs_length : (n : Netlist) → length (outs n) ≡ length n.tables
outs_length n = length-map (netlist_in n).tables output_of ∙ length-map n.tables (table_in n.frame.names)

words_length : (n : Netlist) → length (netlist_in n).tables ≡ length n.tables
words_length n = length-map n.tables (table_in n.frame.names)

pub out_word : (n : Netlist) (t : ℕ) → t < length n.tables → word_at (outs n) t ≡ word_at n.frame.names (output_at n.tables t)
out_word n t lt =
    ap (λ (l : List (List ℕ)). word_at l t) (sym (words_at-table_outputs n.frame.names n.tables))
    ∙ word_at-words n.frame.names (map table_output n.tables) t (subst (λ k. t < k) (sym (length-map n.tables table_output)) lt)

abbrev the_table : Netlist → ℕ → lists.Table
the_table n t = get_or (netlist_in n).tables t no_table

table_there : (n : Netlist) (t : ℕ) → t < length n.tables → Contains (netlist_in n).tables (the_table n t)
table_there n t lt = Contains-get_or (netlist_in n).tables t no_table (subst (λ k. t < k) (sym (words_length n)) lt)

table_output_is : (n : Netlist) (t : ℕ) → t < length n.tables → (the_table n t).output ≡ word_at (outs n) t
table_output_is n t lt = word_of_output n.tables n.frame.names t lt ∙ sym (out_word n t lt)

module _ (n : Netlist) (drivers : List (Option ℕ)) (d : distinct n.frame.names ≡ true) (len : length drivers ≡ length n.frame.names) (are : AreDrivers n.tables drivers)
    (stages : List Stage) (seen path order : List ℕ) (w : IsOrderWalk n.tables drivers stages seen path order) where
  -- where the maker is u, the name is its output
  made_word : (name u : ℕ) → driver_at drivers name ≡ Some u → word_at (outs n) u ≡ word_at n.frame.names name
  made_word name u e = let m = driver_is n.tables drivers name u are e in out_word n u m.0 ∙ ap (word_at n.frame.names) m.1

  module _ (set : List ℕ → Bool) (reading : EachReadsAnother (netlist_in n).tables set) where
    reads_one : (t : ℕ) → t < length n.tables → set (word_at (outs n) t) ≡ true → list_any set (the_table n t).inputs ≡ true
    reads_one t lt h =
        let r = reading (word_at (outs n) t) h in
        let c = table_there n t lt in
        let same : r.0 ≡ the_table n t = one_table (netlist_in n).tables r.0 (the_table n t) (outs_once n) (to_in (netlist_in n).tables r.0 r.1.0 r.1.1 r.1.2) (to_in (netlist_in n).tables (the_table n t) c.0 c.1 c.2) (r.2 ∙ sym (table_output_is n t lt)) in
        subst (λ (x : lists.Table). list_any set x.inputs ≡ true) same r.3

    unmade_out : (name : ℕ) → name < length n.frame.names → driver_at drivers name ≡ None → set (word_at n.frame.names name) ≡ false
    unmade_out name lt e = false_from_ne_true (set (word_at n.frame.names name)) (λ h.
        let r = reading (word_at n.frame.names name) h in
        let there : has_word (outs n) (word_at n.frame.names name) ≡ true = subst (λ x. has_word (outs n) x ≡ true) r.2 (in_has (netlist_in n).tables r.0 (to_in (netlist_in n).tables r.0 r.1.0 r.1.1 r.1.2)) in
        let away : has_number (map table_output n.tables) name ≡ false = subst (λ o. MatchOption o (has_number (map table_output n.tables) name ≡ false) (λ t. (t < length n.tables) × (output_at n.tables t ≡ name))) e (are.at name (subst (λ k. name < k) (sym len) lt)) in
        both_ways (has_word (outs n) (word_at n.frame.names name))
        (ap (λ (l : List (List ℕ)). has_word l (word_at n.frame.names name)) (sym (words_at-table_outputs n.frame.names n.tables)) ∙ has_words n.frame.names (map table_output n.tables) name d (table_outputs_below (length n.frame.names) n.tables n.tables_below) lt ∙ away) there)

    driver_out : (before : List ℕ) → ((t : ℕ) → has_number before t ≡ true → set (word_at (outs n) t) ≡ false) → (name : ℕ) → name < length n.frame.names → driver_among before (driver_at drivers name) ≡ true → set (word_at n.frame.names name) ≡ false
    driver_out before out name lt h = go (driver_at drivers name) refl h
      where
        go : (m : Option ℕ) → driver_at drivers name ≡ m → driver_among before m ≡ true → set (word_at n.frame.names name) ≡ false
        go None e h = unmade_out name lt e
        go (Some u) e h = ap set (sym (made_word name u e)) ∙ out u h

    none_of : (before : List ℕ) → ((t : ℕ) → has_number before t ≡ true → set (word_at (outs n) t) ≡ false) → (inputs : List ℕ) → all_below (length n.frame.names) inputs ≡ true → list_all (λ name. driver_among before (driver_at drivers name)) inputs ≡ true
        → list_any set (words_at n.frame.names inputs) ≡ false
    none_of before out [] b h = refl
    none_of before out (i ∷ is) b h =
        let (lt, rest) = below_parts (length n.frame.names) i is b in
        let parts = and_parts (driver_among before (driver_at drivers i)) (list_all (λ name. driver_among before (driver_at drivers name)) is) h in
        or_from (set (word_at n.frame.names i)) (list_any set (words_at n.frame.names is)) (driver_out before out i lt parts.0) (none_of before out is rest parts.1)

    order_out : (before rest : List ℕ) → ((t : ℕ) → has_number before t ≡ true → set (word_at (outs n) t) ≡ false) → all_below (length n.tables) rest ≡ true → reads_made n.tables drivers before rest ≡ true
        → (t : ℕ) → has_number rest t ≡ true → set (word_at (outs n) t) ≡ false
    order_out before [] out b r t h = absurd (both_ways false refl h)
    order_out before (x ∷ xs) out b r t h =
        let (lt, rest) = below_parts (length n.tables) x xs b in
        let parts = and_parts (list_all (λ name. driver_among before (driver_at drivers name)) (inputs_at n.tables x)) (reads_made n.tables drivers (before ++ x ∷ []) xs) r in
        let none : list_any set (the_table n x).inputs ≡ false = ap (list_any set) (words_of_inputs n.tables n.frame.names x lt) ∙ none_of before out (inputs_at n.tables x) (inputs_below (length n.frame.names) n.tables x n.tables_below) parts.0 in
        let here : set (word_at (outs n) x) ≡ false = false_from_ne_true (set (word_at (outs n) x)) (λ k. both_ways (list_any set (the_table n x).inputs) none (reads_one x lt k)) in
        elim (eqb_tells x t) [
          | inl (u, e) ↦ ap (λ k. set (word_at (outs n) k)) (sym e) ∙ here
          | inr (u, e) ↦ order_out (before ++ x ∷ []) xs (λ k j. more before x k here out j) rest parts.1 t (elim (or_cases (nat_eq x t) (has_number xs t) h) [ inl y ↦ absurd (both_ways (nat_eq x t) u y) | inr y ↦ y ])
        ]
      where
        more : (before : List ℕ) (x k : ℕ) → set (word_at (outs n) x) ≡ false → ((t : ℕ) → has_number before t ≡ true → set (word_at (outs n) t) ≡ false) → has_number (before ++ x ∷ []) k ≡ true → set (word_at (outs n) k) ≡ false
        more before x k here out j = elim (eqb_tells k x) [
          | inl (u, e) ↦ ap (λ i. set (word_at (outs n) i)) e ∙ here
          | inr (u, e) ↦ out k (sym (has_other before x k e) ∙ j)
        ]

    -- no table that is done is in the set
    ordered_out : (t : ℕ) → has_number order t ≡ true → set (word_at (outs n) t) ≡ false
    ordered_out t h = order_out [] order (λ k j. absurd (both_ways false refl j)) w.order_below w.made t h

    pub done_out : (t : ℕ) → t < length n.tables → is_done (stage_at stages t) ≡ true → set (word_at (outs n) t) ≡ false
    done_out t lt h = ordered_out t (sym (w.done_ones t (subst (λ k. t < k) (sym w.stages_fit) lt)) ∙ h)

    finished_out : (name : ℕ) → name < length n.frame.names → is_finished drivers stages name ≡ true → set (word_at n.frame.names name) ≡ false
    finished_out name lt h = driver_out order ordered_out name lt (and_parts (driver_among order (driver_at drivers name)) true (finished_among n.tables drivers stages order w.done_ones (name ∷ []) (and_from (is_finished drivers stages name) true h refl))).0

    -- the first input in the set is the one to which the table leads
    pub next_found : (t u : ℕ) → t < length n.tables → Leads n.tables drivers seen t u → set (word_at (outs n) u) ≡ true → find set (the_table n t).inputs ≡ Some (word_at (outs n) u)
    next_found t u lt l here =
        let inputs : List ℕ = inputs_at n.tables t in
        let at : ℕ = seen_at seen t in
        let words : List (List ℕ) = words_at n.frame.names inputs in
        let word : word_at words at ≡ word_at (outs n) u = word_at-words n.frame.names inputs at l.inside ∙ sym (made_word (get_or inputs at 0) u l.made) in
        ap (λ (x : List (List ℕ)). find set x) (words_of_inputs n.tables n.frame.names t lt)
        ∙ find_first set words at (subst (λ k. at < k) (sym (length-map inputs (word_at n.frame.names))) l.inside) (λ j less. before inputs at j (inputs_below (length n.frame.names) n.tables t n.tables_below) l.inside less (w.looked t lt)) (ap set word ∙ here)
        ∙ ap (λ (x : List ℕ). Some x) word
      where
        before : (inputs : List ℕ) (at j : ℕ) → all_below (length n.frame.names) inputs ≡ true → at < length inputs → j < at → list_all (is_finished drivers stages) (take at inputs) ≡ true → set (word_at (words_at n.frame.names inputs) j) ≡ false
        before inputs at j b inside less h =
            let lt : j < length inputs = omega arith in
            ap set (word_at-words n.frame.names inputs j lt) ∙ finished_out (get_or inputs j 0) (below_at (length n.frame.names) inputs j b lt) (all_taken (is_finished drivers stages) at inputs j h less lt)

-- the answer

head_of : (path a : List ℕ) (n : ℕ) (b : List ℕ) → path ≡ a ++ n ∷ b → (root : ℕ) × (rest : List ℕ) × (path ≡ root ∷ rest)
head_of path [] n b e = (n, b, e)
head_of path (x ∷ xs) n b e = (x, xs ++ n ∷ b, e)

module _ (n : Netlist) (drivers : List (Option ℕ)) (d : distinct n.frame.names ≡ true) (len : length drivers ≡ length n.frame.names) (are : AreDrivers n.tables drivers)
    (stages : List Stage) (seen path order : List ℕ) (back : ℕ) (m : Meets n.tables drivers stages seen path order back) where
  chain : Chain n.tables drivers seen path back
  chain = subst (λ (l : List ℕ). Chain n.tables drivers seen l back) (sym m.path_is) (chain_from n.tables drivers seen m.front m.last back (subst (λ (l : List ℕ). Linked n.tables drivers seen l) m.path_is m.walk.linked) m.leads)

  inside_path : (t : ℕ) → has_number path t ≡ true → t < length n.tables
  inside_path t h = has_below (length n.tables) path t m.walk.path_below h

  -- the words of the path read each other
  abbrev on_path : List ℕ → Bool
  on_path w = has_word (words_at (outs n) path) w

  path_reads : EachReadsAnother (netlist_in n).tables on_path
  path_reads word h =
      let (t, there, same) = word_among (outs n) path word h in
      let (u, leads, next) = chain_leads n.tables drivers seen path path back chain (λ x k. k) m.again t there in
      let lt : t < length n.tables = inside_path t there in
      let inputs : List ℕ = inputs_at n.tables t in
      let at : ℕ = seen_at seen t in
      let read : word_at (words_at n.frame.names inputs) at ≡ word_at (outs n) u = word_at-words n.frame.names inputs at leads.inside ∙ sym (made_word n drivers d len are stages seen path order m.walk (get_or inputs at 0) u leads.made) in (
        the_table n t,
        table_there n t lt,
        table_output_is n t lt ∙ same_word (word_at (outs n) t) word same,
        ap (list_any on_path) (words_of_inputs n.tables n.frame.names t lt)
            ∙ list_any_at on_path (words_at n.frame.names inputs) at [] (subst (λ k. at < k) (sym (length-map inputs (word_at n.frame.names))) leads.inside) (ap on_path read ∙ among_words (outs n) path u next),
      )

  pub answers : AnswersCircle (netlist_in n).tables (words_at (outs n) (from_number back path))
  answers = (
    word_at (outs n) root,
    words_at (outs n) a,
    set,
    record {
      cyclic = cyclic;
      begins = begins;
      path = (words_at (outs n) rest, joined, (word_at (outs n) back, words_at (outs n) b, ap (words_at (outs n)) from_is, goes root rest (subst (λ (l : List ℕ). Chain n.tables drivers seen l back) path_is chain) (λ x h. subst (λ (l : List ℕ). has_number l x ≡ true) (sym path_is) h)));
      once = ap distinct whole ∙ distinct_words (outs n) path (outs_once n) (subst (λ k. all_below k path ≡ true) (sym (outs_length n)) m.walk.path_below) m.walk.path_once;
    },
  )
    where
      found : (a : List ℕ) × (b : List ℕ) × (path ≡ a ++ back ∷ b) × (from_number back path ≡ back ∷ b)
      found = split_from path back m.again

      a : List ℕ
      a = found.0

      b : List ℕ
      b = found.1

      from_is : from_number back path ≡ back ∷ b
      from_is = found.3

      head : (root : ℕ) × (rest : List ℕ) × (path ≡ root ∷ rest)
      head = head_of path found.0 back found.1 found.2

      root : ℕ
      root = head.0

      rest : List ℕ
      rest = head.1

      path_is : path ≡ root ∷ rest
      path_is = head.2

      cyc : (set : List ℕ → Bool) × IsCyclicSet (netlist_in n).tables set
      cyc = cyclic_set (netlist_in n).tables (outs_once n) (word_at (outs n) back) (on_path, path_reads, among_words (outs n) path back m.again)

      set : List ℕ → Bool
      set = cyc.0

      cyclic : IsCyclicSet (netlist_in n).tables set
      cyclic = cyc.1

      on_it : (t : ℕ) → has_number path t ≡ true → set (word_at (outs n) t) ≡ true
      on_it t h = cyclic.greatest on_path path_reads (word_at (outs n) t) (among_words (outs n) path t h)

      root_there : has_number path root ≡ true
      root_there = subst (λ (l : List ℕ). has_number l root ≡ true) (sym path_is) (or_left (nat_eq root root) (has_number rest root) (elim (eqb_tells root root) [ inl (t, f) ↦ t | inr (t, f) ↦ absurd (f refl) ]))

      begins : find set (outs n) ≡ Some (word_at (outs n) root)
      begins = find_first set (outs n) root (subst (λ k. root < k) (sym (outs_length n)) (inside_path root root_there))
          (λ j less. done_out n drivers d len are stages seen path order m.walk set cyclic.reading j (let lt = inside_path root root_there in omega arith) (subst (λ (l : List ℕ). Begins stages l) path_is m.walk.begins j less))
          (on_it root root_there)

      whole : words_at (outs n) a ++ words_at (outs n) (from_number back path) ≡ words_at (outs n) path
      whole = ap (λ (l : List ℕ). words_at (outs n) a ++ words_at (outs n) l) from_is ∙ sym (map-append (word_at (outs n)) a (back ∷ b)) ∙ ap (words_at (outs n)) (sym found.2)

      joined : words_at (outs n) a ++ words_at (outs n) (from_number back path) ≡ word_at (outs n) root ∷ words_at (outs n) rest
      joined = whole ∙ ap (words_at (outs n)) path_is

      next_of : (t u : ℕ) → has_number path t ≡ true → Leads n.tables drivers seen t u → has_number path u ≡ true → next_in (netlist_in n).tables set (word_at (outs n) t) ≡ Some (word_at (outs n) u)
      next_of t u h l k =
          let lt : t < length n.tables = inside_path t h in
          let c = table_there n t lt in
          ap (next_in (netlist_in n).tables set) (sym (table_output_is n t lt))
          ∙ next_is (netlist_in n).tables set (the_table n t) (outs_once n) (to_in (netlist_in n).tables (the_table n t) c.0 c.1 c.2)
          ∙ next_found n drivers d len are stages seen path order m.walk set cyclic.reading t u lt l (on_it u k)

      goes : (t : ℕ) (ps : List ℕ) → Chain n.tables drivers seen (t ∷ ps) back → ((x : ℕ) → has_number (t ∷ ps) x ≡ true → has_number path x ≡ true) → GoesOn (netlist_in n).tables set (word_at (outs n) t) (words_at (outs n) ps) (word_at (outs n) back)
      goes t [] l sub = next_of t back (sub t (number_there t [])) l m.again
      goes t (u ∷ ps) l sub = (next_of t u (sub t (number_there t (u ∷ ps))) l.0 (sub u (or_right (nat_eq t u) (has_number (u ∷ ps) u) (number_there u ps))), goes u ps l.1 (λ x h. sub x (or_right (nat_eq t x) (has_number (u ∷ ps) x) h)))

  -- the words of the outputs from the repeat on, by numbers
  pub answers_words : AnswersCircle (netlist_in n).tables (output_words n.frame.names n.tables (from_number back path))
  answers_words = subst (λ (l : List (List ℕ)). AnswersCircle (netlist_in n).tables l) (same (from_number back path) (below_from_number path m.walk.path_below)) answers
    where
      same : (ts : List ℕ) → all_below (length n.tables) ts ≡ true → words_at (outs n) ts ≡ output_words n.frame.names n.tables ts
      same [] b = refl
      same (t ∷ ts) b = let (lt, rest) = below_parts (length n.tables) t ts b in ap₂ (λ (x : List ℕ) (xs : List (List ℕ)). x ∷ xs) (out_word n t lt) (same ts rest)

      below_from_number : (ts : List ℕ) → all_below (length n.tables) ts ≡ true → all_below (length n.tables) (from_number back ts) ≡ true
      below_from_number ts b = from_below (length n.tables) back ts b
