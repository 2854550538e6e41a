-- An order of the tables by numbers is one of the netlist in words.
use Rattle.std.proofs.Common.{◌≡◌, ℕ, zero, suc, ◌<◌, ◌&&◌, ◌||◌, not, nat_eq, nat_lt, Bool, true, false, List, [], ◌∷◌, ◌++◌, length, map, flat_map, find, get_or, bytes_eq, refl, sym, ap, ap₂, ◌∙◌, subst, inl, inr, Option, Some, None, MatchOption, cond, arith, append_assoc}
use Rattle.std.specs.List.{list_all, AllByRecursion, IsDistinct}
use Rattle.std.specs.List.Sorted.{IsPermutation}
use Rattle.std.proofs.lemmas.Bool.{and_parts, and_from, cases_Bool, lt-ltb, or_cases, or_parts, or_from, or_left, or_right, both_ways, not-true, not_from_false}
use Rattle.std.proofs.lemmas.Bool.Decides.{eqb_tells}
use Rattle.std.proofs.lemmas.List.{map-append, length-map}
use Rattle.std.proofs.lemmas.List.Sorted.{IsPermutation-refl, IsPermutation-sym, IsPermutation-cons, IsPermutation-trans, IsPermutation-middle, IsPermutation-map, IsPermutation-append_right}
use Rattle.std.proofs.lemmas.Map.Keys.{IsDistinct-IsPermutation, IsDistinct-head, IsDistinct-tail, IsDistinct-cons}
use Rattle.syn_netlist.specs.declared.netlists.Netlist.{Netlist}
use Rattle.syn_netlist.specs.declared.tables.Table.{Table}
use Rattle.syn_netlist.specs.Faults.{first_undriven, reads, inputs_of, no_table, tables_at, PutsInOrder, IsTableOrder, TableOrderPuts, PutIsChecked}
use Rattle.syn_netlist.specs.Lists as lists
use Rattle.syn_netlist.specs.Lists.{output_of, sources, latch_reads}
use Rattle.syn_lists.specs.Numbers.{has_number}
use Rattle.syn_netlist.specs.Numbers.{word_at, words_at, all_below}
use Rattle.syn_netlist.specs.Order.{defined, reads_known}
use Rattle.syn_netlist.specs.Tables.{table_in}
use Rattle.syn_netlist.specs.Views.{netlist_in}
use Rattle.syn_netlist.specs.Walk.{table_output, inputs_at, output_at, driver_at, driver_among, reads_made, AreDrivers, IsOrder}
use Rattle.syn_lists.specs.Numbers.{distinct_numbers}
use Rattle.syn_netlist.specs.Words.{has_word, distinct}
use Rattle.syn_netlist.proofs.Finding.{bytes_eq-sym}
use Rattle.syn_netlist.proofs.Places.{below_parts, has_words}
use Rattle.syn_netlist.proofs.Sets.{word_same, has_left, has_right, has_word-append}
use Rattle.syn_netlist.proofs.Firsts.{table_outputs_below}
use Rattle.syn_netlist.proofs.Undriven.{words_at-table_outputs}
use Rattle.syn_netlist.proofs.Walking.{driver_is, inputs_below}

-- numbers that are each below the length once, in any order

has_middle : (a : List ℕ) (n : ℕ) (b : List ℕ) (i : ℕ) → has_number (a ++ n ∷ b) i ≡ (nat_eq n i || has_number (a ++ b) i)
has_middle [] n b i = refl
has_middle (x ∷ xs) n b i = ap (λ t. nat_eq x i || t) (has_middle xs n b i) ∙ swap (nat_eq x i) (nat_eq n i) (has_number (xs ++ b) i)
  where
    swap : (p q r : Bool) → (p || (q || r)) ≡ (q || (p || r))
    swap true true r = refl
    swap true false r = refl
    swap false q r = refl

nat_eq-sym : (a b : ℕ) → nat_eq a b ≡ false → nat_eq b a ≡ false
nat_eq-sym a b h = elim (eqb_tells b a) [ inl (t, e) ↦ absurd (elim (eqb_tells a b) [ inl (u, f) ↦ both_ways (nat_eq a b) h u | inr (u, f) ↦ f (sym e) ]) | inr (t, e) ↦ t ]

once_middle : (a : List ℕ) (n : ℕ) (b : List ℕ) → distinct_numbers (a ++ n ∷ b) ≡ true → (distinct_numbers (a ++ b) ≡ true) × (has_number (a ++ b) n ≡ false)
once_middle [] n b h = let parts = and_parts (not (has_number b n)) (distinct_numbers b) h in (parts.1, not-true (has_number b n) parts.0)
once_middle (x ∷ xs) n b h =
    let parts = and_parts (not (has_number (xs ++ n ∷ b) x)) (distinct_numbers (xs ++ n ∷ b)) h in
    let (rest, away) = once_middle xs n b parts.1 in
    let apart = or_parts (nat_eq n x) (has_number (xs ++ b) x) (sym (has_middle xs n b x) ∙ not-true (has_number (xs ++ n ∷ b) x) parts.0) in
    (and_from (not (has_number (xs ++ b) x)) (distinct_numbers (xs ++ b)) (not_from_false (has_number (xs ++ b) x) apart.1) rest, or_from (nat_eq x n) (has_number (xs ++ b) n) (nat_eq-sym n x apart.0) away)

split_at : (ns : List ℕ) (n : ℕ) → has_number ns n ≡ true → (a : List ℕ) × (b : List ℕ) × (ns ≡ a ++ n ∷ b)
split_at [] n h = absurd (both_ways false refl h)
split_at (x ∷ xs) n h = elim (eqb_tells x n) [
  | inl (t, e) ↦ ([], xs, ap (λ k. k ∷ xs) e)
  | inr (t, e) ↦ (
      let r = split_at xs n (elim (or_cases (nat_eq x n) (has_number xs n) h) [ inl y ↦ absurd (both_ways (nat_eq x n) t y) | inr y ↦ y ]) in
      (x ∷ r.0, r.1, ap (λ (l : List ℕ). x ∷ l) r.2))
]

abbrev pred_of : ℕ → ℕ
pred_of zero = zero
pred_of (suc n) = n

-- numbers that aren't 0 are one more than others
lowered : (ns : List ℕ) → has_number ns 0 ≡ false → ns ≡ map suc (map pred_of ns)
lowered [] h = refl
lowered (zero ∷ ns) h = absurd (both_ways (nat_eq 0 0) (or_parts (nat_eq 0 0) (has_number ns 0) h).0 refl)
lowered (suc n ∷ ns) h = ap (λ (l : List ℕ). suc n ∷ l) (lowered ns (or_parts (nat_eq (suc n) 0) (has_number ns 0) h).1)

suc_same : (a b : ℕ) → nat_eq (suc a) (suc b) ≡ nat_eq a b
suc_same a b = elim (eqb_tells a b) [
  | inl (t, e) ↦ elim (eqb_tells (suc a) (suc b)) [ inl (u, f) ↦ u ∙ sym t | inr (u, f) ↦ absurd (f (ap suc e)) ]
  | inr (t, e) ↦ elim (eqb_tells (suc a) (suc b)) [ inl (u, f) ↦ absurd (e (omega arith)) | inr (u, f) ↦ u ∙ sym t ]
]

has_suc : (ns : List ℕ) (i : ℕ) → has_number (map suc ns) (suc i) ≡ has_number ns i
has_suc [] i = refl
has_suc (n ∷ ns) i = ap₂ (λ (a b : Bool). a || b) (suc_same n i) (has_suc ns i)

once_suc : (ns : List ℕ) → distinct_numbers (map suc ns) ≡ distinct_numbers ns
once_suc [] = refl
once_suc (n ∷ ns) = ap₂ (λ (a b : Bool). not a && b) (has_suc ns n) (once_suc ns)

below_suc : (count : ℕ) (ns : List ℕ) → all_below (suc count) (map suc ns) ≡ true → all_below count ns ≡ true
below_suc count [] h = refl
below_suc count (n ∷ ns) h = let (lt, rest) = below_parts (suc count) (suc n) (map suc ns) h in and_from (nat_lt n count) (all_below count ns) (lt-ltb n count (omega arith)) (below_suc count ns rest)

below_middle : (count : ℕ) (a : List ℕ) (n : ℕ) (b : List ℕ) → all_below count (a ++ n ∷ b) ≡ true → all_below count (a ++ b) ≡ true
below_middle count [] n b h = (below_parts count n b h).1
below_middle count (x ∷ xs) n b h = let (lt, rest) = below_parts count x (xs ++ n ∷ b) h in and_from (nat_lt x count) (all_below count (xs ++ b)) (lt-ltb x count lt) (below_middle count xs n b rest)

map_map : {X : Type 0} (f : ℕ → X) (g : ℕ → ℕ) (ns : List ℕ) → map f (map g ns) ≡ map (λ n. f (g n)) ns
map_map f g [] = refl
map_map f g (n ∷ ns) = ap (λ l. f (g n) ∷ l) (map_map f g ns)

pub permuted_by : {X : Type 0} (xs : List X) (d : X) (order : List ℕ) → distinct_numbers order ≡ true → all_below (length xs) order ≡ true → ((t : ℕ) → t < length xs → has_number order t ≡ true) → IsPermutation xs (map (λ t. get_or xs t d) order)
permuted_by [] d [] once below all = IsPermutation-refl []
permuted_by [] d (o ∷ os) once below all = absurd (let h = (below_parts 0 o os below).0 in omega arith)
permuted_by {X} (x ∷ xs) d order once below all =
    let (a, b, e) = split_at order 0 (all 0 (omega arith)) in
    let parts = once_middle a 0 b (ap distinct_numbers (sym e) ∙ once) in
    let low : List ℕ = map pred_of (a ++ b) in
    let is : a ++ b ≡ map suc low = lowered (a ++ b) parts.1 in
    let at : ℕ → X = λ t. get_or (x ∷ xs) t d in
    let again : IsPermutation xs (map (λ t. get_or xs t d) low) = permuted_by xs d low
    (sym (once_suc low) ∙ ap distinct_numbers (sym is) ∙ parts.0)
    (below_suc (length xs) low (ap (all_below (suc (length xs))) (sym is) ∙ below_middle (suc (length xs)) a 0 b (ap (all_below (suc (length xs))) (sym e) ∙ below)))
    (λ t lt. sym (has_suc low t) ∙ ap (λ (l : List ℕ). has_number l (suc t)) (sym is) ∙ without_zero a b t (ap (λ (l : List ℕ). has_number l (suc t)) (sym e) ∙ all (suc t) (omega arith))) in
    let moved : map at order ≡ map at a ++ x ∷ map at b = ap (map at) e ∙ map-append at a (0 ∷ b) in
    let rest : map at a ++ map at b ≡ map (λ t. get_or xs t d) low = sym (map-append at a b) ∙ ap (map at) is ∙ map_map at suc low in
    subst (λ l. IsPermutation (x ∷ xs) l) (sym moved)
    (IsPermutation-trans (x ∷ xs) (x ∷ (map at a ++ map at b)) (map at a ++ x ∷ map at b)
    (subst (λ l. IsPermutation (x ∷ xs) (x ∷ l)) (sym rest) (IsPermutation-cons x xs (map (λ t. get_or xs t d) low) again))
    (IsPermutation-sym (map at a ++ x ∷ map at b) (x ∷ (map at a ++ map at b)) (IsPermutation-middle (map at a) x (map at b))))
  where
    without_zero : (a b : List ℕ) (t : ℕ) → has_number (a ++ 0 ∷ b) (suc t) ≡ true → has_number (a ++ b) (suc t) ≡ true
    without_zero a b t h = elim (or_cases (nat_eq 0 (suc t)) (has_number (a ++ b) (suc t)) (sym (has_middle a 0 b (suc t)) ∙ h)) [
      | inl y ↦ absurd (elim (eqb_tells 0 (suc t)) [ inl (u, f) ↦ (let z : 0 ≡ suc t = f in omega arith) | inr (u, f) ↦ both_ways (nat_eq 0 (suc t)) u y ])
      | inr y ↦ y
    ]

-- distinct words stay so in any order

abbrev other_word : List ℕ → List ℕ → Bool
other_word a b = bytes_eq b a

distinct_none : IsDistinct other_word []
unfolding IsDistinct
distinct_none = tt

to_distinct : (ws : List (List ℕ)) → distinct ws ≡ true → IsDistinct other_word ws
to_distinct [] h = distinct_none
to_distinct (w ∷ ws) h = let parts = and_parts (not (has_word ws w)) (distinct ws) h in IsDistinct-cons other_word w ws (none ws (not-true (has_word ws w) parts.0)) (to_distinct ws parts.1)
  where
    none : (xs : List (List ℕ)) → has_word xs w ≡ false → AllByRecursion (λ y. other_word w y ≡ false) xs
    none [] h = tt
    none (x ∷ xs) h = let parts = or_parts (bytes_eq x w) (has_word xs w) h in (parts.0, none xs parts.1)

from_distinct : (ws : List (List ℕ)) → IsDistinct other_word ws → distinct ws ≡ true
from_distinct [] h = refl
from_distinct (w ∷ ws) h = and_from (not (has_word ws w)) (distinct ws) (not_from_false (has_word ws w) (none ws (IsDistinct-head other_word w ws h))) (from_distinct ws (IsDistinct-tail other_word w ws h))
  where
    none : (xs : List (List ℕ)) → AllByRecursion (λ y. other_word w y ≡ false) xs → has_word xs w ≡ false
    none [] h = refl
    none (x ∷ xs) h = or_from (bytes_eq x w) (has_word xs w) h.0 (none xs h.1)

pub distinct_permuted : (xs ys : List (List ℕ)) → IsPermutation xs ys → distinct xs ≡ true → distinct ys ≡ true
distinct_permuted xs ys p h = from_distinct ys (IsDistinct-IsPermutation other_word (λ a b. bytes_eq-sym b a) xs ys p (to_distinct xs h))

-- the tables of an order

at_word : (tables : List Table) (names : List (List ℕ)) (t : ℕ) → t < length tables
    → ((get_or (map (table_in names) tables) t no_table).output ≡ word_at names (output_at tables t)) × ((get_or (map (table_in names) tables) t no_table).inputs ≡ words_at names (inputs_at tables t))
at_word [] names t lt = absurd (omega arith)
at_word (x ∷ xs) names zero lt = (refl, refl)
at_word (x ∷ xs) names (suc t) lt = at_word xs names t (omega arith)

pub word_of_output : (tables : List Table) (names : List (List ℕ)) (t : ℕ) → t < length tables → (get_or (map (table_in names) tables) t no_table).output ≡ word_at names (output_at tables t)
word_of_output tables names t lt = (at_word tables names t lt).0

pub words_of_inputs : (tables : List Table) (names : List (List ℕ)) (t : ℕ) → t < length tables → (get_or (map (table_in names) tables) t no_table).inputs ≡ words_at names (inputs_at tables t)
words_of_inputs tables names t lt = (at_word tables names t lt).1

-- where no name is undriven, each input of a table is defined

pub none_found : (test : List ℕ → Bool) (ws : List (List ℕ)) → find (λ w. not (test w)) ws ≡ None → list_all test ws ≡ true
none_found test [] h = refl
none_found test (w ∷ ws) h = elim (cases_Bool (test w)) [
  | inl e ↦ and_from (test w) (list_all test ws) e (none_found test ws (ap (λ b. elim_not b w ws) (sym e) ∙ h))
  | inr e ↦ (let some : Some w ≡ None = ap (λ b. elim_not b w ws) (sym e) ∙ h in cc)
]
  where
    elim_not : Bool → List ℕ → List (List ℕ) → Option (List ℕ)
    elim_not b w ws = cond (not b) (Some w) (find (λ w. not (test w)) ws)

pub all_right : (test : List ℕ → Bool) (xs ys : List (List ℕ)) → list_all test (xs ++ ys) ≡ true → list_all test ys ≡ true
all_right test [] ys h = h
all_right test (x ∷ xs) ys h = all_right test xs ys (and_parts (test x) (list_all test (xs ++ ys)) h).1

pub all_left : (test : List ℕ → Bool) (xs ys : List (List ℕ)) → list_all test (xs ++ ys) ≡ true → list_all test xs ≡ true
all_left test [] ys h = refl
all_left test (x ∷ xs) ys h = let parts = and_parts (test x) (list_all test (xs ++ ys)) h in and_from (test x) (list_all test xs) parts.0 (all_left test xs ys parts.1)

inputs_all : (test : List ℕ → Bool) (names : List (List ℕ)) (tables : List Table) (t : ℕ) → list_all test (flat_map inputs_of (map (table_in names) tables)) ≡ true → list_all test (words_at names (inputs_at tables t)) ≡ true
inputs_all test names [] t h = refl
inputs_all test names (x ∷ xs) zero h = all_left test (words_at names x.inputs) (flat_map inputs_of (map (table_in names) xs)) h
inputs_all test names (x ∷ xs) (suc t) h = inputs_all test names xs t (all_right test (words_at names x.inputs) (flat_map inputs_of (map (table_in names) xs)) h)

pub inputs_defined : (n : Netlist) → first_undriven (netlist_in n) ≡ None → (t : ℕ) → list_all (has_word (defined (netlist_in n))) (words_at n.frame.names (inputs_at n.tables t)) ≡ true
inputs_defined n h t =
    let m = netlist_in n in
    inputs_all (has_word (defined m)) n.frame.names n.tables t
    (all_right (has_word (defined m)) (flat_map latch_reads m.frame.latches) (flat_map inputs_of m.tables)
    (all_right (has_word (defined m)) m.frame.outputs (flat_map latch_reads m.frame.latches ++ flat_map inputs_of m.tables) (none_found (has_word (defined m)) (reads m) h)))

-- each table of the order reads what is known

module _ (n : Netlist) (drivers : List (Option ℕ)) (d : distinct n.frame.names ≡ true) (len : length drivers ≡ length n.frame.names) (are : AreDrivers n.tables drivers) (driven : first_undriven (netlist_in n) ≡ None) where
  abbrev the_names : List (List ℕ)
  the_names = n.frame.names

  -- the words that are known after some tables
  abbrev known_after : List ℕ → List (List ℕ)
  known_after before = sources (netlist_in n).frame ++ map output_of (tables_at (netlist_in n) before)

  among_known : (before : List ℕ) → all_below (length n.tables) before ≡ true → (u : ℕ) → has_number before u ≡ true → has_word (map output_of (tables_at (netlist_in n) before)) (word_at the_names (output_at n.tables u)) ≡ true
  among_known [] h u k = absurd (both_ways false refl k)
  among_known (b ∷ bs) h u k =
      let (lt, rest) = below_parts (length n.tables) b bs h in
      elim (eqb_tells b u) [
        | inl (t, e) ↦ or_left (bytes_eq (get_or (netlist_in n).tables b no_table).output (word_at the_names (output_at n.tables u))) (has_word (map output_of (tables_at (netlist_in n) bs)) (word_at the_names (output_at n.tables u)))
            (ap₂ bytes_eq (word_of_output n.tables the_names b lt) (ap (λ k. word_at the_names (output_at n.tables k)) (sym e)) ∙ word_same (word_at the_names (output_at n.tables b)))
        | inr (t, e) ↦ or_right (bytes_eq (get_or (netlist_in n).tables b no_table).output (word_at the_names (output_at n.tables u))) (has_word (map output_of (tables_at (netlist_in n) bs)) (word_at the_names (output_at n.tables u)))
            (among_known bs rest u (elim (or_cases (nat_eq b u) (has_number bs u) k) [ inl y ↦ absurd (both_ways (nat_eq b u) t y) | inr y ↦ y ]))
      ]

  name_known : (before : List ℕ) → all_below (length n.tables) before ≡ true → (name : ℕ) → name < length the_names → has_word (defined (netlist_in n)) (word_at the_names name) ≡ true → driver_among before (driver_at drivers name) ≡ true
      → has_word (known_after before) (word_at the_names name) ≡ true
  name_known before h name lt def among = go (driver_at drivers name) refl (are.at name (subst (λ k. name < k) (sym len) lt)) among
    where
      go : (m : Option ℕ) → driver_at drivers name ≡ m → MatchOption (driver_at drivers name) (has_number (map table_output n.tables) name ≡ false) (λ t. (t < length n.tables) × (output_at n.tables t ≡ name)) → driver_among before m ≡ true
          → has_word (known_after before) (word_at the_names name) ≡ true
      go None e at k = has_left (sources (netlist_in n).frame) (map output_of (tables_at (netlist_in n) before)) (word_at the_names name)
          (elim (or_cases (has_word (sources (netlist_in n).frame) (word_at the_names name)) (has_word (map output_of (netlist_in n).tables) (word_at the_names name)) (sym (has_word-append (sources (netlist_in n).frame) (map output_of (netlist_in n).tables) (word_at the_names name)) ∙ def)) [
            | inl y ↦ y
            | inr y ↦ absurd (both_ways (has_word (map output_of (netlist_in n).tables) (word_at the_names name))
                (ap (λ (l : List (List ℕ)). has_word l (word_at the_names name)) (sym (words_at-table_outputs the_names n.tables)) ∙ has_words the_names (map table_output n.tables) name d (table_outputs_below (length the_names) n.tables n.tables_below) lt
                ∙ subst (λ o. MatchOption o (has_number (map table_output n.tables) name ≡ false) (λ t. (t < length n.tables) × (output_at n.tables t ≡ name))) e at) y)
          ])
      go (Some u) e at k = has_right (sources (netlist_in n).frame) (map output_of (tables_at (netlist_in n) before)) (word_at the_names name)
          (subst (λ i. has_word (map output_of (tables_at (netlist_in n) before)) (word_at the_names i) ≡ true) (driver_is n.tables drivers name u are e).1 (among_known before h u k))

  names_known : (before : List ℕ) → all_below (length n.tables) before ≡ true → (inputs : List ℕ) → all_below (length the_names) inputs ≡ true → list_all (has_word (defined (netlist_in n))) (words_at the_names inputs) ≡ true
      → list_all (λ name. driver_among before (driver_at drivers name)) inputs ≡ true → list_all (has_word (known_after before)) (words_at the_names inputs) ≡ true
  names_known before h [] b def among = refl
  names_known before h (i ∷ is) b def among =
      let (lt, rest) = below_parts (length the_names) i is b in
      let defs = and_parts (has_word (defined (netlist_in n)) (word_at the_names i)) (list_all (has_word (defined (netlist_in n))) (words_at the_names is)) def in
      let made = and_parts (driver_among before (driver_at drivers i)) (list_all (λ name. driver_among before (driver_at drivers name)) is) among in
      and_from (has_word (known_after before) (word_at the_names i)) (list_all (has_word (known_after before)) (words_at the_names is)) (name_known before h i lt defs.0 made.0) (names_known before h is rest defs.1 made.1)

  known_more : (before : List ℕ) (t : ℕ) → known_after (before ++ t ∷ []) ≡ known_after before ++ (get_or (netlist_in n).tables t no_table).output ∷ []
  known_more before t =
      ap (λ (l : List lists.Table). sources (netlist_in n).frame ++ map output_of l) (map-append (λ t. get_or (netlist_in n).tables t no_table) before (t ∷ []))
      ∙ ap (λ (l : List (List ℕ)). sources (netlist_in n).frame ++ l) (map-append output_of (tables_at (netlist_in n) before) (get_or (netlist_in n).tables t no_table ∷ []))
      ∙ sym (append_assoc (sources (netlist_in n).frame) (map output_of (tables_at (netlist_in n) before)) ((get_or (netlist_in n).tables t no_table).output ∷ []))

  order_known : (before order : List ℕ) → all_below (length n.tables) (before ++ order) ≡ true → reads_made n.tables drivers before order ≡ true → reads_known (known_after before) (tables_at (netlist_in n) order) ≡ true
  order_known before [] b r = refl
  order_known before (t ∷ order) b r =
      let parts = and_parts (list_all (λ name. driver_among before (driver_at drivers name)) (inputs_at n.tables t)) (reads_made n.tables drivers (before ++ t ∷ []) order) r in
      let lt : t < length n.tables = (below_parts (length n.tables) t order (below_right before (t ∷ order) b)).0 in
      and_from (list_all (has_word (known_after before)) (get_or (netlist_in n).tables t no_table).inputs) (reads_known (known_after before ++ (get_or (netlist_in n).tables t no_table).output ∷ []) (tables_at (netlist_in n) order))
      (ap (list_all (has_word (known_after before))) (words_of_inputs n.tables the_names t lt) ∙ names_known before (below_left before (t ∷ order) b) (inputs_at n.tables t) (inputs_below (length the_names) n.tables t n.tables_below) (inputs_defined n driven t) parts.0)
      (ap (λ (l : List (List ℕ)). reads_known l (tables_at (netlist_in n) order)) (sym (known_more before t))
      ∙ order_known (before ++ t ∷ []) order (ap (all_below (length n.tables)) (append_assoc before (t ∷ []) order) ∙ b) parts.1)
    where
      below_right : (xs ys : List ℕ) → all_below (length n.tables) (xs ++ ys) ≡ true → all_below (length n.tables) ys ≡ true
      below_right [] ys h = h
      below_right (x ∷ xs) ys h = below_right xs ys (below_parts (length n.tables) x (xs ++ ys) h).1

      below_left : (xs ys : List ℕ) → all_below (length n.tables) (xs ++ ys) ≡ true → all_below (length n.tables) xs ≡ true
      below_left [] ys h = refl
      below_left (x ∷ xs) ys h = let (lt, rest) = below_parts (length n.tables) x (xs ++ ys) h in and_from (nat_lt x (length n.tables)) (all_below (length n.tables) xs) (lt-ltb x (length n.tables) lt) (below_left xs ys rest)

  -- what the walk gives, in words
  pub order_is : (order : List ℕ) → IsOrder n.tables drivers order → IsTableOrder (netlist_in n) order
  order_is order o = record {
    driven = driven;
    below = subst (λ k. all_below k order ≡ true) (sym count) o.below;
    once = o.once;
    all = λ t lt. o.all t (subst (λ k. t < k) count lt);
    above = ap (λ (l : List (List ℕ)). reads_known l (tables_at (netlist_in n) order)) (sym (append_none (sources (netlist_in n).frame))) ∙ order_known [] order o.below o.made;
  }
    where
      count : length (netlist_in n).tables ≡ length n.tables
      count = length-map n.tables (table_in the_names)

      append_none : (ws : List (List ℕ)) → ws ++ [] ≡ ws
      append_none [] = refl
      append_none (w ∷ ws) = ap (λ (l : List (List ℕ)). w ∷ l) (append_none ws)

pub table_order_puts : TableOrderPuts
table_order_puts n order once o = record {
  driven = o.driven;
  below = o.below;
  ordered = record {
    permuted = permuted;
    ordered = record {
      once = record {
        clocks = once.clocks;
        all = distinct_permuted (defined n) (sources n.frame ++ map output_of (tables_at n order))
            (IsPermutation-append_right (sources n.frame) (map output_of n.tables) (map output_of (tables_at n order)) (IsPermutation-map output_of n.tables (tables_at n order) permuted)) once.all;
      };
      above = o.above;
    };
  };
}
  where
    permuted : IsPermutation n.tables (tables_at n order)
    permuted = permuted_by n.tables no_table order o.once o.below o.all

pub puts_in_order : (n : Netlist) (order : List ℕ) → IsTableOrder (netlist_in n) order → PutsInOrder (netlist_in n) order
puts_in_order n order o = table_order_puts (netlist_in n) order (record { clocks = n.frame.clocks_once; all = n.once }) o

pub put_is_checked : PutIsChecked
put_is_checked n order p = record { driven = p.driven; order = tables_at n order; ordered = p.ordered }
