-- A checked netlist has a function and no fault; the answered circle is a circle.
use Rattle.std.proofs.Common.{◌≡◌, ℕ, not, Bool, true, false, List, [], ◌∷◌, ◌++◌, ◌||◌, map, filter, find, flat_map, bytes_eq, refl, sym, ap, ◌∙◌, subst, inl, inr, Some, None, append_assoc}
use Rattle.std.specs.List.{list_any, list_all}
use Rattle.std.proofs.lemmas.Bool.{and_parts, and_from, cases_Bool, cond-true, cond-false, or_cases, both_ways, false_from_ne_true}
use Rattle.std.proofs.lemmas.List.Sorted.{Contains-permutation, IsPermutation-sym, IsPermutation-map, list_any-IsPermutation, IsPermutation-append_right}
use Rattle.syn_netlist.specs.declared.NetFault.TheVariants.{Undriven, Cycle, NoMemory}
use Rattle.syn_netlist.specs.Faults.{EachReadsAnother, TableReads, ReadInTurn, IsCircle, GoesOn, next_in, IsChecked, reads, inputs_of, OrderableReachesNoCircle, AnsweredIsCircle, CheckedHasNoFault, CheckedHasFunction}
use Rattle.syn_netlist.specs.Lists.{Table, Netlist, output_of, sources, observed, latch_reads}
use Rattle.syn_netlist.specs.Order.{defined, reads_known, with_tables, function_of, observes_defined}
use Rattle.syn_netlist.specs.Words.{has_word, distinct, without, firsts}
use Rattle.syn_netlist.proofs.Arranging.{none_found, all_left}
use Rattle.syn_netlist.proofs.CyclicSets.{In, to_in, from_in, in_has, one_table}
use Rattle.syn_netlist.proofs.Evaluation.{orderable_has_function}
use Rattle.syn_netlist.proofs.Sets.{same_word, has_word-append, has_head, has_tail, apart, distinct_right, all_at}

-- an element that passes
any_found : (test : List ℕ → Bool) (ws : List (List ℕ)) → list_any test ws ≡ true → (w : List ℕ) × (has_word ws w ≡ true) × (test w ≡ true)
any_found test [] h = absurd (both_ways false refl h)
any_found test (w ∷ ws) h = elim (or_cases (test w) (list_any test ws) h) [
  | inl t ↦ (w, has_head w ws, t)
  | inr t ↦ (let r = any_found test ws t in (r.0, has_tail w r.0 ws r.1, r.2))
]

found_there : (test : List ℕ → Bool) (ws : List (List ℕ)) (w : List ℕ) → find test ws ≡ Some w → (has_word ws w ≡ true) × (test w ≡ true)
found_there test [] w h = cc
found_there test (x ∷ xs) w h = elim (cases_Bool (test x)) [
  | inl t ↦ (let e : Some x ≡ Some w = sym (cond-true (test x) (Some x) (find test xs) t) ∙ h in let same : x ≡ w = cc in (subst (λ k. has_word (x ∷ xs) k ≡ true) same (has_head x xs), subst (λ k. test k ≡ true) same t))
  | inr f ↦ (let r = found_there test xs w (sym (cond-false (test x) (Some x) (find test xs) f) ∙ h) in (has_tail x w xs r.0, r.1))
]

module _ (tables : List Table) (set : List ℕ → Bool) (reading : EachReadsAnother tables set) where
  -- where known names aren't in the set, the outputs of tables that read them aren't either
  outputs_out : (all order : List Table) (known : List (List ℕ)) → ((t : Table) → In tables t → In all t) → distinct (map output_of all) ≡ true → ((t : Table) → In order t → In all t)
      → ((w : List ℕ) → has_word known w ≡ true → set w ≡ false) → reads_known known order ≡ true → (w : List ℕ) → has_word (map output_of order) w ≡ true → set w ≡ false
  outputs_out all [] known sub d inside out r w h = absurd (both_ways false refl h)
  outputs_out all (t ∷ ts) known sub d inside out r w h =
      let parts = and_parts (list_all (has_word known) t.inputs) (reads_known (known ++ t.output ∷ []) ts) r in
      let here : set t.output ≡ false = false_from_ne_true (set t.output) (λ k.
      let q = reading t.output k in
      let same : q.0 ≡ t = one_table all q.0 t d (sub q.0 (to_in tables q.0 q.1.0 q.1.1 q.1.2)) (inside t (inl refl)) q.2 in
      let f = any_found set t.inputs (subst (λ (x : Table). list_any set x.inputs ≡ true) same q.3) in
      both_ways (set f.0) (out f.0 (all_at (has_word known) t.inputs f.0 parts.0 f.1)) f.2) in
      elim (or_cases (bytes_eq t.output w) (has_word (map output_of ts) w) h) [
        | inl e ↦ subst (λ k. set k ≡ false) (same_word t.output w e) here
        | inr k ↦ outputs_out all ts (known ++ t.output ∷ []) sub d (λ u i. inside u (inr i)) (λ v j. more known t.output v here out j) parts.1 w k
      ]
    where
      more : (known : List (List ℕ)) (x v : List ℕ) → set x ≡ false → ((w : List ℕ) → has_word known w ≡ true → set w ≡ false) → has_word (known ++ x ∷ []) v ≡ true → set v ≡ false
      more known x v here out j = elim (or_cases (has_word known v) (bytes_eq x v || false) (sym (has_word-append known (x ∷ []) v) ∙ j)) [
        | inl k ↦ out v k
        | inr k ↦ elim (or_cases (bytes_eq x v) false k) [ inl e ↦ subst (λ y. set y ≡ false) (same_word x v e) here | inr e ↦ absurd (both_ways false refl e) ]
      ]

pub orderable_reaches_no_circle : OrderableReachesNoCircle
orderable_reaches_no_circle n order word can (set, reading, there) =
    let d : distinct (map output_of order) ≡ true = distinct_right (sources n.frame) (map output_of order) can.ordered.once.all in
    let sub : (t : Table) → In n.tables t → In order t = λ t i. (let c = Contains-permutation n.tables order t can.permuted (from_in n.tables t i) in to_in order t c.0 c.1 c.2) in
    let named : (w : List ℕ) → set w ≡ true → has_word (map output_of order) w ≡ true = λ w h. (let q = reading w h in subst (λ k. has_word (map output_of order) k ≡ true) q.2 (in_has order q.0 (sub q.0 (to_in n.tables q.0 q.1.0 q.1.1 q.1.2)))) in
    let source_out : (w : List ℕ) → has_word (sources n.frame) w ≡ true → set w ≡ false = λ w h. false_from_ne_true (set w) (λ k. both_ways (has_word (map output_of order) w) (apart (sources n.frame) (map output_of order) w can.ordered.once.all h) (named w k)) in
    both_ways (set word) (outputs_out n.tables set reading order order (sources n.frame) sub d (λ t i. i) source_out can.ordered.above word (named word there)) there

-- the answered circle

next_reads : (all ts : List Table) (set : List ℕ → Bool) (name next : List ℕ) → ((t : Table) → In ts t → In all t) → next_in ts set name ≡ Some next → TableReads all name next
next_reads all [] set name next sub h = cc
next_reads all (t ∷ ts) set name next sub h = elim (cases_Bool (bytes_eq t.output name)) [
  | inl e ↦ (t, from_in all t (sub t (inl refl)), same_word t.output name e, (found_there set t.inputs next (sym (cond-true (bytes_eq t.output name) (find set t.inputs) (next_in ts set name) e) ∙ h)).0)
  | inr f ↦ next_reads all ts set name next (λ u i. sub u (inr i)) (sym (cond-false (bytes_eq t.output name) (find set t.inputs) (next_in ts set name) f) ∙ h)
]

reads_in_turn : (tables : List Table) (set : List ℕ → Bool) (name : List ℕ) (names : List (List ℕ)) (back : List ℕ) → GoesOn tables set name names back → ReadInTurn tables name names back
reads_in_turn tables set name [] back g = next_reads tables tables set name back (λ u i. i) g
reads_in_turn tables set name (next ∷ names) back g = (next_reads tables tables set name next (λ u i. i) g.0, reads_in_turn tables set next names back g.1)

-- from a later name on
goes_from : (tables : List Table) (set : List ℕ → Bool) (before : List (List ℕ)) (name : List ℕ) (more : List (List ℕ)) (first : List ℕ) (rest : List (List ℕ)) (back : List ℕ) → before ++ name ∷ more ≡ first ∷ rest → GoesOn tables set first rest back → GoesOn tables set name more back
goes_from tables set [] name more first rest back e g =
    let same : name ≡ first = cc in
    let after : more ≡ rest = cc in
    subst (λ (l : List (List ℕ)). GoesOn tables set name l back) (sym after) (subst (λ w. GoesOn tables set w rest back) (sym same) g)
goes_from tables set (x ∷ before) name more first [] back e g = let after : before ++ name ∷ more ≡ [] = cc in absurd (not_none before name more after)
  where
    not_none : (b : List (List ℕ)) (name : List ℕ) (more : List (List ℕ)) → b ++ name ∷ more ≡ [] → ⊥
    not_none [] name more e = cc
    not_none (x ∷ b) name more e = cc
goes_from tables set (x ∷ before) name more first (next ∷ rest) back e g =
    let after : before ++ name ∷ more ≡ next ∷ rest = cc in
    goes_from tables set before name more next rest back after g.1

pub answered_is_circle : AnsweredIsCircle
answered_is_circle tables names (first, before, set, a) =
    let (rest, joined, (back, more, is, goes)) = a.path in
    let whole : before ++ back ∷ more ≡ first ∷ rest = ap (λ (l : List (List ℕ)). before ++ l) (sym is) ∙ joined in
    subst (λ (l : List (List ℕ)). IsCircle tables l) (sym is) (reads_in_turn tables set back more back (goes_from tables set before back more first rest back whole goes))

-- no fault

pub checked_has_no_fault : CheckedHasNoFault
checked_has_no_fault n (Undriven name) k f = (let e : None ≡ Some name = sym k.driven ∙ f in cc)
checked_has_no_fault n (Cycle names) k (none, (first, before, set, a)) =
    absurd (orderable_reaches_no_circle n k.order first k.ordered (set, a.cyclic.reading, (found_there set (map output_of n.tables) first a.begins).1))
checked_has_no_fault n NoMemory k f = refl

-- each observed signal is read
all_filtered : (test p : List ℕ → Bool) (ws : List (List ℕ)) → list_all test ws ≡ true → list_all test (filter p ws) ≡ true
all_filtered test p [] h = refl
all_filtered test p (w ∷ ws) h =
    let parts = and_parts (test w) (list_all test ws) h in
    elim (cases_Bool (p w)) [
      | inl e ↦ ap (list_all test) (cond-true (p w) (w ∷ filter p ws) (filter p ws) e) ∙ and_from (test w) (list_all test (filter p ws)) parts.0 (all_filtered test p ws parts.1)
      | inr e ↦ ap (list_all test) (cond-false (p w) (w ∷ filter p ws) (filter p ws) e) ∙ all_filtered test p ws parts.1
    ]

all_firsts : (test : List ℕ → Bool) (ws : List (List ℕ)) → list_all test ws ≡ true → list_all test (firsts ws) ≡ true
all_firsts test [] h = refl
all_firsts test (w ∷ ws) h =
    let parts = and_parts (test w) (list_all test ws) h in
    and_from (test w) (list_all test (without (w ∷ []) (firsts ws))) parts.0 (all_filtered test (λ x. not (has_word (w ∷ []) x)) (firsts ws) (all_firsts test ws parts.1))

all_permuted : (order tables : List Table) (from : List (List ℕ)) (ws : List (List ℕ)) → ((w : List ℕ) → has_word (from ++ map output_of tables) w ≡ has_word (from ++ map output_of order) w) → list_all (has_word (from ++ map output_of tables)) ws ≡ true → list_all (has_word (from ++ map output_of order)) ws ≡ true
all_permuted order tables from [] same h = refl
all_permuted order tables from (w ∷ ws) same h =
    let parts = and_parts (has_word (from ++ map output_of tables) w) (list_all (has_word (from ++ map output_of tables)) ws) h in
    and_from (has_word (from ++ map output_of order) w) (list_all (has_word (from ++ map output_of order)) ws) (sym (same w) ∙ parts.0) (all_permuted order tables from ws same parts.1)

pub checked_observes : (n : Netlist) (k : IsChecked n) → observes_defined (with_tables n k.order) ≡ true
checked_observes n k =
    let test : List ℕ → Bool = has_word (defined n) in
    let all : list_all test (reads n) ≡ true = none_found test (reads n) k.driven in
    let rest : List (List ℕ) = flat_map latch_reads n.frame.latches in
    let regrouped : list_all test ((n.frame.outputs ++ rest) ++ flat_map inputs_of n.tables) ≡ true = ap (list_all test) (append_assoc n.frame.outputs rest (flat_map inputs_of n.tables)) ∙ all in
    let seen : list_all test (observed n.frame) ≡ true = all_firsts test (n.frame.outputs ++ rest) (all_left test (n.frame.outputs ++ rest) (flat_map inputs_of n.tables) regrouped) in
    all_permuted k.order n.tables (sources n.frame) (observed n.frame)
    (λ w. sym (list_any-IsPermutation (λ x. bytes_eq x w) (sources n.frame ++ map output_of k.order) (sources n.frame ++ map output_of n.tables)
    (IsPermutation-sym (sources n.frame ++ map output_of n.tables) (sources n.frame ++ map output_of k.order) (IsPermutation-append_right (sources n.frame) (map output_of n.tables) (map output_of k.order) (IsPermutation-map output_of n.tables k.order k.ordered.permuted)))))
    seen

pub checked_has_function : CheckedHasFunction
checked_has_function n k = (function_of (with_tables n k.order), orderable_has_function n k.order k.ordered (checked_observes n k))
