-- The names of a written file are those of the network.
use Rattle.std.specs.List.{list_all}
use Rattle.std.proofs.Common.{◌≡◌, ℕ, zero, suc, ◌+◌, ◌*◌, ◌<◌, ◌≤◌, ◌==◌, ◌&&◌, ◌||◌, not, Bool, true, false, if◌then◌else◌, List, [], ◌∷◌, ◌++◌, length, map, find, get_or, bytes_eq, decimal, option_map, None, Some, refl, sym, ap, ap₂, ◌∙◌, subst, inl, inr, append_assoc, append-nil, arith, eq-eqb, ne_eqb, length-append}
use Rattle.std.proofs.lemmas.Bool.{and_parts, and_from, and_left, and_right, or_from, cases_Bool, both_ways, cond-true, cond-false, false_from_ne_true, not-true, not_from_false, not_from_true}
use Rattle.std.proofs.lemmas.List.{length-map, map-append}
use Rattle.std.proofs.lemmas.List.Folds.{list_all-append}
use Rattle.syn_netlist.specs.Words.{distinct, has_word, is_word, without}
use Rattle.syn_netlist.specs.Lists.{Frame, Latch, Netlist, latch_output, output_of, sources}
use Rattle.syn_netlist.specs.Order.{Ordered}
use Rattle.syn_netlist.proofs.Sets.{same_word, word_same, has_head, has_left, has_right}
use Rattle.syn_network.specs.GraphShape.{GraphHasFunction, and_tables, end_tables, lit_of_table, node_names, place, shown}
use Rattle.syn_network.proofs.Spelled.{graph_has_function_is, place_in_front}
use Rattle.syn_rows.proofs.Folds.{one_valuation_is}
use Rattle.syn_netlist.proofs.Evaluation.{ordered_has_one}
use Rattle.syn_aiger_files.specs.declared.files.AigLatch.{AigLatch}
use Rattle.syn_aiger_files.specs.declared.files.Place.{Place}
use Rattle.syn_aiger_files.specs.declared.files.Symbol.{Symbol}
use Rattle.syn_aiger_files.specs.declared.files.Place.TheVariants.{Input as OfInput, Latch as OfLatch, Output as OfOutput}
use Rattle.syn_aiger_files.specs.Files.{latch_literal}
use Rattle.syn_aiger_files.specs.Literals.{literals_from}
use Rattle.syn_aiger_files.specs.Symbols.{is_at, letter_of}
use Rattle.syn_aiger_files.specs.FirstNames.{first_name, word_or}
use Rattle.syn_aiger.specs.Naming.{Named, feeds_named, feeds_of, free_name, inputs_of, is_given, is_given_otherwise, latches_of, longest, name_of, outputs_named, outputs_of, sources_named, sources_of, underscored}
use Rattle.syn_aiger.specs.Networks.{frame_of, init_of, latches_from}
use Rattle.syn_aiger.specs.Writing.{aig_of, feed_of, free_signals, has_type, init_again, init_in, latches_by, literal_in, reset_by, symbols_by, symbols_in, untyped_latch, without_types}
use Rattle.syn_aiger.specs.Laws.{AigOfKeeps, AigOfLeavesTypes, written_names}
use Rattle.syn_aiger.proofs.Normal.{latch_literals, length-latches}
use Rattle.syn_aiger.proofs.Kept.{next_kept, outputs_kept}

-- words of a list

pub distinct_before : (known : List (List ℕ)) (x : List ℕ) (more : List (List ℕ)) → distinct (known ++ x ∷ more) ≡ true → has_word known x ≡ false
distinct_before [] x more d = refl
distinct_before (k ∷ ks) x more d =
    let p = and_parts (not (has_word (ks ++ x ∷ more) k)) (distinct (ks ++ x ∷ more)) d in
    let no = not-true (has_word (ks ++ x ∷ more) k) p.0 in
    or_from (bytes_eq k x) (has_word ks x)
    (false_from_ne_true (bytes_eq k x) (λ e. both_ways (has_word (ks ++ x ∷ more) k) no (subst (λ (w : List ℕ). has_word (ks ++ x ∷ more) w ≡ true) (sym (same_word k x e)) (has_right ks (x ∷ more) x (has_head x more)))))
    (distinct_before ks x more p.1)

pub place_of_new : (known : List (List ℕ)) (x : List ℕ) (more : List (List ℕ)) → has_word known x ≡ false → place x (known ++ x ∷ more) ≡ length known
place_of_new [] x more h = cond-true (bytes_eq x x) 0 (suc (place x more)) (word_same x)
place_of_new (k ∷ ks) x more h = elim (cases_Bool (bytes_eq k x)) [
  | inl e ↦ absurd (both_ways (has_word (k ∷ ks) x) h (ap (λ (b : Bool). b || has_word ks x) e))
  | inr f ↦ cond-false (bytes_eq k x) 0 (suc (place x (ks ++ x ∷ more))) f ∙ ap suc (place_of_new ks x more (sym (ap (λ (b : Bool). b || has_word ks x) f) ∙ h))
]

-- the literals of sources are 2, 4, ..

module _ (m : Netlist) where
  source_literal : (known : List (List ℕ)) (x : List ℕ) (more : List (List ℕ)) → sources m.frame ≡ known ++ x ∷ more → has_word known x ≡ false → literal_in m x ≡ 2 * (length known + 1)
  source_literal known x more e new =
      let there : has_word (sources m.frame) x ≡ true = ap (λ (ws : List (List ℕ)). has_word ws x) e ∙ has_right known (x ∷ more) x (has_head x more) in
      let at : place x (node_names m) ≡ length known = place_in_front (sources m.frame) (map output_of (and_tables m)) x there ∙ ap (place x) e ∙ place_of_new known x more new in
      ap (λ l. l.0) (cond-true (has_word (sources m.frame) x) (shown (node_names m) x 49) (lit_of_table (node_names m) (find (λ t. bytes_eq t.output x) (end_tables m))) there)
      ∙ (let q : 2 * (place x (node_names m) + 1) + 0 ≡ 2 * (length known + 1) = omega arith in q)

  source_literals : (known xs rest : List (List ℕ)) → sources m.frame ≡ known ++ (xs ++ rest) → distinct (known ++ (xs ++ rest)) ≡ true → map (literal_in m) xs ≡ literals_from (length known + 1) (length xs)
  source_literals known [] rest e d = refl
  source_literals known (x ∷ xs) rest e d =
      let again : known ++ (x ∷ (xs ++ rest)) ≡ (known ++ x ∷ []) ++ (xs ++ rest) = sym (append_assoc known (x ∷ []) (xs ++ rest)) in
      ap₂ (λ (k : ℕ) (l : List ℕ). k ∷ l) (source_literal known x (xs ++ rest) e (distinct_before known x (xs ++ rest) d))
      (source_literals (known ++ x ∷ []) xs rest (e ∙ again) (sym (ap distinct again) ∙ d)
      ∙ ap (λ (k : ℕ). literals_from k (length xs)) (let q : length (known ++ x ∷ []) + 1 ≡ length known + 1 + 1 = omega (arith, length-append known (x ∷ [])) in q))

  -- a name with its literal in the network
  abbrev named : List ℕ → Named
  named x = record { name = x; literal = literal_in m x }

  names_of_named : (xs : List (List ℕ)) → map name_of (map named xs) ≡ xs
  names_of_named [] = refl
  names_of_named (x ∷ xs) = ap (λ (l : List (List ℕ)). x ∷ l) (names_of_named xs)

  not_given : (xs : List (List ℕ)) (x : List ℕ) → has_word xs x ≡ false → is_given (map named xs) x ≡ false
  not_given [] x h = refl
  not_given (y ∷ ys) x h = elim (cases_Bool (bytes_eq y x)) [
    | inl e ↦ absurd (both_ways (has_word (y ∷ ys) x) h (ap (λ (b : Bool). b || has_word ys x) e))
    | inr f ↦ or_from (bytes_eq y x) (is_given (map named ys) x) f (not_given ys x (sym (ap (λ (b : Bool). b || has_word ys x) f) ∙ h))
  ]

  not_otherwise : (xs : List (List ℕ)) (x : List ℕ) → is_given_otherwise (literal_in m x) (map named xs) x ≡ false
  not_otherwise [] x = refl
  not_otherwise (y ∷ ys) x =
      or_from (bytes_eq y x && not (literal_in m y == literal_in m x)) (is_given_otherwise (literal_in m x) (map named ys) x)
      (elim (cases_Bool (bytes_eq y x)) [
        | inl e ↦ and_right (bytes_eq y x) (not (literal_in m y == literal_in m x)) (not_from_true (literal_in m y == literal_in m x) (eq-eqb (literal_in m y) (literal_in m x) (ap (literal_in m) (same_word y x e))))
        | inr f ↦ and_left (bytes_eq y x) (not (literal_in m y == literal_in m x)) f
      ])
      (not_otherwise ys x)

  -- a name that isn't taken stays
  stays : (given : List Named) (taken : List ℕ → Bool) (x : List ℕ) → taken x ≡ false → free_name given taken x ≡ x
  stays given taken x f =
      ap (λ (k : ℕ). underscored k taken x) (let e : longest given + 1 ≡ suc (longest given) = omega arith in e)
      ∙ cond-false (taken x) (underscored (longest given) taken (x ++ 95 ∷ [])) x f

  -- the symbols of a place have these names, from an index on
  abbrev Called : List Symbol → Place → ℕ → List (List ℕ) → Type 0
  Called symbols p i xs = (j : ℕ) → j < length xs → first_name symbols p (i + j) ≡ get_or xs j []

  called_next : (symbols : List Symbol) (p : Place) (i : ℕ) (x : List ℕ) (xs : List (List ℕ)) → Called symbols p i (x ∷ xs) → Called symbols p (suc i) xs
  called_next symbols p i x xs c j l = ap (first_name symbols p) (let e : suc i + j ≡ i + suc j = omega arith in e) ∙ c (suc j) (omega arith)

  called_here : (symbols : List Symbol) (p : Place) (i : ℕ) (x : List ℕ) (xs : List (List ℕ)) → Called symbols p i (x ∷ xs) → first_name symbols p i ≡ x
  called_here symbols p i x xs c = ap (first_name symbols p) (let e : i ≡ i + 0 = omega arith in e) ∙ c 0 (omega arith)

  sources_are_named : (symbols : List Symbol) (p : Place) (i : ℕ) (known xs rest : List (List ℕ)) → Called symbols p i xs → distinct (known ++ (xs ++ rest)) ≡ true → sources_named symbols p i (map (literal_in m) xs) (map named known) ≡ map named xs
  sources_are_named symbols p i known [] rest c d = refl
  sources_are_named symbols p i known (x ∷ xs) rest c d =
      let given : List Named = map named known in
      let again : known ++ (x ∷ (xs ++ rest)) ≡ (known ++ x ∷ []) ++ (xs ++ rest) = sym (append_assoc known (x ∷ []) (xs ++ rest)) in
      let is : free_name given (is_given given) (first_name symbols p i) ≡ x = ap (free_name given (is_given given)) (called_here symbols p i x xs c) ∙ stays given (is_given given) x (not_given known x (distinct_before known x (xs ++ rest) d)) in
      ap (λ (w : List ℕ). let n : Named = record { name = w; literal = literal_in m x } in n ∷ sources_named symbols p (suc i) (map (literal_in m) xs) (given ++ n ∷ [])) is
      ∙ ap (λ (l : List Named). named x ∷ l) (
      ap (sources_named symbols p (suc i) (map (literal_in m) xs)) (sym (map-append named known (x ∷ [])))
      ∙ sources_are_named symbols p (suc i) (known ++ x ∷ []) xs rest (called_next symbols p i x xs c) (sym (ap distinct again) ∙ d))

  outputs_are_named : (symbols : List Symbol) (i : ℕ) (known xs : List (List ℕ)) → Called symbols OfOutput i xs → outputs_named symbols i (map (literal_in m) xs) (map named known) ≡ map named xs
  outputs_are_named symbols i known [] c = refl
  outputs_are_named symbols i known (x ∷ xs) c =
      let given : List Named = map named known in
      let is : free_name given (is_given_otherwise (literal_in m x) given) (first_name symbols OfOutput i) ≡ x = ap (free_name given (is_given_otherwise (literal_in m x) given)) (called_here symbols OfOutput i x xs c) ∙ stays given (is_given_otherwise (literal_in m x) given) x (not_otherwise known x) in
      ap (λ (w : List ℕ). let n : Named = record { name = w; literal = literal_in m x } in n ∷ outputs_named symbols (suc i) (map (literal_in m) xs) (given ++ n ∷ [])) is
      ∙ ap (λ (l : List Named). named x ∷ l) (
      ap (outputs_named symbols (suc i) (map (literal_in m) xs)) (sym (map-append named known (x ∷ [])))
      ∙ outputs_are_named symbols (suc i) (known ++ x ∷ []) xs (called_next symbols OfOutput i x xs c))

-- symbols are found

find_here : (p : Place) (i : ℕ) (names : List (List ℕ)) (more : List Symbol) (j : ℕ) → j < length names → find (is_at p (i + j)) (symbols_by p i names ++ more) ≡ Some (record { place = p; index = i + j; name = get_or names j [] })
find_here p i [] more j l = absurd (omega arith)
find_here p i (x ∷ xs) more zero l =
    let s : Symbol = record { place = p; index = i; name = x } in
    cond-true (is_at p (i + 0) s) (Some s) (find (is_at p (i + 0)) (symbols_by p (suc i) xs ++ more)) (and_from (letter_of p == letter_of p) (i == i + 0) (eq-eqb (letter_of p) (letter_of p) refl) (eq-eqb i (i + 0) (omega arith)))
    ∙ ap (λ (k : ℕ). Some (record { place = p; index = k; name = x })) (let e : i ≡ i + 0 = omega arith in e)
find_here p i (x ∷ xs) more (suc j) l =
    let s : Symbol = record { place = p; index = i; name = x } in
    let rest : List Symbol = symbols_by p (suc i) xs ++ more in
    cond-false (is_at p (i + suc j) s) (Some s) (find (is_at p (i + suc j)) rest) (and_right (letter_of p == letter_of p) (i == i + suc j) (ne_eqb i (i + suc j) (λ e. omega arith)))
    ∙ subst (λ (k : ℕ). find (is_at p k) rest ≡ Some (record { place = p; index = k; name = get_or xs j [] })) (let e : suc i + j ≡ i + suc j = omega arith in e) (find_here p (suc i) xs more j (omega arith))

find_past : (p q : Place) (k i : ℕ) (names : List (List ℕ)) (more : List Symbol) → (letter_of p ≡ letter_of q → ⊥) → find (is_at q k) (symbols_by p i names ++ more) ≡ find (is_at q k) more
find_past p q k i [] more ne = refl
find_past p q k i (x ∷ xs) more ne =
    let s : Symbol = record { place = p; index = i; name = x } in
    cond-false (is_at q k s) (Some s) (find (is_at q k) (symbols_by p (suc i) xs ++ more)) (and_left (letter_of p == letter_of q) (i == k) (ne_eqb (letter_of p) (letter_of q) ne))
    ∙ find_past p q k (suc i) xs more ne

word_at_place : (ws : List (List ℕ)) (j : ℕ) → list_all is_word ws ≡ true → j < length ws → is_word (get_or ws j []) ≡ true
word_at_place [] j h l = absurd (omega arith)
word_at_place (w ∷ ws) zero h l = (and_parts (is_word w) (list_all is_word ws) h).0
word_at_place (w ∷ ws) (suc j) h l = word_at_place ws j (and_parts (is_word w) (list_all is_word ws) h).1 (omega arith)

called_by : (symbols : List Symbol) (p : Place) (j : ℕ) (name : List ℕ) → find (is_at p j) symbols ≡ Some (record { place = p; index = j; name = name }) → is_word name ≡ true → first_name symbols p j ≡ name
called_by symbols p j name e w = ap (word_or (letter_of p ∷ decimal j)) e ∙ cond-true (is_word name) name (letter_of p ∷ decimal j) w

module _ (f : Frame) (words : list_all is_word (written_names f) ≡ true) where
  abbrev free : List (List ℕ)
  free = free_signals f

  abbrev held : List (List ℕ)
  held = map latch_output f.latches

  words_free : list_all is_word free ≡ true
  words_free = (and_parts (list_all is_word free) (list_all is_word (held ++ f.outputs)) (sym (list_all-append is_word free (held ++ f.outputs)) ∙ words)).0

  words_behind : list_all is_word (held ++ f.outputs) ≡ true
  words_behind = (and_parts (list_all is_word free) (list_all is_word (held ++ f.outputs)) (sym (list_all-append is_word free (held ++ f.outputs)) ∙ words)).1

  words_held : list_all is_word held ≡ true
  words_held = (and_parts (list_all is_word held) (list_all is_word f.outputs) (sym (list_all-append is_word held f.outputs) ∙ words_behind)).0

  words_outputs : list_all is_word f.outputs ≡ true
  words_outputs = (and_parts (list_all is_word held) (list_all is_word f.outputs) (sym (list_all-append is_word held f.outputs) ∙ words_behind)).1

  at_zero : (j : ℕ) → 0 + j ≡ j
  at_zero j = omega arith

  found_input : (j : ℕ) → j < length free → first_name (symbols_in f) OfInput (0 + j) ≡ get_or free j []
  found_input j l = called_by (symbols_in f) OfInput (0 + j) (get_or free j []) (find_here OfInput 0 free (symbols_by OfLatch 0 held ++ symbols_by OfOutput 0 f.outputs) j l) (word_at_place free j words_free l)

  found_latch : (j : ℕ) → j < length held → first_name (symbols_in f) OfLatch (0 + j) ≡ get_or held j []
  found_latch j l = called_by (symbols_in f) OfLatch (0 + j) (get_or held j [])
      (find_past OfInput OfLatch (0 + j) 0 free (symbols_by OfLatch 0 held ++ symbols_by OfOutput 0 f.outputs) (λ e. omega arith)
      ∙ find_here OfLatch 0 held (symbols_by OfOutput 0 f.outputs) j l) (word_at_place held j words_held l)

  found_output : (j : ℕ) → j < length f.outputs → first_name (symbols_in f) OfOutput (0 + j) ≡ get_or f.outputs j []
  found_output j l = called_by (symbols_in f) OfOutput (0 + j) (get_or f.outputs j [])
      (find_past OfInput OfOutput (0 + j) 0 free (symbols_by OfLatch 0 held ++ symbols_by OfOutput 0 f.outputs) (λ e. omega arith)
      ∙ find_past OfLatch OfOutput (0 + j) 0 held (symbols_by OfOutput 0 f.outputs) (λ e. omega arith)
      ∙ ap (find (is_at OfOutput (0 + j))) (sym (append-nil (symbols_by OfOutput 0 f.outputs)))
      ∙ find_here OfOutput 0 f.outputs [] j l) (word_at_place f.outputs j words_outputs l)

-- the names of a written file

pub distinct_left : (xs ys : List (List ℕ)) → distinct (xs ++ ys) ≡ true → distinct xs ≡ true
distinct_left [] ys d = refl
distinct_left (x ∷ xs) ys d =
    let p = and_parts (not (has_word (xs ++ ys) x)) (distinct (xs ++ ys)) d in
    and_from (not (has_word xs x)) (distinct xs)
    (not_from_false (has_word xs x) (false_from_ne_true (has_word xs x) (λ t. both_ways (has_word (xs ++ ys) x) (not-true (has_word (xs ++ ys) x) p.0) (has_left xs ys x t))))
    (distinct_left xs ys p.1)

length-feeds : (sources : List Named) (i : ℕ) (ls : List AigLatch) (given : List Named) → length (feeds_named sources i ls given) ≡ length ls
length-feeds sources i [] given = refl
length-feeds sources i (l ∷ ls) given = ap suc (length-feeds sources (suc i) ls _)

outputs_from : (ls : List AigLatch) (os fs : List Named) → length os ≡ length ls → length fs ≡ length ls → map latch_output (latches_from ls os fs) ≡ map name_of os
outputs_from [] [] fs e h = refl
outputs_from [] (x ∷ os) fs e h = absurd (omega arith)
outputs_from (l ∷ ls) [] fs e h = absurd (omega arith)
outputs_from (l ∷ ls) (x ∷ os) [] e h = absurd (omega arith)
outputs_from (l ∷ ls) (x ∷ os) (y ∷ fs) e h = ap (λ (ws : List (List ℕ)). x.name ∷ ws) (outputs_from ls os fs (omega arith) (omega arith))

pub inits_from : (ls : List AigLatch) (os fs : List Named) → length os ≡ length ls → length fs ≡ length ls → map init_in (latches_from ls os fs) ≡ map init_of ls
inits_from [] [] fs e h = refl
inits_from [] (x ∷ os) fs e h = absurd (omega arith)
inits_from (l ∷ ls) [] fs e h = absurd (omega arith)
inits_from (l ∷ ls) (x ∷ os) [] e h = absurd (omega arith)
inits_from (l ∷ ls) (x ∷ os) (y ∷ fs) e h = ap (λ (ns : List ℕ). init_of l ∷ ns) (inits_from ls os fs (omega arith) (omega arith))

init_by : (own init : ℕ) → 2 ≤ own → (if reset_by own init == own then 3 else reset_by own init) ≡ (if init == 0 then 0 else if init == 1 then 1 else 3)
init_by own init some =
    let kept : ℕ → ℕ = λ (r : ℕ). if r == own then 3 else r in
    elim (cases_Bool (init == 0)) [
      | inl e ↦
          ap kept (cond-true (init == 0) 0 (if init == 1 then 1 else own) e) ∙ cond-false (0 == own) 3 0 (ne_eqb 0 own (λ q. omega arith))
          ∙ sym (cond-true (init == 0) 0 (if init == 1 then 1 else 3) e)
      | inr e ↦
          ap kept (cond-false (init == 0) 0 (if init == 1 then 1 else own) e)
          ∙ elim (cases_Bool (init == 1)) [
            | inl f ↦ ap kept (cond-true (init == 1) 1 own f) ∙ cond-false (1 == own) 3 1 (ne_eqb 1 own (λ q. omega arith)) ∙ sym (cond-true (init == 1) 1 3 f)
            | inr f ↦ ap kept (cond-false (init == 1) 1 own f) ∙ cond-true (own == own) 3 own (eq-eqb own own refl) ∙ sym (cond-false (init == 1) 1 3 f)
          ]
          ∙ sym (cond-false (init == 0) 0 (if init == 1 then 1 else 3) e)
    ]

inits_again : (m : Netlist) (v : ℕ) (ls : List Latch) → 1 ≤ v → map init_of (latches_by m v ls) ≡ map init_again ls
inits_again m v [] some = refl
inits_again m v (l ∷ ls) some = ap₂ (λ (n : ℕ) (ns : List ℕ). n ∷ ns) (init_by (2 * v) l.init (omega arith)) (inits_again m (v + 1) ls (omega arith))

module _ (m : Netlist) (o : Ordered m) (words : list_all is_word (written_names m.frame) ≡ true) where
  abbrev inputs_free : List (List ℕ)
  inputs_free = free_signals m.frame

  abbrev latches_held : List (List ℕ)
  latches_held = map latch_output m.frame.latches

  split : sources m.frame ≡ inputs_free ++ latches_held
  split = sym (append_assoc m.frame.inputs (without m.frame.inputs m.frame.clocks) latches_held)

  sources_distinct : distinct (inputs_free ++ latches_held) ≡ true
  sources_distinct = sym (ap distinct split) ∙ distinct_left (sources m.frame) (map output_of m.tables) o.once.all

  split_end : sources m.frame ≡ inputs_free ++ (latches_held ++ [])
  split_end = split ∙ ap (λ (l : List (List ℕ)). inputs_free ++ l) (sym (append-nil latches_held))

  distinct_end : distinct (inputs_free ++ (latches_held ++ [])) ≡ true
  distinct_end = ap (λ (l : List (List ℕ)). distinct (inputs_free ++ l)) (append-nil latches_held) ∙ sources_distinct

  inputs_are : inputs_of (aig_of m) ≡ map (named m) inputs_free
  inputs_are =
      ap (λ (ls : List ℕ). sources_named (symbols_in m.frame) OfInput 0 ls []) (sym (source_literals m [] inputs_free latches_held split sources_distinct))
      ∙ sources_are_named m (symbols_in m.frame) OfInput 0 [] inputs_free latches_held (found_input m.frame words) sources_distinct

  held_literals : map latch_literal (aig_of m).latches ≡ map (literal_in m) latches_held
  held_literals =
      latch_literals m (length inputs_free + 1) m.frame.latches
      ∙ ap (literals_from (length inputs_free + 1)) (length-latches m (length inputs_free + 1) m.frame.latches ∙ sym (length-map m.frame.latches latch_output))
      ∙ sym (source_literals m inputs_free latches_held [] split_end distinct_end)

  latches_are : latches_of (aig_of m) ≡ map (named m) latches_held
  latches_are =
      ap₂ (λ (ls : List ℕ) (given : List Named). sources_named (symbols_in m.frame) OfLatch 0 ls given) held_literals inputs_are
      ∙ sources_are_named m (symbols_in m.frame) OfLatch 0 inputs_free latches_held [] (found_latch m.frame words) distinct_end

  outputs_are : outputs_of (aig_of m) ≡ map (named m) m.frame.outputs
  outputs_are =
      ap (outputs_named (symbols_in m.frame) 0 (map (literal_in m) m.frame.outputs)) (ap₂ (λ (a b : List Named). a ++ b) inputs_are latches_are ∙ sym (map-append (named m) inputs_free latches_held))
      ∙ outputs_are_named m (symbols_in m.frame) 0 (inputs_free ++ latches_held) m.frame.outputs (found_output m.frame words)

  frame_inputs : (frame_of (aig_of m)).inputs ≡ inputs_free
  frame_inputs = ap (map name_of) inputs_are ∙ names_of_named m inputs_free

  frame_outputs : (frame_of (aig_of m)).outputs ≡ m.frame.outputs
  frame_outputs = ap (map name_of) outputs_are ∙ names_of_named m m.frame.outputs

  as_many : length (latches_of (aig_of m)) ≡ length (aig_of m).latches
  as_many = ap length latches_are ∙ length-map latches_held (named m) ∙ length-map m.frame.latches latch_output ∙ sym (length-latches m (length inputs_free + 1) m.frame.latches)

  as_many_feeds : length (feeds_of (aig_of m)) ≡ length (aig_of m).latches
  as_many_feeds = length-feeds (sources_of (aig_of m)) 0 (aig_of m).latches (sources_of (aig_of m) ++ outputs_of (aig_of m))

  frame_latches : map latch_output (frame_of (aig_of m)).latches ≡ latches_held
  frame_latches = outputs_from (aig_of m).latches (latches_of (aig_of m)) (feeds_of (aig_of m)) as_many as_many_feeds ∙ ap (map name_of) latches_are ∙ names_of_named m latches_held

  frame_inits : map init_in (frame_of (aig_of m)).latches ≡ map init_again m.frame.latches
  frame_inits = inits_from (aig_of m).latches (latches_of (aig_of m)) (feeds_of (aig_of m)) as_many as_many_feeds ∙ inits_again m (length inputs_free + 1) m.frame.latches (omega arith)

pub aig_of_keeps : AigOfKeeps
aig_of_keeps m o s untyped words =
    let law : GraphHasFunction = graph_has_function_is one_valuation_is ordered_has_one in
    record {
      untyped = untyped;
      inputs = frame_inputs m o words;
      outputs = frame_outputs m o words;
      latches = frame_latches m o words;
      inits = frame_inits m o words;
      values = λ v w fit c same. outputs_kept law m o s v w fit c same;
      next = λ v w fit c same. next_kept law m o s v w fit c same;
    }

-- with types left out

no_types : (ls : List Latch) → find has_type (map untyped_latch ls) ≡ None
no_types [] = refl
no_types (l ∷ ls) = no_types ls

outputs_untyped : (ls : List Latch) → map latch_output (map untyped_latch ls) ≡ map latch_output ls
outputs_untyped [] = refl
outputs_untyped (l ∷ ls) = ap (λ (ws : List (List ℕ)). l.output ∷ ws) (outputs_untyped ls)

inits_untyped : (ls : List Latch) → map init_again (map untyped_latch ls) ≡ map init_again ls
inits_untyped [] = refl
inits_untyped (l ∷ ls) = ap (λ (ns : List ℕ). init_again l ∷ ns) (inits_untyped ls)

feeds_untyped : (ls : List Latch) → map feed_of (map untyped_latch ls) ≡ map feed_of ls
feeds_untyped [] = refl
feeds_untyped (l ∷ ls) = ap (λ (ws : List (List ℕ)). l.feed ∷ ws) (feeds_untyped ls)

sources_untyped : (m : Netlist) → sources (without_types m).frame ≡ sources m.frame
sources_untyped m = ap (λ (ws : List (List ℕ)). m.frame.inputs ++ (without m.frame.inputs m.frame.clocks ++ ws)) (outputs_untyped m.frame.latches)

pub aig_of_leaves_types : AigOfLeavesTypes
aig_of_leaves_types m o s words =
    let law : GraphHasFunction = graph_has_function_is one_valuation_is ordered_has_one in
    record {
      untyped = ap (option_map latch_output) (no_types m.frame.latches);
      inputs = frame_inputs m o words;
      outputs = frame_outputs m o words;
      latches = frame_latches m o words ∙ sym (outputs_untyped m.frame.latches);
      inits = frame_inits m o words ∙ sym (inits_untyped m.frame.latches);
      values = λ v w fit c same. outputs_kept law m o s v w fit c (ap (map w) (sym (sources_untyped m)) ∙ same);
      next = λ v w fit c same. ap (map w) (feeds_untyped m.frame.latches) ∙ next_kept law m o s v w fit c (ap (map w) (sym (sources_untyped m)) ∙ same);
    }
