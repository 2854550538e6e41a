-- The network of a file by place: its outputs and what its latches load have the values of the file's literals, and so do those that are read again of a written file.
use Rattle.std.specs.List.{AllByRecursion}
use Rattle.std.proofs.Common.{◌≡◌, ℕ, suc, ◌==◌, ◌&&◌, ◌||◌, not, nat_eq, if◌then◌else◌, Bool, true, false, List, [], ◌∷◌, ◌++◌, length, map, find, bytes_eq, decimal, flat_map, option_map, Option, Some, None, refl, sym, ap, ap₂, ◌∙◌, subst, inl, inr, append_assoc, append-nil, arith, eq-eqb, eqb-true}
use Rattle.std.proofs.lemmas.Bool.{and_left, and_right, and_parts, or_from, or_parts, or_cases, not_from_true, not-true, both_ways, cases_Bool, cond-true, cond-false}
use Rattle.std.proofs.lemmas.List.{length-map}
use Rattle.std.proofs.lemmas.List.Folds.{list_any-append}
use Rattle.syn_lists.specs.Numbers.{distinct_numbers, has_number}
use Rattle.syn_netlist.specs.Lists.{Frame, Netlist, latch_output, latch_reads, observed, sources}
use Rattle.syn_netlist.specs.Values.{Consistent}
use Rattle.syn_netlist.specs.Words.{has_word, without}
use Rattle.syn_netlist.proofs.Sets.{same_word, word_same, has_head, has_left, has_right, has_tail}
use Rattle.syn_aiger_files.specs.declared.files.Aig.{Aig}
use Rattle.syn_aiger_files.specs.declared.files.AigLatch.{AigLatch}
use Rattle.syn_aiger_files.specs.declared.files.Place.{Place}
use Rattle.syn_aiger_files.specs.declared.files.Place.TheVariants.{Input as OfInput, Latch as OfLatch, Output as OfOutput}
use Rattle.syn_aiger_files.specs.declared.files.Symbol.{Symbol}
use Rattle.syn_aiger_files.specs.Files.{latch_literal, next_of}
use Rattle.syn_aiger.specs.Laws.{GraphHasLists, WrittenReadsBack}
use Rattle.syn_aiger.specs.Faults.{Spells}
use Rattle.syn_aiger_files.specs.FirstNames.{first_name}
use Rattle.syn_aiger.specs.Naming.{Named, feeds_named, feeds_of, free_name, inputs_of, is_given, is_given_otherwise, latches_of, literal_in, literal_named, name_of, named_of, outputs_named, outputs_of, source_or, sources_named, sources_of}
use Rattle.syn_aiger.specs.Networks.{IsGraphOfAig, frame_of, latches_from}
use Rattle.syn_aiger.specs.Values.{FitsAig, source_literals, source_variables, value_of}
use Rattle.syn_aiger.specs.Writing.{IsWrittenAs, feed_of, first_typed, has_type, init_in}
use Rattle.syn_aiger.proofs.Counting.{distinct_front}
use Rattle.syn_aiger.proofs.Frames.{inits_from}
use Rattle.syn_aiger.proofs.Giving.{all_more, literal_of}
use Rattle.syn_aiger.proofs.Kept.{among_firsts, each_of, feeds_read, map_same}
use Rattle.syn_aiger.proofs.Slicing.{frame_sources, many_feeds, many_inputs, many_latches, names_given, outputs_literals, source_literals_are}
use Rattle.syn_aiger.proofs.Soundness.{sound_of}
use Rattle.syn_aiger.proofs.Taking.{free_is_free}

-- names that are each given for one literal

-- no other literal is given these names
abbrev Agree : List Named → List Named → Type 0
Agree given ns = AllByRecursion (λ (n : Named). is_given_otherwise n.literal given n.name ≡ false) ns

alike : (a b : Named) → (bytes_eq a.name b.name && not (a.literal == b.literal)) ≡ false → (bytes_eq b.name a.name && not (b.literal == a.literal)) ≡ false
alike a b h = elim (cases_Bool (bytes_eq b.name a.name)) [
  | inl e ↦
      let same : bytes_eq a.name b.name ≡ true = subst (λ (w : List ℕ). bytes_eq a.name w ≡ true) (sym (same_word b.name a.name e)) (word_same a.name) in
      let equal : a.literal ≡ b.literal = eqb-true a.literal b.literal (second (bytes_eq a.name b.name) (a.literal == b.literal) same h) in
      and_right (bytes_eq b.name a.name) (not (b.literal == a.literal)) (not_from_true (b.literal == a.literal) (eq-eqb b.literal a.literal (sym equal)))
  | inr f ↦ and_left (bytes_eq b.name a.name) (not (b.literal == a.literal)) f
]
  where
    second : (x y : Bool) → x ≡ true → (x && not y) ≡ false → y ≡ true
    second true true e f = refl
    second true false e f = absurd (cc)
    second false y e f = absurd (cc)

not_otherwise : (given : List Named) (l : ℕ) (name : List ℕ) → is_given given name ≡ false → is_given_otherwise l given name ≡ false
not_otherwise [] l name h = refl
not_otherwise (n ∷ ns) l name h =
    let p = or_parts (bytes_eq n.name name) (is_given ns name) h in
    or_from (bytes_eq n.name name && not (n.literal == l)) (is_given_otherwise l ns name) (and_left (bytes_eq n.name name) (not (n.literal == l)) p.0) (not_otherwise ns l name p.1)

otherwise_more : (given : List Named) (n : Named) (l : ℕ) (name : List ℕ) → is_given_otherwise l given name ≡ false → (bytes_eq n.name name && not (n.literal == l)) ≡ false → is_given_otherwise l (given ++ n ∷ []) name ≡ false
otherwise_more given n l name h k =
    list_any-append (λ (m : Named). bytes_eq m.name name && not (m.literal == l)) given (n ∷ [])
    ∙ or_from (is_given_otherwise l given name) ((bytes_eq n.name name && not (n.literal == l)) || false) h (or_from (bytes_eq n.name name && not (n.literal == l)) false k refl)

agree_on : (given ns : List Named) (n : Named) → Agree given ns → is_given_otherwise n.literal ns n.name ≡ false → Agree (given ++ n ∷ []) ns
agree_on given [] n h f = tt
agree_on given (x ∷ ns) n h f =
    let p = or_parts (bytes_eq x.name n.name && not (x.literal == n.literal)) (is_given_otherwise n.literal ns n.name) f in
    (otherwise_more given n x.literal x.name h.0 (alike x n p.0), agree_on given ns n h.1 p.1)

-- one name more, that isn't given for another literal
agree_step : (given : List Named) (n : Named) → Agree given given → is_given_otherwise n.literal given n.name ≡ false → Agree (given ++ n ∷ []) (given ++ n ∷ [])
agree_step given n h f =
    all_more (λ (m : Named). is_given_otherwise m.literal (given ++ n ∷ []) m.name ≡ false) given n (agree_on given given n h f)
    (otherwise_more given n n.literal n.name f (and_right (bytes_eq n.name n.name) (not (n.literal == n.literal)) (not_from_true (n.literal == n.literal) (eq-eqb n.literal n.literal refl))))

abbrev Alone : List Named → Type 0
Alone ns = Agree ns ns

alone_end : (given : List Named) → Alone given → Alone (given ++ [])
alone_end given h = subst Alone (sym (append-nil given)) h

alone_sources : (symbols : List Symbol) (p : Place) (i : ℕ) (ls : List ℕ) (given : List Named) → Alone given → Alone (given ++ sources_named symbols p i ls given)
alone_sources symbols p i [] given h = alone_end given h
alone_sources symbols p i (l ∷ ls) given h =
    let n : Named = record { name = free_name given (is_given given) (first_name symbols p i); literal = l } in
    subst Alone (append_assoc given (n ∷ []) (sources_named symbols p (suc i) ls (given ++ n ∷ [])))
    (alone_sources symbols p (suc i) ls (given ++ n ∷ []) (agree_step given n h (not_otherwise given l n.name (free_is_free false l given (first_name symbols p i)))))

alone_outputs : (symbols : List Symbol) (i : ℕ) (ls : List ℕ) (given : List Named) → Alone given → Alone (given ++ outputs_named symbols i ls given)
alone_outputs symbols i [] given h = alone_end given h
alone_outputs symbols i (l ∷ ls) given h =
    let n : Named = record { name = free_name given (is_given_otherwise l given) (first_name symbols OfOutput i); literal = l } in
    subst Alone (append_assoc given (n ∷ []) (outputs_named symbols (suc i) ls (given ++ n ∷ [])))
    (alone_outputs symbols (suc i) ls (given ++ n ∷ []) (agree_step given n h (free_is_free true l given (first_name symbols OfOutput i))))

agree_front : (given xs ys : List Named) → Agree given (xs ++ ys) → Agree given xs
agree_front given [] ys h = tt
agree_front given (x ∷ xs) ys h = (h.0, agree_front given xs ys h.1)

-- what is found holds of all, or it is another
found_or : (P : Named → Type 0) (test : Named → Bool) (ns : List Named) (o : Option Named) (other : Named) → find test ns ≡ o → AllByRecursion P ns → P other → P (source_or o other)
found_or P test ns None other e h p = p
found_or P test [] (Some s) other e h p = absurd (cc)
found_or P test (n ∷ ns) (Some s) other e h p = elim (cases_Bool (test n)) [
  | inl t ↦
      let q : Path (Option Named) (Some n) (Some s) = sym (cond-true (test n) (Some n) (find test ns) t) ∙ e in
      let same : n ≡ s = cc in
      subst P same h.0
  | inr f ↦ found_or P test ns (Some s) other (sym (cond-false (test n) (Some n) (find test ns) f) ∙ e) h.1 p
]

feed_alone : (srcs given : List Named) (i next : ℕ) → Agree given srcs → let n : Named = source_or (find (λ m. m.literal == next) srcs) (record { name = free_name given (is_given given) (100 ∷ decimal i); literal = next }) in is_given_otherwise n.literal given n.name ≡ false
feed_alone srcs given i next h =
    let new : Named = record { name = free_name given (is_given given) (100 ∷ decimal i); literal = next } in
    found_or (λ (n : Named). is_given_otherwise n.literal given n.name ≡ false) (λ m. m.literal == next) srcs (find (λ m. m.literal == next) srcs) new refl h
    (not_otherwise given next new.name (free_is_free false next given (100 ∷ decimal i)))

alone_feeds : (srcs : List Named) (i : ℕ) (ls : List AigLatch) (given more : List Named) → given ≡ srcs ++ more → Alone given → Alone (given ++ feeds_named srcs i ls given)
alone_feeds srcs i [] given more e h = alone_end given h
alone_feeds srcs i (l ∷ ls) given more e h =
    let n : Named = source_or (find (λ m. m.literal == l.next) srcs) (record { name = free_name given (is_given given) (100 ∷ decimal i); literal = l.next }) in
    let front : Agree given srcs = agree_front given srcs more (subst (Agree given) e h) in
    subst Alone (append_assoc given (n ∷ []) (feeds_named srcs (suc i) ls (given ++ n ∷ [])))
    (alone_feeds srcs (suc i) ls (given ++ n ∷ []) (more ++ n ∷ []) (ap (λ (ms : List Named). ms ++ n ∷ []) e ∙ append_assoc srcs more (n ∷ [])) (agree_step given n h (feed_alone srcs given i l.next front)))

-- the literals of feeds
found_literal : (ns : List Named) (next : ℕ) (o : Option Named) (other : Named) → find (λ m. m.literal == next) ns ≡ o → other.literal ≡ next → (source_or o other).literal ≡ next
found_literal ns next None other e p = p
found_literal [] next (Some s) other e p = absurd (cc)
found_literal (n ∷ ns) next (Some s) other e p = elim (cases_Bool (n.literal == next)) [
  | inl t ↦
      let q : Path (Option Named) (Some n) (Some s) = sym (cond-true (n.literal == next) (Some n) (find (λ m. m.literal == next) ns) t) ∙ e in
      let same : n ≡ s = cc in
      subst (λ (m : Named). m.literal ≡ next) same (eqb-true n.literal next t)
  | inr f ↦ found_literal ns next (Some s) other (sym (cond-false (n.literal == next) (Some n) (find (λ m. m.literal == next) ns) f) ∙ e) p
]

feeds_literals : (srcs : List Named) (i : ℕ) (ls : List AigLatch) (given : List Named) → map literal_of (feeds_named srcs i ls given) ≡ map next_of ls
feeds_literals srcs i [] given = refl
feeds_literals srcs i (l ∷ ls) given =
    ap₂ (λ (n : ℕ) (ns : List ℕ). n ∷ ns)
    (found_literal srcs l.next (find (λ m. m.literal == l.next) srcs) (record { name = free_name given (is_given given) (100 ∷ decimal i); literal = l.next }) refl refl)
    (feeds_literals srcs (suc i) ls _)

-- a name that is given for this literal alone stands for it
named_literal : (given : List Named) (l : ℕ) (name : List ℕ) → is_given given name ≡ true → is_given_otherwise l given name ≡ false → literal_in (find (λ n. bytes_eq n.name name) given) ≡ l
named_literal [] l name t f = absurd (both_ways false refl t)
named_literal (n ∷ ns) l name t f =
    let p = or_parts (bytes_eq n.name name && not (n.literal == l)) (is_given_otherwise l ns name) f in
    elim (cases_Bool (bytes_eq n.name name)) [
      | inl e ↦
          ap literal_in (cond-true (bytes_eq n.name name) (Some n) (find (λ n. bytes_eq n.name name) ns) e)
          ∙ eqb-true n.literal l (second (bytes_eq n.name name) (n.literal == l) e p.0)
      | inr d ↦
          ap literal_in (cond-false (bytes_eq n.name name) (Some n) (find (λ n. bytes_eq n.name name) ns) d)
          ∙ named_literal ns l name (elim (or_cases (bytes_eq n.name name) (is_given ns name) t) [ inl e ↦ absurd (both_ways (bytes_eq n.name name) d e) | inr r ↦ r ]) p.1
    ]
  where
    second : (x y : Bool) → x ≡ true → (x && not y) ≡ false → y ≡ true
    second true true e f = refl
    second true false e f = absurd (cc)
    second false y e f = absurd (cc)

-- names and literals of a file by place

module _ (g : Aig) where
  all_alone : Alone (named_of g)
  all_alone =
      subst Alone (append_assoc (sources_of g) (outputs_of g) (feeds_of g))
      (alone_feeds (sources_of g) 0 g.latches (sources_of g ++ outputs_of g) (outputs_of g) refl
      (alone_outputs g.symbols 0 g.outputs (sources_of g)
      (alone_sources g.symbols OfLatch 0 (map latch_literal g.latches) (inputs_of g) (alone_sources g.symbols OfInput 0 g.inputs [] tt))))

  agree_back : (xs ys : List Named) → Agree (named_of g) (xs ++ ys) → Agree (named_of g) ys
  agree_back [] ys h = h
  agree_back (x ∷ xs) ys h = agree_back xs ys h.1

  literals_named : (ns : List Named) → Agree (named_of g) ns → ((w : List ℕ) → has_word (map name_of ns) w ≡ true → is_given (named_of g) w ≡ true) → map (literal_named g) (map name_of ns) ≡ map literal_of ns
  literals_named [] h sub = refl
  literals_named (n ∷ ns) h sub =
      ap₂ (λ (l : ℕ) (ls : List ℕ). l ∷ ls)
      (named_literal (named_of g) n.literal n.name (sub n.name (has_head n.name (map name_of ns))) h.0)
      (literals_named ns h.1 (λ w t. sub w (has_tail n.name w (map name_of ns) t)))

  is_named : (xs ns ys : List Named) → named_of g ≡ xs ++ (ns ++ ys) → (w : List ℕ) → has_word (map name_of ns) w ≡ true → is_given (named_of g) w ≡ true
  is_named xs ns ys e w t =
      ap (λ (l : List Named). is_given l w) e
      ∙ list_any-append (λ (n : Named). bytes_eq n.name w) xs (ns ++ ys)
      ∙ or_right' (is_given xs w) (is_given (ns ++ ys) w) (list_any-append (λ (n : Named). bytes_eq n.name w) ns ys ∙ or_left' (is_given ns w) (is_given ys w) (sym (names_given ns w) ∙ t))
    where
      or_right' : (x y : Bool) → y ≡ true → (x || y) ≡ true
      or_right' true y e = refl
      or_right' false y e = e

      or_left' : (x y : Bool) → x ≡ true → (x || y) ≡ true
      or_left' true y e = refl
      or_left' false y e = absurd (cc)

  outputs_stand : map (literal_named g) (map name_of (outputs_of g)) ≡ g.outputs
  outputs_stand =
      literals_named (outputs_of g) (agree_front (named_of g) (outputs_of g) (feeds_of g) (agree_back (sources_of g) (outputs_of g ++ feeds_of g) all_alone)) (is_named (sources_of g) (outputs_of g) (feeds_of g) refl)
      ∙ outputs_literals g g.symbols 0 g.outputs (sources_of g)

  feeds_stand : map (literal_named g) (map name_of (feeds_of g)) ≡ map next_of g.latches
  feeds_stand =
      literals_named (feeds_of g) (agree_back (outputs_of g) (feeds_of g) (agree_back (sources_of g) (outputs_of g ++ feeds_of g) all_alone))
      (is_named (sources_of g ++ outputs_of g) (feeds_of g) [] (sym (append_assoc (sources_of g) (outputs_of g) (feeds_of g)) ∙ ap (λ (l : List Named). (sources_of g ++ outputs_of g) ++ l) (sym (append-nil (feeds_of g)))))
      ∙ feeds_literals (sources_of g) 0 g.latches (sources_of g ++ outputs_of g)

  feeds_from : (ls : List AigLatch) (os fs : List Named) → length os ≡ length ls → length fs ≡ length ls → map feed_of (latches_from ls os fs) ≡ map name_of fs
  feeds_from [] os [] e h = refl
  feeds_from [] os (y ∷ fs) e h = absurd (omega arith)
  feeds_from (l ∷ ls) [] fs e h = absurd (omega arith)
  feeds_from (l ∷ ls) (x ∷ os) [] e h = absurd (omega arith)
  feeds_from (l ∷ ls) (x ∷ os) (y ∷ fs) e h = ap (λ (ws : List (List ℕ)). y.name ∷ ws) (feeds_from ls os fs (omega arith) (omega arith))

  frame_feeds : map feed_of (frame_of g).latches ≡ map name_of (feeds_of g)
  frame_feeds = feeds_from g.latches (latches_of g) (feeds_of g) (many_latches g) (many_feeds g)

  module _ (n : Netlist) (is : IsGraphOfAig g n) (v : ℕ → Bool) (w : List ℕ → Bool) (fit : FitsAig g v) (c : Consistent n w) (same : map w (sources n.frame) ≡ map v (source_variables g)) where
    signal_at : (x : List ℕ) → has_word (observed n.frame) x ≡ true → w x ≡ value_of v (literal_named g x)
    signal_at = each_of w (value_of v) (literal_named g) (observed n.frame) (is.values v w fit c same ∙ ap (λ (f : Frame). map (value_of v) (map (literal_named g) (observed f))) (sym is.frame))

    outputs_by_place : map w n.frame.outputs ≡ map (value_of v) g.outputs
    outputs_by_place =
        map_same v w (literal_named g) n.frame.outputs (λ x t. signal_at x (among_firsts (n.frame.outputs ++ flat_map latch_reads n.frame.latches) x (has_left n.frame.outputs (flat_map latch_reads n.frame.latches) x t)))
        ∙ ap (λ (f : Frame). map (value_of v) (map (literal_named g) f.outputs)) is.frame
        ∙ ap (map (value_of v)) outputs_stand

    next_by_place : map w (map feed_of n.frame.latches) ≡ map (value_of v) (map next_of g.latches)
    next_by_place =
        map_same v w (literal_named g) (map feed_of n.frame.latches) (λ x t. signal_at x (among_firsts (n.frame.outputs ++ flat_map latch_reads n.frame.latches) x (has_right n.frame.outputs (flat_map latch_reads n.frame.latches) x (feeds_read n.frame.latches x t))))
        ∙ ap (λ (f : Frame). map (value_of v) (map (literal_named g) (map feed_of f.latches))) is.frame
        ∙ ap (λ (ws : List (List ℕ)). map (value_of v) (map (literal_named g) ws)) frame_feeds
        ∙ ap (map (value_of v)) feeds_stand

pub graph_has_lists : GraphHasLists
graph_has_lists g n is = record {
  inputs = ap (λ (f : Frame). length f.inputs) is.frame ∙ length-map (inputs_of g) name_of ∙ many_inputs g;
  inits = ap (λ (f : Frame). map init_in f.latches) is.frame ∙ inits_from g.latches (latches_of g) (feeds_of g) (many_latches g) (many_feeds g);
  outputs = outputs_by_place g n is;
  next = next_by_place g n is;
}

-- a valuation with these values of different numbers

abbrev assign : List ℕ → List Bool → ℕ → Bool
assign [] bits k = false
assign (x ∷ xs) [] k = false
assign (x ∷ xs) (b ∷ bs) k = if nat_eq x k then b else assign xs bs k

assigned : (xs : List ℕ) (bits : List Bool) → distinct_numbers xs ≡ true → length bits ≡ length xs → map (assign xs bits) xs ≡ bits
assigned [] [] d l = refl
assigned [] (b ∷ bs) d l = absurd (omega arith)
assigned (x ∷ xs) [] d l = absurd (omega arith)
assigned (x ∷ xs) (b ∷ bs) d l =
    let p = and_parts (not (has_number xs x)) (distinct_numbers xs) d in
    ap₂ (λ (c : Bool) (cs : List Bool). c ∷ cs)
    (cond-true (nat_eq x x) b (assign xs bs x) (eq-eqb x x refl))
    (later xs (not-true (has_number xs x) p.0) ∙ assigned xs bs p.1 (omega arith))
  where
    turned : (y : ℕ) → nat_eq y x ≡ false → nat_eq x y ≡ false
    turned y h = elim (cases_Bool (nat_eq x y)) [
      | inl e ↦ absurd (both_ways (nat_eq y x) h (eq-eqb y x (sym (eqb-true x y e))))
      | inr f ↦ f
    ]

    later : (ys : List ℕ) → has_number ys x ≡ false → map (assign (x ∷ xs) (b ∷ bs)) ys ≡ map (assign xs bs) ys
    later [] h = refl
    later (y ∷ ys) h =
        let q = or_parts (nat_eq y x) (has_number ys x) h in
        ap₂ (λ (c : Bool) (cs : List Bool). c ∷ cs)
        (cond-false (nat_eq x y) b (assign xs bs y) (turned y q.0))
        (later ys q.1)

-- what is read again

no_type : (ls : List AigLatch) (os fs : List Named) → find has_type (latches_from ls os fs) ≡ None
no_type [] os fs = refl
no_type (l ∷ ls) [] fs = refl
no_type (l ∷ ls) (x ∷ os) [] = refl
no_type (l ∷ ls) (x ∷ os) (y ∷ fs) = no_type ls os fs

module _ (properties : Bool) (bytes : List ℕ) (m n : Netlist) (g : Aig) (spells : Spells properties bytes g) (written : IsWrittenAs m g) (is : IsGraphOfAig g n) where
  same_sources : sources m.frame ≡ sources n.frame
  same_sources =
      sym (append_assoc m.frame.inputs (without m.frame.inputs m.frame.clocks) (map latch_output m.frame.latches))
      ∙ ap₂ (λ (a b : List (List ℕ)). a ++ b) (sym written.inputs) (sym written.latches)
      ∙ ap sources (sym is.frame)

  once : distinct_numbers (source_variables g) ≡ true
  once = distinct_front (source_variables g) _ (and_parts _ _ (sound_of properties bytes g spells.says).once).1

  as_many : (p : List ℕ → Bool) → length (map p (sources m.frame)) ≡ length (source_variables g)
  as_many p =
      length-map (sources m.frame) p ∙ ap length (same_sources ∙ ap sources is.frame ∙ frame_sources g)
      ∙ length-map (sources_of g) name_of ∙ sym (length-map (sources_of g) literal_of) ∙ ap length (source_literals_are g)
      ∙ sym (length-map (source_literals g) _)

  module _ (p q : List ℕ → Bool) (c : Consistent m p) (d : Consistent n q) (same : map p (sources m.frame) ≡ map q (sources n.frame)) where
    -- a valuation of the file with the values of the sources
    between : (u : ℕ → Bool) × FitsAig g u × (map p (sources m.frame) ≡ map u (source_variables g))
    between =
        let bits : List Bool = map p (sources m.frame) in
        let t = is.total (assign (source_variables g) bits) in
        (t.0, t.1, sym (t.2 ∙ assigned (source_variables g) bits once (as_many p)))

    pub outputs_again : map p m.frame.outputs ≡ map q n.frame.outputs
    outputs_again = written.values between.0 p between.1 c between.2 ∙ sym (outputs_by_place g n is between.0 q between.1 d (sym same ∙ between.2))

    pub next_again : map p (map feed_of m.frame.latches) ≡ map q (map feed_of n.frame.latches)
    next_again = written.next between.0 p between.1 c between.2 ∙ sym (next_by_place g n is between.0 q between.1 d (sym same ∙ between.2))

pub written_reads_back : WrittenReadsBack
written_reads_back properties bytes m n g spells written is = record {
  untyped = ap (λ (f : Frame). first_typed f) is.frame ∙ ap (option_map latch_output) (no_type g.latches (latches_of g) (feeds_of g));
  inputs = ap (λ (f : Frame). f.inputs) is.frame ∙ written.inputs;
  clocks = ap (λ (f : Frame). f.clocks) is.frame;
  outputs = ap (λ (f : Frame). f.outputs) is.frame ∙ written.outputs;
  latches = ap (λ (f : Frame). map latch_output f.latches) is.frame ∙ written.latches;
  inits = ap (λ (f : Frame). map init_in f.latches) is.frame ∙ written.inits;
  values = outputs_again properties bytes m n g spells written is;
  next = next_again properties bytes m n g spells written is;
}
