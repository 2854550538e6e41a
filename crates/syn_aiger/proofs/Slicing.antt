-- Numbers of names, cut into those of inputs, latches, outputs and of what latches load; and the literals of names.
use Rattle.std.specs.List.{AllByRecursion, list_all}
use Rattle.std.proofs.Common.{◌≡◌, ℕ, zero, suc, ◌+◌, ◌*◌, ◌%◌, ◌<◌, ◌≤◌, ◌==◌, ◌||◌, nat_eq, nat_lt, bytes_eq, Bool, true, false, List, [], ◌∷◌, ◌++◌, length, map, find, take, drop, get_or, slice_index, Option, Some, None, refl, sym, ap, ap₂, ◌∙◌, subst, inl, inr, append_assoc, append-nil, arith, eq-eqb, ltb-true, eqb-true}
use Rattle.std.proofs.lemmas.Bool.{and_from, and_parts, or_cases, or_left, or_right, both_ways, cases_Bool, cond-true, cond-false}
use Rattle.std.proofs.lemmas.List.{drop_all, get_or-map, get_or_append_left, length-map, map-append}
use Rattle.std.proofs.lemmas.List.Folds.{list_all-append}
use Rattle.syn_netlist.specs.declared.Latch as code
use Rattle.syn_netlist.specs.Kept.{latch_in}
use Rattle.syn_netlist.specs.Lists.{Latch, latch_output, sources}
use Rattle.syn_lists.specs.Numbers.{has_number}
use Rattle.syn_netlist.specs.declared.LatchKind.{LatchKind}
use Rattle.syn_netlist.specs.Numbers.{all_below, kind_at, word_at, words_at}
use Rattle.syn_netlist.specs.Words.{distinct, has_word}
use Rattle.syn_netlist.proofs.Sets.{distinct_push, same_word}
use Rattle.syn_rows.specs.declared.Lit.{Lit}
use Rattle.syn_network.specs.GraphShape.{place}
use Rattle.syn_network.specs.NamedGraphs.{source_lit}
use Rattle.syn_network.proofs.Spelled.{place_lt}
use Rattle.syn_aiger_files.specs.declared.files.Aig.{Aig}
use Rattle.syn_aiger_files.specs.declared.files.AigLatch.{AigLatch}
use Rattle.syn_aiger_files.specs.declared.files.Place.{Place}
use Rattle.syn_aiger_files.specs.declared.files.Place.TheVariants.{Input as OfInput, Latch as OfLatch}
use Rattle.syn_aiger_files.specs.declared.files.Symbol.{Symbol}
use Rattle.syn_aiger_files.specs.Files.{latch_literal, next_of, variable_of}
use Rattle.syn_aiger.specs.Framing.{AllDefined, AreLiterals}
use Rattle.syn_aiger.specs.Keeping.{HasLiteral, Keeps}
use Rattle.syn_aiger_files.specs.FirstNames.{first_name}
use Rattle.syn_aiger.specs.Naming.{Named, feeds_named, feeds_of, free_name, inputs_of, is_given, latches_of, literal_in, literal_named, name_of, named_of, outputs_named, outputs_of, source_or, sources_named, sources_of}
use Rattle.syn_aiger.specs.Networks.{frame_of, init_of, latches_from}
use Rattle.syn_aiger.specs.Placing.{IsSound, ReadsDefined, is_defined, is_plain, lit_in, node_in, or_zero}
use Rattle.syn_aiger.specs.Values.{and_variable, defined_variables, source_literals, source_variables}
use Rattle.syn_aiger.specs.declared.given.Given.{Given}
use Rattle.syn_aiger.proofs.Giving.{literal_of, source_literals_named}
use Rattle.syn_aiger.proofs.Placed.{place_at}
use Rattle.syn_aiger.proofs.Rowed.{many_defined}
use Rattle.syn_aiger.proofs.Sound.{has_left as has_left_number}
use Rattle.syn_aiger.proofs.Taking.{free_is_free, has_at}

-- how many

pub many_sources_named : (symbols : List Symbol) (p : Place) (i : ℕ) (ls : List ℕ) (given : List Named) → length (sources_named symbols p i ls given) ≡ length ls
many_sources_named symbols p i [] given = refl
many_sources_named symbols p i (l ∷ ls) given = ap suc (many_sources_named symbols p (suc i) ls _)

pub many_outputs_named : (symbols : List Symbol) (i : ℕ) (ls : List ℕ) (given : List Named) → length (outputs_named symbols i ls given) ≡ length ls
many_outputs_named symbols i [] given = refl
many_outputs_named symbols i (l ∷ ls) given = ap suc (many_outputs_named symbols (suc i) ls _)

pub many_feeds_named : (sources : List Named) (i : ℕ) (ls : List AigLatch) (given : List Named) → length (feeds_named sources i ls given) ≡ length ls
many_feeds_named sources i [] given = refl
many_feeds_named sources i (l ∷ ls) given = ap suc (many_feeds_named sources (suc i) ls _)

-- the words of a part

pub words_front : (f : ℕ → List ℕ) (ns : List ℕ) (front more : List Named) → map f ns ≡ map name_of (front ++ more) → map f (take (length front) ns) ≡ map name_of front
words_front f ns [] more e = refl
words_front f [] (x ∷ front) more e = absurd (cc)
words_front f (n ∷ ns) (x ∷ front) more e =
    ap₂ (λ (a : List ℕ) (b : List (List ℕ)). a ∷ b) (let q : f n ≡ x.name = cc in q) (words_front f ns front more (let q : map f ns ≡ map name_of (front ++ more) = cc in q))

pub words_back : (f : ℕ → List ℕ) (ns : List ℕ) (front more : List Named) → map f ns ≡ map name_of (front ++ more) → map f (drop (length front) ns) ≡ map name_of more
words_back f ns [] more e = e
words_back f [] (x ∷ front) more e = absurd (cc)
words_back f (n ∷ ns) (x ∷ front) more e = words_back f ns front more (let q : map f ns ≡ map name_of (front ++ more) = cc in q)

pub below_take : (k n : ℕ) (ns : List ℕ) → all_below k ns ≡ true → all_below k (take n ns) ≡ true
below_take k zero ns h = refl
below_take k (suc n) [] h = refl
below_take k (suc n) (m ∷ ns) h = let p = and_parts (nat_lt m k) (all_below k ns) h in and_from (nat_lt m k) (all_below k (take n ns)) p.0 (below_take k n ns p.1)

pub below_drop : (k n : ℕ) (ns : List ℕ) → all_below k ns ≡ true → all_below k (drop n ns) ≡ true
below_drop k zero ns h = h
below_drop k (suc n) [] h = h
below_drop k (suc n) (m ∷ ns) h = below_drop k n ns (and_parts (nat_lt m k) (all_below k ns) h).1

-- the name of a number
named_at : (f : ℕ → List ℕ) (ns : List ℕ) (os : List Named) (j : ℕ) → map f ns ≡ map name_of os → j < length ns → (o : Named) × (drop j os ≡ o ∷ drop (j + 1) os) × (o.name ≡ f (slice_index ns j))
named_at f [] os j e l = absurd (omega arith)
named_at f (n ∷ ns) [] j e l = absurd (cc)
named_at f (n ∷ ns) (o ∷ os) zero e l = (o, refl, (let q : f n ≡ o.name = cc in sym q))
named_at f (n ∷ ns) (o ∷ os) (suc j) e l =
    let r = named_at f ns os j (let q : map f ns ≡ map name_of os = cc in q) (omega arith) in
    (r.0, r.1 ∙ ap (λ (k : ℕ). r.0 ∷ drop k (o ∷ os)) (let q : suc (j + 1) ≡ suc j + 1 = omega arith in q), r.2)

latch_is : (names : List (List ℕ)) (x : code.Latch) (feed output : ℕ) (a : AigLatch) (o f : Named) → x.feed ≡ feed → x.output ≡ output → x.kind ≡ None → x.init ≡ init_of a → o.name ≡ word_at names output → f.name ≡ word_at names feed
    → latch_in names x ≡ record { feed = f.name; output = o.name; kind = None; init = init_of a }
latch_is names x feed output a o f p q k i on fn =
    ap₂ (λ (u v : List ℕ). record { feed = u; output = v; kind = kind_at names x.kind; init = x.init }) (ap (word_at names) p ∙ sym fn) (ap (word_at names) q ∙ sym on)
    ∙ ap₂ (λ (u : Option (LatchKind × Option ℕ)) (v : ℕ). record { feed = f.name; output = o.name; kind = kind_at names u; init = v }) k i

pub latches_more : (names : List (List ℕ)) (ls : List AigLatch) (ns ms : List ℕ) (os fs : List Named) (j : ℕ) (a : AigLatch) (found : List code.Latch) (x : code.Latch) (total : List Latch)
    → words_at names ns ≡ map name_of os → words_at names ms ≡ map name_of fs → j < length ns → j < length ms → drop j ls ≡ a ∷ drop (j + 1) ls
    → x.feed ≡ slice_index ms j → x.output ≡ slice_index ns j → x.kind ≡ None → x.init ≡ init_of a
    → map (latch_in names) found ++ latches_from (drop j ls) (drop j os) (drop j fs) ≡ total
    → map (latch_in names) (found ++ x ∷ []) ++ latches_from (drop (j + 1) ls) (drop (j + 1) os) (drop (j + 1) fs) ≡ total
latches_more names ls ns ms os fs j a found x total e h ln lm d feed out kind init so_far =
    let o = named_at (word_at names) ns os j e ln in
    let f = named_at (word_at names) ms fs j h lm in
    let rest : List Latch = latches_from (drop (j + 1) ls) (drop (j + 1) os) (drop (j + 1) fs) in
    let here : latches_from (drop j ls) (drop j os) (drop j fs) ≡ latch_in names x ∷ rest =
    ap (λ (l : List AigLatch). latches_from l (drop j os) (drop j fs)) d
    ∙ ap₂ (λ (l m : List Named). latches_from (a ∷ drop (j + 1) ls) l m) o.1 f.1
    ∙ ap (λ (y : Latch). y ∷ rest) (sym (latch_is names x (slice_index ms j) (slice_index ns j) a o.0 f.0 feed out kind init o.2 f.2)) in
    ap (λ (l : List Latch). l ++ rest) (map-append (latch_in names) found (x ∷ [])) ∙ append_assoc (map (latch_in names) found) (latch_in names x ∷ []) rest
    ∙ ap (λ (l : List Latch). map (latch_in names) found ++ l) (sym here) ∙ so_far

pub latches_end : (ls : List AigLatch) (os fs : List Named) (found total : List Latch) (j : ℕ) → length ls ≤ j → found ++ latches_from (drop j ls) (drop j os) (drop j fs) ≡ total → found ≡ total
latches_end ls os fs found total j l e =
    sym (append-nil found) ∙ ap (λ (x : List AigLatch). found ++ latches_from x (drop j os) (drop j fs)) (sym (drop_all j ls l)) ∙ e

-- names of sources are apart

pub names_given : (given : List Named) (w : List ℕ) → has_word (map name_of given) w ≡ is_given given w
names_given [] w = refl
names_given (n ∷ ns) w = ap (λ (b : Bool). bytes_eq n.name w || b) (names_given ns w)

sources_apart : (symbols : List Symbol) (p : Place) (i : ℕ) (ls : List ℕ) (given : List Named) → distinct (map name_of given) ≡ true → distinct (map name_of (given ++ sources_named symbols p i ls given)) ≡ true
sources_apart symbols p i [] given d = ap (λ (l : List Named). distinct (map name_of l)) (append-nil given) ∙ d
sources_apart symbols p i (l ∷ ls) given d =
    let first : List ℕ = first_name symbols p i in
    let n : Named = record { name = free_name given (is_given given) first; literal = l } in
    ap (λ (x : List Named). distinct (map name_of x)) (sym (append_assoc given (n ∷ []) (sources_named symbols p (suc i) ls (given ++ n ∷ []))))
    ∙ sources_apart symbols p (suc i) ls (given ++ n ∷ [])
    (ap distinct (map-append name_of given (n ∷ [])) ∙ distinct_push (map name_of given) n.name d (names_given given n.name ∙ free_is_free false l given first))

pub sources_distinct : (g : Aig) → distinct (map name_of (sources_of g)) ≡ true
sources_distinct g = sources_apart g.symbols OfLatch 0 (map latch_literal g.latches) (inputs_of g) (sources_apart g.symbols OfInput 0 g.inputs [] refl)

module _ (g : Aig) where
  pub many_inputs : length (inputs_of g) ≡ length g.inputs
  many_inputs = many_sources_named g.symbols OfInput 0 g.inputs []

  pub many_latches : length (latches_of g) ≡ length g.latches
  many_latches = many_sources_named g.symbols OfLatch 0 (map latch_literal g.latches) (inputs_of g) ∙ length-map g.latches latch_literal

  pub many_outputs : length (outputs_of g) ≡ length g.outputs
  many_outputs = many_outputs_named g.symbols 0 g.outputs (sources_of g)

  pub many_feeds : length (feeds_of g) ≡ length g.latches
  many_feeds = many_feeds_named (sources_of g) 0 g.latches (sources_of g ++ outputs_of g)

  held_from : (ls : List AigLatch) (os fs : List Named) → length os ≡ length ls → length fs ≡ length ls → map latch_output (latches_from ls os fs) ≡ map name_of os
  held_from [] [] fs e h = refl
  held_from [] (x ∷ os) fs e h = absurd (omega arith)
  held_from (l ∷ ls) [] fs e h = absurd (omega arith)
  held_from (l ∷ ls) (x ∷ os) [] e h = absurd (omega arith)
  held_from (l ∷ ls) (x ∷ os) (y ∷ fs) e h = ap (λ (ws : List (List ℕ)). x.name ∷ ws) (held_from ls os fs (omega arith) (omega arith))

  pub frame_sources : sources (frame_of g) ≡ map name_of (sources_of g)
  frame_sources = ap (λ (l : List (List ℕ)). map name_of (inputs_of g) ++ l) (held_from g.latches (latches_of g) (feeds_of g) many_latches many_feeds) ∙ sym (map-append name_of (inputs_of g) (latches_of g))

  pub source_literals_are : map literal_of (sources_of g) ≡ source_literals g
  source_literals_are =
      map-append literal_of (inputs_of g) (latches_of g)
      ∙ ap₂ (λ (a b : List ℕ). a ++ b) (source_literals_named g.symbols OfInput 0 g.inputs []) (source_literals_named g.symbols OfLatch 0 (map latch_literal g.latches) (inputs_of g))

  -- each name stands for a literal that is defined

  abbrev Stands : List Named → Type 0
  Stands ns = list_all (λ n. is_defined g n.literal) ns ≡ true

  stand_literals : (ns : List Named) → list_all (is_defined g) (map literal_of ns) ≡ true → Stands ns
  stand_literals [] h = refl
  stand_literals (n ∷ ns) h = let p = and_parts (is_defined g n.literal) (list_all (is_defined g) (map literal_of ns)) h in and_from (is_defined g n.literal) (list_all (λ n. is_defined g n.literal) ns) p.0 (stand_literals ns p.1)

  source_defined : (ls : List ℕ) → ((v : ℕ) → has_number (map variable_of ls) v ≡ true → has_number (source_variables g) v ≡ true) → list_all (is_defined g) ls ≡ true
  source_defined [] sub = refl
  source_defined (l ∷ ls) sub =
      and_from (is_defined g l) (list_all (is_defined g) ls)
      (or_right (nat_eq 0 (variable_of l)) (has_number (source_variables g ++ map and_variable g.ands) (variable_of l)) (has_left_number (source_variables g) (map and_variable g.ands) (variable_of l) (sub (variable_of l) (or_left (nat_eq (variable_of l) (variable_of l)) (has_number (map variable_of ls) (variable_of l)) (eq-eqb (variable_of l) (variable_of l) refl)))))
      (source_defined ls (λ v h. sub v (or_right (nat_eq (variable_of l) v) (has_number (map variable_of ls) v) h)))

  sources_stand : Stands (sources_of g)
  sources_stand = stand_literals (sources_of g) (ap (list_all (is_defined g)) source_literals_are ∙ source_defined (source_literals g) (λ v h. h))

  pub outputs_literals : (symbols : List Symbol) (i : ℕ) (ls : List ℕ) (given : List Named) → map literal_of (outputs_named symbols i ls given) ≡ ls
  outputs_literals symbols i [] given = refl
  outputs_literals symbols i (l ∷ ls) given = ap (λ (rest : List ℕ). l ∷ rest) (outputs_literals symbols (suc i) ls _)

  found_stands : (ns : List Named) (test : Named → Bool) (o : Option Named) (other : Named) → find test ns ≡ o → Stands ns → is_defined g other.literal ≡ true → is_defined g (source_or o other).literal ≡ true
  found_stands ns test None other e s h = h
  found_stands [] test (Some n) other e s h = absurd (cc)
  found_stands (x ∷ ns) test (Some n) other e s h =
      let p = and_parts (is_defined g x.literal) (list_all (λ n. is_defined g n.literal) ns) s in
      elim (cases_Bool (test x)) [
        | inl t ↦
            let q : Path (Option Named) (Some x) (Some n) = sym (cond-true (test x) (Some x) (find test ns) t) ∙ e in
            let same : x ≡ n = cc in
            subst (λ (m : Named). is_defined g m.literal ≡ true) same p.0
        | inr f ↦ found_stands ns test (Some n) other (sym (cond-false (test x) (Some x) (find test ns) f) ∙ e) p.1 h
      ]

  feeds_stand : (i : ℕ) (ls : List AigLatch) (given : List Named) → list_all (is_defined g) (map next_of ls) ≡ true → Stands (feeds_named (sources_of g) i ls given)
  feeds_stand i [] given h = refl
  feeds_stand i (l ∷ ls) given h =
      let p = and_parts (is_defined g l.next) (list_all (is_defined g) (map next_of ls)) h in
      and_from _ _ (found_stands (sources_of g) (λ n. n.literal == l.next) (find (λ n. n.literal == l.next) (sources_of g)) _ refl sources_stand p.0) (feeds_stand (suc i) ls _ p.1)

  pub all_stand : ReadsDefined g → Stands (named_of g)
  all_stand d =
      list_all-append (λ (n : Named). is_defined g n.literal) (sources_of g) (outputs_of g ++ feeds_of g)
      ∙ and_from (list_all (λ n. is_defined g n.literal) (sources_of g)) (list_all (λ n. is_defined g n.literal) (outputs_of g ++ feeds_of g)) sources_stand
      (list_all-append (λ (n : Named). is_defined g n.literal) (outputs_of g) (feeds_of g)
      ∙ and_from (list_all (λ n. is_defined g n.literal) (outputs_of g)) (list_all (λ n. is_defined g n.literal) (feeds_of g))
      (stand_literals (outputs_of g) (ap (list_all (is_defined g)) (outputs_literals g.symbols 0 g.outputs (sources_of g)) ∙ d.outputs))
      (feeds_stand 0 g.latches (sources_of g ++ outputs_of g) d.next))

-- the literal of a name by its number

pub literal_found : (names : List (List ℕ)) (literals : List ℕ) (i : ℕ) (w : List ℕ) → i < length names → word_at names i ≡ w → (given : List Named) → AllByRecursion (HasLiteral names literals) given → is_given given w ≡ true
    → slice_index literals i ≡ literal_in (find (λ n. bytes_eq n.name w) given)
literal_found names literals i w lt at [] h t = absurd (both_ways false refl t)
literal_found names literals i w lt at (n ∷ ns) h t = elim (cases_Bool (bytes_eq n.name w)) [
  | inl e ↦ h.0 i lt (at ∙ sym (same_word n.name w e)) ∙ sym (ap literal_in (cond-true (bytes_eq n.name w) (Some n) (find (λ n. bytes_eq n.name w) ns) e))
  | inr f ↦
      literal_found names literals i w lt at ns h.1 (elim (or_cases (bytes_eq n.name w) (is_given ns w) t) [ inl e ↦ absurd (both_ways (bytes_eq n.name w) f e) | inr r ↦ r ])
      ∙ sym (ap literal_in (cond-false (bytes_eq n.name w) (Some n) (find (λ n. bytes_eq n.name w) ns) f))
]

pub literal_stands : (g : Aig) (given : List Named) (w : List ℕ) → list_all (λ n. is_defined g n.literal) given ≡ true → is_given given w ≡ true → is_defined g (literal_in (find (λ n. bytes_eq n.name w) given)) ≡ true
literal_stands g [] w s t = absurd (both_ways false refl t)
literal_stands g (n ∷ ns) w s t =
    let p = and_parts (is_defined g n.literal) (list_all (λ n. is_defined g n.literal) ns) s in
    elim (cases_Bool (bytes_eq n.name w)) [
      | inl e ↦ ap (λ (o : Option Named). is_defined g (literal_in o)) (cond-true (bytes_eq n.name w) (Some n) (find (λ n. bytes_eq n.name w) ns) e) ∙ p.0
      | inr f ↦
          ap (λ (o : Option Named). is_defined g (literal_in o)) (cond-false (bytes_eq n.name w) (Some n) (find (λ n. bytes_eq n.name w) ns) f)
          ∙ literal_stands g ns w p.1 (elim (or_cases (bytes_eq n.name w) (is_given ns w) t) [ inl e ↦ absurd (both_ways (bytes_eq n.name w) f e) | inr r ↦ r ])
    ]

-- the literal of a source's name

place_literal : (ns more : List Named) (w : List ℕ) → has_word (map name_of ns) w ≡ true → literal_in (find (λ n. bytes_eq n.name w) (ns ++ more)) ≡ slice_index (map literal_of ns) (place w (map name_of ns))
place_literal [] more w h = absurd (both_ways false refl h)
place_literal (n ∷ ns) more w h = elim (cases_Bool (bytes_eq n.name w)) [
  | inl e ↦
      ap literal_in (cond-true (bytes_eq n.name w) (Some n) (find (λ n. bytes_eq n.name w) (ns ++ more)) e)
      ∙ sym (ap (slice_index (map literal_of (n ∷ ns))) (cond-true (bytes_eq n.name w) 0 (suc (place w (map name_of ns))) e))
  | inr f ↦
      ap literal_in (cond-false (bytes_eq n.name w) (Some n) (find (λ n. bytes_eq n.name w) (ns ++ more)) f)
      ∙ place_literal ns more w (elim (or_cases (bytes_eq n.name w) (has_word (map name_of ns) w) h) [ inl e ↦ absurd (both_ways (bytes_eq n.name w) f e) | inr r ↦ r ])
      ∙ sym (ap (slice_index (map literal_of (n ∷ ns))) (cond-false (bytes_eq n.name w) 0 (suc (place w (map name_of ns))) f))
]

plain_at : (ls : List ℕ) (i : ℕ) → list_all is_plain ls ≡ true → i < length ls → slice_index ls i % 2 ≡ 0
plain_at [] i h l = absurd (omega arith)
plain_at (x ∷ ls) zero h l = eqb-true (x % 2) 0 (and_parts (is_plain x) (list_all is_plain ls) h).0
plain_at (x ∷ ls) (suc i) h l = plain_at ls i (and_parts (is_plain x) (list_all is_plain ls) h).1 (omega arith)

-- A source's literal is that of its node.
pub source_lit_is : (g : Aig) → IsSound g → (w : List ℕ) → has_word (map name_of (sources_of g)) w ≡ true → lit_in g (literal_named g w) ≡ source_lit (place w (map name_of (sources_of g)))
source_lit_is g sound w h =
    let j : ℕ = place w (map name_of (sources_of g)) in
    let ls : List ℕ = source_literals g in
    let is : literal_named g w ≡ slice_index ls j = place_literal (sources_of g) (outputs_of g ++ feeds_of g) w h ∙ ap (λ (l : List ℕ). slice_index l j) (source_literals_are g) in
    let many : length (map name_of (sources_of g)) ≡ length ls = length-map (sources_of g) name_of ∙ sym (length-map (sources_of g) literal_of) ∙ ap length (source_literals_are g) in
    let low : j < length ls = let p = place_lt (map name_of (sources_of g)) w h in omega arith in
    let variable : get_or (defined_variables g) (suc j) 0 ≡ variable_of (slice_index ls j) = get_or_append_left (source_variables g) (map and_variable g.ands) 0 j (omega (arith, length-map ls variable_of)) ∙ get_or-map variable_of ls j 0 0 low in
    let node : node_in g (variable_of (slice_index ls j)) ≡ suc j = ap (node_in g) (sym variable) ∙ ap or_zero (place_at (defined_variables g) (suc j) sound.once (omega (arith, many_defined g))) in
    let plain = plain_at ls j sound.plain low in
    ap (lit_in g) is ∙ ap (λ (n : ℕ). record { 0 = n }) (let q : 2 * node_in g (variable_of (slice_index ls j)) + slice_index ls j % 2 ≡ 2 * (j + 1) = omega arith in q)

-- the literals of all names

pub are_literals : (g : Aig) (given : Given) → Keeps given (named_of g) → (names : List (List ℕ)) (literals : List ℕ) → names ≡ given.names → literals ≡ given.literals.items → AreLiterals g names literals
are_literals g given k names literals e f i l =
    let inside : i < length given.names = subst (λ (ns : List (List ℕ)). i < length ns) e l in
    ap (λ (ls : List ℕ). slice_index ls i) f
    ∙ literal_found given.names given.literals.items i (word_at given.names i) inside refl (named_of g) k.literals (sym (k.all (word_at given.names i)) ∙ has_at given.names i (word_at given.names i) inside refl)
    ∙ ap (λ (ns : List (List ℕ)). literal_named g (word_at ns i)) (sym e)

pub all_defined : (g : Aig) → ReadsDefined g → (given : Given) → Keeps given (named_of g) → (names : List (List ℕ)) → names ≡ given.names → AllDefined g names
all_defined g d given k names e i l =
    let inside : i < length given.names = subst (λ (ns : List (List ℕ)). i < length ns) e l in
    ap (λ (ns : List (List ℕ)). is_defined g (literal_named g (word_at ns i))) e
    ∙ literal_stands g (named_of g) (word_at given.names i) (all_stand g d) (sym (k.all (word_at given.names i)) ∙ has_at given.names i (word_at given.names i) inside refl)

-- the literals of the observed signals

pub observed_stand : (g : Aig) (names : List (List ℕ)) (numbers : List ℕ) → AllDefined g names → all_below (length names) numbers ≡ true → list_all (is_defined g) (map (literal_named g) (words_at names numbers)) ≡ true
observed_stand g names [] h b = refl
observed_stand g names (n ∷ ns) h b =
    let p = and_parts (nat_lt n (length names)) (all_below (length names) ns) b in
    and_from (is_defined g (literal_named g (word_at names n))) (list_all (is_defined g) (map (literal_named g) (words_at names ns))) (h n (ltb-true n (length names) p.0)) (observed_stand g names ns h p.1)

pub observed_lits_are : (g : Aig) (names : List (List ℕ)) (numbers : List ℕ) → map (λ i. lit_in g (literal_named g (word_at names i))) numbers ≡ map (lit_in g) (map (literal_named g) (words_at names numbers))
observed_lits_are g names [] = refl
observed_lits_are g names (n ∷ ns) = ap (λ (l : List Lit). lit_in g (literal_named g (word_at names n)) ∷ l) (observed_lits_are g names ns)
