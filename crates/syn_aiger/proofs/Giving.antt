-- Names that are given one after the other.
use Rattle.std.specs.List.{AllByRecursion}
use Rattle.std.proofs.Common.{◌≡◌, ℕ, zero, suc, ◌+◌, ◌<◌, ◌==◌, ◌&&◌, ◌||◌, not, nat_lt, nat_eq, Bool, true, false, if◌then◌else◌, List, [], ◌∷◌, ◌++◌, length, map, find, slice_index, slice_index_or, bytes_eq, Some, None, refl, sym, ap, ap₂, ◌∙◌, subst, inl, inr, append_assoc, arith, eq-eqb, ne_eqb, eqb-true, lt-ltb, ltb-true, length-append}
use Rattle.std.proofs.lemmas.Bool.{and_from, and_parts, or_left, or_right, or_parts, both_ways, cases_Bool, cases_lt, cond-true, cond-false, not-true}
use Rattle.std.proofs.lemmas.List.{get_or-append-add, get_or_append_left, map-append}
use Rattle.std.proofs.lemmas.List.Folds.{list_all-append, list_any-append}
use Rattle.syn_lists.specs.Numbers.{distinct_numbers, has_number}
use Rattle.syn_netlist.specs.Numbers.{all_below, with_word, word_at, words_at}
use Rattle.syn_netlist.specs.Words.{has_word}
use Rattle.syn_netlist.proofs.Sets.{same_word, word_same, has_word-append}
use Rattle.syn_aiger_files.specs.declared.files.AigLatch.{AigLatch}
use Rattle.syn_aiger_files.specs.declared.files.Place.{Place}
use Rattle.syn_aiger_files.specs.declared.files.Place.TheVariants.{Output as OfOutput}
use Rattle.syn_aiger_files.specs.declared.files.Symbol.{Symbol}
use Rattle.syn_aiger.specs.Keeping.{HasLiteral, Keeps, feed_next, named_next, places_named}
use Rattle.syn_aiger_files.specs.FirstNames.{first_name}
use Rattle.syn_aiger.specs.Naming.{Named, feeds_named, is_given, is_given_otherwise, name_of, outputs_named, sources_named}
use Rattle.syn_aiger.specs.declared.given.Given.{Given}
use Rattle.syn_aiger.proofs.Taking.{has_at, otherwise_is}

abbrev pub one : List ℕ → ℕ → Named
one name l = record { name = name; literal = l }

given_more : (given : List Named) (n : Named) (w : List ℕ) → is_given (given ++ n ∷ []) w ≡ (is_given given w || (bytes_eq n.name w || false))
given_more given n w = list_any-append (λ (m : Named). bytes_eq m.name w) given (n ∷ [])

pub all_more : {X : Type 0} (P : X → Type 0) (xs : List X) (x : X) → AllByRecursion P xs → P x → AllByRecursion P (xs ++ x ∷ [])
all_more P [] x h p = (p, tt)
all_more P (y ∷ xs) x h p = (h.0, all_more P xs x h.1 p)

-- the names and numbers of a state by its parts

-- The parts keep these given names.
pub record Parts (names : List (List ℕ)) (literals numbers : List ℕ) (given : List Named) : Type 0 where
  pub words : words_at names numbers ≡ map name_of given
  pub below : all_below (length names) numbers ≡ true
  pub all : (word : List ℕ) → has_word names word ≡ is_given given word
  pub literals_are : AllByRecursion (HasLiteral names literals) given
  pub count : length literals ≡ length names

pub keeps_parts : (s : Given) (given : List Named) → Keeps s given → Parts s.names s.literals.items s.numbers.items given
keeps_parts s given k = record { words = k.words; below = k.below; all = k.all; literals_are = k.literals; count = k.count }

pub parts_keep : (s : Given) (given : List Named) → Parts s.names s.literals.items s.numbers.items given → Keeps s given
parts_keep s given k = record { words = k.words; below = k.below; all = k.all; literals = k.literals_are; count = k.count }

pub keeps_none : (s : Given) → s.names ≡ [] → s.literals.items ≡ [] → s.numbers.items ≡ [] → Keeps s []
keeps_none s e f h = parts_keep s [] (subst (λ (ns : List (List ℕ)). Parts ns s.literals.items s.numbers.items []) (sym e) (subst (λ (ls : List ℕ). Parts [] ls s.numbers.items []) (sym f) (subst (λ (ms : List ℕ). Parts [] [] ms []) (sym h)
    (record { words = refl; below = refl; all = λ w. refl; literals_are = tt; count = refl }))))

module _ (names : List (List ℕ)) (literals numbers : List ℕ) (given : List Named) (k : Parts names literals numbers given) (n : Named) (i : ℕ) where
  words_more : (more : List (List ℕ)) → words_at more numbers ≡ words_at names numbers → word_at more i ≡ n.name → words_at more (numbers ++ i ∷ []) ≡ map name_of (given ++ n ∷ [])
  words_more more same at =
      map-append (word_at more) numbers (i ∷ [])
      ∙ ap₂ (λ (a : List (List ℕ)) (b : List ℕ). a ++ b ∷ []) (same ∙ k.words) at
      ∙ sym (map-append name_of given (n ∷ []))

  -- the name is there
  pub again : i < length names → word_at names i ≡ n.name → HasLiteral names literals n → Parts names literals (numbers ++ i ∷ []) (given ++ n ∷ [])
  again lt at has = record {
    words = words_more names refl at;
    below = list_all-append (λ (m : ℕ). nat_lt m (length names)) numbers (i ∷ []) ∙ and_from (all_below (length names) numbers) (nat_lt i (length names) && true) k.below (and_from (nat_lt i (length names)) true (lt-ltb i (length names) lt) refl);
    all = λ w. k.all w ∙ sym (given_more given n w ∙ absorbed w);
    literals_are = all_more (HasLiteral names literals) given n k.literals_are has;
    count = k.count;
  }
    where
      absorb : (a b : Bool) → (b ≡ true → a ≡ true) → (a || (b || false)) ≡ a
      absorb true b h = refl
      absorb false true h = absurd (both_ways false refl (h refl))
      absorb false false h = refl

      absorbed : (w : List ℕ) → (is_given given w || (bytes_eq n.name w || false)) ≡ is_given given w
      absorbed w = absorb (is_given given w) (bytes_eq n.name w) (λ e. sym (k.all w) ∙ has_at names i w lt (at ∙ same_word n.name w e))

  -- the name is new
  module _ (new : has_word names n.name ≡ false) where
    abbrev more : List (List ℕ)
    more = names ++ n.name ∷ []

    abbrev pub more_literals : List ℕ
    more_literals = literals ++ n.literal ∷ []

    long : length more ≡ length names + 1
    long = length-append names (n.name ∷ [])

    word_left : (j : ℕ) → j < length names → word_at more j ≡ word_at names j
    word_left j l = get_or_append_left names (n.name ∷ []) [] j l

    words_left : (ns : List ℕ) → all_below (length names) ns ≡ true → words_at more ns ≡ words_at names ns
    words_left [] h = refl
    words_left (m ∷ ns) h =
        let p = and_parts (nat_lt m (length names)) (all_below (length names) ns) h in
        ap₂ (λ (a : List ℕ) (b : List (List ℕ)). a ∷ b) (word_left m (ltb-true m (length names) p.0)) (words_left ns p.1)

    below_more : (ns : List ℕ) → all_below (length names) ns ≡ true → all_below (length more) ns ≡ true
    below_more [] h = refl
    below_more (m ∷ ns) h =
        let p = and_parts (nat_lt m (length names)) (all_below (length names) ns) h in
        let l = ltb-true m (length names) p.0 in
        and_from (nat_lt m (length more)) (all_below (length more) ns) (lt-ltb m (length more) (omega (arith, long))) (below_more ns p.1)

    last_word : (j : ℕ) → j ≡ length names → word_at more j ≡ n.name
    last_word j e = ap (word_at more) (let q : j ≡ length names + 0 = omega arith in q) ∙ get_or-append-add names (n.name ∷ []) 0 []

    last_literal : (j : ℕ) → j ≡ length names → slice_index more_literals j ≡ n.literal
    last_literal j e = ap (slice_index more_literals) (let q : j ≡ length literals + 0 = omega (arith, k.count) in q) ∙ get_or-append-add literals (n.literal ∷ []) 0 0

    literal_left : (m : Named) → has_word names m.name ≡ true → HasLiteral names literals m → HasLiteral more more_literals m
    literal_left m there has j l at = elim (cases_lt j (length names)) [
      | inl lt ↦ get_or_append_left literals (n.literal ∷ []) 0 j (omega (arith, k.count)) ∙ has j lt (sym (word_left j lt) ∙ at)
      | inr ge ↦
          let e : j ≡ length names = omega (arith, l, long) in
          absurd (both_ways (has_word names n.name) new (ap (has_word names) (sym (last_word j e) ∙ at) ∙ there))
    ]

    literals_left : (ns : List Named) → ((w : List ℕ) → is_given ns w ≡ true → has_word names w ≡ true) → AllByRecursion (HasLiteral names literals) ns → AllByRecursion (HasLiteral more more_literals) ns
    literals_left [] sub h = tt
    literals_left (m ∷ ns) sub h =
        (literal_left m (sub m.name (or_left (bytes_eq m.name m.name) (is_given ns m.name) (word_same m.name))) h.0, literals_left ns (λ w t. sub w (or_right (bytes_eq m.name w) (is_given ns w) t)) h.1)

    literal_new : HasLiteral more more_literals n
    literal_new j l at = elim (cases_lt j (length names)) [
      | inl lt ↦ absurd (both_ways (has_word names n.name) new (has_at names j n.name lt (sym (word_left j lt) ∙ at)))
      | inr ge ↦ last_literal j (omega (arith, l, long))
    ]

    pub added : i < length more → word_at more i ≡ n.name → Parts more more_literals (numbers ++ i ∷ []) (given ++ n ∷ [])
    added lt at = record {
      words = words_more more (words_left numbers k.below) at;
      below = list_all-append (λ (m : ℕ). nat_lt m (length more)) numbers (i ∷ []) ∙ and_from (all_below (length more) numbers) (nat_lt i (length more) && true) (below_more numbers k.below) (and_from (nat_lt i (length more)) true (lt-ltb i (length more) lt) refl);
      all = λ w. has_word-append names (n.name ∷ []) w ∙ ap (λ (b : Bool). b || (bytes_eq n.name w || false)) (k.all w) ∙ sym (given_more given n w);
      literals_are = all_more (HasLiteral more more_literals) given n (literals_left given (λ w t. k.all w ∙ t) k.literals_are) literal_new;
      count = omega (arith, k.count, long, length-append literals (n.literal ∷ []));
    }

-- What a name gives, as the code has it.
pub gives : (old new : Given) (given : List Named) (name : List ℕ) (l i : ℕ) → Keeps old given → is_given_otherwise l given name ≡ false
    → i < length new.names → word_at new.names i ≡ name → new.names ≡ with_word old.names name → new.literals.items ≡ (if has_word old.names name then old.literals.items else old.literals.items ++ l ∷ []) → new.numbers.items ≡ old.numbers.items ++ i ∷ []
    → Keeps new (given ++ one name l ∷ [])
gives old new given name l i k free lt at names literals numbers = parts_keep new (given ++ one name l ∷ []) (elim (cases_Bool (has_word old.names name)) [
  | inl t ↦
      let same : new.names ≡ old.names = names ∙ cond-true (has_word old.names name) old.names (old.names ++ name ∷ []) t in
      let ls : new.literals.items ≡ old.literals.items = literals ∙ cond-true (has_word old.names name) old.literals.items (old.literals.items ++ l ∷ []) t in
      let here : i < length old.names = subst (λ (ns : List (List ℕ)). i < length ns) same lt in
      let there : word_at old.names i ≡ name = subst (λ (ns : List (List ℕ)). word_at ns i ≡ name) same at in
      all_three old.names old.literals.items (sym same) (sym ls) (again old.names old.literals.items old.numbers.items given (keeps_parts old given k) (one name l) i here there (has_literal t))
  | inr f ↦
      let same : new.names ≡ old.names ++ name ∷ [] = names ∙ cond-false (has_word old.names name) old.names (old.names ++ name ∷ []) f in
      let ls : new.literals.items ≡ old.literals.items ++ l ∷ [] = literals ∙ cond-false (has_word old.names name) old.literals.items (old.literals.items ++ l ∷ []) f in
      let here : i < length (old.names ++ name ∷ []) = subst (λ (ns : List (List ℕ)). i < length ns) same lt in
      let there : word_at (old.names ++ name ∷ []) i ≡ name = subst (λ (ns : List (List ℕ)). word_at ns i ≡ name) same at in
      all_three (old.names ++ name ∷ []) (old.literals.items ++ l ∷ []) (sym same) (sym ls) (added old.names old.literals.items old.numbers.items given (keeps_parts old given k) (one name l) i f here there)
])
  where
    all_three : (ns : List (List ℕ)) (ls : List ℕ) → ns ≡ new.names → ls ≡ new.literals.items → Parts ns ls (old.numbers.items ++ i ∷ []) (given ++ one name l ∷ []) → Parts new.names new.literals.items new.numbers.items (given ++ one name l ∷ [])
    all_three ns ls e f p =
        subst (λ (ms : List ℕ). Parts new.names new.literals.items ms (given ++ one name l ∷ [])) (sym numbers)
        (subst (λ (xs : List ℕ). Parts new.names xs (old.numbers.items ++ i ∷ []) (given ++ one name l ∷ [])) f
        (subst (λ (xs : List (List ℕ)). Parts xs ls (old.numbers.items ++ i ∷ []) (given ++ one name l ∷ [])) e p))

    equal : (b : Bool) → (true && not b) ≡ false → b ≡ true
    equal true e = refl
    equal false e = absurd (cc)

    has_literal : has_word old.names name ≡ true → HasLiteral old.names old.literals.items (one name l)
    has_literal t j l2 at2 =
        let o = otherwise_is old.names old.literals.items l j name l2 at2 given k.literals in
        let there : is_given given name ≡ true = sym (k.all name) ∙ t in
        eqb-true (slice_index old.literals.items j) l (equal (slice_index old.literals.items j == l) (ap (λ (b : Bool). b && not (slice_index old.literals.items j == l)) (sym there) ∙ sym o ∙ free))

-- a name that is given again
pub given_again : (old new : Given) (given : List Named) (n : Named) (s i : ℕ) → Keeps old given → s < length given → slice_index_or given s n ≡ n → s < length old.numbers.items → i ≡ slice_index old.numbers.items s
    → new.names ≡ old.names → new.literals.items ≡ old.literals.items → new.numbers.items ≡ old.numbers.items ++ i ∷ [] → Keeps new (given ++ n ∷ [])
given_again old new given n s i k lt at inside is names literals numbers =
    parts_keep new (given ++ n ∷ [])
    (subst (λ (ms : List ℕ). Parts new.names new.literals.items ms (given ++ n ∷ [])) (sym numbers)
    (subst (λ (xs : List ℕ). Parts new.names xs (old.numbers.items ++ i ∷ []) (given ++ n ∷ [])) (sym literals)
    (subst (λ (xs : List (List ℕ)). Parts xs old.literals.items (old.numbers.items ++ i ∷ []) (given ++ n ∷ [])) (sym names)
    (again old.names old.literals.items old.numbers.items given (keeps_parts old given k) n i (subst (λ (x : ℕ). x < length old.names) (sym is) (below_at old.numbers.items s k.below inside)) (ap (word_at old.names) is ∙ word_there old.numbers.items given s n k.words lt at) (nth_all given s n lt at k.literals)))))
  where
    below_at : (ns : List ℕ) (j : ℕ) → all_below (length old.names) ns ≡ true → j < length ns → slice_index ns j < length old.names
    below_at [] j h l = absurd (omega arith)
    below_at (m ∷ ns) zero h l = ltb-true m (length old.names) (and_parts (nat_lt m (length old.names)) (all_below (length old.names) ns) h).0
    below_at (m ∷ ns) (suc j) h l = below_at ns j (and_parts (nat_lt m (length old.names)) (all_below (length old.names) ns) h).1 (omega arith)

    word_there : (ns : List ℕ) (ms : List Named) (j : ℕ) (m : Named) → words_at old.names ns ≡ map name_of ms → j < length ms → slice_index_or ms j m ≡ m → word_at old.names (slice_index ns j) ≡ m.name
    word_there ns [] j m e l at = absurd (omega arith)
    word_there [] (x ∷ ms) j m e l at = absurd (cc)
    word_there (a ∷ ns) (x ∷ ms) zero m e l at = (let q : word_at old.names a ≡ x.name = cc in q) ∙ ap name_of at
    word_there (a ∷ ns) (x ∷ ms) (suc j) m e l at = word_there ns ms j m (let q : words_at old.names ns ≡ map name_of ms = cc in q) (omega arith) at

    nth_all : (ns : List Named) (j : ℕ) (m : Named) → j < length ns → slice_index_or ns j m ≡ m → AllByRecursion (HasLiteral old.names old.literals.items) ns → HasLiteral old.names old.literals.items m
    nth_all [] j m l e h = absurd (omega arith)
    nth_all (x ∷ ns) zero m l e h = subst (HasLiteral old.names old.literals.items) e h.0
    nth_all (x ∷ ns) (suc j) m l e h = nth_all ns j m (omega arith) e h.1

-- the names of places, one after the other

pub places_next : (keeps : Bool) (symbols : List Symbol) (place : Place) (i l : ℕ) (ls : List ℕ) (mid total : List Named) → mid ++ places_named keeps symbols place i (l ∷ ls) mid ≡ total
    → (mid ++ named_next keeps l mid (first_name symbols place i) ∷ []) ++ places_named keeps symbols place (suc i) ls (mid ++ named_next keeps l mid (first_name symbols place i) ∷ []) ≡ total
places_next keeps symbols place i l ls mid total e = append_assoc mid (named_next keeps l mid (first_name symbols place i) ∷ []) (places_named keeps symbols place (suc i) ls (mid ++ named_next keeps l mid (first_name symbols place i) ∷ [])) ∙ e

pub feeds_next : (sources : List Named) (i : ℕ) (a : AigLatch) (ls : List AigLatch) (mid total : List Named) → mid ++ feeds_named sources i (a ∷ ls) mid ≡ total
    → (mid ++ feed_next sources i a.next mid ∷ []) ++ feeds_named sources (suc i) ls (mid ++ feed_next sources i a.next mid ∷ []) ≡ total
feeds_next sources i a ls mid total e = append_assoc mid (feed_next sources i a.next mid ∷ []) (feeds_named sources (suc i) ls (mid ++ feed_next sources i a.next mid ∷ [])) ∙ e

pub sources_are : (symbols : List Symbol) (place : Place) (i : ℕ) (ls : List ℕ) (given : List Named) → places_named false symbols place i ls given ≡ sources_named symbols place i ls given
sources_are symbols place i [] given = refl
sources_are symbols place i (l ∷ ls) given = ap (λ (rest : List Named). named_next false l given (first_name symbols place i) ∷ rest) (sources_are symbols place (suc i) ls (given ++ named_next false l given (first_name symbols place i) ∷ []))

pub outputs_are : (symbols : List Symbol) (i : ℕ) (ls : List ℕ) (given : List Named) → places_named true symbols OfOutput i ls given ≡ outputs_named symbols i ls given
outputs_are symbols i [] given = refl
outputs_are symbols i (l ∷ ls) given = ap (λ (rest : List Named). named_next true l given (first_name symbols OfOutput i) ∷ rest) (outputs_are symbols (suc i) ls (given ++ named_next true l given (first_name symbols OfOutput i) ∷ []))

-- the source of a literal

abbrev pub literal_of : Named → ℕ
literal_of n = n.literal

pub source_literals_named : (symbols : List Symbol) (place : Place) (i : ℕ) (ls : List ℕ) (given : List Named) → map literal_of (sources_named symbols place i ls given) ≡ ls
source_literals_named symbols place i [] given = refl
source_literals_named symbols place i (l ∷ ls) given = ap (λ (rest : List ℕ). l ∷ rest) (source_literals_named symbols place (suc i) ls _)

pub no_source : (ns : List Named) (l : ℕ) → has_number (map literal_of ns) l ≡ false → find (λ n. n.literal == l) ns ≡ None
no_source [] l h = refl
no_source (n ∷ ns) l h =
    let p = or_parts (nat_eq n.literal l) (has_number (map literal_of ns) l) h in
    cond-false (n.literal == l) (Some n) (find (λ n. n.literal == l) ns) p.0 ∙ no_source ns l p.1

-- The first source with a literal, where that stands at a place.
pub the_source : (ns : List Named) (l s : ℕ) → distinct_numbers (map literal_of ns) ≡ true → s < length (map literal_of ns) → slice_index (map literal_of ns) s ≡ l → (n : Named) × (find (λ n. n.literal == l) ns ≡ Some n) × (slice_index_or ns s n ≡ n)
the_source [] l s d lt e = absurd (omega arith)
the_source (n ∷ ns) l zero d lt e = (n, cond-true (n.literal == l) (Some n) (find (λ n. n.literal == l) ns) (eq-eqb n.literal l e), refl)
the_source (n ∷ ns) l (suc s) d lt e =
    let p = and_parts (not (has_number (map literal_of ns) n.literal)) (distinct_numbers (map literal_of ns)) d in
    let r = the_source ns l s p.1 (omega arith) e in
    (r.0, cond-false (n.literal == l) (Some n) (find (λ n. n.literal == l) ns) (ne_eqb n.literal l (λ q. both_ways (has_number (map literal_of ns) n.literal) (not-true (has_number (map literal_of ns) n.literal) p.0) (subst (λ (x : ℕ). has_number (map literal_of ns) x ≡ true) (sym q) (number_there (map literal_of ns) s l (omega arith) e)))) ∙ r.1, r.2)
  where
    number_there : (ms : List ℕ) (j x : ℕ) → j < length ms → slice_index ms j ≡ x → has_number ms x ≡ true
    number_there [] j x l e = absurd (omega arith)
    number_there (m ∷ ms) zero x l e = or_left (nat_eq m x) (has_number ms x) (eq-eqb m x e)
    number_there (m ∷ ms) (suc j) x l e = or_right (nat_eq m x) (has_number ms x) (number_there ms j x (omega arith) e)
