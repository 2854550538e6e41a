-- The flattening of models without a fault defines no name twice: what an instance defines is called as an actual of an output, which its model defines nowhere else, or by an inner name.
use Rattle.std.proofs.Common.{◌≡◌, ℕ, suc, ◌+◌, ◌<◌, ◌≤◌, ◌&&◌, ◌||◌, not, Bool, true, false, if◌then◌else◌, List, [], ◌∷◌, ◌++◌, map, filter, flat_map, bytes_eq, refl, sym, ap, ◌∙◌, subst, inl, inr, ◌⊎◌, All, Option, Some, None, option_map, arith}
use Rattle.std.specs.List.{list_any, list_all, AllByRecursion}
use Rattle.std.specs.Option.{option_or}
use Rattle.std.proofs.lemmas.Bool.{cases_lt, and_parts, and_from, or_cases, or_parts, or_from, or_left, or_right, cases_Bool, both_ways, cond-true, cond-false, not_from_false, not_from_true, false_from_ne_true}
use Rattle.std.proofs.lemmas.List.{map-append}
use Rattle.std.proofs.lemmas.List.Elements.{recursion_from_All}
use Rattle.syn_netlist.specs.Words.{has_word, without}
use Rattle.syn_netlist.specs.Lists.{Latch, Table, latch_output, output_of, sources}
use Rattle.syn_netlist.specs.Order.{DefinedOnce}
use Rattle.syn_netlist.proofs.Finding.{bytes_eq-sym}
use Rattle.syn_netlist.proofs.Sets.{same_word, word_same, has_word-append, all_at}
use Rattle.syn_models.specs.Models.{Bind, StatementKind, Inputs, Outputs, Clock, OneLatch, OneTable, OneSubcircuit, Statement, Model, Models, all_of, model_named, inputs_in, clocks_in, latches_in, tables_in, inputs_of, clocks_of, latches_of, tables_of, is_reading, actual_of, actual_in, is_bound, names_in, is_closed, alone}
use Rattle.syn_models.specs.Opening.{Opened, End, Plain, Instance, Opens, is_subcircuit, instances}
use Rattle.syn_models.specs.Flattening.{inner_name, outer_or, called_inside, as_it_is, flat, latches_called, tables_called, taken, clashes, AreSlashes}
use Rattle.syn_models.specs.declared.flat_fault.FlatFault.{FlatFault}
use Rattle.syn_models.specs.declared.flat_fault.FlatFault.TheVariants.{UnknownModel, UnknownPort, PortMissing, DefinedTwice, Undriven}
use Rattle.syn_models.specs.FlatFaults.{Site, unknown_model, unknown_port, port_missing, defined_twice, where_holds, where_named, checks, first_found, statement_fault, first_of_statements, first_of_models, first_fault_of_models, first_undriven, defines_of, defined_plainly, defined_inside, first_again}
use Rattle.syn_models.specs.Laws.{FlatteningDefinesOnce}
use Rattle.syn_models.proofs.Existing.{Among, named_among}
use Rattle.syn_models.specs.ReadBack.{number_in, name_in}
use Rattle.syn_models.proofs.InnerNames.{number_back, name_back}
use Rattle.syn_models.proofs.Lists.{none_at, none_bound}
use Rattle.syn_models.proofs.Occurrences.{bit, occ, bit-le, bit-on, bit-off, occ-append, occ_none, occ_some, occ_once, once_occ}

-- what a statement defines by a latch or a table
abbrev pub makes_plainly : StatementKind → List (List ℕ)
makes_plainly (OneLatch latch) = latch.output ∷ []
makes_plainly (OneTable table) = table.output ∷ []
makes_plainly kind = []

-- what opened statements define that are no lists, by latches, tables and outputs of subcircuits
abbrev pub makes : Opened → List (List ℕ)
makes End = []
makes (Plain kind rest) = makes_plainly kind ++ makes rest
makes (Instance c m inside rest) = defines_of c.binds (Some m) ++ makes rest

-- how often the flattening defines a word
abbrev pub made : List ℕ → (ℕ → List ℕ → List ℕ) → ℕ → (List ℕ → List ℕ) → Opened → ℕ
made w inner next called End = 0
made w inner next called (Plain kind rest) = occ w (map called (makes_plainly kind)) + made w inner next called rest
made w inner next called (Instance c m inside rest) = made w inner (suc next) (called_inside called (inner next) c.binds) inside + made w inner (suc (next + instances inside)) called rest

-- whether the word is an inner name of an instance's signal
abbrev is_inner : List ℕ → (List ℕ → List ℕ) → List Bind → List ℕ → Bool
is_inner w inner binds name = not (is_bound binds name) && bytes_eq (inner name) w

abbrev fresh : List ℕ → (ℕ → List ℕ → List ℕ) → ℕ → Opened → ℕ
fresh w inner next End = 0
fresh w inner next (Plain kind rest) = fresh w inner next rest
fresh w inner next (Instance c m inside rest) = bit (list_any (is_inner w (inner next) c.binds) m.names) + (fresh w inner (suc next) inside + fresh w inner (suc (next + instances inside)) rest)

-- the two lists of the flattening, counted

latch_outputs : (w : List ℕ) (called : List ℕ → List ℕ) (kind : StatementKind) → occ w (map latch_output (latches_called called kind)) + occ w (map output_of (tables_called called kind)) ≡ occ w (map called (makes_plainly kind))
latch_outputs w called (OneLatch l) = omega arith
latch_outputs w called (OneTable t) = omega arith
latch_outputs w called (Inputs ws) = refl
latch_outputs w called (Outputs ws) = refl
latch_outputs w called (Clock ws) = refl
latch_outputs w called (OneSubcircuit c) = refl

occ-latches : (w : List ℕ) (xs ys : List Latch) → occ w (map latch_output (xs ++ ys)) ≡ occ w (map latch_output xs) + occ w (map latch_output ys)
occ-latches w xs ys = ap (occ w) (map-append latch_output xs ys) ∙ occ-append w (map latch_output xs) (map latch_output ys)

occ-tables : (w : List ℕ) (xs ys : List Table) → occ w (map output_of (xs ++ ys)) ≡ occ w (map output_of xs) + occ w (map output_of ys)
occ-tables w xs ys = ap (occ w) (map-append output_of xs ys) ∙ occ-append w (map output_of xs) (map output_of ys)

pub made_is : (w : List ℕ) (inner : ℕ → List ℕ → List ℕ) (next : ℕ) (called : List ℕ → List ℕ) (tree : Opened)
    → occ w (map latch_output (flat latches_called inner next called tree)) + occ w (map output_of (flat tables_called inner next called tree)) ≡ made w inner next called tree
made_is w inner next called End = refl
made_is w inner next called (Plain kind rest) =
    omega (
      arith,
      occ-latches w (latches_called called kind) (flat latches_called inner next called rest),
      occ-tables w (tables_called called kind) (flat tables_called inner next called rest),
      latch_outputs w called kind,
      made_is w inner next called rest,
    )
made_is w inner next called (Instance c m inside rest) =
    let own : List ℕ → List ℕ = called_inside called (inner next) c.binds in
    omega (
      arith,
      occ-latches w (flat latches_called inner (suc next) own inside) (flat latches_called inner (suc (next + instances inside)) called rest),
      occ-tables w (flat tables_called inner (suc next) own inside) (flat tables_called inner (suc (next + instances inside)) called rest),
      made_is w inner (suc next) own inside,
      made_is w inner (suc (next + instances inside)) called rest,
    )

-- what an instance's names are called, counted

abbrev hit : List ℕ → (List ℕ → List ℕ) → Option (List ℕ) → ℕ
hit w called None = 0
hit w called (Some actual) = bit (bytes_eq (called actual) w)

-- how many of the names are bound to an actual that is called so, and how many have it as inner name
abbrev hits : List ℕ → (List ℕ → List ℕ) → List Bind → List (List ℕ) → ℕ
hits w called binds [] = 0
hits w called binds (y ∷ ys) = hit w called (actual_of binds y) + hits w called binds ys

abbrev frees : List ℕ → (List ℕ → List ℕ) → List Bind → List (List ℕ) → ℕ
frees w inner binds [] = 0
frees w inner binds (y ∷ ys) = bit (is_inner w inner binds y) + frees w inner binds ys

one_called : (w : List ℕ) (called inner : List ℕ → List ℕ) (binds : List Bind) (y : List ℕ) (o : Option (List ℕ)) → actual_of binds y ≡ o
    → bit (bytes_eq (outer_or called (inner y) o) w) ≤ hit w called o + bit (is_inner w inner binds y)
one_called w called inner binds y (Some a) e = omega arith
one_called w called inner binds y None e =
    let same : is_inner w inner binds y ≡ bytes_eq (inner y) w = ap (λ b. not b && bytes_eq (inner y) w) (none_bound binds y e) in
    omega (arith, ap bit same)

called_split : (w : List ℕ) (called inner : List ℕ → List ℕ) (binds : List Bind) (ys : List (List ℕ)) → occ w (map (called_inside called inner binds) ys) ≤ hits w called binds ys + frees w inner binds ys
called_split w called inner binds [] = omega arith
called_split w called inner binds (y ∷ ys) = omega (arith, one_called w called inner binds y (actual_of binds y) refl, called_split w called inner binds ys)

-- one more bind adds a hit at its formal alone

one_more : (w : List ℕ) (called : List ℕ → List ℕ) (b : Bind) (bs : List Bind) (y : List ℕ) (t : Bool) → bytes_eq b.formal y ≡ t
    → hit w called (if t then Some b.actual else actual_of bs y) ≤ (bit (bytes_eq (called b.actual) w && t)) + hit w called (actual_of bs y)
one_more w called b bs y true e = omega (arith, ap bit (and_true (bytes_eq (called b.actual) w)))
  where
    and_true : (a : Bool) → (a && true) ≡ a
    and_true true = refl
    and_true false = refl
one_more w called b bs y false e = omega arith

hits_hit : (w : List ℕ) (called : List ℕ → List ℕ) (b : Bind) (bs : List Bind) (ys : List (List ℕ)) → bytes_eq (called b.actual) w ≡ true → hits w called (b ∷ bs) ys ≤ occ b.formal ys + hits w called bs ys
hits_hit w called b bs [] h = omega arith
hits_hit w called b bs (y ∷ ys) h =
    let here = one_more w called b bs y (bytes_eq b.formal y) refl in
    let same : bit (bytes_eq (called b.actual) w && bytes_eq b.formal y) ≡ bit (bytes_eq b.formal y) = ap (λ a. bit (a && bytes_eq b.formal y)) h in
    let turned : bit (bytes_eq b.formal y) ≡ bit (bytes_eq y b.formal) = ap bit (bytes_eq-sym b.formal y) in
    omega (arith, here, same, turned, hits_hit w called b bs ys h)

hits_missed : (w : List ℕ) (called : List ℕ → List ℕ) (b : Bind) (bs : List Bind) (ys : List (List ℕ)) → bytes_eq (called b.actual) w ≡ false → hits w called (b ∷ bs) ys ≤ hits w called bs ys
hits_missed w called b bs [] h = omega arith
hits_missed w called b bs (y ∷ ys) h =
    let here = one_more w called b bs y (bytes_eq b.formal y) refl in
    let same : bit (bytes_eq (called b.actual) w && bytes_eq b.formal y) ≡ 0 = ap (λ a. bit (a && bytes_eq b.formal y)) h in
    omega (arith, here, same, hits_missed w called b bs ys h)

-- where no name stands twice, and none that reads its actual, hits are no more than the actuals of outputs
hits_few : (w : List ℕ) (called : List ℕ → List ℕ) (m : Model) (binds : List Bind) (ys : List (List ℕ)) → ((y : List ℕ) → occ y ys ≤ 1) → ((y : List ℕ) → is_reading m y ≡ true → occ y ys ≡ 0)
    → hits w called binds ys ≤ occ w (map called (defines_of binds (Some m)))
hits_few w called m [] ys once apart = none ys
  where
    none : (ys : List (List ℕ)) → hits w called [] ys ≤ 0
    none [] = omega arith
    none (y ∷ ys) = omega (arith, none ys)
hits_few w called m (b ∷ bs) ys once apart =
    let ih = hits_few w called m bs ys once apart in
    let below : List (List ℕ) = map called (map actual_in (filter (λ (b : Bind). not (is_reading m b.formal)) bs)) in
    elim (cases_Bool (is_reading m b.formal)) [
      | inl r ↦ (
          let same : defines_of (b ∷ bs) (Some m) ≡ defines_of bs (Some m) = ap (map actual_in) (cond-false (not (is_reading m b.formal)) (b ∷ filter (λ (b : Bind). not (is_reading m b.formal)) bs) (filter (λ (b : Bind). not (is_reading m b.formal)) bs) (not_from_true (is_reading m b.formal) r)) in
          let counted : occ w (map called (defines_of (b ∷ bs) (Some m))) ≡ occ w (map called (defines_of bs (Some m))) = ap (λ (l : List (List ℕ)). occ w (map called l)) same in
          elim (cases_Bool (bytes_eq (called b.actual) w)) [
            | inl t ↦ omega (arith, ih, counted, hits_hit w called b bs ys t, apart b.formal r)
            | inr t ↦ omega (arith, ih, counted, hits_missed w called b bs ys t)
          ])
      | inr r ↦ (
          let same : defines_of (b ∷ bs) (Some m) ≡ b.actual ∷ defines_of bs (Some m) = ap (map actual_in) (cond-true (not (is_reading m b.formal)) (b ∷ filter (λ (b : Bind). not (is_reading m b.formal)) bs) (filter (λ (b : Bind). not (is_reading m b.formal)) bs) (not_from_false (is_reading m b.formal) r)) in
          let counted : occ w (map called (defines_of (b ∷ bs) (Some m))) ≡ bit (bytes_eq (called b.actual) w) + occ w (map called (defines_of bs (Some m))) = ap (λ (l : List (List ℕ)). occ w (map called l)) same in
          elim (cases_Bool (bytes_eq (called b.actual) w)) [
            | inl t ↦ omega (arith, ih, counted, ap bit t, hits_hit w called b bs ys t, once b.formal)
            | inr t ↦ omega (arith, ih, counted, hits_missed w called b bs ys t)
          ])
    ]

-- inner names are different for different names
frees_few : (w : List ℕ) (inner : List ℕ → List ℕ) (binds : List Bind) (x : List ℕ) (ys : List (List ℕ)) → ((y : List ℕ) → inner y ≡ w → y ≡ x) → frees w inner binds ys ≤ occ x ys
frees_few w inner binds x [] back = omega arith
frees_few w inner binds x (y ∷ ys) back =
    let ih = frees_few w inner binds x ys back in
    elim (cases_Bool (is_inner w inner binds y)) [
      | inl t ↦ (
          let e : y ≡ x = back y (same_word (inner y) w (and_parts (not (is_bound binds y)) (bytes_eq (inner y) w) t).1) in
          let s : bytes_eq y x ≡ true = subst (λ (k : List ℕ). bytes_eq y k ≡ true) e (word_same y) in
          omega (arith, ih, bit-le (is_inner w inner binds y), ap bit s))
      | inr f ↦ omega (arith, ih, ap bit f)
    ]

frees_none : (w : List ℕ) (inner : List ℕ → List ℕ) (binds : List Bind) (names ys : List (List ℕ)) → list_all (has_word names) ys ≡ true → list_any (is_inner w inner binds) names ≡ false → frees w inner binds ys ≡ 0
frees_none w inner binds names [] a n = refl
frees_none w inner binds names (y ∷ ys) a n =
    let parts = and_parts (has_word names y) (list_all (has_word names) ys) a in
    omega (arith, ap bit (none_at (is_inner w inner binds) names y n parts.0), frees_none w inner binds names ys parts.1 n)

frees_bit : (w : List ℕ) (inner : List ℕ → List ℕ) (binds : List Bind) (x : List ℕ) (names ys : List (List ℕ)) → ((y : List ℕ) → inner y ≡ w → y ≡ x) → list_all (has_word names) ys ≡ true → ((y : List ℕ) → occ y ys ≤ 1)
    → frees w inner binds ys ≤ bit (list_any (is_inner w inner binds) names)
frees_bit w inner binds x names ys back a once = elim (cases_Bool (list_any (is_inner w inner binds) names)) [
  | inl t ↦ omega (arith, ap bit t, frees_few w inner binds x ys back, once x)
  | inr f ↦ omega (arith, frees_none w inner binds names ys a f)
]

-- each instance's model defines a name at most once, none that reads its actual, and names of its own alone
abbrev Fine : Opened → Type 0
Fine End = Unit {0}
Fine (Plain kind rest) = Fine rest
Fine (Instance c m inside rest) =
    ((y : List ℕ) → occ y (makes inside) ≤ 1) × ((y : List ℕ) → is_reading m y ≡ true → occ y (makes inside) ≡ 0) × (list_all (has_word m.names) (makes inside) ≡ true) × Fine inside × Fine rest

occ-called : (w : List ℕ) (called : List ℕ → List ℕ) (xs ys : List (List ℕ)) → occ w (map called (xs ++ ys)) ≡ occ w (map called xs) + occ w (map called ys)
occ-called w called xs ys = ap (occ w) (map-append called xs ys) ∙ occ-append w (map called xs) (map called ys)

-- what the flattening defines are the called names of what the statements define, and inner names
made_few : (count : ℕ) → 1 ≤ count → (w : List ℕ) (next : ℕ) (called : List ℕ → List ℕ) (tree : Opened) → Fine tree
    → made w (inner_name count) next called tree ≤ occ w (map called (makes tree)) + fresh w (inner_name count) next tree
made_few count some w next called End fine = omega arith
made_few count some w next called (Plain kind rest) fine = omega (arith, occ-called w called (makes_plainly kind) (makes rest), made_few count some w next called rest fine)
made_few count some w next called (Instance c m inside rest) fine =
    let own : List ℕ → List ℕ = called_inside called (inner_name count next) c.binds in
    let back : (y : List ℕ) → inner_name count next y ≡ w → y ≡ name_in count w = λ y e. sym (name_back count next y some) ∙ ap (name_in count) e in
    omega (
      arith,
      made_few count some w (suc next) own inside fine.3,
      made_few count some w (suc (next + instances inside)) called rest fine.4,
      called_split w called (inner_name count next) c.binds (makes inside),
      hits_few w called m c.binds (makes inside) fine.0 fine.1,
      frees_bit w (inner_name count next) c.binds (name_in count w) m.names (makes inside) back fine.2 fine.0,
      occ-called w called (defines_of c.binds (Some m)) (makes rest),
    )

-- a word is an inner name of one instance at most: of that whose number it spells
used_number : (count : ℕ) → 1 ≤ count → (w : List ℕ) (next : ℕ) (binds : List Bind) (names : List (List ℕ)) → list_any (is_inner w (inner_name count next) binds) names ≡ true → number_in w ≡ next
used_number count some w next binds [] h = absurd (both_ways false refl h)
used_number count some w next binds (y ∷ ys) h = elim (or_cases (is_inner w (inner_name count next) binds y) (list_any (is_inner w (inner_name count next) binds) ys) h) [
  | inl t ↦ ap number_in (sym (same_word (inner_name count next y) w (and_parts (not (is_bound binds y)) (bytes_eq (inner_name count next y) w) t).1)) ∙ number_back count next y some
  | inr t ↦ used_number count some w next binds ys t
]

record IsFew (n k from count : ℕ) : Type 0 where
  pub one : n ≤ 1
  pub low : k < from → n ≡ 0
  pub high : from + count ≤ k → n ≡ 0

fresh_few : (count : ℕ) → 1 ≤ count → (w : List ℕ) (next : ℕ) (tree : Opened) → IsFew (fresh w (inner_name count) next tree) (number_in w) next (instances tree)
fresh_few count some w next End = record { one = omega arith; low = λ l. refl; high = λ l. refl }
fresh_few count some w next (Plain kind rest) = fresh_few count some w next rest
fresh_few count some w next (Instance c m inside rest) =
    joined_few (bit (list_any (is_inner w (inner_name count next) c.binds) m.names)) (fresh w (inner_name count) (suc next) inside) (fresh w (inner_name count) (suc (next + instances inside)) rest) (number_in w) next (instances inside) (instances rest)
    used (fresh_few count some w (suc next) inside) (fresh_few count some w (suc (next + instances inside)) rest)
  where
    used : (bit (list_any (is_inner w (inner_name count next) c.binds) m.names) ≡ 0) ⊎ ((bit (list_any (is_inner w (inner_name count next) c.binds) m.names) ≡ 1) × (number_in w ≡ next))
    used = elim (cases_Bool (list_any (is_inner w (inner_name count next) c.binds) m.names)) [
      | inl t ↦ inr (ap bit t, used_number count some w next c.binds m.names t)
      | inr f ↦ inl (ap bit f)
    ]

    joined_few : (a b d k from i r : ℕ) → (a ≡ 0) ⊎ ((a ≡ 1) × (k ≡ from)) → IsFew b k (suc from) i → IsFew d k (suc (from + i)) r → IsFew (a + (b + d)) k from (suc (i + r))
    joined_few a b d k from i r (inr (e, s)) x y =
        let zb : b ≡ 0 = x.low (omega arith) in
        let zd : d ≡ 0 = y.low (omega arith) in
        record { one = omega arith; low = λ l. absurd (omega arith); high = λ l. absurd (omega arith) }
    joined_few a b d k from i r (inl e) x y = elim (cases_lt k (suc (from + i))) [
      | inl l ↦ (
          let zd : d ≡ 0 = y.low l in
          let one_b = x.one in
          record { one = omega arith; low = λ h. (let zb : b ≡ 0 = x.low (omega arith) in omega arith); high = λ h. absurd (omega arith) })
      | inr g ↦ (
          let zb : b ≡ 0 = x.high (omega arith) in
          let one_d = y.one in
          record { one = omega arith; low = λ h. absurd (omega arith); high = λ h. (let zd : d ≡ 0 = y.high (omega arith) in omega arith) })
    ]

-- a name of the main model is no inner name
not_inner : (main : List (List ℕ)) (w : List ℕ) (inner : List ℕ → List ℕ) (binds : List Bind) (names : List (List ℕ)) → has_word main w ≡ true → list_any (taken main inner binds) names ≡ false → list_any (is_inner w inner binds) names ≡ false
not_inner main w inner binds [] h n = refl
not_inner main w inner binds (y ∷ ys) h n =
    let parts = or_parts (taken main inner binds y) (list_any (taken main inner binds) ys) n in
    or_from (is_inner w inner binds y) (list_any (is_inner w inner binds) ys)
    (false_from_ne_true (is_inner w inner binds y) (λ t.
    let both = and_parts (not (is_bound binds y)) (bytes_eq (inner y) w) t in
    both_ways (taken main inner binds y) parts.0 (and_from (not (is_bound binds y)) (has_word main (inner y)) both.0 (subst (λ (k : List ℕ). has_word main k ≡ true) (sym (same_word (inner y) w both.1)) h))))
    (not_inner main w inner binds ys h parts.1)

fresh_none : (main : List (List ℕ)) (w : List ℕ) (inner : ℕ → List ℕ → List ℕ) (next : ℕ) (tree : Opened) → has_word main w ≡ true → clashes main inner next tree ≡ false → fresh w inner next tree ≡ 0
fresh_none main w inner next End h n = refl
fresh_none main w inner next (Plain kind rest) h n = fresh_none main w inner next rest h n
fresh_none main w inner next (Instance c m inside rest) h n =
    let some : Bool = list_any (taken main (inner next) c.binds) m.names in
    let in_it : Bool = clashes main inner (suc next) inside in
    let under : Bool = clashes main inner (suc (next + instances inside)) rest in
    let parts = or_parts some (in_it || under) n in
    let more = or_parts in_it under parts.1 in
    omega (arith, ap bit (not_inner main w (inner next) c.binds m.names h parts.0), fresh_none main w inner (suc next) inside h more.0, fresh_none main w inner (suc (next + instances inside)) rest h more.1)

-- what a model defines, by its statements

abbrev pub plain_of : List Statement → List (List ℕ)
plain_of ss = flat_map (λ (s : Statement). makes_plainly s.kind) ss

abbrev pub inside_of : List Model → List Statement → List (List ℕ)
inside_of models ss = flat_map (λ (s : Statement). defined_inside models s.kind) ss

plain_inside : (models : List Model) (kind : StatementKind) → is_subcircuit kind ≡ false → defined_inside models kind ≡ []
plain_inside models (OneSubcircuit c) h = absurd (both_ways true h refl)
plain_inside models (OneLatch l) h = refl
plain_inside models (OneTable t) h = refl
plain_inside models (Inputs ws) h = refl
plain_inside models (Outputs ws) h = refl
plain_inside models (Clock ws) h = refl

pub makes_counted : (models : List Model) (ss : List Statement) (tree : Opened) → Opens models ss tree → (y : List ℕ) → occ y (makes tree) ≡ occ y (plain_of ss) + occ y (inside_of models ss)
makes_counted models [] End o y = refl
makes_counted models [] (Plain kind rest) o y = absurd o
makes_counted models [] (Instance c m inside rest) o y = absurd o
makes_counted models (s ∷ ss) End o y = absurd o
makes_counted models (s ∷ ss) (Plain kind rest) o y =
    let none : occ y (defined_inside models s.kind) ≡ 0 = ap (λ (k : StatementKind). occ y (defined_inside models k)) o.0 ∙ ap (occ y) (plain_inside models kind o.1) in
    omega (
      arith,
      none,
      ap (λ (k : StatementKind). occ y (makes_plainly k)) o.0,
      makes_counted models ss rest o.2 y,
      occ-append y (makes_plainly kind) (makes rest),
      occ-append y (makes_plainly s.kind) (plain_of ss),
      occ-append y (defined_inside models s.kind) (inside_of models ss),
    )
makes_counted models (s ∷ ss) (Instance c m inside rest) o y =
    let none : occ y (makes_plainly s.kind) ≡ 0 = ap (λ (k : StatementKind). occ y (makes_plainly k)) o.0 in
    let some : occ y (defined_inside models s.kind) ≡ occ y (defines_of c.binds (Some m)) = ap (λ (k : StatementKind). occ y (defined_inside models k)) o.0 ∙ ap (λ (x : Option Model). occ y (defines_of c.binds x)) o.1 in
    omega (
      arith,
      none,
      some,
      makes_counted models ss rest o.3 y,
      occ-append y (defines_of c.binds (Some m)) (makes rest),
      occ-append y (makes_plainly s.kind) (plain_of ss),
      occ-append y (defined_inside models s.kind) (inside_of models ss),
    )

-- alone

plain_lists : (y : List ℕ) (ss : List Statement) → occ y (plain_of ss) ≡ occ y (map latch_output (flat_map (λ (s : Statement). latches_in s.kind) ss)) + occ y (map output_of (flat_map (λ (s : Statement). tables_in s.kind) ss))
plain_lists y [] = refl
plain_lists y (s ∷ ss) =
    omega (
      arith,
      occ-append y (makes_plainly s.kind) (plain_of ss),
      one y s.kind,
      plain_lists y ss,
      occ-latches y (latches_in s.kind) (flat_map (λ (s : Statement). latches_in s.kind) ss),
      occ-tables y (tables_in s.kind) (flat_map (λ (s : Statement). tables_in s.kind) ss),
    )
  where
    one : (y : List ℕ) (kind : StatementKind) → occ y (makes_plainly kind) ≡ occ y (map latch_output (latches_in kind)) + occ y (map output_of (tables_in kind))
    one y (OneLatch l) = omega arith
    one y (OneTable t) = omega arith
    one y (Inputs ws) = refl
    one y (Outputs ws) = refl
    one y (Clock ws) = refl
    one y (OneSubcircuit c) = refl

-- how often a model lists a name as an input, or as a clock that is no input
abbrev pub listed : Model → List ℕ → ℕ
listed m y = occ y (inputs_of m) + occ y (without (inputs_of m) (clocks_of m))

alone_once : (m : Model) → DefinedOnce (alone m) → (y : List ℕ) → listed m y + occ y (plain_of m.statements) ≤ 1
alone_once m h y =
    omega (
      arith,
      occ_once y (sources (alone m).frame ++ map output_of (tables_of m)) h.all,
      occ-append y (sources (alone m).frame) (map output_of (tables_of m)),
      occ-append y (inputs_of m) (without (inputs_of m) (clocks_of m) ++ map latch_output (latches_of m)),
      occ-append y (without (inputs_of m) (clocks_of m)) (map latch_output (latches_of m)),
      plain_lists y m.statements,
    )

-- by subcircuits

first_again_none : (before ws : List (List ℕ)) (y : List ℕ) → first_again before ws ≡ None → (occ y ws ≤ 1) × (has_word ws y ≡ true → has_word before y ≡ false)
first_again_none before [] y e = (omega arith, (λ h. absurd (both_ways false refl h)))
first_again_none before (x ∷ xs) y e = elim (cases_Bool (has_word before x)) [
  | inl t ↦ absurd (let s : ◌≡◌ {A = Option (List ℕ)} (Some x) None = sym (cond-true (has_word before x) (Some x) (first_again (x ∷ before) xs) t) ∙ e in cc)
  | inr f ↦ (
      let ih = first_again_none (x ∷ before) xs y (sym (cond-false (has_word before x) (Some x) (first_again (x ∷ before) xs) f) ∙ e) in
      let many = ih.0 in
      elim (cases_Bool (bytes_eq x y)) [
        | inl t ↦ (
            let gone : has_word xs y ≡ false = false_from_ne_true (has_word xs y) (λ h. both_ways (bytes_eq x y) (or_parts (bytes_eq x y) (has_word before y) (ih.1 h)).0 t) in
            (omega (arith, bit-on (bytes_eq x y) t, occ_none y xs gone), (λ h. subst (λ (k : List ℕ). has_word before k ≡ false) (same_word x y t) f)))
        | inr t ↦ (omega (arith, bit-off (bytes_eq x y) t, many), (λ h. elim (or_cases (bytes_eq x y) (has_word xs y) h) [ inl s ↦ absurd (both_ways (bytes_eq x y) t s) | inr s ↦ (or_parts (bytes_eq x y) (has_word before y) (ih.1 s)).1 ]))
      ])
]

pub or_none_parts : (a b : Option FlatFault) → option_or a b ≡ None → (a ≡ None) × (b ≡ None)
or_none_parts None b e = (refl, e)
or_none_parts (Some f) b e = absurd (let z : ◌≡◌ {A = Option FlatFault} (Some f) None = e in cc)

pub map_none : {A : Type 0} (f : A → FlatFault) (o : Option A) → option_map f o ≡ None → o ≡ None
map_none f None e = refl
map_none f (Some x) e = absurd (let z : ◌≡◌ {A = Option FlatFault} (Some (f x)) None = e in cc)

-- what no fault of a subcircuit says
pub record IsFaultless (site : Site) : Type 0 where
  pub unknown_port : unknown_port site ≡ None
  pub port_missing : port_missing site ≡ None
  pub defined_twice : defined_twice site ≡ None

pub site_faultless : (site : Site) → first_found checks site ≡ None → IsFaultless site
site_faultless site e =
    let a = or_none_parts (where_holds unknown_model UnknownModel site) (option_or (where_named unknown_port UnknownPort site) (option_or (where_named port_missing PortMissing site) (option_or (where_named defined_twice DefinedTwice site) None))) e in
    let b = or_none_parts (where_named unknown_port UnknownPort site) (option_or (where_named port_missing PortMissing site) (option_or (where_named defined_twice DefinedTwice site) None)) a.1 in
    let c = or_none_parts (where_named port_missing PortMissing site) (option_or (where_named defined_twice DefinedTwice site) None) b.1 in
    let d = or_none_parts (where_named defined_twice DefinedTwice site) None c.1 in
    record { unknown_port = map_none (UnknownPort site.line) (unknown_port site) b.0; port_missing = map_none (PortMissing site.line) (port_missing site) c.0; defined_twice = map_none (DefinedTwice site.line) (defined_twice site) d.0 }

-- what a model's statements define by themselves
abbrev plainly : Model → List (List ℕ)
plainly m = flat_map (λ (s : Statement). defined_plainly s.kind) m.statements

record IsApart (models : List Model) (home : Model) (above ss : List Statement) (y : List ℕ) : Type 0 where
  pub one : occ y (inside_of models ss) ≤ 1
  pub other : has_word (inside_of models ss) y ≡ true → (has_word (plainly home) y ≡ false) × (has_word (inside_of models above) y ≡ false)

-- one statement's subcircuit defines no name twice, and none that is defined by others
statement_apart : (models : List Model) (home : Model) (above : List Statement) (line : ℕ) (kind : StatementKind) (y : List ℕ) → statement_fault checks models home above line kind ≡ None
    → (occ y (defined_inside models kind) ≤ 1) × (has_word (defined_inside models kind) y ≡ true → has_word (plainly home ++ inside_of models above) y ≡ false)
statement_apart models home above line (OneSubcircuit c) y e =
    first_again_none (plainly home ++ inside_of models above) (defines_of c.binds (model_named models c.model)) y (site_faultless (record { line = line; here = c; models = models; home = home; above = above }) e).defined_twice
statement_apart models home above line (OneLatch l) y e = (omega arith, (λ h. absurd (both_ways false refl h)))
statement_apart models home above line (OneTable t) y e = (omega arith, (λ h. absurd (both_ways false refl h)))
statement_apart models home above line (Inputs ws) y e = (omega arith, (λ h. absurd (both_ways false refl h)))
statement_apart models home above line (Outputs ws) y e = (omega arith, (λ h. absurd (both_ways false refl h)))
statement_apart models home above line (Clock ws) y e = (omega arith, (λ h. absurd (both_ways false refl h)))

statements_apart : (models : List Model) (home : Model) (above ss : List Statement) (y : List ℕ) → first_of_statements checks models home above ss ≡ None → IsApart models home above ss y
statements_apart models home above [] y e = record { one = omega arith; other = λ h. absurd (both_ways false refl h) }
statements_apart models home above (s ∷ ss) y e =
    let parts = or_none_parts (statement_fault checks models home above s.line s.kind) (first_of_statements checks models home (s ∷ above) ss) e in
    let here = statement_apart models home above s.line s.kind y parts.0 in
    let ih = statements_apart models home (s ∷ above) ss y parts.1 in
    let mine : List (List ℕ) = defined_inside models s.kind in
    let more : List (List ℕ) = inside_of models ss in
    let before : List (List ℕ) = inside_of models above in
    let few = here.0 in
    let others = ih.one in
    record {
      one = elim (cases_Bool (has_word more y)) [
        | inl t ↦ (
            let gone : has_word mine y ≡ false = (or_parts (has_word mine y) (has_word before y) (sym (has_word-append mine before y) ∙ (ih.other t).1)).0 in
            omega (arith, occ-append y mine more, occ_none y mine gone))
        | inr f ↦ omega (arith, occ-append y mine more, occ_none y more f)
      ];
      other = λ h. elim (or_cases (has_word mine y) (has_word more y) (sym (has_word-append mine more y) ∙ h)) [
        | inl t ↦ or_parts (has_word (plainly home) y) (has_word before y) (sym (has_word-append (plainly home) before y) ∙ here.1 t)
        | inr t ↦ (let r = ih.other t in (r.0, (or_parts (has_word mine y) (has_word before y) (sym (has_word-append mine before y) ∙ r.1)).1))
      ];
    }

-- what isn't defined plainly is in none of the lists
pub has_false_left : (xs ys : List (List ℕ)) (y : List ℕ) → has_word (xs ++ ys) y ≡ false → (has_word xs y ≡ false) × (has_word ys y ≡ false)
has_false_left xs ys y h = or_parts (has_word xs y) (has_word ys y) (sym (has_word-append xs ys y) ∙ h)

one_not_plain : (kind : StatementKind) (y : List ℕ) → has_word (defined_plainly kind) y ≡ false → (occ y (inputs_in kind) ≡ 0) × (occ y (clocks_in kind) ≡ 0) × (occ y (makes_plainly kind) ≡ 0)
one_not_plain (OneLatch l) y h = (refl, refl, occ_none y (l.output ∷ []) h)
one_not_plain (OneTable t) y h = (refl, refl, occ_none y (t.output ∷ []) h)
one_not_plain (Inputs ws) y h = (occ_none y ws h, refl, refl)
one_not_plain (Outputs ws) y h = (refl, refl, refl)
one_not_plain (Clock ws) y h = (refl, occ_none y ws h, refl)
one_not_plain (OneSubcircuit c) y h = (refl, refl, refl)

not_plain : (ss : List Statement) (y : List ℕ) → has_word (flat_map (λ (s : Statement). defined_plainly s.kind) ss) y ≡ false
    → (occ y (flat_map (λ (s : Statement). inputs_in s.kind) ss) ≡ 0) × (occ y (flat_map (λ (s : Statement). clocks_in s.kind) ss) ≡ 0) × (occ y (plain_of ss) ≡ 0)
not_plain [] y h = (refl, refl, refl)
not_plain (s ∷ ss) y h =
    let parts = has_false_left (defined_plainly s.kind) (flat_map (λ (s : Statement). defined_plainly s.kind) ss) y h in
    let (a, b, c) = one_not_plain s.kind y parts.0 in
    let (d, e, f) = not_plain ss y parts.1 in (
      omega (arith, occ-append y (inputs_in s.kind) (flat_map (λ (s : Statement). inputs_in s.kind) ss)),
      omega (arith, occ-append y (clocks_in s.kind) (flat_map (λ (s : Statement). clocks_in s.kind) ss)),
      omega (arith, occ-append y (makes_plainly s.kind) (plain_of ss)),
    )

occ_filter : (y : List ℕ) (p : List ℕ → Bool) (xs : List (List ℕ)) → occ y (filter p xs) ≤ occ y xs
occ_filter y p [] = omega arith
occ_filter y p (x ∷ xs) = elim (cases_Bool (p x)) [
  | inl t ↦ omega (arith, ap (occ y) (cond-true (p x) (x ∷ filter p xs) (filter p xs) t), occ_filter y p xs)
  | inr f ↦ omega (arith, ap (occ y) (cond-false (p x) (x ∷ filter p xs) (filter p xs) f), occ_filter y p xs)
]

-- A model defines each name once: as an input or a clock that is none, or plainly, or by a subcircuit.
pub model_once : (models : List Model) (m : Model) → DefinedOnce (alone m) → first_of_statements checks models m [] m.statements ≡ None → (y : List ℕ)
    → listed m y + (occ y (plain_of m.statements) + occ y (inside_of models m.statements)) ≤ 1
model_once models m d e y =
    let apart = statements_apart models m [] m.statements y e in
    let few = apart.one in
    elim (cases_Bool (has_word (inside_of models m.statements) y)) [
      | inl t ↦ (
          let (a, b, c) = not_plain m.statements y (apart.other t).0 in
          omega (arith, occ_filter y (λ w. not (has_word (inputs_of m) w)) (clocks_of m)))
      | inr f ↦ omega (arith, occ_none y (inside_of models m.statements) f, alone_once m d y)
    ]

pub without_has : (others ws : List (List ℕ)) (y : List ℕ) → has_word ws y ≡ true → has_word others y ≡ false → has_word (without others ws) y ≡ true
without_has others [] y h n = absurd (both_ways false refl h)
without_has others (w ∷ ws) y h n = elim (cases_Bool (has_word others w)) [
  | inl t ↦ (
      let rest : has_word ws y ≡ true = elim (or_cases (bytes_eq w y) (has_word ws y) h) [ inl e ↦ absurd (both_ways (has_word others y) n (subst (λ (k : List ℕ). has_word others k ≡ true) (same_word w y e) t)) | inr r ↦ r ] in
      ap (λ (l : List (List ℕ)). has_word l y) (cond-false (not (has_word others w)) (w ∷ without others ws) (without others ws) (not_from_true (has_word others w) t)) ∙ without_has others ws y rest n)
  | inr f ↦
      ap (λ (l : List (List ℕ)). has_word l y) (cond-true (not (has_word others w)) (w ∷ without others ws) (without others ws) (not_from_false (has_word others w) f))
      ∙ elim (or_cases (bytes_eq w y) (has_word ws y) h) [ inl e ↦ or_left (bytes_eq w y) (has_word (without others ws) y) e | inr r ↦ or_right (bytes_eq w y) (has_word (without others ws) y) (without_has others ws y r n) ]
]

-- a port that reads its actual is listed
pub reading_listed : (m : Model) (y : List ℕ) → is_reading m y ≡ true → 1 ≤ listed m y
reading_listed m y h = elim (cases_Bool (has_word (inputs_of m) y)) [
  | inl t ↦ omega (arith, occ_some y (inputs_of m) t)
  | inr f ↦ elim (or_cases (has_word (inputs_of m) y) (has_word (clocks_of m) y) (sym (has_word-append (inputs_of m) (clocks_of m) y) ∙ h)) [
    | inl t ↦ absurd (both_ways (has_word (inputs_of m) y) f t)
    | inr t ↦ omega (arith, occ_some y (without (inputs_of m) (clocks_of m)) (without_has (inputs_of m) (clocks_of m) y t f))
  ]
]

-- names of a model

pub all_append : {A : Type 0} (test : A → Bool) (xs ys : List A) → list_all test xs ≡ true → list_all test ys ≡ true → list_all test (xs ++ ys) ≡ true
all_append test [] ys a b = b
all_append test (x ∷ xs) ys a b = let parts = and_parts (test x) (list_all test xs) a in and_from (test x) (list_all test (xs ++ ys)) parts.0 (all_append test xs ys parts.1 b)

all_chosen : (test : List ℕ → Bool) (p : Bind → Bool) (binds : List Bind) → list_all test (map actual_in binds) ≡ true → list_all test (map actual_in (filter p binds)) ≡ true
all_chosen test p [] a = refl
all_chosen test p (b ∷ bs) a =
    let parts = and_parts (test b.actual) (list_all test (map actual_in bs)) a in
    elim (cases_Bool (p b)) [
      | inl t ↦ ap (λ (l : List Bind). list_all test (map actual_in l)) (cond-true (p b) (b ∷ filter p bs) (filter p bs) t) ∙ and_from (test b.actual) (list_all test (map actual_in (filter p bs))) parts.0 (all_chosen test p bs parts.1)
      | inr f ↦ ap (λ (l : List Bind). list_all test (map actual_in l)) (cond-false (p b) (b ∷ filter p bs) (filter p bs) f) ∙ all_chosen test p bs parts.1
    ]

plain_within : (test : List ℕ → Bool) (kind : StatementKind) → list_all test (names_in kind) ≡ true → list_all test (makes_plainly kind) ≡ true
plain_within test (OneLatch l) a = and_from (test l.output) true (and_parts (test l.output) _ (and_parts (test l.feed) _ a).1).0 refl
plain_within test (OneTable t) a = and_from (test t.output) true (and_parts (test t.output) _ a).0 refl
plain_within test (Inputs ws) a = refl
plain_within test (Outputs ws) a = refl
plain_within test (Clock ws) a = refl
plain_within test (OneSubcircuit c) a = refl

abbrev Within : List (List ℕ) → List Statement → Bool
Within names ss = list_all (λ (s : Statement). list_all (has_word names) (names_in s.kind)) ss

makes_within : (models : List Model) (names : List (List ℕ)) (ss : List Statement) (tree : Opened) → Opens models ss tree → Within names ss ≡ true → list_all (has_word names) (makes tree) ≡ true
makes_within models names [] End o a = refl
makes_within models names [] (Plain kind rest) o a = absurd o
makes_within models names [] (Instance c m inside rest) o a = absurd o
makes_within models names (s ∷ ss) End o a = absurd o
makes_within models names (s ∷ ss) (Plain kind rest) o a =
    let parts = and_parts (list_all (has_word names) (names_in s.kind)) (Within names ss) a in
    all_append (has_word names) (makes_plainly kind) (makes rest)
    (plain_within (has_word names) kind (subst (λ (k : StatementKind). list_all (has_word names) (names_in k) ≡ true) o.0 parts.0))
    (makes_within models names ss rest o.2 parts.1)
makes_within models names (s ∷ ss) (Instance c m inside rest) o a =
    let parts = and_parts (list_all (has_word names) (names_in s.kind)) (Within names ss) a in
    all_append (has_word names) (defines_of c.binds (Some m)) (makes rest)
    (all_chosen (has_word names) (λ (b : Bind). not (is_reading m b.formal)) c.binds (subst (λ (k : StatementKind). list_all (has_word names) (names_in k) ≡ true) o.0 parts.0))
    (makes_within models names ss rest o.3 parts.1)

lists_within : (names : List (List ℕ)) (ss : List Statement) → Within names ss ≡ true
    → (list_all (has_word names) (flat_map (λ (s : Statement). inputs_in s.kind) ss) ≡ true) × (list_all (has_word names) (flat_map (λ (s : Statement). clocks_in s.kind) ss) ≡ true)
lists_within names [] a = (refl, refl)
lists_within names (s ∷ ss) a =
    let parts = and_parts (list_all (has_word names) (names_in s.kind)) (Within names ss) a in
    let (i, c) = one s.kind parts.0 in
    let (is, cs) = lists_within names ss parts.1 in
    (all_append (has_word names) (inputs_in s.kind) (flat_map (λ (s : Statement). inputs_in s.kind) ss) i is, all_append (has_word names) (clocks_in s.kind) (flat_map (λ (s : Statement). clocks_in s.kind) ss) c cs)
  where
    one : (kind : StatementKind) → list_all (has_word names) (names_in kind) ≡ true → (list_all (has_word names) (inputs_in kind) ≡ true) × (list_all (has_word names) (clocks_in kind) ≡ true)
    one (OneLatch l) a = (refl, refl)
    one (OneTable t) a = (refl, refl)
    one (Inputs ws) a = (a, refl)
    one (Outputs ws) a = (refl, refl)
    one (Clock ws) a = (refl, a)
    one (OneSubcircuit c) a = (refl, refl)

-- What is known of each model.
pub record IsGood (models : List Model) (m : Model) : Type 0 where
  pub closed : is_closed m ≡ true
  pub once : (y : List ℕ) → listed m y + (occ y (plain_of m.statements) + occ y (inside_of models m.statements)) ≤ 1

makes_once : (models : List Model) (m : Model) (tree : Opened) → IsGood models m → Opens models m.statements tree → (y : List ℕ) → listed m y + occ y (makes tree) ≤ 1
makes_once models m tree good o y = omega (arith, good.once y, makes_counted models m.statements tree o y)

fine_tree : (models : List Model) → ((m : Model) → Among models m → IsGood models m) → (ss : List Statement) (tree : Opened) → Opens models ss tree → Fine tree
fine_tree models good [] End o = tt
fine_tree models good [] (Plain kind rest) o = absurd o
fine_tree models good [] (Instance c m inside rest) o = absurd o
fine_tree models good (s ∷ ss) End o = absurd o
fine_tree models good (s ∷ ss) (Plain kind rest) o = fine_tree models good ss rest o.2
fine_tree models good (s ∷ ss) (Instance c m inside rest) o =
    let mine = good m (named_among models c.model m o.1).0 in (
      (λ y. omega (arith, makes_once models m inside mine o.2 y)),
      (λ y r. omega (arith, makes_once models m inside mine o.2 y, reading_listed m y r)),
      makes_within models m.names m.statements inside o.2 mine.closed,
      fine_tree models good m.statements inside o.2,
      fine_tree models good ss rest o.3,
    )

map_same : (xs : List (List ℕ)) → map as_it_is xs ≡ xs
map_same [] = refl
map_same (x ∷ xs) = ap (λ (l : List (List ℕ)). x ∷ l) (map_same xs)

outside : (names xs : List (List ℕ)) (w : List ℕ) → list_all (has_word names) xs ≡ true → has_word names w ≡ false → occ w xs ≡ 0
outside names xs w a n = occ_none w xs (false_from_ne_true (has_word xs w) (λ h. both_ways (has_word names w) n (all_at (has_word names) xs w a h)))

flattened_once : (models : Models) (tree : Opened) (count : ℕ) → ((m : Model) → Among (all_of models) m → IsGood (all_of models) m) → Opens (all_of models) models.main.statements tree → AreSlashes models.main tree count
    → (w : List ℕ) → listed models.main w + made w (inner_name count) 1 as_it_is tree ≤ 1
flattened_once models tree count good o slashes w =
    let main : Model = models.main in
    let mine = good main (inl refl) in
    let few = made_few count slashes.some w 1 as_it_is tree (fine_tree (all_of models) good main.statements tree o) in
    let same : occ w (map as_it_is (makes tree)) ≡ occ w (makes tree) = ap (occ w) (map_same (makes tree)) in
    let once = makes_once (all_of models) main tree mine o w in
    elim (cases_Bool (has_word main.names w)) [
      | inl t ↦ omega (arith, few, same, once, fresh_none main.names w (inner_name count) 1 tree t slashes.apart)
      | inr f ↦ (
          let lists = lists_within main.names main.statements mine.closed in
          omega (
            arith,
            few,
            same,
            (fresh_few count slashes.some w 1 tree).one,
            outside main.names (makes tree) w (makes_within (all_of models) main.names main.statements tree o mine.closed) f,
            outside main.names (inputs_of main) w lists.0 f,
            outside main.names (clocks_of main) w lists.1 f,
            occ_filter w (λ x. not (has_word (inputs_of main) x)) (clocks_of main),
          ))
    ]

among_all : (P : Model → Type 0) (ms : List Model) → AllByRecursion P ms → (m : Model) → Among ms m → P m
among_all P [] a m h = absurd h
among_all P (x ∷ xs) a m (inl e) = subst P e a.0
among_all P (x ∷ xs) a m (inr h) = among_all P xs a.1 m h

among_closed : (ms : List Model) → list_all is_closed ms ≡ true → (m : Model) → Among ms m → is_closed m ≡ true
among_closed [] a m h = absurd h
among_closed (x ∷ xs) a m (inl e) = subst (λ (k : Model). is_closed k ≡ true) e (and_parts (is_closed x) (list_all is_closed xs) a).0
among_closed (x ∷ xs) a m (inr h) = among_closed xs (and_parts (is_closed x) (list_all is_closed xs) a).1 m h

pub among_faultless : (models ms : List Model) → first_of_models checks models ms ≡ None → (m : Model) → Among ms m → first_of_statements checks models m [] m.statements ≡ None
among_faultless models [] e m h = absurd h
among_faultless models (x ∷ xs) e m (inl s) = subst (λ (k : Model). first_of_statements checks models k [] k.statements ≡ None) s (or_none_parts (first_of_statements checks models x [] x.statements) (first_of_models checks models xs) e).0
among_faultless models (x ∷ xs) e m (inr h) = among_faultless models xs (or_none_parts (first_of_statements checks models x [] x.statements) (first_of_models checks models xs) e).1 m h

pub all_good : (models : Models) → list_all is_closed (all_of models) ≡ true → All (λ (m : Model). DefinedOnce (alone m)) (all_of models) → first_fault_of_models models ≡ None → (m : Model) → Among (all_of models) m → IsGood (all_of models) m
all_good models closed once e m h =
    let all : List Model = all_of models in
    let faultless = (or_none_parts (first_of_models checks all all) (option_map Undriven (first_undriven all all)) e).0 in
    record {
      closed = among_closed all closed m h;
      once = model_once all m (among_all (λ (m : Model). DefinedOnce (alone m)) all (recursion_from_All (λ (m : Model). DefinedOnce (alone m)) all once) m h) (among_faultless all all faultless m h);
    }

pub flattening_defines_once : FlatteningDefinesOnce
flattening_defines_once models n closed once e f =
    let main : Model = models.main in
    let lats : List Latch = flat latches_called (inner_name f.count) 1 as_it_is f.tree in
    let tabs : List Table = flat tables_called (inner_name f.count) 1 as_it_is f.tree in
    let alone_main : DefinedOnce (alone main) = (recursion_from_All (λ (m : Model). DefinedOnce (alone m)) (all_of models) once).0 in
    subst DefinedOnce (sym f.is) (record {
      clocks = alone_main.clocks;
      all = once_occ ((inputs_of main ++ (without (inputs_of main) (clocks_of main) ++ map latch_output lats)) ++ map output_of tabs)
          (λ w. omega (
            arith,
            flattened_once models f.tree f.count (all_good models closed once e) f.opens f.slashes w,
            made_is w (inner_name f.count) 1 as_it_is f.tree,
            occ-append w (inputs_of main ++ (without (inputs_of main) (clocks_of main) ++ map latch_output lats)) (map output_of tabs),
            occ-append w (inputs_of main) (without (inputs_of main) (clocks_of main) ++ map latch_output lats),
            occ-append w (without (inputs_of main) (clocks_of main)) (map latch_output lats),
          ));
    })
