-- Models that differ in the order of their names alone have the same faults, and are flattened to the same netlist.
use Rattle.std.proofs.Common.{arith, ◌≡◌, ℕ, suc, ◌+◌, ◌&&◌, ◌||◌, not, Bool, true, false, List, [], ◌∷◌, ◌++◌, map, flat_map, bytes_eq, refl, sym, ap, ap₂, ◌∙◌, subst, inl, inr, Option, Some, None}
use Rattle.std.specs.List.{list_any}
use Rattle.std.proofs.lemmas.Bool.{both_ways, cases_Bool, cond-true, cond-false, or_cases, or_left, or_right}
use Rattle.syn_netlist.specs.Words.{has_word}
use Rattle.syn_netlist.specs.Lists.{Latch, Table, Netlist}
use Rattle.syn_netlist.specs.Faults.{AnswersCircle, ReachesCircle}
use Rattle.syn_netlist.proofs.Sets.{same_word, word_same}
use Rattle.syn_models.specs.declared.flat_fault.FlatFault.{FlatFault}
use Rattle.syn_models.specs.declared.flat_fault.FlatFault.TheVariants.{Recursion, TooManyWords}
use Rattle.syn_models.specs.Models.{Statement, Model, Models, all_of, inputs_in, clocks_in, outputs_in, is_bound, model_named}
use Rattle.syn_models.specs.Opening.{Opened, End, Plain, Instance, Opens, instances, words_inside, words_of}
use Rattle.syn_models.specs.Flattening.{inner_name, as_it_is, called_inside, flat, latches_called, tables_called, taken, clashes, IsFlattening}
use Rattle.syn_models.specs.FlatFaults.{contents, first_fault_of_models, told, NoRecursion, IsTreeFault, IsFirstFlatFault, Flattens, WithinWords}
use Rattle.syn_reader.proofs.Bare.{bare, fault_bare, contents_bare}

-- The models differ in the order of their names alone.
pub record Alike (m n : Model) : Type 0 where
  pub name : m.name ≡ n.name
  pub statements : m.statements ≡ n.statements
  pub words : m.words ≡ n.words
  pub names : (word : List ℕ) → has_word m.names word ≡ has_word n.names word

abbrev pub AllAlike : List Model → List Model → Type 0
AllAlike [] [] = Unit {0}
AllAlike [] (n ∷ ns) = ⊥
AllAlike (m ∷ ms) [] = ⊥
AllAlike (m ∷ ms) (n ∷ ns) = Alike m n × AllAlike ms ns

-- what doesn't read names
same_bare : (m n : Model) → Alike m n → bare m ≡ bare n
same_bare m n h =
    ap (λ (w : List ℕ). build w m.statements m.words) h.name ∙ ap₂ (build n.name) h.statements h.words
  where
    build : List ℕ → List Statement → ℕ → Model
    build name ss words = record { name = name; names = []; statements = ss; words = words }

same_all : (ms ns : List Model) → AllAlike ms ns → map bare ms ≡ map bare ns
same_all [] [] h = refl
same_all [] (n ∷ ns) h = absurd h
same_all (m ∷ ms) [] h = absurd h
same_all (m ∷ ms) (n ∷ ns) h = ap₂ (λ (x : Model) (xs : List Model). x ∷ xs) (same_bare m n h.0) (same_all ms ns h.1)

same_fault : (models other : Models) → AllAlike (all_of models) (all_of other) → first_fault_of_models models ≡ first_fault_of_models other
same_fault models other h =
    sym (fault_bare models)
    ∙ ap₂ (λ (x : Model) (xs : List Model). first_fault_of_models (record { main = x; others = xs })) (same_bare models.main other.main h.0) (same_all models.others other.others h.1)
    ∙ fault_bare other

same_contents : (ms ns : List Model) → AllAlike ms ns → map contents ms ≡ map contents ns
same_contents ms ns h = sym (contents_bare ms) ∙ ap (map contents) (same_all ms ns h) ∙ contents_bare ns

-- the model of a name, in both
named_alike : (ms ns : List Model) → AllAlike ms ns → (name : List ℕ) (m : Model) → model_named ms name ≡ Some m → (n : Model) × (model_named ns name ≡ Some n) × Alike m n
named_alike [] [] h name m e = absurd (let z : ◌≡◌ {A = Option Model} None (Some m) = e in cc)
named_alike [] (y ∷ ys) h name m e = absurd h
named_alike (x ∷ xs) [] h name m e = absurd h
named_alike (x ∷ xs) (y ∷ ys) h name m e = elim (cases_Bool (bytes_eq x.name name)) [
  | inl t ↦
      let s : Some x ≡ Some m = sym (cond-true (bytes_eq x.name name) (Some x) (model_named xs name) t) ∙ e in
      let same : x ≡ m = cc in
      (y, cond-true (bytes_eq y.name name) (Some y) (model_named ys name) (ap (λ w. bytes_eq w name) (sym h.0.name) ∙ t), subst (λ (k : Model). Alike k y) same h.0)
  | inr t ↦
      let r = named_alike xs ys h.1 name m (sym (cond-false (bytes_eq x.name name) (Some x) (model_named xs name) t) ∙ e) in
      (r.0, cond-false (bytes_eq y.name name) (Some y) (model_named ys name) (ap (λ w. bytes_eq w name) (sym h.0.name) ∙ t) ∙ r.1, r.2)
]

-- whether some word of a list passes depends on its words alone
any_in : (p : List ℕ → Bool) (xs : List (List ℕ)) → list_any p xs ≡ true → (w : List ℕ) × (has_word xs w ≡ true) × (p w ≡ true)
any_in p [] h = absurd (both_ways false refl h)
any_in p (x ∷ xs) h = elim (or_cases (p x) (list_any p xs) h) [
  | inl t ↦ (x, or_left (bytes_eq x x) (has_word xs x) (word_same x), t)
  | inr r ↦ let q = any_in p xs r in (q.0, or_right (bytes_eq x q.0) (has_word xs q.0) q.1, q.2)
]

any_with : (p : List ℕ → Bool) (xs : List (List ℕ)) (w : List ℕ) → has_word xs w ≡ true → p w ≡ true → list_any p xs ≡ true
any_with p [] w h t = absurd (both_ways false refl h)
any_with p (x ∷ xs) w h t = elim (or_cases (bytes_eq x w) (has_word xs w) h) [
  | inl e ↦ or_left (p x) (list_any p xs) (ap p (same_word x w e) ∙ t)
  | inr r ↦ or_right (p x) (list_any p xs) (any_with p xs w r t)
]

same_truth : (a b : Bool) → (a ≡ true → b ≡ true) → (b ≡ true → a ≡ true) → a ≡ b
same_truth true b f g = sym (f refl)
same_truth false true f g = g refl
same_truth false false f g = refl

any_same : (p : List ℕ → Bool) (xs ys : List (List ℕ)) → ((w : List ℕ) → has_word xs w ≡ has_word ys w) → list_any p xs ≡ list_any p ys
any_same p xs ys e = same_truth (list_any p xs) (list_any p ys)
    (λ h. let q = any_in p xs h in any_with p ys q.0 (sym (e q.0) ∙ q.1) q.2)
    (λ h. let q = any_in p ys h in any_with p xs q.0 (e q.0 ∙ q.1) q.2)

any_by : (p q : List ℕ → Bool) (xs : List (List ℕ)) → ((w : List ℕ) → p w ≡ q w) → list_any p xs ≡ list_any q xs
any_by p q [] e = refl
any_by p q (x ∷ xs) e = ap₂ (λ (a b : Bool). a || b) (e x) (any_by p q xs e)

-- Opened statements that give the same.
record SameOpened (t u : Opened) : Type 0 where
  count : instances t ≡ instances u
  words : words_inside t ≡ words_inside u
  latches : (inner : ℕ → List ℕ → List ℕ) (next : ℕ) (called : List ℕ → List ℕ) → flat latches_called inner next called t ≡ flat latches_called inner next called u
  tables : (inner : ℕ → List ℕ → List ℕ) (next : ℕ) (called : List ℕ → List ℕ) → flat tables_called inner next called t ≡ flat tables_called inner next called u
  clash : (names other : List (List ℕ)) → ((w : List ℕ) → has_word names w ≡ has_word other w) → (inner : ℕ → List ℕ → List ℕ) (next : ℕ) → clashes names inner next t ≡ clashes other inner next u

opened_alike : (ms ns : List Model) → AllAlike ms ns → (ss : List Statement) (t : Opened) → Opens ms ss t → (u : Opened) × Opens ns ss u × SameOpened t u
opened_alike ms ns h [] End o = (End, tt, record { count = refl; words = refl; latches = λ inner next called. refl; tables = λ inner next called. refl; clash = λ names other e inner next. refl })
opened_alike ms ns h [] (Plain kind rest) o = absurd o
opened_alike ms ns h [] (Instance c m inside rest) o = absurd o
opened_alike ms ns h (s ∷ ss) End o = absurd o
opened_alike ms ns h (s ∷ ss) (Plain kind rest) o =
    let (u, opens, same) = opened_alike ms ns h ss rest o.2 in (
      Plain kind u,
      (o.0, o.1, opens),
      record {
        count = same.count;
        words = same.words;
        latches = λ inner next called. ap (λ (l : List Latch). latches_called called kind ++ l) (same.latches inner next called);
        tables = λ inner next called. ap (λ (l : List Table). tables_called called kind ++ l) (same.tables inner next called);
        clash = same.clash;
      },
    )
opened_alike ms ns h (s ∷ ss) (Instance c m inside rest) o =
    let (n, named, alike) = named_alike ms ns h c.model m o.1 in
    let (i, opens, in_same) = opened_alike ms ns h m.statements inside o.2 in
    let (u, more, same) = opened_alike ms ns h ss rest o.3 in (
      Instance c n i u,
      (o.0, named, subst (λ (l : List Statement). Opens ns l i) alike.statements opens, more),
      record {
        count = ap₂ (λ (a b : ℕ). suc (a + b)) in_same.count same.count;
        words = ap₂ (λ (a b : ℕ). a + b) alike.words (ap₂ (λ (a b : ℕ). a + b) in_same.words same.words);
        latches = λ inner next called. ap₂ (λ (a b : List Latch). a ++ b) (in_same.latches inner (suc next) (called_inside called (inner next) c.binds))
            (same.latches inner (suc (next + instances inside)) called ∙ ap (λ (k : ℕ). flat latches_called inner (suc (next + k)) called u) in_same.count);
        tables = λ inner next called. ap₂ (λ (a b : List Table). a ++ b) (in_same.tables inner (suc next) (called_inside called (inner next) c.binds))
            (same.tables inner (suc (next + instances inside)) called ∙ ap (λ (k : ℕ). flat tables_called inner (suc (next + k)) called u) in_same.count);
        clash = λ names other e inner next. ap₂ (λ (a b : Bool). a || b)
            (any_by (taken names (inner next) c.binds) (taken other (inner next) c.binds) m.names (λ w. ap (λ (b : Bool). not (is_bound c.binds w) && b) (e (inner next w)))
            ∙ any_same (taken other (inner next) c.binds) m.names n.names alike.names)
            (ap₂ (λ (a b : Bool). a || b) (in_same.clash names other e inner (suc next))
            (same.clash names other e inner (suc (next + instances inside)) ∙ ap (λ (k : ℕ). clashes other inner (suc (next + k)) u) in_same.count));
      },
    )

-- the words of the main model and all instances
words_alike : (main other : Model) (t u : Opened) → Alike main other → SameOpened t u → words_of main t ≡ words_of other u
words_alike main other t u h same = ap₂ (λ (a b : ℕ). a + b) h.words same.words

main_opened : (models other : Models) → AllAlike (all_of models) (all_of other) → (t : Opened) → Opens (all_of models) models.main.statements t → (u : Opened) × Opens (all_of other) other.main.statements u × SameOpened t u
main_opened models other h t o =
    let (u, opens, same) = opened_alike (all_of models) (all_of other) h models.main.statements t o in
    (u, subst (λ (l : List Statement). Opens (all_of other) l u) h.0.statements opens, same)

pub within_alike : (models other : Models) → AllAlike (all_of models) (all_of other) → WithinWords models → WithinWords other
within_alike models other h (t, o, few) =
    let (u, opens, same) = main_opened models other h t o in
    let words = words_alike models.main other.main t u h.0 same in
    (u, opens, omega (arith, words, few))

acyclic_alike : (models other : Models) → AllAlike (all_of models) (all_of other) → NoRecursion models → NoRecursion other
acyclic_alike models other h none name = λ (r : ReachesCircle (map contents (all_of other)) name). none name (subst (λ (ts : List Table). ReachesCircle ts name) (sym (same_contents (all_of models) (all_of other) h)) r)

flattening_alike : (models other : Models) (n : Netlist) → AllAlike (all_of models) (all_of other) → IsFlattening models n → IsFlattening other n
flattening_alike models other n h f =
    let (u, opens, same) = main_opened models other h f.tree f.opens in
    let main = models.main in
    let alike = h.0 in
    let clash : (count : ℕ) → clashes main.names (inner_name count) 1 f.tree ≡ clashes other.main.names (inner_name count) 1 u = λ count. same.clash main.names other.main.names alike.names (inner_name count) 1 in
    record {
      tree = u;
      opens = opens;
      count = f.count;
      slashes = record {
        some = f.slashes.some;
        apart = sym (clash f.count) ∙ f.slashes.apart;
        fewest = λ fewer a b. sym (clash fewer) ∙ f.slashes.fewest fewer a b;
      };
      is = f.is
          ∙ ap₂ (λ (w : List ℕ) (l : List Statement). netlist w l (flat latches_called (inner_name f.count) 1 as_it_is f.tree) (flat tables_called (inner_name f.count) 1 as_it_is f.tree)) alike.name alike.statements
          ∙ ap₂ (λ (a : List Latch) (b : List Table). netlist other.main.name other.main.statements a b) (same.latches (inner_name f.count) 1 as_it_is) (same.tables (inner_name f.count) 1 as_it_is);
    }
  where
    netlist : List ℕ → List Statement → List Latch → List Table → Netlist
    netlist name ss latches tables = record {
      frame = record { model = name; inputs = flat_map (λ s. inputs_in s.kind) ss; clocks = flat_map (λ s. clocks_in s.kind) ss; outputs = flat_map (λ s. outputs_in s.kind) ss; latches = latches };
      tables = tables;
    }

pub flattens_alike : (models other : Models) (n : Netlist) → AllAlike (all_of models) (all_of other) → Flattens models n → Flattens other n
flattens_alike models other n h f = record {
  faultless = sym (same_fault models other h) ∙ f.faultless;
  acyclic = acyclic_alike models other h f.acyclic;
  flattening = flattening_alike models other n h f.flattening;
}

tree_alike : (models other : Models) (fault : FlatFault) → AllAlike (all_of models) (all_of other) → IsTreeFault models fault → IsTreeFault other fault
tree_alike models other (Recursion names) h f = subst (λ (ts : List Table). AnswersCircle ts names) (same_contents (all_of models) (all_of other) h) f
tree_alike models other (TooManyWords k) h (none, (t, o, more, is)) =
    let (u, opens, same) = main_opened models other h t o in
    let words = words_alike models.main other.main t u h.0 same in
    (acyclic_alike models other h none, (u, opens, omega (arith, words, more), is ∙ ap told words))
tree_alike models other fault h f = absurd f

pub fault_alike : (models other : Models) (fault : FlatFault) → AllAlike (all_of models) (all_of other) → IsFirstFlatFault models fault → IsFirstFlatFault other fault
fault_alike models other fault h (inl e) = inl (sym (same_fault models other h) ∙ e)
fault_alike models other fault h (inr (e, t)) = inr (sym (same_fault models other h) ∙ e, tree_alike models other fault h t)
