-- Where no model contains itself, however deep, the statements of each model can be opened. Models that contain none of those that are left are taken out one by one.
use Rattle.std.proofs.Common.{◌≡◌, ℕ, zero, suc, ◌≤◌, Bool, true, false, List, [], ◌∷◌, ◌++◌, length, map, flat_map, bytes_eq, refl, sym, ap, ◌∙◌, subst, inl, inr, ◌⊎◌, Option, Some, None, arith}
use Rattle.std.specs.List.{list_any}
use Rattle.std.proofs.lemmas.Bool.{both_ways, cond-true, cond-false, cases_Bool, or_cases, or_left, or_right}
use Rattle.syn_netlist.specs.Words.{has_word}
use Rattle.syn_netlist.specs.Faults.{ReachesCircle}
use Rattle.syn_netlist.proofs.Sets.{same_word, word_same}
use Rattle.syn_netlist.proofs.CyclicSets.{In, from_in}
use Rattle.syn_models.specs.Models.{name_of, Subcircuit, StatementKind, Inputs, Outputs, Clock, OneLatch, OneTable, OneSubcircuit, Statement, Model, model_named, subcircuits_in}
use Rattle.syn_models.specs.Opening.{Opened, End, Plain, Instance, Opens, is_subcircuit}
use Rattle.syn_models.specs.FlatFaults.{model_of, contents}
use Rattle.syn_models.proofs.Lists.{none_at}

-- the model is in the list
abbrev pub Among : List Model → Model → Type 0
Among [] m = ⊥
Among (x ∷ xs) m = (x ≡ m) ⊎ Among xs m

-- the model's statements can be opened
abbrev pub HasTree : List Model → Model → Type 0
HasTree models m = (tree : Opened) × Opens models m.statements tree

-- each subcircuit of the statements contains a model that is there
abbrev pub Known : List Model → List Statement → Type 0
Known models [] = Unit {0}
Known models (s ∷ ss) = ((c : Subcircuit) → s.kind ≡ OneSubcircuit c → (m : Model) × (model_named models c.model ≡ Some m)) × Known models ss

pub named_among : (ms : List Model) (name : List ℕ) (m : Model) → model_named ms name ≡ Some m → Among ms m × (m.name ≡ name)
named_among [] name m e = absurd (let z : ◌≡◌ {A = Option Model} None (Some m) = e in cc)
named_among (x ∷ xs) name m e = elim (cases_Bool (bytes_eq x.name name)) [
  | inl t ↦ (let s : Some x ≡ Some m = sym (cond-true (bytes_eq x.name name) (Some x) (model_named xs name) t) ∙ e in let same : x ≡ m = cc in (inl same, sym (ap name_of same) ∙ same_word x.name name t))
  | inr t ↦ (let r = named_among xs name m (sym (cond-false (bytes_eq x.name name) (Some x) (model_named xs name) t) ∙ e) in (inr r.0, r.1))
]

pub among_has : (ms : List Model) (m : Model) → Among ms m → has_word (map name_of ms) m.name ≡ true
among_has [] m h = absurd h
among_has (x ∷ xs) m (inl e) = or_left (bytes_eq x.name m.name) (has_word (map name_of xs) m.name) (subst (λ (k : Model). bytes_eq x.name k.name ≡ true) e (word_same x.name))
among_has (x ∷ xs) m (inr h) = or_right (bytes_eq x.name m.name) (has_word (map name_of xs) m.name) (among_has xs m h)

has_among : (ms : List Model) (w : List ℕ) → has_word (map name_of ms) w ≡ true → (m : Model) × Among ms m × (m.name ≡ w)
has_among [] w h = absurd (both_ways false refl h)
has_among (x ∷ xs) w h = elim (or_cases (bytes_eq x.name w) (has_word (map name_of xs) w) h) [
  | inl e ↦ (x, inl refl, same_word x.name w e)
  | inr r ↦ let p = has_among xs w r in (p.0, inr p.1, p.2)
]

among_contents : (ms : List Model) (m : Model) → Among ms m → In (map contents ms) (contents m)
among_contents [] m h = absurd h
among_contents (x ∷ xs) m (inl e) = inl (ap contents e)
among_contents (x ∷ xs) m (inr h) = inr (among_contents xs m h)

-- a model that contains none of these names, or none such
free_or_none : (names : List (List ℕ)) (ms : List Model)
    → ((b : List Model) × (t : Model) × (a : List Model) × (ms ≡ b ++ t ∷ a) × (list_any (has_word names) (contents t).inputs ≡ false)) ⊎ ((m : Model) → Among ms m → list_any (has_word names) (contents m).inputs ≡ true)
free_or_none names [] = inr (λ u h. absurd h)
free_or_none names (t ∷ ts) = go (list_any (has_word names) (contents t).inputs) refl (free_or_none names ts)
  where
    go : (b : Bool) → list_any (has_word names) (contents t).inputs ≡ b
        → (((b : List Model) × (s : Model) × (a : List Model) × (ts ≡ b ++ s ∷ a) × (list_any (has_word names) (contents s).inputs ≡ false)) ⊎ ((m : Model) → Among ts m → list_any (has_word names) (contents m).inputs ≡ true))
        → ((b : List Model) × (s : Model) × (a : List Model) × (t ∷ ts ≡ b ++ s ∷ a) × (list_any (has_word names) (contents s).inputs ≡ false)) ⊎ ((m : Model) → Among (t ∷ ts) m → list_any (has_word names) (contents m).inputs ≡ true)
    go false e r = inl ([], t, ts, refl, e)
    go true e (inl f) = inl (t ∷ f.0, f.1, f.2, ap (λ (l : List Model). t ∷ l) f.3, f.4)
    go true e (inr f) = inr (λ u h. elim h [ inl s ↦ subst (λ (k : Model). list_any (has_word names) (contents k).inputs ≡ true) s e | inr q ↦ f u q ])

among_without : (b : List Model) (t : Model) (a : List Model) (m : Model) → Among (b ++ a) m → Among (b ++ t ∷ a) m
among_without [] t a m h = inr h
among_without (x ∷ xs) t a m (inl e) = inl e
among_without (x ∷ xs) t a m (inr h) = inr (among_without xs t a m h)

-- one of a list is the one that was taken out, or still there
taken_out : (b : List Model) (t : Model) (a : List Model) (m : Model) → Among (b ++ t ∷ a) m → (t ≡ m) ⊎ Among (b ++ a) m
taken_out [] t a m h = h
taken_out (x ∷ xs) t a m (inl e) = inr (inl e)
taken_out (x ∷ xs) t a m (inr h) = elim (taken_out xs t a m h) [ inl e ↦ inl e | inr r ↦ inr (inr r) ]

middle : (b : List Model) (t : Model) (a : List Model) → Among (b ++ t ∷ a) t
middle [] t a = inl refl
middle (x ∷ xs) t a = inr (middle xs t a)

shorter : (b : List Model) (t : Model) (a : List Model) (k : ℕ) → length (b ++ t ∷ a) ≤ suc k → length (b ++ a) ≤ k
shorter [] t a k h = omega arith
shorter (x ∷ []) t a zero h = absurd (omega arith)
shorter (x ∷ y ∷ ys) t a zero h = absurd (omega arith)
shorter (x ∷ xs) t a (suc k) h = let r : length (xs ++ a) ≤ k = shorter xs t a k (omega arith) in omega arith

-- the names of models that statements contain
abbrev contained_in : List Statement → List (List ℕ)
contained_in ss = map model_of (flat_map (λ (s : Statement). subcircuits_in s.kind) ss)

-- each model that the statements contain can be opened
abbrev Openable : List Model → List (List ℕ) → Type 0
Openable models names = (c : Subcircuit) (m : Model) → has_word names c.model ≡ true → model_named models c.model ≡ Some m → HasTree models m

-- statements whose models can be opened can be opened
statements_tree : (models : List Model) (ss : List Statement) → Known models ss → Openable models (contained_in ss) → (tree : Opened) × Opens models ss tree
statements_tree models [] known trees = (End, tt)
statements_tree models (s ∷ ss) known trees = by_kind s.kind refl (λ t. statements_tree models ss known.1 t)
  where
    plain : (kind : StatementKind) → s.kind ≡ kind → is_subcircuit kind ≡ false → subcircuits_in kind ≡ [] → (Openable models (contained_in ss) → (tree : Opened) × Opens models ss tree) → (tree : Opened) × Opens models (s ∷ ss) tree
    plain kind e other none ih =
        let same : contained_in (s ∷ ss) ≡ contained_in ss = ap (λ (l : List Subcircuit). map model_of (l ++ flat_map (λ (s : Statement). subcircuits_in s.kind) ss)) (ap subcircuits_in e ∙ none) in
        let below = ih (λ c m h. trees c m (subst (λ (l : List (List ℕ)). has_word l c.model ≡ true) (sym same) h)) in
        (Plain kind below.0, (e, other, below.1))

    by_kind : (kind : StatementKind) → s.kind ≡ kind → (Openable models (contained_in ss) → (tree : Opened) × Opens models ss tree) → (tree : Opened) × Opens models (s ∷ ss) tree
    by_kind (Inputs ws) e ih = plain (Inputs ws) e refl refl ih
    by_kind (Outputs ws) e ih = plain (Outputs ws) e refl refl ih
    by_kind (Clock ws) e ih = plain (Clock ws) e refl refl ih
    by_kind (OneLatch l) e ih = plain (OneLatch l) e refl refl ih
    by_kind (OneTable t) e ih = plain (OneTable t) e refl refl ih
    by_kind (OneSubcircuit c) e ih =
        let same : contained_in (s ∷ ss) ≡ c.model ∷ contained_in ss = ap (λ (l : List Subcircuit). map model_of (l ++ flat_map (λ (s : Statement). subcircuits_in s.kind) ss)) (ap subcircuits_in e) in
        let there = known.0 c e in
        let inside = trees c there.0 (subst (λ (l : List (List ℕ)). has_word l c.model ≡ true) (sym same) (or_left (bytes_eq c.model c.model) (has_word (contained_in ss) c.model) (word_same c.model))) there.1 in
        let below = ih (λ d m h. trees d m (subst (λ (l : List (List ℕ)). has_word l d.model ≡ true) (sym same) (or_right (bytes_eq c.model d.model) (has_word (contained_in ss) d.model) h))) in
        (Instance c there.0 inside.0 below.0, (e, there.1, inside.1, below.1))

-- Every model can be opened, or a circle is reached.
pub trees_or_circle : (k : ℕ) (models live : List Model) → length live ≤ k → ((m : Model) → Among models m → Known models m.statements) → ((m : Model) → Among live m → Among models m)
    → ((m : Model) → Among models m → Among live m ⊎ HasTree models m)
    → ((m : Model) → Among models m → HasTree models m) ⊎ ((word : List ℕ) × ReachesCircle (map contents models) word)
trees_or_circle k models [] l known sub found = inl (λ m h. elim (found m h) [ inl e ↦ absurd e | inr t ↦ t ])
trees_or_circle zero models (x ∷ xs) l known sub found = absurd (omega arith)
trees_or_circle (suc k) models (x ∷ xs) l known sub found =
    elim (free_or_none (map name_of (x ∷ xs)) (x ∷ xs)) [
      | inl f ↦ (
          let here : Among (x ∷ xs) f.1 = subst (λ (n : List Model). Among n f.1) (sym f.3) (middle f.0 f.1 f.2) in
          let tree : HasTree models f.1 = statements_tree models f.1.statements (known f.1 (sub f.1 here))
          (λ c m h e. (
          let a = named_among models c.model m e in
          elim (found m a.0) [
            | inl still ↦ absurd (both_ways (has_word (map name_of (x ∷ xs)) c.model) (none_at (has_word (map name_of (x ∷ xs))) (contents f.1).inputs c.model f.4 h) (subst (λ (w : List ℕ). has_word (map name_of (x ∷ xs)) w ≡ true) a.1 (among_has (x ∷ xs) m still)))
            | inr t ↦ t
          ])) in
          trees_or_circle k models (f.0 ++ f.2) (shorter f.0 f.1 f.2 k (subst (λ (n : List Model). length n ≤ suc k) f.3 l)) known
          (λ m h. sub m (subst (λ (n : List Model). Among n m) (sym f.3) (among_without f.0 f.1 f.2 m h)))
          (λ m h. elim (found m h) [
            | inl still ↦ elim (taken_out f.0 f.1 f.2 m (subst (λ (n : List Model). Among n m) f.3 still)) [ inl e ↦ inr (subst (λ (n : Model). HasTree models n) e tree) | inr r ↦ inl r ]
            | inr t ↦ inr t
          ]))
      | inr all ↦ inr (x.name, (has_word (map name_of (x ∷ xs)), (λ word h. (let p = has_among (x ∷ xs) word h in (contents p.0, from_in (map contents models) (contents p.0) (among_contents models p.0 (sub p.0 p.1)), p.2, all p.0 p.1))), among_has (x ∷ xs) x (inl refl)))
    ]
