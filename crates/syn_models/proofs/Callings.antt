-- What the names of all instances are called, in a list and in a tree.
use Rattle.std.proofs.Common.{◌≡◌, ℕ, suc, ◌+◌, ◌≤◌, ◌<◌, ◌++◌, ◌||◌, nat_eq, if◌then◌else◌, Bool, true, false, List, [], ◌∷◌, map, flat_map, length, refl, sym, ap, ap₂, ◌∙◌, subst, inl, inr, Some, length-append, arith}
use Rattle.std.specs.List.{list_any}
use Rattle.std.proofs.lemmas.Bool.{cond-true, cond-false}
use Rattle.std.proofs.lemmas.Bool.Decides.{eqb_tells}
use Rattle.std.proofs.lemmas.List.Concat.{flat_map-append}
use Rattle.syn_models.specs.declared.hierarchy.Model as code
use Rattle.syn_models.specs.declared.met.Instance as met
use Rattle.syn_models.specs.Calling.{Calls, clash_among, IsFewest, inner_count}
use Rattle.syn_models.specs.Flattening.{called_inside, inner_name, flat, taken, clashes, AreSlashes}
use Rattle.syn_models.specs.Models.{StatementKind, Statement, Model, model_named}
use Rattle.syn_models.specs.Opening.{Opened, End, Plain, Instance, Opens, instances, words_inside}
use Rattle.syn_models.specs.Views.{model_in}
use Rattle.syn_models.specs.Walking.{Entry, entries_of, parts_of, entry_in, inner_names, Wired}
use Rattle.syn_models.proofs.Existing.{Among, named_among}

pub entries_count : (own next : ℕ) (tree : Opened) → length (entries_of own next tree) ≡ instances tree
entries_count own next End = refl
entries_count own next (Plain kind rest) = entries_count own next rest
entries_count own next (Instance c m inside rest) =
    ap suc (length-append (entries_of next (suc next) inside) (entries_of own (suc (next + instances inside)) rest) ∙ ap₂ (λ (a b : ℕ). a + b) (entries_count next (suc next) inside) (entries_count own (suc (next + instances inside)) rest))

-- the calls of lists put together
calls_parts : (calls inner : ℕ → List ℕ → List ℕ) (next : ℕ) (xs ys : List Entry) → Calls calls inner next (xs ++ ys) → Calls calls inner next xs × Calls calls inner (next + length xs) ys
calls_parts calls inner next [] ys h = (tt, subst (λ (n : ℕ). Calls calls inner n ys) (let e : next ≡ next + 0 = omega arith in e) h)
calls_parts calls inner next (x ∷ xs) ys h =
    let r = calls_parts calls inner (suc next) xs ys h.1 in
    ((h.0, r.0), subst (λ (n : ℕ). Calls calls inner n ys) (let e : suc next + length xs ≡ next + suc (length xs) = omega arith in e) r.1)

-- what opened statements give is what their parts give
pub flat_by_parts : {A : Type 0} (give : (List ℕ → List ℕ) → StatementKind → List A) (calls inner : ℕ → List ℕ → List ℕ) (own next : ℕ) (tree : Opened) → Calls calls inner next (entries_of own next tree)
    → flat give inner next (calls own) tree ≡ flat_map (λ (p : ℕ × StatementKind). give (calls p.0) p.1) (parts_of own next tree)
flat_by_parts give calls inner own next End h = refl
flat_by_parts give calls inner own next (Plain kind rest) h = ap (λ l. give (calls own) kind ++ l) (flat_by_parts give calls inner own next rest h)
flat_by_parts give calls inner own next (Instance c m inside rest) h =
    let parts = calls_parts calls inner (suc next) (entries_of next (suc next) inside) (entries_of own (suc (next + instances inside)) rest) h.1 in
    let after : Calls calls inner (suc (next + instances inside)) (entries_of own (suc (next + instances inside)) rest) =
    subst (λ (n : ℕ). Calls calls inner n (entries_of own (suc (next + instances inside)) rest)) (ap (λ (n : ℕ). suc next + n) (entries_count next (suc next) inside) ∙ (let e : suc next + instances inside ≡ suc (next + instances inside) = omega arith in e)) parts.1 in
    ap (λ (f : List ℕ → List ℕ). flat give inner (suc next) f inside ++ flat give inner (suc (next + instances inside)) (calls own) rest) (sym h.0)
    ∙ ap₂ (λ a b. a ++ b) (flat_by_parts give calls inner next (suc next) inside parts.0) (flat_by_parts give calls inner own (suc (next + instances inside)) rest after)
    ∙ sym (flat_map-append (λ (p : ℕ × StatementKind). give (calls p.0) p.1) (parts_of next (suc next) inside) (parts_of own (suc (next + instances inside)) rest))

-- clashes, in a list and in a tree

or_assoc : (a b c : Bool) → ((a || b) || c) ≡ (a || (b || c))
or_assoc true b c = refl
or_assoc false b c = refl

clash_append : (names : List (List ℕ)) (inner : ℕ → List ℕ → List ℕ) (next : ℕ) (xs ys : List Entry) → clash_among names inner next (xs ++ ys) ≡ (clash_among names inner next xs || clash_among names inner (next + length xs) ys)
clash_append names inner next [] ys = ap (λ (n : ℕ). clash_among names inner n ys) (let e : next ≡ next + 0 = omega arith in e)
clash_append names inner next (x ∷ xs) ys =
    ap (λ (b : Bool). list_any (taken names (inner next) x.binds) x.inside.names || b)
    (clash_append names inner (suc next) xs ys ∙ ap (λ (n : ℕ). clash_among names inner (suc next) xs || clash_among names inner n ys) (let e : suc next + length xs ≡ next + suc (length xs) = omega arith in e))
    ∙ sym (or_assoc (list_any (taken names (inner next) x.binds) x.inside.names) (clash_among names inner (suc next) xs) (clash_among names inner (next + suc (length xs)) ys))

pub clash_by_entries : (names : List (List ℕ)) (inner : ℕ → List ℕ → List ℕ) (own next : ℕ) (tree : Opened) → clashes names inner next tree ≡ clash_among names inner next (entries_of own next tree)
clash_by_entries names inner own next End = refl
clash_by_entries names inner own next (Plain kind rest) = clash_by_entries names inner own next rest
clash_by_entries names inner own next (Instance c m inside rest) =
    ap (λ (b : Bool). list_any (taken names (inner next) c.binds) m.names || b)
    (ap₂ (λ (a b : Bool). a || b) (clash_by_entries names inner next (suc next) inside) (clash_by_entries names inner own (suc (next + instances inside)) rest)
    ∙ ap (λ (n : ℕ). clash_among names inner (suc next) (entries_of next (suc next) inside) || clash_among names inner n (entries_of own (suc (next + instances inside)) rest))
    (let e : suc (next + instances inside) ≡ suc next + instances inside = omega arith in e ∙ ap (λ (n : ℕ). suc next + n) (sym (entries_count next (suc next) inside)))
    ∙ sym (clash_append names inner (suc next) (entries_of next (suc next) inside) (entries_of own (suc (next + instances inside)) rest)))

pub slashes_by_entries : (main : Model) (tree : Opened) (list : List Entry) (count : ℕ) → entries_of 0 1 tree ≡ list → IsFewest main.names list count → AreSlashes main tree count
slashes_by_entries main tree list count e f =
    let same : (n : ℕ) → clashes main.names (inner_name n) 1 tree ≡ clash_among main.names (inner_name n) 1 list = λ n. clash_by_entries main.names (inner_name n) 0 1 tree ∙ ap (clash_among main.names (inner_name n) 1) e in
    record { some = f.some; apart = same count ∙ f.apart; fewest = λ n a b. same n ∙ f.fewest n a b }

-- there are calls for instances each of which stands in one before it

abbrev called_with : (ℕ → List ℕ → List ℕ) → ℕ → (List ℕ → List ℕ) → ℕ → List ℕ → List ℕ
called_with calls k f j = if nat_eq j k then f else calls j

called_here : (calls : ℕ → List ℕ → List ℕ) (k : ℕ) (f : List ℕ → List ℕ) → called_with calls k f k ≡ f
called_here calls k f = elim (eqb_tells k k) [
  | inl (t, e) ↦ cond-true (nat_eq k k) f (calls k) t
  | inr (t, e) ↦ absurd (e refl)
]

called_there : (calls : ℕ → List ℕ → List ℕ) (k : ℕ) (f : List ℕ → List ℕ) (j : ℕ) → j < k → called_with calls k f j ≡ calls j
called_there calls k f j l = elim (eqb_tells j k) [
  | inl (t, e) ↦ absurd (omega (arith, e))
  | inr (t, e) ↦ cond-false (nat_eq j k) f (calls j) t
]

abbrev called_all : (ℕ → List ℕ → List ℕ) → (ℕ → List ℕ → List ℕ) → ℕ → List Entry → ℕ → List ℕ → List ℕ
called_all inner calls next [] = calls
called_all inner calls next (e ∷ es) = called_all inner (called_with calls next (called_inside (calls e.outer) (inner next) e.binds)) (suc next) es

called_before : (inner calls : ℕ → List ℕ → List ℕ) (next : ℕ) (es : List Entry) (j : ℕ) → j < next → called_all inner calls next es j ≡ calls j
called_before inner calls next [] j l = refl
called_before inner calls next (e ∷ es) j l =
    let f : List ℕ → List ℕ = called_inside (calls e.outer) (inner next) e.binds in
    called_before inner (called_with calls next f) (suc next) es j (omega arith) ∙ called_there calls next f j l

-- each instance stands in the main model or in one before it
abbrev Rises : ℕ → List Entry → Type 0
Rises next [] = Unit {0}
Rises next (e ∷ es) = (e.outer < next) × Rises (suc next) es

calls_there : (inner calls : ℕ → List ℕ → List ℕ) (next : ℕ) (es : List Entry) → Rises next es → Calls (called_all inner calls next es) inner next es
calls_there inner calls next [] r = tt
calls_there inner calls next (e ∷ es) r =
    let f : List ℕ → List ℕ = called_inside (calls e.outer) (inner next) e.binds in
    let more : ℕ → List ℕ → List ℕ = called_with calls next f in
    let here : called_all inner more (suc next) es next ≡ f = called_before inner more (suc next) es next (omega arith) ∙ called_here calls next f in
    let outer : called_all inner more (suc next) es e.outer ≡ calls e.outer = called_before inner more (suc next) es e.outer (let l = r.0 in omega arith) ∙ called_there calls next f e.outer r.0 in
    (here ∙ ap (λ (g : List ℕ → List ℕ). called_inside g (inner next) e.binds) (sym outer), calls_there inner more (suc next) es r.1)

wired_rises : (homes : List (List (List ℕ))) (list : List met.Instance) → Wired homes list → Rises (length homes) (map entry_in list)
wired_rises homes [] w = tt
wired_rises homes (i ∷ is) w = (
  w.0.below,
  subst (λ (n : ℕ). Rises n (map entry_in is)) (length-append homes (inner_names i ∷ []) ∙ (let e : length homes + 1 ≡ suc (length homes) = omega arith in e)) (wired_rises (homes ++ inner_names i ∷ []) is w.1),
)

pub record AreCalls (inner : ℕ → List ℕ → List ℕ) (first : List ℕ → List ℕ) (list : List Entry) : Type 0 where
  pub calls : ℕ → List ℕ → List ℕ
  pub begins : calls 0 ≡ first
  pub goes : Calls calls inner 1 list

pub calls_exist : (inner : ℕ → List ℕ → List ℕ) (first : List ℕ → List ℕ) (names : List (List ℕ)) (list : List met.Instance) → Wired (names ∷ []) list → AreCalls inner first (map entry_in list)
calls_exist inner first names list w =
    let start : ℕ → List ℕ → List ℕ = λ k. first in
    record {
      calls = called_all inner start 1 (map entry_in list);
      begins = called_before inner start 1 (map entry_in list) 0 (omega arith);
      goes = calls_there inner start 1 (map entry_in list) (wired_rises (names ∷ []) list w);
    }

-- there are no more names than words

abbrev entry_names : List Entry → ℕ
entry_names [] = 0
entry_names (e ∷ es) = length e.inside.names + entry_names es

names_append : (xs ys : List Entry) → entry_names (xs ++ ys) ≡ entry_names xs + entry_names ys
names_append [] ys = (let e : entry_names ys ≡ 0 + entry_names ys = omega arith in e)
names_append (x ∷ xs) ys = ap (λ (n : ℕ). length x.inside.names + n) (names_append xs ys) ∙ (let e : length x.inside.names + (entry_names xs + entry_names ys) ≡ length x.inside.names + entry_names xs + entry_names ys = omega arith in e)

names_bound : (models : List Model) (own next : ℕ) (ss : List Statement) (tree : Opened) → ((name : List ℕ) (m : Model) → model_named models name ≡ Some m → length m.names ≤ m.words) → Opens models ss tree → entry_names (entries_of own next tree) ≤ words_inside tree
names_bound models own next [] End h o = omega arith
names_bound models own next [] (Plain kind rest) h o = absurd o
names_bound models own next [] (Instance c m inside rest) h o = absurd o
names_bound models own next (s ∷ ss) End h o = absurd o
names_bound models own next (s ∷ ss) (Plain kind rest) h o = names_bound models own next ss rest h o.2
names_bound models own next (s ∷ ss) (Instance c m inside rest) h o =
    let here = h c.model m o.1 in
    let in' = names_bound models next (suc next) m.statements inside h o.2 in
    let below = names_bound models own (suc (next + instances inside)) ss rest h o.3 in
    omega (arith, names_append (entries_of next (suc next) inside) (entries_of own (suc (next + instances inside)) rest))

inner_counted : (list : List met.Instance) → entry_names (map entry_in list) ≡ inner_count list
inner_counted [] = refl
inner_counted (i ∷ is) = ap (λ (n : ℕ). length (inner_names i) + n) (inner_counted is)

counted_among : (ms : List code.Model) (m : Model) → Among (map model_in ms) m → length m.names ≤ m.words
counted_among [] m h = absurd h
counted_among (x ∷ xs) m (inl e) = subst (λ (k : Model). length k.names ≤ k.words) e x.counted
counted_among (x ∷ xs) m (inr h) = counted_among xs m h

pub few_names : (ms : List code.Model) (ss : List Statement) (tree : Opened) (list : List met.Instance) → Opens (map model_in ms) ss tree → entries_of 0 1 tree ≡ map entry_in list → inner_count list ≤ words_inside tree
few_names ms ss tree list o e =
    let bound = names_bound (map model_in ms) 0 1 ss tree (λ name m n. counted_among ms m (named_among (map model_in ms) name m n).0) o in
    let count : entry_names (entries_of 0 1 tree) ≡ inner_count list = ap entry_names e ∙ inner_counted list in
    omega arith
