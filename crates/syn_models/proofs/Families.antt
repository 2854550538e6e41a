-- The valuations that are consistent with a flattening are the families of valuations, one for the main model and one for each instance.
use Rattle.std.proofs.Common.{◌≡◌, ℕ, suc, ◌+◌, ◌<◌, ◌≤◌, ◌||◌, ◌==◌, nat_lt, not, if◌then◌else◌, Bool, true, false, List, [], ◌∷◌, ◌++◌, map, bytes_eq, refl, sym, ap, ap₂, ◌∙◌, subst, inl, inr, Option, Some, None, arith}
use Rattle.std.specs.List.{list_any, list_all, AllByRecursion}
use Rattle.std.proofs.lemmas.Bool.{and_parts, and_cases, or_parts, cases_Bool, both_ways, cond-true, cond-false, eq-eqb, ne_eqb, lt-ltb, le-ltb, not_from_false}
use Rattle.std.proofs.lemmas.List.{map-append}
use Rattle.std.proofs.lemmas.List.Elements.{All-from_recursion, recursion_from_All}
use Rattle.syn_netlist.specs.Words.{has_word}
use Rattle.syn_netlist.specs.Lists.{Table, Netlist}
use Rattle.syn_netlist.specs.Covers.{cover_value}
use Rattle.syn_netlist.specs.Values.{table_value}
use Rattle.syn_netlist.proofs.Sets.{map_from_each, all_at, has_head, has_tail}
use Rattle.syn_models.specs.Models.{Bind, Subcircuit, StatementKind, Inputs, Outputs, Clock, OneLatch, OneTable, OneSubcircuit, Statement, Model, all_of, model_named, tables_in, actual_of, actual_in, is_bound, names_in, is_closed}
use Rattle.syn_models.specs.Opening.{Opened, End, Plain, Instance, Opens, instances}
use Rattle.syn_models.specs.Flattening.{inner_name, outer_or, called_inside, as_it_is, flat, tables_called, taken, clashes}
use Rattle.syn_models.specs.Families.{Bound, IsFamily, Agrees, names_inside}
use Rattle.syn_models.specs.Laws.{ValuationsAreFamilies, FamiliesAreValuations, OneValuation}
use Rattle.syn_models.specs.ReadBack.{number_in, name_in}
use Rattle.syn_models.proofs.InnerNames.{number_back, name_back}
use Rattle.syn_models.proofs.Lists.{by_append, by_left, by_right, none_at, none_bound, called_table_value}

-- the valuation gives the table's output what the table gives
abbrev Gives : (List ℕ → Bool) → Table → Type 0
Gives v t = v t.output ≡ table_value t v

-- families that agree on the numbers of the instances

family_same : (f g : ℕ → List ℕ → Bool) (next : ℕ) (own : List ℕ → Bool) (tree : Opened) → ((k : ℕ) → next ≤ k → k < next + instances tree → f k ≡ g k) → IsFamily f next own tree → IsFamily g next own tree
family_same f g next own End same h = tt
family_same f g next own (Plain kind rest) same h = (h.0, family_same f g next own rest same h.1)
family_same f g next own (Instance c m inside rest) same h =
    let here : f next ≡ g next = same next (omega arith) (omega arith) in (
      subst (λ (w : List ℕ → Bool). Bound c.binds own w) here h.0,
      family_same f g (suc next) (g next) inside (λ k a b. same k (omega arith) (omega arith)) (subst (λ (w : List ℕ → Bool). IsFamily f (suc next) w inside) here h.1),
      family_same f g (suc (next + instances inside)) own rest (λ k a b. same k (omega arith) (omega arith)) h.2,
    )

agrees_same : (inner : ℕ → List ℕ → List ℕ) (f g : ℕ → List ℕ → Bool) (next : ℕ) (called : List ℕ → List ℕ) (v : List ℕ → Bool) (tree : Opened) → ((k : ℕ) → next ≤ k → k < next + instances tree → f k ≡ g k)
    → Agrees inner next called v f tree → Agrees inner next called v g tree
agrees_same inner f g next called v End same h = tt
agrees_same inner f g next called v (Plain kind rest) same h = agrees_same inner f g next called v rest same h
agrees_same inner f g next called v (Instance c m inside rest) same h =
    let here : f next ≡ g next = same next (omega arith) (omega arith) in (
      λ name t. sym (ap (λ (w : List ℕ → Bool). w name) here) ∙ h.0 name t,
      agrees_same inner f g (suc next) (called_inside called (inner next) c.binds) v inside (λ k a b. same k (omega arith) (omega arith)) h.1,
      agrees_same inner f g (suc (next + instances inside)) called v rest (λ k a b. same k (omega arith) (omega arith)) h.2,
    )

-- from a valuation to a family

-- one valuation in front of a family, which is of numbers below the bound, and another family behind
abbrev joined : ℕ → ℕ → (List ℕ → Bool) → (ℕ → List ℕ → Bool) → (ℕ → List ℕ → Bool) → ℕ → List ℕ → Bool
joined next bound here inside rest k = if k == next then here else if nat_lt k bound then inside k else rest k

joined_here : (next bound : ℕ) (here : List ℕ → Bool) (inside rest : ℕ → List ℕ → Bool) → joined next bound here inside rest next ≡ here
joined_here next bound here inside rest = cond-true (next == next) here (if nat_lt next bound then inside next else rest next) (eq-eqb next next refl)

joined_inside : (next bound : ℕ) (here : List ℕ → Bool) (inside rest : ℕ → List ℕ → Bool) (k : ℕ) → next < k → k < bound → inside k ≡ joined next bound here inside rest k
joined_inside next bound here inside rest k a b =
    sym (cond-false (k == next) here (if nat_lt k bound then inside k else rest k) (ne_eqb k next (λ e. omega arith)) ∙ cond-true (nat_lt k bound) (inside k) (rest k) (lt-ltb k bound b))

joined_rest : (next bound : ℕ) (here : List ℕ → Bool) (inside rest : ℕ → List ℕ → Bool) (k : ℕ) → next < k → bound ≤ k → rest k ≡ joined next bound here inside rest k
joined_rest next bound here inside rest k a b =
    sym (cond-false (k == next) here (if nat_lt k bound then inside k else rest k) (ne_eqb k next (λ e. omega arith)) ∙ cond-false (nat_lt k bound) (inside k) (rest k) (le-ltb k bound b))

-- tables called otherwise give what the tables give under the valuation of what they are called
plain_holds : (v : List ℕ → Bool) (called : List ℕ → List ℕ) (kind : StatementKind) → AllByRecursion (Gives v) (tables_called called kind) → AllByRecursion (Gives (λ name. v (called name))) (tables_in kind)
plain_holds v called (OneTable t) h = (h.0 ∙ called_table_value called t v, tt)
plain_holds v called (Inputs ws) h = tt
plain_holds v called (Outputs ws) h = tt
plain_holds v called (Clock ws) h = tt
plain_holds v called (OneLatch l) h = tt
plain_holds v called (OneSubcircuit c) h = tt

-- the families of an instance and of what is below it are joined
joined_family : (inner : ℕ → List ℕ → List ℕ) (next : ℕ) (called : List ℕ → List ℕ) (v : List ℕ → Bool) (c : Subcircuit) (m : Model) (inside rest : Opened) (f g : ℕ → List ℕ → Bool)
    → IsFamily f (suc next) (λ name. v (called_inside called (inner next) c.binds name)) inside → Agrees inner (suc next) (called_inside called (inner next) c.binds) v f inside
    → IsFamily g (suc (next + instances inside)) (λ name. v (called name)) rest → Agrees inner (suc (next + instances inside)) called v g rest
    → (family : ℕ → List ℕ → Bool) × IsFamily family next (λ name. v (called name)) (Instance c m inside rest) × Agrees inner next called v family (Instance c m inside rest)
joined_family inner next called v c m inside rest f g in_f in_names under_g under_names = (
  family,
  (
    subst (λ (w : List ℕ → Bool). Bound c.binds (λ name. v (called name)) w) (sym here) bound,
    subst (λ (w : List ℕ → Bool). IsFamily family (suc next) w inside) (sym here) (family_same f family (suc next) own inside in_same in_f),
    family_same g family bound_at (λ name. v (called name)) rest under_same under_g,
  ),
  (
    λ name t. ap (λ (w : List ℕ → Bool). w name) here,
    agrees_same inner f family (suc next) (called_inside called (inner next) c.binds) v inside in_same in_names,
    agrees_same inner g family bound_at called v rest under_same under_names,
  ),
)
  where
    own : List ℕ → Bool
    own = λ name. v (called_inside called (inner next) c.binds name)

    bound : Bound c.binds (λ name. v (called name)) own
    bound formal actual e = ap (λ (o : Option (List ℕ)). v (outer_or called (inner next formal) o)) e

    bound_at : ℕ
    bound_at = suc (next + instances inside)

    family : ℕ → List ℕ → Bool
    family = joined next bound_at own f g

    here : family next ≡ own
    here = joined_here next bound_at own f g

    in_same : (k : ℕ) → suc next ≤ k → k < suc next + instances inside → f k ≡ family k
    in_same k a b = joined_inside next bound_at own f g k (omega arith) (omega arith)

    under_same : (k : ℕ) → bound_at ≤ k → k < bound_at + instances rest → g k ≡ family k
    under_same k a b = joined_rest next bound_at own f g k (omega arith) a

-- each statement holds, and each instance has its valuation: that of what its names are called
family_there : (inner : ℕ → List ℕ → List ℕ) (next : ℕ) (called : List ℕ → List ℕ) (v : List ℕ → Bool) (tree : Opened)
    → AllByRecursion (Gives v) (flat tables_called inner next called tree)
    → (family : ℕ → List ℕ → Bool) × IsFamily family next (λ name. v (called name)) tree × Agrees inner next called v family tree
family_there inner next called v End h = ((λ k name. false), tt, tt)
family_there inner next called v (Plain kind rest) h =
    let below = family_there inner next called v rest (by_right (Gives v) (tables_called called kind) (flat tables_called inner next called rest) h) in
    let here = plain_holds v called kind (by_left (Gives v) (tables_called called kind) (flat tables_called inner next called rest) h) in
    (below.0, (All-from_recursion (Gives (λ name. v (called name))) (tables_in kind) here, below.1), below.2)
family_there inner next called v (Instance c m inside rest) h =
    let parts = flat tables_called inner (suc next) (called_inside called (inner next) c.binds) inside in
    let more = flat tables_called inner (suc (next + instances inside)) called rest in
    let (f, in_f, in_names) = family_there inner (suc next) (called_inside called (inner next) c.binds) v inside (by_left (Gives v) parts more h) in
    let (g, under_g, under_names) = family_there inner (suc (next + instances inside)) called v rest (by_right (Gives v) parts more h) in
    joined_family inner next called v c m inside rest f g in_f in_names under_g under_names

pub valuations_are_families : ValuationsAreFamilies
valuations_are_families models n f v h =
    family_there (inner_name f.count) 1 as_it_is v f.tree
    (subst (λ (n : Netlist). AllByRecursion (Gives v) n.tables) f.is (recursion_from_All (Gives v) n.tables h))

-- from a family to a valuation

-- the names of the statements are among these, and so in each instance
abbrev Closed : List (List ℕ) → Opened → Type 0
Closed names End = Unit {0}
Closed names (Plain kind rest) = (list_all (has_word names) (names_in kind) ≡ true) × Closed names rest
Closed names (Instance c m inside rest) = (list_all (has_word names) (map actual_in c.binds) ≡ true) × Closed m.names inside × Closed names rest

named_closed : (ms : List Model) (name : List ℕ) (m : Model) → list_all is_closed ms ≡ true → model_named ms name ≡ Some m → is_closed m ≡ true
named_closed [] name m h e = absurd (let z : ◌≡◌ {A = Option Model} None (Some m) = e in cc)
named_closed (x ∷ xs) name m h e =
    let parts = and_parts (is_closed x) (list_all is_closed xs) h in
    elim (cases_Bool (bytes_eq x.name name)) [
      | inl t ↦ (let s : Some x ≡ Some m = sym (cond-true (bytes_eq x.name name) (Some x) (model_named xs name) t) ∙ e in let same : x ≡ m = cc in subst (λ (k : Model). is_closed k ≡ true) same parts.0)
      | inr t ↦ named_closed xs name m parts.1 (sym (cond-false (bytes_eq x.name name) (Some x) (model_named xs name) t) ∙ e)
    ]

closed_tree : (models : List Model) (names : List (List ℕ)) (ss : List Statement) (tree : Opened) → list_all is_closed models ≡ true
    → list_all (λ (s : Statement). list_all (has_word names) (names_in s.kind)) ss ≡ true → Opens models ss tree → Closed names tree
closed_tree models names [] End all h o = tt
closed_tree models names [] (Plain kind rest) all h o = absurd o
closed_tree models names [] (Instance c m inside rest) all h o = absurd o
closed_tree models names (s ∷ ss) End all h o = absurd o
closed_tree models names (s ∷ ss) (Plain kind rest) all h o =
    let parts = and_parts (list_all (has_word names) (names_in s.kind)) (list_all (λ (s : Statement). list_all (has_word names) (names_in s.kind)) ss) h in
    (subst (λ (k : StatementKind). list_all (has_word names) (names_in k) ≡ true) o.0 parts.0, closed_tree models names ss rest all parts.1 o.2)
closed_tree models names (s ∷ ss) (Instance c m inside rest) all h o =
    let parts = and_parts (list_all (has_word names) (names_in s.kind)) (list_all (λ (s : Statement). list_all (has_word names) (names_in s.kind)) ss) h in (
      subst (λ (k : StatementKind). list_all (has_word names) (names_in k) ≡ true) o.0 parts.0,
      closed_tree models m.names m.statements inside all (named_closed models c.model m all o.1) o.2,
      closed_tree models names ss rest all parts.1 o.3,
    )

-- the actual of a bound formal is among the actuals, and the formal among the formals
actual_there : (binds : List Bind) (name actual : List ℕ) → actual_of binds name ≡ Some actual → has_word (map actual_in binds) actual ≡ true
actual_there [] name actual e = absurd (let z : ◌≡◌ {A = Option (List ℕ)} None (Some actual) = e in cc)
actual_there (b ∷ bs) name actual e = elim (cases_Bool (bytes_eq b.formal name)) [
  | inl t ↦ (let s : Some b.actual ≡ Some actual = sym (cond-true (bytes_eq b.formal name) (Some b.actual) (actual_of bs name) t) ∙ e in let same : b.actual ≡ actual = cc in subst (λ (w : List ℕ). has_word (b.actual ∷ map actual_in bs) w ≡ true) same (has_head b.actual (map actual_in bs)))
  | inr t ↦ has_tail b.actual actual (map actual_in bs) (actual_there bs name actual (sym (cond-false (bytes_eq b.formal name) (Some b.actual) (actual_of bs name) t) ∙ e))
]

-- what a name of an instance is called has the instance's value
called_value : (v : List ℕ → Bool) (called : List ℕ → List ℕ) (names : List (List ℕ)) (own inside : List ℕ → Bool) (binds : List Bind) (name other : List ℕ)
    → ((x : List ℕ) → has_word names x ≡ true → v (called x) ≡ own x) → list_all (has_word names) (map actual_in binds) ≡ true → Bound binds own inside
    → (is_bound binds name ≡ false → v other ≡ inside name) → v (outer_or called other (actual_of binds name)) ≡ inside name
called_value v called names own inside binds name other same closed bound fresh = by_case (actual_of binds name) refl
  where
    by_case : (o : Option (List ℕ)) → actual_of binds name ≡ o → v (outer_or called other o) ≡ inside name
    by_case None e = fresh (none_bound binds name e)
    by_case (Some actual) e = same actual (all_at (has_word names) (map actual_in binds) actual closed (actual_there binds name actual e)) ∙ sym (bound name actual e)

-- tables called otherwise give what they give under the valuation of their model
plain_gives : (v : List ℕ → Bool) (called : List ℕ → List ℕ) (names : List (List ℕ)) (own : List ℕ → Bool) (kind : StatementKind)
    → ((x : List ℕ) → has_word names x ≡ true → v (called x) ≡ own x) → list_all (has_word names) (names_in kind) ≡ true
    → AllByRecursion (Gives own) (tables_in kind) → AllByRecursion (Gives v) (tables_called called kind)
plain_gives v called names own (OneTable t) same closed h =
    let parts = and_parts (has_word names t.output) (list_all (has_word names) t.inputs) closed in
    let inputs : map (λ name. v (called name)) t.inputs ≡ map own t.inputs = map_from_each (λ name. v (called name)) own t.inputs (λ x i. same x (all_at (has_word names) t.inputs x parts.1 i)) in
    (same t.output parts.0 ∙ h.0 ∙ sym (ap (cover_value t.rows t.on) inputs) ∙ sym (called_table_value called t v), tt)
plain_gives v called names own (Inputs ws) same closed h = tt
plain_gives v called names own (Outputs ws) same closed h = tt
plain_gives v called names own (Clock ws) same closed h = tt
plain_gives v called names own (OneLatch l) same closed h = tt
plain_gives v called names own (OneSubcircuit c) same closed h = tt

-- a valuation that has a family's values at inner names that are not taken
tables_given : (inner : ℕ → List ℕ → List ℕ) (main : List (List ℕ)) (v : List ℕ → Bool) (family : ℕ → List ℕ → Bool) → ((k : ℕ) (x : List ℕ) → has_word main (inner k x) ≡ false → v (inner k x) ≡ family k x)
    → (next : ℕ) (called : List ℕ → List ℕ) (names : List (List ℕ)) (own : List ℕ → Bool) (tree : Opened)
    → ((x : List ℕ) → has_word names x ≡ true → v (called x) ≡ own x) → Closed names tree → clashes main inner next tree ≡ false → IsFamily family next own tree
    → AllByRecursion (Gives v) (flat tables_called inner next called tree) × Agrees inner next called v family tree
tables_given inner main v family free next called names own End same closed apart h = (tt, tt)
tables_given inner main v family free next called names own (Plain kind rest) same closed apart h =
    let below = tables_given inner main v family free next called names own rest same closed.1 apart h.1 in
    let here = plain_gives v called names own kind same closed.0 (recursion_from_All (Gives own) (tables_in kind) h.0) in
    (by_append (Gives v) (tables_called called kind) (flat tables_called inner next called rest) here below.0, below.1)
tables_given inner main v family free next called names own (Instance c m inside rest) same closed apart h =
    let some : Bool = list_any (taken main (inner next) c.binds) m.names in
    let in_it : Bool = clashes main inner (suc next) inside in
    let under : Bool = clashes main inner (suc (next + instances inside)) rest in
    let parts = or_parts some (in_it || under) apart in
    let more = or_parts in_it under parts.1 in
    let values : (x : List ℕ) → has_word m.names x ≡ true → v (called_inside called (inner next) c.binds x) ≡ family next x =
    λ x t. called_value v called names own (family next) c.binds x (inner next x) same closed.0 h.0
    (λ u. elim (and_cases (not (is_bound c.binds x)) (has_word main (inner next x)) (none_at (taken main (inner next) c.binds) m.names x parts.0 t)) [
      | inl e ↦ absurd (both_ways (not (is_bound c.binds x)) e (not_from_false (is_bound c.binds x) u))
      | inr e ↦ free next x e
    ]) in
    let (tables, agree) = tables_given inner main v family free (suc next) (called_inside called (inner next) c.binds) m.names (family next) inside values closed.1 more.0 h.1 in
    let (others, again) = tables_given inner main v family free (suc (next + instances inside)) called names own rest same closed.2 more.1 h.2 in (
      by_append (Gives v) (flat tables_called inner (suc next) (called_inside called (inner next) c.binds) inside) (flat tables_called inner (suc (next + instances inside)) called rest) tables others,
      ((λ x t. sym (values x t)), agree, again),
    )

-- the main model's values at its names, and at any other name those of the instance and the name that it spells
abbrev spelled : List (List ℕ) → ℕ → (List ℕ → Bool) → (ℕ → List ℕ → Bool) → List ℕ → Bool
spelled main count own family name = if has_word main name then own name else family (number_in name) (name_in count name)

pub families_are_valuations : FamiliesAreValuations
families_are_valuations models n f own family closed h =
    let main : List (List ℕ) = models.main.names in
    let v : List ℕ → Bool = spelled main f.count own family in
    let parts = and_parts (is_closed models.main) (list_all is_closed models.others) closed in
    let mine : (x : List ℕ) → has_word main x ≡ true → v x ≡ own x = λ x t. cond-true (has_word main x) (own x) (family (number_in x) (name_in f.count x)) t in
    let free : (k : ℕ) (x : List ℕ) → has_word main (inner_name f.count k x) ≡ false → v (inner_name f.count k x) ≡ family k x =
    λ k x t. cond-false (has_word main (inner_name f.count k x)) (own (inner_name f.count k x)) (family (number_in (inner_name f.count k x)) (name_in f.count (inner_name f.count k x))) t
    ∙ ap₂ family (number_back f.count k x f.slashes.some) (name_back f.count k x f.slashes.some) in
    let (tables, agree) = tables_given (inner_name f.count) main v family free 1 as_it_is main own f.tree mine (closed_tree (all_of models) main models.main.statements f.tree closed parts.0 f.opens) f.slashes.apart h in
    (v, All-from_recursion (Gives v) n.tables (subst (λ (n : Netlist). AllByRecursion (Gives v) n.tables) (sym f.is) tables), mine, agree)

-- valuations that agree with one family are equal at each name

same_called : (v w : List ℕ → Bool) (called : List ℕ → List ℕ) (own : List ℕ → Bool) (names : List (List ℕ)) → ((x : List ℕ) → has_word names x ≡ true → own x ≡ v (called x)) → ((x : List ℕ) → has_word names x ≡ true → own x ≡ w (called x)) → map v (map called names) ≡ map w (map called names)
same_called v w called own [] f g = refl
same_called v w called own (x ∷ xs) f g =
    ap₂ (λ (b : Bool) (bs : List Bool). b ∷ bs) (sym (f x (has_head x xs)) ∙ g x (has_head x xs)) (same_called v w called own xs (λ y t. f y (has_tail x y xs t)) (λ y t. g y (has_tail x y xs t)))

same_inside : (inner : ℕ → List ℕ → List ℕ) (next : ℕ) (called : List ℕ → List ℕ) (v w : List ℕ → Bool) (family : ℕ → List ℕ → Bool) (tree : Opened) → Agrees inner next called v family tree → Agrees inner next called w family tree
    → map v (names_inside inner next called tree) ≡ map w (names_inside inner next called tree)
same_inside inner next called v w family End f g = refl
same_inside inner next called v w family (Plain kind rest) f g = same_inside inner next called v w family rest f g
same_inside inner next called v w family (Instance c m inside rest) f g =
    let own : List ℕ → List ℕ = called_inside called (inner next) c.binds in
    let here : List (List ℕ) = map own m.names in
    let in_it : List (List ℕ) = names_inside inner (suc next) own inside in
    let under : List (List ℕ) = names_inside inner (suc (next + instances inside)) called rest in
    map-append v here (in_it ++ under)
    ∙ ap₂ (λ (a b : List Bool). a ++ b) (same_called v w own (family next) m.names f.0 g.0)
    (map-append v in_it under ∙ ap₂ (λ (a b : List Bool). a ++ b) (same_inside inner (suc next) own v w family inside f.1 g.1) (same_inside inner (suc (next + instances inside)) called v w family rest f.2 g.2) ∙ sym (map-append w in_it under))
    ∙ sym (map-append w here (in_it ++ under))

pub one_valuation : OneValuation
one_valuation models n f v w family f_v f_w = same_inside (inner_name f.count) 1 as_it_is v w family f.tree f_v f_w
