-- A turn of the walk keeps what it has met, then what its levels give.
use Rattle.std.proofs.Common.{◌≡◌, ℕ, zero, suc, ◌+◌, ◌≤◌, ◌<◌, ◌++◌, true, false, List, [], ◌∷◌, map, length, drop, get_or, slice_index_or, refl, sym, ap, ap₂, ◌∙◌, subst, inl, inr, ◌⊎◌, Option, Some, None, append_assoc, append-nil, length-append, arith}
use Rattle.std.specs.List.{AllByRecursion, AllZip}
use Rattle.std.proofs.lemmas.Bool.{and_parts, both_ways}
use Rattle.std.proofs.lemmas.List.{map-append, length-map, drop_all, get_or_push, get_or_append_left}
use Rattle.syn_models.specs.declared.hierarchy.Bind as bindings
use Rattle.syn_models.specs.declared.hierarchy.Model as code
use Rattle.syn_models.specs.declared.hierarchy.Statement as statements
use Rattle.syn_models.specs.declared.hierarchy.StatementKind as numbered
use Rattle.syn_models.specs.declared.hierarchy.StatementKind.TheVariants as kinds
use Rattle.syn_models.specs.declared.hierarchy.Subcircuit as subcircuits
use Rattle.syn_models.specs.declared.met.Place.{Place}
use Rattle.syn_models.specs.declared.met.Instance as met
use Rattle.syn_models.specs.declared.met.Part.{Part}
use Rattle.syn_models.specs.declared.met.Level.{Level}
use Rattle.syn_netlist.specs.declared.Latch.{Latch}
use Rattle.syn_lists.specs.declared.items.Items.{Items}
use Rattle.syn_netlist.specs.declared.tables.Table.{Table}
use Rattle.syn_netlist.specs.Numbers.{all_below}
use Rattle.syn_models.specs.Kept.{bind_in, kind_in, numbers_in, statement_in, statements_below, subcircuit_in}
use Rattle.syn_models.specs.Models.{StatementKind, Statement, OneSubcircuit, Model, model_named}
use Rattle.syn_models.specs.Models as plain
use Rattle.syn_models.specs.Opening.{Opened, End, Plain, Instance, Opens, instances, is_subcircuit}
use Rattle.syn_models.specs.Views.{model_in}
use Rattle.syn_models.specs.Walking.{Entry, entries_of, parts_of, entry_in, part_in, inner_names, homes_of, Homed, Wired, statements_left, Pending, instances_left, left_of, Stands, HomedPart, HomedLevel, IsWalk, IsWalked}
use Rattle.syn_models.proofs.Lists.{by_append, by_left, by_right}
use Rattle.syn_models.proofs.Listing.{left_from}

-- the highest level gives first

left_count : (ps : List Pending) (p : Pending) → instances_left (ps ++ p ∷ []) ≡ instances p.rest + instances_left ps
left_count [] p = (let e : 0 + instances p.rest ≡ instances p.rest + 0 = omega arith in e)
left_count (q ∷ qs) p = ap (λ (n : ℕ). n + instances q.rest) (left_count qs p) ∙ (let e : instances p.rest + instances_left qs + instances q.rest ≡ instances p.rest + (instances_left qs + instances q.rest) = omega arith in e)

left_push : {A : Type 0} (gives : ℕ → ℕ → Opened → List A) (next : ℕ) (ps : List Pending) (p : Pending) → left_of gives next (ps ++ p ∷ []) ≡ gives p.own next p.rest ++ left_of gives (next + instances p.rest) ps
left_push gives next [] p = ap (λ (n : ℕ). gives p.own n p.rest) (let e : next + 0 ≡ next = omega arith in e) ∙ sym (append-nil (gives p.own next p.rest))
left_push gives next (q ∷ qs) p =
    ap₂ (λ l (n : ℕ). l ++ gives q.own n q.rest) (left_push gives next qs p) (ap (λ (n : ℕ). next + n) (left_count qs p) ∙ (let e : next + (instances p.rest + instances_left qs) ≡ next + instances p.rest + instances_left qs = omega arith in e))
    ∙ append_assoc (gives p.own next p.rest) (left_of gives (next + instances p.rest) qs) (gives q.own (next + instances p.rest + instances_left qs) q.rest)

abbrev pending : ℕ → Opened → Pending
pending own rest = record { own = own; rest = rest }

abbrev entry : ℕ → List plain.Bind → Model → Entry
entry outer binds inside = record { outer = outer; binds = binds; inside = inside }

ends : {A : Type 0} (gives : ℕ → ℕ → Opened → List A) (next own : ℕ) (ps : List Pending) → gives own next End ≡ [] → left_of gives next (ps ++ pending own End ∷ []) ≡ left_of gives next ps
ends gives next own ps e = left_push gives next ps (pending own End) ∙ ap₂ (λ l (n : ℕ). l ++ left_of gives n ps) e (let f : next + 0 ≡ next = omega arith in f)

goes_entries : (next own : ℕ) (kind : StatementKind) (rest : Opened) (ps : List Pending) → left_of entries_of next (ps ++ pending own (Plain kind rest) ∷ []) ≡ left_of entries_of next (ps ++ pending own rest ∷ [])
goes_entries next own kind rest ps = left_push entries_of next ps (pending own (Plain kind rest)) ∙ sym (left_push entries_of next ps (pending own rest))

goes_parts : (next own : ℕ) (kind : StatementKind) (rest : Opened) (ps : List Pending) → left_of parts_of next (ps ++ pending own (Plain kind rest) ∷ []) ≡ (own, kind) ∷ left_of parts_of next (ps ++ pending own rest ∷ [])
goes_parts next own kind rest ps = left_push parts_of next ps (pending own (Plain kind rest)) ∙ ap (λ (l : List (ℕ × StatementKind)). (own, kind) ∷ l) (sym (left_push parts_of next ps (pending own rest)))

-- what the two levels of a subcircuit give together
enters : {A : Type 0} (gives : ℕ → ℕ → Opened → List A) (next own : ℕ) (inside rest : Opened) (ps : List Pending)
    → left_of gives (suc next) ((ps ++ pending own rest ∷ []) ++ pending next inside ∷ [])
    ≡ (gives next (suc next) inside ++ gives own (suc (next + instances inside)) rest) ++ left_of gives (next + suc (instances inside + instances rest)) ps
enters gives next own inside rest ps =
    left_push gives (suc next) (ps ++ pending own rest ∷ []) (pending next inside)
    ∙ ap (λ l. gives next (suc next) inside ++ l) (left_push gives (suc next + instances inside) ps (pending own rest))
    ∙ sym (append_assoc (gives next (suc next) inside) (gives own (suc next + instances inside) rest) (left_of gives (suc next + instances inside + instances rest) ps))
    ∙ ap₂ (λ (j k : ℕ). (gives next (suc next) inside ++ gives own j rest) ++ left_of gives k ps)
    (let e : suc next + instances inside ≡ suc (next + instances inside) = omega arith in e)
    (let e : suc next + instances inside + instances rest ≡ next + suc (instances inside + instances rest) = omega arith in e)

enters_entries : (next own : ℕ) (c : plain.Subcircuit) (m : Model) (inside rest : Opened) (ps : List Pending)
    → left_of entries_of next (ps ++ pending own (Instance c m inside rest) ∷ [])
    ≡ record { outer = own; binds = c.binds; inside = m } ∷ left_of entries_of (suc next) ((ps ++ pending own rest ∷ []) ++ pending next inside ∷ [])
enters_entries next own c m inside rest ps =
    left_push entries_of next ps (pending own (Instance c m inside rest))
    ∙ ap (λ (l : List Entry). record { outer = own; binds = c.binds; inside = m } ∷ l) (sym (enters entries_of next own inside rest ps))

enters_parts : (next own : ℕ) (c : plain.Subcircuit) (m : Model) (inside rest : Opened) (ps : List Pending)
    → left_of parts_of next (ps ++ pending own (Instance c m inside rest) ∷ []) ≡ left_of parts_of (suc next) ((ps ++ pending own rest ∷ []) ++ pending next inside ∷ [])
enters_parts next own c m inside rest ps = left_push parts_of next ps (pending own (Instance c m inside rest)) ∙ sym (enters parts_of next own inside rest ps)

-- pairs of lists from their ends

zip_push : {A B : Type 0} (R : A → B → Type 0) (xs : List A) (ys : List B) (x : A) (y : B) → AllZip R xs ys → R x y → AllZip R (xs ++ x ∷ []) (ys ++ y ∷ [])
zip_push R [] [] x y a r = (r, tt)
zip_push R [] (z ∷ ys) x y a r = absurd a
zip_push R (w ∷ xs) [] x y a r = absurd a
zip_push R (w ∷ xs) (z ∷ ys) x y a r = (a.0, zip_push R xs ys x y a.1 r)

record Ends {A B : Type 0} (R : A → B → Type 0) (xs : List A) (x : A) (ys : List B) : Type 0 where
  pub front : List B
  pub last : B
  pub is : ys ≡ front ++ last ∷ []
  pub below : AllZip R xs front
  pub here : R x last

zip_pop : {A B : Type 0} (R : A → B → Type 0) (xs : List A) (x : A) (ys : List B) → AllZip R (xs ++ x ∷ []) ys → Ends R xs x ys
zip_pop R [] x [] a = absurd a
zip_pop R [] x (y ∷ []) a = record { front = []; last = y; is = refl; below = tt; here = a.0 }
zip_pop R [] x (y ∷ z ∷ ys) a = absurd a.1
zip_pop R (w ∷ xs) x [] a = absurd a
zip_pop R (w ∷ xs) x (y ∷ ys) a =
    let r = zip_pop R xs x ys a.1 in
    record { front = y ∷ r.front; last = r.last; is = ap (λ l. y ∷ l) r.is; below = (a.0, r.below); here = r.here }

-- places keep their homes as instances are met

homed_more : (homes : List (List (List ℕ))) (names : List (List ℕ)) (p : Place) → Homed homes p → Homed (homes ++ names ∷ []) p
homed_more homes names p h = record {
  below = (let b = h.below in omega (arith, length-append homes (names ∷ [])));
  names = get_or_append_left homes (names ∷ []) [] p.number h.below ∙ h.names;
}

homes_push : (main : code.Model) (list : List met.Instance) (i : met.Instance) → homes_of main (list ++ i ∷ []) ≡ homes_of main list ++ inner_names i ∷ []
homes_push main list i = ap (λ (l : List (List (List ℕ))). main.names ∷ l) (map-append inner_names list (i ∷ []))

parts_more : (homes : List (List (List ℕ))) (names : List (List ℕ)) (ps : List Part) → AllByRecursion (HomedPart homes) ps → AllByRecursion (HomedPart (homes ++ names ∷ [])) ps
parts_more homes names [] a = tt
parts_more homes names (p ∷ ps) a = (homed_more homes names p.place a.0, parts_more homes names ps a.1)

levels_more : (homes : List (List (List ℕ))) (names : List (List ℕ)) (ls : List Level) → AllByRecursion (HomedLevel homes) ls → AllByRecursion (HomedLevel (homes ++ names ∷ [])) ls
levels_more homes names [] a = tt
levels_more homes names (l ∷ ls) a = (homed_more homes names l.place a.0, levels_more homes names ls a.1)

wired_push : (homes : List (List (List ℕ))) (list : List met.Instance) (i : met.Instance) → Wired homes list → Homed (homes ++ map inner_names list) i.outer → Wired homes (list ++ i ∷ [])
wired_push homes [] i w h = (subst (λ (l : List (List (List ℕ))). Homed l i.outer) (append-nil homes) h, tt)
wired_push homes (x ∷ xs) i w h = (w.0, wired_push (homes ++ inner_names x ∷ []) xs i w.1 (subst (λ (l : List (List (List ℕ))). Homed l i.outer) (sym (append_assoc homes (inner_names x ∷ []) (map inner_names xs))) h))

-- the last home is that of the newest instance
last_home : (main : code.Model) (list : List met.Instance) (i : met.Instance) (p : Place) → p.number ≡ suc (length list) → p.home.now.names ≡ inner_names i → Homed (homes_of main list ++ inner_names i ∷ []) p
last_home main list i p e f = record {
  below = omega (arith, length-append (homes_of main list) (inner_names i ∷ []), length-map list inner_names, e);
  names = get_or_push (homes_of main list) (inner_names i) [] p.number (ap suc (length-map list inner_names) ∙ sym e) ∙ sym f;
}

-- what a level gives next

level_on : (l k : Level) (s : statements.Statement) → k.place ≡ l.place → k.at ≡ l.at + 1 → l.at < length l.place.home.now.statements → s ≡ get_or l.place.home.now.statements l.at s
    → statements_left l ≡ statement_in l.place.home.now.names s ∷ statements_left k
level_on l k s p a inside is =
    ap (map (statement_in l.place.home.now.names)) (left_from l.place.home.now.statements l.at s inside is)
    ∙ ap (λ (rest : List Statement). statement_in l.place.home.now.names s ∷ rest)
    (ap₂ (λ (q : Place) (n : ℕ). map (statement_in q.home.now.names) (drop n q.home.now.statements)) (sym p) (sym a))

level_ends : (models : List Model) (l : Level) (tree : Opened) → length l.place.home.now.statements ≤ l.at → Opens models (statements_left l) tree → tree ≡ End
level_ends models l tree none o = go tree (subst (λ (ss : List statements.Statement). Opens models (map (statement_in l.place.home.now.names) ss) tree) (drop_all l.at l.place.home.now.statements none) o)
  where
    go : (t : Opened) → Opens models [] t → t ≡ End
    go End o = refl
    go (Plain kind rest) o = absurd o
    go (Instance c m inside rest) o = absurd o

record OpensPlain (models : List Model) (kind : StatementKind) (ss : List Statement) (tree : Opened) : Type 0 where
  pub rest : Opened
  pub is : tree ≡ Plain kind rest
  pub opens : Opens models ss rest

opens_plain : (models : List Model) (s : Statement) (ss : List Statement) (tree : Opened) → is_subcircuit s.kind ≡ false → Opens models (s ∷ ss) tree → OpensPlain models s.kind ss tree
opens_plain models s ss End p o = absurd o
opens_plain models s ss (Plain kind rest) p o = record { rest = rest; is = ap (λ (k : StatementKind). Plain k rest) (sym o.0); opens = o.2 }
opens_plain models s ss (Instance c m inside rest) p o = absurd (both_ways (is_subcircuit s.kind) p (ap is_subcircuit o.0))

record OpensInstance (models : List Model) (c : plain.Subcircuit) (ss : List Statement) (tree : Opened) : Type 0 where
  pub inside : Opened
  pub rest : Opened
  pub m : Model
  pub is : tree ≡ Instance c m inside rest
  pub named : model_named models c.model ≡ Some m
  pub opens : Opens models m.statements inside
  pub below : Opens models ss rest

opens_instance : (models : List Model) (s : Statement) (c : plain.Subcircuit) (ss : List Statement) (tree : Opened) → s.kind ≡ OneSubcircuit c → Opens models (s ∷ ss) tree → OpensInstance models c ss tree
opens_instance models s c ss End e o = absurd o
opens_instance models s c ss (Plain kind rest) e o = absurd (both_ways (is_subcircuit kind) o.1 (sym (ap is_subcircuit o.0) ∙ ap is_subcircuit e))
opens_instance models s c ss (Instance d m inside rest) e o =
    let kinds : OneSubcircuit d ≡ OneSubcircuit c = sym o.0 ∙ e in
    let same : d ≡ c = cc in
    record { inside = inside; rest = rest; m = m; is = ap (λ (x : plain.Subcircuit). Instance x m inside rest) same; named = ap (λ (x : plain.Subcircuit). model_named models x.model) (sym same) ∙ o.1; opens = o.2; below = o.3 }

-- the turns

walk_pop : (models : List Model) (main : code.Model) (list : List met.Instance) (parts : List Part) (ls : List Level) (l : Level) (h : IsWalk models main list parts (ls ++ l ∷ [])) → Ends (Stands models) ls l h.pending
walk_pop models main list parts ls l h = zip_pop (Stands models) ls l h.pending h.stands

pub turn_ends : (models : List Model) (main : code.Model) (list : List met.Instance) (parts : List Part) (ls : List Level) (l : Level) → length l.place.home.now.statements ≤ l.at → IsWalk models main list parts (ls ++ l ∷ []) → IsWalk models main list parts ls
turn_ends models main list parts ls l none h =
    let z = walk_pop models main list parts ls l h in
    let next : ℕ = suc (length list) in
    let ended : h.pending ≡ z.front ++ pending z.last.own End ∷ [] = z.is ∙ ap (λ (t : Opened). z.front ++ pending z.last.own t ∷ []) (level_ends models l z.last.rest none z.here.1) in
    record {
      tree = h.tree;
      opens = h.opens;
      pending = z.front;
      stands = z.below;
      entries = h.entries ∙ ap (λ (l : List Entry). map entry_in list ++ l) (ap (left_of entries_of next) ended ∙ ends entries_of next z.last.own z.front refl);
      met = h.met ∙ ap (λ (l : List (ℕ × StatementKind)). map part_in parts ++ l) (ap (left_of parts_of next) ended ∙ ends parts_of next z.last.own z.front refl);
      wired = h.wired;
      homed = h.homed;
      open_homed = by_left (HomedLevel (homes_of main list)) ls (l ∷ []) h.open_homed;
    }

pub turn_plain : (models : List Model) (main : code.Model) (list : List met.Instance) (parts new : List Part) (ls : List Level) (l k : Level) (s : statements.Statement) (part : Part)
    → k.place ≡ l.place → k.at ≡ l.at + 1 → l.at < length l.place.home.now.statements → s ≡ get_or l.place.home.now.statements l.at s → is_subcircuit (kind_in l.place.home.now.names s.kind) ≡ false
    → part.place ≡ l.place → part.kind.now ≡ s.kind → new ≡ parts ++ part ∷ [] → IsWalk models main list parts (ls ++ l ∷ []) → IsWalk models main list new (ls ++ k ∷ [])
turn_plain models main list parts new ls l k s part place at inside is plain home kind e h =
    let z = walk_pop models main list parts ls l h in
    let next : ℕ = suc (length list) in
    let names : List (List ℕ) = l.place.home.now.names in
    let own : ℕ = z.last.own in
    let first : Statement = statement_in names s in
    let o : Opens models (first ∷ statements_left k) z.last.rest = subst (λ (ss : List Statement). Opens models ss z.last.rest) (level_on l k s place at inside is) z.here.1 in
    let p = opens_plain models first (statements_left k) z.last.rest plain o in
    let was : h.pending ≡ z.front ++ pending own (Plain first.kind p.rest) ∷ [] = z.is ∙ ap (λ (t : Opened). z.front ++ pending own t ∷ []) p.is in
    let said : part_in part ≡ (own, first.kind) =
    ap₂ (λ (q : Place) (x : numbered.StatementKind). (q.number, kind_in q.home.now.names x)) home kind ∙ ap (λ (n : ℕ). (n, first.kind)) z.here.0 in
    let more : map part_in new ≡ map part_in parts ++ (own, first.kind) ∷ [] = ap (map part_in) e ∙ map-append part_in parts (part ∷ []) ∙ ap (λ (x : ℕ × StatementKind). map part_in parts ++ x ∷ []) said in
    let rest : List (ℕ × StatementKind) = left_of parts_of next (z.front ++ pending own p.rest ∷ []) in
    let homed_here : Homed (homes_of main list) l.place = (by_right (HomedLevel (homes_of main list)) ls (l ∷ []) h.open_homed).0 in
    record {
      tree = h.tree;
      opens = h.opens;
      pending = z.front ++ pending own p.rest ∷ [];
      stands = zip_push (Stands models) ls z.front k (pending own p.rest) z.below (ap (λ (q : Place). q.number) place ∙ z.here.0, p.opens);
      entries = h.entries ∙ ap (λ (l : List Entry). map entry_in list ++ l) (ap (left_of entries_of next) was ∙ goes_entries next own first.kind p.rest z.front);
      met =
          h.met ∙ ap (λ (l : List (ℕ × StatementKind)). map part_in parts ++ l) (ap (left_of parts_of next) was ∙ goes_parts next own first.kind p.rest z.front)
          ∙ sym (append_assoc (map part_in parts) ((own, first.kind) ∷ []) rest) ∙ ap (λ (l : List (ℕ × StatementKind)). l ++ rest) (sym more);
      wired = h.wired;
      homed = subst (AllByRecursion (HomedPart (homes_of main list))) (sym e) (by_append (HomedPart (homes_of main list)) parts (part ∷ []) h.homed (subst (Homed (homes_of main list)) (sym home) homed_here, tt));
      open_homed = by_append (HomedLevel (homes_of main list)) ls (k ∷ []) (by_left (HomedLevel (homes_of main list)) ls (l ∷ []) h.open_homed) (subst (Homed (homes_of main list)) (sym place) homed_here, tt);
    }

pub turn_enters : (models : List Model) (main inner : code.Model) (list new : List met.Instance) (parts : List Part) (ls : List Level) (l k n : Level) (s : statements.Statement) (c : subcircuits.Subcircuit) (i : met.Instance)
    → k.place ≡ l.place → k.at ≡ l.at + 1 → l.at < length l.place.home.now.statements → s ≡ get_or l.place.home.now.statements l.at s → s.kind ≡ kinds.Subckt c
    → model_named models c.model ≡ Some (model_in inner) → i.outer ≡ l.place → i.binds.now ≡ c.binds → i.inside.now ≡ inner → n.place.number ≡ suc (length list) → n.place.home.now ≡ inner → n.at ≡ 0
    → new ≡ list ++ i ∷ [] → IsWalk models main list parts (ls ++ l ∷ []) → IsWalk models main new parts ((ls ++ k ∷ []) ++ n ∷ [])
turn_enters models main inner list new parts ls l k n s c i place at inside is kind named outer binds inner_is number home none e h =
    let z = walk_pop models main list parts ls l h in
    let next : ℕ = suc (length list) in
    let names : List (List ℕ) = l.place.home.now.names in
    let own : ℕ = z.last.own in
    let first : Statement = statement_in names s in
    let sub : plain.Subcircuit = subcircuit_in names c in
    let o : Opens models (first ∷ statements_left k) z.last.rest = subst (λ (ss : List Statement). Opens models ss z.last.rest) (level_on l k s place at inside is) z.here.1 in
    let p = opens_instance models first sub (statements_left k) z.last.rest (ap (kind_in names) kind) o in
    let was : h.pending ≡ z.front ++ pending own (Instance sub p.m p.inside p.rest) ∷ [] = z.is ∙ ap (λ (t : Opened). z.front ++ pending own t ∷ []) p.is in
    let both : Some (model_in inner) ≡ Some p.m = sym named ∙ p.named in
    let m_is : model_in inner ≡ p.m = cc in
    let said : entry_in i ≡ record { outer = own; binds = sub.binds; inside = p.m } =
    ap₂ (λ (q : Place) (b : List bindings.Bind). entry q.number (map (bind_in q.home.now.names) b) (model_in i.inside.now)) outer binds
    ∙ ap₂ (λ (a : ℕ) (m : Model). entry a sub.binds m) z.here.0 (ap model_in inner_is ∙ m_is) in
    let more : map entry_in new ≡ map entry_in list ++ entry own sub.binds p.m ∷ [] = ap (map entry_in) e ∙ map-append entry_in list (i ∷ []) ∙ ap (λ (x : Entry). map entry_in list ++ x ∷ []) said in
    let count : length new ≡ next = ap length e ∙ length-append list (i ∷ []) ∙ (let a : length list + 1 ≡ suc (length list) = omega arith in a) in
    let later : List Pending = (z.front ++ pending own p.rest ∷ []) ++ pending next p.inside ∷ [] in
    let homes : homes_of main new ≡ homes_of main list ++ inner_names i ∷ [] = ap (homes_of main) e ∙ homes_push main list i in
    let homed_here : Homed (homes_of main list) l.place = (by_right (HomedLevel (homes_of main list)) ls (l ∷ []) h.open_homed).0 in
    let fresh : Homed (homes_of main list ++ inner_names i ∷ []) n.place = last_home main list i n.place number (ap (λ (m : code.Model). m.names) (home ∙ sym inner_is)) in
    let levels_homed : AllByRecursion (HomedLevel (homes_of main list ++ inner_names i ∷ [])) ((ls ++ k ∷ []) ++ n ∷ []) =
    by_append (HomedLevel (homes_of main list ++ inner_names i ∷ [])) (ls ++ k ∷ []) (n ∷ [])
    (levels_more (homes_of main list) (inner_names i) (ls ++ k ∷ []) (by_append (HomedLevel (homes_of main list)) ls (k ∷ []) (by_left (HomedLevel (homes_of main list)) ls (l ∷ []) h.open_homed) (subst (Homed (homes_of main list)) (sym place) homed_here, tt)))
    (fresh, tt) in
    let left_is : statements_left n ≡ (model_in inner).statements = ap₂ (λ (m : code.Model) (a : ℕ). map (statement_in m.names) (drop a m.statements)) home none in
    record {
      tree = h.tree;
      opens = h.opens;
      pending = later;
      stands =
          zip_push (Stands models) (ls ++ k ∷ []) (z.front ++ pending own p.rest ∷ []) n (pending next p.inside)
          (zip_push (Stands models) ls z.front k (pending own p.rest) z.below (ap (λ (q : Place). q.number) place ∙ z.here.0, p.below))
          (number, subst (λ (ss : List Statement). Opens models ss p.inside) (sym (left_is ∙ ap (λ (m : Model). m.statements) m_is)) p.opens);
      entries =
          h.entries ∙ ap (λ (l : List Entry). map entry_in list ++ l) (ap (left_of entries_of next) was ∙ enters_entries next own sub p.m p.inside p.rest z.front)
          ∙ sym (append_assoc (map entry_in list) (entry own sub.binds p.m ∷ []) (left_of entries_of (suc next) later))
          ∙ ap₂ (λ (a : List Entry) (j : ℕ). a ++ left_of entries_of (suc j) later) (sym more) (sym count);
      met =
          h.met ∙ ap (λ (l : List (ℕ × StatementKind)). map part_in parts ++ l) (ap (left_of parts_of next) was ∙ enters_parts next own sub p.m p.inside p.rest z.front)
          ∙ ap (λ (j : ℕ). map part_in parts ++ left_of parts_of (suc j) later) (sym count);
      wired = subst (Wired (main.names ∷ [])) (sym e) (wired_push (main.names ∷ []) list i h.wired (subst (Homed (homes_of main list)) (sym outer) homed_here));
      homed = subst (λ (hs : List (List (List ℕ))). AllByRecursion (HomedPart hs) parts) (sym homes) (parts_more (homes_of main list) (inner_names i) parts h.homed);
      open_homed = subst (λ (hs : List (List (List ℕ))). AllByRecursion (HomedLevel hs) ((ls ++ k ∷ []) ++ n ∷ [])) (sym homes) levels_homed;
    }

pub walk_begins : (models : List Model) (main : code.Model) (l : Level) (tree : Opened) → l.place.number ≡ 0 → l.place.home.now ≡ main → l.at ≡ 0 → Opens models (model_in main).statements tree → IsWalk models main [] [] (l ∷ [])
walk_begins models main l tree number home none o =
    let left_is : statements_left l ≡ (model_in main).statements = ap₂ (λ (m : code.Model) (a : ℕ). map (statement_in m.names) (drop a m.statements)) home none in
    record {
      tree = tree;
      opens = o;
      pending = pending 0 tree ∷ [];
      stands = ((number, subst (λ (ss : List Statement). Opens models ss tree) (sym left_is) o), tt);
      entries = refl;
      met = refl;
      wired = tt;
      homed = tt;
      open_homed = (record { below = (let e = number in omega arith); names = ap (λ (n : ℕ). slice_index_or (main.names ∷ []) n []) number ∙ sym (ap (λ (m : code.Model). m.names) home) }, tt);
    }

pub walk_ends : (models : List Model) (main : code.Model) (list : List met.Instance) (parts : List Part) (levels : List Level) → levels ≡ [] → IsWalk models main list parts levels → IsWalked models main list parts
walk_ends models main list parts levels none h =
    let no : h.pending ≡ [] = empty h.pending (subst (λ (ls : List Level). AllZip (Stands models) ls h.pending) none h.stands) in
    record {
      tree = h.tree;
      opens = h.opens;
      entries = h.entries ∙ ap (λ (ps : List Pending). map entry_in list ++ left_of entries_of (suc (length list)) ps) no ∙ append-nil (map entry_in list);
      met = h.met ∙ ap (λ (ps : List Pending). map part_in parts ++ left_of parts_of (suc (length list)) ps) no ∙ append-nil (map part_in parts);
      wired = h.wired;
      homed = h.homed;
    }
  where
    empty : (ps : List Pending) → AllZip (Stands models) [] ps → ps ≡ []
    empty [] a = refl
    empty (p ∷ ps) a = absurd a

pub sub_there : (models : List Model) (main : code.Model) (list : List met.Instance) (parts : List Part) (ls : List Level) (l : Level) (s : statements.Statement) (c : subcircuits.Subcircuit)
    → l.at < length l.place.home.now.statements → s ≡ get_or l.place.home.now.statements l.at s → s.kind ≡ kinds.Subckt c → IsWalk models main list parts (ls ++ l ∷ []) → model_named models c.model ≡ None → ⊥
sub_there models main list parts ls l s c inside is kind h none =
    let z = walk_pop models main list parts ls l h in
    let names : List (List ℕ) = l.place.home.now.names in
    let k : Level = record { place = l.place; at = l.at + 1 } in
    let o : Opens models (statement_in names s ∷ statements_left k) z.last.rest = subst (λ (ss : List Statement). Opens models ss z.last.rest) (level_on l k s refl refl inside is) z.here.1 in
    let p = opens_instance models (statement_in names s) (subcircuit_in names c) (statements_left k) z.last.rest (ap (kind_in names) kind) o in
    let both : ◌≡◌ {A = Option Model} (Some p.m) None = sym p.named ∙ none in
    absurd cc

pub statement_below : (count : ℕ) (ss : List statements.Statement) (i : ℕ) (s : statements.Statement) → statements_below count ss ≡ true → i < length ss → s ≡ get_or ss i s → all_below count (numbers_in s.kind) ≡ true
statement_below count [] i s h l e = absurd (omega arith)
statement_below count (x ∷ xs) zero s h l e = ap (λ (k : statements.Statement). all_below count (numbers_in k.kind)) e ∙ (and_parts (all_below count (numbers_in x.kind)) (statements_below count xs) h).0
statement_below count (x ∷ xs) (suc i) s h l e = statement_below count xs i s (and_parts (all_below count (numbers_in x.kind)) (statements_below count xs) h).1 (omega arith) e

pub other_kind : (names : List (List ℕ)) (kind : numbered.StatementKind)
    → ((x : Items ℕ) × (kind ≡ kinds.Inputs x)) ⊎ (((x : Items ℕ) × (kind ≡ kinds.Outputs x)) ⊎ (((x : Items ℕ) × (kind ≡ kinds.Clock x)) ⊎ (((x : Latch) × (kind ≡ kinds.Latch x)) ⊎ ((x : Table) × (kind ≡ kinds.Table x)))))
    → is_subcircuit (kind_in names kind) ≡ false
other_kind names kind (inl (x, e)) = ap (λ (k : numbered.StatementKind). is_subcircuit (kind_in names k)) e
other_kind names kind (inr (inl (x, e))) = ap (λ (k : numbered.StatementKind). is_subcircuit (kind_in names k)) e
other_kind names kind (inr (inr (inl (x, e)))) = ap (λ (k : numbered.StatementKind). is_subcircuit (kind_in names k)) e
other_kind names kind (inr (inr (inr (inl (x, e))))) = ap (λ (k : numbered.StatementKind). is_subcircuit (kind_in names k)) e
other_kind names kind (inr (inr (inr (inr (x, e))))) = ap (λ (k : numbered.StatementKind). is_subcircuit (kind_in names k)) e
