-- Hits, gate by gate.
use Rattle.std.proofs.Common.{◌≡◌, ℕ, ◌+◌, Bool, true, false, not, nat_lt, ◌==◌, ◌&&◌, ◌||◌, if◌then◌else◌, List, [], ◌∷◌, ◌++◌, length, Option, Some, None, refl, sym, ap, ap₂, ◌∙◌, subst}
use Rattle.std.specs.List.{list_any}
use Rattle.std.proofs.lemmas.Bool.{and_parts, or_left, or_right}
use Rattle.std.proofs.lemmas.Option.{none-some}
use Rattle.syn_rows.specs.declared.Lit.{Lit}
use Rattle.syn_rows.proofs.Nodes.{node_same, same_node}
use Rattle.syn_rows.specs.declared.Row.{Row}
use Rattle.syn_rows.specs.declared.Row.TheVariants as row
use Rattle.syn_plan.specs.declared.PLit.{PLit}
use Rattle.syn_decide.specs.declared.decisions.NodeRow.{NodeRow}
use Rattle.syn_rows.specs.Joining.{lit_of, ordered_and, same_pair, simple_and}
use Rattle.syn_gain.specs.Placing.{Placed, literal_for, literal_met, or_else, place_gate, place_pair}
use Rattle.syn_decide.specs.Hints.{first_new, is_asked, is_new_gate, is_pair, is_pair_of, literal_hit, literal_listed}
use Rattle.syn_decide.specs.Hitting.{IsOpen, after_gates}

any_left : {A : Type 0} (p : A → Bool) (xs ys : List A) → list_any p xs ≡ true → list_any p (xs ++ ys) ≡ true
any_left p [] ys h = absurd (cc)
any_left p (x ∷ xs) ys h = go (p x) h (any_left p xs ys)
  where
    go : (b : Bool) → (b || list_any p xs) ≡ true → (list_any p xs ≡ true → list_any p (xs ++ ys) ≡ true) → (b || list_any p (xs ++ ys)) ≡ true
    go true k f = refl
    go false k f = f k

any_last : {A : Type 0} (p : A → Bool) (xs : List A) (y : A) → p y ≡ true → list_any p (xs ++ y ∷ []) ≡ true
any_last p [] y h = or_left (p y) false h
any_last p (x ∷ xs) y h = or_right (p x) _ (any_last p xs y h)

-- new gates are only added
extra_stays : (hits : List NodeRow) (s : Placed) (gates : List (PLit × PLit)) (p : Row → Bool) → list_any p s.extra ≡ true → list_any p (after_gates hits s gates).extra ≡ true
extra_stays hits s [] p h = h
extra_stays hits s (gate ∷ gates) p h = extra_stays hits (place_gate (literal_hit hits) first_new s gate) gates p (step (literal_for s.literals gate.0) (literal_for s.literals gate.1) _)
  where
    step : (x y : Lit) (o : Option Lit) → list_any p (place_pair first_new s x y o).extra ≡ true
    step x y (Some l) = h
    step x y None = any_left p s.extra (ordered_and x y ∷ []) h

none_of_all : (a b c : Option Lit) → a ≡ None → b ≡ None → c ≡ None → or_else a (or_else b c) ≡ None
none_of_all (Some l) b c e f g = absurd (cc)
none_of_all None (Some l) c e f g = absurd (cc)
none_of_all None None c e f g = g

own_pair : (x y : Lit) → is_new_gate x ≡ false → is_new_gate y ≡ false → (extra : List Row) → list_any (λ r. is_pair_of x y r) extra ≡ true → is_asked extra (ordered_and x y) ≡ true
own_pair x y e f extra h = go (nat_lt x.0 y.0) h
  where
    both_old : (a b : Bool) → a ≡ false → b ≡ false → (not a && not b) ≡ true
    both_old true b e f = absurd (cc)
    both_old false true e f = absurd (cc)
    both_old false false e f = refl

    go : (b : Bool) → list_any (λ r. if b then is_pair x y r else is_pair y x r) extra ≡ true → is_asked extra (if b then row.And x y else row.And y x) ≡ true
    go true h = ap₂ (λ a c. a && c) (both_old (is_new_gate x) (is_new_gate y) e f) h
    go false h = ap₂ (λ a c. a && c) (both_old (is_new_gate y) (is_new_gate x) f e) h

pair_itself : (x y : Lit) → is_pair_of x y (ordered_and x y) ≡ true
pair_itself x y = go (nat_lt x.0 y.0)
  where
    both : (a b : ℕ) → (a == a && b == b) ≡ true
    both a b = ap₂ (λ p q. p && q) (node_same a) (node_same b)

    go : (b : Bool) → (if b then is_pair x y (if b then row.And x y else row.And y x) else is_pair y x (if b then row.And x y else row.And y x)) ≡ true
    go true = both x.0 y.0
    go false = both y.0 x.0

pub open_gates_ask : (hits : List NodeRow) (s : Placed) (gate : PLit × PLit) (gates : List (PLit × PLit))
    → IsOpen hits s (literal_for s.literals gate.0) (literal_for s.literals gate.1)
    → is_asked (after_gates hits s (gate ∷ gates)).extra (ordered_and (literal_for s.literals gate.0) (literal_for s.literals gate.1)) ≡ true
open_gates_ask hits s gate gates o =
    own_pair (literal_for s.literals gate.0) (literal_for s.literals gate.1) o.first_old o.second_old (after_gates hits s (gate ∷ gates)).extra
    (extra_stays hits (place_gate (literal_hit hits) first_new s gate) gates (λ r. is_pair_of (literal_for s.literals gate.0) (literal_for s.literals gate.1) r)
    (subst (λ found. list_any (λ r. is_pair_of (literal_for s.literals gate.0) (literal_for s.literals gate.1) r) (place_pair first_new s (literal_for s.literals gate.0) (literal_for s.literals gate.1) found).extra ≡ true)
    (sym (none_of_all _ _ _ o.not_simple o.not_met o.no_hit))
    (any_last (λ r. is_pair_of (literal_for s.literals gate.0) (literal_for s.literals gate.1) r) s.extra (ordered_and (literal_for s.literals gate.0) (literal_for s.literals gate.1)) (pair_itself (literal_for s.literals gate.0) (literal_for s.literals gate.1)))))

listed_more : (hits : List NodeRow) (r : NodeRow) (u v : Lit) → is_pair_of u v r.row ≡ false → literal_listed (hits ++ r ∷ []) u v ≡ literal_listed hits u v
listed_more [] r u v h = ap (λ b. if b then Some (lit_of r.node) else None) h
listed_more (q ∷ hits) r u v h = ap (λ o. if is_pair_of u v q.row then Some (lit_of q.node) else o) (listed_more hits r u v h)

hit_more : (hits : List NodeRow) (r : NodeRow) (u v : Lit) → is_pair_of u v r.row ≡ false → literal_hit (hits ++ r ∷ []) u v ≡ literal_hit hits u v
hit_more hits r u v h = ap (λ o. if is_new_gate u || is_new_gate v then None else o) (listed_more hits r u v h)

-- a row that is the pair of both is the pair of one in either order
pair_same : (u v x y : Lit) → is_pair_of u v (ordered_and x y) ≡ true → same_pair x y u v ≡ true
pair_same u v x y h = go (nat_lt u.0 v.0) (nat_lt x.0 y.0) h
  where
    parts : (a b c d : ℕ) → (a == b && c == d) ≡ true → (a ≡ b) × (c ≡ d)
    parts a b c d h = let p = and_parts (a == b) (c == d) h in (same_node a b p.0, same_node c d p.1)

    straight : (u.0 ≡ x.0) → (v.0 ≡ y.0) → same_pair x y u v ≡ true
    straight e f = or_left (x.0 == u.0 && y.0 == v.0) (x.0 == v.0 && y.0 == u.0) (ap₂ (λ p q. p && q) (ap (λ z. z == u.0) (sym e) ∙ node_same u.0) (ap (λ z. z == v.0) (sym f) ∙ node_same v.0))

    crossed : (v.0 ≡ x.0) → (u.0 ≡ y.0) → same_pair x y u v ≡ true
    crossed e f = or_right (x.0 == u.0 && y.0 == v.0) (x.0 == v.0 && y.0 == u.0) (ap₂ (λ p q. p && q) (ap (λ z. z == v.0) (sym e) ∙ node_same v.0) (ap (λ z. z == u.0) (sym f) ∙ node_same u.0))

    go : (b c : Bool) → (if b then is_pair u v (if c then row.And x y else row.And y x) else is_pair v u (if c then row.And x y else row.And y x)) ≡ true → same_pair x y u v ≡ true
    go true true h = let p = parts u.0 x.0 v.0 y.0 h in straight p.0 p.1
    go true false h = let p = parts u.0 y.0 v.0 x.0 h in crossed p.1 p.0
    go false true h = let p = parts v.0 x.0 u.0 y.0 h in crossed p.0 p.1
    go false false h = let p = parts v.0 y.0 u.0 x.0 h in straight p.1 p.0

met_of : (s : Placed) (u v : Lit) (o : Option Lit) (x y : Lit) → literal_met (place_pair first_new s u v o).met x y ≡ None → (same_pair x y u v ≡ false) × (literal_met s.met x y ≡ None)
met_of s u v o x y h = by_found o h
  where
    go : (b : Bool) (l : Lit) → (if b then Some l else literal_met s.met x y) ≡ None → (b ≡ false) × (literal_met s.met x y ≡ None)
    go true l e = absurd (none-some l (sym e))
    go false l e = (refl, e)

    by_found : (o : Option Lit) → literal_met (place_pair first_new s u v o).met x y ≡ None → (same_pair x y u v ≡ false) × (literal_met s.met x y ≡ None)
    by_found (Some l) e = go (same_pair x y u v) l e
    by_found None e = go (same_pair x y u v) (lit_of (first_new + length s.extra)) e

-- a pair that isn't met after all gates wasn't met before
met_before : (hits : List NodeRow) (s : Placed) (gates : List (PLit × PLit)) (x y : Lit) → literal_met (after_gates hits s gates).met x y ≡ None → literal_met s.met x y ≡ None
met_before hits s [] x y h = h
met_before hits s (gate ∷ gates) x y h = (met_of s _ _ _ x y (met_before hits (place_gate (literal_hit hits) first_new s gate) gates x y h)).1

pub hits_leave_earlier_gates : (hits : List NodeRow) (s : Placed) (gates : List (PLit × PLit)) (x y : Lit) (n : ℕ)
    → literal_met (after_gates hits s gates).met x y ≡ None
    → after_gates (hits ++ record { node = n; row = ordered_and x y } ∷ []) s gates ≡ after_gates hits s gates
hits_leave_earlier_gates hits s [] x y n h = refl
hits_leave_earlier_gates hits s (gate ∷ gates) x y n h =
    ap (λ z. after_gates (hits ++ record { node = n; row = ordered_and x y } ∷ []) z gates) same
    ∙ hits_leave_earlier_gates hits (place_gate (literal_hit hits) first_new s gate) gates x y n h
  where
    apart : same_pair x y (literal_for s.literals gate.0) (literal_for s.literals gate.1) ≡ false
    apart = (met_of s (literal_for s.literals gate.0) (literal_for s.literals gate.1) _ x y (met_before hits (place_gate (literal_hit hits) first_new s gate) gates x y h)).0

    other : (b : Bool) → is_pair_of (literal_for s.literals gate.0) (literal_for s.literals gate.1) (ordered_and x y) ≡ b → b ≡ false
    other true e = let yes = pair_same (literal_for s.literals gate.0) (literal_for s.literals gate.1) x y e in let no : true ≡ false = sym yes ∙ apart in absurd (cc)
    other false e = refl

    same : place_gate (literal_hit (hits ++ record { node = n; row = ordered_and x y } ∷ [])) first_new s gate ≡ place_gate (literal_hit hits) first_new s gate
    same =
        ap (λ o. place_pair first_new s (literal_for s.literals gate.0) (literal_for s.literals gate.1) (or_else (simple_and (literal_for s.literals gate.0) (literal_for s.literals gate.1)) (or_else (literal_met s.met (literal_for s.literals gate.0) (literal_for s.literals gate.1)) o)))
        (hit_more hits (record { node = n; row = ordered_and x y }) (literal_for s.literals gate.0) (literal_for s.literals gate.1) (other _ refl))
