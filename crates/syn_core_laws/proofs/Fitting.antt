-- Valuations that fit: after a redefine to the same value, and after a free.
use Rattle.std.proofs.Common.{◌≡◌, ◌≢◌, ℕ, zero, suc, ◌%◌, ◌<◌, ◌≤◌, ◌&&◌, not, Bool, true, false, nat_eq, if◌then◌else◌, List, [], ◌∷◌, get_or, Option, Some, None, refl, sym, ap, ap₂, ◌∙◌, subst, arith}
use Rattle.std.proofs.lemmas.Bool.{eq-eqb, ne_eqb, eqb-true}
use Rattle.syn_rows.specs.declared.Row.{Row}
use Rattle.syn_rows.specs.declared.Row.TheVariants.{Free, Source, And, Alias}
use Rattle.syn_rows.specs.declared.Lit.{Lit}
use Rattle.syn_rows.specs.Rows.{node_of, AllRefs}
use Rattle.syn_rows.specs.Values.{lit_value, RowFits}
use Rattle.syn_rows.specs.References.{hits, refs, refs_by_literals}
use Rattle.syn_core_laws.specs.declared.View.{View}
use Rattle.syn_rows.specs.Nodes.{has_node}
use Rattle.syn_core_laws.specs.Views.{known_row}
use Rattle.syn_core_laws.specs.Sound.{Agree}
use Rattle.syn_core_laws.specs.SameValue.{turned_by, both, value_of_row, known_value, value_by, SameValue}
use Rattle.syn_core_laws.proofs.Counting.{hits_same}

-- ---- what holds of each node that a row refers to
pub all_refs : (P Q : ℕ → Type 0) (r : Row) → ((m : ℕ) → 1 ≤ refs m r → P m → Q m) → AllRefs P r → AllRefs Q r
all_refs P Q Free f h = h
all_refs P Q Source f h = h
all_refs P Q (And a b) f h =
    let one : hits (node_of a) (node_of a) ≡ 1 = hits_same (node_of a) in
    let two : hits (node_of b) (node_of b) ≡ 1 = hits_same (node_of b) in
    (f (node_of a) (omega arith) h.0, f (node_of b) (omega arith) h.1)
all_refs P Q (Alias a) f h = let one : hits (node_of a) (node_of a) ≡ 1 = hits_same (node_of a) in f (node_of a) (omega arith) h

-- ---- a row that has a value by the values of its nodes
turned_is : (x : ℕ → Bool) (at : ℕ → Option Bool) (l : Lit) (b : Bool) → ((c : Bool) → at (node_of l) ≡ Some c → x (node_of l) ≡ c) → turned_by l (at (node_of l)) ≡ Some b → lit_value x l ≡ b
turned_is x at l b is h = go (at (node_of l)) refl h
  where
    go : (o : Option Bool) → at (node_of l) ≡ o → turned_by l o ≡ Some b → lit_value x l ≡ b
    go None e h = absurd (cc)
    go (Some c) e h =
        let here : x (node_of l) ≡ c = is c e in
        let out : (if nat_eq (l.0 % 2) 0 then c else not c) ≡ b = cc in
        ap (λ z. if nat_eq (l.0 % 2) 0 then z else not z) here ∙ out

both_is : (o p : Option Bool) (b : Bool) → both o p ≡ Some b → (c : Bool) × (d : Bool) × (o ≡ Some c) × (p ≡ Some d) × ((c && d) ≡ b)
both_is None p b h = absurd (cc)
both_is (Some c) None b h = absurd (cc)
both_is (Some c) (Some d) b h = (c, d, refl, refl, cc)

pub row_is : (x : ℕ → Bool) (at : ℕ → Option Bool) (k : ℕ) (r : Row) (b : Bool) → AllRefs (λ m. (c : Bool) → at m ≡ Some c → x m ≡ c) r → value_of_row at r ≡ Some b
    → (RowFits x k r → x k ≡ b) × (x k ≡ b → RowFits x k r)
row_is x at k Free b all h = absurd (cc)
row_is x at k Source b all h = absurd (cc)
row_is x at k (And l m) b all h =
    let t = both_is (turned_by l (at (node_of l))) (turned_by m (at (node_of m))) b h in
    let first : lit_value x l ≡ t.0 = turned_is x at l t.0 all.0 t.2 in
    let second : lit_value x m ≡ t.1 = turned_is x at m t.1 all.1 t.3 in
    let value : (lit_value x l && lit_value x m) ≡ b = ap₂ (λ c d. c && d) first second ∙ t.4 in
    ((λ f. f ∙ value), (λ e. e ∙ sym value))
row_is x at k (Alias l) b all h =
    let value : lit_value x l ≡ b = turned_is x at l b all h in
    ((λ f. f ∙ value), (λ e. e ∙ sym value))

-- ---- values by known rows
module _ (keys : List ℕ) (v : View) (over : List ℕ) (x : ℕ → Bool) (n : ℕ) (constant : x 0 ≡ false)
    (fits : (m : ℕ) (r : Row) → known_row v m ≡ Some r → get_or keys m 0 < get_or keys n 0 → RowFits x m r)
    (rests : (m : ℕ) (r : Row) → known_row v m ≡ Some r → AllRefs (λ i. get_or keys i 0 < get_or keys m 0) r) where
  -- what known rows below n's key tell of a node is its value
  pub value_is : (steps m : ℕ) (b : Bool) → get_or keys m 0 < get_or keys n 0 → value_by (known_row v) over x steps m ≡ Some b → x m ≡ b
  value_is zero m b lt h = go (has_node over m) (nat_eq m 0) refl h
    where
      go : (p q : Bool) → nat_eq m 0 ≡ q → (if p then Some (x m) else if q then Some false else None) ≡ Some b → x m ≡ b
      go true q e h = cc
      go false true e h = let z : false ≡ b = cc in ap x (eqb-true m 0 e) ∙ (constant ∙ z)
      go false false e h = absurd (cc)
  value_is (suc steps) m b lt h = go (has_node over m) (nat_eq m 0) refl (known_row v m) refl (value_is steps) h
    where
      go : (p q : Bool) → nat_eq m 0 ≡ q → (o : Option Row) → known_row v m ≡ o → ((i : ℕ) (c : Bool) → get_or keys i 0 < get_or keys n 0 → value_by (known_row v) over x steps i ≡ Some c → x i ≡ c)
          → (if p then Some (x m) else if q then Some false else known_value (value_by (known_row v) over x steps) o) ≡ Some b → x m ≡ b
      go true q e o eo ih h = cc
      go false true e o eo ih h = let z : false ≡ b = cc in ap x (eqb-true m 0 e) ∙ (constant ∙ z)
      go false false e None eo ih h = absurd (cc)
      go false false e (Some r) eo ih h =
          (row_is x (value_by (known_row v) over x steps) m r b
          (all_refs (λ i. get_or keys i 0 < get_or keys m 0) (λ i. (c : Bool) → value_by (known_row v) over x steps i ≡ Some c → x i ≡ c) r (λ i one below c. ih i c (omega arith)) (rests m r eo)) h).0 (fits m r eo lt)

  -- a row of the same value fits where the other does
  pub same_fits : (old new : Row) → AllRefs (λ i. get_or keys i 0 < get_or keys n 0) old → AllRefs (λ i. get_or keys i 0 < get_or keys n 0) new → SameValue v over old new → RowFits x n new → RowFits x n old
  same_fits old new old_rests new_rests same fit =
      let t = same x in
      let below = λ (steps i : ℕ) (one : i < suc i) (lt : get_or keys i 0 < get_or keys n 0) (c : Bool). value_is steps i c lt in
      let news = row_is x (value_by (known_row v) over x t.2.0) n new t.0 (all_refs (λ i. get_or keys i 0 < get_or keys n 0) (λ i. (c : Bool) → value_by (known_row v) over x t.2.0 i ≡ Some c → x i ≡ c) new (λ i one lt c. value_is t.2.0 i c lt) new_rests) t.2.1 in
      let olds = row_is x (value_by (known_row v) over x t.1.0) n old t.0 (all_refs (λ i. get_or keys i 0 < get_or keys n 0) (λ i. (c : Bool) → value_by (known_row v) over x t.1.0 i ≡ Some c → x i ≡ c) old (λ i one lt c. value_is t.1.0 i c lt) old_rests) t.1.1 in
      olds.1 (news.0 fit)

-- ---- a node to which nobody refers
-- the value that a row gives
pub gate_value : (ℕ → Bool) → Row → Bool
gate_value x Free = false
gate_value x Source = false
gate_value x (And a b) = lit_value x a && lit_value x b
gate_value x (Alias a) = lit_value x a

-- the valuation with another value at n
pub moved : (ℕ → Bool) → ℕ → Bool → ℕ → Bool
moved x n b m = if nat_eq m n then b else x m

pub moved_here : (x : ℕ → Bool) (n : ℕ) (b : Bool) → moved x n b n ≡ b
unfolding moved
moved_here x n b = ap (λ t. if t then b else x n) (eq-eqb n n refl)

pub moved_there : (x : ℕ → Bool) (n : ℕ) (b : Bool) (m : ℕ) → m ≢ n → moved x n b m ≡ x m
unfolding moved
moved_there x n b m ne = ap (λ t. if t then b else x m) (ne_eqb m n ne)

lit_moved : (x : ℕ → Bool) (n : ℕ) (b : Bool) (l : Lit) → hits n (node_of l) ≡ 0 → lit_value (moved x n b) l ≡ lit_value x l
lit_moved x n b l none = ap (λ z. if nat_eq (l.0 % 2) 0 then z else not z) (moved_there x n b (node_of l) (λ e. let one : hits n (node_of l) ≡ 1 = subst (λ k. hits n k ≡ 1) (sym e) (hits_same n) in omega arith))

-- a row that doesn't refer to n fits as before at another node, and at n where the new value is the row's
pub fits_moved : (x : ℕ → Bool) (n : ℕ) (b : Bool) (m : ℕ) (r : Row) → refs n r ≡ 0 → m ≢ n → RowFits x m r → RowFits (moved x n b) m r
fits_moved x n b m Free none ne f = f
fits_moved x n b m Source none ne f = f
fits_moved x n b m (And a c) none ne f =
    moved_there x n b m ne ∙ (f ∙ ap₂ (λ p q. p && q) (sym (lit_moved x n b a (omega arith))) (sym (lit_moved x n b c (omega arith))))
fits_moved x n b m (Alias a) none ne f = moved_there x n b m ne ∙ (f ∙ sym (lit_moved x n b a (omega arith)))

pub fits_itself : (x : ℕ → Bool) (n : ℕ) (r : Row) → refs n r ≡ 0 → RowFits (moved x n (gate_value x r)) n r
unfolding gate_value
fits_itself x n Free none = tt
fits_itself x n Source none = tt
fits_itself x n (And a c) none =
    let b : Bool = lit_value x a && lit_value x c in
    moved_here x n b ∙ ap₂ (λ p q. p && q) (sym (lit_moved x n b a (omega arith))) (sym (lit_moved x n b c (omega arith)))
fits_itself x n (Alias a) none = let b : Bool = lit_value x a in moved_here x n b ∙ sym (lit_moved x n b a (omega arith))

pub agree_moved : (x w : ℕ → Bool) (n : ℕ) (b : Bool) (ls : List Lit) → refs_by_literals n ls ≡ 0 → Agree ls (moved x n b) w → Agree ls x w
agree_moved x w n b [] none h = h
agree_moved x w n b (l ∷ ls) none h = (sym (lit_moved x n b l (omega arith)) ∙ h.0, agree_moved x w n b ls (omega arith) h.1)
