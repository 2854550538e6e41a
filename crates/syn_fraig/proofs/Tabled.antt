-- Tables of all rounds have all values.
use Rattle.std.proofs.Common.{◌≡◌, ◌≢◌, not, ℕ, zero, suc, ◌+◌, ◌-◌, ◌*◌, ◌^◌, ◌<◌, ◌≤◌, nat_eq, nat_lt, Bool, true, false, List, [], ◌∷◌, ◌++◌, length, get_or, map, set, refl, sym, ap, ◌∙◌, subst, arith, inl, inr}
use Rattle.std.proofs.lemmas.Bool.{cases_eq, cases_lt, cond-true, cond-false, lt-ltb, le-ltb}
use Rattle.std.proofs.lemmas.List.{get_or-map, get_or-set_other, get_or-set_same, get_or_append_left, get_or_push, length-map, length_push}
use Rattle.std.proofs.lemmas.List.FromFn.{get_or-range_with_len}
use Rattle.std.specs.List.{range_with_len}
use Rattle.std.specs.Int.{bit_at}
use Rattle.syn_rows.specs.declared.Lit.{Lit}
use Rattle.syn_rows.specs.declared.Row.{Row}
use Rattle.syn_rows.specs.declared.Row.TheVariants.{Free, Source, And, Alias}
use Rattle.syn_rows.specs.Joining.{complement}
use Rattle.syn_rows.specs.Rows.{node_of, row_at}
use Rattle.syn_rows.specs.Values.{Fits, is_open, lit_value}
use Rattle.syn_rows.proofs.JoinLaws.{complement_value, opposite_value, same_lit}
use Rattle.syn_rows.proofs.Folds.{lit_value-same, one_valuation_is, values_step}
use Rattle.syn_hashed.specs.Hashed.{IsHashed, is_gate, lit_at}
use Rattle.syn_hashed.proofs.Orders.{hashed_in_order}
use Rattle.syn_truth.specs.declared.Truth.{Truth}
use Rattle.syn_truth.specs.Truth.{digit, minterm_of, value_of}
use Rattle.syn_truth.proofs.Minterms.{bit_at-minterm_of, minterm_below}
use Rattle.syn_fraig.specs.Tables.{AllAlike, AreAlike, AreTables, IsAlike, IsTableOf, nodes_at, sources_at}
use Rattle.syn_fraig.proofs.Asked.{plain}

-- the values of so many nodes from one on
from_node : (ℕ → Bool) → ℕ → ℕ → List Bool
from_node v first count = map v (range_with_len first count)

length-from_node : (v : ℕ → Bool) (first count : ℕ) → length (from_node v first count) ≡ count
unfolding from_node
length-from_node v first count = length-map (range_with_len first count) v ∙ length-range first count
  where
    length-range : (a n : ℕ) → length (range_with_len a n) ≡ n
    length-range a zero = refl
    length-range a (suc n) = ap suc (length-range (a + 1) n)

from_node_at : (v : ℕ → Bool) (first count i : ℕ) → i < count → get_or (from_node v first count) i false ≡ v (first + i)
unfolding from_node
from_node_at v first count i lt =
    get_or-map v (range_with_len first count) i 0 false
    (let long = length-from_node v first count in omega (arith, long, length-map (range_with_len first count) v))
    ∙ ap v (get_or-range_with_len first count i 0 lt)

digit_one : (b : Bool) → nat_eq (digit b) 1 ≡ b
digit_one true = refl
digit_one false = refl

-- some round and values of the first eight sources are those of a valuation
sources_are : (v : ℕ → Bool) (count : ℕ) → v 0 ≡ false → (n : ℕ) → n < count + 1
    → sources_at (minterm_of (from_node v 9 (count - 8))) (from_node v 1 8) n ≡ v n
sources_are v count at_0 zero lt = sym at_0
sources_are v count at_0 (suc s) lt = elim (cases_lt s 8) [
  | inl low ↦
      cond-true (nat_lt s 8) (get_or (from_node v 1 8) s false) (nat_eq (bit_at (minterm_of (from_node v 9 (count - 8))) (s - 8)) 1) (lt-ltb s 8 low)
      ∙ from_node_at v 1 8 s low
      ∙ (let e : 1 + s ≡ suc s = omega arith in ap v e)
  | inr ge ↦
      cond-false (nat_lt s 8) (get_or (from_node v 1 8) s false) (nat_eq (bit_at (minterm_of (from_node v 9 (count - 8))) (s - 8)) 1) (le-ltb s 8 ge)
      ∙ ap (λ (k : ℕ). nat_eq k 1) (bit_at-minterm_of (from_node v 9 (count - 8)) (s - 8))
      ∙ digit_one (get_or (from_node v 9 (count - 8)) (s - 8) false)
      ∙ from_node_at v 9 (count - 8) (s - 8) (omega arith)
      ∙ (let e : 9 + (s - 8) ≡ suc s = omega arith in ap v e)
]

gate_closed : (n : ℕ) (row : Row) → is_gate n row ≡ true → is_open row ≡ true → ⊥
gate_closed n Free h e = absurd (cc)
gate_closed n Source h e = absurd (cc)
gate_closed n (And a b) h e = absurd (cc)
gate_closed n (Alias a) h e = absurd (cc)

-- what is open is node 0 or a source
pub open_low : (count : ℕ) (rows : List Row) (n : ℕ) → IsHashed count rows → n < length rows → is_open (row_at rows n) ≡ true → n < count + 1
open_low count rows n h lt is = elim (cases_lt n (count + 1)) [
  | inl low ↦ low
  | inr ge ↦ absurd (gate_closed n (row_at rows n) (h.gates n (omega arith) lt) is)
]

-- a valuation that fits has the values of a round
nodes_are : (count : ℕ) (rows : List Row) → IsHashed count rows → (v : ℕ → Bool) → Fits rows v → (n : ℕ) → n < length rows
    → v n ≡ nodes_at rows (minterm_of (from_node v 9 (count - 8))) (from_node v 1 8) n
nodes_are count rows h v f n lt =
    (one_valuation_is rows (sources_at (minterm_of (from_node v 9 (count - 8))) (from_node v 1 8)) (hashed_in_order count rows h) refl).2 v f
    (λ m inside is. sym (sources_are v count f.constant m (open_low count rows m h inside is))) n lt

-- nodes that have their literals' values in all rounds have them in each valuation that fits
pub all_alike : (count : ℕ) (rows : List Row) (alike : List Lit) → IsHashed count rows
    → ((round : ℕ) → round < 2 ^ (count - 8) → AreAlike rows round alike) → AllAlike rows alike
all_alike count rows alike h all v f n lt =
    nodes_are count rows h v f n lt
    ∙ here.1
    ∙ lit_value-same (nodes_at rows round xs) v (lit_at alike n) (sym (nodes_are count rows h v f (node_of (lit_at alike n)) here.0))
  where
    round : ℕ
    round = minterm_of (from_node v 9 (count - 8))

    xs : List Bool
    xs = from_node v 1 8

    low : round < 2 ^ (count - 8)
    low = subst (λ (k : ℕ). round < 2 ^ k) (length-from_node v 9 (count - 8)) (minterm_below (from_node v 9 (count - 8)))

    here : IsAlike rows round xs n (lit_at alike n)
    here = all round low xs n (length-from_node v 1 8) lt

-- one more table
pub tables_more : (count : ℕ) (rows : List Row) (round : ℕ) (tables : List Truth) (t : Truth) → IsHashed count rows → count ≤ 40
    → length tables < length rows
    → IsTableOf tables round (length tables) (row_at rows (length tables)) t
    → (xs : List Bool) → length xs ≡ 8 → AreTables tables (nodes_at rows round xs) xs → AreTables (tables ++ t ∷ []) (nodes_at rows round xs) xs
tables_more count rows round tables t h few inside is xs eight all n d lt = elim (cases_lt n (length tables)) [
  | inl low ↦ ap (λ (u : Truth). value_of u xs) (get_or_append_left tables (t ∷ []) d n low) ∙ all n d low
  | inr ge ↦
      let same : length tables ≡ n = omega (arith, length_push tables t) in
      ap (λ (u : Truth). value_of u xs) (get_or_push tables t d n same)
      ∙ is (nodes_at rows round xs) xs eight all (λ free. (let low = open_low count rows (length tables) h inside free in omega arith))
      ∙ sym (values_step rows (hashed_in_order count rows h) (sources_at round xs) (length tables) inside)
      ∙ ap (nodes_at rows round xs) same
]

at_set : (alike : List Lit) (n m : ℕ) (l : Lit) → n < length alike → m ≡ n → lit_at (set alike n l) m ≡ l
at_set alike n m l lt e = ap (lit_at (set alike n l)) e ∙ get_or-set_same alike n l (record { 0 = 0 }) lt

off_set : (alike : List Lit) (n m : ℕ) (l : Lit) → (m ≡ n → ⊥) → lit_at (set alike n l) m ≡ lit_at alike m
off_set alike n m l ne = get_or-set_other alike n m l (record { 0 = 0 }) ne

-- the nodes before one fit, and so does this one
pub like_more : (rows : List Row) (round : ℕ) (alike : List Lit) (n : ℕ) (l : Lit) → n < length alike
    → ((xs : List Bool) → length xs ≡ 8 → IsAlike rows round xs n l)
    → ((xs : List Bool) (m : ℕ) → length xs ≡ 8 → m < n → IsAlike rows round xs m (lit_at alike m))
    → (xs : List Bool) (m : ℕ) → length xs ≡ 8 → m < n + 1 → IsAlike rows round xs m (lit_at (set alike n l) m)
like_more rows round alike n l lt here before xs m eight low = elim (cases_eq m n) [
  | inl e ↦ subst (IsAlike rows round xs m) (sym (at_set alike n m l lt e)) (subst (λ (k : ℕ). IsAlike rows round xs k l) (sym e) (here xs eight))
  | inr ne ↦ subst (IsAlike rows round xs m) (sym (off_set alike n m l ne)) (before xs m eight (omega arith))
]

-- where all fit, they do with another literal that fits wherever the old one did
pub like_still : (rows : List Row) (round : ℕ) (alike : List Lit) (n : ℕ) (l : Lit) → n < length alike → node_of l < length rows
    → n < length rows → ((v : ℕ → Bool) → v n ≡ lit_value v (lit_at alike n) → v n ≡ lit_value v l) → AreAlike rows round alike → AreAlike rows round (set alike n l)
like_still rows round alike n l lt there inside kept all xs m eight low = elim (cases_eq m n) [
  | inl e ↦
      subst (IsAlike rows round xs m) (sym (at_set alike n m l lt e))
      (subst (λ (k : ℕ). IsAlike rows round xs k l) (sym e) (there, kept (nodes_at rows round xs) (all xs n eight inside).1))
  | inr ne ↦ subst (IsAlike rows round xs m) (sym (off_set alike n m l ne)) (all xs m eight low)
]

-- where a node and another have the values of opposite literals, the complement of the other's plain literal has the node's value
pub led_opposite : (v : ℕ → Bool) (node lead : ℕ) (first same l m : Lit) → v node ≡ lit_value v first → v lead ≡ lit_value v same
    → same.0 ≢ first.0 → node_of same ≡ node_of first
    → l.0 ≡ 2 * lead → m.0 ≡ (complement l).0 → v node ≡ lit_value v m
led_opposite v node lead first same l m one other ne there plain_l turned =
    one ∙ opposite_value v same first ne there ∙ ap not (sym other ∙ sym (plain v lead l plain_l))
    ∙ sym (ap (lit_value v) (same_lit m (complement l) turned) ∙ complement_value v l)
