-- Rows whose sources take other places can be compacted, and give the values at these places.
use Rattle.std.proofs.Common.{◌≡◌, ℕ, zero, suc, ◌+◌, ◌%◌, ◌<◌, ◌&&◌, if◌then◌else◌, nat_eq, nat_lt, not, Bool, true, false, All, List, [], ◌∷◌, length, get_or, map, refl, sym, ap, ap₂, ◌∙◌, subst, arith, inl, inr}
use Rattle.std.proofs.lemmas.Bool.{cases_Bool, cases_lt, cond-true, cond-false, lt-ltb, ltb-true}
use Rattle.std.proofs.lemmas.List.{get_or_past, get_or-map, length-map}
use Rattle.syn_rows.specs.declared.Lit.{Lit}
use Rattle.syn_rows.specs.declared.Row.{Row}
use Rattle.syn_rows.specs.declared.Row.TheVariants.{Free, Source, And, Alias}
use Rattle.syn_rows.specs.Rows.{node_of, row_at, AllRefs}
use Rattle.syn_rows.specs.Joining.{constant}
use Rattle.syn_rows.specs.Values.{Fits, OneValuation, RowFits, given_by, is_open, lit_value, rows_function, value_in, values_of}
use Rattle.syn_rows.proofs.Folds.{one_valuation_is}
use Rattle.syn_hashed.specs.Hashed.{IsHashed, is_gate}
use Rattle.syn_hashed.specs.Compacting.{CanCompact, IsThere, SameValues, moved_lit, moved_row}
use Rattle.syn_hashed.proofs.Orders.{hashed_in_order}
use Rattle.syn_netlist.specs.Numbers.{all_below}
use Rattle.syn_netlist.proofs.Places.{below_at}
use Rattle.syn_compare.specs.Renaming.{node_in, nodes_of, values_at}

-- where nodes go

source_goes : (places : List ℕ) (i : ℕ) → i < length places → node_in (nodes_of places) (suc i) ≡ suc (get_or places i 0)
source_goes places i lt = get_or-map (λ place. suc place) places i 0 (suc i) lt

gate_stays : (places : List ℕ) (n : ℕ) → length places < n → node_in (nodes_of places) n ≡ n
gate_stays places n gt = get_or_past (nodes_of places) n n (omega (arith, gt, length-map places (λ place. suc place)))

-- node 0 and the sources go among themselves
front_goes : (places : List ℕ) → all_below (length places) places ≡ true → (n : ℕ) → n < length places + 1 → node_in (nodes_of places) n < length places + 1
front_goes places below zero lt = omega arith
front_goes places below (suc i) lt = let low = below_at (length places) places i below (omega arith) in omega (arith, source_goes places i (omega arith), low)

-- a node below a gate goes below it
goes_below : (places : List ℕ) → all_below (length places) places ≡ true → (m n : ℕ) → length places < n → m < n → node_in (nodes_of places) m < n
goes_below places below m n gate lt = elim (cases_lt m (length places + 1)) [
  | inl low ↦ (let goes = front_goes places below m low in omega (arith, goes))
  | inr ge ↦ omega (arith, gate_stays places m (omega arith))
]

node_goes : (places : List ℕ) (l : Lit) → node_of (moved_lit (node_in (nodes_of places)) l) ≡ node_in (nodes_of places) (node_of l)
node_goes places l = omega arith

sign_stays : (places : List ℕ) (l : Lit) → (moved_lit (node_in (nodes_of places)) l).0 % 2 ≡ l.0 % 2
sign_stays places l = omega arith

-- the rows

row_goes : (places : List ℕ) (rows : List Row) (n : ℕ) → row_at (map (moved_row (node_in (nodes_of places))) rows) n ≡ moved_row (node_in (nodes_of places)) (row_at rows n)
row_goes places [] n = refl
row_goes places (row ∷ rows) zero = refl
row_goes places (row ∷ rows) (suc n) = row_goes places rows n

gate_is_and : (n : ℕ) (row : Row) → is_gate n row ≡ true → (P : Row → Type 0) → ((a b : Lit) → P (And a b)) → P row
gate_is_and n Free h P each = absurd (cc)
gate_is_and n Source h P each = absurd (cc)
gate_is_and n (And a b) h P each = each a b
gate_is_and n (Alias a) h P each = absurd (cc)

-- what holds of node 0 and the sources, of ANDs, and past the end, holds of all rows
by_parts : (count : ℕ) (rows : List Row) → IsHashed count rows → (P : ℕ → Row → Type 0) → ((n : ℕ) → n < count + 1 → P n Source)
    → ((n : ℕ) → count < n → n < length rows → (a b : Lit) → row_at rows n ≡ And a b → P n (And a b)) → ((n : ℕ) → length rows < n + 1 → P n Free) → (n : ℕ) → P n (row_at rows n)
by_parts count rows h P front gate past n = elim (cases_lt n (count + 1)) [
  | inl low ↦ subst (P n) (sym (h.front n low)) (front n low)
  | inr high ↦ elim (cases_lt n (length rows)) [
    | inl lt ↦ gate_is_and n (row_at rows n) (h.gates n (omega arith) lt) (λ r. row_at rows n ≡ r → P n r) (λ a b e. gate n (omega arith) lt a b e) refl
    | inr ge ↦ subst (P n) (sym (get_or_past rows n Free ge)) (past n (omega arith))
  ]
]

there_goes : (count : ℕ) (places : List ℕ) (rows : List Row) → IsHashed count rows → (n : ℕ) → n < length rows → IsThere (map (moved_row (node_in (nodes_of places))) rows) n
there_goes count places rows h n lt e =
    by_parts count rows h (λ m r. m < length rows → moved_row (node_in (nodes_of places)) r ≡ Free → ⊥)
    (λ m low there is. cc) (λ m gate there a b at inside is. cc) (λ m ge inside is. absurd (omega arith)) n lt (sym (row_goes places rows n) ∙ e)

-- what a compaction wants
pub can_rename : (count : ℕ) (places : List ℕ) (rows : List Row) (lits : List Lit) → length places ≡ count → all_below (length places) places ≡ true → IsHashed count rows
    → All (λ l. node_of l < length rows) lits → CanCompact count (map (moved_row (node_in (nodes_of places))) rows) (map (moved_lit (node_in (nodes_of places))) lits)
can_rename count places rows lits many below h within = record {
  front = λ n lt. row_goes places rows n ∙ ap (moved_row (node_in (nodes_of places))) (h.front n lt);
  others = λ n gt e. by_parts count rows h (λ m r. count < m → moved_row (node_in (nodes_of places)) r ≡ Source → ⊥)
      (λ m low gt is. absurd (omega arith)) (λ m gate there a b at gt is. cc) (λ m ge gt is. cc) n gt (sym (row_goes places rows n) ∙ e);
  refs = λ n. subst (AllRefs (IsThere new)) (sym (row_goes places rows n)) (by_parts count rows h (λ m r. AllRefs (IsThere new) (moved_row (node_in (nodes_of places)) r))
      (λ m low. tt) (λ m gate inside a b at. (there a m gate inside (before m a b at).0, there b m gate inside (before m a b at).1)) (λ m ge. tt) n);
  named = λ i d lt.
      let low : i < length lits = let same = length-map lits (moved_lit (node_in (nodes_of places))) in omega arith in
      subst (λ (x : Lit). IsThere new (node_of x)) (sym (get_or-map (moved_lit (node_in (nodes_of places))) lits i constant d low)) (named (get_or lits i constant) (within i constant low));
  acyclic = (
    λ n. n,
    λ n. subst (AllRefs (λ m. m < n)) (sym (row_goes places rows n)) (by_parts count rows h (λ m r. AllRefs (λ k. k < m) (moved_row (node_in (nodes_of places)) r))
        (λ m low. tt) (λ m gate inside a b at. (under a m gate (before m a b at).0, under b m gate (before m a b at).1)) (λ m ge. tt) n),
  );
}
  where
    new : List Row
    new = map (moved_row (node_in (nodes_of places))) rows

    before : (n : ℕ) (a b : Lit) → row_at rows n ≡ And a b → (node_of a < n) × (node_of b < n)
    before n a b at = subst (AllRefs (λ m. m < n)) at (hashed_in_order count rows h n)

    under : (l : Lit) (n : ℕ) → count < n → node_of l < n → node_of (moved_lit (node_in (nodes_of places)) l) < n
    under l n gate lt = subst (λ (k : ℕ). k < n) (sym (node_goes places l)) (goes_below places below (node_of l) n (omega arith) lt)

    there : (l : Lit) (n : ℕ) → count < n → n < length rows → node_of l < n → IsThere new (node_of (moved_lit (node_in (nodes_of places)) l))
    there l n gate inside lt = there_goes count places rows h (node_of (moved_lit (node_in (nodes_of places)) l)) (let low = under l n gate lt in omega arith)

    named : (l : Lit) → node_of l < length rows → IsThere new (node_of (moved_lit (node_in (nodes_of places)) l))
    named l lt = there_goes count places rows h (node_of (moved_lit (node_in (nodes_of places)) l))
        (let low = goes_below places below (node_of l) (length rows) (let inside = h.there in omega arith) lt in let is = node_goes places l in omega arith)

-- the values

-- values at the nodes that go to where others have them
value_goes : (places : List ℕ) (u v : ℕ → Bool) → ((n : ℕ) → u (node_in (nodes_of places) n) ≡ v n) → (l : Lit) → lit_value u (moved_lit (node_in (nodes_of places)) l) ≡ lit_value v l
value_goes places u v same l =
    ap₂ (λ (odd : ℕ) (b : Bool). if nat_eq odd 0 then b else not b) (sign_stays places l) (ap u (node_goes places l) ∙ same (node_of l))

values_go : (places : List ℕ) (u v : ℕ → Bool) → ((n : ℕ) → u (node_in (nodes_of places) n) ≡ v n) → (lits : List Lit) → map (lit_value u) (map (moved_lit (node_in (nodes_of places))) lits) ≡ map (lit_value v) lits
values_go places u v same [] = refl
values_go places u v same (l ∷ ls) = ap₂ (λ (b : Bool) (bs : List Bool). b ∷ bs) (value_goes places u v same l) (values_go places u v same ls)

-- the values of the new rows' nodes: of the sources those that are given, of the others the old ones
joined_values : ℕ → List Bool → (ℕ → Bool) → ℕ → Bool
joined_values count bits v n = if nat_lt n (count + 1) then given_by bits n else v n

joined_front : (count : ℕ) (bits : List Bool) (v : ℕ → Bool) (n : ℕ) → n < count + 1 → joined_values count bits v n ≡ given_by bits n
unfolding joined_values
joined_front count bits v n lt = cond-true (nat_lt n (count + 1)) (given_by bits n) (v n) (lt-ltb n (count + 1) lt)

joined_gate : (count : ℕ) (bits : List Bool) (v : ℕ → Bool) (n : ℕ) → count < n → joined_values count bits v n ≡ v n
unfolding joined_values
joined_gate count bits v n gt = elim (cases_Bool (nat_lt n (count + 1))) [
  | inl t ↦ absurd (let lt = ltb-true n (count + 1) t in omega arith)
  | inr f ↦ cond-false (nat_lt n (count + 1)) (given_by bits n) (v n) f
]

pub renamed_values : (count : ℕ) (places : List ℕ) (rows : List Row) (lits : List Lit) (new : List Row) (new_lits : List Lit) → length places ≡ count → all_below (length places) places ≡ true
    → IsHashed count rows → SameValues count (map (moved_row (node_in (nodes_of places))) rows) (map (moved_lit (node_in (nodes_of places))) lits) new new_lits
    → (bits : List Bool) → rows_function new new_lits bits ≡ rows_function rows lits (values_at places bits)
renamed_values count places rows lits new new_lits many below h same bits = sym (same bits u fits (λ n lt. joined_front count bits v n lt)) ∙ values_go places u v goes lits
  where
    old : List Bool
    old = values_at places bits

    v : ℕ → Bool
    v = value_in (values_of (given_by old) rows)

    one : OneValuation rows (given_by old)
    one = one_valuation_is rows (given_by old) (hashed_in_order count rows h) refl

    u : ℕ → Bool
    u = joined_values count bits v

    source : (n : ℕ) → n < count + 1 → v n ≡ given_by old n
    source n lt = one.1 n (let inside = h.there in omega arith) (ap is_open (h.front n lt))

    goes_front : (n : ℕ) → n < count + 1 → u (node_in (nodes_of places) n) ≡ given_by old n
    goes_front zero lt = joined_front count bits v 0 (omega arith)
    goes_front (suc i) lt =
        let inside : i < length places = omega arith in
        let low = below_at (length places) places i below inside in
        ap u (source_goes places i inside) ∙ joined_front count bits v (suc (get_or places i 0)) (omega arith)
        ∙ sym (get_or-map (λ place. get_or bits place false) places i 0 false inside)

    goes : (n : ℕ) → u (node_in (nodes_of places) n) ≡ v n
    goes n = elim (cases_lt n (count + 1)) [
      | inl low ↦ goes_front n low ∙ sym (source n low)
      | inr high ↦ ap u (gate_stays places n (omega arith)) ∙ joined_gate count bits v n (omega arith)
    ]

    fits : Fits (map (moved_row (node_in (nodes_of places))) rows) u
    fits = record {
      constant = joined_front count bits v 0 (omega arith);
      each = λ n. subst (RowFits u n) (sym (row_goes places rows n)) (by_parts count rows h (λ m r. RowFits u m (moved_row (node_in (nodes_of places)) r)) (λ m low. tt)
          (λ m gate inside a b at. joined_gate count bits v m gate ∙ subst (RowFits v m) at (one.0.each m) ∙ sym (ap₂ (λ x y. x && y) (value_goes places u v goes a) (value_goes places u v goes b)))
          (λ m ge. tt) n);
    }
