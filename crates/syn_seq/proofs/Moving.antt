-- Rows whose sources move to earlier places: they can be compacted, and literals keep their values.
use Rattle.std.proofs.Common.{◌≡◌, ◌≢◌, ℕ, zero, suc, ◌+◌, ◌-◌, ◌*◌, ◌%◌, ◌<◌, ◌≤◌, nat_lt, nat_eq, ◌&&◌, if◌then◌else◌, Bool, true, false, not, List, [], ◌∷◌, ◌++◌, length, map, take, drop, replicate, get_or, refl, sym, ap, ap₂, ◌∙◌, subst, inl, inr, arith}
use Rattle.std.specs.List.{All}
use Rattle.std.proofs.lemmas.Bool.Decides.{nat_tests}
use Rattle.std.proofs.lemmas.Bool.{both_ways, cases_lt, cond-true, cond-false, lt-ltb}
use Rattle.std.proofs.lemmas.List.{get_or_append_left, get_or-append_right, get_or-drop, get_or-map, get_or-replicate, get_or-take, get_or_past, length-drop, length-map, length-replicate, length-take-le}
use Rattle.std.proofs.lemmas.List.Elements.{All-from_get_or}
use Rattle.syn_rows.specs.declared.Lit.{Lit}
use Rattle.syn_rows.specs.declared.Row.{Row}
use Rattle.syn_rows.specs.declared.Row.TheVariants.{Free, Source, And, Alias}
use Rattle.syn_rows.specs.Rows.{AllRefs, InOrder, node_of, row_at}
use Rattle.syn_rows.specs.Reach.{Ands, HasAnds, ands_from, is_and}
use Rattle.syn_rows.specs.Values.{Fits, RowFits, lit_value}
use Rattle.syn_rows.proofs.Reaches.{has_ands_is}
use Rattle.syn_hashed.proofs.Orders.{gate_refs as gate_below}
use Rattle.syn_hashed.specs.Hashed.{IsHashed, is_gate}
use Rattle.syn_hashed.specs.Compacting.{CanCompact, HasSources, IsThere}
use Rattle.syn_seq.specs.Code.{moved, moved_row, rows_left}

-- sources move to places up to the last that is left
pub record CanMove (count left : ℕ) (rows : List Row) (places : List ℕ) : Type 0 where
  pub hashed : IsHashed count rows
  pub many : length places ≡ count + 1
  pub few : left < length places
  pub low : (k : ℕ) → k < length places → get_or places k 0 ≤ left

map_at : (f : Row → Row) (rows : List Row) (i : ℕ) → f Free ≡ Free → get_or (map f rows) i Free ≡ f (get_or rows i Free)
map_at f [] i e = sym e
map_at f (r ∷ rs) zero e = refl
map_at f (r ∷ rs) (suc i) e = map_at f rs i e

front_long : (count left : ℕ) (rows : List Row) (places : List ℕ) → CanMove count left rows places → length (take (left + 1) rows) ≡ left + 1
front_long count left rows places c = length-take-le (left + 1) rows (omega (arith, c.few, c.many, c.hashed.there))

at_front : (count left : ℕ) (rows : List Row) (places : List ℕ) → CanMove count left rows places → (n : ℕ) → n < left + 1 → row_at (rows_left left rows places) n ≡ Source
at_front count left rows places c n lt =
    let inside : n < length (take (left + 1) rows) = omega (arith, lt, front_long count left rows places c) in
    let source : n < count + 1 = omega (arith, lt, c.few, c.many) in
    get_or_append_left (take (left + 1) rows) _ Free n inside ∙ get_or-take (left + 1) rows n Free lt ∙ c.hashed.front n source

past_front : (count left : ℕ) (rows : List Row) (places : List ℕ) → CanMove count left rows places → (n : ℕ) → left < n
    → row_at (rows_left left rows places) n ≡ row_at (replicate (length places - (left + 1)) Free ++ map (moved_row places) (drop (length places) rows)) (n - (left + 1))
past_front count left rows places c n lt = get_or-append_right (take (left + 1) rows) _ (left + 1) n Free (front_long count left rows places c) (omega (arith, lt))

at_none : (count left : ℕ) (rows : List Row) (places : List ℕ) → CanMove count left rows places → (n : ℕ) → left < n → n < length places → row_at (rows_left left rows places) n ≡ Free
at_none count left rows places c n past lt =
    let none : ℕ = length places - (left + 1) in
    let less : n - (left + 1) < none = omega (arith, past, lt) in
    let inside : n - (left + 1) < length (replicate none Free) = omega (arith, less, length-replicate none Free) in
    past_front count left rows places c n past ∙ get_or_append_left (replicate none Free) _ Free (n - (left + 1)) inside ∙ get_or-replicate none (n - (left + 1)) Free Free less

at_gate : (count left : ℕ) (rows : List Row) (places : List ℕ) → CanMove count left rows places → (n : ℕ) → length places ≤ n → row_at (rows_left left rows places) n ≡ moved_row places (row_at rows n)
at_gate count left rows places c n past =
    let none : ℕ = length places - (left + 1) in
    let behind : none ≤ n - (left + 1) = omega (arith, past, c.few) in
    let same : length places + (n - (left + 1) - none) ≡ n = omega (arith, past, c.few) in
    past_front count left rows places c n (omega (arith, past, c.few))
    ∙ get_or-append_right (replicate none Free) _ none (n - (left + 1)) Free (length-replicate none Free) behind
    ∙ map_at (moved_row places) (drop (length places) rows) (n - (left + 1) - none) refl
    ∙ ap (moved_row places) (get_or-drop (length places) rows (n - (left + 1) - none) Free ∙ ap (row_at rows) same)

-- a moved literal's node, and whether it is complemented
moved_node : (places : List ℕ) (l : Lit) → node_of l < length places → node_of (moved places l) ≡ get_or places (node_of l) 0
moved_node places l lt =
    let m : Lit = record { 0 = 2 * get_or places (node_of l) 0 + l.0 % 2 } in
    ap node_of (cond-true (nat_lt (node_of l) (length places)) m l (lt-ltb _ _ lt)) ∙ omega arith

stays : (places : List ℕ) (l : Lit) → length places ≤ node_of l → moved places l ≡ l
stays places l past =
    let m : Lit = record { 0 = 2 * get_or places (node_of l) 0 + l.0 % 2 } in
    cond-false (nat_lt (node_of l) (length places)) m l (not_below (node_of l) (length places) past)
  where
    not_below : (a b : ℕ) → b ≤ a → nat_lt a b ≡ false
    not_below a b le = grind (arith, nat_tests, le)

sign_stays : (places : List ℕ) (l : Lit) → (moved places l).0 % 2 ≡ l.0 % 2
sign_stays places l = elim (cases_lt (node_of l) (length places)) [
  | inl lt ↦ ap (λ (x : Lit). x.0 % 2) (cond-true (nat_lt (node_of l) (length places)) (record { 0 = 2 * get_or places (node_of l) 0 + l.0 % 2 }) l (lt-ltb _ _ lt)) ∙ omega arith
  | inr past ↦ ap (λ (x : Lit). x.0 % 2) (stays places l past)
]

-- a literal of a smaller node names a smaller one when it is moved, and one that is left
is_source : Row → Bool
is_source Free = false
is_source Source = true
is_source (And a b) = false
is_source (Alias a) = false

is_free : Row → Bool
is_free Free = true
is_free Source = false
is_free (And a b) = false
is_free (Alias a) = false

no_free : (row other : Row) → row ≡ other → is_free other ≡ false → row ≢ Free
unfolding is_free
no_free row other e f h = both_ways (is_free other) f (ap is_free (sym e ∙ h))

gate_there : (places : List ℕ) (n : ℕ) (row : Row) → is_gate n row ≡ true → (is_free (moved_row places row) ≡ false) × (is_source (moved_row places row) ≡ false)
unfolding is_free is_source
gate_there places n Free g = absurd (both_ways false refl g)
gate_there places n Source g = absurd (both_ways false refl g)
gate_there places n (And a b) g = (refl, refl)
gate_there places n (Alias a) g = absurd (both_ways false refl g)

-- the literal is moved to a node that is there, below
record IsBelow (count left : ℕ) (rows : List Row) (places : List ℕ) (n : ℕ) (l : Lit) : Type 0 where
  there : IsThere (rows_left left rows places) (node_of (moved places l))
  less : node_of (moved places l) < n

moved_below : (count left : ℕ) (rows : List Row) (places : List ℕ) → CanMove count left rows places → (n : ℕ) (l : Lit) → length places ≤ n → n ≤ length rows → node_of l < n → IsBelow count left rows places n l
unfolding is_free
moved_below count left rows places c n l past most lt = elim (cases_lt (node_of l) (length places)) [
  | inl inside ↦
      let to : node_of (moved places l) ≡ get_or places (node_of l) 0 = moved_node places l inside in
      let low = c.low (node_of l) inside in
      record {
        there = no_free _ Source (at_front count left rows places c (node_of (moved places l)) (omega (arith, to, low))) refl;
        less = omega (arith, to, low, c.few, past);
      }
  | inr behind ↦
      let same : node_of (moved places l) ≡ node_of l = ap node_of (stays places l behind) in
      let more : count < node_of l = omega (arith, behind, c.many) in
      let there : node_of l < length rows = omega (arith, lt, most) in
      record {
        there = subst (IsThere (rows_left left rows places)) (sym same) (no_free _ _ (at_gate count left rows places c (node_of l) behind) (gate_there places (node_of l) (row_at rows (node_of l)) (c.hashed.gates (node_of l) more there)).0);
        less = omega (arith, same, lt);
      }
]

gate_refs : (Q : ℕ → Type 0) (places : List ℕ) (n : ℕ) (row : Row) → is_gate n row ≡ true → ((l : Lit) → node_of l < n → Q (node_of (moved places l))) → AllRefs Q (moved_row places row)
gate_refs Q places n Free g h = tt
gate_refs Q places n Source g h = tt
gate_refs Q places n (And a b) g h = let below = gate_below n (And a b) g in (h a below.0, h b below.1)
gate_refs Q places n (Alias a) g h = absurd (both_ways false refl g)

-- what holds of moved literals of smaller nodes holds of all references
each_refs : (count left : ℕ) (rows : List Row) (places : List ℕ) → CanMove count left rows places → (Q : ℕ → Type 0) (n : ℕ) → ((l : Lit) → length places ≤ n → n ≤ length rows → node_of l < n → Q (node_of (moved places l))) → AllRefs Q (row_at (rows_left left rows places) n)
each_refs count left rows places c Q n h = elim (cases_lt n (left + 1)) [
  | inl front ↦ subst (AllRefs Q) (sym (at_front count left rows places c n front)) tt
  | inr more ↦ elim (cases_lt n (length places)) [
    | inl none ↦ subst (AllRefs Q) (sym (at_none count left rows places c n (omega (arith, more)) none)) tt
    | inr past ↦ elim (cases_lt n (length rows)) [
      | inl lt ↦ subst (AllRefs Q) (sym (at_gate count left rows places c n past))
          (gate_refs Q places n (row_at rows n) (c.hashed.gates n (omega (arith, past, c.many)) lt) (λ l less. h l past (omega (arith, lt)) less))
      | inr out ↦ subst (AllRefs Q) (sym (at_gate count left rows places c n past ∙ ap (moved_row places) (get_or_past rows n Free out))) tt
    ]
  ]
]

pub in_order : (count left : ℕ) (rows : List Row) (places : List ℕ) → CanMove count left rows places → InOrder (rows_left left rows places)
in_order count left rows places c n = each_refs count left rows places c (λ m. m < n) n (λ l past most less. (moved_below count left rows places c n l past most less).less)

no_source : (row other : Row) → row ≡ other → is_source other ≡ false → row ≢ Source
unfolding is_source
no_source row other e f h = both_ways (is_source other) f (ap is_source (sym e ∙ h))

others_left : (count left : ℕ) (rows : List Row) (places : List ℕ) → CanMove count left rows places → (n : ℕ) → left < n → row_at (rows_left left rows places) n ≢ Source
unfolding is_source
others_left count left rows places c n more = elim (cases_lt n (length places)) [
  | inl none ↦ no_source _ Free (at_none count left rows places c n more none) refl
  | inr past ↦ elim (cases_lt n (length rows)) [
    | inl lt ↦ no_source _ _ (at_gate count left rows places c n past) (gate_there places n (row_at rows n) (c.hashed.gates n (omega (arith, past, c.many)) lt)).1
    | inr out ↦ no_source _ Free (at_gate count left rows places c n past ∙ ap (moved_row places) (get_or_past rows n Free out)) refl
  ]
]

pub can_compact : (count left : ℕ) (rows : List Row) (places : List ℕ) → CanMove count left rows places → length places ≤ length rows → (lits : List Lit) → All (λ l. node_of l < length rows) lits
    → CanCompact left (rows_left left rows places) (map (moved places) lits)
can_compact count left rows places c le lits within = record {
  front = at_front count left rows places c;
  others = others_left count left rows places c;
  refs = λ n. each_refs count left rows places c (IsThere (rows_left left rows places)) n (λ l past most less. (moved_below count left rows places c n l past most less).there);
  named = All-from_get_or (λ l. IsThere (rows_left left rows places) (node_of l)) (map (moved places) lits) (record { 0 = 0 }) (λ i lt.
      let inside : i < length lits = omega (arith, lt, length-map lits (moved places)) in
      let at : get_or (map (moved places) lits) i (record { 0 = 0 }) ≡ moved places (get_or lits i (record { 0 = 0 })) = get_or-map (moved places) lits i (record { 0 = 0 }) (record { 0 = 0 }) inside in
      subst (λ (l : Lit). IsThere (rows_left left rows places) (node_of l)) (sym at) (moved_below count left rows places c (length rows) (get_or lits i (record { 0 = 0 })) le (omega (arith)) (within i (record { 0 = 0 }) inside)).there);
  acyclic = (λ n. n, in_order count left rows places c);
}

-- Values of nodes before and afterwards: each source has the value that is given for the place to which it moves, and each gate its own.
abbrev pub values_left : ℕ → (ℕ → Bool) → (ℕ → Bool) → ℕ → Bool
values_left left given x n = if nat_lt n (left + 1) then given n else x n

at_given : (left : ℕ) (given x : ℕ → Bool) (n : ℕ) → n < left + 1 → values_left left given x n ≡ given n
at_given left given x n lt = cond-true (nat_lt n (left + 1)) (given n) (x n) (lt-ltb _ _ lt)

at_own : (left : ℕ) (given x : ℕ → Bool) (n : ℕ) → left < n → values_left left given x n ≡ x n
at_own left given x n lt = cond-false (nat_lt n (left + 1)) (given n) (x n) (let p : nat_lt n (left + 1) ≡ false = grind (arith, nat_tests, lt) in p)

-- each source's value is given for its place
abbrev pub MovesValues : ℕ → List ℕ → (ℕ → Bool) → (ℕ → Bool) → Type 0
MovesValues count places given x = (k : ℕ) → k < count + 1 → given (get_or places k 0) ≡ x k

same_sign : (v w : ℕ → Bool) (a b : Lit) → a.0 % 2 ≡ b.0 % 2 → v (node_of a) ≡ w (node_of b) → lit_value v a ≡ lit_value w b
same_sign v w a b s e = ap₂ (λ (r : ℕ) (t : Bool). if nat_eq r 0 then t else not t) s e

pub moved_value : (count left : ℕ) (rows : List Row) (places : List ℕ) → CanMove count left rows places → (given x : ℕ → Bool) → MovesValues count places given x → (l : Lit) → lit_value (values_left left given x) (moved places l) ≡ lit_value x l
moved_value count left rows places c given x m l = elim (cases_lt (node_of l) (length places)) [
  | inl inside ↦
      let to : node_of (moved places l) ≡ get_or places (node_of l) 0 = moved_node places l inside in
      let low : node_of (moved places l) < left + 1 = omega (arith, to, c.low (node_of l) inside) in
      same_sign (values_left left given x) x (moved places l) l (sign_stays places l)
      (at_given left given x (node_of (moved places l)) low ∙ ap given to ∙ m (node_of l) (omega (arith, inside, c.many)))
  | inr past ↦
      let same : moved places l ≡ l = stays places l past in
      ap (lit_value (values_left left given x)) same ∙ same_sign (values_left left given x) x l l refl (at_own left given x (node_of l) (omega (arith, past, c.few)))
]

row_fits : (places : List ℕ) (y x : ℕ → Bool) (n : ℕ) (row : Row) → y n ≡ x n → ((l : Lit) → lit_value y (moved places l) ≡ lit_value x l) → RowFits x n row → RowFits y n (moved_row places row)
row_fits places y x n Free e h f = tt
row_fits places y x n Source e h f = tt
row_fits places y x n (And a b) e h f = e ∙ f ∙ ap₂ (λ (p q : Bool). p && q) (sym (h a)) (sym (h b))
row_fits places y x n (Alias a) e h f = e ∙ f ∙ sym (h a)

pub fits_left : (count left : ℕ) (rows : List Row) (places : List ℕ) → CanMove count left rows places → (given x : ℕ → Bool) → given 0 ≡ false → MovesValues count places given x → Fits rows x → Fits (rows_left left rows places) (values_left left given x)
fits_left count left rows places c given x zero_false m f = record {
  constant = at_given left given x 0 (omega arith) ∙ zero_false;
  each = λ n. elim (cases_lt n (left + 1)) [
    | inl front ↦ subst (RowFits (values_left left given x) n) (sym (at_front count left rows places c n front)) tt
    | inr more ↦ elim (cases_lt n (length places)) [
      | inl none ↦ subst (RowFits (values_left left given x) n) (sym (at_none count left rows places c n (omega (arith, more)) none)) tt
      | inr past ↦ subst (RowFits (values_left left given x) n) (sym (at_gate count left rows places c n past))
          (row_fits places (values_left left given x) x n (row_at rows n) (at_own left given x n (omega (arith, more))) (moved_value count left rows places c given x m) (f.each n))
    ]
  ];
}

pub has_sources : (left : ℕ) (given x : ℕ → Bool) → HasSources left given (values_left left given x)
has_sources left given x n lt = at_given left given x n lt

-- counts

pub few_ands : (n : ℕ) (set : ℕ → Bool) (rows : List Row) → ands_from n set rows ≤ length rows
few_ands n set [] = omega arith
few_ands n set (row ∷ rows) = omega (arith, one (is_and row && set n), few_ands (n + 1) set rows)
  where
    one : (b : Bool) → (if b then 1 else 0) ≤ 1
    one true = omega arith
    one false = omega arith

no_and : (row other : Row) → row ≡ other → is_and other ≡ false → is_and row ≡ false
no_and row other e f = ap is_and e ∙ f

-- rows that are no ANDs add nothing
skipped : (n : ℕ) (set : ℕ → Bool) (xs ys : List Row) (most : ℕ) → ((i : ℕ) → i < length xs → is_and (row_at xs i) ≡ false) → ((m : ℕ) → ands_from m set ys ≤ most) → ands_from n set (xs ++ ys) ≤ most
skipped n set [] ys most h b = b n
skipped n set (x ∷ xs) ys most h b =
    let here : ◌≡◌ {A = ℕ} (if is_and x && set n then 1 else 0) 0 = ap (λ (t : Bool). let c : ℕ = if t && set n then 1 else 0 in c) (h 0 (omega arith)) in
    omega (arith, here, skipped (n + 1) set xs ys most (λ i lt. h (suc i) (omega (arith, lt))) b)

-- the number of ANDs that are reached
pub ands_left : (count left : ℕ) (rows : List Row) (places : List ℕ) → CanMove count left rows places → length places ≤ length rows → (lits : List Lit) → (k : ℕ) × Ands (rows_left left rows places) lits k × (k + length places ≤ length rows)
ands_left count left rows places c le lits = go (has_ands_is (rows_left left rows places) lits (in_order count left rows places c))
  where
    go : HasAnds (rows_left left rows places) lits → (k : ℕ) × Ands (rows_left left rows places) lits k × (k + length places ≤ length rows)
    go (k, ands) =
        let (set, reached, e) = ands in
        let gates : List Row = map (moved_row places) (drop (length places) rows) in
        let none : List Row = replicate (length places - (left + 1)) Free in
        let most : ands_from 0 set (rows_left left rows places) ≤ length gates =
        skipped 0 set (take (left + 1) rows) (none ++ gates) (length gates) (λ i lt. no_and _ Source (sym (get_or_append_left (take (left + 1) rows) (none ++ gates) Free i lt) ∙ at_front count left rows places c i (omega (arith, lt, front_long count left rows places c))) refl)
        (λ m. skipped m set none gates (length gates) (λ i lt. no_and _ Free (get_or-replicate (length places - (left + 1)) i Free Free (omega (arith, lt, length-replicate (length places - (left + 1)) Free))) refl) (λ n. few_ands n set gates)) in
        let many : length gates ≡ length rows - length places = length-map (drop (length places) rows) (moved_row places) ∙ length-drop (length places) rows in
        (k, ands, omega (arith, most, many, e, le))
