-- The rows that a netlist of graph shape spells have the values of its names.
use Rattle.std.proofs.Common.{if◌then◌else◌, ◌≡◌, ℕ, zero, suc, ◌+◌, ◌-◌, ◌*◌, ◌/◌, ◌%◌, ◌<◌, ◌≤◌, ◌&&◌, ◌||◌, nat_eq, not, Bool, true, false, All, List, [], ◌∷◌, ◌++◌, map, length, get_or, take, drop, find, Some, bytes_eq, refl, sym, ap, ap₂, ◌∙◌, subst, inl, inr, append_assoc, add-one, arith}
use Rattle.std.specs.List.{list_all, AllByRecursion}
use Rattle.std.proofs.lemmas.Bool.{and_parts, or_cases, not_from_false, cases_Bool, cases_lt, both_ways, cond-true, cond-false, eqb-true}
use Rattle.std.proofs.lemmas.List.{map-append, length-map, length-append, length-take-le, get_or_append_left, get_or-append_right, get_or-append-add, get_or-map, get_or_past, take-append-drop}
use Rattle.std.proofs.lemmas.List.Elements.{All-same, recursion_from_All}
use Rattle.syn_rows.specs.declared.Lit.{Lit}
use Rattle.syn_rows.specs.declared.Row.{Row}
use Rattle.syn_rows.specs.declared.Row.TheVariants.{Free, Source}
use Rattle.syn_rows.specs.Rows.{row_at, AllRefs, InOrder}
use Rattle.syn_rows.specs.Values.{lit_value, RowFits, Fits, is_open, HasGiven, given_by, value_in, values_of, rows_function, OneValuation}
use Rattle.syn_netlist.specs.Words.{has_word, without}
use Rattle.syn_netlist.specs.Costs.{is_sign}
use Rattle.syn_netlist.specs.Lists.{Table, Netlist, output_of, sources, observed}
use Rattle.syn_netlist.specs.Covers.{fits_bit, cover_value}
use Rattle.syn_netlist.specs.Values.{table_value, Consistent}
use Rattle.syn_netlist.specs.Order.{Ordered, reads_known, OrderedHasOne}
use Rattle.syn_netlist.proofs.Sets.{same_word, has_head, has_tail, has_left, all_at}
use Rattle.syn_network.specs.GraphShape.{and_tables, end_tables, node_names, place, shown, row_shown, row_of, source_row, rows_of, lit_shown, lit_of_table, lit_of, observed_of, is_and_cover, is_and_table, is_end_cover, is_end_table, GraphShape, GraphHasFunction}

-- places

pub in_rest : (w : List ℕ) (ws : List (List ℕ)) (word : List ℕ) → bytes_eq w word ≡ false → has_word (w ∷ ws) word ≡ true → has_word ws word ≡ true
in_rest w ws word e h = elim (or_cases (bytes_eq w word) (has_word ws word) h) [ inl t ↦ absurd (both_ways (bytes_eq w word) e t) | inr t ↦ t ]

pub place_lt : (ws : List (List ℕ)) (word : List ℕ) → has_word ws word ≡ true → place word ws < length ws
place_lt [] word h = absurd (both_ways false refl h)
place_lt (w ∷ ws) word h = elim (cases_Bool (bytes_eq w word)) [
  | inl e ↦ omega (arith, cond-true (bytes_eq w word) 0 (suc (place word ws)) e)
  | inr e ↦ omega (arith, cond-false (bytes_eq w word) 0 (suc (place word ws)) e, place_lt ws word (in_rest w ws word e h))
]

pub place_value : (v : List ℕ → Bool) (ws : List (List ℕ)) (word : List ℕ) → has_word ws word ≡ true → get_or (map v ws) (place word ws) false ≡ v word
place_value v [] word h = absurd (both_ways false refl h)
place_value v (w ∷ ws) word h = elim (cases_Bool (bytes_eq w word)) [
  | inl e ↦ ap (λ k. get_or (v w ∷ map v ws) k false) (cond-true (bytes_eq w word) 0 (suc (place word ws)) e) ∙ ap v (same_word w word e)
  | inr e ↦ ap (λ k. get_or (v w ∷ map v ws) k false) (cond-false (bytes_eq w word) 0 (suc (place word ws)) e) ∙ place_value v ws word (in_rest w ws word e h)
]

pub place_in_front : (xs ys : List (List ℕ)) (word : List ℕ) → has_word xs word ≡ true → place word (xs ++ ys) ≡ place word xs
place_in_front [] ys word h = absurd (both_ways false refl h)
place_in_front (x ∷ xs) ys word h = elim (cases_Bool (bytes_eq x word)) [
  | inl e ↦ cond-true (bytes_eq x word) 0 (suc (place word (xs ++ ys))) e ∙ sym (cond-true (bytes_eq x word) 0 (suc (place word xs)) e)
  | inr e ↦ cond-false (bytes_eq x word) 0 (suc (place word (xs ++ ys))) e ∙ ap suc (place_in_front xs ys word (in_rest x xs word e h)) ∙ sym (cond-false (bytes_eq x word) 0 (suc (place word xs)) e)
]

-- literals that a character shows

pub half : (p : ℕ) (b : Bool) → (2 * p + (if b then 0 else 1)) / 2 ≡ p
half p true = omega arith
half p false = omega arith

pub signed_value : (u : ℕ → Bool) (p : ℕ) (b : Bool) → lit_value u (record { 0 = 2 * p + (if b then 0 else 1) }) ≡ (if b then u p else not (u p))
signed_value u p true =
    let even : (2 * p + 0) % 2 ≡ 0 = omega arith in
    let middle : (2 * p + 0) / 2 ≡ p = omega arith in
    ap₂ (λ (r h : ℕ). if nat_eq r 0 then u h else not (u h)) even middle
signed_value u p false =
    let odd : (2 * p + 1) % 2 ≡ 1 = omega arith in
    let middle : (2 * p + 1) / 2 ≡ p = omega arith in
    ap₂ (λ (r h : ℕ). if nat_eq r 0 then u h else not (u h)) odd middle

fits_at_zero : (b : Bool) → fits_bit 48 b ≡ (if nat_eq 48 49 then b else not b)
fits_at_zero true = refl
fits_at_zero false = refl

fits_at_one : (b : Bool) → fits_bit 49 b ≡ (if nat_eq 49 49 then b else not b)
fits_at_one true = refl
fits_at_one false = refl

pub fits_sign : (c : ℕ) (b : Bool) → is_sign c ≡ true → fits_bit c b ≡ (if nat_eq c 49 then b else not b)
fits_sign c b h = elim (or_cases (nat_eq c 48) (nat_eq c 49) h) [
  | inl e ↦ subst (λ k. fits_bit k b ≡ (if nat_eq k 49 then b else not b)) (sym (eqb-true c 48 e)) (fits_at_zero b)
  | inr e ↦ subst (λ k. fits_bit k b ≡ (if nat_eq k 49 then b else not b)) (sym (eqb-true c 49 e)) (fits_at_one b)
]

-- the valuation of nodes, or of signals, gives each name's the name's value
abbrev pub Names : List (List ℕ) → (ℕ → Bool) → (List ℕ → Bool) → Type 0
Names names u v = (word : List ℕ) → has_word names word ≡ true → u (place word names + 1) ≡ v word

pub shown_value : (names : List (List ℕ)) (u : ℕ → Bool) (v : List ℕ → Bool) → Names names u v → (word : List ℕ) (c : ℕ) → has_word names word ≡ true → is_sign c ≡ true → fits_bit c (v word) ≡ lit_value u (shown names word c)
shown_value names u v same word c h s =
    fits_sign c (v word) s ∙ ap (λ (b : Bool). if nat_eq c 49 then b else not b) (sym (same word h)) ∙ sym (signed_value u (place word names + 1) (nat_eq c 49))

both_match : (x y : Bool) → ((x && (y && true)) || false) ≡ (x && y)
both_match true true = refl
both_match true false = refl
both_match false y = refl

one_matches : (x : Bool) → ((x && true) || false) ≡ x
one_matches true = refl
one_matches false = refl

record AndParts (a b : List ℕ) (c d : ℕ) (on : Bool) : Type 0 where
  first : is_sign c ≡ true
  second : is_sign d ≡ true
  is_on : on ≡ true

and_parts_of : (a b : List ℕ) (c d : ℕ) (on : Bool) → is_and_cover (a ∷ b ∷ []) ((c ∷ d ∷ []) ∷ []) on ≡ true → AndParts a b c d on
and_parts_of a b c d on h =
    let p = and_parts (not (bytes_eq a b)) (is_sign c && (is_sign d && on)) h in
    let q = and_parts (is_sign c) (is_sign d && on) p.1 in
    let r = and_parts (is_sign d) on q.1 in
    record { first = q.0; second = r.0; is_on = r.1 }

and_fits : (names : List (List ℕ)) (u : ℕ → Bool) (v : List ℕ → Bool) → Names names u v → (inputs rows : List (List ℕ)) (on : Bool) → is_and_cover inputs rows on ≡ true
    → ((word : List ℕ) → has_word inputs word ≡ true → has_word names word ≡ true) → (k : ℕ) → u k ≡ cover_value rows on (map v inputs) → RowFits u k (row_shown names inputs rows)
and_fits names u v same (a ∷ b ∷ []) ((c ∷ d ∷ []) ∷ []) on h known k e =
    let parts = and_parts_of a b c d on h in
    e ∙ ap (λ o. cover_value ((c ∷ d ∷ []) ∷ []) o (v a ∷ v b ∷ [])) parts.is_on ∙ both_match (fits_bit c (v a)) (fits_bit d (v b))
    ∙ ap₂ (λ x y. x && y) (shown_value names u v same a c (known a (has_head a (b ∷ []))) parts.first) (shown_value names u v same b d (known b (has_tail a b (b ∷ []) (has_head b []))) parts.second)
and_fits names u v same inputs rows on h known k e = absurd (both_ways false refl h)

and_refs : (P : ℕ → Type 0) (names inputs rows : List (List ℕ)) (on : Bool) → is_and_cover inputs rows on ≡ true → ((word : List ℕ) → has_word inputs word ≡ true → P (place word names + 1)) → AllRefs P (row_shown names inputs rows)
and_refs P names (a ∷ b ∷ []) ((c ∷ d ∷ []) ∷ []) on h each =
    (subst P (sym (half (place a names + 1) (nat_eq c 49))) (each a (has_head a (b ∷ []))), subst P (sym (half (place b names + 1) (nat_eq d 49))) (each b (has_tail a b (b ∷ []) (has_head b []))))
and_refs P names inputs rows on h each = absurd (both_ways false refl h)

and_closed : (names inputs rows : List (List ℕ)) (on : Bool) → is_and_cover inputs rows on ≡ true → is_open (row_shown names inputs rows) ≡ false
and_closed names (a ∷ b ∷ []) ((c ∷ d ∷ []) ∷ []) on h = refl
and_closed names inputs rows on h = absurd (both_ways false refl h)

pub end_value : (names : List (List ℕ)) (u : ℕ → Bool) (v : List ℕ → Bool) → u 0 ≡ false → Names names u v → (inputs rows : List (List ℕ)) (on : Bool) → is_end_cover names inputs rows on ≡ true
    → cover_value rows on (map v inputs) ≡ lit_value u (lit_shown names inputs rows)
end_value names u v at_0 same [] [] on h = ap (λ o. cover_value [] o []) h ∙ sym at_0
end_value names u v at_0 same [] ([] ∷ []) on h = ap (λ o. cover_value ([] ∷ []) o []) h ∙ sym (ap not at_0)
end_value names u v at_0 same (a ∷ []) ((c ∷ []) ∷ []) on h =
    let p = and_parts (has_word names a) (is_sign c && on) h in
    let q = and_parts (is_sign c) on p.1 in
    ap (λ o. cover_value ((c ∷ []) ∷ []) o (v a ∷ [])) q.1 ∙ one_matches (fits_bit c (v a)) ∙ shown_value names u v same a c p.0 q.0
end_value names u v at_0 same inputs rows on h = absurd (both_ways false refl h)

-- names that are known where a table reads

known_above : (known : List (List ℕ)) (ts more : List Table) → reads_known known (ts ++ more) ≡ true → (j : ℕ) (d : Table) → j < length ts → (word : List ℕ) → has_word (get_or ts j d).inputs word ≡ true
    → has_word (known ++ map output_of (take j ts)) word ≡ true
known_above known [] more h j d lt word at = absurd (omega arith)
known_above known (t ∷ ts) more h zero d lt word at = has_left known [] word (all_at (has_word known) t.inputs word (and_parts (list_all (has_word known) t.inputs) (reads_known (known ++ t.output ∷ []) (ts ++ more)) h).0 at)
known_above known (t ∷ ts) more h (suc j) d lt word at =
    let rest = (and_parts (list_all (has_word known) t.inputs) (reads_known (known ++ t.output ∷ []) (ts ++ more)) h).1 in
    subst (λ (ws : List (List ℕ)). has_word ws word ≡ true) (append_assoc known (t.output ∷ []) (map output_of (take j ts))) (known_above (known ++ t.output ∷ []) ts more rest j d (omega arith) word at)

outputs_split : (j : ℕ) (ts : List Table) → map output_of (take j ts) ++ map output_of (drop j ts) ≡ map output_of ts
outputs_split j ts = sym (map-append output_of (take j ts) (drop j ts)) ∙ ap (map output_of) (take-append-drop j ts)

names_split : (known : List (List ℕ)) (j : ℕ) (ts : List Table) → (known ++ map output_of (take j ts)) ++ map output_of (drop j ts) ≡ known ++ map output_of ts
names_split known j ts = append_assoc known (map output_of (take j ts)) (map output_of (drop j ts)) ∙ ap (λ (ws : List (List ℕ)). known ++ ws) (outputs_split j ts)

place_above : (known : List (List ℕ)) (ts more : List Table) → reads_known known (ts ++ more) ≡ true → (j : ℕ) (d : Table) → j < length ts → (word : List ℕ) → has_word (get_or ts j d).inputs word ≡ true
    → (has_word (known ++ map output_of ts) word ≡ true) × (place word (known ++ map output_of ts) < length known + j)
place_above known ts more h j d lt word at =
    let above : List (List ℕ) = known ++ map output_of (take j ts) in
    let below : List (List ℕ) = map output_of (drop j ts) in
    let there = known_above known ts more h j d lt word at in
    let same : place word (known ++ map output_of ts) ≡ place word above = ap (place word) (sym (names_split known j ts)) ∙ place_in_front above below word there in
    let long : length above ≡ length known + j = length-append known (map output_of (take j ts)) ∙ ap (λ k. length known + k) (length-map (take j ts) output_of ∙ length-take-le j ts (omega arith)) in
    (subst (λ (ws : List (List ℕ)). has_word ws word ≡ true) (names_split known j ts) (has_left above below word there), omega (arith, same, long, place_lt above word there))

-- rows that are spelled

blank : Table
blank = record { inputs = []; output = []; rows = []; on = true }

abbrev front : Netlist → List Row
front n = Source ∷ map source_row (sources n.frame)

abbrev ands_rows : Netlist → List Row
ands_rows n = map (row_of (node_names n)) (and_tables n)

length-front : (n : Netlist) → length (front n) ≡ length (sources n.frame) + 1
length-front n = omega (arith, length-map (sources n.frame) source_row)

length-rows : (n : Netlist) → length (rows_of n) ≡ length (sources n.frame) + 1 + length (and_tables n)
length-rows n = omega (arith, length-append (front n) (ands_rows n), length-front n, length-map (and_tables n) (row_of (node_names n)))

length-names : (n : Netlist) → length (node_names n) ≡ length (sources n.frame) + length (and_tables n)
length-names n = omega (arith, length-append (sources n.frame) (map output_of (and_tables n)), length-map (and_tables n) output_of)

pub source_rows : (ws : List (List ℕ)) (m : ℕ) (d : Row) → m < length ws → get_or (map source_row ws) m d ≡ Source
source_rows [] m d lt = absurd (omega arith)
source_rows (w ∷ ws) zero d lt = refl
source_rows (w ∷ ws) (suc m) d lt = source_rows ws m d (omega arith)

row_in_front : (n : Netlist) (m : ℕ) → m < length (sources n.frame) + 1 → row_at (rows_of n) m ≡ Source
row_in_front n m lt = get_or_append_left (front n) (ands_rows n) Free m (omega (arith, length-front n)) ∙ at m lt
  where
    at : (k : ℕ) → k < length (sources n.frame) + 1 → get_or (front n) k Free ≡ Source
    at zero l = refl
    at (suc k) l = source_rows (sources n.frame) k Free (omega arith)

row_behind : (n : Netlist) (m j : ℕ) → m ≡ length (sources n.frame) + 1 + j → j < length (and_tables n) → row_at (rows_of n) m ≡ row_of (node_names n) (get_or (and_tables n) j blank)
row_behind n m j e lt =
    get_or-append_right (front n) (ands_rows n) (length (sources n.frame) + 1) m Free (length-front n) (omega arith)
    ∙ ap (λ k. get_or (ands_rows n) k Free) (let s : m - (length (sources n.frame) + 1) ≡ j = omega arith in s)
    ∙ get_or-map (row_of (node_names n)) (and_tables n) j blank Free lt

row_past : (n : Netlist) (m : ℕ) → length (sources n.frame) + 1 + length (and_tables n) ≤ m → row_at (rows_of n) m ≡ Free
row_past n m h = get_or_past (rows_of n) m Free (omega (arith, length-rows n))

-- a fact of each row, from its three parts
each_row : (n : Netlist) (P : ℕ → Row → Type 0) → ((m : ℕ) → m < length (sources n.frame) + 1 → P m Source) → ((m : ℕ) → length (sources n.frame) + 1 + length (and_tables n) ≤ m → P m Free)
    → ((m j : ℕ) → m ≡ length (sources n.frame) + 1 + j → j < length (and_tables n) → P m (row_of (node_names n) (get_or (and_tables n) j blank))) → (m : ℕ) → P m (row_at (rows_of n) m)
each_row n P f g h m = elim (cases_lt m (length (sources n.frame) + 1)) [
  | inl lt ↦ subst (P m) (sym (row_in_front n m lt)) (f m lt)
  | inr ge ↦ elim (cases_lt m (length (sources n.frame) + 1 + length (and_tables n))) [
    | inl lt ↦
        let e : m ≡ length (sources n.frame) + 1 + (m - (length (sources n.frame) + 1)) = omega arith in
        let l : m - (length (sources n.frame) + 1) < length (and_tables n) = omega arith in
        subst (P m) (sym (row_behind n m (m - (length (sources n.frame) + 1)) e l)) (h m (m - (length (sources n.frame) + 1)) e l)
    | inr past ↦ subst (P m) (sym (row_past n m past)) (g m past)
  ]
]

reads_in_order : (n : Netlist) → GraphShape n → Ordered n → reads_known (sources n.frame) (and_tables n ++ end_tables n) ≡ true
reads_in_order n shape order = ap (reads_known (sources n.frame)) (sym shape.split) ∙ order.above

is_and_at : (n : Netlist) → GraphShape n → (j : ℕ) → j < length (and_tables n) → is_and_table (get_or (and_tables n) j blank) ≡ true
is_and_at n shape j lt = shape.ands j blank lt

pub spelled_in_order : (n : Netlist) → GraphShape n → Ordered n → InOrder (rows_of n)
spelled_in_order n shape order = each_row n (λ m row. AllRefs (λ k. k < m) row) (λ m lt. tt) (λ m past. tt)
    (λ m j e lt.
    let t = get_or (and_tables n) j blank in
    and_refs (λ k. k < m) (node_names n) t.inputs t.rows t.on (is_and_at n shape j lt)
    (λ word at. let known = (place_above (sources n.frame) (and_tables n) (end_tables n) (reads_in_order n shape order) j blank lt word at).1 in omega arith))

-- the nodes' values: false, then the names' values
abbrev node_values : Netlist → (List ℕ → Bool) → List Bool
node_values n v = false ∷ map v (node_names n)

names_have : (n : Netlist) (v : List ℕ → Bool) → Names (node_names n) (value_in (node_values n v)) v
names_have n v word h = ap (value_in (node_values n v)) (add-one (place word (node_names n))) ∙ place_value v (node_names n) word h

value_behind : (n : Netlist) (v : List ℕ → Bool) (m j : ℕ) → m ≡ length (sources n.frame) + 1 + j → j < length (and_tables n) → value_in (node_values n v) m ≡ v (get_or (and_tables n) j blank).output
value_behind n v m j e lt =
    let s : List (List ℕ) = sources n.frame in
    let at : m ≡ suc (length (map v s) + j) = omega (arith, length-map s v) in
    ap (value_in (node_values n v)) at
    ∙ ap (λ (bits : List Bool). get_or bits (length (map v s) + j) false) (map-append v s (map output_of (and_tables n)))
    ∙ get_or-append-add (map v s) (map v (map output_of (and_tables n))) j false
    ∙ get_or-map v (map output_of (and_tables n)) j [] false (omega (arith, length-map (and_tables n) output_of))
    ∙ ap v (get_or-map output_of (and_tables n) j blank [] lt)

value_in_front : (n : Netlist) (v : List ℕ → Bool) (m : ℕ) → m < length (sources n.frame) + 1 → value_in (node_values n v) m ≡ given_by (map v (sources n.frame)) m
value_in_front n v m lt =
    ap (λ (bits : List Bool). get_or (false ∷ bits) m false) (map-append v (sources n.frame) (map output_of (and_tables n)))
    ∙ get_or_append_left (false ∷ map v (sources n.frame)) (map v (map output_of (and_tables n))) false m (omega (arith, length-map (sources n.frame) v))

gives_at : (n : Netlist) → GraphShape n → (v : List ℕ → Bool) → Consistent n v → (j : ℕ) → j < length (and_tables n) → v (get_or (and_tables n) j blank).output ≡ table_value (get_or (and_tables n) j blank) v
gives_at n shape v c j lt =
    let all = All-same (λ (t : Table). v t.output ≡ table_value t v) (and_tables n ++ end_tables n) n.tables (sym shape.split) c in
    subst (λ (t : Table). v t.output ≡ table_value t v) (get_or_append_left (and_tables n) (end_tables n) blank j lt) (all j blank (omega (arith, length-append (and_tables n) (end_tables n))))

names_fit : (n : Netlist) → GraphShape n → Ordered n → (v : List ℕ → Bool) → Consistent n v → Fits (rows_of n) (value_in (node_values n v))
names_fit n shape order v c = record {
  constant = refl;
  each = each_row n (λ m row. RowFits (value_in (node_values n v)) m row) (λ m lt. tt) (λ m past. tt)
      (λ m j e lt.
      let t = get_or (and_tables n) j blank in
      and_fits (node_names n) (value_in (node_values n v)) v (names_have n v) t.inputs t.rows t.on (is_and_at n shape j lt)
      (λ word at. (place_above (sources n.frame) (and_tables n) (end_tables n) (reads_in_order n shape order) j blank lt word at).0) m
      (value_behind n v m j e lt ∙ gives_at n shape v c j lt));
}

names_given : (n : Netlist) → GraphShape n → (v : List ℕ → Bool) → HasGiven (rows_of n) (given_by (map v (sources n.frame))) (value_in (node_values n v))
names_given n shape v m inside = each_row n (λ k row. k < length (rows_of n) → is_open row ≡ true → value_in (node_values n v) k ≡ given_by (map v (sources n.frame)) k)
    (λ k lt i o. value_in_front n v k lt)
    (λ k past i o. absurd (omega (arith, length-rows n)))
    (λ k j e lt i o. let t = get_or (and_tables n) j blank in absurd (both_ways (is_open (row_of (node_names n) t)) (and_closed (node_names n) t.inputs t.rows t.on (is_and_at n shape j lt)) o)) m inside

-- observed signals

pub find_end : (P : Table → Type 0) (ts : List Table) (word : List ℕ) → has_word (map output_of ts) word ≡ true → AllByRecursion P ts
    → (t : Table) × (find (λ s. bytes_eq s.output word) ts ≡ Some t) × (t.output ≡ word) × P t
find_end P [] word h all = absurd (both_ways false refl h)
find_end P (t ∷ ts) word h all = elim (cases_Bool (bytes_eq t.output word)) [
  | inl e ↦ (t, cond-true (bytes_eq t.output word) (Some t) (find (λ s. bytes_eq s.output word) ts) e, same_word t.output word e, all.0)
  | inr e ↦
      let (s, f, o, p) = find_end P ts word (in_rest t.output (map output_of ts) word e h) all.1 in
      (s, cond-false (bytes_eq t.output word) (Some t) (find (λ s. bytes_eq s.output word) ts) e ∙ f, o, p)
]

pub has_without : (others ws : List (List ℕ)) (word : List ℕ) → has_word ws word ≡ true → has_word others word ≡ false → has_word (without others ws) word ≡ true
has_without others [] word h o = absurd (both_ways false refl h)
has_without others (w ∷ ws) word h o = elim (cases_Bool (bytes_eq w word)) [
  | inl e ↦
      let keeps : not (has_word others w) ≡ true = not_from_false (has_word others w) (ap (has_word others) (same_word w word e) ∙ o) in
      ap (λ (l : List (List ℕ)). has_word l word) (cond-true (not (has_word others w)) (w ∷ without others ws) (without others ws) keeps) ∙ ap (λ b. b || has_word (without others ws) word) e
  | inr e ↦
      let rest = has_without others ws word (in_rest w ws word e h) o in
      elim (cases_Bool (not (has_word others w))) [
        | inl k ↦ ap (λ (l : List (List ℕ)). has_word l word) (cond-true (not (has_word others w)) (w ∷ without others ws) (without others ws) k) ∙ has_tail w word (without others ws) rest
        | inr k ↦ ap (λ (l : List (List ℕ)). has_word l word) (cond-false (not (has_word others w)) (w ∷ without others ws) (without others ws) k) ∙ rest
      ]
]

pub map_through : (v : List ℕ → Bool) (u : Lit → Bool) (f : List ℕ → Lit) (ws : List (List ℕ)) → ((word : List ℕ) → has_word ws word ≡ true → v word ≡ u (f word)) → map v ws ≡ map u (map f ws)
map_through v u f [] h = refl
map_through v u f (w ∷ ws) h = ap₂ (λ (b : Bool) (bs : List Bool). b ∷ bs) (h w (has_head w ws)) (map_through v u f ws (λ x t. h x (has_tail w x ws t)))

ends_give : (n : Netlist) → GraphShape n → (v : List ℕ → Bool) → Consistent n v → AllByRecursion (λ t. (is_end_table (node_names n) t ≡ true) × (v t.output ≡ table_value t v)) (end_tables n)
ends_give n shape v c = recursion_from_All (λ t. (is_end_table (node_names n) t ≡ true) × (v t.output ≡ table_value t v)) (end_tables n) (λ k d lt. (shape.ends k d lt, given k d lt))
  where
    given : All (λ (t : Table). v t.output ≡ table_value t v) (end_tables n)
    given k d lt =
        let all = All-same (λ (t : Table). v t.output ≡ table_value t v) (and_tables n ++ end_tables n) n.tables (sym shape.split) c in
        subst (λ (t : Table). v t.output ≡ table_value t v) (get_or-append-add (and_tables n) (end_tables n) k d) (all (length (and_tables n) + k) d (omega (arith, length-append (and_tables n) (end_tables n))))

observed_value : (n : Netlist) → GraphShape n → (v : List ℕ → Bool) → Consistent n v → (w : ℕ → Bool) → w 0 ≡ false → Names (node_names n) w v
    → (word : List ℕ) → has_word (observed n.frame) word ≡ true → v word ≡ lit_value w (lit_of n word)
observed_value n shape v c w at_0 same word h = elim (cases_Bool (has_word (sources n.frame) word)) [
  | inl s ↦
      sym (ap (lit_value w) (cond-true (has_word (sources n.frame) word) (shown (node_names n) word 49) (lit_of_table (node_names n) (find (λ t. bytes_eq t.output word) (end_tables n))) s)
      ∙ signed_value w (place word (node_names n) + 1) true
      ∙ same word (has_left (sources n.frame) (map output_of (and_tables n)) word s))
  | inr s ↦
      let there : has_word (map output_of (end_tables n)) word ≡ true = ap (λ (ws : List (List ℕ)). has_word ws word) shape.each ∙ has_without (sources n.frame) (observed n.frame) word h s in
      let (t, f, o, p) = find_end (λ t. (is_end_table (node_names n) t ≡ true) × (v t.output ≡ table_value t v)) (end_tables n) word there (ends_give n shape v c) in
      sym (ap v o) ∙ p.1 ∙ end_value (node_names n) w v at_0 same t.inputs t.rows t.on p.0
      ∙ sym (ap (lit_value w) (cond-false (has_word (sources n.frame) word) (shown (node_names n) word 49) (lit_of_table (node_names n) (find (λ t. bytes_eq t.output word) (end_tables n))) s
      ∙ ap (lit_of_table (node_names n)) f))
]

pub graph_has_function_is : ((rows : List Row) (given : ℕ → Bool) → InOrder rows → given 0 ≡ false → OneValuation rows given) → OrderedHasOne → GraphHasFunction
graph_has_function_is one_valuation ordered_has_one n shape order = (spelled_in_order n shape order, record { total = (ordered_has_one n order).0; value = value })
  where
    value : (v : List ℕ → Bool) → Consistent n v → map v (observed n.frame) ≡ rows_function (rows_of n) (observed_of n) (map v (sources n.frame))
    value v c = map_through v (lit_value w) (lit_of n) (observed n.frame) (observed_value n shape v c w (sym (same 0 (omega (arith, length-rows n)))) names)
      where
        w : ℕ → Bool
        w = value_in (values_of (given_by (map v (sources n.frame))) (rows_of n))

        same : (m : ℕ) → m < length (rows_of n) → value_in (node_values n v) m ≡ w m
        same = (one_valuation (rows_of n) (given_by (map v (sources n.frame))) (spelled_in_order n shape order) refl).2 (value_in (node_values n v)) (names_fit n shape order v c) (names_given n shape v)

        names : Names (node_names n) w v
        names word h = sym (same (place word (node_names n) + 1) (omega (arith, length-rows n, length-names n, place_lt (node_names n) word h))) ∙ names_have n v word h
