-- The LUTs that a netlist of LUT shape spells have the values of its names.
use Rattle.std.proofs.Common.{if◌then◌else◌, ◌≡◌, ℕ, ◌+◌, ◌*◌, ◌&&◌, ◌||◌, nat_eq, nat_le, not, Bool, true, false, All, List, [], ◌∷◌, ◌++◌, map, length, get_or, find, bytes_eq, refl, sym, ap, ap₂, ◌∙◌, subst, inl, inr, append_assoc, append-nil, add-one, eq-eqb, arith}
use Rattle.std.specs.List.{list_all, AllByRecursion}
use Rattle.std.proofs.lemmas.Bool.{and_parts, cases_Bool, cond-true, cond-false, eqb-true, false_from_ne_true}
use Rattle.std.proofs.lemmas.List.{map-append, length-map, length-append, get_or_append_left, get_or-append-add}
use Rattle.std.proofs.lemmas.List.Elements.{All-same, recursion_from_All}
use Rattle.syn_rows.specs.Values.{lit_value, value_in}
use Rattle.syn_netlist.specs.Words.{has_word, distinct}
use Rattle.syn_netlist.specs.Costs.{is_sign}
use Rattle.syn_netlist.specs.Lists.{Table, Netlist, output_of, sources, observed}
use Rattle.syn_netlist.specs.Covers.{matches, cover_value}
use Rattle.syn_netlist.specs.Values.{table_value, Consistent}
use Rattle.syn_netlist.specs.Order.{Ordered, reads_known, OrderedHasOne}
use Rattle.syn_netlist.proofs.Sets.{has_left}
use Rattle.syn_truth.specs.Truth.{digit, minterm_of}
use Rattle.syn_network.specs.GraphShape.{place, shown, lit_of_table, is_end_table}
use Rattle.syn_network.proofs.Spelled.{Names, end_value, find_end, fits_sign, has_without, map_through, place_in_front, place_value, signed_value}
use Rattle.syn_lutnet.specs.LutData.{ones_value, lut_value, fold_luts, signal_values, rising, luts_function}
use Rattle.syn_network.specs.LutShape.{lut_tables, end_tables, signal_names, row_minterm, signal_of, lut_of, luts_of, lit_of, observed_of, is_minterm_row, is_lut_table, LutShape, LutsHaveFunction}

-- a row of signs matches the values of one minterm alone

same_tests : (a b : Bool) → (a ≡ true → b ≡ true) → (b ≡ true → a ≡ true) → a ≡ b
same_tests true b f g = sym (f refl)
same_tests false true f g = g refl
same_tests false false f g = refl

same_numbers : (x y p q : ℕ) → (x ≡ y → p ≡ q) → (p ≡ q → x ≡ y) → nat_eq x y ≡ nat_eq p q
same_numbers x y p q f g = same_tests (nat_eq x y) (nat_eq p q) (λ e. eq-eqb p q (f (eqb-true x y e))) (λ e. eq-eqb x y (g (eqb-true p q e)))

apart_numbers : (p q : ℕ) → (p ≡ q → ⊥) → false ≡ nat_eq p q
apart_numbers p q h = sym (false_from_ne_true (nat_eq p q) (λ e. h (eqb-true p q e)))

step_same : (p b : Bool) (x y : ℕ) → ((if p then b else not b) && nat_eq x y) ≡ nat_eq (digit p + 2 * x) (digit b + 2 * y)
step_same true true x y = same_numbers x y (1 + 2 * x) (1 + 2 * y) (λ e. omega (arith, e)) (λ e. omega (arith, e))
step_same true false x y = apart_numbers (1 + 2 * x) (0 + 2 * y) (λ e. omega (arith, e))
step_same false true x y = apart_numbers (0 + 2 * x) (1 + 2 * y) (λ e. omega (arith, e))
step_same false false x y = same_numbers x y (0 + 2 * x) (0 + 2 * y) (λ e. omega (arith, e)) (λ e. omega (arith, e))

pub matches_minterm : (row : List ℕ) (bits : List Bool) → list_all is_sign row ≡ true → length row ≡ length bits → matches row bits ≡ nat_eq (row_minterm row) (minterm_of bits)
matches_minterm [] [] s e = refl
matches_minterm [] (b ∷ bits) s e = absurd (omega (arith, e))
matches_minterm (c ∷ cs) [] s e = absurd (omega (arith, e))
matches_minterm (c ∷ cs) (b ∷ bits) s e =
    let parts = and_parts (is_sign c) (list_all is_sign cs) s in
    ap₂ (λ (x y : Bool). x && y) (fits_sign c b parts.0) (matches_minterm cs bits parts.1 (omega (arith, e))) ∙ step_same (nat_eq c 49) b (row_minterm cs) (minterm_of bits)

-- a cover that lists minterms has the value of their table
pub cover_lists : (rows : List (List ℕ)) (n : ℕ) (bits : List Bool) → list_all (is_minterm_row n) rows ≡ true → length bits ≡ n → cover_value rows true bits ≡ ones_value (map row_minterm rows) bits
cover_lists [] n bits h e = refl
cover_lists (row ∷ rows) n bits h e =
    let parts = and_parts (is_minterm_row n row) (list_all (is_minterm_row n) rows) h in
    let first = and_parts (nat_eq (length row) n) (list_all is_sign row) parts.0 in
    ap₂ (λ (x y : Bool). x || y) (matches_minterm row bits first.1 (eqb-true (length row) n first.0 ∙ sym e)) (cover_lists rows n bits parts.1 e)

lut_gives : (k : ℕ) (t : Table) → is_lut_table k t ≡ true → (v : List ℕ → Bool) → table_value t v ≡ ones_value (map row_minterm t.rows) (map v t.inputs)
lut_gives k t h v =
    let n : ℕ = length t.inputs in
    let p = and_parts (nat_le 2 n) (nat_le n k && (distinct t.inputs && (list_all (is_minterm_row n) t.rows && (rising (map row_minterm t.rows) && t.on)))) h in
    let q = and_parts (nat_le n k) (distinct t.inputs && (list_all (is_minterm_row n) t.rows && (rising (map row_minterm t.rows) && t.on))) p.1 in
    let r = and_parts (distinct t.inputs) (list_all (is_minterm_row n) t.rows && (rising (map row_minterm t.rows) && t.on)) q.1 in
    let s = and_parts (list_all (is_minterm_row n) t.rows) (rising (map row_minterm t.rows) && t.on) r.1 in
    let u = and_parts (rising (map row_minterm t.rows)) t.on s.1 in
    ap (λ (o : Bool). cover_value t.rows o (map v t.inputs)) u.1 ∙ cover_lists t.rows n (map v t.inputs) s.0 (length-map t.inputs v)

-- the values of the signals are those of their names

inputs_are : (v : List ℕ → Bool) (names known rest : List (List ℕ)) → names ≡ known ++ rest → (ws : List (List ℕ)) → list_all (has_word known) ws ≡ true
    → map (value_in (false ∷ map v known)) (map (signal_of names) ws) ≡ map v ws
inputs_are v names known rest same [] h = refl
inputs_are v names known rest same (w ∷ ws) h =
    let parts = and_parts (has_word known w) (list_all (has_word known) ws) h in
    let at : place w names ≡ place w known = ap (place w) same ∙ place_in_front known rest w parts.0 in
    ap₂ (λ (b : Bool) (bs : List Bool). b ∷ bs)
    (ap (value_in (false ∷ map v known)) (add-one (place w names)) ∙ ap (λ k. get_or (map v known) k false) at ∙ place_value v known w parts.0)
    (inputs_are v names known rest same ws parts.1)

abbrev Gives : ℕ → (List ℕ → Bool) → Table → Type 0
Gives k v t = (is_lut_table k t ≡ true) × (v t.output ≡ table_value t v)

signals_are : (k : ℕ) (v : List ℕ → Bool) (names known : List (List ℕ)) (ts more : List Table) → names ≡ known ++ map output_of ts → reads_known known (ts ++ more) ≡ true → AllByRecursion (Gives k v) ts
    → fold_luts lut_value false (false ∷ map v known) (map (lut_of names) ts) ≡ false ∷ map v names
signals_are k v names known [] more same r all = ap (λ (ws : List (List ℕ)). false ∷ map v ws) (sym (same ∙ append-nil known))
signals_are k v names known (t ∷ ts) more same r all =
    let parts = and_parts (list_all (has_word known) t.inputs) (reads_known (known ++ t.output ∷ []) (ts ++ more)) r in
    let value : lut_value (value_in (false ∷ map v known)) (lut_of names t) ≡ v t.output =
    ap (ones_value (map row_minterm t.rows)) (inputs_are v names known (t.output ∷ map output_of ts) same t.inputs parts.0) ∙ sym (lut_gives k t all.0.0 v) ∙ sym all.0.1 in
    ap (λ (b : Bool). fold_luts lut_value false ((false ∷ map v known) ++ b ∷ []) (map (lut_of names) ts)) value
    ∙ ap (λ (bits : List Bool). fold_luts lut_value false (false ∷ bits) (map (lut_of names) ts)) (sym (map-append v known (t.output ∷ [])))
    ∙ signals_are k v names (known ++ t.output ∷ []) ts more (same ∙ sym (append_assoc known (t.output ∷ []) (map output_of ts))) parts.1 all.1

consistent_luts : (n : Netlist) (k : ℕ) → LutShape n k → (v : List ℕ → Bool) → Consistent n v → AllByRecursion (Gives k v) (lut_tables n)
consistent_luts n k shape v c = recursion_from_All (Gives k v) (lut_tables n) (λ j d lt. (shape.luts j d lt, given j d lt))
  where
    given : All (λ (t : Table). v t.output ≡ table_value t v) (lut_tables n)
    given j d lt =
        let all = All-same (λ (t : Table). v t.output ≡ table_value t v) (lut_tables n ++ end_tables n) n.tables (sym shape.split) c in
        subst (λ (t : Table). v t.output ≡ table_value t v) (get_or_append_left (lut_tables n) (end_tables n) d j lt) (all j d (omega (arith, length-append (lut_tables n) (end_tables n))))

values_are : (n : Netlist) (k : ℕ) → LutShape n k → Ordered n → (v : List ℕ → Bool) → Consistent n v → signal_values (map v (sources n.frame)) (luts_of n) ≡ false ∷ map v (signal_names n)
values_are n k shape order v c =
    signals_are k v (signal_names n) (sources n.frame) (lut_tables n) (end_tables n) refl (ap (reads_known (sources n.frame)) (sym shape.split) ∙ order.above) (consistent_luts n k shape v c)

-- observed signals

ends_give : (n : Netlist) (k : ℕ) → LutShape n k → (v : List ℕ → Bool) → Consistent n v → AllByRecursion (λ t. (is_end_table (signal_names n) t ≡ true) × (v t.output ≡ table_value t v)) (end_tables n)
ends_give n k shape v c = recursion_from_All (λ t. (is_end_table (signal_names n) t ≡ true) × (v t.output ≡ table_value t v)) (end_tables n) (λ j d lt. (shape.ends j d lt, given j d lt))
  where
    given : All (λ (t : Table). v t.output ≡ table_value t v) (end_tables n)
    given j d lt =
        let all = All-same (λ (t : Table). v t.output ≡ table_value t v) (lut_tables n ++ end_tables n) n.tables (sym shape.split) c in
        subst (λ (t : Table). v t.output ≡ table_value t v) (get_or-append-add (lut_tables n) (end_tables n) j d) (all (length (lut_tables n) + j) d (omega (arith, length-append (lut_tables n) (end_tables n))))

observed_value : (n : Netlist) (k : ℕ) → LutShape n k → (v : List ℕ → Bool) → Consistent n v → (w : ℕ → Bool) → w 0 ≡ false → Names (signal_names n) w v
    → (word : List ℕ) → has_word (observed n.frame) word ≡ true → v word ≡ lit_value w (lit_of n word)
observed_value n k shape v c w at_0 same word h = elim (cases_Bool (has_word (sources n.frame) word)) [
  | inl s ↦
      sym (ap (lit_value w) (cond-true (has_word (sources n.frame) word) (shown (signal_names n) word 49) (lit_of_table (signal_names n) (find (λ t. bytes_eq t.output word) (end_tables n))) s)
      ∙ signed_value w (place word (signal_names n) + 1) true
      ∙ same word (has_left (sources n.frame) (map output_of (lut_tables n)) word s))
  | inr s ↦
      let there : has_word (map output_of (end_tables n)) word ≡ true = ap (λ (ws : List (List ℕ)). has_word ws word) shape.each ∙ has_without (sources n.frame) (observed n.frame) word h s in
      let (t, f, o, p) = find_end (λ t. (is_end_table (signal_names n) t ≡ true) × (v t.output ≡ table_value t v)) (end_tables n) word there (ends_give n k shape v c) in
      sym (ap v o) ∙ p.1 ∙ end_value (signal_names n) w v at_0 same t.inputs t.rows t.on p.0
      ∙ sym (ap (lit_value w) (cond-false (has_word (sources n.frame) word) (shown (signal_names n) word 49) (lit_of_table (signal_names n) (find (λ t. bytes_eq t.output word) (end_tables n))) s
      ∙ ap (lit_of_table (signal_names n)) f))
]

pub luts_have_function_is : OrderedHasOne → LutsHaveFunction
luts_have_function_is ordered_has_one n k shape order = record { total = (ordered_has_one n order).0; value = value }
  where
    value : (v : List ℕ → Bool) → Consistent n v → map v (observed n.frame) ≡ luts_function (luts_of n) (observed_of n) (map v (sources n.frame))
    value v c = map_through v (lit_value w) (lit_of n) (observed n.frame) (observed_value n k shape v c w at_0 names)
      where
        w : ℕ → Bool
        w = value_in (signal_values (map v (sources n.frame)) (luts_of n))

        whole : signal_values (map v (sources n.frame)) (luts_of n) ≡ false ∷ map v (signal_names n)
        whole = values_are n k shape order v c

        at_0 : w 0 ≡ false
        at_0 = ap (λ (bits : List Bool). value_in bits 0) whole

        names : Names (signal_names n) w v
        names word h = ap (λ (bits : List Bool). value_in bits (place word (signal_names n) + 1)) whole
            ∙ ap (value_in (false ∷ map v (signal_names n))) (add-one (place word (signal_names n))) ∙ place_value v (signal_names n) word h
