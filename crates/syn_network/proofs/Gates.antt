-- The tables of a graph's ANDs: their outputs, what they read, and the rows that they spell.
use Rattle.std.proofs.Common.{◌≡◌, ◌≢◌, ℕ, zero, suc, ◌+◌, ◌-◌, ◌*◌, ◌%◌, ◌<◌, ◌≤◌, ◌&&◌, if◌then◌else◌, nat_eq, nat_lt, nat_le, not, true, false, List, [], ◌∷◌, ◌++◌, map, length, filter, get_or, drop, bytes_eq, refl, sym, ap, ap₂, ◌∙◌, subst, inl, inr, append_assoc, append-nil, arith}
use Rattle.std.specs.Prelude.{⊤, AllPairs}
use Rattle.std.specs.List.{AllByRecursion}
use Rattle.std.proofs.lemmas.Bool.{and_parts, and_from, or_from, not-true, not_from_false, cases_Bool, both_ways, cond-true, cond-false, false_from_ne_true, ltb-true, leb-true, eqb-true, eqb-false}
use Rattle.std.proofs.lemmas.List.{get_or_append_left, get_or-drop, get_or_default, length_push, length-drop}
use Rattle.syn_rows.specs.declared.Lit.{Lit}
use Rattle.syn_rows.specs.declared.Row.{Row}
use Rattle.syn_rows.specs.declared.Row.TheVariants.{Free, And}
use Rattle.syn_rows.specs.Rows.{node_of, row_at}
use Rattle.syn_netlist.specs.Words.{has_word, distinct}
use Rattle.syn_netlist.specs.Costs.{is_sign}
use Rattle.syn_netlist.specs.Lists.{Table, output_of}
use Rattle.syn_netlist.specs.Numbers.{word_at}
use Rattle.syn_netlist.specs.Order.{reads_known}
use Rattle.syn_netlist.proofs.Sets.{same_word, word_same, has_head, has_tail, distinct_head}
use Rattle.syn_network.specs.GraphShape.{has_two, place, shown, row_of, is_and_table, same_lit, same_pair}
use Rattle.syn_hashed.specs.Hashed.{is_gate, IsHashed}
use Rattle.syn_network.specs.Spelling.{gate_table, gate_tables, lit_name, sign_of}

-- rows of ANDs, the first of which is this node's

abbrev pub AreGates : ℕ → List Row → Type 0
AreGates n [] = ⊤
AreGates n (row ∷ rows) = (is_gate n row ≡ true) × AreGates (suc n) rows

gates_from_each : (n : ℕ) (rows : List Row) → ((j : ℕ) → j < length rows → is_gate (n + j) (get_or rows j Free) ≡ true) → AreGates n rows
gates_from_each n [] h = tt
gates_from_each n (row ∷ rows) h = (
  ap (λ k. is_gate k row) (let s : n ≡ n + 0 = omega arith in s) ∙ h 0 (omega arith),
  gates_from_each (suc n) rows (λ j lt. ap (λ k. is_gate k (get_or rows j Free)) (let s : suc n + j ≡ n + suc j = omega arith in s) ∙ h (suc j) (omega arith)),
)

-- the rows behind the sources of a graph
pub hashed_gates : (count : ℕ) (rows : List Row) → IsHashed count rows → AreGates (count + 1) (drop (count + 1) rows)
hashed_gates count rows hashed = gates_from_each (count + 1) (drop (count + 1) rows)
    (λ j lt. ap (is_gate (count + 1 + j)) (get_or-drop (count + 1) rows j Free) ∙ hashed.gates (count + 1 + j) (omega arith) (omega (arith, lt, length-drop (count + 1) rows)))

pub record GateParts (n : ℕ) (a b : Lit) : Type 0 where
  pub low : 2 ≤ a.0
  pub less : a.0 < b.0
  pub differ : nat_eq (node_of a) (node_of b) ≡ false
  pub below : node_of b < n

pub gate_parts : (n : ℕ) (a b : Lit) → is_gate n (And a b) ≡ true → GateParts n a b
gate_parts n a b h =
    let p = and_parts (nat_le 2 a.0) (nat_lt a.0 b.0 && (not (nat_eq (node_of a) (node_of b)) && nat_lt (node_of b) n)) h in
    let q = and_parts (nat_lt a.0 b.0) (not (nat_eq (node_of a) (node_of b)) && nat_lt (node_of b) n) p.1 in
    let r = and_parts (not (nat_eq (node_of a) (node_of b))) (nat_lt (node_of b) n) q.1 in
    record { low = leb-true 2 a.0 p.0; less = ltb-true a.0 b.0 q.0; differ = not-true (nat_eq (node_of a) (node_of b)) r.0; below = ltb-true (node_of b) n r.1 }

pub first_there : (n : ℕ) (a b : Lit) → GateParts n a b → 1 ≤ node_of a
first_there n a b g = omega (arith, g.low)

pub first_below : (n : ℕ) (a b : Lit) → GateParts n a b → node_of a < n
first_below n a b g = omega (arith, g.less, g.below)

pub second_there : (n : ℕ) (a b : Lit) → GateParts n a b → 1 ≤ node_of b
second_there n a b g = omega (arith, g.low, g.less)

-- names of literals

pub has_at : (names : List (List ℕ)) (i : ℕ) → i < length names → has_word names (word_at names i) ≡ true
has_at [] i lt = absurd (omega arith)
has_at (w ∷ ws) zero lt = has_head w ws
has_at (w ∷ ws) (suc i) lt = has_tail w (word_at ws i) ws (has_at ws i (omega arith))

pub place_back : (names : List (List ℕ)) → distinct names ≡ true → (i : ℕ) → i < length names → place (word_at names i) names ≡ i
place_back [] d i lt = absurd (omega arith)
place_back (w ∷ ws) d zero lt = cond-true (bytes_eq w w) 0 (suc (place w ws)) (word_same w)
place_back (w ∷ ws) d (suc i) lt =
    let word : List ℕ = word_at ws i in
    let there : has_word ws word ≡ true = has_at ws i (omega arith) in
    let other : bytes_eq w word ≡ false = false_from_ne_true (bytes_eq w word) (λ e. both_ways (has_word ws w) (distinct_head w ws d) (subst (λ k. has_word ws k ≡ true) (sym (same_word w word e)) there)) in
    cond-false (bytes_eq w word) 0 (suc (place word ws)) other ∙ ap suc (place_back ws (and_parts (not (has_word ws w)) (distinct ws) d).1 i (omega arith))

sign_bit : (r : ℕ) → r < 2 → ◌≡◌ {A = ℕ} (if nat_eq (if nat_eq r 0 then 49 else 48) 49 then 0 else 1) r
sign_bit zero lt = refl
sign_bit (suc zero) lt = refl
sign_bit (suc (suc r)) lt = absurd (omega arith)

abbrev pub lit : ℕ → Lit
lit k = record { 0 = k }

pub shown_back : (names : List (List ℕ)) → distinct names ≡ true → (l : Lit) → 1 ≤ node_of l → node_of l ≤ length names → shown names (lit_name names l) (sign_of l) ≡ l
shown_back names d l low high =
    let at : place (lit_name names l) names ≡ node_of l - 1 = place_back names d (node_of l - 1) (omega arith) in
    let bit = sign_bit (l.0 % 2) (omega arith) in
    let value : 2 * (place (lit_name names l) names + 1) + (if nat_eq (sign_of l) 49 then 0 else 1) ≡ l.0 = omega (arith, at, bit, low) in
    ap lit value

pub is_sign_of : (l : Lit) → is_sign (sign_of l) ≡ true
is_sign_of l = elim (cases_Bool (nat_eq (l.0 % 2) 0)) [
  | inl e ↦ ap is_sign (cond-true (nat_eq (l.0 % 2) 0) 49 48 e)
  | inr e ↦ ap is_sign (cond-false (nat_eq (l.0 % 2) 0) 49 48 e)
]

-- the tables of gates

pub gates_have_two : (names : List (List ℕ)) (n : ℕ) (rows : List Row) (words : List (List ℕ)) → AreGates n rows → filter has_two (gate_tables names rows words) ≡ gate_tables names rows words
gates_have_two names n [] words g = refl
gates_have_two names n (row ∷ rows) [] g = refl
gates_have_two names n (And a b ∷ rows) (w ∷ ws) g = ap (λ (l : List Table). gate_table names (And a b) w ++ l) (gates_have_two names (suc n) rows ws g.1)
gates_have_two names n (row ∷ rows) (w ∷ ws) g = absurd (both_ways false refl g.0)

pub no_gate_ends : (names : List (List ℕ)) (n : ℕ) (rows : List Row) (words : List (List ℕ)) → AreGates n rows → filter (λ t. not (has_two t)) (gate_tables names rows words) ≡ []
no_gate_ends names n [] words g = refl
no_gate_ends names n (row ∷ rows) [] g = refl
no_gate_ends names n (And a b ∷ rows) (w ∷ ws) g = no_gate_ends names (suc n) rows ws g.1
no_gate_ends names n (row ∷ rows) (w ∷ ws) g = absurd (both_ways false refl g.0)

pub gate_outputs : (names : List (List ℕ)) (n : ℕ) (rows : List Row) (words : List (List ℕ)) → AreGates n rows → length words ≡ length rows → map output_of (gate_tables names rows words) ≡ words
gate_outputs names n [] [] g e = refl
gate_outputs names n [] (w ∷ ws) g e = absurd (omega (arith, e))
gate_outputs names n (row ∷ rows) [] g e = refl
gate_outputs names n (And a b ∷ rows) (w ∷ ws) g e = ap (λ (l : List (List ℕ)). w ∷ l) (gate_outputs names (suc n) rows ws g.1 (omega (arith, e)))
gate_outputs names n (row ∷ rows) (w ∷ ws) g e = absurd (both_ways false refl g.0)

pub length-gate_tables : (names : List (List ℕ)) (n : ℕ) (rows : List Row) (words : List (List ℕ)) → AreGates n rows → length words ≡ length rows → length (gate_tables names rows words) ≡ length rows
length-gate_tables names n [] words g e = refl
length-gate_tables names n (row ∷ rows) [] g e = absurd (omega (arith, e))
length-gate_tables names n (And a b ∷ rows) (w ∷ ws) g e = ap suc (length-gate_tables names (suc n) rows ws g.1 (omega (arith, e)))
length-gate_tables names n (row ∷ rows) (w ∷ ws) g e = absurd (both_ways false refl g.0)

pub gates_spell : (names : List (List ℕ)) → distinct names ≡ true → (n : ℕ) (rows : List Row) (words : List (List ℕ)) → AreGates n rows → length words ≡ length rows → n + length rows ≤ length names + 1
    → map (row_of names) (gate_tables names rows words) ≡ rows
gates_spell names d n [] words g e fits = refl
gates_spell names d n (row ∷ rows) [] g e fits = absurd (omega (arith, e))
gates_spell names d n (And a b ∷ rows) (w ∷ ws) g e fits =
    let parts = gate_parts n a b g.0 in
    let below = first_below n a b parts in
    ap₂ (λ (x : Row) (l : List Row). x ∷ l)
    (ap₂ (λ (x y : Lit). And x y) (shown_back names d a (first_there n a b parts) (omega (arith, below, fits))) (shown_back names d b (second_there n a b parts) (omega (arith, parts.below, fits))))
    (gates_spell names d (suc n) rows ws g.1 (omega (arith, e)) (omega (arith, fits)))
gates_spell names d n (row ∷ rows) (w ∷ ws) g e fits = absurd (both_ways false refl g.0)

-- the names of two different nodes differ
names_differ : (names : List (List ℕ)) → distinct names ≡ true → (a b : Lit) → nat_eq (node_of a) (node_of b) ≡ false → 1 ≤ node_of a → 1 ≤ node_of b → node_of a ≤ length names → node_of b ≤ length names
    → bytes_eq (lit_name names a) (lit_name names b) ≡ false
names_differ names d a b other low_a low_b high_a high_b = false_from_ne_true (bytes_eq (lit_name names a) (lit_name names b)) (λ e.
    let same : node_of a - 1 ≡ node_of b - 1 = sym (place_back names d (node_of a - 1) (omega (arith, low_a, high_a))) ∙ ap (λ w. place w names) (same_word (lit_name names a) (lit_name names b) e) ∙ place_back names d (node_of b - 1) (omega (arith, low_b, high_b)) in
    eqb-false (node_of a) (node_of b) other (omega (arith, same, low_a, low_b)))

pub gates_are_ands : (names : List (List ℕ)) → distinct names ≡ true → (n : ℕ) (rows : List Row) (words : List (List ℕ)) → AreGates n rows → length words ≡ length rows → n + length rows ≤ length names + 1
    → AllByRecursion (λ t. is_and_table t ≡ true) (gate_tables names rows words)
gates_are_ands names d n [] words g e fits = tt
gates_are_ands names d n (row ∷ rows) [] g e fits = absurd (omega (arith, e))
gates_are_ands names d n (And a b ∷ rows) (w ∷ ws) g e fits =
    let parts = gate_parts n a b g.0 in
    let below = first_below n a b parts in
    let other = names_differ names d a b parts.differ (first_there n a b parts) (second_there n a b parts) (omega (arith, below, fits)) (omega (arith, parts.below, fits)) in (
      and_from (not (bytes_eq (lit_name names a) (lit_name names b))) (is_sign (sign_of a) && (is_sign (sign_of b) && true)) (not_from_false (bytes_eq (lit_name names a) (lit_name names b)) other)
          (and_from (is_sign (sign_of a)) (is_sign (sign_of b) && true) (is_sign_of a) (and_from (is_sign (sign_of b)) true (is_sign_of b) refl)),
      gates_are_ands names d (suc n) rows ws g.1 (omega (arith, e)) (omega (arith, fits)),
    )
gates_are_ands names d n (row ∷ rows) (w ∷ ws) g e fits = absurd (both_ways false refl g.0)

-- each gate reads names above it; `known` are the names of the nodes before it
known_lit : (known more names : List (List ℕ)) → names ≡ known ++ more → (l : Lit) → 1 ≤ node_of l → node_of l ≤ length known → has_word known (lit_name names l) ≡ true
known_lit known more names e l low high =
    ap (has_word known) (ap (λ (ws : List (List ℕ)). word_at ws (node_of l - 1)) e ∙ get_or_append_left known more [] (node_of l - 1) (omega (arith, low, high)))
    ∙ has_at known (node_of l - 1) (omega (arith, low, high))

pub gates_read : (known names : List (List ℕ)) (n : ℕ) (rows : List Row) (words : List (List ℕ)) (ends : List Table) → AreGates n rows → length words ≡ length rows → n ≡ length known + 1
    → names ≡ known ++ words → reads_known names ends ≡ true → reads_known known (gate_tables names rows words ++ ends) ≡ true
gates_read known names n [] [] ends g e at same r = ap (λ (ws : List (List ℕ)). reads_known ws ends) (sym (same ∙ append-nil known)) ∙ r
gates_read known names n [] (w ∷ ws) ends g e at same r = absurd (omega (arith, e))
gates_read known names n (row ∷ rows) [] ends g e at same r = absurd (omega (arith, e))
gates_read known names n (And a b ∷ rows) (w ∷ ws) ends g e at same r =
    let parts = gate_parts n a b g.0 in
    let below = first_below n a b parts in
    let one = known_lit known (w ∷ ws) names same a (first_there n a b parts) (omega (arith, below, at)) in
    let two = known_lit known (w ∷ ws) names same b (second_there n a b parts) (omega (arith, parts.below, at)) in
    and_from (has_word known (lit_name names a) && (has_word known (lit_name names b) && true)) (reads_known (known ++ w ∷ []) (gate_tables names rows ws ++ ends))
    (and_from (has_word known (lit_name names a)) (has_word known (lit_name names b) && true) one (and_from (has_word known (lit_name names b)) true two refl))
    (gates_read (known ++ w ∷ []) names (suc n) rows ws ends g.1 (omega (arith, e)) (omega (arith, at, length_push known w)) (same ∙ sym (append_assoc known (w ∷ []) ws)) r)
gates_read known names n (row ∷ rows) (w ∷ ws) ends g e at same r = absurd (both_ways false refl g.0)

-- pairs

other_pair : (m n : ℕ) (r s : Row) → is_gate m r ≡ true → is_gate n s ≡ true → r ≢ s → same_pair r s ≡ false
other_pair m n (And a b) (And c d) g h other =
    let p = gate_parts m a b g in
    let q = gate_parts n c d h in
    or_from (same_lit a c && same_lit b d) (same_lit a d && same_lit b c)
    (false_from_ne_true (same_lit a c && same_lit b d) (λ e.
    let both = and_parts (same_lit a c) (same_lit b d) e in
    other (ap₂ (λ x y. And (lit x) (lit y)) (eqb-true a.0 c.0 both.0) (eqb-true b.0 d.0 both.1))))
    (false_from_ne_true (same_lit a d && same_lit b c) (λ e.
    let both = and_parts (same_lit a d) (same_lit b c) e in
    omega (arith, p.less, q.less, eqb-true a.0 d.0 both.0, eqb-true b.0 c.0 both.1)))
other_pair m n (And a b) s g h other = absurd (both_ways false refl h)
other_pair m n r s g h other = absurd (both_ways false refl g)

pub other_pairs : (count : ℕ) (rows : List Row) → IsHashed count rows → AllPairs (λ r s. same_pair r s ≡ false) (drop (count + 1) rows)
other_pairs count rows hashed i j d before lt =
    let long = length-drop (count + 1) rows in
    let first : get_or (drop (count + 1) rows) i d ≡ row_at rows (count + 1 + i) = get_or-drop (count + 1) rows i d ∙ get_or_default rows (count + 1 + i) d Free (omega (arith, before, lt, long)) in
    let second : get_or (drop (count + 1) rows) j d ≡ row_at rows (count + 1 + j) = get_or-drop (count + 1) rows j d ∙ get_or_default rows (count + 1 + j) d Free (omega (arith, lt, long)) in
    ap₂ same_pair first second
    ∙ other_pair (count + 1 + i) (count + 1 + j) (row_at rows (count + 1 + i)) (row_at rows (count + 1 + j))
    (hashed.gates (count + 1 + i) (omega arith) (omega (arith, before, lt, long))) (hashed.gates (count + 1 + j) (omega arith) (omega (arith, lt, long)))
    (hashed.once (count + 1 + i) (count + 1 + j) (omega arith) (omega (arith, before)) (omega (arith, lt, long)))
