-- The file of a network keeps the values of outputs and of what latches load.
use Rattle.std.specs.List.{AllByRecursion}
use Rattle.std.proofs.Common.{◌≡◌, ℕ, zero, suc, ◌+◌, ◌-◌, ◌*◌, ◌/◌, ◌%◌, ◌<◌, ◌==◌, ◌&&◌, min, max, not, Bool, true, false, if◌then◌else◌, List, [], ◌∷◌, ◌++◌, length, map, flat_map, get_or, bytes_eq, refl, sym, ap, ap₂, ◌∙◌, subst, inl, inr, arith}
use Rattle.std.proofs.lemmas.Bool.{or_cases, or_left, or_right, or_from, cases_Bool, cases_lt, both_ways}
use Rattle.std.proofs.lemmas.List.{length-map, get_or-drop, get_or_append_left, get_or_past}
use Rattle.std.proofs.lemmas.List.Elements.{recursion_from_All}
use Rattle.syn_rows.specs.declared.Lit.{Lit}
use Rattle.syn_rows.specs.declared.Row.{Row}
use Rattle.syn_rows.specs.declared.Row.TheVariants.{Alias, And, Free, Source}
use Rattle.syn_rows.specs.Rows.{node_of, row_at}
use Rattle.syn_rows.specs.Values.{HasGiven, RowFits, given_by, is_open, lit_value, value_in, values_of}
use Rattle.syn_rows.proofs.Folds.{one_valuation_is}
use Rattle.syn_netlist.specs.Words.{has_word, without, firsts}
use Rattle.syn_netlist.specs.Lists.{Frame, Latch, Netlist, control_of, latch_reads, observed, sources}
use Rattle.syn_netlist.specs.Order.{Ordered}
use Rattle.syn_netlist.specs.Values.{Consistent}
use Rattle.syn_netlist.proofs.Sets.{same_word, has_head, has_tail, has_left, has_right}
use Rattle.syn_models.proofs.Once.{without_has}
use Rattle.syn_network.specs.GraphShape.{GraphHasFunction, GraphShape, and_tables, lit_of, node_names, row_of, rows_of, source_row}
use Rattle.syn_network.specs.Spelling.{gates_of}
use Rattle.syn_network.proofs.Spelled.{source_rows, spelled_in_order}
use Rattle.syn_aiger_files.specs.Files.{next_of, variable_of}
use Rattle.syn_aiger_files.specs.Literals.{literals_from}
use Rattle.syn_aiger_files.proofs.Spelled.{literals-append}
use Rattle.syn_aiger.specs.Values.{FitsAig, IsAndOf, source_variables, value_of}
use Rattle.syn_aiger.specs.Writing.{aig_of, ands_by, feed_of, free_signals, latches_by, literal_in}
use Rattle.syn_aiger.proofs.Normal.{AreGates, gates_of_network, latch_literals, length-gates, length-latches, length-rows, length-sources, literal_le}

-- the variables of the sources are 1, 2, ..

value_from_literals : (v : ℕ → Bool) (u n k : ℕ) → k < n → get_or (map v (map variable_of (literals_from u n))) k false ≡ v (u + k)
value_from_literals v u zero k l = absurd (omega arith)
value_from_literals v u (suc n) zero l = ap v (let e : 2 * u / 2 ≡ u + 0 = omega arith in e)
value_from_literals v u (suc n) (suc k) l = value_from_literals v (u + 1) n k (omega arith) ∙ ap v (let e : u + 1 + k ≡ u + suc k = omega arith in e)

source_literals_are : (m : Netlist) → source_variables (aig_of m) ≡ map variable_of (literals_from 1 (length (sources m.frame)))
source_literals_are m =
    let f : Frame = m.frame in
    let free : ℕ = length (free_signals f) in
    ap (λ (l : List ℕ). map variable_of (literals_from 1 free ++ l)) (latch_literals m (free + 1) f.latches ∙ ap₂ literals_from (let e : free + 1 ≡ 1 + free = omega arith in e) (length-latches m (free + 1) f.latches))
    ∙ ap (map variable_of) (literals-append 1 free (length f.latches) ∙ ap (literals_from 1) (sym (length-sources f)))

-- a fitting valuation of the file fits the rows

and_swap : (x y : Bool) → (x && y) ≡ (y && x)
and_swap true true = refl
and_swap true false = refl
and_swap false true = refl
and_swap false false = refl

and_sorted : (v : ℕ → Bool) (a b : Lit) → (value_of v (max a.0 b.0) && value_of v (min a.0 b.0)) ≡ (lit_value v a && lit_value v b)
and_sorted v a b = elim (cases_lt a.0 b.0) [
  | inl l ↦ ap₂ (λ (x y : ℕ). value_of v x && value_of v y) (let e : max a.0 b.0 ≡ b.0 = omega arith in e) (let e : min a.0 b.0 ≡ a.0 = omega arith in e) ∙ and_swap (lit_value v b) (lit_value v a)
  | inr g ↦ ap₂ (λ (x y : ℕ). value_of v x && value_of v y) (let e : max a.0 b.0 ≡ a.0 = omega arith in e) (let e : min a.0 b.0 ≡ b.0 = omega arith in e)
]

fits_gate : (v : ℕ → Bool) (k : ℕ) (rows : List Row) → AreGates k rows → AllByRecursion (IsAndOf v) (ands_by k rows) → (j : ℕ) → j < length rows → RowFits v (k + j) (get_or rows j Free) × (is_open (get_or rows j Free) ≡ false)
fits_gate v k [] h f j l = absurd (omega arith)
fits_gate v k (Free ∷ rows) h f j l = absurd h
fits_gate v k (Source ∷ rows) h f j l = absurd h
fits_gate v k (And a b ∷ rows) h f zero l = (ap v (let e : k + 0 ≡ 2 * k / 2 = omega arith in e) ∙ f.0 ∙ and_sorted v a b, refl)
fits_gate v k (And a b ∷ rows) h f (suc j) l =
    let r = fits_gate v (k + 1) rows h.1 f.1 j (omega arith) in
    (subst (λ (w : ℕ). RowFits v w (get_or rows j Free)) (let e : k + 1 + j ≡ k + suc j = omega arith in e) r.0, r.1)
fits_gate v k (Alias a ∷ rows) h f j l = absurd h

row_in_front : (m : Netlist) (n : ℕ) → n < length (sources m.frame) + 1 → row_at (rows_of m) n ≡ Source
row_in_front m n l =
    get_or_append_left (Source ∷ map source_row (sources m.frame)) (map (row_of (node_names m)) (and_tables m)) Free n (omega (arith, length-map (sources m.frame) source_row)) ∙ at n l
  where
    at : (k : ℕ) → k < length (sources m.frame) + 1 → get_or (Source ∷ map source_row (sources m.frame)) k Free ≡ Source
    at zero l = refl
    at (suc k) l = source_rows (sources m.frame) k Free (omega arith)

row_behind : (m : Netlist) (j : ℕ) → row_at (rows_of m) (length (sources m.frame) + 1 + j) ≡ get_or (gates_of m.frame (rows_of m)) j Free
row_behind m j = sym (get_or-drop (length (sources m.frame) + 1) (rows_of m) j Free)

module _ (m : Netlist) (o : Ordered m) (s : GraphShape m) (v : ℕ → Bool) (w : List ℕ → Bool) (fit : FitsAig (aig_of m) v) (same : map w (sources m.frame) ≡ map v (source_variables (aig_of m))) where
  abbrev first : ℕ
  first = length (sources m.frame) + 1

  gate_at : (j : ℕ) → j < length (and_tables m) → RowFits v (first + j) (row_at (rows_of m) (first + j)) × (is_open (row_at (rows_of m) (first + j)) ≡ false)
  gate_at j l =
      subst (λ (r : Row). RowFits v (first + j) r × (is_open r ≡ false)) (sym (row_behind m j))
      (fits_gate v first (gates_of m.frame (rows_of m)) (gates_of_network m o s) (recursion_from_All (IsAndOf v) (ands_by first (gates_of m.frame (rows_of m))) fit.ands) j (omega (arith, length-gates m)))

  row_fits : (n : ℕ) → RowFits v n (row_at (rows_of m) n)
  row_fits n = elim (cases_lt n first) [
    | inl l ↦ subst (RowFits v n) (sym (row_in_front m n l)) tt
    | inr g ↦ elim (cases_lt n (first + length (and_tables m))) [
      | inl l ↦ subst (λ (k : ℕ). RowFits v k (row_at (rows_of m) k)) (let e : first + (n - first) ≡ n = omega arith in e) (gate_at (n - first) (omega arith)).0
      | inr p ↦ subst (RowFits v n) (sym (get_or_past (rows_of m) n Free (omega (arith, length-rows m)))) tt
    ]
  ]

  given_value : (n : ℕ) → n < first → v n ≡ given_by (map w (sources m.frame)) n
  given_value zero l = fit.constant
  given_value (suc k) l =
      sym (ap (λ (bits : List Bool). get_or bits k false) (same ∙ ap (map v) (source_literals_are m))
      ∙ value_from_literals v 1 (length (sources m.frame)) k (omega arith)
      ∙ ap v (let e : 1 + k ≡ suc k = omega arith in e))

  has_given : HasGiven (rows_of m) (given_by (map w (sources m.frame))) v
  has_given n l is = elim (cases_lt n first) [
    | inl lt ↦ given_value n lt
    | inr g ↦ absurd (both_ways (is_open (row_at (rows_of m) n))
        (subst (λ (k : ℕ). is_open (row_at (rows_of m) k) ≡ false) (let e : first + (n - first) ≡ n = omega arith in e) (gate_at (n - first) (omega (arith, length-rows m))).1) is)
  ]

  node_value : (n : ℕ) → n < length (rows_of m) → v n ≡ value_in (values_of (given_by (map w (sources m.frame))) (rows_of m)) n
  node_value = (one_valuation_is (rows_of m) (given_by (map w (sources m.frame))) (spelled_in_order m s o) refl).2 v (record { constant = fit.constant; each = row_fits }) has_given

  literal_value : (x : List ℕ) → lit_value (value_in (values_of (given_by (map w (sources m.frame))) (rows_of m))) (lit_of m x) ≡ value_of v (literal_in m x)
  literal_value x =
      let le = literal_le m s x in
      ap (λ (b : Bool). if (lit_of m x).0 % 2 == 0 then b else not b) (sym (node_value (node_of (lit_of m x)) (omega (arith, length-rows m))))

pub each_of : {X : Type 0} (f : List ℕ → Bool) (g : X → Bool) (h : List ℕ → X) (ws : List (List ℕ)) → map f ws ≡ map g (map h ws) → (x : List ℕ) → has_word ws x ≡ true → f x ≡ g (h x)
each_of f g h [] e x t = absurd (both_ways false refl t)
each_of f g h (y ∷ ys) e x t = elim (or_cases (bytes_eq y x) (has_word ys x) t) [
  | inl s ↦ subst (λ k. f k ≡ g (h k)) (same_word y x s) (let p : f y ≡ g (h y) = cc in p)
  | inr s ↦ each_of f g h ys (let p : map f ys ≡ map g (map h ys) = cc in p) x s
]

-- an observed signal has the value of its literal
pub signal_value : GraphHasFunction → (m : Netlist) → Ordered m → GraphShape m → (v : ℕ → Bool) (w : List ℕ → Bool) → FitsAig (aig_of m) v → Consistent m w → map w (sources m.frame) ≡ map v (source_variables (aig_of m))
    → (x : List ℕ) → has_word (observed m.frame) x ≡ true → w x ≡ value_of v (literal_in m x)
signal_value law m o s v w fit c same x t =
    each_of w (lit_value (value_in (values_of (given_by (map w (sources m.frame))) (rows_of m)))) (lit_of m) (observed m.frame) ((law m s o).1.value w c) x t
    ∙ literal_value m o s v w fit same x

pub among_firsts : (ws : List (List ℕ)) (w : List ℕ) → has_word ws w ≡ true → has_word (firsts ws) w ≡ true
among_firsts [] w h = h
among_firsts (x ∷ xs) w h = elim (cases_Bool (bytes_eq x w)) [
  | inl e ↦ or_left (bytes_eq x w) (has_word (without (x ∷ []) (firsts xs)) w) e
  | inr f ↦ or_right (bytes_eq x w) (has_word (without (x ∷ []) (firsts xs)) w)
      (without_has (x ∷ []) (firsts xs) w
      (among_firsts xs w (elim (or_cases (bytes_eq x w) (has_word xs w) h) [ inl e ↦ absurd (both_ways (bytes_eq x w) f e) | inr t ↦ t ]))
      (or_from (bytes_eq x w) false f refl))
]

pub feeds_read : (ls : List Latch) (x : List ℕ) → has_word (map feed_of ls) x ≡ true → has_word (flat_map latch_reads ls) x ≡ true
feeds_read [] x h = h
feeds_read (l ∷ ls) x h = elim (or_cases (bytes_eq l.feed x) (has_word (map feed_of ls) x) h) [
  | inl e ↦ has_left (latch_reads l) (flat_map latch_reads ls) x (or_left (bytes_eq l.feed x) (has_word (control_of l.kind) x) e)
  | inr t ↦ has_right (latch_reads l) (flat_map latch_reads ls) x (feeds_read ls x t)
]

pub map_same : (v : ℕ → Bool) (w : List ℕ → Bool) (f : List ℕ → ℕ) (ws : List (List ℕ)) → ((x : List ℕ) → has_word ws x ≡ true → w x ≡ value_of v (f x)) → map w ws ≡ map (value_of v) (map f ws)
map_same v w f [] h = refl
map_same v w f (x ∷ xs) h = ap₂ (λ (b : Bool) (bs : List Bool). b ∷ bs) (h x (has_head x xs)) (map_same v w f xs (λ y t. h y (has_tail x y xs t)))

next_literals : (m : Netlist) (v : ℕ) (ls : List Latch) → map next_of (latches_by m v ls) ≡ map (literal_in m) (map feed_of ls)
next_literals m v [] = refl
next_literals m v (l ∷ ls) = ap (λ (xs : List ℕ). literal_in m l.feed ∷ xs) (next_literals m (v + 1) ls)

pub outputs_kept : GraphHasFunction → (m : Netlist) → Ordered m → GraphShape m → (v : ℕ → Bool) (w : List ℕ → Bool) → FitsAig (aig_of m) v → Consistent m w → map w (sources m.frame) ≡ map v (source_variables (aig_of m)) → map w m.frame.outputs ≡ map (value_of v) (aig_of m).outputs
outputs_kept law m o s v w fit c same = map_same v w (literal_in m) m.frame.outputs
    (λ x t. signal_value law m o s v w fit c same x (among_firsts (m.frame.outputs ++ flat_map latch_reads m.frame.latches) x (has_left m.frame.outputs (flat_map latch_reads m.frame.latches) x t)))

pub next_kept : GraphHasFunction → (m : Netlist) → Ordered m → GraphShape m → (v : ℕ → Bool) (w : List ℕ → Bool) → FitsAig (aig_of m) v → Consistent m w → map w (sources m.frame) ≡ map v (source_variables (aig_of m)) → map w (map feed_of m.frame.latches) ≡ map (value_of v) (map next_of (aig_of m).latches)
next_kept law m o s v w fit c same =
    map_same v w (literal_in m) (map feed_of m.frame.latches)
    (λ x t. signal_value law m o s v w fit c same x (among_firsts (m.frame.outputs ++ flat_map latch_reads m.frame.latches) x (has_right m.frame.outputs (flat_map latch_reads m.frame.latches) x (feeds_read m.frame.latches x t))))
    ∙ ap (map (value_of v)) (sym (next_literals m (length (free_signals m.frame) + 1) m.frame.latches))
