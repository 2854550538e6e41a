-- The file of a network can be written.
use Rattle.std.specs.Prelude.{⊤}
use Rattle.std.specs.List.{AllByRecursion, list_all, list_any}
use Rattle.std.proofs.Common.{◌≡◌, ℕ, zero, suc, ◌+◌, ◌*◌, ◌/◌, ◌<◌, ◌≤◌, ◌==◌, ◌&&◌, min, max, not, nat_le, nat_lt, Bool, true, false, if◌then◌else◌, List, [], ◌∷◌, ◌++◌, length, map, drop, get_or, find, bytes_eq, Option, Some, refl, sym, ap, ◌∙◌, subst, inl, inr, append-nil, arith, le-leb, lt-ltb, eq-eqb, ne_eqb, length-append}
use Rattle.std.proofs.lemmas.Bool.{and_parts, and_from, and_left, and_right, or_from, or_right, cases_Bool, both_ways, cond-true, cond-false, not_from_false}
use Rattle.std.proofs.lemmas.List.{length-map, get_or-drop}
use Rattle.std.proofs.lemmas.List.Folds.{list_all-append}
use Rattle.std.proofs.lemmas.List.Elements.{recursion_from_All}
use Rattle.std.proofs.Math.Seq.{drop-append_seam}
use Rattle.syn_rows.specs.declared.Lit.{Lit}
use Rattle.syn_rows.specs.declared.Row.{Row}
use Rattle.syn_rows.specs.declared.Row.TheVariants.{Alias, And, Free, Source}
use Rattle.syn_rows.specs.Rows.{AllRefs}
use Rattle.syn_netlist.specs.Words.{has_word, is_word, without}
use Rattle.syn_netlist.specs.Costs.{is_sign}
use Rattle.syn_netlist.specs.Lists.{Frame, Latch, Netlist, Table, latch_output, output_of, sources}
use Rattle.syn_netlist.specs.Order.{Ordered}
use Rattle.syn_netlist.proofs.Sets.{has_left}
use Rattle.syn_network.specs.GraphShape.{GraphShape, and_tables, end_tables, is_and_cover, is_and_table, is_end_cover, is_end_table, lit_of_table, lit_shown, node_names, row_of, row_shown, rows_of, shown, source_row}
use Rattle.syn_network.specs.Spelling.{gates_of}
use Rattle.syn_network.proofs.Spelled.{place_lt, spelled_in_order}
use Rattle.syn_aiger_files.specs.declared.files.Aig.{Aig}
use Rattle.syn_aiger_files.specs.declared.files.Place.{Place}
use Rattle.syn_aiger_files.specs.declared.files.Symbol.{Symbol}
use Rattle.syn_aiger_files.specs.declared.files.Place.TheVariants.{Input as OfInput, Latch as OfLatch, Output as OfOutput}
use Rattle.syn_aiger_files.specs.Files.{and_literal, latch_literal}
use Rattle.syn_aiger_files.specs.Laws.{and_is_normal, are_symbols, count_in, latch_is_normal}
use Rattle.syn_aiger_files.specs.Literals.{literals_from}
use Rattle.syn_aiger_files.specs.Parts.{is_reset, may_read}
use Rattle.syn_aiger_files.specs.Symbols.{is_at, letter_of}
use Rattle.syn_aiger.specs.Writing.{aig_of, ands_by, free_signals, latches_by, literal_in, reset_by, symbols_by, symbols_in}
use Rattle.syn_aiger.specs.Laws.{AigOfIsNormal, written_names}

pub length-literals : (v n : ℕ) → length (literals_from v n) ≡ n
length-literals v zero = refl
length-literals v (suc n) = ap suc (length-literals (v + 1) n)

-- rows that are ANDs of literals below their own

abbrev pub AreGates : ℕ → List Row → Type 0
AreGates v [] = ⊤
AreGates v (Free ∷ rows) = ⊥
AreGates v (Source ∷ rows) = ⊥
AreGates v (And a b ∷ rows) = ((a.0 < 2 * v) × (b.0 < 2 * v)) × AreGates (v + 1) rows
AreGates v (Alias a ∷ rows) = ⊥

literals_are : (v : ℕ) (rows : List Row) → AreGates v rows → map and_literal (ands_by v rows) ≡ literals_from v (length (ands_by v rows))
literals_are v [] h = refl
literals_are v (Free ∷ rows) h = absurd h
literals_are v (Source ∷ rows) h = absurd h
literals_are v (And a b ∷ rows) h = ap (λ (l : List ℕ). 2 * v ∷ l) (literals_are (v + 1) rows h.1)
literals_are v (Alias a ∷ rows) h = absurd h

length-ands : (v : ℕ) (rows : List Row) → AreGates v rows → length (ands_by v rows) ≡ length rows
length-ands v [] h = refl
length-ands v (Free ∷ rows) h = absurd h
length-ands v (Source ∷ rows) h = absurd h
length-ands v (And a b ∷ rows) h = ap suc (length-ands (v + 1) rows h.1)
length-ands v (Alias a ∷ rows) h = absurd h

ands_normal : (v : ℕ) (rows : List Row) → AreGates v rows → list_all and_is_normal (ands_by v rows) ≡ true
ands_normal v [] h = refl
ands_normal v (Free ∷ rows) h = absurd h
ands_normal v (Source ∷ rows) h = absurd h
ands_normal v (And a b ∷ rows) h =
    let p : a.0 < 2 * v = h.0.0 in
    let q : b.0 < 2 * v = h.0.1 in
    and_from (nat_lt (max a.0 b.0) (2 * v) && nat_le (min a.0 b.0) (max a.0 b.0)) (list_all and_is_normal (ands_by (v + 1) rows))
    (and_from (nat_lt (max a.0 b.0) (2 * v)) (nat_le (min a.0 b.0) (max a.0 b.0)) (lt-ltb (max a.0 b.0) (2 * v) (omega arith)) (le-leb (min a.0 b.0) (max a.0 b.0) (omega arith)))
    (ands_normal (v + 1) rows h.1)
ands_normal v (Alias a ∷ rows) h = absurd h

-- the rows of a network's ANDs are such

and_row : (v : ℕ) (names inputs rows : List (List ℕ)) (on : Bool) (more : List Row) → is_and_cover inputs rows on ≡ true → AllRefs (λ k. k < v) (row_shown names inputs rows) → AreGates (v + 1) more → AreGates v (row_shown names inputs rows ∷ more)
and_row v names (a ∷ b ∷ []) ((c ∷ d ∷ []) ∷ []) on more h refs rest =
    let p : (shown names a c).0 / 2 < v = refs.0 in
    let q : (shown names b d).0 / 2 < v = refs.1 in
    ((omega arith, omega arith), rest)
and_row v names inputs rows on more h refs rest = absurd (both_ways false refl h)

are_gates : (names : List (List ℕ)) (ts : List Table) (v : ℕ) → AllByRecursion (λ t. is_and_table t ≡ true) ts → ((j : ℕ) → j < length ts → AllRefs (λ k. k < v + j) (get_or (map (row_of names) ts) j Free)) → AreGates v (map (row_of names) ts)
are_gates names [] v all each = tt
are_gates names (t ∷ ts) v all each =
    and_row v names t.inputs t.rows t.on (map (row_of names) ts) all.0
    (subst (λ (w : ℕ). AllRefs (λ k. k < w) (row_of names t)) (let e : v + 0 ≡ v = omega arith in e) (each 0 (omega arith)))
    (are_gates names ts (v + 1) all.1 (λ j l. subst (λ (w : ℕ). AllRefs (λ k. k < w) (get_or (map (row_of names) ts) j Free)) (let e : v + suc j ≡ v + 1 + j = omega arith in e) (each (suc j) (omega arith))))

gates_are : (m : Netlist) → gates_of m.frame (rows_of m) ≡ map (row_of (node_names m)) (and_tables m)
gates_are m =
    let front : List Row = Source ∷ map source_row (sources m.frame) in
    let long : length (sources m.frame) + 1 ≡ length front = omega (arith, length-map (sources m.frame) source_row) in
    ap (λ (k : ℕ). drop k (rows_of m)) long ∙ drop-append_seam front (map (row_of (node_names m)) (and_tables m))

pub gates_of_network : (m : Netlist) → Ordered m → GraphShape m → AreGates (length (sources m.frame) + 1) (gates_of m.frame (rows_of m))
gates_of_network m o s =
    let v : ℕ = length (sources m.frame) + 1 in
    subst (AreGates v) (sym (gates_are m)) (are_gates (node_names m) (and_tables m) v (recursion_from_All (λ t. is_and_table t ≡ true) (and_tables m) s.ands)
    (λ j l. subst (AllRefs (λ k. k < v + j)) (sym (get_or-drop v (rows_of m) j Free) ∙ ap (λ (rows : List Row). get_or rows j Free) (gates_are m)) (spelled_in_order m s o (v + j))))

pub length-gates : (m : Netlist) → length (gates_of m.frame (rows_of m)) ≡ length (and_tables m)
length-gates m = ap length (gates_are m) ∙ length-map (and_tables m) (row_of (node_names m))

pub length-rows : (m : Netlist) → length (rows_of m) ≡ length (sources m.frame) + 1 + length (and_tables m)
length-rows m = omega (arith, length-append (Source ∷ map source_row (sources m.frame)) (map (row_of (node_names m)) (and_tables m)), length-map (sources m.frame) source_row, length-map (and_tables m) (row_of (node_names m)))

-- literals of signals

bit_le : (b : Bool) → (if b then 0 else 1) ≤ 1
bit_le true = omega arith
bit_le false = omega arith

shown_le : (names : List (List ℕ)) (word : List ℕ) (c : ℕ) → has_word names word ≡ true → (shown names word c).0 ≤ 2 * length names + 1
shown_le names word c h = let p = place_lt names word h in let b = bit_le (c == 49) in omega arith

end_le : (names inputs rows : List (List ℕ)) (on : Bool) → is_end_cover names inputs rows on ≡ true → (lit_shown names inputs rows).0 ≤ 2 * length names + 1
end_le names [] [] on h = omega arith
end_le names [] ([] ∷ []) on h = omega arith
end_le names (a ∷ []) ((c ∷ []) ∷ []) on h = shown_le names a c (and_parts (has_word names a) (is_sign c && on) h).0
end_le names inputs rows on h = absurd (both_ways false refl h)

found_le : (names : List (List ℕ)) (p : Table → Bool) (ts : List Table) → AllByRecursion (λ t. is_end_table names t ≡ true) ts → (lit_of_table names (find p ts)).0 ≤ 2 * length names + 1
found_le names p [] h = omega arith
found_le names p (t ∷ ts) h = elim (cases_Bool (p t)) [
  | inl e ↦ subst (λ (o : Option Table). (lit_of_table names o).0 ≤ 2 * length names + 1) (sym (cond-true (p t) (Some t) (find p ts) e)) (end_le names t.inputs t.rows t.on h.0)
  | inr e ↦ subst (λ (o : Option Table). (lit_of_table names o).0 ≤ 2 * length names + 1) (sym (cond-false (p t) (Some t) (find p ts) e)) (found_le names p ts h.1)
]

pub literal_le : (m : Netlist) → GraphShape m → (word : List ℕ) → literal_in m word ≤ 2 * (length (sources m.frame) + length (and_tables m)) + 1
literal_le m s word =
    let names : List (List ℕ) = node_names m in
    let long : length names ≡ length (sources m.frame) + length (and_tables m) = omega (arith, length-append (sources m.frame) (map output_of (and_tables m)), length-map (and_tables m) output_of) in
    let other : Lit = lit_of_table names (find (λ t. bytes_eq t.output word) (end_tables m)) in
    elim (cases_Bool (has_word (sources m.frame) word)) [
      | inl e ↦
          let is : literal_in m word ≡ (shown names word 49).0 = ap (λ (l : Lit). l.0) (cond-true (has_word (sources m.frame) word) (shown names word 49) other e) in
          let le = shown_le names word 49 (has_left (sources m.frame) (map output_of (and_tables m)) word e) in
          omega (arith, is, le, long)
      | inr e ↦
          let is : literal_in m word ≡ other.0 = ap (λ (l : Lit). l.0) (cond-false (has_word (sources m.frame) word) (shown names word 49) other e) in
          let le = found_le names (λ t. bytes_eq t.output word) (end_tables m) (recursion_from_All (λ t. is_end_table names t ≡ true) (end_tables m) s.ends) in
          omega (arith, is, le, long)
    ]

-- latches and outputs

resets_by : (own init : ℕ) → is_reset own (reset_by own init) ≡ true
resets_by own init = elim (cases_Bool (init == 0)) [
  | inl e ↦ ap (is_reset own) (cond-true (init == 0) 0 (if init == 1 then 1 else own) e)
  | inr e ↦ ap (is_reset own) (cond-false (init == 0) 0 (if init == 1 then 1 else own) e) ∙ elim (cases_Bool (init == 1)) [
    | inl f ↦ ap (is_reset own) (cond-true (init == 1) 1 own f)
    | inr f ↦ ap (is_reset own) (cond-false (init == 1) 1 own f) ∙ or_right (nat_le own 1) (own == own) (eq-eqb own own refl)
  ]
]

pub length-latches : (m : Netlist) (v : ℕ) (ls : List Latch) → length (latches_by m v ls) ≡ length ls
length-latches m v [] = refl
length-latches m v (l ∷ ls) = ap suc (length-latches m (v + 1) ls)

pub latch_literals : (m : Netlist) (v : ℕ) (ls : List Latch) → map latch_literal (latches_by m v ls) ≡ literals_from v (length (latches_by m v ls))
latch_literals m v [] = refl
latch_literals m v (l ∷ ls) = ap (λ (xs : List ℕ). 2 * v ∷ xs) (latch_literals m (v + 1) ls)

latches_normal : (m : Netlist) (most v : ℕ) (ls : List Latch) → ((word : List ℕ) → literal_in m word ≤ most) → list_all (latch_is_normal most) (latches_by m v ls) ≡ true
latches_normal m most v [] h = refl
latches_normal m most v (l ∷ ls) h =
    and_from (nat_le (literal_in m l.feed) most && is_reset (2 * v) (reset_by (2 * v) l.init)) (list_all (latch_is_normal most) (latches_by m (v + 1) ls))
    (and_from (nat_le (literal_in m l.feed) most) (is_reset (2 * v) (reset_by (2 * v) l.init)) (le-leb (literal_in m l.feed) most (h l.feed)) (resets_by (2 * v) l.init))
    (latches_normal m most (v + 1) ls h)

outputs_read : (m : Netlist) (most : ℕ) (ws : List (List ℕ)) → ((word : List ℕ) → literal_in m word ≤ most) → list_all (may_read most) (map (literal_in m) ws) ≡ true
outputs_read m most [] h = refl
outputs_read m most (w ∷ ws) h = and_from (nat_le (literal_in m w) most) (list_all (may_read most) (map (literal_in m) ws)) (le-leb (literal_in m w) most (h w)) (outputs_read m most ws h)

-- symbols

-- none of these is of the place with an index from i on
abbrev NoneFrom : Place → ℕ → List Symbol → Type 0
NoneFrom p i given = (k : ℕ) → i ≤ k → list_any (is_at p k) given ≡ false

abbrev Others : Place → List Symbol → List Symbol → Type 0
Others p given later = (q : Place) → (letter_of p ≡ letter_of q → ⊥) → NoneFrom q 0 given → NoneFrom q 0 later

symbols_fit : (g : Aig) (p : Place) (i : ℕ) (names : List (List ℕ)) (given more : List Symbol) → i + length names ≤ count_in g p → list_all is_word names ≡ true → NoneFrom p i given
    → ((later : List Symbol) → Others p given later → are_symbols g later more ≡ true) → are_symbols g given (symbols_by p i names ++ more) ≡ true
symbols_fit g p i [] given more few words none next = next given (λ q d h. h)
symbols_fit g p i (name ∷ names) given more few words none next =
    let s : Symbol = record { place = p; index = i; name = name } in
    let w = and_parts (is_word name) (list_all is_word names) words in
    let rest : List Symbol = symbols_by p (suc i) names ++ more in
    and_from (nat_lt i (count_in g p)) (not (list_any (is_at p i) given) && (is_word name && are_symbols g (s ∷ given) rest)) (lt-ltb i (count_in g p) (omega arith))
    (and_from (not (list_any (is_at p i) given)) (is_word name && are_symbols g (s ∷ given) rest) (not_from_false (list_any (is_at p i) given) (none i (omega arith)))
    (and_from (is_word name) (are_symbols g (s ∷ given) rest) w.0
    (symbols_fit g p (suc i) names (s ∷ given) more (omega arith) w.1
    (λ k le. or_from (letter_of p == letter_of p && i == k) (list_any (is_at p k) given) (and_right (letter_of p == letter_of p) (i == k) (ne_eqb i k (λ e. omega arith))) (none k (omega arith)))
    (λ later others. next later (λ q d h. others q d (λ k le. or_from (letter_of p == letter_of q && i == k) (list_any (is_at q k) given) (and_left (letter_of p == letter_of q) (i == k) (ne_eqb (letter_of p) (letter_of q) d)) (h k le)))))))

symbols_of_frame : (g : Aig) (f : Frame) → length (free_signals f) ≤ length g.inputs → length (map latch_output f.latches) ≤ length g.latches → length f.outputs ≤ length g.outputs → list_all is_word (written_names f) ≡ true → are_symbols g [] (symbols_in f) ≡ true
symbols_of_frame g f i l o words =
    let free : List (List ℕ) = free_signals f in
    let latches : List (List ℕ) = map latch_output f.latches in
    let a = and_parts (list_all is_word free) (list_all is_word (latches ++ f.outputs)) (sym (list_all-append is_word free (latches ++ f.outputs)) ∙ words) in
    let b = and_parts (list_all is_word latches) (list_all is_word f.outputs) (sym (list_all-append is_word latches f.outputs) ∙ a.1) in
    symbols_fit g OfInput 0 free [] (symbols_by OfLatch 0 latches ++ symbols_by OfOutput 0 f.outputs) (omega arith) a.0 (λ k le. refl)
    (λ later others. symbols_fit g OfLatch 0 latches later (symbols_by OfOutput 0 f.outputs) (omega arith) b.0 (others OfLatch (λ e. omega arith) (λ k le. refl))
    (λ last more. ap (are_symbols g last) (sym (append-nil (symbols_by OfOutput 0 f.outputs)))
    ∙ symbols_fit g OfOutput 0 f.outputs last [] (omega arith) b.1 (more OfOutput (λ e. omega arith) (others OfOutput (λ e. omega arith) (λ k le. refl))) (λ end done. refl)))

-- all together

pub length-sources : (f : Frame) → length (sources f) ≡ length (free_signals f) + length f.latches
length-sources f = omega (arith, length-append f.inputs (without f.inputs f.clocks ++ map latch_output f.latches), length-append (without f.inputs f.clocks) (map latch_output f.latches), length-append f.inputs (without f.inputs f.clocks), length-map f.latches latch_output)

pub aig_of_is_normal : AigOfIsNormal
aig_of_is_normal m o s few outputs words =
    let f : Frame = m.frame in
    let free : ℕ = length (free_signals f) in
    let first : ℕ = length (sources f) + 1 in
    let gates : List Row = gates_of f (rows_of m) in
    let are : AreGates first gates = gates_of_network m o s in
    let ands : length (ands_by first gates) ≡ length (and_tables m) = length-ands first gates are ∙ length-gates m in
    let rows : length (rows_of m) ≡ length (sources f) + 1 + length (and_tables m) = length-rows m in
    let ins : length (literals_from 1 free) ≡ free = length-literals 1 free in
    let lats : length (latches_by m (free + 1) f.latches) ≡ length f.latches = length-latches m (free + 1) f.latches in
    let outs : length (map (literal_in m) f.outputs) ≡ length f.outputs = length-map f.outputs (literal_in m) in
    let srcs : length (sources f) ≡ free + length f.latches = length-sources f in
    let names : length (map latch_output f.latches) ≡ length f.latches = length-map f.latches latch_output in
    let most : ℕ = 2 * (length (sources f) + length (ands_by first gates)) + 1 in
    let within : (word : List ℕ) → literal_in m word ≤ most = λ (word : List ℕ). let le = literal_le m s word in omega arith in
    record {
      inputs = ap (literals_from 1) (sym ins);
      latches = latch_literals m (free + 1) f.latches ∙ ap (λ (k : ℕ). literals_from k (length (latches_by m (free + 1) f.latches))) (let e : free + 1 ≡ length (literals_from 1 free) + 1 = omega arith in e);
      ands = literals_are first gates are ∙ ap (λ (k : ℕ). literals_from k (length (ands_by first gates))) (let e : first ≡ length (literals_from 1 free) + length (latches_by m (free + 1) f.latches) + 1 = omega arith in e);
      variables = omega arith;
      few = omega arith;
      few_outputs = omega arith;
      normal_latches = latches_normal m most (free + 1) f.latches within;
      read_outputs = outputs_read m most f.outputs within;
      normal_ands = ands_normal first gates are;
      symbols = symbols_of_frame (aig_of m) f (omega arith) (omega arith) (omega arith) words;
    }
