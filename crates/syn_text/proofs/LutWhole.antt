-- The whole netlist of a LUT net, from the numbers of its names.
use Rattle.std.proofs.Common.{◌≡◌, ℕ, zero, suc, ◌+◌, ◌-◌, ◌/◌, ◌%◌, ◌<◌, ◌≤◌, if◌then◌else◌, nat_eq, nat_le, nat_lt, Bool, true, false, List, [], ◌∷◌, ◌++◌, length, map, filter, get_or, drop, refl, sym, ap, ap₂, ◌∙◌, subst, append_assoc, inl, inr, arith}
use Rattle.std.specs.List.{list_all}
use Rattle.std.proofs.lemmas.Bool.{and_parts, and_from, or_cases, le-leb, leb-true, ltb-true, eq-eqb, eqb-true}
use Rattle.std.proofs.lemmas.List.{drop_more, length-map, length-append, get_or-map}
use Rattle.std.proofs.lemmas.List.Elements.{recursion_from_All}
use Rattle.syn_rows.specs.declared.Lit.{Lit}
use Rattle.syn_rows.specs.Rows.{node_of}
use Rattle.syn_netlist.specs.declared.frames.Frame as code
use Rattle.syn_netlist.specs.Costs.{is_sign}
use Rattle.syn_netlist.specs.Frames.{frame_in}
use Rattle.syn_netlist.specs.Kept.{is_row_character, polarity_fits, row_fits, rows_fit}
use Rattle.syn_netlist.specs.Lists.{Frame, Table, output_of, sources}
use Rattle.syn_netlist.specs.Numbers.{word_at, words_at, all_below}
use Rattle.syn_netlist.specs.Words.{distinct}
use Rattle.syn_network.specs.Spelling.{ends_from}
use Rattle.syn_lists.specs.Numbers.{numbers_from}
use Rattle.syn_truth.specs.declared.Truth.{Truth}
use Rattle.syn_truth.specs.Truth.{value_at}
use Rattle.syn_lutnet.specs.LutData as spelled
use Rattle.syn_lutnet.specs.LutData.{is_input, is_lut, lut_at}
use Rattle.syn_network.specs.NamedLutNets.{IsNamedLutNet}
use Rattle.syn_network.specs.LutSpelling.{minterm_row, signal_name, lut_table, lut_tables_of, lut_network}
use Rattle.syn_lutnet.proofs.LutParts.{lut_parts}
use Rattle.syn_network.proofs.LutTables.{length-minterm_row, signs_row}
use Rattle.syn_network.proofs.LutNetworks.{network_spells_luts}
use Rattle.syn_lutnet.specs.declared.luts.Lut.{Lut}
use Rattle.syn_lutnet.specs.Data.{lut_data, luts_data}
use Rattle.syn_text.specs.Numbered.{signal_number, is_signal, is_within, reads_named, IsNumbered}
use Rattle.syn_text.proofs.Whole.{all_within, length-sources, length-inner, node_words, ends_are}

-- rows of minterms

sign_character : (c : ℕ) → is_sign c ≡ true → is_row_character c ≡ true
sign_character c h = elim (or_cases (nat_eq c 48) (nat_eq c 49) h) [
  | inl e ↦ subst (λ k. is_row_character k ≡ true) (sym (eqb-true c 48 e)) refl
  | inr e ↦ subst (λ k. is_row_character k ≡ true) (sym (eqb-true c 49 e)) refl
]

all_characters : (row : List ℕ) → list_all is_sign row ≡ true → list_all is_row_character row ≡ true
all_characters [] h = refl
all_characters (c ∷ cs) h =
    let parts = and_parts (is_sign c) (list_all is_sign cs) h in
    and_from (is_row_character c) (list_all is_row_character cs) (sign_character c parts.0) (all_characters cs parts.1)

pub minterm_rows_fit : (n inputs : ℕ) (ones : List ℕ) → n ≡ inputs → rows_fit inputs (map (minterm_row n) ones) ≡ true
minterm_rows_fit n inputs [] e = refl
minterm_rows_fit n inputs (m ∷ ms) e =
    and_from (row_fits inputs (minterm_row n m)) (rows_fit inputs (map (minterm_row n) ms))
    (and_from (nat_eq (length (minterm_row n m)) inputs) (list_all is_row_character (minterm_row n m)) (eq-eqb (length (minterm_row n m)) inputs (length-minterm_row n m ∙ e)) (all_characters (minterm_row n m) (signs_row n m)))
    (minterm_rows_fit n inputs ms e)

pub ones_next : (n m count : ℕ) (t : Truth) (before after all : List (List ℕ)) → m < count → after ≡ before ++ (if value_at t m then minterm_row n m ∷ [] else [])
    → before ++ map (minterm_row n) (filter (value_at t) (numbers_from m (count - m))) ≡ all → after ++ map (minterm_row n) (filter (value_at t) (numbers_from (m + 1) (count - (m + 1)))) ≡ all
ones_next n m count t before after all lt e h =
    let left : count - m ≡ suc (count - (m + 1)) = omega (arith, lt) in
    let rest : List ℕ = filter (value_at t) (numbers_from (m + 1) (count - (m + 1))) in
    ap (λ (rows : List (List ℕ)). rows ++ map (minterm_row n) rest) e ∙ append_assoc before (if value_at t m then minterm_row n m ∷ [] else []) (map (minterm_row n) rest)
    ∙ ap (λ (rows : List (List ℕ)). before ++ rows) (here (value_at t m) rest) ∙ sym (ap (λ k. before ++ map (minterm_row n) (filter (value_at t) (numbers_from m k))) left) ∙ h
  where
    here : (b : Bool) (rest : List ℕ) → (if b then minterm_row n m ∷ [] else []) ++ map (minterm_row n) rest ≡ map (minterm_row n) (if b then m ∷ rest else rest)
    here true rest = refl
    here false rest = refl

-- the names that LUTs read

pub names_read : (names : List (List ℕ)) (nodes inputs : List ℕ) → list_all (is_signal (length nodes)) inputs ≡ true → map (word_at names) (map (signal_number nodes) inputs) ≡ map (signal_name (words_at names nodes)) inputs
names_read names nodes [] h = refl
names_read names nodes (i ∷ is) h =
    let parts = and_parts (is_signal (length nodes) i) (list_all (is_signal (length nodes)) is) h in
    let ends = and_parts (nat_le 1 i) (nat_le i (length nodes)) parts.0 in
    let low = leb-true 1 i ends.0 in
    let high = leb-true i (length nodes) ends.1 in
    ap₂ (λ (w : List ℕ) (ws : List (List ℕ)). w ∷ ws) (sym (get_or-map (word_at names) nodes (i - 1) 0 [] (omega (arith, low, high)))) (names_read names nodes is parts.1)

pub numbers_below : (count : ℕ) (nodes inputs : List ℕ) → list_all (is_signal (length nodes)) inputs ≡ true → all_below count nodes ≡ true → all_below count (map (signal_number nodes) inputs) ≡ true
numbers_below count nodes [] h below = refl
numbers_below count nodes (i ∷ is) h below =
    let parts = and_parts (is_signal (length nodes) i) (list_all (is_signal (length nodes)) is) h in
    let ends = and_parts (nat_le 1 i) (nat_le i (length nodes)) parts.0 in
    let low = leb-true 1 i ends.0 in
    let high = leb-true i (length nodes) ends.1 in
    and_from (nat_lt (signal_number nodes i) count) (all_below count (map (signal_number nodes) is)) (at nodes (i - 1) (omega (arith, low, high)) below) (numbers_below count nodes is parts.1 below)
  where
    at : (ns : List ℕ) (j : ℕ) → j < length ns → all_below count ns ≡ true → nat_lt (get_or ns j 0) count ≡ true
    at [] j lt h = absurd (omega (arith, lt))
    at (n ∷ ns) zero lt h = (and_parts (nat_lt n count) (all_below count ns) h).0
    at (n ∷ ns) (suc j) lt h = at ns j (omega (arith, lt)) (and_parts (nat_lt n count) (all_below count ns) h).1

-- the tables of LUTs, one after the other

pub tables_next : (names nodes : List (List ℕ)) (luts : List Lut) (outputs : List ℕ) (i : ℕ) (l : Lut) → i < length luts → i < length outputs → l ≡ get_or luts i l
    → lut_tables_of nodes (luts_data (drop i luts)) (words_at names (drop i outputs)) ≡ (lut_table nodes (lut_data l) (word_at names (get_or outputs i 0)) ∷ []) ++ lut_tables_of nodes (luts_data (drop (i + 1) luts)) (words_at names (drop (i + 1) outputs))
tables_next names nodes luts outputs i l in_luts in_outputs e =
    ap₂ (λ (ls : List Lut) (os : List ℕ). lut_tables_of nodes (luts_data ls) (words_at names os)) (drop_more luts i l in_luts ∙ ap (λ (x : Lut). x ∷ drop (i + 1) luts) (sym e)) (drop_more outputs i 0 in_outputs)

pub reads_here : (count : ℕ) (luts : List Lut) (i : ℕ) (l : Lut) → i < length luts → l ≡ get_or luts i l → list_all (reads_named count) (luts_data (drop i luts)) ≡ true
    → (list_all (is_signal count) l.inputs.items ≡ true) × (list_all (reads_named count) (luts_data (drop (i + 1) luts)) ≡ true)
reads_here count luts i l lt e h =
    and_parts (list_all (is_signal count) l.inputs.items) (list_all (reads_named count) (luts_data (drop (i + 1) luts)))
    (ap (λ (ls : List Lut). list_all (reads_named count) (luts_data ls)) (sym (drop_more luts i l lt ∙ ap (λ (x : Lut). x ∷ drop (i + 1) luts) (sym e))) ∙ h)

-- what the parts have of a LUT net

inputs_named : (n count : ℕ) (is : List ℕ) → n ≤ count + 1 → list_all (is_input n) is ≡ true → list_all (is_signal count) is ≡ true
inputs_named n count [] le h = refl
inputs_named n count (i ∷ is) le h =
    let parts = and_parts (is_input n i) (list_all (is_input n) is) h in
    let ends = and_parts (nat_le 1 i) (nat_lt i n) parts.0 in
    let high = ltb-true i n ends.1 in
    and_from (is_signal count i) (list_all (is_signal count) is) (and_from (nat_le 1 i) (nat_le i count) ends.0 (le-leb i count (omega (arith, high, le)))) (inputs_named n count is le parts.1)

luts_named : (n count : ℕ) (luts : List spelled.Lut) → n + length luts ≤ count + 1 → ((j : ℕ) → j < length luts → is_lut (n + j) (lut_at luts j) ≡ true) → list_all (reads_named count) luts ≡ true
luts_named n count [] fits h = refl
luts_named n count (l ∷ ls) fits h =
    and_from (reads_named count l) (list_all (reads_named count) ls) (inputs_named (n + 0) count l.inputs (omega (arith, fits)) (lut_parts (n + 0) l (h 0 (omega arith))).inside)
    (luts_named (n + 1) count ls (omega (arith, fits)) (λ j lt. ap (λ k. is_lut k (lut_at ls j)) (let s : n + 1 + j ≡ n + suc j = omega arith in s) ∙ h (suc j) (omega (arith, lt))))

module _ (frame : Frame) (luts : List spelled.Lut) (lits : List Lit) (names more : List (List ℕ)) (srcs signals inner : List ℕ) (net : IsNamedLutNet frame luts lits) (numbered : IsNumbered frame (length luts) names more srcs signals inner) where
  length-nodes : length (srcs ++ inner) ≡ length (sources frame) + length luts
  length-nodes = omega (arith, length-append srcs inner, length-sources frame names srcs numbered.source_words, length-inner frame (length luts) names more srcs signals inner numbered)

  pub luts_are_named : list_all (reads_named (length (srcs ++ inner))) luts ≡ true
  luts_are_named = luts_named (length (sources frame) + 1) (length (srcs ++ inner)) luts (omega (arith, length-nodes)) net.luts_fit

  pub lut_lits_within : list_all (is_within (length (srcs ++ inner))) lits ≡ true
  lut_lits_within = all_within (length (srcs ++ inner)) lits (recursion_from_All (λ l. node_of l ≤ length (srcs ++ inner)) lits (λ k d lt. omega (arith, net.within k d lt, length-nodes)))

  pub count_of_lits : length lits ≡ length signals
  count_of_lits = net.count ∙ sym (ap (λ (ws : List (List ℕ)). length ws) numbered.signal_words) ∙ length-map signals (word_at names)

  pub lut_tables_are : lut_tables_of (words_at more (srcs ++ inner)) luts (words_at more inner) ++ ends_from (words_at names srcs) (words_at more (srcs ++ inner)) (words_at more signals) lits ≡ (lut_network frame luts lits).tables
  lut_tables_are = ap₂ (λ (xs ys : List Table). xs ++ ys) (ap₂ (λ (ns is : List (List ℕ)). lut_tables_of ns luts is) (node_words frame (length luts) names more srcs signals inner numbered) numbered.inner_words)
      (ends_are frame (length luts) lits names more srcs signals inner numbered)

-- the netlist of a LUT net defines no name twice
pub lut_network_once : (frame : code.Frame) (luts : List spelled.Lut) (lits : List Lit) → IsNamedLutNet (frame_in frame) luts lits → distinct (sources (frame_in frame) ++ map output_of (lut_network (frame_in frame) luts lits).tables) ≡ true
lut_network_once frame luts lits net = (network_spells_luts (frame_in frame) luts lits frame.clocks_once frame.sources_once net).ordered.once.all

-- one character more of a row
pub row_next : (left rest : ℕ) (before after : List ℕ) (all : List ℕ) (character half : ℕ) → 0 < left → character ≡ (if nat_eq (rest % 2) 0 then 48 else 49) → half ≡ rest / 2 → after ≡ before ++ character ∷ []
    → before ++ minterm_row left rest ≡ all → after ++ minterm_row (left - 1) half ≡ all
row_next zero rest before after all character half low is half_is e h = absurd (omega (arith, low))
row_next (suc n) rest before after all character half low is half_is e h =
    ap₂ (λ (row : List ℕ) (m : ℕ). row ++ minterm_row (suc n - 1) m) e half_is
    ∙ ap (λ k. (before ++ character ∷ []) ++ minterm_row k (rest / 2)) (let s : suc n - 1 ≡ n = omega arith in s)
    ∙ append_assoc before (character ∷ []) (minterm_row n (rest / 2)) ∙ ap (λ x. before ++ x ∷ minterm_row n (rest / 2)) is ∙ h

-- rows of the on-set fit any
pub polarity_of_on : (rows : List (List ℕ)) → polarity_fits rows true ≡ true
polarity_of_on [] = refl
polarity_of_on (row ∷ rows) = refl
