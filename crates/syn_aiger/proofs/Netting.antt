-- The names and tables of ANDs, one after the other, and the netlist of them.
use Rattle.std.specs.List.{list_all}
use Rattle.std.proofs.Common.{◌≡◌, ℕ, zero, suc, ◌+◌, ◌^◌, ◌<◌, ◌≤◌, ◌&&◌, nat_eq, nat_lt, Bool, true, false, List, [], ◌∷◌, ◌++◌, length, map, take, drop, get_or, codes, decimal, Option, Some, None, refl, sym, ap, ap₂, ◌∙◌, subst, inl, inr, append_assoc, append-nil, arith, eqb-true, ltb-true}
use Rattle.std.proofs.lemmas.Bool.{and_from, and_parts, both_ways, cond-false, or_cases}
use Rattle.std.proofs.lemmas.Fmt.{decimal_is_IsNumeral}
use Rattle.std.proofs.lemmas.List.{drop_all, drop_more, get_or-map, length-map, length-take-le, map-append, take-append-drop, take_all, take_more}
use Rattle.std.proofs.lemmas.List.Folds.{list_all-append}
use Rattle.syn_netlist.specs.declared.tables.Table as code
use Rattle.syn_netlist.specs.declared.NetFault.{NetFault}
use Rattle.syn_netlist.specs.declared.NetFault.TheVariants.{Cycle, Undriven}
use Rattle.syn_netlist.specs.Faults.{AnswersCircle, IsChecked, IsFault, first_undriven}
use Rattle.syn_netlist.specs.declared.Latch as held
use Rattle.syn_netlist.specs.Kept.{frame_of, latches_below, no_nil_control}
use Rattle.syn_netlist.specs.Lists.{Frame, Netlist, Table, output_of, sources}
use Rattle.syn_lists.specs.Numbers.{has_number}
use Rattle.syn_netlist.specs.Numbers.{all_below, with_word, words_at}
use Rattle.syn_netlist.specs.Tables.{table_in, tables_below}
use Rattle.syn_netlist.specs.Words.{distinct, has_word, is_word, is_word_byte}
use Rattle.syn_network.specs.Spelling.{sign_of}
use Rattle.syn_lists.specs.Numbers.{numbers_from}
use Rattle.syn_aiger_files.specs.declared.files.Aig.{Aig}
use Rattle.syn_aiger_files.specs.declared.files.AigAnd.{AigAnd}
use Rattle.syn_aiger_files.specs.Files.{variable_of}
use Rattle.syn_aiger_files.specs.Texts.{number_of}
use Rattle.syn_aiger_files.proofs.PrintedNumbers.{number_of_decimal}
use Rattle.syn_aiger.specs.Placing.{IsSound, ReadsDefined, has_sides, node_in}
use Rattle.syn_aiger.specs.Ranks.{HasRank, table_netlist}
use Rattle.syn_aiger.specs.Values.{and_table, and_tables, and_variable, defined_variables, lit, source_literals, source_variables, variable_word}
use Rattle.syn_aiger_files.proofs.Called.{decimal_word}
use Rattle.syn_aiger.proofs.Circling.{circle_words, number_behind, outputs_are}
use Rattle.syn_aiger.proofs.Frames.{distinct_before, distinct_left}
use Rattle.syn_aiger.proofs.Rowed.{many_defined}
use Rattle.syn_aiger.proofs.Tabled.{driven, names_distinct, names_split, many_names, numbers_below, rank_of, table_is, table_low, words_from}

-- words of numbers

word_from : (w : List ℕ) → 0 < length w → list_all is_word_byte w ≡ true → is_word w ≡ true
word_from [] l h = absurd (omega arith)
word_from (b ∷ bs) l h = h

pub decimal_is_word : (n : ℕ) → n < 2 ^ 64 → is_word (decimal n) ≡ true
decimal_is_word n l = word_from (decimal n) ((decimal_is_IsNumeral n l).0.0) (decimal_word n l)

-- one name more
pub names_step : (vs : List ℕ) (i : ℕ) (ns new : List (List ℕ)) (w : List ℕ) → distinct (map variable_word vs) ≡ true → i < length vs → ns ≡ map variable_word (take i vs) → w ≡ decimal (get_or vs i 0) → new ≡ with_word ns w → new ≡ map variable_word (take (i + 1) vs)
names_step vs i ns new w d l e is added =
    let v : ℕ = get_or vs i 0 in
    let front : List (List ℕ) = map variable_word (take i vs) in
    let whole : map variable_word vs ≡ front ++ variable_word v ∷ map variable_word (drop (i + 1) vs) =
    ap (map variable_word) (sym (take-append-drop i vs) ∙ ap (λ (l : List ℕ). take i vs ++ l) (drop_more vs i 0 l)) ∙ map-append variable_word (take i vs) (v ∷ drop (i + 1) vs) in
    let free : has_word front (variable_word v) ≡ false = distinct_before front (variable_word v) (map variable_word (drop (i + 1) vs)) (sym (ap distinct whole) ∙ d) in
    added ∙ ap₂ with_word e is ∙ cond-false (has_word front (variable_word v)) front (front ++ variable_word v ∷ []) free
    ∙ sym (ap (map variable_word) (take_more vs i 0 l) ∙ map-append variable_word (take i vs) (v ∷ []))

pub names_few : (vs : List ℕ) (i : ℕ) (ns : List (List ℕ)) → i ≤ length vs → ns ≡ map variable_word (take i vs) → length ns ≡ i
names_few vs i ns l e = ap length e ∙ length-map (take i vs) variable_word ∙ length-take-le i vs l

pub names_all : (vs : List ℕ) (i : ℕ) (ns : List (List ℕ)) → length vs ≤ i → ns ≡ map variable_word (take i vs) → ns ≡ map variable_word vs
names_all vs i ns l e = e ∙ ap (map variable_word) (take_all i vs l)

pub names_word : (g : Aig) → IsSound g → (vs : List ℕ) (i : ℕ) (w : List ℕ) → vs ≡ defined_variables g → i < length vs → w ≡ decimal (get_or vs i 0) → is_word w ≡ true
names_word g sound vs i w e l is = ap is_word is ∙ decimal_is_word (get_or vs i 0) (let low = low_at vs i (ap (all_below (2 ^ 28)) e ∙ sound.small) l in omega arith)
  where
    low_at : (ns : List ℕ) (j : ℕ) → all_below (2 ^ 28) ns ≡ true → j < length ns → get_or ns j 0 < 2 ^ 28
    low_at [] j h l = absurd (omega arith)
    low_at (n ∷ ns) zero h l = ltb-true n (2 ^ 28) (and_parts (nat_lt n (2 ^ 28)) (all_below (2 ^ 28) ns) h).0
    low_at (n ∷ ns) (suc j) h l = low_at ns j (and_parts (nat_lt n (2 ^ 28)) (all_below (2 ^ 28) ns) h).1 (omega arith)

pub names_apart : (g : Aig) → IsSound g → (vs : List ℕ) → vs ≡ defined_variables g → distinct (map variable_word vs) ≡ true
names_apart g sound vs e = ap (λ (ns : List ℕ). distinct (map variable_word ns)) e ∙ names_distinct g sound

-- the tables, one after the other

module _ (g : Aig) (sound : IsSound g) where
  abbrev names : List (List ℕ)
  names = map variable_word (defined_variables g)

  pub sides_at : (k : ℕ) (a : AigAnd) → k < length g.ands → list_all (has_sides g) (drop k g.ands) ≡ true → (has_sides g (get_or g.ands k a) ≡ true) × (list_all (has_sides g) (drop (k + 1) g.ands) ≡ true)
  sides_at k a l h = and_parts (has_sides g (get_or g.ands k a)) (list_all (has_sides g) (drop (k + 1) g.ands)) (sym (ap (list_all (has_sides g)) (drop_more g.ands k a l)) ∙ h)

  pub sides_next : (k : ℕ) → k < length g.ands → list_all (has_sides g) (drop k g.ands) ≡ true → list_all (has_sides g) (drop (k + 1) g.ands) ≡ true
  sides_next k l h = (sides_at k (record { literal = 0; first = 0; second = 0 }) l h).1

  module _ (k output : ℕ) (a here : AigAnd) (l : k < length g.ands) (at : here ≡ get_or g.ands k a) (is : output ≡ length (source_literals g) + 1 + k) (sides : list_all (has_sides g) (drop k g.ands) ≡ true) where
    sided : has_sides g here ≡ true
    sided = ap (has_sides g) at ∙ (sides_at k a l sides).0

    pub tables_low : (tables new : List code.Table) (t : code.Table) → new ≡ tables ++ t ∷ [] → t.inputs ≡ node_in g (variable_of here.first) ∷ node_in g (variable_of here.second) ∷ [] → t.output ≡ output
        → tables_below (length (defined_variables g)) tables ≡ true → tables_below (length (defined_variables g)) new ≡ true
    tables_low tables new t made inputs out so_far =
        let n : ℕ = length (defined_variables g) in
        ap (tables_below n) made ∙ list_all-append (λ (t : code.Table). nat_lt t.output n && all_below n t.inputs) tables (t ∷ [])
        ∙ and_from (tables_below n tables) (tables_below n (t ∷ [])) so_far
        (and_from (nat_lt t.output n && all_below n t.inputs) true (table_low g sound here output t sided (omega (arith, many_defined g)) inputs out) refl)

    pub tables_more : (tables new : List code.Table) (t : code.Table) → new ≡ tables ++ t ∷ [] → t.inputs ≡ node_in g (variable_of here.first) ∷ node_in g (variable_of here.second) ∷ [] → t.output ≡ output
        → t.rows ≡ (sign_of (lit here.first) ∷ sign_of (lit here.second) ∷ []) ∷ [] → t.on ≡ true
        → map (table_in names) tables ++ map and_table (drop k g.ands) ≡ and_tables g → map (table_in names) new ++ map and_table (drop (k + 1) g.ands) ≡ and_tables g
    tables_more tables new t made inputs out rows on so_far =
        let table : table_in names t ≡ and_table here = table_is g sound here k output t sided (omega (arith, is, length-map (source_literals g) variable_of)) l (get_or-map and_variable g.ands k a 0 l ∙ ap and_variable (sym at)) inputs out rows on in
        ap (λ (ts : List code.Table). map (table_in names) ts ++ map and_table (drop (k + 1) g.ands)) made
        ∙ ap (λ (ts : List Table). ts ++ map and_table (drop (k + 1) g.ands)) (map-append (table_in names) tables (t ∷ []))
        ∙ append_assoc (map (table_in names) tables) (table_in names t ∷ []) (map and_table (drop (k + 1) g.ands))
        ∙ ap (λ (x : Table). map (table_in names) tables ++ x ∷ map and_table (drop (k + 1) g.ands)) table
        ∙ ap (λ (es : List AigAnd). map (table_in names) tables ++ map and_table es) (ap (λ (x : AigAnd). x ∷ drop (k + 1) g.ands) at ∙ sym (drop_more g.ands k a l))
        ∙ so_far

  -- the frame

  abbrev count : ℕ
  count = length (source_literals g) + 1

  pub input_words : words_at names (numbers_from 0 count) ≡ map variable_word (0 ∷ source_variables g)
  input_words =
      ap₂ words_at (names_split g sound) (ap (numbers_from 0) (let e : count ≡ length (map variable_word (0 ∷ source_variables g)) = omega (arith, length-map (0 ∷ source_variables g) variable_word, length-map (source_literals g) variable_of) in e))
      ∙ words_from [] (map variable_word (0 ∷ source_variables g)) (map variable_word (map and_variable g.ands))

  pub inputs_low : all_below (length names) (numbers_from 0 count) ≡ true
  inputs_low = numbers_below 0 count (length names) (omega (arith, many_names g sound, many_defined g))

  pub inputs_distinct : distinct (map variable_word (0 ∷ source_variables g) ++ []) ≡ true
  inputs_distinct = ap distinct (append-nil (map variable_word (0 ∷ source_variables g))) ∙ distinct_left (map variable_word (0 ∷ source_variables g)) (map variable_word (map and_variable g.ands)) (ap distinct (sym (names_split g sound)) ∙ names_distinct g sound)

  pub all_distinct : distinct ((map variable_word (0 ∷ source_variables g) ++ []) ++ map output_of (and_tables g)) ≡ true
  all_distinct =
      ap distinct (ap₂ (λ (a b : List (List ℕ)). a ++ b) (append-nil (map variable_word (0 ∷ source_variables g))) (outputs_are g.ands) ∙ sym (names_split g sound))
      ∙ names_distinct g sound

  pub frame_is : (ns : List (List ℕ)) (model inputs clocks outputs : List ℕ) (latches : List held.Latch) → ns ≡ names → model ≡ codes "top" → inputs ≡ numbers_from 0 count → clocks ≡ [] → outputs ≡ [] → latches ≡ [] → frame_of ns model inputs clocks outputs latches ≡ (table_netlist g).frame
  frame_is ns model inputs clocks outputs latches a b c d e f =
      ap₂ (λ (xs : List (List ℕ)) (m : List ℕ). frame_of xs m inputs clocks outputs latches) a b
      ∙ ap₂ (λ (is cs : List ℕ). frame_of names (codes "top") is cs outputs latches) c d
      ∙ ap₂ (λ (os : List ℕ) (ls : List held.Latch). frame_of names (codes "top") (numbers_from 0 count) [] os ls) e f
      ∙ ap (λ (ws : List (List ℕ)). record { model = codes "top"; inputs = ws; clocks = []; outputs = []; latches = [] }) input_words

  pub netlist_is : (ns : List (List ℕ)) (frame : Frame) (tables : List code.Table) → frame ≡ (table_netlist g).frame → ns ≡ names → map (table_in names) tables ≡ and_tables g → record { frame = frame; tables = map (table_in ns) tables } ≡ table_netlist g
  netlist_is ns frame tables a b c =
      ap₂ (λ (f : Frame) (ts : List Table). record { frame = f; tables = ts }) a (ap (λ (xs : List (List ℕ)). map (table_in xs) tables) b ∙ c)

  pub frame_once : (frame : Frame) → frame ≡ (table_netlist g).frame → distinct (sources frame) ≡ true
  frame_once frame e = ap (λ (f : Frame). distinct (sources f)) e ∙ inputs_distinct

  pub netlist_once : (ns : List (List ℕ)) (frame : Frame) (tables : List code.Table) → frame ≡ (table_netlist g).frame → ns ≡ names → map (table_in names) tables ≡ and_tables g → distinct (sources frame ++ map output_of (map (table_in ns) tables)) ≡ true
  netlist_once ns frame tables a b c =
      ap₂ (λ (f : Frame) (ts : List Table). distinct (sources f ++ map output_of ts)) a (ap (λ (xs : List (List ℕ)). map (table_in xs) tables) b ∙ c) ∙ all_distinct

  pub low_with : (ns : List (List ℕ)) (inputs : List ℕ) → ns ≡ names → inputs ≡ numbers_from 0 count → all_below (length ns) inputs ≡ true
  low_with ns inputs a b = ap₂ (λ (xs : List (List ℕ)) (is : List ℕ). all_below (length xs) is) a b ∙ inputs_low

  pub tables_with : (ns : List (List ℕ)) (tables : List code.Table) → ns ≡ names → tables_below (length (defined_variables g)) tables ≡ true → tables_below (length ns) tables ≡ true
  tables_with ns tables a b = ap (λ (n : ℕ). tables_below n tables) (ap length a ∙ many_names g sound) ∙ b

  -- What the frame of the tables keeps.
  module _ (ns : List (List ℕ)) (model inputs clocks outputs : List ℕ) (latches : List held.Latch) (en : ns ≡ names) (em : model ≡ codes "top") (ei : inputs ≡ numbers_from 0 count) (ec : clocks ≡ []) (eo : outputs ≡ []) (el : latches ≡ []) where
    pub net_model : is_word model ≡ true
    net_model = ap is_word em

    pub net_inputs : all_below (length ns) inputs ≡ true
    net_inputs = low_with ns inputs en ei

    pub net_clocks : all_below (length ns) clocks ≡ true
    net_clocks = ap (all_below (length ns)) ec

    pub net_outputs : all_below (length ns) outputs ≡ true
    net_outputs = ap (all_below (length ns)) eo

    pub net_latches : latches_below (length ns) latches ≡ true
    net_latches = ap (latches_below (length ns)) el

    pub net_controls : no_nil_control ns latches ≡ true
    net_controls = ap (no_nil_control ns) el

    pub net_clocks_once : distinct (words_at ns clocks) ≡ true
    net_clocks_once = ap (λ (xs : List ℕ). distinct (words_at ns xs)) ec

    pub net_frame : frame_of ns model inputs clocks outputs latches ≡ (table_netlist g).frame
    net_frame = frame_is ns model inputs clocks outputs latches en em ei ec eo el

    pub net_sources : distinct (sources (frame_of ns model inputs clocks outputs latches)) ≡ true
    net_sources = frame_once (frame_of ns model inputs clocks outputs latches) net_frame

    module _ (tables found : List code.Table) (et : tables ≡ found) (low : tables_below (length (defined_variables g)) found ≡ true) (are : map (table_in names) found ≡ and_tables g) where
      pub net_tables : tables_below (length ns) tables ≡ true
      net_tables = tables_with ns tables en (ap (tables_below (length (defined_variables g))) et ∙ low)

      pub net_once : distinct (sources (frame_of ns model inputs clocks outputs latches) ++ map output_of (map (table_in ns) tables)) ≡ true
      net_once = netlist_once ns (frame_of ns model inputs clocks outputs latches) tables net_frame en (ap (map (table_in names)) et ∙ are)

      pub net_is : record { frame = frame_of ns model inputs clocks outputs latches; tables = map (table_in ns) tables } ≡ table_netlist g
      net_is = netlist_is ns (frame_of ns model inputs clocks outputs latches) tables net_frame en (ap (map (table_in names)) et ∙ are)

  pub driven_with : ReadsDefined g → (n : Netlist) → n ≡ table_netlist g → first_undriven n ≡ None
  driven_with d n e = ap first_undriven e ∙ driven g sound d

  pub rank_with : (n : Netlist) → n ≡ table_netlist g → IsChecked n → HasRank g
  rank_with n e c = rank_of g sound (subst IsChecked e c)

  module _ (n : Netlist) (fault : NetFault) (e : n ≡ table_netlist g) (is : IsFault n fault) where
    pub circle_words_with : (words ws : List (List ℕ)) → fault ≡ Cycle words → ws ≡ words → list_all (has_word (map variable_word (map and_variable g.ands))) ws ≡ true
    circle_words_with words ws f same =
        let h = subst (IsFault n) f is in
        ap (list_all (has_word (map variable_word (map and_variable g.ands)))) same ∙ circle_words g words (subst (λ (m : Netlist). AnswersCircle m.tables words) e h.1)

    pub circle_with : (words : List (List ℕ)) → fault ≡ Cycle words → (vs : List ℕ) → map variable_word vs ≡ words → AnswersCircle (and_tables g) (map variable_word vs)
    circle_with words f vs same =
        let h = subst (IsFault n) f is in
        subst (AnswersCircle (and_tables g)) (sym same) (subst (λ (m : Netlist). AnswersCircle m.tables words) e h.1)

    pub never_undriven : ReadsDefined g → (name : List ℕ) → fault ≡ Undriven name → ⊥
    never_undriven d name f =
        let q : Path (Option (List ℕ)) None (Some name) = sym (driven_with d n e) ∙ subst (IsFault n) f is in
        cc

  pub ands_small : all_below (2 ^ 28) (map and_variable g.ands) ≡ true
  ands_small =
      (and_parts (all_below (2 ^ 28) (0 ∷ source_variables g)) (all_below (2 ^ 28) (map and_variable g.ands))
      (sym (list_all-append (λ (n : ℕ). nat_lt n (2 ^ 28)) (0 ∷ source_variables g) (map and_variable g.ands)) ∙ sound.small)).1

-- the variables behind words

small_at : (ms : List ℕ) (v : ℕ) → all_below (2 ^ 28) ms ≡ true → has_number ms v ≡ true → v < 2 ^ 28
small_at [] v b t = absurd (both_ways false refl t)
small_at (m ∷ ms) v b t =
    let p = and_parts (nat_lt m (2 ^ 28)) (all_below (2 ^ 28) ms) b in
    elim (or_cases (nat_eq m v) (has_number ms v) t) [
      | inl e ↦ let q : m ≡ v = eqb-true m v e in let l : m < 2 ^ 28 = ltb-true m (2 ^ 28) p.0 in omega arith
      | inr r ↦ small_at ms v p.1 r
    ]

behind_word : (ns : List ℕ) (w : List ℕ) → all_below (2 ^ 28) ns ≡ true → has_word (map variable_word ns) w ≡ true → (v : ℕ) × (has_number ns v ≡ true) × (variable_word v ≡ w) × (number_of w ≡ Some v)
behind_word ns w small h =
    let r = number_behind ns w h in
    (r.0, r.1, r.2, ap number_of (sym r.2) ∙ number_of_decimal r.0 (let l = small_at ns r.0 small r.1 in omega arith))

here_left : (p : List ℕ → Bool) (ws : List (List ℕ)) (i : ℕ) (w : List ℕ) → i < length ws → w ≡ get_or ws i w → list_all p (drop i ws) ≡ true → (p w ≡ true) × (list_all p (drop (i + 1) ws) ≡ true)
here_left p ws i w l is h =
    let q = and_parts (p (get_or ws i w)) (list_all p (drop (i + 1) ws)) (sym (ap (list_all p) (drop_more ws i w l)) ∙ h) in
    (ap p is ∙ q.0, q.1)

-- Words that are left, and the variables behind those before.
pub record Behind (ns vs : List ℕ) (ws : List (List ℕ)) (i : ℕ) : Type 0 where
  pub words : map variable_word vs ++ drop i ws ≡ ws
  pub variables : list_all (has_number ns) vs ≡ true
  pub left : list_all (has_word (map variable_word ns)) (drop i ws) ≡ true

pub behind_start : (ns vs : List ℕ) (ws : List (List ℕ)) → vs ≡ [] → list_all (has_word (map variable_word ns)) ws ≡ true → Behind ns vs ws 0
behind_start ns vs ws e h = record {
  words = ap (λ (xs : List ℕ). map variable_word xs ++ ws) e;
  variables = ap (list_all (has_number ns)) e;
  left = h;
}

pub behind_none : (ns : List ℕ) (ws : List (List ℕ)) (i : ℕ) (w bytes : List ℕ) → all_below (2 ^ 28) ns ≡ true → i < length ws → w ≡ get_or ws i w → bytes ≡ w → list_all (has_word (map variable_word ns)) (drop i ws) ≡ true → Path (Option ℕ) None (number_of bytes) → ⊥
behind_none ns ws i w bytes small l is same left none =
    let r = behind_word ns w small (here_left (has_word (map variable_word ns)) ws i w l is left).0 in
    let q : Path (Option ℕ) None (Some r.0) = none ∙ ap number_of same ∙ r.3 in
    cc

pub behind_more : (ns vs new : List ℕ) (ws : List (List ℕ)) (i : ℕ) (w bytes : List ℕ) (v : ℕ) → new ≡ vs ++ v ∷ [] → all_below (2 ^ 28) ns ≡ true → i < length ws → w ≡ get_or ws i w → bytes ≡ w → Path (Option ℕ) (Some v) (number_of bytes) → Behind ns vs ws i → Behind ns new ws (i + 1)
behind_more ns vs new ws i w bytes v made small l is same found b =
    let h = here_left (has_word (map variable_word ns)) ws i w l is b.left in
    let r = behind_word ns w small h.0 in
    let q : Path (Option ℕ) (Some v) (Some r.0) = found ∙ ap number_of same ∙ r.3 in
    let e : v ≡ r.0 = cc in
    subst (λ (xs : List ℕ). Behind ns xs ws (i + 1)) (sym made) (record {
      words =
          ap (λ (xs : List (List ℕ)). xs ++ drop (i + 1) ws) (map-append variable_word vs (v ∷ []))
          ∙ append_assoc (map variable_word vs) (variable_word v ∷ []) (drop (i + 1) ws)
          ∙ ap (λ (x : List ℕ). map variable_word vs ++ x ∷ drop (i + 1) ws) (ap variable_word e ∙ r.2 ∙ is)
          ∙ ap (λ (xs : List (List ℕ)). map variable_word vs ++ xs) (sym (drop_more ws i w l))
          ∙ b.words;
      variables = list_all-append (has_number ns) vs (v ∷ []) ∙ and_from (list_all (has_number ns) vs) (has_number ns v && true) b.variables (and_from (has_number ns v) true (ap (has_number ns) e ∙ r.1) refl);
      left = h.1;
    })

pub behind_end : (ns vs : List ℕ) (ws : List (List ℕ)) (i : ℕ) → length ws ≤ i → Behind ns vs ws i → map variable_word vs ≡ ws
behind_end ns vs ws i l b = sym (append-nil (map variable_word vs)) ∙ ap (λ (xs : List (List ℕ)). map variable_word vs ++ xs) (sym (drop_all i ws l)) ∙ b.words
