-- The ANDs' tables by numbers, and the netlist of them alone.
use Rattle.std.specs.List.{AllByRecursion, list_all}
use Rattle.std.proofs.Common.{◌≡◌, ℕ, zero, suc, ◌+◌, ◌^◌, ◌<◌, ◌≤◌, ◌&&◌, not, nat_lt, nat_eq, Bool, true, false, List, [], ◌∷◌, ◌++◌, length, map, flat_map, find, get_or, Some, None, refl, sym, ap, ap₂, ◌∙◌, subst, inl, inr, append_assoc, append-nil, arith, lt-ltb, ltb-true, eqb-true, length-append}
use Rattle.std.proofs.lemmas.Bool.{and_from, and_parts, both_ways, cond-false, not_from_true, or_cases}
use Rattle.std.proofs.lemmas.List.{get_or-append-add, get_or-map, length-map, map-append}
use Rattle.std.proofs.lemmas.List.Elements.{All-from_recursion, recursion_from_All}
use Rattle.std.proofs.lemmas.List.Sorted.{All-permutation, IsPermutation-sym}
use Rattle.syn_netlist.specs.declared.tables.Table as code
use Rattle.syn_netlist.specs.Faults.{first_undriven, inputs_of, IsChecked}
use Rattle.syn_netlist.specs.Lists.{Table, output_of, sources}
use Rattle.syn_lists.specs.Numbers.{has_number}
use Rattle.syn_netlist.specs.Numbers.{all_below, word_at, words_at}
use Rattle.syn_netlist.specs.Order.{defined, reads_known}
use Rattle.syn_netlist.specs.Tables.{table_in}
use Rattle.syn_netlist.specs.Words.{distinct, has_word}
use Rattle.syn_network.specs.GraphShape.{place}
use Rattle.syn_network.specs.Spelling.{sign_of}
use Rattle.syn_lists.specs.Numbers.{numbers_from}
use Rattle.syn_network.proofs.Spelled.{place_in_front, place_lt}
use Rattle.syn_aiger_files.specs.declared.files.Aig.{Aig}
use Rattle.syn_aiger_files.specs.declared.files.AigAnd.{AigAnd}
use Rattle.syn_aiger_files.specs.Files.{variable_of}
use Rattle.syn_aiger.specs.Placing.{IsSound, ReadsDefined, has_sides, is_defined, node_in}
use Rattle.syn_aiger.specs.Ranks.{HasRank, ReadsBelow, table_netlist}
use Rattle.syn_aiger.specs.Values.{and_table, and_tables, and_variable, defined_variables, lit, source_literals, source_variables, variable_word}
use Rattle.syn_aiger.proofs.Circling.{AllSmall, has_variable, outputs_are, words_distinct}
use Rattle.syn_aiger.proofs.Frames.{distinct_before, place_of_new}
use Rattle.syn_aiger.proofs.Placed.{node_placed}
use Rattle.syn_aiger.proofs.Rowed.{many_defined}

-- numbers of names

word_of_variable : (ns : List ℕ) (i : ℕ) → i < length ns → word_at (map variable_word ns) i ≡ variable_word (get_or ns i 0)
word_of_variable ns i l = get_or-map variable_word ns i 0 [] l

pub words_from : (before front more : List (List ℕ)) → words_at (before ++ (front ++ more)) (numbers_from (length before) (length front)) ≡ front
words_from before [] more = refl
words_from before (w ∷ ws) more =
    ap₂ (λ (a : List ℕ) (b : List (List ℕ)). a ∷ b)
    (ap (word_at (before ++ (w ∷ (ws ++ more)))) (let e : length before ≡ length before + 0 = omega arith in e) ∙ get_or-append-add before (w ∷ (ws ++ more)) 0 [])
    (ap₂ (λ (names : List (List ℕ)) (n : ℕ). words_at names (numbers_from n (length ws))) (sym (append_assoc before (w ∷ []) (ws ++ more))) (let e : length before + 1 ≡ length (before ++ w ∷ []) = omega (arith, length-append before (w ∷ [])) in e)
    ∙ words_from (before ++ w ∷ []) ws more)

pub numbers_below : (n count k : ℕ) → n + count ≤ k → all_below k (numbers_from n count) ≡ true
numbers_below n zero k l = refl
numbers_below n (suc count) k l = and_from (nat_lt n k) (all_below k (numbers_from (n + 1) count)) (lt-ltb n k (omega arith)) (numbers_below (n + 1) count k (omega arith))

module _ (g : Aig) (sound : IsSound g) where
  abbrev ds : List ℕ
  ds = defined_variables g

  abbrev names : List (List ℕ)
  names = map variable_word ds

  all_small : (ns : List ℕ) → all_below (2 ^ 28) ns ≡ true → AllSmall ns
  all_small [] h v t = absurd (both_ways false refl t)
  all_small (n ∷ ns) h v t =
      let p = and_parts (nat_lt n (2 ^ 28)) (all_below (2 ^ 28) ns) h in
      elim (or_cases (nat_eq n v) (has_number ns v) t) [
        | inl e ↦ let q : n ≡ v = eqb-true n v e in let l = ltb-true n (2 ^ 28) p.0 in omega arith
        | inr r ↦ all_small ns p.1 v r
      ]

  pub names_distinct : distinct names ≡ true
  names_distinct = words_distinct ds (all_small ds sound.small) sound.once

  pub many_names : length names ≡ length ds
  many_names = length-map ds variable_word

  name_of_node : (l : ℕ) → is_defined g l ≡ true → word_at names (node_in g (variable_of l)) ≡ variable_word (variable_of l)
  name_of_node l h = let p = node_placed ds (variable_of l) h in word_of_variable ds (node_in g (variable_of l)) p.within ∙ ap variable_word p.at

  -- the table of an AND

  pub table_is : (a : AigAnd) (k output : ℕ) (t : code.Table) → has_sides g a ≡ true → output ≡ length (0 ∷ source_variables g) + k → k < length g.ands → get_or (map and_variable g.ands) k 0 ≡ and_variable a
      → t.inputs ≡ node_in g (variable_of a.first) ∷ node_in g (variable_of a.second) ∷ [] → t.output ≡ output → t.rows ≡ (sign_of (lit a.first) ∷ sign_of (lit a.second) ∷ []) ∷ [] → t.on ≡ true → table_in names t ≡ and_table a
  table_is a k output t h is l at inputs out rows on =
      let p = and_parts (is_defined g a.first) (is_defined g a.second) h in
      let named : word_at names output ≡ variable_word (and_variable a) =
      word_of_variable ds output (omega (arith, many_defined g, length-map (source_literals g) variable_of))
      ∙ ap variable_word (ap (λ (n : ℕ). get_or ds n 0) is ∙ get_or-append-add (0 ∷ source_variables g) (map and_variable g.ands) k 0 ∙ at) in
      ap₂ (λ (i : List ℕ) (o : ℕ). record { inputs = words_at names i; output = word_at names o; rows = t.rows; on = t.on }) inputs out
      ∙ ap₂ (λ (r : List (List ℕ)) (b : Bool). record { inputs = words_at names (node_in g (variable_of a.first) ∷ node_in g (variable_of a.second) ∷ []); output = word_at names output; rows = r; on = b }) rows on
      ∙ ap₂ (λ (i : List (List ℕ)) (o : List ℕ). record { inputs = i; output = o; rows = (sign_of (lit a.first) ∷ sign_of (lit a.second) ∷ []) ∷ []; on = true })
      (ap₂ (λ (x y : List ℕ). x ∷ y ∷ []) (name_of_node a.first p.0) (name_of_node a.second p.1)) named

  pub table_low : (a : AigAnd) (output : ℕ) (t : code.Table) → has_sides g a ≡ true → output < length ds → t.inputs ≡ node_in g (variable_of a.first) ∷ node_in g (variable_of a.second) ∷ [] → t.output ≡ output → (nat_lt t.output (length ds) && all_below (length ds) t.inputs) ≡ true
  table_low a output t h l inputs out =
      let p = and_parts (is_defined g a.first) (is_defined g a.second) h in
      and_from (nat_lt t.output (length ds)) (all_below (length ds) t.inputs) (lt-ltb t.output (length ds) (omega arith))
      (ap (all_below (length ds)) inputs
      ∙ and_from (nat_lt (node_in g (variable_of a.first)) (length ds)) (nat_lt (node_in g (variable_of a.second)) (length ds) && true) (lt-ltb (node_in g (variable_of a.first)) (length ds) (node_placed ds (variable_of a.first) p.0).within)
      (and_from (nat_lt (node_in g (variable_of a.second)) (length ds)) true (lt-ltb (node_in g (variable_of a.second)) (length ds) (node_placed ds (variable_of a.second) p.1).within) refl))

  -- the netlist of tables

  pub source_names : sources (table_netlist g).frame ≡ map variable_word (0 ∷ source_variables g)
  source_names = append-nil (map variable_word (0 ∷ source_variables g))

  pub names_split : names ≡ map variable_word (0 ∷ source_variables g) ++ map variable_word (map and_variable g.ands)
  names_split = map-append variable_word (0 ∷ source_variables g) (map and_variable g.ands)

  pub defined_names : defined (table_netlist g) ≡ names
  defined_names = ap₂ (λ (a b : List (List ℕ)). a ++ b) source_names (outputs_are g.ands) ∙ sym names_split

  known_side : (l : ℕ) → is_defined g l ≡ true → has_word (defined (table_netlist g)) (variable_word (variable_of l)) ≡ true
  known_side l h = ap (λ (ws : List (List ℕ)). has_word ws (variable_word (variable_of l))) defined_names ∙ has_variable ds (variable_of l) h

  sides_driven : (ands : List AigAnd) → list_all (has_sides g) ands ≡ true → find (λ w. not (has_word (defined (table_netlist g)) w)) (flat_map inputs_of (map and_table ands)) ≡ None
  sides_driven [] h = refl
  sides_driven (a ∷ ands) h =
      let p = and_parts (has_sides g a) (list_all (has_sides g) ands) h in
      let q = and_parts (is_defined g a.first) (is_defined g a.second) p.0 in
      let test : List ℕ → Bool = λ w. not (has_word (defined (table_netlist g)) w) in
      let rest : List (List ℕ) = flat_map inputs_of (map and_table ands) in
      let one : List ℕ = variable_word (variable_of a.first) in
      let two : List ℕ = variable_word (variable_of a.second) in
      cond-false (test one) (Some one) (find test (two ∷ rest)) (not_from_true (has_word (defined (table_netlist g)) one) (known_side a.first q.0))
      ∙ cond-false (test two) (Some two) (find test rest) (not_from_true (has_word (defined (table_netlist g)) two) (known_side a.second q.1))
      ∙ sides_driven ands p.1

  pub driven : ReadsDefined g → first_undriven (table_netlist g) ≡ None
  driven d = sides_driven g.ands d.sides

  -- an order of the tables is a rank

  abbrev Rises : List (List ℕ) → Table → Type 0
  Rises ws t = list_all (λ w. nat_lt (place w ws) (place t.output ws)) t.inputs ≡ true

  all_before : (known more : List (List ℕ)) (out : List ℕ) (ins : List (List ℕ)) → list_all (has_word known) ins ≡ true → has_word known out ≡ false → list_all (λ w. nat_lt (place w (known ++ out ∷ more)) (place out (known ++ out ∷ more))) ins ≡ true
  all_before known more out [] h new = refl
  all_before known more out (w ∷ ws) h new =
      let p = and_parts (has_word known w) (list_all (has_word known) ws) h in
      let here : place out (known ++ out ∷ more) ≡ length known = place_of_new known out more new in
      let there : place w (known ++ out ∷ more) ≡ place w known = place_in_front known (out ∷ more) w p.0 in
      let low = place_lt known w p.0 in
      and_from (nat_lt (place w (known ++ out ∷ more)) (place out (known ++ out ∷ more))) (list_all (λ w. nat_lt (place w (known ++ out ∷ more)) (place out (known ++ out ∷ more))) ws) (lt-ltb (place w (known ++ out ∷ more)) (place out (known ++ out ∷ more)) (omega arith)) (all_before known more out ws p.1 new)

  ranked : (known : List (List ℕ)) (ts : List Table) → reads_known known ts ≡ true → distinct (known ++ map output_of ts) ≡ true → AllByRecursion (Rises (known ++ map output_of ts)) ts
  ranked known [] h d = tt
  ranked known (t ∷ ts) h d =
      let p = and_parts (list_all (has_word known) t.inputs) (reads_known (known ++ t.output ∷ []) ts) h in
      let again : (known ++ t.output ∷ []) ++ map output_of ts ≡ known ++ t.output ∷ map output_of ts = append_assoc known (t.output ∷ []) (map output_of ts) in (
        all_before known (map output_of ts) t.output t.inputs p.0 (distinct_before known t.output (map output_of ts) d),
        subst (λ (ws : List (List ℕ)). AllByRecursion (Rises ws) ts) again (ranked (known ++ t.output ∷ []) ts p.1 (ap distinct again ∙ d)),
      )

  pub rank_of : IsChecked (table_netlist g) → HasRank g
  rank_of c =
      let known : List (List ℕ) = sources (table_netlist g).frame in
      let order : List Table = c.order in
      let ws : List (List ℕ) = known ++ map output_of order in
      let all = All-permutation (Rises ws) order (and_tables g) (IsPermutation-sym (and_tables g) order c.ordered.permuted) (All-from_recursion (Rises ws) order (ranked known order c.ordered.ordered.above c.ordered.ordered.once.all)) in
      (λ v. place (variable_word v) ws, below ws g.ands (recursion_from_All (Rises ws) (and_tables g) all))
    where
      below : (ws : List (List ℕ)) (ands : List AigAnd) → AllByRecursion (Rises ws) (map and_table ands) → AllByRecursion (ReadsBelow (λ v. place (variable_word v) ws)) ands
      below ws [] h = tt
      below ws (a ∷ ands) h =
          let first : Bool = nat_lt (place (variable_word (variable_of a.first)) ws) (place (variable_word (and_variable a)) ws) in
          let second : Bool = nat_lt (place (variable_word (variable_of a.second)) ws) (place (variable_word (and_variable a)) ws) in
          let p = and_parts first (second && true) h.0 in
          let q = and_parts second true p.1 in
          ((ltb-true (place (variable_word (variable_of a.first)) ws) (place (variable_word (and_variable a)) ws) p.0, ltb-true (place (variable_word (variable_of a.second)) ws) (place (variable_word (and_variable a)) ws) q.0), below ws ands h.1)
