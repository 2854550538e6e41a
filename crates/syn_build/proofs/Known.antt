-- The literals of names: of the sources, then table by table, then of the observed signals.
use Rattle.std.proofs.Common.{◌≡◌, ℕ, zero, suc, ◌+◌, ◌<◌, Bool, true, false, ◌&&◌, ◌||◌, nat_lt, bytes_eq, List, [], ◌∷◌, ◌++◌, map, sum_by, length, get_or, take, drop, set, refl, sym, ap, ap₂, ◌∙◌, subst, inl, inr, append_assoc, append-nil, arith}
use Rattle.std.specs.List.{list_all}
use Rattle.std.proofs.lemmas.List.{drop_more, take_more, get_or-map, get_or-set_same, get_or-set_other, length-map, length-set, map_push}
use Rattle.std.proofs.lemmas.List.Sums.{sum_by-drop_more}
use Rattle.std.proofs.lemmas.List.Elements.{All-get_or, All-map, All-same, All-set}
use Rattle.std.proofs.lemmas.Bool.{cases_Bool, cases_eq, and_parts, or_cases, both_ways, cond-true, cond-false, ltb-true}
use Rattle.syn_rows.specs.declared.Lit.{Lit}
use Rattle.syn_rows.specs.declared.Row.{Row}
use Rattle.syn_rows.specs.Rows.{node_of}
use Rattle.syn_rows.specs.Values.{given_by, rows_function, value_in, values_of}
use Rattle.syn_netlist.specs.Words.{has_word, distinct}
use Rattle.syn_netlist.specs.declared.tables.Table.{Table as NumberedTable}
use Rattle.syn_netlist.specs.Lists.{Netlist, Table, output_of, sources, observed}
use Rattle.syn_netlist.specs.Costs.{cost_of, row_cost, table_cost}
use Rattle.syn_netlist.specs.Tables.{table_in, tables_below}
use Rattle.syn_netlist.specs.Numbers.{all_below, word_at, words_at}
use Rattle.syn_netlist.specs.Covers.{cover_value}
use Rattle.syn_netlist.specs.Values.{table_value, Consistent, HasFunction}
use Rattle.syn_netlist.specs.Order.{defined, reads_known, observes_defined, Ordered, OrderedHasOne, OrderKeepsFunction}
use Rattle.syn_netlist.specs.Faults.{no_table, tables_at, PutsInOrder}
use Rattle.syn_netlist.proofs.Checked.{checked_observes}
use Rattle.std.proofs.lemmas.List.Sorted.{IsPermutation-sym, sum_by-IsPermutation}
use Rattle.syn_netlist.proofs.Sets.{same_word, has_word-append, apart, has_head, has_tail}
use Rattle.syn_netlist.proofs.Places.{one_number}
use Rattle.syn_network.specs.GraphShape.{place}
use Rattle.syn_network.specs.NamedGraphs.{source_lit}
use Rattle.syn_hashed.specs.Hashed.{IsHashed, lit_at}
use Rattle.syn_hashed.specs.Growing.{Extends, value_by}
use Rattle.syn_lut_rows.specs.LutLiterals.{AllThere}
use Rattle.syn_build.specs.Covering.{IsCover}
use Rattle.syn_network.specs.Networks.{HasOwnSources}
use Rattle.syn_build.specs.Naming.{in_order, IsNamed}
use Rattle.syn_hashed.proofs.Rising.{literal_kept, source_value}
use Rattle.syn_hashed.proofs.Joining.{plain_value}
use Rattle.syn_placing.proofs.Placed.{there_kept}

-- places of words

place_lt : (ws : List (List ℕ)) (word : List ℕ) → has_word ws word ≡ true → place word ws < length ws
place_lt [] word h = absurd (both_ways false refl h)
place_lt (w ∷ ws) word h = elim (cases_Bool (bytes_eq w word)) [
  | inl e ↦ omega (arith, cond-true (bytes_eq w word) 0 (suc (place word ws)) e)
  | inr e ↦
      let rest : has_word ws word ≡ true = elim (or_cases (bytes_eq w word) (has_word ws word) h) [ inl t ↦ absurd (both_ways (bytes_eq w word) e t) | inr t ↦ t ] in
      omega (arith, cond-false (bytes_eq w word) 0 (suc (place word ws)) e, place_lt ws word rest)
]

word_placed : (ws : List (List ℕ)) (word : List ℕ) → has_word ws word ≡ true → get_or ws (place word ws) [] ≡ word
word_placed [] word h = absurd (both_ways false refl h)
word_placed (w ∷ ws) word h = elim (cases_Bool (bytes_eq w word)) [
  | inl e ↦ ap (λ k. get_or (w ∷ ws) k []) (cond-true (bytes_eq w word) 0 (suc (place word ws)) e) ∙ same_word w word e
  | inr e ↦
      let rest : has_word ws word ≡ true = elim (or_cases (bytes_eq w word) (has_word ws word) h) [ inl t ↦ absurd (both_ways (bytes_eq w word) e t) | inr t ↦ t ] in
      ap (λ k. get_or (w ∷ ws) k []) (cond-false (bytes_eq w word) 0 (suc (place word ws)) e) ∙ word_placed ws word rest
]

-- the literal of the source at a place has the source's value
source_literal_value : (count : ℕ) (rows : List Row) → IsHashed count rows → (ss : List (List ℕ)) (v : List ℕ → Bool) → count ≡ length ss → (p : ℕ) → p < length ss
    → value_by (given_by (map v ss)) rows (source_lit p) ≡ v (get_or ss p [])
source_literal_value count rows h ss v long p lt =
    let here : node_of (source_lit p) ≡ suc p = omega arith in
    plain_value (value_in (values_of (given_by (map v ss)) rows)) (source_lit p) (omega arith)
    ∙ source_value count rows h (given_by (map v ss)) (node_of (source_lit p)) (omega arith)
    ∙ ap (given_by (map v ss)) here
    ∙ get_or-map v ss p [] false lt

-- distinct words have distinct numbers
pub numbers_apart : (names ss : List (List ℕ)) (numbers : List ℕ) → words_at names numbers ≡ ss → distinct ss ≡ true → (i j : ℕ) → i < j → j < length numbers → get_or numbers i 0 ≡ get_or numbers j 0 → ⊥
numbers_apart names ss numbers e dis i j less lt same =
    let long : length ss ≡ length numbers = sym (ap length e) ∙ length-map numbers (word_at names) in
    let at : (k : ℕ) → k < length numbers → word_at ss k ≡ word_at names (get_or numbers k 0) = λ k l. ap (λ (ws : List (List ℕ)). word_at ws k) (sym e) ∙ get_or-map (word_at names) numbers k 0 [] l in
    let one : i ≡ j = one_number ss i j dis (omega arith) (omega arith) (at i (omega arith) ∙ ap (word_at names) same ∙ sym (at j lt)) in
    omega arith

number_below : (n : ℕ) (is : List ℕ) → all_below n is ≡ true → (k d : ℕ) → k < length is → get_or is k d < n
number_below n [] h k d l = absurd (omega arith)
number_below n (x ∷ is) h zero d l = ltb-true x n (and_parts (nat_lt x n) (all_below n is) h).0
number_below n (x ∷ is) h (suc k) d l = number_below n is (and_parts (nat_lt x n) (all_below n is) h).1 k d (omega arith)

-- at first the sources are known
pub named_sources : (n : Netlist) (names : List (List ℕ)) (numbers : List ℕ) (count : ℕ) (rows : List Row) (lits : List Lit)
    → words_at names numbers ≡ sources n.frame → distinct names ≡ true → all_below (length names) numbers ≡ true
    → IsHashed count rows → count ≡ length numbers → length lits ≡ length names → AllThere rows lits
    → ((i : ℕ) → i < length numbers → lit_at lits (get_or numbers i 0) ≡ source_lit i)
    → IsNamed n names (sources n.frame) rows lits
named_sources n names numbers count rows lits e dis below hashed sized long there given = record {
  count = long;
  there = there;
  own = own;
  values = λ v cv i lt known.
      ap (value_by (given_by (map v (sources n.frame))) rows) (own i lt known)
      ∙ source_literal_value count rows hashed (sources n.frame) v (sized ∙ sym counted) (place (word_at names i) (sources n.frame)) (place_lt (sources n.frame) (word_at names i) known)
      ∙ ap v (word_placed (sources n.frame) (word_at names i) known);
}
  where
    counted : length (sources n.frame) ≡ length numbers
    counted = sym (ap length e) ∙ length-map numbers (word_at names)

    own : (i : ℕ) → i < length names → has_word (sources n.frame) (word_at names i) ≡ true → lit_at lits i ≡ source_lit (place (word_at names i) (sources n.frame))
    own i lt known =
        let p : ℕ = place (word_at names i) (sources n.frame) in
        let inside : p < length numbers = omega (arith, place_lt (sources n.frame) (word_at names i) known, counted) in
        let same : word_at names i ≡ word_at names (get_or numbers p 0) =
        sym (word_placed (sources n.frame) (word_at names i) known) ∙ ap (λ (ws : List (List ℕ)). get_or ws p []) (sym e) ∙ get_or-map (word_at names) numbers p 0 [] inside in
        let one : i ≡ get_or numbers p 0 = one_number names i (get_or numbers p 0) dis lt (number_below (length names) numbers below p 0 inside) same in
        ap (lit_at lits) one ∙ given p inside

-- the literals of known names have their values
literals_valued : (n : Netlist) (names known : List (List ℕ)) (rows : List Row) (lits : List Lit) → IsNamed n names known rows lits → (v : List ℕ → Bool) → Consistent n v
    → (numbers : List ℕ) → all_below (length names) numbers ≡ true → list_all (has_word known) (words_at names numbers) ≡ true
    → map (value_by (given_by (map v (sources n.frame))) rows) (map (lit_at lits) numbers) ≡ map v (words_at names numbers)
literals_valued n names known rows lits named v cv [] below there = refl
literals_valued n names known rows lits named v cv (x ∷ xs) below there =
    let low = and_parts (nat_lt x (length names)) (all_below (length names) xs) below in
    let all = and_parts (has_word known (word_at names x)) (list_all (has_word known) (words_at names xs)) there in
    ap₂ (λ (b : Bool) (bs : List Bool). b ∷ bs) (named.values v cv x (ltb-true x (length names) low.0) all.0) (literals_valued n names known rows lits named v cv xs low.1 all.1)

-- a table's output becomes known
pub named_more : (n : Netlist) (names known : List (List ℕ)) (old new : List Row) (lits : List Lit) (numbers : List ℕ) (output : ℕ) (rows : List (List ℕ)) (on : Bool) (literal : Lit)
    → IsNamed n names known old lits → distinct names ≡ true → Extends old new → node_of literal < length new → output < length names → all_below (length names) numbers ≡ true
    → list_all (has_word known) (words_at names numbers) ≡ true → has_word (sources n.frame) (word_at names output) ≡ false
    → ((v : List ℕ → Bool) → Consistent n v → v (word_at names output) ≡ cover_value rows on (map v (words_at names numbers)))
    → IsCover old rows on (map (lit_at lits) numbers) new literal
    → IsNamed n names (known ++ word_at names output ∷ []) new (set lits output literal)
named_more n names known old new lits numbers output rows on literal named dis grown there inside below reads fresh gives cover = record {
  count = length-set lits output literal ∙ named.count;
  there = All-set (λ l. node_of l < length new) lits output literal there (there_kept old new lits grown named.there);
  own = λ i lt h. elim (cases_eq i output) [
    | inl e ↦ absurd (both_ways (has_word (sources n.frame) (word_at names output)) fresh (sym (ap (λ k. has_word (sources n.frame) (word_at names k)) e) ∙ h))
    | inr ne ↦ get_or-set_other lits output i literal (record { 0 = 0 }) ne ∙ named.own i lt h
  ];
  values = λ v cv i lt h. elim (cases_eq i output) [
    | inl e ↦
        let given : ℕ → Bool = given_by (map v (sources n.frame)) in
        let at : lit_at (set lits output literal) i ≡ literal = ap (lit_at (set lits output literal)) e ∙ get_or-set_same lits output literal (record { 0 = 0 }) (omega (arith, named.count)) in
        ap (value_by given new) at
        ∙ cover given refl
        ∙ ap (λ (bits : List Bool). cover_value rows on bits) (literals_valued n names known old lits named v cv numbers below reads)
        ∙ sym (gives v cv)
        ∙ ap (λ k. v (word_at names k)) (sym e)
    | inr ne ↦
        let given : ℕ → Bool = given_by (map v (sources n.frame)) in
        let before : has_word known (word_at names i) ≡ true = still i lt ne (sym (has_word-append known (word_at names output ∷ []) (word_at names i)) ∙ h) in
        ap (value_by given new) (get_or-set_other lits output i literal (record { 0 = 0 }) ne)
        ∙ literal_kept given old new grown (lit_at lits i) (All-get_or (λ l. node_of l < length old) lits i (record { 0 = 0 }) (omega (arith, named.count)) named.there)
        ∙ named.values v cv i lt before
  ];
}
  where
    still : (i : ℕ) → i < length names → (i ≡ output → ⊥) → (has_word known (word_at names i) || has_word (word_at names output ∷ []) (word_at names i)) ≡ true → has_word known (word_at names i) ≡ true
    still i lt ne h = elim (or_cases (has_word known (word_at names i)) (has_word (word_at names output ∷ []) (word_at names i)) h) [
      | inl k ↦ k
      | inr o ↦ elim (or_cases (bytes_eq (word_at names output) (word_at names i)) false o) [
        | inl same ↦ absurd (ne (sym (one_number names output i dis inside lt (same_word (word_at names output) (word_at names i) same))))
        | inr f ↦ absurd (both_ways false refl f)
      ]
    ]

-- tables in order

-- what is known above a table
abbrev pub known_at : Netlist → ℕ → List (List ℕ)
known_at n k = sources n.frame ++ map output_of (take k n.tables)

-- What an ordered netlist says of the table at a place.
pub record IsNext (n : Netlist) (k : ℕ) (t : Table) : Type 0 where
  pub reads : list_all (has_word (known_at n k)) t.inputs ≡ true
  pub rest : reads_known (known_at n (k + 1)) (drop (k + 1) n.tables) ≡ true
  pub fresh : has_word (sources n.frame) t.output ≡ false
  pub gives : (v : List ℕ → Bool) → Consistent n v → v t.output ≡ table_value t v
  pub known : known_at n k ++ t.output ∷ [] ≡ known_at n (k + 1)

output_there : (ts : List Table) (k : ℕ) (d : Table) → k < length ts → has_word (map output_of ts) (get_or ts k d).output ≡ true
output_there [] k d lt = absurd (omega arith)
output_there (t ∷ ts) zero d lt = has_head t.output (map output_of ts)
output_there (t ∷ ts) (suc k) d lt = has_tail t.output (get_or ts k d).output (map output_of ts) (output_there ts k d (omega arith))

pub next_table : (n : Netlist) (k : ℕ) (t : Table) → Ordered n → k < length n.tables → t ≡ get_or n.tables k t → reads_known (known_at n k) (drop k n.tables) ≡ true → IsNext n k t
next_table n k t order lt at reads = record {
  reads = parts.0;
  rest = ap (λ (known : List (List ℕ)). reads_known known (drop (k + 1) n.tables)) (sym more) ∙ parts.1;
  fresh = elim (cases_Bool (has_word (sources n.frame) t.output)) [
    | inl s ↦ absurd (both_ways (has_word (map output_of n.tables) t.output) (apart (sources n.frame) (map output_of n.tables) t.output order.once.all s)
        (ap (λ (x : Table). has_word (map output_of n.tables) x.output) at ∙ output_there n.tables k t lt))
    | inr f ↦ f
  ];
  gives = λ v cv. subst (λ (x : Table). v x.output ≡ table_value x v) (sym at) (All-get_or (λ (x : Table). v x.output ≡ table_value x v) n.tables k t lt cv);
  known = more;
}
  where
    here : drop k n.tables ≡ t ∷ drop (k + 1) n.tables
    here = drop_more n.tables k t lt ∙ ap (λ (x : Table). x ∷ drop (k + 1) n.tables) (sym at)

    parts : (list_all (has_word (known_at n k)) t.inputs ≡ true) × (reads_known (known_at n k ++ t.output ∷ []) (drop (k + 1) n.tables) ≡ true)
    parts = and_parts (list_all (has_word (known_at n k)) t.inputs) (reads_known (known_at n k ++ t.output ∷ []) (drop (k + 1) n.tables)) (sym (ap (reads_known (known_at n k)) here) ∙ reads)

    more : known_at n k ++ t.output ∷ [] ≡ known_at n (k + 1)
    more =
        append_assoc (sources n.frame) (map output_of (take k n.tables)) (t.output ∷ [])
        ∙ sym (ap (λ (outputs : List (List ℕ)). sources n.frame ++ outputs) (ap (map output_of) (take_more n.tables k t lt ∙ ap (λ (x : Table). take k n.tables ++ x ∷ []) (sym at)) ∙ map_push output_of (take k n.tables) t))

-- literals of numbers that are there are of rows that are there
pub literals_there : (rows : List Row) (lits : List Lit) (numbers : List ℕ) → AllThere rows lits → all_below (length lits) numbers ≡ true → AllThere rows (map (lit_at lits) numbers)
literals_there rows lits numbers there below =
    All-map (λ (l : Lit). node_of l < length rows) (lit_at lits) numbers
    (λ k d lt. All-get_or (λ (l : Lit). node_of l < length rows) lits (get_or numbers k d) (record { 0 = 0 }) (number_below (length lits) numbers below k d lt) there)

cost_more : (ts : List Table) (k : ℕ) (t : Table) → k < length ts → t ≡ get_or ts k t → sum_by table_cost (drop k ts) ≡ table_cost t + sum_by table_cost (drop (k + 1) ts)
cost_more ts k t lt at = sum_by-drop_more table_cost ts k t lt ∙ ap (λ (x : Table). table_cost x + sum_by table_cost (drop (k + 1) ts)) (sym at)

pub table_inside : (count : ℕ) (ts : List NumberedTable) (k : ℕ) (t : NumberedTable) → tables_below count ts ≡ true → k < length ts → t ≡ get_or ts k t → (t.output < count) × (all_below count t.inputs ≡ true)
table_inside count ts k t below lt at =
    let here : (nat_lt t.output count && all_below count t.inputs) ≡ true = ap (λ (x : NumberedTable). nat_lt x.output count && all_below count x.inputs) at ∙ go ts below k lt in
    let parts = and_parts (nat_lt t.output count) (all_below count t.inputs) here in
    (ltb-true t.output count parts.0, parts.1)
  where
    go : (us : List NumberedTable) → tables_below count us ≡ true → (j : ℕ) → j < length us → (nat_lt (get_or us j t).output count && all_below count (get_or us j t).inputs) ≡ true
    go [] h j l = absurd (omega arith)
    go (u ∷ us) h zero l = (and_parts (nat_lt u.output count && all_below count u.inputs) (tables_below count us) h).0
    go (u ∷ us) h (suc j) l = go us (and_parts (nat_lt u.output count && all_below count u.inputs) (tables_below count us) h).1 j (omega arith)

-- What is known of the table at a place of the order, from its number and the numbered table: the table in words stands there, and the tables from there on cost as much as it and the rest.
pub record IsTaken (n : Netlist) (order : List ℕ) (k : ℕ) (t : Table) : Type 0 where
  pub inside : k < length (in_order n order).tables
  pub at : t ≡ get_or (in_order n order).tables k t
  pub cost : sum_by table_cost (drop k (in_order n order).tables) ≡ sum_by row_cost t.rows + sum_by table_cost (drop (k + 1) (in_order n order).tables)

pub taken : (n : Netlist) (names : List (List ℕ)) (ts : List NumberedTable) (order : List ℕ) (k : ℕ) (t : NumberedTable) → n.tables ≡ map (table_in names) ts → k < length order
    → get_or order k 0 < length ts → t ≡ get_or ts (get_or order k 0) t → IsTaken n order k (table_in names t)
taken n names ts order k t is lt low same = record {
  inside = inside;
  at = at;
  cost = cost_more (in_order n order).tables k (table_in names t) inside at;
}
  where
    inside : k < length (in_order n order).tables
    inside = omega (arith, length-map order (λ i. get_or n.tables i no_table))

    at : table_in names t ≡ get_or (in_order n order).tables k (table_in names t)
    at =
        ap (table_in names) same
        ∙ sym (get_or-map (table_in names) ts (get_or order k 0) t no_table low)
        ∙ ap (λ (us : List Table). get_or us (get_or order k 0) no_table) (sym is)
        ∙ sym (get_or-map (λ i. get_or n.tables i no_table) order k 0 (table_in names t) lt)

-- a number of an order is of a table that is there
pub number_there : (n : Netlist) (names : List (List ℕ)) (ts : List NumberedTable) (order : List ℕ) (k : ℕ) → n.tables ≡ map (table_in names) ts → all_below (length n.tables) order ≡ true
    → k < length order → get_or order k 0 < length ts
number_there n names ts order k is below lt = omega (arith, number_below (length n.tables) order below k 0 lt, ap length is, length-map ts (table_in names))

pub known_first : (n : Netlist) → known_at n 0 ≡ sources n.frame
known_first n = append-nil (sources n.frame)

-- the tables in another order cost the same
pub order_costs : (n : Netlist) (order : List ℕ) → PutsInOrder n order → cost_of (in_order n order) ≡ cost_of n
order_costs n order puts = sum_by-IsPermutation table_cost n.tables (tables_at n order) puts.ordered.permuted

-- observed signals

ordered_function : (n : Netlist) (names : List (List ℕ)) (numbers : List ℕ) (rows : List Row) (lits found : List Lit) → OrderedHasOne → Ordered n → observes_defined n ≡ true
    → IsNamed n names (defined n) rows lits → words_at names numbers ≡ observed n.frame → all_below (length names) numbers ≡ true → found ≡ map (lit_at lits) numbers
    → HasFunction n (rows_function rows found)
ordered_function n names numbers rows lits found has_one order all named e below is = subst (λ (ls : List Lit). HasFunction n (rows_function rows ls)) (sym is) (record {
  total = (has_one n order).0;
  value = λ v cv. ap (map v) (sym e) ∙ sym (literals_valued n names (defined n) rows lits named v cv numbers below (ap (list_all (has_word (defined n))) e ∙ all));
})

-- the function doesn't depend on the order of the tables
pub observed_function : (n : Netlist) (order : List ℕ) (names : List (List ℕ)) (numbers : List ℕ) (rows : List Row) (lits found : List Lit) → OrderedHasOne → OrderKeepsFunction → PutsInOrder n order
    → IsNamed (in_order n order) names (defined (in_order n order)) rows lits → words_at names numbers ≡ observed n.frame → all_below (length names) numbers ≡ true → found ≡ map (lit_at lits) numbers
    → HasFunction n (rows_function rows found)
observed_function n order names numbers rows lits found has_one keeps puts named e below is =
    keeps (in_order n order) n.tables (rows_function rows found) (IsPermutation-sym n.tables (tables_at n order) puts.ordered.permuted)
    (ordered_function (in_order n order) names numbers rows lits found has_one puts.ordered.ordered
    (checked_observes n (record { driven = puts.driven; order = tables_at n order; ordered = puts.ordered })) named e below is)

pub observed_there : (n : Netlist) (names known : List (List ℕ)) (numbers : List ℕ) (rows : List Row) (lits found : List Lit) → IsNamed n names known rows lits → all_below (length names) numbers ≡ true → found ≡ map (lit_at lits) numbers
    → AllThere rows found
observed_there n names known numbers rows lits found named below is =
    All-same (λ (l : Lit). node_of l < length rows) found (map (lit_at lits) numbers) is
    (literals_there rows lits numbers named.there (ap (λ k. all_below k numbers) named.count ∙ below))

pub observed_own : (n : Netlist) (names known : List (List ℕ)) (numbers : List ℕ) (rows : List Row) (lits found : List Lit) → IsNamed n names known rows lits → words_at names numbers ≡ observed n.frame → all_below (length names) numbers ≡ true
    → found ≡ map (lit_at lits) numbers → HasOwnSources n.frame found
observed_own n names known numbers rows lits found named e below is i lt own =
    let inside : i < length numbers = omega (arith, ap length is, length-map numbers (lit_at lits)) in
    let word : word_at (observed n.frame) i ≡ word_at names (get_or numbers i 0) = ap (λ (ws : List (List ℕ)). word_at ws i) (sym e) ∙ get_or-map (word_at names) numbers i 0 [] inside in
    ap (λ (ls : List Lit). lit_at ls i) is
    ∙ get_or-map (lit_at lits) numbers i 0 (record { 0 = 0 }) inside
    ∙ named.own (get_or numbers i 0) (number_below (length names) numbers below i 0 inside) (sym (ap (has_word (sources n.frame)) word) ∙ own)
    ∙ ap (λ (w : List ℕ). source_lit (place w (sources n.frame))) (sym word)
