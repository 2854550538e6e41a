-- No statement of a written netlist has a fault.
use Rattle.std.proofs.Common.{◌≡◌, ℕ, zero, suc, ◌<◌, ◌&&◌, ◌||◌, not, nat_lt, Bool, true, false, if◌then◌else◌, List, [], ◌∷◌, ◌++◌, length, map, flat_map, bytes_eq, refl, sym, ap, ap₂, ◌∙◌, subst, Option, Some, None, arith, append_assoc}
use Rattle.std.specs.List.{list_all, list_any}
use Rattle.std.proofs.lemmas.Bool.{both_ways, cond-false, and_parts, and_from, and_right, or_parts, or_from, not-true, not_from_true, not_from_false, false_from_ne_true}
use Rattle.syn_netlist.specs.Words.{has_word, distinct, without}
use Rattle.syn_netlist.specs.Lists.{Latch, Table, Netlist, output_of, latch_output}
use Rattle.syn_netlist.specs.declared.LatchKind.{LatchKind}
use Rattle.syn_netlist.specs.declared.LatchKind.TheVariants as types
use Rattle.syn_netlist.specs.Kept.{row_fits, rows_fit}
use Rattle.syn_netlist.proofs.Sets.{same_word, word_same, has_word-append, has_head, has_tail, has_right, apart, distinct_right, distinct_head}
use Rattle.syn_text.specs.Printed.{kind_word, kind_words, digit}
use Rattle.syn_reader.specs.declared.Kind.{Kind}
use Rattle.syn_reader.specs.declared.Kind.TheVariants as kinds
use Rattle.syn_reader.specs.Statements.{Statement, is_end}
use Rattle.syn_lex.specs.Lines.{is_nil}
use Rattle.syn_reader.specs.Shapes.{last_word, is_row_of, is_input_part, output_word, row_words, latch_types, initial_values}
use Rattle.syn_reader.specs.Definitions.{Definition, name_of, definitions, may_share, forbids, first_forbidden}
use Rattle.syn_reader.specs.LineFaults.{checks, first_fault_of_lines, table_above, is_stray, is_misshaped, first_row, has_bad_type, has_bad_init}
use Rattle.syn_reader.proofs.Words.{all_but_snoc}
use Rattle.syn_reader.proofs.Fine.{IsFine, fine_first}
use Rattle.syn_text.specs.WellFormed.{latch_fits, table_fits, IsWellFormed}
use Rattle.syn_text.specs.Written.{latch_words, row_said, from_tables, from_latches, from_clocks, numbered, written}
use Rattle.syn_text.proofs.WrittenFits.{FitsLatch, latch_parts, table_parts}
use Rattle.syn_text.proofs.WrittenNames.{defines, statement, names_in, table_defines}

-- definitions that none before them forbids
other : (w v : List ℕ) (ws : List (List ℕ)) → has_word ws w ≡ false → has_word ws v ≡ true → bytes_eq w v ≡ false
other w v ws n h = false_from_ne_true (bytes_eq w v) (λ e. both_ways (has_word ws w) n (subst (λ x. has_word ws x ≡ true) (sym (same_word w v e)) h))

one_kind : (kind : Kind) (before : List Definition) (ws : List (List ℕ)) → ((w : List ℕ) → has_word ws w ≡ true → list_any (λ one. forbids one (defines kind w)) before ≡ false) → distinct ws ≡ true → first_forbidden before (map (defines kind) ws) ≡ None
one_kind kind before [] f d = refl
one_kind kind before (w ∷ ws) f d =
    cond-false (list_any (λ one. forbids one (defines kind w)) before) (Some w) (first_forbidden (defines kind w ∷ before) (map (defines kind) ws)) (f w (has_head w ws))
    ∙ one_kind kind (defines kind w ∷ before) ws
    (λ v h. or_from (forbids (defines kind w) (defines kind v)) (list_any (λ one. forbids one (defines kind v)) before)
    (ap (λ b. b && not (may_share kind kind)) (other w v ws (distinct_head w ws d) h))
    (f v (has_tail w v ws h)))
    (and_parts (not (has_word ws w)) (distinct ws) d).1

shared : (ws : List (List ℕ)) (w : List ℕ) → list_any (λ one. forbids one (defines kinds.Clock w)) (map (defines kinds.Inputs) ws ++ []) ≡ false
shared [] w = refl
shared (x ∷ xs) w = or_from (bytes_eq x w && false) (list_any (λ one. forbids one (defines kinds.Clock w)) (map (defines kinds.Inputs) xs ++ [])) (and_right (bytes_eq x w) false refl) (shared xs w)

unforbidden : (before : List Definition) (kind : Kind) (w : List ℕ) → has_word (map name_of before) w ≡ false → list_any (λ one. forbids one (defines kind w)) before ≡ false
unforbidden [] kind w h = refl
unforbidden (d ∷ ds) kind w h =
    let p = or_parts (bytes_eq d.name w) (has_word (map name_of ds) w) h in
    or_from (forbids d (defines kind w)) (list_any (λ one. forbids one (defines kind w)) ds) (ap (λ b. b && not (may_share d.by kind)) p.0) (unforbidden ds kind w p.1)

one_alone : (before : List Definition) (kind : Kind) (w : List ℕ) → has_word (map name_of before) w ≡ false → first_forbidden before (defines kind w ∷ []) ≡ None
one_alone before kind w h = cond-false (list_any (λ one. forbids one (defines kind w)) before) (Some w) None (unforbidden before kind w h)

-- the statements above: no `.end`, and none of the names that are still to be defined
pub record IsAbove (above : List Statement) (rest : List (List ℕ)) : Type 0 where
  pub no_end : list_any (λ t. is_end t.kind) above ≡ false
  pub new : (w : List ℕ) → has_word rest w ≡ true → has_word (names_in above) w ≡ false

still_new : (above : List Statement) (w : List ℕ) (rest : List (List ℕ)) → distinct (w ∷ rest) ≡ true → IsAbove above (w ∷ rest) → (v : List ℕ) → has_word rest v ≡ true → has_word (w ∷ names_in above) v ≡ false
still_new above w rest d a v h = or_from (bytes_eq w v) (has_word (names_in above) v) (other w v rest (distinct_head w rest d) h) (a.new v (has_tail w v rest h))

-- rows
pub record IsRowAbove (above : List Statement) (names : List (List ℕ)) (on : Bool) : Type 0 where
  pub table : table_above above ≡ Some names
  pub first : (words : List (List ℕ)) → last_word words ≡ output_word on → last_word (first_row words above) ≡ output_word on

last_of_row : (is : List (List ℕ)) (on : Bool) (part : List ℕ) → last_word (row_words is on part) ≡ output_word on
last_of_row [] on part = refl
last_of_row (i ∷ is) on part = refl

row_has_shape : (is : List (List ℕ)) (on : Bool) (part : List ℕ) → row_fits (length is) part ≡ true → is_row_of (length is) (row_words is on part) ≡ true
row_has_shape [] true part h = refl
row_has_shape [] false part h = refl
row_has_shape (i ∷ is) true part h = and_from (is_input_part (suc (length is)) part) true h refl
row_has_shape (i ∷ is) false part h = and_from (is_input_part (suc (length is)) part) true h refl

fine_row : (above : List Statement) (k : ℕ) (is : List (List ℕ)) (o : List ℕ) (on : Bool) (part : List ℕ) → list_any (λ t. is_end t.kind) above ≡ false → IsRowAbove above (is ++ o ∷ []) on → row_fits (length is) part ≡ true
    → IsFine above (statement k kinds.Row (row_words is on part))
fine_row above k is o on part e a h = record {
  after = e;
  first = refl;
  owned = ap is_stray a.table;
  known = refl;
  named = refl;
  single = refl;
  row = ap (λ names. is_misshaped names (row_words is on part)) a.table
      ∙ (ap (λ (l : List (List ℕ)). not (is_row_of (length l) (row_words is on part))) (all_but_snoc is o) ∙ not_from_true (is_row_of (length is) (row_words is on part)) (row_has_shape is on part h));
  same = and_right (not (is_stray (table_above above))) (not (bytes_eq (last_word (row_words is on part)) (last_word (first_row (row_words is on part) above))))
      (not_from_true (bytes_eq (last_word (row_words is on part)) (last_word (first_row (row_words is on part) above)))
      (ap₂ (λ (x : List ℕ) (y : List ℕ). bytes_eq x y) (last_of_row is on part) (a.first (row_words is on part) (last_of_row is on part)) ∙ word_same (output_word on)));
  size = refl;
  type = refl;
  init = refl;
  once = refl;
}

rows_fine : (is : List (List ℕ)) (o : List ℕ) (on : Bool) (rows : List (List ℕ)) (ts : List Table) (k : ℕ) (above : List Statement) (rest : List (List ℕ)) → rows_fit (length is) rows ≡ true → IsAbove above rest → IsRowAbove above (is ++ o ∷ []) on
    → ((j : ℕ) (above : List Statement) → IsAbove above rest → first_fault_of_lines checks above (numbered j (from_tables ts)) ≡ None)
    → first_fault_of_lines checks above (numbered k (map (row_said is on) rows ++ from_tables ts)) ≡ None
rows_fine is o on [] ts k above rest h a r more = more k above a
rows_fine is o on (p ∷ ps) ts k above rest h a r more =
    let q = and_parts (row_fits (length is) p) (rows_fit (length is) ps) h in
    fine_first above (statement k kinds.Row (row_words is on p)) (numbered (suc k) (map (row_said is on) ps ++ from_tables ts)) (fine_row above k is o on p a.no_end r q.0)
    (rows_fine is o on ps ts (suc k) (statement k kinds.Row (row_words is on p) ∷ above) rest q.1
    (record { no_end = a.no_end; new = a.new })
    (record { table = r.table; first = λ words e. r.first (row_words is on p) (last_of_row is on p) })
    more)

-- tables
no_snoc_nil : (is : List (List ℕ)) (o : List ℕ) → is_nil (is ++ o ∷ []) ≡ false
no_snoc_nil [] o = refl
no_snoc_nil (i ∷ is) o = refl

fine_names : (above : List Statement) (k : ℕ) (is : List (List ℕ)) (o : List ℕ) (rest : List (List ℕ)) → IsAbove above (o ∷ rest) → IsFine above (statement k kinds.Names (is ++ o ∷ []))
fine_names above k is o rest a = record {
  after = a.no_end;
  first = refl;
  owned = refl;
  known = refl;
  named = no_snoc_nil is o;
  single = refl;
  row = refl;
  same = refl;
  size = refl;
  type = refl;
  init = refl;
  once = ap (first_forbidden (flat_map definitions above)) (table_defines is o k) ∙ one_alone (flat_map definitions above) kinds.Names o (a.new o (has_head o rest));
}

fine_end : (above : List Statement) (k : ℕ) → list_any (λ t. is_end t.kind) above ≡ false → IsFine above (statement k kinds.End [])
fine_end above k e = record { after = e; first = refl; owned = refl; known = refl; named = refl; single = refl; row = refl; same = refl; size = refl; type = refl; init = refl; once = refl }

tables_fine : (ts : List Table) (k : ℕ) (above : List Statement) → list_all table_fits ts ≡ true → distinct (map output_of ts) ≡ true → IsAbove above (map output_of ts) → first_fault_of_lines checks above (numbered k (from_tables ts)) ≡ None
tables_fine [] k above h d a = fine_first above (statement k kinds.End []) [] (fine_end above k a.no_end) refl
tables_fine (t ∷ ts) k above h d a =
    let p = and_parts (table_fits t) (list_all table_fits ts) h in
    let q = and_parts (not (has_word (map output_of ts) t.output)) (distinct (map output_of ts)) d in
    let here : Statement = statement k kinds.Names (t.inputs ++ t.output ∷ []) in
    fine_first above here (numbered (suc k) (map (row_said t.inputs t.on) t.rows ++ from_tables ts)) (fine_names above k t.inputs t.output (map output_of ts) a)
    (rows_fine t.inputs t.output t.on t.rows ts (suc k) (here ∷ above) (map output_of ts) (table_parts t p.0).rows
    (record {
      no_end = a.no_end;
      new = λ w z. ap (λ (ds : List Definition). has_word (map name_of (ds ++ flat_map definitions above)) w) (table_defines t.inputs t.output k) ∙ still_new above t.output (map output_of ts) d a w z;
    })
    (record { table = refl; first = λ words e. e })
    (λ j over b. tables_fine ts j over p.1 q.1 b))

-- latches
latch_sizes : (feed output : List ℕ) (kind : Option (LatchKind × Option (List ℕ))) (init : List ℕ) → not (nat_lt 1 (length (feed ∷ output ∷ (kind_words kind ++ init ∷ []))) && nat_lt (length (feed ∷ output ∷ (kind_words kind ++ init ∷ []))) 6) ≡ false
latch_sizes feed output None init = refl
latch_sizes feed output (Some (k, None)) init = refl
latch_sizes feed output (Some (k, Some name)) init = refl

is_type : (k : LatchKind) → not (has_word latch_types (kind_word k)) ≡ false
is_type types.Fe = refl
is_type types.Re = refl
is_type types.Ah = refl
is_type types.Al = refl
is_type types.As = refl

latch_typed : (feed output : List ℕ) (kind : Option (LatchKind × Option (List ℕ))) (init : List ℕ) → has_bad_type (feed ∷ output ∷ (kind_words kind ++ init ∷ [])) ≡ false
latch_typed feed output None init = refl
latch_typed feed output (Some (k, None)) init = is_type k
latch_typed feed output (Some (k, Some name)) init = is_type k

is_initial : (i : ℕ) → i < 4 → not (has_word initial_values (digit i)) ≡ false
is_initial zero h = refl
is_initial (suc zero) h = refl
is_initial (suc (suc zero)) h = refl
is_initial (suc (suc (suc zero))) h = refl
is_initial (suc (suc (suc (suc n)))) h = absurd (omega arith)

latch_begins : (feed output : List ℕ) (kind : Option (LatchKind × Option (List ℕ))) (i : ℕ) → i < 4 → has_bad_init (feed ∷ output ∷ (kind_words kind ++ digit i ∷ [])) ≡ false
latch_begins feed output None i h = is_initial i h
latch_begins feed output (Some (k, None)) i h = is_initial i h
latch_begins feed output (Some (k, Some name)) i h = is_initial i h

fine_latch : (above : List Statement) (k : ℕ) (l : Latch) (rest : List (List ℕ)) → FitsLatch l → IsAbove above (l.output ∷ rest) → IsFine above (statement k kinds.Latch (latch_words l))
fine_latch above k l rest f a = record {
  after = a.no_end;
  first = refl;
  owned = refl;
  known = refl;
  named = refl;
  single = refl;
  row = refl;
  same = refl;
  size = latch_sizes l.feed l.output l.kind (digit l.init);
  type = latch_typed l.feed l.output l.kind (digit l.init);
  init = latch_begins l.feed l.output l.kind l.init f.init;
  once = one_alone (flat_map definitions above) kinds.Latch l.output (a.new l.output (has_head l.output rest));
}

latches_fine : (ls : List Latch) (ts : List Table) (k : ℕ) (above : List Statement) → list_all latch_fits ls ≡ true → list_all table_fits ts ≡ true → distinct (map latch_output ls ++ map output_of ts) ≡ true → IsAbove above (map latch_output ls ++ map output_of ts)
    → first_fault_of_lines checks above (numbered k (from_latches ls ts)) ≡ None
latches_fine [] ts k above h f d a = tables_fine ts k above f d a
latches_fine (l ∷ ls) ts k above h f d a =
    let p = and_parts (latch_fits l) (list_all latch_fits ls) h in
    let rest : List (List ℕ) = map latch_output ls ++ map output_of ts in
    let q = and_parts (not (has_word rest l.output)) (distinct rest) d in
    fine_first above (statement k kinds.Latch (latch_words l)) (numbered (suc k) (from_latches ls ts)) (fine_latch above k l rest (latch_parts l p.0) a)
    (latches_fine ls ts (suc k) (statement k kinds.Latch (latch_words l) ∷ above) p.1 f q.1 (record { no_end = a.no_end; new = λ w z. still_new above l.output rest d a w z }))

-- what is defined once
not_without : (others ws : List (List ℕ)) (w : List ℕ) → has_word (without others ws) w ≡ false → has_word others w ≡ false → has_word ws w ≡ false
not_without others [] w e o = refl
not_without others (x ∷ xs) w e o = go (has_word others x) refl e (not_without others xs w)
  where
    go : (t : Bool) → has_word others x ≡ t → has_word (if not t then x ∷ without others xs else without others xs) w ≡ false → (has_word (without others xs) w ≡ false → has_word others w ≡ false → has_word xs w ≡ false) → (bytes_eq x w || has_word xs w) ≡ false
    go true h e ih = or_from (bytes_eq x w) (has_word xs w) (false_from_ne_true (bytes_eq x w) (λ s. both_ways (has_word others w) o (subst (λ v. has_word others v ≡ true) (same_word x w s) h))) (ih e o)
    go false h e ih = let p = or_parts (bytes_eq x w) (has_word (without others xs) w) e in or_from (bytes_eq x w) (has_word xs w) p.0 (ih p.1 o)

distinct_left : (xs ys : List (List ℕ)) → distinct (xs ++ ys) ≡ true → distinct xs ≡ true
distinct_left [] ys d = refl
distinct_left (x ∷ xs) ys d =
    let p = and_parts (not (has_word (xs ++ ys) x)) (distinct (xs ++ ys)) d in
    and_from (not (has_word xs x)) (distinct xs) (not_from_false (has_word xs x) (or_parts (has_word xs x) (has_word ys x) (sym (has_word-append xs ys x) ∙ not-true (has_word (xs ++ ys) x) p.0)).0) (distinct_left xs ys p.1)

regroup : (a b c d : List (List ℕ)) → (a ++ (b ++ c)) ++ d ≡ a ++ (b ++ (c ++ d))
regroup a b c d = simp append_assoc

-- what comes later is in no earlier part
not_earlier : (xs ys : List (List ℕ)) (w : List ℕ) → distinct (xs ++ ys) ≡ true → has_word ys w ≡ true → has_word xs w ≡ false
not_earlier xs ys w d h = false_from_ne_true (has_word xs w) (λ t. both_ways (has_word ys w) (apart xs ys w d t) h)

pub record IsSplit (is cs rest : List (List ℕ)) : Type 0 where
  pub inputs : distinct is ≡ true
  pub rest_once : distinct rest ≡ true
  pub no_input : (w : List ℕ) → has_word rest w ≡ true → has_word is w ≡ false
  pub no_clock : (w : List ℕ) → has_word rest w ≡ true → has_word cs w ≡ false

split : (is cs ls ts : List (List ℕ)) → distinct ((is ++ (without is cs ++ ls)) ++ ts) ≡ true → IsSplit is cs (ls ++ ts)
split is cs ls ts d =
    let e : distinct (is ++ (without is cs ++ (ls ++ ts))) ≡ true = subst (λ l. distinct l ≡ true) (regroup is (without is cs) ls ts) d in
    let f : distinct (without is cs ++ (ls ++ ts)) ≡ true = distinct_right is (without is cs ++ (ls ++ ts)) e in
    record {
      inputs = distinct_left is (without is cs ++ (ls ++ ts)) e;
      rest_once = distinct_right (without is cs) (ls ++ ts) f;
      no_input = λ w h. not_earlier is (without is cs ++ (ls ++ ts)) w e (has_right (without is cs) (ls ++ ts) w h);
      no_clock = λ w h. not_without is cs w (not_earlier (without is cs) (ls ++ ts) w f h) (not_earlier is (without is cs ++ (ls ++ ts)) w e (has_right (without is cs) (ls ++ ts) w h));
    }

-- the first lines
names_named : (kind : Kind) (ws : List (List ℕ)) (more : List Definition) → map name_of (map (defines kind) ws ++ more) ≡ ws ++ map name_of more
names_named kind [] more = refl
names_named kind (w ∷ ws) more = ap (λ (l : List (List ℕ)). w ∷ l) (names_named kind ws more)

no_name : (kind : Kind) (ws : List (List ℕ)) (more : List Definition) (w : List ℕ) → has_word ws w ≡ false → has_word (map name_of more) w ≡ false → has_word (map name_of (map (defines kind) ws ++ more)) w ≡ false
no_name kind ws more w a b = ap (λ (l : List (List ℕ)). has_word l w) (names_named kind ws more) ∙ (has_word-append ws (map name_of more) w ∙ or_from (has_word ws w) (has_word (map name_of more) w) a b)

abbrev head : Netlist → List Statement
head n = statement 3 kinds.Outputs n.frame.outputs ∷ statement 2 kinds.Inputs n.frame.inputs ∷ statement 1 kinds.Model (n.frame.model ∷ []) ∷ []

fine_clock : (n : Netlist) (cs : List (List ℕ)) → distinct cs ≡ true → IsFine (head n) (statement 4 kinds.Clock cs)
fine_clock n cs d = record { after = refl; first = refl; owned = refl; known = refl; named = refl; single = refl; row = refl; same = refl; size = refl; type = refl; init = refl; once = one_kind kinds.Clock (map (defines kinds.Inputs) n.frame.inputs ++ []) cs (λ w h. shared n.frame.inputs w) d }

fine_inputs : (model : List ℕ) (is : List (List ℕ)) → distinct is ≡ true → IsFine (statement 1 kinds.Model (model ∷ []) ∷ []) (statement 2 kinds.Inputs is)
fine_inputs model is d = record { after = refl; first = refl; owned = refl; known = refl; named = refl; single = refl; row = refl; same = refl; size = refl; type = refl; init = refl; once = one_kind kinds.Inputs [] is (λ w h. refl) d }

fine_outputs : (above : List Statement) (os : List (List ℕ)) → list_any (λ t. is_end t.kind) above ≡ false → IsFine above (statement 3 kinds.Outputs os)
fine_outputs above os e = record { after = e; first = refl; owned = refl; known = refl; named = refl; single = refl; row = refl; same = refl; size = refl; type = refl; init = refl; once = refl }

fine_model : (model : List ℕ) → IsFine [] (statement 1 kinds.Model (model ∷ []))
fine_model model = record { after = refl; first = refl; owned = refl; known = refl; named = refl; single = refl; row = refl; same = refl; size = refl; type = refl; init = refl; once = refl }

clocks_fine : (n : Netlist) (cs : List (List ℕ)) → list_all latch_fits n.frame.latches ≡ true → list_all table_fits n.tables ≡ true → distinct cs ≡ true → IsSplit n.frame.inputs cs (map latch_output n.frame.latches ++ map output_of n.tables)
    → first_fault_of_lines checks (head n) (numbered 4 (from_clocks cs n.frame.latches n.tables)) ≡ None
clocks_fine n [] h f d s =
    latches_fine n.frame.latches n.tables 4 (head n) h f s.rest_once
    (record { no_end = refl; new = λ w z. no_name kinds.Inputs n.frame.inputs [] w (s.no_input w z) refl })
clocks_fine n (c ∷ cs) h f d s =
    fine_first (head n) (statement 4 kinds.Clock (c ∷ cs)) (numbered 5 (from_latches n.frame.latches n.tables)) (fine_clock n (c ∷ cs) d)
    (latches_fine n.frame.latches n.tables 5 (statement 4 kinds.Clock (c ∷ cs) ∷ head n) h f s.rest_once
    (record {
      no_end = refl;
      new = λ w z. no_name kinds.Clock (c ∷ cs) (map (defines kinds.Inputs) n.frame.inputs ++ []) w (s.no_clock w z) (no_name kinds.Inputs n.frame.inputs [] w (s.no_input w z) refl);
    }))

-- no statement of a written netlist has a fault
pub no_fault : (n : Netlist) → IsWellFormed n → first_fault_of_lines checks [] (written n) ≡ None
no_fault n w =
    let s = split n.frame.inputs n.frame.clocks (map latch_output n.frame.latches) (map output_of n.tables) w.once.all in
    let rest : List Statement = numbered 4 (from_clocks n.frame.clocks n.frame.latches n.tables) in
    let model : Statement = statement 1 kinds.Model (n.frame.model ∷ []) in
    let inputs : Statement = statement 2 kinds.Inputs n.frame.inputs in
    let outputs : Statement = statement 3 kinds.Outputs n.frame.outputs in
    fine_first [] model (inputs ∷ outputs ∷ rest) (fine_model n.frame.model)
    (fine_first (model ∷ []) inputs (outputs ∷ rest) (fine_inputs n.frame.model n.frame.inputs s.inputs)
    (fine_first (inputs ∷ model ∷ []) outputs rest (fine_outputs (inputs ∷ model ∷ []) n.frame.outputs refl)
    (clocks_fine n n.frame.clocks w.latches w.tables w.once.clocks s)))
