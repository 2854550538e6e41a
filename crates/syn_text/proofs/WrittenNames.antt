-- The names that the statements of a written netlist define and read.
use Rattle.std.proofs.Common.{◌≡◌, ℕ, suc, ◌||◌, not, Bool, true, false, if◌then◌else◌, List, [], ◌∷◌, ◌++◌, map, flat_map, find, bytes_eq, refl, sym, ap, ap₂, ◌∙◌, ◌⊎◌, Option, Some, None, inl, inr, append_assoc}
use Rattle.std.specs.List.{list_all}
use Rattle.std.proofs.lemmas.Bool.{both_ways, cond-true, and_parts, or_cases, or_from, not-true, not_from_false, false_from_ne_true}
use Rattle.syn_netlist.specs.Words.{has_word, without}
use Rattle.syn_netlist.specs.Lists.{Latch, Table, Netlist, output_of, latch_output, latch_reads, control_of}
use Rattle.syn_netlist.specs.declared.LatchKind.{LatchKind}
use Rattle.syn_netlist.specs.Order.{defined}
use Rattle.syn_netlist.specs.Faults.{inputs_of, reads as netlist_reads, first_undriven as netlist_undriven}
use Rattle.syn_netlist.specs.Kept.{nil_word}
use Rattle.syn_netlist.proofs.Sets.{has_word-append, has_tail, has_left, has_right}
use Rattle.syn_reader.specs.declared.Kind.{Kind}
use Rattle.syn_reader.specs.declared.Kind.TheVariants as kinds
use Rattle.syn_reader.specs.Statements.{Statement}
use Rattle.syn_reader.specs.Definitions.{Definition, name_of, definitions, reads, first_undriven}
use Rattle.syn_reader.proofs.Words.{all_but_snoc, last_snoc}
use Rattle.syn_text.specs.WellFormed.{latch_fits, IsWellFormed}
use Rattle.syn_text.specs.Written.{latch_words, row_said, from_tables, from_latches, from_clocks, numbered, written}
use Rattle.syn_text.proofs.WrittenFits.{latch_parts}

abbrev pub defines : Kind → List ℕ → Definition
defines kind name = record { by = kind; name = name }

abbrev pub statement : ℕ → Kind → List (List ℕ) → Statement
statement k kind words = record { line = k; kind = kind; words = words }

-- the names that statements define
abbrev pub names_in : List Statement → List (List ℕ)
names_in ss = map name_of (flat_map definitions ss)

named : (kind : Kind) (names : List (List ℕ)) (more : List Definition) → map name_of (map (defines kind) names ++ more) ≡ names ++ map name_of more
named kind [] more = refl
named kind (w ∷ ws) more = ap (λ (l : List (List ℕ)). w ∷ l) (named kind ws more)

pub table_defines : (is : List (List ℕ)) (o : List ℕ) (k : ℕ) → definitions (statement k kinds.Names (is ++ o ∷ [])) ≡ defines kinds.Names o ∷ []
table_defines [] o k = refl
table_defines (i ∷ is) o k = ap (λ (w : List ℕ). defines kinds.Names w ∷ []) (last_snoc (i ∷ is) o)

rows_name : (is : List (List ℕ)) (on : Bool) (rows : List (List ℕ)) (ts : List Table) (k : ℕ) → ((j : ℕ) → names_in (numbered j (from_tables ts)) ≡ map output_of ts) → names_in (numbered k (map (row_said is on) rows ++ from_tables ts)) ≡ map output_of ts
rows_name is on [] ts k h = h k
rows_name is on (r ∷ rs) ts k h = rows_name is on rs ts (suc k) h

tables_name : (ts : List Table) (k : ℕ) → names_in (numbered k (from_tables ts)) ≡ map output_of ts
tables_name [] k = refl
tables_name (t ∷ ts) k =
    ap (λ (ds : List Definition). map name_of (ds ++ flat_map definitions (numbered (suc k) (map (row_said t.inputs t.on) t.rows ++ from_tables ts)))) (table_defines t.inputs t.output k)
    ∙ ap (λ (l : List (List ℕ)). t.output ∷ l) (rows_name t.inputs t.on t.rows ts (suc k) (λ j. tables_name ts j))

latches_name : (ls : List Latch) (ts : List Table) (k : ℕ) → names_in (numbered k (from_latches ls ts)) ≡ map latch_output ls ++ map output_of ts
latches_name [] ts k = tables_name ts k
latches_name (l ∷ ls) ts k = ap (λ (x : List (List ℕ)). l.output ∷ x) (latches_name ls ts (suc k))

clocks_name : (cs : List (List ℕ)) (ls : List Latch) (ts : List Table) (k : ℕ) → names_in (numbered k (from_clocks cs ls ts)) ≡ cs ++ (map latch_output ls ++ map output_of ts)
clocks_name [] ls ts k = latches_name ls ts k
clocks_name (c ∷ cs) ls ts k = named kinds.Clock (c ∷ cs) (flat_map definitions (numbered (suc k) (from_latches ls ts))) ∙ ap (λ (x : List (List ℕ)). (c ∷ cs) ++ x) (latches_name ls ts (suc k))

written_name : (n : Netlist) → names_in (written n) ≡ n.frame.inputs ++ (n.frame.clocks ++ (map latch_output n.frame.latches ++ map output_of n.tables))
written_name n =
    named kinds.Inputs n.frame.inputs (flat_map definitions (numbered 4 (from_clocks n.frame.clocks n.frame.latches n.tables)))
    ∙ ap (λ (x : List (List ℕ)). n.frame.inputs ++ x) (clocks_name n.frame.clocks n.frame.latches n.tables 4)

-- the names that statements read
rows_read : (is : List (List ℕ)) (on : Bool) (rows : List (List ℕ)) (ts : List Table) (k : ℕ) → ((j : ℕ) → flat_map reads (numbered j (from_tables ts)) ≡ flat_map inputs_of ts) → flat_map reads (numbered k (map (row_said is on) rows ++ from_tables ts)) ≡ flat_map inputs_of ts
rows_read is on [] ts k h = h k
rows_read is on (r ∷ rs) ts k h = rows_read is on rs ts (suc k) h

tables_read : (ts : List Table) (k : ℕ) → flat_map reads (numbered k (from_tables ts)) ≡ flat_map inputs_of ts
tables_read [] k = refl
tables_read (t ∷ ts) k =
    ap₂ (λ (x : List (List ℕ)) (y : List (List ℕ)). x ++ y) (all_but_snoc t.inputs t.output)
    (rows_read t.inputs t.on t.rows ts (suc k) (λ j. tables_read ts j))

latch_reads_are : (feed output last : List ℕ) (kind : Option (LatchKind × Option (List ℕ))) (init k : ℕ) → list_all (λ w. not (bytes_eq nil_word w)) (control_of kind) ≡ true
    → reads (statement k kinds.Latch (latch_words (record { feed = feed; output = output; kind = kind; init = init }))) ≡ feed ∷ control_of kind
latch_reads_are feed output last None init k h = refl
latch_reads_are feed output last (Some (kind, None)) init k h = refl
latch_reads_are feed output last (Some (kind, Some name)) init k h =
    let p = and_parts (not (bytes_eq nil_word name)) true h in
    ap (λ (l : List (List ℕ)). feed ∷ l) (cond-true (not (bytes_eq nil_word name || false)) (name ∷ []) [] (not_from_false (bytes_eq nil_word name || false) (or_from (bytes_eq nil_word name) false (not-true (bytes_eq nil_word name) p.0) refl)))

latches_read : (ls : List Latch) (ts : List Table) (k : ℕ) → list_all latch_fits ls ≡ true → flat_map reads (numbered k (from_latches ls ts)) ≡ flat_map latch_reads ls ++ flat_map inputs_of ts
latches_read [] ts k h = tables_read ts k
latches_read (l ∷ ls) ts k h =
    let p = and_parts (latch_fits l) (list_all latch_fits ls) h in
    ap₂ (λ (x : List (List ℕ)) (y : List (List ℕ)). x ++ y) (latch_reads_are l.feed l.output [] l.kind l.init k (latch_parts l p.0).signal) (latches_read ls ts (suc k) p.1)
    ∙ sym (append_assoc (latch_reads l) (flat_map latch_reads ls) (flat_map inputs_of ts))

clocks_read : (cs : List (List ℕ)) (ls : List Latch) (ts : List Table) (k : ℕ) → list_all latch_fits ls ≡ true → flat_map reads (numbered k (from_clocks cs ls ts)) ≡ flat_map latch_reads ls ++ flat_map inputs_of ts
clocks_read [] ls ts k h = latches_read ls ts k h
clocks_read (c ∷ cs) ls ts k h = latches_read ls ts (suc k) h

written_read : (n : Netlist) → IsWellFormed n → flat_map reads (written n) ≡ netlist_reads n
written_read n w = ap (λ (x : List (List ℕ)). n.frame.outputs ++ x) (clocks_read n.frame.clocks n.frame.latches n.tables 4 w.latches)

-- each name that the netlist defines is defined by a statement
has_cases : (xs ys : List (List ℕ)) (w : List ℕ) → has_word (xs ++ ys) w ≡ true → (has_word xs w ≡ true) ⊎ (has_word ys w ≡ true)
has_cases xs ys w h = or_cases (has_word xs w) (has_word ys w) (sym (has_word-append xs ys w) ∙ h)

has_of_without : (others ws : List (List ℕ)) (w : List ℕ) → has_word (without others ws) w ≡ true → has_word ws w ≡ true
has_of_without others [] w h = h
has_of_without others (x ∷ xs) w h = go (not (has_word others x)) h (has_of_without others xs w)
  where
    go : (t : Bool) → has_word (if t then x ∷ without others xs else without others xs) w ≡ true → (has_word (without others xs) w ≡ true → has_word xs w ≡ true) → (bytes_eq x w || has_word xs w) ≡ true
    go true h ih = elim (or_cases (bytes_eq x w) (has_word (without others xs) w) h) [ inl e ↦ ap (λ b. b || has_word xs w) e | inr r ↦ has_tail x w xs (ih r) ]
    go false h ih = has_tail x w xs (ih h)

all_defined : (is cs ls ts : List (List ℕ)) (w : List ℕ) → has_word ((is ++ (without is cs ++ ls)) ++ ts) w ≡ true → has_word (is ++ (cs ++ (ls ++ ts))) w ≡ true
all_defined is cs ls ts w h = elim (has_cases (is ++ (without is cs ++ ls)) ts w h) [
  | inl s ↦ elim (has_cases is (without is cs ++ ls) w s) [
    | inl i ↦ has_left is (cs ++ (ls ++ ts)) w i
    | inr r ↦ elim (has_cases (without is cs) ls w r) [
      | inl c ↦ has_right is (cs ++ (ls ++ ts)) w (has_left cs (ls ++ ts) w (has_of_without is cs w c))
      | inr l ↦ has_right is (cs ++ (ls ++ ts)) w (has_right cs (ls ++ ts) w (has_left ls ts w l))
    ]
  ]
  | inr t ↦ has_right is (cs ++ (ls ++ ts)) w (has_right cs (ls ++ ts) w (has_right ls ts w t))
]

find_less : (p q : List ℕ → Bool) (ws : List (List ℕ)) → ((w : List ℕ) → q w ≡ true → p w ≡ true) → find p ws ≡ None → find q ws ≡ None
find_less p q [] h e = refl
find_less p q (w ∷ ws) h e = go (p w) (q w) refl refl e (find_less p q ws h)
  where
    go : (s t : Bool) → p w ≡ s → q w ≡ t → (if s then Some w else find p ws) ≡ None → (find p ws ≡ None → find q ws ≡ None) → (if t then Some w else find q ws) ≡ None
    go true t a b e ih = absurd (let z : ◌≡◌ {A = Option (List ℕ)} (Some w) None = e in cc)
    go false true a b e ih = absurd (both_ways (p w) a (h w b))
    go false false a b e ih = ih e

-- no statement reads a name that none defines
pub all_driven : (n : Netlist) → IsWellFormed n → netlist_undriven n ≡ None → first_undriven (written n) ≡ None
all_driven n w e =
    ap (find (λ name. not (has_word (names_in (written n)) name))) (written_read n w)
    ∙ find_less (λ name. not (has_word (defined n) name)) (λ name. not (has_word (names_in (written n)) name)) (netlist_reads n)
    (λ name u. not_from_false (has_word (defined n) name) (false_from_ne_true (has_word (defined n) name) (λ d.
    both_ways (has_word (names_in (written n)) name) (not-true (has_word (names_in (written n)) name) u)
    (ap (λ (l : List (List ℕ)). has_word l name) (written_name n) ∙ all_defined n.frame.inputs n.frame.clocks (map latch_output n.frame.latches) (map output_of n.tables) name d))))
    e
