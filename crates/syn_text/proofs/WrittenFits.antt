-- The lines of a netlist that can be written fit, and their bytes are the netlist's.
use Rattle.std.proofs.Common.{◌≡◌, ℕ, zero, suc, ◌<◌, ◌==◌, ◌&&◌, ◌||◌, not, nat_lt, Bool, true, false, List, [], ◌∷◌, ◌++◌, length, map, flat_map, codes, bytes_eq, refl, sym, ap, ap₂, ◌∙◌, subst, Option, Some, None, inl, inr, arith, append_assoc}
use Rattle.std.specs.List.{list_all}
use Rattle.std.proofs.lemmas.Bool.Decides.{nat_tests}
use Rattle.std.proofs.lemmas.Bool.{and_parts, and_from, or_cases, eqb-true}
use Rattle.std.proofs.lemmas.List.Folds.{list_all-append}
use Rattle.syn_netlist.specs.Words.{is_word, is_word_byte}
use Rattle.syn_netlist.specs.Lists.{Latch, Table, Netlist, latch_reads, control_of}
use Rattle.syn_netlist.specs.declared.LatchKind.{LatchKind}
use Rattle.syn_netlist.specs.declared.LatchKind.TheVariants as types
use Rattle.syn_netlist.specs.Kept.{nil_word, is_row_character, row_fits, rows_fit, polarity_fits}
use Rattle.syn_netlist.specs.TextLines.{line}
use Rattle.syn_text.specs.Printed.{kind_word, kind_words, digit, latch_line, row_line, table_lines, clock_line, printed}
use Rattle.syn_reader.specs.declared.Kind.TheVariants as kinds
use Rattle.syn_reader.specs.Shapes.{output_word}
use Rattle.syn_text.specs.WellFormed.{latch_fits, table_fits, IsWellFormed}
use Rattle.syn_text.specs.Written.{Line, said, line_bytes, line_fits, latch_words, row_said, table_said, from_tables, from_latches, from_clocks, lines_of}

-- what a latch that fits has
pub record FitsLatch (l : Latch) : Type 0 where
  pub feed : is_word l.feed ≡ true
  pub output : is_word l.output ≡ true
  pub control : list_all is_word (control_of l.kind) ≡ true
  pub signal : list_all (λ w. not (bytes_eq nil_word w)) (control_of l.kind) ≡ true
  pub init : l.init < 4

pub latch_parts : (l : Latch) → latch_fits l ≡ true → FitsLatch l
latch_parts l h =
    let p = and_parts (is_word l.output && list_all is_word (latch_reads l) && list_all (λ w. not (bytes_eq nil_word w)) (control_of l.kind)) (nat_lt l.init 4) h in
    let q = and_parts (is_word l.output && list_all is_word (latch_reads l)) (list_all (λ w. not (bytes_eq nil_word w)) (control_of l.kind)) p.0 in
    let r = and_parts (is_word l.output) (list_all is_word (latch_reads l)) q.0 in
    let s = and_parts (is_word l.feed) (list_all is_word (control_of l.kind)) r.1 in
    record {
      feed = s.0;
      output = r.0;
      control = s.1;
      signal = q.1;
      init = (let t : nat_lt l.init 4 ≡ true = p.1 in grind (arith, nat_tests));
    }

-- what a table that fits has
pub record FitsTable (t : Table) : Type 0 where
  pub inputs : list_all is_word t.inputs ≡ true
  pub output : is_word t.output ≡ true
  pub rows : rows_fit (length t.inputs) t.rows ≡ true
  pub polarity : polarity_fits t.rows t.on ≡ true

pub table_parts : (t : Table) → table_fits t ≡ true → FitsTable t
table_parts t h =
    let p = and_parts (is_word t.output && list_all is_word t.inputs && rows_fit (length t.inputs) t.rows) (polarity_fits t.rows t.on) h in
    let q = and_parts (is_word t.output && list_all is_word t.inputs) (rows_fit (length t.inputs) t.rows) p.0 in
    let r = and_parts (is_word t.output) (list_all is_word t.inputs) q.0 in
    record { inputs = r.1; output = r.0; rows = q.1; polarity = p.1 }

-- the words of a latch
digit_word : (i : ℕ) → i < 4 → is_word (digit i) ≡ true
digit_word zero h = refl
digit_word (suc zero) h = refl
digit_word (suc (suc zero)) h = refl
digit_word (suc (suc (suc zero))) h = refl
digit_word (suc (suc (suc (suc n)))) h = absurd (omega arith)

kind_is_word : (k : LatchKind) → is_word (kind_word k) ≡ true
kind_is_word types.Fe = refl
kind_is_word types.Re = refl
kind_is_word types.Ah = refl
kind_is_word types.Al = refl
kind_is_word types.As = refl

kind_then : (kind : Option (LatchKind × Option (List ℕ))) (last : List ℕ) → list_all is_word (control_of kind) ≡ true → is_word last ≡ true → list_all is_word (kind_words kind ++ last ∷ []) ≡ true
kind_then None last c h = and_from (is_word last) true h refl
kind_then (Some (k, None)) last c h = and_from (is_word (kind_word k)) (list_all is_word (codes "NIL" ∷ last ∷ [])) (kind_is_word k) (and_from (is_word last) true h refl)
kind_then (Some (k, Some name)) last c h =
    and_from (is_word (kind_word k)) (list_all is_word (name ∷ last ∷ [])) (kind_is_word k)
    (and_from (is_word name) (list_all is_word (last ∷ [])) (and_parts (is_word name) true c).0 (and_from (is_word last) true h refl))

latch_line_fits : (l : Latch) → FitsLatch l → line_fits (said kinds.Latch (latch_words l)) ≡ true
latch_line_fits l f =
    and_from (list_all is_word (latch_words l)) true
    (and_from (is_word l.feed) (list_all is_word (l.output ∷ (kind_words l.kind ++ digit l.init ∷ []))) f.feed
    (and_from (is_word l.output) (list_all is_word (kind_words l.kind ++ digit l.init ∷ [])) f.output
    (kind_then l.kind (digit l.init) f.control (digit_word l.init f.init)))) refl

-- the words of a row
character : (c : ℕ) → is_row_character c ≡ true → (is_word_byte c ≡ true) × ((c == 46) ≡ false)
character c h = elim (or_cases ((c == 48) || (c == 49)) (c == 45) h) [
  | inl h1 ↦ elim (or_cases (c == 48) (c == 49) h1) [
    | inl e ↦ subst (λ n. (is_word_byte n ≡ true) × ((n == 46) ≡ false)) (sym (eqb-true c 48 e)) (refl, refl)
    | inr e ↦ subst (λ n. (is_word_byte n ≡ true) × ((n == 46) ≡ false)) (sym (eqb-true c 49 e)) (refl, refl)
  ]
  | inr e ↦ subst (λ n. (is_word_byte n ≡ true) × ((n == 46) ≡ false)) (sym (eqb-true c 45 e)) (refl, refl)
]

characters : (row : List ℕ) → list_all is_row_character row ≡ true → list_all is_word_byte row ≡ true
characters [] h = refl
characters (c ∷ cs) h = let p = and_parts (is_row_character c) (list_all is_row_character cs) h in and_from (is_word_byte c) (list_all is_word_byte cs) (character c p.0).0 (characters cs p.1)

row_line_fits : (inputs : List (List ℕ)) (on : Bool) (part : List ℕ) → row_fits (length inputs) part ≡ true → line_fits (row_said inputs on part) ≡ true
row_line_fits [] true part h = refl
row_line_fits [] false part h = refl
row_line_fits (i ∷ is) on [] h = absurd (let z = eqb-true 0 (suc (length is)) (and_parts (0 == suc (length is)) true h).0 in omega arith)
row_line_fits (i ∷ is) on (c ∷ cs) h =
    let p = and_parts (length (c ∷ cs) == length (i ∷ is)) (list_all is_row_character (c ∷ cs)) h in
    let q = and_parts (is_row_character c) (list_all is_row_character cs) p.1 in
    and_from (list_all is_word ((c ∷ cs) ∷ output_word on ∷ [])) (not (c == 46))
    (and_from (is_word (c ∷ cs)) (list_all is_word (output_word on ∷ [])) (characters (c ∷ cs) p.1) (output_fits on))
    (ap not (character c q.0).1)
  where
    output_fits : (b : Bool) → list_all is_word (output_word b ∷ []) ≡ true
    output_fits true = refl
    output_fits false = refl

rows_line_fit : (inputs : List (List ℕ)) (on : Bool) (rows : List (List ℕ)) → rows_fit (length inputs) rows ≡ true → list_all line_fits (map (row_said inputs on) rows) ≡ true
rows_line_fit inputs on [] h = refl
rows_line_fit inputs on (r ∷ rs) h =
    let p = and_parts (row_fits (length inputs) r) (rows_fit (length inputs) rs) h in
    and_from (line_fits (row_said inputs on r)) (list_all line_fits (map (row_said inputs on) rs)) (row_line_fits inputs on r p.0) (rows_line_fit inputs on rs p.1)

all_append : (xs ys : List Line) → list_all line_fits xs ≡ true → list_all line_fits ys ≡ true → list_all line_fits (xs ++ ys) ≡ true
all_append [] ys p q = q
all_append (x ∷ xs) ys p q = let r = and_parts (line_fits x) (list_all line_fits xs) p in and_from (line_fits x) (list_all line_fits (xs ++ ys)) r.0 (all_append xs ys r.1 q)

-- all lines
tables_fit : (ts : List Table) → list_all table_fits ts ≡ true → list_all line_fits (from_tables ts) ≡ true
tables_fit [] h = refl
tables_fit (t ∷ ts) h =
    let p = and_parts (table_fits t) (list_all table_fits ts) h in
    let f = table_parts t p.0 in
    all_append (table_said t) (from_tables ts)
    (and_from (line_fits (said kinds.Names (t.inputs ++ t.output ∷ []))) (list_all line_fits (map (row_said t.inputs t.on) t.rows))
    (and_from (list_all is_word (t.inputs ++ t.output ∷ [])) true
    (list_all-append is_word t.inputs (t.output ∷ []) ∙ and_from (list_all is_word t.inputs) (list_all is_word (t.output ∷ [])) f.inputs (and_from (is_word t.output) true f.output refl)) refl)
    (rows_line_fit t.inputs t.on t.rows f.rows))
    (tables_fit ts p.1)

latches_fit : (ls : List Latch) (ts : List Table) → list_all latch_fits ls ≡ true → list_all table_fits ts ≡ true → list_all line_fits (from_latches ls ts) ≡ true
latches_fit [] ts h k = tables_fit ts k
latches_fit (l ∷ ls) ts h k =
    let p = and_parts (latch_fits l) (list_all latch_fits ls) h in
    and_from (line_fits (said kinds.Latch (latch_words l))) (list_all line_fits (from_latches ls ts)) (latch_line_fits l (latch_parts l p.0)) (latches_fit ls ts p.1 k)

clocks_fit : (cs : List (List ℕ)) (ls : List Latch) (ts : List Table) → list_all is_word cs ≡ true → list_all latch_fits ls ≡ true → list_all table_fits ts ≡ true → list_all line_fits (from_clocks cs ls ts) ≡ true
clocks_fit [] ls ts c h k = latches_fit ls ts h k
clocks_fit (c ∷ cs) ls ts a h k = and_from (line_fits (said kinds.Clock (c ∷ cs))) (list_all line_fits (from_latches ls ts)) (and_from (list_all is_word (c ∷ cs)) true a refl) (latches_fit ls ts h k)

pub lines_fit : (n : Netlist) → IsWellFormed n → list_all line_fits (lines_of n) ≡ true
lines_fit n f =
    and_from (line_fits (said kinds.Model (n.frame.model ∷ []))) _ (and_from (list_all is_word (n.frame.model ∷ [])) true (and_from (is_word n.frame.model) true f.model refl) refl)
    (and_from (line_fits (said kinds.Inputs n.frame.inputs)) _ (and_from (list_all is_word n.frame.inputs) true f.inputs refl)
    (and_from (line_fits (said kinds.Outputs n.frame.outputs)) (list_all line_fits (from_clocks n.frame.clocks n.frame.latches n.tables)) (and_from (list_all is_word n.frame.outputs) true f.outputs refl)
    (clocks_fit n.frame.clocks n.frame.latches n.tables f.clocks f.latches f.tables)))

-- their bytes
bytes_append : (xs ys : List Line) → flat_map line_bytes (xs ++ ys) ≡ flat_map line_bytes xs ++ flat_map line_bytes ys
bytes_append [] ys = refl
bytes_append (x ∷ xs) ys = ap (λ (l : List ℕ). line_bytes x ++ l) (bytes_append xs ys) ∙ sym (append_assoc (line_bytes x) (flat_map line_bytes xs) (flat_map line_bytes ys))

row_bytes : (inputs : List (List ℕ)) (on : Bool) (part : List ℕ) → row_fits (length inputs) part ≡ true → line_bytes (row_said inputs on part) ≡ row_line on part
row_bytes [] on [] h = refl
row_bytes [] on (c ∷ cs) h = absurd (let z = eqb-true (suc (length cs)) 0 (and_parts (suc (length cs) == 0) (list_all is_row_character (c ∷ cs)) h).0 in omega arith)
row_bytes (i ∷ is) on [] h = absurd (let z = eqb-true 0 (suc (length is)) (and_parts (0 == suc (length is)) true h).0 in omega arith)
row_bytes (i ∷ is) on (c ∷ cs) h = refl

rows_bytes : (inputs : List (List ℕ)) (on : Bool) (rows : List (List ℕ)) → rows_fit (length inputs) rows ≡ true → flat_map line_bytes (map (row_said inputs on) rows) ≡ flat_map (row_line on) rows
rows_bytes inputs on [] h = refl
rows_bytes inputs on (r ∷ rs) h =
    let p = and_parts (row_fits (length inputs) r) (rows_fit (length inputs) rs) h in
    ap₂ (λ (x : List ℕ) (y : List ℕ). x ++ y) (row_bytes inputs on r p.0) (rows_bytes inputs on rs p.1)

tables_bytes : (ts : List Table) → list_all table_fits ts ≡ true → flat_map line_bytes (from_tables ts) ≡ flat_map table_lines ts ++ line (codes ".end") []
tables_bytes [] h = refl
tables_bytes (t ∷ ts) h =
    let p = and_parts (table_fits t) (list_all table_fits ts) h in
    bytes_append (table_said t) (from_tables ts)
    ∙ (ap₂ (λ (x : List ℕ) (y : List ℕ). x ++ y)
    (ap (λ (x : List ℕ). line (codes ".names") (t.inputs ++ t.output ∷ []) ++ x) (rows_bytes t.inputs t.on t.rows (table_parts t p.0).rows))
    (tables_bytes ts p.1)
    ∙ sym (append_assoc (table_lines t) (flat_map table_lines ts) (line (codes ".end") [])))

latches_bytes : (ls : List Latch) (ts : List Table) → flat_map line_bytes (from_latches ls ts) ≡ flat_map latch_line ls ++ flat_map line_bytes (from_tables ts)
latches_bytes [] ts = refl
latches_bytes (l ∷ ls) ts = ap (λ (x : List ℕ). latch_line l ++ x) (latches_bytes ls ts) ∙ sym (append_assoc (latch_line l) (flat_map latch_line ls) (flat_map line_bytes (from_tables ts)))

clocks_bytes : (cs : List (List ℕ)) (ls : List Latch) (ts : List Table) → flat_map line_bytes (from_clocks cs ls ts) ≡ clock_line cs ++ flat_map line_bytes (from_latches ls ts)
clocks_bytes [] ls ts = refl
clocks_bytes (c ∷ cs) ls ts = refl

regroup : (a b c d e f : List ℕ) → a ++ (b ++ (c ++ (d ++ (e ++ f)))) ≡ (a ++ (b ++ (c ++ (d ++ e)))) ++ f
regroup a b c d e f = simp append_assoc

pub lines_bytes : (n : Netlist) → IsWellFormed n → flat_map line_bytes (lines_of n) ≡ printed n
lines_bytes n f =
    let m : List ℕ = line (codes ".model") (n.frame.model ∷ []) in
    let i : List ℕ = line (codes ".inputs") n.frame.inputs in
    let o : List ℕ = line (codes ".outputs") n.frame.outputs in
    ap (λ (x : List ℕ). m ++ (i ++ (o ++ x)))
    (clocks_bytes n.frame.clocks n.frame.latches n.tables
    ∙ ap (λ (x : List ℕ). clock_line n.frame.clocks ++ x) (latches_bytes n.frame.latches n.tables ∙ ap (λ (x : List ℕ). flat_map latch_line n.frame.latches ++ x) (tables_bytes n.tables f.tables)))
    ∙ regroup m i o (clock_line n.frame.clocks) (flat_map latch_line n.frame.latches) (flat_map table_lines n.tables ++ line (codes ".end") [])
