-- What stays as names grow: numbers below the count stay below it and keep their words.
use Rattle.std.proofs.Common.{◌≡◌, ℕ, ◌<◌, ◌≤◌, ◌&&◌, not, nat_lt, Bool, true, List, [], ◌∷◌, ◌++◌, length, map, bytes_eq, Option, Some, None, refl, sym, ap, ap₂, ◌∙◌, inl, inr, arith, append_assoc, append-nil, length-append}
use Rattle.std.specs.List.{list_all}
use Rattle.std.proofs.lemmas.Bool.{and_parts, and_from, cases_Bool, cond-true, cond-false, ltb-true, lt-ltb}
use Rattle.std.proofs.lemmas.Grind.{common_steps}
use Rattle.syn_netlist.specs.declared.LatchKind.{LatchKind}
use Rattle.syn_netlist.specs.declared.Latch.{Latch}
use Rattle.syn_netlist.specs.declared.tables.Table.{Table}
use Rattle.syn_netlist.specs.Kept.{latch_in, latches_below, latch_numbers, control_number, no_nil_control, nil_word}
use Rattle.syn_netlist.specs.Numbers.{word_at, words_at, with_word, all_below, kind_at, Grows}
use Rattle.syn_netlist.specs.Tables.{table_in}
use Rattle.syn_netlist.specs.Words.{has_word}
use Rattle.syn_netlist.specs.Lists.{control_of}
use Rattle.syn_netlist.specs.Lists as lists

pub Grows-same : (names : List (List ℕ)) → Grows names names
Grows-same names = record { rest = []; is = sym (append-nil names) }

pub Grows-again : (a b c : List (List ℕ)) → Grows a b → Grows b c → Grows a c
Grows-again a b c g h = record {
  rest = g.rest ++ h.rest;
  is = h.is ∙ ap (λ (l : List (List ℕ)). l ++ h.rest) g.is ∙ append_assoc a g.rest h.rest;
}

pub Grows-with_word : (names : List (List ℕ)) (word : List ℕ) → Grows names (with_word names word)
Grows-with_word names word = elim (cases_Bool (has_word names word)) [
  | inl e ↦ record { rest = []; is = cond-true (has_word names word) names (names ++ word ∷ []) e ∙ sym (append-nil names) }
  | inr e ↦ record { rest = word ∷ []; is = cond-false (has_word names word) names (names ++ word ∷ []) e }
]

pub length-grows : (names more : List (List ℕ)) → Grows names more → length names ≤ length more
length-grows names more g = omega (arith, ap length g.is, length-append names g.rest)

pub word_at-grows : (names more : List (List ℕ)) (i : ℕ) → Grows names more → i < length names → word_at more i ≡ word_at names i
word_at-grows names more i g lt = ap (λ l. word_at l i) g.is ∙ before names g.rest i lt
  where
    before : (xs ys : List (List ℕ)) (i : ℕ) → i < length xs → word_at (xs ++ ys) i ≡ word_at xs i
    before xs ys i lt = grind (arith, common_steps)

below-more : (m n i : ℕ) → m ≤ n → nat_lt i m ≡ true → nat_lt i n ≡ true
below-more m n i le e = let lt : i < m = ltb-true i m e in lt-ltb i n (omega arith)

pub all_below-more : (m n : ℕ) (numbers : List ℕ) → m ≤ n → all_below m numbers ≡ true → all_below n numbers ≡ true
all_below-more m n [] le h = refl
all_below-more m n (i ∷ is) le h =
    let parts = and_parts (nat_lt i m) (all_below m is) h in
    and_from (nat_lt i n) (all_below n is) (below-more m n i le parts.0) (all_below-more m n is le parts.1)

pub words_at-grows : (names more : List (List ℕ)) (numbers : List ℕ) → Grows names more → all_below (length names) numbers ≡ true → words_at more numbers ≡ words_at names numbers
words_at-grows names more [] g h = refl
words_at-grows names more (i ∷ is) g h =
    let parts = and_parts (nat_lt i (length names)) (all_below (length names) is) h in
    ap₂ (λ (w : List ℕ) (ws : List (List ℕ)). w ∷ ws) (word_at-grows names more i g (ltb-true i (length names) parts.0)) (words_at-grows names more is g parts.1)

-- latches

kind_at-grows : (names more : List (List ℕ)) (kind : Option (LatchKind × Option ℕ)) → Grows names more → all_below (length names) (control_number kind) ≡ true → kind_at more kind ≡ kind_at names kind
kind_at-grows names more None g h = refl
kind_at-grows names more (Some (kind, None)) g h = refl
kind_at-grows names more (Some (kind, Some i)) g h =
    ap (λ (w : List ℕ). Some (kind, Some w)) (word_at-grows names more i g (ltb-true i (length names) (and_parts (nat_lt i (length names)) true h).0))

pub latch_in-grows : (names more : List (List ℕ)) (latch : Latch) → Grows names more → all_below (length names) (latch_numbers latch) ≡ true → latch_in more latch ≡ latch_in names latch
latch_in-grows names more latch g h =
    let n : ℕ = length names in
    let first = and_parts (nat_lt latch.feed n) (nat_lt latch.output n && all_below n (control_number latch.kind)) h in
    let second = and_parts (nat_lt latch.output n) (all_below n (control_number latch.kind)) first.1 in
    let feed = word_at-grows names more latch.feed g (ltb-true latch.feed n first.0) in
    let output = word_at-grows names more latch.output g (ltb-true latch.output n second.0) in
    let kind = kind_at-grows names more latch.kind g second.1 in
    ap₂ (λ (w : List ℕ) (p : List ℕ × Option (LatchKind × Option (List ℕ))). let l : lists.Latch = record { feed = w; output = p.0; kind = p.1; init = latch.init } in l) feed (ap₂ (λ (w : List ℕ) (k : Option (LatchKind × Option (List ℕ))). (w, k)) output kind)

pub latches_in-grows : (names more : List (List ℕ)) (latches : List Latch) → Grows names more → latches_below (length names) latches ≡ true → map (latch_in more) latches ≡ map (latch_in names) latches
latches_in-grows names more [] g h = refl
latches_in-grows names more (l ∷ ls) g h =
    let parts = and_parts (all_below (length names) (latch_numbers l)) (latches_below (length names) ls) h in
    ap₂ (λ (x : lists.Latch) (xs : List lists.Latch). x ∷ xs) (latch_in-grows names more l g parts.0) (latches_in-grows names more ls g parts.1)

pub latches_below-more : (m n : ℕ) (latches : List Latch) → m ≤ n → latches_below m latches ≡ true → latches_below n latches ≡ true
latches_below-more m n [] le h = refl
latches_below-more m n (l ∷ ls) le h =
    let parts = and_parts (all_below m (latch_numbers l)) (latches_below m ls) h in
    and_from (all_below n (latch_numbers l)) (latches_below n ls) (all_below-more m n (latch_numbers l) le parts.0) (latches_below-more m n ls le parts.1)

-- tables

pub table_in-grows : (names more : List (List ℕ)) (table : Table) → Grows names more → (nat_lt table.output (length names) && all_below (length names) table.inputs) ≡ true → table_in more table ≡ table_in names table
table_in-grows names more table g h =
    let parts = and_parts (nat_lt table.output (length names)) (all_below (length names) table.inputs) h in
    ap₂ (λ (ws : List (List ℕ)) (w : List ℕ). let t : lists.Table = record { inputs = ws; output = w; rows = table.rows; on = table.on } in t) (words_at-grows names more table.inputs g parts.1) (word_at-grows names more table.output g (ltb-true table.output (length names) parts.0))

-- the controls by their words

control_words : (names : List (List ℕ)) (kind : Option (LatchKind × Option ℕ)) → list_all (λ i. not (bytes_eq nil_word (word_at names i))) (control_number kind) ≡ list_all (λ w. not (bytes_eq nil_word w)) (control_of (kind_at names kind))
control_words names None = refl
control_words names (Some (kind, None)) = refl
control_words names (Some (kind, Some i)) = refl

-- no control is named `NIL`, said of the latches in words
pub no_nil_words : (names : List (List ℕ)) (latches : List Latch) → no_nil_control names latches ≡ list_all (λ latch. list_all (λ w. not (bytes_eq nil_word w)) (control_of latch.kind)) (map (latch_in names) latches)
no_nil_words names [] = refl
no_nil_words names (l ∷ ls) = ap₂ (λ (a b : Bool). a && b) (control_words names l.kind) (no_nil_words names ls)
