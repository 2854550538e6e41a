-- What first faults are, by keyword and by rows.
use Rattle.std.proofs.Common.{◌≡◌, ℕ, suc, nat_lt, ◌||◌, ◌&&◌, not, Bool, true, false, if◌then◌else◌, List, [], ◌∷◌, length, map, flat_map, bytes_eq, refl, sym, ap, ap₂, ◌∙◌, subst, Option, Some, None, option_map, ◌+◌, ◌≤◌, arith}
use Rattle.std.specs.Option.{option_or}
use Rattle.std.specs.List.{list_any}
use Rattle.std.proofs.lemmas.Bool.{both_ways, cond-true}
use Rattle.syn_lex.specs.Lines.{is_nil}
use Rattle.syn_reader.specs.declared.Kind.{Kind}
use Rattle.syn_reader.specs.declared.Kind.TheVariants as kinds
use Rattle.syn_reader.specs.Faults.{Fault, AfterEnd, StrayRow, RowShape, MixedRows, LatchShape, LatchType, LatchInit, DefinedTwice}
use Rattle.syn_reader.specs.Statements.{Statement, is_row, is_end}
use Rattle.syn_reader.specs.Shapes.{last_word, all_but_last, is_row_of, output_word}
use Rattle.syn_reader.specs.Definitions.{Definition, definitions, names_defined, first_forbidden, forbids}
use Rattle.syn_reader.specs.LineFaults.{Check, checks, first_found, first_fault_of_lines, table_above, first_row, is_stray, is_misshaped, has_bad_type, has_bad_init}
use Rattle.syn_reader.specs.Heard.{statement, Begins, word_count}
use Rattle.syn_reader.proofs.Fine.{output_of_row}
use Rattle.syn_reader.specs.Marking.{by_kind, forbidden_by, also, first_twice}
use Rattle.syn_reader.specs.Keywords.{fault_where, latch_fault, line_fault}
use Rattle.syn_reader.specs.Rows.{below_rows, row_fault, rows_fault, is_mixed, output_with}
use Rattle.syn_netlist.proofs.Sets.{word_same}

skip : (b : Bool) (f : Fault) (rest : Option Fault) → b ≡ false → option_or (if b then Some f else None) rest ≡ rest
skip true f rest e = absurd (both_ways true e refl)
skip false f rest e = refl

or_nothing : (o : Option Fault) → option_or o None ≡ o
or_nothing None = refl
or_nothing (Some x) = refl

or_again : (a b c d : Option Fault) → option_or a (option_or b (option_or c d)) ≡ option_or (option_or a (option_or b c)) d
or_again None None c d = refl
or_again None (Some x) c d = refl
or_again (Some x) b c d = refl

-- The test says what the definitions forbid.
abbrev pub Forbids : List Definition → (Kind → List ℕ → Bool) → Type 0
Forbids before test = (kind : Kind) (word : List ℕ) → forbidden_by before kind word ≡ test kind word

forbidden_is : (before : List Definition) (test : Kind → List ℕ → Bool) (kind : Kind) (ws : List (List ℕ)) → Forbids before test → first_forbidden before (map (by_kind kind) ws) ≡ first_twice test kind ws
forbidden_is before test kind [] h = refl
forbidden_is before test kind (w ∷ ws) h = ap₂ (λ b o. if b then Some w else o) (h kind w) (forbidden_is (by_kind kind w ∷ before) (also kind w test) kind ws (λ k v. ap (λ b. forbids (by_kind kind w) (by_kind k v) || b) (h k v)))

twice_is : (above : List Statement) (test : Kind → List ℕ → Bool) (kind : Kind) (line : ℕ) (ws : List (List ℕ)) → Forbids (flat_map definitions above) test
    → option_or (option_map (DefinedTwice line) (first_forbidden (flat_map definitions above) (map (by_kind kind) ws))) None ≡ option_map (DefinedTwice line) (first_twice test kind ws)
twice_is above test kind line ws h = or_nothing _ ∙ ap (option_map (DefinedTwice line)) (forbidden_is (flat_map definitions above) test kind ws h)

-- A line below one without a fault, by its keyword.
pub found_inputs : (above : List Statement) (test : Kind → List ℕ → Bool) (line : ℕ) (words : List (List ℕ)) → list_any (λ t. is_end t.kind) above ≡ false → Forbids (flat_map definitions above) test
    → first_found checks above (statement line kinds.Inputs words) ≡ line_fault test kinds.Inputs line words
found_inputs above test line words e h = skip (list_any (λ t. is_end t.kind) above) (AfterEnd line) _ e ∙ twice_is above test kinds.Inputs line words h

pub found_clocks : (above : List Statement) (test : Kind → List ℕ → Bool) (line : ℕ) (words : List (List ℕ)) → list_any (λ t. is_end t.kind) above ≡ false → Forbids (flat_map definitions above) test
    → first_found checks above (statement line kinds.Clock words) ≡ line_fault test kinds.Clock line words
found_clocks above test line words e h = skip (list_any (λ t. is_end t.kind) above) (AfterEnd line) _ e ∙ twice_is above test kinds.Clock line words h

pub found_outputs : (above : List Statement) (test : Kind → List ℕ → Bool) (line : ℕ) (words : List (List ℕ)) → list_any (λ t. is_end t.kind) above ≡ false → Forbids (flat_map definitions above) test
    → first_found checks above (statement line kinds.Outputs words) ≡ line_fault test kinds.Outputs line words
found_outputs above test line words e h = skip (list_any (λ t. is_end t.kind) above) (AfterEnd line) _ e

pub found_names : (above : List Statement) (test : Kind → List ℕ → Bool) (line : ℕ) (words : List (List ℕ)) → list_any (λ t. is_end t.kind) above ≡ false → Forbids (flat_map definitions above) test
    → first_found checks above (statement line kinds.Names words) ≡ line_fault test kinds.Names line words
found_names above test line [] e h = skip (list_any (λ t. is_end t.kind) above) (AfterEnd line) _ e
found_names above test line (w ∷ ws) e h = skip (list_any (λ t. is_end t.kind) above) (AfterEnd line) _ e ∙ twice_is above test kinds.Names line (last_word (w ∷ ws) ∷ []) h

pub found_latch : (above : List Statement) (test : Kind → List ℕ → Bool) (line : ℕ) (words : List (List ℕ)) → list_any (λ t. is_end t.kind) above ≡ false → Forbids (flat_map definitions above) test
    → first_found checks above (statement line kinds.Latch words) ≡ line_fault test kinds.Latch line words
found_latch above test line words e h =
    skip (list_any (λ t. is_end t.kind) above) (AfterEnd line) _ e
    ∙ (or_again (fault_where (not (nat_lt 1 (length words) && nat_lt (length words) 6)) (LatchShape line)) (fault_where (has_bad_type words) (LatchType line)) (fault_where (has_bad_init words) (LatchInit line)) _
    ∙ ap (option_or (latch_fault line words)) (twice_is above test kinds.Latch line (names_defined kinds.Latch words) h))

pub found_end : (above : List Statement) (line : ℕ) (words : List (List ℕ)) → list_any (λ t. is_end t.kind) above ≡ false → first_found checks above (statement line kinds.End words) ≡ None
found_end above line words e = skip (list_any (λ t. is_end t.kind) above) (AfterEnd line) _ e

pub found_subckt : (above : List Statement) (line : ℕ) (words : List (List ℕ)) → list_any (λ t. is_end t.kind) above ≡ false → first_found checks above (statement line kinds.Subckt words) ≡ None
found_subckt above line words e = skip (list_any (λ t. is_end t.kind) above) (AfterEnd line) _ e

-- The rows above have this output, where there are some.
abbrev pub RowsAbove : Option Bool → List Statement → Type 0
RowsAbove None above = (v : List (List ℕ)) → first_row v above ≡ v
RowsAbove (Some on) above = (v : List (List ℕ)) → last_word (first_row v above) ≡ output_word on

mixed_is : (on : Option Bool) (above : List Statement) (words : List (List ℕ)) → RowsAbove on above → not (bytes_eq (last_word words) (last_word (first_row words above))) ≡ is_mixed on words
mixed_is None above words r = ap (λ v. not (bytes_eq (last_word words) (last_word v))) (r words) ∙ ap not (word_same (last_word words))
mixed_is (Some on) above words r = ap (λ v. not (bytes_eq (last_word words) v)) (r words)

found_row : (names : List (List ℕ)) (on : Option Bool) (above : List Statement) (line : ℕ) (words : List (List ℕ)) → table_above above ≡ Some names → list_any (λ t. is_end t.kind) above ≡ false → RowsAbove on above
    → first_found checks above (statement line kinds.Row words) ≡ row_fault (length (all_but_last names)) on (statement line kinds.Row words)
found_row names on above line words t e r =
    skip (list_any (λ t. is_end t.kind) above) (AfterEnd line) _ e
    ∙ (ap (λ o. option_or (fault_where (is_stray o) (StrayRow line)) (option_or (fault_where (is_misshaped o words) (RowShape line)) (option_or (fault_where (not (is_stray o) && not (bytes_eq (last_word words) (last_word (first_row words above)))) (MixedRows line)) None))) t
    ∙ ap (option_or (fault_where (not (is_row_of (length (all_but_last names)) words)) (RowShape line)))
    (or_nothing (fault_where (not (bytes_eq (last_word words) (last_word (first_row words above)))) (MixedRows line)) ∙ ap (λ b. fault_where b (MixedRows line)) (mixed_is on above words r)))

pub row_kind : (k : Kind) → is_row k ≡ true → k ≡ kinds.Row
row_kind kinds.Row h = refl
row_kind kinds.Unknown h = absurd (both_ways false refl h)
row_kind kinds.Model h = absurd (both_ways false refl h)
row_kind kinds.Inputs h = absurd (both_ways false refl h)
row_kind kinds.Outputs h = absurd (both_ways false refl h)
row_kind kinds.Clock h = absurd (both_ways false refl h)
row_kind kinds.Names h = absurd (both_ways false refl h)
row_kind kinds.Latch h = absurd (both_ways false refl h)
row_kind kinds.Subckt h = absurd (both_ways false refl h)
row_kind kinds.End h = absurd (both_ways false refl h)

found_any_row : (names : List (List ℕ)) (on : Option Bool) (above : List Statement) (s : Statement) → is_row s.kind ≡ true → table_above above ≡ Some names → list_any (λ t. is_end t.kind) above ≡ false → RowsAbove on above
    → first_found checks above s ≡ row_fault (length (all_but_last names)) on s
found_any_row names on above s k t e r =
    subst (λ j. first_found checks above (statement s.line j s.words) ≡ row_fault (length (all_but_last names)) on (statement s.line j s.words)) (sym (row_kind s.kind k)) (found_row names on above s.line s.words t e r)

shaped : (n : ℕ) (on : Option Bool) (s : Statement) → row_fault n on s ≡ None → is_row_of n s.words ≡ true
shaped n on s e = go (is_row_of n s.words) e
  where
    go : (b : Bool) → option_or (fault_where (not b) (RowShape s.line)) (fault_where (is_mixed on s.words) (MixedRows s.line)) ≡ None → b ≡ true
    go true z = refl
    go false z = absurd (let y : ◌≡◌ {A = Option Fault} (Some (RowShape s.line)) None = z in cc)

rows_above : (n : ℕ) (on : Option Bool) (above : List Statement) (s : Statement) → is_row s.kind ≡ true → is_row_of n s.words ≡ true → RowsAbove on above → RowsAbove (Some (output_with on s.words)) (s ∷ above)
rows_above n None above s k h r v = ap last_word (cond-true (is_row s.kind) (first_row s.words above) v k ∙ r s.words) ∙ output_of_row n s.words h
rows_above n (Some on) above s k h r v = ap last_word (cond-true (is_row s.kind) (first_row s.words above) v k) ∙ r s.words

-- The statements above, after the rows in front of these.
abbrev pub above_rows : List Statement → List Statement → List Statement
above_rows above [] = above
above_rows above (s ∷ ss) = if is_row s.kind then above_rows (s ∷ above) ss else above

-- The list of checks finds on rows what these find.
abbrev pub SameOnRows : List Check → Type 0
SameOnRows list = (above : List Statement) (s : Statement) → is_row s.kind ≡ true → first_found list above s ≡ first_found checks above s

pub rows_law_by : (list : List Check) → SameOnRows list → (names : List (List ℕ)) (on : Option Bool) (above ss : List Statement) → table_above above ≡ Some names → list_any (λ t. is_end t.kind) above ≡ false → RowsAbove on above
    → first_fault_of_lines list above ss ≡ option_or (rows_fault (length (all_but_last names)) on ss) (first_fault_of_lines list (above_rows above ss) (below_rows ss))
rows_law_by list same names on above [] t e r = refl
rows_law_by list same names on above (s ∷ ss) t e r =
    go (is_row s.kind) refl (λ k h. rows_law_by list same names (Some (output_with on s.words)) (s ∷ above) ss (cond-true (is_row s.kind) (table_above above) _ k ∙ t) (ap (λ j. is_end j || list_any (λ t. is_end t.kind) above) (row_kind s.kind k) ∙ e) (rows_above (length (all_but_last names)) on above s k h r))
  where
    n : ℕ
    n = length (all_but_last names)

    out : Option Bool
    out = Some (output_with on s.words)

    go : (b : Bool) → is_row s.kind ≡ b
        → (is_row s.kind ≡ true → is_row_of n s.words ≡ true → first_fault_of_lines list (s ∷ above) ss ≡ option_or (rows_fault n out ss) (first_fault_of_lines list (above_rows (s ∷ above) ss) (below_rows ss)))
        → option_or (first_found list above s) (first_fault_of_lines list (s ∷ above) ss)
        ≡ option_or (if b then option_or (row_fault n on s) (rows_fault n out ss) else None) (first_fault_of_lines list (if b then above_rows (s ∷ above) ss else above) (if b then below_rows ss else s ∷ ss))
    go false k ih = refl
    go true k ih = ap (λ o. option_or o (first_fault_of_lines list (s ∷ above) ss)) (same above s k ∙ found_any_row names on above s k t e r) ∙ row (row_fault n on s) refl
      where
        row : (o : Option Fault) → row_fault n on s ≡ o
            → option_or o (first_fault_of_lines list (s ∷ above) ss) ≡ option_or (option_or o (rows_fault n out ss)) (first_fault_of_lines list (above_rows (s ∷ above) ss) (below_rows ss))
        row None z = ih k (shaped n on s z)
        row (Some f) z = refl

-- Rows define nothing, and end nothing.
pub rows_end : (above ss : List Statement) → list_any (λ t. is_end t.kind) (above_rows above ss) ≡ list_any (λ t. is_end t.kind) above
rows_end above [] = refl
rows_end above (s ∷ ss) = go (is_row s.kind) refl (rows_end (s ∷ above) ss)
  where
    go : (b : Bool) → is_row s.kind ≡ b → list_any (λ t. is_end t.kind) (above_rows (s ∷ above) ss) ≡ list_any (λ t. is_end t.kind) (s ∷ above)
        → list_any (λ t. is_end t.kind) (if b then above_rows (s ∷ above) ss else above) ≡ list_any (λ t. is_end t.kind) above
    go false k ih = refl
    go true k ih = ih ∙ ap (λ j. is_end j || list_any (λ t. is_end t.kind) above) (row_kind s.kind k)

pub rows_definitions : (above ss : List Statement) → flat_map definitions (above_rows above ss) ≡ flat_map definitions above
rows_definitions above [] = refl
rows_definitions above (s ∷ ss) = go (is_row s.kind) refl (rows_definitions (s ∷ above) ss)
  where
    go : (b : Bool) → is_row s.kind ≡ b → flat_map definitions (above_rows (s ∷ above) ss) ≡ flat_map definitions (s ∷ above)
        → flat_map definitions (if b then above_rows (s ∷ above) ss else above) ≡ flat_map definitions above
    go false k ih = refl
    go true k ih = ih ∙ ap (λ j. flat_map definitions (statement s.line j s.words ∷ above)) (row_kind s.kind k)

pub rows_nil : (above ss : List Statement) → is_nil above ≡ false → is_nil (above_rows above ss) ≡ false
rows_nil above [] h = h
rows_nil above (s ∷ ss) h = go (is_row s.kind) (rows_nil (s ∷ above) ss refl)
  where
    go : (b : Bool) → is_nil (above_rows (s ∷ above) ss) ≡ false → is_nil (if b then above_rows (s ∷ above) ss else above) ≡ false
    go false ih = h
    go true ih = ih

pub rows_gone : (ss : List Statement) → Begins kinds.Row (below_rows ss) → ⊥
rows_gone [] b = b
rows_gone (s ∷ ss) b = go (is_row s.kind) refl (rows_gone ss) b
  where
    go : (t : Bool) → is_row s.kind ≡ t → (Begins kinds.Row (below_rows ss) → ⊥) → Begins kinds.Row (if t then below_rows ss else s ∷ ss) → ⊥
    go false k ih z = both_ways (is_row s.kind) k (ap is_row z)
    go true k ih z = ih z

pub rows_count : (ss : List Statement) → word_count (below_rows ss) ≤ word_count ss
rows_count [] = omega arith
rows_count (s ∷ ss) = go (is_row s.kind) (rows_count ss)
  where
    go : (b : Bool) → word_count (below_rows ss) ≤ word_count ss → word_count (if b then below_rows ss else s ∷ ss) ≤ length s.words + word_count ss
    go true h = omega arith
    go false h = omega arith

pub rows_length : (ss : List Statement) → length (below_rows ss) ≤ length ss
rows_length [] = omega arith
rows_length (s ∷ ss) = go (is_row s.kind) (rows_length ss)
  where
    go : (b : Bool) → length (below_rows ss) ≤ length ss → length (if b then below_rows ss else s ∷ ss) ≤ suc (length ss)
    go true h = omega arith
    go false h = omega arith
