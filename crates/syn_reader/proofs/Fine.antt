-- What it means that a statement has no fault.
use Rattle.std.proofs.Common.{◌≡◌, ℕ, zero, suc, ◌&&◌, ◌||◌, not, Bool, true, false, if◌then◌else◌, List, [], ◌∷◌, length, bytes_eq, codes, refl, sym, ap, ◌∙◌, subst, inl, inr, Option, Some, None, option_map, option_and_then}
use Rattle.std.specs.Option.{option_or}
use Rattle.std.proofs.lemmas.Bool.{both_ways, cond-true, cond-false, and_parts, and_from, or_cases, not-false}
use Rattle.syn_netlist.specs.Words.{has_word}
use Rattle.syn_reader.specs.Faults.{Fault, DefinedTwice}
use Rattle.syn_reader.specs.Statements.{Statement, is_row, is_names, rows_below}
use Rattle.syn_reader.specs.Shapes.{last_word, all_but_last, is_row_of, is_output, is_input_part, output_word, initial_values}
use Rattle.syn_reader.specs.LineFaults.{checks, first_found, first_fault_of_lines, after_end, unknown_keyword, second_model, no_name, extra_word, stray_row, table_above, first_row, is_misshaped, is_stray, row_shape, mixed_rows, latch_shape, latch_type, latch_init, defined_twice}
use Rattle.syn_reader.specs.Computed.{row_part, row_parts, is_on, init_of}
use Rattle.syn_netlist.proofs.Sets.{same_word, word_same}

pub or_none : {A : Type 0} (a b : Option A) → option_or a b ≡ None → (a ≡ None) × (b ≡ None)
or_none None b e = (refl, e)
or_none (Some x) b e = absurd (cc)

no_test : (b : Bool) (x : Fault) → (if b then Some x else None) ≡ None → b ≡ false
no_test true x e = absurd (let z : ◌≡◌ {A = Option Fault} (Some x) None = e in cc)
no_test false x e = refl

pub no_name_found : {A : Type 0} (f : List ℕ → A) (o : Option (List ℕ)) → option_map f o ≡ None → o ≡ None
no_name_found f None e = refl
no_name_found f (Some x) e = absurd (cc)

-- the tests that find nothing
pub record IsFine (above : List Statement) (s : Statement) : Type 0 where
  pub after : after_end above s ≡ false
  pub first : second_model above s ≡ false
  pub owned : stray_row above s ≡ false
  pub known : unknown_keyword above s ≡ false
  pub named : no_name above s ≡ false
  pub single : extra_word above s ≡ false
  pub row : row_shape above s ≡ false
  pub same : mixed_rows above s ≡ false
  pub size : latch_shape above s ≡ false
  pub type : latch_type above s ≡ false
  pub init : latch_init above s ≡ false
  pub once : defined_twice above s ≡ None

fine : (above : List Statement) (s : Statement) → first_found checks above s ≡ None → IsFine above s
fine above s e =
    let e1 = or_none _ _ e in
    let e2 = or_none _ _ e1.1 in
    let e3 = or_none _ _ e2.1 in
    let e4 = or_none _ _ e3.1 in
    let e5 = or_none _ _ e4.1 in
    let e6 = or_none _ _ e5.1 in
    let e7 = or_none _ _ e6.1 in
    let e8 = or_none _ _ e7.1 in
    let e9 = or_none _ _ e8.1 in
    let e10 = or_none _ _ e9.1 in
    let e11 = or_none _ _ e10.1 in
    let e12 = or_none _ _ e11.1 in
    record {
      after = no_test _ _ e1.0;
      first = no_test _ _ e3.0;
      owned = no_test _ _ e6.0;
      known = no_test _ _ e2.0;
      named = no_test _ _ e4.0;
      single = no_test _ _ e5.0;
      row = no_test _ _ e7.0;
      same = no_test _ _ e8.0;
      size = no_test _ _ e9.0;
      type = no_test _ _ e10.0;
      init = no_test _ _ e11.0;
      once = no_name_found (DefinedTwice s.line) (defined_twice above s) e12.0;
    }

-- and the other way round
pub none_from : {A : Type 0} (a b : Option A) → a ≡ None → b ≡ None → option_or a b ≡ None
none_from None b e f = f
none_from (Some x) b e f = absurd (cc)

unfound : (b : Bool) (x : Fault) → b ≡ false → (if b then Some x else None) ≡ None
unfound true x e = absurd (both_ways true e refl)
unfound false x e = refl

unnamed : {A : Type 0} (f : List ℕ → A) (o : Option (List ℕ)) → o ≡ None → option_map f o ≡ None
unnamed f None e = refl
unnamed f (Some x) e = absurd (cc)

pub fine_again : (above : List Statement) (s : Statement) → IsFine above s → first_found checks above s ≡ None
fine_again above s f =
    none_from _ _ (unfound (after_end above s) _ f.after)
    (none_from _ _ (unfound (unknown_keyword above s) _ f.known)
    (none_from _ _ (unfound (second_model above s) _ f.first)
    (none_from _ _ (unfound (no_name above s) _ f.named)
    (none_from _ _ (unfound (extra_word above s) _ f.single)
    (none_from _ _ (unfound (stray_row above s) _ f.owned)
    (none_from _ _ (unfound (row_shape above s) _ f.row)
    (none_from _ _ (unfound (mixed_rows above s) _ f.same)
    (none_from _ _ (unfound (latch_shape above s) _ f.size)
    (none_from _ _ (unfound (latch_type above s) _ f.type)
    (none_from _ _ (unfound (latch_init above s) _ f.init)
    (none_from _ _ (unnamed (DefinedTwice s.line) (defined_twice above s) f.once) refl)))))))))))

pub fine_first : (above : List Statement) (s : Statement) (ss : List Statement) → IsFine above s → first_fault_of_lines checks (s ∷ above) ss ≡ None → first_fault_of_lines checks above (s ∷ ss) ≡ None
fine_first above s ss f e = none_from (first_found checks above s) (first_fault_of_lines checks (s ∷ above) ss) (fine_again above s f) e

pub parts_of : (above : List Statement) (s : Statement) (ss : List Statement) → first_fault_of_lines checks above (s ∷ ss) ≡ None → IsFine above s × (first_fault_of_lines checks (s ∷ above) ss ≡ None)
parts_of above s ss e = let p = or_none _ _ e in (fine above s p.0, p.1)

-- rows
row_part_some : (n : ℕ) (on : Bool) (words : List (List ℕ)) → is_row_of n words ≡ true → last_word words ≡ output_word on → (p : List ℕ) × (row_part n on words ≡ Some p)
row_part_some zero on [] h l = absurd (both_ways false refl h)
row_part_some zero on (o ∷ []) h l = ([], cond-true (bytes_eq o (output_word on)) (Some []) None (ap (λ w. bytes_eq w (output_word on)) l ∙ word_same (output_word on)))
row_part_some zero on (o ∷ p ∷ ps) h l = absurd (both_ways false refl h)
row_part_some (suc n) on [] h l = absurd (both_ways false refl h)
row_part_some (suc n) on (p ∷ []) h l = absurd (both_ways false refl h)
row_part_some (suc n) on (p ∷ o ∷ []) h l = (
  p,
  cond-true (is_input_part (suc n) p && bytes_eq o (output_word on)) (Some p) None
      (and_from (is_input_part (suc n) p) (bytes_eq o (output_word on)) (and_parts (is_input_part (suc n) p) (is_output o) h).0 (ap (λ w. bytes_eq w (output_word on)) l ∙ word_same (output_word on))),
)
row_part_some (suc n) on (p ∷ o ∷ q ∷ qs) h l = absurd (both_ways false refl h)

output_back : (w : List ℕ) → is_output w ≡ true → w ≡ output_word (bytes_eq w (output_word true))
output_back w h = elim (or_cases (bytes_eq (codes "0") w) (bytes_eq (codes "1") w || false) h) [
  | inl e ↦ subst (λ v. v ≡ output_word (bytes_eq v (output_word true))) (same_word (codes "0") w e) refl
  | inr t ↦ elim (or_cases (bytes_eq (codes "1") w) false t) [
    | inl e ↦ subst (λ v. v ≡ output_word (bytes_eq v (output_word true))) (same_word (codes "1") w e) refl
    | inr z ↦ absurd (both_ways false refl z)
  ]
]

pub output_of_row : (n : ℕ) (words : List (List ℕ)) → is_row_of n words ≡ true → last_word words ≡ output_word (bytes_eq (last_word words) (output_word true))
output_of_row zero [] h = absurd (both_ways false refl h)
output_of_row zero (o ∷ []) h = output_back o h
output_of_row zero (o ∷ p ∷ ps) h = absurd (both_ways false refl h)
output_of_row (suc n) [] h = absurd (both_ways false refl h)
output_of_row (suc n) (p ∷ []) h = absurd (both_ways false refl h)
output_of_row (suc n) (p ∷ o ∷ []) h = output_back o (and_parts (is_input_part (suc n) p) (is_output o) h).1
output_of_row (suc n) (p ∷ o ∷ q ∷ qs) h = absurd (both_ways false refl h)

-- a row of a table that has no fault
fits_table : (above : List Statement) (s : Statement) (names : List (List ℕ)) → IsFine above s → is_row s.kind ≡ true → table_above above ≡ Some names
    → (is_row_of (length (all_but_last names)) s.words ≡ true) × (last_word s.words ≡ last_word (first_row s.words above))
fits_table above s names f r t = (
  not-false (is_row_of (length (all_but_last names)) s.words) (subst (λ o. is_misshaped o s.words ≡ false) t (second (is_row s.kind) (is_misshaped (table_above above) s.words) r f.row)),
  same_word (last_word s.words) (last_word (first_row s.words above)) (not-false (bytes_eq (last_word s.words) (last_word (first_row s.words above)))
      (second (is_row s.kind && not (is_stray (table_above above))) (not (bytes_eq (last_word s.words) (last_word (first_row s.words above))))
      (and_from (is_row s.kind) (not (is_stray (table_above above))) r (subst (λ o. not (is_stray o) ≡ true) (sym t) refl)) f.same)),
)
  where
    second : (a b : Bool) → a ≡ true → (a && b) ≡ false → b ≡ false
    second true b h e = e
    second false b h e = absurd (both_ways false refl h)

some_parts : (n : ℕ) (on : Bool) (row : List (List ℕ)) (rows : List (List (List ℕ))) → ((p : List ℕ) × (row_part n on row ≡ Some p)) → ((ps : List (List ℕ)) × (row_parts n on rows ≡ Some ps))
    → (ps : List (List ℕ)) × (row_parts n on (row ∷ rows) ≡ Some ps)
some_parts n on row rows p ps =
    (p.0 ∷ ps.0, ap (option_and_then (λ q. option_map (λ qs. q ∷ qs) (row_parts n on rows))) p.1 ∙ ap (option_map (λ qs. p.0 ∷ qs)) ps.1)

rest_fit : (names first : List (List ℕ)) (on : Bool) (above ss : List Statement) → table_above above ≡ Some names → ((v : List (List ℕ)) → first_row v above ≡ first) → last_word first ≡ output_word on
    → first_fault_of_lines checks above ss ≡ None → (ps : List (List ℕ)) × (row_parts (length (all_but_last names)) on (rows_below ss) ≡ Some ps)
rest_fit names first on above [] t f o e = ([], refl)
rest_fit names first on above (s ∷ ss) t f o e =
    go (is_row s.kind) refl (λ r. rest_fit names first on (s ∷ above) ss (cond-true (is_row s.kind) _ _ r ∙ t) (λ v. cond-true (is_row s.kind) _ _ r ∙ f s.words) o (parts_of above s ss e).1)
  where
    go : (b : Bool) → is_row s.kind ≡ b → (is_row s.kind ≡ true → (ps : List (List ℕ)) × (row_parts (length (all_but_last names)) on (rows_below ss) ≡ Some ps))
        → (ps : List (List ℕ)) × (row_parts (length (all_but_last names)) on (if b then s.words ∷ rows_below ss else []) ≡ Some ps)
    go false r ih = ([], refl)
    go true r ih =
        let fit = fits_table above s names (parts_of above s ss e).0 r t in
        some_parts (length (all_but_last names)) on s.words (rows_below ss)
        (row_part_some (length (all_but_last names)) on s.words fit.0 (fit.1 ∙ (ap last_word (f s.words) ∙ o)))
        (ih r)

-- all rows of a table
pub rows_fit : (names : Statement) (above ss : List Statement) → is_row names.kind ≡ false → is_names names.kind ≡ true → first_fault_of_lines checks (names ∷ above) ss ≡ None
    → (ps : List (List ℕ)) × (row_parts (length (all_but_last names.words)) (is_on (rows_below ss)) (rows_below ss) ≡ Some ps)
rows_fit names above [] r n e = ([], refl)
rows_fit names above (s ∷ ss) r n e = go (is_row s.kind) refl
  where
    table : table_above (names ∷ above) ≡ Some names.words
    table = cond-false (is_row names.kind) _ _ r ∙ cond-true (is_names names.kind) _ _ n

    alone : (v : List (List ℕ)) → first_row v (names ∷ above) ≡ v
    alone v = cond-false (is_row names.kind) _ _ r

    go : (b : Bool) → is_row s.kind ≡ b
        → (ps : List (List ℕ)) × (row_parts (length (all_but_last names.words)) (is_on (if b then s.words ∷ rows_below ss else [])) (if b then s.words ∷ rows_below ss else []) ≡ Some ps)
    go false q = ([], refl)
    go true q =
        let p = parts_of (names ∷ above) s ss e in
        let fit = fits_table (names ∷ above) s names.words p.0 q table in
        let output = output_of_row (length (all_but_last names.words)) s.words fit.0 in
        some_parts (length (all_but_last names.words)) (bytes_eq (last_word s.words) (output_word true)) s.words (rows_below ss)
        (row_part_some (length (all_but_last names.words)) (bytes_eq (last_word s.words) (output_word true)) s.words fit.0 output)
        (rest_fit names.words s.words (bytes_eq (last_word s.words) (output_word true)) (s ∷ (names ∷ above)) ss
        (cond-true (is_row s.kind) _ _ q ∙ table) (λ v. cond-true (is_row s.kind) _ _ q ∙ alone s.words) output p.1)

-- latches
pub init_some : (w : List ℕ) → has_word initial_values w ≡ true → (i : ℕ) × (init_of w ≡ Some i)
init_some w h = elim (or_cases (bytes_eq (codes "0") w) _ h) [
  | inl e ↦ subst (λ v. (i : ℕ) × (init_of v ≡ Some i)) (same_word (codes "0") w e) (0, refl)
  | inr h1 ↦ elim (or_cases (bytes_eq (codes "1") w) _ h1) [
    | inl e ↦ subst (λ v. (i : ℕ) × (init_of v ≡ Some i)) (same_word (codes "1") w e) (1, refl)
    | inr h2 ↦ elim (or_cases (bytes_eq (codes "2") w) _ h2) [
      | inl e ↦ subst (λ v. (i : ℕ) × (init_of v ≡ Some i)) (same_word (codes "2") w e) (2, refl)
      | inr h3 ↦ elim (or_cases (bytes_eq (codes "3") w) false h3) [
        | inl e ↦ subst (λ v. (i : ℕ) × (init_of v ≡ Some i)) (same_word (codes "3") w e) (3, refl)
        | inr z ↦ absurd (both_ways false refl z)
      ]
    ]
  ]
]
