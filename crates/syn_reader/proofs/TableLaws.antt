-- The table that words and rows spell is the computed one.
use Rattle.std.proofs.Common.{◌≡◌, ℕ, suc, ◌==◌, ◌&&◌, Bool, true, false, List, [], ◌∷◌, ◌++◌, length, map, bytes_eq, refl, sym, ap, ap₂, ◌∙◌, subst, inl, inr, Option, Some, None, option_map, option_and_then, arith}
use Rattle.std.specs.List.{list_all}
use Rattle.std.proofs.lemmas.Bool.{eqb-true, cond-true, and_parts, and_from}
use Rattle.syn_netlist.specs.Lists.{Table}
use Rattle.syn_reader.specs.Shapes.{IsTable, is_input_part, row_words, output_word, last_word, all_but_last}
use Rattle.syn_reader.specs.Computed.{row_part, row_parts, is_on, table_of}
use Rattle.syn_reader.proofs.Words.{chosen, mapped, then_some, all_but_snoc, last_snoc, snoc_back}
use Rattle.syn_netlist.proofs.Sets.{same_word, word_same}

no_part : (row : List ℕ) → is_input_part 0 row ≡ true → row ≡ []
no_part [] e = refl
no_part (c ∷ cs) e = absurd (let h : (suc (length cs) == 0) ≡ true = (and_parts (suc (length cs) == 0) _ e).0 in let z = eqb-true (suc (length cs)) 0 h in omega arith)

pub row_again : (is : List (List ℕ)) (on : Bool) (part : List ℕ) → is_input_part (length is) part ≡ true → row_part (length is) on (row_words is on part) ≡ Some part
row_again [] on part h = cond-true (bytes_eq (output_word on) (output_word on)) (Some []) None (word_same (output_word on)) ∙ ap Some (sym (no_part part h))
row_again (i ∷ is) on part h =
    cond-true (is_input_part (suc (length is)) part && bytes_eq (output_word on) (output_word on)) (Some part) None
    (and_from (is_input_part (suc (length is)) part) (bytes_eq (output_word on) (output_word on)) h (word_same (output_word on)))

pub row_back : (is : List (List ℕ)) (on : Bool) (row : List (List ℕ)) (part : List ℕ) → row_part (length is) on row ≡ Some part → (row ≡ row_words is on part) × (is_input_part (length is) part ≡ true)
row_back [] on [] part e = absurd (cc)
row_back [] on (o ∷ []) part e = elim (chosen (bytes_eq o (output_word on)) [] part None e) [
  | inl h ↦ (ap (λ (w : List ℕ). w ∷ []) (same_word o (output_word on) h.0), subst (λ p. is_input_part 0 p ≡ true) h.1 refl)
  | inr z ↦ absurd (let y : ◌≡◌ {A = Option (List ℕ)} None (Some part) = z in cc)
]
row_back [] on (o ∷ p ∷ ps) part e = absurd (cc)
row_back (i ∷ is) on [] part e = absurd (cc)
row_back (i ∷ is) on (p ∷ []) part e = absurd (cc)
row_back (i ∷ is) on (p ∷ o ∷ []) part e = elim (chosen (is_input_part (suc (length is)) p && bytes_eq o (output_word on)) p part None e) [
  | inl h ↦
      let both = and_parts (is_input_part (suc (length is)) p) (bytes_eq o (output_word on)) h.0 in
      (ap₂ (λ (v : List ℕ) (w : List ℕ). v ∷ w ∷ []) h.1 (same_word o (output_word on) both.1), subst (λ q. is_input_part (suc (length is)) q ≡ true) h.1 both.0)
  | inr z ↦ absurd (let y : ◌≡◌ {A = Option (List ℕ)} None (Some part) = z in cc)
]
row_back (i ∷ is) on (p ∷ o ∷ q ∷ qs) part e = absurd (cc)

pub rows_again : (is : List (List ℕ)) (on : Bool) (parts : List (List ℕ)) → list_all (is_input_part (length is)) parts ≡ true → row_parts (length is) on (map (row_words is on) parts) ≡ Some parts
rows_again is on [] h = refl
rows_again is on (p ∷ ps) h =
    let both = and_parts (is_input_part (length is) p) (list_all (is_input_part (length is)) ps) h in
    ap (option_and_then (λ q. option_map (λ qs. q ∷ qs) (row_parts (length is) on (map (row_words is on) ps)))) (row_again is on p both.0)
    ∙ ap (option_map (λ qs. p ∷ qs)) (rows_again is on ps both.1)

pub rows_back : (is : List (List ℕ)) (on : Bool) (below : List (List (List ℕ))) (parts : List (List ℕ)) → row_parts (length is) on below ≡ Some parts
    → (below ≡ map (row_words is on) parts) × (list_all (is_input_part (length is)) parts ≡ true)
rows_back is on [] parts e =
    let none : [] ≡ parts = cc in
    (ap (map (row_words is on)) none, subst (λ p. list_all (is_input_part (length is)) p ≡ true) none refl)
rows_back is on (r ∷ rs) parts e =
    let n = then_some (λ q. option_map (λ qs. q ∷ qs) (row_parts (length is) on rs)) (row_part (length is) on r) parts e in
    let m = mapped (λ qs. n.0 ∷ qs) (row_parts (length is) on rs) parts n.2 in
    let here = row_back is on r n.0 n.1 in
    let more = rows_back is on rs m.0 m.1 in (
      ap₂ (λ (x : List (List ℕ)) (xs : List (List (List ℕ))). x ∷ xs) here.0 more.0 ∙ ap (map (row_words is on)) m.2,
      subst (λ p. list_all (is_input_part (length is)) p ≡ true) m.2 (and_from (is_input_part (length is) n.0) (list_all (is_input_part (length is)) m.0) here.1 more.1),
    )

pub on_again : (is : List (List ℕ)) (on : Bool) (parts : List (List ℕ)) → (parts ≡ [] → on ≡ true) → is_on (map (row_words is on) parts) ≡ on
on_again is on [] h = sym (h refl)
on_again [] true (p ∷ ps) h = refl
on_again [] false (p ∷ ps) h = refl
on_again (i ∷ is) true (p ∷ ps) h = refl
on_again (i ∷ is) false (p ∷ ps) h = refl

pub table : List (List ℕ) → List ℕ → Bool → List (List ℕ) → Table
table is o on parts = record { inputs = is; output = o; rows = parts; on = on }

-- the computed table, of inputs and an output
pub table_snoc : (is : List (List ℕ)) (o : List ℕ) (below : List (List (List ℕ))) → table_of (is ++ o ∷ []) below ≡ option_map (table is o (is_on below)) (row_parts (length is) (is_on below) below)
unfolding table
table_snoc [] o below = refl
table_snoc (i ∷ is) o below = ap₂ (λ (xs : List (List ℕ)) (x : List ℕ). option_map (table xs x (is_on below)) (row_parts (length xs) (is_on below) below)) (all_but_snoc (i ∷ is) o) (last_snoc (i ∷ is) o)

pub table_again : (words : List (List ℕ)) (below : List (List (List ℕ))) (t : Table) → IsTable words below t → table_of words below ≡ Some t
unfolding table
table_again words below t is =
    let on : is_on below ≡ t.on = ap is_on is.rows ∙ on_again t.inputs t.on t.rows is.empty in
    ap (λ w. table_of w below) is.names
    ∙ (table_snoc t.inputs t.output below
    ∙ (ap (λ b. option_map (table t.inputs t.output b) (row_parts (length t.inputs) b below)) on
    ∙ (ap (λ l. option_map (table t.inputs t.output t.on) (row_parts (length t.inputs) t.on l)) is.rows
    ∙ ap (option_map (table t.inputs t.output t.on)) (rows_again t.inputs t.on t.rows is.fits))))

pub table_back : (words : List (List ℕ)) (below : List (List (List ℕ))) (t : Table) → table_of words below ≡ Some t → IsTable words below t
unfolding table
table_back [] below t e = absurd (cc)
table_back (w ∷ ws) below t e =
    let m = mapped (table (all_but_last (w ∷ ws)) (last_word (w ∷ ws)) (is_on below)) (row_parts (length (all_but_last (w ∷ ws))) (is_on below) below) t e in
    let r = rows_back (all_but_last (w ∷ ws)) (is_on below) below m.0 m.1 in
    subst (IsTable (w ∷ ws) below) m.2 (record {
      names = snoc_back w ws;
      rows = r.0;
      fits = r.1;
      empty = λ z. ap is_on (r.0 ∙ ap (map (row_words (all_but_last (w ∷ ws)) (is_on below))) z);
    })
