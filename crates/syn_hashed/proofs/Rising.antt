-- Values of literals while rows grow, and rows that stay hashed.
use Rattle.std.proofs.Common.{◌≡◌, ℕ, ◌+◌, ◌<◌, ◌≤◌, Bool, false, ◌&&◌, List, [], ◌∷◌, ◌++◌, length, get_or, replicate, refl, sym, ap, ◌∙◌, subst, arith, append_assoc, append-nil, length-append}
use Rattle.std.proofs.lemmas.List.{get_or-replicate, length-replicate}
use Rattle.syn_rows.specs.declared.Lit.{Lit}
use Rattle.syn_rows.specs.declared.Row.{Row}
use Rattle.syn_rows.specs.declared.Row.TheVariants.{Free, Source, And}
use Rattle.syn_rows.specs.Rows.{node_of, row_at, fold_rows}
use Rattle.syn_rows.specs.Values.{row_value, value_in, values_of}
use Rattle.syn_rows.proofs.Folds.{length-values, lit_value-same, fold_kept, values_step}
use Rattle.syn_hashed.specs.Hashed.{IsHashed}
use Rattle.syn_hashed.proofs.Orders.{hashed_in_order}
use Rattle.syn_hashed.specs.Growing.{Extends, KeepsValues, value_by}

-- rows that grow

pub extends_itself : (rows : List Row) → Extends rows rows
extends_itself rows = record { more = []; is = sym (append-nil rows) }

pub extends_through : (a b c : List Row) → Extends a b → Extends b c → Extends a c
extends_through a b c e f = record { more = e.more ++ f.more; is = f.is ∙ ap (λ (rows : List Row). rows ++ f.more) e.is ∙ append_assoc a e.more f.more }

pub extends_longer : (old new : List Row) → Extends old new → length old ≤ length new
extends_longer old new e = omega (arith, ap length e.is, length-append old e.more)

fold-append : {A : Type 0} (step : (ℕ → A) → ℕ → Row → A) (d : A) (done : List A) (rows more : List Row) → fold_rows step d done (rows ++ more) ≡ fold_rows step d (fold_rows step d done rows) more
fold-append step d done [] more = refl
fold-append step d done (row ∷ rows) more = fold-append step d (done ++ step (λ n. get_or done n d) (length done) row ∷ []) rows more

-- older nodes keep their values
pub value_kept : (given : ℕ → Bool) (old new : List Row) → Extends old new → (n : ℕ) → n < length old → value_in (values_of given new) n ≡ value_in (values_of given old) n
value_kept given old new e n lt =
    ap (λ (rows : List Row). value_in (values_of given rows) n) e.is
    ∙ ap (λ (values : List Bool). value_in values n) (fold-append (row_value given) false [] old e.more)
    ∙ fold_kept (row_value given) false (values_of given old) e.more n false (omega (arith, length-values given old))

-- and so do their literals
pub literal_kept : (given : ℕ → Bool) (old new : List Row) → Extends old new → (l : Lit) → node_of l < length old → value_by given new l ≡ value_by given old l
literal_kept given old new e l lt = lit_value-same (value_in (values_of given new)) (value_in (values_of given old)) l (value_kept given old new e (node_of l) lt)

pub literals_keep : (old new : List Row) → Extends old new → KeepsValues old new
literals_keep old new e given l lt = literal_kept given old new e l lt

-- hashed rows

pub source_value : (count : ℕ) (rows : List Row) → IsHashed count rows → (given : ℕ → Bool) (n : ℕ) → n < count + 1 → value_in (values_of given rows) n ≡ given n
source_value count rows h given n lt =
    values_step rows (hashed_in_order count rows h) given n (omega (arith, h.there))
    ∙ ap (λ row. row_value given (value_in (values_of given rows)) n row) (h.front n lt)

pub gate_value : (count : ℕ) (rows : List Row) → IsHashed count rows → (given : ℕ → Bool) (n : ℕ) (a b : Lit) → n < length rows → row_at rows n ≡ And a b
    → value_in (values_of given rows) n ≡ (value_by given rows a && value_by given rows b)
gate_value count rows h given n a b lt e =
    values_step rows (hashed_in_order count rows h) given n lt
    ∙ ap (λ row. row_value given (value_in (values_of given rows)) n row) e

pub hashed_new : (count : ℕ) (rows : List Row) → rows ≡ replicate (count + 1) Source → IsHashed count rows
hashed_new count rows e = subst (IsHashed count) (sym e) (record {
  there = omega (arith, length-replicate (count + 1) Source);
  front = λ n lt. get_or-replicate (count + 1) n Source Free lt;
  gates = λ n after lt. absurd (omega (arith, length-replicate (count + 1) Source));
  once = λ m n after less lt same. absurd (omega (arith, length-replicate (count + 1) Source));
})
