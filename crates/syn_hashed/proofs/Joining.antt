-- Values of literals that are joined: of a pair's row, of complements, of an AND and an OR.
use Rattle.std.proofs.Common.{if◌then◌else◌, ◌%◌, ◌*◌, ◌-◌, ◌≡◌, ℕ, ◌+◌, ◌<◌, Bool, true, false, not, ◌&&◌, ◌||◌, nat_eq, List, [], ◌∷◌, ◌++◌, length, refl, sym, ap, ap₂, ◌∙◌, arith, inl, inr}
use Rattle.std.proofs.lemmas.List.{length_push, get_or_push}
use Rattle.std.proofs.lemmas.Bool.{cases_Bool, cond-true, cond-false, eqb-true, eqb-false, eq-eqb, ne_eqb}
use Rattle.syn_rows.specs.declared.Lit.{Lit}
use Rattle.syn_rows.specs.declared.Row.{Row}
use Rattle.syn_rows.specs.declared.Row.TheVariants.{Free, And}
use Rattle.syn_rows.specs.Rows.{node_of, row_at}
use Rattle.syn_rows.specs.Values.{lit_value, value_in, values_of}
use Rattle.syn_hashed.specs.Hashed.{is_gate, IsHashed}
use Rattle.syn_hashed.specs.Growing.{Extends, value_by, IsAnd, IsOr}
use Rattle.syn_hashed.proofs.Orders.{gate_refs}
use Rattle.syn_hashed.proofs.Rising.{literal_kept, gate_value}

pub plain_value : (v : ℕ → Bool) (l : Lit) → l.0 % 2 ≡ 0 → lit_value v l ≡ v (node_of l)
plain_value v l e = cond-true (nat_eq (l.0 % 2) 0) (v (node_of l)) (not (v (node_of l))) (eq-eqb (l.0 % 2) 0 e)

pub complement_value : (v : ℕ → Bool) (l : Lit) → l.0 % 2 ≡ 1 → lit_value v l ≡ not (v (node_of l))
complement_value v l e = cond-false (nat_eq (l.0 % 2) 0) (v (node_of l)) (not (v (node_of l))) (ne_eqb (l.0 % 2) 0 (λ z. omega arith))

not_not : (b : Bool) → not (not b) ≡ b
not_not true = refl
not_not false = refl

or_by_and : (x y : Bool) → not (not x && not y) ≡ (x || y)
or_by_and true y = refl
or_by_and false y = not_not y

and_turned : (x y : Bool) → (x && y) ≡ (y && x)
and_turned true true = refl
and_turned true false = refl
and_turned false true = refl
and_turned false false = refl

pub not_value : (v : ℕ → Bool) (l m : Lit) → m.0 ≡ (if nat_eq (l.0 % 2) 0 then l.0 + 1 else l.0 - 1) → lit_value v m ≡ not (lit_value v l)
not_value v l m e = elim (cases_Bool (nat_eq (l.0 % 2) 0)) [
  | inl t ↦
      let even : l.0 % 2 ≡ 0 = eqb-true (l.0 % 2) 0 t in
      let up : m.0 ≡ l.0 + 1 = e ∙ cond-true (nat_eq (l.0 % 2) 0) (l.0 + 1) (l.0 - 1) t in
      let same : node_of m ≡ node_of l = omega arith in
      complement_value v m (omega arith) ∙ ap (λ n. not (v n)) same ∙ ap not (sym (plain_value v l even))
  | inr f ↦
      let odd : l.0 % 2 ≡ 1 = omega (arith, eqb-false (l.0 % 2) 0 f) in
      let down : m.0 ≡ l.0 - 1 = e ∙ cond-false (nat_eq (l.0 % 2) 0) (l.0 + 1) (l.0 - 1) f in
      let same : node_of m ≡ node_of l = omega arith in
      plain_value v m (omega arith) ∙ ap v same ∙ sym (ap not (complement_value v l odd) ∙ not_not (v (node_of l)))
]

pub and_of_turned : (old new : List Row) (a b l : Lit) → IsAnd old b a new l → IsAnd old a b new l
and_of_turned old new a b l h given at_0 = h given at_0 ∙ and_turned (value_by given old b) (value_by given old a)

-- the row of a pair that was found
pub found_value : (count : ℕ) (rows : List Row) → IsHashed count rows → (n : ℕ) (a b l : Lit) → n < length rows → row_at rows n ≡ And a b → l.0 ≡ 2 * n → IsAnd rows a b rows l
found_value count rows h n a b l lt e at given at_0 =
    let here : node_of l ≡ n = omega arith in
    plain_value (value_in (values_of given rows)) l (omega arith)
    ∙ ap (value_in (values_of given rows)) here
    ∙ gate_value count rows h given n a b lt e

-- the row of a pair that was made
pub made_value : (count : ℕ) (old new : List Row) (a b l : Lit) → IsHashed count new → is_gate (length old) (And a b) ≡ true → new ≡ old ++ And a b ∷ [] → l.0 ≡ 2 * length old → IsAnd old a b new l
made_value count old new a b l h gate made at given at_0 =
    found_value count new h (length old) a b l (omega (arith, ap length made, length_push old (And a b)))
    (ap (λ (rows : List Row). row_at rows (length old)) made ∙ get_or_push old (And a b) Free (length old) refl) at given at_0
    ∙ ap₂ (λ x y. x && y) (literal_kept given old new grown a refs.0) (literal_kept given old new grown b refs.1)
  where
    refs : (node_of a < length old) × (node_of b < length old)
    refs = gate_refs (length old) (And a b) gate

    grown : Extends old new
    grown = record { more = And a b ∷ []; is = made }

-- the complement of the AND of complements
pub or_value : (old new : List Row) (a b na nb neither l : Lit)
    → na.0 ≡ (if nat_eq (a.0 % 2) 0 then a.0 + 1 else a.0 - 1) → nb.0 ≡ (if nat_eq (b.0 % 2) 0 then b.0 + 1 else b.0 - 1) → l.0 ≡ (if nat_eq (neither.0 % 2) 0 then neither.0 + 1 else neither.0 - 1)
    → IsAnd old na nb new neither → IsOr old a b new l
or_value old new a b na nb neither l ea eb el h given at_0 =
    not_value (value_in (values_of given new)) neither l el
    ∙ ap not (h given at_0 ∙ ap₂ (λ x y. x && y) (not_value (value_in (values_of given old)) a na ea) (not_value (value_in (values_of given old)) b nb eb))
    ∙ or_by_and (value_by given old a) (value_by given old b)
