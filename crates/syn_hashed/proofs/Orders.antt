-- Hashed rows are in order, and where their ANDs stand.
use Rattle.std.proofs.Common.{◌≡◌, ℕ, ◌+◌, ◌<◌, true, not, ◌&&◌, nat_eq, nat_lt, nat_le, List, length, sym, subst, arith, inl, inr}
use Rattle.std.proofs.lemmas.List.{get_or_past}
use Rattle.std.proofs.lemmas.Bool.{cases_lt, and_parts, ltb-true}
use Rattle.syn_rows.specs.declared.Row.{Row}
use Rattle.syn_rows.specs.declared.Row.TheVariants.{Free, Source, And, Alias}
use Rattle.syn_rows.specs.Reach.{is_and}
use Rattle.syn_rows.specs.Rows.{node_of, row_at, AllRefs, InOrder}
use Rattle.syn_hashed.specs.Hashed.{is_gate, IsHashed}

pub gate_refs : (n : ℕ) (row : Row) → is_gate n row ≡ true → AllRefs (λ m. m < n) row
gate_refs n Free h = tt
gate_refs n Source h = tt
gate_refs n (And a b) h =
    let low = and_parts (nat_le 2 a.0) (nat_lt a.0 b.0 && (not (nat_eq (node_of a) (node_of b)) && nat_lt (node_of b) n)) h in
    let rest = and_parts (nat_lt a.0 b.0) (not (nat_eq (node_of a) (node_of b)) && nat_lt (node_of b) n) low.1 in
    let last = and_parts (not (nat_eq (node_of a) (node_of b))) (nat_lt (node_of b) n) rest.1 in
    let less : a.0 < b.0 = ltb-true a.0 b.0 rest.0 in
    let under : node_of b < n = ltb-true (node_of b) n last.1 in
    (omega arith, under)
gate_refs n (Alias a) h = absurd (cc)

pub hashed_in_order : (count : ℕ) (rows : List Row) → IsHashed count rows → InOrder rows
hashed_in_order count rows h n = elim (cases_lt n (count + 1)) [
  | inl lt ↦ subst (AllRefs (λ m. m < n)) (sym (h.front n lt)) tt
  | inr ge ↦ elim (cases_lt n (length rows)) [
    | inl lt ↦ gate_refs n (row_at rows n) (h.gates n (omega arith) lt)
    | inr past ↦ subst (AllRefs (λ m. m < n)) (sym (get_or_past rows n Free past)) tt
  ]
]

-- a node whose row is neither free nor a source stands behind the sources, and is there
pub gate_node : (count : ℕ) (rows : List Row) → IsHashed count rows → (n : ℕ) → (row_at rows n ≡ Free → ⊥) → (row_at rows n ≡ Source → ⊥) → (count < n) × (n < length rows)
gate_node count rows h n not_free not_source = (after, inside)
  where
    after : count < n
    after = elim (cases_lt n (count + 1)) [ inl lt ↦ absurd (not_source (h.front n lt)) | inr ge ↦ omega arith ]

    inside : n < length rows
    inside = elim (cases_lt n (length rows)) [ inl lt ↦ lt | inr ge ↦ absurd (not_free (get_or_past rows n Free ge)) ]

-- an AND is neither free nor a source
neither : (row : Row) → is_and row ≡ true → (row ≡ Free → ⊥) × (row ≡ Source → ⊥)
neither Free h = absurd (cc)
neither Source h = absurd (cc)
neither (And a b) h = ((λ z. absurd (cc)), (λ z. absurd (cc)))
neither (Alias a) h = absurd (cc)

-- an AND stands behind the sources, and is there
pub and_inside : (count : ℕ) (rows : List Row) → IsHashed count rows → (n : ℕ) → is_and (row_at rows n) ≡ true → (count < n) × (n < length rows)
and_inside count rows h n e = let is = neither (row_at rows n) e in gate_node count rows h n is.0 is.1
