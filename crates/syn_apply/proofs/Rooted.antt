-- The root of a sound proposal on a graph is an AND.
use Rattle.std.proofs.Common.{◌≡◌, ℕ, zero, suc, ◌<◌, nat_eq, nat_lt, true, false, List, [], ◌∷◌, length, refl, ap, arith, inl, inr}
use Rattle.std.proofs.lemmas.Bool.{cases_Bool, cases_lt, and_parts, eqb-true, ltb-true, or_cases}
use Rattle.std.proofs.lemmas.List.{get_or_past}
use Rattle.syn_rows.specs.declared.Row.{Row}
use Rattle.syn_rows.specs.declared.Row.TheVariants.{Free, Source, And, Alias}
use Rattle.syn_rows.specs.Rows.{row_at}
use Rattle.syn_rows.specs.Reach.{is_and}
use Rattle.syn_rows.specs.Values.{is_open}
use Rattle.syn_hashed.specs.Hashed.{is_gate}
use Rattle.syn_graph.specs.declared.Graph.{Graph}
use Rattle.syn_rows.specs.Nodes.{has_node}
use Rattle.syn_cones.specs.Cones.{is_end, IsCut}
use Rattle.syn_gain.specs.Leaves.{are_below}
use Rattle.syn_gain.specs.Replacements.{Replacement}
use Rattle.syn_gain.proofs.Owning.{IsBelow}
use Rattle.syn_apply.specs.Sound.{IsSoundBy}

-- a node in a list of nodes below another is below it
below_is : (high n : ℕ) (ns : List ℕ) → are_below high ns ≡ true → has_node ns n ≡ true → n < high
below_is high n [] low has = absurd (cc)
below_is high n (m ∷ ms) low has =
    let parts = and_parts (nat_lt m high) (are_below high ms) low in
    elim (or_cases (nat_eq m n) (has_node ms n) has) [
      | inl e ↦ let same : m ≡ n = eqb-true m n e in omega (arith, ltb-true m high parts.0)
      | inr rest ↦ below_is high n ms parts.1 rest
    ]

-- the row of the root isn't open
root_closed : (rows : List Row) (r : Replacement) → IsBelow r → IsCut rows r.leaves r.root → is_open (row_at rows r.root) ≡ false
root_closed rows r below cut = elim (cases_Bool (is_open (row_at rows r.root))) [
  | inr closed ↦ closed
  | inl opened ↦
      elim (or_cases (has_node r.leaves r.root) false (cut [] (an_end rows r.root below.positive opened))) [
        | inl has ↦ let low : r.root < r.root = below_is r.root r.root r.leaves below.low has in absurd (omega arith)
        | inr none ↦ absurd (cc none)
      ]
]
  where
    an_end : (rows : List Row) (n : ℕ) → 0 < n → is_open (row_at rows n) ≡ true → is_end rows n ≡ true
    an_end rows zero positive h = absurd (omega (arith, positive))
    an_end rows (suc n) positive h = h

gate_and : (n : ℕ) (row : Row) → is_gate n row ≡ true → is_and row ≡ true
gate_and n Free h = absurd (cc)
gate_and n Source h = absurd (cc)
gate_and n (And a b) h = refl
gate_and n (Alias a) h = absurd (cc)

pub root_is_and : (graph : Graph) (r : Replacement) → IsBelow r → IsSoundBy graph.rows r → is_and (row_at graph.rows r.root) ≡ true
root_is_and graph r below sound = elim (cases_lt graph.source_count r.root) [
  | inr front ↦ absurd (cc (closed, ap is_open (graph.graph.hashed.front r.root (omega arith))))
  | inl after ↦ elim (cases_lt r.root (length graph.rows)) [
    | inl inside ↦ gate_and r.root (row_at graph.rows r.root) (graph.graph.hashed.gates r.root after inside)
    | inr past ↦ absurd (cc (closed, ap is_open (get_or_past graph.rows r.root Free past)))
  ]
]
  where
    closed : is_open (row_at graph.rows r.root) ≡ false
    closed = root_closed graph.rows r below sound.cut
