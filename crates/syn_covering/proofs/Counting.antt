-- There are at most as many LUTs of cuts as reached ANDs.
use Rattle.std.proofs.Common.{◌≡◌, ℕ, suc, ◌+◌, ◌<◌, ◌≤◌, ◌&&◌, max, nat_lt, if◌then◌else◌, Bool, true, List, [], ◌∷◌, length, sym, ap, ◌∙◌, inl, inr, arith}
use Rattle.std.specs.List.{list_all}
use Rattle.std.proofs.lemmas.Bool.{cases_lt, and_parts, and_from, ltb-true}
use Rattle.syn_rows.specs.declared.Lit.{Lit}
use Rattle.syn_rows.specs.declared.Row.{Row}
use Rattle.syn_rows.specs.Rows.{row_at}
use Rattle.syn_rows.specs.Reach.{is_and, ands_from}
use Rattle.syn_graph.specs.Graphs.{IsGraph}
use Rattle.syn_lutnet.specs.LutData.{Lut, rising}
use Rattle.syn_covering.specs.Cuts.{AreLutCuts}
use Rattle.syn_covering.specs.Mappings.{node_at, IsMapping, MappingIsSmall}
use Rattle.syn_covering.proofs.Matching.{has_node_at}
use Rattle.syn_covering.proofs.Mapped.{gate_is_and, node_high, node_there}

ands_least : (low n : ℕ) (set : ℕ → Bool) (rows : List Row) → ((j : ℕ) → j < length rows → low ≤ n + j → (is_and (row_at rows j) && set (n + j)) ≡ true) → n + length rows ≤ ands_from n set rows + max low n
ands_least low n set [] h = omega arith
ands_least low n set (row ∷ rows) h =
    let rest = ands_least low (n + 1) set rows (λ j lt le. ap (λ k. is_and (row_at rows j) && set k) (let s : n + 1 + j ≡ n + suc j = omega arith in s) ∙ h (suc j) (omega (arith, lt)) (omega (arith, le))) in
    elim (cases_lt n low) [
      | inl less ↦ omega (arith, rest, less)
      | inr ge ↦
          let first : (is_and row && set n) ≡ true = ap (λ k. is_and row && set k) (let s : n ≡ n + 0 = omega arith in s) ∙ h 0 (omega arith) (omega (arith, ge)) in
          let one : ◌≡◌ {A = ℕ} (if is_and row && set n then 1 else 0) 1 = ap (λ b. if b then 1 else 0) first in
          omega (arith, rest, ge, one)
    ]

rising_fits : (m : ℕ) (ms : List ℕ) (high : ℕ) → rising (m ∷ ms) ≡ true → ((j : ℕ) → j < suc (length ms) → node_at (m ∷ ms) j < high) → m + suc (length ms) ≤ high
rising_fits m [] high r h = omega (arith, h 0 (omega arith))
rising_fits m (p ∷ ps) high r h =
    let parts = and_parts (list_all (nat_lt m) (p ∷ ps)) (rising (p ∷ ps)) r in
    let less = ltb-true m p (and_parts (nat_lt m p) (list_all (nat_lt m) ps) parts.0).0 in
    omega (arith, less, rising_fits p ps high parts.1 (λ j lt. h (suc j) (omega (arith, lt))))

in_range : (low high : ℕ) (nodes : List ℕ) → low ≤ high → rising nodes ≡ true → ((j : ℕ) → j < length nodes → low ≤ node_at nodes j) → ((j : ℕ) → j < length nodes → node_at nodes j < high) → low + length nodes ≤ high
in_range low high [] le r f g = omega (arith, le)
in_range low high (m ∷ ms) le r f g = omega (arith, f 0 (omega arith), rising_fits m ms high r g)

-- the nodes that have LUTs stand behind the sources
pub nodes_fit : (count k : ℕ) (cut : ℕ → List ℕ) (rows : List Row) (lits : List Lit) (nodes : List ℕ) (luts : List Lut) (outs : List Lit) → AreLutCuts k rows cut → IsGraph count rows lits → IsMapping cut count rows lits nodes luts outs
    → count + 1 + length nodes ≤ length rows
nodes_fit count k cut rows lits nodes luts outs fit graph mapping =
    in_range (count + 1) (length rows) nodes (omega (arith, graph.hashed.there)) mapping.nodes_are.rise
    (λ j lt. node_high count k cut rows lits nodes luts outs fit graph mapping (node_at nodes j) (has_node_at nodes j lt))
    (λ j lt. node_there count k cut rows lits nodes luts outs fit graph mapping (node_at nodes j) (has_node_at nodes j lt))

pub mapping_few : MappingIsSmall
mapping_few count k cut rows lits nodes luts outs ands fit graph mapping (set, is_set, counted) =
    omega (arith, mapping.long, sym counted, nodes_fit count k cut rows lits nodes luts outs fit graph mapping, most, graph.hashed.there)
  where
    most : length rows ≤ ands_from 0 set rows + (count + 1)
    most =
        let least = ands_least (count + 1) 0 set rows (λ j lt le.
        and_from (is_and (row_at rows j)) (set (0 + j)) (gate_is_and j (row_at rows j) (graph.hashed.gates j (omega (arith, le)) lt))
        (ap set (let s : 0 + j ≡ j = omega arith in s) ∙ graph.reached j (omega (arith, le)) lt set is_set.closed is_set.observes)) in
        omega (arith, least)
