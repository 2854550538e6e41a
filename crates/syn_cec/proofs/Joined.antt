-- What two graphs observe, by literals of common rows.
use Rattle.std.proofs.Common.{◌≡◌, ◌<◌, ◌++◌, Bool, All, List, length, get_or, map, ap₂, ◌∙◌, arith}
use Rattle.std.proofs.lemmas.List.{map-append}
use Rattle.std.proofs.lemmas.List.Elements.{All-append}
use Rattle.syn_rows.specs.declared.Lit.{Lit}
use Rattle.syn_rows.specs.declared.Row.{Row}
use Rattle.syn_rows.specs.Rows.{node_of}
use Rattle.syn_rows.specs.Joining.{constant}
use Rattle.syn_rows.specs.Values.{given_by, lit_value, rows_function, value_in, values_of}
use Rattle.syn_hashed.specs.Growing.{Extends}
use Rattle.syn_hashed.proofs.Rising.{extends_longer, literal_kept}
use Rattle.syn_graph.specs.declared.Graph.{Graph}
use Rattle.syn_remaking.specs.Remaking.{AllStand, moved}
use Rattle.syn_remaking.proofs.Standing.{moved_function, moved_within}

-- literals stand for their nodes also where more rows have come
stand_on : (rows old new : List Row) (literals : List Lit) → Extends old new → AllStand rows old literals → AllStand rows new literals
stand_on rows old new literals e all n lt = record {
  there = (let longer = extends_longer old new e in let low = (all n lt).there in omega (arith, low, longer));
  value = λ given zero. literal_kept given old new e (get_or literals n constant) (all n lt).there ∙ (all n lt).value given zero;
}

-- Literals stand for all nodes of both graphs: for the first one's in older rows.
pub record BothStand (first second : Graph) (old new : List Row) (ls ms : List Lit) : Type 0 where
  pub grows : Extends old new
  pub first_stand : AllStand first.rows old ls
  pub second_stand : AllStand second.rows new ms
  pub first_all : length ls ≡ length first.rows
  pub second_all : length ms ≡ length second.rows

-- the literals of what both observe
abbrev pub both_lits : Graph → Graph → List Lit → List Lit → List Lit
both_lits first second ls ms = map (moved ls) first.observed ++ map (moved ms) second.observed

pub both_within : (first second : Graph) (old new : List Row) (ls ms : List Lit) → BothStand first second old new ls ms → All (λ l. node_of l < length new) (both_lits first second ls ms)
both_within first second old new ls ms h =
    All-append (λ l. node_of l < length new) (map (moved ls) first.observed) (map (moved ms) second.observed)
    (moved_within first.rows new ls first.observed (stand_on first.rows old new ls h.grows h.first_stand) h.first_all first.graph.within)
    (moved_within second.rows new ms second.observed h.second_stand h.second_all second.graph.within)

pub both_function : (first second : Graph) (old new : List Row) (ls ms : List Lit) → BothStand first second old new ls ms → (bits : List Bool)
    → rows_function new (both_lits first second ls ms) bits ≡ rows_function first.rows first.observed bits ++ rows_function second.rows second.observed bits
both_function first second old new ls ms h bits =
    map-append (lit_value (value_in (values_of (given_by bits) new))) (map (moved ls) first.observed) (map (moved ms) second.observed)
    ∙ ap₂ (λ (xs ys : List Bool). xs ++ ys)
    (moved_function first.rows new ls first.observed (stand_on first.rows old new ls h.grows h.first_stand) h.first_all first.graph.within bits)
    (moved_function second.rows new ms second.observed h.second_stand h.second_all second.graph.within bits)
