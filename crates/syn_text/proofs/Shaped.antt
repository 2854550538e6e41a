-- An ordered netlist of graph shape, or of LUT shape, has no fault.
use Rattle.std.proofs.Common.{◌≡◌, ℕ, true, false, List, [], ◌∷◌, ◌++◌, map, flat_map, bytes_eq, refl, sym, ap, ◌∙◌, inl, inr, append_assoc}
use Rattle.std.specs.List.{list_all}
use Rattle.std.proofs.lemmas.Bool.{and_parts, or_cases, or_left, or_right, cases_Bool, both_ways, or_from}
use Rattle.std.proofs.lemmas.List.{map-append}
use Rattle.std.proofs.lemmas.List.Sorted.{IsPermutation-refl}
use Rattle.syn_netlist.specs.Faults.{IsChecked, inputs_of, reads}
use Rattle.syn_netlist.specs.Lists.{Table, Netlist, output_of, latch_reads, sources, observed}
use Rattle.syn_netlist.specs.Order.{Ordered, defined, reads_known}
use Rattle.syn_netlist.specs.Words.{has_word, without, firsts}
use Rattle.syn_netlist.proofs.Sets.{has_word-append, has_left, has_right, all_at, all_each}
use Rattle.syn_network.specs.GraphShape.{and_tables, end_tables}
use Rattle.syn_network.specs.LutShape.{lut_tables}
use Rattle.syn_network.specs.LutShape as luts
use Rattle.syn_models.proofs.Driven.{find_none}
use Rattle.syn_network.proofs.Spelled.{has_without}
use Rattle.syn_text.specs.WellFormed.{ShapedIsChecked, LutsAreChecked}

-- each word of a list is among its first ones
among_firsts : (ws : List (List ℕ)) (w : List ℕ) → has_word ws w ≡ true → has_word (firsts ws) w ≡ true
among_firsts [] w h = h
among_firsts (x ∷ xs) w h = elim (cases_Bool (bytes_eq x w)) [
  | inl e ↦ or_left (bytes_eq x w) (has_word (without (x ∷ []) (firsts xs)) w) e
  | inr f ↦ or_right (bytes_eq x w) (has_word (without (x ∷ []) (firsts xs)) w)
      (has_without (x ∷ []) (firsts xs) w
      (among_firsts xs w (elim (or_cases (bytes_eq x w) (has_word xs w) h) [ inl e ↦ absurd (both_ways (bytes_eq x w) f e) | inr t ↦ t ]))
      (or_from (bytes_eq x w) false f refl))
]

-- tables of which the last are those of the observed signals
record HasEnds (n : Netlist) (ts ends : List Table) : Type 0 where
  split : n.tables ≡ ts ++ ends
  each : map output_of ends ≡ without (sources n.frame) (observed n.frame)

-- an observed signal is a source, or has its table
observed_defined : (n : Netlist) (ts ends : List Table) → HasEnds n ts ends → (w : List ℕ) → has_word (observed n.frame) w ≡ true → has_word (defined n) w ≡ true
observed_defined n ts ends shape w h = elim (cases_Bool (has_word (sources n.frame) w)) [
  | inl s ↦ has_left (sources n.frame) (map output_of n.tables) w s
  | inr f ↦ has_right (sources n.frame) (map output_of n.tables) w
      (ap (λ (ws : List (List ℕ)). has_word ws w) (ap (map output_of) shape.split ∙ map-append output_of ts ends)
      ∙ has_right (map output_of ts) (map output_of ends) w
      (ap (λ (ws : List (List ℕ)). has_word ws w) shape.each ∙ has_without (sources n.frame) (observed n.frame) w h f))
]

-- what ordered tables read is known, or the output of one of them
inputs_defined : (known : List (List ℕ)) (ts : List Table) (w : List ℕ) → reads_known known ts ≡ true → has_word (flat_map inputs_of ts) w ≡ true → has_word (known ++ map output_of ts) w ≡ true
inputs_defined known [] w r h = absurd (both_ways false refl h)
inputs_defined known (t ∷ ts) w r h =
    let parts = and_parts (list_all (has_word known) t.inputs) (reads_known (known ++ t.output ∷ []) ts) r in
    elim (or_cases (has_word t.inputs w) (has_word (flat_map inputs_of ts) w) (sym (has_word-append t.inputs (flat_map inputs_of ts) w) ∙ h)) [
      | inl here ↦ has_left known (map output_of (t ∷ ts)) w (all_at (has_word known) t.inputs w parts.0 here)
      | inr below ↦ ap (λ (ws : List (List ℕ)). has_word ws w) (sym (append_assoc known (t.output ∷ []) (map output_of ts))) ∙ inputs_defined (known ++ t.output ∷ []) ts w parts.1 below
    ]

read_defined : (n : Netlist) (ts ends : List Table) → HasEnds n ts ends → Ordered n → (w : List ℕ) → has_word (reads n) w ≡ true → has_word (defined n) w ≡ true
read_defined n ts ends shape order w h =
    let signals : List (List ℕ) = flat_map latch_reads n.frame.latches in
    let inputs : List (List ℕ) = flat_map inputs_of n.tables in
    let grouped : has_word ((n.frame.outputs ++ signals) ++ inputs) w ≡ true = ap (λ (ws : List (List ℕ)). has_word ws w) (append_assoc n.frame.outputs signals inputs) ∙ h in
    elim (or_cases (has_word (n.frame.outputs ++ signals) w) (has_word inputs w) (sym (has_word-append (n.frame.outputs ++ signals) inputs w) ∙ grouped)) [
      | inl seen ↦ observed_defined n ts ends shape w (among_firsts (n.frame.outputs ++ signals) w seen)
      | inr read ↦ inputs_defined (sources n.frame) n.tables w order.above read
    ]

checked : (n : Netlist) (ts ends : List Table) → HasEnds n ts ends → Ordered n → IsChecked n
checked n ts ends shape order = record {
  driven = find_none (has_word (defined n)) (reads n) (all_each (has_word (defined n)) (reads n) (read_defined n ts ends shape order));
  order = n.tables;
  ordered = record { permuted = IsPermutation-refl n.tables; ordered = order };
}

pub shaped_is_checked : ShapedIsChecked
shaped_is_checked n shape order = checked n (and_tables n) (end_tables n) (record { split = shape.split; each = shape.each }) order

pub luts_are_checked : LutsAreChecked
luts_are_checked n k shape order = checked n (lut_tables n) (luts.end_tables n) (record { split = shape.split; each = shape.each }) order
