-- What a comparison of graphs says of the names by which their signals are compared.
use Rattle.std.specs.Prelude.{◌≡◌, ℕ, ◌<◌, List, length, ⊤}
use Rattle.syn_netlist.specs.Numbers.{word_at}
use Rattle.syn_cec.specs.declared.equality.Equality.{Equality}
use Rattle.syn_cec.specs.declared.equality.Equality.TheVariants as graphs
use Rattle.syn_compare.specs.declared.answers.Comparison.{Comparison}
use Rattle.syn_compare.specs.declared.answers.Comparison.TheVariants as networks

-- a place that is told is one of so many
abbrev pub IsInside : ℕ → Equality → Type 0
IsInside count graphs.Equivalent = ⊤
IsInside count (graphs.Different signal values) = signal < count
IsInside count (graphs.Undecided signals) = ⊤

-- the same, by the name at the place
abbrev pub IsTold : List (List ℕ) → Equality → Comparison → Type 0
IsTold names graphs.Equivalent networks.Equivalent = ⊤
IsTold names (graphs.Different signal values) (networks.Different name given) = (name ≡ word_at names signal) × (given ≡ values)
IsTold names (graphs.Undecided signals) (networks.Undecided left of) = (left ≡ signals) × (of ≡ length names)
IsTold names equality comparison = ⊥
