-- Placing from the code's lists, whose new rows only grow in number with the gates.
use Rattle.std.proofs.Common.{◌≡◌, ℕ, zero, suc, ◌+◌, ◌<◌, ◌≤◌, nat_lt, false, true, All, List, [], ◌∷◌, ◌++◌, length, get_or, Option, Some, None, sym, ap, ap₂, ◌∙◌, subst, arith, inl, inr}
use Rattle.std.proofs.lemmas.Bool.{cases_lt, le-ltb, lt-ltb}
use Rattle.std.proofs.lemmas.List.{length_push}
use Rattle.syn_rows.specs.declared.Lit.{Lit}
use Rattle.syn_rows.specs.declared.Row.{Row}
use Rattle.syn_rows.specs.declared.Row.TheVariants.{Free}
use Rattle.syn_rows.specs.declared.TheConstants.{NODE_LIMIT}
use Rattle.syn_rows.specs.Rows.{node_of, AllRefs}
use Rattle.syn_rows.specs.Joining.{constant, lit_of, ordered_and, simple_and}
use Rattle.syn_plan.specs.declared.PLit.{PLit}
use Rattle.syn_gain.specs.Lookups.{ArePlaced}
use Rattle.syn_gain.specs.Placing.{leaf_literals, literal_for, or_else}
use Rattle.syn_gain.specs.Searching.{gate_by, gates_by, or_new, searched, Searched, search_gates, state, there_by}
use Rattle.syn_gain.proofs.Bounds.{leaf_in, literal_in}

-- from the code's lists to those of a plan
pub is_searched : (rows : List Row) (node count : ℕ) (leaves : List ℕ) (gates items : List (PLit × PLit)) (begun literals : List Lit) (extra : List Row)
    → state literals extra ≡ search_gates rows node (state begun []) items → begun ≡ constant ∷ leaf_literals count leaves → items ≡ gates
    → state literals extra ≡ searched rows node count leaves gates
is_searched rows node count leaves gates items begun literals extra done start same_gates =
    done ∙ ap₂ (λ l g. search_gates rows node (state l []) g) start same_gates

pair_grows : (first : ℕ) (extra : List Row) (x y : Lit) (o : Option Lit) → length extra ≤ length (or_new first extra x y o).extra
pair_grows first extra x y (Some l) = omega arith
pair_grows first extra x y None = omega (arith, length_push extra (ordered_and x y))

gates_grow : (f : Lit → Lit → Option Lit) (first : ℕ) (gates : List (PLit × PLit)) (s : Searched) → length s.extra ≤ length (gates_by f first s gates).extra
gates_grow f first [] s = omega arith
gates_grow f first (gate ∷ gates) s =
    let x = literal_for s.literals gate.0 in
    let y = literal_for s.literals gate.1 in
    omega (arith, pair_grows first s.extra x y (or_else (simple_and x y) (there_by f first s.extra x y)), gates_grow f first gates (gate_by f first s gate))

-- where as many rows are new already, all gates make no fewer
pub not_fewer : (f : Lit → Lit → Option Lit) (first limit : ℕ) (left all : List (PLit × PLit)) (begun literals : List Lit) (extra : List Row)
    → gates_by f first (state literals extra) left ≡ gates_by f first (state begun []) all → limit ≤ length extra
    → false ≡ nat_lt (length (gates_by f first (state begun []) all).extra) limit
not_fewer f first limit left all begun literals extra rest enough =
    sym (le-ltb (length (gates_by f first (state begun []) all).extra) limit (omega (arith, enough, gates_grow f first left (state literals extra), ap (λ (s : Searched). length s.extra) rest)))

pair_adds : (first : ℕ) (extra : List Row) (x y : Lit) (o : Option Lit) → length (or_new first extra x y o).extra ≤ length extra + 1
pair_adds first extra x y (Some l) = omega arith
pair_adds first extra x y None = omega (arith, length_push extra (ordered_and x y))

-- each gate adds one row at most
pub gates_are_few : (f : Lit → Lit → Option Lit) (first : ℕ) (gates : List (PLit × PLit)) (s : Searched) → length (gates_by f first s gates).extra ≤ length s.extra + length gates
gates_are_few f first [] s = omega arith
gates_are_few f first (gate ∷ gates) s =
    let x = literal_for s.literals gate.0 in
    let y = literal_for s.literals gate.1 in
    omega (arith, pair_adds first s.extra x y (or_else (simple_and x y) (there_by f first s.extra x y)), gates_are_few f first gates (gate_by f first s gate))

-- so they are fewer than any number above that of the gates
pub all_fewer : (f : Lit → Lit → Option Lit) (first limit : ℕ) (gates : List (PLit × PLit)) (begun : List Lit) → length gates < limit → true ≡ nat_lt (length (gates_by f first (state begun []) gates).extra) limit
all_fewer f first limit gates begun few = sym (lt-ltb (length (gates_by f first (state begun []) gates).extra) limit (omega (arith, few, gates_are_few f first gates (state begun []))))
