-- Which leaves plans name.
use Rattle.std.specs.Prelude.{◌≡◌, ℕ, ◌+◌, ◌<◌, ◌==◌, ◌&&◌, ◌||◌, nat_le, nat_lt, Bool, true, false, List}
use Rattle.std.specs.List.{list_any, list_all}
use Rattle.syn_plan.specs.declared.PLit.{PLit}
use Rattle.syn_plan.specs.declared.plan.Plan.{Plan}
use Rattle.syn_plan.specs.Gates.{index_of}
use Rattle.syn_plan.specs.Factoring.{Built, depends_on, factored, names_once}

-- the literal is one of leaf i
abbrev pub names : ℕ → PLit → Bool
names i l = index_of l == 1 + i

-- a gate names leaf i
abbrev pub gates_name : ℕ → List (PLit × PLit) → Bool
gates_name i gates = list_any (λ gate. names i gate.0 || names i gate.1) gates

-- a gate or the output names leaf i
abbrev pub built_names : ℕ → Built → Bool
built_names i b = gates_name i b.gates || names i b.out

-- what is built names none of n leaves on whose variable f does not depend
abbrev pub NamesNeeded : ℕ → (List Bool → Bool) → Built → Type 0
NamesNeeded n f b = (i : ℕ) → i < n → depends_on n f i ≡ false → built_names i b ≡ false

-- f depends on no variable behind the first `count`
abbrev pub DependsWithin : ℕ → ℕ → (List Bool → Bool) → Type 0
DependsWithin count n f = (i : ℕ) → i < n → depends_on n f i ≡ true → i < count

-- the literal, in a plan over so many leaves, names no leaf behind the first `count`
abbrev pub names_within : ℕ → ℕ → PLit → Bool
names_within count leaves l = nat_le (index_of l) count || nat_lt leaves (index_of l)

-- both literals of each gate do so
abbrev pub gates_within : ℕ → ℕ → List (PLit × PLit) → Bool
gates_within count leaves gates = list_all (λ gate. names_within count leaves gate.0 && names_within count leaves gate.1) gates

-- neither a gate nor the output names a leaf behind the first `count`
pub record IsWithin (count leaves : ℕ) (b : Built) : Type 0 where
  pub gates : gates_within count leaves b.gates ≡ true
  pub out : names_within count leaves b.out ≡ true

-- the gates and the output of a plan
abbrev pub built_of : Plan → Built
built_of p = record { gates = p.gates.items; out = p.out }

-- Factoring a function, in any order that names each variable once, names only variables on which it depends.
abbrev pub FactoredNames : Type 0
FactoredNames = (n : ℕ) (order : List ℕ) (f : List Bool → Bool) → names_once n order ≡ true → NamesNeeded n f (factored n order f)

-- What names only variables on which a function depends, names none behind the first `count` where the function depends on none of them.
abbrev pub NeededWithin : Type 0
NeededWithin = (count n : ℕ) (f : List Bool → Bool) (b : Built) → NamesNeeded n f b → DependsWithin count n f → IsWithin count n b
