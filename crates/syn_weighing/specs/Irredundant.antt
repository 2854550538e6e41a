-- Plans that have no gate in vain, and leaves that they name.
use Rattle.std.specs.Prelude.{◌≡◌, ℕ, ◌+◌, ◌<◌, ◌≤◌, ◌==◌, ◌||◌, Bool, true, List, length, slice_index_or}
use Rattle.std.specs.List.{list_any}
use Rattle.syn_plan.specs.declared.PLit.{PLit}
use Rattle.syn_plan.specs.declared.plan.Plan.{Plan}
use Rattle.syn_plan.specs.Gates.{index_of}

-- a gate names an index
abbrev pub gate_names : ℕ → PLit × PLit → Bool
gate_names index gate = index_of gate.0 == index || index_of gate.1 == index

-- a gate or the output names an index
abbrev pub is_named : List (PLit × PLit) → PLit → ℕ → Bool
is_named gates out index = index_of out == index || list_any (gate_names index) gates

-- Each gate is named by a gate or by the output. The first gate has index `base`.
abbrev pub IsLean : ℕ → List (PLit × PLit) → PLit → Type 0
IsLean base gates out = (i : ℕ) → i < length gates → is_named gates out (base + i) ≡ true

-- a plan is such a one
abbrev pub IsIrredundantPlan : Plan → Type 0
IsIrredundantPlan p = IsLean (1 + p.leaves) p.gates.items p.out

-- a gate or the output of a plan names each of its first leaves, of which there are so many
abbrev pub NamesFirst : ℕ → Plan → Type 0
NamesFirst count p = (i : ℕ) → i < count → (i < p.leaves) × (is_named p.gates.items p.out (1 + i) ≡ true)

-- These nodes stand first among a plan's leaves, and a gate or the output names each of them.
pub record AreNamed (p : Plan) (leaves nodes : List ℕ) : Type 0 where
  pub named : NamesFirst (length nodes) p
  pub few : length nodes ≤ length leaves
  pub first : (i : ℕ) → i < length nodes → slice_index_or nodes i 0 ≡ slice_index_or leaves i 0
