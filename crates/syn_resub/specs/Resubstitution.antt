-- The proposals of resubstitution: each form that stands for a node, as a plan.
use Rattle.std.specs.Prelude.{ℕ, zero, suc, ◌+◌, ◌*◌, ◌%◌, ◌==◌, ◌&&◌, not, if◌then◌else◌, Bool, List, [], ◌∷◌, ◌++◌, length, map}
use Rattle.std.specs.List.{position_or_len}
use Rattle.syn_rows.specs.declared.Lit.{Lit}
use Rattle.syn_rows.specs.declared.Row.{Row}
use Rattle.syn_rows.specs.declared.Row.TheVariants.{Free, Source, And, Alias}
use Rattle.syn_rows.specs.Nodes.{has_node}
use Rattle.syn_rows.specs.Rows.{node_of, refs_of, row_at}
use Rattle.syn_plan.specs.declared.PLit.{PLit}
use Rattle.syn_plan.specs.Factoring.{Built}
use Rattle.syn_gain.specs.Replacements.{Replacement}
use Rattle.syn_growing.specs.Growing.{cone_leaves}
use Rattle.syn_growing.specs.Plans.{over}
use Rattle.syn_resub.specs.declared.forms.Form.{Form}
use Rattle.syn_resub.specs.declared.forms.Form.TheVariants.{Constant, One, Both}
use Rattle.syn_resub.specs.Forms.{found_forms}

-- The nodes below n that the nodes need, they among them, but leaves and what only leaves need: rising, each once.
abbrev pub needed_below : List Row → List ℕ → ℕ → List ℕ → List ℕ
needed_below rows leaves zero nodes = []
needed_below rows leaves (suc n) nodes =
    if has_node nodes n && not (has_node leaves n)
    then needed_below rows leaves n (refs_of (row_at rows n) ++ nodes) ++ n ∷ []
    else needed_below rows leaves n nodes

-- the place of a node in a list
abbrev pub place_of : ℕ → List ℕ → ℕ
place_of n nodes = position_or_len (λ m. m == n) nodes

-- the index of a node in a plan over leaves whose first gates are those of these nodes
abbrev pub index_in : List ℕ → List ℕ → ℕ → ℕ
index_in leaves inner n = if has_node leaves n then 1 + place_of n leaves else 1 + length leaves + place_of n inner

-- a sign as a number: 1 complements
abbrev pub sign_bit : Bool → ℕ
sign_bit sign = if sign then 1 else 0

-- a literal as one of the plan
abbrev pub lit_in : List ℕ → List ℕ → Lit → PLit
lit_in leaves inner l = record { 0 = 2 * index_in leaves inner (node_of l) + l.0 % 2 }

-- the gate of a row; only ANDs have one
abbrev pub gate_of : List ℕ → List ℕ → Row → PLit × PLit
gate_of leaves inner Free = (record { 0 = 0 }, record { 0 = 0 })
gate_of leaves inner Source = (record { 0 = 0 }, record { 0 = 0 })
gate_of leaves inner (And a b) = (lit_in leaves inner a, lit_in leaves inner b)
gate_of leaves inner (Alias a) = (record { 0 = 0 }, record { 0 = 0 })

-- the gates of nodes, in their order
abbrev pub gates_of : List Row → List ℕ → List ℕ → List (PLit × PLit)
gates_of rows leaves inner = map (λ n. gate_of leaves inner (row_at rows n)) inner

-- the plan of a literal, over the nodes that it needs
abbrev pub one_plan : List Row → List ℕ → List ℕ → Lit → Built
one_plan rows leaves inner l = record { gates = gates_of rows leaves inner; out = lit_in leaves inner l }

-- that of two: one gate more, behind those of the nodes that they need
abbrev pub both_plan : List Row → List ℕ → List ℕ → Lit → Lit → Bool → Built
both_plan rows leaves inner l m sign = record {
  gates = gates_of rows leaves inner ++ (lit_in leaves inner l, lit_in leaves inner m) ∷ [];
  out = record { 0 = 2 * (1 + length leaves + length inner) + sign_bit sign };
}

-- the plan of a form for a node
abbrev pub plan_for : List Row → List ℕ → ℕ → Form → Built
plan_for rows leaves node (Constant x) = record { gates = []; out = record { 0 = sign_bit x } }
plan_for rows leaves node (One l) = one_plan rows leaves (needed_below rows leaves node (node_of l ∷ [])) l
plan_for rows leaves node (Both l m sign) = both_plan rows leaves (needed_below rows leaves node (node_of l ∷ node_of m ∷ [])) l m sign

-- the proposals over leaves
abbrev pub resubstitutions_over : List Row → List ℕ → ℕ → List Replacement
resubstitutions_over rows leaves node = map (λ form. over node leaves (plan_for rows leaves node form)) (found_forms rows leaves node)

-- The proposals of resubstitution for a node: those over the leaves of its cone.
abbrev pub resubstitutions : List Row → ℕ → List Replacement
resubstitutions rows node = resubstitutions_over rows (cone_leaves rows node) node
