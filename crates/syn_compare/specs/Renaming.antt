-- Rows whose sources take other places.
use Rattle.std.specs.Prelude.{ℕ, suc, Bool, false, List, ◌∷◌, map, slice_index_or}

-- node 0, and the nodes of the sources at these places
abbrev pub nodes_of : List ℕ → List ℕ
nodes_of places = 0 ∷ map (λ place. suc place) places

-- the node at a node's place in a list, past the end the node itself
abbrev pub node_in : List ℕ → ℕ → ℕ
node_in nodes n = slice_index_or nodes n n

-- the values at some places
abbrev pub values_at : List ℕ → List Bool → List Bool
values_at places bits = map (λ place. slice_index_or bits place false) places
