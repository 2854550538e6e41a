-- The divisors of a node over leaves: the leaves, and ANDs below the node of two divisors (Mishchenko and Brayton, "Scalable logic synthesis using a simple circuit structure", IWLS 2006; which are taken, and that there are at most 64, is this project's choice).
use Rattle.std.specs.Prelude.{ℕ, zero, suc, ◌&&◌, ◌||◌, if◌then◌else◌, Bool, false, List, [], ◌∷◌, ◌++◌, take}
use Rattle.syn_rows.specs.declared.Row.{Row}
use Rattle.syn_rows.specs.declared.Row.TheVariants.{Free, Source, And, Alias}
use Rattle.syn_rows.specs.Nodes.{has_node}
use Rattle.syn_rows.specs.Rows.{node_of, row_at}

-- the row is an AND of two of the nodes
abbrev pub joins : List ℕ → Row → Bool
joins nodes Free = false
joins nodes Source = false
joins nodes (And a b) = has_node nodes (node_of a) && has_node nodes (node_of b)
joins nodes (Alias a) = false

-- the node is a leaf, or the AND of two of the nodes
abbrev pub divides : List Row → List ℕ → List ℕ → ℕ → Bool
divides rows leaves nodes n = has_node leaves n || joins nodes (row_at rows n)

-- all divisors below a number, rising: each that is a leaf, or the AND of two divisors before it
abbrev pub divisors_below : List Row → List ℕ → ℕ → List ℕ
divisors_below rows leaves zero = []
divisors_below rows leaves (suc n) =
    if divides rows leaves (divisors_below rows leaves n) n
    then divisors_below rows leaves n ++ n ∷ []
    else divisors_below rows leaves n

-- The divisors of a node: the first 64 of them.
abbrev pub divisors : List Row → List ℕ → ℕ → List ℕ
divisors rows leaves node = take 64 (divisors_below rows leaves node)
