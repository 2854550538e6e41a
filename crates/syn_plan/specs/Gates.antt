-- Literals of a plan, and the values that its gates give.
use Rattle.std.specs.Prelude.{ℕ, ◌+◌, ◌-◌, ◌*◌, ◌/◌, ◌%◌, ◌==◌, ◌&&◌, if◌then◌else◌, nat_lt, not, Bool, true, false, List, [], ◌∷◌, ◌++◌, slice_index_or}
use Rattle.syn_plan.specs.declared.PLit.{PLit}

-- the index that a literal names: 0 is the constant 0, then come the leaves, then the gates
abbrev pub index_of : PLit → ℕ
index_of l = l.0 / 2

-- the plain literal of an index
abbrev pub literal_of : ℕ → PLit
literal_of index = record { 0 = 2 * index }

-- the literal of the same index with the other sign
abbrev pub complement_of : PLit → PLit
complement_of l = record { 0 = if l.0 % 2 == 0 then l.0 + 1 else l.0 - 1 }

-- each gate refers to smaller indexes, where the first gate has index n
abbrev pub in_order : ℕ → List (PLit × PLit) → Bool
in_order n [] = true
in_order n (gate ∷ gates) = nat_lt (index_of gate.0) n && nat_lt (index_of gate.1) n && in_order (n + 1) gates

-- the value of a literal where the indexes have these values
abbrev pub literal_value : List Bool → PLit → Bool
literal_value values l =
    if l.0 % 2 == 0
    then slice_index_or values (index_of l) false
    else not (slice_index_or values (index_of l) false)

-- the values of all indexes after these gates, each of which is the AND of its two literals
abbrev pub values_after : List Bool → List (PLit × PLit) → List Bool
values_after values [] = values
values_after values (gate ∷ gates) =
    values_after (values ++ (literal_value values gate.0 && literal_value values gate.1) ∷ []) gates
