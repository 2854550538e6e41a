-- Lists of leaves.
use Rattle.std.specs.Prelude.{ℕ, nat_lt, ◌&&◌, Bool, true, List, [], ◌∷◌}
use Rattle.std.specs.List.{list_all}

-- the nodes rise, each above the one before it, the first above this one
abbrev pub rise_above : ℕ → List ℕ → Bool
rise_above low [] = true
rise_above low (n ∷ ns) = nat_lt low n && rise_above n ns

-- each of the nodes is below this one
abbrev pub are_below : ℕ → List ℕ → Bool
are_below high ns = list_all (λ n. nat_lt n high) ns
