-- What the seat knows that rewrites f = ab + ac to a(b + c), between its stages.
use Rattle.std.specs.Prelude.{ℕ}
use Rattle.syn_rows.specs.declared.Row.{Row}
use Rattle.syn_rows.specs.declared.Row.TheVariants.{Free, And, Alias}
use Rattle.syn_rows.specs.declared.Lit.{Lit}
use Rattle.syn_core_laws.specs.declared.View.{View}
use Rattle.syn_core_laws.specs.Views.{claimed, released, row_loaded, pinned, unpinned, key_loaded, key_set, made, redefined, freed}
use Rattle.syn_core_laws.specs.Openings.{empty_view}

abbrev pub lit : ℕ → Lit
lit n = record { 0 = n }

abbrev pub and : ℕ → ℕ → Row
and a b = And (lit a) (lit b)

-- the node is claimed, and its row loaded
abbrev pub taken : View → ℕ → Row → View
taken v n row = row_loaded (claimed v n) n row

-- the node is pinned, and its key loaded
abbrev pub keyed : View → ℕ → ℕ → View
keyed v n key = key_loaded (pinned v n) n key

-- the row is made under this key
abbrev pub made_under : View → ℕ → Row → ℕ → View
made_under v n row key = made (key_set v n key) n row

-- the three ANDs are taken, and two free nodes
abbrev pub all_taken : View
all_taken = taken (taken (taken (taken (taken (empty_view 0) 6 (and 9 11)) 4 (and 2 4)) 5 (and 2 6)) 7 Free) 8 Free

-- node 7 is the AND of the complements of b and c
abbrev pub neither_made : View
neither_made = made_under (keyed (keyed all_taken 2 0) 3 0) 7 (and 5 7) 1

-- node 8 is a(b + c)
abbrev pub product_made : View
product_made = made_under (pinned (keyed neither_made 1 0) 7) 8 (and 2 15) 2

-- node 6 is its complement
abbrev pub root_redefined : View
root_redefined = redefined (key_loaded (pinned product_made 8) 6 8589934592) 6 (and 9 11) (Alias (lit 17))

-- the last pin of the node is taken back, the node is freed, and so are the pins of two inputs
abbrev pub dropped : View → ℕ → Row → ℕ → ℕ → View
dropped v n row a b = unpinned (unpinned (freed (unpinned v n 1) n row) a 0) b 0

-- the two ANDs that nothing refers to are free
abbrev pub both_dropped : View
both_dropped = dropped (dropped root_redefined 4 (and 2 4) 1 2) 5 (and 2 6) 1 3

-- all are let go
abbrev pub all_released : View
all_released = released (released (released (released (released both_dropped 4) 5) 6) 7) 8
