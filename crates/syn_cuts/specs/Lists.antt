-- Lists of cuts in parts, with a span for each node.
use Rattle.std.specs.Prelude.{◌≡◌, ◌⊎◌, ℕ, ◌+◌, ◌-◌, ◌<◌, ◌≤◌, List, [], ◌∷◌, ◌++◌, length, map, take, drop, slice_index_or, slice_set}
use Rattle.syn_cuts.specs.declared.found.Entry.{Entry}
use Rattle.syn_cuts.specs.declared.lists.Span.{Span}
use Rattle.syn_rows.specs.declared.Row.{Row}
use Rattle.syn_cuts.specs.Cuts.{listed_cuts}

-- a part of the lists, empty past the last
abbrev pub part_at : List (List (List ℕ)) → ℕ → List (List ℕ)
part_at parts n = slice_index_or parts n []

-- the list that a span covers
abbrev pub cuts_at : List (List (List ℕ)) → Span → List (List ℕ)
cuts_at parts span = take span.len (drop span.start (part_at parts span.part))

-- those of each span
abbrev pub lists_in : List (List (List ℕ)) → List Span → List (List (List ℕ))
lists_in parts spans = map (cuts_at parts) spans

-- a span that ends within its part, which is there
abbrev pub IsWithin : List (List (List ℕ)) → Span → Type 0
IsWithin parts span = (span.part < length parts) × (span.start + span.len ≤ length (part_at parts span.part))

-- an entry that ends within a part
abbrev pub IsInside : List (List ℕ) → Entry → Type 0
IsInside part entry = entry.start + entry.len ≤ length part

-- the node of an entry, and its list in a part
abbrev pub entry_in : List (List ℕ) → Entry → ℕ × List (List ℕ)
entry_in part entry = (entry.node, take entry.len (drop entry.start part))

-- those of each entry
abbrev pub found_in : List (List ℕ) → List Entry → List (ℕ × List (List ℕ))
found_in part entries = map (entry_in part) entries

-- where an entry's list stands, in the part with this number
abbrev pub span_of : ℕ → Entry → Span
span_of part entry = record { part = part; start = entry.start; len = entry.len }

-- spans with that of each entry set in turn
abbrev pub with_spans : ℕ → List Span → List Entry → List Span
with_spans part spans [] = spans
with_spans part spans (e ∷ es) = with_spans part (slice_set spans e.node (span_of part e)) es

-- lists with that of each node that was found set in turn
abbrev pub with_lists : List (List (List ℕ)) → List (ℕ × List (List ℕ)) → List (List (List ℕ))
with_lists lists [] = lists
with_lists lists (f ∷ fs) = with_lists (slice_set lists f.0 f.1) fs

-- the list of a node, empty past the end
abbrev pub list_at : List (List (List ℕ)) → ℕ → List (List ℕ)
list_at lists n = slice_index_or lists n []

-- the cuts but the last
abbrev pub but_last : List (List ℕ) → List (List ℕ)
but_last cuts = take (length cuts - 1) cuts

-- the nontrivial cuts of a node in lists: all but the last, which is the node alone
abbrev pub nontrivial : List (List (List ℕ)) → ℕ → List (List ℕ)
nontrivial lists n = but_last (list_at lists n)

-- the cuts, and then the node alone, are the listed cuts of a node that is there
abbrev pub IsListed : ℕ → List Row → ℕ → List (List ℕ) → Type 0
IsListed k rows node cuts = (node < length rows) × (cuts ++ (node ∷ []) ∷ [] ≡ list_at (listed_cuts k rows) node)

-- a node that is there with its listed cuts
abbrev pub IsFound : ℕ → List Row → ℕ × List (List ℕ) → Type 0
IsFound k rows found = (found.0 < length rows) × (found.1 ≡ list_at (listed_cuts k rows) found.0)

-- Each node has its listed cuts, or none yet.
pub record AreListed (k : ℕ) (rows : List Row) (lists : List (List (List ℕ))) : Type 0 where
  pub count : length lists ≡ length rows
  pub each : (n : ℕ) → n < length rows → (list_at lists n ≡ []) ⊎ (list_at lists n ≡ list_at (listed_cuts k rows) n)
