-- What the sweep's parts compute, by numbers of names and nodes.
use Rattle.std.specs.Prelude.{◌≡◌, ℕ, zero, suc, ◌+◌, ◌*◌, ◌-◌, ◌%◌, ◌<◌, ◌≤◌, nat_lt, ◌&&◌, if◌then◌else◌, Bool, true, false, List, [], ◌∷◌, ◌++◌, length, map, take, drop, replicate, slice_index_or, Option, Some, None}
use Rattle.std.specs.List.{list_all}
use Rattle.syn_rows.specs.declared.Lit.{Lit}
use Rattle.syn_rows.specs.declared.Row.{Row}
use Rattle.syn_rows.specs.declared.Row.TheVariants.{Free, Source, And, Alias}
use Rattle.syn_rows.specs.Rows.{node_of}
use Rattle.syn_netlist.specs.declared.Latch.{Latch}
use Rattle.syn_netlist.specs.Lists.{Frame, Netlist, observed}
use Rattle.syn_netlist.specs.Kept.{control_number}
use Rattle.syn_netlist.specs.Numbers.{word_at}
use Rattle.syn_netlist.specs.Values.{Consistent}
use Rattle.syn_netlist.specs.Words.{has_word}
use Rattle.syn_network.specs.GraphShape.{and_tables, lit_of}
use Rattle.syn_network.specs.declared.networks.Network.{Network}
use Rattle.syn_network.specs.Written.{network_of}
use Rattle.syn_seq.specs.Runs.{free_signals}
use Rattle.syn_seq.specs.Sequential.{SameSequentially}
use Rattle.syn_seq.specs.Sweeping.{IsSwept}
use Rattle.syn_seq.specs.Rounds.{AreAlike, Dropped, Fate, HasFate, Kept, Merged, fate_at, kept_by, swept_frame}

abbrev pub lit_in : List Lit → ℕ → Lit
lit_in lits i = slice_index_or lits i (record { 0 = 0 })

-- the list has the literal of each observed signal at its number
abbrev pub AreLitsBy : (List ℕ → Lit) → Netlist → List (List ℕ) → List Lit → Type 0
AreLitsBy lit n names lits = (i : ℕ) → i < length names → has_word (observed n.frame) (word_at names i) ≡ true → lit_in lits i ≡ lit (word_at names i)

abbrev pub AreLits : Netlist → List (List ℕ) → List Lit → Type 0
AreLits n names lits = AreLitsBy (lit_of n) n names lits

-- observed signals with equal literals have one value wherever merged latches have one
abbrev pub AreAlikeLits : Netlist → List Fate → List (List ℕ) → List Lit → Type 0
AreAlikeLits n fates names lits =
    (a b : ℕ) → a < length names → b < length names → has_word (observed n.frame) (word_at names a) ≡ true → has_word (observed n.frame) (word_at names b) ≡ true → lit_in lits a ≡ lit_in lits b
    → AreAlike n fates (word_at names a) (word_at names b)

-- what a latch needs, by the literals of numbers
abbrev pub needs_by : List Lit → ℕ → List ℕ → Row
needs_by lits feed [] = Alias (lit_in lits feed)
needs_by lits feed (control ∷ more) = And (lit_in lits feed) (lit_in lits control)

abbrev pub row_by : List Lit → Latch → Row
row_by lits latch = needs_by lits latch.feed (control_number latch.kind)

abbrev pub is_kept : Fate → Bool
is_kept Kept = true
is_kept (Merged i) = false
is_kept Dropped = false

abbrev pub all_kept : List Fate → Bool
all_kept fates = list_all is_kept fates

abbrev pub kept_latches : List Fate → List Latch → List Latch
kept_latches (Kept ∷ fates) (latch ∷ latches) = latch ∷ kept_latches fates latches
kept_latches (fate ∷ fates) (latch ∷ latches) = kept_latches fates latches
kept_latches fates latches = []

abbrev pub place_after : ℕ → List ℕ → ℕ → Fate → ℕ
place_after first places next Kept = next
place_after first places next (Merged i) = slice_index_or places (first + i) 0
place_after first places next Dropped = 0

abbrev pub next_after : ℕ → Fate → ℕ
next_after next Kept = next + 1
next_after next (Merged i) = next
next_after next Dropped = next

-- the places of further latches, behind those before them
abbrev pub places_from : ℕ → ℕ → List ℕ → List Fate → List ℕ
places_from first next places [] = places
places_from first next places (fate ∷ fates) = places_from first (next_after next fate) (places ++ place_after first places next fate ∷ []) fates

abbrev pub up_to : ℕ → List ℕ
up_to zero = []
up_to (suc n) = up_to n ++ n ∷ []

-- where node 0 and the sources move to
abbrev pub place_list : ℕ → List Fate → List ℕ
place_list first fates = places_from first first (up_to first) fates

abbrev pub moved : List ℕ → Lit → Lit
moved places l = if nat_lt (node_of l) (length places) then record { 0 = 2 * slice_index_or places (node_of l) 0 + l.0 % 2 } else l

abbrev pub moved_row : List ℕ → Row → Row
moved_row places Free = Free
moved_row places Source = Source
moved_row places (And a b) = And (moved places a) (moved places b)
moved_row places (Alias a) = Alias (moved places a)

-- observed signals of the one have the values that they have in the other, where latches have their fates
abbrev pub HasValues : Netlist → Netlist → List Fate → Type 0
HasValues n m fates =
    (v w : List ℕ → Bool) → Consistent n v → Consistent m w
    → map v (free_signals n.frame) ≡ map w (free_signals n.frame)
    → ((j : ℕ) → j < length fates → HasFate n fates v w j (fate_at fates j))
    → map v (observed m.frame) ≡ map w (observed m.frame)

-- what one round or more make of a graph
pub record IsPartOf (graph g : Network) : Type 0 where
  pub same : SameSequentially (network_of graph) (network_of g)
  pub fewer : length (and_tables (network_of g)) ≤ length (and_tables (network_of graph))
  pub few : length g.frame.names ≤ length graph.frame.names

-- what one round makes of a graph, where something is left to sweep
pub record IsRound (graph g : Network) : Type 0 where
  pub part : IsPartOf graph g
  pub less : length g.frame.latches < length graph.frame.latches

-- each merged latch is merged into an earlier one
abbrev pub SmallTargets : List Fate → Type 0
SmallTargets fates = (j i : ℕ) → fate_at fates j ≡ Merged i → i < j

-- what a round answers: nothing where nothing is left to sweep, else a graph with fewer latches
abbrev pub Answers : Network → Option Network → Type 0
Answers graph None = IsSwept (network_of graph)
Answers graph (Some g) = IsRound graph g

-- the node of the first latch
abbrev pub first_of : Network → List Fate → ℕ
first_of g fates = g.body.source_count + 1 - length fates

-- the last node of a source that is left
abbrev pub left_of : Network → List Fate → ℕ
left_of g fates = first_of g fates - 1 + length (kept_by fates (network_of g).frame.latches)

-- where node 0 and the sources of a graph move to
abbrev pub places_of : Network → List Fate → List ℕ
places_of g fates = place_list (first_of g fates) fates

-- the frame of a graph with the kept latches alone, in words
abbrev pub swept_of : Network → List Fate → Frame
swept_of g fates = swept_frame (network_of g).frame fates

-- the rows over the sources that are left: no row at the nodes of the others, and each gate at its node
abbrev pub rows_left : ℕ → List Row → List ℕ → List Row
rows_left left rows places = take (left + 1) rows ++ (replicate (length places - (left + 1)) Free ++ map (moved_row places) (drop (length places) rows))

abbrev pub rows_of_left : Network → List Fate → List Row
rows_of_left g fates = rows_left (left_of g fates) g.body.rows (places_of g fates)

-- the literals of the signals that are observed afterwards, before and after sources move
abbrev pub lits_of : Network → List Fate → List Lit
lits_of g fates = map (lit_of (network_of g)) (observed (swept_of g fates))

abbrev pub lits_left : Network → List Fate → List Lit
lits_left g fates = map (moved (places_of g fates)) (lits_of g fates)

-- a latch that is merged is so into an earlier one that is kept
abbrev pub is_target : List Fate → ℕ → Fate → Bool
is_target fates number Kept = true
is_target fates number (Merged i) = nat_lt i number && is_kept (fate_at fates i)
is_target fates number Dropped = true

abbrev pub AreTargets : List Fate → Type 0
AreTargets fates = (j i : ℕ) → fate_at fates j ≡ Merged i → (i < j) × (fate_at fates i ≡ Kept)

-- the node that stands for a latch where merged latches are one
abbrev pub merged_place : ℕ → ℕ → Fate → ℕ
merged_place first number Kept = first + number
merged_place first number (Merged i) = first + i
merged_place first number Dropped = first + number

abbrev pub merged_from : ℕ → ℕ → List Fate → List ℕ
merged_from first number [] = []
merged_from first number (fate ∷ fates) = merged_place first number fate ∷ merged_from first (number + 1) fates

-- the nodes that stand for node 0 and the sources
abbrev pub merged_places : ℕ → List Fate → List ℕ
merged_places first fates = up_to first ++ merged_from first 0 fates
