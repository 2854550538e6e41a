-- Worked reads, on a = 1, b = 2, c = 3, 4 = And(2, 4), 5 = And(2, 6), 6 = And(9, 11), observed 13.
-- The proposal for 6 over 1, 2, 3: gates !b & !c and a & !gate1, the output the complement of the second gate.
use Rattle.std.specs.Prelude.{◌≡◌, ℕ, zero, suc, ◌+◌, ◌-◌, ◌*◌, ◌%◌, ◌^◌, Bool, true, false, List, [], ◌∷◌, ◌++◌}
use Rattle.syn_rows.specs.declared.Row.{Row}
use Rattle.syn_rows.specs.declared.Row.TheVariants.{Free, Source, And, Alias}
use Rattle.syn_plan.specs.declared.PLit.{PLit}
use Rattle.syn_core_laws.specs.declared.Seen.{Seen}
use Rattle.syn_core_laws.specs.declared.Seen.TheVariants as seen
use Rattle.syn_decide.specs.declared.decisions.Want.TheVariants as want
use Rattle.syn_gain.specs.Replacements.{Replacement}
use Rattle.syn_decide.specs.Tasks.{Task}
use Rattle.syn_decide.specs.Decided.{Decided, Answered, Next, Unfit, Done, Busy, Reach, Wide, Differs, NoGain, NoGap, NoRoom}
use Rattle.syn_decide.specs.Fold.{decided}

abbrev pub and : ℕ → ℕ → Row
and a b = And (record { 0 = a }) (record { 0 = b })

abbrev pub alias : ℕ → Row
alias a = Alias (record { 0 = a })

abbrev pub gate : ℕ → ℕ → PLit × PLit
gate a b = (record { 0 = a }, record { 0 = b })

-- the proposal, with this output
abbrev pub proposal : ℕ → Replacement
proposal out = record { root = 6; leaves = 1 ∷ 2 ∷ 3 ∷ []; count = 3; gates = gate 5 7 ∷ gate 2 9 ∷ []; out = record { 0 = out } }

-- a proposal to be committed with a pool of so many nodes, where a gain of 0 is not enough
abbrev pub asked : Replacement → ℕ → Task
asked p pool = record { proposal = p; zero_gain = false; pool = pool }

-- the worked proposal, with a pool of so many nodes
abbrev pub task : ℕ → Task
task pool = asked (proposal 11) pool

-- one for 6 over 1 and 2: their AND
abbrev pub narrow : Task
narrow = asked (record { root = 6; leaves = 1 ∷ 2 ∷ []; count = 2; gates = gate 2 4 ∷ []; out = record { 0 = 6 } }) 512

-- the walk: 6, then 4 and 5
abbrev pub walk : List Seen
walk = seen.Row 6 (and 9 11) ∷ seen.Row 4 (and 2 4) ∷ seen.Row 5 (and 2 6) ∷ []

-- the keys of the leaves, which are sources, and of 6
abbrev pub keys : ℕ → List Seen
keys high = seen.Key 1 0 ∷ seen.Key 2 0 ∷ seen.Key 3 0 ∷ seen.Key 6 high ∷ []

-- the counts: each of the three is referred to once
abbrev pub counts : List Seen
counts = seen.Count 6 1 0 ∷ seen.Count 4 1 0 ∷ seen.Count 5 1 0 ∷ []

-- all of a commit's reads with this key of 6, without hints
abbrev pub reads : ℕ → List Seen
reads high = walk ++ keys high ++ counts

-- the key of 6 by its level
abbrev pub spread : ℕ
spread = 2 * 2 ^ 32

-- a hint at 7, which is And(5, 7), of this key
abbrev pub hint : ℕ → List Seen
hint key = seen.Row 7 (and 5 7) ∷ seen.Key 7 key ∷ []

-- The nodes from 9 on of a chain: node 8 is the AND of the inputs 1 and 2, each further one the AND of an input and the complement of the node before it.
abbrev pub link : ℕ → Seen
link j = seen.Row j (and (2 * (j % 7 + 1)) (2 * (j - 1) + 1))

-- the rows of so many nodes of the chain, from node j down
abbrev pub chain : ℕ → ℕ → List Seen
chain zero j = []
chain (suc n) j = link j ∷ chain n (j - 1)

-- a proposal for node j of the chain: input 1
abbrev pub chain_task : ℕ → Task
chain_task j = asked (record { root = j; leaves = 1 ∷ 2 ∷ 3 ∷ 4 ∷ 5 ∷ 6 ∷ 7 ∷ []; count = 7; gates = []; out = record { 0 = 2 } }) 512

-- 15 is the AND of the eight inputs 1 to 8, one after the other, from 9 = And(2, 4) on
abbrev pub eight_walk : List Seen
eight_walk = seen.Row 15 (and 16 28) ∷ seen.Row 14 (and 14 26) ∷ seen.Row 13 (and 12 24) ∷ seen.Row 12 (and 10 22) ∷ seen.Row 11 (and 8 20) ∷ seen.Row 10 (and 6 18) ∷ seen.Row 9 (and 2 4) ∷ []

abbrev pub eight_keys : List Seen
eight_keys = seen.Key 1 0 ∷ seen.Key 2 0 ∷ seen.Key 3 0 ∷ seen.Key 4 0 ∷ seen.Key 5 0 ∷ seen.Key 6 0 ∷ seen.Key 7 0 ∷ seen.Key 8 0 ∷ seen.Key 15 (7 * 2 ^ 32) ∷ []

abbrev pub eight_counts : List Seen
eight_counts = seen.Count 15 1 0 ∷ seen.Count 14 1 0 ∷ seen.Count 13 1 0 ∷ seen.Count 12 1 0 ∷ seen.Count 11 1 0 ∷ seen.Count 10 1 0 ∷ seen.Count 9 1 0 ∷ []

-- the same AND as a tree of seven gates
abbrev pub eight_task : Task
eight_task = asked (record { root = 15; leaves = 1 ∷ 2 ∷ 3 ∷ 4 ∷ 5 ∷ 6 ∷ 7 ∷ 8 ∷ []; count = 8; gates = gate 2 4 ∷ gate 6 8 ∷ gate 10 12 ∷ gate 14 16 ∷ gate 18 20 ∷ gate 22 24 ∷ gate 26 28 ∷ []; out = record { 0 = 30 } }) 512

-- the answer is that an inner row is one too many
abbrev pub is_wide : Decided → Bool
is_wide (Answered (Wide n)) = true
is_wide d = false

pub record Worked : Type 0 where
  -- three rows die, two come
  pub done : decided (task 512) (reads spread) ≡ Answered (Done 1)
  -- the pool is empty
  pub no_room : decided (task 0) (reads spread) ≡ Answered (NoRoom 2 0)
  -- two keys between 0 and 2, and between 0 and 3
  pub no_gap : decided (task 512) (reads 2) ≡ Answered (NoGap 6 0 2 2)
  pub least_gap : decided (task 512) (reads 3) ≡ Answered (Done 1)
  -- the output isn't complemented: the tables are 0xA8 and 0x57
  pub differs : decided (asked (proposal 10) 512) walk
      ≡ Answered (Differs (false ∷ false ∷ false ∷ true ∷ false ∷ true ∷ false ∷ true ∷ []) (true ∷ true ∷ true ∷ false ∷ true ∷ false ∷ true ∷ false ∷ []))
  -- the leaves 1, 2 alone, and the plan a & b: the walk comes to 3, a source
  pub reach : decided narrow (walk ++ seen.Row 3 Source ∷ []) ≡ Answered (Reach 3)
  -- 48 inner rows, and node 8 would be one more
  pub wide : decided (chain_task 56) (chain 48 56) ≡ Answered (Wide 8)
  -- 48 inner rows, node 8 among them, are not too many
  pub last_row : decided (chain_task 55) (chain 47 55) ≡ Next (want.Row 8)
  pub not_wide : is_wide (decided (chain_task 55) (chain 48 55)) ≡ false
  -- the hint is a hit: three rows die, one comes
  pub hit : decided (task 512) (walk ++ keys spread ++ hint (2 ^ 32) ++ counts) ≡ Answered (Done 2)
  -- the root is claimed by another seat, and so is an inner row
  pub busy : decided (task 512) (seen.Miss 6 ∷ []) ≡ Answered (Busy 6)
  pub busy_inside : decided (task 512) (seen.Row 6 (and 9 11) ∷ seen.Miss 4 ∷ []) ≡ Answered (Busy 4)
  -- eight leaves: seven rows die, seven come
  pub eight_leaves : decided eight_task (eight_walk ++ eight_keys ++ eight_counts) ≡ Answered (NoGain 7 7)

-- What comes next, read by read.
pub record NextLoads : Type 0 where
  pub start : decided (task 512) [] ≡ Next (want.Row 6)
  pub first_fan_in : decided (task 512) (seen.Row 6 (and 9 11) ∷ []) ≡ Next (want.Row 4)
  pub second_fan_in : decided (task 512) (seen.Row 6 (and 9 11) ∷ seen.Row 4 (and 2 4) ∷ []) ≡ Next (want.Row 5)
  pub first_key : decided (task 512) walk ≡ Next (want.Key 1)
  pub root_key : decided (task 512) (walk ++ seen.Key 1 0 ∷ seen.Key 2 0 ∷ seen.Key 3 0 ∷ []) ≡ Next (want.Key 6)
  pub first_count : decided (task 512) (walk ++ keys spread) ≡ Next (want.Count 6)
  pub behind_a_hint : decided (task 512) (walk ++ keys spread ++ hint (2 ^ 32)) ≡ Next (want.Count 6)
  pub behind_a_missed_hint : decided (task 512) (walk ++ keys spread ++ seen.Miss 7 ∷ []) ≡ Next (want.Count 6)
  pub second_count : decided (task 512) (walk ++ keys spread ++ seen.Count 6 1 0 ∷ []) ≡ Next (want.Count 4)

-- Reads that fit no step.
pub record NoStep : Type 0 where
  pub other_node : decided (task 512) (seen.Row 5 (and 2 6) ∷ []) ≡ Unfit
  pub key_before_row : decided (task 512) (seen.Key 6 2 ∷ []) ≡ Unfit
  pub keys_not_rising : decided (task 512) (walk ++ seen.Key 2 0 ∷ []) ≡ Unfit
  pub hint_before_keys : decided (task 512) (walk ++ hint 1) ≡ Unfit
  pub key_of_no_row : decided (task 512) (walk ++ keys spread ++ seen.Key 7 1 ∷ []) ≡ Unfit
  pub key_of_another_pair : decided (task 512) (walk ++ keys spread ++ seen.Row 7 (and 4 7) ∷ seen.Key 7 1 ∷ []) ≡ Unfit
  pub key_of_another_node : decided (task 512) (walk ++ keys spread ++ seen.Row 7 (and 5 7) ∷ seen.Key 8 1 ∷ []) ≡ Unfit
  pub key_not_right_behind : decided (task 512) (walk ++ keys spread ++ seen.Row 7 (and 5 7) ∷ seen.Miss 8 ∷ seen.Key 7 1 ∷ []) ≡ Unfit
  pub hint_behind_count : decided (task 512) (walk ++ keys spread ++ seen.Count 6 1 0 ∷ seen.Row 7 (and 5 7) ∷ []) ≡ Unfit
  pub behind_the_answer : decided (task 512) (reads spread ++ seen.Count 6 1 0 ∷ []) ≡ Unfit
  -- 6 and 4 refer to each other
  pub circle : decided (task 512) (seen.Row 6 (and 9 11) ∷ seen.Row 4 (and 2 12) ∷ seen.Row 5 (and 4 6) ∷ []) ≡ Unfit

-- Further answers.
pub record Further : Type 0 where
  -- 4 is referred to once more: two rows die, two come
  pub no_gain : decided (task 512) (walk ++ keys spread ++ seen.Count 6 1 0 ∷ seen.Count 4 2 0 ∷ seen.Count 5 1 0 ∷ []) ≡ Answered (NoGain 2 2)
  -- that is enough where a gain of 0 is
  pub zero_gain : decided (record (task 512) { zero_gain = true }) (walk ++ keys spread ++ seen.Count 6 1 0 ∷ seen.Count 4 2 0 ∷ seen.Count 5 1 0 ∷ []) ≡ Answered (Done 0)
  -- the seat's own pin is no reference of others
  pub own_pin : decided (task 512) (walk ++ keys spread ++ seen.Count 6 1 0 ∷ seen.Count 4 2 1 ∷ seen.Count 5 1 0 ∷ []) ≡ Answered (Done 1)
  -- a hint whose key is not below the root's, or whose row is no pair of a gate, is no hit
  pub high_hint : decided (task 512) (walk ++ keys spread ++ hint spread ++ counts) ≡ Answered (Done 1)
  pub other_hint : decided (task 512) (walk ++ keys spread ++ seen.Row 7 (and 4 7) ∷ [] ++ counts) ≡ Answered (Done 1)
  -- a leaf is no hit
  pub leaf_hint : decided (task 512) (walk ++ keys spread ++ seen.Row 3 (and 5 7) ∷ seen.Key 3 0 ∷ [] ++ counts) ≡ Answered (Done 1)
  -- a fan-in that is free
  pub free_fan_in : decided (task 512) (seen.Row 6 (and 9 11) ∷ seen.Row 4 Free ∷ []) ≡ Answered (Reach 4)
  -- an AND of a and !a over the leaves 1, 2 for a plan that uses both: leaf 2 isn't met
  pub unmet_leaf : decided narrow (seen.Row 6 (and 2 3) ∷ []) ≡ Answered (Reach 2)
  -- once replaced, 6 is an alias of the complement of 8 = And(2, 15), and 7 is And(5, 7): both gates hit, nothing dies and nothing comes
  pub again : decided (task 512) (seen.Row 6 (alias 17) ∷ seen.Row 8 (and 2 15) ∷ seen.Row 7 (and 5 7) ∷ [] ++ keys spread ++ hint 5 ++ seen.Row 8 (and 2 15) ∷ seen.Key 8 6 ∷ [] ++ seen.Count 6 1 0 ∷ seen.Count 8 2 1 ∷ seen.Count 7 2 1 ∷ []) ≡ Answered (NoGain 0 0)
  -- an output that is the last gate, uncomplemented, becomes the root's row: of the two gates one needs a row of its own
  pub root_takes_last : decided (asked (proposal 10) 0) (seen.Row 6 (alias 15) ∷ seen.Row 7 (and 9 11) ∷ seen.Row 4 (and 2 4) ∷ seen.Row 5 (and 2 6) ∷ [] ++ keys spread ++ seen.Count 6 1 0 ∷ seen.Count 7 1 0 ∷ seen.Count 4 1 0 ∷ seen.Count 5 1 0 ∷ []) ≡ Answered (NoRoom 1 0)
