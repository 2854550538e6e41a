-- One round of a sweep, by nodes: which latches are needed, which of them load alike, and what becomes of them.
use Rattle.std.specs.Prelude.{◌≡◌, ℕ, ◌+◌, ◌<◌, Bool, true, false, List, [], ◌∷◌, length, slice_index_or, Option, Some, None, ⊤}
pub use Rattle.syn_seq.specs.declared.Fate.{Fate}
pub use Rattle.syn_seq.specs.declared.Fate.TheVariants.{Kept, Merged, Dropped}
use Rattle.syn_rows.specs.Reach.{HasObserved, IsClosed}
use Rattle.syn_netlist.specs.declared.LatchKind.{LatchKind}
use Rattle.syn_netlist.specs.Lists.{Frame, Latch, Netlist}
use Rattle.syn_netlist.specs.Values.{Consistent}
use Rattle.syn_seq.specs.Runs.{free_signals}
use Rattle.syn_seq.specs.Sweeping.{needing_rows, output_lits}

abbrev pub fate_at : List Fate → ℕ → Fate
fate_at fates j = slice_index_or fates j Dropped

-- the latch of no number
abbrev pub no_latch : Latch
no_latch = record { feed = []; output = []; kind = None; init = 2 }

abbrev pub latch_at : Netlist → ℕ → Latch
latch_at n j = slice_index_or n.frame.latches j no_latch

-- the node of a latch
abbrev pub latch_node : Netlist → ℕ → ℕ
latch_node n j = length (free_signals n.frame) + 1 + j

-- merged latches have the values of the ones that they are merged into
abbrev pub HoldMerged : Netlist → List Fate → (List ℕ → Bool) → Type 0
HoldMerged n fates v = (i j : ℕ) → fate_at fates j ≡ Merged i → v (latch_at n j).output ≡ v (latch_at n i).output

-- two signals have one value wherever merged latches do
abbrev pub AreAlike : Netlist → List Fate → List ℕ → List ℕ → Type 0
AreAlike n fates a b = (v : List ℕ → Bool) → Consistent n v → HoldMerged n fates v → v a ≡ v b

-- two kinds of latches are equal, with controls that are alike
abbrev pub KindsAlike : Netlist → List Fate → Option (LatchKind × Option (List ℕ)) → Option (LatchKind × Option (List ℕ)) → Type 0
KindsAlike n fates None None = ⊤
KindsAlike n fates (Some (k, None)) (Some (l, None)) = k ≡ l
KindsAlike n fates (Some (k, Some a)) (Some (l, Some b)) = (k ≡ l) × AreAlike n fates a b
KindsAlike n fates kind other = ⊥

-- One fate is right: a kept latch is needed; a merged one loads like an earlier one, which is kept, and begins with the same value, 0 or 1; a dropped one isn't needed.
abbrev pub IsFate : Netlist → List Fate → (ℕ → Bool) → ℕ → Fate → Type 0
IsFate n fates needed j Kept = needed (latch_node n j) ≡ true
IsFate n fates needed j (Merged i) =
    (i < j) × (fate_at fates i ≡ Kept) × AreAlike n fates (latch_at n i).feed (latch_at n j).feed × KindsAlike n fates (latch_at n i).kind (latch_at n j).kind
    × ((latch_at n i).init ≡ (latch_at n j).init) × ((latch_at n j).init < 2)
IsFate n fates needed j Dropped = needed (latch_node n j) ≡ false

-- The fates of a round: one for each latch, by a set of nodes that has the outputs and, with a node, what that needs.
pub record AreFates (n : Netlist) (fates : List Fate) : Type 0 where
  pub count : length fates ≡ length n.frame.latches
  pub needed : ℕ → Bool
  pub outputs : HasObserved (output_lits n) needed
  pub closed : IsClosed (needing_rows n) needed
  pub right : (j : ℕ) → j < length fates → IsFate n fates needed j (fate_at fates j)

-- the latches that are kept
abbrev pub kept_by : List Fate → List Latch → List Latch
kept_by (Kept ∷ fates) (latch ∷ latches) = latch ∷ kept_by fates latches
kept_by (fate ∷ fates) (latch ∷ latches) = kept_by fates latches
kept_by fates latches = []

-- the frame with the kept latches alone
abbrev pub swept_frame : Frame → List Fate → Frame
swept_frame frame fates = record { model = frame.model; inputs = frame.inputs; clocks = frame.clocks; outputs = frame.outputs; latches = kept_by fates frame.latches }

-- The values of a latch before and afterwards: a kept one keeps its value, a merged one had that of the one that it is merged into, a dropped one was 0.
abbrev pub HasFate : Netlist → List Fate → (List ℕ → Bool) → (List ℕ → Bool) → ℕ → Fate → Type 0
HasFate n fates v w j Kept = v (latch_at n j).output ≡ w (latch_at n j).output
HasFate n fates v w j (Merged i) = v (latch_at n j).output ≡ v (latch_at n i).output
HasFate n fates v w j Dropped = v (latch_at n j).output ≡ false
