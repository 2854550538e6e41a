-- What latches have alike that can be one, and how it is looked up.
use Rattle.std.specs.Prelude.{◌≡◌, ◌≢◌, ◌⊎◌, ℕ, ◌<◌, ◌≤◌, Bool, true, false, List, length, option_map, Option, Some, None}
use Rattle.syn_rows.specs.declared.Lit.{Lit}
use Rattle.syn_netlist.specs.declared.LatchKind.{LatchKind}
use Rattle.syn_netlist.specs.declared.LatchKind.TheVariants.{Fe, Re, Ah, Al, As}
use Rattle.syn_netlist.specs.declared.Latch.{Latch}
use Rattle.syn_seq.specs.declared.keys.Key.{Key}
use Rattle.syn_seq.specs.declared.keys.Trigger.{Trigger}
use Rattle.syn_seq.specs.declared.keys.Trigger.TheVariants as triggers
use Rattle.syn_seq.specs.Code.{lit_in}
use Rattle.syn_seq.specs.Rounds.{Dropped, Fate, Kept, Merged, fate_at}

abbrev pub trigger_of : LatchKind → Trigger
trigger_of Fe = triggers.Fe
trigger_of Re = triggers.Re
trigger_of Ah = triggers.Ah
trigger_of Al = triggers.Al
trigger_of As = triggers.As

-- when a latch of a kind loads
abbrev pub trigger_in : {A : Type 0} → Option (LatchKind × Option A) → Trigger
trigger_in None = triggers.Untyped
trigger_in (Some (kind, control)) = trigger_of kind

-- the literal of its control
abbrev pub control_in : {A : Type 0} → (A → Lit) → Option (LatchKind × Option A) → Option Lit
control_in lit None = None
control_in lit (Some (kind, control)) = option_map lit control

-- the key of a latch, by the literals of numbers
abbrev pub key_by : List Lit → Latch → Key
key_by lits latch = record { feed = lit_in lits latch.feed; trigger = trigger_in latch.kind; control = control_in (lit_in lits) latch.kind; init = latch.init }

-- What becomes of a latch with a key, by the numbers of the latches that were seen with keys before, and which are seen afterwards: it is dropped where it isn't needed; merged into the one that was seen with the key, where it begins with 0 or 1; and else kept, and seen from now on where it begins so.
abbrev pub IsFound : (Key → Option ℕ) → Bool → Key → ℕ → Fate → (Key → Option ℕ) → Type 0
IsFound old needed key number Kept new =
    (needed ≡ true) × (((2 ≤ key.init) × ((k : Key) → new k ≡ old k)) ⊎ ((old key ≡ None) × (new key ≡ Some number) × ((k : Key) → (k ≡ key) ⊎ (new k ≡ old k))))
IsFound old needed key number (Merged i) new = (key.init < 2) × (old key ≡ Some i) × ((k : Key) → new k ≡ old k)
IsFound old needed key number Dropped new = (needed ≡ false) × ((k : Key) → new k ≡ old k)

-- The numbers of latches that were seen with keys: each stands for a kept latch with its key, and each kept latch's key that begins with 0 or 1 was seen.
pub record IsSeen (keys : ℕ → Key) (fates : List Fate) (seen : Key → Option ℕ) : Type 0 where
  pub kept : (k : Key) (i : ℕ) → seen k ≡ Some i → (i < length fates) × (fate_at fates i ≡ Kept) × (keys i ≡ k)
  pub there : (i : ℕ) → i < length fates → fate_at fates i ≡ Kept → (keys i).init < 2 → seen (keys i) ≢ None

-- One fate is right by keys, and by marks of what is needed.
abbrev pub IsFateBy : (ℕ → Bool) → (ℕ → Key) → List Fate → ℕ → Fate → Type 0
IsFateBy marks keys fates j Kept = marks j ≡ true
IsFateBy marks keys fates j (Merged i) = (i < j) × (fate_at fates i ≡ Kept) × (keys i ≡ keys j) × ((keys j).init < 2)
IsFateBy marks keys fates j Dropped = marks j ≡ false

-- So far all are right, and no two kept latches can be merged.
pub record AreFatesBy (marks : ℕ → Bool) (keys : ℕ → Key) (fates : List Fate) : Type 0 where
  pub right : (j : ℕ) → j < length fates → IsFateBy marks keys fates j (fate_at fates j)
  pub apart : (i j : ℕ) → i < j → j < length fates → fate_at fates i ≡ Kept → fate_at fates j ≡ Kept → (keys j).init < 2 → keys i ≢ keys j
