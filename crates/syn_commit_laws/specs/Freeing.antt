-- What became of the dying rows: those that changes freed, those that are left, and how many ANDs went.
use Rattle.std.specs.Prelude.{◌≡◌, ◌⊎◌, ℕ, ◌+◌, ◌==◌, ◌&&◌, ◌||◌, not, Bool, true, false, if◌then◌else◌, List, [], ◌∷◌, ◌++◌, Some, None, pos, ◌+ℤ◌}
use Rattle.syn_rows.specs.declared.Row.TheVariants.{Free}
use Rattle.syn_rows.specs.References.{and_count}
use Rattle.syn_fanout_free.specs.Freed.{is_free}
use Rattle.syn_core_laws.specs.declared.View.{View}
use Rattle.syn_core_laws.specs.declared.Change.{Change}
use Rattle.syn_rows.specs.Nodes.{has_node}
use Rattle.syn_core_laws.specs.Views.{known_row, own_refs, own_pins, is_derived_known}
use Rattle.syn_commit_laws.specs.Dying.{OnlyThese, ands_in}

-- the changes free the node
abbrev pub frees : List Change → ℕ → Bool
frees [] n = false
frees (c ∷ cs) n = (is_free c.new && (c.node == n)) || frees cs n

-- the dying rows that the changes have not freed
abbrev pub left : (ℕ → Bool) → List Change → ℕ → Bool
left dying changes n = dying n && not (frees changes n)

-- the ANDs that the changes freed of nodes of the set
abbrev pub ands_freed : (ℕ → Bool) → List Change → ℕ
ands_freed set [] = 0
ands_freed set (c ∷ cs) = (if is_free c.new && set c.node then and_count c.old else 0) + ands_freed set cs

-- late rows: the ANDs that the changes freed beside the dying ones
abbrev pub late : (ℕ → Bool) → List Change → ℕ
late dying = ands_freed (λ n. not (dying n))

-- the changes that are no frees
abbrev pub redefines : List Change → List Change
redefines [] = []
redefines (c ∷ cs) = if is_free c.new then redefines cs else c ∷ redefines cs

-- the ANDs among the old rows, and among the new ones
abbrev pub ands_before : List Change → ℕ
ands_before [] = 0
ands_before (c ∷ cs) = and_count c.old + ands_before cs

abbrev pub ands_after : List Change → ℕ
ands_after [] = 0
ands_after (c ∷ cs) = and_count c.new + ands_after cs

-- the node is known as free, or was let go
abbrev pub IsGone : View → ℕ → Type 0
IsGone v n = (known_row v n ≡ Some Free) ⊎ ((known_row v n ≡ None) × (has_node v.held n ≡ false))

-- Of the dying rows, these are left: each is still the seat's alone and has the row that it had; only the root and rows that are left are known to refer to it; when nothing
-- of the seat's refers to it, it is on the zero list. The others are gone.
pub record AreLeft (nodes root : ℕ) (dying still : ℕ → Bool) (start v : View) : Type 0 where
  pub among : (m : ℕ) → still m ≡ true → dying m ≡ true
  pub soles : (m : ℕ) → still m ≡ true → has_node v.sole m ≡ true
  pub stays : (m : ℕ) → still m ≡ true → known_row v m ≡ known_row start m
  pub only : (m : ℕ) → still m ≡ true → OnlyThese nodes v root still m
  pub idles : (m : ℕ) → still m ≡ true → own_refs nodes v m + own_pins v m ≡ 0 → has_node v.idle m ≡ true
  pub gone : (m : ℕ) → dying m ≡ true → still m ≡ false → IsGone v m

-- What was stored since, and what became of the difference: so many rows were made, and these changes were stored.
pub record IsTold (start : View) (rows_made : ℕ) (changes : List Change) (v : View) : Type 0 where
  pub stored : v.changes ≡ start.changes ++ changes
  pub difference : v.difference +ℤ pos (ands_before changes) ≡ start.difference +ℤ pos (rows_made + ands_after changes)

-- A commit on the way from the loads of counts to the last free: that, the ANDs that died so far, and the dying rows that are left.
pub record IsFreeing (nodes root : ℕ) (dying : ℕ → Bool) (start : View) (rows_made : ℕ) (changes : List Change) (v : View) : Type 0 where
  pub told : IsTold start rows_made changes v
  pub counted : ands_freed dying changes + ands_in nodes start (left dying changes) ≡ ands_in nodes start dying
  pub left_rows : AreLeft nodes root dying (left dying changes) start v

-- The last free is done: all dying rows were freed, as many ANDs among them as were counted.
pub record IsFreed (nodes : ℕ) (dying : ℕ → Bool) (start : View) (changes : List Change) (v : View) : Type 0 where
  pub all : (m : ℕ) → dying m ≡ true → frees changes m ≡ true
  pub gone : (m : ℕ) → dying m ≡ true → IsGone v m
  pub counted : ands_freed dying changes ≡ ands_in nodes start dying
  pub number : ands_freed (λ n. true) changes ≡ ands_in nodes start dying + late dying changes

-- nothing of the seat's refers to the node, and it isn't on the zero list
pub record IsOut (nodes : ℕ) (v : View) (n : ℕ) : Type 0 where
  pub refs : own_refs nodes v n ≡ 0
  pub pins : own_pins v n ≡ 0
  pub idle : has_node v.idle n ≡ false

-- A commit that gives up: the root has the row that it had, a gate's, nothing of the seat's refers to it, nothing was redefined, and no dying row was freed.
pub record IsGivenUp (nodes root : ℕ) (dying : ℕ → Bool) (start : View) (changes : List Change) (v : View) : Type 0 where
  pub freeing : IsFreeing nodes root dying start 0 changes v
  pub root_row : known_row v root ≡ known_row start root
  pub root_gate : is_derived_known (known_row start root) ≡ true
  pub root_out : IsOut nodes v root
  pub none : (m : ℕ) → dying m ≡ true → frees changes m ≡ false
  pub frees_alone : redefines changes ≡ []
