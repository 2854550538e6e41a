-- What a commit that stored leaves behind: what it met stays as it was, and its changes are the root's and the frees.
use Rattle.std.proofs.Common.{◌≡◌, ℕ, ◌+◌, ◌≤◌, ◌&&◌, nat_lt, true, if◌then◌else◌, List, [], ◌∷◌, ◌++◌, get_or, length, reverse, arith, refl, sym, ap, ◌∙◌, subst, append_assoc}
use Rattle.std.proofs.lemmas.List.{append_cancel_left}
use Rattle.arrayvec.specs.ArrayVec.{ArrayVec}
use Rattle.syn_rows.specs.declared.Row.{Row}
use Rattle.syn_rows.specs.Rows.{is_derived, refs_of}
use Rattle.syn_core_laws.specs.declared.View.{View}
use Rattle.syn_core_laws.specs.declared.Change.{Change}
use Rattle.syn_core_laws.specs.declared.EventKind.{EventKind}
use Rattle.syn_core_laws.specs.declared.EventKind.TheVariants as Kind
use Rattle.syn_decide.specs.declared.decisions.NodeRow.{NodeRow}
use Rattle.syn_decide.specs.Decided.{Done}
use Rattle.syn_decide.specs.Fold.{State}
use Rattle.syn_decide.specs.Tasks.{Task}
use Rattle.syn_decide.specs.Walk.{nodes_of}
use Rattle.syn_commit_laws.specs.Freeing.{redefines}
use Rattle.syn_commit_laws.specs.Turning.{TurnsAll}
use Rattle.syn_commit.specs.Committed.{IsBooked, old_row, pool_with}
use Rattle.syn_commit.specs.Counts.{dying_by}
use Rattle.syn_commit.specs.Finishing.{FellByGain, HasStored, new_row, root_change}
use Rattle.syn_commit.specs.Giving.{HasGivenUp, pool_after_all}
use Rattle.syn_commit.specs.Making.{HasMade}
use Rattle.syn_commit.specs.Storing.{RedefinesRow, key_at, keyed_rows, makes_row, makes_rows, pins_of}
use Rattle.syn_commit.specs.Walks.{IsOfReads}
use Rattle.syn_commit.proofs.Handing.{makes_stay, reads_stay}
use Rattle.syn_commit.proofs.Joined.{gives_joined}
use Rattle.syn_commit.proofs.Joining.{gate_no_free}
use Rattle.syn_commit.proofs.Listed.{root_makes, rows_make}

-- ---- stores meet nothing
abbrev MeetsNothing : View → View → Type 0
MeetsNothing v w = (w.reads ≡ v.reads) × (w.misses ≡ v.misses)

meets_more : (v u w : View) → MeetsNothing v u → MeetsNothing u w → MeetsNothing v w
meets_more v u w a b = (b.0 ∙ a.0, b.1 ∙ a.1)

same_meets : (v u w : View) → MeetsNothing v w → u ≡ w → MeetsNothing v u
same_meets v u w a e = subst (MeetsNothing v) (sym e) a

pins_meet : (nodes : ℕ) (v w : View) (ns : List ℕ) (more : List EventKind) → TurnsAll nodes v (pins_of ns ++ more) w → (u : View) × MeetsNothing v u × TurnsAll nodes u more w
pins_meet nodes v w [] more t = (v, (refl, refl), t)
pins_meet nodes v w (n ∷ ns) more t = let rest = pins_meet nodes t.0 w ns more t.2 in (rest.0, meets_more v t.0 rest.0 (ap (λ (y : View). y.reads) t.1, ap (λ (y : View). y.misses) t.1) rest.1, rest.2)

row_meets : (nodes : ℕ) (v w : View) (n : ℕ) (row : Row) (key : ℕ) (more : List EventKind) → TurnsAll nodes v (makes_row n row key ++ more) w → (u : View) × MeetsNothing v u × TurnsAll nodes u more w
row_meets nodes v w n row key more t =
    let pinned = pins_meet nodes v w (refs_of row) ((Kind.SetKey n key ∷ Kind.Make n row ∷ []) ++ more)
    (subst (λ (es : List EventKind). TurnsAll nodes v es w) (append_assoc (pins_of (refs_of row)) (Kind.SetKey n key ∷ Kind.Make n row ∷ []) more) t) in
    let keyed = pinned.2 in
    let made = keyed.2 in
    let first = meets_more v pinned.0 keyed.0 pinned.1 (ap (λ (y : View). y.reads) keyed.1, ap (λ (y : View). y.misses) keyed.1) in
    (made.0, meets_more v keyed.0 made.0 first (ap (λ (y : View). y.reads) made.1.3, ap (λ (y : View). y.misses) made.1.3), made.2)

rows_meet : (nodes low step i : ℕ) (v w : View) (new : List NodeRow) → TurnsAll nodes v (makes_rows low step i new) w → MeetsNothing v w
rows_meet nodes low step i v w [] t = (ap (λ (y : View). y.reads) t, ap (λ (y : View). y.misses) t)
rows_meet nodes low step i v w (r ∷ new) t =
    let one = row_meets nodes v w r.node r.row (key_at low step i) (makes_rows low step (i + 1) new) t in
    meets_more v one.0 w one.1 (rows_meet nodes low step (i + 1) one.0 w new one.2)

root_meets : (nodes : ℕ) (v w : View) (n : ℕ) (row : Row) → RedefinesRow nodes v n row w → MeetsNothing v w
root_meets nodes v w n row redefines =
    let over : ArrayVec ℕ = record { items = [] } in
    let pinned = pins_meet nodes v w (refs_of row) (Kind.Redefine n row over ∷ []) (redefines over) in
    let last = pinned.2 in
    let same : w ≡ last.0 = last.2 in
    same_meets v w last.0 (meets_more v pinned.0 last.0 pinned.1 (ap (λ (y : View). y.reads) last.1.5, ap (λ (y : View). y.misses) last.1.5)) same

-- the reads at the end are those at the counts
pub reads_at_end : (t : Task) (s : State) (nodes n : ℕ) (made : List NodeRow) (row : Row) (start counted w v x : View) (pool grown : List ℕ) → IsOfReads t start counted s → HasMade nodes t s made counted w → RedefinesRow nodes w n row v
    → HasGivenUp nodes v pool x grown → IsOfReads t start x s
reads_at_end t s nodes n made row start counted w v x pool grown o m redefines given =
    let none = meets_more counted w v (rows_meet nodes s.low m.step 0 counted w made m.makes) (root_meets nodes w v n row redefines) in
    reads_stay t start v x nodes pool grown s (record { met = o.met; reads = none.0 ∙ o.reads; misses = none.1 ∙ o.misses; state = o.state }) given

-- ---- the changes
-- the root's change frees nothing
root_no_free : (pool : List ℕ) (root : ℕ) (old new : Row) (changes : List Change) → is_derived new ≡ true → pool_with pool (root_change root old new ∷ changes) ≡ pool_with pool changes
root_no_free pool root old new changes gate = ap (λ b. pool_with (if b && nat_lt (length pool) 512 then pool ++ root ∷ [] else pool) changes) (gate_no_free new gate)

-- the row that the walk met first is the first inner row's
pub old_is : (inner : List NodeRow) (first : NodeRow) → 1 ≤ length inner → first ≡ get_or inner 0 first → first.row ≡ old_row inner
old_is [] first some is = absurd (omega (arith, some))
old_is (r ∷ inner) first some is = ap (λ (x : NodeRow). x.row) is

pub booked : (nodes n : ℕ) (t : Task) (s : State) (gain : ℕ) (start counted w v x : View) (made : List NodeRow) (old row : Row) (size : ℕ) (pool kept grown : List ℕ) → counted.makes ≡ start.makes → counted.changes ≡ start.changes → counted.difference ≡ start.difference
    → n ≡ t.proposal.root → old ≡ old_row s.inner → row ≡ new_row t s made → is_derived row ≡ true → HasMade nodes t s made counted w → RedefinesRow nodes w n row v → pool ≡ kept ++ reverse (nodes_of made) → HasStored nodes n (dying_by s) counted old row size gain v
    → HasGivenUp nodes v kept x grown → FellByGain n (dying_by s) counted old row gain x → IsBooked t s (Done gain) start pool x grown
booked nodes n t s gain start counted w v x made old row size pool kept grown same_makes same_changes same_difference root was same gate m redefined taken stored given gained = record {
  makes = keyed_rows s.low m.step 0 made;
  changes = gained.0;
  kept = kept;
  made = makes_stay v x nodes kept grown given ∙ (root_makes nodes w v n row redefined ∙ (rows_make nodes s.low m.step 0 counted w made m.makes ∙ ap (λ ms. ms ++ keyed_rows s.low m.step 0 made) same_makes));
  since = gained.1 ∙ ap (λ cs. cs ++ gained.0) same_changes;
  stored = record {
    made = made;
    makes_these = ap (λ k. keyed_rows s.low k 0 made) m.even;
    taken = taken;
    count = m.rows.count;
    rows = m.rows.are_made.stored;
    root = gained.2 ∙ (ap (λ k. root_change k old row ∷ []) root ∙ (ap (λ o. root_change t.proposal.root o row ∷ []) was ∙ ap (λ new. root_change t.proposal.root (old_row s.inner) new ∷ []) same));
  };
  joined = given.1.2 ∙ (joins.3 ∙ (sym (root_no_free kept n old row joins.0 gate) ∙ ap (pool_with kept) (sym changes_are)));
  fell = gained.3 ∙ same_difference;
}
  where
    joins : (changes : List Change) × (given.0.changes ≡ v.changes ++ changes) × (redefines changes ≡ []) × (pool_after_all kept given.1.0 ≡ pool_with kept changes)
    joins = gives_joined nodes v given.0 given.1.0 kept given.1.1

    changes_are : gained.0 ≡ root_change n old row ∷ joins.0
    changes_are = append_cancel_left counted.changes gained.0 (root_change n old row ∷ joins.0)
        (sym gained.1 ∙ (given.2.changes ∙ (joins.1 ∙ (ap (λ cs. cs ++ joins.0) stored.freeing.told.stored ∙ append_assoc counted.changes (root_change n old row ∷ []) joins.0))))
