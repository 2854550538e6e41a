-- Rows that are made, and the root's, are events of a commit: what is to die still does.
use Rattle.std.proofs.Common.{◌≡◌, ℕ, suc, ◌+◌, Bool, false, List, [], ◌∷◌, ◌++◌, length, Option, Some, refl, sym, ap, ◌∙◌, subst, arith, append-nil, append_assoc}
use Rattle.std.specs.List.{AllByRecursion}
use Rattle.arrayvec.specs.ArrayVec.{ArrayVec}
use Rattle.syn_rows.specs.declared.Row.{Row}
use Rattle.syn_rows.specs.Rows.{refs_of}
use Rattle.syn_core_laws.specs.declared.View.{View}
use Rattle.syn_core_laws.specs.declared.Change.{Change}
use Rattle.syn_core_laws.specs.declared.EventKind.{EventKind}
use Rattle.syn_core_laws.specs.declared.EventKind.TheVariants as Kind
use Rattle.syn_core_laws.specs.Lists.{look}
use Rattle.syn_core_laws.specs.Views.{known_row}
use Rattle.syn_decide.specs.declared.decisions.NodeRow.{NodeRow}
use Rattle.syn_commit_laws.specs.Dying.{AreDoomed}
use Rattle.syn_commit_laws.specs.Freeing.{IsFreeing}
use Rattle.syn_commit_laws.specs.Turning.{Spares, TurnsAll, change_of}
use Rattle.syn_commit_laws.proofs.Goings.{freeing_goes_on}
use Rattle.syn_commit.specs.Storing.{key_at, makes_row, makes_rows, pins_of, redefines_row}

-- the nodes of these rows don't die, and the rows refer to nothing that does
abbrev pub SparesAll : (ℕ → Bool) → List NodeRow → Type 0
SparesAll dying rows = AllByRecursion (λ r. (dying r.node ≡ false) × Spares dying r.row) rows

module _ (nodes root : ℕ) (dying : ℕ → Bool) (start : View) (doom : AreDoomed nodes root dying start) where
  -- an event that stores no change
  quiet : (v w : View) (k j : ℕ) (changes : List Change) → IsFreeing nodes root dying start (k + j) (changes ++ []) w → IsFreeing nodes root dying start (k + j) changes w
  quiet v w k j changes f = subst (λ cs. IsFreeing nodes root dying start (k + j) cs w) (append-nil changes) f

  pins_free : (v w : View) (k : ℕ) (changes : List Change) (ns : List ℕ) (more : List EventKind) → IsFreeing nodes root dying start k changes v → TurnsAll nodes v (pins_of ns ++ more) w
      → (u : View) × IsFreeing nodes root dying start k changes u × (u.rows ≡ v.rows) × TurnsAll nodes u more w
  pins_free v w k changes [] more f t = (v, f, refl, t)
  pins_free v w k changes (n ∷ ns) more f t =
      let none : k + 0 ≡ k = omega arith in
      let one = subst (λ i. IsFreeing nodes root dying start i changes t.0) none (quiet v t.0 k 0 changes (freeing_goes_on nodes root dying start v t.0 k changes (Kind.Pin n) doom f t.1 tt)) in
      let rest = pins_free t.0 w k changes ns more one t.2 in
      (rest.0, rest.1, rest.2 ∙ ap (λ (y : View). y.rows) t.1, rest.3)

  row_frees : (v w : View) (k : ℕ) (changes : List Change) (n : ℕ) (row : Row) (key : ℕ) (more : List EventKind) → IsFreeing nodes root dying start k changes v → dying n ≡ false → Spares dying row
      → TurnsAll nodes v (makes_row n row key ++ more) w → (u : View) × IsFreeing nodes root dying start (k + 1) changes u × TurnsAll nodes u more w
  row_frees v w k changes n row key more f lives spares t =
      let none : k + 0 ≡ k = omega arith in
      let pinned = pins_free v w k changes (refs_of row) ((Kind.SetKey n key ∷ Kind.Make n row ∷ []) ++ more) f
      (subst (λ (es : List EventKind). TurnsAll nodes v es w) (append_assoc (pins_of (refs_of row)) (Kind.SetKey n key ∷ Kind.Make n row ∷ []) more) t) in
      let keyed = pinned.3 in
      let one = subst (λ i. IsFreeing nodes root dying start i changes keyed.0) none (quiet pinned.0 keyed.0 k 0 changes (freeing_goes_on nodes root dying start pinned.0 keyed.0 k changes (Kind.SetKey n key) doom pinned.1 keyed.1 tt)) in
      let made = keyed.2 in
      (made.0, quiet keyed.0 made.0 k 1 changes (freeing_goes_on nodes root dying start keyed.0 made.0 k changes (Kind.Make n row) doom one made.1 (lives, spares)), made.2)

  rows_free : (low step i : ℕ) (v w : View) (k : ℕ) (changes : List Change) (new : List NodeRow) → IsFreeing nodes root dying start k changes v → SparesAll dying new
      → TurnsAll nodes v (makes_rows low step i new) w → IsFreeing nodes root dying start (k + length new) changes w
  rows_free low step i v w k changes [] f s t = let none : k ≡ k + 0 = omega arith in subst (λ j. IsFreeing nodes root dying start j changes w) none (subst (IsFreeing nodes root dying start k changes) (sym t) f)
  rows_free low step i v w k changes (r ∷ new) f s t =
      let one = row_frees v w k changes r.node r.row (key_at low step i) (makes_rows low step (i + 1) new) f s.0.0 s.0.1 t in
      let rest = rows_free low step (i + 1) one.0 w (k + 1) changes new one.1 s.1 one.2 in
      let same : k + 1 + length new ≡ k + suc (length new) = omega arith in
      subst (λ j. IsFreeing nodes root dying start j changes w) same rest

  root_frees : (v w : View) (k : ℕ) (changes : List Change) (old row : Row) (over : ArrayVec ℕ) → IsFreeing nodes root dying start k changes v → known_row v root ≡ Some old
      → TurnsAll nodes v (redefines_row root row over) w → IsFreeing nodes root dying start k (changes ++ (record { node = root; old = old; new = row }) ∷ []) w
  root_frees v w k changes old row over f was t =
      let none : k + 0 ≡ k = omega arith in
      let pinned = pins_free v w k changes (refs_of row) (Kind.Redefine root row over ∷ []) f t in
      let last = pinned.3 in
      let known : known_row pinned.0 root ≡ Some old = ap (look root) pinned.2 ∙ was in
      let goes = freeing_goes_on nodes root dying start pinned.0 last.0 k changes (Kind.Redefine root row over) doom pinned.1 last.1 refl in
      subst (IsFreeing nodes root dying start k (changes ++ (record { node = root; old = old; new = row }) ∷ [])) (sym last.2)
      (subst (λ i. IsFreeing nodes root dying start i (changes ++ (record { node = root; old = old; new = row }) ∷ []) last.0) none
      (subst (λ (cs : List Change). IsFreeing nodes root dying start (k + 0) (changes ++ cs) last.0) (ap (λ (o : Option Row). change_of root o row) known) goes))

-- Since the loads of counts such rows were made, and the root was redefined: what is to die with the root still is, so many rows were made, and the root's is the one change.
pub stores_free : (nodes root low step : ℕ) (dying : ℕ → Bool) (start v w x : View) (new : List NodeRow) (old row : Row) (over : ArrayVec ℕ)
    → AreDoomed nodes root dying start → IsFreeing nodes root dying start 0 [] v → SparesAll dying new
    → TurnsAll nodes v (makes_rows low step 0 new) w → known_row w root ≡ Some old → TurnsAll nodes w (redefines_row root row over) x
    → IsFreeing nodes root dying start (length new) ((record { node = root; old = old; new = row }) ∷ []) x
stores_free nodes root low step dying start v w x new old row over doom f spares makes was redefines =
    let none : 0 + length new ≡ length new = omega arith in
    root_frees nodes root dying start doom w x (length new) [] old row over
    (subst (λ j. IsFreeing nodes root dying start j [] w) none (rows_free nodes root dying start doom low step 0 v w 0 [] new f spares makes)) was redefines
