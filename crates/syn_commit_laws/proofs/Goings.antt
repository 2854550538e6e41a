-- From the loads of counts to the last free: how it begins, goes on and ends.
use Rattle.std.proofs.Common.{◌≡◌, ℕ, ◌+◌, ◌<◌, ◌&&◌, not, Bool, true, false, if◌then◌else◌, List, [], ◌∷◌, ◌++◌, Option, Some, None, refl, sym, ap, ◌∙◌, subst, arith, inl, inr, ℤ, pos, ◌+ℤ◌, append-nil, append_assoc}
use Rattle.std.proofs.lemmas.Bool.{cases_eq, both_ways}
use Rattle.std.proofs.lemmas.Int.{ints}
use Rattle.syn_rows.specs.declared.Row.{Row}
use Rattle.syn_rows.specs.declared.Row.TheVariants.{Free, Source, And, Alias}
use Rattle.syn_rows.specs.References.{and_count}
use Rattle.syn_core_laws.specs.declared.View.{View}
use Rattle.syn_core_laws.specs.declared.Change.{Change}
use Rattle.syn_core_laws.specs.declared.EventKind.{EventKind}
use Rattle.syn_core_laws.specs.declared.EventKind.TheVariants as Kind
use Rattle.syn_rows.specs.Rows.{is_derived}
use Rattle.syn_core_laws.specs.Views.{is_derived_known, known_row, claimed, missed, released, row_loaded, pinned, unpinned, count_loaded, key_loaded, key_set, made, redefined, freed}
use Rattle.syn_commit_laws.specs.Dying.{AreDoomed, ands_in}
use Rattle.syn_commit_laws.specs.Turning.{Turns, Commits, change_of, stored_by, made_by, makes, TurnsAll, CommitsAll}
use Rattle.syn_fanout_free.specs.Freed.{is_free}
use Rattle.syn_commit_laws.specs.Freeing.{frees, left, ands_freed, late, redefines, ands_before, ands_after, AreLeft, IsGone, IsTold, IsFreeing}
use Rattle.syn_commit_laws.specs.Laws.{TellingBegins, TellingGoesOn, DifferencesTell, RedefinesAppend, FreesAddNone, RedefinesAddOne, ListsTell, FreeingBegins, FreeingGoesOn, FreeingEnds, FreedTellGain, CommitsFree}
use Rattle.syn_commit_laws.proofs.Lasting.{left_pinned, left_unpinned, left_counted, left_keyed, left_key_set, left_released, left_made, left_redefined, left_freed, next_left, left_first, left_same}
use Rattle.syn_commit_laws.proofs.Numbers.{freed_append, before_append, after_append, before_parts, after_parts, freed_parts, left_kept, left_else, left_here, left_less, left_rest, ands_same, ands_none, ands_less, zero_more, more_sum, stored_sum, redefined_sum, freed_sum, whole_sum}
use Rattle.syn_commit_laws.proofs.Numbers as Numbers

-- ---- differences, whatever a seat does
pub telling_begins : TellingBegins
telling_begins start = record { stored = sym (append-nil start.changes); difference = refl }

module _ (start v : View) (rows_made : ℕ) (changes : List Change) (told : IsTold start rows_made changes v) where
  -- nothing is stored but a row that is made
  told_same : (w : View) (k : ℕ) → w.changes ≡ v.changes → w.difference ≡ v.difference +ℤ pos k → IsTold start (rows_made + k) (changes ++ []) w
  told_same w k same more = subst (λ cs. IsTold start (rows_made + k) cs w) (sym (append-nil changes)) record {
    stored = same ∙ told.stored;
    difference = more_sum v.difference w.difference start.difference (ands_before changes) (ands_after changes) rows_made k told.difference more;
  }

  -- a change is stored
  told_stored : (w : View) (c : Change) → w.changes ≡ v.changes ++ c ∷ [] → w.difference +ℤ pos (and_count c.old + 0) ≡ v.difference +ℤ pos (0 + (and_count c.new + 0))
      → IsTold start (rows_made + 0) (changes ++ c ∷ []) w
  told_stored w c is sum = record {
    stored = is ∙ (ap (λ cs. cs ++ c ∷ []) told.stored ∙ append_assoc start.changes changes (c ∷ []));
    difference = stored_sum v.difference w.difference start.difference (ands_before changes) (ands_after changes) (and_count c.old + 0) (and_count c.new + 0) rows_made 0
        (ands_before (changes ++ c ∷ [])) (ands_after (changes ++ c ∷ [])) told.difference sum (before_append changes (c ∷ [])) (after_append changes (c ∷ []));
  }

  abbrev After : EventKind → View → Type 0
  After e w = IsTold start (rows_made + made_by e) (changes ++ stored_by v e) w

  tell_on : (nodes : ℕ) (w : View) (e : EventKind) → Turns nodes v e w → After e w
  tell_on nodes w (Kind.Claim n) t = subst (After (Kind.Claim n)) (sym t) (told_same (claimed v n) 0 refl (zero_more v.difference))
  tell_on nodes w (Kind.ClaimFailed n) t = subst (After (Kind.ClaimFailed n)) (sym t) (told_same (missed v n) 0 refl (zero_more v.difference))
  tell_on nodes w (Kind.Release n) t = subst (After (Kind.Release n)) (sym t) (told_same (released v n) 0 refl (zero_more v.difference))
  tell_on nodes w (Kind.LoadRow n) t = subst (After (Kind.LoadRow n)) (sym t.1) (told_same (row_loaded v n t.0) 0 refl (zero_more v.difference))
  tell_on nodes w (Kind.Pin n) t = subst (After (Kind.Pin n)) (sym t) (told_same (pinned v n) 0 refl (zero_more v.difference))
  tell_on nodes w (Kind.Unpin n) t = subst (After (Kind.Unpin n)) (sym t.3) (told_same (unpinned v n t.0) 0 refl (zero_more v.difference))
  tell_on nodes w (Kind.LoadCount n) t = subst (After (Kind.LoadCount n)) (sym t.2) (told_same (count_loaded nodes v n t.0) 0 refl (zero_more v.difference))
  tell_on nodes w (Kind.LoadKey n) t = subst (After (Kind.LoadKey n)) (sym t.1) (told_same (key_loaded v n t.0) 0 refl (zero_more v.difference))
  tell_on nodes w (Kind.SetKey n key) t = subst (After (Kind.SetKey n key)) (sym t) (told_same (key_set v n key) 0 refl (zero_more v.difference))
  tell_on nodes w (Kind.Make n row) t = subst (After (Kind.Make n row)) (sym t.3) (told_same (made v n row) 1 refl refl)
  tell_on nodes w (Kind.Redefine n row over) t =
      subst (After (Kind.Redefine n row over)) (sym t.5) (subst (λ o. IsTold start (rows_made + 0) (changes ++ change_of n o row) (redefined v n t.0 row)) (sym t.2)
      (told_stored (redefined v n t.0 row) (record { node = n; old = t.0; new = row }) refl (redefined_sum v.difference (and_count t.0) (and_count row))))
  tell_on nodes w (Kind.Free n) t =
      subst (After (Kind.Free n)) (sym t.6) (subst (λ o. IsTold start (rows_made + 0) (changes ++ change_of n o Free) (freed v n t.0)) (sym t.2)
      (told_stored (freed v n t.0) (record { node = n; old = t.0; new = Free }) refl (freed_sum v.difference (and_count t.0))))

pub telling_goes_on : TellingGoesOn
telling_goes_on nodes start v w rows_made changes e told t = tell_on start v rows_made changes told nodes w e t

pub differences_tell : DifferencesTell
differences_tell start v rows_made changes set told =
    whole_sum v.difference start.difference (ands_before changes) (ands_after changes) rows_made (ands_freed set changes) (late set changes) (ands_before (redefines changes)) (ands_after (redefines changes))
    told.difference (before_parts set changes) (after_parts changes)

pub redefines_append : RedefinesAppend
redefines_append xs ys = Numbers.redefines_append xs ys

pub frees_add_none : FreesAddNone
frees_add_none v n changes = redefines_append changes (stored_by v (Kind.Free n)) ∙ (ap (λ cs. redefines changes ++ cs) (none (known_row v n)) ∙ append-nil (redefines changes))
  where
    none : (o : Option Row) → redefines (change_of n o Free) ≡ []
    none None = refl
    none (Some r) = refl

pub redefines_add_one : RedefinesAddOne
redefines_add_one v n old row over changes was gate =
    redefines_append changes (stored_by v (Kind.Redefine n row over)) ∙ ap (λ cs. redefines changes ++ cs) (ap (λ o. redefines (change_of n o row)) was ∙ used row gate)
  where
    used : (r : Row) → is_derived r ≡ true → redefines ((record { node = n; old = old; new = r }) ∷ []) ≡ (record { node = n; old = old; new = r }) ∷ []
    used Free h = absurd (cc)
    used Source h = refl
    used (And a b) h = refl
    used (Alias a) h = refl

lists_go : (nodes : ℕ) (start v w : View) (rows_made : ℕ) (changes : List Change) (es : List EventKind) → IsTold start rows_made changes v → TurnsAll nodes v es w
    → (all : List Change) × IsTold start (rows_made + makes es) all w
lists_go nodes start v w rows_made changes [] told run =
    let same : rows_made ≡ rows_made + 0 = omega arith in
    (changes, subst (λ k. IsTold start k changes w) same (subst (λ z. IsTold start rows_made changes z) (sym run) told))
lists_go nodes start v w rows_made changes (e ∷ es) told run =
    let rest : (all : List Change) × IsTold start (rows_made + made_by e + makes es) all w =
    lists_go nodes start run.0 w (rows_made + made_by e) (changes ++ stored_by v e) es (telling_goes_on nodes start v run.0 rows_made changes e told run.1) run.2 in
    let same : rows_made + made_by e + makes es ≡ rows_made + (made_by e + makes es) = omega arith in
    (rest.0, subst (λ k. IsTold start k rest.0 w) same rest.1)

pub lists_tell : ListsTell
lists_tell nodes v w es run =
    let none : 0 + makes es ≡ makes es = omega arith in
    let t : (all : List Change) × IsTold v (0 + makes es) all w = lists_go nodes v v w 0 [] es (telling_begins v) run in
    (t.0, subst (λ k. IsTold v k t.0 w) none t.1)

-- ---- the beginning
pub freeing_begins : FreeingBegins
freeing_begins nodes root dying start doom = record {
  told = telling_begins start;
  counted = let same : ands_in nodes start (left dying []) ≡ ands_in nodes start dying = ands_same nodes start (left dying []) dying (λ m. all_left (dying m)) in omega arith;
  left_rows = left_first nodes root dying (left dying []) start doom (λ m. all_left (dying m));
}
  where
    all_left : (b : Bool) → (b && true) ≡ b
    all_left true = refl
    all_left false = refl

-- ---- one event
gate_no_free : (r : Row) → is_derived r ≡ true → is_free r ≡ false
gate_no_free Free h = absurd (cc)
gate_no_free Source h = refl
gate_no_free (And a b) h = refl
gate_no_free (Alias a) h = refl

gone_no_gate : (v : View) (n : ℕ) → IsGone v n → is_derived_known (known_row v n) ≡ false
gone_no_gate v n (inl free) = ap is_derived_known free
gone_no_gate v n (inr off) = ap is_derived_known off.0

module _ (nodes root : ℕ) (dying : ℕ → Bool) (start v : View) (rows_made : ℕ) (changes : List Change) (doom : AreDoomed nodes root dying start) (f : IsFreeing nodes root dying start rows_made changes v) where
  abbrev Goes : EventKind → View → Type 0
  Goes e w = IsFreeing nodes root dying start (rows_made + made_by e) (changes ++ stored_by v e) w

  -- nothing is stored
  goes_same : (e : EventKind) (w : View) → stored_by v e ≡ [] → Turns nodes v e w → AreLeft nodes root dying (left dying changes) start w → Goes e w
  goes_same e w nothing t rows =
      let told : IsTold start (rows_made + made_by e) (changes ++ stored_by v e) w = telling_goes_on nodes start v w rows_made changes e f.told t in
      let same : changes ++ stored_by v e ≡ changes = ap (λ cs. changes ++ cs) nothing ∙ append-nil changes in
      record {
        told = told;
        counted = subst (λ cs. ands_freed dying cs + ands_in nodes start (left dying cs) ≡ ands_in nodes start dying) (sym same) f.counted;
        left_rows = subst (λ cs. AreLeft nodes root dying (left dying cs) start w) (sym same) rows;
      }

  -- a change is stored
  goes_stored : (e : EventKind) (w : View) (c : Change) → stored_by v e ≡ c ∷ [] → Turns nodes v e w
      → ands_freed dying (c ∷ []) + ands_in nodes start (left dying (changes ++ c ∷ [])) ≡ ands_in nodes start (left dying changes)
      → AreLeft nodes root dying (left dying (changes ++ c ∷ [])) start w → Goes e w
  goes_stored e w c one t count rows =
      let told : IsTold start (rows_made + made_by e) (changes ++ stored_by v e) w = telling_goes_on nodes start v w rows_made changes e f.told t in
      let both : ands_freed dying (changes ++ c ∷ []) ≡ ands_freed dying changes + ands_freed dying (c ∷ []) = freed_append dying changes (c ∷ []) in
      let was : ands_freed dying changes + ands_in nodes start (left dying changes) ≡ ands_in nodes start dying = f.counted in
      let is : ands_freed dying (changes ++ c ∷ []) + ands_in nodes start (left dying (changes ++ c ∷ [])) ≡ ands_in nodes start dying = omega arith in
      record {
        told = told;
        counted = subst (λ cs. ands_freed dying (changes ++ cs) + ands_in nodes start (left dying (changes ++ cs)) ≡ ands_in nodes start dying) (sym one) is;
        left_rows = subst (λ cs. AreLeft nodes root dying (left dying (changes ++ cs)) start w) (sym one) rows;
      }

  goes_redefined : (e : EventKind) (w : View) (n : ℕ) (old row : Row) → stored_by v e ≡ (record { node = n; old = old; new = row }) ∷ [] → Turns nodes v e w
      → AreLeft nodes root dying (left dying changes) start w → is_derived row ≡ true → Goes e w
  goes_redefined e w n old row one t rows gate =
      let c : Change = record { node = n; old = old; new = row } in
      let used : is_free row ≡ false = gate_no_free row gate in
      let same : (m : ℕ) → left dying (changes ++ c ∷ []) m ≡ left dying changes m = left_kept dying changes c used in
      let none : ands_freed dying (c ∷ []) ≡ 0 = ap (λ b. (if b && dying n then and_count old else 0) + 0) used in
      let count : ands_in nodes start (left dying (changes ++ c ∷ [])) ≡ ands_in nodes start (left dying changes) = ands_same nodes start (left dying (changes ++ c ∷ [])) (left dying changes) same in
      goes_stored e w c one t (omega arith) (left_same nodes root dying (left dying changes) (left dying (changes ++ c ∷ [])) start w same rows)

  goes_freed : (e : EventKind) (w : View) (n : ℕ) (old : Row) → stored_by v e ≡ (record { node = n; old = old; new = Free }) ∷ [] → Turns nodes v e w
      → AreLeft nodes root dying (left dying (changes ++ (record { node = n; old = old; new = Free }) ∷ [])) start w
      → n < nodes → known_row v n ≡ Some old → is_derived old ≡ true → Goes e w
  goes_freed e w n old one t rows lt was gate =
      let c : Change = record { node = n; old = old; new = Free } in
      goes_stored e w c one t (counts c refl refl refl (left dying changes n) refl (dying n) refl) rows
    where
      counts : (c : Change) → c.node ≡ n → c.old ≡ old → c.new ≡ Free → (s : Bool) → left dying changes n ≡ s → (d : Bool) → dying n ≡ d
          → ands_freed dying (c ∷ []) + ands_in nodes start (left dying (changes ++ c ∷ [])) ≡ ands_in nodes start (left dying changes)
      counts c at o free true es d ed =
          let die : dying n ≡ true = f.left_rows.among n es in
          let one : ands_freed dying (c ∷ []) ≡ and_count old =
          ap (λ b. (if b && dying c.node then and_count c.old else 0) + 0) (ap is_free free) ∙ (ap (λ b. (if b then and_count c.old else 0) + 0) (ap dying at ∙ die) ∙ plus_none (and_count c.old) (and_count old) (ap and_count o)) in
          let less : and_count old + ands_in nodes start (left dying (changes ++ c ∷ [])) ≡ ands_in nodes start (left dying changes) =
          ands_less nodes start (left dying changes) (left dying (changes ++ c ∷ [])) n old lt (sym (f.left_rows.stays n es) ∙ was) es
          (ap (left dying (changes ++ c ∷ [])) (sym at) ∙ left_here dying changes c (ap is_free free))
          (λ m ne. left_else dying changes c m (λ e. ne (e ∙ at))) in
          omega arith
        where
          plus_none : (x y : ℕ) → x ≡ y → x + 0 ≡ y
          plus_none x y e = omega arith
      counts c at o free false es true ed =
          absurd (both_ways (is_derived_known (known_row v n)) (gone_no_gate v n (f.left_rows.gone n ed es)) (ap is_derived_known was ∙ gate))
      counts c at o free false es false ed =
          let none : ands_freed dying (c ∷ []) ≡ 0 =
          ap (λ b. (if b && dying c.node then and_count c.old else 0) + 0) (ap is_free free) ∙ ap (λ b. (if b then and_count c.old else 0) + 0) (ap dying at ∙ ed) in
          let same : ands_in nodes start (left dying (changes ++ c ∷ [])) ≡ ands_in nodes start (left dying changes) =
          ands_same nodes start (left dying (changes ++ c ∷ [])) (left dying changes) (λ m. elim (cases_eq m c.node) [
            | inl e ↦ ap (left dying (changes ++ c ∷ [])) e ∙ (left_here dying changes c (ap is_free free) ∙ (sym es ∙ ap (left dying changes) (sym (e ∙ at))))
            | inr ne ↦ left_else dying changes c m ne
          ]) in
          omega arith

  abbrev Stay : View → Type 0
  Stay w = AreLeft nodes root dying (left dying changes) start w

  goes_on : (w : View) (e : EventKind) → Turns nodes v e w → Commits root dying v e → Goes e w
  goes_on w (Kind.Claim n) t c = absurd c
  goes_on w (Kind.ClaimFailed n) t c = absurd c
  goes_on w (Kind.Release n) t c = goes_same (Kind.Release n) w refl t (subst Stay (sym t) (left_released nodes root dying (left dying changes) start v doom f.left_rows n c))
  goes_on w (Kind.LoadRow n) t c = absurd c
  goes_on w (Kind.Pin n) t c = goes_same (Kind.Pin n) w refl t (subst Stay (sym t) (left_pinned nodes root dying (left dying changes) start v doom f.left_rows n))
  goes_on w (Kind.Unpin n) t c = goes_same (Kind.Unpin n) w refl t (subst Stay (sym t.3) (left_unpinned nodes root dying (left dying changes) start v doom f.left_rows n t.0 t.1 t.2))
  goes_on w (Kind.LoadCount n) t c = goes_same (Kind.LoadCount n) w refl t (subst Stay (sym t.2) (left_counted nodes root dying (left dying changes) start v doom f.left_rows n t.0))
  goes_on w (Kind.LoadKey n) t c = goes_same (Kind.LoadKey n) w refl t (subst Stay (sym t.1) (left_keyed nodes root dying (left dying changes) start v doom f.left_rows n t.0))
  goes_on w (Kind.SetKey n key) t c = goes_same (Kind.SetKey n key) w refl t (subst Stay (sym t) (left_key_set nodes root dying (left dying changes) start v doom f.left_rows n key))
  goes_on w (Kind.Make n row) t c = goes_same (Kind.Make n row) w refl t (subst Stay (sym t.3) (left_made nodes root dying (left dying changes) start v doom f.left_rows n row t.0 t.1 t.2 c.0 c.1))
  goes_on w (Kind.Redefine n row over) t c =
      goes_redefined (Kind.Redefine n row over) w n t.0 row (ap (λ o. change_of n o row) t.2) t
      (subst Stay (sym t.5) (left_redefined nodes root dying (left dying changes) start v doom f.left_rows n t.0 row t.1 t.2 t.4 c)) t.3
  goes_on w (Kind.Free n) t c =
      let gone : Change = record { node = n; old = t.0; new = Free } in
      goes_freed (Kind.Free n) w n t.0 (ap (λ o. change_of n o Free) t.2) t
      (subst (λ z. AreLeft nodes root dying (left dying (changes ++ gone ∷ [])) start z) (sym t.6)
      (left_freed nodes root dying (left dying changes) start v doom f.left_rows (left dying (changes ++ gone ∷ [])) n t.0 t.1 t.2 (left_less dying changes gone refl) (left_rest dying changes gone)))
      t.1 t.2 t.3

pub freeing_goes_on : FreeingGoesOn
freeing_goes_on nodes root dying start v w rows_made changes e doom f t c = goes_on nodes root dying start v rows_made changes doom f w e t c

-- ---- the end
freed_since : (dies freed : Bool) → (dies && not freed) ≡ false → dies ≡ true → freed ≡ true
freed_since true true h d = refl
freed_since true false h d = absurd (cc)
freed_since false freed h d = absurd (cc)

pub freeing_ends : FreeingEnds
freeing_ends nodes root dying start v rows_made changes doom f pins idle no_circle spares =
    let none : (m : ℕ) → left dying changes m ≡ false = no_circle (left dying changes) (next_left nodes root dying (left dying changes) start v doom f.left_rows pins idle spares) in
    let no_ands : ands_in nodes start (left dying changes) ≡ 0 = ands_none nodes start (left dying changes) none in
    let was : ands_freed dying changes + ands_in nodes start (left dying changes) ≡ ands_in nodes start dying = f.counted in
    let parts : ands_freed (λ n. true) changes ≡ ands_freed dying changes + late dying changes = freed_parts dying changes in
    record {
      all = λ m d. freed_since (dying m) (frees changes m) (none m) d;
      gone = λ m d. f.left_rows.gone m d (none m);
      counted = omega arith;
      number = omega arith;
    }

pub freed_tell_gain : FreedTellGain
freed_tell_gain nodes root dying start v rows_made changes old new g told f one gain =
    let before : ands_before (redefines changes) ≡ and_count old + 0 = ap ands_before one in
    let after : ands_after (redefines changes) ≡ and_count new + 0 = ap ands_after one in
    go v.difference start.difference (ands_freed dying changes) (ands_in nodes start dying) (late dying changes) (ands_before (redefines changes)) (ands_after (redefines changes)) rows_made (and_count old) (and_count new) g
    (differences_tell start v rows_made changes dying told) f.counted before after gain
  where
    go : (x s : ℤ) (f d l b a m o r g : ℕ) → x +ℤ pos (f + l + b) ≡ s +ℤ pos (m + a) → f ≡ d → b ≡ o + 0 → a ≡ r + 0 → o + d ≡ m + r + g → x +ℤ pos (g + l) ≡ s
    go x s f d l b a m o r g p q e h k = omega (arith, ints)

-- ---- lists of events
commits_go : (nodes root : ℕ) (dying : ℕ → Bool) (start v w : View) (rows_made : ℕ) (changes : List Change) (es : List EventKind) → AreDoomed nodes root dying start
    → IsFreeing nodes root dying start rows_made changes v → CommitsAll nodes root dying v es w → (all : List Change) × IsFreeing nodes root dying start (rows_made + makes es) all w
commits_go nodes root dying start v w rows_made changes [] doom f run =
    let same : rows_made ≡ rows_made + 0 = omega arith in
    (changes, subst (λ k. IsFreeing nodes root dying start k changes w) same (subst (λ z. IsFreeing nodes root dying start rows_made changes z) (sym run) f))
commits_go nodes root dying start v w rows_made changes (e ∷ es) doom f run =
    let rest : (all : List Change) × IsFreeing nodes root dying start (rows_made + made_by e + makes es) all w =
    commits_go nodes root dying start run.0 w (rows_made + made_by e) (changes ++ stored_by v e) es doom (freeing_goes_on nodes root dying start v run.0 rows_made changes e doom f run.1 run.2) run.3 in
    let same : rows_made + made_by e + makes es ≡ rows_made + (made_by e + makes es) = omega arith in
    (rest.0, subst (λ k. IsFreeing nodes root dying start k rest.0 w) same rest.1)

pub commits_free : CommitsFree
commits_free nodes root dying start v es doom run pins idle no_circle spares =
    let none : 0 + makes es ≡ makes es = omega arith in
    let t : (all : List Change) × IsFreeing nodes root dying start (0 + makes es) all v = commits_go nodes root dying start start v 0 [] es doom (freeing_begins nodes root dying start doom) run in
    let f : IsFreeing nodes root dying start (makes es) t.0 v = subst (λ k. IsFreeing nodes root dying start k t.0 v) none t.1 in
    (t.0, f.told, freeing_ends nodes root dying start v (makes es) t.0 doom f pins idle no_circle spares)
