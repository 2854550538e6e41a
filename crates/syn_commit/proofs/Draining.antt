-- A seat gives back its pins, and frees what nobody refers to any more.
use Rattle.std.proofs.Common.{◌≡◌, ◌≢◌, ℕ, zero, suc, ◌+◌, ◌<◌, ◌≤◌, ◌==◌, ◌&&◌, not, nat_lt, Bool, true, false, if◌then◌else◌, List, [], ◌∷◌, ◌++◌, length, get_or, take, drop, Option, Some, None, refl, sym, ap, ◌∙◌, subst, arith, inl, inr, length-append}
use Rattle.std.specs.List.{AllByRecursion}
use Rattle.std.proofs.lemmas.Bool.{cases_eq, eq-eqb, ne_eqb}
use Rattle.syn_rows.specs.declared.Row.{Row}
use Rattle.syn_rows.specs.declared.Row.TheVariants.{Free, Source, And, Alias}
use Rattle.syn_rows.specs.Rows.{is_derived, refs_of}
use Rattle.syn_rows.specs.Nodes.{has_node}
use Rattle.syn_rows.specs.References.{hits, times}
use Rattle.syn_rows.proofs.Nodes.{has_cases, has_here, has_one, has_there, here_or_there}
use Rattle.syn_core_laws.specs.declared.View.{View}
use Rattle.syn_core_laws.specs.Events.{MayFree}
use Rattle.syn_core_laws.specs.declared.EventKind.{EventKind}
use Rattle.syn_core_laws.specs.declared.EventKind.TheVariants as Kind
use Rattle.syn_core_laws.specs.Lists.{only}
use Rattle.syn_core_laws.specs.Shown.{IsShown}
use Rattle.syn_core_laws.specs.Views.{differs, freed, is_derived_known, known_row, own_pins, own_refs, released, unpinned}
use Rattle.syn_core_laws.proofs.Counting.{has_times, hits_other, hits_same, times_append, times_has, times_less}
use Rattle.syn_core_laws.proofs.Listing.{has_only, look_here, look_kept, look_there, only_has}
use Rattle.syn_decide.specs.declared.decisions.NodeRow.{NodeRow}
use Rattle.syn_decide.specs.Walk.{nodes_of}
use Rattle.syn_decide.specs.Walked.{AreGates}
use Rattle.syn_decide.proofs.Walking.{distinct_more, nodes_more}
use Rattle.syn_commit_laws.specs.Turning.{Turns}
use Rattle.syn_commit.specs.declared.returns.TheConstants.{MAX_HELD}
use Rattle.syn_commit.specs.Pools.{KeepsPool}
use Rattle.syn_commit.specs.Walks.{AreKnown}
use Rattle.syn_commit.specs.Giving.{Gives, GivesBackAll, IsGiving, IsLetGo, pool_after, pool_after_all}
use Rattle.syn_commit.proofs.Entering.{known_stays}
use Rattle.syn_commit.proofs.Trying.{has_self}

-- ---- lists of gates
none_there : NodeRow
none_there = record { node = 0; row = Free }

pub times_more : (n : ℕ) (rows : List NodeRow) (e : NodeRow) → times n (nodes_of (rows ++ e ∷ [])) ≡ times n (nodes_of rows) + hits n e.node
times_more n rows e = let a = ap (times n) (nodes_more rows e) ∙ times_append n (nodes_of rows) (e.node ∷ []) in omega (arith, a)

pub times_removed : (n : ℕ) (rows : List NodeRow) (i : ℕ) (d : NodeRow) → i < length rows → times n (nodes_of (take i rows ++ drop (suc i) rows)) + hits n (get_or rows i d).node ≡ times n (nodes_of rows)
times_removed n [] i d l = absurd (omega arith)
times_removed n (r ∷ rows) zero d l = omega arith
times_removed n (r ∷ rows) (suc i) d l = let rest = times_removed n rows i d (omega (arith, l)) in omega (arith, rest)

pub all_removed : (P : NodeRow → Type 0) (rows : List NodeRow) (i : ℕ) → AllByRecursion P rows → AllByRecursion P (take i rows ++ drop (suc i) rows)
all_removed P [] zero a = tt
all_removed P [] (suc i) a = tt
all_removed P (r ∷ rows) zero a = a.1
all_removed P (r ∷ rows) (suc i) a = (a.0, all_removed P rows i a.1)

pub all_at : (P : NodeRow → Type 0) (rows : List NodeRow) (i : ℕ) (d : NodeRow) → i < length rows → AllByRecursion P rows → P (get_or rows i d)
all_at P [] i d l a = absurd (omega arith)
all_at P (r ∷ rows) zero d l a = a.0
all_at P (r ∷ rows) (suc i) d l a = all_at P rows i d (omega (arith, l)) a.1

pub all_more : (P : NodeRow → Type 0) (rows : List NodeRow) (e : NodeRow) → AllByRecursion P rows → P e → AllByRecursion P (rows ++ e ∷ [])
all_more P [] e a p = (p, tt)
all_more P (r ∷ rows) e a p = (a.0, all_more P rows e a.1 p)

pub all_less : (P : NodeRow → Type 0) (rows : List NodeRow) (e : NodeRow) → AllByRecursion P (rows ++ e ∷ []) → AllByRecursion P rows × P e
all_less P [] e a = (tt, a.0)
all_less P (r ∷ rows) e a = let rest = all_less P rows e a.1 in ((a.0, rest.0), rest.1)

-- the row of a gate that is listed
pub listed : (v : View) (rows : List NodeRow) (n : ℕ) → AreKnown v rows → AreGates rows → 1 ≤ times n (nodes_of rows) → is_derived_known (known_row v n) ≡ true
listed v [] n k g l = absurd (omega (arith, l))
listed v (r ∷ rows) n k g l = elim (here_or_there r.node n (nodes_of rows) (has_times n (nodes_of (r ∷ rows)) l)) [
  | inl same ↦ ap (λ m. is_derived_known (known_row v m)) same ∙ (ap is_derived_known k.0 ∙ g.0)
  | inr there ↦ listed v rows n k.1 g.1 (times_has n (nodes_of rows) there)
]

-- the same rows are known, whatever else changes
pub known_again : (v w : View) (rows : List NodeRow) → ((n : ℕ) → known_row w n ≡ known_row v n) → AreKnown v rows → AreKnown w rows
known_again v w [] same k = tt
known_again v w (r ∷ rows) same k = (same r.node ∙ k.0, known_again v w rows same k.1)

-- a pool that is kept while other rows change
pub pool_again : (v w : View) (pool : List ℕ) → ((n : ℕ) → has_node pool n ≡ true → has_node w.held n ≡ has_node v.held n) → ((n : ℕ) → has_node pool n ≡ true → known_row w n ≡ known_row v n) → KeepsPool v pool → KeepsPool w pool
pool_again v w pool held rows k = record { distinct = k.distinct; held = λ n h. held n h ∙ k.held n h; free = λ n h. rows n h ∙ k.free n h }

-- ---- a pin is taken back
module _ (nodes : ℕ) (pool pins : List ℕ) (gates idle : List NodeRow) (v : View) (pin count : ℕ) (shown : IsShown nodes v) (g : IsGiving pool (pins ++ pin ∷ []) gates idle v) where
  abbrev after : View
  after = unpinned v pin count

  pub has_pin : has_node v.pins pin ≡ true
  has_pin = let a = times_append pin pins (pin ∷ []) in let one = hits_same pin in let p = g.pinned pin in has_times pin v.pins (omega (arith, a, one, p))

  fewer_pins : (m : ℕ) → own_pins after m ≡ times m pins
  fewer_pins m =
      let less = times_less m pin v.pins (times_has pin v.pins has_pin) in
      let a = times_append m pins (pin ∷ []) in
      let p = g.pinned m in
      omega (arith, less, a, p)

  -- a pinned node isn't on the zero list
  not_idle : times pin (nodes_of idle) ≡ 0
  not_idle = go (times pin (nodes_of idle)) refl
    where
      go : (k : ℕ) → times pin (nodes_of idle) ≡ k → k ≡ 0
      go zero e = refl
      go (suc k) e =
          let on : has_node v.idle pin ≡ true = g.idle_all pin (omega (arith, e)) in
          let out : own_refs nodes v pin + own_pins v pin ≡ 0 = (shown.idles pin on).1 in
          let some : 1 ≤ own_pins v pin = times_has pin v.pins has_pin in
          absurd (omega (arith, out, some))

  known_not : times pin (nodes_of gates) ≡ 0 → is_derived_known (known_row v pin) ≡ false
  known_not none = go (known_row v pin) refl
    where
      go : (o : Option Row) → known_row v pin ≡ o → is_derived_known o ≡ false
      go None e = refl
      go (Some r) e = elim (g.held pin (shown.rows pin r e).1) [
        | inl spare ↦ ap is_derived_known (sym e ∙ g.spare.free pin spare)
        | inr some ↦ absurd (omega (arith, some, none, not_idle))
      ]

  -- with no gate more on the zero list
  quiet : after.idle ≡ v.idle → IsGiving pool pins gates idle after
  quiet same = record {
    spare = pool_again v after pool (λ n h. refl) (λ n h. refl) g.spare;
    held = g.held;
    known = known_again v after gates (λ n. refl) g.known;
    idle_known = known_again v after idle (λ n. refl) g.idle_known;
    derived = g.derived;
    idle_derived = g.idle_derived;
    once = g.once;
    idle_there = λ n h. g.idle_there n (subst (λ ns. has_node ns n ≡ true) same h);
    idle_all = λ n l. subst (λ ns. has_node ns n ≡ true) (sym same) (g.idle_all n l);
    pinned = fewer_pins;
    room = g.room;
  }

  pub still_used : (count == 1) ≡ false → IsGiving pool pins gates idle after
  still_used e = quiet (ap (λ b. if b && is_derived_known (known_row v pin) then pin ∷ v.idle else v.idle) e)

  pub no_gate : has_node (nodes_of gates) pin ≡ false → IsGiving pool pins gates idle after
  no_gate none = quiet (ap (λ b. if (count == 1) && b then pin ∷ v.idle else v.idle) (known_not (zero_times none)) ∙ off (count == 1))
    where
      off : (b : Bool) → (if b && false then pin ∷ v.idle else v.idle) ≡ v.idle
      off true = refl
      off false = refl

      zero_times : has_node (nodes_of gates) pin ≡ false → times pin (nodes_of gates) ≡ 0
      zero_times away = go (times pin (nodes_of gates)) refl
        where
          go : (k : ℕ) → times pin (nodes_of gates) ≡ k → k ≡ 0
          go zero e = refl
          go (suc k) e = let yes : has_node (nodes_of gates) pin ≡ true = has_times pin (nodes_of gates) (omega (arith, e)) in absurd (cc)

  -- the gate at this place joins those on the zero list
  pub gate_idle : (i : ℕ) (e : NodeRow) (rest : List NodeRow) → i < length gates → e ≡ get_or gates i e → e.node ≡ pin → rest ≡ take i gates ++ drop (suc i) gates → length rest + 1 ≡ length gates → (count == 1) ≡ true
      → IsGiving pool pins rest (idle ++ e ∷ []) after
  gate_idle i e rest within is named gone size last = record {
    spare = pool_again v after pool (λ n h. refl) (λ n h. refl) g.spare;
    held = λ n h. elim (g.held n h) [ inl spare ↦ inl spare | inr some ↦ inr (let s = same n in omega (arith, some, s)) ];
    known = subst (AreKnown after) (sym gone) (all_removed (λ r. known_row after r.node ≡ Some r.row) gates i (known_again v after gates (λ n. refl) g.known));
    idle_known = all_more (λ r. known_row after r.node ≡ Some r.row) idle e (known_again v after idle (λ n. refl) g.idle_known) own_known;
    derived = subst AreGates (sym gone) (all_removed (λ r. is_derived r.row ≡ true) gates i g.derived);
    idle_derived = all_more (λ r. is_derived r.row ≡ true) idle e g.idle_derived own_derived;
    once = λ n. let s = same n in let o = g.once n in omega (arith, s, o);
    idle_there = λ n h. elim (here_or_there pin n v.idle (subst (λ ns. has_node ns n ≡ true) joins h)) [
      | inl this ↦ (let m = times_more n idle e in let one : hits n e.node ≡ 1 = ap (hits n) (named ∙ sym this) ∙ hits_same n in omega (arith, m, one))
      | inr there ↦ (let m = times_more n idle e in let l = g.idle_there n there in omega (arith, m, l))
    ];
    idle_all = λ n l. subst (λ ns. has_node ns n ≡ true) (sym joins) (elim (cases_eq n pin) [
      | inl this ↦ subst (λ k. has_node (pin ∷ v.idle) k ≡ true) (sym this) (has_here pin v.idle)
      | inr other ↦ (
          let m = times_more n idle e in
          let none : hits n e.node ≡ 0 = ap (hits n) named ∙ hits_other n pin other in
          has_there pin n v.idle (g.idle_all n (omega (arith, l, m, none)))
          )
    ]);
    pinned = fewer_pins;
    room = let more : length (idle ++ e ∷ []) ≡ length idle + 1 = length-append idle (e ∷ []) in let r = g.room in omega (arith, more, size, r);
  }
    where
      own_known : known_row after e.node ≡ Some e.row
      own_known = subst (λ (x : NodeRow). known_row v x.node ≡ Some x.row) (sym is) (all_at (λ r. known_row v r.node ≡ Some r.row) gates i e within g.known)

      own_derived : is_derived e.row ≡ true
      own_derived = subst (λ (x : NodeRow). is_derived x.row ≡ true) (sym is) (all_at (λ r. is_derived r.row ≡ true) gates i e within g.derived)

      joins : after.idle ≡ pin ∷ v.idle
      joins = ap (λ b. if b && is_derived_known (known_row v pin) then pin ∷ v.idle else v.idle) last
          ∙ ap (λ b. if b then pin ∷ v.idle else v.idle) (ap (λ m. is_derived_known (known_row v m)) (sym named) ∙ (ap is_derived_known own_known ∙ own_derived))

      same : (n : ℕ) → times n (nodes_of rest) + times n (nodes_of (idle ++ e ∷ [])) ≡ times n (nodes_of gates) + times n (nodes_of idle)
      same n =
          let a = times_removed n gates i e within in
          let b = ap (λ rows. times n (nodes_of rows)) gone in
          let c = ap (λ (x : NodeRow). hits n x.node) is in
          let m = times_more n idle e in
          omega (arith, a, b, c, m)

-- ---- a gate of the zero list is freed
module _ (nodes : ℕ) (pool : List ℕ) (gates idle : List NodeRow) (e : NodeRow) (v : View) (shown : IsShown nodes v) (g : IsGiving pool [] gates (idle ++ e ∷ []) v) where
  abbrev n : ℕ
  n = e.node

  abbrev free_now : View
  free_now = freed v e.node e.row

  pub free_known : known_row v e.node ≡ Some e.row
  free_known = (all_less (λ r. known_row v r.node ≡ Some r.row) idle e g.idle_known).1

  pub free_derived : is_derived e.row ≡ true
  free_derived = (all_less (λ r. is_derived r.row ≡ true) idle e g.idle_derived).1

  pub free_idle : has_node v.idle e.node ≡ true
  free_idle = let m = times_more e.node idle e in let one = hits_same e.node in g.idle_all e.node (omega (arith, m, one))

  -- no other gate is this one
  others : (times e.node (nodes_of gates) ≡ 0) × (times e.node (nodes_of idle) ≡ 0)
  others = let m = times_more e.node idle e in let one = hits_same e.node in let o = g.once e.node in (omega (arith, m, one, o), omega (arith, m, one, o))

  apart : (rows : List NodeRow) → times e.node (nodes_of rows) ≡ 0 → (m : ℕ) → has_node (nodes_of rows) m ≡ true → m ≢ e.node
  apart rows none m there same = let some : 1 ≤ times e.node (nodes_of rows) = times_has e.node (nodes_of rows) (subst (λ k. has_node (nodes_of rows) k ≡ true) same there) in omega (arith, some, none)

  not_spare : (m : ℕ) → has_node pool m ≡ true → m ≢ e.node
  not_spare m there same =
      let free : known_row v e.node ≡ Some Free = subst (λ k. known_row v k ≡ Some Free) same (g.spare.free m there) in
      let no : is_derived_known (Some e.row) ≡ is_derived_known (Some Free) = ap is_derived_known (sym free_known ∙ free) in
      let yes = free_derived in cc

  no_pins : v.pins ≡ []
  no_pins = go v.pins g.pinned
    where
      go : (ps : List ℕ) → ((m : ℕ) → times m ps ≡ times m []) → ps ≡ []
      go [] p = refl
      go (x ∷ ps) p = let one = hits_same x in let none = p x in absurd (omega (arith, one, none))

  pub may_free : MayFree v e.node
  may_free = (free_idle, λ old known. let a = length-append (refs_of old) v.pins in let b : length v.pins ≡ 0 = ap length no_pins in let two = most_two old in omega (arith, a, b, two))
    where
      most_two : (r : Row) → length (refs_of r) ≤ 2
      most_two Free = omega arith
      most_two Source = omega arith
      most_two (And a b) = omega arith
      most_two (Alias a) = omega arith

  pub still_held : has_node v.held e.node ≡ true
  still_held = (shown.rows e.node e.row free_known).1

  pub off_list : has_node free_now.idle e.node ≡ false
  off_list = has_self v.idle e.node

  other_rows : (m : ℕ) → m ≢ e.node → known_row free_now m ≡ known_row v m
  other_rows m ne = look_there m e.node Free v.rows ne

  new_pins : (m : ℕ) → own_pins free_now m ≡ times m (refs_of e.row)
  new_pins m = let a = times_append m (refs_of e.row) v.pins in let p = g.pinned m in omega (arith, a, p)

  idle_now : (m : ℕ) → has_node free_now.idle m ≡ true → 1 ≤ times m (nodes_of idle)
  idle_now m h =
      let both = has_only (differs e.node) m v.idle h in
      let l = g.idle_there m both.0 in
      let more = times_more m idle e in
      let none : hits m e.node ≡ 0 = hits_other m e.node (λ same. let yes : (m == e.node) ≡ true = eq-eqb m e.node same in let no = both.1 in cc) in
      omega (arith, l, more, none)

  idle_rest : (m : ℕ) → 1 ≤ times m (nodes_of idle) → has_node free_now.idle m ≡ true
  idle_rest m l =
      let more = times_more m idle e in
      only_has (differs e.node) m v.idle (g.idle_all m (omega (arith, l, more)))
      (ap not (ne_eqb m e.node (λ same. let none = others.1 in let some : 1 ≤ times e.node (nodes_of idle) = subst (λ k. 1 ≤ times k (nodes_of idle)) same l in omega (arith, none, some))))

  fewer_held : (m : ℕ) → m ≢ e.node → 1 ≤ times m (nodes_of gates) + times m (nodes_of (idle ++ e ∷ [])) → 1 ≤ times m (nodes_of gates) + times m (nodes_of idle)
  fewer_held m ne l = let more = times_more m idle e in let none = hits_other m e.node ne in omega (arith, l, more, none)

  fewer_once : (m : ℕ) → times m (nodes_of gates) + times m (nodes_of idle) ≤ 1
  fewer_once m = let more = times_more m idle e in let o = g.once m in omega (arith, more, o)

  fewer_room : length gates + length idle ≤ MAX_HELD
  fewer_room = let more : length (idle ++ e ∷ []) ≡ length idle + 1 = length-append idle (e ∷ []) in let r = g.room in omega (arith, more, r)

  -- the node joins the pool
  pub freed_joins : IsGiving (pool ++ e.node ∷ []) (refs_of e.row) gates idle free_now
  freed_joins = record {
    spare = record {
      distinct = distinct_more pool e.node g.spare.distinct (none (has_node pool e.node) refl);
      held = λ m h. elim (has_cases pool (e.node ∷ []) m h) [
        | inl there ↦ g.spare.held m there
        | inr one ↦ subst (λ k. has_node v.held k ≡ true) (has_one e.node m one) (shown.rows e.node e.row free_known).1
      ];
      free = λ m h. elim (has_cases pool (e.node ∷ []) m h) [
        | inl there ↦ other_rows m (not_spare m there) ∙ g.spare.free m there
        | inr one ↦ subst (λ k. known_row free_now k ≡ Some Free) (has_one e.node m one) (look_here e.node Free v.rows)
      ];
    };
    held = λ m h. elim (cases_eq m e.node) [
      | inl same ↦ inl (subst (λ k. has_node (pool ++ e.node ∷ []) k ≡ true) (sym same) (has_right_one pool))
      | inr ne ↦ elim (g.held m h) [ inl spare ↦ inl (has_left_one pool m spare) | inr l ↦ inr (fewer_held m ne l) ]
    ];
    known = known_stays v free_now e.node gates other_rows (apart gates others.0) g.known;
    idle_known = known_stays v free_now e.node idle other_rows (apart idle others.1) (all_less (λ r. known_row v r.node ≡ Some r.row) idle e g.idle_known).0;
    derived = g.derived;
    idle_derived = (all_less (λ r. is_derived r.row ≡ true) idle e g.idle_derived).0;
    once = fewer_once;
    idle_there = idle_now;
    idle_all = idle_rest;
    pinned = new_pins;
    room = fewer_room;
  }
    where
      none : (b : Bool) → has_node pool e.node ≡ b → b ≡ false
      none true h = absurd (not_spare e.node h refl)
      none false h = refl

      has_right_one : (ns : List ℕ) → has_node (ns ++ e.node ∷ []) e.node ≡ true
      has_right_one [] = has_here e.node []
      has_right_one (x ∷ ns) = has_there x e.node (ns ++ e.node ∷ []) (has_right_one ns)

      has_left_one : (ns : List ℕ) (m : ℕ) → has_node ns m ≡ true → has_node (ns ++ e.node ∷ []) m ≡ true
      has_left_one [] m h = absurd (cc)
      has_left_one (x ∷ ns) m h = elim (here_or_there x m ns h) [
        | inl same ↦ subst (λ k. has_node (x ∷ (ns ++ e.node ∷ [])) k ≡ true) (sym same) (has_here x (ns ++ e.node ∷ []))
        | inr there ↦ has_there x m (ns ++ e.node ∷ []) (has_left_one ns m there)
      ]

  -- the node is let go, since the pool is full
  pub freed_goes : IsGiving pool (refs_of e.row) gates idle (released free_now e.node)
  freed_goes = record {
    spare = pool_again v (released free_now e.node) pool
        (λ m h. held_other m (not_spare m h)) (λ m h. rows_other m (not_spare m h)) g.spare;
    held = λ m h. let both = has_only (differs e.node) m v.held h in
        let ne : m ≢ e.node = (λ same. let yes : (m == e.node) ≡ true = eq-eqb m e.node same in let no = both.1 in cc) in
        elim (g.held m both.0) [ inl spare ↦ inl spare | inr l ↦ inr (fewer_held m ne l) ];
    known = known_stays v (released free_now e.node) e.node gates rows_other (apart gates others.0) g.known;
    idle_known = known_stays v (released free_now e.node) e.node idle rows_other (apart idle others.1) (all_less (λ r. known_row v r.node ≡ Some r.row) idle e g.idle_known).0;
    derived = g.derived;
    idle_derived = (all_less (λ r. is_derived r.row ≡ true) idle e g.idle_derived).0;
    once = fewer_once;
    idle_there = idle_now;
    idle_all = idle_rest;
    pinned = new_pins;
    room = fewer_room;
  }
    where
      rows_other : (m : ℕ) → m ≢ e.node → known_row (released free_now e.node) m ≡ known_row v m
      rows_other m ne = look_kept (differs e.node) m ((e.node, Free) ∷ v.rows) (ap not (ne_eqb m e.node ne)) ∙ other_rows m ne

      held_other : (m : ℕ) → m ≢ e.node → has_node (only (differs e.node) v.held) m ≡ has_node v.held m
      held_other m ne = go (has_node v.held m) (has_node (only (differs e.node) v.held) m) refl refl
        where
          go : (a b : Bool) → has_node v.held m ≡ a → has_node (only (differs e.node) v.held) m ≡ b → b ≡ a
          go true true p q = refl
          go true false p q = let yes : has_node (only (differs e.node) v.held) m ≡ true = only_has (differs e.node) m v.held p (ap not (ne_eqb m e.node ne)) in absurd (cc)
          go false true p q = let both = has_only (differs e.node) m v.held q in let yes = both.0 in absurd (cc)
          go false false p q = refl

  -- either way it gave back
  pub frees_give : (w : View) (grown : List ℕ) → Turns nodes v (Kind.Free e.node) free_now → w ≡ (if nat_lt (length pool) 512 then free_now else released free_now e.node) → grown ≡ (if nat_lt (length pool) 512 then pool ++ e.node ∷ [] else pool)
      → IsGiving grown (refs_of e.row) gates idle w × Gives nodes v pool w grown
  frees_give w grown turns view more = go (nat_lt (length pool) 512) refl view more
    where
      go : (b : Bool) → nat_lt (length pool) 512 ≡ b → w ≡ (if b then free_now else released free_now e.node) → grown ≡ (if b then pool ++ e.node ∷ [] else pool) → IsGiving grown (refs_of e.row) gates idle w × Gives nodes v pool w grown
      go true is f h = (
        subst (IsGiving grown (refs_of e.row) gates idle) (sym f) (subst (λ p. IsGiving p (refs_of e.row) gates idle free_now) (sym h) freed_joins),
        (Kind.Free e.node ∷ [], (free_now, turns, tt, f), h ∙ sym (ap (λ b. if b then pool ++ e.node ∷ [] else pool) is)),
      )
      go false is f h = (
        subst (IsGiving grown (refs_of e.row) gates idle) (sym f) (subst (λ p. IsGiving p (refs_of e.row) gates idle (released free_now e.node)) (sym h) freed_goes),
        (Kind.Free e.node ∷ Kind.Release e.node ∷ [], (free_now, turns, tt, (w, f, look_here e.node Free v.rows, refl)), h ∙ sym (ap (λ b. if b then pool ++ e.node ∷ [] else pool) is)),
      )

  -- the view that the table tells is this one
  pub freed_is : (w : View) (old : Row) → known_row v e.node ≡ Some old → w ≡ freed v e.node old → w ≡ free_now
  freed_is w old known view = let same : old ≡ e.row = one_row old e.row (sym known ∙ free_known) in view ∙ ap (λ r. freed v e.node r) same
    where
      one_row : (a b : Row) → Some a ≡ Some b → a ≡ b
      one_row a b h = cc

-- ---- what was given, one part behind the other
back_on : (nodes : ℕ) (v u w : View) (es fs : List EventKind) → GivesBackAll nodes v es u → GivesBackAll nodes u fs w → GivesBackAll nodes v (es ++ fs) w
back_on nodes v u w [] fs e f = subst (λ x. GivesBackAll nodes x fs w) e f
back_on nodes v u w (k ∷ es) fs e f = (e.0, e.1, e.2, back_on nodes e.0 u w es fs e.3 f)

pool_on : (pool : List ℕ) (es fs : List EventKind) → pool_after_all pool (es ++ fs) ≡ pool_after_all (pool_after_all pool es) fs
pool_on pool [] fs = refl
pool_on pool (k ∷ es) fs = pool_on (pool_after pool k) es fs

pub gives_on : (nodes : ℕ) (v u w : View) (pool mid grown : List ℕ) → Gives nodes v pool u mid → Gives nodes u mid w grown → Gives nodes v pool w grown
gives_on nodes v u w pool mid grown g h = (g.0 ++ h.0, back_on nodes v u w g.0 h.0 g.1 h.1, h.2 ∙ (ap (λ p. pool_after_all p h.0) g.2 ∙ sym (pool_on pool g.0 h.0)))

pub unpin_gives : (nodes : ℕ) (v w : View) (pool : List ℕ) (n : ℕ) → Turns nodes v (Kind.Unpin n) w → Gives nodes v pool w pool
unpin_gives nodes v w pool n t = (Kind.Unpin n ∷ [], (w, t, tt, refl), refl)

-- ---- a gate that is left is let go
module _ (nodes : ℕ) (pool : List ℕ) (gates : List NodeRow) (e : NodeRow) (v : View) (shown : IsShown nodes v) (g : IsGiving pool [] (gates ++ e ∷ []) [] v) where
  own_row : known_row v e.node ≡ Some e.row
  own_row = (all_less (λ r. known_row v r.node ≡ Some r.row) gates e g.known).1

  none_more : times e.node (nodes_of gates) ≡ 0
  none_more = let m = times_more e.node gates e in let one = hits_same e.node in let o = g.once e.node in omega (arith, m, one, o)

  away : (m : ℕ) → has_node (nodes_of gates) m ≡ true → m ≢ e.node
  away m there same = let some : 1 ≤ times e.node (nodes_of gates) = times_has e.node (nodes_of gates) (subst (λ k. has_node (nodes_of gates) k ≡ true) same there) in let none = none_more in omega (arith, some, none)

  other_than : (m : ℕ) → has_node pool m ≡ true → m ≢ e.node
  other_than m there same =
      let free : known_row v e.node ≡ Some Free = subst (λ k. known_row v k ≡ Some Free) same (g.spare.free m there) in
      let no_gate : is_derived_known (Some e.row) ≡ is_derived_known (Some Free) = ap is_derived_known (sym own_row ∙ free) in
      let yes : is_derived e.row ≡ true = (all_less (λ r. is_derived r.row ≡ true) gates e g.derived).1 in cc

  row_kept : (m : ℕ) → m ≢ e.node → known_row (released v e.node) m ≡ known_row v m
  row_kept m ne = look_kept (differs e.node) m v.rows (ap not (ne_eqb m e.node ne))

  pub one_gone : IsGiving pool [] gates [] (released v e.node)
  one_gone = record {
    spare = record {
      distinct = g.spare.distinct;
      held = λ m h. only_has (differs e.node) m v.held (g.spare.held m h) (ap not (ne_eqb m e.node (other_than m h)));
      free = λ m h. row_kept m (other_than m h) ∙ g.spare.free m h;
    };
    held = λ m h.
        let both = has_only (differs e.node) m v.held h in
        let ne : m ≢ e.node = (λ same. let yes : (m == e.node) ≡ true = eq-eqb m e.node same in let off : not (m == e.node) ≡ true = both.1 in cc) in
        elim (g.held m both.0) [ inl spare ↦ inl spare | inr l ↦ inr (let more = times_more m gates e in let none = hits_other m e.node ne in omega (arith, l, more, none)) ];
    known = known_stays v (released v e.node) e.node gates row_kept away (all_less (λ r. known_row v r.node ≡ Some r.row) gates e g.known).0;
    idle_known = tt;
    derived = (all_less (λ r. is_derived r.row ≡ true) gates e g.derived).0;
    idle_derived = tt;
    once = λ m. let more = times_more m gates e in let o = g.once m in omega (arith, more, o);
    idle_there = g.idle_there;
    idle_all = g.idle_all;
    pinned = g.pinned;
    room = let more : length (gates ++ e ∷ []) ≡ length gates + 1 = length-append gates (e ∷ []) in let r = g.room in omega (arith, more, r);
  }

pub let_go_on : (v w : View) (n : ℕ) → IsLetGo v w → IsLetGo v (released w n)
let_go_on v w n l = record { number = l.number; reads = l.reads; misses = l.misses; makes = l.makes; changes = l.changes; difference = l.difference }
