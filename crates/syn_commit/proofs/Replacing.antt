-- The root's new row: what is asked of it, and what is held then.
use Rattle.std.proofs.Common.{◌≡◌, ◌≢◌, ℕ, suc, ◌+◌, ◌<◌, ◌≤◌, ◌==◌, Bool, true, false, if◌then◌else◌, List, [], ◌∷◌, ◌++◌, length, get_or, set, take, drop, zero, Some, refl, sym, ap, ◌∙◌, subst, arith, inl, inr, length-append, length-set, get_or-set_same, get_or-set_other}
use Rattle.std.specs.List.{refill}
use Rattle.std.proofs.lemmas.Bool.{eqb-true, eqb-false}
use Rattle.std.proofs.lemmas.List.{take-set, take_all, take_at, take_more_same}
use Rattle.arrayvec.specs.ArrayVec.{ArrayVec}
use Rattle.syn_rows.specs.declared.Row.{Row}
use Rattle.syn_rows.specs.declared.Row.TheVariants.{Free, Source, And, Alias}
use Rattle.syn_rows.specs.Rows.{AllRefs, is_derived, refs_of}
use Rattle.syn_rows.specs.Nodes.{has_node}
use Rattle.syn_rows.specs.References.{times}
use Rattle.syn_core_laws.specs.declared.View.{View}
use Rattle.syn_core_laws.specs.declared.EventKind.TheVariants as Kind
use Rattle.syn_core_laws.specs.Lists.{look, without_each}
use Rattle.syn_core_laws.specs.SameValue.{SameFor, SameValue}
use Rattle.syn_core_laws.specs.Views.{known_key, known_row, pins_after, redefined}
use Rattle.syn_core_laws.proofs.Counting.{length_less_each, times_append, times_less_each}
use Rattle.syn_core_laws.proofs.Listing.{look_here, look_there}
use Rattle.syn_decide.specs.declared.decisions.NodeRow.{NodeRow}
use Rattle.syn_decide.specs.Walk.{nodes_of}
use Rattle.syn_decide.specs.Walked.{AreGates}
use Rattle.syn_commit_laws.specs.Turning.{IsServed, TurnsAll}
use Rattle.syn_table.specs.Steps.{KnowsRedefine}
use Rattle.syn_commit.specs.Walks.{AreKnown}
use Rattle.syn_commit.specs.Giving.{IsGiving}
use Rattle.syn_commit.specs.Storing.{MayReferTo, pins_of, redefines_row, with_pins, with_row}
use Rattle.syn_commit.proofs.Draining.{pool_again}
use Rattle.syn_commit.proofs.Making.{may_rest, same_length}
use Rattle.syn_commit.proofs.Stepping.{pins_keys, pins_rows, pins_turn, turns_on}

-- ---- gates with another row at a node
row_nodes : (n : ℕ) (row : Row) (rows : List NodeRow) → nodes_of (with_row n row rows) ≡ nodes_of rows
row_nodes n row [] = refl
row_nodes n row (r ∷ rows) = go (r.node == n) refl (row_nodes n row rows)
  where
    go : (b : Bool) → (r.node == n) ≡ b → nodes_of (with_row n row rows) ≡ nodes_of rows → (if b then record { node = n; row = row } else r).node ∷ nodes_of (with_row n row rows) ≡ r.node ∷ nodes_of rows
    go true e ih = let same : n ≡ r.node = sym (eqb-true r.node n e) in ap (λ k. k ∷ nodes_of (with_row n row rows)) same ∙ ap (λ ns. r.node ∷ ns) ih
    go false e ih = ap (λ ns. r.node ∷ ns) ih

pub row_length : (n : ℕ) (row : Row) (rows : List NodeRow) → length (with_row n row rows) ≡ length rows
row_length n row [] = refl
row_length n row (r ∷ rows) = ap suc (row_length n row rows)

row_gates : (n : ℕ) (row : Row) (rows : List NodeRow) → is_derived row ≡ true → AreGates rows → AreGates (with_row n row rows)
row_gates n row [] d g = tt
row_gates n row (r ∷ rows) d g = (go (r.node == n), row_gates n row rows d g.1)
  where
    go : (b : Bool) → is_derived (if b then record { node = n; row = row } else r).row ≡ true
    go true = d
    go false = g.0

row_known : (v w : View) (n : ℕ) (row : Row) (rows : List NodeRow) → known_row w n ≡ Some row → ((m : ℕ) → m ≢ n → known_row w m ≡ known_row v m) → AreKnown v rows → AreKnown w (with_row n row rows)
row_known v w n row [] here others k = tt
row_known v w n row (r ∷ rows) here others k = (go (r.node == n) refl, row_known v w n row rows here others k.1)
  where
    go : (b : Bool) → (r.node == n) ≡ b → known_row w (if b then record { node = n; row = row } else r).node ≡ Some (if b then record { node = n; row = row } else r).row
    go true e = here
    go false e = others r.node (eqb-false r.node n e) ∙ k.0

-- while it is set, entry by entry
pub record IsSetting (n : ℕ) (row : Row) (rows : List NodeRow) (i : ℕ) (items : List NodeRow) : Type 0 where
  pub taken : take i items ≡ take i (with_row n row rows)
  pub rest : (k : ℕ) (d : NodeRow) → i ≤ k → get_or items k d ≡ get_or rows k d
  pub size : length items ≡ length rows

row_at_place : (n : ℕ) (row : Row) (rows : List NodeRow) (i : ℕ) (d : NodeRow) → i < length rows → get_or (with_row n row rows) i d ≡ (if (get_or rows i d).node == n then record { node = n; row = row } else get_or rows i d)
row_at_place n row [] i d l = absurd (omega (arith, l))
row_at_place n row (r ∷ rows) zero d l = refl
row_at_place n row (r ∷ rows) (suc i) d l = row_at_place n row rows i d (omega (arith, l))

module _ (n : ℕ) (row : Row) (rows : List NodeRow) (i : ℕ) (items : List NodeRow) (d : NodeRow) (s : IsSetting n row rows i items) (within : i < length rows) where
  there : i < length (with_row n row rows)
  there = let e = row_length n row rows in omega (arith, e, within)

  inside : i < length items
  inside = let e = s.size in omega (arith, e, within)

  pub setting_other : ((get_or items i d).node == n) ≡ false → IsSetting n row rows (i + 1) items
  setting_other e = record {
    taken = take_more_same items (with_row n row rows) i d inside there s.taken
        (s.rest i d (omega arith) ∙ (ap (λ b. if b then record { node = n; row = row } else get_or rows i d) (sym (ap (λ (r : NodeRow). r.node == n) (sym (s.rest i d (omega arith))) ∙ e)) ∙ sym (row_at_place n row rows i d within)));
    rest = λ k a l. s.rest k a (omega (arith, l));
    size = s.size;
  }

  pub setting_here : ((get_or items i d).node == n) ≡ true → IsSetting n row rows (i + 1) (set items i (record { node = n; row = row }))
  setting_here e = record {
    taken = take_more_same (set items i (record { node = n; row = row })) (with_row n row rows) i d (let k = length-set items i (record { node = n; row = row }) in omega (arith, k, inside)) there
        (take-set items i (record { node = n; row = row }) ∙ s.taken)
        (get_or-set_same items i (record { node = n; row = row }) d inside
        ∙ (ap (λ b. if b then record { node = n; row = row } else get_or rows i d) (sym (ap (λ (r : NodeRow). r.node == n) (sym (s.rest i d (omega arith))) ∙ e)) ∙ sym (row_at_place n row rows i d within)));
    rest = λ k a l. get_or-set_other items i k (record { node = n; row = row }) a (omega (arith, l)) ∙ s.rest k a (omega (arith, l));
    size = length-set items i (record { node = n; row = row }) ∙ s.size;
  }

-- a slice of the same length takes the whole place
pub refill_same : (items more : List NodeRow) → length more ≡ length items → refill (length items) items more ≡ more
refill_same items more e = take_at more (drop (length more) items) (length items) e

pub setting_ends : (n : ℕ) (row : Row) (rows items : List NodeRow) (i : ℕ) → length rows ≤ i → IsSetting n row rows i items → items ≡ with_row n row rows
setting_ends n row rows items i over s =
    sym (take_all i items (let e = s.size in omega (arith, e, over))) ∙ (s.taken ∙ take_all i (with_row n row rows) (let e = row_length n row rows in omega (arith, e, over)))

-- ---- the redefine
most_two : (r : Row) → length (refs_of r) ≤ 2
most_two Free = omega arith
most_two Source = omega arith
most_two (And a b) = omega arith
most_two (Alias a) = omega arith

module _ (pool pins : List ℕ) (gates idle : List NodeRow) (v : View) (n key : ℕ) (old row : Row) (g : IsGiving pool (pins ++ refs_of row) gates idle (with_pins (refs_of row) v)) (was : known_row v n ≡ Some old) (gate : is_derived old ≡ true) (derived : is_derived row ≡ true) where
  abbrev u : View
  u = with_pins (refs_of row) v

  pub was_pinned : known_row u n ≡ Some old
  was_pinned = ap (look n) (pins_rows (refs_of row) v) ∙ was

  pub key_pinned : known_key v n ≡ Some key → known_key u n ≡ Some key
  key_pinned e = ap (λ ks. if n == 0 then Some 0 else look n ks) (pins_keys (refs_of row) v) ∙ e

  pub same_pinned : (over : List ℕ) → SameValue v over old row → SameValue u over old row
  same_pinned over s = subst (λ rs. (choice : ℕ → Bool) → SameFor (λ m. look m rs) over choice old row) (sym (pins_rows (refs_of row) v)) s

  pub few_after : length pins + 4 ≤ 512 → length (pins_after u old row) ≤ 512
  few_after few =
      let a = length-append (refs_of old) (without_each (refs_of row) u.pins) in
      let b = length_less_each (refs_of row) u.pins in
      let c = same_length u.pins (pins ++ refs_of row) g.pinned in
      let d = length-append pins (refs_of row) in
      let e = most_two old in
      let f = most_two row in
      omega (arith, a, b, c, d, e, f, few)

  pub knows_redefine : (over : List ℕ) → known_key v n ≡ Some key → AllRefs (MayReferTo v key) row → length pins + 4 ≤ 512 → length over ≤ 8 → SameValue v over old row → KnowsRedefine u n row over
  knows_redefine over k may few eight same = (old, key, key_pinned k, (was_pinned, gate, derived, may_rest pool pins gates idle v key row may g, few_after few, eight, same_pinned over same))

  pub root_served : AllRefs (MayReferTo v key) row → IsServed u row
  root_served may = (may_rest pool pins gates idle v key row may g).0

  pub root_turns : (nodes : ℕ) (over : ArrayVec ℕ) → n < nodes → IsServed u row → TurnsAll nodes v (redefines_row n row over) (redefined u n old row)
  root_turns nodes over there served =
      turns_on nodes v u (redefined u n old row) (pins_of (refs_of row)) (Kind.Redefine n row over ∷ []) (pins_turn nodes v (refs_of row))
      (redefined u n old row, (old, there, was_pinned, derived, served, refl), refl)

  others : (m : ℕ) → m ≢ n → known_row (redefined u n old row) m ≡ known_row u m
  others m ne = look_there m n row u.rows ne

  pub root_known : known_row (redefined u n old row) n ≡ Some row
  root_known = look_here n row u.rows

  not_spare : (m : ℕ) → has_node pool m ≡ true → m ≢ n
  not_spare m there same =
      let free : known_row u n ≡ Some Free = subst (λ k. known_row u k ≡ Some Free) same (g.spare.free m there) in
      let is : Some old ≡ Some Free = sym was_pinned ∙ free in
      let one : old ≡ Free = cc in
      let no : is_derived old ≡ false = ap is_derived one in
      cc

  pub root_gives : IsGiving pool (pins ++ refs_of old) (with_row n row gates) (with_row n row idle) (redefined u n old row)
  root_gives = record {
    spare = pool_again u (redefined u n old row) pool (λ m h. refl) (λ m h. others m (not_spare m h)) g.spare;
    held = λ m h. elim (g.held m h) [ inl spare ↦ inl spare | inr some ↦ inr (let s = same m in omega (arith, some, s)) ];
    known = row_known u (redefined u n old row) n row gates root_known others g.known;
    idle_known = row_known u (redefined u n old row) n row idle root_known others g.idle_known;
    derived = row_gates n row gates derived g.derived;
    idle_derived = row_gates n row idle derived g.idle_derived;
    once = λ m. let s = same m in let o = g.once m in omega (arith, s, o);
    idle_there = λ m h. subst (λ ns. 1 ≤ times m ns) (sym (row_nodes n row idle)) (g.idle_there m h);
    idle_all = λ m l. g.idle_all m (subst (λ ns. 1 ≤ times m ns) (row_nodes n row idle) l);
    pinned = λ m.
        let less = times_less_each m (refs_of row) u.pins there in
        let p = g.pinned m in
        let a = times_append m pins (refs_of row) in
        let b = times_append m (refs_of old) (without_each (refs_of row) u.pins) in
        let c = times_append m pins (refs_of old) in
        omega (arith, less, p, a, b, c);
    room = let a = row_length n row gates in let b = row_length n row idle in let r = g.room in omega (arith, a, b, r);
  }
    where
      there : (k : ℕ) → times k (refs_of row) ≤ times k u.pins
      there k = let p = g.pinned k in let e = times_append k pins (refs_of row) in omega (arith, p, e)

      same : (m : ℕ) → times m (nodes_of (with_row n row gates)) + times m (nodes_of (with_row n row idle)) ≡ times m (nodes_of gates) + times m (nodes_of idle)
      same m = let a = ap (times m) (row_nodes n row gates) in let b = ap (times m) (row_nodes n row idle) in omega (arith, a, b)

  -- the view that the table tells is that one
  pub redefined_is : (x w : View) (told : Row) → x ≡ u → known_row x n ≡ Some told → w ≡ redefined x n told row → w ≡ redefined u n old row
  redefined_is x w told same known is =
      let both : Some told ≡ Some old = sym known ∙ (ap (λ (y : View). known_row y n) same ∙ was_pinned) in
      let one : told ≡ old = cc in
      is ∙ (ap (λ (y : View). redefined y n told row) same ∙ ap (λ (r : Row). redefined u n r row) one)
