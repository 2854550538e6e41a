-- What one made row leaves as it was, and the events of it.
use Rattle.std.proofs.Common.{◌≡◌, ◌≢◌, ◌⊎◌, ℕ, suc, ◌<◌, ◌≤◌, ◌==◌, Bool, true, false, if◌then◌else◌, List, [], ◌∷◌, ◌++◌, Option, Some, refl, sym, ap, ◌∙◌, subst, arith, inl, inr}
use Rattle.std.proofs.lemmas.Bool.{cases_eq, eq-eqb, or_cases, or_left, or_right}
use Rattle.syn_rows.specs.declared.Row.{Row}
use Rattle.syn_rows.specs.declared.Row.TheVariants.{Free}
use Rattle.syn_rows.specs.Rows.{is_derived, refs_of}
use Rattle.syn_rows.specs.Nodes.{has_node}
use Rattle.syn_rows.specs.References.{times}
use Rattle.syn_core_laws.specs.declared.View.{View}
use Rattle.syn_core_laws.specs.declared.EventKind.{EventKind}
use Rattle.syn_core_laws.specs.declared.EventKind.TheVariants as Kind
use Rattle.syn_core_laws.specs.Events.{MayPin, Refers}
use Rattle.syn_core_laws.specs.Lists.{look}
use Rattle.syn_core_laws.specs.Shown.{IsShown}
use Rattle.syn_core_laws.specs.Views.{is_mine, key_set, known_key, known_row, own_pins, pinned, refs_known}
use Rattle.syn_core_laws.proofs.Counting.{has_times, times_has}
use Rattle.syn_core_laws.proofs.Listing.{look_here, look_kept, look_there}
use Rattle.syn_commit_laws.specs.Turning.{IsServed, TurnsAll}
use Rattle.syn_commit.specs.Storing.{KeepsKnown, MayReferTo, makes_row, pins_of, row_stored, with_pins}

-- ---- events
pub turns_on : (nodes : ℕ) (v u w : View) (es more : List EventKind) → TurnsAll nodes v es u → TurnsAll nodes u more w → TurnsAll nodes v (es ++ more) w
turns_on nodes v u w [] more a b = subst (λ y. TurnsAll nodes y more w) a b
turns_on nodes v u w (e ∷ es) more a b = (a.0, a.1, turns_on nodes a.0 u w es more a.2 b)

pub pins_turn : (nodes : ℕ) (v : View) (ns : List ℕ) → TurnsAll nodes v (pins_of ns) (with_pins ns v)
pins_turn nodes v [] = refl
pins_turn nodes v (n ∷ ns) = (pinned v n, refl, pins_turn nodes (pinned v n) ns)

pub row_turns : (nodes : ℕ) (v : View) (n : ℕ) (row : Row) (key : ℕ) → n < nodes → known_row (with_pins (refs_of row) v) n ≡ Some Free → IsServed (with_pins (refs_of row) v) row → TurnsAll nodes v (makes_row n row key) (row_stored v n row key)
row_turns nodes v n row key there free served =
    turns_on nodes v (with_pins (refs_of row) v) (row_stored v n row key) (pins_of (refs_of row)) (Kind.SetKey n key ∷ Kind.Make n row ∷ []) (pins_turn nodes v (refs_of row))
    (key_set (with_pins (refs_of row) v) n key, refl, (row_stored v n row key, (there, free, served, refl), refl))

-- ---- what pins leave
pub pins_rows : (ns : List ℕ) (v : View) → (with_pins ns v).rows ≡ v.rows
pins_rows [] v = refl
pins_rows (n ∷ ns) v = pins_rows ns (pinned v n)

pub pins_keys : (ns : List ℕ) (v : View) → (with_pins ns v).keys ≡ v.keys
pins_keys [] v = refl
pins_keys (n ∷ ns) v = pins_keys ns (pinned v n)

pub pins_held : (ns : List ℕ) (v : View) → (with_pins ns v).held ≡ v.held
pins_held [] v = refl
pins_held (n ∷ ns) v = pins_held ns (pinned v n)

-- a node that may be pinned and is known as free is node 0
may_free : (nodes : ℕ) (v : View) (n : ℕ) → IsShown nodes v → MayPin v n → known_row v n ≡ Some Free → n ≡ 0
may_free nodes v n shown (inl (inl used)) free = absurd (used.2 (same used.0 (sym used.1 ∙ free)))
  where
    same : (r : Row) → Some r ≡ Some Free → r ≡ Free
    same r e = cc
may_free nodes v n shown (inl (inr refers)) free = elim refers.3 [ inl first ↦ first | inr some ↦ absurd (shown.used refers.0 n (subst (λ (o : Option Row). 1 ≤ refs_known n o) (sym refers.2) some) free) ]
may_free nodes v n shown (inr pin) free = absurd (shown.pinned n pin free)

-- ---- what a made row leaves
module _ (nodes : ℕ) (v : View) (n : ℕ) (row : Row) (key : ℕ) (shown : IsShown nodes v) (free : known_row v n ≡ Some Free) (derived : is_derived row ≡ true) (held : has_node v.held n ≡ true)
    (pins : (m : ℕ) → own_pins (row_stored v n row key) m ≡ own_pins v m) where
  abbrev w : View
  w = row_stored v n row key

  held_same : w.held ≡ v.held
  held_same = pins_held (refs_of row) v

  rows_other : (m : ℕ) → m ≢ n → known_row w m ≡ known_row v m
  rows_other m ne = look_there m n row (with_pins (refs_of row) v).rows ne ∙ ap (look m) (pins_rows (refs_of row) v)

  pub row_known : known_row w n ≡ Some row
  row_known = look_here n row (with_pins (refs_of row) v).rows

  other_row : (m : ℕ) (r : Row) → known_row v m ≡ Some r → r ≢ Free → m ≢ n
  other_row m r e used same = used (go (sym e ∙ (ap (known_row v) same ∙ free)))
    where
      go : Some r ≡ Some Free → r ≡ Free
      go h = cc

  mine_stays : (m : ℕ) → is_mine v m ≡ true → is_mine w m ≡ true
  mine_stays m h = elim (or_cases (has_node v.held m) (has_node v.pins m) h) [
    | inl own ↦ or_left (has_node w.held m) (has_node w.pins m) (ap (λ ns. has_node ns m) held_same ∙ own)
    | inr pin ↦ or_right (has_node w.held m) (has_node w.pins m) (has_times m w.pins (subst (λ k. 1 ≤ k) (sym (pins m)) (times_has m v.pins pin)))
  ]

  -- the keys of other nodes
  look_key : (m k : ℕ) → m ≢ n → look m v.keys ≡ Some k → look m w.keys ≡ Some k
  look_key m k ne e =
      look_kept (is_mine w) m ((n, key) ∷ (with_pins (refs_of row) v).keys) (mine_stays m (shown.keys m k e))
      ∙ (look_there m n key (with_pins (refs_of row) v).keys ne ∙ (ap (look m) (pins_keys (refs_of row) v) ∙ e))

  key_stays : (m k : ℕ) → (m ≢ 0 → m ≢ n) → known_key v m ≡ Some k → known_key w m ≡ Some k
  key_stays m k apart = go (m == 0) refl
    where
      go : (b : Bool) → (m == 0) ≡ b → (if b then Some 0 else look m v.keys) ≡ Some k → (if b then Some 0 else look m w.keys) ≡ Some k
      go true e h = h
      go false e h = look_key m k (apart (λ same. let yes : (m == 0) ≡ true = eq-eqb m 0 same in cc)) h

  pin_stays : (m : ℕ) → MayPin v m → MayPin w m
  pin_stays m (inl (inl used)) = inl (inl (used.0, rows_other m (other_row m used.0 used.1 used.2) ∙ used.1, used.2))
  pin_stays m (inl (inr refers)) = inl (inr (go (cases_eq refers.0 n)))
    where
      go : (refers.0 ≡ n) ⊎ (refers.0 ≢ n) → Refers w m
      go (inl same) = (
        n,
        row,
        row_known,
        elim refers.3 [
          | inl first ↦ inl first
          | inr some ↦ absurd (
              let is : Some refers.1 ≡ Some Free = sym refers.2 ∙ (ap (known_row v) same ∙ free) in
              let one : refers.1 ≡ Free = cc in
              let none : 1 ≤ times m (refs_of Free) = subst (λ (r : Row). 1 ≤ times m (refs_of r)) one some in
              omega (arith, none)
              )
        ],
      )
      go (inr ne) = (refers.0, refers.1, rows_other refers.0 ne ∙ refers.2, refers.3)
  pin_stays m (inr pin) = inr (has_times m w.pins (subst (λ k. 1 ≤ k) (sym (pins m)) (times_has m v.pins pin)))

  pub row_keeps : KeepsKnown v w
  row_keeps = record {
    rows = λ m r e used. rows_other m (other_row m r e used) ∙ e;
    keys = λ m k r e used known. key_stays m k (λ some. other_row m r e used) known;
    refers = λ k m may. record {
      pin = pin_stays m may.pin;
      below = (may.below.0, key_stays m may.below.0 (λ some same. some (may_free nodes v m shown may.pin (ap (known_row v) same ∙ free))) may.below.1, may.below.2);
    };
  }

  pub row_keyed : MayReferTo w (suc key) n
  row_keyed = record { pin = inl (inl (row, row_known, not_free)); below = go (n == 0) refl }
    where
      not_free : row ≢ Free
      not_free same = let no : is_derived row ≡ false = ap is_derived same in cc

      go : (b : Bool) → (n == 0) ≡ b → (k : ℕ) × ((if b then Some 0 else look n w.keys) ≡ Some k) × (k < suc key)
      go true e = (0, refl, omega arith)
      go false e = (key, look_kept (is_mine w) n ((n, key) ∷ (with_pins (refs_of row) v).keys) (or_left (has_node w.held n) (has_node w.pins n) (ap (λ ns. has_node ns n) held_same ∙ held)) ∙ look_here n key (with_pins (refs_of row) v).keys, omega arith)
