-- The steps that store a key or a row, each of which the rule allows.
use Rattle.std.proofs.Common.{◌≡◌, ◌≢◌, ℕ, ◌+◌, ◌*◌, ◌<◌, ◌≤◌, true, List, length, length-set, set, Option, Some, None, refl, sym, ap, ◌∙◌, subst, arith, nat_eq, if◌then◌else◌, get_or}
use Rattle.syn_rows.specs.declared.TheConstants.{NODE_LIMIT}
use mathlib.Core.Option.{some, none, some-injective}
use lib.ListN.{get_elem?}
use Rattle.atomic_table.specs.Table.{Me, step, Allows}
use Rattle.syn_rows.specs.declared.Row.{Row}
use Rattle.syn_rows.specs.declared.Row.TheVariants.{Free, Source, And, Alias}
use Rattle.syn_rows.specs.Rows.{row_at, node_of}
use Rattle.syn_rows.specs.Packing.{word_of, Packs}
use Rattle.syn_rows.proofs.Packed.{same_packed}
use Rattle.syn_rows.specs.References.{hits, refs}
use Rattle.syn_core_laws.specs.declared.View.{View}
use Rattle.syn_core_laws.specs.declared.EventKind.{EventKind}
use Rattle.syn_core_laws.specs.declared.EventKind.TheVariants as Kind
use Rattle.syn_rows.specs.Nodes.{has_node}
use Rattle.syn_core_laws.specs.Lists.{look}
use Rattle.syn_core_laws.specs.Views.{is_derived_known, known_row, own_pins, key_set, made, redefined, freed}
use Rattle.syn_core_laws.specs.Cores.{Core}
use Rattle.syn_core_laws.specs.Shown.{IsShown}
use Rattle.syn_core_laws.specs.Events.{KeyBelow, MayRest, MayRedefine, MayFree, IsAnd, after}
use Rattle.syn_core_laws.proofs.Counting.{hits_same, has_times}
use Rattle.syn_core_laws.proofs.Listing.{look_there}
use Rattle.syn_core_laws.proofs.Fitting.{all_refs}
use Rattle.syn_core_laws.proofs.Storing.{held_there, key_is}
use Rattle.syn_table.specs.declared.Known.{Known}
use Rattle.syn_table.specs.declared.Opening.{Opening}
use Rattle.syn_table.specs.Laying.{node_at}
use Rattle.syn_table.specs.Rule.{IsTable, IsCore, IsActive}
use Rattle.syn_table.specs.Events.{IsEvent, redefines}
use Rattle.syn_table.specs.Steps.{with_view, TellsKeySet, TellsMade, TellsRedefined, TellsFreed, KnowsRedefine, Redefines, Frees}
use Rattle.syn_table.proofs.Wording.{laid_row, laid_key, row_node, key_node}
use Rattle.syn_table.proofs.Ruling.{event_is, stepped_on, view_at}
use Rattle.syn_table.proofs.Turning.{goes, becomes}

-- ---- one word is one row's
-- a row that rests on pinned nodes of the table packs
pub rests_pack : (v : View) (nodes : ℕ) (row : Row) → ((m : ℕ) → has_node v.pins m ≡ true → m < nodes) → nodes < NODE_LIMIT → ((m : ℕ) → refs m row ≤ own_pins v m) → Packs row
rests_pack v nodes Free within few served = tt
rests_pack v nodes Source within few served = tt
rests_pack v nodes (And a b) within few served =
    let one : hits (node_of a) (node_of a) ≡ 1 = hits_same (node_of a) in
    let two : hits (node_of b) (node_of b) ≡ 1 = hits_same (node_of b) in
    let first : node_of a < nodes = within (node_of a) (has_times (node_of a) v.pins (omega (arith, served (node_of a)))) in
    let second : node_of b < nodes = within (node_of b) (has_times (node_of b) v.pins (omega (arith, served (node_of b)))) in
    (omega arith, omega arith)
rests_pack v nodes (Alias a) within few served =
    let one : hits (node_of a) (node_of a) ≡ 1 = hits_same (node_of a) in
    let first : node_of a < nodes = within (node_of a) (has_times (node_of a) v.pins (omega (arith, served (node_of a)))) in
    omega arith

-- a row that may rest on its nodes still may once the key of a node known as free is stored
pub rests_keyed : (v : View) (n key : ℕ) (row : Row) → known_row v n ≡ Some Free → ((m : ℕ) → has_node v.pins m ≡ true → known_row v m ≢ Some Free) → MayRest v key row → MayRest (key_set v n key) key row
rests_keyed v n key row free pinned may = (
  may.0,
  all_refs (KeyBelow v key) (KeyBelow (key_set v n key) key) row
      (λ m one below.
      let other : m ≢ n = λ same. pinned m (has_times m v.pins (omega (arith, may.0 m))) (ap (known_row v) same ∙ free) in
      (below.0, ap (λ o. if nat_eq m 0 then Some 0 else o) (look_there m n key v.keys other) ∙ below.1, below.2))
      may.1,
)

-- a node on the zero list is held
pub idle_held : (v : View) (nodes : ℕ) → IsShown nodes v → (n : ℕ) → has_node v.idle n ≡ true → has_node v.held n ≡ true
idle_held v nodes shown n h = go (known_row v n) refl (shown.idles n h).0
  where
    go : (o : Option Row) → known_row v n ≡ o → is_derived_known o ≡ true → has_node v.held n ≡ true
    go None e d = absurd (cc)
    go (Some r) e d = (shown.rows n r e).1

-- ---- set key
keys_set_turn : (o : Opening) (slots id : ℕ) (me : Me ℕ Known) (n key : ℕ) → IsActive me.0 → known_row me.0.core n ≡ Some Free
    → Allows (IsCore o) slots id me (4 + 4 * n) (λ _. key) (λ _. TellsKeySet (step slots (4 + 4 * n) key 0 none) me key)
keys_set_turn o slots id me n key active free s core homes at fits =
    let c : Core = core.0 in
    let v : View = me.0.core in
    let t : IsTable o s.words s.views c = core.1 in
    let seated : get_elem? c.seats id ≡ some v = view_at o s.words s.views c id me.0 t at in
    let there : n < length c.rows = held_there c id v t.sound seated n (active.shown.rows n Free free).1 in
    let next : Core = after c id v (Kind.SetKey n key) in
    let table : IsTable o (set s.words (4 + 4 * n) key) (set s.views id (with_view me.0 (key_set v n key))) next =
    stepped_on o s.words (set s.words (4 + 4 * n) key) s.views c id me.0 (Kind.SetKey n key) (key_set v n key) t at active.number there free refl
    (laid_key s.words c n key (set c.seats id (key_set v n key)) t.laid there t.sound.keys_count) refl refl refl refl in
    goes o s id me (4 + 4 * n) key (TellsKeySet (step slots (4 + 4 * n) key 0 none) me key) (key_set v n key) next table (
      becomes o (set s.words (4 + 4 * n) key) s.views next id me (key_set v n key) _ at active.number table (ap (λ m. key_set v m key) (sym (key_node n))),
      subst (λ m. IsEvent me.0 (Kind.SetKey m key) (key_set v n key)) (sym (key_node n)) (event_is o s.words s.views c id me.0 (Kind.SetKey n key) (key_set v n key) t at active.number there free refl),
    )

-- ---- make
makes_turn : (o : Opening) (slots id : ℕ) (me : Me ℕ Known) (n key : ℕ) (row : Row) → IsActive me.0 → known_row me.0.core n ≡ Some Free → IsAnd row → look n me.0.core.keys ≡ Some key → MayRest me.0.core key row → Packs row
    → Allows (IsCore o) slots id me (2 + 4 * n) (λ _. word_of row) (λ _. TellsMade (step slots (2 + 4 * n) (word_of row) 0 none) me (word_of row))
makes_turn o slots id me n key row active free is_and known may packs s core homes at fits =
    let c : Core = core.0 in
    let v : View = me.0.core in
    let t : IsTable o s.words s.views c = core.1 in
    let seated : get_elem? c.seats id ≡ some v = view_at o s.words s.views c id me.0 t at in
    let there : n < length c.rows = held_there c id v t.sound seated n (active.shown.rows n Free free).1 in
    let is : get_or c.keys n 0 ≡ key = ((t.sound.seats id v seated).knows_keys n key known).1 in
    let next : Core = after c id v (Kind.Make n row) in
    let table : IsTable o (set s.words (2 + 4 * n) (word_of row)) (set s.views id (with_view me.0 (made v n row))) next =
    stepped_on o s.words (set s.words (2 + 4 * n) (word_of row)) s.views c id me.0 (Kind.Make n row) (made v n row) t at active.number there
    (free, is_and, subst (λ k. MayRest v k row) (sym is) may) refl
    (laid_row s.words c n row (set c.seats id (made v n row)) t.laid there) refl refl refl (length-set c.rows n row) in
    goes o s id me (2 + 4 * n) (word_of row) (TellsMade (step slots (2 + 4 * n) (word_of row) 0 none) me (word_of row)) (made v n row) next table (
      row,
      packs,
      refl,
      becomes o (set s.words (2 + 4 * n) (word_of row)) s.views next id me (made v n row) _ at active.number table (ap (λ m. made v m row) (sym (row_node n))),
      subst (λ m. IsEvent me.0 (Kind.Make m row) (made v n row)) (sym (row_node n))
          (event_is o s.words s.views c id me.0 (Kind.Make n row) (made v n row) t at active.number there (free, is_and, subst (λ k. MayRest v k row) (sym is) may) refl),
    )

-- ---- redefine
redefines_turn : (o : Opening) (slots id : ℕ) (me : Me ℕ Known) (n : ℕ) (row : Row) (over : List ℕ) → IsActive me.0 → KnowsRedefine me.0.core n row over → Packs row
    → Allows (IsCore o) slots id me (2 + 4 * n) (λ _. word_of row) (λ _. TellsRedefined (step slots (2 + 4 * n) (word_of row) 0 none) me (word_of row))
redefines_turn o slots id me n row over active may packs s core homes at fits =
    let c : Core = core.0 in
    let v : View = me.0.core in
    let t : IsTable o s.words s.views c = core.1 in
    let seated : get_elem? c.seats id ≡ some v = view_at o s.words s.views c id me.0 t at in
    let old : Row = may.0 in
    let known : known_row v n ≡ Some old = may.3.0 in
    let there : n < length c.rows = held_there c id v t.sound seated n (active.shown.rows n old known).1 in
    let is : get_or c.keys n 0 ≡ may.1 = key_is c id v t.sound seated active.number n may.1 may.2 in
    let was : row_at c.rows n ≡ old = ((t.sound.seats id v seated).knows_rows n old known).1 in
    let view : View = redefined v n (row_at c.rows n) row in
    let event : EventKind = redefines n row over in
    let next : Core = after c id v event in
    let table : IsTable o (set s.words (2 + 4 * n) (word_of row)) (set s.views id (with_view me.0 view)) next =
    stepped_on o s.words (set s.words (2 + 4 * n) (word_of row)) s.views c id me.0 event view t at active.number there
    (old, subst (λ k. MayRedefine v n k row over old) (sym is) may.3) refl
    (laid_row s.words c n row (set c.seats id view) t.laid there) refl refl refl (length-set c.rows n row) in
    goes o s id me (2 + 4 * n) (word_of row) (TellsRedefined (step slots (2 + 4 * n) (word_of row) 0 none) me (word_of row)) view next table (
      old,
      row,
      ap (known_row v) (row_node n) ∙ known,
      packs,
      refl,
      becomes o (set s.words (2 + 4 * n) (word_of row)) s.views next id me view _ at active.number table (ap (λ q. redefined v n q row) was ∙ ap (λ m. redefined v m old row) (sym (row_node n))),
      over,
      subst (λ m. IsEvent me.0 (redefines m row over) view) (sym (row_node n))
          (event_is o s.words s.views c id me.0 event view t at active.number there (old, subst (λ k. MayRedefine v n k row over old) (sym is) may.3) refl),
    )

-- ---- free
frees_turn : (o : Opening) (slots id : ℕ) (me : Me ℕ Known) (n : ℕ) → IsActive me.0 → MayFree me.0.core n
    → Allows (IsCore o) slots id me (2 + 4 * n) (λ _. word_of Free) (λ _. TellsFreed (step slots (2 + 4 * n) (word_of Free) 0 none) me (word_of Free))
frees_turn o slots id me n active may s core homes at fits =
    let c : Core = core.0 in
    let v : View = me.0.core in
    let t : IsTable o s.words s.views c = core.1 in
    let seated : get_elem? c.seats id ≡ some v = view_at o s.words s.views c id me.0 t at in
    let gate = ((t.sound.seats id v seated).idles n may.0).0 in
    let old : Row = gate.0 in
    let known : known_row v n ≡ Some old = gate.1 in
    let there : n < length c.rows = held_there c id v t.sound seated n (active.shown.rows n old known).1 in
    let was : row_at c.rows n ≡ old = ((t.sound.seats id v seated).knows_rows n old known).1 in
    let view : View = freed v n (row_at c.rows n) in
    let next : Core = after c id v (Kind.Free n) in
    let table : IsTable o (set s.words (2 + 4 * n) (word_of Free)) (set s.views id (with_view me.0 view)) next =
    stepped_on o s.words (set s.words (2 + 4 * n) (word_of Free)) s.views c id me.0 (Kind.Free n) view t at active.number there may refl
    (laid_row s.words c n Free (set c.seats id view) t.laid there) refl refl refl (length-set c.rows n Free) in
    goes o s id me (2 + 4 * n) (word_of Free) (TellsFreed (step slots (2 + 4 * n) (word_of Free) 0 none) me (word_of Free)) view next table (
      old,
      ap (known_row v) (row_node n) ∙ known,
      becomes o (set s.words (2 + 4 * n) (word_of Free)) s.views next id me view _ at active.number table (ap (freed v n) was ∙ ap (λ m. freed v m old) (sym (row_node n))),
      subst (λ m. IsEvent me.0 (Kind.Free m) view) (sym (row_node n)) (event_is o s.words s.views c id me.0 (Kind.Free n) view t at active.number there may refl),
    )

-- ---- the same, wherever the index of the word and the number stored come from
pub keys_set_allowed : (o : Opening) (slots id : ℕ) (me : Me ℕ Known) (n key i : ℕ) → i ≡ 4 + 4 * n → IsActive me.0 → known_row me.0.core n ≡ Some Free
    → Allows (IsCore o) slots id me i (λ _. key) (λ _. TellsKeySet (step slots i key 0 none) me key)
keys_set_allowed o slots id me n key i e active free =
    subst (λ w. Allows (IsCore o) slots id me w (λ _. key) (λ _. TellsKeySet (step slots w key 0 none) me key)) (sym e) (keys_set_turn o slots id me n key active free)

pub makes_allowed : (o : Opening) (slots id : ℕ) (me : Me ℕ Known) (n key i x : ℕ) (row : Row) → i ≡ 2 + 4 * n → x ≡ word_of row → IsActive me.0 → known_row me.0.core n ≡ Some Free → IsAnd row → look n me.0.core.keys ≡ Some key → MayRest me.0.core key row → Packs row
    → Allows (IsCore o) slots id me i (λ _. x) (λ _. TellsMade (step slots i x 0 none) me x)
makes_allowed o slots id me n key i x row e is active free is_and known may packs =
    subst (λ w. Allows (IsCore o) slots id me w (λ _. x) (λ _. TellsMade (step slots w x 0 none) me x)) (sym e)
    (subst (λ y. Allows (IsCore o) slots id me (2 + 4 * n) (λ _. y) (λ _. TellsMade (step slots (2 + 4 * n) y 0 none) me y)) (sym is) (makes_turn o slots id me n key row active free is_and known may packs))

pub redefines_allowed : (o : Opening) (slots id : ℕ) (me : Me ℕ Known) (n i x : ℕ) (row : Row) (over : List ℕ) → i ≡ 2 + 4 * n → x ≡ word_of row → IsActive me.0 → KnowsRedefine me.0.core n row over → Packs row
    → Allows (IsCore o) slots id me i (λ _. x) (λ _. TellsRedefined (step slots i x 0 none) me x)
redefines_allowed o slots id me n i x row over e is active may packs =
    subst (λ w. Allows (IsCore o) slots id me w (λ _. x) (λ _. TellsRedefined (step slots w x 0 none) me x)) (sym e)
    (subst (λ y. Allows (IsCore o) slots id me (2 + 4 * n) (λ _. y) (λ _. TellsRedefined (step slots (2 + 4 * n) y 0 none) me y)) (sym is) (redefines_turn o slots id me n row over active may packs))

pub frees_allowed : (o : Opening) (slots id : ℕ) (me : Me ℕ Known) (n i x : ℕ) → i ≡ 2 + 4 * n → x ≡ word_of Free → IsActive me.0 → MayFree me.0.core n
    → Allows (IsCore o) slots id me i (λ _. x) (λ _. TellsFreed (step slots i x 0 none) me x)
frees_allowed o slots id me n i x e is active may =
    subst (λ w. Allows (IsCore o) slots id me w (λ _. x) (λ _. TellsFreed (step slots w x 0 none) me x)) (sym e)
    (subst (λ y. Allows (IsCore o) slots id me (2 + 4 * n) (λ _. y) (λ _. TellsFreed (step slots (2 + 4 * n) y 0 none) me y)) (sym is) (frees_turn o slots id me n active may))

-- ---- what the seat knows by what it is told
pub made_told : (w : ℕ) (me new : Me ℕ Known) (n x : ℕ) (row : Row) → node_at w ≡ n → Packs row → x ≡ word_of row → TellsMade (step 0 w 0 0 none) me x new → new.0 ≡ with_view me.0 (made me.0.core n row)
made_told w me new n x row at packs is told =
    ap (λ (m : Me ℕ Known). m.0) told.3.0
    ∙ (ap (λ m. with_view me.0 (made me.0.core m told.0)) at ∙ ap (λ r. with_view me.0 (made me.0.core n r)) (same_packed told.0 row told.1 packs (told.2 ∙ is)))

pub redefined_told : (w : ℕ) (me new : Me ℕ Known) (n x : ℕ) (row : Row) → node_at w ≡ n → Packs row → x ≡ word_of row → TellsRedefined (step 0 w 0 0 none) me x new → Redefines me.0 n row new.0
redefined_told w me new n x row at packs is told = (
  told.0,
  subst (λ m. known_row me.0.core m ≡ Some told.0) at told.2,
  ap (λ (m : Me ℕ Known). m.0) told.5.0
      ∙ (ap (λ m. with_view me.0 (redefined me.0.core m told.0 told.1)) at ∙ ap (λ r. with_view me.0 (redefined me.0.core n told.0 r)) (same_packed told.1 row told.3 packs (told.4 ∙ is))),
)

pub freed_told : (w : ℕ) (me new : Me ℕ Known) (n : ℕ) → node_at w ≡ n → TellsFreed (step 0 w 0 0 none) me 0 new → Frees me.0 n new.0
freed_told w me new n at told = (
  told.0,
  subst (λ m. known_row me.0.core m ≡ Some told.0) at told.1,
  ap (λ (m : Me ℕ Known). m.0) told.2.0 ∙ ap (λ m. with_view me.0 (freed me.0.core m told.0)) at,
)

-- ---- which event it was
pub made_event : (w : ℕ) (me new : Me ℕ Known) (n x : ℕ) (row : Row) → node_at w ≡ n → Packs row → x ≡ word_of row → TellsMade (step 0 w 0 0 none) me x new → IsEvent me.0 (Kind.Make n row) new.0.core
made_event w me new n x row at packs is told =
    subst (λ m. IsEvent me.0 (Kind.Make m row) new.0.core) at (subst (λ r. IsEvent me.0 (Kind.Make (node_at w) r) new.0.core) (same_packed told.0 row told.1 packs (told.2 ∙ is)) told.4)

-- what a redefine asks holds in the core too, so that the event is over the nodes that the call named
pub redefined_event : (w : ℕ) (me new : Me ℕ Known) (n x : ℕ) (row : Row) (over : List ℕ) → node_at w ≡ n → Packs row → x ≡ word_of row → KnowsRedefine me.0.core n row over → TellsRedefined (step 0 w 0 0 none) me x new
    → IsEvent me.0 (redefines n row over) new.0.core
redefined_event w me new n x row over at packs is may told = named (
  told.6,
  subst (λ m. IsEvent me.0 (redefines m row told.6) new.0.core) at
      (subst (λ r. IsEvent me.0 (redefines (node_at w) r told.6) new.0.core) (same_packed told.1 row told.3 packs (told.4 ∙ is)) told.7),
)
  where
    named : (some : List ℕ) × IsEvent me.0 (redefines n row some) new.0.core → IsEvent me.0 (redefines n row over) new.0.core
    named found =
        let e = found.1 in
        let seated : get_elem? e.core.seats e.id ≡ some me.0.core = view_at e.opening e.words e.seats e.core e.id me.0 e.table e.seat in
        let mine : e.steps.0 ≡ me.0.core = some-injective e.steps.0 me.0.core (sym e.steps.1 ∙ seated) in
        let small : me.0.core.number < 64 = subst (λ (v : View). v.number < 64) mine e.steps.2 in
        let key : get_or e.core.keys n 0 ≡ may.1 = key_is e.core e.id me.0.core e.table.sound seated small n may.1 may.2 in
        record {
          opening = e.opening;
          words = e.words;
          seats = e.seats;
          core = e.core;
          next = e.next;
          id = e.id;
          table = e.table;
          seat = e.seat;
          steps = (me.0.core, seated, small, e.steps.3, (may.0, subst (λ k. MayRedefine me.0.core n k row over may.0) (sym key) may.3), subst (λ (v : View). e.next ≡ after e.core e.id v (redefines n row found.0)) mine e.steps.5);
          view = e.view;
        }

pub freed_event : (w : ℕ) (me new : Me ℕ Known) (n : ℕ) → node_at w ≡ n → TellsFreed (step 0 w 0 0 none) me 0 new → IsEvent me.0 (Kind.Free n) new.0.core
freed_event w me new n at told = subst (λ m. IsEvent me.0 (Kind.Free m) new.0.core) at told.3
