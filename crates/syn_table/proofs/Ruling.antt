-- An event of a seat keeps the table's rule.
use Rattle.std.proofs.Common.{◌≡◌, ℕ, zero, suc, ◌<◌, List, [], ◌∷◌, ◌++◌, drop, length, set, refl, sym, ap, ◌∙◌, subst, arith, inl, inr}
use mathlib.Core.Option.{some, some-injective, some-ne-none}
use lib.ListN.{get_elem?}
use Rattle.atomic_table.proofs.Lists.{at_map, at_set, set_here}
use Rattle.syn_rows.specs.declared.Row.TheVariants.{Free, Source}
use Rattle.syn_rows.specs.Rows.{row_at}
use Rattle.syn_rows.specs.References.{times}
use Rattle.syn_core_laws.specs.declared.View.{View}
use Rattle.syn_core_laws.specs.declared.EventKind.{EventKind}
use Rattle.syn_core_laws.specs.Cores.{Core}
use Rattle.syn_core_laws.specs.Bounds.{IsSmall}
use Rattle.syn_core_laws.specs.Events.{May, event_node, after}
use Rattle.syn_core_laws.specs.Sound.{IsSound}
use Rattle.syn_core_laws.proofs.Laws.{events_keep_sound}
use Rattle.syn_core_laws.proofs.Within.{nodes_are_there}
use Rattle.syn_core_laws.proofs.Showing.{seats_are_shown}
use Rattle.syn_core_laws.specs.Shown.{IsShown}
use Rattle.syn_table.specs.declared.Known.{Known}
use Rattle.syn_table.specs.declared.Opening.{Opening}
use Rattle.syn_table.specs.Numbers.{all_numbers}
use Rattle.syn_table.specs.Laying.{IsLaid}
use Rattle.syn_table.specs.Rule.{views_of, IsTied, IsTable, IsActive}
use Rattle.syn_table.specs.Events.{IsEvent}
use Rattle.syn_table.specs.Steps.{with_view}

-- ---- lists of seats
pub views_set : (seats : List Known) (id : ℕ) (k : Known) → views_of (set seats id k) ≡ set (views_of seats) id k.core
views_set [] id k = refl
views_set (x ∷ xs) zero k = refl
views_set (x ∷ xs) (suc id) k = ap (λ l. x.core ∷ l) (views_set xs id k)

pub view_there : (seats : List Known) (id : ℕ) (k : Known) → get_elem? seats id ≡ some k → get_elem? (views_of seats) id ≡ some k.core
view_there seats id k at = at_map (λ (k : Known). k.core) seats id k at

-- a seat with another view has the same numbers
numbers_stay : (seats : List Known) (id : ℕ) (k : Known) (v : View) → get_elem? seats id ≡ some k → all_numbers (set seats id (with_view k v)) ≡ all_numbers seats
numbers_stay [] id k v at = refl
numbers_stay (x ∷ xs) zero k v at = ap (λ (z : Known). z.numbers ++ all_numbers xs) (sym (some-injective x k at))
numbers_stay (x ∷ xs) (suc id) k v at = ap (λ l. x.numbers ++ l) (numbers_stay xs id k v at)

pub seat_there : {A : Type 0} (l : List A) (id : ℕ) (a b : A) → get_elem? l id ≡ some a → get_elem? (set l id b) id ≡ some b
seat_there l id a b at = set_here l id b (inside l id a at)
  where
    inside : {A : Type 0} (l : List A) (id : ℕ) (a : A) → get_elem? l id ≡ some a → id < length l
    inside [] id a at = absurd (some-ne-none a (sym at))
    inside (x ∷ xs) zero a at = omega arith
    inside (x ∷ xs) (suc id) a at = let rest : id < length xs = inside xs id a at in omega arith

-- ---- what ties a seat to the state
pub tied_still : (c d : Core) (k : Known) → d.opening ≡ c.opening → d.observed ≡ c.observed → IsTied c k → IsTied d k
tied_still c d k opening observed t = record {
  own = t.own;
  opening = λ small. t.opening small ∙ sym opening;
  observed = λ small. t.observed small ∙ sym observed;
  spent = t.spent;
}

tied_after : (c d : Core) (k : Known) (v : View) → d.opening ≡ c.opening → d.observed ≡ c.observed → k.core.number < 64 → v.number ≡ k.core.number → IsTied c k → IsTied d (with_view k v)
tied_after c d k v opening observed small number t = record {
  own = λ _. t.own small ∙ ap (λ n. n ∷ drop 1 k.numbers) (sym number);
  opening = λ _. t.opening small ∙ sym opening;
  observed = λ _. t.observed small ∙ sym observed;
  spent = λ big. absurd (omega arith);
}

small_after : (c d : Core) (id : ℕ) (v : View) → IsSmall c → v.number < 64 → length d.rows ≡ length c.rows → d.observed ≡ c.observed → d.seats ≡ set c.seats id v → IsSmall d
small_after c d id v small number rows observed seats = record {
  nodes = omega (arith, small.nodes);
  literals = let same : length d.observed ≡ length c.observed = ap length observed in omega (arith, small.literals);
  spent = λ j u at big. elim (at_set c.seats id j v u (ap (λ l. get_elem? l j) (sym seats) ∙ at)) [
    | inl mine ↦ let same : v.number ≡ u.number = ap (λ (z : View). z.number) mine.1 in absurd (omega arith)
    | inr other ↦ small.spent j u other.1 big
  ];
}

-- ---- one seat's view changes, and the core is sound and laid out after it
pub moved : (o : Opening) (words after_words : List ℕ) (seats : List Known) (c d : Core) (id : ℕ) (k : Known) (v : View)
    → IsTable o words seats c → get_elem? seats id ≡ some k → k.core.number < 64 → v.number ≡ k.core.number
    → IsSound d → IsLaid after_words d → d.seats ≡ set c.seats id v → d.opening ≡ c.opening → d.observed ≡ c.observed → length d.rows ≡ length c.rows
    → IsTable o after_words (set seats id (with_view k v)) d
moved o words after_words seats c d id k v t at small number sound laid views opening observed rows = record {
  laid = laid;
  views = views ∙ (ap (λ l. set l id v) t.views ∙ sym (views_set seats id (with_view k v)));
  opened = opening ∙ t.opened;
  observed = observed ∙ t.observed;
  nodes = rows ∙ (t.nodes ∙ ap length (sym opening));
  small = small_after c d id v t.small (omega arith) rows observed views;
  sound = sound;
  tied = λ j u there. elim (at_set seats id j (with_view k v) u there) [
    | inl mine ↦ subst (IsTied d) mine.1 (tied_after c d k v opening observed small number (t.tied id k at))
    | inr other ↦ tied_still c d u opening observed (t.tied j u other.1)
  ];
  once = λ n lt. ap (times n) (numbers_stay seats id k v at) ∙ t.once n lt;
  below = λ n le. ap (times n) (numbers_stay seats id k v at) ∙ t.below n le;
}

-- the seat's view in the core
pub view_at : (o : Opening) (words : List ℕ) (seats : List Known) (c : Core) (id : ℕ) (k : Known) → IsTable o words seats c → get_elem? seats id ≡ some k → get_elem? c.seats id ≡ some k.core
view_at o words seats c id k t at = ap (λ l. get_elem? l id) t.views ∙ view_there seats id k at

-- an event that is allowed, and whose word is stored, keeps the rule
pub stepped_on : (o : Opening) (words after_words : List ℕ) (seats : List Known) (c : Core) (id : ℕ) (k : Known) (e : EventKind) (v : View)
    → IsTable o words seats c → get_elem? seats id ≡ some k → k.core.number < 64 → event_node e < length c.rows → May c k.core e
    → v.number ≡ k.core.number → IsLaid after_words (after c id k.core e) → (after c id k.core e).seats ≡ set c.seats id v
    → (after c id k.core e).opening ≡ c.opening → (after c id k.core e).observed ≡ c.observed → length (after c id k.core e).rows ≡ length c.rows
    → IsTable o after_words (set seats id (with_view k v)) (after c id k.core e)
stepped_on o words after_words seats c id k e v t at small there may number laid views opening observed rows =
    let at_view : get_elem? c.seats id ≡ some k.core = view_at o words seats c id k t at in
    let sound : IsSound (after c id k.core e) = events_keep_sound c (record { seat = id; kind = e }) (after c id k.core e) t.sound (k.core, at_view, small, there, may, refl) in
    moved o words after_words seats c (after c id k.core e) id k v t at small number sound laid views opening observed rows

-- such an event is the one that the seat's step tells, in this core
pub event_of : (o : Opening) (words : List ℕ) (seats : List Known) (c : Core) (id : ℕ) (k : Known) (e : EventKind) (v : View)
    → IsTable o words seats c → get_elem? seats id ≡ some k → k.core.number < 64 → event_node e < length c.rows → May c k.core e → (after c id k.core e).seats ≡ set c.seats id v
    → (event : IsEvent k e v) × (event.core ≡ c)
event_of o words seats c id k e v t at small there may views =
    let at_view : get_elem? c.seats id ≡ some k.core = view_at o words seats c id k t at in (
      record {
        opening = o;
        words = words;
        seats = seats;
        core = c;
        next = after c id k.core e;
        id = id;
        table = t;
        seat = at;
        steps = (k.core, at_view, small, there, may, refl);
        view = ap (λ l. get_elem? l id) views ∙ seat_there c.seats id k.core v at_view;
      },
      refl,
    )

pub event_is : (o : Opening) (words : List ℕ) (seats : List Known) (c : Core) (id : ℕ) (k : Known) (e : EventKind) (v : View)
    → IsTable o words seats c → get_elem? seats id ≡ some k → k.core.number < 64 → event_node e < length c.rows → May c k.core e → (after c id k.core e).seats ≡ set c.seats id v → IsEvent k e v
event_is o words seats c id k e v t at small there may views = (event_of o words seats c id k e v t at small there may views).0

-- ---- what the rule tells of a seat that has a number
-- it knows how many nodes there are
pub nodes_known : (o : Opening) (words : List ℕ) (seats : List Known) (c : Core) (id : ℕ) (k : Known) → IsTable o words seats c → get_elem? seats id ≡ some k → k.core.number < 64 → length k.opening ≡ length c.rows
nodes_known o words seats c id k t at small = ap length ((t.tied id k at).opening small) ∙ sym t.nodes

pub is_active : (o : Opening) (words : List ℕ) (seats : List Known) (c : Core) (id : ℕ) (k : Known) → IsTable o words seats c → get_elem? seats id ≡ some k → k.core.number < 64 → IsActive k
is_active o words seats c id k t at small = record {
  number = small;
  own = (t.tied id k at).own small;
  within = λ n h. let lt : n < length c.rows = nodes_are_there c id k.core n t.sound (view_at o words seats c id k t at) h in omega (arith, nodes_known o words seats c id k t at small);
  shown = subst (λ m. IsShown m k.core) (sym (nodes_known o words seats c id k t at small)) (seats_are_shown c id k.core t.sound (view_at o words seats c id k t at));
  constant = λ free.
      let is : row_at c.rows 0 ≡ Free = ((t.sound.seats id k.core (view_at o words seats c id k t at)).knows_rows 0 Free free).1 in
      let source : row_at c.rows 0 ≡ Source = t.sound.constant in
      cc;
}
