-- The walk: where it begins, one step, and what it has visited at its end.
use Rattle.std.proofs.Common.{◌≡◌, ℕ, ◌+◌, ◌*◌, ◌<◌, nat_le, Bool, true, false, All, List, [], ◌∷◌, ◌++◌, length, set, replicate, append-nil, refl, sym, ap, ◌∙◌, subst, subst₂, arith, inl, inr, Option, Some, None, IsSome}
use Rattle.std.proofs.lemmas.Bool.{both_ways, cases_eq, cases_lt, cases_Bool, cond-false, lt-leb}
use Rattle.std.proofs.lemmas.List.{get_or-set_other, get_or-replicate, get_or_past, length-set, length-replicate}
use Rattle.std.proofs.lemmas.List.Elements.{All-nil, All-cons, All-append, All-pop, All-weaker}
use Rattle.syn_rows.specs.declared.Lit.{Lit}
use Rattle.syn_rows.specs.declared.Row.{Row}
use Rattle.syn_rows.specs.declared.Row.TheVariants.{Free, Source, And, Alias}
use Rattle.syn_rows.specs.Rows.{node_of, row_at, AllRefs}
use Rattle.syn_rows.specs.Values.{is_open, value_in}
use Rattle.syn_rows.specs.Reach.{HasObserved, IsClosed, Reached}
use Rattle.syn_rows.proofs.Folds.{AllRefs-weaker}
use Rattle.syn_hashed.specs.declared.visit.Step.{Step}
use Rattle.syn_hashed.specs.declared.visit.Step.TheVariants.{Enter, Leave}
use Rattle.syn_hashed.specs.Compacting.{CanCompact, IsThere}
use Rattle.syn_hashed.specs.Visiting.{visited, FirstsOf, IsReady, StaysVisited}
use Rattle.syn_hashed.specs.Walking.{node_in, steps_of, enters, Awaits, Leaves, IsKnown, IsVisitingWalk}
use Rattle.syn_hashed.proofs.Turns.{all_awaited, all_enters, all_known_less, all_known_more, AreStepsOf, are_steps, leaves_left, leaves_right, leaves_snoc, turns_begin, turns_less, turns_more, turns_rank, turns_ready}
use Rattle.syn_hashed.proofs.Visits.{some_is, some_of}

-- rows that are there

pub there_below : (rows : List Row) (n : ℕ) → IsThere rows n → n < length rows
there_below rows n h = elim (cases_lt n (length rows)) [
  | inl lt ↦ lt
  | inr ge ↦ absurd (h (get_or_past rows n Free ge))
]

pub source_below : (count : ℕ) (rows : List Row) (lits : List Lit) → CanCompact count rows lits → count < length rows
source_below count rows lits can = there_below rows count (λ e. clash (sym (can.front count (omega arith)) ∙ e))
  where
    clash : Source ≡ Free → ⊥
    clash e = cc

abbrev there_test : Row → Bool
there_test Free = false
there_test Source = true
there_test (And a b) = true
there_test (Alias a) = true

there_true : (row : Row) → (row ≡ Free → ⊥) → there_test row ≡ true
there_true Free h = absurd (h refl)
there_true Source h = refl
there_true (And a b) h = refl
there_true (Alias a) h = refl

-- what is reached is there
pub reached_there : (count : ℕ) (rows : List Row) (lits : List Lit) (n : ℕ) → CanCompact count rows lits → Reached rows lits n → IsThere rows n
reached_there count rows lits n can r e = both_ways (there_test (row_at rows n)) (ap there_test e) (r test closed has)
  where
    test : ℕ → Bool
    test m = there_test (row_at rows m)

    closed : IsClosed rows test
    closed m h = AllRefs-weaker (IsThere rows) (λ k. test k ≡ true) (λ k t. there_true (row_at rows k) t) (row_at rows m) (can.refs m)

    has : HasObserved lits test
    has = All-weaker (λ (l : Lit). IsThere rows (node_of l)) (λ (l : Lit). test (node_of l) ≡ true) (λ l t. there_true (row_at rows (node_of l)) t) lits can.named

-- an open row that is reached is a source's, which was visited
open_visited : (count : ℕ) (rows : List Row) (lits : List Lit) (literals : List (Option Lit)) (n : ℕ) → CanCompact count rows lits → ((m : ℕ) → m < count + 1 → IsSome (visited literals m)) → Reached rows lits n → is_open (row_at rows n) ≡ true → IsSome (visited literals n)
open_visited count rows lits literals n can front r given = of_row (row_at rows n) refl given
  where
    of_row : (row : Row) → row_at rows n ≡ row → is_open row ≡ true → IsSome (visited literals n)
    of_row Free e o = absurd (reached_there count rows lits n can r e)
    of_row Source e o = elim (cases_lt n (count + 1)) [
      | inl lt ↦ front n lt
      | inr ge ↦ absurd (can.others n (omega arith) e)
    ]
    of_row (And a b) e o = absurd (both_ways false refl o)
    of_row (Alias a) e o = absurd (both_ways false refl o)

-- the beginning

pub walk_begins : (count : ℕ) (rows : List Row) (lits : List Lit) (literals : List (Option Lit)) → CanCompact count rows lits → FirstsOf count (length rows) literals → IsVisitingWalk count rows lits literals (replicate (length rows) false) (enters lits)
walk_begins count rows lits literals can firsts = record {
  all = length-replicate (length rows) false;
  waiting = all_enters (Reached rows lits) lits (λ i d lt test closed has. has i d lt);
  reached = λ n above v. absurd (fresh n above v);
  begun = All-weaker (λ (l : Lit). Awaits (enters lits) (node_of l)) (λ (l : Lit). IsKnown literals (enters lits) (node_of l)) (λ l a. inr a) lits (all_awaited lits);
  marked = λ n e. absurd (both_ways (value_in (replicate (length rows) false) n) (none n) e);
  turns = (can.acyclic.0, can.acyclic.1, turns_begin rows can.acyclic.0 literals lits);
}
  where
    none : (n : ℕ) → value_in (replicate (length rows) false) n ≡ false
    none n = elim (cases_lt n (length rows)) [
      | inl lt ↦ get_or-replicate (length rows) n false false lt
      | inr ge ↦ get_or_past (replicate (length rows) false) n false (omega (arith, length-replicate (length rows) false))
    ]

    no_some : (o : Option Lit) → o ≡ None → IsSome o → ⊥
    no_some None e h = both_ways false refl h
    no_some (Some l) e h = absurd (cc)

    fresh : (n : ℕ) → count < n → IsSome (visited literals n) → ⊥
    fresh n above v = elim (cases_lt n (length rows)) [
      | inl lt ↦ no_some (visited literals n) (firsts.each n lt ∙ cond-false (nat_le n count) (Some (record { 0 = 2 * n })) None (lt-leb n count above)) v
      | inr ge ↦ no_some (visited literals n) (get_or_past literals n None (omega (arith, firsts.all))) v
    ]

-- a node that was marked before

enter_leave : (n m : ℕ) → Enter n ≡ Leave m → ⊥
enter_leave n m e = cc

passed : (count : ℕ) (rows : List Row) (lits : List Lit) (literals : List (Option Lit)) (marks : List Bool) (steps : List Step) (n : ℕ) → IsVisitingWalk count rows lits literals marks (steps ++ Enter n ∷ []) → IsSome (visited literals n) → IsVisitingWalk count rows lits literals marks steps
passed count rows lits literals marks steps n w done = record {
  all = w.all;
  waiting = (All-pop (λ (s : Step). Reached rows lits (node_in s)) (steps ++ Enter n ∷ []) steps (Some (Enter n)) refl w.waiting).0;
  reached = w.reached;
  begun = all_known_less literals literals steps (Enter n) lits (λ k v. v) done w.begun;
  marked = λ m h. elim (w.marked m h) [
    | inl v ↦ inl v
    | inr l ↦ elim (leaves_snoc steps (Enter n) m l) [ inl a ↦ inr a | inr e ↦ absurd (enter_leave n m e) ]
  ];
  turns = (w.turns.0, w.turns.1, turns_less rows w.turns.0 literals literals steps (Enter n) (λ k v. v) done w.turns.2);
}

pub walk_skip : (count : ℕ) (rows : List Row) (lits : List Lit) (literals : List (Option Lit)) (marks : List Bool) (steps : List Step) (n : ℕ) → IsVisitingWalk count rows lits literals marks (steps ++ Enter n ∷ []) → value_in marks n ≡ true → IsVisitingWalk count rows lits literals marks steps
walk_skip count rows lits literals marks steps n w h = passed count rows lits literals marks steps n w done
  where
    done : IsSome (visited literals n)
    done = elim (w.marked n h) [
      | inl v ↦ v
      | inr l ↦ elim (leaves_snoc steps (Enter n) n l) [
        | inl a ↦ (let under : w.turns.0 n < w.turns.0 n = turns_rank rows w.turns.0 literals steps (Enter n) n w.turns.2 a in absurd (omega arith))
        | inr e ↦ absurd (enter_leave n n e)
      ]
    ]

-- a node that is entered

reached_refs : (rows : List Row) (lits : List Lit) (row : Row) → ((test : ℕ → Bool) → IsClosed rows test → HasObserved lits test → AllRefs (λ m. test m ≡ true) row) → AllRefs (Reached rows lits) row
reached_refs rows lits Free h = tt
reached_refs rows lits Source h = tt
reached_refs rows lits (And a b) h = (λ test closed has. (h test closed has).0, λ test closed has. (h test closed has).1)
reached_refs rows lits (Alias a) h = h

all_steps : (P : ℕ → Type 0) (n : ℕ) (row : Row) → P n → AllRefs P row → All (λ s. P (node_in s)) (steps_of n row)
all_steps P n Free own h = All-nil (λ (s : Step). P (node_in s))
all_steps P n Source own h = All-nil (λ (s : Step). P (node_in s))
all_steps P n (And a b) own h =
    All-cons (λ (s : Step). P (node_in s)) (Leave n) (Enter (node_of b) ∷ Enter (node_of a) ∷ []) own
    (All-cons (λ (s : Step). P (node_in s)) (Enter (node_of b)) (Enter (node_of a) ∷ []) h.1 (All-cons (λ (s : Step). P (node_in s)) (Enter (node_of a)) [] h.0 (All-nil (λ (s : Step). P (node_in s)))))
all_steps P n (Alias a) own h =
    All-cons (λ (s : Step). P (node_in s)) (Leave n) (Enter (node_of a) ∷ []) own (All-cons (λ (s : Step). P (node_in s)) (Enter (node_of a)) [] h (All-nil (λ (s : Step). P (node_in s))))

opened : (count : ℕ) (rows : List Row) (lits : List Lit) (literals : List (Option Lit)) (marks : List Bool) (steps : List Step) (n : ℕ) → IsVisitingWalk count rows lits literals marks (steps ++ Enter n ∷ []) → is_open (row_at rows n) ≡ false
    → IsVisitingWalk count rows lits literals (set marks n true) (steps ++ steps_of n (row_at rows n))
opened count rows lits literals marks steps n w closed = record {
  all = length-set marks n true ∙ w.all;
  waiting = All-append (λ (s : Step). Reached rows lits (node_in s)) steps (steps_of n (row_at rows n)) popped.0
      (all_steps (Reached rows lits) n (row_at rows n) popped.1 (reached_refs rows lits (row_at rows n) (λ test shut has. shut n (popped.1 test shut has))));
  reached = w.reached;
  begun = all_known_more literals steps (steps_of n (row_at rows n)) n lits t.waits w.begun;
  marked = λ m h. elim (cases_eq m n) [
    | inl e ↦ inr (subst (Leaves (steps ++ steps_of n (row_at rows n))) (sym e) (leaves_right steps (steps_of n (row_at rows n)) n t.first))
    | inr ne ↦ elim (w.marked m (sym (get_or-set_other marks n m true false ne) ∙ h)) [
      | inl v ↦ inl v
      | inr l ↦ elim (leaves_snoc steps (Enter n) m l) [ inl a ↦ inr (leaves_left steps (steps_of n (row_at rows n)) m a) | inr e ↦ absurd (enter_leave n m e) ]
    ]
  ];
  turns = (w.turns.0, w.turns.1, turns_more rows w.turns.0 literals steps (steps_of n (row_at rows n)) n t.inner t.waits t.low w.turns.2);
}
  where
    popped : All (λ (s : Step). Reached rows lits (node_in s)) steps × Reached rows lits n
    popped = All-pop (λ (s : Step). Reached rows lits (node_in s)) (steps ++ Enter n ∷ []) steps (Some (Enter n)) refl w.waiting

    t : AreStepsOf rows w.turns.0 literals n (steps_of n (row_at rows n))
    t = are_steps rows w.turns.0 literals n w.turns.1 closed

-- a mark more, on a node that was visited
marked_more : (count : ℕ) (rows : List Row) (lits : List Lit) (literals : List (Option Lit)) (marks : List Bool) (steps : List Step) (n : ℕ) → IsVisitingWalk count rows lits literals marks steps → IsSome (visited literals n) → IsVisitingWalk count rows lits literals (set marks n true) steps
marked_more count rows lits literals marks steps n w done = record {
  all = length-set marks n true ∙ w.all;
  waiting = w.waiting;
  reached = w.reached;
  begun = w.begun;
  marked = λ m h. elim (cases_eq m n) [
    | inl e ↦ inl (subst (λ (k : ℕ). IsSome (visited literals k)) (sym e) done)
    | inr ne ↦ w.marked m (sym (get_or-set_other marks n m true false ne) ∙ h)
  ];
  turns = w.turns;
}

pub walk_enter : (count : ℕ) (rows : List Row) (lits : List Lit) (literals : List (Option Lit)) (marks : List Bool) (steps : List Step) (n : ℕ) → CanCompact count rows lits → ((m : ℕ) → m < count + 1 → IsSome (visited literals m))
    → IsVisitingWalk count rows lits literals marks (steps ++ Enter n ∷ []) → IsVisitingWalk count rows lits literals (set marks n true) (steps ++ steps_of n (row_at rows n))
walk_enter count rows lits literals marks steps n can front w = elim (cases_Bool (is_open (row_at rows n))) [
  | inl free ↦
      let done : IsSome (visited literals n) = open_visited count rows lits literals n can front reached free in
      let rest : IsVisitingWalk count rows lits literals (set marks n true) steps = marked_more count rows lits literals marks steps n (passed count rows lits literals marks steps n w done) done in
      subst (IsVisitingWalk count rows lits literals (set marks n true)) (sym (ap (λ (ss : List Step). steps ++ ss) (no_steps (row_at rows n) free) ∙ append-nil steps)) rest
  | inr closed ↦ opened count rows lits literals marks steps n w closed
]
  where
    reached : Reached rows lits n
    reached = (All-pop (λ (s : Step). Reached rows lits (node_in s)) (steps ++ Enter n ∷ []) steps (Some (Enter n)) refl w.waiting).1

    no_steps : (row : Row) → is_open row ≡ true → steps_of n row ≡ []
    no_steps Free o = refl
    no_steps Source o = refl
    no_steps (And a b) o = absurd (both_ways false refl o)
    no_steps (Alias a) o = absurd (both_ways false refl o)

-- a node that is left

pub walk_leave : (count : ℕ) (rows : List Row) (lits : List Lit) (old new : List (Option Lit)) (marks : List Bool) (steps : List Step) (n : ℕ) → CanCompact count rows lits → ((m : ℕ) → m < count + 1 → IsSome (visited old m))
    → StaysVisited old new → ((m : ℕ) → (m ≡ n → ⊥) → visited new m ≡ visited old m) → (IsReady old (row_at rows n) → IsSome (visited new n))
    → IsVisitingWalk count rows lits old marks (steps ++ Leave n ∷ []) → IsVisitingWalk count rows lits new marks steps
walk_leave count rows lits old new marks steps n can front stays others made w = record {
  all = w.all;
  waiting = popped.0;
  reached = λ m above v. elim (cases_eq m n) [
    | inl e ↦ subst (Reached rows lits) (sym e) popped.1
    | inr ne ↦ w.reached m above (subst IsSome (others m ne) v)
  ];
  begun = all_known_less old new steps (Leave n) lits stay done w.begun;
  marked = λ m h. elim (w.marked m h) [
    | inl v ↦ inl (stay m v)
    | inr l ↦ elim (leaves_snoc steps (Leave n) m l) [ inl a ↦ inr a | inr e ↦ inl (subst (λ (k : ℕ). IsSome (visited new k)) (same n m e) done) ]
  ];
  turns = (w.turns.0, w.turns.1, turns_less rows w.turns.0 old new steps (Leave n) stay done w.turns.2);
}
  where
    popped : All (λ (s : Step). Reached rows lits (node_in s)) steps × Reached rows lits n
    popped = All-pop (λ (s : Step). Reached rows lits (node_in s)) (steps ++ Leave n ∷ []) steps (Some (Leave n)) refl w.waiting

    same : (i j : ℕ) → Leave i ≡ Leave j → i ≡ j
    same i j e = cc

    stay : (m : ℕ) → IsSome (visited old m) → IsSome (visited new m)
    stay m v = let (l, e) = some_is (visited old m) v in some_of (visited new m) l (stays m l e)

    done : IsSome (visited new n)
    done = elim (cases_Bool (is_open (row_at rows n))) [
      | inl free ↦ stay n (open_visited count rows lits old n can front popped.1 free)
      | inr closed ↦ made (closed, turns_ready rows w.turns.0 old steps n w.turns.2)
    ]

-- what the code asks for, and gives

-- the walk with its next step
pub walk_next : (count : ℕ) (rows : List Row) (lits : List Lit) (literals : List (Option Lit)) (marks : List Bool) (steps below : List Step) (s t : Step) → IsVisitingWalk count rows lits literals marks steps → steps ≡ below ++ s ∷ [] → s ≡ t → IsVisitingWalk count rows lits literals marks (below ++ t ∷ [])
walk_next count rows lits literals marks steps below s t w e is =
    subst (λ (u : Step). IsVisitingWalk count rows lits literals marks (below ++ u ∷ [])) is (subst (IsVisitingWalk count rows lits literals marks) e w)

pub next_there : (count : ℕ) (rows : List Row) (lits : List Lit) (literals : List (Option Lit)) (marks : List Bool) (below : List Step) (s : Step) → CanCompact count rows lits → IsVisitingWalk count rows lits literals marks (below ++ s ∷ []) → node_in s < length rows
next_there count rows lits literals marks below s can w =
    there_below rows (node_in s) (reached_there count rows lits (node_in s) can (All-pop (λ (x : Step). Reached rows lits (node_in x)) (below ++ s ∷ []) below (Some s) refl w.waiting).1)

pub walk_entered : (count : ℕ) (rows : List Row) (lits : List Lit) (literals : List (Option Lit)) (old new : List Bool) (below after : List Step) (n : ℕ) → CanCompact count rows lits → ((m : ℕ) → m < count + 1 → IsSome (visited literals m))
    → IsVisitingWalk count rows lits literals old (below ++ Enter n ∷ []) → (value_in old n ≡ true → (new ≡ old) × (after ≡ below)) → (value_in old n ≡ false → (new ≡ set old n true) × (after ≡ below ++ steps_of n (row_at rows n)))
    → IsVisitingWalk count rows lits literals new after
walk_entered count rows lits literals old new below after n can front w skipped entered = elim (cases_Bool (value_in old n)) [
  | inl t ↦ (let e = skipped t in subst₂ (IsVisitingWalk count rows lits literals) (sym e.0) (sym e.1) (walk_skip count rows lits literals old below n w t))
  | inr f ↦ (let e = entered f in subst₂ (IsVisitingWalk count rows lits literals) (sym e.0) (sym e.1) (walk_enter count rows lits literals old below n can front w))
]
