-- The steps of the walk that wait, while one is taken and others are put behind.
use Rattle.std.proofs.Common.{◌≡◌, ◌⊎◌, ℕ, ◌+◌, ◌<◌, ◌≤◌, false, All, List, [], ◌∷◌, ◌++◌, refl, subst, arith, inl, inr, Option, IsSome}
use Rattle.std.proofs.lemmas.List.Elements.{All-nil, All-cons, All-append, All-head, All-tail, All-weaker}
use Rattle.syn_rows.specs.declared.Lit.{Lit}
use Rattle.syn_rows.specs.declared.Row.{Row}
use Rattle.syn_rows.specs.declared.Row.TheVariants.{Free, Source, And, Alias}
use Rattle.syn_rows.specs.Rows.{node_of, row_at, AllRefs, Rises}
use Rattle.syn_rows.specs.Values.{is_open}
use Rattle.syn_rows.proofs.Folds.{AllRefs-weaker}
use Rattle.syn_hashed.specs.declared.visit.Step.{Step}
use Rattle.syn_hashed.specs.declared.visit.Step.TheVariants.{Enter, Leave}
use Rattle.syn_hashed.specs.Visiting.{visited}
use Rattle.syn_hashed.specs.Walking.{node_in, steps_of, enters, Awaits, Leaves, RankBelow, IsKnown, InTurn}

-- what waits

pub awaits_snoc : (ss : List Step) (s : Step) (m : ℕ) → Awaits (ss ++ s ∷ []) m → Awaits ss m ⊎ (node_in s ≡ m)
awaits_snoc [] s m (inl e) = inr e
awaits_snoc [] s m (inr h) = absurd h
awaits_snoc (x ∷ xs) s m (inl e) = inl (inl e)
awaits_snoc (x ∷ xs) s m (inr h) = elim (awaits_snoc xs s m h) [ inl a ↦ inl (inr a) | inr e ↦ inr e ]

pub awaits_left : (ss ts : List Step) (m : ℕ) → Awaits ss m → Awaits (ss ++ ts) m
awaits_left [] ts m h = absurd h
awaits_left (x ∷ xs) ts m (inl e) = inl e
awaits_left (x ∷ xs) ts m (inr h) = inr (awaits_left xs ts m h)

pub awaits_right : (ss ts : List Step) (m : ℕ) → Awaits ts m → Awaits (ss ++ ts) m
awaits_right [] ts m h = h
awaits_right (x ∷ xs) ts m h = inr (awaits_right xs ts m h)

pub leaves_snoc : (ss : List Step) (s : Step) (m : ℕ) → Leaves (ss ++ s ∷ []) m → Leaves ss m ⊎ (s ≡ Leave m)
leaves_snoc [] s m (inl e) = inr e
leaves_snoc [] s m (inr h) = absurd h
leaves_snoc (x ∷ xs) s m (inl e) = inl (inl e)
leaves_snoc (x ∷ xs) s m (inr h) = elim (leaves_snoc xs s m h) [ inl a ↦ inl (inr a) | inr e ↦ inr e ]

pub leaves_left : (ss ts : List Step) (m : ℕ) → Leaves ss m → Leaves (ss ++ ts) m
leaves_left [] ts m h = absurd h
leaves_left (x ∷ xs) ts m (inl e) = inl e
leaves_left (x ∷ xs) ts m (inr h) = inr (leaves_left xs ts m h)

pub leaves_right : (ss ts : List Step) (m : ℕ) → Leaves ts m → Leaves (ss ++ ts) m
leaves_right [] ts m h = h
leaves_right (x ∷ xs) ts m h = inr (leaves_right xs ts m h)

-- ranks of what waits

below_left : (rank : ℕ → ℕ) (k : ℕ) (ss ts : List Step) → RankBelow rank k (ss ++ ts) → RankBelow rank k ss
below_left rank k [] ts h = tt
below_left rank k (x ∷ xs) ts h = (h.0, below_left rank k xs ts h.1)

below_last : (rank : ℕ → ℕ) (k : ℕ) (ss : List Step) (s : Step) → RankBelow rank k (ss ++ s ∷ []) → rank (node_in s) < k
below_last rank k [] s h = h.0
below_last rank k (x ∷ xs) s h = below_last rank k xs s h.1

below_append : (rank : ℕ → ℕ) (k : ℕ) (ss ts : List Step) → RankBelow rank k ss → RankBelow rank k ts → RankBelow rank k (ss ++ ts)
below_append rank k [] ts h g = g
below_append rank k (x ∷ xs) ts h g = (h.0, below_append rank k xs ts h.1 g)

below_weaker : (rank : ℕ → ℕ) (j k : ℕ) (ss : List Step) → j ≤ k → RankBelow rank j ss → RankBelow rank k ss
below_weaker rank j k [] le h = tt
below_weaker rank j k (x ∷ xs) le h = (omega (arith, h.0), below_weaker rank j k xs le h.1)

-- a step is taken, after which its node was visited

known_less : (old new : List (Option Lit)) (ss : List Step) (s : Step) (m : ℕ) → ((k : ℕ) → IsSome (visited old k) → IsSome (visited new k)) → IsSome (visited new (node_in s)) → IsKnown old (ss ++ s ∷ []) m → IsKnown new ss m
known_less old new ss s m stays done (inl v) = inl (stays m v)
known_less old new ss s m stays done (inr w) = elim (awaits_snoc ss s m w) [
  | inl a ↦ inr a
  | inr e ↦ inl (subst (λ (k : ℕ). IsSome (visited new k)) e done)
]

pub all_known_less : (old new : List (Option Lit)) (ss : List Step) (s : Step) (lits : List Lit) → ((k : ℕ) → IsSome (visited old k) → IsSome (visited new k)) → IsSome (visited new (node_in s))
    → All (λ l. IsKnown old (ss ++ s ∷ []) (node_of l)) lits → All (λ l. IsKnown new ss (node_of l)) lits
all_known_less old new ss s lits stays done h = All-weaker (λ (l : Lit). IsKnown old (ss ++ s ∷ []) (node_of l)) (λ (l : Lit). IsKnown new ss (node_of l)) (λ l k. known_less old new ss s (node_of l) stays done k) lits h

pub turns_less : (rows : List Row) (rank : ℕ → ℕ) (old new : List (Option Lit)) (ss : List Step) (s : Step) → ((k : ℕ) → IsSome (visited old k) → IsSome (visited new k)) → IsSome (visited new (node_in s))
    → InTurn rows rank old (ss ++ s ∷ []) → InTurn rows rank new ss
turns_less rows rank old new [] s stays done h = tt
turns_less rows rank old new (Enter n ∷ xs) s stays done h = turns_less rows rank old new xs s stays done h
turns_less rows rank old new (Leave n ∷ xs) s stays done h = (
  below_left rank (rank n) xs (s ∷ []) h.0,
  AllRefs-weaker (IsKnown old (xs ++ s ∷ [])) (IsKnown new xs) (λ m k. known_less old new xs s m stays done k) (row_at rows n) h.1,
  turns_less rows rank old new xs s stays done h.2,
)

-- a node is entered, and the steps of its row are put behind

known_more : (literals : List (Option Lit)) (ss ts : List Step) (n m : ℕ) → Awaits ts n → IsKnown literals (ss ++ Enter n ∷ []) m → IsKnown literals (ss ++ ts) m
known_more literals ss ts n m first (inl v) = inl v
known_more literals ss ts n m first (inr w) = elim (awaits_snoc ss (Enter n) m w) [
  | inl a ↦ inr (awaits_left ss ts m a)
  | inr e ↦ inr (awaits_right ss ts m (subst (Awaits ts) e first))
]

pub all_known_more : (literals : List (Option Lit)) (ss ts : List Step) (n : ℕ) (lits : List Lit) → Awaits ts n → All (λ l. IsKnown literals (ss ++ Enter n ∷ []) (node_of l)) lits → All (λ l. IsKnown literals (ss ++ ts) (node_of l)) lits
all_known_more literals ss ts n lits first h = All-weaker (λ (l : Lit). IsKnown literals (ss ++ Enter n ∷ []) (node_of l)) (λ (l : Lit). IsKnown literals (ss ++ ts) (node_of l)) (λ l k. known_more literals ss ts n (node_of l) first k) lits h

pub turns_more : (rows : List Row) (rank : ℕ → ℕ) (literals : List (Option Lit)) (ss ts : List Step) (n : ℕ) → InTurn rows rank literals ts → Awaits ts n → RankBelow rank (rank n + 1) ts
    → InTurn rows rank literals (ss ++ Enter n ∷ []) → InTurn rows rank literals (ss ++ ts)
turns_more rows rank literals [] ts n inner first low h = inner
turns_more rows rank literals (Enter k ∷ xs) ts n inner first low h = turns_more rows rank literals xs ts n inner first low h
turns_more rows rank literals (Leave k ∷ xs) ts n inner first low h =
    let under : rank n < rank k = below_last rank (rank k) xs (Enter n) h.0 in (
      below_append rank (rank k) xs ts (below_left rank (rank k) xs (Enter n ∷ []) h.0) (below_weaker rank (rank n + 1) (rank k) ts (omega arith) low),
      AllRefs-weaker (IsKnown literals (xs ++ Enter n ∷ [])) (IsKnown literals (xs ++ ts)) (λ m w. known_more literals xs ts n m first w) (row_at rows k) h.1,
      turns_more rows rank literals xs ts n inner first low h.2,
    )

-- the steps of a row

pub record AreStepsOf (rows : List Row) (rank : ℕ → ℕ) (literals : List (Option Lit)) (n : ℕ) (ts : List Step) : Type 0 where
  pub inner : InTurn rows rank literals ts
  pub first : Leaves ts n
  pub waits : Awaits ts n
  pub low : RankBelow rank (rank n + 1) ts

pub are_steps : (rows : List Row) (rank : ℕ → ℕ) (literals : List (Option Lit)) (n : ℕ) → Rises rows rank → is_open (row_at rows n) ≡ false → AreStepsOf rows rank literals n (steps_of n (row_at rows n))
are_steps rows rank literals n rises closed = of_row (row_at rows n) refl (rises n) closed
  where
    of_row : (row : Row) → row ≡ row_at rows n → AllRefs (λ m. rank m < rank n) row → is_open row ≡ false → AreStepsOf rows rank literals n (steps_of n row)
    of_row Free e low o = absurd (cc)
    of_row Source e low o = absurd (cc)
    of_row (And a b) e low o = record {
      inner = ((low.1, (low.0, tt)), subst (AllRefs (IsKnown literals (Enter (node_of b) ∷ Enter (node_of a) ∷ []))) e (inr (inr (inl refl)), inr (inl refl)), tt);
      first = inl refl;
      waits = inl refl;
      low = (omega arith, (omega (arith, low.1), (omega (arith, low.0), tt)));
    }
    of_row (Alias a) e low o = record {
      inner = ((low, tt), subst (AllRefs (IsKnown literals (Enter (node_of a) ∷ []))) e (inr (inl refl)), tt);
      first = inl refl;
      waits = inl refl;
      low = (omega arith, (omega (arith, low), tt));
    }

-- what is next

known_nil : (literals : List (Option Lit)) (m : ℕ) → IsKnown literals [] m → IsSome (visited literals m)
known_nil literals m (inl v) = v
known_nil literals m (inr w) = absurd w

-- when a node is left, all that it refers to was visited
pub turns_ready : (rows : List Row) (rank : ℕ → ℕ) (literals : List (Option Lit)) (ss : List Step) (n : ℕ) → InTurn rows rank literals (ss ++ Leave n ∷ []) → AllRefs (λ m. IsSome (visited literals m)) (row_at rows n)
turns_ready rows rank literals [] n h = AllRefs-weaker (IsKnown literals []) (λ m. IsSome (visited literals m)) (known_nil literals) (row_at rows n) h.1
turns_ready rows rank literals (Enter k ∷ xs) n h = turns_ready rows rank literals xs n h
turns_ready rows rank literals (Leave k ∷ xs) n h = turns_ready rows rank literals xs n h.2

-- what is next has a smaller rank than each node that waits to be left
pub turns_rank : (rows : List Row) (rank : ℕ → ℕ) (literals : List (Option Lit)) (ss : List Step) (s : Step) (n : ℕ) → InTurn rows rank literals (ss ++ s ∷ []) → Leaves ss n → rank (node_in s) < rank n
turns_rank rows rank literals [] s n h l = absurd l
turns_rank rows rank literals (Enter k ∷ xs) s n h (inl e) = absurd (cc)
turns_rank rows rank literals (Enter k ∷ xs) s n h (inr l) = turns_rank rows rank literals xs s n h l
turns_rank rows rank literals (Leave k ∷ xs) s n h (inl e) = let same : k ≡ n = left_same k n e in let under : rank (node_in s) < rank k = below_last rank (rank k) xs s h.0 in subst (λ (j : ℕ). rank (node_in s) < rank j) same under
  where
    left_same : (i j : ℕ) → Leave i ≡ Leave j → i ≡ j
    left_same i j p = cc
turns_rank rows rank literals (Leave k ∷ xs) s n h (inr l) = turns_rank rows rank literals xs s n h.2 l

-- the first steps

pub all_enters : (P : ℕ → Type 0) (lits : List Lit) → All (λ l. P (node_of l)) lits → All (λ s. P (node_in s)) (enters lits)
all_enters P [] h = All-nil (λ (s : Step). P (node_in s))
all_enters P (l ∷ ls) h =
    All-append (λ (s : Step). P (node_in s)) (enters ls) (Enter (node_of l) ∷ []) (all_enters P ls (All-tail (λ (x : Lit). P (node_of x)) l ls h))
    (All-cons (λ (s : Step). P (node_in s)) (Enter (node_of l)) [] (All-head (λ (x : Lit). P (node_of x)) l ls h) (All-nil (λ (s : Step). P (node_in s))))

pub all_awaited : (lits : List Lit) → All (λ l. Awaits (enters lits) (node_of l)) lits
all_awaited [] = All-nil (λ (l : Lit). Awaits [] (node_of l))
all_awaited (l ∷ ls) =
    All-cons (λ (x : Lit). Awaits (enters (l ∷ ls)) (node_of x)) l ls (awaits_right (enters ls) (Enter (node_of l) ∷ []) (node_of l) (inl refl))
    (All-weaker (λ (x : Lit). Awaits (enters ls) (node_of x)) (λ (x : Lit). Awaits (enters (l ∷ ls)) (node_of x)) (λ x a. awaits_left (enters ls) (Enter (node_of l) ∷ []) (node_of x) a) ls (all_awaited ls))

enters_leave : (lits : List Lit) (m : ℕ) → Leaves (enters lits) m → ⊥
enters_leave [] m h = h
enters_leave (l ∷ ls) m h = elim (leaves_snoc (enters ls) (Enter (node_of l)) m h) [
  | inl a ↦ enters_leave ls m a
  | inr e ↦ clash e
]
  where
    clash : {k j : ℕ} → Enter k ≡ Leave j → ⊥
    clash p = cc

no_turns : (rows : List Row) (rank : ℕ → ℕ) (literals : List (Option Lit)) (ss : List Step) → ((m : ℕ) → Leaves ss m → ⊥) → InTurn rows rank literals ss
no_turns rows rank literals [] h = tt
no_turns rows rank literals (Enter k ∷ xs) h = no_turns rows rank literals xs (λ m l. h m (inr l))
no_turns rows rank literals (Leave k ∷ xs) h = absurd (h k (inl refl))

pub turns_begin : (rows : List Row) (rank : ℕ → ℕ) (literals : List (Option Lit)) (lits : List Lit) → InTurn rows rank literals (enters lits)
turns_begin rows rank literals lits = no_turns rows rank literals (enters lits) (enters_leave lits)
