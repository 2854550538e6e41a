-- Hints, counts and answers.
use Rattle.std.proofs.Common.{◌≡◌, ℕ, suc, ◌+◌, ◌-◌, ◌<◌, ◌≤◌, Bool, true, false, nat_le, nat_lt, ◌==◌, ◌&&◌, if◌then◌else◌, List, [], ◌∷◌, ◌++◌, length, drop, get_or, Option, Some, sym, ap, ap₂, ◌∙◌, eq-eqb, arith, rules, drop-cons}
use Rattle.std.proofs.Math.ListN.{drop_of_length-le}
use Rattle.syn_gain.specs.Placing.{Placed}
use Rattle.syn_decide.specs.declared.decisions.NodeRow.{NodeRow}
use Rattle.syn_decide.specs.Tasks.{Task}
use Rattle.syn_decide.specs.Hints.{is_asked, most_hits, rows_needed}
use Rattle.syn_decide.specs.Decided.{Answer, NoGain}
use Rattle.syn_decide.specs.Fold.{State, Stage, Ended, by_gain, by_gap, concluded, count_on, failed, freed_by, hint_key, hinted, least_gain, placed_now, read_count, uncounted, with_count}

-- a key that fits behind a row load
pub hint_fits : (t : Task) (s : State) (last : Option NodeRow) (r : NodeRow) (node key : ℕ) (b : Bool) → last ≡ Some r
    → b ≡ ((node == r.node && nat_lt (length s.hits) most_hits) && is_asked (placed_now t s).extra r.row) → b ≡ true
    → hinted t s r.node r.row key ≡ hint_key t s last node key
hint_fits t s last r node key b e h k = sym (ap (λ l. hint_key t s l node key) e ∙ ap (λ c. if c then hinted t s r.node r.row key else failed s) (sym h ∙ k))

-- a key that doesn't
pub hint_unfit : (t : Task) (s : State) (last : Option NodeRow) (r : NodeRow) (node key : ℕ) (b : Bool) → last ≡ Some r
    → b ≡ ((node == r.node && nat_lt (length s.hits) most_hits) && is_asked (placed_now t s).extra r.row) → b ≡ false
    → failed s ≡ hint_key t s last node key
hint_unfit t s last r node key b e h k = sym (ap (λ l. hint_key t s l node key) e ∙ ap (λ c. if c then hinted t s r.node r.row key else failed s) (sym h ∙ k))

le_true : (a b : ℕ) → a ≤ b → nat_le a b ≡ true
le_true a b h = search rules

le_false : (a b : ℕ) → b < a → nat_le a b ≡ false
le_false a b h = search rules

-- too little gain
pub concluded_low : (t : Task) (s : State) (freed added least : ℕ) (new : Placed) → freed ≡ freed_by s.inner s.hits s.counts → new ≡ placed_now t s → added ≡ length new.extra
    → least ≡ least_gain t → freed < added + least → NoGain freed added ≡ concluded t s
concluded_low t s freed added least new f n a m h =
    ap (NoGain freed) a
    ∙ sym (ap (λ b. if b then by_gap t s (freed - length new.extra) (rows_needed t new) else NoGain freed (length new.extra))
    (le_false (length new.extra + least_gain t) freed (omega (arith, a, m, h))))
    ∙ ap₂ (by_gain t s) f n

-- enough gain
pub concluded_high : (t : Task) (s : State) (freed added least need : ℕ) (new : Placed) → freed ≡ freed_by s.inner s.hits s.counts → new ≡ placed_now t s → added ≡ length new.extra
    → least ≡ least_gain t → added + least ≤ freed → need ≡ rows_needed t new → by_gap t s (freed - added) need ≡ concluded t s
concluded_high t s freed added least need new f n a m h r =
    ap₂ (λ k j. by_gap t s (freed - k) j) a r
    ∙ sym (ap (λ b. if b then by_gap t s (freed - length new.extra) (rows_needed t new) else NoGain freed (length new.extra))
    (le_true (length new.extra + least_gain t) freed (omega (arith, a, m, h))))
    ∙ ap₂ (by_gain t s) f n

-- the first row without a count
uncounted_is : (s : State) (k : ℕ) (d : NodeRow) → k ≡ length s.counts → k < length s.inner → uncounted s ≡ get_or s.inner k d ∷ drop (suc k) s.inner
uncounted_is s k d e h = ap (λ n. drop n s.inner) (sym e) ∙ drop-cons s.inner k d h

-- the count of the next row
pub count_next : (t : Task) (s : State) (k node count own : ℕ) (d : NodeRow) (left : List NodeRow) → k ≡ length s.counts → k < length s.inner → (node == (get_or s.inner k d).node) ≡ true
    → drop (suc k) s.inner ≡ left → count_on t (with_count s count own) left ≡ read_count t s (uncounted s) node count own
count_next t s k node count own d left e h n l =
    ap (count_on t (with_count s count own)) (sym l)
    ∙ sym (ap (λ l. read_count t s l node count own) (uncounted_is s k d e h)
    ∙ ap (λ c. if c then count_on t (with_count s count own) (drop (suc k) s.inner) else failed s) n)

-- a state by its parts
abbrev state_with : Stage → List NodeRow → ℕ → ℕ → List NodeRow → List ℕ → State
state_with stage inner low high hits counts = record { stage = stage; inner = inner; low = low; high = high; hits = hits; counts = counts }

-- the last count
pub count_last : (t : Task) (stage : Stage) (inner : List NodeRow) (low high : ℕ) (hits : List NodeRow) (old new : List ℕ) (k node count own others : ℕ) (d : NodeRow) (a : Answer)
    → k ≡ length old → k < length inner → length inner ≤ k + 1 → node ≡ (get_or inner k d).node → others ≡ count - own
    → new ≡ old ++ others ∷ [] → a ≡ concluded t (state_with stage inner low high hits new)
    → state_with (Ended a) inner low high hits new ≡ read_count t (state_with stage inner low high hits old) (uncounted (state_with stage inner low high hits old)) node count own
count_last t stage inner low high hits old new k node count own others d a e l m n o p r =
    ap₂ (λ x cs. state_with (Ended x) inner low high hits cs) (r ∙ ap (λ cs. concluded t (state_with stage inner low high hits cs)) pushed) pushed
    ∙ count_next t (state_with stage inner low high hits old) k node count own d [] e l (eq-eqb _ _ n) (drop_of_length-le inner (let past : length inner ≤ suc k = omega arith in past))
  where
    pushed : new ≡ old ++ (count - own) ∷ []
    pushed = p ∙ ap (λ z. old ++ z ∷ []) o
