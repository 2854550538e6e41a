-- Rows in no circle have a rank that rises along their references.
use Rattle.std.proofs.Common.{◌≡◌, ◌⊎◌, ℕ, zero, suc, ◌+◌, ◌<◌, ◌≤◌, ◌==◌, ◌||◌, Bool, true, false, if◌then◌else◌, List, [], ◌∷◌, ◌++◌, length, Some, refl, sym, ap, ◌∙◌, subst, arith, inl, inr}
use Rattle.std.specs.List.{AllByRecursion}
use Rattle.std.proofs.lemmas.Bool.{or_cases, or_left, or_right}
use Rattle.syn_rows.specs.declared.Row.{Row}
use Rattle.syn_rows.specs.declared.Row.TheVariants as row
use Rattle.syn_rows.specs.Rows.{AllRefs, node_of, refs_of}
use Rattle.syn_rows.specs.Nodes.{has_node}
use Rattle.syn_rows.proofs.Nodes.{node_same, same_node}
use Rattle.syn_core_laws.specs.declared.View.{View}
use Rattle.syn_core_laws.specs.Shown.{HasNoCircle}
use Rattle.syn_core_laws.specs.Views.{known_row, refs_known}
use Rattle.syn_core_laws.proofs.Counting.{times_has}
use Rattle.syn_decide.specs.declared.decisions.NodeRow.{NodeRow}
use Rattle.syn_decide.specs.Walked.{RanksRise}
use Rattle.syn_decide.specs.declared.decisions.Want.TheVariants as want
use Rattle.syn_decide.specs.Tasks.{Task}
use Rattle.syn_decide.specs.Decided.{Next, Unfit}
use Rattle.syn_decide.specs.Walk.{enters, is_met, nodes_of}
use Rattle.syn_decide.specs.Fold.{after_reads, begin, decided}
use Rattle.syn_decide.proofs.Ranking.{rows_always_fit}
use Rattle.syn_decide.proofs.Walking.{node_row}
use Rattle.syn_core_laws.specs.declared.Seen.{Seen}
use Rattle.syn_core_laws.specs.declared.Seen.TheVariants as seen
use Rattle.syn_commit.specs.Walks.{AreKnown}

-- the row is among the rows
abbrev IsAmong : NodeRow → List NodeRow → Type 0
IsAmong r [] = ⊥
IsAmong r (q ∷ rows) = (q ≡ r) ⊎ IsAmong r rows

-- a row of the set refers to the node
abbrev IsReferred : List NodeRow → (ℕ → Bool) → ℕ → Type 0
IsReferred rows set m = (r : NodeRow) × IsAmong r rows × (set r.node ≡ true) × (has_node (refs_of r.row) m ≡ true)

-- the rows have no circle: only the empty set has to each of its nodes a row of it that refers to the node
abbrev AreInNoCircle : List NodeRow → Type 0
AreInNoCircle rows = (set : ℕ → Bool) → ((m : ℕ) → set m ≡ true → IsReferred rows set m) → (m : ℕ) → set m ≡ false

record Ranked (rows : List NodeRow) : Type 0 where
  rank : ℕ → ℕ
  rise : RanksRise rank rows

-- ---- a row to which none of the rows refers
record Top (all rows : List NodeRow) : Type 0 where
  before : List NodeRow
  row : NodeRow
  behind : List NodeRow
  split : rows ≡ before ++ row ∷ behind
  unmet : is_met all row.node ≡ false

seek : (all rows : List NodeRow) → AllByRecursion (λ r. is_met all r.node ≡ true) rows ⊎ Top all rows
seek all [] = inl tt
seek all (r ∷ rows) = go (is_met all r.node) refl (seek all rows)
  where
    go : (b : Bool) → is_met all r.node ≡ b → AllByRecursion (λ q. is_met all q.node ≡ true) rows ⊎ Top all rows → AllByRecursion (λ q. is_met all q.node ≡ true) (r ∷ rows) ⊎ Top all (r ∷ rows)
    go false e rest = inr (record { before = []; row = r; behind = rows; split = refl; unmet = e })
    go true e (inl met) = inl (e, met)
    go true e (inr top) = inr (record { before = r ∷ top.before; row = top.row; behind = top.behind; split = ap (λ rs. r ∷ rs) top.split; unmet = top.unmet })

-- a node that is met is one that a row of the rows refers to
referrer : (rows : List NodeRow) (m : ℕ) → is_met rows m ≡ true → (r : NodeRow) × IsAmong r rows × (has_node (refs_of r.row) m ≡ true)
referrer [] m h = absurd (cc)
referrer (q ∷ rows) m h = elim (or_cases (has_node (refs_of q.row) m) (is_met rows m) h) [
  | inl own ↦ (q, inl refl, own)
  | inr more ↦ let r = referrer rows m more in (r.0, inr r.1, r.2)
]

-- the other way round
among_met : (rows : List NodeRow) (r : NodeRow) (m : ℕ) → IsAmong r rows → is_met rows m ≡ false → has_node (refs_of r.row) m ≡ false
among_met [] r m a h = absurd a
among_met (q ∷ rows) r m (inl e) h = subst (λ (x : NodeRow). has_node (refs_of x.row) m ≡ false) e (first (has_node (refs_of q.row) m) (is_met rows m) h)
  where
    first : (a b : Bool) → (a || b) ≡ false → a ≡ false
    first true b e = e
    first false b e = refl
among_met (q ∷ rows) r m (inr a) h = among_met rows r m a (second (has_node (refs_of q.row) m) (is_met rows m) h)
  where
    second : (a b : Bool) → (a || b) ≡ false → b ≡ false
    second true b e = absurd (cc)
    second false b e = e

among_node : (rows : List NodeRow) (r : NodeRow) → IsAmong r rows → has_node (nodes_of rows) r.node ≡ true
among_node [] r a = absurd a
among_node (q ∷ rows) r (inl e) = or_left (q.node == r.node) (has_node (nodes_of rows) r.node) (subst (λ (x : NodeRow). (q.node == x.node) ≡ true) e (node_same q.node))
among_node (q ∷ rows) r (inr a) = or_right (q.node == r.node) (has_node (nodes_of rows) r.node) (among_node rows r a)

all_at : (P : ℕ → Type 0) (rows : List NodeRow) (m : ℕ) → AllByRecursion (λ (r : NodeRow). P r.node) rows → has_node (nodes_of rows) m ≡ true → P m
all_at P [] m a h = absurd (cc)
all_at P (r ∷ rows) m a h = elim (or_cases (r.node == m) (has_node (nodes_of rows) m) h) [
  | inl same ↦ subst P (same_node r.node m same) a.0
  | inr there ↦ all_at P rows m a.1 there
]

-- rows of which each is met are in a circle
not_all : (q : NodeRow) (rows : List NodeRow) → AreInNoCircle (q ∷ rows) → AllByRecursion (λ r. is_met (q ∷ rows) r.node ≡ true) (q ∷ rows) → ⊥
not_all q rows free met =
    let none : has_node (nodes_of (q ∷ rows)) q.node ≡ false = free (λ m. has_node (nodes_of (q ∷ rows)) m) each q.node in
    let some : has_node (nodes_of (q ∷ rows)) q.node ≡ true = among_node (q ∷ rows) q (inl refl) in
    cc
  where
    each : (m : ℕ) → has_node (nodes_of (q ∷ rows)) m ≡ true → IsReferred (q ∷ rows) (λ k. has_node (nodes_of (q ∷ rows)) k) m
    each m h =
        let r = referrer (q ∷ rows) m (all_at (λ k. is_met (q ∷ rows) k ≡ true) (q ∷ rows) m met h) in
        (r.0, r.1, among_node (q ∷ rows) r.0 r.1, r.2)

-- ---- the rank of the others, with that of the row above them all
sum_ranks : (ℕ → ℕ) → List ℕ → ℕ
sum_ranks rank [] = 0
sum_ranks rank (m ∷ ms) = rank m + sum_ranks rank ms

lifted : (ℕ → ℕ) → NodeRow → ℕ → ℕ
lifted rank r m = rank m + (if r.node == m then suc (sum_ranks rank (refs_of r.row)) else 0)

lifted_other : (rank : ℕ → ℕ) (r : NodeRow) (m : ℕ) → (m == r.node) ≡ false → lifted rank r m ≡ rank m
unfolding lifted
lifted_other rank r m e = go (r.node == m) refl
  where
    go : (b : Bool) → (r.node == m) ≡ b → rank m + (if b then suc (sum_ranks rank (refs_of r.row)) else 0) ≡ rank m
    go true f = let same : r.node ≡ m = same_node r.node m f in let yes : (m == r.node) ≡ true = subst (λ k. (m == k) ≡ true) (sym same) (node_same m) in absurd (cc)
    go false f = omega arith

lifted_more : (rank : ℕ → ℕ) (r : NodeRow) (m : ℕ) → rank m ≤ lifted rank r m
unfolding lifted
lifted_more rank r m = omega arith

lifted_own : (rank : ℕ → ℕ) (r : NodeRow) → sum_ranks rank (refs_of r.row) < lifted rank r r.node
unfolding lifted
lifted_own rank r =
    let step : (if r.node == r.node then suc (sum_ranks rank (refs_of r.row)) else 0) ≡ suc (sum_ranks rank (refs_of r.row)) = ap (λ b. if b then suc (sum_ranks rank (refs_of r.row)) else 0) (node_same r.node) in
    omega (arith, step)

one_other : (a n : ℕ) (ms : List ℕ) → has_node (a ∷ ms) n ≡ false → ((a == n) ≡ false) × (has_node ms n ≡ false)
one_other a n ms h = go (a == n) (has_node ms n) h
  where
    go : (p q : Bool) → (p || q) ≡ false → (p ≡ false) × (q ≡ false)
    go true q e = absurd (cc)
    go false q e = (refl, e)

-- another row still rises
other_rises : (rank : ℕ → ℕ) (r : NodeRow) (n : ℕ) (refers : Row) → has_node (refs_of refers) r.node ≡ false → AllRefs (λ m. rank m < rank n) refers → AllRefs (λ m. lifted rank r m < lifted rank r n) refers
other_rises rank r n row.Free h a = tt
other_rises rank r n row.Source h a = tt
other_rises rank r n (row.And x y) h a =
    let first = one_other (node_of x) r.node (node_of y ∷ []) h in
    let second = one_other (node_of y) r.node [] first.1 in
    let one : lifted rank r (node_of x) ≡ rank (node_of x) = lifted_other rank r (node_of x) first.0 in
    let two : lifted rank r (node_of y) ≡ rank (node_of y) = lifted_other rank r (node_of y) second.0 in
    let more = lifted_more rank r n in
    (omega (arith, one, more, a.0), omega (arith, two, more, a.1))
other_rises rank r n (row.Alias x) h a =
    let first = one_other (node_of x) r.node [] h in
    let one : lifted rank r (node_of x) ≡ rank (node_of x) = lifted_other rank r (node_of x) first.0 in
    let more = lifted_more rank r n in
    omega (arith, one, more, a)

-- and the row itself rises
own_rises : (rank : ℕ → ℕ) (r : NodeRow) (refers : Row) → has_node (refs_of refers) r.node ≡ false → sum_ranks rank (refs_of refers) < lifted rank r r.node → AllRefs (λ m. lifted rank r m < lifted rank r r.node) refers
unfolding sum_ranks
own_rises rank r row.Free h l = tt
own_rises rank r row.Source h l = tt
own_rises rank r (row.And x y) h l =
    let first = one_other (node_of x) r.node (node_of y ∷ []) h in
    let second = one_other (node_of y) r.node [] first.1 in
    let one : lifted rank r (node_of x) ≡ rank (node_of x) = lifted_other rank r (node_of x) first.0 in
    let two : lifted rank r (node_of y) ≡ rank (node_of y) = lifted_other rank r (node_of y) second.0 in
    let sum : rank (node_of x) + (rank (node_of y) + 0) < lifted rank r r.node = l in
    (omega (arith, one, sum), omega (arith, two, sum))
own_rises rank r (row.Alias x) h l =
    let first = one_other (node_of x) r.node [] h in
    let one : lifted rank r (node_of x) ≡ rank (node_of x) = lifted_other rank r (node_of x) first.0 in
    let sum : rank (node_of x) + 0 < lifted rank r r.node = l in
    omega (arith, one, sum)

all_rise : (rank : ℕ → ℕ) (r : NodeRow) (before behind : List NodeRow) → ((q : NodeRow) → IsAmong q (before ++ r ∷ behind) → has_node (refs_of q.row) r.node ≡ false) → RanksRise rank (before ++ behind) → RanksRise (lifted rank r) (before ++ r ∷ behind)
all_rise rank r [] behind unmet rise = (own_rises rank r r.row (unmet r (inl refl)) (lifted_own rank r), others behind (λ q a. unmet q (inr a)) rise)
  where
    others : (rows : List NodeRow) → ((q : NodeRow) → IsAmong q rows → has_node (refs_of q.row) r.node ≡ false) → RanksRise rank rows → RanksRise (lifted rank r) rows
    others [] u a = tt
    others (q ∷ rows) u a = (other_rises rank r q.node q.row (u q (inl refl)) a.0, others rows (λ p b. u p (inr b)) a.1)
all_rise rank r (q ∷ before) behind unmet rise = (other_rises rank r q.node q.row (unmet q (inl refl)) rise.0, all_rise rank r before behind (λ p a. unmet p (inr a)) rise.1)

-- ---- fewer rows
among_more : (before behind : List NodeRow) (r q : NodeRow) → IsAmong q (before ++ behind) → IsAmong q (before ++ r ∷ behind)
among_more [] behind r q a = inr a
among_more (p ∷ before) behind r q (inl e) = inl e
among_more (p ∷ before) behind r q (inr a) = inr (among_more before behind r q a)

fewer : (before behind : List NodeRow) (r : NodeRow) → length (before ++ r ∷ behind) ≡ suc (length (before ++ behind))
fewer [] behind r = refl
fewer (p ∷ before) behind r = ap suc (fewer before behind r)

ranked_by : (k : ℕ) (rows : List NodeRow) → length rows ≤ k → AreInNoCircle rows → Ranked rows
ranked_by k [] l free = record { rank = λ n. 0; rise = tt }
ranked_by zero (q ∷ rows) l free = absurd (omega arith)
ranked_by (suc k) (q ∷ rows) l free = go (seek (q ∷ rows) (q ∷ rows)) (λ rest. ranked_by k rest)
  where
    under : (top : Top (q ∷ rows) (q ∷ rows)) → Ranked (top.before ++ top.behind) → Ranked (q ∷ rows)
    under top rest = record {
      rank = lifted rest.rank top.row;
      rise = subst (RanksRise (lifted rest.rank top.row)) (sym top.split)
          (all_rise rest.rank top.row top.before top.behind
          (λ p a. among_met (q ∷ rows) p top.row.node (subst (IsAmong p) (sym top.split) a) top.unmet) rest.rise);
    }

    go : AllByRecursion (λ r. is_met (q ∷ rows) r.node ≡ true) (q ∷ rows) ⊎ Top (q ∷ rows) (q ∷ rows) → ((rest : List NodeRow) → length rest ≤ k → AreInNoCircle rest → Ranked rest) → Ranked (q ∷ rows)
    go (inl met) ranks = absurd (not_all q rows free met)
    go (inr top) ranks =
        let size : suc (length rows) ≡ suc (length (top.before ++ top.behind)) = ap length top.split ∙ fewer top.before top.behind top.row in
        under top (ranks (top.before ++ top.behind) (omega (arith, size, l))
        (λ set each. free set (λ m h. let r = each m h in (r.0, subst (IsAmong r.0) (sym top.split) (among_more top.before top.behind top.row r.0 r.1), r.2, r.3))))

-- Rows in no circle have a rank.
ranked : (rows : List NodeRow) → AreInNoCircle rows → Ranked rows
ranked rows free = ranked_by (length rows) rows (omega arith) free

-- ---- the rows that a seat knows
among_known : (v : View) (rows : List NodeRow) (r : NodeRow) → AreKnown v rows → IsAmong r rows → known_row v r.node ≡ Some r.row
among_known v [] r k a = absurd a
among_known v (q ∷ rows) r k (inl e) = subst (λ (x : NodeRow). known_row v x.node ≡ Some x.row) e k.0
among_known v (q ∷ rows) r k (inr a) = among_known v rows r k.1 a

-- known rows are in no circle
known_in_no_circle : (nodes : ℕ) (v : View) (rows : List NodeRow) → HasNoCircle nodes v → ((n : ℕ) (r : Row) → known_row v n ≡ Some r → n < nodes) → AreKnown v rows → AreInNoCircle rows
known_in_no_circle nodes v rows none within known set each =
    none set (λ m h.
    let r = each m h in
    let row : known_row v r.0.node ≡ Some r.0.row = among_known v rows r.0 known r.1 in
    (r.0.node, within r.0.node r.0.row row, r.2, subst (λ o. 1 ≤ refs_known m o) (sym row) (times_has m (refs_of r.0.row) r.3)))

-- A row that is asked for, loaded under a claim, fits: the inner rows and it are rows that the seat knows, and these are in no circle.
pub row_fits : (t : Task) (met : List Seen) (nodes n : ℕ) (w : View) (r : Row) → enters t.proposal.leaves [] t.proposal.root ≡ true → decided t met ≡ Next (want.Row n)
    → HasNoCircle nodes w → ((m : ℕ) (q : Row) → known_row w m ≡ Some q → m < nodes) → AreKnown w ((after_reads t (begin t) met).inner ++ node_row n r ∷ []) → decided t (met ++ seen.Row n r ∷ []) ≡ Unfit → ⊥
row_fits t met nodes n w r root next none within known unfit =
    let rank = ranked ((after_reads t (begin t) met).inner ++ node_row n r ∷ []) (known_in_no_circle nodes w ((after_reads t (begin t) met).inner ++ node_row n r ∷ []) none within known) in
    rows_always_fit t met rank.rank n r root next rank.rise unfit
