-- The leaves of both fan-ins stand for an AND.
use Rattle.std.proofs.Common.{◌≡◌, ◌≢◌, ℕ, suc, ◌+◌, ◌^◌, ◌<◌, ◌≤◌, Bool, true, false, List, [], ◌∷◌, ◌++◌, length, set, sym, ap, ◌∙◌, subst, arith, inl, inr, Option, Some, length-append}
use Rattle.std.specs.List.Sorted.{IsPermutation}
use Rattle.std.proofs.lemmas.List.Sorted.{IsPermutation-append, IsPermutation-append_comm, IsPermutation-trans}
use Rattle.syn_rows.specs.declared.TheConstants.{NODE_LIMIT}
use Rattle.syn_rows.specs.declared.Lit.{Lit}
use Rattle.syn_rows.specs.declared.Row.{Row}
use Rattle.syn_rows.specs.declared.Row.TheVariants.{And}
use Rattle.syn_rows.specs.Rows.{node_of, row_at}
use Rattle.syn_hashed.specs.Hashed.{IsHashed}
use Rattle.syn_hashed.specs.Growing.{level_by}
use Rattle.syn_hashed.proofs.Dropped.{gate_is_and}
use Rattle.syn_balance.specs.Roots.{mark_at, HasRoots}
use Rattle.syn_balance.specs.Leaves.{StandFor, plain, leaves_of, left_by, joins_of, TakesBoth}
use Rattle.syn_balance.specs.Joining.{IsJoining}
use Rattle.syn_balance.specs.Rule.{AreOne}
use Rattle.syn_balance.specs.Balancing.{IsBalancing}
use Rattle.syn_balance.proofs.Standing.{gate_stands, gate_stands_turned}
use Rattle.syn_balance.proofs.Steps.{both_ready, leaves_stand, leaves_match, taken, both_taken, leaves_still, AreTaken, IsLeft, wait_next, root_next}

-- what stands at the node of an AND, and what is left elsewhere
pub record IsGathered (rows new : List Row) (n : ℕ) (a b : Lit) (waiting left : List (List Lit)) (leaves : List Lit) : Type 0 where
  pub joins : ℕ
  pub stand : StandFor rows new (plain n) leaves
  pub taken : AreTaken rows n a b waiting left joins
  pub few : length leaves ≤ joins + 2

-- a row's fan-ins, as literals
pub gate_at : (count : ℕ) (rows : List Row) (n : ℕ) (a b : Lit) → IsHashed count rows → count < n → n < length rows → row_at rows n ≡ And a b → (node_of a < n) × (node_of b < n) × (node_of b ≢ node_of a)
gate_at count rows n a b h above lt is =
    let (x, y, e, gate) = gate_is_and n (row_at rows n) (h.gates n above lt) in
    let pair : And x y ≡ And a b = sym e ∙ is in
    let first : x ≡ a = cc in
    let second : y ≡ b = cc in
    let small : node_of x < n = omega (arith, gate.rising, gate.below) in
    (subst (λ (l : Lit). node_of l < n) first small, subst (λ (l : Lit). node_of l < n) second gate.below, λ z. gate.apart (ap node_of first ∙ (sym z ∙ ap node_of (sym second))))

pub gathered : (count : ℕ) (rows : List Row) (lits : List Lit) (roots : List Bool) (n : ℕ) (literals : List (Option Lit)) (waiting : List (List Lit)) (new : List Row) (a b : Lit) (leaves : List Lit) (left : List (List Lit))
    → IsHashed count rows → HasRoots rows lits roots → IsBalancing count rows roots n literals waiting new → count < n → n < length rows → row_at rows n ≡ And a b → TakesBoth literals waiting a b leaves left
    → IsGathered rows new n a b waiting left leaves
gathered count rows lits roots n literals waiting new a b leaves left h r s above lt is t = record {
  joins = joins_of xs + joins_of ys;
  stand = elim t.joined [
    | inl e ↦ subst (StandFor rows new (plain n)) (sym e) (gate_stands count rows new n a b xs ys h lt is first second)
    | inr e ↦ subst (StandFor rows new (plain n)) (sym e) (gate_stands_turned count rows new n a b xs ys h lt is first second)
  ];
  taken = subst (λ (l : List (List Lit)). AreTaken rows n a b waiting l (joins_of xs + joins_of ys)) (sym t.others) (both_taken rows n a b waiting (left_by literals waiting a) (left_by literals (left_by literals waiting a) b) xs ys one two);
  few = (let f = first.some in let g = second.some in elim t.joined [
    | inl e ↦ (let l = ap length e in let m = length-append xs ys in let z : length leaves ≤ joins_of xs + joins_of ys + 2 = omega (arith, l, m, f, g) in z)
    | inr e ↦ (let l = ap length e in let m = length-append ys xs in let z : length leaves ≤ joins_of xs + joins_of ys + 2 = omega (arith, l, m, f, g) in z)
  ]);
}
  where
    xs : List Lit
    xs = leaves_of literals waiting a

    ys : List Lit
    ys = leaves_of literals (left_by literals waiting a) b

    gate : (node_of a < n) × (node_of b < n) × (node_of b ≢ node_of a)
    gate = gate_at count rows n a b h above lt is

    one : IsLeft waiting (left_by literals waiting a) (node_of a) xs
    one = taken literals waiting a (let e = s.all_wait in let g = gate.0 in omega (arith, e, g, lt))

    two : IsLeft (left_by literals waiting a) (left_by literals (left_by literals waiting a) b) (node_of b) ys
    two = taken literals (left_by literals waiting a) b (let e = s.all_wait in let g = gate.1 in let z = one.size in omega (arith, e, g, lt, z))

    first : StandFor rows new a xs
    first = leaves_stand count rows roots n literals waiting new a s gate.0 (both_ready count rows lits roots n literals waiting new a b r s lt is gate.0 gate.1).0

    second : StandFor rows new b ys
    second = subst (StandFor rows new b) (sym (leaves_still literals waiting (left_by literals waiting a) b (one.others (node_of b) gate.2))) (leaves_stand count rows roots n literals waiting new b s gate.1 (both_ready count rows lits roots n literals waiting new a b r s lt is gate.0 gate.1).1)

-- the gathered leaves are those of the rule
pub gathered_match : (count : ℕ) (rows : List Row) (lits : List Lit) (roots : List Bool) (n : ℕ) (literals : List (Option Lit)) (waiting : List (List Lit)) (new : List Row) (a b : Lit) (leaves : List Lit) (left : List (List Lit))
    → IsHashed count rows → HasRoots rows lits roots → (s : IsBalancing count rows roots n literals waiting new) → count < n → n < length rows → row_at rows n ≡ And a b → TakesBoth literals waiting a b leaves left
    → IsPermutation (leaves_of literals s.leaves a ++ leaves_of literals s.leaves b) leaves
gathered_match count rows lits roots n literals waiting new a b leaves left h r s above lt is t =
    elim t.joined [
      | inl e ↦ subst (IsPermutation by_rule) (sym e) both
      | inr e ↦ subst (IsPermutation by_rule) (sym e) (IsPermutation-trans by_rule (xs ++ ys) (ys ++ xs) both (IsPermutation-append_comm xs ys))
    ]
  where
    by_rule : List Lit
    by_rule = leaves_of literals s.leaves a ++ leaves_of literals s.leaves b

    xs : List Lit
    xs = leaves_of literals waiting a

    ys : List Lit
    ys = leaves_of literals (left_by literals waiting a) b

    gate : (node_of a < n) × (node_of b < n) × (node_of b ≢ node_of a)
    gate = gate_at count rows n a b h above lt is

    one : IsLeft waiting (left_by literals waiting a) (node_of a) xs
    one = taken literals waiting a (let e = s.all_wait in let g = gate.0 in omega (arith, e, g, lt))

    both : IsPermutation by_rule (xs ++ ys)
    both =
        let ready = both_ready count rows lits roots n literals waiting new a b r s lt is gate.0 gate.1 in
        IsPermutation-append (leaves_of literals s.leaves a) xs (leaves_of literals s.leaves b) ys (leaves_match count rows roots n literals waiting new a s gate.0 ready.0)
        (subst (IsPermutation (leaves_of literals s.leaves b)) (sym (leaves_still literals waiting (left_by literals waiting a) b (one.others (node_of b) gate.2))) (leaves_match count rows roots n literals waiting new b s gate.1 ready.1))

-- room for the rows that join the leaves
pub room_for : (count : ℕ) (rows : List Row) (roots : List Bool) (n : ℕ) (literals : List (Option Lit)) (waiting left : List (List Lit)) (new : List Row) (a b : Lit) (leaves : List Lit)
    → IsBalancing count rows roots n literals waiting new → IsGathered rows new n a b waiting left leaves → n < length rows → length rows < NODE_LIMIT → length new + length leaves ≤ NODE_LIMIT
room_for count rows roots n literals waiting left new a b leaves s g lt few = let j = g.taken.joins_left in let f = s.few in let l = g.few in omega (arith, j, f, l)

-- leaves wait, or are joined
pub gathered_wait : (count : ℕ) (rows : List Row) (roots : List Bool) (n : ℕ) (literals : List (Option Lit)) (waiting left : List (List Lit)) (new : List Row) (a b : Lit) (leaves : List Lit)
    → (s : IsBalancing count rows roots n literals waiting new) → IsGathered rows new n a b waiting left leaves → IsPermutation (leaves_of literals s.leaves a ++ leaves_of literals s.leaves b) leaves → count < n → n < length rows → row_at rows n ≡ And a b
    → mark_at roots n ≡ false → IsBalancing count rows roots (suc n) literals (set left n leaves) new
gathered_wait count rows roots n literals waiting left new a b leaves s g same above lt is off =
    wait_next count rows roots n literals waiting left new a b g.joins leaves s g.taken above lt is off g.stand same (let f = g.few in omega (arith, f))

pub joined_stands : (old new more : List Row) (lit l : Lit) (leaves : List Lit) → StandFor old new lit leaves → IsJoining new leaves more (l ∷ []) → StandFor old more lit (l ∷ [])
joined_stands old new more lit l leaves s j = record {
  some = omega arith;
  there = j.there;
  value = λ given at_0. j.value given at_0 ∙ s.value given at_0;
  fits = j.fits (level_by old lit) s.fits;
}

pub gathered_joined : (count : ℕ) (rows : List Row) (roots : List Bool) (n : ℕ) (literals : List (Option Lit)) (waiting left : List (List Lit)) (new more : List Row) (a b l : Lit) (leaves : List Lit)
    → (s : IsBalancing count rows roots n literals waiting new) → IsGathered rows new n a b waiting left leaves → IsPermutation (leaves_of literals s.leaves a ++ leaves_of literals s.leaves b) leaves → count < n → n < length rows → row_at rows n ≡ And a b
    → mark_at roots n ≡ true → IsJoining new leaves more (l ∷ []) → AreOne new leaves more l → IsBalancing count rows roots (suc n) (set literals n (Some l)) left more
gathered_joined count rows roots n literals waiting left new more a b l leaves s g same above lt is on j one =
    root_next count rows roots n literals waiting left new more a b l g.joins leaves s g.taken above lt is on j.grows (joined_stands rows new more (plain n) l leaves g.stand j) same one (let f = g.few in let e = j.few in omega (arith, f, e))
