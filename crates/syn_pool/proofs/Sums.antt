-- Reports are sums.
use Rattle.std.proofs.Common.{◌≡◌, ℕ, ◌+◌, ◌-◌, ◌^◌, ◌≤◌, Bool, List, [], ◌∷◌, ◌++◌, length, refl, sym, ap, ap₂, ◌∙◌, subst, arith, inl, inr, ℤ, ◌+ℤ◌}
use Rattle.std.proofs.lemmas.Bool.{cases_lt}
use Rattle.std.proofs.lemmas.Int.{ints}
use Rattle.std.proofs.Math.Nat.{min-eq_left, min-eq_right}
use Rattle.syn_core_laws.specs.declared.View.{View}
use Rattle.syn_core_laws.specs.declared.Change.{Change}
use Rattle.syn_core_laws.specs.declared.Made.{Made}
use Rattle.syn_decide.specs.Decided.{Answer, Done, Busy, Reach, Wide, Differs, NoGain, NoGap, NoRoom}
use Rattle.syn_decide.specs.Fold.{State}
use Rattle.syn_decide.specs.Tasks.{Task}
use Rattle.syn_commit_laws.specs.Freeing.{redefines}
use Rattle.syn_commit.specs.Committed.{Stores, gain_of}
use Rattle.syn_proposals.specs.declared.gains.Report.{Report}
use Rattle.syn_pool.specs.Reports.{HasTriedAll, IsSum, Sweep, all_answers, all_differences, done_of, dones, gains, reported, told, with_answer}

-- ---- numbers of reports
pub told_low : (a : ℕ) → a ≤ 2 ^ 64 - 1 → told a ≡ a
told_low a le = min-eq_left le

pub told_high : (a : ℕ) → 2 ^ 64 - 1 ≤ a → told a ≡ 2 ^ 64 - 1
told_high a le = min-eq_right le

pub told_told : (a b : ℕ) → told (told a + b) ≡ told (a + b)
told_told a b = elim (cases_lt a (2 ^ 64 - 1)) [
  | inl lt ↦ ap (λ k. told (k + b)) (told_low a (omega (arith, lt)))
  | inr ge ↦ ap (λ k. told (k + b)) (told_high a ge) ∙ told_high (2 ^ 64 - 1 + b) (omega arith) ∙ sym (told_high (a + b) (omega (arith, ge)))
]

pub told_both : (a b : ℕ) → told (told a + told b) ≡ told (a + b)
told_both a b =
    told_told a (told b)
    ∙ (ap told (omega arith) ∙ told_told b a) ∙ ap told (omega arith)

-- ---- answers one after the other
pub dones_append : (xs ys : List Answer) → dones (xs ++ ys) ≡ dones xs + dones ys
dones_append [] ys = omega arith
dones_append (a ∷ xs) ys = let e = dones_append xs ys in omega (arith, e)

pub gains_append : (xs ys : List Answer) → gains (xs ++ ys) ≡ gains xs + gains ys
gains_append [] ys = omega arith
gains_append (a ∷ xs) ys = let e = gains_append xs ys in omega (arith, e)

append_again : (xs ys zs : List Answer) → (xs ++ ys) ++ zs ≡ xs ++ (ys ++ zs)
append_again [] ys zs = refl
append_again (a ∷ xs) ys zs = ap (λ (l : List Answer). a ∷ l) (append_again xs ys zs)

pub all_append : {zero_gain : Bool} (ss ts : List (Sweep zero_gain)) → all_answers (ss ++ ts) ≡ all_answers ss ++ all_answers ts
all_append [] ts = refl
all_append (s ∷ ss) ts = ap (λ (l : List Answer). s.answers ++ l) (all_append ss ts) ∙ sym (append_again s.answers (all_answers ss) (all_answers ts))

sum_more : (a b c d : ℤ) → b ≡ c +ℤ d → a +ℤ b ≡ (a +ℤ c) +ℤ d
sum_more a b c d is = omega (arith, ints, is)

pub differences_append : {zero_gain : Bool} (ss ts : List (Sweep zero_gain)) → all_differences (ss ++ ts) ≡ all_differences ss +ℤ all_differences ts
differences_append [] ts = omega (arith, ints)
differences_append (s ∷ ss) ts = sum_more s.after.difference (all_differences (ss ++ ts)) (all_differences ss) (all_differences ts) (differences_append ss ts)

pub tried_both : (zero_gain : Bool) (xs ys : List Answer) (u v w : View) → HasTriedAll zero_gain xs u v → HasTriedAll zero_gain ys v w → HasTriedAll zero_gain (xs ++ ys) u w
tried_both zero_gain [] ys u v w first second = subst (λ (x : View). HasTriedAll zero_gain ys x w) first second
tried_both zero_gain (a ∷ xs) ys u v w first second = (first.0, first.1, tried_both zero_gain xs ys first.0 v w first.2 second)

pub reported_both : (r : Report) (xs ys : List Answer) → reported r (xs ++ ys) ≡ reported (reported r xs) ys
reported_both r [] ys = refl
reported_both r (a ∷ xs) ys = reported_both (with_answer r a) xs ys

-- ---- reports of attempts
abbrev report_of : ℕ → ℕ → Report
report_of d g = record { done = d; gained = g }

abbrev sums_to : ℕ → ℕ → Report
sums_to n m = report_of (told n) (told m)

same : (n m : ℕ) → sums_to n m ≡ sums_to (n + 0) (m + 0)
same n m = let d : n ≡ n + 0 = omega arith in let g : m ≡ m + 0 = omega arith in ap₂ sums_to d g

with_answer_is : (n m : ℕ) (a : Answer) → with_answer (sums_to n m) a ≡ sums_to (n + done_of a) (m + gain_of a)
with_answer_is n m (Done gain) = ap₂ report_of (told_told n 1) (told_told m gain)
with_answer_is n m (Busy node) = same n m
with_answer_is n m (Reach node) = same n m
with_answer_is n m (Wide node) = same n m
with_answer_is n m (Differs was now) = same n m
with_answer_is n m (NoGain freed added) = same n m
with_answer_is n m (NoGap node low need high) = same n m
with_answer_is n m (NoRoom need have) = same n m

reported_is : (xs : List Answer) (n m : ℕ) → reported (sums_to n m) xs ≡ sums_to (n + dones xs) (m + gains xs)
reported_is [] n m = same n m
reported_is (a ∷ xs) n m =
    let d : n + done_of a + dones xs ≡ n + (done_of a + dones xs) = omega arith in
    let g : m + gain_of a + gains xs ≡ m + (gain_of a + gains xs) = omega arith in
    ap (λ (r : Report). reported r xs) (with_answer_is n m a) ∙ reported_is xs (n + done_of a) (m + gain_of a) ∙ ap₂ sums_to d g

-- a report that began with nothing is the sum
pub sum_of_reported : (r s : Report) (xs : List Answer) → r.done ≡ 0 → r.gained ≡ 0 → s ≡ reported r xs → IsSum xs s
sum_of_reported r s xs d g is =
    let first : 0 + dones xs ≡ dones xs = omega arith in
    let second : 0 + gains xs ≡ gains xs = omega arith in
    let all : s ≡ sums_to (dones xs) (gains xs) = is ∙ ap (λ (x : Report). reported x xs) (ap₂ report_of d g) ∙ reported_is xs 0 0 ∙ ap₂ sums_to first second in
    record { done = ap (λ (x : Report). x.done) all; gained = ap (λ (x : Report). x.gained) all }

pub sum_both : (xs ys : List Answer) (r s t : Report) → IsSum xs r → IsSum ys s → t.done ≡ told (r.done + s.done) → t.gained ≡ told (r.gained + s.gained) → IsSum (xs ++ ys) t
sum_both xs ys r s t f g done gained = record {
  done = done ∙ ap₂ (λ (a b : ℕ). told (a + b)) f.done g.done ∙ told_both (dones xs) (dones ys) ∙ ap told (sym (dones_append xs ys));
  gained = gained ∙ ap₂ (λ (a b : ℕ). told (a + b)) f.gained g.gained ∙ told_both (gains xs) (gains ys) ∙ ap told (sym (gains_append xs ys));
}

-- a commit redefines one row where it was done, and none else
pub stored_dones : (t : Task) (s : State) (answer : Answer) (pool kept : List ℕ) (makes : List Made) (changes : List Change) → Stores t s answer pool kept makes changes → length (redefines changes) ≡ done_of answer
stored_dones t s (Done gain) pool kept makes changes st = ap (λ (cs : List Change). length cs) st.root
stored_dones t s (Busy node) pool kept makes changes st = ap (λ (cs : List Change). length cs) st.none
stored_dones t s (Reach node) pool kept makes changes st = ap (λ (cs : List Change). length cs) st.none
stored_dones t s (Wide node) pool kept makes changes st = ap (λ (cs : List Change). length cs) st.none
stored_dones t s (Differs was now) pool kept makes changes st = ap (λ (cs : List Change). length cs) st.none
stored_dones t s (NoGain freed added) pool kept makes changes st = ap (λ (cs : List Change). length cs) st.none
stored_dones t s (NoGap node low need high) pool kept makes changes st = ap (λ (cs : List Change). length cs) st.none
stored_dones t s (NoRoom need have) pool kept makes changes st = ap (λ (cs : List Change). length cs) st.none
