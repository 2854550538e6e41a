-- What commits are reported: how many were done, and what they gained.
use Rattle.std.specs.Prelude.{◌≡◌, ℕ, ◌+◌, ◌-◌, ◌^◌, min, Bool, true, List, [], ◌∷◌, ◌++◌, length, ℤ, pos, ◌+ℤ◌}
use Rattle.syn_core_laws.specs.declared.View.{View}
use Rattle.syn_decide.specs.Decided.{Answer, Answered, Done, Busy, Reach, Wide, Differs, NoGain, NoGap, NoRoom}
use Rattle.syn_decide.specs.Fold.{decided}
use Rattle.syn_decide.specs.Tasks.{Task}
use Rattle.syn_commit_laws.specs.Freeing.{redefines}
use Rattle.syn_commit.specs.Committed.{FellSince, changes_since, gain_of, met_since}
use Rattle.syn_proposals.specs.declared.gains.Report.{Report}

-- 1 for `Done`
abbrev pub done_of : Answer → ℕ
done_of (Done gain) = 1
done_of (Busy node) = 0
done_of (Reach node) = 0
done_of (Wide node) = 0
done_of (Differs was now) = 0
done_of (NoGain freed added) = 0
done_of (NoGap node low need high) = 0
done_of (NoRoom need have) = 0

-- how many of the answers are `Done`, and the sum of their gains
abbrev pub dones : List Answer → ℕ
dones [] = 0
dones (a ∷ xs) = done_of a + dones xs

abbrev pub gains : List Answer → ℕ
gains [] = 0
gains (a ∷ xs) = gain_of a + gains xs

-- A seat tried to commit: the answer is decided by what it met, and it redefined one row where that is `Done`, and none else; the difference in ANDs fell by exactly the gain and the late ANDs. A gain of 0 is let through only where it may be.
pub record HasTried (zero_gain : Bool) (answer : Answer) (was now : View) : Type 0 where
  pub task : Task
  pub allowed : task.zero_gain ≡ true → zero_gain ≡ true
  pub decision : decided task (met_since was now) ≡ Answered answer
  pub reads : now.reads ≡ was.reads ++ met_since was now
  pub changes : now.changes ≡ was.changes ++ changes_since was now
  pub stored : length (redefines (changes_since was now)) ≡ done_of answer
  pub fell : FellSince task was answer now

-- a seat tried to commit one time after the other, with these answers
abbrev pub HasTriedAll : Bool → List Answer → View → View → Type 0
HasTriedAll zero_gain [] was now = now ≡ was
HasTriedAll zero_gain (a ∷ xs) was now = (v : View) × HasTried zero_gain a was v × HasTriedAll zero_gain xs v now

-- The attempts of one seat, from its first to its last.
pub record Sweep (zero_gain : Bool) : Type 0 where
  pub answers : List Answer
  pub before : View
  pub after : View
  pub tried : HasTriedAll zero_gain answers before after

-- the answers of several
abbrev pub all_answers : {zero_gain : Bool} → List (Sweep zero_gain) → List Answer
all_answers [] = []
all_answers (s ∷ ss) = s.answers ++ all_answers ss

-- the differences in ANDs that several leave, together
abbrev pub all_differences : {zero_gain : Bool} → List (Sweep zero_gain) → ℤ
all_differences [] = pos 0
all_differences (s ∷ ss) = s.after.difference +ℤ all_differences ss

-- the seat of a sweep had stored nothing before it, and made no difference
abbrev pub BeginsAnew : {zero_gain : Bool} → Sweep zero_gain → Type 0
BeginsAnew s = (s.before.changes ≡ []) × (s.before.difference ≡ pos 0)

-- a number of a report: past the largest it is the largest
abbrev pub told : ℕ → ℕ
told n = min n (2 ^ 64 - 1)

-- the report has the number of the answers that are `Done`, and the sum of their gains
pub record IsSum (answers : List Answer) (report : Report) : Type 0 where
  pub done : report.done ≡ told (dones answers)
  pub gained : report.gained ≡ told (gains answers)

-- the report with a commit more, of this gain, and with an answer more
abbrev pub with_gain : Report → ℕ → Report
with_gain r gain = record { done = told (r.done + 1); gained = told (r.gained + gain) }

abbrev pub with_answer : Report → Answer → Report
with_answer r (Done gain) = with_gain r gain
with_answer r (Busy node) = r
with_answer r (Reach node) = r
with_answer r (Wide node) = r
with_answer r (Differs was now) = r
with_answer r (NoGain freed added) = r
with_answer r (NoGap node low need high) = r
with_answer r (NoRoom need have) = r

-- the report with these answers more, in order
abbrev pub reported : Report → List Answer → Report
reported r [] = r
reported r (a ∷ xs) = reported (with_answer r a) xs
