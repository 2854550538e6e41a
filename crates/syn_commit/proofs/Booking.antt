-- A commit that gave up has stored what each answer but `Done` stores.
use Rattle.std.proofs.Common.{◌≡◌, ℕ, ◌+◌, List, [], refl, sym, ap, ◌∙◌, subst, arith, append-nil, pos, ◌+ℤ◌}
use Rattle.syn_core_laws.specs.declared.View.{View}
use Rattle.syn_decide.specs.declared.decisions.Outcome.{Outcome}
use Rattle.syn_decide.specs.declared.decisions.Outcome.TheVariants as outcome
use Rattle.syn_decide.specs.declared.decisions.StaleCause.TheVariants as cause
use Rattle.syn_decide.specs.Decided.{Answer, Answered, Done, Busy, Reach, Wide, Differs, NoGain, NoGap, NoRoom, told_answer}
use Rattle.syn_decide.specs.Fold.{Ended, State, wanted_at, wants}
use Rattle.syn_decide.specs.Tasks.{Task}
use Rattle.syn_commit_laws.specs.Freeing.{late}
use Rattle.syn_commit.specs.Committed.{HasStoredNone, IsBooked, Stores, gain_of}
use Rattle.syn_commit.specs.Counts.{dying_by}
use Rattle.syn_commit.specs.Stages.{HasEnded}

-- no other answer of the program is told as `Done`
pub no_gain_told : (told : Outcome) → ((gain : ℕ) → told ≡ outcome.Done gain → ⊥) → (gain : ℕ) → told_answer told ≡ Done gain → ⊥
no_gain_told (outcome.Done won) other gain e = other won refl
no_gain_told (outcome.Busy node) other gain e = cc
no_gain_told (outcome.Stale (cause.Reach node)) other gain e = cc
no_gain_told (outcome.Stale (cause.Wide node)) other gain e = cc
no_gain_told (outcome.Stale (cause.Differs was now)) other gain e = cc
no_gain_told (outcome.NoGain freed added) other gain e = cc
no_gain_told (outcome.NoGap node low need high) other gain e = cc
no_gain_told (outcome.NoRoom need have) other gain e = cc

-- an answer that stands is the one that is wanted
pub ended_is : (s : State) → HasEnded s.stage → (answer : Answer) → Answered answer ≡ wants s → s.stage ≡ Ended answer
ended_is s ended answer e =
    let both : Answered answer ≡ Answered ended.0 = e ∙ ap (wanted_at s) ended.1 in
    let same : ended.0 ≡ answer = cc in
    ended.1 ∙ ap Ended same

-- it stored nothing
unstored : (t : Task) (s : State) (answer : Answer) (start : View) (pool : List ℕ) (v : View) (grown : List ℕ) (h : HasStoredNone s start pool v grown) → Stores t s answer pool pool [] h.changes → 0 ≡ gain_of answer
    → IsBooked t s answer start pool v grown
unstored t s answer start pool v grown h stored gain = record {
  makes = [];
  changes = h.changes;
  kept = pool;
  made = h.made ∙ sym (append-nil start.makes);
  since = h.since;
  stored = stored;
  joined = h.joined;
  fell = let same : late (dying_by s) h.changes ≡ gain_of answer + late (dying_by s) h.changes = omega (arith, gain) in subst (λ (k : ℕ). v.difference +ℤ pos k ≡ start.difference) same h.fell;
}

-- a commit that gave up has stored what each answer but `Done` stores
pub none_booked : (t : Task) (s : State) (answer : Answer) (start : View) (pool : List ℕ) (v : View) (grown : List ℕ) → ((gain : ℕ) → answer ≡ Done gain → ⊥) → HasStoredNone s start pool v grown
    → IsBooked t s answer start pool v grown
none_booked t s (Done gain) start pool v grown other h = absurd (other gain refl)
none_booked t s (Busy node) start pool v grown other h = unstored t s (Busy node) start pool v grown h (record { makes_none = refl; taken = refl; none = h.none }) refl
none_booked t s (Reach node) start pool v grown other h = unstored t s (Reach node) start pool v grown h (record { makes_none = refl; taken = refl; none = h.none }) refl
none_booked t s (Wide node) start pool v grown other h = unstored t s (Wide node) start pool v grown h (record { makes_none = refl; taken = refl; none = h.none }) refl
none_booked t s (Differs was now) start pool v grown other h = unstored t s (Differs was now) start pool v grown h (record { makes_none = refl; taken = refl; none = h.none }) refl
none_booked t s (NoGain freed added) start pool v grown other h = unstored t s (NoGain freed added) start pool v grown h (record { makes_none = refl; taken = refl; none = h.none }) refl
none_booked t s (NoGap node low need high) start pool v grown other h = unstored t s (NoGap node low need high) start pool v grown h (record { makes_none = refl; taken = refl; none = h.none }) refl
none_booked t s (NoRoom need have) start pool v grown other h = unstored t s (NoRoom need have) start pool v grown h (record { makes_none = refl; taken = refl; none = h.none }) refl
