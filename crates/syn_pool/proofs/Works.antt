-- What a worker has done, moment by moment.
use Rattle.std.proofs.Common.{◌≡◌, ◌≢◌, ℕ, ◌+◌, ◌<◌, ◌≤◌, Bool, true, false, not, if◌then◌else◌, List, [], ◌∷◌, ◌++◌, length, refl, sym, ap, ap₂, ◌∙◌, subst, arith, ℤ, pos, ◌+ℤ◌, ◌≤ℤ◌}
use Rattle.std.proofs.lemmas.Bool.{both_ways}
use Rattle.std.proofs.lemmas.Int.{ints}
use Rattle.std.proofs.lemmas.List.Elements.{All-append, All-nil, All-cons}
use Rattle.syn_core_laws.specs.declared.Seen.{Seen}
use Rattle.syn_decide.specs.declared.decisions.Outcome.{Outcome}
use Rattle.syn_decide.specs.declared.decisions.Outcome.TheVariants as outcome
use Rattle.syn_decide.specs.declared.decisions.StaleCause.TheVariants as cause
use Rattle.syn_decide.specs.Decided.{Answer, Answered, told_answer}
use Rattle.syn_decide.specs.Fold.{decided}
use Rattle.syn_decide.specs.Tasks.{Task}
use Rattle.syn_table.specs.declared.Known.{Known}
use Rattle.syn_core_laws.specs.Splits.{view_after_join}
use Rattle.syn_proposals.specs.declared.gains.Report.{Report}
use Rattle.syn_graph.specs.declared.Graph.{Graph}
use Rattle.syn_table.specs.declared.Seat.{Seat}
use Rattle.syn_table.specs.declared.Shared.{Shared}
use Rattle.syn_table.specs.Seating.{IsOf, graph_of, known_of, view_of}
use Rattle.syn_table.specs.Splitting.{all_but_last, last_of, split_from, with_joined, without_last}
use Rattle.syn_table.specs.Steps.{with_view}
use Rattle.syn_commit_laws.specs.Freeing.{late}
use Rattle.syn_commit.specs.Counts.{dying_by}
use Rattle.syn_commit.specs.Committed.{FellSince, StoredSince, changes_since, gain_of, makes_since, met_since, state_since}
use Rattle.syn_commit.specs.Giving.{IsAtRest}
use Rattle.syn_core_laws.specs.declared.View.{View}
use Rattle.syn_pool.specs.declared.rounds.workers.Worker.{Worker}
use Rattle.syn_pool.specs.Reports.{BeginsAnew, HasTried, HasTriedAll, done_of, IsSum, all_answers, all_differences, reported, told, with_answer, with_gain}
use Rattle.syn_pool.specs.Closing.{IsLeft}
use Rattle.syn_pool.specs.Working.{HasSwept, HasWorked, IsRound, IsRoundReport}
use Rattle.syn_pool.proofs.Sums.{all_append, differences_append, reported_both, stored_dones, sum_both, sum_of_reported, tried_both}
use Rattle.syn_decide.proofs.Enough.{gain_enough}

-- nothing was done
pub has_not : (zero_gain : Bool) (w : Worker) → HasWorked zero_gain w w
has_not zero_gain w = record { known = refl; answers = []; tried = refl; report = refl; fell = omega (arith, ints); gains = λ _ le. le }

-- what was done first, and what was done then
pub has_both : (zero_gain : Bool) (u v w : Worker) → HasWorked zero_gain u v → HasWorked zero_gain v w → HasWorked zero_gain u w
has_both zero_gain u v w f s = record {
  known = s.known ∙ ap (λ (k : Known). with_view k (view_of w.seat)) f.known;
  answers = f.answers ++ s.answers;
  tried = tried_both zero_gain f.answers s.answers (view_of u.seat) (view_of v.seat) (view_of w.seat) f.tried s.tried;
  report = s.report ∙ ap (λ (r : Report). reported r s.answers) f.report ∙ sym (reported_both u.report f.answers s.answers);
  fell = let a = f.fell in let b = s.fell in omega (arith, ints, a, b);
  gains = λ strict le. s.gains strict (f.gains strict le);
}

-- where no gain of 0 was let through, it is so where one may be
tried_saving : (zero_gain : Bool) (answer : Answer) (v w : View) → HasTried false answer v w → HasTried zero_gain answer v w
tried_saving zero_gain answer v w f = record { task = f.task; allowed = λ is. absurd (both_ways false refl (f.allowed is)); decision = f.decision; reads = f.reads; changes = f.changes; stored = f.stored; fell = f.fell }

all_saving : (zero_gain : Bool) (xs : List Answer) (v w : View) → HasTriedAll false xs v w → HasTriedAll zero_gain xs v w
all_saving zero_gain [] v w tried = tried
all_saving zero_gain (a ∷ xs) v w tried = (tried.0, tried_saving zero_gain a v tried.0 tried.1, all_saving zero_gain xs tried.0 w tried.2)

-- where each commit saved, it is so whether gains of 0 are enough or not
pub has_saved : (zero_gain : Bool) (u v : Worker) → HasWorked false u v → HasWorked zero_gain u v
has_saved zero_gain u v f = record { known = f.known; answers = f.answers; tried = all_saving zero_gain f.answers (view_of u.seat) (view_of v.seat) f.tried; report = f.report; fell = f.fell; gains = λ _ le. f.gains refl le }

fell_by : (d e : ℤ) (gain more was now : ℕ) → (d +ℤ pos (gain + more)) ≡ e → now ≤ was + gain → (d +ℤ pos now) ≤ℤ (e +ℤ pos was)
fell_by d e gain more was now is le = omega (arith, ints, is, le)

-- one commit was done
pub has_done : (t : Task) (was now : Worker) (answer : Outcome) (gain : ℕ) → answer ≡ outcome.Done gain
    → known_of now.seat ≡ with_view (known_of was.seat) (view_of now.seat)
    → FellSince t (view_of was.seat) (told_answer answer) (view_of now.seat)
    → HasTried t.zero_gain (told_answer answer) (view_of was.seat) (view_of now.seat)
    → (met : List Seen) → decided t met ≡ Answered (told_answer answer)
    → now.report ≡ with_gain was.report gain
    → now.report.gained ≤ was.report.gained + gain
    → (was.report.done ≤ was.report.gained → 1 ≤ gain → now.report.done ≤ now.report.gained)
    → HasWorked t.zero_gain was now
has_done t was now answer gain is known fell tried met decision report gained done = record {
  known = known;
  answers = told_answer answer ∷ [];
  tried = (view_of now.seat, tried, refl);
  report = subst (λ (a : Outcome). now.report ≡ with_answer was.report (told_answer a)) (sym is) report;
  fell = fell_by (view_of now.seat).difference (view_of was.seat).difference gain (late (dying_by (state_since t (view_of was.seat) (view_of now.seat))) (changes_since (view_of was.seat) (view_of now.seat))) was.report.gained now.report.gained
      (subst (λ (a : Outcome). FellSince t (view_of was.seat) (told_answer a) (view_of now.seat)) is fell) gained;
  gains = λ strict le. done le (at_least t.zero_gain strict (gain_enough t met gain (subst (λ (a : Outcome). decided t met ≡ Answered (told_answer a)) is decision)));
}
  where
    at_least : (b : Bool) → b ≡ false → (if b then 0 else 1) ≤ gain → 1 ≤ gain
    at_least true e le = absurd (cc)
    at_least false e le = le

-- any answer but `Done` adds nothing to a report
adds_none : (r : Report) (answer : Outcome) → ((gain : ℕ) → answer ≢ outcome.Done gain) → with_answer r (told_answer answer) ≡ r
adds_none r (outcome.Done gain) other = absurd (other gain refl)
adds_none r (outcome.Busy node) other = refl
adds_none r (outcome.Stale (cause.Reach node)) other = refl
adds_none r (outcome.Stale (cause.Wide node)) other = refl
adds_none r (outcome.Stale (cause.Differs was now)) other = refl
adds_none r (outcome.NoGain freed added) other = refl
adds_none r (outcome.NoGap node low need high) other = refl
adds_none r (outcome.NoRoom need have) other = refl

pub done_none : (answer : Outcome) → ((gain : ℕ) → answer ≢ outcome.Done gain) → done_of (told_answer answer) ≡ 0
done_none (outcome.Done gain) other = absurd (other gain refl)
done_none (outcome.Busy node) other = refl
done_none (outcome.Stale (cause.Reach node)) other = refl
done_none (outcome.Stale (cause.Wide node)) other = refl
done_none (outcome.Stale (cause.Differs was now)) other = refl
done_none (outcome.NoGain freed added) other = refl
done_none (outcome.NoGap node low need high) other = refl
done_none (outcome.NoRoom need have) other = refl

-- a commit is an attempt
pub has_tried : (t : Task) (pool grown : List ℕ) (answer : Answer) (v w : View) → decided t (met_since v w) ≡ Answered answer
    → w.reads ≡ v.reads ++ met_since v w → w.changes ≡ v.changes ++ changes_since v w → StoredSince t v pool answer w grown → FellSince t v answer w → HasTried t.zero_gain answer v w
has_tried t pool grown answer v w decision reads changes stored fell = record {
  task = t;
  allowed = λ is. is;
  decision = decision;
  reads = reads;
  changes = changes;
  stored = stored_dones t (state_since t v w) answer pool stored.0 (makes_since v w) (changes_since v w) stored.1;
  fell = fell;
}

-- one commit was answered otherwise
pub has_failed : (t : Task) (was now : Worker) (answer : Outcome)
    → known_of now.seat ≡ with_view (known_of was.seat) (view_of now.seat)
    → FellSince t (view_of was.seat) (told_answer answer) (view_of now.seat)
    → HasTried t.zero_gain (told_answer answer) (view_of was.seat) (view_of now.seat)
    → ((gain : ℕ) → answer ≢ outcome.Done gain)
    → now.report ≡ was.report
    → HasWorked t.zero_gain was now
has_failed t was now answer known fell tried other same = record {
  known = known;
  answers = told_answer answer ∷ [];
  tried = (view_of now.seat, tried, refl);
  report = same ∙ sym (adds_none was.report answer other);
  fell = fell_by (view_of now.seat).difference (view_of was.seat).difference (gain_of (told_answer answer)) (late (dying_by (state_since t (view_of was.seat) (view_of now.seat))) (changes_since (view_of was.seat) (view_of now.seat))) was.report.gained now.report.gained
      fell (let e = ap (λ r. r.gained) same in omega (arith, e));
  gains = λ strict le. subst (λ r. r.done ≤ r.gained) (sym same) le;
}

-- ---- several workers
-- the numbers but the last, and the last
all_again : (ns : List ℕ) → 0 < length ns → (all_but_last ns ++ last_of ns ∷ []) ≡ ns
all_again [] some = absurd (omega (arith, some))
all_again (n ∷ []) some = refl
all_again (n ∷ m ∷ more) some = ap (λ (ns : List ℕ). n ∷ ns) (all_again (m ∷ more) (omega arith))

fell_whole : (was start end now : ℤ) (a b c : ℕ) → start ≡ was → now ≡ end → a ≡ 0 → c ≡ b → (end +ℤ pos b) ≤ℤ (start +ℤ pos a) → (now +ℤ pos c) ≤ℤ was
fell_whole was start end now a b c first last none same f = omega (arith, ints, first, last, none, same, f)

fell_none : (was now : ℤ) (c : ℕ) → now ≡ was → c ≡ 0 → (now +ℤ pos c) ≤ℤ was
fell_none was now c is none = omega (arith, ints, is, none)

append_none : (xs : List Answer) → xs ++ [] ≡ xs
append_none [] = refl
append_none (a ∷ xs) = ap (λ (l : List Answer). a ∷ l) (append_none xs)

fell_both : (was mine theirs start : ℤ) (a b c : ℕ) → (mine +ℤ pos a) ≤ℤ was → (theirs +ℤ pos b) ≤ℤ start → start ≡ pos 0 → c ≤ a + b → ((mine +ℤ theirs) +ℤ pos c) ≤ℤ was
fell_both was mine theirs start a b c f s none le = omega (arith, ints, f, s, none, le)

sum_both_ways : (now mine theirs a b c d e : ℤ) → now ≡ mine +ℤ theirs → mine ≡ a +ℤ b → theirs ≡ c +ℤ d → e ≡ b +ℤ (c +ℤ d) → now ≡ a +ℤ e
sum_both_ways now mine theirs a b c d e is f s both = omega (arith, ints, is, f, s, both)

-- what a seat and the seat that was split from it have done, when they are joined again
pub swept_both : (shared : Shared) (zero_gain : Bool) (was left new first second now : Seat) (r s t : Report)
    → 0 < length (known_of was).numbers
    → known_of left ≡ without_last (known_of was) → known_of new ≡ split_from (known_of was)
    → HasSwept shared zero_gain left first r → HasSwept shared zero_gain new second s
    → IsOf now shared → known_of now ≡ with_joined (known_of first) (known_of second)
    → t.done ≡ told (r.done + s.done) → t.gained ≡ told (r.gained + s.gained)
    → t.gained ≤ r.gained + s.gained
    → (r.done ≤ r.gained → s.done ≤ s.gained → t.done ≤ t.gained)
    → HasSwept shared zero_gain was now t
swept_both shared zero_gain was left new first second now r s t some is_left is_new f g table is_now sum_done sum_gained gained done = record {
  table = table;
  rest = record { held = ap (λ (k : Known). k.core.held) is_now ∙ f.rest.held; pins = ap (λ (k : Known). k.core.pins) is_now ∙ f.rest.pins; idle = ap (λ (k : Known). k.core.idle) is_now ∙ f.rest.idle };
  known = subst (λ (k : Known). k ≡ with_view (known_of was) k.core) (sym whole) (ap (λ (ns : List ℕ). record (known_of was) { core = view_after_join (view_of first) (view_of second); numbers = ns }) (all_again (known_of was).numbers some));
  own = f.own;
  others = f.others ++ g.own ∷ g.others;
  since = (f.since.0 ∙ ap (λ (k : Known). k.core.changes) is_left, f.since.1 ∙ ap (λ (k : Known). k.core.difference) is_left);
  until = (ap (λ (k : Known). k.core.changes) is_now ∙ f.until.0, ap (λ (k : Known). k.core.reads) is_now ∙ f.until.1);
  anew = All-append BeginsAnew f.others (g.own ∷ g.others) f.anew
      (All-cons BeginsAnew g.own g.others (g.since.0 ∙ ap (λ (k : Known). k.core.changes) is_new, g.since.1 ∙ ap (λ (k : Known). k.core.difference) is_new) g.anew);
  difference = sum_both_ways (view_of now).difference (view_of first).difference (view_of second).difference f.own.after.difference (all_differences f.others) g.own.after.difference (all_differences g.others)
      (all_differences (f.others ++ g.own ∷ g.others)) (ap (λ (k : Known). k.core.difference) is_now) f.difference g.difference (differences_append f.others (g.own ∷ g.others));
  sums = subst (λ (xs : List Answer). IsSum xs t) (sym (all_append (f.own ∷ f.others) (g.own ∷ g.others)))
      (sum_both (all_answers (f.own ∷ f.others)) (all_answers (g.own ∷ g.others)) r s t f.sums g.sums sum_done sum_gained);
  fell = subst (λ d. (d +ℤ pos t.gained) ≤ℤ (view_of was).difference) (sym (ap (λ (k : Known). k.core.difference) is_now))
      (fell_both (view_of was).difference (view_of first).difference (view_of second).difference (view_of new).difference r.gained s.gained t.gained
      (subst (λ (k : Known). ((view_of first).difference +ℤ pos r.gained) ≤ℤ k.core.difference) is_left f.fell) g.fell (ap (λ (k : Known). k.core.difference) is_new) gained);
  gains = λ strict. done (f.gains strict) (g.gains strict);
}
  where
    one : known_of first ≡ with_view (without_last (known_of was)) (view_of first)
    one = f.known ∙ ap (λ (k : Known). with_view k (view_of first)) is_left

    two : known_of second ≡ with_view (split_from (known_of was)) (view_of second)
    two = g.known ∙ ap (λ (k : Known). with_view k (view_of second)) is_new

    whole : known_of now ≡ record (known_of was) { core = view_after_join (view_of first) (view_of second); numbers = all_but_last (known_of was).numbers ++ last_of (known_of was).numbers ∷ [] }
    whole = is_now ∙ ap₂ with_joined one two

alone : (d : ℤ) → d ≡ d +ℤ pos 0
alone d = omega (arith, ints)

-- ---- one worker
-- what a worker has done from its first node to its last
pub swept_one : (shared : Shared) (zero_gain : Bool) (was now : Seat) (start end : Worker) (report : Report)
    → known_of start.seat ≡ with_view (known_of was) (view_of start.seat)
    → (view_of start.seat).difference ≡ (view_of was).difference → (view_of start.seat).changes ≡ (view_of was).changes
    → start.report.done ≡ 0 → start.report.gained ≡ 0
    → HasWorked zero_gain start end
    → IsOf now shared → IsAtRest (view_of now) → known_of now ≡ with_view (known_of end.seat) (view_of now)
    → (view_of now).difference ≡ (view_of end.seat).difference → (view_of now).changes ≡ (view_of end.seat).changes → (view_of now).reads ≡ (view_of end.seat).reads
    → report ≡ end.report
    → HasSwept shared zero_gain was now report
swept_one shared zero_gain was now start end report begun difference changes no_done no_gain f table rest ended same_difference same_changes same_reads same = record {
  table = table;
  rest = rest;
  known = ended ∙ ap (λ (k : Known). with_view k (view_of now)) (f.known ∙ ap (λ (k : Known). with_view k (view_of end.seat)) begun);
  own = record { answers = f.answers; before = view_of start.seat; after = view_of end.seat; tried = f.tried };
  others = [];
  since = (changes, difference);
  until = (same_changes, same_reads);
  anew = All-nil BeginsAnew;
  difference = same_difference ∙ alone (view_of end.seat).difference;
  sums = subst (λ (xs : List Answer). IsSum xs report) (sym (append_none f.answers)) (sum_of_reported start.report report f.answers no_done no_gain (same ∙ f.report));
  fell = fell_whole (view_of was).difference (view_of start.seat).difference (view_of end.seat).difference (view_of now).difference start.report.gained end.report.gained report.gained
      difference same_difference no_gain (ap (λ (r : Report). r.gained) same) f.fell;
  gains = λ strict. subst (λ (r : Report). r.done ≤ r.gained) (sym same) (f.gains strict (let d = no_done in let g = no_gain in omega (arith, d, g)));
}

-- a seat that knows what it knew
pub swept_none : (shared : Shared) (zero_gain : Bool) (was now : Seat) (report : Report) → IsOf now shared → IsAtRest (view_of was) → known_of now ≡ known_of was → report.done ≡ 0 → report.gained ≡ 0
    → HasSwept shared zero_gain was now report
swept_none shared zero_gain was now report table rest is no_done no_gain = record {
  table = table;
  rest = subst (λ (k : Known). IsAtRest k.core) (sym is) rest;
  known = is ∙ ap (λ (k : Known). with_view (known_of was) k.core) (sym is);
  own = record { answers = []; before = view_of was; after = view_of was; tried = refl };
  others = [];
  since = (refl, refl);
  until = (ap (λ (k : Known). k.core.changes) is, ap (λ (k : Known). k.core.reads) is);
  anew = All-nil BeginsAnew;
  difference = ap (λ (k : Known). k.core.difference) is ∙ alone (view_of was).difference;
  sums = record { done = no_done; gained = no_gain };
  fell = fell_none (view_of was).difference (view_of now).difference report.gained (ap (λ (k : Known). k.core.difference) is) no_gain;
  gains = λ strict. omega (arith, no_done, no_gain);
}

-- the report of a swept table is one of its graph
pub round_report : (zero_gain : Bool) (shared : Shared) (first last : Seat) (report : Report) (was : Graph) → graph_of shared ≡ was → (view_of first).changes ≡ [] → HasSwept shared zero_gain first last report → IsRoundReport was zero_gain report
round_report zero_gain shared first last report was graph fresh swept = record { shared = shared; graph = graph; first = first; last = last; fresh = fresh; swept = swept }

-- with the graph that the last seat leaves
pub round : (zero_gain : Bool) (shared : Shared) (first last : Seat) (report : Report) (was now : Graph) → graph_of shared ≡ was → (view_of first).changes ≡ [] → HasSwept shared zero_gain first last report
    → IsLeft was (view_of last).difference now → IsRound was zero_gain report now
unfolding round_report
round zero_gain shared first last report was now graph fresh swept left = record { workers = round_report zero_gain shared first last report was graph fresh swept; left = left }

pub is_false : (b : Bool) → not b ≡ true → b ≡ false
is_false true e = sym e
is_false false e = refl
