use Rattle.std.proofs.Common.{length, ap, rules, subst, ◌∙◌}
use Rattle.syn_decide.specs.Decided.{told_answer}
use Rattle.syn_decide.specs.Tasks.{asked, task_of}
use Rattle.syn_table.specs.Seating.{view_of}
use Rattle.syn_commit.specs.Committed.{IsBooked}
use Rattle.syn_commit.proofs.Telling.{below_enters, busy_caused, fell_since}
use Rattle.syn_commit.proofs.commits.try_commit.Goals as goal

pub answer-requires-clause-begins : goal.answer-requires-clause-begins
answer-requires-clause-begins g c = λ κs within. record {
  table = search rules;
  start = search rules;
  state = search rules;
  pool = search rules;
  alone = search rules;
  pins = search rules;
  root = search rules;
  not_spare = search rules;
  enters = let p = c.of-attempt.result.candidate in below_enters p.root p.leaves.now p.root_is_no_constant p.below_root;
}

pub store_or_give_up-requires-clause-answered : goal.store_or_give_up-requires-clause-answered
store_or_give_up-requires-clause-answered g c =
    let way = c.answer.ensures.way in
    record {
      table = way.table;
      in_order = search rules;
      enters = let p = c.of-attempt.result.candidate in below_enters p.root p.leaves.now p.root_is_no_constant p.below_root;
      size = search rules;
      trying = way.trying;
      keyed = way.keyed;
      loaded = c.answer.ensures.loaded;
      ended = c.answer.ensures.ended;
      few = c.answer.ensures.few;
    }

pub returns-clause-busy : goal.returns-clause-busy
returns-clause-busy g c = λ n busy.
    busy_caused (task_of c.of-attempt.result) (asked c.args.proposal.now c.args.zero_gain (length c.args.pool.now)) (view_of c.of-start.result.value) (view_of c.args.seat.now) (view_of c.store_or_give_up.new.seat) c.answer.new.deciding
    (told_answer c.outcome-outcome.result) n (c.of-attempt.ensures ∙ ap (asked c.args.proposal.now c.args.zero_gain) (c.len.ensures ∙ ap length c.pool.view_is)) (ap view_of c.of-start.ensures) c.store_or_give_up.ensures.reads c.outcome-outcome.ensures busy

pub returns-clause-fell : goal.returns-clause-fell
returns-clause-fell g c =
    fell_since (task_of c.of-attempt.result) (asked c.args.proposal.now c.args.zero_gain (length c.args.pool.now)) c.answer.new.deciding (told_answer c.outcome-outcome.result)
    (view_of c.of-start.result.value) (view_of c.args.seat.now) c.args.pool.now (view_of c.store_or_give_up.new.seat) c.store_or_give_up.new.pool (c.of-attempt.ensures ∙ ap (asked c.args.proposal.now c.args.zero_gain) (c.len.ensures ∙ ap length c.pool.view_is))
    (ap view_of c.of-start.ensures) c.store_or_give_up.ensures.reads
    (subst
    (λ spare. IsBooked (task_of c.of-attempt.result) c.answer.new.deciding (told_answer c.outcome-outcome.result) (view_of c.of-start.result.value) spare (view_of c.store_or_give_up.new.seat) c.store_or_give_up.new.pool)
    c.pool.view_is c.store_or_give_up.ensures.booked)
