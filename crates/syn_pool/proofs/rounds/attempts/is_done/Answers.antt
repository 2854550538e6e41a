use Rattle.std.proofs.Common.{List, length, ap, refl, ◌∙◌}
use Rattle.std.proofs.Math.Seq.{drop-length}
use Rattle.syn_core_laws.specs.declared.Change.{Change}
use Rattle.syn_commit_laws.specs.Freeing.{redefines}
use Rattle.syn_decide.specs.Decided.{told_answer}
use Rattle.syn_decide.specs.declared.decisions.Outcome.{Outcome}
use Rattle.syn_decide.specs.Tasks.{asked}
use Rattle.syn_table.specs.Seating.{view_of}
use Rattle.syn_commit.specs.Committed.{met_since}
use Rattle.syn_pool.specs.Reports.{done_of}
use Rattle.syn_pool.proofs.Works.{done_none, has_done, has_failed, has_not, has_tried}
use Rattle.syn_pool.proofs.rounds.attempts.is_done.Goals as goal

pub returns-then-has : goal.returns-then-has
returns-then-has g c = record {
  at_work = c.requires.at_work;
  worked = has_not c.args.zero_gain c.args.worker.now;
  done = ap (λ (cs : List Change). length (redefines cs)) (drop-length (view_of c.args.worker.now.seat).changes);
}

pub returns-in-Done-clause-worked : goal.returns-in-Done-clause-worked
returns-in-Done-clause-worked g c =
    has_done (asked c.args.proposal.now c.args.zero_gain (length c.args.worker.now.pool)) c.args.worker.now
    record { seat = c.try_commit-outcome.new.seat; pool = c.try_commit-outcome.new.pool; report = c.with_done-worker.result }
    c.try_commit-outcome.result c.in-Done.gain c.in-Done.is c.try_commit-outcome.ensures.known c.try_commit-outcome.ensures.fell
    (has_tried (asked c.args.proposal.now c.args.zero_gain (length c.args.worker.now.pool)) c.args.worker.now.pool c.try_commit-outcome.new.pool (told_answer c.try_commit-outcome.result)
    (view_of c.args.worker.now.seat) (view_of c.try_commit-outcome.new.seat) c.try_commit-outcome.ensures.answer c.try_commit-outcome.ensures.reads c.try_commit-outcome.ensures.changes c.try_commit-outcome.ensures.stored c.try_commit-outcome.ensures.fell)
    (met_since (view_of c.args.worker.now.seat) (view_of c.try_commit-outcome.new.seat)) c.try_commit-outcome.ensures.answer
    c.with_done-worker.ensures.sum c.with_done-worker.ensures.gained c.with_done-worker.ensures.done

pub returns-in-Done-clause-done : goal.returns-in-Done-clause-done
returns-in-Done-clause-done g c =
    let tried = has_tried (asked c.args.proposal.now c.args.zero_gain (length c.args.worker.now.pool)) c.args.worker.now.pool c.try_commit-outcome.new.pool (told_answer c.try_commit-outcome.result)
    (view_of c.args.worker.now.seat) (view_of c.try_commit-outcome.new.seat) c.try_commit-outcome.ensures.answer c.try_commit-outcome.ensures.reads c.try_commit-outcome.ensures.changes c.try_commit-outcome.ensures.stored c.try_commit-outcome.ensures.fell in
    tried.stored ∙ ap (λ (a : Outcome). done_of (told_answer a)) c.in-Done.is

pub returns-in_default : goal.returns-in_default
returns-in_default g c =
    let tried = has_tried (asked c.args.proposal.now c.args.zero_gain (length c.args.worker.now.pool)) c.args.worker.now.pool c.try_commit-outcome.new.pool (told_answer c.try_commit-outcome.result)
    (view_of c.args.worker.now.seat) (view_of c.try_commit-outcome.new.seat) c.try_commit-outcome.ensures.answer c.try_commit-outcome.ensures.reads c.try_commit-outcome.ensures.changes c.try_commit-outcome.ensures.stored c.try_commit-outcome.ensures.fell in
    record {
      at_work = record { table = c.try_commit-outcome.ensures.table; alone = c.try_commit-outcome.ensures.alone };
      worked = has_failed (asked c.args.proposal.now c.args.zero_gain (length c.args.worker.now.pool)) c.args.worker.now
          record { seat = c.try_commit-outcome.new.seat; pool = c.try_commit-outcome.new.pool; report = c.args.worker.now.report }
          c.try_commit-outcome.result c.try_commit-outcome.ensures.known c.try_commit-outcome.ensures.fell tried c.in_default.not-Done refl;
      done = tried.stored ∙ done_none c.try_commit-outcome.result c.in_default.not-Done;
    }
