use Rattle.std.proofs.Common.{rules}
use Rattle.syn_decide.specs.Tasks.{task_of}
use Rattle.syn_table.specs.Seating.{view_of}
use Rattle.syn_commit.proofs.Loads.{hinting_uncounted}
use Rattle.syn_commit.proofs.suggestions.try_hints.Goals as goal

pub loop-step-preserved : goal.loop-step-preserved
loop-step-preserved c = record {
  known = search rules;
  hints = c.try_place.ensures.hints;
  sole = search rules;
  few = search rules;
  place = search rules;
  rows = c.try_place.ensures.rows;
}

pub returns-in_default-clause-uncounted : goal.returns-in_default-clause-uncounted
returns-in_default-clause-uncounted c =
    let hints = c.try_place.ensures.hints in
    hinting_uncounted (task_of c.args.trial.now.attempt) (view_of c.args.trial.now.start.now.value) (view_of c.try_place.new.seat) c.try_place.new.deciding hints.way.trying.reads hints.stage

pub returns-clause-uncounted : goal.returns-clause-uncounted
returns-clause-uncounted c =
    let hints = c.loop-step.invariant.hints in
    hinting_uncounted (task_of c.args.trial.now.attempt) (view_of c.args.trial.now.start.now.value) (view_of c.loop-step.seat) c.loop-step.deciding hints.way.trying.reads hints.stage
