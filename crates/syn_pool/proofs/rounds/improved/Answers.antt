use Rattle.std.proofs.Common.{ap}
use Rattle.syn_table.specs.declared.Known.{Known}
use Rattle.syn_table.specs.Seating.{view_of}
use Rattle.syn_pool.proofs.Leaving.{follows}
use Rattle.syn_pool.proofs.Works.{is_false, round, round_report}
use Rattle.syn_pool.proofs.rounds.improved.Goals as goal

pub returns-then-swept-eq0-clause-none : goal.returns-then-swept-eq0-clause-none
returns-then-swept-eq0-clause-none g c = record {
  report = c.in_ok-shared.swept.report;
  round = round_report c.args.task.now.zero_gain c.in_ok-table.table c.in_ok-table.seat c.in_ok-shared.swept.seat c.in_ok-shared.swept.report c.args.viewed.now.graph.now c.in_ok-table.ensures.graph (ap (λ (k : Known). k.core.changes) c.in_ok-table.ensures.known) c.in_ok-shared.ensures.swept;
  none = c.if-swept-eq0.true;
}

pub returns-clause-follows : goal.returns-clause-follows
returns-clause-follows g c =
    follows c.args.viewed.now.graph.now c.in_ok-next.next c.in_ok-shared.swept.report.gained (view_of c.in_ok-shared.swept.seat).difference (view_of c.in_ok-table.seat).difference
    c.in_ok-next.ensures c.in_ok-shared.ensures.swept.fell (ap (λ (k : Known). k.core.difference) c.in_ok-table.ensures.known)

pub returns-clause-gain : goal.returns-clause-gain
returns-clause-gain g c strict = c.in_ok-shared.ensures.swept.gains (is_false c.args.task.now.zero_gain strict)

pub returns-clause-round : goal.returns-clause-round
returns-clause-round g c =
    round c.args.task.now.zero_gain c.in_ok-table.table c.in_ok-table.seat c.in_ok-shared.swept.seat c.in_ok-shared.swept.report c.args.viewed.now.graph.now c.in_ok-next.next c.in_ok-table.ensures.graph
    (ap (λ (k : Known). k.core.changes) c.in_ok-table.ensures.known) c.in_ok-shared.ensures.swept c.in_ok-next.ensures
