use Rattle.std.proofs.Common.{◌≡◌, ◌<◌, ◌+◌, ◌-◌, ◌/◌, List, length, sym, ap, ap₂, ◌∙◌, subst, arith}
use Rattle.syn_rows.specs.declared.Row.{Row}
use Rattle.syn_decide.specs.declared.decisions.NodeRow.{NodeRow}
use Rattle.syn_decide.specs.Fold.{placed_now}
use Rattle.syn_decide.specs.Tasks.{task_of}
use Rattle.syn_decide.specs.Walk.{nodes_of as nodes_of_rows}
use Rattle.syn_table.specs.Seating.{nodes_of, view_of}
use Rattle.syn_commit_laws.specs.Gains.{IsGain}
use Rattle.syn_commit_laws.specs.Redefining.{row_made}
use Rattle.syn_commit.specs.Making.{HasMade, step_now}
use Rattle.syn_commit.specs.Storing.{node_at}
use Rattle.syn_commit.proofs.Doing.{gains, has_made, needed_few, new_rows_ready}
use Rattle.syn_commit.proofs.Following.{nodes_few}
use Rattle.syn_commit.proofs.Rooting.{root_is_ready}
use Rattle.syn_commit.proofs.done.make_new.Goals as goal

pub step_between-step-requires : goal.step_between-step-requires
step_between-step-requires c =
    let g : IsGain (task_of c.args.verdict.now.attempt) c.args.verdict.now.deciding.now c.requires.done.0 =
    gains (task_of c.args.verdict.now.attempt) (view_of c.args.verdict.now.start.now.value) (view_of c.args.seat.now) c.args.pool.now c.args.holding.now.pins.items c.args.verdict.now.deciding.now c.requires.done.0 c.requires.answered.trying c.requires.done.1 in
    let gap = g.gap in
    omega (arith, gap, c.low-low.ensures, c.high.ensures, c.new_rows.ensures.needed)

pub make_rows-requires-clause-rows : goal.make_rows-requires-clause-rows
make_rows-requires-clause-rows c =
    new_rows_ready (task_of c.args.verdict.now.attempt) (view_of c.args.verdict.now.start.now.value) (view_of c.args.seat.now) c.args.pool.now c.args.holding.now.pins.items c.args.verdict.now.deciding.now c.requires.done.0 c.requires.answered.trying c.requires.done.1
    _ c.new_rows.new.rows.needed c.low-low.result c.requires.answered.in_order c.requires.answered.keyed (c.new_rows.ensures.rows) c.new_rows.ensures.needed c.low-low.ensures

pub make_rows-requires-clause-there : goal.make_rows-requires-clause-there
make_rows-requires-clause-there c =
    let few = needed_few (task_of c.args.verdict.now.attempt) (placed_now (task_of c.args.verdict.now.attempt) c.args.verdict.now.deciding.now) in
    let size = ap length (c.new_rows.ensures.rows) in
    omega (arith, few, size, c.new_rows.ensures.needed)

pub make_rows-requires-clause-pool : goal.make_rows-requires-clause-pool
make_rows-requires-clause-pool c =
    let g : IsGain (task_of c.args.verdict.now.attempt) c.args.verdict.now.deciding.now c.requires.done.0 =
    gains (task_of c.args.verdict.now.attempt) (view_of c.args.verdict.now.start.now.value) (view_of c.args.seat.now) c.args.pool.now c.args.holding.now.pins.items c.args.verdict.now.deciding.now c.requires.done.0 c.requires.answered.trying c.requires.done.1 in
    let room = g.room in
    omega (arith, room, c.requires.answered.size, c.new_rows.ensures.needed)

pub row_made-requires : goal.row_made-requires
row_made-requires c i =
    subst (λ (rs : List NodeRow). node_at rs i < 2147483648) (sym c.as_slice.ensures.value)
    (nodes_few (nodes_of c.args.verdict.now.shared.now) (view_of c.make_rows.new.seat) c.make_rows.new.made.items c.seats_reach_nodes-2.ensures.shown c.seats_reach_nodes-2.ensures.few c.make_rows.ensures.made.known i)

pub returns-clause-row : goal.returns-clause-row
returns-clause-row c = c.row_made.ensures ∙ ap₂ (λ (rs : List NodeRow) (r : Row). row_made (nodes_of_rows rs) r) c.as_slice.ensures.value c.new_rows.ensures.root

-- the step of the keys
even_now : (c : goal.After-row_made) → (c.high.result - c.low-low.result) / (c.new_rows.new.rows.needed + 1) ≡ step_now (task_of c.args.verdict.now.attempt) c.args.verdict.now.deciding.now
even_now c =
    ap (λ k. (k - c.low-low.result) / (c.new_rows.new.rows.needed + 1)) c.high.ensures
    ∙ (ap (λ k. (c.args.verdict.now.deciding.now.high - k) / (c.new_rows.new.rows.needed + 1)) c.low-low.ensures
    ∙ ap (λ k. (c.args.verdict.now.deciding.now.high - c.args.verdict.now.deciding.now.low) / (k + 1)) c.new_rows.ensures.needed)

-- the rows that were made
made_now : (c : goal.After-row_made) → HasMade (nodes_of c.args.verdict.now.shared.now) (task_of c.args.verdict.now.attempt) c.args.verdict.now.deciding.now c.make_rows.new.made.items (view_of c.args.seat.now) (view_of c.make_rows.new.seat)
made_now c =
    let below = c.step_between-step.ensures.below in
    has_made (task_of c.args.verdict.now.attempt) (view_of c.args.verdict.now.start.now.value) (view_of c.args.seat.now) c.args.pool.now c.args.holding.now.pins.items c.args.verdict.now.deciding.now c.requires.done.0 c.requires.answered.trying c.requires.done.1
    (nodes_of c.args.verdict.now.shared.now) _ c.new_rows.new.rows.needed c.low-low.result c.step_between-step.result c.make_rows.new.made.items c.make_rows.new.pool (view_of c.make_rows.new.seat)
    (c.new_rows.ensures.rows) c.new_rows.ensures.needed c.low-low.ensures c.step_between-step.ensures.some
    (c.step_between-step.ensures.even ∙ even_now c) (omega (arith, below, c.high.ensures))
    c.make_rows.ensures.pool c.make_rows.ensures.count c.make_rows.ensures.made c.make_rows.ensures.keeps c.make_rows.ensures.turns

pub returns-clause-made : goal.returns-clause-made
returns-clause-made c = made_now c

pub returns-clause-ready : goal.returns-clause-ready
returns-clause-ready c =
    let m = made_now c in
    root_is_ready (nodes_of c.args.verdict.now.shared.now) (task_of c.args.verdict.now.attempt) (view_of c.args.verdict.now.start.now.value) (view_of c.args.seat.now) (view_of c.make_rows.new.seat) c.args.pool.now c.args.holding.now.pins.items c.args.verdict.now.deciding.now
    c.requires.done.0 m.step c.make_rows.new.made.items c.requires.answered.in_order c.requires.answered.enters c.requires.answered.trying c.requires.answered.keyed c.seats_reach_nodes.ensures.shown c.seats_reach_nodes.ensures.constant c.requires.done.1 m.rows
