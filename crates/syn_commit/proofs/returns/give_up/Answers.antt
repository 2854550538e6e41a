use Rattle.std.proofs.Common.{sym, subst}
use Rattle.syn_decide.specs.Tasks.{task_of}
use Rattle.syn_table.specs.Seating.{nodes_of, view_of}
use Rattle.syn_commit.specs.Giving.{HasGivenUp, IsGiving}
use Rattle.syn_commit.proofs.Booking.{none_booked}
use Rattle.syn_commit.proofs.Joined.{stored_none}
use Rattle.syn_commit.proofs.Handing.{reads_stay, trying_gives}
use Rattle.syn_commit.proofs.Returning.{fell_by_late}
use Rattle.syn_commit.proofs.returns.give_up.Goals as goal

pub give_back-requires-clause-giving : goal.give_back-requires-clause-giving
give_back-requires-clause-giving c =
    let s = c.args.verdict.now.deciding.now in
    subst (λ ps. IsGiving c.args.pool.now ps c.hold.new.holding.gates.items c.hold.new.holding.idle.items (view_of c.args.seat.now)) (sym c.hold.ensures.pins)
    (subst (λ is. IsGiving c.args.pool.now c.args.holding.now.pins.items c.hold.new.holding.gates.items is (view_of c.args.seat.now)) (sym c.hold.ensures.idle)
    (trying_gives (task_of c.args.verdict.now.attempt) (view_of c.args.verdict.now.start.now.value) (view_of c.args.seat.now) c.args.pool.now c.args.holding.now.pins.items s c.hold.new.holding.gates.items c.requires.enters c.requires.trying c.hold.ensures.gates c.hold.ensures.few))

pub returns : goal.returns
returns c = λ answer other.
    let t = task_of c.args.verdict.now.attempt in
    let s = c.args.verdict.now.deciding.now in
    let start = view_of c.args.verdict.now.start.now.value in
    let v = view_of c.args.seat.now in
    let w = view_of c.give_back.new.seat in
    let nodes = nodes_of c.args.verdict.now.shared.now in
    let g = c.give_back.ensures.given in
    let given : HasGivenUp nodes v c.args.pool.now w c.give_back.new.pool = (g.drained, g.gives, g.let_go) in
    let late = fell_by_late t start v w nodes c.args.pool.now c.give_back.new.pool c.args.holding.now.pins.items s c.requires.enters c.requires.trying c.seats_reach_nodes.ensures.shown c.requires.loaded c.requires.ended given in
    record {
      table = c.give_back.ensures.table;
      known = c.give_back.ensures.known;
      alone = c.give_back.ensures.alone;
      reads = reads_stay t start v w nodes c.args.pool.now c.give_back.new.pool s c.requires.trying.reads given;
      booked = none_booked t s answer start c.args.pool.now w c.give_back.new.pool other
          (stored_none nodes start v w c.args.pool.now c.give_back.new.pool s c.requires.trying.makes c.requires.trying.changes given late);
    }
