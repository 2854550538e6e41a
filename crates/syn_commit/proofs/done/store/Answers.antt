use Rattle.std.proofs.Common.{◌≡◌, length, Some, sym, ap, ◌∙◌, subst, arith, rules, true}
use Rattle.syn_rows.specs.Rows.{AllRefs, is_derived}
use Rattle.syn_core_laws.specs.SameValue.{SameValue}
use Rattle.syn_core_laws.specs.Views.{known_key, known_row}
use Rattle.syn_decide.specs.Tasks.{task_of}
use Rattle.syn_commit_laws.specs.Redefining.{met_leaves}
use Rattle.syn_table.specs.Seating.{nodes_of, view_of}
use Rattle.syn_commit.specs.Counts.{dying_by}
use Rattle.syn_commit.specs.Giving.{HasGivenUp, IsGiving}
use Rattle.syn_commit.specs.Readying.{IsReadyFor}
use Rattle.syn_commit.specs.Verdicts.{HasAnswered}
use Rattle.syn_commit.specs.Storing.{MayReferTo}
use Rattle.syn_commit.proofs.Closing.{booked, old_is, reads_at_end}
use Rattle.syn_commit.proofs.Ending.{fell_by_gain}
use Rattle.syn_commit.proofs.Doing.{ready_now, root_node, some_inner, stored_now}
use Rattle.syn_commit.proofs.Handing.{trying_gives}
use Rattle.syn_commit.proofs.done.store.Goals as goal
use Rattle.syn_commit.proofs.done.store.Goals.{After-as_slice}

pub make_new-row-requires-clause-answered : goal.make_new-row-requires-clause-answered
make_new-row-requires-clause-answered c =
    subst (λ ps. HasAnswered c.args.verdict.now c.args.pool.now c.args.seat.now ps) (sym c.hold.ensures.pins) c.requires.answered

pub make_new-row-requires-clause-giving : goal.make_new-row-requires-clause-giving
make_new-row-requires-clause-giving c =
    subst (λ ps. IsGiving c.args.pool.now ps c.hold.new.holding.gates.items c.hold.new.holding.idle.items (view_of c.args.seat.now)) (sym c.hold.ensures.pins)
    (subst (λ is. IsGiving c.args.pool.now c.args.holding.now.pins.items c.hold.new.holding.gates.items is (view_of c.args.seat.now)) (sym c.hold.ensures.idle)
    (trying_gives (task_of c.args.verdict.now.attempt) (view_of c.args.verdict.now.start.now.value) (view_of c.args.seat.now) c.args.pool.now c.args.holding.now.pins.items c.args.verdict.now.deciding.now c.hold.new.holding.gates.items c.requires.answered.enters c.requires.answered.trying c.hold.ensures.gates c.hold.ensures.few))

pub root_of-root-requires : goal.root_of-root-requires
root_of-root-requires c =
    some_inner (task_of c.args.verdict.now.attempt) (view_of c.args.verdict.now.start.now.value) (view_of c.args.seat.now) c.args.pool.now c.args.holding.now.pins.items c.args.verdict.now.deciding.now c.requires.done.0 c.requires.answered.trying c.requires.done.1

-- the root is the first inner row's node
root_here : (c : After-as_slice) → c.root_of-root.result.node ≡ (task_of c.args.verdict.now.attempt).proposal.root
root_here c =
    root_node (task_of c.args.verdict.now.attempt) (view_of c.args.verdict.now.start.now.value) (view_of c.args.seat.now) c.args.pool.now c.args.holding.now.pins.items c.args.verdict.now.deciding.now c.requires.done.0 c.requires.answered.trying c.requires.done.1
    c.root_of-root.result (c.root_of-root.ensures c.root_of-root.result)

-- it may get its new row
ready : (c : After-as_slice) → IsReadyFor (task_of c.args.verdict.now.attempt) c.args.verdict.now.deciding.now c.make_new-row.new.stores.made.items c.root_of-root.result.row (view_of c.make_new-row.new.seat)
ready c =
    ready_now (task_of c.args.verdict.now.attempt) (view_of c.args.verdict.now.start.now.value) (view_of c.args.seat.now) c.args.pool.now c.args.holding.now.pins.items c.args.verdict.now.deciding.now c.requires.done.0 c.requires.answered.trying c.requires.done.1
    c.root_of-root.result (c.root_of-root.ensures c.root_of-root.result) c.make_new-row.new.stores.made.items (view_of c.make_new-row.new.seat) c.make_new-row.ensures.ready

pub redefine_root-requires-clause-root : goal.redefine_root-requires-clause-root
redefine_root-requires-clause-root c = let r = ready c in subst (λ n. known_row (view_of c.make_new-row.new.seat) n ≡ Some c.root_of-root.result.row) (sym (root_here c)) r.known

pub redefine_root-requires-clause-was : goal.redefine_root-requires-clause-was
redefine_root-requires-clause-was c = let r = ready c in r.was

pub redefine_root-requires-clause-gate : goal.redefine_root-requires-clause-gate
redefine_root-requires-clause-gate c = let r = ready c in subst (λ row. is_derived row ≡ true) (sym c.make_new-row.ensures.row) r.gate

pub redefine_root-requires-clause-may : goal.redefine_root-requires-clause-may
redefine_root-requires-clause-may c =
    let r = ready c in
    let v = view_of c.make_new-row.new.seat in
    let high = c.args.verdict.now.deciding.now.high in (
      high,
      subst (λ n. known_key v n ≡ Some high) (sym (root_here c)) r.key,
      subst (λ row. AllRefs (MayReferTo v high) row) (sym c.make_new-row.ensures.row) r.refers,
    )

pub redefine_root-requires-clause-same : goal.redefine_root-requires-clause-same
redefine_root-requires-clause-same c =
    let r = ready c in
    subst (λ over. SameValue (view_of c.make_new-row.new.seat) over c.root_of-root.result.row c.make_new-row.result) (sym (c.as_slice.ensures.value ∙ c.met_leaves-over.ensures.leaves))
    (subst (λ row. SameValue (view_of c.make_new-row.new.seat) (met_leaves (task_of c.args.verdict.now.attempt) c.args.verdict.now.deciding.now.inner) c.root_of-root.result.row row) (sym c.make_new-row.ensures.row) r.same)

pub redefine_root-requires-clause-few : goal.redefine_root-requires-clause-few
redefine_root-requires-clause-few c = let pins = ap length (c.make_new-row.ensures.pins ∙ c.hold.ensures.pins) in omega (arith, pins, c.requires.answered.few)

pub returns : goal.returns
returns c = λ gain done.
    let t = task_of c.args.verdict.now.attempt in
    let s = c.args.verdict.now.deciding.now in
    let nodes = nodes_of c.args.verdict.now.shared.now in
    let start = view_of c.args.verdict.now.start.now.value in
    let counted = view_of c.args.seat.now in
    let pool = c.args.pool.now in
    let pins = c.args.holding.now.pins.items in
    let trying = c.requires.answered.trying in
    let root = c.root_of-root.result in
    let is = c.root_of-root.ensures root in
    let row = c.make_new-row.result in
    let made = c.make_new-row.new.stores.made.items in
    let kept = c.make_new-row.new.pool in
    let before = view_of c.make_new-row.new.seat in
    let after = view_of c.redefine_root.new.seat in
    let w = view_of c.give_back.new.seat in
    let g = c.give_back.ensures.given in
    let given : HasGivenUp nodes after kept w c.give_back.new.pool = (g.drained, g.gives, g.let_go) in
    let at_root = root_node t start counted pool pins s gain trying done root is in
    let may = ready_now t start counted pool pins s gain trying done root is made before c.make_new-row.ensures.ready in
    let stored = stored_now t start counted pool pins s gain trying done root is nodes made row before after c.requires.answered.in_order c.requires.answered.enters c.seats_reach_nodes.ensures.shown c.requires.answered.loaded
    c.make_new-row.ensures.made c.make_new-row.ensures.ready c.make_new-row.ensures.row c.redefine_root.ensures.turns c.redefine_root.ensures.row in
    let gained = fell_by_gain nodes root.node (dying_by s) counted root.row row (length made) gain after g.drained w kept c.give_back.new.pool stored g.gives g.no_pins g.no_idle g.no_circle g.let_go in
    record {
      table = c.give_back.ensures.table;
      known = search rules;
      alone = c.give_back.ensures.alone;
      reads = reads_at_end t s nodes root.node made row start counted before after w kept c.give_back.new.pool trying.reads c.make_new-row.ensures.made c.redefine_root.ensures.turns given;
      booked = booked nodes root.node t s gain start counted before after w made root.row row (length made) pool kept c.give_back.new.pool trying.makes trying.changes trying.difference at_root
          (old_is s.inner root (some_inner t start counted pool pins s gain trying done) is) c.make_new-row.ensures.row
          (subst (λ r. is_derived r ≡ true) (sym c.make_new-row.ensures.row) may.gate) c.make_new-row.ensures.made c.redefine_root.ensures.turns c.make_new-row.ensures.pool stored given gained;
    }
