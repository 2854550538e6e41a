use Rattle.std.proofs.Common.{◌≡◌, true, rules}
use Rattle.syn_decide.specs.Tasks.{task_of}
use Rattle.syn_table.specs.Seating.{view_of}
use Rattle.syn_commit.proofs.Keeping.{not_pinned}
use Rattle.syn_commit.proofs.suggestions.try_hint.Goals as goal

pub try_held-requires-clause-unpinned : goal.try_held-requires-clause-unpinned
try_held-requires-clause-unpinned c =
    let may : c.may_try.result ≡ true = search rules in
    not_pinned (task_of c.args.trial.now.attempt) c.args.pins.now.items (view_of c.args.seat.now) c.args.deciding.now c.suggest-node.result c.requires.way.keyed (c.may_try.ensures.leaf may) (c.may_try.ensures.hit may)

pub try_other-requires-clause-unpinned : goal.try_other-requires-clause-unpinned
try_other-requires-clause-unpinned c =
    let may : c.may_try.result ≡ true = search rules in
    not_pinned (task_of c.args.trial.now.attempt) c.args.pins.now.items (view_of c.args.seat.now) c.args.deciding.now c.suggest-node.result c.requires.way.keyed (c.may_try.ensures.leaf may) (c.may_try.ensures.hit may)
