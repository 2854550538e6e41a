use Rattle.syn_proposals.proofs.Borrowed.{borrowed_is}
use Rattle.syn_proposals.proofs.Kept.{kept_not, kept_one}
use Rattle.syn_proposals.proofs.kept_levels.keep.Goals as goal

pub returns-in_ok-push : goal.returns-in_ok-push
returns-in_ok-push c =
    kept_one c.args.graph.now.rows c.args.proposal c.borrow.result c.in_ok-keeps.keeps c.args.kept.now.items c.push.new.self.items
    (borrowed_is c.borrow.result c.args.proposal c.borrow.ensures.root c.borrow.ensures.leaves c.borrow.ensures.plan) c.in_ok-keeps.ensures c.if-keeps.true c.in_ok-push.ensures.items

pub returns-else-keeps : goal.returns-else-keeps
returns-else-keeps c =
    kept_not c.args.graph.now.rows c.args.proposal c.borrow.result c.in_ok-keeps.keeps c.args.kept.now.items
    (borrowed_is c.borrow.result c.args.proposal c.borrow.ensures.root c.borrow.ensures.leaves c.borrow.ensures.plan) c.in_ok-keeps.ensures c.if-keeps.false
