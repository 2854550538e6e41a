use Rattle.std.proofs.Common.{arith}
use Rattle.syn_area.proofs.Visiting.{listed_at}
use Rattle.syn_area.proofs.rounds.push_union_at.Goals as goal

pub returns : goal.returns
returns c = λ rows node joins left right old.
    c.push_union.ensures rows node joins
    (listed_at rows c.args.left.now _ c.index-left-i.result left (omega arith) c.index-left-i.is)
    (listed_at rows c.args.right.now _ c.index-right-j.result right (omega arith) c.index-right-j.is)
    old
