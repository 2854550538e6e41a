use Rattle.std.proofs.Common.{arith}
use Rattle.syn_rows.specs.Joining.{lit_of}
use Rattle.syn_rows.proofs.JoinLaws.{same_lit}
use Rattle.syn_remaking.proofs.Standing.{open_stands}
use Rattle.syn_pairs.proofs.remaking.made.Goals as goal

pub returns-in-None-clause-stands : goal.returns-in-None-clause-stands
returns-in-None-clause-stands c =
    let old = c.args.hashed.now in
    open_stands old.source_count c.args.rows.now old.rows.items c.args.node c.of.result c.requires.hashed old.hashed c.requires.inside c.in-None.ensures.none
    (same_lit c.of.result (lit_of c.args.node) (omega (arith, c.of.ensures)))
