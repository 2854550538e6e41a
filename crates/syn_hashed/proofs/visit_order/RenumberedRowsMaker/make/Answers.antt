use Rattle.std.proofs.Common.{sym}
use Rattle.syn_rows.specs.Rows.{row_at}
use Rattle.syn_hashed.specs.Visiting.{visited}
use Rattle.syn_hashed.proofs.Visits.{none_where, row_parts}
use Rattle.syn_hashed.proofs.Renumbered.{renumbered_more}
use Rattle.syn_hashed.proofs.visit_order.RenumberedRowsMaker.make.Goals as goal

pub returns-in_ok-literal-clause-stands : goal.returns-in_ok-literal-clause-stands
returns-in_ok-literal-clause-stands c =
    let rows = c.args.rows.now in
    let literals = c.args.literals.now in
    let node = c.args.node in
    let (a, b, is, fa, fb) = row_parts literals (row_at rows node) c.in-Some.first c.in-Some.second (sym c.in-Some.ensures) in
    renumbered_more c.args.self.now.source_count rows literals c.args.self.now.rows.items c.requires.stands node a b c.in-Some.first c.in-Some.second is fa fb
    (none_where (visited literals node) c.is_some.result c.is_some.ensures c.if-is_some.false) c.requires.there c.push_and.new.rows.items c.in_ok-literal.literal c.in_ok-literal.ensures.rows c.in_ok-literal.ensures.literal
