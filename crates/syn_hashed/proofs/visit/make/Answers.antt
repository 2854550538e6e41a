use Rattle.std.proofs.Common.{ℕ, arith, rules, subst}
use Rattle.syn_rows.specs.Rows.{row_at}
use Rattle.syn_hashed.specs.Hashed.{IsHashed}
use Rattle.syn_hashed.specs.HashedAgain.{IsHashedRow}
use Rattle.syn_hashed.specs.Visiting.{IsMade, visited}
use Rattle.syn_hashed.proofs.HashedAgain.{hashing_more}
use Rattle.syn_hashed.proofs.Visits.{visit_more, none_where}
use Rattle.syn_hashed.proofs.visit.make.Goals as goal

pub returns-in-Some-clause-hashing : goal.returns-in-Some-clause-hashing
returns-in-Some-clause-hashing c =
    let count = c.args.hashed.now.source_count in
    let old = c.args.hashed.now.rows.items in
    let more = c.stand_in.new.hashed.rows.items in
    let literals = c.args.literals.now in
    let none = none_where (visited literals c.args.node) c.is_some.result c.is_some.ensures c.if-is_some.false in
    let made : IsMade count c.args.rows.now c.args.node old more c.in-Some.literal = search rules in
    let row : IsHashedRow (visited literals) more (row_at c.args.rows.now c.args.node) c.in-Some.literal = search rules in
    hashing_more count c.args.rows.now literals old more c.args.node c.in-Some.literal c.requires.hashing
    (visit_more count c.args.rows.now literals old more c.args.node c.in-Some.literal c.requires.hashing.visit c.requires.there none made)
    (omega (arith, c.requires.hashing.visit.all, c.requires.there)) none (subst (λ (k : ℕ). IsHashed k more) c.in_ok-literal.ensures.sources c.stand_in.new.hashed.hashed) made.grown row
