use Rattle.syn_hashed.proofs.Joining.{or_value}
use Rattle.syn_hashed.proofs.construction.HashedRows.or.Goals as goal

pub returns-clause-value : goal.returns-clause-value
returns-clause-value c =
    or_value c.args.self.now.rows.items c.and.new.self.rows.items c.args.a c.args.b c.not.result c.not-2.result c.in_ok-neither.neither c.not-3.result
    c.not.ensures c.not-2.ensures c.not-3.ensures c.in_ok-neither.ensures.value
