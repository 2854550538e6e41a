use Rattle.std.proofs.Common.{subst}
use Rattle.syn_pool.specs.Keys.{HasKeys}
use Rattle.syn_pool.proofs.Numbers.{keys_rise, source_keys}
use Rattle.syn_pool.proofs.rounds.opened_table.numbered.Goals as goal

pub returns-clause-sources : goal.returns-clause-sources
returns-clause-sources c n e = source_keys c.args.graph.now.rows c.in_ok-keys.keys.items (subst (λ rows. HasKeys rows c.in_ok-keys.keys.items) c.as_slice.ensures c.in_ok-keys.ensures) n e

pub returns-clause-rises : goal.returns-clause-rises
returns-clause-rises c = keys_rise _ c.args.graph.now.rows c.in_ok-keys.keys.items c.args.graph.now.graph.hashed (subst (λ rows. HasKeys rows c.in_ok-keys.keys.items) c.as_slice.ensures c.in_ok-keys.ensures)
