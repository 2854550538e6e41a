use Rattle.std.proofs.Common.{◌∙◌}
use Rattle.syn_hashed.proofs.Rising.{extends_through}
use Rattle.syn_sresub.proofs.Replaced.{found_later}
use Rattle.syn_sresub.proofs.attempts.attempt_all.Goals as goal

pub returns-then-is_some-clause-replaces : goal.returns-then-is_some-clause-replaces
returns-then-is_some-clause-replaces c =
    found_later c.args.hashed.now.rows.items c.loop.hashed.rows.items c.attempt_guess.new.hashed.rows.items c.args.m c.in_ok-found.found c.loop.invariant.grows c.requires.there c.in_ok-found.ensures.replaces

pub loop-preserved : goal.loop-preserved
loop-preserved c = record {
  sources = c.in_ok-found.ensures.sources ∙ c.loop.invariant.sources;
  grows = extends_through c.args.hashed.now.rows.items c.loop.hashed.rows.items c.attempt_guess.new.hashed.rows.items c.loop.invariant.grows c.in_ok-found.ensures.grows;
  few = c.in_ok-found.ensures.few;
  clauses = c.in_ok-found.ensures.clauses;
}
