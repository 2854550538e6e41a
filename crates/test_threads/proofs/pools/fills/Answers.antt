use Rattle.std.proofs.Common.{List, ℕ, subst}
use Rattle.syn_table.specs.Seating.{view_of}
use Rattle.syn_commit.specs.Pools.{IsFilled}
use Rattle.test_threads.proofs.Filling.{all_let_go, none_behind}
use Rattle.test_threads.proofs.pools.fills.Goals as goal

pub fill-requires-2-clause-none : goal.fill-requires-2-clause-none
fill-requires-2-clause-none c =
    none_behind _ _ _ c.requires.start (subst (λ (q : List ℕ). IsFilled 0 10 (view_of c.args.seat.now) q (view_of c.fill.new.seat) c.fill.new.self) c.new-pool.ensures c.fill.ensures.filled)

pub returns-clause-held : goal.returns-clause-held
returns-clause-held c =
    all_let_go _ _ _ _ _ _ c.requires.start (subst (λ (q : List ℕ). IsFilled 0 10 (view_of c.args.seat.now) q (view_of c.fill.new.seat) c.fill.new.self) c.new-pool.ensures c.fill.ensures.filled)
    c.fill-2.ensures.filled c.empty.ensures.emptied
