use Rattle.std.proofs.Common.{◌≡◌, ◌+◌, ◌<◌, ℕ, vec_len, IsSome}
use Rattle.std.specs.List.{sum_by}
use Rattle.syn_rows.specs.Walk.{unmarked}
use Rattle.syn_hashed.specs.Visiting.{visited}
use Rattle.syn_hashed.specs.Walking.{IsVisitingWalk}
use Rattle.syn_hashed.proofs.visit.visit_all.Given as goal

abbrev pub invariant-loop-step : goal.invariant-loop-step
invariant-loop-step g l = record {
  sources : g.M.Maker.sources l.maker ≡ g.M.Maker.sources l.initial.maker;
  stands : g.M.Maker.stands l.maker l.rows l.literals;
  front : (m : ℕ) → m < g.M.Maker.sources l.initial.maker + 1 → IsSome (visited l.literals m);
  walk : IsVisitingWalk (g.M.Maker.sources l.initial.maker) l.rows l.observed l.literals l.marks.items l.stack.items;
}

abbrev pub decreases-loop-step : goal.decreases-loop-step
decreases-loop-step g l = sum_by unmarked l.marks.items + vec_len l.stack
