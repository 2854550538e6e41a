use Rattle.std.proofs.Common.{◌-◌, inl, inr, arith}
use Rattle.syn_aiger.proofs.Seeking.{far_is_none, near_is_source, none_is_none, odd_is_none}
use Rattle.syn_aiger.proofs.names.source_of.Goals as goal

pub returns-then-l-eq1-clause-none : goal.returns-then-l-eq1-clause-none
returns-then-l-eq1-clause-none c = odd_is_none c.args.file.now.aig c.args.file.now.sound c.args.l c.if-l-eq1.true

pub returns-then-place-eq0-clause-none : goal.returns-then-place-eq0-clause-none
returns-then-place-eq0-clause-none c = far_is_none c.args.file.now.aig c.args.file.now.sound c.args.l c.in-Some.place c.in-Some.ensures (inl c.if-place-eq0.true)

pub returns-then-place-source_count-clause-none : goal.returns-then-place-source_count-clause-none
returns-then-place-source_count-clause-none c = far_is_none c.args.file.now.aig c.args.file.now.sound c.args.l c.in-Some.place c.in-Some.ensures (inr (omega (arith, c.source_count.ensures)))

pub returns-else-place-source_count-clause-some : goal.returns-else-place-source_count-clause-some
returns-else-place-source_count-clause-some c = (
  omega (arith, c.source_count.ensures),
  near_is_source c.args.file.now.aig c.args.file.now.sound c.args.l c.in-Some.place (c.in-Some.place - 1) c.in-Some.ensures c.if-l-eq1.false (omega arith) (omega (arith, c.source_count.ensures)),
)

pub returns-in-None-clause-none : goal.returns-in-None-clause-none
returns-in-None-clause-none c = none_is_none c.args.file.now.aig c.args.file.now.sound c.args.l c.in-None.ensures
