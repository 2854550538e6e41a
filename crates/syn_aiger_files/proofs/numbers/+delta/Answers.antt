use Rattle.std.proofs.Common.{◌<◌, ◌-◌, ◌^◌, arith}
use Rattle.syn_aiger_files.proofs.Reading.{group_alone, group_more, groups_few}
use Rattle.syn_aiger_files.proofs.numbers.+delta.Goals as goal

pub returns-then-first-lt128-clause-few : goal.returns-then-first-lt128-clause-few
returns-then-first-lt128-clause-few t c = group_alone _ _ (omega arith) (omega arith)

pub overflow_mul-result : goal.overflow_mul-result
overflow_mul-result t c =
    let s : c.in-Some-delta.more < 2 ^ 35 = groups_few (c.args.groups - 1) c.in-Some-delta.more c.in-Some-delta.ensures.few (omega arith) in
    omega arith

pub overflow_add-result : goal.overflow_add-result
overflow_add-result t c =
    let s : c.in-Some-delta.more < 2 ^ 35 = groups_few (c.args.groups - 1) c.in-Some-delta.more c.in-Some-delta.ensures.few (omega arith) in
    omega arith

pub returns-clause-few : goal.returns-clause-few
returns-clause-few t c = group_more c.args.groups _ c.in-Some-delta.more (omega arith) (omega arith) c.in-Some-delta.ensures.few

pub returns-then-first-lt128-clause-within : goal.returns-then-first-lt128-clause-within
returns-then-first-lt128-clause-within t c = omega (arith, c.in-Some.ensures.cases.1)

pub returns-clause-within : goal.returns-clause-within
returns-clause-within t c = omega (arith, c.in-Some.ensures.cases.1, c.in-Some-delta.ensures.within)
