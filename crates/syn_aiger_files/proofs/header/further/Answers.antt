use Rattle.std.proofs.Common.{ℕ, List, option_map, sym, ◌∙◌, Bor}
use Rattle.syn_aiger_files.proofs.FirstLines.{left, some_left, too_many}
use Rattle.syn_aiger_files.proofs.header.further.Goals as goal

pub returns-then-is_some : goal.returns-then-is_some
returns-then-is_some c =
    let now : Bor (List ℕ) → List ℕ = λ t. t.now in
    let r4 = c.in-Some-next_or_zero-3.rest in
    too_many (left (option_map now c.args.text)) (left (option_map now c.in-Some.rest)) (left (option_map now c.in-Some-next_or_zero.rest)) (left (option_map now c.in-Some-next_or_zero-2.rest)) (left (option_map now r4))
    c.in-Some.bad c.in-Some-next_or_zero.constraints c.in-Some-next_or_zero-2.justice c.in-Some-next_or_zero-3.fairness
    c.in-Some.ensures.some c.in-Some-next_or_zero.ensures.some c.in-Some-next_or_zero-2.ensures.some c.in-Some-next_or_zero-3.ensures.some
    (some_left r4 (sym c.is_some.ensures ∙ c.if-is_some.true))
