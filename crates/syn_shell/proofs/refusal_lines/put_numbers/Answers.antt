use Rattle.std.proofs.Common.{ℕ, ◌+◌, List, ◌++◌, codes, decimal, drop, get_or, subst, Ok}
use Rattle.std.specs.List.{flat_map}
use Rattle.std.proofs.lemmas.Result.{err_from_is_err_and}
use Rattle.syn_io.specs.Outside.{Screen}
use Rattle.syn_shell.specs.Outside.{Took, TookPart}
use Rattle.syn_shell.proofs.Putting.{puts_next, puts_first, puts_same, more_next, more_none, spaced_number}
use Rattle.syn_shell.proofs.Taking.{took_nothing}
use Rattle.syn_shell.proofs.refusal_lines.put_numbers.Goals as goal

-- a number behind one blank
abbrev text : ℕ → List ℕ
text number = codes " " ++ decimal number

pub returns-in_err-put_number : goal.returns-in_err-put_number
returns-in_err-put_number g c =
    let now : Screen = g.O.Sink.screen c.loop-number.out in
    let after : Screen = g.O.Sink.screen c.put_number.new.out in
    let p = err_from_is_err_and c.from_residual.result c.from_residual.ensures.1 in
    let i : ℕ = c.loop-number.number-index in
    c.loop-number.invariant c.from_residual.result after
    (puts_same c.from_residual.result _ (flat_map text (drop i c.args.numbers.now)) now after (more_next text c.args.numbers.now i 0 c.loop-number-test.true)
    (puts_first c.from_residual.result p.0 (text (get_or c.args.numbers.now i 0)) (flat_map text (drop (i + 1) c.args.numbers.now)) now after p.1
    (subst (λ (l : List ℕ). TookPart l now after) (spaced_number (get_or c.args.numbers.now i 0)) c.in_err-put_number.ensures)))

pub loop-number-preserved : goal.loop-number-preserved
loop-number-preserved g c = λ r u rest.
    let now : Screen = g.O.Sink.screen c.loop-number.out in
    let after : Screen = g.O.Sink.screen c.put_number.new.out in
    let i : ℕ = c.loop-number.number-index in
    c.loop-number.invariant r u
    (puts_same r _ (flat_map text (drop i c.args.numbers.now)) now u (more_next text c.args.numbers.now i 0 c.loop-number-test.true)
    (puts_next r (text (get_or c.args.numbers.now i 0)) (flat_map text (drop (i + 1) c.args.numbers.now)) now after u
    (subst (λ (l : List ℕ). Took l now after) (spaced_number (get_or c.args.numbers.now i 0)) c.in_ok-put_number.ensures) rest))

pub returns : goal.returns
returns g c =
    let now : Screen = g.O.Sink.screen c.loop-number.out in
    c.loop-number.invariant (Ok tt) now
    (subst (λ (l : List ℕ). Took l now now) (more_none text c.args.numbers.now c.loop-number.number-index c.loop-number-test.false) (took_nothing now))
