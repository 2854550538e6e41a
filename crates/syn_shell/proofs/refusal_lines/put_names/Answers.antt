use Rattle.std.proofs.Common.{ℕ, ◌+◌, List, ◌++◌, codes, drop, get_or, ◌∙◌, subst, Ok}
use Rattle.std.specs.List.{flat_map}
use Rattle.std.proofs.lemmas.Result.{err_from_is_err_and}
use Rattle.syn_io.specs.Outside.{Screen}
use Rattle.syn_shell.specs.Outside.{Took, TookPart}
use Rattle.syn_shell.proofs.Putting.{puts_next, puts_first, puts_same, more_next, more_none, spaced}
use Rattle.syn_shell.proofs.Taking.{took_nothing}
use Rattle.syn_shell.proofs.refusal_lines.put_names.Goals as goal

pub returns-in_err-put_all : goal.returns-in_err-put_all
returns-in_err-put_all g c =
    let now : Screen = g.O.Sink.screen c.loop-name.out in
    let after : Screen = g.O.Sink.screen c.put_all.new.out in
    let p = err_from_is_err_and c.from_residual.result c.from_residual.ensures.1 in
    let i : ℕ = c.loop-name.name-index in
    let item : List ℕ = c.name-item.result in
    c.loop-name.invariant c.from_residual.result after
    (puts_same c.from_residual.result _ (flat_map (λ (name : List ℕ). codes " " ++ name) (drop i c.args.names.now)) now after
    (more_next (λ (name : List ℕ). codes " " ++ name) c.args.names.now i item c.loop-name-test.true)
    (puts_first c.from_residual.result p.0 (codes " " ++ get_or c.args.names.now i item) (flat_map (λ (name : List ℕ). codes " " ++ name) (drop (i + 1) c.args.names.now)) now after p.1
    (subst (λ (l : List ℕ). TookPart l now after) (spaced (get_or c.args.names.now i item) c.as_slice.result.now (c.as_slice.ensures ∙ c.name-item.is)) c.in_err-put_all.ensures)))

pub loop-name-preserved : goal.loop-name-preserved
loop-name-preserved g c = λ r u rest.
    let now : Screen = g.O.Sink.screen c.loop-name.out in
    let after : Screen = g.O.Sink.screen c.put_all.new.out in
    let i : ℕ = c.loop-name.name-index in
    let item : List ℕ = c.name-item.result in
    c.loop-name.invariant r u
    (puts_same r _ (flat_map (λ (name : List ℕ). codes " " ++ name) (drop i c.args.names.now)) now u
    (more_next (λ (name : List ℕ). codes " " ++ name) c.args.names.now i item c.loop-name-test.true)
    (puts_next r (codes " " ++ get_or c.args.names.now i item) (flat_map (λ (name : List ℕ). codes " " ++ name) (drop (i + 1) c.args.names.now)) now after u
    (subst (λ (l : List ℕ). Took l now after) (spaced (get_or c.args.names.now i item) c.as_slice.result.now (c.as_slice.ensures ∙ c.name-item.is)) c.in_ok-put_all.ensures) rest))

pub returns : goal.returns
returns g c =
    let now : Screen = g.O.Sink.screen c.loop-name.out in
    c.loop-name.invariant (Ok tt) now
    (subst (λ (l : List ℕ). Took l now now) (more_none (λ (name : List ℕ). codes " " ++ name) c.args.names.now c.loop-name.name-index c.loop-name-test.false) (took_nothing now))
