use Rattle.std.proofs.Common.{ℕ, Bool, IfSome, List, Option, subst}
use Rattle.syn_cec.specs.Compared.{DiffersAt}
use Rattle.syn_cec.proofs.by_search.tested.Goals as goal

pub returns-in-Some : goal.returns-in-Some
returns-in-Some c =
    let first = c.args.first.now in
    let second = c.args.second.now in
    let at : DiffersAt first second c.as_slice.result.now c.in-Some.signal =
    subst (λ (o : Option ℕ). IfSome o (DiffersAt first second c.as_slice.result.now)) c.in-Some.is c.in_ok-signal.ensures.some in
    λ rows l m. (c.in_ok-values.ensures, subst (λ (bits : List Bool). DiffersAt first second bits c.in-Some.signal) c.as_slice.ensures.value at)
