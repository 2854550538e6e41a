use Rattle.std.proofs.Common.{◌≡◌, ◌-◌, ◌+◌, ap, ◌∙◌, arith}
use Rattle.std.specs.Prelude.{swap_remove}
use Rattle.syn_absorb.proofs.Narrowing.{Without, without_is}
use Rattle.syn_absorb.proofs.narrow.without.Goals as goal

pub returns : goal.returns
returns c =
    let t = c.args.truth in
    let inputs = c.args.inputs.now in
    let i = c.args.i in
    let left = c.swap_remove.new.self.items in
    let taken = c.swap_remove.result in
    let last : (t.vars - 1) + 1 ≡ t.vars = omega arith in
    let is : Without t c.shorter.result inputs left i =
    without_is t c.swap-swapped.result c.shorter.result inputs left i (t.vars - 1) taken c.requires.vars c.requires.within last (c.swap_remove.ensures.items ∙ ap (λ xs. swap_remove xs i taken) c.copy_inputs-left.ensures)
    c.swap-swapped.ensures.vars c.swap-swapped.ensures.values c.shorter.ensures.vars c.shorter.ensures.values in
    record { inputs = is.inside; fewer = is.fewer; value = is.value }
