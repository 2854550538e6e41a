use Rattle.std.proofs.Common.{◌<◌, sym, ap, ◌∙◌, subst, get_or}
use Rattle.syn_resub.proofs.InGraph.{divisor_low}
use Rattle.syn_resub.proofs.divided.Divided.literal.Goals as goal

pub of-requires : goal.of-requires
of-requires c =
    subst (λ n. n < 2147483648) (sym (c.node_at.ensures ∙ ap (λ l. get_or l c.args.place 0) c.as_slice.ensures.value))
    (divisor_low c.args.graph.now c.args.node c.args.self.now c.args.place c.requires.divided c.requires.place)
