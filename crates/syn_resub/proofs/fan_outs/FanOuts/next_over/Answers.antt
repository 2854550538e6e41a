use Rattle.std.proofs.Common.{suc, sym, ap, ◌∙◌, subst, get_or}
use Rattle.syn_resub.specs.FanOuts.{IsFirstOver}
use Rattle.syn_resub.proofs.fan_outs.FanOuts.next_over.Goals as goal

pub returns : goal.returns
returns c =
    subst (IsFirstOver c.args.graph.now.rows c.args.node (suc c.args.and)) (sym (c.node_at.ensures ∙ ap (λ l. get_or l c.args.and 0) c.as_slice.ensures.value)) (c.requires.fan_outs.next c.args.node c.args.and c.requires.and c.requires.over)
