use Rattle.std.proofs.Common.{sym, ap, ◌∙◌, subst, get_or}
use Rattle.syn_resub.specs.FanOuts.{IsFirstOver}
use Rattle.syn_resub.proofs.fan_outs.FanOuts.first_over.Goals as goal

pub returns : goal.returns
returns c = subst (IsFirstOver c.args.graph.now.rows c.args.node 0) (sym (c.node_at.ensures ∙ ap (λ l. get_or l c.args.node 0) c.as_slice.ensures.value)) (c.requires.fan_outs.first c.args.node c.requires.node)
