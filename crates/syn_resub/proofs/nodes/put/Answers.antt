use Rattle.std.proofs.Common.{◌≡◌, rules, sym, ap, ◌∙◌, take}
use Rattle.std.proofs.lemmas.List.{take_all}
use Rattle.syn_cones.specs.Walk.{put_node}
use Rattle.syn_resub.proofs.nodes.put.Goals as goal

pub returns-in_default : goal.returns-in_default
returns-in_default c =
    let nodes = c.args.nodes.now.items in
    let stays : put_node c.args.node nodes ≡ nodes = search rules in
    sym (ap (take 64) stays ∙ take_all 64 nodes c.requires)
