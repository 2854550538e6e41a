use Rattle.std.proofs.Common.{◌≡◌, length, ap₂, arith}
use Rattle.syn_rows.specs.Rows.{node_of}
use Rattle.syn_cones.specs.Walk.{put_node}
use Rattle.syn_growing.specs.Growing.{without_node}
use Rattle.syn_growing.proofs.Sorted.{put_longer}
use Rattle.syn_growing.proofs.leaves.replaced.Goals as goal

pub put_node-requires : goal.put_node-requires
put_node-requires c =
    let first = put_node (node_of c.args.a) (without_node c.args.leaf c.args.leaves.now) in
    let same : length (put_node c.node.result c.without-after.result.items) ≡ length first = ap₂ (λ n ns. length (put_node n ns)) c.node.ensures c.without-after.ensures in
    omega (arith, same, put_longer (node_of c.args.b) first, c.requires.few)
