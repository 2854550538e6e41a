use Rattle.std.proofs.Common.{◌≡◌, ◌∙◌, ◌<◌, ℕ, ap, get_or, length, rules, List}
use Rattle.syn_core_laws.specs.Views.{released}
use Rattle.syn_table.specs.declared.Known.{Known}
use Rattle.syn_table.specs.Seating.{view_of}
use Rattle.syn_commit.proofs.Trying.{emptied_next}
use Rattle.syn_commit.proofs.spare.Spare.empty.Goals as goal

pub loop-node-preserved : goal.loop-node-preserved
loop-node-preserved c =
    let same : c.as_slice-spare.result.now ≡ c.args.self = search rules in
    let within : c.loop-node.node-index < length c.args.self = search rules in
    let gone : view_of c.release.new.seat ≡ released (view_of c.loop-node.seat) (get_or c.args.self c.loop-node.node-index 0) =
    ap (λ (k : Known). k.core) c.release.ensures.known ∙ ap (λ (ns : List ℕ). released (view_of c.loop-node.seat) (get_or ns c.loop-node.node-index 0)) same in
    let next = emptied_next _ _ (view_of c.release.new.seat) c.args.self c.loop-node.node-index within c.loop-node.invariant.emptied c.loop-node.invariant.pool gone in
    record {
      table = search rules;
      pool = next.1;
      emptied = next.0;
      known = search rules;
    }
