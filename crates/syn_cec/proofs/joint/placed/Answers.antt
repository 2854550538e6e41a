use Rattle.std.proofs.Common.{◌≡◌, ◌∷◌, [], ◌++◌, length, sym, ap, ◌∙◌, subst, arith}
use Rattle.std.proofs.lemmas.List.{length_push}
use Rattle.syn_hashed.proofs.Rising.{extends_through}
use Rattle.syn_remaking.specs.Remaking.{AllStand, Stands}
use Rattle.syn_remaking.proofs.Standing.{all_stand_more}
use Rattle.syn_cec.proofs.joint.placed.Goals as goal

pub loop-node-preserved : goal.loop-node-preserved
loop-node-preserved c =
    let rows = c.args.rows.now in
    let first = c.args.hashed.now.rows.items in
    let old = c.loop-node.hashed.rows.items in
    let new = c.made.new.hashed.rows.items in
    let lits = c.loop-node.literals.items in
    let l = c.in_ok-literal.literal in
    let keeps = c.loop-node.invariant in
    let made = c.in_ok-literal.ensures in
    let is : c.push.new.self.items ≡ lits ++ l ∷ [] = c.in_ok-push.ensures.items in
    record {
      all = omega (arith, ap length is, length_push lits l, keeps.all);
      sources = made.sources ∙ keeps.sources;
      few = λ low. made.few (keeps.few low);
      grows = extends_through first old new keeps.grows made.grows;
      standing = subst (AllStand rows new) (sym is) (all_stand_more rows old new lits l made.grows keeps.standing (subst (λ k. Stands rows new k l) (sym keeps.all) made.stands));
    }
