use Rattle.std.proofs.Common.{◌≡◌, ◌∷◌, [], ◌++◌, length, sym, ap, ◌∙◌, subst, arith}
use Rattle.std.proofs.lemmas.List.{length_push}
use Rattle.syn_rows.specs.Joining.{lit_of}
use Rattle.syn_remaking.specs.Remaking.{AllStand, SourcesStay, Stands}
use Rattle.syn_remaking.proofs.Standing.{all_stand_more, sources_stay_more}
use Rattle.syn_pairs.proofs.remaking.remade.Goals as goal

pub loop-node-preserved : goal.loop-node-preserved
loop-node-preserved c =
    let rows = c.args.rows.now in
    let old = c.loop-node.hashed.rows.items in
    let new = c.made.new.hashed.rows.items in
    let lits = c.loop-node.literals.items in
    let l = c.in_ok-literal.literal in
    let keeps = c.loop-node.invariant in
    let made = c.in_ok-literal.ensures in
    let is : c.push.new.self.items ≡ lits ++ l ∷ [] = c.in_ok-push.ensures.items in
    record {
      all = omega (arith, ap length is, length_push lits l, keeps.all);
      sources = made.sources ∙ keeps.sources;
      few = made.few keeps.few;
      standing = subst (AllStand rows new) (sym is) (all_stand_more rows old new lits l made.grows keeps.standing (subst (λ k. Stands rows new k l) (sym keeps.all) made.stands));
      stay = subst (SourcesStay c.args.hashed.now.source_count) (sym is) (sources_stay_more c.args.hashed.now.source_count lits l keeps.stay
          (λ lt. made.source (omega (arith, lt, keeps.all, keeps.sources)) ∙ ap lit_of (sym keeps.all)));
    }
