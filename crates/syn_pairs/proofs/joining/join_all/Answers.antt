use Rattle.std.proofs.Common.{refl, ◌∙◌}
use Rattle.syn_hashed.proofs.Rising.{extends_itself, extends_through}
use Rattle.syn_pairs.proofs.Conjoining.{same_itself, same_through}
use Rattle.syn_pairs.proofs.joining.join_all.Goals as goal

pub loop-init : goal.loop-init
loop-init c =
    let old = c.args.hashed.now in
    record {
      sources = refl;
      grows = extends_itself old.rows.items;
      few = λ few. few;
      there = c.requires.there;
      same = same_itself old.rows.items c.args.lits.now;
    }

pub loop-preserved : goal.loop-preserved
loop-preserved c =
    let old = c.args.hashed.now.rows.items in
    let mid = c.loop.hashed.rows.items in
    let new = c.join_two.new.hashed.rows.items in
    let keeps = c.loop.invariant in
    let joined = c.in_ok-join_two.ensures in
    record {
      sources = joined.sources ∙ keeps.sources;
      grows = extends_through old mid new keeps.grows joined.grows;
      few = λ few. joined.few (keeps.few few);
      there = joined.there;
      same = same_through old mid new c.args.lits.now c.loop.lits c.join_two.new.lits keeps.same joined.same;
    }
