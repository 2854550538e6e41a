use Rattle.std.proofs.Common.{refl, ◌∙◌}
use Rattle.syn_rows.specs.Joining.{constant}
use Rattle.syn_hashed.proofs.Rising.{extends_itself, extends_through}
use Rattle.syn_pairs.proofs.Conjoining.{begins, goes_on}
use Rattle.syn_pairs.proofs.joining.join_rest.Goals as goal

pub loop-lit-init : goal.loop-lit-init
loop-lit-init c =
    let old = c.args.hashed.now in
    record {
      sources = refl;
      grows = extends_itself old.rows.items;
      few = λ few. few;
      begun = begins old.source_count old.rows.items c.args.lits.now old.hashed;
    }

pub loop-lit-preserved : goal.loop-lit-preserved
loop-lit-preserved c =
    let old = c.args.hashed.now.rows.items in
    let mid = c.loop-lit.hashed.rows.items in
    let new = c.and.new.hashed.rows.items in
    let keeps = c.loop-lit.invariant in
    let made = c.in_ok-all.ensures in
    record {
      sources = made.sources ∙ keeps.sources;
      grows = extends_through old mid new keeps.grows made.grows;
      few = λ few. made.few (keeps.few few);
      begun = goes_on old mid new c.args.lits.now c.loop-lit.all c.in_ok-all.all c.loop-lit.lit-index constant keeps.grows c.requires.there c.loop-lit-test.true keeps.begun made.there made.value;
    }
