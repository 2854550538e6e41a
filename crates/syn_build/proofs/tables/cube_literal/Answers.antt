use Rattle.std.proofs.Common.{arith, refl, ◌∙◌}
use Rattle.syn_hashed.proofs.Rising.{extends_itself, extends_through}
use Rattle.syn_build.proofs.Matching.{front_none, front_more, front_short, signs_more}
use Rattle.syn_build.proofs.tables.cube_literal.Goals as goal

pub loop-i-init : goal.loop-i-init
loop-i-init c = record {
  sources = refl;
  grows = extends_itself c.args.hashed.now.rows.items;
  there = omega (arith, c.args.hashed.now.hashed.there);
  few = omega arith;
  front = front_none c.args.hashed.now.source_count c.args.hashed.now.rows.items c.args.hashed.now.hashed c.args.inputs.now c.args.row.now (record { 0 = 1 }) refl;
}

pub returns-then-i-inputs-clause-value : goal.returns-then-i-inputs-clause-value
returns-then-i-inputs-clause-value c =
    front_short c.loop-i.hashed.source_count c.args.hashed.now.rows.items c.args.inputs.now c.args.row.now c.loop-i.i c.loop-i.hashed.rows.items c.loop-i.all (record { 0 = 0 }) c.loop-i.hashed.hashed
    c.loop-i.invariant.front (omega arith) (omega arith) refl

pub loop-i-preserved : goal.loop-i-preserved
loop-i-preserved c = record {
  sources = c.in_ok-all.ensures.sources ∙ c.loop-i.invariant.sources;
  grows = extends_through c.args.hashed.now.rows.items c.loop-i.hashed.rows.items c.and_character.new.hashed.rows.items c.loop-i.invariant.grows c.in_ok-all.ensures.grows;
  there = c.in_ok-all.ensures.there;
  few = omega (arith, c.in_ok-all.ensures.few, signs_more c.args.row.now c.loop-i.i (omega arith));
  front =
      front_more c.args.hashed.now.rows.items c.args.inputs.now c.args.row.now c.loop-i.i c.loop-i.hashed.rows.items c.and_character.new.hashed.rows.items c.loop-i.all c.in_ok-all.all
      c.loop-i.invariant.front c.requires.inputs c.loop-i.invariant.grows (omega arith) (omega arith) c.in_ok-all.ensures.value;
}
