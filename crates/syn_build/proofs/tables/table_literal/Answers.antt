use Rattle.std.proofs.Common.{arith, refl, ap, ◌∙◌, ◌≡◌, [], get_or}
use Rattle.std.proofs.lemmas.List.{get_or_read}
use Rattle.std.proofs.lemmas.List.Sums.{sum_by-drop_more}
use Rattle.syn_netlist.specs.Costs.{row_cost}
use Rattle.syn_hashed.proofs.Rising.{extends_itself, extends_through}
use Rattle.syn_placing.proofs.Placed.{there_kept}
use Rattle.syn_build.proofs.Matching.{some_none, some_more, some_all}
use Rattle.syn_build.proofs.tables.table_literal.Goals as goal

pub loop-row-init : goal.loop-row-init
loop-row-init c = record {
  sources = refl;
  grows = extends_itself c.args.hashed.now.rows.items;
  inputs = c.requires.inputs;
  there = omega (arith, c.args.hashed.now.hashed.there);
  few = omega arith;
  some = some_none c.args.hashed.now.source_count c.args.hashed.now.rows.items c.args.hashed.now.hashed c.args.inputs.now c.args.rows.now;
}

pub loop-row-preserved : goal.loop-row-preserved
loop-row-preserved c =
    let row_is : c.as_slice.result.now ≡ get_or c.args.rows.now c.loop-row.row-index [] = c.as_slice.ensures ∙ get_or_read c.args.rows.now c.loop-row.row-index c.row-item.result (omega arith) c.row-item.is [] in
    record {
      sources = c.in_ok-any.ensures.sources ∙ c.loop-row.invariant.sources;
      grows = extends_through c.args.hashed.now.rows.items c.loop-row.hashed.rows.items c.or_row.new.hashed.rows.items c.loop-row.invariant.grows c.in_ok-any.ensures.grows;
      inputs = there_kept c.loop-row.hashed.rows.items c.or_row.new.hashed.rows.items c.args.inputs.now c.in_ok-any.ensures.grows c.loop-row.invariant.inputs;
      there = c.in_ok-any.ensures.there;
      few = omega (arith, c.in_ok-any.ensures.few, ap row_cost row_is, sum_by-drop_more row_cost c.args.rows.now c.loop-row.row-index [] (omega arith));
      some =
          some_more c.args.hashed.now.rows.items c.args.inputs.now c.args.rows.now c.loop-row.row-index c.loop-row.hashed.rows.items c.or_row.new.hashed.rows.items c.loop-row.any c.in_ok-any.any c.as_slice.result.now
          c.loop-row.invariant.some c.requires.inputs c.loop-row.invariant.grows (omega arith) row_is c.in_ok-any.ensures.value;
    }

pub returns-clause-value : goal.returns-clause-value
returns-clause-value c =
    some_all c.args.hashed.now.rows.items c.args.inputs.now c.args.rows.now c.loop-row.row-index c.loop-row.hashed.rows.items c.loop-row.any c.loop-row.invariant.some (omega arith)
    c.args.on c.signed.result c.signed.ensures.value
