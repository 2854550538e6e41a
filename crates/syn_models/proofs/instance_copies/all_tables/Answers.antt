use Rattle.std.proofs.Common.{◌≡◌, ◌+◌, ◌∷◌, List, drop, flat_map, map, subst, arith}
use Rattle.std.specs.List.{AllByRecursion}
use Rattle.std.proofs.lemmas.List.{drop_all}
use Rattle.syn_netlist.specs.Tables.{table_in}
use Rattle.syn_models.specs.declared.met.Part.{Part}
use Rattle.syn_models.specs.Calling.{BelowPart, IsMapped, SpelledPart, tables_by}
use Rattle.syn_models.specs.Walking.{part_in}
use Rattle.syn_models.proofs.Copies.{copied_on, copied_all}
use Rattle.syn_models.proofs.Listing.{left_from}
use Rattle.syn_models.proofs.instance_copies.all_tables.Goals as goal

pub loop-part-preserved : goal.loop-part-preserved
loop-part-preserved c =
    let ps : List Part = drop c.loop-part.part-index c.args.parts.now in
    let rest : List Part = drop (c.loop-part.part-index + 1) c.args.parts.now in
    let next : drop c.loop-part.part-index c.args.parts.now ≡ c.part-item.result ∷ drop (c.loop-part.part-index + 1) c.args.parts.now = left_from c.args.parts.now c.loop-part.part-index c.part-item.result (omega arith) c.part-item.is in
    record {
      mapped = (subst (AllByRecursion (IsMapped c.args.maps.now)) next c.loop-part.invariant.mapped).1;
      each = λ all calls s.
          let h = c.loop-part.invariant.each all calls s in
          let now = subst (AllByRecursion (SpelledPart all calls c.args.maps.now)) next h.0 in (
            now.1,
            copied_on (tables_by calls) (map (table_in all) c.loop-part.tables.items) (map (table_in all) c.push_table.new.tables.items) (flat_map (tables_by calls) (map part_in c.args.parts.now)) c.part-item.result ps rest next (c.in_ok-push_table.ensures.each all calls now.0) h.1,
          );
      below = λ count b.
          let h = c.loop-part.invariant.below count b in
          let now = subst (AllByRecursion (BelowPart count c.args.maps.now)) next h.0 in
          (now.1, c.in_ok-push_table.ensures.below count now.0 h.1);
    }

pub returns-clause-each : goal.returns-clause-each
returns-clause-each c = λ all calls s.
    copied_all (tables_by calls) (map (table_in all) c.loop-part.tables.items) (flat_map (tables_by calls) (map part_in c.args.parts.now)) (drop c.loop-part.part-index c.args.parts.now) (drop_all c.loop-part.part-index c.args.parts.now (omega arith)) (c.loop-part.invariant.each all calls s).1
