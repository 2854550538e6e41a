use Rattle.std.proofs.Common.{◌≡◌, ◌<◌, ◌++◌, ◌∷◌, [], List, true, length, map, rules, ap, ◌∙◌, sym, subst, arith}
use Rattle.syn_netlist.specs.declared.tables.Table.{Table}
use Rattle.syn_netlist.specs.Tables.{table_in, tables_below}
use Rattle.syn_models.specs.Contained.{names_of}
use Rattle.syn_models.specs.Numbered.{inner_at}
use Rattle.syn_models.proofs.ModelTables.{table_there, tables_more, table_below, tables_below_more}
use Rattle.syn_models.proofs.Sums.{by_default}
use Rattle.syn_models.proofs.containment.model_tables.Goals as goal

pub loop-i-preserved : goal.loop-i-preserved
loop-i-preserved c =
    let ms = c.args.file.now.models.now in
    let t : Table = c.in_ok-table.table in
    let items : c.push.new.self.items ≡ c.loop-i.tables.items ++ c.in_ok-table.table ∷ [] = search rules in
    let here : c.loop-i.i < length c.args.inner.now = omega arith in
    let inside : c.loop-i.i < length c.args.file.now.models.now = omega (arith, c.requires.size) in
    let inputs : c.in_ok-table.table.inputs ≡ inner_at c.args.inner.now c.loop-i.i =
    c.in_ok-table.ensures.inputs ∙ c.as_slice.ensures ∙ sym (by_default c.args.inner.now c.loop-i.i c.index-inner-i.result here c.index-inner-i.is) in
    record {
      below =
          subst (λ (ts : List Table). tables_below (length c.args.file.now.models.now) ts ≡ true) (sym items)
          (tables_below_more (length ms) c.loop-i.tables.items t c.loop-i.invariant.below (table_below (length ms) c.args.inner.now c.loop-i.i t c.requires.below inside inputs c.in_ok-table.ensures.output));
      tables =
          ap (map (table_in (names_of c.args.file.now))) items
          ∙ tables_more ms c.loop-i.tables.items t c.loop-i.i inside c.loop-i.invariant.tables
          (table_there ms c.args.inner.now c.loop-i.i t inside c.requires.words inputs c.in_ok-table.ensures.output c.in_ok-table.ensures.rows c.in_ok-table.ensures.on);
    }
