use Rattle.std.proofs.Common.{List, ◌∷◌, [], length, sym, ap, ◌∙◌, subst, arith, length-append}
use lib.ListN.{get_elem?}
use Rattle.std.specs.Mem.Slots.{slots_items}
use Rattle.syn_rows.specs.declared.Row.{Row}
use Rattle.syn_table.specs.Closing.{ReadsBack}
use Rattle.syn_table.proofs.Reading.{reads_more}
use Rattle.syn_table.proofs.closed.read_rows.Goals as goal

pub loop-node-preserved : goal.loop-node-preserved
loop-node-preserved c =
    let i = c.loop-node.invariant in
    let words = slots_items c.args.closed.now.words in
    let items = c.push_reserved.ensures.items in
    record {
      count = omega (arith, ap (λ (rs : List Row). length rs) items, length-append c.loop-node.rows.items (c.row_or_free.result ∷ []), i.count);
      len = omega (arith, c.push_reserved.ensures.len, i.len);
      room = omega (arith, c.push_reserved.ensures.capacity, i.room);
      back = subst (ReadsBack words) (sym items) (reads_more words c.loop-node.rows.items c.row_or_free.result c.loop-node.node c.word-word.result i.count i.back (ap (get_elem? words) (sym c.row_word.ensures) ∙ c.word-word.ensures) c.row_or_free.ensures);
    }
