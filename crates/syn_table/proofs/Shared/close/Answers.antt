use Rattle.std.proofs.Common.{◌≡◌, ◌+◌, ◌*◌, List, length, sym, ◌∙◌, subst, arith}
use Rattle.std.specs.Mem.Slots.{slots_items, slots_counts}
use Rattle.syn_rows.specs.declared.Row.{Row}
use Rattle.syn_rows.specs.declared.Lit.{Lit}
use Rattle.syn_core_laws.proofs.Within.{rows_pack}
use Rattle.syn_core_laws.proofs.Valuing.{some_valuation}
use Rattle.syn_table.specs.Closing.{IsClosing}
use Rattle.syn_table.specs.Openings.{opened_rows, opened_literals}
use Rattle.syn_table.proofs.CloseLaws.{closed_core, closing_is}
use Rattle.syn_table.proofs.Shared.close.Goals as goal

pub read_rows-requires-clause-size : goal.read_rows-requires-clause-size
read_rows-requires-clause-size c = c.close_with-closed.ensures.counts.0 ∙ c.args.self.words

pub returns-clause-last : goal.returns-clause-last
returns-clause-last c =
    let words = c.close_with-closed.result.words in
    let size : length (slots_items words) ≡ 1 + 4 * c.args.self.nodes = omega (arith, (slots_counts words).0, c.close_with-closed.ensures.counts.0, c.args.self.words) in
    let end = closed_core c.args.self.table.shared.key (slots_items words) _ c.args.seat.token.id c.args.seat.token.me.0 c.read_rows.new.rows.items c.args.self.nodes rows_pack c.close_with-closed.ensures.values.2 size c.read_rows.ensures.count c.read_rows.ensures.rows in
    (slots_items words, end.0, end.1, end.2, end.3, end.4, c.into_vec.ensures ∙ (c.args.self.literals ∙ sym end.2.observed))

pub returns-clause-closing : goal.returns-clause-closing
returns-clause-closing c =
    let key = c.args.self.table.shared.key in
    let last = returns-clause-last c in
    let difference = c.args.seat.token.me.0.core.difference in
    let closing = closing_is key last.0 last.1 last.2 c.args.seat.token.id c.args.seat.token.me.0 some_valuation last.3 last.4 c.requires.numbers in
    subst (λ (rows : List Row). IsClosing (opened_rows key) (opened_literals key) difference rows c.into_vec.result.items) (sym last.5)
    (subst (λ (literals : List Lit). IsClosing (opened_rows key) (opened_literals key) difference last.2.rows literals) (sym last.6) closing)
