use Rattle.std.proofs.Common.{rules, ◌≡◌, ap, arith, inl}
use Rattle.syn_table.specs.Laying.{node_at}
use Rattle.syn_table.proofs.Storing.{frees_allowed, freed_event, freed_told, idle_held}
use Rattle.syn_table.proofs.Shared.free.Goals as goal

pub store-requires : goal.store-requires
store-requires c =
    let seat = c.args.seat.now in (
      search rules,
      omega (arith, ap (λ t. t.words) c.requires.table, seat.words, seat.active.within c.args.node (inl (idle_held seat.token.me.0.core _ seat.active.shown c.args.node c.requires.may.0)), c.row_word.ensures),
      frees_allowed _ _ _ _ c.args.node _ _ c.row_word.ensures c.pack.ensures seat.active c.requires.may,
    )

pub returns-clause-known : goal.returns-clause-known
returns-clause-known c =
    let here : node_at c.row_word.result ≡ c.args.node = omega (arith, c.row_word.ensures) in
    freed_told c.row_word.result c.args.seat.now.token.me c.store.new.seat.me c.args.node here c.store.ensures.2

pub returns-clause-event : goal.returns-clause-event
returns-clause-event c =
    let here : node_at c.row_word.result ≡ c.args.node = omega (arith, c.row_word.ensures) in
    freed_event c.row_word.result c.args.seat.now.token.me c.store.new.seat.me c.args.node here c.store.ensures.2
