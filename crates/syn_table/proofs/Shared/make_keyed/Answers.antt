use Rattle.std.proofs.Common.{rules, ◌≡◌, ap, arith, inr}
use Rattle.syn_table.specs.Laying.{node_at}
use Rattle.syn_table.proofs.Storing.{makes_allowed, made_event, made_told, rests_pack}
use Rattle.syn_table.proofs.Shared.make_keyed.Goals as goal

pub pack-requires : goal.pack-requires
pack-requires c =
    let seat = c.args.seat.now in
    rests_pack seat.token.me.0.core c.args.self.now.nodes c.args.row
    (λ m mine. omega (arith, ap (λ t. t.words) c.requires.table, seat.words, c.args.self.now.words, seat.active.within m (inr (inr mine)))) c.args.self.now.few c.requires.rests.2.0

pub store-requires : goal.store-requires
store-requires c =
    let seat = c.args.seat.now in (
      search rules,
      omega (arith, ap (λ t. t.words) c.requires.table, seat.words, (seat.active.shown.rows c.args.node _ c.requires.free).0, c.row_word.ensures),
      makes_allowed _ _ _ _ c.args.node c.requires.rests.0 _ _ c.args.row c.row_word.ensures c.pack.ensures seat.active c.requires.free c.requires.row c.requires.rests.1 c.requires.rests.2 (rests_pack seat.token.me.0.core c.args.self.now.nodes c.args.row
          (λ m mine. omega (arith, ap (λ t. t.words) c.requires.table, seat.words, c.args.self.now.words, seat.active.within m (inr (inr mine)))) c.args.self.now.few c.requires.rests.2.0),
    )

pub returns-clause-known : goal.returns-clause-known
returns-clause-known c =
    let seat = c.args.seat.now in
    let here : node_at c.row_word.result ≡ c.args.node = omega (arith, c.row_word.ensures) in
    made_told c.row_word.result seat.token.me c.store.new.seat.me c.args.node c.pack.result c.args.row here (rests_pack seat.token.me.0.core c.args.self.now.nodes c.args.row
    (λ m mine. omega (arith, ap (λ t. t.words) c.requires.table, seat.words, c.args.self.now.words, seat.active.within m (inr (inr mine)))) c.args.self.now.few c.requires.rests.2.0) c.pack.ensures c.store.ensures.2

pub returns-clause-event : goal.returns-clause-event
returns-clause-event c =
    let seat = c.args.seat.now in
    let here : node_at c.row_word.result ≡ c.args.node = omega (arith, c.row_word.ensures) in
    made_event c.row_word.result seat.token.me c.store.new.seat.me c.args.node c.pack.result c.args.row here (rests_pack seat.token.me.0.core c.args.self.now.nodes c.args.row
    (λ m mine. omega (arith, ap (λ t. t.words) c.requires.table, seat.words, c.args.self.now.words, seat.active.within m (inr (inr mine)))) c.args.self.now.few c.requires.rests.2.0) c.pack.ensures c.store.ensures.2
