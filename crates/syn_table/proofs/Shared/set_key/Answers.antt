use Rattle.std.proofs.Common.{rules, ◌≡◌, ap, subst, arith}
use Rattle.syn_table.proofs.Storing.{keys_set_allowed}
use Rattle.syn_table.specs.Events.{IsEvent}
use Rattle.syn_table.specs.Laying.{node_at}
use Rattle.syn_core_laws.specs.declared.EventKind.TheVariants as Kind
use Rattle.syn_table.proofs.Shared.set_key.Goals as goal

pub store-requires : goal.store-requires
store-requires c =
    let seat = c.args.seat.now in (
      search rules,
      omega (arith, ap (λ t. t.words) c.requires.table, seat.words, (seat.active.shown.rows c.args.node _ c.requires.free).0, c.key_word.ensures),
      keys_set_allowed _ _ _ _ c.args.node c.args.key _ c.key_word.ensures seat.active c.requires.free,
    )

pub returns-clause-event : goal.returns-clause-event
returns-clause-event c =
    let here : node_at c.key_word.result ≡ c.args.node = omega (arith, c.key_word.ensures) in
    subst (λ m. IsEvent c.args.seat.now.token.me.0 (Kind.SetKey m c.args.key) c.store.new.seat.me.0.core) here c.store.ensures.2.1
