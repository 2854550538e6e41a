use Rattle.std.proofs.Common.{rules, ◌≡◌, ap, subst, arith}
use Rattle.syn_table.proofs.Turning.{keys_allowed, reached}
use Rattle.syn_table.specs.Events.{IsEvent}
use Rattle.syn_table.specs.Laying.{node_at}
use Rattle.syn_core_laws.specs.declared.EventKind.TheVariants as Kind
use Rattle.syn_table.proofs.Shared.key_of.Goals as goal

pub load-requires : goal.load-requires
load-requires c =
    let seat = c.args.seat.now in (
      search rules,
      omega (arith, ap (λ t. t.words) c.requires.table, seat.words, seat.active.within c.args.node (reached seat.token.me.0.core c.args.node c.requires.mine), c.key_word.ensures),
      keys_allowed _ _ _ _ c.args.node _ c.key_word.ensures seat.active c.requires.mine,
    )

pub returns-clause-event : goal.returns-clause-event
returns-clause-event c =
    let here : node_at c.key_word.result ≡ c.args.node = omega (arith, c.key_word.ensures) in
    subst (λ m. IsEvent c.args.seat.now.token.me.0 (Kind.LoadKey m) c.load.new.seat.me.0.core) here c.load.ensures.2.1
