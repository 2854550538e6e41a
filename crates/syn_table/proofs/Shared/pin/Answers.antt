use Rattle.std.proofs.Common.{rules, ◌≡◌, ap, subst, arith, inr}
use Rattle.syn_table.proofs.Turning.{pins_allowed}
use Rattle.syn_table.specs.Events.{IsEvent}
use Rattle.syn_table.specs.Laying.{node_at}
use Rattle.syn_core_laws.specs.declared.EventKind.TheVariants as Kind
use Rattle.syn_table.proofs.Shared.pin.Goals as goal

pub fetch_add-found-requires : goal.fetch_add-found-requires
fetch_add-found-requires c =
    let seat = c.args.seat.now in (
      search rules,
      omega (arith, ap (λ t. t.words) c.requires.table, seat.words, seat.active.within c.args.node (inr c.requires.may), c.count_word.ensures),
      pins_allowed _ _ _ _ c.args.node _ c.count_word.ensures seat.active c.requires.may c.requires.few,
    )

pub returns-clause-event : goal.returns-clause-event
returns-clause-event c =
    let here : node_at c.count_word.result ≡ c.args.node = omega (arith, c.count_word.ensures) in
    subst (λ m. IsEvent c.args.seat.now.token.me.0 (Kind.Pin m) c.fetch_add-found.new.seat.me.0.core) here c.fetch_add-found.ensures.2.1
