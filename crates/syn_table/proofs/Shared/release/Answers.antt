use Rattle.std.proofs.Common.{rules, ◌≡◌, ap, subst, arith, inl}
use Rattle.syn_table.proofs.Turning.{releases_allowed}
use Rattle.syn_table.specs.Events.{IsEvent}
use Rattle.syn_table.specs.Laying.{node_at}
use Rattle.syn_core_laws.specs.declared.EventKind.TheVariants as Kind
use Rattle.syn_table.proofs.Shared.release.Goals as goal

pub store-requires : goal.store-requires
store-requires c =
    let seat = c.args.seat.now in (
      search rules,
      omega (arith, ap (λ t. t.words) c.requires.table, seat.words, seat.active.within c.args.node (inl c.requires.held), c.claim_word.ensures),
      releases_allowed _ _ _ _ c.args.node _ c.claim_word.ensures seat.active c.requires.held c.requires.busy,
    )

pub returns-clause-event : goal.returns-clause-event
returns-clause-event c =
    let here : node_at c.claim_word.result ≡ c.args.node = omega (arith, c.claim_word.ensures) in
    subst (λ m. IsEvent c.args.seat.now.token.me.0 (Kind.Release m) c.store.new.seat.me.0.core) here c.store.ensures.2.1
