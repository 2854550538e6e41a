use Rattle.std.proofs.Common.{rules, ◌≡◌, ap, subst, length, arith, ◌<◌, nat_eq, if◌then◌else◌}
use Rattle.syn_table.proofs.Turning.{claims_allowed}
use Rattle.syn_table.specs.Events.{IsEvent}
use Rattle.syn_table.specs.Laying.{node_at}
use Rattle.syn_core_laws.specs.declared.EventKind.TheVariants as Kind
use Rattle.syn_table.proofs.Shared.claim.Goals as goal

pub compare_exchange-found-requires : goal.compare_exchange-found-requires
compare_exchange-found-requires c =
    let seat = c.args.seat.now in
    let inside : c.args.node < length seat.token.me.0.opening = omega (arith, ap (λ t. t.words) c.requires.table, seat.words, c.args.self.now.words, c.requires.node) in (
      search rules,
      omega (arith, c.args.self.now.words, c.claim_word.ensures, c.requires.node),
      claims_allowed _ _ _ _ c.args.node _ _ c.claim_word.ensures seat.active c.mark-mark.ensures inside c.requires.free,
    )

pub returns-clause-event : goal.returns-clause-event
returns-clause-event c =
    let here : node_at c.claim_word.result ≡ c.args.node = omega (arith, c.claim_word.ensures) in
    let found = c.compare_exchange-found.result in
    subst (λ m. IsEvent c.args.seat.now.token.me.0 (if nat_eq found 0 then Kind.Claim m else Kind.ClaimFailed m) c.compare_exchange-found.new.seat.me.0.core) here c.compare_exchange-found.ensures.2.2
