use Rattle.std.proofs.Common.{rules, ◌≡◌, ap, subst, arith, inr, nat_eq}
use Rattle.syn_table.specs.Laying.{node_at}
use Rattle.syn_table.specs.Steps.{UnpinsAt}
use Rattle.syn_table.proofs.Turning.{unpins_allowed}
use Rattle.syn_table.proofs.Shared.unpin.Goals as goal

pub fetch_sub-found-requires : goal.fetch_sub-found-requires
fetch_sub-found-requires c =
    let seat = c.args.seat.now in (
      search rules,
      omega (arith, ap (λ t. t.words) c.requires.table, seat.words, seat.active.within c.args.node (inr (inr c.requires.pinned)), c.count_word.ensures),
      unpins_allowed _ _ _ _ c.args.node _ c.count_word.ensures seat.active c.requires.pinned,
    )

pub returns-clause-event : goal.returns-clause-event
returns-clause-event c =
    let here : node_at c.count_word.result ≡ c.args.node = omega (arith, c.count_word.ensures) in
    let found = c.fetch_sub-found.result in
    let at = subst (λ m. UnpinsAt c.args.seat.now.token.me.0 m found c.fetch_sub-found.new.seat.me.0.core) here c.fetch_sub-found.ensures.2.0 in
    (at.0, ap (λ k. nat_eq k 1) at.1)
