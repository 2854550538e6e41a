use Rattle.std.proofs.Common.{rules, ◌≡◌, ap, subst, arith, inl}
use Rattle.syn_table.proofs.Turning.{rows_allowed}
use Rattle.syn_table.specs.Events.{IsEvent}
use Rattle.syn_table.specs.Laying.{node_at}
use Rattle.syn_core_laws.specs.declared.EventKind.TheVariants as Kind
use Rattle.syn_table.proofs.Shared.row_of.Goals as goal

pub load-word-requires : goal.load-word-requires
load-word-requires c =
    let seat = c.args.seat.now in (
      search rules,
      omega (arith, ap (λ t. t.words) c.requires.table, seat.words, seat.active.within c.args.node (inl c.requires.held), c.row_word.ensures),
      rows_allowed _ _ _ _ c.args.node _ c.row_word.ensures seat.active c.requires.held,
    )

pub returns-clause-event : goal.returns-clause-event
returns-clause-event c =
    let here : node_at c.row_word.result ≡ c.args.node = omega (arith, c.row_word.ensures) in
    subst (λ m. IsEvent c.args.seat.now.token.me.0 (Kind.LoadRow m) c.load-word.new.seat.me.0.core) here c.load-word.ensures.2.4
