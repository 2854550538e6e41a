use Rattle.std.proofs.Common.{◌≡◌, ℕ, Some, sym, subst}
use Rattle.syn_core_laws.specs.Lists.{look}
use Rattle.syn_core_laws.specs.Events.{MayRest}
use Rattle.syn_core_laws.proofs.Listing.{look_here}
use Rattle.syn_table.specs.declared.Known.{Known}
use Rattle.syn_table.proofs.Storing.{rests_keyed}
use Rattle.syn_table.proofs.Shared.make.Goals as goal

pub make_keyed-requires-clause-rests : goal.make_keyed-requires-clause-rests
make_keyed-requires-clause-rests c =
    let seat = c.args.seat.now in
    subst (λ (k : Known). (key : ℕ) × (look c.args.node k.core.keys ≡ Some key) × MayRest k.core key c.args.row) (sym c.set_key.ensures.known)
    (c.args.key, look_here c.args.node c.args.key _, rests_keyed seat.token.me.0.core c.args.node c.args.key c.args.row c.requires.free seat.active.shown.pinned c.requires.rests)
