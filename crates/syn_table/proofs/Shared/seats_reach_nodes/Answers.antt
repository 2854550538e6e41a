use Rattle.std.proofs.Common.{◌≡◌, ℕ, ◌<◌, length, ap, arith, subst}
use Rattle.syn_core_laws.specs.Shown.{IsShown}
use Rattle.syn_table.proofs.Shared.seats_reach_nodes.Goals as goal

pub returns-clause-reach : goal.returns-clause-reach
returns-clause-reach c = λ n h.
    let seat = c.args.seat.now in
    let there : n < length seat.token.me.0.opening = seat.active.within n h in
    omega (arith, ap (λ t. t.words) c.requires, seat.words, c.args.self.now.words)

pub returns-clause-shown : goal.returns-clause-shown
returns-clause-shown c =
    let seat = c.args.seat.now in
    let same : length seat.token.me.0.opening ≡ c.args.self.now.nodes = omega (arith, ap (λ t. t.words) c.requires, seat.words, c.args.self.now.words) in
    subst (λ (n : ℕ). IsShown n seat.token.me.0.core) same seat.active.shown
