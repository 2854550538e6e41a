use Rattle.std.proofs.Common.{◌≡◌, ◌<◌, ◌∙◌, sym, ap, subst, length}
use Rattle.std.proofs.lemmas.Result.{IfOk-weaker}
use Rattle.syn_core_laws.specs.Events.{event_node, May, after}
use Rattle.syn_core_laws.specs.Openings.{view_at}
use Rattle.syn_core.specs.Conditions.{IsAllowedAt}
use Rattle.syn_core.proofs.states.State.apply.Goals as goal

pub returns-in-Redefine-clause-ok : goal.returns-in-Redefine-clause-ok
returns-in-Redefine-clause-ok c =
    let seat = c.has_seat.ensures.0 c.if-not-has_seat.false in
    let node : event_node c.args.event.now.kind < length c.args.self.now.rows = subst (λ k. k < length c.args.self.now.rows) c.node.ensures (c.has_node.ensures.0 c.if-not-has_node.false) in
    IfOk-weaker c.step_redefine.result _
    (λ _. IsAllowedAt c.args.self.now c.args.event.now.seat c.args.event.now.kind × (c.step_redefine.new.self ≡ after c.args.self.now c.args.event.now.seat (view_at c.args.self.now c.args.event.now.seat) c.args.event.now.kind))
    (λ u h. (
      (seat.0, seat.1, node, subst (λ k. May c.args.self.now (view_at c.args.self.now c.args.event.now.seat) k) (sym c.in-Redefine.is) h.0),
      h.1 ∙ sym (ap (λ k. after c.args.self.now c.args.event.now.seat (view_at c.args.self.now c.args.event.now.seat) k) c.in-Redefine.is),
    )) c.step_redefine.ensures.ok

pub returns-in-Redefine-clause-refused : goal.returns-in-Redefine-clause-refused
returns-in-Redefine-clause-refused c = λ err allowed. c.step_redefine.ensures.refused err (subst (λ k. May c.args.self.now (view_at c.args.self.now c.args.event.now.seat) k) c.in-Redefine.is allowed.3)
