use Rattle.std.proofs.Common.{Decides}
use Rattle.std.proofs.lemmas.Result.{IfOk-weaker}
use Rattle.syn_core_laws.specs.Events.{MayRedefine}
use Rattle.syn_core.proofs.seat_views.SeatView.may_redefine_from.Goals as goal

pub returns : goal.returns
returns c =
    let turn = c.may_turn.ensures.0 c.if-not-may_turn.false in
    let room = c.in_ok-has_room_after.ensures.0 c.if-not-branch.false in
    IfOk-weaker c.same_value.result _ (λ b. Decides b (MayRedefine c.args.self.now c.args.node c.args.key c.args.row c.args.over.now c.args.old))
    (λ b h. ((λ yes. (c.requires, turn.0, turn.1, turn.2, room, turn.3, h.0 yes)), (λ may. h.1 may.6))) c.same_value.ensures
