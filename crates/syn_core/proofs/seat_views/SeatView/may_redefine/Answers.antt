use Rattle.std.proofs.Common.{rules, ◌≡◌, Decides, Some}
use Rattle.std.proofs.lemmas.Result.{IfOk-weaker}
use Rattle.syn_rows.specs.declared.Row.{Row}
use Rattle.syn_core_laws.specs.Events.{MayRedefine}
use Rattle.syn_core_laws.specs.Views.{known_row}
use Rattle.syn_core.proofs.Testing.{decides_redefine}
use Rattle.syn_core.proofs.seat_views.SeatView.may_redefine.Goals as goal

pub returns-in-Some : goal.returns-in-Some
returns-in-Some c =
    let known : known_row c.args.self.now c.args.node ≡ Some c.in-Some.old = search rules in
    IfOk-weaker c.may_redefine_from.result _ (λ b. Decides b ((old : Row) × MayRedefine c.args.self.now c.args.node c.args.key c.args.row c.args.over.now old))
    (λ b h. decides_redefine c.args.self.now c.args.node c.args.key c.args.row c.args.over.now c.in-Some.old b known h) c.may_redefine_from.ensures
