use Rattle.std.proofs.Common.{Decides, get_or}
use Rattle.std.proofs.lemmas.Result.{IfOk-weaker}
use Rattle.syn_rows.specs.declared.Row.{Row}
use Rattle.syn_core_laws.specs.Events.{MayRedefine}
use Rattle.syn_core_laws.specs.Openings.{view_at}
use Rattle.syn_core.proofs.Testing.{decides_redefine_in}
use Rattle.syn_core.proofs.states.State.may_redefine.Goals as goal

pub returns : goal.returns
returns c = IfOk-weaker c.may_redefine.result _
    (λ b. Decides b ((old : Row) × MayRedefine (view_at c.args.self.now c.args.seat) c.args.node (get_or c.args.self.now.keys c.args.node 0) c.args.row c.args.over.now.items old))
    (λ b h. decides_redefine_in _ _ _ _ c.args.node _ _ c.args.row b c.view.ensures c.key.ensures c.as_slice.ensures.value h) c.may_redefine.ensures
