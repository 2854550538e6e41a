use Rattle.std.proofs.Common.{rules, ◌≡◌, ◌∙◌, Decides}
use Rattle.std.proofs.lemmas.Result.{IfOk-weaker}
use Rattle.syn_core_laws.specs.SameValue.{SameValue}
use Rattle.syn_core.proofs.Telling.{decides_same_in}
use Rattle.syn_core.proofs.seat_views.SeatView.same_value.Goals as goal

pub returns : goal.returns
returns c =
    let same : c.self.inside.rows.items ≡ c.args.self.now.rows = search rules in
    IfOk-weaker c.same_value.result _ (λ b. Decides b (SameValue c.args.self.now c.args.over.now c.args.old c.args.new))
    (λ b h. decides_same_in c.args.self.now c.args.over.now c.args.old c.args.new _ b (c.as_slice.ensures.value ∙ same) h) c.same_value.ensures
