use Rattle.std.proofs.Common.{◌≡◌, ℕ, ◌<◌, All, length, sym, ap, ◌∙◌, subst}
use Rattle.std.proofs.lemmas.Result.{IfOk-weaker}
use Rattle.syn_rows.specs.Rows.{InOrder}
use Rattle.syn_cones.specs.Cones.{IsCut}
use Rattle.syn_cuts.specs.Cuts.{listed_cuts}
use Rattle.syn_cuts.specs.Lists.{list_at}
use Rattle.syn_cuts.proofs.Cutting.{listed_are_cuts}
use Rattle.syn_hashed.proofs.Orders.{hashed_in_order}
use Rattle.syn_cuts.proofs.graphs.listed.Goals as goal

pub listed_rows-requires-clause-order : goal.listed_rows-requires-clause-order
listed_rows-requires-clause-order g c = λ κs le. subst InOrder (sym c.as_slice.ensures) (hashed_in_order _ c.args.graph.now.rows c.args.graph.now.graph.hashed)

pub returns-clause-cuts : goal.returns-clause-cuts
returns-clause-cuts g c =
    let rows = c.args.graph.now.rows in
    let order : InOrder rows = hashed_in_order _ c.args.graph.now.rows c.args.graph.now.graph.hashed in
    IfOk-weaker c.listed_rows.result (λ lists. lists ≡ listed_cuts c.args.k c.as_slice.result.now) (λ lists. (n : ℕ) → n < length rows → All (λ cut. IsCut rows cut n) (list_at lists n))
    (λ lists e n lt. subst (λ l. All (λ cut. IsCut rows cut n) (list_at l n)) (sym (e ∙ ap (listed_cuts c.args.k) c.as_slice.ensures)) (listed_are_cuts c.args.k rows order n lt))
    c.listed_rows.ensures
