use Rattle.std.proofs.Common.{◌≡◌, ℕ, Bool, IfOk, sym, ap, subst, ◌∙◌}
use Rattle.syn_network.specs.Written as graphs
use Rattle.syn_network.specs.WrittenLuts as luts
use Rattle.syn_words.specs.declared.inputs.LutSizes.{LutSizes}
use Rattle.syn_words.specs.declared.recipes.Recipe.TheVariants as recipes
use Rattle.syn_shell.specs.Networks.{graph_network, mapped_network}
use Rattle.syn_shell.specs.Makes.{IsMappedForArea, IsMappedTo, MakesOfGraph}
use Rattle.syn_shell.proofs.commands.mapped_by.Goals as goal

pub returns-then-area : goal.returns-then-area
returns-then-area g c =
    subst (λ (a : Bool). IfOk c.mapped_for_area.result (λ made. MakesOfGraph (recipes.Map a c.args.sizes.now) (graph_network (graphs.network_of c.args.network.now)) (mapped_network (luts.network_of made)))) (sym c.if-area.true)
    (subst (λ (s : LutSizes). IfOk c.mapped_for_area.result (λ made. IsMappedForArea s (graph_network (graphs.network_of c.args.network.now)) (mapped_network (luts.network_of made)))) c.luts_in-sizes.ensures
    c.mapped_for_area.ensures)

pub returns-in_ok-plain : goal.returns-in_ok-plain
returns-in_ok-plain g c =
    let h = c.in_ok-plain.ensures in
    let most = c.number-number.ensures.number ∙ ap (λ (s : LutSizes). s.most) c.luts_in-sizes.ensures in
    subst (λ (a : Bool). IfOk c.mapped.result (λ made. MakesOfGraph (recipes.Map a c.args.sizes.now) (graph_network (graphs.network_of c.args.network.now)) (mapped_network (luts.network_of made)))) (sym c.if-area.false)
    (subst (λ (k : ℕ). IfOk c.mapped.result (λ made. IsMappedTo k (graph_network (graphs.network_of c.args.network.now)) (mapped_network (luts.network_of made)))) most
    (c.mapped.ensures.plain c.number-number.result (record { luts = record { inputs = h.inputs; count = h.count }; mapping = h.mapping; depth = h.depth })))
