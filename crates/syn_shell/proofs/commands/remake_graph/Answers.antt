use Rattle.std.proofs.Common.{false, refl, sym, subst, ◌∙◌}
use Rattle.syn_network.specs.declared.networks.Network.{Network}
use Rattle.syn_words.specs.declared.recipes.Recipe.TheVariants as recipes
use Rattle.syn_shell.specs.Makes.{IsSweptTo}
use Rattle.syn_shell.proofs.MappedGraphs.{least_by}
use Rattle.syn_shell.proofs.RemadeGraphs.{merged_freely, written}
use Rattle.syn_shell.proofs.Recipes.{made_by}
use Rattle.syn_shell.proofs.commands.remake_graph.Goals as goal

pub returns-in-Strash-clause-made : goal.returns-in-Strash-clause-made
returns-in-Strash-clause-made g c = made_by _ recipes.Strash _ _ c.in-Strash.is c.hashed.ensures

pub returns-in_ok-new-in-Balance-clause-made : goal.returns-in_ok-new-in-Balance-clause-made
returns-in_ok-new-in-Balance-clause-made g c = made_by _ recipes.Balance _ _ c.in-Balance.is (c.remade.ensures.balanced c.in_ok-new-in-Balance.ensures.balanced)

pub returns-in_ok-new-in-BalanceShared-clause-made : goal.returns-in_ok-new-in-BalanceShared-clause-made
returns-in_ok-new-in-BalanceShared-clause-made g c =
    made_by _ recipes.BalanceShared _ _ c.in-BalanceShared.is
    (c.remade-in-BalanceShared.ensures.merged false (merged_freely _ _ c.in_ok-new-in-BalanceShared.ensures.follows))

pub returns-in_ok-new-in-Merge-clause-made : goal.returns-in_ok-new-in-Merge-clause-made
returns-in_ok-new-in-Merge-clause-made g c =
    let h = c.in_ok-new-in-Merge.ensures in
    made_by _ (recipes.Merge c.in-Merge.limits) _ _ c.in-Merge.is
    (c.remade-in-Merge.ensures.merged c.in-Merge.limits.levels (record { follows = h.follows; levels = λ kept. h.levels (c.limits_of.ensures.levels ∙ kept) }))

pub returns-in_ok-new-in-Replace-clause-made : goal.returns-in_ok-new-in-Replace-clause-made
returns-in_ok-new-in-Replace-clause-made g c =
    let h = c.in_ok-new-in-Replace.ensures in
    made_by _ (recipes.Replace c.in-Replace.limits) _ _ c.in-Replace.is
    (c.remade-in-Replace.ensures.merged c.in-Replace.limits.levels (record { follows = h.follows; levels = λ kept. h.levels (c.reach_of.ensures.levels ∙ kept) }))

pub returns-in_ok-made-in-Map-clause-made : goal.returns-in_ok-made-in-Map-clause-made
returns-in_ok-made-in-Map-clause-made g c = made_by _ (recipes.Map c.in-Map.area c.in-Map.luts) _ _ c.in-Map.is c.in_ok-made-in-Map.ensures

pub returns-in_ok-made-in-MapLoosely-clause-made : goal.returns-in_ok-made-in-MapLoosely-clause-made
returns-in_ok-made-in-MapLoosely-clause-made g c = made_by _ (recipes.MapLoosely c.in-MapLoosely.slack c.in-MapLoosely.luts) _ _ c.in-MapLoosely.is c.in_ok-made-in-MapLoosely.ensures

pub returns-in_ok-made-in-ResubstituteLuts-clause-made : goal.returns-in_ok-made-in-ResubstituteLuts-clause-made
returns-in_ok-made-in-ResubstituteLuts-clause-made g c =
    made_by _ (recipes.ResubstituteLuts c.in-ResubstituteLuts.window c.in-ResubstituteLuts.luts) _ _ c.in-ResubstituteLuts.is c.in_ok-made-in-ResubstituteLuts.ensures

pub returns-in_ok-mapped-in-MapByFlow-clause-made : goal.returns-in_ok-mapped-in-MapByFlow-clause-made
returns-in_ok-mapped-in-MapByFlow-clause-made g c =
    let h = c.in_ok-net-in-MapByFlow.ensures in
    made_by _ (recipes.MapByFlow c.in-MapByFlow.inputs) _ _ c.in-MapByFlow.is
    (least_by _ _ _ _ c.number_in.ensures.number (c.in_ok-mapped-in-MapByFlow.ensures.least c.number_in.result (record { luts = record { inputs = h.inputs; count = h.count }; least = h.least; settled = record { depend = h.depend; most = h.most; shown = h.shown } })))

pub returns-in_ok-new-in-Sweep-clause-made : goal.returns-in_ok-new-in-Sweep-clause-made
returns-in_ok-new-in-Sweep-clause-made g c =
    made_by _ recipes.Sweep _ _ c.in-Sweep.is
    (subst (λ (n : Network). IsSweptTo (written c.args.network.now) (written n)) (sym c.put.ensures) (record { graph = refl; sweep = c.in_ok-new-in-Sweep.ensures.swept }))
