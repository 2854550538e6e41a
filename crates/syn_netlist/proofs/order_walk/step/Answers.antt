use Rattle.std.proofs.Common.{rules, ◌≡◌, ◌++◌, ◌<◌, ℕ, List, [], ◌∷◌, length, true, false, Option, slice_index_or, ap, sym, subst, ◌∙◌, arith}
use Rattle.std.proofs.Math.ListN.{set}
use Rattle.std.specs.List.{list_all}
use Rattle.syn_netlist.specs.Numbers.{all_below}
use Rattle.syn_netlist.specs.declared.order_walk.Stage.{Stage}
use Rattle.syn_netlist.specs.declared.order_walk.Stage.TheVariants.{Open, Done}
use Rattle.syn_netlist.specs.declared.tables.Table.{Table}
use Rattle.syn_netlist.specs.Walk.{AreDrivers, IsOrderWalk, Meets, IsNext, inputs_at, stage_at, is_open, is_finished}
use Rattle.syn_netlist.proofs.Walking.{top_is, inputs_below, finish, advance, meet, driver_is, less_weight, open_weight}
use Rattle.syn_netlist.proofs.order_walk.step.Goals as goal

pub inputs_of-inputs-requires : goal.inputs_of-inputs-requires
inputs_of-inputs-requires c = (top_is _ _ _ _ _ _ _ c.requires.walk).0

pub bounds-seen-t : goal.bounds-seen-t
bounds-seen-t c = subst (λ n. c.args.top < n) (sym c.requires.walk.seen_fit) (top_is _ _ _ _ _ _ _ c.requires.walk).0

pub next_unfinished-requires-clause-inputs : goal.next_unfinished-requires-clause-inputs
next_unfinished-requires-clause-inputs c = ap (all_below (length c.args.drivers.now)) c.inputs_of-inputs.ensures ∙ inputs_below (length c.args.drivers.now) c.args.tables.now c.args.top c.requires.below

pub bounds-stages-t : goal.bounds-stages-t
bounds-stages-t c = subst (λ n. c.args.top < n) (sym c.requires.walk.stages_fit) (top_is _ _ _ _ _ _ _ c.requires.walk).0

pub returns-in_ok-push-in-None-clause-walk : goal.returns-in_ok-push-in-None-clause-walk
returns-in_ok-push-in-None-clause-walk c =
    let finished : list_all (is_finished c.args.drivers.now c.args.stages.now) (inputs_at c.args.tables.now c.args.top) ≡ true = ap (list_all (is_finished c.args.drivers.now c.args.stages.now)) (sym c.inputs_of-inputs.ensures) ∙ c.in-None.ensures.none in
    subst (λ (l : List ℕ). IsOrderWalk c.args.tables.now c.args.drivers.now (set c.args.stages.now c.args.top Done) c.args.seen.now c.args.path.now.items l) (sym c.in_ok-push-in-None.ensures.items)
    (finish c.args.tables.now c.args.drivers.now c.args.stages.now c.args.seen.now c.args.path.now.items c.args.order.now.items c.args.top c.requires.walk finished)

pub returns-in_ok-push-in-None-clause-less : goal.returns-in_ok-push-in-None-clause-less
returns-in_ok-push-in-None-clause-less c =
    let top = top_is _ _ _ _ _ _ _ c.requires.walk in
    less_weight c.args.stages.now c.args.top Done (subst (λ n. c.args.top < n) (sym c.requires.walk.stages_fit) top.0) (let h = open_weight (stage_at c.args.stages.now c.args.top) top.1 in omega arith)

-- what the next table is
next_is : (tables : List Table) (drivers : List (Option ℕ)) (stages : List Stage) (inputs : List ℕ) (top at next : ℕ) → AreDrivers tables drivers → inputs ≡ inputs_at tables top → IsNext drivers stages inputs at next
    → IsNext drivers stages (inputs_at tables top) at next × (next < length tables)
next_is tables drivers stages inputs top at next m e n =
    (subst (λ (l : List ℕ). IsNext drivers stages l at next) e n, (driver_is tables drivers (slice_index_or inputs at 0) next m n.driver).0)

pub returns-then-is_open-clause-meets : goal.returns-then-is_open-clause-meets
returns-then-is_open-clause-meets c =
    let next = next_is c.args.tables.now c.args.drivers.now c.args.stages.now c.inputs_of-inputs.result.now c.args.top c.in-Some.at c.in-Some.next c.requires.drivers c.inputs_of-inputs.ensures c.in-Some.ensures.some in
    let opened : is_open (stage_at c.args.stages.now c.in-Some.next) ≡ true = search rules in
    subst (λ (l : List ℕ). Meets c.args.tables.now c.args.drivers.now c.args.stages.now (set c.args.seen.now c.args.top c.in-Some.at) l c.args.order.now.items c.in-Some.next) (sym c.in_ok-push-in-Some.ensures.items)
    (meet c.args.tables.now c.args.drivers.now c.args.stages.now c.args.seen.now c.args.path.now.items c.args.order.now.items c.args.top c.in-Some.at c.in-Some.next c.requires.walk next.0 next.1 opened)

pub returns-in_ok-push-in-Some-2-clause-walk : goal.returns-in_ok-push-in-Some-2-clause-walk
returns-in_ok-push-in-Some-2-clause-walk c =
    let next = next_is c.args.tables.now c.args.drivers.now c.args.stages.now c.inputs_of-inputs.result.now c.args.top c.in-Some.at c.in-Some.next c.requires.drivers c.inputs_of-inputs.ensures c.in-Some.ensures.some in
    let unopened : is_open (stage_at c.args.stages.now c.in-Some.next) ≡ false = search rules in
    subst (λ (l : List ℕ). IsOrderWalk c.args.tables.now c.args.drivers.now (set c.args.stages.now c.in-Some.next Open) (set c.args.seen.now c.args.top c.in-Some.at) l c.args.order.now.items)
    (sym (c.in_ok-push-in-Some-2.ensures.items ∙ ap (λ (l : List ℕ). l ++ c.in-Some.next ∷ []) c.in_ok-push-in-Some.ensures.items))
    (advance c.args.tables.now c.args.drivers.now c.args.stages.now c.args.seen.now c.args.path.now.items c.args.order.now.items c.args.top c.in-Some.at c.in-Some.next c.requires.walk next.0 next.1 unopened)
