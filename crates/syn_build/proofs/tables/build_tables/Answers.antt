use Rattle.std.proofs.Common.{◌≡◌, ◌∙◌, List, map, ap}
use Rattle.syn_rows.specs.declared.Lit.{Lit}
use Rattle.syn_netlist.specs.Order.{defined}
use Rattle.syn_netlist.specs.Views.{netlist_in}
use Rattle.syn_hashed.specs.Hashed.{lit_at}
use Rattle.syn_build.specs.Naming.{in_order}
use Rattle.syn_build.proofs.Known.{observed_function, observed_own, observed_there}
use Rattle.syn_build.proofs.tables.build_tables.Goals as goal

pub returns-clause-within : goal.returns-clause-within
returns-clause-within c =
    let is : c.in_ok-observed.observed.items ≡ map (lit_at c.in_ok-literals.literals.items) c.in_ok-signals.signals.items =
    c.in_ok-observed.ensures ∙ ap (λ (ls : List Lit). map (lit_at ls) c.as_slice-3.result.now) c.as_slice-2.ensures.value ∙ ap (map (lit_at c.in_ok-literals.literals.items)) c.as_slice-3.ensures.value in
    observed_there (in_order (netlist_in c.args.netlist.now) c.args.order.now) c.args.netlist.now.frame.names (defined (in_order (netlist_in c.args.netlist.now) c.args.order.now)) c.in_ok-signals.signals.items c.named_literals.new.hashed.rows.items c.in_ok-literals.literals.items c.in_ok-observed.observed.items
    c.in_ok-literals.ensures.named c.in_ok-signals.ensures.below is

pub returns-clause-own : goal.returns-clause-own
returns-clause-own c =
    let is : c.in_ok-observed.observed.items ≡ map (lit_at c.in_ok-literals.literals.items) c.in_ok-signals.signals.items =
    c.in_ok-observed.ensures ∙ ap (λ (ls : List Lit). map (lit_at ls) c.as_slice-3.result.now) c.as_slice-2.ensures.value ∙ ap (map (lit_at c.in_ok-literals.literals.items)) c.as_slice-3.ensures.value in
    observed_own (in_order (netlist_in c.args.netlist.now) c.args.order.now) c.args.netlist.now.frame.names (defined (in_order (netlist_in c.args.netlist.now) c.args.order.now)) c.in_ok-signals.signals.items c.named_literals.new.hashed.rows.items c.in_ok-literals.literals.items c.in_ok-observed.observed.items
    c.in_ok-literals.ensures.named c.in_ok-signals.ensures.words c.in_ok-signals.ensures.below is

pub returns-clause-function : goal.returns-clause-function
returns-clause-function c =
    let is : c.in_ok-observed.observed.items ≡ map (lit_at c.in_ok-literals.literals.items) c.in_ok-signals.signals.items =
    c.in_ok-observed.ensures ∙ ap (λ (ls : List Lit). map (lit_at ls) c.as_slice-3.result.now) c.as_slice-2.ensures.value ∙ ap (map (lit_at c.in_ok-literals.literals.items)) c.as_slice-3.ensures.value in
    observed_function (netlist_in c.args.netlist.now) c.args.order.now c.args.netlist.now.frame.names c.in_ok-signals.signals.items c.named_literals.new.hashed.rows.items c.in_ok-literals.literals.items c.in_ok-observed.observed.items
    c.ordered_has_one.ensures c.order_keeps_function.ensures c.requires.order c.in_ok-literals.ensures.named c.in_ok-signals.ensures.words c.in_ok-signals.ensures.below is
