use Rattle.std.proofs.Common.{◌<◌, ◌≤◌, ◌∙◌, length, arith, sym, subst}
use Rattle.std.proofs.lemmas.List.Elements.{All-weaker}
use Rattle.syn_rows.specs.declared.Lit.{Lit}
use Rattle.syn_rows.specs.Rows.{node_of}
use Rattle.syn_netlist.specs.Lists.{sources}
use Rattle.syn_netlist.specs.Views.{frame_in, netlist_in}
use Rattle.syn_build.specs.Naming.{in_order, IsNamed}
use Rattle.syn_build.proofs.Known.{named_sources, numbers_apart}
use Rattle.syn_build.proofs.tables.named_literals.Goals as goal

pub source_literals-requires-clause-once : goal.source_literals-requires-clause-once
source_literals-requires-clause-once c =
    numbers_apart c.args.netlist.now.frame.names (sources (frame_in c.args.netlist.now.frame)) c.args.numbers.now c.requires.words c.args.netlist.now.frame.sources_once

pub name_tables-requires-clause-named : goal.name_tables-requires-clause-named
name_tables-requires-clause-named c =
    subst (IsNamed (in_order (netlist_in c.args.netlist.now) c.args.order.now) c.args.netlist.now.frame.names (sources (frame_in c.args.netlist.now.frame)) c.args.hashed.now.rows.items) (sym c.as_mut_slice.ensures.value)
    (named_sources (in_order (netlist_in c.args.netlist.now) c.args.order.now) c.args.netlist.now.frame.names c.args.numbers.now c.args.hashed.now.source_count c.args.hashed.now.rows.items c.in_ok-literals.literals.items
    c.requires.words c.len-count.ensures.distinct c.requires.below c.args.hashed.now.hashed c.requires.count (c.in_ok-literals.ensures.count ∙ c.len-count.ensures.value)
    (All-weaker (λ (l : Lit). node_of l ≤ length c.args.numbers.now) (λ (l : Lit). node_of l < length c.args.hashed.now.rows.items) (λ l low. omega arith) c.in_ok-literals.literals.items c.in_ok-literals.ensures.there)
    c.in_ok-literals.ensures.own)
