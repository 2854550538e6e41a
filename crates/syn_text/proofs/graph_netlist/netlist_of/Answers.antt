use Rattle.std.proofs.Common.{◌≡◌, ◌∙◌, List, sym, ap₂, subst, Result, IfOk}
use Rattle.std.proofs.lemmas.Result.{IfOk-weaker}
use Rattle.syn_rows.specs.declared.Lit.{Lit}
use Rattle.syn_rows.specs.declared.Row.{Row}
use Rattle.syn_netlist.specs.Lists as lists
use Rattle.syn_netlist.specs.Faults.{IsChecked}
use Rattle.syn_netlist.specs.Order.{Ordered}
use Rattle.syn_netlist.specs.Views.{netlist_in}
use Rattle.syn_netlist.specs.declared.netlists.Netlist.{Netlist}
use Rattle.syn_network.specs.declared.networks.Network.{Network}
use Rattle.syn_network.specs.Written.{network_of}
use Rattle.syn_netlist.specs.Frames.{frame_in}
use Rattle.syn_network.specs.GraphShape.{GraphShape, observed_of, rows_of}
use Rattle.syn_network.specs.Spelling.{NetworkSpells, network}
use Rattle.syn_network.proofs.SpelledNetworks.{network_spells}
use Rattle.syn_text.proofs.Shaped.{shaped_is_checked}
use Rattle.syn_text.proofs.graph_netlist.netlist_of.Goals as goal

-- what the netlist of a graph is
spells : (g : Network) → NetworkSpells (frame_in g.frame) g.body.rows g.body.observed
spells g = network_spells (frame_in g.frame) g.body.rows g.body.observed g.frame.clocks_once g.frame.sources_once g.graph

-- what is known of the network is known of the netlist that is given
made : {E : Type 0} (g : Network) (rows : List Row) (lits : List Lit) (P : lists.Netlist → Type 0) → rows ≡ g.body.rows → lits ≡ g.body.observed → P (network_of g) → (r : Result Netlist E)
    → IfOk r (λ n. netlist_in n ≡ network (frame_in g.frame) rows lits) → IfOk r (λ n. P (netlist_in n))
made g rows lits P e f h r is =
    IfOk-weaker r (λ n. netlist_in n ≡ network (frame_in g.frame) rows lits) (λ n. P (netlist_in n))
    (λ n same. subst P (sym (same ∙ ap₂ (λ (rs : List Row) (ls : List Lit). network (frame_in g.frame) rs ls) e f)) h) is

pub returns-clause-ordered : goal.returns-clause-ordered
returns-clause-ordered c = made c.args.graph.now c.as_slice-rows.result.now c.as_slice.result.now Ordered c.as_slice-rows.ensures c.as_slice.ensures (spells c.args.graph.now).ordered c.netlist_over.result c.netlist_over.ensures.network

pub returns-clause-shape : goal.returns-clause-shape
returns-clause-shape c = made c.args.graph.now c.as_slice-rows.result.now c.as_slice.result.now GraphShape c.as_slice-rows.ensures c.as_slice.ensures (spells c.args.graph.now).shape c.netlist_over.result c.netlist_over.ensures.network

pub returns-clause-rows : goal.returns-clause-rows
returns-clause-rows c = made c.args.graph.now c.as_slice-rows.result.now c.as_slice.result.now (λ m. rows_of m ≡ c.args.graph.now.body.rows) c.as_slice-rows.ensures c.as_slice.ensures (spells c.args.graph.now).same_rows c.netlist_over.result c.netlist_over.ensures.network

pub returns-clause-literals : goal.returns-clause-literals
returns-clause-literals c = made c.args.graph.now c.as_slice-rows.result.now c.as_slice.result.now (λ m. observed_of m ≡ c.args.graph.now.body.observed) c.as_slice-rows.ensures c.as_slice.ensures (spells c.args.graph.now).same_lits c.netlist_over.result c.netlist_over.ensures.network

pub returns-clause-checked : goal.returns-clause-checked
returns-clause-checked c = made c.args.graph.now c.as_slice-rows.result.now c.as_slice.result.now IsChecked c.as_slice-rows.ensures c.as_slice.ensures (shaped_is_checked (network_of c.args.graph.now) (spells c.args.graph.now).shape (spells c.args.graph.now).ordered) c.netlist_over.result c.netlist_over.ensures.network
