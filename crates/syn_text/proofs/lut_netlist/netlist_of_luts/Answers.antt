use Rattle.std.proofs.Common.{◌≡◌, ◌∙◌, ℕ, List, length, true, sym, ap₂, subst, Result, IfOk}
use Rattle.std.proofs.lemmas.Result.{IfOk-weaker}
use Rattle.syn_rows.specs.declared.Lit.{Lit}
use Rattle.syn_netlist.specs.Lists as lists
use Rattle.syn_netlist.specs.Faults.{IsChecked}
use Rattle.syn_netlist.specs.Order.{Ordered}
use Rattle.syn_netlist.specs.Values.{HasFunction}
use Rattle.syn_netlist.specs.Views.{netlist_in}
use Rattle.syn_netlist.specs.declared.netlists.Netlist.{Netlist}
use Rattle.syn_netlist.specs.Frames.{frame_in}
use Rattle.syn_lutnet.specs.LutData.{luts_function, net_depth, net_gates, none_exceeds}
use Rattle.syn_network.specs.LutShape.{LutShape, LutsHaveFunction, luts_of, observed_of, depth_of, gates_of}
use Rattle.syn_network.specs.LutSpelling.{NetworkSpellsLuts, NetworkOfLuts, lut_network}
use Rattle.syn_lutnet.specs.declared.luts.Lut.{Lut}
use Rattle.syn_network.specs.declared.lut_networks.LutNetwork.{LutNetwork}
use Rattle.syn_lutnet.specs.Data.{luts_data}
use Rattle.syn_network.specs.WrittenLuts.{network_of}
use Rattle.syn_lutnet.proofs.LutParts.{eight_exceeded_by_none}
use Rattle.syn_network.proofs.LutMeaning.{lut_network_has_function}
use Rattle.syn_text.proofs.Shaped.{luts_are_checked}
use Rattle.syn_text.proofs.lut_netlist.netlist_of_luts.Goals as goal

-- what the netlist of a LUT net is
spells : NetworkOfLuts → (n : LutNetwork) → NetworkSpellsLuts (frame_in n.frame) (luts_data n.body.luts) n.body.observed
spells law n = law (frame_in n.frame) (luts_data n.body.luts) n.body.observed n.frame.clocks_once n.frame.sources_once n.net

function_is : NetworkOfLuts → LutsHaveFunction → (n : LutNetwork) → HasFunction (network_of n) (luts_function (luts_data n.body.luts) n.body.observed)
function_is law has n = lut_network_has_function law has (frame_in n.frame) (luts_data n.body.luts) n.body.observed n.frame.clocks_once n.frame.sources_once n.net 8 (eight_exceeded_by_none n.body.luts)

-- what is known of the network is known of the netlist that is given
made : {E : Type 0} (net : LutNetwork) (luts : List Lut) (lits : List Lit) (P : lists.Netlist → Type 0) → luts ≡ net.body.luts → lits ≡ net.body.observed → P (network_of net) → (r : Result Netlist E)
    → IfOk r (λ n. netlist_in n ≡ lut_network (frame_in net.frame) (luts_data luts) lits) → IfOk r (λ n. P (netlist_in n))
made net luts lits P e f h r is =
    IfOk-weaker r (λ n. netlist_in n ≡ lut_network (frame_in net.frame) (luts_data luts) lits) (λ n. P (netlist_in n))
    (λ n same. subst P (sym (same ∙ ap₂ (λ (ls : List Lut) (os : List Lit). lut_network (frame_in net.frame) (luts_data ls) os) e f)) h) is

pub returns-clause-ordered : goal.returns-clause-ordered
returns-clause-ordered c = made c.args.net.now c.as_slice.result.now c.as_slice-2.result.now Ordered c.as_slice.ensures c.as_slice-2.ensures (spells c.network_of_luts.ensures c.args.net.now).ordered c.netlist_over.result c.netlist_over.ensures.network

pub returns-clause-shape : goal.returns-clause-shape
returns-clause-shape c = made c.args.net.now c.as_slice.result.now c.as_slice-2.result.now (λ m. (k : ℕ) → none_exceeds k (luts_data c.args.net.now.body.luts) ≡ true → LutShape m k) c.as_slice.ensures c.as_slice-2.ensures (spells c.network_of_luts.ensures c.args.net.now).shape c.netlist_over.result c.netlist_over.ensures.network

pub returns-clause-luts : goal.returns-clause-luts
returns-clause-luts c = made c.args.net.now c.as_slice.result.now c.as_slice-2.result.now (λ m. luts_of m ≡ luts_data c.args.net.now.body.luts) c.as_slice.ensures c.as_slice-2.ensures (spells c.network_of_luts.ensures c.args.net.now).same_luts c.netlist_over.result c.netlist_over.ensures.network

pub returns-clause-literals : goal.returns-clause-literals
returns-clause-literals c = made c.args.net.now c.as_slice.result.now c.as_slice-2.result.now (λ m. observed_of m ≡ c.args.net.now.body.observed) c.as_slice.ensures c.as_slice-2.ensures (spells c.network_of_luts.ensures c.args.net.now).same_lits c.netlist_over.result c.netlist_over.ensures.network

pub returns-clause-depth : goal.returns-clause-depth
returns-clause-depth c = made c.args.net.now c.as_slice.result.now c.as_slice-2.result.now (λ m. depth_of m ≡ net_depth (length (lists.sources (frame_in c.args.net.now.frame))) (luts_data c.args.net.now.body.luts)) c.as_slice.ensures c.as_slice-2.ensures (spells c.network_of_luts.ensures c.args.net.now).depth c.netlist_over.result c.netlist_over.ensures.network

pub returns-clause-gates : goal.returns-clause-gates
returns-clause-gates c = made c.args.net.now c.as_slice.result.now c.as_slice-2.result.now (λ m. gates_of m ≡ net_gates (luts_data c.args.net.now.body.luts)) c.as_slice.ensures c.as_slice-2.ensures (spells c.network_of_luts.ensures c.args.net.now).gates c.netlist_over.result c.netlist_over.ensures.network

pub returns-clause-function : goal.returns-clause-function
returns-clause-function c = made c.args.net.now c.as_slice.result.now c.as_slice-2.result.now (λ m. HasFunction m (luts_function (luts_data c.args.net.now.body.luts) c.args.net.now.body.observed)) c.as_slice.ensures c.as_slice-2.ensures
    (function_is c.network_of_luts.ensures c.luts_have_function.ensures c.args.net.now) c.netlist_over.result c.netlist_over.ensures.network

pub returns-clause-checked : goal.returns-clause-checked
returns-clause-checked c = made c.args.net.now c.as_slice.result.now c.as_slice-2.result.now IsChecked c.as_slice.ensures c.as_slice-2.ensures
    (luts_are_checked (network_of c.args.net.now) 8 ((spells c.network_of_luts.ensures c.args.net.now).shape 8 (eight_exceeded_by_none c.args.net.now.body.luts)) (spells c.network_of_luts.ensures c.args.net.now).ordered) c.netlist_over.result c.netlist_over.ensures.network
