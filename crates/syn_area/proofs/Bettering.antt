-- Nets that are no worse than others.
use Rattle.std.proofs.Common.{◌≡◌, ℕ, ◌≤◌, List, sym, ap, subst, inl, inr, arith}
use Rattle.std.specs.Prelude.{Result, Ok, Err, IfOk}
use Rattle.syn_graph.specs.declared.Graph.{Graph}
use Rattle.syn_lutnet.specs.LutData.{net_depth}
use Rattle.syn_lutnet.specs.declared.nets.LutNet.{LutNet}
use Rattle.syn_lutnet.specs.Data.{luts_data}
use Rattle.syn_lutnet.specs.Nets.{HasFunctionOf}
use Rattle.syn_area.specs.Plain.{AreLutsOf, IsEither, IsNoDearer, IsNoWorse}
use Rattle.syn_area.proofs.Counting.{fewer_alike}

pub if_both : {T E : Type 0} (r : Result T E) (P Q : T → Type 0) → IfOk r P → IfOk r Q → IfOk r (λ x. P x × Q x)
if_both (Ok x) P Q p q = (p, q)
if_both (Err e) P Q p q = tt

-- no worse than what is no worse than a third
pub no_worse_again : (k : ℕ) (areas : List ℕ) (first second third : LutNet) → IsNoWorse k areas third second → IsNoWorse k areas second first → IsNoWorse k areas third first
no_worse_again k areas first second third later earlier = record {
  cost = omega (arith, later.cost, earlier.cost);
  fewer = λ alike. omega (arith, later.fewer alike, earlier.fewer alike);
  depth = omega (arith, later.depth, earlier.depth);
}

-- by the sources of the graph
pub no_deeper : (graph : Graph) (net plain : LutNet) → HasFunctionOf graph net → HasFunctionOf graph plain → net_depth net.source_count (luts_data net.luts) ≤ net_depth plain.source_count (luts_data plain.luts)
    → net_depth graph.source_count (luts_data net.luts) ≤ net_depth graph.source_count (luts_data plain.luts)
no_deeper graph net plain own other depth =
    subst (λ n. net_depth n (luts_data net.luts) ≤ net_depth graph.source_count (luts_data plain.luts)) own.sources
    (subst (λ n. net_depth net.source_count (luts_data net.luts) ≤ net_depth n (luts_data plain.luts)) other.sources depth)

-- what holds of both holds of either
pub either_luts : (k most : ℕ) (graph : Graph) (net plain kept : LutNet) → AreLutsOf k graph net → AreLutsOf k graph plain → IsEither most net plain kept → AreLutsOf k graph kept
either_luts k most graph net plain kept own other (inl e) = subst (AreLutsOf k graph) (sym e) other
either_luts k most graph net plain kept own other (inr p) = subst (AreLutsOf k graph) (sym p.0) own

abbrev deep : LutNet → ℕ
deep net = net_depth net.source_count (luts_data net.luts)

either_deep : (most : ℕ) (net plain kept : LutNet) → most ≡ deep plain → IsEither most net plain kept → deep kept ≤ deep plain
either_deep most net plain kept is (inl e) = omega (arith, ap deep e)
either_deep most net plain kept is (inr p) = omega (arith, ap deep p.0, p.1, is)

-- the cheaper of two nets, where it lies at most as deep as the second
pub either_no_worse : (k most : ℕ) (areas : List ℕ) (graph : Graph) (net plain kept : LutNet) → AreLutsOf k graph net → AreLutsOf k graph plain → most ≡ net_depth plain.source_count (luts_data plain.luts)
    → IsEither most net plain kept → IsNoDearer areas kept plain → IsNoWorse k areas kept plain
either_no_worse k most areas graph net plain kept own other is either no_dearer = record {
  cost = no_dearer.cost;
  fewer = λ alike. fewer_alike k areas kept plain alike (either_luts k most graph net plain kept own other either).inputs other.inputs no_dearer;
  depth = either_deep most net plain kept is either;
}
