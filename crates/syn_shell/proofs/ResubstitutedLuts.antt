-- LUTs that were resubstituted, under the names that they had, are as they are written what that makes of a net of LUTs.
use Rattle.std.proofs.Common.{◌≡◌, ℕ, ◌+◌, ◌≤◌, ◌&&◌, nat_le, Bool, true, List, [], ◌∷◌, map, length, refl, sym, ap, ◌∙◌, subst, arith, IfOk, Option, None, Some, Result, Ok, Err}
use Rattle.std.specs.List.{list_all, AllByRecursion}
use Rattle.std.proofs.lemmas.Bool.{and_parts, and_from}
use Rattle.std.proofs.lemmas.List.{length-map}
use Rattle.std.proofs.lemmas.List.Elements.{recursion_from_All}
use Rattle.std.specs.declared.alloc.AllocError.{AllocError}
use Rattle.syn_rows.specs.declared.Lit.{Lit}
use Rattle.syn_netlist.specs.Frames.{frame_in}
use Rattle.syn_netlist.specs.Lists.{Frame, Netlist, Table, sources}
use Rattle.syn_netlist.specs.Meaning.{SameFromFunction, SameIsTransitive, SameMeaning}
use Rattle.syn_netlist.specs.Words.{distinct}
use Rattle.syn_network.specs.declared.lut_networks.LutNetwork.{LutNetwork}
use Rattle.syn_network.specs.LutShape.{LutShape, LutsHaveFunction, is_lut_table, is_minterm_row, lut_of, lut_tables, luts_of, row_minterm, signal_names}
use Rattle.syn_network.specs.LutSpelling.{NetworkOfLuts, NetworkSpellsLuts, lut_network}
use Rattle.syn_network.specs.Networks.{IsNamed}
use Rattle.syn_network.specs.WrittenLuts as luts
use Rattle.syn_network.proofs.LutMeaning.{has_equal_function, lut_network_has_function}
use Rattle.syn_network.proofs.LutNaming.{named_net}
use Rattle.syn_network.proofs.Naming.{own_stays}
use Rattle.syn_lutnet.specs.LutData.{Lut, luts_function, net_depth, none_exceeds, rising}
use Rattle.syn_lutnet.specs.Data.{lut_data, luts_data}
use Rattle.syn_lutnet.specs.declared.nets.LutNet.{LutNet}
use Rattle.syn_lutnet.proofs.LutParts.{eight_exceeded_by_none}
use Rattle.syn_absorb.specs.Flips.{AllShown, MostShown}
use Rattle.syn_absorb.specs.Needed.{AllDepend}
use Rattle.syn_absorb.specs.Nets.{KeepsFunction}
use Rattle.syn_area.specs.Areas.{cost_of, luts_cost}
use Rattle.syn_area.proofs.Costing.{never_falls}
use Rattle.syn_settled.specs.Settled.{IsSettled}
use Rattle.syn_words.specs.declared.inputs.LutSizes.{LutSizes}
use Rattle.syn_shell.specs.Networks.{Written}
use Rattle.syn_shell.specs.Makes.{IsMappedAndResubstituted, IsMappedForArea, IsResubstituted}
use Rattle.syn_shell.proofs.MappedGraphs.{spelled_luts, written_luts}

-- what LUTs under names are as netlists, and what these mean
pub record NetLaws : Type 0 where
  pub luts : NetworkOfLuts
  pub function : LutsHaveFunction
  pub same : SameFromFunction

-- the names of a net fit another one of its function
pub names_fit_luts : (frame : Frame) (was now : LutNet) → KeepsFunction was now → IsNamed frame was.source_count was.observed → IsNamed frame now.source_count now.observed
names_fit_luts frame was now same n = record {
  sources_are = same.sources ∙ n.sources_are;
  observed_are = same.count ∙ n.observed_are;
  own = own_stays frame was.source_count was.observed now.observed n.sources_are same.count same.stay n.own;
}

-- under them it means the same
means_the_same : NetLaws → (frame : Frame) (was now : LutNet) → distinct frame.clocks ≡ true → distinct (sources frame) ≡ true → IsNamed frame was.source_count was.observed → KeepsFunction was now
    → SameMeaning (lut_network frame (luts_data was.luts) was.observed) (lut_network frame (luts_data now.luts) now.observed)
means_the_same laws frame was now clocks once named same =
    laws.same (lut_network frame (luts_data was.luts) was.observed) n (luts_function (luts_data was.luts) was.observed) refl
    (lut_network_has_function laws.luts laws.function frame (luts_data was.luts) was.observed clocks once (named_net frame was named) 8 (eight_exceeded_by_none was.luts))
    (has_equal_function n (luts_function (luts_data was.luts) was.observed) (luts_function (luts_data now.luts) now.observed) (λ bits long. same.values bits (long ∙ sym named.sources_are))
    (lut_network_has_function laws.luts laws.function frame (luts_data now.luts) now.observed clocks once (named_net frame now (names_fit_luts frame was now same named)) 8 (eight_exceeded_by_none now.luts)))
  where
    n : Netlist
    n = lut_network frame (luts_data now.luts) now.observed

-- the tables of a net of LUTs of at most so many inputs spell LUTs of no more

few_inputs : (k : ℕ) (names : List (List ℕ)) (ts : List Table) → AllByRecursion (λ t. is_lut_table k t ≡ true) ts → none_exceeds k (map (lut_of names) ts) ≡ true
few_inputs k names [] all = refl
few_inputs k names (t ∷ ts) all =
    let n : ℕ = length t.inputs in
    let p = and_parts (nat_le 2 n) (nat_le n k && (distinct t.inputs && (list_all (is_minterm_row n) t.rows && (rising (map row_minterm t.rows) && t.on)))) all.0 in
    let q = and_parts (nat_le n k) (distinct t.inputs && (list_all (is_minterm_row n) t.rows && (rising (map row_minterm t.rows) && t.on))) p.1 in
    let few : nat_le (length (lut_of names t).inputs) k ≡ true = ap (λ (m : ℕ). nat_le m k) (length-map t.inputs _) ∙ q.0 in
    and_from (nat_le (length (lut_of names t).inputs) k) (none_exceeds k (map (lut_of names) ts)) few (few_inputs k names ts all.1)

none_exceed : (m : Netlist) (k : ℕ) → LutShape m k → none_exceeds k (luts_of m) ≡ true
none_exceed m k shape = few_inputs k (signal_names m) (lut_tables m) (recursion_from_All (λ t. is_lut_table k t ≡ true) (lut_tables m) shape.luts)

-- a net in place of another one, under its names
pub record IsPutFor (was made : LutNetwork) (net : LutNet) : Type 0 where
  pub names : frame_in made.frame ≡ frame_in was.frame
  pub body : made.body ≡ net
  pub settled : IsSettled was.body net

pub resubstituted : NetLaws → (was made : LutNetwork) (net : LutNet) → IsPutFor was made net → IsResubstituted (written_luts was) (written_luts made)
resubstituted laws was made net h = record {
  same = subst (λ (f : Frame). SameMeaning (luts.network_of was) (lut_network f (luts_data made.body.luts) made.body.observed)) (sym h.names)
      (means_the_same laws (frame_in was.frame) was.body made.body was.frame.clocks_once was.frame.sources_once was.named is.same);
  ordered = new.ordered;
  mapped = refl;
  inputs = λ k shape. new.shape k (is.inputs k (subst (λ (ls : List Lut). none_exceeds k ls ≡ true) old.same_luts (none_exceed (luts.network_of was) k shape)));
  fewer = omega (arith, new.count, old.count, length-map made.body.luts lut_data, length-map was.body.luts lut_data, is.fewer);
  cost = λ areas. omega (arith, ap (luts_cost areas) new.same_luts, ap (luts_cost areas) old.same_luts, is.cheaper (cost_of areas) (never_falls areas));
  depth = omega (
    arith,
    new.depth,
    old.depth,
    ap (λ (n : ℕ). net_depth n (luts_data made.body.luts)) made.named.sources_are,
    ap (λ (n : ℕ). net_depth n (luts_data was.body.luts)) was.named.sources_are,
    is.depth,
  );
  settled = record {
    depend = subst AllDepend (sym new.same_luts) is.depend;
    most = subst (MostShown (length (sources (frame_in made.frame)) + 1)) (sym new.same_lits) (subst (λ (n : ℕ). MostShown (n + 1) made.body.observed) made.named.sources_are is.most);
    shown = subst (AllShown (length (sources (frame_in made.frame)) + 1)) (sym new.same_lits) (subst (λ (n : ℕ). AllShown (n + 1) made.body.observed) made.named.sources_are is.shown);
  };
}
  where
    old : NetworkSpellsLuts (frame_in was.frame) (luts_data was.body.luts) was.body.observed
    old = spelled_luts laws.luts was

    new : NetworkSpellsLuts (frame_in made.frame) (luts_data made.body.luts) made.body.observed
    new = spelled_luts laws.luts made

    is : IsSettled was.body made.body
    is = subst (IsSettled was.body) (sym h.body) h.settled

-- so is the net that was made, if it was
pub resubstituted_of : NetLaws → (was : LutNetwork) (net : LutNet) (made : Result LutNetwork AllocError) → IfOk made (λ n. frame_in n.frame ≡ frame_in was.frame) → IfOk made (λ n. n.body ≡ net) → IsSettled was.body net
    → IfOk made (λ n. IsResubstituted (written_luts was) (written_luts n))
resubstituted_of laws was net (Ok n) names body settled = resubstituted laws was n net (record { names = names; body = body; settled = settled })
resubstituted_of laws was net (Err error) names body settled = tt

-- of few LUTs of a graph
pub from_graph : SameIsTransitive → (sizes : LutSizes) (old few new : Written) → IsMappedForArea sizes old few → IsResubstituted few new → IsMappedAndResubstituted sizes old new
from_graph transitive sizes old few new are r = record {
  luts = record {
    same = transitive old.netlist few.netlist new.netlist are.luts.same r.same;
    ordered = r.ordered;
    mapped = r.mapped;
    shape = r.inputs sizes.most are.luts.shape;
    fewer = omega (arith, r.fewer, are.luts.fewer);
  };
  few = few;
  for_area = are;
  resubstituted = r;
}
