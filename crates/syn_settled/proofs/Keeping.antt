-- What holds of a net holds of it when it is settled.
use Rattle.std.proofs.Common.{◌≡◌, ℕ, suc, ◌+◌, ◌<◌, ◌≤◌, List, [], ◌∷◌, length, refl, sym, ap, ◌∙◌, subst, arith}
use Rattle.std.proofs.lemmas.List.{length-map}
use Rattle.std.proofs.lemmas.List.Sums.{sum_by-cons}
use Rattle.syn_graph.specs.declared.Graph.{Graph}
use Rattle.syn_lutnet.specs.LutData.{Lut, lut_at, net_depth}
use Rattle.syn_lutnet.specs.declared.nets.LutNet.{LutNet}
use Rattle.syn_lutnet.specs.Data.{lut_data, luts_data}
use Rattle.syn_lutnet.specs.Nets.{HasFunctionOf}
use Rattle.syn_absorb.specs.Costs.{cost_by}
use Rattle.syn_absorb.specs.Flips.{AllShown, MostShown}
use Rattle.syn_absorb.specs.Nets.{IsAbsorbed, IsTrimmed, KeepsFunction}
use Rattle.syn_area.specs.Plain.{AreLutsOf}
use Rattle.syn_settled.specs.Fewest.{AreWrittenLutsOf}
use Rattle.syn_settled.specs.Settled.{IsSettled}

keeps_both : (a b c : LutNet) → KeepsFunction a b → KeepsFunction b c → KeepsFunction a c
keeps_both a b c first second = record {
  sources = second.sources ∙ first.sources;
  count = second.count ∙ first.count;
  stay = λ i l lt low e. second.stay i l (omega (arith, lt, first.count)) (omega (arith, low, first.sources)) (first.stay i l lt low e);
  values = λ bits long. second.values bits (long ∙ sym first.sources) ∙ first.values bits long;
}

-- LUTs of the same inputs, one by one, cost the same
same_cost : (cost : ℕ → ℕ) (old new : List Lut) → length new ≡ length old → ((j : ℕ) → j < length old → (lut_at new j).inputs ≡ (lut_at old j).inputs) → cost_by cost new ≡ cost_by cost old
same_cost cost [] [] long each = refl
same_cost cost [] (n ∷ ns) long each = absurd (omega (arith, long))
same_cost cost (l ∷ ls) [] long each = absurd (omega (arith, long))
same_cost cost (l ∷ ls) (n ∷ ns) long each =
    omega (
      arith,
      sum_by-cons (λ (x : Lut). cost (length x.inputs)) l ls,
      sum_by-cons (λ (x : Lut). cost (length x.inputs)) n ns,
      ap (λ (inputs : List ℕ). cost (length inputs)) (each 0 (omega arith)),
      same_cost cost ls ns (omega (arith, long)) (λ j lt. each (suc j) (omega (arith, lt))),
    )

pub settled : (was trimmed now : LutNet) → IsTrimmed was trimmed → IsAbsorbed trimmed now → IsSettled was now
settled was trimmed now trim absorb = record {
  same = keeps_both was trimmed now trim.same absorb.same;
  fewer = omega (arith, trim.fewer, absorb.luts.long, length-map now.luts lut_data, length-map trimmed.luts lut_data);
  depth = omega (arith, trim.depth, absorb.depth);
  inputs = λ k few. absorb.inputs k ∙ trim.inputs k few;
  cheaper = λ cost rises. omega (arith, trim.cheaper cost rises, same_cost cost (luts_data trimmed.luts) (luts_data now.luts) absorb.luts.long (λ j lt. (absorb.luts.each j lt).inputs));
  depend = absorb.depend trim.depend;
  most = subst (λ n. MostShown (n + 1) now.observed) (sym absorb.same.sources) absorb.most;
  shown = subst (λ n. AllShown (n + 1) now.observed) (sym absorb.same.sources) absorb.shown;
}

module _ (graph : Graph) (was now : LutNet) (function : HasFunctionOf graph was) (settled : IsSettled was now) where
  pub keeps_function : HasFunctionOf graph now
  keeps_function = record {
    sources = settled.same.sources ∙ function.sources;
    count = settled.same.count ∙ function.count;
    stay = λ i l lt low e. settled.same.stay i l (omega (arith, lt, function.count)) (omega (arith, low, function.sources)) (function.stay i l lt low e);
    values = λ bits long. settled.same.values bits (long ∙ sym function.sources) ∙ function.values bits long;
  }

  pub no_deeper : net_depth graph.source_count (luts_data now.luts) ≤ net_depth graph.source_count (luts_data was.luts)
  no_deeper =
      subst (λ n. net_depth n (luts_data now.luts) ≤ net_depth graph.source_count (luts_data was.luts)) (settled.same.sources ∙ function.sources)
      (subst (λ n. net_depth now.source_count (luts_data now.luts) ≤ net_depth n (luts_data was.luts)) function.sources settled.depth)

  pub all_shown : AllShown (graph.source_count + 1) now.observed
  all_shown = subst (λ n. AllShown (n + 1) now.observed) (settled.same.sources ∙ function.sources) settled.shown

  pub most_shown : MostShown (graph.source_count + 1) now.observed
  most_shown = subst (λ n. MostShown (n + 1) now.observed) (settled.same.sources ∙ function.sources) settled.most

pub written : (k : ℕ) (graph : Graph) (was now : LutNet) → AreLutsOf k graph was → IsSettled was now → AreWrittenLutsOf k graph now
written k graph was now are s = record {
  luts = record { function = keeps_function graph was now are.function s; inputs = s.inputs k are.inputs; count = omega (arith, s.fewer, are.count) };
  depend = s.depend;
  most = most_shown graph was now are.function s;
  shown = all_shown graph was now are.function s;
}
