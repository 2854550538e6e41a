-- A net made anew has the same function, and is no deeper.
use Rattle.std.proofs.Common.{◌≡◌, ℕ, suc, ◌+◌, ◌-◌, ◌^◌, ◌<◌, ◌≤◌, Bool, true, false, All, List, [], ◌∷◌, map, length, get_or, replicate, refl, sym, ap, ap₂, ◌∙◌, subst, inl, inr, arith}
use Rattle.std.proofs.lemmas.Bool.{cases_lt}
use Rattle.std.proofs.lemmas.List.{length-map, get_or-map}
use Rattle.std.proofs.lemmas.List.Elements.{All-map}
use Rattle.syn_rows.specs.declared.Lit.{Lit}
use Rattle.syn_rows.specs.Rows.{node_of}
use Rattle.syn_rows.specs.Reach.{HasObserved}
use Rattle.syn_rows.specs.Values.{lit_value, value_in}
use Rattle.syn_hashed.specs.Hashed.{lit_at}
use Rattle.syn_graph.specs.Graphs.{SourcesStay}
use Rattle.syn_lutnet.specs.Data.{luts_data}
use Rattle.syn_lutnet.specs.declared.luts.Lut as code
use Rattle.syn_lutnet.specs.LutData.{Lut, IsLutNet, depth_in, is_lut, lut_at, lut_depth, lut_value, luts_function, net_depth, signal_depths, signal_values}
use Rattle.syn_lutnet.proofs.Deepest.{all_zero_at, depth_local, greatest_any, greatest_le, length-all_zero}
use Rattle.syn_lutnet.proofs.Folding.{In, length-luts, luts_kept, lut_step}
use Rattle.syn_lutnet.proofs.LutParts.{lut_parts}
use Rattle.std.proofs.lemmas.List.Sums.{sum_by-take-le}
use Rattle.syn_absorb.specs.Needed.{AllDepend}
use Rattle.syn_absorb.specs.Reaching.{IsOpenNet, IsSwept}
use Rattle.syn_absorb.specs.Rebuilding.{FitsLuts, FitsDepths, IsRebuilt, IsRebuiltNet, IsTrimming, read_lit}
use Rattle.syn_absorb.proofs.Literals.{read_node, read_own, read_value}
use Rattle.syn_absorb.proofs.Same.{inputs_in, value_local}

abbrev pub AllFit : ℕ → List Lut → Type 0
AllFit count luts = (j : ℕ) → j < length luts → is_lut (count + 1 + j) (lut_at luts j) ≡ true

pub inside_at : (count : ℕ) (luts : List Lut) → AllFit count luts → (j : ℕ) → j < length luts → In (count + 1 + j) (lut_at luts j).inputs
inside_at count luts fit j lt = inputs_in (count + 1 + j) (lut_at luts j).inputs (lut_parts (count + 1 + j) (lut_at luts j) (fit j lt)).inside

-- the computed values fit,
pub values_fit : (count : ℕ) (luts : List Lut) (bits : List Bool) → length bits ≡ count → AllFit count luts → FitsLuts (count + 1) luts (value_in (signal_values bits luts))
values_fit count luts bits long fit = record {
  constant = luts_kept lut_value false (false ∷ bits) luts 0 false (omega arith);
  each = λ j lt. lut_step lut_value false value_local (false ∷ bits) luts (count + 1 + j) j (omega (arith, long)) lt (inside_at count luts fit j lt);
}

-- and so do the computed depths
pub depths_fit : (count : ℕ) (luts : List Lut) → AllFit count luts → FitsDepths (count + 1) luts (depth_in (signal_depths count luts))
depths_fit count luts fit = record {
  others = λ n lt. luts_kept lut_depth 0 (replicate (suc count) 0) luts n 0 (omega (arith, lt, length-all_zero count)) ∙ all_zero_at (suc count) n;
  each = λ j lt. lut_step lut_depth 0 depth_local (replicate (suc count) 0) luts (count + 1 + j) j (omega (arith, length-all_zero count)) lt (inside_at count luts fit j lt);
}

read_all : (lits : List Lit) (v w : ℕ → Bool) (observed : List Lit) → All (λ l. lit_value w (lit_at lits (node_of l)) ≡ v (node_of l)) observed → map (lit_value w) (map (read_lit lits) observed) ≡ map (lit_value v) observed
read_all lits v w [] all = refl
read_all lits v w (l ∷ ls) all =
    ap₂ (λ (y : Bool) (ys : List Bool). y ∷ ys) (read_value lits v w l (all 0 l (omega arith))) (read_all lits v w ls (λ k d lt. all (suc k) d (omega (arith, lt))))

pub net_rebuilt : (count : ℕ) (luts new : List Lut) (set : ℕ → Bool) (lits observed outs : List Lit) → IsOpenNet count luts observed → HasObserved observed set → IsRebuilt count luts set lits new → length lits ≡ count + 1 + length luts
    → outs ≡ map (read_lit lits) observed → IsRebuiltNet count luts observed new outs
net_rebuilt count luts new set lits observed outs net seen done long outs_are = subst (λ (os : List Lit). IsRebuiltNet count luts observed new os) (sym outs_are) (record {
  trimming = record {
    long = length-map observed (read_lit lits);
    stay = stays;
    values = values;
    fewer = omega (arith, done.few, long);
    depth = depth;
    inputs = done.inputs;
    cheaper = λ cost rises. omega (arith, done.cheaper cost rises, sum_by-take-le (λ (l : Lut). cost (length l.inputs)) luts (length lits - (count + 1)));
  };
  net = record {
    luts_fit = done.fits;
    within = All-map (λ l. node_of l < count + 1 + length new) (read_lit lits) observed (λ k d lt. omega (arith, read_node lits (get_or observed k d), done.within (node_of (get_or observed k d))));
  };
  depend = done.depend;
})
  where
    stays : SourcesStay count observed (map (read_lit lits) observed)
    stays i l lt low e =
        get_or-map (read_lit lits) observed i (record { 0 = 0 }) (record { 0 = 0 }) lt ∙ ap (read_lit lits) e ∙ read_own lits l (done.sources (node_of l) low)

    values : (bits : List Bool) → length bits ≡ count → luts_function new (map (read_lit lits) observed) bits ≡ luts_function luts observed bits
    values bits size =
        let v : ℕ → Bool = value_in (signal_values bits luts) in
        let w : ℕ → Bool = value_in (signal_values bits new) in
        let fits_v : FitsLuts (count + 1) luts v = values_fit count luts bits size net.luts_fit in
        let fits_w : FitsLuts (count + 1) new w = values_fit count new bits size done.fits in
        read_all lits v w observed
        (λ k d lt. done.values v w fits_v fits_w given (node_of (get_or observed k d)) (omega (arith, net.within k d lt, long)) (seen k d lt))
      where
        given : (n : ℕ) → n < count + 1 → value_in (signal_values bits new) n ≡ value_in (signal_values bits luts) n
        given n lt =
            let short : n < length (false ∷ bits) = omega (arith, lt, size) in
            luts_kept lut_value false (false ∷ bits) new n false short ∙ sym (luts_kept lut_value false (false ∷ bits) luts n false short)

    depth : net_depth count new ≤ net_depth count luts
    depth = greatest_le (λ d. d) (signal_depths count new) (net_depth count luts) each
      where
        fits_d : FitsDepths (count + 1) luts (depth_in (signal_depths count luts))
        fits_d = depths_fit count luts net.luts_fit

        fits_e : FitsDepths (count + 1) new (depth_in (signal_depths count new))
        fits_e = depths_fit count new done.fits

        each : (n : ℕ) → n < length (signal_depths count new) → get_or (signal_depths count new) n 0 ≤ net_depth count luts
        each n lt = elim (cases_lt n (count + 1)) [
          | inl low ↦ omega (arith, fits_e.others n low)
          | inr high ↦
              let j : ℕ = n - (count + 1) in
              let there : j < length new = omega (arith, lt, high, length-luts lut_depth 0 (replicate (suc count) 0) new, length-all_zero count) in
              let at : count + 1 + j ≡ n = omega (arith, high) in
              let bounded = done.lows (depth_in (signal_depths count luts)) (depth_in (signal_depths count new)) (net_depth count luts) fits_d fits_e (λ m. greatest_any (signal_depths count luts) m) j there in
              omega (arith, ap (depth_in (signal_depths count new)) at, bounded)
        ]

-- with a LUT that isn't wanted there are fewer
pub fewer_luts : (count : ℕ) (luts new : List Lut) (set : ℕ → Bool) (lits : List Lit) → IsRebuilt count luts set lits new → length lits ≡ count + 1 + length luts → (n : ℕ) → count + 1 ≤ n → n < count + 1 + length luts → set n ≡ false → length new < length luts
fewer_luts count luts new set lits done long n le lt off = omega (arith, done.fewer n le (omega (arith, lt, long)) off, long)

pub trimming_itself : (count : ℕ) (luts : List Lut) (lits : List Lit) → IsTrimming count luts lits luts lits
trimming_itself count luts lits = record {
  long = refl;
  stay = λ i l lt low e. e;
  values = λ bits size. refl;
  fewer = omega arith;
  depth = omega arith;
  inputs = λ k h. h;
  cheaper = λ cost rises. omega arith;
}

pub trimming_more : (count : ℕ) (a b c : List Lut) (xs ys zs : List Lit) → IsTrimming count a xs b ys → IsTrimming count b ys c zs → IsTrimming count a xs c zs
trimming_more count a b c xs ys zs first second = record {
  long = second.long ∙ first.long;
  stay = λ i l lt low e. second.stay i l (omega (arith, lt, first.long)) low (first.stay i l lt low e);
  values = λ bits size. second.values bits size ∙ first.values bits size;
  fewer = omega (arith, first.fewer, second.fewer);
  depth = omega (arith, first.depth, second.depth);
  inputs = λ k h. second.inputs k (first.inputs k h);
  cheaper = λ cost rises. omega (arith, first.cheaper cost rises, second.cheaper cost rises);
}

pub rebuilt_more : (count : ℕ) (a b c : List Lut) (xs ys zs : List Lit) → IsTrimming count a xs b ys → IsRebuiltNet count b ys c zs → IsRebuiltNet count a xs c zs
rebuilt_more count a b c xs ys zs first second = record { trimming = trimming_more count a b c xs ys zs first second.trimming; net = second.net; depend = second.depend }

pub rebuilt_itself : (count : ℕ) (luts : List Lut) (lits : List Lit) → IsOpenNet count luts lits → AllDepend luts → IsRebuiltNet count luts lits luts lits
rebuilt_itself count luts lits net depend = record { trimming = trimming_itself count luts lits; net = net; depend = depend }

-- where all are marked, all are reached
pub reached_net : (count : ℕ) (luts : List Lut) (lits : List Lit) (marks : List Bool) → IsOpenNet count luts lits → IsSwept (count + 1) luts lits marks 0 → ((n : ℕ) → count + 1 ≤ n → n < length marks → value_in marks n ≡ true) → IsLutNet count luts lits
reached_net count luts lits marks net swept all = record {
  luts_fit = net.luts_fit;
  within = net.within;
  reached = λ j lt. swept.reached (count + 1 + j) (all (count + 1 + j) (omega arith) (omega (arith, lt, swept.count)));
}

-- the literals that signals became are small
pub lits_low : (count : ℕ) (luts new : List Lut) (set : ℕ → Bool) (lits seen : List Lit) → seen ≡ lits → IsRebuilt count luts set lits new → length lits < 2 ^ 31 → (n : ℕ) → node_of (lit_at seen n) < 2 ^ 31
lits_low count luts new set lits seen seen_is done short n = subst (λ (ls : List Lit). node_of (lit_at ls n) < 2 ^ 31) (sym seen_is) (omega (arith, done.within n, done.few, short))

pub open_net : (count : ℕ) (luts : List Lut) (lits : List Lit) → IsLutNet count luts lits → IsOpenNet count luts lits
open_net count luts lits net = record { luts_fit = net.luts_fit; within = net.within }

-- LUTs and literals that are seen as slices
module _ (count : ℕ) (luts seen : List code.Lut) (lits seen_lits : List Lit) (luts_are : seen ≡ luts) (lits_are : seen_lits ≡ lits) where
  seen_in : (P : List Lut → List Lit → Type 0) → P (luts_data luts) lits → P (luts_data seen) seen_lits
  seen_in P here = subst (λ (ls : List code.Lut). P (luts_data ls) seen_lits) (sym luts_are) (subst (P (luts_data luts)) (sym lits_are) here)

  seen_out : (P : List Lut → List Lit → Type 0) → P (luts_data seen) seen_lits → P (luts_data luts) lits
  seen_out P here = subst (P (luts_data luts)) lits_are (subst (λ (ls : List code.Lut). P (luts_data ls) seen_lits) luts_are here)

  pub open_seen : IsOpenNet count (luts_data luts) lits → IsOpenNet count (luts_data seen) seen_lits
  open_seen net = seen_in (λ ls os. IsOpenNet count ls os) net

  pub rebuilt_seen : (new : List Lut) (outs : List Lit) → IsRebuiltNet count (luts_data seen) seen_lits new outs → IsRebuiltNet count (luts_data luts) lits new outs
  rebuilt_seen new outs made = seen_out (λ ls os. IsRebuiltNet count ls os new outs) made

  pub reached_seen : (marks slice : List Bool) → slice ≡ marks → IsOpenNet count (luts_data luts) lits → IsSwept (count + 1) (luts_data seen) seen_lits marks 0 → ((n : ℕ) → count + 1 ≤ n → n < length slice → value_in slice n ≡ true)
      → IsLutNet count (luts_data luts) lits
  reached_seen marks slice slice_is net swept all =
      reached_net count (luts_data luts) lits slice net
      (seen_out (λ ls os. IsSwept (count + 1) ls os slice 0) (subst (λ (bs : List Bool). IsSwept (count + 1) (luts_data seen) seen_lits bs 0) (sym slice_is) swept)) all

-- LUTs and literals that are kept by other names
pub record Kept (count : ℕ) (luts : List Lut) (lits : List Lit) (new : List Lut) (outs : List Lit) : Type 0 where
  pub rebuilt : IsRebuiltNet count luts lits new outs
  pub net : IsLutNet count new outs

pub kept_to : (count : ℕ) (luts new others : List code.Lut) (lits outs seen : List Lit) → others ≡ new → seen ≡ outs → IsRebuiltNet count (luts_data luts) lits (luts_data new) outs → IsLutNet count (luts_data new) outs → Kept count (luts_data luts) lits (luts_data others) seen
kept_to count luts new others lits outs seen luts_are lits_are rebuilt net =
    subst (λ (ls : List code.Lut). Kept count (luts_data luts) lits (luts_data ls) seen) (sym luts_are)
    (subst (λ (os : List Lit). Kept count (luts_data luts) lits (luts_data new) os) (sym lits_are) (record { rebuilt = rebuilt; net = net }))
