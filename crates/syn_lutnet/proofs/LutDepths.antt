-- Depths and gates of LUTs, one after the other.
use Rattle.std.proofs.Common.{◌≡◌, ℕ, ◌+◌, ◌<◌, ◌≤◌, All, List, [], ◌∷◌, ◌++◌, length, get_or, drop, sym, ap, ◌∙◌, subst, inl, inr, arith}
use Rattle.std.proofs.lemmas.Bool.{cases_lt}
use Rattle.std.proofs.lemmas.List.{get_or_past, length_push, drop_more}
use Rattle.std.proofs.lemmas.List.Elements.{All-push}
use Rattle.std.proofs.lemmas.List.Sums.{sum_by-cons}
use Rattle.syn_truth.specs.declared.Truth.{Truth}
use Rattle.syn_truth.specs.Truth.{value_of}
use Rattle.syn_plan.specs.Factoring.{Built, factored, falling}
use Rattle.syn_plan.proofs.Factored.{factored_after-same}
use Rattle.syn_lutnet.specs.LutData.{greatest, depth_in, lut_depth, fold_luts, lut_gates, net_gates, ones_of, ones_value}
use Rattle.syn_lutnet.specs.LutData as spelled
use Rattle.syn_lutnet.proofs.Deepest.{greatest_le}
use Rattle.syn_lutnet.proofs.Ones.{ones_give}
use Rattle.syn_lutnet.specs.declared.luts.Lut.{Lut}
use Rattle.syn_lutnet.specs.Data.{lut_data, luts_data}

-- no depth is greater than the number of signals that have one, and so no signal lies deeper
pub depths_low : (depths signals : List ℕ) → All (λ d. d ≤ length depths) depths → greatest (depth_in depths) signals ≤ length depths
depths_low depths signals low = greatest_le (depth_in depths) signals (length depths) (λ i lt. at (get_or signals i 0))
  where
    at : (m : ℕ) → get_or depths m 0 ≤ length depths
    at m = elim (cases_lt m (length depths)) [ inl lt ↦ low m 0 lt | inr past ↦ omega (arith, get_or_past depths m 0 past) ]

-- factoring takes as many gates by a table's minterms as by the table
pub gates_are : (t : Truth) (inputs : List ℕ) (gates : ℕ) → t.vars ≡ length inputs → gates ≡ length (factored t.vars (falling t.vars) (value_of t)).gates → gates ≡ lut_gates (record { inputs = inputs; ones = ones_of t })
gates_are t inputs gates vars e =
    e ∙ ap (λ (b : Built). length b.gates) (sym (factored_after-same t.vars (falling t.vars) (ones_value (ones_of t)) (value_of t) (ones_give t).values []))
    ∙ ap (λ n. length (factored n (falling n) (ones_value (ones_of t))).gates) vars

-- the LUTs that are left begin with the next one
pub luts_next : (luts : List Lut) (i : ℕ) (l : Lut) → i < length luts → l ≡ get_or luts i l → luts_data (drop i luts) ≡ lut_data l ∷ luts_data (drop (i + 1) luts)
luts_next luts i l lt e = ap luts_data (drop_more luts i l lt ∙ ap (λ (x : Lut). x ∷ drop (i + 1) luts) (sym e))

-- one depth more
pub depth_next : (done new : List ℕ) (x : ℕ) (l : spelled.Lut) (left rest : List spelled.Lut) (all : List ℕ) → new ≡ done ++ x ∷ [] → x ≡ greatest (depth_in done) l.inputs + 1 → left ≡ l ∷ rest
    → fold_luts lut_depth 0 done left ≡ all → fold_luts lut_depth 0 new rest ≡ all
depth_next done new x l left rest all e is split h =
    ap (λ (d : List ℕ). fold_luts lut_depth 0 d rest) (e ∙ ap (λ y. done ++ y ∷ []) is) ∙ sym (ap (fold_luts lut_depth 0 done) split) ∙ h

pub low_next : (done new : List ℕ) (x : ℕ) → new ≡ done ++ x ∷ [] → x ≤ length done + 1 → All (λ d. d ≤ length done) done → All (λ d. d ≤ length new) new
low_next done new x e low all =
    let long : length new ≡ length done + 1 = ap (λ (xs : List ℕ). length xs) e ∙ length_push done x in
    subst (λ (xs : List ℕ). All (λ d. d ≤ length new) xs) (sym e)
    (All-push (λ d. d ≤ length new) done x (λ i d lt. omega (arith, all i d lt, long)) (omega (arith, low, long)))

pub gates_next : (luts : List Lut) (i : ℕ) (l : Lut) → i < length luts → l ≡ get_or luts i l → net_gates (luts_data (drop i luts)) ≡ lut_gates (lut_data l) + net_gates (luts_data (drop (i + 1) luts))
gates_next luts i l lt e = ap net_gates (luts_next luts i l lt e) ∙ sum_by-cons lut_gates (lut_data l) (luts_data (drop (i + 1) luts))
