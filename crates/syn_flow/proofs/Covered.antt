-- A covering is as deep as the labels.
use Rattle.std.proofs.Common.{◌≡◌, ℕ, zero, suc, ◌+◌, ◌-◌, ◌<◌, ◌≤◌, nat_le, nat_lt, if◌then◌else◌, Bool, true, false, List, [], ◌∷◌, length, map, refl, sym, ap, ◌∙◌, subst, inl, inr, arith}
use Rattle.std.specs.List.{list_all}
use Rattle.std.proofs.lemmas.Bool.{and_from, and_parts, both_ways, cases_lt, le-leb, leb-true}
use Rattle.std.proofs.lemmas.List.{get_or-map, length-map}
use Rattle.syn_rows.specs.declared.Lit.{Lit}
use Rattle.syn_rows.specs.declared.Row.{Row}
use Rattle.syn_rows.specs.Rows.{node_of}
use Rattle.syn_rows.specs.Reach.{is_and}
use Rattle.syn_hashed.specs.Hashed.{IsHashed, lit_at}
use Rattle.syn_lutnet.specs.LutData.{depth_in, greatest, is_input, IsLutNet, Lut, lut_at, lut_depth, net_depth, none_exceeds, signal_depths}
use Rattle.syn_covering.specs.Mappings.{node_at}
use Rattle.syn_flow.specs.Witness.{AreBorneOut, Shown}
use Rattle.syn_flow.specs.Coverings.{BorneOutBoundCoverings, BorneOutBoundLuts, IsCovering, IsLeastDepth, lit_for, stands_for}
use Rattle.syn_lutnet.proofs.Folding.{below, In, lut_step}
use Rattle.syn_lutnet.proofs.Deepest.{all_zero, depth_local, greatest_any, greatest_le, length-all_zero}
use Rattle.syn_lutnet.proofs.LutParts.{lut_parts}
use Rattle.syn_flow.proofs.Bounding.{bound_cuts}

-- where f is nowhere above h on inputs of signals below n, it isn't in their greatest
greatest_below : (f g h : ℕ → ℕ) (n : ℕ) → ((s : ℕ) → s < n → f (g s) ≤ h s) → (xs : List ℕ) → list_all (is_input n) xs ≡ true → greatest f (map g xs) ≤ greatest h xs
greatest_below f g h n low [] inside = omega arith
greatest_below f g h n low (x ∷ xs) inside =
    let parts = and_parts (is_input n x) (list_all (is_input n) xs) inside in
    let lt : x < n = leb-true (suc x) n (and_parts (nat_le 1 x) (nat_lt x n) parts.0).1 in
    omega (arith, low x lt, greatest_below f g h n low xs parts.1)

few_inputs : (k : ℕ) (luts : List Lut) → none_exceeds k luts ≡ true → (j : ℕ) → j < length luts → length (lut_at luts j).inputs ≤ k
few_inputs k [] h j lt = absurd (omega (arith, lt))
few_inputs k (l ∷ ls) h zero lt = leb-true (length l.inputs) k (and_parts (nat_le (length l.inputs) k) (none_exceeds k ls) h).0
few_inputs k (l ∷ ls) h (suc j) lt = few_inputs k ls (and_parts (nat_le (length l.inputs) k) (none_exceeds k ls) h).1 j (omega (arith, lt))

-- a signal lies as deep as the label of what it stands for, where the LUTs before it do
not_less : (a b : ℕ) → nat_lt a b ≡ false → b ≤ a
not_less a b e = elim (cases_lt a b) [ inl less ↦ absurd (both_ways (nat_lt a b) e (le-leb (suc a) b less)) | inr ge ↦ ge ]

signal_deep : (count : ℕ) (rows : List Row) (label depth : ℕ → ℕ) (nodes : List ℕ) (j : ℕ) → ((n : ℕ) → n < count + 1 → label n ≡ 0)
    → ((i : ℕ) → i < j → label (node_at nodes i) ≤ depth (count + 1 + i)) → (s : ℕ) → s < count + 1 + j → label (stands_for count nodes s) ≤ depth s
signal_deep count rows label depth nodes j sources before s lt = by (nat_lt s (count + 1)) refl
  where
    by : (b : Bool) → nat_lt s (count + 1) ≡ b → label (if b then s else node_at nodes (s - (count + 1))) ≤ depth s
    by true e = omega (arith, sources s (leb-true (suc s) (count + 1) e))
    by false e =
        let gap : count + 1 ≤ s = not_less s (count + 1) e in
        let is : count + 1 + (s - (count + 1)) ≡ s = omega (arith, gap) in
        subst (λ t. label (node_at nodes (s - (count + 1))) ≤ depth t) is (before (s - (count + 1)) (omega (arith, gap, lt)))

-- each LUT lies one deeper than the deepest signal that it reads

inputs_in : (n : ℕ) (is : List ℕ) → list_all (is_input n) is ≡ true → In n is
inputs_in n [] h = refl
inputs_in n (i ∷ is) h =
    let parts = and_parts (is_input n i) (list_all (is_input n) is) h in
    and_from (below n i) (list_all (below n) is) (and_parts (nat_le 1 i) (nat_lt i n) parts.0).1 (inputs_in n is parts.1)

inputs_of : (count : ℕ) (luts : List Lut) (outs : List Lit) → IsLutNet count luts outs → (j : ℕ) → j < length luts → list_all (is_input (count + 1 + j)) (lut_at luts j).inputs ≡ true
inputs_of count luts outs net j lt = (lut_parts (count + 1 + j) (lut_at luts j) (net.luts_fit j lt)).inside

lut_deep : (count : ℕ) (luts : List Lut) (outs : List Lit) → IsLutNet count luts outs → (j : ℕ) → j < length luts
    → depth_in (signal_depths count luts) (count + 1 + j) ≡ greatest (depth_in (signal_depths count luts)) (lut_at luts j).inputs + 1
lut_deep count luts outs net j lt =
    lut_step lut_depth 0 depth_local (all_zero (suc count)) luts (count + 1 + j) j (omega (arith, length-all_zero count)) lt
    (inputs_in (count + 1 + j) (lut_at luts j).inputs (inputs_of count luts outs net j lt))

covered : (k count : ℕ) (rows : List Row) (lits : List Lit) (label : ℕ → ℕ) (shown : List Shown) → IsHashed count rows → AreBorneOut k rows label shown
    → (nodes : List ℕ) (luts : List Lut) (outs : List Lit) → IsCovering k count rows lits nodes luts outs
    → (limit j : ℕ) → j < limit → j < length luts → label (node_at nodes j) ≤ depth_in (signal_depths count luts) (count + 1 + j)
covered k count rows lits label shown hashed out nodes luts outs cover zero j lt there = absurd (omega (arith, lt))
covered k count rows lits label shown hashed out nodes luts outs cover (suc limit) j lt there =
    let depth : ℕ → ℕ = depth_in (signal_depths count luts) in
    let before : (i : ℕ) → i < j → label (node_at nodes i) ≤ depth (count + 1 + i) = λ i less. covered k count rows lits label shown hashed out nodes luts outs cover limit i (omega (arith, less, lt)) (omega (arith, less, there)) in
    let low = signal_deep count rows label depth nodes j (λ n small. out.others n (ap is_and (hashed.front n small))) before in
    let inputs = (lut_at luts j).inputs in
    let few : length (map (stands_for count nodes) inputs) ≤ k = omega (arith, length-map inputs (stands_for count nodes), few_inputs k luts cover.few j there) in
    omega (
      arith,
      lut_deep count luts outs cover.net j there,
      bound_cuts k count rows label shown hashed out (node_at nodes j) (map (stands_for count nodes) inputs) (cover.ands j there) (cover.cuts j there) few,
      greatest_below label (stands_for count nodes) depth (count + 1 + j) low inputs (inputs_of count luts outs cover.net j there),
    )

pub bound_luts : BorneOutBoundLuts
bound_luts k count rows lits label shown hashed out nodes luts outs cover j there = covered k count rows lits label shown hashed out nodes luts outs cover (suc j) j (omega arith) there

-- an observed literal's node is what the net's literal stands for

node_for : (count : ℕ) (nodes : List ℕ) (l : Lit) → node_of (lit_for count nodes l) ≡ stands_for count nodes (node_of l)
node_for count nodes l = omega arith

pub bound_coverings : BorneOutBoundCoverings
bound_coverings k count rows lits label shown hashed out nodes luts outs cover i there =
    let depth : ℕ → ℕ = depth_in (signal_depths count luts) in
    let here : i < length outs = omega (arith, there, length-map outs (lit_for count nodes), ap (λ (l : List Lit). length l) cover.stand) in
    let l : Lit = lit_at outs i in
    let is : lit_at lits i ≡ lit_for count nodes (lit_at outs i) = ap (λ (ls : List Lit). lit_at ls i) (sym cover.stand) ∙ get_or-map (lit_for count nodes) outs i (record { 0 = 0 }) (record { 0 = 0 }) here in
    let node : node_of (lit_at lits i) ≡ stands_for count nodes (node_of (lit_at outs i)) = ap node_of is ∙ node_for count nodes (lit_at outs i) in
    let low = signal_deep count rows label depth nodes (length luts) (λ n small. out.others n (ap is_and (hashed.front n small)))
    (bound_luts k count rows lits label shown hashed out nodes luts outs cover) (node_of (lit_at outs i)) (cover.net.within i (record { 0 = 0 }) here) in
    let same = ap label node in
    omega (arith, low, same, greatest_any (signal_depths count luts) (node_of (lit_at outs i)))

-- so the greatest label of an observed node is the least depth, where it is a depth
pub labels_least : (k count : ℕ) (rows : List Row) (lits : List Lit) (label : ℕ → ℕ) (shown : List Shown) → IsHashed count rows → AreBorneOut k rows label shown → IsLeastDepth k count rows lits (greatest label (map node_of lits))
labels_least k count rows lits label shown hashed out nodes luts outs cover =
    greatest_le label (map node_of lits) (net_depth count luts) (λ i lt.
    let inside : i < length lits = omega (arith, lt, length-map lits node_of) in
    let same = ap label (get_or-map node_of lits i (record { 0 = 0 }) 0 inside) in
    omega (arith, same, bound_coverings k count rows lits label shown hashed out nodes luts outs cover i inside))
