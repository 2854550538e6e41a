-- A LUT net with complemented signals has the same function and depth.
use Rattle.std.proofs.Common.{◌≡◌, ℕ, zero, suc, ◌+◌, ◌-◌, ◌*◌, ◌/◌, ◌%◌, ◌^◌, ◌<◌, ◌≤◌, ◌&&◌, if◌then◌else◌, nat_eq, nat_le, nat_lt, not, Bool, true, false, All, List, [], ◌∷◌, ◌++◌, map, length, get_or, replicate, refl, sym, ap, ap₂, ◌∙◌, subst, inl, inr, arith}
use Rattle.std.specs.List.{list_all, AllByRecursion}
use Rattle.std.proofs.lemmas.Bool.{cases_lt, and_parts, and_from}
use Rattle.std.proofs.lemmas.List.{length-map, get_or-map}
use Rattle.std.proofs.lemmas.List.Elements.{recursion_from_All}
use Rattle.syn_rows.specs.declared.Lit.{Lit}
use Rattle.syn_rows.specs.Rows.{node_of}
use Rattle.syn_rows.specs.Values.{lit_value, value_in}
use Rattle.syn_graph.specs.Graphs.{SourcesStay}
use Rattle.syn_lists.specs.Numbers.{distinct_numbers}
use Rattle.syn_lutnet.specs.LutData.{Lut, lut_at, lut_value, lut_depth, fold_luts, signal_values, luts_function, greatest, depth_in, net_depth, none_exceeds, is_input, is_lut, ones_value, rising, Reached, IsLutNet}
use Rattle.syn_lutnet.proofs.Folding.{below, In, IsLocal, map_below, luts_kept, lut_step}
use Rattle.syn_lutnet.proofs.LutParts.{lut_parts}
use Rattle.syn_absorb.specs.Flips.{xor, flipped_lit, AreFlipped}
use Rattle.syn_absorb.proofs.Flipped.{xor_xor}

-- literals

pub made_node : (n : ℕ) (c : Bool) → (2 * n + (if c then 1 else 0)) / 2 ≡ n
made_node n true = omega arith
made_node n false = omega arith

pub made_plain : (n : ℕ) (c : Bool) → nat_eq ((2 * n + (if c then 1 else 0)) % 2) 0 ≡ not c
made_plain n true = let one : (2 * n + 1) % 2 ≡ 1 = omega arith in ap (λ x. nat_eq x 0) one
made_plain n false = let none : (2 * n + 0) % 2 ≡ 0 = omega arith in ap (λ x. nat_eq x 0) none

pub made_opposite : (n : ℕ) (c : Bool) → nat_eq ((2 * n + (if c then 1 else 0)) % 2) 1 ≡ c
made_opposite n true = let one : (2 * n + 1) % 2 ≡ 1 = omega arith in ap (λ x. nat_eq x 1) one
made_opposite n false = let none : (2 * n + 0) % 2 ≡ 0 = omega arith in ap (λ x. nat_eq x 1) none

pub two_signs : (x : ℕ) → x < 2 → nat_eq x 0 ≡ not (nat_eq x 1)
two_signs zero lt = refl
two_signs (suc zero) lt = refl
two_signs (suc (suc x)) lt = absurd (omega (arith, lt))

pub flipped_node : (flip : ℕ → Bool) (l : Lit) → node_of (flipped_lit flip l) ≡ node_of l
flipped_node flip l = made_node (node_of l) (xor (flip (node_of l)) (nat_eq (l.0 % 2) 1))

abbrev signed : Bool → Bool → Bool
signed z x = if z then x else not x

signs_agree : (b s x : Bool) → signed (not (xor b s)) x ≡ signed (not s) (xor b x)
signs_agree true true true = refl
signs_agree true true false = refl
signs_agree true false true = refl
signs_agree true false false = refl
signs_agree false s x = refl

lit_same : (flip v w : ℕ → Bool) (l : Lit) → xor (flip (node_of l)) (w (node_of l)) ≡ v (node_of l) → lit_value w (flipped_lit flip l) ≡ lit_value v l
lit_same flip v w l e =
    let n : ℕ = node_of l in
    let s : Bool = nat_eq (l.0 % 2) 1 in
    let c : Bool = xor (flip n) s in
    let small : l.0 % 2 < 2 = omega arith in
    ap₂ (λ (z x : Bool). signed z x) (made_plain n c) (ap w (flipped_node flip l))
    ∙ signs_agree (flip n) s (w n)
    ∙ ap₂ (λ (z x : Bool). signed z x) (sym (two_signs (l.0 % 2) small)) e

lits_same : (flip v w : ℕ → Bool) (lits : List Lit) → AllByRecursion (λ l. xor (flip (node_of l)) (w (node_of l)) ≡ v (node_of l)) lits → map (lit_value w) (map (flipped_lit flip) lits) ≡ map (lit_value v) lits
lits_same flip v w [] all = refl
lits_same flip v w (l ∷ ls) all = ap₂ (λ (x : Bool) (xs : List Bool). x ∷ xs) (lit_same flip v w l all.0) (lits_same flip v w ls all.1)

nodes_same : (flip : ℕ → Bool) (lits : List Lit) → map node_of (map (flipped_lit flip) lits) ≡ map node_of lits
nodes_same flip [] = refl
nodes_same flip (l ∷ ls) = ap₂ (λ (x : ℕ) (xs : List ℕ). x ∷ xs) (flipped_node flip l) (nodes_same flip ls)

-- inputs

pub inputs_in : (n : ℕ) (is : List ℕ) → list_all (is_input n) is ≡ true → In n is
inputs_in n [] h = refl
inputs_in n (i ∷ is) h =
    let parts = and_parts (is_input n i) (list_all (is_input n) is) h in
    and_from (below n i) (list_all (below n) is) (and_parts (nat_le 1 i) (nat_lt i n) parts.0).1 (inputs_in n is parts.1)

depths_same : (done : List ℕ) (old new : List Lut) → length new ≡ length old → ((j : ℕ) → j < length old → (lut_at new j).inputs ≡ (lut_at old j).inputs) → fold_luts lut_depth 0 done new ≡ fold_luts lut_depth 0 done old
depths_same done [] [] long h = refl
depths_same done [] (k ∷ ks) long h = absurd (omega (arith, long))
depths_same done (l ∷ ls) [] long h = absurd (omega (arith, long))
depths_same done (l ∷ ls) (k ∷ ks) long h =
    ap (λ (is : List ℕ). fold_luts lut_depth 0 (done ++ (greatest (depth_in done) is + 1) ∷ []) ks) (h 0 (omega arith))
    ∙ depths_same (done ++ lut_depth (depth_in done) l ∷ []) ls ks (omega (arith, long)) (λ j lt. h (suc j) (omega (arith, lt)))

exceeds_same : (k : ℕ) (old new : List Lut) → length new ≡ length old → ((j : ℕ) → j < length old → (lut_at new j).inputs ≡ (lut_at old j).inputs) → none_exceeds k new ≡ none_exceeds k old
exceeds_same k [] [] long h = refl
exceeds_same k [] (x ∷ xs) long h = absurd (omega (arith, long))
exceeds_same k (l ∷ ls) [] long h = absurd (omega (arith, long))
exceeds_same k (l ∷ ls) (x ∷ xs) long h =
    ap₂ (λ (a b : Bool). a && b) (ap (λ (is : List ℕ). nat_le (length is) k) (h 0 (omega arith)))
    (exceeds_same k ls xs (omega (arith, long)) (λ j lt. h (suc j) (omega (arith, lt))))

pub value_local : IsLocal lut_value
value_local f g l e = ap (ones_value l.ones) e

-- no source is complemented
abbrev pub NoSource : ℕ → (ℕ → Bool) → Type 0
NoSource first flip = (n : ℕ) → n < first → flip n ≡ false

-- A net over so many sources of the same function, as deep, its literals of the same signals, those of sources as they were, and its LUTs of as many inputs.
pub record IsSameNet (count : ℕ) (luts : List Lut) (lits : List Lit) (new : List Lut) (outs : List Lit) : Type 0 where
  pub net : IsLutNet count new outs
  pub long : length outs ≡ length lits
  pub stay : SourcesStay count lits outs
  pub values : (bits : List Bool) → length bits ≡ count → luts_function new outs bits ≡ luts_function luts lits bits
  pub depth : net_depth count new ≡ net_depth count luts
  pub nodes : map node_of outs ≡ map node_of lits
  pub inputs : (k : ℕ) → none_exceeds k new ≡ none_exceeds k luts

module _ (count : ℕ) (luts new : List Lut) (lits : List Lit) (flip : ℕ → Bool) (none : NoSource (count + 1) flip) (net : IsLutNet count luts lits) (made : AreFlipped flip (count + 1) luts new) where
  abbrev first : ℕ
  first = count + 1

  inputs_at : (j : ℕ) → j < length luts → (lut_at new j).inputs ≡ (lut_at luts j).inputs
  inputs_at j lt = (made.each j lt).inputs

  inside_at : (j : ℕ) → j < length luts → In (first + j) (lut_at luts j).inputs
  inside_at j lt = inputs_in (first + j) (lut_at luts j).inputs (lut_parts (first + j) (lut_at luts j) (net.luts_fit j lt)).inside

  -- the complemented signals have the complemented values
  values_same : (bits : List Bool) → length bits ≡ count → (b n : ℕ) → n < b → b ≤ first + length luts → xor (flip n) (value_in (signal_values bits new) n) ≡ value_in (signal_values bits luts) n
  values_same bits long zero n lt le = absurd (omega (arith, lt))
  values_same bits long (suc b) n lt le = elim (cases_lt n b) [
    | inl less ↦ values_same bits long b n less (omega (arith, le))
    | inr ge ↦ elim (cases_lt n first) [
      | inl low ↦
          let short : n < length (false ∷ bits) = omega (arith, low, long) in
          ap (λ f. xor f (value_in (signal_values bits new) n)) (none n low)
          ∙ luts_kept lut_value false (false ∷ bits) new n false short
          ∙ sym (luts_kept lut_value false (false ∷ bits) luts n false short)
      | inr high ↦
          let j : ℕ = n - first in
          let at : n ≡ first + j = omega (arith, high) in
          let place : n ≡ length (false ∷ bits) + j = omega (arith, high, long) in
          let there : j < length luts = omega (arith, high, lt, le) in
          let old : ℕ → Bool = value_in (signal_values bits luts) in
          let now : ℕ → Bool = value_in (signal_values bits new) in
          let inside : In n (lut_at luts j).inputs = subst (λ m. In m (lut_at luts j).inputs) (sym at) (inside_at j there) in
          let step_old : old n ≡ lut_value old (lut_at luts j) = lut_step lut_value false value_local (false ∷ bits) luts n j place there inside in
          let step_new : now n ≡ lut_value now (lut_at new j) = lut_step lut_value false value_local (false ∷ bits) new n j place (omega (arith, there, made.long)) (subst (λ (is : List ℕ). In n is) (sym (inputs_at j there)) inside) in
          let value : lut_value now (lut_at new j) ≡ xor (flip n) (lut_value (λ m. xor (flip m) (now m)) (lut_at luts j)) = (made.each j there).value now ∙ ap (λ m. xor (flip m) (lut_value (λ m. xor (flip m) (now m)) (lut_at luts j))) (sym at) in
          let read : lut_value (λ m. xor (flip m) (now m)) (lut_at luts j) ≡ lut_value old (lut_at luts j) =
          value_local (λ m. xor (flip m) (now m)) old (lut_at luts j) (map_below (λ m. xor (flip m) (now m)) old n (λ m less. values_same bits long b m (omega (arith, less, lt)) (omega (arith, le))) (lut_at luts j).inputs inside) in
          ap (xor (flip n)) (step_new ∙ value) ∙ xor_xor (flip n) (lut_value (λ m. xor (flip m) (now m)) (lut_at luts j)) ∙ read ∙ sym step_old
    ]
  ]

  function_same : (bits : List Bool) → length bits ≡ count → luts_function new (map (flipped_lit flip) lits) bits ≡ luts_function luts lits bits
  function_same bits long =
      lits_same flip (value_in (signal_values bits luts)) (value_in (signal_values bits new)) lits
      (recursion_from_All (λ l. xor (flip (node_of l)) (value_in (signal_values bits new) (node_of l)) ≡ value_in (signal_values bits luts) (node_of l)) lits
      (λ i d lt. values_same bits long (first + length luts) (node_of (get_or lits i d)) (net.within i d lt) (omega arith)))

  lit_is : (i : ℕ) (d e : Lit) → i < length lits → get_or (map (flipped_lit flip) lits) i d ≡ flipped_lit flip (get_or lits i e)
  lit_is i d e lt = get_or-map (flipped_lit flip) lits i e d lt

  node_is : (i : ℕ) (d : Lit) → i < length lits → node_of (get_or (map (flipped_lit flip) lits) i d) ≡ node_of (get_or lits i d)
  node_is i d lt = ap node_of (lit_is i d d lt) ∙ flipped_node flip (get_or lits i d)

  lut_fits : (j : ℕ) → j < length luts → is_lut (first + j) (lut_at new j) ≡ true
  lut_fits j lt =
      let parts = lut_parts (first + j) (lut_at luts j) (net.luts_fit j lt) in
      let is : List ℕ = (lut_at new j).inputs in
      let same : (lut_at luts j).inputs ≡ is = sym (inputs_at j lt) in
      let small : Bool = list_all (λ m. nat_lt m (2 ^ length is)) (lut_at new j).ones in
      and_from (nat_le 2 (length is)) (distinct_numbers is && (list_all (is_input (first + j)) is && (rising (lut_at new j).ones && small))) (subst (λ (xs : List ℕ). nat_le 2 (length xs) ≡ true) same parts.many)
      (and_from (distinct_numbers is) (list_all (is_input (first + j)) is && (rising (lut_at new j).ones && small)) (subst (λ (xs : List ℕ). distinct_numbers xs ≡ true) same parts.once)
      (and_from (list_all (is_input (first + j)) is) (rising (lut_at new j).ones && small) (subst (λ (xs : List ℕ). list_all (is_input (first + j)) xs ≡ true) same parts.inside)
      (and_from (rising (lut_at new j).ones) small (made.each j lt).rise (made.each j lt).small)))

  -- a literal of a signal that isn't complemented is as it was
  plain_lit : (l : Lit) → flip (node_of l) ≡ false → flipped_lit flip l ≡ l
  plain_lit l kept = ap (λ f. made_lit l (xor f (nat_eq (l.0 % 2) 1))) kept ∙ again (l.0 % 2) (omega arith) refl
    where
      literal : ℕ → Lit
      literal x = record { 0 = x }

      made_lit : Lit → Bool → Lit
      made_lit l c = record { 0 = 2 * node_of l + (if c then 1 else 0) }

      again : (s : ℕ) → s < 2 → l.0 % 2 ≡ s → made_lit l (nat_eq (l.0 % 2) 1) ≡ l
      again zero lt e = ap (λ s. made_lit l (nat_eq s 1)) e ∙ ap literal (let w : 2 * (l.0 / 2) + 0 ≡ l.0 = omega (arith, e) in w)
      again (suc zero) lt e = ap (λ s. made_lit l (nat_eq s 1)) e ∙ ap literal (let w : 2 * (l.0 / 2) + 1 ≡ l.0 = omega (arith, e) in w)
      again (suc (suc s)) lt e = absurd (omega (arith, lt))

  stays : SourcesStay count lits (map (flipped_lit flip) lits)
  stays i l lt low e =
      let zeroth : Lit = record { 0 = 0 } in
      lit_is i zeroth zeroth lt ∙ ap (flipped_lit flip) e ∙ plain_lit l (none (node_of l) low)

  pub net_same : IsSameNet count luts lits new (map (flipped_lit flip) lits)
  net_same = record {
    net = record {
      luts_fit = λ j lt. lut_fits j (omega (arith, lt, made.long));
      within = λ i d lt. omega (arith, node_is i d (omega (arith, lt, length-map lits (flipped_lit flip))), net.within i d (omega (arith, lt, length-map lits (flipped_lit flip))), made.long);
      reached = λ j lt. reaches j (omega (arith, lt, made.long));
    };
    long = length-map lits (flipped_lit flip);
    stay = stays;
    values = function_same;
    depth = ap (greatest (λ d. d)) (depths_same (replicate (suc count) 0) luts new made.long inputs_at);
    nodes = nodes_same flip lits;
    inputs = λ k. exceeds_same k luts new made.long inputs_at;
  }
    where
      reaches : (j : ℕ) → j < length luts → Reached first new (map (flipped_lit flip) lits) (first + j)
      reaches j lt set closed seen = net.reached j lt set
          (λ i less t. subst (λ (is : List ℕ). All (λ m. set m ≡ true) is) (inputs_at i less) (closed i (omega (arith, less, made.long)) t))
          (λ i d less. ap set (sym (node_is i d less)) ∙ seen i d (omega (arith, less, length-map lits (flipped_lit flip))))
