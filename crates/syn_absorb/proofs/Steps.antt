-- LUT by LUT, a net made anew keeps the values and depths of the signals that became literals.
use Rattle.std.proofs.Common.{◌≡◌, ℕ, suc, ◌+◌, ◌-◌, ◌^◌, ◌<◌, ◌≤◌, ◌&&◌, nat_le, nat_lt, Bool, true, false, All, List, [], ◌∷◌, ◌++◌, map, length, get_or, take, refl, sym, ap, ap₂, ◌∙◌, subst, inl, inr, arith}
use Rattle.std.specs.List.{list_all}
use Rattle.std.proofs.lemmas.Bool.{cases_lt, both_ways, and_from, leb-true, le-leb, lt-ltb}
use Rattle.std.proofs.lemmas.List.{length-map, length_push, get_or-map, get_or_append_left, get_or_push, get_or_past}
use Rattle.std.proofs.lemmas.List.Elements.{All-contains}
use Rattle.std.proofs.lemmas.List.Sums.{AllPass-from_list_all, list_all-from_AllPass, sum_by_more, sum_by_push}
use Rattle.std.proofs.lemmas.List.Folds.{list_all-append}
use Rattle.syn_rows.specs.declared.Lit.{Lit}
use Rattle.syn_rows.specs.Rows.{node_of}
use Rattle.syn_rows.specs.Values.{lit_value}
use Rattle.syn_hashed.specs.Hashed.{lit_at}
use Rattle.syn_lists.specs.Numbers.{distinct_numbers}
use Rattle.syn_lutnet.specs.LutData.{Lut, greatest, is_input, is_lut, lut_at, lut_value, no_lut, none_exceeds, rising}
use Rattle.syn_lutnet.proofs.Deepest.{greatest_at, greatest_le}
use Rattle.syn_lutnet.proofs.LutParts.{input_high, lut_parts}
use Rattle.syn_absorb.specs.Costs.{NeverFalls, cost_by}
use Rattle.syn_absorb.specs.Needed.{DependsOn}
use Rattle.syn_absorb.specs.Rebuilding.{FitsLuts, FitsDepths, IsCopy, IsNext, IsPlaced, IsRebuilt, IsResolved, signed_lit}
use Rattle.syn_absorb.proofs.Literals.{signed_node, signed_value}
use Rattle.syn_absorb.proofs.Same.{value_local}

lit_kept : (lits : List Lit) (lit : Lit) (n : ℕ) → n < length lits → lit_at (lits ++ lit ∷ []) n ≡ lit_at lits n
lit_kept lits lit n lt = get_or_append_left lits (lit ∷ []) (record { 0 = 0 }) n lt

lit_last : (lits : List Lit) (lit : Lit) → lit_at (lits ++ lit ∷ []) (length lits) ≡ lit
lit_last lits lit = get_or_push lits lit (record { 0 = 0 }) (length lits) refl

-- of the literals of the sources alone
pub rebuilt_start : (count : ℕ) (luts : List Lut) (set : ℕ → Bool) (lits : List Lit) → length lits ≡ count + 1 → ((n : ℕ) → n < count + 1 → lit_at lits n ≡ signed_lit n false) → IsRebuilt count luts set lits []
rebuilt_start count luts set lits long own = record {
  front = omega (arith, long);
  few = omega (arith, long);
  fewer = λ n le lt off. absurd (omega (arith, le, lt, long));
  fits = λ j lt. absurd (omega (arith, lt));
  depend = λ j lt. absurd (omega (arith, lt));
  within = λ n. elim (cases_lt n (count + 1)) [
    | inl lt ↦ omega (arith, ap node_of (own n lt), signed_node n false, lt)
    | inr ge ↦ omega (arith, ap node_of (get_or_past lits n (record { 0 = 0 }) (omega (arith, long, ge))), constant)
  ];
  sources = own;
  inputs = λ k h. refl;
  cheaper = λ cost rises. omega arith;
  values = λ v w fits_v fits_w same n lt on. ap (lit_value w) (own n (omega (arith, lt, long))) ∙ signed_value w n false ∙ same n (omega (arith, lt, long));
  depths = λ d e fits_d fits_e n lt on.
      let low : n < count + 1 = omega (arith, lt, long) in
      let node = ap node_of (own n low) ∙ signed_node n false in
      omega (arith, ap e node, fits_e.others n low);
  lows = λ d e bound fits_d fits_e high j lt. absurd (omega (arith, lt));
}
  where
    constant : node_of (record { 0 = 0 }) ≡ 0
    constant = omega arith

fits_before : (first : ℕ) (luts : List Lut) (l : Lut) (v : ℕ → Bool) → FitsLuts first (luts ++ l ∷ []) v → FitsLuts first luts v
fits_before first luts l v fits = record {
  constant = fits.constant;
  each = λ j lt. fits.each j (omega (arith, lt, length_push luts l)) ∙ ap (lut_value v) (get_or_append_left luts (l ∷ []) no_lut j lt);
}

depths_before : (first : ℕ) (luts : List Lut) (l : Lut) (d : ℕ → ℕ) → FitsDepths first (luts ++ l ∷ []) d → FitsDepths first luts d
depths_before first luts l d fits = record {
  others = fits.others;
  each = λ j lt. fits.each j (omega (arith, lt, length_push luts l)) ∙ ap (λ (x : Lut). greatest d x.inputs + 1) (get_or_append_left luts (l ∷ []) no_lut j lt);
}

module _ (count : ℕ) (luts : List Lut) (set : ℕ → Bool) (lits : List Lit) (new : List Lut) (so_far : IsRebuilt count luts set lits new)
    (i : ℕ) (long : length lits ≡ count + 1 + i) (there : i < length luts) (fit : is_lut (count + 1 + i) (lut_at luts i) ≡ true)
    (closed : set (count + 1 + i) ≡ true → All (λ m. set m ≡ true) (lut_at luts i).inputs) where
  abbrev first : ℕ
  first = count + 1

  abbrev old : Lut
  old = lut_at luts i

  low : All (λ m. m < first + i) old.inputs
  low k d lt = input_high (first + i) (get_or old.inputs k d) (AllPass-from_list_all (is_input (first + i)) old.inputs (lut_parts (first + i) old fit).inside k d lt)

  -- what the inputs became has their values,
  read_same : (v w : ℕ → Bool) → FitsLuts first luts v → FitsLuts first new w → ((n : ℕ) → n < first → w n ≡ v n) → set (first + i) ≡ true → lut_value (λ m. lit_value w (lit_at lits m)) old ≡ v (first + i)
  read_same v w fits_v fits_w same on =
      value_local (λ m. lit_value w (lit_at lits m)) v old (map_same old.inputs (λ k d lt. so_far.values v w fits_v fits_w same (get_or old.inputs k d) (omega (arith, low k d lt, long)) (closed on k d lt)))
      ∙ sym (fits_v.each i there)
    where
      map_same : (ns : List ℕ) → All (λ m. lit_value w (lit_at lits m) ≡ v m) ns → map (λ m. lit_value w (lit_at lits m)) ns ≡ map v ns
      map_same [] all = refl
      map_same (n ∷ ns) all = ap₂ (λ (y : Bool) (ys : List Bool). y ∷ ys) (all 0 n (omega arith)) (map_same ns (λ k d lt. all (suc k) d (omega (arith, lt))))

  -- and lies no deeper
  read_low : (d e : ℕ → ℕ) → FitsDepths first luts d → FitsDepths first new e → set (first + i) ≡ true → (l : Lut) → IsResolved lits old l → All (λ m. e m + 1 ≤ d (first + i)) l.inputs
  read_low d e fits_d fits_e on l resolved k x lt =
      All-contains (λ m. e m + 1 ≤ d (first + i)) nodes (get_or l.inputs k x) each (resolved.inputs k x lt)
    where
      nodes : List ℕ
      nodes = map (λ m. node_of (lit_at lits m)) old.inputs

      each : All (λ m. e m + 1 ≤ d (first + i)) nodes
      each j y inside =
          let at : j < length old.inputs = omega (arith, inside, length-map old.inputs (λ m. node_of (lit_at lits m))) in
          let m : ℕ = get_or old.inputs j 0 in
          let is : get_or nodes j y ≡ node_of (lit_at lits m) = get_or-map (λ m. node_of (lit_at lits m)) old.inputs j 0 y at in
          omega (arith, ap e is, so_far.depths d e fits_d fits_e m (omega (arith, low j 0 at, long)) (closed on j 0 at), fits_d.each i there, greatest_at d old.inputs j 0 at)

  -- one LUT more of those before costs what the new ones may
  cost_more : (cost : ℕ → ℕ) → NeverFalls cost → (lit : Lit) → cost_by cost new + cost (length old.inputs) ≤ cost_by cost (take (length (lits ++ lit ∷ []) - first) luts)
  cost_more cost rises lit =
      let before : length lits - first ≡ i = omega (arith, long) in
      let after : length (lits ++ lit ∷ []) - first ≡ i + 1 = omega (arith, long, length_push lits lit) in
      omega (
        arith,
        so_far.cheaper cost rises,
        ap (λ n. cost_by cost (take n luts)) before,
        ap (λ n. cost_by cost (take n luts)) after,
        sum_by_more (λ (x : Lut). cost (length x.inputs)) luts i no_lut there,
      )

  -- a literal for which no LUT is put
  pub more_same : (lit : Lit) → node_of lit < first + length new
      → ((v w : ℕ → Bool) → FitsLuts first luts v → FitsLuts first new w → ((n : ℕ) → n < first → w n ≡ v n) → set (first + i) ≡ true → lit_value w lit ≡ v (first + i))
      → ((d e : ℕ → ℕ) → FitsDepths first luts d → FitsDepths first new e → set (first + i) ≡ true → e (node_of lit) ≤ d (first + i)) → IsRebuilt count luts set (lits ++ lit ∷ []) new
  more_same lit inside value depth = record {
    front = omega (arith, so_far.front, length_push lits lit);
    few = omega (arith, so_far.few, length_push lits lit);
    fewer = λ n le lt off. omega (arith, so_far.few, length_push lits lit);
    fits = so_far.fits;
    depend = so_far.depend;
    within = λ n. elim (cases_lt n (length lits)) [
      | inl lt ↦ omega (arith, ap node_of (lit_kept lits lit n lt), so_far.within n)
      | inr ge ↦ above n ge
    ];
    sources = λ n lt. lit_kept lits lit n (omega (arith, lt, so_far.front)) ∙ so_far.sources n lt;
    inputs = so_far.inputs;
    cheaper = λ cost rises. omega (arith, cost_more cost rises lit);
    values = λ v w fits_v fits_w same n lt on. elim (cases_lt n (length lits)) [
      | inl less ↦ ap (lit_value w) (lit_kept lits lit n less) ∙ so_far.values v w fits_v fits_w same n less on
      | inr ge ↦
          let at : n ≡ first + i = omega (arith, lt, ge, length_push lits lit, long) in
          ap (lit_value w) (last n at) ∙ value v w fits_v fits_w same (sym (ap set at) ∙ on) ∙ sym (ap v at)
    ];
    depths = λ d e fits_d fits_e n lt on. elim (cases_lt n (length lits)) [
      | inl less ↦ omega (arith, ap (λ (x : Lit). e (node_of x)) (lit_kept lits lit n less), so_far.depths d e fits_d fits_e n less on)
      | inr ge ↦
          let at : n ≡ first + i = omega (arith, lt, ge, length_push lits lit, long) in
          omega (arith, ap (λ (x : Lit). e (node_of x)) (last n at), depth d e fits_d fits_e (sym (ap set at) ∙ on), ap d at)
    ];
    lows = so_far.lows;
  }
    where
      last : (n : ℕ) → n ≡ first + i → lit_at (lits ++ lit ∷ []) n ≡ lit
      last n at = ap (lit_at (lits ++ lit ∷ [])) (at ∙ sym long) ∙ lit_last lits lit

      above : (n : ℕ) → length lits ≤ n → node_of (lit_at (lits ++ lit ∷ []) n) < first + length new
      above n ge = elim (cases_lt n (length lits + 1)) [
        | inl lt ↦ omega (arith, ap node_of (last n (omega (arith, lt, ge, long))), inside)
        | inr past ↦ omega (arith, ap node_of (get_or_past (lits ++ lit ∷ []) n (record { 0 = 0 }) (omega (arith, past, length_push lits lit))), constant)
      ]
        where
          constant : node_of (record { 0 = 0 }) ≡ 0
          constant = omega arith

  -- a LUT is put, and the literal is its own
  module _ (l : Lut) (lit : Lit) (on : set (first + i) ≡ true) (resolved : IsResolved lits old l) (two : 2 ≤ length l.inputs) (own : lit ≡ signed_lit (first + length new) false) where
    abbrev more : List Lut
    more = new ++ l ∷ []

    longer : length more ≡ length new + 1
    longer = length_push new l

    node : node_of lit ≡ first + length new
    node = ap node_of own ∙ signed_node (first + length new) false

    at_last : lut_at more (length new) ≡ l
    at_last = get_or_push new l no_lut (length new) refl

    at_before : (j : ℕ) → j < length new → lut_at more j ≡ lut_at new j
    at_before j lt = get_or_append_left new (l ∷ []) no_lut j lt

    by_place : (P : ℕ → Lut → Type 0) → ((j : ℕ) → j < length new → P j (lut_at new j)) → P (length new) l → (j : ℕ) → j < length more → P j (lut_at more j)
    by_place P each here j lt = elim (cases_lt j (length new)) [
      | inl less ↦ subst (P j) (sym (at_before j less)) (each j less)
      | inr ge ↦
          let at : j ≡ length new = omega (arith, lt, ge, longer) in
          subst (λ k. P k (lut_at more k)) (sym at) (subst (P (length new)) (sym at_last) here)
    ]

    inside : All (λ m. m < first + length new) l.inputs
    inside k x lt = All-contains (λ m. m < first + length new) (map (λ m. node_of (lit_at lits m)) old.inputs) (get_or l.inputs k x)
        (λ j y at.
        let below : j < length old.inputs = omega (arith, at, length-map old.inputs (λ m. node_of (lit_at lits m))) in
        omega (arith, get_or-map (λ m. node_of (lit_at lits m)) old.inputs j 0 y below, so_far.within (get_or old.inputs j 0)))
        (resolved.inputs k x lt)

    is_own : is_lut (first + length new) l ≡ true
    is_own =
        let n : ℕ = first + length new in
        let small : Bool = list_all (λ m. nat_lt m (2 ^ length l.inputs)) l.ones in
        and_from (nat_le 2 (length l.inputs)) (distinct_numbers l.inputs && (list_all (is_input n) l.inputs && (rising l.ones && small))) (le-leb 2 (length l.inputs) two)
        (and_from (distinct_numbers l.inputs) (list_all (is_input n) l.inputs && (rising l.ones && small)) resolved.needed.once
        (and_from (list_all (is_input n) l.inputs) (rising l.ones && small)
        (list_all-from_AllPass (is_input n) l.inputs
        (λ k x lt. and_from (nat_le 1 (get_or l.inputs k x)) (nat_lt (get_or l.inputs k x) n) (le-leb 1 (get_or l.inputs k x) (resolved.needed.low k x lt)) (lt-ltb (get_or l.inputs k x) n (inside k x lt))))
        (and_from (rising l.ones) small resolved.rise resolved.small)))

    pub more_luts : IsRebuilt count luts set (lits ++ lit ∷ []) more
    more_luts = record {
      front = omega (arith, so_far.front, length_push lits lit);
      few = omega (arith, so_far.few, length_push lits lit, longer);
      fewer = λ n le lt off. elim (cases_lt n (length lits)) [
        | inl less ↦ omega (arith, so_far.fewer n le less off, length_push lits lit, longer)
        | inr ge ↦
            let at : n ≡ first + i = omega (arith, lt, ge, length_push lits lit, long) in
            absurd (both_ways (set n) off (ap set at ∙ on))
      ];
      fits = by_place (λ j x. is_lut (first + j) x ≡ true) so_far.fits is_own;
      depend = by_place (λ j x. All (DependsOn x) x.inputs) so_far.depend resolved.needed.depends;
      within = λ n. elim (cases_lt n (length lits)) [
        | inl lt ↦ omega (arith, ap node_of (lit_kept lits lit n lt), so_far.within n, longer)
        | inr ge ↦ above n ge
      ];
      sources = λ n lt. lit_kept lits lit n (omega (arith, lt, so_far.front)) ∙ so_far.sources n lt;
      inputs = λ k h.
          let few : length old.inputs ≤ k = leb-true (length old.inputs) k (AllPass-from_list_all (λ x. nat_le (length x.inputs) k) luts h i no_lut there) in
          list_all-append (λ x. nat_le (length x.inputs) k) new (l ∷ [])
          ∙ and_from (none_exceeds k new) (nat_le (length l.inputs) k && true) (so_far.inputs k h) (and_from (nat_le (length l.inputs) k) true (le-leb (length l.inputs) k (omega (arith, resolved.fewer, few))) refl);
      cheaper = λ cost rises. omega (arith, cost_more cost rises lit, sum_by_push (λ (x : Lut). cost (length x.inputs)) new l, rises (length l.inputs) (length old.inputs) resolved.fewer);
      values = λ v w fits_v fits_w same n lt wanted. elim (cases_lt n (length lits)) [
        | inl less ↦ ap (lit_value w) (lit_kept lits lit n less) ∙ so_far.values v w fits_v (fits_before first new l w fits_w) same n less wanted
        | inr ge ↦
            let at : n ≡ first + i = omega (arith, lt, ge, length_push lits lit, long) in
            ap (lit_value w) (last n at ∙ own) ∙ signed_value w (first + length new) false
            ∙ fits_w.each (length new) (omega (arith, longer)) ∙ ap (lut_value w) at_last ∙ resolved.value w fits_w.constant
            ∙ read_same v w fits_v (fits_before first new l w fits_w) same on ∙ sym (ap v at)
      ];
      depths = λ d e fits_d fits_e n lt wanted. elim (cases_lt n (length lits)) [
        | inl less ↦ omega (arith, ap (λ (x : Lit). e (node_of x)) (lit_kept lits lit n less), so_far.depths d e fits_d (depths_before first new l e fits_e) n less wanted)
        | inr ge ↦
            let at : n ≡ first + i = omega (arith, lt, ge, length_push lits lit, long) in
            omega (arith, ap (λ (x : Lit). e (node_of x)) (last n at), ap e node, deep d e fits_d fits_e, ap d at)
      ];
      lows = λ d e bound fits_d fits_e high j lt. elim (cases_lt j (length new)) [
        | inl less ↦ so_far.lows d e bound fits_d (depths_before first new l e fits_e) high j less
        | inr ge ↦
            let at : j ≡ length new = omega (arith, lt, ge, longer) in
            omega (arith, ap (λ k. e (first + k)) at, deep d e fits_d fits_e, high (first + i))
      ];
    }
      where
        last : (n : ℕ) → n ≡ first + i → lit_at (lits ++ lit ∷ []) n ≡ lit
        last n at = ap (lit_at (lits ++ lit ∷ [])) (at ∙ sym long) ∙ lit_last lits lit

        above : (n : ℕ) → length lits ≤ n → node_of (lit_at (lits ++ lit ∷ []) n) < first + length more
        above n ge = elim (cases_lt n (length lits + 1)) [
          | inl lt ↦ omega (arith, ap node_of (last n (omega (arith, lt, ge, long))), node, longer)
          | inr past ↦ omega (arith, ap node_of (get_or_past (lits ++ lit ∷ []) n (record { 0 = 0 }) (omega (arith, past, length_push lits lit))), constant)
        ]
          where
            constant : node_of (record { 0 = 0 }) ≡ 0
            constant = omega arith

        deep : (d e : ℕ → ℕ) → FitsDepths first luts d → FitsDepths first more e → e (first + length new) ≤ d (first + i)
        deep d e fits_d fits_e =
            let each = read_low d e fits_d (depths_before first new l e fits_e) on l resolved in
            let is = fits_e.each (length new) (omega (arith, longer)) ∙ ap (λ (x : Lut). greatest e x.inputs + 1) at_last in
            let some : 1 ≤ d (first + i) = omega (arith, each 0 0 (omega (arith, two))) in
            let top : greatest e l.inputs ≤ d (first + i) - 1 = greatest_le e l.inputs (d (first + i) - 1) (λ k lt. omega (arith, each k 0 lt)) in
            omega (arith, is, top, some)

  -- a literal that copies
  copied : (l : Lut) (lit : Lit) → set (first + i) ≡ true → IsResolved lits old l → IsCopy l lit → IsRebuilt count luts set (lits ++ lit ∷ []) new
  copied l lit on resolved copy = more_same lit inside
      (λ v w fits_v fits_w same wanted. copy.value w fits_w.constant ∙ resolved.value w fits_w.constant ∙ read_same v w fits_v fits_w same on)
      (λ d e fits_d fits_e wanted. elim copy.node [
        | inl zeroth ↦ omega (arith, ap e zeroth, fits_e.others 0 (omega arith))
        | inr has ↦
            let each = All-contains (λ m. e m + 1 ≤ d (first + i)) l.inputs (node_of lit) (read_low d e fits_d fits_e on l resolved) has in
            omega (arith, each)
      ])
    where
      inside : node_of lit < first + length new
      inside = elim copy.node [
        | inl zeroth ↦ omega (arith, zeroth)
        | inr has ↦ All-contains (λ m. m < first + length new) l.inputs (node_of lit)
            (λ k x lt. All-contains (λ m. m < first + length new) (map (λ m. node_of (lit_at lits m)) old.inputs) (get_or l.inputs k x)
            (λ j y at.
            let below : j < length old.inputs = omega (arith, at, length-map old.inputs (λ m. node_of (lit_at lits m))) in
            omega (arith, get_or-map (λ m. node_of (lit_at lits m)) old.inputs j 0 y below, so_far.within (get_or old.inputs j 0)))
            (resolved.inputs k x lt)) has
      ]

  pub rebuilt_next : (wanted : Bool) (lit : Lit) (now : List Lut) → set (first + i) ≡ wanted → IsNext first wanted lits old new now lit → IsRebuilt count luts set (lits ++ lit ∷ []) now
  unfolding IsNext IsPlaced
  rebuilt_next false lit now off (same, is) = subst (λ (ls : List Lut). IsRebuilt count luts set (lits ++ lit ∷ []) ls) (sym same)
      (more_same lit (omega (arith, ap node_of is, signed_node 0 false)) (λ v w fits_v fits_w agree wanted. absurd (both_ways (set (first + i)) off wanted)) (λ d e fits_d fits_e wanted. absurd (both_ways (set (first + i)) off wanted)))
  rebuilt_next true lit now on (l, resolved, inl (same, copy)) = subst (λ (ls : List Lut). IsRebuilt count luts set (lits ++ lit ∷ []) ls) (sym same) (copied l lit on resolved copy)
  rebuilt_next true lit now on (l, resolved, inr added) = subst (λ (ls : List Lut). IsRebuilt count luts set (lits ++ lit ∷ []) ls) (sym added.luts) (more_luts l lit on resolved added.many added.own)
