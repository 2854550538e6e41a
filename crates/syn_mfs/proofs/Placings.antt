-- LUTs stay placed while rows grow and LUTs are replaced by others of the same value.
use Rattle.std.proofs.Common.{◌≡◌, ℕ, ◌+◌, ◌<◌, Bool, false, true, List, [], ◌∷◌, map, length, set, get_or, refl, sym, ap, ap₂, ◌∙◌, inl, inr, arith}
use Rattle.std.specs.List.{list_all}
use Rattle.std.proofs.lemmas.Bool.{cases_eq, cases_lt}
use Rattle.std.proofs.lemmas.List.{get_or-map, get_or-set_other, get_or-set_same, get_or_past, length-map, length-set}
use Rattle.syn_rows.specs.declared.Lit.{Lit}
use Rattle.syn_rows.specs.declared.Row.{Row}
use Rattle.syn_rows.specs.Joining.{lit_of}
use Rattle.syn_rows.specs.Rows.{node_of}
use Rattle.syn_rows.specs.Values.{value_in, values_of}
use Rattle.syn_hashed.specs.Growing.{Extends, value_by}
use Rattle.syn_hashed.specs.Hashed.{IsHashed, lit_at}
use Rattle.syn_hashed.proofs.Rising.{literal_kept}
use Rattle.syn_fraig.specs.Merging.{SameBy}
use Rattle.syn_fraig.proofs.Grown.{computed_fit}
use Rattle.syn_lutnet.specs.LutData.{Lut, fold_luts, lut_at, lut_value, no_lut, ones_of, ones_value}
use Rattle.syn_lutnet.specs.Data.{lut_data}
use Rattle.syn_lutnet.specs.declared.luts.Lut as code
use Rattle.syn_lutnet.proofs.Folding.{In, lut_step, luts_kept}
use Rattle.syn_placing.proofs.Placed.{there_kept, values_kept}
use Rattle.syn_absorb.specs.Rebuilding.{FitsLuts}
use Rattle.syn_absorb.proofs.Same.{value_local}
use Rattle.syn_lut_rows.specs.LutLiterals.{AllThere, reads_below}
use Rattle.syn_lut_rows.proofs.Literals.{inputs_there}
use Rattle.syn_mfs.specs.Placing.{ArePlaced, HasValue, signal_by}

-- values

map_same : (f g : ℕ → Bool) → ((n : ℕ) → f n ≡ g n) → (xs : List ℕ) → map f xs ≡ map g xs
map_same f g same [] = refl
map_same f g same (x ∷ xs) = ap₂ (λ (y : Bool) (ys : List Bool). y ∷ ys) (same x) (map_same f g same xs)

map_twice : (f : Lit → Bool) (lits : List Lit) (xs : List ℕ) → map f (map (lit_at lits) xs) ≡ map (λ m. f (lit_at lits m)) xs
map_twice f lits [] = refl
map_twice f lits (x ∷ xs) = ap (λ (ys : List Bool). f (lit_at lits x) ∷ ys) (map_twice f lits xs)

-- values that are the same fit too
pub fits_same : (first : ℕ) (luts : List Lut) (v w : ℕ → Bool) → ((n : ℕ) → w n ≡ v n) → FitsLuts first luts v → FitsLuts first luts w
fits_same first luts v w same f = record {
  constant = same 0 ∙ f.constant;
  each = λ j lt. same (first + j) ∙ f.each j lt ∙ value_local v w (lut_at luts j) (sym (map_same w v same (lut_at luts j).inputs));
}

-- a LUT in the place of one of the same value
fits_set : (first : ℕ) (luts : List Lut) (v : ℕ → Bool) (i : ℕ) (l : Lut) → i < length luts → FitsLuts first luts v → lut_value v l ≡ v (first + i) → FitsLuts first (set luts i l) v
fits_set first luts v i l lt f value = record {
  constant = f.constant;
  each = λ j less. elim (cases_eq j i) [
    | inl e ↦ ap (λ k. v (first + k)) e ∙ sym value ∙ ap (lut_value v) (sym (ap (lut_at (set luts i l)) e ∙ get_or-set_same luts i l no_lut lt))
    | inr ne ↦ f.each j (omega (arith, less, length-set luts i l)) ∙ ap (lut_value v) (sym (get_or-set_other luts i j l no_lut ne))
  ];
}

-- the computed values of LUTs fit
folded_fit : (first : ℕ) (luts : List Lut) (done : List Bool) → length done ≡ first → 0 < first → get_or done 0 false ≡ false → ((j : ℕ) → j < length luts → In (first + j) (lut_at luts j).inputs) → FitsLuts first luts (value_in (fold_luts lut_value false done luts))
folded_fit first luts done long some zeroth inside = record {
  constant = luts_kept lut_value false done luts 0 false (omega (arith, long, some)) ∙ zeroth;
  each = λ j lt. lut_step lut_value false value_local done luts (first + j) j (omega (arith, long)) lt (inside j lt);
}

-- literals

there_at : (rows : List Row) (lits : List Lit) → AllThere rows lits → 0 < length rows → (n : ℕ) → node_of (lit_at lits n) < length rows
there_at rows lits there some n = elim (cases_lt n (length lits)) [
  | inl lt ↦ there n (record { 0 = 0 }) lt
  | inr past ↦ omega (arith, some, ap node_of (get_or_past lits n (record { 0 = 0 }) past))
]

-- rows that grew
pub placed_grown : (first : ℕ) (luts : List Lut) (old new : List Row) (lits : List Lit) → 0 < length old → Extends old new → ArePlaced first luts old lits → ArePlaced first luts new lits
placed_grown first luts old new lits some e p = record {
  long = p.long;
  there = there_kept old new lits e p.there;
  fits = λ given zeroth. fits_same first luts (signal_by given old lits) (signal_by given new lits)
      (λ n. literal_kept given old new e (lit_at lits n) (there_at old lits p.there some n)) (p.fits given zeroth);
}

-- a LUT in the place of another
pub placed_set : (first : ℕ) (luts : List Lut) (rows : List Row) (lits : List Lit) (i : ℕ) (l : Lut) → i < length luts → HasValue rows lits l (first + i) → ArePlaced first luts rows lits → ArePlaced first (set luts i l) rows lits
placed_set first luts rows lits i l lt value p = record {
  long = omega (arith, p.long, length-set luts i l);
  there = p.there;
  fits = λ given zeroth. fits_set first luts (signal_by given rows lits) i l lt (p.fits given zeroth) (value given zeroth);
}

-- the literals of a net's LUTs, after those of the constant and of the sources
pub net_placed : (first : ℕ) (luts : List Lut) (old new : List Row) (before lits : List Lit) → length before ≡ first → 0 < first → lit_at before 0 ≡ lit_of 0 → length lits ≡ length before + length luts → AllThere new lits
    → ((given : ℕ → Bool) → given 0 ≡ false → value_in (values_of given old) 0 ≡ false) → ((given : ℕ → Bool) → given 0 ≡ false → value_in (values_of given new) 0 ≡ false)
    → ((j : ℕ) → j < length luts → In (first + j) (lut_at luts j).inputs)
    → ((given : ℕ → Bool) → given 0 ≡ false → map (value_by given new) lits ≡ fold_luts lut_value false (map (value_by given old) before) luts) → ArePlaced first luts new lits
net_placed first luts old new before lits size some own long there old_0 new_0 inside values = record {
  long = omega (arith, long, size);
  there = there;
  fits = λ given zeroth.
      let done : List Bool = map (value_by given old) before in
      let folded : List Bool = fold_luts lut_value false done luts in
      let begun : get_or done 0 false ≡ false = get_or-map (value_by given old) before 0 (record { 0 = 0 }) false (omega (arith, size, some)) ∙ ap (value_by given old) own ∙ old_0 given zeroth in
      let all : FitsLuts first luts (value_in folded) = folded_fit first luts done (length_done given) some begun inside in
      fits_same first luts (value_in folded) (signal_by given new lits) (λ n. at given zeroth n ∙ ap (λ (vs : List Bool). value_in vs n) (values given zeroth)) all;
}
  where
    length_done : (given : ℕ → Bool) → length (map (value_by given old) before) ≡ first
    length_done given = length-map before (value_by given old) ∙ size

    at : (given : ℕ → Bool) → given 0 ≡ false → (n : ℕ) → signal_by given new lits n ≡ get_or (map (value_by given new) lits) n false
    at given zeroth n = elim (cases_lt n (length lits)) [
      | inl lt ↦ sym (get_or-map (value_by given new) lits n (record { 0 = 0 }) false lt)
      | inr past ↦ ap (value_by given new) (get_or_past lits n (record { 0 = 0 }) past) ∙ new_0 given zeroth
          ∙ sym (get_or_past (map (value_by given new) lits) n false (omega (arith, past, length-map lits (value_by given new))))
    ]

-- a LUT whose gates' literal has the value of a signal's
pub has_value : (count : ℕ) (old new : List Row) (lits : List Lit) (l : code.Lut) (signal : ℕ) (lit : Lit) → IsHashed count new → Extends old new → AllThere old lits → list_all (reads_below (length lits)) l.inputs.items ≡ true
    → ((given : ℕ → Bool) → given 0 ≡ false → value_by given new lit ≡ ones_value (ones_of l.truth) (map (value_by given old) (map (lit_at lits) l.inputs.items))) → SameBy new lit (lit_at lits signal) → HasValue new lits (lut_data l) signal
has_value count old new lits l signal lit hashed grows there reads value same given zeroth =
    ap (ones_value (ones_of l.truth)) (sym (map_twice (value_by given new) lits l.inputs.items) ∙ values_kept given old new grows (map (lit_at lits) l.inputs.items) (inputs_there old lits l.inputs.items there reads))
    ∙ sym (value given zeroth) ∙ same (value_in (values_of given new)) (computed_fit count new hashed given zeroth)
