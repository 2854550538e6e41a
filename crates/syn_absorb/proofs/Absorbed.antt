-- What holds of a net whose LUTs that more literals observe complemented than plain are complemented.
use Rattle.std.proofs.Common.{◌≡◌, ℕ, ◌+◌, ◌<◌, ◌&&◌, nat_le, Bool, false, All, List, length, map, sym, ap, ap₂, ◌∙◌, subst, arith, refl, [], ◌∷◌}
use Rattle.std.proofs.lemmas.Bool.{false_from_ne_true, leb-true}
use Rattle.std.proofs.lemmas.List.Elements.{All-weaker}
use Rattle.syn_rows.specs.declared.Lit.{Lit}
use Rattle.syn_rows.specs.Values.{value_in}
use Rattle.syn_lutnet.specs.LutData.{Lut, lut_at, lut_value, IsLutNet, ones_value}
use Rattle.syn_lutnet.specs.declared.luts.Lut as code
use Rattle.syn_lutnet.specs.Data.{luts_data}
use Rattle.syn_absorb.specs.Flips.{xor, flip_in, flipped_lit, is_flipped, is_mostly_opposite, IsFlipped, AreFlipped, AllShown, MostShown, IsFlippedTo}
use Rattle.syn_absorb.specs.Needed.{AllDepend, DependsOn}
use Rattle.syn_absorb.proofs.Flipped.{xor_xor}
use Rattle.syn_absorb.proofs.Same.{IsSameNet, net_same}
use Rattle.syn_absorb.proofs.Observing.{all_shown, flipped_most}

map_same : (f g : ℕ → Bool) → ((n : ℕ) → f n ≡ g n) → (ns : List ℕ) → map f ns ≡ map g ns
map_same f g h [] = refl
map_same f g h (n ∷ ns) = ap₂ (λ (y : Bool) (ys : List Bool). y ∷ ys) (h n) (map_same f g h ns)

-- a test that agrees
same_flips : (f g : ℕ → Bool) → ((n : ℕ) → f n ≡ g n) → (first : ℕ) (luts new : List Lut) → AreFlipped f first luts new → AreFlipped g first luts new
same_flips f g h first luts new made = record {
  long = made.long;
  each = λ j lt. record {
    inputs = (made.each j lt).inputs;
    value = λ v. (made.each j lt).value v ∙ ap₂ (λ (a b : Bool). xor a b) (h (first + j)) (ap (ones_value (lut_at luts j).ones) (map_same (λ m. xor (f m) (v m)) (λ m. xor (g m) (v m)) (λ m. ap (λ a. xor a (v m)) (h m)) (lut_at luts j).inputs));
    rise = (made.each j lt).rise;
    small = (made.each j lt).small;
  };
}

-- a LUT with complements depends on what it depended on
turned : (flip : ℕ → Bool) (n : ℕ) (old new : Lut) → IsFlipped flip n old new → (m : ℕ) → DependsOn old m → DependsOn new m
turned flip n old new made m d = record {
  first = λ k. xor (flip k) (d.first k);
  second = λ k. xor (flip k) (d.second k);
  agree = λ k ne. ap (xor (flip k)) (d.agree k ne);
  differ = λ same. d.differ (back (lut_value d.first old) (lut_value d.second old) (sym (at d.first) ∙ same ∙ at d.second));
}
  where
    at : (v : ℕ → Bool) → lut_value (λ k. xor (flip k) (v k)) new ≡ xor (flip n) (lut_value v old)
    at v = made.value (λ k. xor (flip k) (v k)) ∙ ap (λ (xs : List Bool). xor (flip n) (ones_value old.ones xs)) (map_same (λ k. xor (flip k) (xor (flip k) (v k))) v (λ k. xor_xor (flip k) (v k)) old.inputs)

    back : (a b : Bool) → xor (flip n) a ≡ xor (flip n) b → a ≡ b
    back a b e = sym (xor_xor (flip n) a) ∙ ap (xor (flip n)) e ∙ xor_xor (flip n) b

pub depend_still : (flip : ℕ → Bool) (first : ℕ) (luts new : List Lut) → AreFlipped flip first luts new → AllDepend luts → AllDepend new
depend_still flip first luts new made all j lt =
    let there : j < length luts = omega (arith, lt, made.long) in
    subst (λ (is : List ℕ). All (DependsOn (lut_at new j)) is) (sym (made.each j there).inputs)
    (All-weaker (DependsOn (lut_at luts j)) (DependsOn (lut_at new j)) (turned flip (first + j) (lut_at luts j) (lut_at new j) (made.each j there)) (lut_at luts j).inputs (all j there))

pub flipped_to : (first first2 : ℕ) (luts luts2 new : List Lut) (lits lits2 outs : List Lit) (marks slice : List Bool) → first2 ≡ first → luts2 ≡ luts → lits2 ≡ lits → slice ≡ marks → ((n : ℕ) → value_in marks n ≡ is_mostly_opposite lits2 n)
    → AreFlipped (flip_in first2 slice) first2 luts2 new → outs ≡ map (flipped_lit (flip_in first2 slice)) lits2 → IsFlippedTo first luts lits new outs
unfolding IsFlippedTo
flipped_to first first2 luts luts2 new lits lits2 outs marks slice first_is luts_are lits_are slice_is marked made out = (
  flip_in first2 slice,
  (λ n. ap₂ (λ (a b : Bool). a && b) (ap (λ k. nat_le k n) first_is) (ap (λ (bs : List Bool). value_in bs n) slice_is ∙ marked n ∙ ap (λ (ls : List Lit). is_mostly_opposite ls n) lits_are)),
  subst (λ k. AreFlipped (flip_in first2 slice) k luts new) first_is (subst (λ (ls : List Lut). AreFlipped (flip_in first2 slice) first2 ls new) luts_are made),
  out ∙ ap (map (flipped_lit (flip_in first2 slice))) lits_are,
)

pub record Moved (count : ℕ) (luts : List Lut) (lits : List Lit) (new : List Lut) (outs : List Lit) : Type 0 where
  pub same : IsSameNet count luts lits new outs
  pub flipped : AreFlipped (is_flipped (count + 1) lits) (count + 1) luts new
  pub most : MostShown (count + 1) outs
  pub shown : AllShown (count + 1) outs

pub moved : (count : ℕ) (luts new : List Lut) (lits outs : List Lit) → IsLutNet count luts lits → IsFlippedTo (count + 1) luts lits new outs → Moved count luts lits new outs
unfolding IsFlippedTo
moved count luts new lits outs net (flip, is, made, out) = record {
  same = subst (λ (os : List Lit). IsSameNet count luts lits new os) (sym out) (net_same count luts new lits flip none net made);
  flipped = same_flips flip (is_flipped (count + 1) lits) is (count + 1) luts new made;
  most = most;
  shown = all_shown (count + 1) outs most;
}
  where
    most : MostShown (count + 1) outs
    most = subst (λ (os : List Lit). MostShown (count + 1) os) (sym out) (flipped_most (count + 1) lits flip is)

    none : (n : ℕ) → n < count + 1 → flip n ≡ false
    none n lt = is n ∙ ap (λ a. a && is_mostly_opposite lits n) (false_from_ne_true (nat_le (count + 1) n) (λ e. omega (arith, leb-true (count + 1) n e, lt)))

-- the same of lists that are kept by other names
pub moved_to : (count : ℕ) (luts new kept : List code.Lut) (lits outs seen : List Lit) → IsLutNet count (luts_data luts) lits → kept ≡ new → seen ≡ outs → IsFlippedTo (count + 1) (luts_data luts) lits (luts_data new) outs → Moved count (luts_data luts) lits (luts_data kept) seen
moved_to count luts new kept lits outs seen net kept_is seen_is made =
    subst (λ (ls : List code.Lut). Moved count (luts_data luts) lits (luts_data ls) seen) (sym kept_is)
    (subst (λ (os : List Lit). Moved count (luts_data luts) lits (luts_data new) os) (sym seen_is) (moved count (luts_data luts) (luts_data new) lits outs net made))
