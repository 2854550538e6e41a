-- Literals that signals became, and LUTs that read them.
use Rattle.std.proofs.Common.{◌≡◌, ◌≢◌, ℕ, zero, suc, ◌+◌, ◌*◌, ◌/◌, ◌%◌, ◌^◌, ◌<◌, ◌≤◌, if◌then◌else◌, nat_eq, nat_lt, not, Bool, true, false, All, List, [], ◌∷◌, ◌++◌, map, length, get_or, refl, sym, ap, ap₂, ◌∙◌, subst, inl, inr, arith}
use Rattle.std.specs.Prelude.{◌⊎◌, Contains}
use Rattle.std.specs.List.{list_all}
use Rattle.std.proofs.lemmas.Bool.{both_ways}
use Rattle.std.proofs.lemmas.List.{length-map, map-append}
use Rattle.std.proofs.lemmas.List.Elements.{All-contains, All-head, All-map}
use Rattle.syn_rows.specs.declared.Lit.{Lit}
use Rattle.syn_rows.specs.Rows.{node_of}
use Rattle.syn_rows.specs.Values.{lit_value}
use Rattle.syn_hashed.specs.Hashed.{lit_at}
use Rattle.syn_truth.specs.declared.Truth.{Truth}
use Rattle.syn_truth.specs.Truth.{AtEach, value_at, value_of}
use Rattle.syn_lutnet.specs.LutData.{Lut, lut_value, ones_of, ones_value}
use Rattle.syn_lutnet.proofs.Ones.{ones_give}
use Rattle.syn_lutnet.specs.declared.luts.Lut as code
use Rattle.syn_lutnet.specs.Data.{lut_data, luts_data}
use Rattle.syn_absorb.specs.Flips.{xor, xor_list}
use Rattle.syn_absorb.specs.Needed.{DependsOn, IsNarrower, ReadsNeeded}
use Rattle.syn_absorb.specs.Rebuilding.{is_complement, signed_lit, read_lit, IsThrough, IsResolved, IsCopy, IsNext, IsPlaced}
use Rattle.syn_absorb.proofs.Flipped.{xor_list_map}
use Rattle.syn_absorb.proofs.Same.{made_node, made_opposite, two_signs}
use Rattle.syn_absorb.proofs.Narrowing.{gives}

pub xor_off : (a : Bool) → xor a false ≡ a
xor_off true = refl
xor_off false = refl

xor_more : (a b c : Bool) → xor (xor a b) c ≡ xor a (xor b c)
xor_more true true true = refl
xor_more true true false = refl
xor_more true false c = refl
xor_more false b c = refl

by_sign : (c x : Bool) → (if not c then x else not x) ≡ xor c x
by_sign true x = refl
by_sign false x = refl

-- the value of a literal by its sign
pub lit_xor : (w : ℕ → Bool) (l : Lit) → lit_value w l ≡ xor (is_complement l) (w (node_of l))
lit_xor w l = ap (λ z. if z then w (node_of l) else not (w (node_of l))) (two_signs (l.0 % 2) (omega arith)) ∙ by_sign (is_complement l) (w (node_of l))

pub signed_value : (w : ℕ → Bool) (n : ℕ) (c : Bool) → lit_value w (signed_lit n c) ≡ xor c (w n)
signed_value w n c = lit_xor w (signed_lit n c) ∙ ap₂ (λ (s : Bool) (m : ℕ). xor s (w m)) (made_opposite n c) (made_node n c)

pub signed_node : (n : ℕ) (c : Bool) → node_of (signed_lit n c) ≡ n
signed_node n c = made_node n c

pub signed_itself : (l : Lit) → signed_lit (node_of l) (is_complement l) ≡ l
signed_itself l = again (l.0 % 2) (omega arith) refl
  where
    literal : ℕ → Lit
    literal x = record { 0 = x }

    again : (s : ℕ) → s < 2 → l.0 % 2 ≡ s → signed_lit (node_of l) (is_complement l) ≡ l
    again zero lt e = ap (λ s. signed_lit (node_of l) (nat_eq s 1)) e ∙ ap literal (let w : 2 * (l.0 / 2) + 0 ≡ l.0 = omega (arith, e) in w)
    again (suc zero) lt e = ap (λ s. signed_lit (node_of l) (nat_eq s 1)) e ∙ ap literal (let w : 2 * (l.0 / 2) + 1 ≡ l.0 = omega (arith, e) in w)
    again (suc (suc s)) lt e = absurd (omega (arith, lt))

-- a literal by its number
pub made_lit : (l : Lit) (n : ℕ) (c : Bool) → l.0 ≡ 2 * n + (if c then 1 else 0) → l ≡ signed_lit n c
made_lit l n c e = ap literal e
  where
    literal : ℕ → Lit
    literal x = record { 0 = x }

-- a literal that is read has the value of that which it was
pub read_value : (lits : List Lit) (v w : ℕ → Bool) (l : Lit) → lit_value w (lit_at lits (node_of l)) ≡ v (node_of l) → lit_value w (read_lit lits l) ≡ lit_value v l
read_value lits v w l e =
    let became : Lit = lit_at lits (node_of l) in
    signed_value w (node_of became) (xor (is_complement l) (is_complement became))
    ∙ xor_more (is_complement l) (is_complement became) (w (node_of became))
    ∙ ap (xor (is_complement l)) (sym (lit_xor w became) ∙ e)
    ∙ sym (lit_xor v l)

pub read_node : (lits : List Lit) (l : Lit) → node_of (read_lit lits l) ≡ node_of (lit_at lits (node_of l))
read_node lits l = signed_node (node_of (lit_at lits (node_of l))) (xor (is_complement l) (is_complement (lit_at lits (node_of l))))

-- a literal of a signal that is as it was is read as it was
pub read_own : (lits : List Lit) (l : Lit) → lit_at lits (node_of l) ≡ signed_lit (node_of l) false → read_lit lits l ≡ l
read_own lits l e =
    ap (λ (b : Lit). signed_lit (node_of b) (xor (is_complement l) (is_complement b))) e
    ∙ ap₂ (λ (n : ℕ) (s : Bool). signed_lit n (xor (is_complement l) s)) (made_node (node_of l) false) (made_opposite (node_of l) false)
    ∙ ap (signed_lit (node_of l)) (xor_off (is_complement l))
    ∙ signed_itself l

-- LUTs

map_read : (lits : List Lit) (v : ℕ → Bool) (ns : List ℕ) → map (λ n. xor (is_complement (lit_at lits n)) (v (node_of (lit_at lits n)))) ns ≡ map (λ n. lit_value v (lit_at lits n)) ns
map_read lits v [] = refl
map_read lits v (n ∷ ns) = ap₂ (λ (y : Bool) (ys : List Bool). y ∷ ys) (sym (lit_xor v (lit_at lits n))) (map_read lits v ns)

map_nodes : (lits : List Lit) (v : ℕ → Bool) (ns : List ℕ) → map v (map (λ n. node_of (lit_at lits n)) ns) ≡ map (λ n. v (node_of (lit_at lits n))) ns
map_nodes lits v [] = refl
map_nodes lits v (n ∷ ns) = ap (λ (ys : List Bool). v (node_of (lit_at lits n)) ∷ ys) (map_nodes lits v ns)

pub through_is : (lits : List Lit) (was : code.Lut) (inputs : List ℕ) (t : Truth) → t.vars ≡ was.truth.vars → inputs ≡ map (λ m. node_of (lit_at lits m)) was.inputs.items
    → AtEach was.truth.vars (λ xs. value_of t xs ≡ value_of was.truth (xor_list (map (λ m. is_complement (lit_at lits m)) was.inputs.items) xs)) → IsThrough lits (lut_data was) (record { inputs = inputs; ones = ones_of t })
through_is lits was inputs t vars inputs_are values = record {
  inputs = inputs_are;
  value = λ v.
      let ns : List ℕ = was.inputs.items in
      let bits : List Bool = map (λ n. v (node_of (lit_at lits n))) ns in
      let size : length bits ≡ was.truth.vars = length-map ns (λ n. v (node_of (lit_at lits n))) ∙ sym was.vars in
      ap (ones_value (ones_of t)) (ap (map v) inputs_are ∙ map_nodes lits v ns)
      ∙ (ones_give t).values bits (size ∙ sym vars)
      ∙ values bits size
      ∙ ap (value_of was.truth) (xor_list_map (λ n. is_complement (lit_at lits n)) (λ n. v (node_of (lit_at lits n))) ns ∙ map_read lits v ns)
      ∙ sym (gives was (λ n. lit_value v (lit_at lits n)));
}

pub resolved_is : (lits : List Lit) (was between : Lut) (now : code.Lut) → IsThrough lits was between → IsNarrower between (lut_data now) → ReadsNeeded (lut_data now) → IsResolved lits was (lut_data now)
resolved_is lits was between now through narrower needed = record {
  needed = needed;
  inputs = subst (λ (ns : List ℕ). All (Contains ns) now.inputs.items) through.inputs narrower.inputs;
  fewer = omega (arith, narrower.fewer, ap (λ (ns : List ℕ). length ns) through.inputs, length-map was.inputs (λ m. node_of (lit_at lits m)));
  value = λ v low. narrower.value v low ∙ through.value v;
  rise = (ones_give now.truth).rise;
  small = subst (λ k. list_all (λ m. nat_lt m (2 ^ k)) (ones_of now.truth) ≡ true) now.vars (ones_give now.truth).small;
}

-- a LUT of no or one input is a literal

other_value : (a b : Bool) → a ≢ b → a ≡ not b
other_value true true ne = absurd (ne refl)
other_value true false ne = refl
other_value false true ne = refl
other_value false false ne = absurd (ne refl)

at_none : (t : Truth) → value_of t [] ≡ value_at t 0
unfolding value_of
at_none t = refl

at_low : (t : Truth) → value_of t (false ∷ []) ≡ value_at t 0
unfolding value_of
at_low t = refl

module _ (l : code.Lut) (one : Bool) (is_one : one ≡ value_at l.truth 0) where
  copy_value : (is : List ℕ) → l.inputs.items ≡ is → length is < 2 → All (DependsOn (lut_data l)) l.inputs.items → (v : ℕ → Bool) → v 0 ≡ false → lit_value v (signed_lit (get_or is 0 0) one) ≡ lut_value v (lut_data l)
  copy_value [] inputs few depend v low =
      signed_value v 0 one ∙ ap (xor one) low ∙ xor_off one ∙ is_one ∙ sym (at_none l.truth) ∙ sym (ap (λ (ns : List ℕ). value_of l.truth (map v ns)) inputs) ∙ sym (gives l v)
  copy_value (x ∷ []) inputs few depend v low = signed_value v x one ∙ at (v x) ∙ sym (given v)
    where
      given : (u : ℕ → Bool) → lut_value u (lut_data l) ≡ value_of l.truth (u x ∷ [])
      given u = gives l u ∙ ap (λ (ns : List ℕ). value_of l.truth (map u ns)) inputs

      off : value_of l.truth (false ∷ []) ≡ one
      off = at_low l.truth ∙ sym is_one

      turns : DependsOn (lut_data l) x → value_of l.truth (true ∷ []) ≢ one
      turns d same = d.differ (given d.first ∙ constant (d.first x) ∙ sym (constant (d.second x)) ∙ sym (given d.second))
        where
          constant : (b : Bool) → value_of l.truth (b ∷ []) ≡ one
          constant true = same
          constant false = off

      here : DependsOn (lut_data l) x
      here = All-head (DependsOn (lut_data l)) x [] (subst (λ (ns : List ℕ). All (DependsOn (lut_data l)) ns) inputs depend)

      at : (b : Bool) → xor one b ≡ value_of l.truth (b ∷ [])
      at false = xor_off one ∙ sym off
      at true = xor_on one ∙ sym (other_value (value_of l.truth (true ∷ [])) one (turns here))
        where
          xor_on : (a : Bool) → xor a true ≡ not a
          xor_on true = refl
          xor_on false = refl
  copy_value (x ∷ y ∷ is) inputs few depend v low = absurd (omega (arith, few))

  copy_node : (is : List ℕ) → l.inputs.items ≡ is → (node_of (signed_lit (get_or is 0 0) one) ≡ 0) ⊎ Contains l.inputs.items (node_of (signed_lit (get_or is 0 0) one))
  copy_node [] inputs = inl (signed_node 0 one)
  copy_node (x ∷ is) inputs = inr (subst (λ (ns : List ℕ). Contains ns (node_of (signed_lit x one))) (sym inputs) (0, (omega arith), sym (signed_node x one)))

  pub copy_is : (node : ℕ) (lit : Lit) → node ≡ get_or l.inputs.items 0 0 → lit ≡ signed_lit node one → length l.inputs.items < 2 → ReadsNeeded (lut_data l) → IsCopy (lut_data l) lit
  copy_is node lit node_is lit_is few needed = subst (IsCopy (lut_data l)) (sym (lit_is ∙ ap (λ n. signed_lit n one) node_is)) (record {
    value = copy_value l.inputs.items refl few needed.depends;
    node = copy_node l.inputs.items refl;
  })

pub first_low : (ns : List ℕ) → All (λ m. m < 2 ^ 31) ns → get_or ns 0 0 < 2 ^ 31
first_low [] all = omega arith
first_low (n ∷ ns) all = All-head (λ m. m < 2 ^ 31) n ns all

-- a LUT reads signals of the literals that were read
pub resolved_low : (lits : List Lit) (was now : Lut) → ((n : ℕ) → node_of (lit_at lits n) < 2 ^ 31) → IsResolved lits was now → All (λ m. m < 2 ^ 31) now.inputs
resolved_low lits was now low resolved k d lt =
    All-contains (λ m. m < 2 ^ 31) (map (λ m. node_of (lit_at lits m)) was.inputs) (get_or now.inputs k d)
    (All-map (λ m. m < 2 ^ 31) (λ m. node_of (lit_at lits m)) was.inputs (λ i e less. low (get_or was.inputs i e))) (resolved.inputs k d lt)

pub placed_added : (first : ℕ) (l : code.Lut) (luts new : List code.Lut) (lit : Lit) → 2 ≤ length l.inputs.items → new ≡ luts ++ l ∷ [] → lit ≡ signed_lit (first + length luts) false → IsPlaced first (lut_data l) (luts_data luts) (luts_data new) lit
unfolding IsPlaced
placed_added first l luts new lit many pushed own = inr (record {
  many = many;
  luts = ap luts_data pushed ∙ map-append lut_data luts (l ∷ []);
  own = own ∙ ap (λ n. signed_lit (first + n) false) (sym (length-map luts lut_data));
})

pub placed_copy : (first : ℕ) (l : Lut) (luts : List Lut) (lit : Lit) → IsCopy l lit → IsPlaced first l luts luts lit
unfolding IsPlaced
placed_copy first l luts lit copy = inl (refl, copy)

pub next_wanted : (first : ℕ) (wanted : Bool) (lits : List Lit) (was l : Lut) (luts new : List Lut) (lit : Lit) → wanted ≡ true → IsResolved lits was l → IsPlaced first l luts new lit → IsNext first wanted lits was luts new lit
unfolding IsNext
next_wanted first true lits was l luts new lit e resolved placed = (l, resolved, placed)
next_wanted first false lits was l luts new lit e resolved placed = absurd (both_ways false refl e)

pub next_unwanted : (first : ℕ) (wanted : Bool) (lits : List Lit) (was : Lut) (luts : List Lut) (lit : Lit) → wanted ≡ false → lit ≡ signed_lit 0 false → IsNext first wanted lits was luts luts lit
unfolding IsNext
next_unwanted first true lits was luts lit e is = absurd (both_ways true e refl)
next_unwanted first false lits was luts lit e is = (refl, is)
