-- The transforms by their places: each has one, and the order of transforms is that of the places.
use Rattle.std.proofs.Common.{ℕ, zero, suc, ◌+◌, ◌*◌, ◌/◌, ◌%◌, ◌<◌, ◌≤◌, ◌≡◌, Bool, true, false, ◌&&◌, nat_lt, List, [], ◌∷◌, refl, get_or, ap, ap₂, ◌∙◌, arith, inl, inr}
use Rattle.std.specs.Prelude.{◌==◌, if◌then◌else◌}
use Rattle.std.proofs.lemmas.Bool.{cases_lt, and_parts, eqb-true, ltb-true, cases_order, false≢true}
use Rattle.std.proofs.lemmas.Bool.Decides.{nat_tests}
use Rattle.syn_npn.specs.declared.Transform.{Transform}
use Rattle.syn_npn.specs.Images.{is_permutation}
use Rattle.syn_npn.specs.Permutations.{image_at, neg_at, perm_at, permutation_at}
use Rattle.syn_npn.specs.Transforms.{IsCanon, image_of, order_by, order_of}
use Rattle.syn_npn.proofs.Computed.{every, every_at}
use Rattle.syn_npn.proofs.Computed as computed

same : List ℕ → List ℕ → Bool
same [] [] = true
same (x ∷ xs) (y ∷ ys) = x == y && same xs ys
same _ _ = false

same-true : (xs ys : List ℕ) → same xs ys ≡ true → xs ≡ ys
unfolding same
same-true [] [] h = refl
same-true (x ∷ xs) (y ∷ ys) h =
    let parts = and_parts (x == y) (same xs ys) h in
    ap₂ (λ a rest. a ∷ rest) (eqb-true x y parts.0) (same-true xs ys parts.1)
same-true [] (y ∷ ys) h = absurd (false≢true h)
same-true (x ∷ xs) [] h = absurd (false≢true h)

-- the place of a permutation in the table, looked for from the end
found : ℕ → List ℕ → ℕ
found zero perm = 0
found (suc n) perm = if same (permutation_at n) perm then n else found n perm

pub place_of_permutation : (perm : List ℕ) → is_permutation perm ≡ true → (j : ℕ) × (j < 24) × (permutation_at j ≡ perm)
unfolding permutation_at same found
place_of_permutation perm h =
    let both = and_parts (nat_lt (found 24 perm) 24) (same (permutation_at (found 24 perm)) perm) (computed.permutation_at (λ p. nat_lt (found 24 p) 24 && same (permutation_at (found 24 p)) p) refl perm h) in
    (found 24 perm, ltb-true (found 24 perm) 24 both.0, same-true (permutation_at (found 24 perm)) perm both.1)

-- each transform has a place
pub record IsPlace (t : Transform) (k : ℕ) : Type 0 where
  pub within : k < 768
  pub perm : perm_at k ≡ t.perm
  pub flips : k % 16 ≡ t.flips
  pub neg : neg_at k ≡ t.neg

place_of_sign : (s j i : ℕ) → s < 2 → j < 24 → i < 16 → ((s * 384 + j * 16 + i) / 16 % 24 ≡ j) × ((s * 384 + j * 16 + i) % 16 ≡ i) × ((s * 384 + j * 16 + i) / 384 ≡ s)
place_of_sign s j i h k l = (omega arith, omega arith, omega arith)

sign_told : (b : Bool) → ((if b then 1 else 0) == 1) ≡ b
sign_told true = refl
sign_told false = refl

sign-lt : (b : Bool) → (if b then 1 else 0) < 2
sign-lt true = omega arith
sign-lt false = omega arith

pub place_of : (t : Transform) → (k : ℕ) × IsPlace t k
place_of t =
    let at = place_of_permutation t.perm t.permutes in
    let sign = if t.neg then 1 else 0 in
    let parts = place_of_sign sign at.0 t.flips (sign-lt t.neg) at.1 t.few in
    let small = sign-lt t.neg in
    let j = at.1 in
    let i : t.flips < 16 = t.few in (
      sign * 384 + at.0 * 16 + t.flips,
      record {
        within = omega arith;
        perm = ap permutation_at parts.0 ∙ at.2;
        flips = parts.1;
        neg = ap (λ x. x == 1) parts.2 ∙ sign_told t.neg;
      },
    )

-- a permutation as a number in base 4
abbrev pub code : List ℕ → ℕ
code perm = ((get_or perm 0 0 * 4 + get_or perm 1 0) * 4 + get_or perm 2 0) * 4 + get_or perm 3 0

pub code-rises : (j : ℕ) → j < 24 → (i : ℕ) → i < j → code (permutation_at i) < code (permutation_at j)
unfolding permutation_at
code-rises j h i l =
    let row = every_at 24 (λ b. every b (λ a. nat_lt (code (permutation_at a)) (code (permutation_at b)))) refl j h in
    ltb-true _ _ (every_at j (λ a. nat_lt (code (permutation_at a)) (code (permutation_at j))) row i l)

pub code-lt : (j : ℕ) → j < 24 → code (permutation_at j) < 256
unfolding permutation_at
code-lt j h = ltb-true _ 256 (every_at 24 (λ a. nat_lt (code (permutation_at a)) 256) refl j h)

-- places in order, by their parts, give numbers in order
parts-le : (s t j l i k c d : ℕ) → s * 384 + j * 16 + i ≤ t * 384 + l * 16 + k → j < 24 → l < 24 → i < 16 → k < 16 → c < 256 → d < 256 → (j < l → c < d) → (j ≡ l → c ≡ d) → (s * 256 + c) * 16 + i ≤ (t * 256 + d) * 16 + k
parts-le s t j l i k c d h a b e f g m less same = elim (cases_order s t) [
  | inl q ↦ elim (cases_order j l) [
    | inl r ↦ omega (arith, same r)
    | inr r ↦ elim r [ inl u ↦ omega (arith, less u) | inr u ↦ absurd (omega arith) ]
  ]
  | inr q ↦ elim q [ inl r ↦ omega arith | inr r ↦ absurd (omega arith) ]
]

sign_of : (s : ℕ) → s < 2 → (if s == 1 then 1 else 0) ≡ s
sign_of s h = grind (arith, nat_tests)

pub order-is : (perm : List ℕ) (flips s : ℕ) → s < 2 → order_by perm flips (s == 1) ≡ (s * 256 + code perm) * 16 + flips
order-is perm flips s h = omega (arith, sign_of s h)

-- the order of two transforms whose places are in order
pub order_at-le : (k l : ℕ) → k ≤ l → l < 768 → order_by (perm_at k) (k % 16) (neg_at k) ≤ order_by (perm_at l) (l % 16) (neg_at l)
order_at-le k l h b =
    let j = k / 16 % 24 in
    let i = l / 16 % 24 in
    let j_small : j < 24 = omega arith in
    let i_small : i < 24 = omega arith in
    omega (
      arith,
      order-is (perm_at k) (k % 16) (k / 384) (omega arith),
      order-is (perm_at l) (l % 16) (l / 384) (omega arith),
      parts-le (k / 384) (l / 384) j i (k % 16) (l % 16) (code (permutation_at j)) (code (permutation_at i))
          (omega arith) j_small i_small (omega arith) (omega arith) (code-lt j j_small) (code-lt i i_small)
          (code-rises i i_small j) (ap (λ x. code (permutation_at x))),
    )

pub order_of-place : (t : Transform) (k : ℕ) → perm_at k ≡ t.perm → k % 16 ≡ t.flips → neg_at k ≡ t.neg → order_by (perm_at k) (k % 16) (neg_at k) ≡ order_of t
order_of-place t k p i n = cc

pub image_of-place : (t : Transform) (k f : ℕ) → perm_at k ≡ t.perm → k % 16 ≡ t.flips → neg_at k ≡ t.neg → image_at f k ≡ image_of t f
image_of-place t k f p i n = cc

-- the first place of the least image gives the class and its transform
pub IsCanon-from_places : (f class chosen : ℕ) (made : Transform) → perm_at chosen ≡ made.perm → chosen % 16 ≡ made.flips → neg_at chosen ≡ made.neg → class ≡ image_at f chosen → ((k : ℕ) → k < 768 → class ≤ image_at f k) → ((k : ℕ) → k < chosen → class < image_at f k) → IsCanon f class made
IsCanon-from_places f class chosen made perm flips neg image least first = record {
  image = image ∙ image_of-place made chosen f perm flips neg;
  least = λ t.
      let at = place_of t in
      let is = image_of-place t at.0 f at.1.perm at.1.flips at.1.neg in
      omega (arith, is, least at.0 at.1.within);
  first = λ t e.
      let at = place_of t in
      let is = image_of-place t at.0 f at.1.perm at.1.flips at.1.neg in
      let mine = order_of-place made chosen perm flips neg in
      let other = order_of-place t at.0 at.1.perm at.1.flips at.1.neg in
      elim (cases_lt at.0 chosen) [
        | inl less ↦ absurd (omega (arith, is, e, first at.0 less))
        | inr more ↦ omega (arith, mine, other, order_at-le chosen at.0 more at.1.within)
      ];
}
