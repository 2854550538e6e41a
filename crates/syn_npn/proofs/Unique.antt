-- One class and one transform of each function.
use Rattle.std.proofs.Common.{ℕ, ◌+◌, ◌*◌, ◌/◌, ◌%◌, ◌<◌, ◌≤◌, ◌≡◌, Bool, true, List, sym, ap, ap₂, ◌∙◌, subst, arith, inl, inr}
use Rattle.std.proofs.Math.Bridge.{le_prop}
use Rattle.std.proofs.Math.Bool.{Bool-set}
use Rattle.std.proofs.lemmas.Bool.{cases_order}
use Rattle.syn_npn.specs.declared.Transform.{Transform}
use Rattle.syn_npn.specs.Images.{is_permutation}
use Rattle.syn_npn.specs.Permutations.{neg_at, perm_at, permutation_at}
use Rattle.syn_npn.specs.Transforms.{OneCanon, order_by, order_of}
use Rattle.syn_npn.proofs.Ordering.{code, code-lt, code-rises, order-is, order_of-place, place_of}

-- places in strict order, by their parts, give numbers in strict order
parts-lt : (s t j l i k c d : ℕ) → s * 384 + j * 16 + i < t * 384 + l * 16 + k → j < 24 → l < 24 → i < 16 → k < 16 → c < 256 → d < 256 → (j < l → c < d) → (j ≡ l → c ≡ d) → (s * 256 + c) * 16 + i < (t * 256 + d) * 16 + k
parts-lt s t j l i k c d h a b e f g m less same = elim (cases_order s t) [
  | inl q ↦ elim (cases_order j l) [
    | inl r ↦ omega (arith, same r)
    | inr r ↦ elim r [ inl u ↦ omega (arith, less u) | inr u ↦ absurd (omega arith) ]
  ]
  | inr q ↦ elim q [ inl r ↦ omega arith | inr r ↦ absurd (omega arith) ]
]

order_at-lt : (k l : ℕ) → k < l → l < 768 → order_by (perm_at k) (k % 16) (neg_at k) < order_by (perm_at l) (l % 16) (neg_at l)
order_at-lt k l h b =
    let j = k / 16 % 24 in
    let i = l / 16 % 24 in
    let j_small : j < 24 = omega arith in
    let i_small : i < 24 = omega arith in
    omega (
      arith,
      order-is (perm_at k) (k % 16) (k / 384) (omega arith),
      order-is (perm_at l) (l % 16) (l / 384) (omega arith),
      parts-lt (k / 384) (l / 384) j i (k % 16) (l % 16) (code (permutation_at j)) (code (permutation_at i))
          (omega arith) j_small i_small (omega arith) (omega arith) (code-lt j j_small) (code-lt i i_small)
          (code-rises i i_small j) (ap (λ x. code (permutation_at x))),
    )

-- transforms of one order have one place
same_place : (k l : ℕ) → k < 768 → l < 768 → order_by (perm_at k) (k % 16) (neg_at k) ≡ order_by (perm_at l) (l % 16) (neg_at l) → k ≡ l
same_place k l h b e = elim (cases_order k l) [
  | inl q ↦ q
  | inr q ↦ elim q [ inl r ↦ absurd (omega (arith, e, order_at-lt k l r b)) | inr r ↦ absurd (omega (arith, e, order_at-lt l k r h)) ]
]

abbrev record_of : (perm : List ℕ) (flips : ℕ) (neg : Bool) (permutes : is_permutation perm ≡ true) (few : flips < 16) → Transform
record_of perm flips neg permutes few = record { perm = perm; flips = flips; neg = neg; permutes = permutes; few = few }

proofs_aside : (perm : List ℕ) (flips : ℕ) (neg : Bool) (p q : is_permutation perm ≡ true) (f g : flips < 16) → record_of perm flips neg p f ≡ record_of perm flips neg q g
proofs_aside perm flips neg p q f g = ap₂ (record_of perm flips neg) (Bool-set (is_permutation perm) true p q) (le_prop f g)

same_transform : (t u : Transform) → t.perm ≡ u.perm → t.flips ≡ u.flips → t.neg ≡ u.neg → t ≡ u
same_transform t u perm flips neg =
    subst (λ (n : Bool). t ≡ record_of u.perm u.flips n u.permutes u.few) neg
    (subst (λ (k : ℕ). (g : k < 16) → t ≡ record_of u.perm k t.neg u.permutes g) flips
    (subst (λ (p : List ℕ). (q : is_permutation p ≡ true) (g : t.flips < 16) → t ≡ record_of p t.flips t.neg q g) perm
    (λ q g. proofs_aside t.perm t.flips t.neg t.permutes q t.few g) u.permutes)
    u.few)

same_order : (t u : Transform) → order_of t ≡ order_of u → t ≡ u
same_order t u e =
    let at = place_of t in
    let other = place_of u in
    let place = same_place at.0 other.0 at.1.within other.1.within (
    order_of-place t at.0 at.1.perm at.1.flips at.1.neg
    ∙ e
    ∙ sym (order_of-place u other.0 other.1.perm other.1.flips other.1.neg)
    ) in
    same_transform t u
    (sym at.1.perm ∙ ap perm_at place ∙ other.1.perm)
    (sym at.1.flips ∙ ap (λ k. k % 16) place ∙ other.1.flips)
    (sym at.1.neg ∙ ap neg_at place ∙ other.1.neg)

pub one_canon : OneCanon
one_canon f class other t u this that =
    let below = this.least u in
    let above = that.least t in
    let same : class ≡ other = omega (arith, this.image, that.image) in
    let first : order_of t ≤ order_of u = this.first u (sym that.image ∙ sym same) in
    let second : order_of u ≤ order_of t = that.first t (sym this.image ∙ same) in
    (same, same_order t u (omega arith))
