-- Keys that are noted class by class.
use Rattle.std.proofs.Common.{ℕ, ◌+◌, ◌*◌, ◌%◌, ◌<◌, ◌≤◌, ◌≡◌, Bool, true, false, ◌&&◌, cond, eqb, ltb, List, length, get_or, refl, sym, ap, ◌∙◌, inl, inr, arith}
use Rattle.std.proofs.Math.ListN.{set}
use Rattle.std.proofs.lemmas.Bool.{and_from, and_left, and_right, cases_eq, cases_lt, cases_order, cond-true, cond-false, eq-eqb, ne_eqb, lt-ltb, le-ltb}
use Rattle.std.proofs.lemmas.List.{length-set, get_or-set_other, get_or-set_same}
use Rattle.syn_npn.specs.Keys.{AreNoted, AreSeen, canon_key, class_of, noted}
use Rattle.syn_npn.specs.Permutations.{image_at, key_at}
use Rattle.syn_npn.proofs.Composing.{canon_of, class_of-image, made_at}
use Rattle.syn_npn.proofs.Keys.{key-parts, key_at-first}
use Rattle.syn_npn.proofs.Least.{canon_key-le, canon_key-one, canon_key-parts}

abbrev unseen : ℕ
unseen = 4294967295

-- ---- keys
key-small : (f : ℕ) → canon_key f < 4294967295
key-small f = let parts = canon_key-parts f (canon_key f) refl in omega (arith, parts.0)

place-small : (f : ℕ) → canon_key f % 1024 < 768
place-small f = (canon_key-parts f (canon_key f) refl).1

pub class_of-small : (f : ℕ) → class_of f < 65536
class_of-small f = (canon_key-parts f (canon_key f) refl).0

class_of-le : (f : ℕ) → f < 65536 → class_of f ≤ f
class_of-le f small = omega (arith, canon_key-le f 0 (omega arith), key_at-first f small)

-- the class of a class is that class
class_of-class : (f n : ℕ) → f < 65536 → class_of f ≡ n → class_of n ≡ n
class_of-class f n small e =
    let image = (canon_of f).image in
    ap class_of (sym e ∙ image) ∙ class_of-image f (made_at (canon_key f % 1024)) small ∙ e

class_at : (f place class : ℕ) → f < 65536 → image_at f place ≡ class → class_of class ≡ class → class_of f ≡ class
class_at f place class small image own = sym (class_of-image f (made_at place) small) ∙ ap class_of image ∙ own

image_at-place : (f place class : ℕ) → class_of f ≡ class → canon_key f % 1024 ≡ place → image_at f place ≡ class
image_at-place f place class e h = ap (image_at f) (sym h) ∙ sym (key-parts f (canon_key f) (canon_key-one f)).0 ∙ e

no_later : (f place class : ℕ) → place < 768 → image_at f place ≡ class → class_of f ≡ class → canon_key f % 1024 ≤ place
unfolding key_at
no_later f place class l image e = omega (arith, canon_key-le f place l, image, e)

-- ---- what is noted
module _ (class old f : ℕ) where
  noted-yes : (p : ℕ) → old ≡ 4294967295 → class_of f ≡ class → canon_key f % 1024 < p → noted p class old f ≡ canon_key f
  noted-yes p u e l = cond-true _ (canon_key f) old (and_from _ _ (and_from _ _ (eq-eqb old 4294967295 u) (eq-eqb (class_of f) class e)) (lt-ltb (canon_key f % 1024) p l))

  noted-old : (p : ℕ) → (old ≡ 4294967295 → ⊥) → noted p class old f ≡ old
  noted-old p u = cond-false _ (canon_key f) old (and_left _ _ (and_left _ _ (ne_eqb old 4294967295 u)))

  noted-other : (p : ℕ) → (class_of f ≡ class → ⊥) → noted p class old f ≡ old
  noted-other p e = cond-false _ (canon_key f) old (and_left _ _ (and_right (eqb old 4294967295) _ (ne_eqb (class_of f) class e)))

  noted-late : (p : ℕ) → p ≤ canon_key f % 1024 → noted p class old f ≡ old
  noted-late p l = cond-false _ (canon_key f) old (and_right (eqb old 4294967295 && eqb (class_of f) class) _ (le-ltb (canon_key f % 1024) p l))

  -- one transform more changes nothing where it doesn't lead from f to the class
  noted-same : (place : ℕ) → (image_at f place ≡ class → ⊥) → noted place class old f ≡ noted (place + 1) class old f
  noted-same place apart =
      elim (cases_eq old 4294967295) [
        | inr u ↦ noted-old place u ∙ sym (noted-old (place + 1) u)
        | inl u ↦ elim (cases_eq (class_of f) class) [
          | inr e ↦ noted-other place e ∙ sym (noted-other (place + 1) e)
          | inl e ↦ elim (cases_order (canon_key f % 1024) place) [
            | inl same ↦ absurd (apart (image_at-place f place class e same))
            | inr either ↦ elim either [
              | inl l ↦ noted-yes place u e l ∙ sym (noted-yes (place + 1) u e (omega (arith, l)))
              | inr l ↦ noted-late place (omega (arith, l)) ∙ sym (noted-late (place + 1) (omega (arith, l)))
            ]
          ]
        ]
      ]

  -- where it does, its key is noted unless one is
  noted-more : (place : ℕ) → place < 768 → image_at f place ≡ class → class_of f ≡ class → cond (eqb (noted place class old f) 4294967295) (class * 1024 + place) (noted place class old f) ≡ noted (place + 1) class old f
  noted-more place l image e =
      elim (cases_eq old 4294967295) [
        | inr u ↦
            let was : noted place class old f ≡ old = noted-old place u in
            ap (λ k. cond (eqb k 4294967295) (class * 1024 + place) k) was
            ∙ cond-false (eqb old 4294967295) (class * 1024 + place) old (ne_eqb old 4294967295 u)
            ∙ sym (noted-old (place + 1) u)
        | inl u ↦ elim (cases_lt (canon_key f % 1024) place) [
          | inl before ↦
              ap (λ k. cond (eqb k 4294967295) (class * 1024 + place) k) (noted-yes place u e before)
              ∙ cond-false (eqb (canon_key f) 4294967295) (class * 1024 + place) (canon_key f) (ne_eqb (canon_key f) 4294967295 (λ h. omega (arith, h, key-small f)))
              ∙ sym (noted-yes (place + 1) u e (omega (arith, before)))
          | inr late ↦
              let last : canon_key f % 1024 ≤ place = no_later f place class l image e in
              let key : class * 1024 + place ≡ canon_key f = omega (arith, late, last, e) in
              ap (λ k. cond (eqb k 4294967295) (class * 1024 + place) k) (noted-late place late)
              ∙ cond-true (eqb old 4294967295) (class * 1024 + place) old (eq-eqb old 4294967295 u)
              ∙ key
              ∙ sym (noted-yes (place + 1) u e (omega (arith, last)))
        ]
      ]

-- ---- one note
note_same : (keys : List ℕ) (f key : ℕ) (b : Bool) → f < length keys → get_or (cond b (set keys f key) keys) f 0 ≡ cond b key (get_or keys f 0)
note_same keys f key true l = get_or-set_same keys f key 0 l
note_same keys f key false l = refl

note_other : (keys : List ℕ) (m f key : ℕ) (b : Bool) → (f ≡ m → ⊥) → get_or (cond b (set keys m key) keys) f 0 ≡ get_or keys f 0
note_other keys m f key true h = get_or-set_other keys m f key 0 h
note_other keys m f key false h = refl

pub note_count : (keys : List ℕ) (m key : ℕ) (b : Bool) → length (cond b (set keys m key) keys) ≡ length keys
note_count keys m key true = length-set keys m key
note_count keys m key false = refl

pub note_step : (place class m : ℕ) (old keys more : List ℕ) → place < 768 → class_of class ≡ class → length keys ≡ 65536 → m < 65536 → image_at m place ≡ class → ((f : ℕ) → f < 65536 → image_at f place ≡ class → f ≡ m) → AreNoted place class old keys → more ≡ cond (eqb (get_or keys m 0) 4294967295) (set keys m (class * 1024 + place)) keys → AreNoted (place + 1) class old more
note_step place class m old keys more l own count small image only now is f within =
    ap (λ ks. get_or ks f 0) is
    ∙ elim (cases_eq f m) [
      | inr other ↦
          note_other keys m f (class * 1024 + place) (eqb (get_or keys m 0) 4294967295) other
          ∙ now f within
          ∙ noted-same class (get_or old f 0) f place (λ e. other (only f within e))
      | inl same ↦
          let there : image_at f place ≡ class = ap (λ k. image_at k place) same ∙ image in
          ap (λ k. get_or (cond (eqb (get_or keys k 0) 4294967295) (set keys k (class * 1024 + place)) keys) f 0) (sym same)
          ∙ note_same keys f (class * 1024 + place) (eqb (get_or keys f 0) 4294967295) (omega (arith, within, count))
          ∙ ap (λ k. cond (eqb k 4294967295) (class * 1024 + place) k) (now f within)
          ∙ noted-more class (get_or old f 0) f place l there (class_at f place class within there own)
    ]

-- ---- one number more
abbrev seen : ℕ → ℕ → ℕ
seen n f = cond (ltb (class_of f) n) (canon_key f) 4294967295

seen-yes : (n f : ℕ) → class_of f < n → seen n f ≡ canon_key f
seen-yes n f l = cond-true (ltb (class_of f) n) (canon_key f) 4294967295 (lt-ltb (class_of f) n l)

seen-no : (n f : ℕ) → n ≤ class_of f → seen n f ≡ 4294967295
seen-no n f l = cond-false (ltb (class_of f) n) (canon_key f) 4294967295 (le-ltb (class_of f) n l)

pub is_class : (n : ℕ) (keys : List ℕ) → n < 65536 → AreSeen n keys → get_or keys n 0 ≡ 4294967295 → class_of n ≡ n
is_class n keys small now none =
    elim (cases_lt (class_of n) n) [
      | inl l ↦ absurd (omega (arith, key-small n, sym (seen-yes n n l) ∙ sym (now n small) ∙ none))
      | inr l ↦ omega (arith, l, class_of-le n small)
    ]

pub seen_class : (n : ℕ) (keys more : List ℕ) → AreSeen n keys → AreNoted 768 n keys more → AreSeen (n + 1) more
seen_class n keys more now new f within =
    new f within
    ∙ ap (λ k. noted 768 n k f) (now f within)
    ∙ elim (cases_order (class_of f) n) [
      | inl e ↦
          let none : seen n f ≡ 4294967295 = seen-no n f (omega (arith, e)) in
          noted-yes n (seen n f) f 768 none e (place-small f) ∙ sym (seen-yes (n + 1) f (omega (arith, e)))
      | inr either ↦ elim either [
        | inl l ↦
            let key : seen n f ≡ canon_key f = seen-yes n f l in
            noted-old n (seen n f) f 768 (λ u. omega (arith, key-small f, sym key ∙ u)) ∙ key ∙ sym (seen-yes (n + 1) f (omega (arith, l)))
        | inr l ↦
            noted-other n (seen n f) f 768 (λ e. omega (arith, e, l)) ∙ seen-no n f (omega (arith, l)) ∙ sym (seen-no (n + 1) f (omega (arith, l)))
      ]
    ]

pub seen_none : (n : ℕ) (keys : List ℕ) → n < 65536 → AreSeen n keys → (get_or keys n 0 ≡ 4294967295 → ⊥) → AreSeen (n + 1) keys
seen_none n keys small now some f within =
    now f within
    ∙ elim (cases_order (class_of f) n) [
      | inl e ↦
          let own : class_of n ≡ n = class_of-class f n within e in
          absurd (some (now n small ∙ seen-no n n (omega (arith, own))))
      | inr either ↦ elim either [
        | inl l ↦ seen-yes n f l ∙ sym (seen-yes (n + 1) f (omega (arith, l)))
        | inr l ↦ seen-no n f (omega (arith, l)) ∙ sym (seen-no (n + 1) f (omega (arith, l)))
      ]
    ]

pub all_seen : (n : ℕ) (keys : List ℕ) → 65536 ≤ n → AreSeen n keys → (f : ℕ) → f < 65536 → get_or keys f 0 ≡ canon_key f
all_seen n keys l now f within = now f within ∙ seen-yes n f (omega (arith, l, class_of-small f))
