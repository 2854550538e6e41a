-- The first piece of bytes.
use Rattle.std.proofs.Common.{◌≡◌, ℕ, suc, ◌+◌, ◌<◌, nat_eq, ◌==◌, Bool, true, false, if◌then◌else◌, List, [], ◌∷◌, ◌++◌, length, take, drop, refl, sym, ap, ap₂, ◌∙◌, arith, length-append, inl, inr}
use Rattle.std.proofs.lemmas.Bool.{both_ways, eqb-true}
use Rattle.std.specs.List.{onto_first}
use Rattle.syn_lex.proofs.Splits.{nil_from_length}
use Rattle.syn_lex.specs.Pieces.{before, pieces, IsCut}

abbrev piece_len : ℕ → List ℕ → ℕ
piece_len end bs = before (λ b. b == end) bs

-- the last piece, which no byte ends
cut_end : (end : ℕ) (bs : List ℕ) → 0 < length bs → drop (piece_len end bs) bs ≡ [] → (pieces end bs ≡ bs ∷ []) × (take (piece_len end bs) bs ≡ bs)
cut_end end [] h e = absurd (omega arith)
cut_end end (b ∷ []) h e = go (b == end) refl e
  where
    go : (t : Bool) → (b == end) ≡ t → drop (if t then 0 else 1) (b ∷ []) ≡ []
        → ((if t then [] ∷ [] else (b ∷ []) ∷ []) ≡ (b ∷ []) ∷ []) × (take (if t then 0 else 1) (b ∷ []) ≡ b ∷ [])
    go true w f = absurd (cc)
    go false w f = (refl, refl)
cut_end end (b ∷ c ∷ cs) h e = go (b == end) refl e (cut_end end (c ∷ cs) (omega arith))
  where
    bs : List ℕ
    bs = c ∷ cs

    go : (t : Bool) → (b == end) ≡ t → drop (if t then 0 else suc (piece_len end bs)) (b ∷ bs) ≡ []
        → (drop (piece_len end bs) bs ≡ [] → (pieces end bs ≡ bs ∷ []) × (take (piece_len end bs) bs ≡ bs))
        → ((if t then [] ∷ pieces end bs else onto_first b (pieces end bs)) ≡ (b ∷ bs) ∷ []) × (take (if t then 0 else suc (piece_len end bs)) (b ∷ bs) ≡ b ∷ bs)
    go true w f ih = absurd (cc)
    go false w f ih =
        let rest = ih f in
        (ap (onto_first b) rest.0, ap (λ (l : List ℕ). b ∷ l) rest.1)

-- a piece with the byte that ends it
cut_here : (end : ℕ) (bs : List ℕ) (c : ℕ) (behind : List ℕ) → drop (piece_len end bs) bs ≡ c ∷ behind → (pieces end bs ≡ take (piece_len end bs) bs ∷ pieces end behind) × (c ≡ end)
cut_here end [] c behind e = absurd (cc)
cut_here end (b ∷ bs) c behind e = go (b == end) refl e (cut_here end bs c behind)
  where
    go : (t : Bool) → (b == end) ≡ t → drop (if t then 0 else suc (piece_len end bs)) (b ∷ bs) ≡ c ∷ behind
        → (drop (piece_len end bs) bs ≡ c ∷ behind → (pieces end bs ≡ take (piece_len end bs) bs ∷ pieces end behind) × (c ≡ end))
        → ((if t then [] ∷ pieces end bs else onto_first b (pieces end bs)) ≡ take (if t then 0 else suc (piece_len end bs)) (b ∷ bs) ∷ pieces end behind) × (c ≡ end)
    go true w f ih =
        let same : b ≡ c = cc in
        let rest : bs ≡ behind = cc in
        (ap (λ (l : List ℕ). [] ∷ pieces end l) rest, sym same ∙ eqb-true b end w)
    go false w f ih =
        let rest = ih f in
        (ap (onto_first b) rest.0, rest.1)

pub is_cut_end : (end : ℕ) (bs piece rest : List ℕ) (n : ℕ) → 0 < length bs → n ≡ piece_len end bs → piece ≡ take n bs → rest ≡ drop n bs → nat_eq (length rest) 0 ≡ true → IsCut end bs piece rest
is_cut_end end bs piece rest n h e l r z =
    let none : rest ≡ [] = nil_from_length rest (eqb-true _ 0 z) in
    let ends = cut_end end bs h (ap (λ k. drop k bs) (sym e) ∙ (sym r ∙ none)) in
    let same : piece ≡ bs = l ∙ (ap (λ k. take k bs) e ∙ ends.1) in
    record {
      is_first = ends.0 ∙ ap₂ (λ (x : List ℕ) (y : List ℕ). x ∷ pieces end y) (sym same) (sym none);
      parts = inr (sym same, none);
      full = λ p. absurd (let q : length rest ≡ 0 = ap length none in omega arith);
      less = (let q : length rest ≡ 0 = ap length none in omega arith);
      front = (let q : length piece ≡ length bs = ap length same in omega arith);
    }

pub is_cut_here : (end : ℕ) (bs piece rest behind : List ℕ) (n : ℕ) → n ≡ piece_len end bs → piece ≡ take n bs → rest ≡ drop n bs → bs ≡ piece ++ rest → nat_eq (length rest) 0 ≡ false → behind ≡ drop 1 rest → IsCut end bs piece behind
is_cut_here end bs piece [] behind n e l r a z d = absurd (both_ways true z refl)
is_cut_here end bs piece (c ∷ rest) behind n e l r a z d =
    let here = cut_here end bs c rest (ap (λ k. drop k bs) (sym e) ∙ sym r) in
    let same : piece ≡ take (piece_len end bs) bs = l ∙ ap (λ k. take k bs) e in
    let whole : bs ≡ piece ++ end ∷ behind = a ∙ ap₂ (λ (x : ℕ) (y : List ℕ). piece ++ x ∷ y) here.1 (sym d) in
    let size : length bs ≡ length piece + suc (length behind) = ap length whole ∙ length-append piece (end ∷ behind) in
    record {
      is_first = here.0 ∙ ap₂ (λ (x : List ℕ) (y : List ℕ). x ∷ pieces end y) (sym same) (sym d);
      parts = inl whole;
      full = λ p. omega arith;
      less = omega arith;
      front = omega arith;
    }
