-- One fate more, by what was seen of keys.
use Rattle.std.proofs.Common.{◌≡◌, ◌≢◌, ◌⊎◌, ℕ, ◌+◌, ◌<◌, ◌≤◌, Bool, true, false, List, [], ◌∷◌, ◌++◌, length, refl, sym, ap, ◌∙◌, subst, inl, inr, Option, Some, None, arith}
use Rattle.std.proofs.lemmas.Bool.{both_ways, cases_lt}
use Rattle.std.proofs.lemmas.List.{get_or_append_left, get_or_push, length-append}
use Rattle.syn_seq.specs.declared.keys.Key.{Key}
use Rattle.syn_seq.specs.Code.{is_kept}
use Rattle.syn_seq.specs.Keys.{AreFatesBy, IsFateBy, IsFound, IsSeen}
use Rattle.syn_seq.specs.Rounds.{Dropped, Fate, Kept, Merged, fate_at}

abbrev is_none : Option ℕ → Bool
is_none None = true
is_none (Some i) = false

abbrev number_in : Option ℕ → ℕ
number_in None = 0
number_in (Some i) = i

longer : (fates : List Fate) (f : Fate) → length (fates ++ f ∷ []) ≡ length fates + 1
longer fates f = length-append fates (f ∷ [])

at_before : (fates : List Fate) (f : Fate) (i : ℕ) → i < length fates → fate_at (fates ++ f ∷ []) i ≡ fate_at fates i
at_before fates f i lt = get_or_append_left fates (f ∷ []) Dropped i lt

at_last : (fates : List Fate) (f : Fate) → fate_at (fates ++ f ∷ []) (length fates) ≡ f
at_last fates f = get_or_push fates f Dropped (length fates) refl

-- the fates of earlier latches stay right
right_before : (marks : ℕ → Bool) (keys : ℕ → Key) (fates : List Fate) (f : Fate) (j : ℕ) → j < length fates → (g : Fate) → IsFateBy marks keys fates j g → IsFateBy marks keys (fates ++ f ∷ []) j g
right_before marks keys fates f j lt Kept r = r
right_before marks keys fates f j lt (Merged i) r = (r.0, at_before fates f i (let p : i < length fates = omega (arith, r.0, lt) in p) ∙ r.1, r.2, r.3)
right_before marks keys fates f j lt Dropped r = r

-- the first, or the last
last_or : (fates : List Fate) (f : Fate) (j : ℕ) → j < length (fates ++ f ∷ []) → (j < length fates) ⊎ (j ≡ length fates)
last_or fates f j lt = elim (cases_lt j (length fates)) [
  | inl less ↦ inl less
  | inr past ↦ inr (let p : j ≡ length fates = omega (arith, past, lt, longer fates f) in p)
]

right_more : (marks : ℕ → Bool) (keys : ℕ → Key) (fates : List Fate) (f : Fate) → AreFatesBy marks keys fates → IsFateBy marks keys (fates ++ f ∷ []) (length fates) f
    → (j : ℕ) → j < length (fates ++ f ∷ []) → IsFateBy marks keys (fates ++ f ∷ []) j (fate_at (fates ++ f ∷ []) j)
right_more marks keys fates f a r j lt = elim (last_or fates f j lt) [
  | inl less ↦ subst (λ (g : Fate). IsFateBy marks keys (fates ++ f ∷ []) j g) (sym (at_before fates f j less)) (right_before marks keys fates f j less (fate_at fates j) (a.right j less))
  | inr e ↦ subst (λ (k : ℕ). IsFateBy marks keys (fates ++ f ∷ []) k (fate_at (fates ++ f ∷ []) k)) (sym e)
      (subst (λ (g : Fate). IsFateBy marks keys (fates ++ f ∷ []) (length fates) g) (sym (at_last fates f)) r)
]

apart_more : (marks : ℕ → Bool) (keys : ℕ → Key) (fates : List Fate) (f : Fate) → AreFatesBy marks keys fates
    → ((i : ℕ) → i < length fates → fate_at fates i ≡ Kept → f ≡ Kept → (keys (length fates)).init < 2 → keys i ≢ keys (length fates))
    → (i j : ℕ) → i < j → j < length (fates ++ f ∷ []) → fate_at (fates ++ f ∷ []) i ≡ Kept → fate_at (fates ++ f ∷ []) j ≡ Kept → (keys j).init < 2 → keys i ≢ keys j
apart_more marks keys fates f a new i j ij lt ki kj known = elim (last_or fates f j lt) [
  | inl less ↦
      let before : i < length fates = omega (arith, ij, less) in
      a.apart i j ij less (sym (at_before fates f i before) ∙ ki) (sym (at_before fates f j less) ∙ kj) known
  | inr e ↦
      let before : i < length fates = omega (arith, ij, e) in
      subst (λ (k : ℕ). keys i ≢ keys k) (sym e)
      (new i before (sym (at_before fates f i before) ∙ ki) (sym (at_last fates f) ∙ ap (fate_at (fates ++ f ∷ [])) (sym e) ∙ kj) (subst (λ (k : ℕ). (keys k).init < 2) e known))
]

-- what was seen stands for the same latches
kept_before : (keys : ℕ → Key) (fates : List Fate) (f : Fate) (seen : Key → Option ℕ) → IsSeen keys fates seen
    → (k : Key) (i : ℕ) → seen k ≡ Some i → (i < length (fates ++ f ∷ [])) × (fate_at (fates ++ f ∷ []) i ≡ Kept) × (keys i ≡ k)
kept_before keys fates f seen s k i e =
    let (lt, kept, same) = s.kept k i e in
    let longer : i < length (fates ++ f ∷ []) = omega (arith, lt, longer fates f) in
    (longer, at_before fates f i lt ∙ kept, same)

pub record IsNext (marks : ℕ → Bool) (keys : ℕ → Key) (fates : List Fate) (seen : Key → Option ℕ) : Type 0 where
  pub latest : IsSeen keys fates seen
  pub so_far : AreFatesBy marks keys fates

pub none_seen : (marks : ℕ → Bool) (keys : ℕ → Key) (seen : Key → Option ℕ) → ((k : Key) → seen k ≡ None) → IsNext marks keys [] seen
none_seen marks keys seen h = record {
  latest = record { kept = λ k i e. absurd (both_ways false refl (ap is_none (sym e ∙ h k))); there = λ i lt kept known. absurd (omega (arith, lt)) };
  so_far = record { right = λ j lt. absurd (omega (arith, lt)); apart = λ i j ij lt ki kj known. absurd (omega (arith, lt)) };
}

-- a latch that isn't kept adds nothing to what was seen
there_other : (keys : ℕ → Key) (fates : List Fate) (f : Fate) (seen new : Key → Option ℕ) → is_kept f ≡ false → ((k : Key) → new k ≡ seen k) → IsSeen keys fates seen
    → (i : ℕ) → i < length (fates ++ f ∷ []) → fate_at (fates ++ f ∷ []) i ≡ Kept → (keys i).init < 2 → new (keys i) ≢ None
there_other keys fates f seen new other same s i lt kept known none = elim (last_or fates f i lt) [
  | inl less ↦ s.there i less (sym (at_before fates f i less) ∙ kept) known (sym (same (keys i)) ∙ none)
  | inr e ↦ absurd (both_ways (is_kept f) other (ap is_kept (sym (at_last fates f) ∙ ap (fate_at (fates ++ f ∷ [])) (sym e) ∙ kept)))
]

seen_same : (keys : ℕ → Key) (fates : List Fate) (f : Fate) (seen new : Key → Option ℕ) → ((k : Key) → new k ≡ seen k) → IsSeen keys fates seen
    → ((i : ℕ) → i < length (fates ++ f ∷ []) → fate_at (fates ++ f ∷ []) i ≡ Kept → (keys i).init < 2 → new (keys i) ≢ None) → IsSeen keys (fates ++ f ∷ []) new
seen_same keys fates f seen new same s there = record {
  kept = λ k i e. kept_before keys fates f seen s k i (sym (same k) ∙ e);
  there = there;
}

-- a latch that isn't needed
next_dropped : (marks : ℕ → Bool) (keys : ℕ → Key) (fates : List Fate) (seen new : Key → Option ℕ) → IsNext marks keys fates seen → marks (length fates) ≡ false → ((k : Key) → new k ≡ seen k) → IsNext marks keys (fates ++ Dropped ∷ []) new
next_dropped marks keys fates seen new n e same = record {
  latest = seen_same keys fates Dropped seen new same n.latest (there_other keys fates Dropped seen new refl same n.latest);
  so_far = record {
    right = right_more marks keys fates Dropped n.so_far e;
    apart = apart_more marks keys fates Dropped n.so_far (λ i lt kept other known. absurd (both_ways false refl (ap is_kept other)));
  };
}

-- one that is merged
next_merged : (marks : ℕ → Bool) (keys : ℕ → Key) (fates : List Fate) (seen new : Key → Option ℕ) (i : ℕ) → IsNext marks keys fates seen → (keys (length fates)).init < 2 → seen (keys (length fates)) ≡ Some i → ((k : Key) → new k ≡ seen k)
    → IsNext marks keys (fates ++ Merged i ∷ []) new
next_merged marks keys fates seen new i n known e same =
    let (lt, kept, equal) = n.latest.kept (keys (length fates)) i e in
    record {
      latest = seen_same keys fates (Merged i) seen new same n.latest (there_other keys fates (Merged i) seen new refl same n.latest);
      so_far = record {
        right = right_more marks keys fates (Merged i) n.so_far (lt, at_before fates (Merged i) i lt ∙ kept, equal, known);
        apart = apart_more marks keys fates (Merged i) n.so_far (λ k lk ek other known. absurd (both_ways false refl (ap is_kept other)));
      };
    }

-- one that is kept, and begins with any value
next_any : (marks : ℕ → Bool) (keys : ℕ → Key) (fates : List Fate) (seen new : Key → Option ℕ) → IsNext marks keys fates seen → marks (length fates) ≡ true → 2 ≤ (keys (length fates)).init → ((k : Key) → new k ≡ seen k)
    → IsNext marks keys (fates ++ Kept ∷ []) new
next_any marks keys fates seen new n e any same = record {
  latest = seen_same keys fates Kept seen new same n.latest (λ i lt kept known none. elim (last_or fates Kept i lt) [
    | inl less ↦ n.latest.there i less (sym (at_before fates Kept i less) ∙ kept) known (sym (same (keys i)) ∙ none)
    | inr s ↦
        let low : (keys (length fates)).init < 2 = subst (λ (k : ℕ). (keys k).init < 2) s known in
        absurd (omega (arith, low, any))
  ]);
  so_far = record {
    right = right_more marks keys fates Kept n.so_far e;
    apart = apart_more marks keys fates Kept n.so_far (λ i lt kept other known. absurd (omega (arith, known, any)));
  };
}

-- one that is kept, and seen from now on
next_new : (marks : ℕ → Bool) (keys : ℕ → Key) (fates : List Fate) (seen new : Key → Option ℕ) → IsNext marks keys fates seen → marks (length fates) ≡ true → seen (keys (length fates)) ≡ None
    → new (keys (length fates)) ≡ Some (length fates) → ((k : Key) → (k ≡ keys (length fates)) ⊎ (new k ≡ seen k)) → IsNext marks keys (fates ++ Kept ∷ []) new
next_new marks keys fates seen new n e none here others = record {
  latest = record {
    kept = λ k i s. elim (others k) [
      | inl same ↦
          let last : length fates ≡ i = ap number_in (sym here ∙ sym (ap new same) ∙ s) in
          let lt : i < length (fates ++ Kept ∷ []) = omega (arith, last, longer fates Kept) in
          (lt, ap (fate_at (fates ++ Kept ∷ [])) (sym last) ∙ at_last fates Kept, ap keys (sym last) ∙ sym same)
      | inr other ↦ kept_before keys fates Kept seen n.latest k i (sym other ∙ s)
    ];
    there = λ i lt kept known gone. elim (others (keys i)) [
      | inl same ↦ absurd (both_ways false refl (ap is_none (sym (ap new same ∙ here) ∙ gone)))
      | inr other ↦ elim (last_or fates Kept i lt) [
        | inl less ↦ n.latest.there i less (sym (at_before fates Kept i less) ∙ kept) known (sym other ∙ gone)
        | inr s ↦ absurd (both_ways false refl (ap is_none (sym (ap new (ap keys s) ∙ here) ∙ gone)))
      ]
    ];
  };
  so_far = record {
    right = right_more marks keys fates Kept n.so_far e;
    apart = apart_more marks keys fates Kept n.so_far (λ i lt kept k known same. n.latest.there i lt kept (subst (λ (x : Key). x.init < 2) (sym same) known) (ap seen same ∙ none));
  };
}

-- one more, by what was found
pub next_found : (marks : ℕ → Bool) (keys : ℕ → Key) (fates : List Fate) (seen new : Key → Option ℕ) (needed : Bool) (key : Key) (number : ℕ) (f : Fate) (more : List Fate) → IsNext marks keys fates seen → length fates ≡ number → needed ≡ marks number → key ≡ keys number
    → IsFound seen needed key number f new → more ≡ fates ++ f ∷ [] → IsNext marks keys more new
next_found marks keys fates seen new needed key number f more n count mark is found e = subst (λ (fs : List Fate). IsNext marks keys fs new) (sym e) (go f (subst (λ (k : ℕ). IsFound seen (marks k) (keys k) k f new) (sym count) (subst (λ (k : Key). IsFound seen (marks number) k number f new) is (subst (λ (b : Bool). IsFound seen b key number f new) mark found))))
  where
    go : (f : Fate) → IsFound seen (marks (length fates)) (keys (length fates)) (length fates) f new → IsNext marks keys (fates ++ f ∷ []) new
    go Kept (e, inl any) = next_any marks keys fates seen new n e any.0 any.1
    go Kept (e, inr first) = next_new marks keys fates seen new n e first.0 first.1 first.2
    go (Merged i) merged = next_merged marks keys fates seen new i n merged.0 merged.1 merged.2
    go Dropped dropped = next_dropped marks keys fates seen new n dropped.0 dropped.1
