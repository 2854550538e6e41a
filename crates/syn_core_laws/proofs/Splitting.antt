-- Seats that split and seats that join keep the core sound.
use Rattle.std.proofs.Common.{◌≡◌, ◌≢◌, ◌⊎◌, ℕ, zero, suc, ◌+◌, ◌<◌, true, List, [], ◌∷◌, ◌++◌, length, set, get_or, refl, sym, ap, ◌∙◌, subst, arith, inl, inr, ⊎_elim, pos, ◌+ℤ◌}
use Rattle.std.proofs.lemmas.Bool.{cases_eq}
use Rattle.std.proofs.lemmas.Int.{ints}
use mathlib.Core.Option.{some, some-injective, some-ne-none}
use lib.ListN.{get_elem?}
use Rattle.syn_rows.specs.References.{times}
use Rattle.syn_core_laws.specs.declared.View.{View}
use Rattle.syn_rows.specs.Nodes.{has_node}
use Rattle.syn_core_laws.specs.Cores.{Core, all_pins, differences}
use Rattle.syn_core_laws.specs.Openings.{empty_view}
use Rattle.syn_core_laws.specs.Sound.{IsSeatSound}
use Rattle.syn_core_laws.specs.Splits.{view_after_join, SplitsKeepSound, JoinsKeepSound}
use Rattle.syn_core_laws.proofs.Listing.{at_set, set_else, set_there}
use Rattle.syn_core_laws.proofs.Counting.{pins_set, differences_set}
use Rattle.syn_core_laws.proofs.Seating.{number_was}

-- ---- one seat more
at_last : (l : List View) (x u : View) (i : ℕ) → get_elem? (l ++ x ∷ []) i ≡ some u → (get_elem? l i ≡ some u) ⊎ ((i ≡ length l) × (x ≡ u))
at_last [] x u zero e = inr (refl, some-injective x u e)
at_last [] x u (suc i) e = absurd (some-ne-none u (sym e))
at_last (y ∷ ys) x u zero e = inl e
at_last (y ∷ ys) x u (suc i) e = ⊎_elim (λ h. inl h) (λ t. inr (ap suc t.0, t.1)) (at_last ys x u i e)

at_front : (l : List View) (x u : View) (i : ℕ) → get_elem? l i ≡ some u → get_elem? (l ++ x ∷ []) i ≡ some u
at_front [] x u i e = absurd (some-ne-none u (sym e))
at_front (y ∷ ys) x u zero e = e
at_front (y ∷ ys) x u (suc i) e = at_front ys x u i e

pins_last : (m : ℕ) (l : List View) (x : View) → all_pins m (l ++ x ∷ []) ≡ all_pins m l + times m x.pins
pins_last m [] x = omega arith
pins_last m (y ∷ ys) x = let rest : all_pins m (ys ++ x ∷ []) ≡ all_pins m ys + times m x.pins = pins_last m ys x in omega arith

differences_last : (l : List View) (x : View) → differences (l ++ x ∷ []) ≡ differences l +ℤ x.difference
differences_last [] x = omega (arith, ints)
differences_last (y ∷ ys) x = let rest : differences (ys ++ x ∷ []) ≡ differences ys +ℤ x.difference = differences_last ys x in omega (arith, ints)

-- a seat that knows nothing, under a number that stands in no claim
empty_sound : (c : Core) (number : ℕ) → (number < 64 → (n : ℕ) → get_or c.claims n 0 ≢ suc number) → IsSeatSound c.claims c.rows c.counts c.keys (empty_view number)
empty_sound c number free = record {
  holds = λ n h. absurd (cc);
  holder = λ small n h. absurd (free small n h);
  knows_rows = λ n r h. absurd (cc);
  knows_keys = λ n k h. absurd (cc);
  idles = λ n h. absurd (cc);
  few = omega arith;
  soles = λ n h. absurd (cc);
}

pub splits_keep_sound : SplitsKeepSound
splits_keep_sound c number s new = record {
  claims_count = s.claims_count;
  counts_count = s.counts_count;
  keys_count = s.keys_count;
  apart = λ i j v w ei ej same small. elim (at_last c.seats (empty_view number) v i ei) [
    | inl old ↦ elim (at_last c.seats (empty_view number) w j ej) [
      | inl old' ↦ s.apart i j v w old old' same small
      | inr last ↦ absurd (new.1 i v old (same ∙ sym (ap (λ (z : View). z.number) last.1)))
    ]
    | inr last ↦ elim (at_last c.seats (empty_view number) w j ej) [
      | inl old' ↦ absurd (new.1 j w old' (sym same ∙ sym (ap (λ (z : View). z.number) last.1)))
      | inr last' ↦ last.0 ∙ sym last'.0
    ]
  ];
  claimant = λ n e. let t = s.claimant n e in (t.0, t.1, at_front c.seats (empty_view number) t.1 t.0 t.2, t.3);
  constant = s.constant;
  source_stays = s.source_stays;
  source_was = s.source_was;
  source_keys = s.source_keys;
  unused = s.unused;
  rests = s.rests;
  counted = λ n. let more : all_pins n (c.seats ++ empty_view number ∷ []) ≡ all_pins n c.seats + 0 = pins_last n c.seats (empty_view number) in omega (arith, s.counted n);
  values = s.values;
  and_rows =
      let more : differences (c.seats ++ empty_view number ∷ []) ≡ differences c.seats +ℤ pos 0 = differences_last c.seats (empty_view number) in
      let was = s.and_rows in
      omega (arith, ints);
  seats = λ id v e. elim (at_last c.seats (empty_view number) v id e) [
    | inl old ↦ s.seats id v old
    | inr last ↦ subst (IsSeatSound c.claims c.rows c.counts c.keys) last.1 (empty_sound c number (λ small n claimed.
        let t = s.claimant n (λ none. omega arith) in
        let theirs : get_or c.claims n 0 ≡ suc t.1.number = (s.seats t.0 t.1 t.2).holds n t.3 in
        new.1 t.0 t.1 t.2 (omega arith)))
  ];
}

-- ---- one seat joins another
-- the seats when the keeper has taken over what the other knows
abbrev taken_over : Core → ℕ → View → View → List View
taken_over c id v w = set c.seats id (view_after_join v w)

pub joins_keep_sound : JoinsKeepSound
joins_keep_sound c id other v w s ne at at_other none_held none_pinned = record {
  claims_count = s.claims_count;
  counts_count = s.counts_count;
  keys_count = s.keys_count;
  apart = λ i j a b ei ej same small.
      let x = was i a ei small in
      let y = was j b ej (subst (λ k. k < 64) same small) in
      s.apart i j x.0 y.0 x.1 y.1 (x.2 ∙ (same ∙ sym y.2)) (subst (λ k. k < 64) (sym x.2) small);
  claimant = λ n e. let t = s.claimant n e in holder_after n t.0 t.1 t.2 t.3;
  constant = s.constant;
  source_stays = s.source_stays;
  source_was = s.source_was;
  source_keys = s.source_keys;
  unused = s.unused;
  rests = s.rests;
  counted = λ n.
      let first : all_pins n (taken_over c id v w) + times n v.pins ≡ all_pins n c.seats + times n v.pins = pins_set n c.seats id v (view_after_join v w) at in
      let second : all_pins n (set (taken_over c id v w) other (empty_view 64)) + times n w.pins ≡ all_pins n (taken_over c id v w) + 0 = pins_set n (taken_over c id v w) other w (empty_view 64) other_there in
      let none : times n w.pins ≡ 0 = ap (times n) none_pinned in
      omega (arith, s.counted n);
  values = s.values;
  and_rows =
      let first : differences (taken_over c id v w) +ℤ v.difference ≡ differences c.seats +ℤ (v.difference +ℤ w.difference) = differences_set c.seats id v (view_after_join v w) at in
      let second : differences (set (taken_over c id v w) other (empty_view 64)) +ℤ w.difference ≡ differences (taken_over c id v w) +ℤ pos 0 = differences_set (taken_over c id v w) other w (empty_view 64) other_there in
      let before = s.and_rows in
      omega (arith, ints);
  seats = λ j u e. elim (at_set (taken_over c id v w) other j (empty_view 64) u e) [
    | inl last ↦ subst (IsSeatSound c.claims c.rows c.counts c.keys) last.1 (empty_sound c 64 (λ small n h. absurd (omega arith)))
    | inr rest ↦ elim (at_set c.seats id j (view_after_join v w) u rest.1) [
      | inl mine ↦
          let t : IsSeatSound c.claims c.rows c.counts c.keys v = s.seats id v at in
          subst (IsSeatSound c.claims c.rows c.counts c.keys) mine.1 record { holds = t.holds; holder = t.holder; knows_rows = t.knows_rows; knows_keys = t.knows_keys; idles = t.idles; few = t.few; soles = t.soles }
      | inr old ↦ s.seats j u old.1
    ]
  ];
}
  where
    other_there : get_elem? (taken_over c id v w) other ≡ some w
    other_there = set_else c.seats id other (view_after_join v w) (λ e. ne (sym e)) ∙ at_other

    was : (i : ℕ) (a : View) → get_elem? (set (taken_over c id v w) other (empty_view 64)) i ≡ some a → a.number < 64 → (t : View) × (get_elem? c.seats i ≡ some t) × (t.number ≡ a.number)
    was i a e small = elim (at_set (taken_over c id v w) other i (empty_view 64) a e) [
      | inl last ↦ let is : 64 ≡ a.number = ap (λ (z : View). z.number) last.1 in absurd (omega arith)
      | inr rest ↦ number_was c.seats id v (view_after_join v w) at refl i a rest.1
    ]

    holder_after : (n j : ℕ) (u : View) → get_elem? c.seats j ≡ some u → has_node u.held n ≡ true → (k : ℕ) × (t : View) × (get_elem? (set (taken_over c id v w) other (empty_view 64)) k ≡ some t) × (has_node t.held n ≡ true)
    holder_after n j u there h = elim (cases_eq j other) [
      | inl same ↦
          let is : u ≡ w = some-injective u w (sym (subst (λ k. get_elem? c.seats k ≡ some u) same there) ∙ at_other) in
          let none : has_node u.held n ≡ has_node [] n = ap (λ (z : View). has_node z.held n) is ∙ ap (λ (xs : List ℕ). has_node xs n) none_held in
          absurd (cc)
      | inr apart ↦ elim (cases_eq j id) [
        | inl same ↦
            let is : u ≡ v = some-injective u v (sym (subst (λ k. get_elem? c.seats k ≡ some u) same there) ∙ at) in
            (id, view_after_join v w, set_else (taken_over c id v w) other id (empty_view 64) ne ∙ set_there c.seats id v (view_after_join v w) at, subst (λ (z : View). has_node z.held n ≡ true) is h)
        | inr ne' ↦ (j, u, set_else (taken_over c id v w) other j (empty_view 64) apart ∙ (set_else c.seats id j (view_after_join v w) ne' ∙ there), h)
      ]
    ]
