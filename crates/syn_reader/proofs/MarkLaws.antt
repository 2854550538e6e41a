-- Marks of names, as names are added and defined.
use Rattle.std.proofs.Common.{◌≡◌, ◌≢◌, ℕ, zero, suc, ◌+◌, ◌<◌, ◌||◌, ◌&&◌, not, Bool, true, false, if◌then◌else◌, List, [], ◌∷◌, ◌++◌, length, bytes_eq, slice_index_or, slice_set, refl, sym, ap, ap₂, ◌∙◌, subst, inl, inr, arith, length-append}
use Rattle.std.proofs.Math.Bool.{or-false}
use Rattle.std.proofs.lemmas.Bool.{and_parts, both_ways, cases_Bool, cond-true, cond-false, not-true, false_from_ne_true}
use Rattle.syn_netlist.specs.Numbers.{word_at, with_word}
use Rattle.syn_netlist.specs.Words.{has_word, distinct}
use Rattle.syn_netlist.proofs.Sets.{distinct_push, same_word, word_same}
use Rattle.syn_reader.specs.declared.Kind.{Kind}
use Rattle.syn_reader.specs.declared.Kind.TheVariants as kinds
use Rattle.syn_reader.specs.declared.signals.Mark.{Mark}
use Rattle.syn_reader.specs.declared.signals.Mark.TheVariants as marks
use Rattle.syn_reader.specs.Definitions.{may_share}
use Rattle.syn_reader.specs.Marking.{mark_forbids, mark_after, forbidden, also, Same, with_words}
use Rattle.syn_netlist.proofs.Places.{has_word_at}
use Rattle.syn_reader.proofs.Naming.{known_before}

-- names with more words behind them
pub with_words-append : (names xs ys : List (List ℕ)) → with_words names (xs ++ ys) ≡ with_words (with_words names xs) ys
with_words-append names [] ys = refl
with_words-append names (x ∷ xs) ys = with_words-append (with_word names x) xs ys

-- names

with_new : (names more : List (List ℕ)) (word : List ℕ) → more ≡ with_word names word → length names < length more → (has_word names word ≡ false) × (more ≡ names ++ word ∷ [])
with_new names more word m lt = elim (cases_Bool (has_word names word)) [
  | inl e ↦ absurd (let same = ap length (m ∙ cond-true (has_word names word) names (names ++ word ∷ []) e) in omega (arith, same, lt))
  | inr e ↦ (e, m ∙ cond-false (has_word names word) names (names ++ word ∷ []) e)
]

pub with_known : (names more : List (List ℕ)) (word : List ℕ) (i : ℕ) → more ≡ with_word names word → word_at more i ≡ word → i < length more → i ≢ length names → more ≡ names
with_known names more word i m w lt ne = elim (cases_Bool (has_word names word)) [
  | inl e ↦ m ∙ cond-true (has_word names word) names (names ++ word ∷ []) e
  | inr e ↦
      let is : more ≡ names ++ word ∷ [] = m ∙ cond-false (has_word names word) names (names ++ word ∷ []) e in
      let size : length more ≡ length names + 1 = ap length is ∙ length-append names (word ∷ []) in
      absurd (both_ways (has_word names word) e (known_before names more word i m w (omega (arith, size, lt, ne))))
]

forbidden_snoc : (ns : List (List ℕ)) (ms : List Mark) (v : List ℕ) (k : Kind) (w : List ℕ) → length ms ≡ length ns → forbidden (ns ++ v ∷ []) (ms ++ marks.Free ∷ []) k w ≡ forbidden ns ms k w
forbidden_snoc [] [] v k w e = go (bytes_eq v w)
  where
    go : (b : Bool) → (if b then false else false) ≡ false
    go true = refl
    go false = refl
forbidden_snoc [] (m ∷ ms) v k w e = absurd (omega arith)
forbidden_snoc (n ∷ ns) [] v k w e = absurd (omega arith)
forbidden_snoc (n ∷ ns) (m ∷ ms) v k w e = ap (λ r. if bytes_eq n w then mark_forbids m k else r) (forbidden_snoc ns ms v k w (omega arith))

pub added_free : (names more : List (List ℕ)) (ms items : List Mark) (word : List ℕ) → more ≡ with_word names word → length names < length more → length ms ≡ length names → items ≡ ms ++ marks.Free ∷ []
    → Same (forbidden names ms) (forbidden more items) × (length items ≡ length more)
added_free names more ms items word m lt s i =
    let new = with_new names more word m lt in
    let size = ap length new.1 ∙ length-append names (word ∷ []) in
    let sized = ap length i ∙ length-append ms (marks.Free ∷ []) in
    (λ k w. ap₂ (λ ns is. forbidden ns is k w) new.1 i ∙ forbidden_snoc names ms word k w s, omega (arith, s, size, sized))

pub still_distinct : (names more : List (List ℕ)) (word : List ℕ) → more ≡ with_word names word → distinct names ≡ true → distinct more ≡ true
still_distinct names more word m d = elim (cases_Bool (has_word names word)) [
  | inl e ↦ ap distinct (m ∙ cond-true (has_word names word) names (names ++ word ∷ []) e) ∙ d
  | inr e ↦ ap distinct (m ∙ cond-false (has_word names word) names (names ++ word ∷ []) e) ∙ distinct_push names word d e
]

-- the mark of a number

pub forbidden_at : (ns : List (List ℕ)) (ms : List Mark) (i : ℕ) (d m : Mark) (k : Kind) → distinct ns ≡ true → i < length ns → length ms ≡ length ns → slice_index_or ms i d ≡ m → forbidden ns ms k (word_at ns i) ≡ mark_forbids m k
forbidden_at [] ms i d m k h lt e a = absurd (omega arith)
forbidden_at (n ∷ ns) [] i d m k h lt e a = absurd (omega arith)
forbidden_at (n ∷ ns) (x ∷ ms) zero d m k h lt e a = cond-true (bytes_eq n n) (mark_forbids x k) (forbidden ns ms k n) (word_same n) ∙ ap (λ q. mark_forbids q k) a
forbidden_at (n ∷ ns) (x ∷ ms) (suc i) d m k h lt e a =
    let p = and_parts (not (has_word ns n)) (distinct ns) h in
    let other : bytes_eq n (word_at ns i) ≡ false = false_from_ne_true (bytes_eq n (word_at ns i)) (λ z. both_ways (has_word ns n) (not-true _ p.0) (subst (λ v. has_word ns v ≡ true) (sym (same_word n (word_at ns i) z)) (has_word_at ns i (omega arith)))) in
    cond-false (bytes_eq n (word_at ns i)) (mark_forbids x k) (forbidden ns ms k (word_at ns i)) other ∙ forbidden_at ns ms i d m k p.1 (omega arith) (omega arith) a

forbidden_set : (ns : List (List ℕ)) (ms : List Mark) (i : ℕ) (m : Mark) (k : Kind) (w : List ℕ) → distinct ns ≡ true → i < length ns → length ms ≡ length ns
    → forbidden ns (slice_set ms i m) k w ≡ (if bytes_eq (word_at ns i) w then mark_forbids m k else forbidden ns ms k w)
forbidden_set [] ms i m k w h lt e = absurd (omega arith)
forbidden_set (n ∷ ns) [] i m k w h lt e = absurd (omega arith)
forbidden_set (n ∷ ns) (x ∷ ms) zero m k w h lt e = go (bytes_eq n w)
  where
    go : (b : Bool) → (if b then mark_forbids m k else forbidden ns ms k w) ≡ (if b then mark_forbids m k else if b then mark_forbids x k else forbidden ns ms k w)
    go true = refl
    go false = refl
forbidden_set (n ∷ ns) (x ∷ ms) (suc i) m k w h lt e = go (bytes_eq n w) refl (forbidden_set ns ms i m k w (and_parts (not (has_word ns n)) (distinct ns) h).1 (omega arith) (omega arith))
  where
    go : (b : Bool) → bytes_eq n w ≡ b → forbidden ns (slice_set ms i m) k w ≡ (if bytes_eq (word_at ns i) w then mark_forbids m k else forbidden ns ms k w)
        → (if b then mark_forbids x k else forbidden ns (slice_set ms i m) k w) ≡ (if bytes_eq (word_at ns i) w then mark_forbids m k else if b then mark_forbids x k else forbidden ns ms k w)
    go false q ih = ih
    go true q ih =
        let p = and_parts (not (has_word ns n)) (distinct ns) h in
        let other : bytes_eq (word_at ns i) w ≡ false = false_from_ne_true (bytes_eq (word_at ns i) w) (λ z. both_ways (has_word ns n) (not-true _ p.0) (subst (λ v. has_word ns v ≡ true) (same_word (word_at ns i) w z ∙ sym (same_word n w q)) (has_word_at ns i (omega arith)))) in
        sym (cond-false (bytes_eq (word_at ns i) w) (mark_forbids m k) (mark_forbids x k) other)

-- the mark after a definition

no_clock : (k : Kind) → not (may_share kinds.Inputs k) ≡ false → k ≡ kinds.Clock
no_clock kinds.Row h = absurd (both_ways true h refl)
no_clock kinds.Unknown h = absurd (both_ways true h refl)
no_clock kinds.Model h = absurd (both_ways true h refl)
no_clock kinds.Inputs h = absurd (both_ways true h refl)
no_clock kinds.Outputs h = absurd (both_ways true h refl)
no_clock kinds.Clock h = refl
no_clock kinds.Names h = absurd (both_ways true h refl)
no_clock kinds.Latch h = absurd (both_ways true h refl)
no_clock kinds.Subckt h = absurd (both_ways true h refl)
no_clock kinds.End h = absurd (both_ways true h refl)

no_input : (k : Kind) → not (may_share kinds.Clock k) ≡ false → k ≡ kinds.Inputs
no_input kinds.Row h = absurd (both_ways true h refl)
no_input kinds.Unknown h = absurd (both_ways true h refl)
no_input kinds.Model h = absurd (both_ways true h refl)
no_input kinds.Inputs h = refl
no_input kinds.Outputs h = absurd (both_ways true h refl)
no_input kinds.Clock h = absurd (both_ways true h refl)
no_input kinds.Names h = absurd (both_ways true h refl)
no_input kinds.Latch h = absurd (both_ways true h refl)
no_input kinds.Subckt h = absurd (both_ways true h refl)
no_input kinds.End h = absurd (both_ways true h refl)

both : (k : Kind) → (not (may_share kinds.Clock k) || not (may_share kinds.Inputs k)) ≡ true
both kinds.Row = refl
both kinds.Unknown = refl
both kinds.Model = refl
both kinds.Inputs = refl
both kinds.Outputs = refl
both kinds.Clock = refl
both kinds.Names = refl
both kinds.Latch = refl
both kinds.Subckt = refl
both kinds.End = refl

both_again : (k : Kind) → (not (may_share kinds.Inputs k) || not (may_share kinds.Clock k)) ≡ true
both_again kinds.Row = refl
both_again kinds.Unknown = refl
both_again kinds.Model = refl
both_again kinds.Inputs = refl
both_again kinds.Outputs = refl
both_again kinds.Clock = refl
both_again kinds.Names = refl
both_again kinds.Latch = refl
both_again kinds.Subckt = refl
both_again kinds.End = refl

after_is : (m : Mark) (k j : Kind) → mark_forbids m k ≡ false → mark_forbids (mark_after m k) j ≡ (not (may_share k j) || mark_forbids m j)
after_is marks.Free kinds.Row j h = refl
after_is marks.Free kinds.Unknown j h = refl
after_is marks.Free kinds.Model j h = refl
after_is marks.Free kinds.Inputs j h = sym (or-false (not (may_share kinds.Inputs j)))
after_is marks.Free kinds.Outputs j h = refl
after_is marks.Free kinds.Clock j h = sym (or-false (not (may_share kinds.Clock j)))
after_is marks.Free kinds.Names j h = refl
after_is marks.Free kinds.Latch j h = refl
after_is marks.Free kinds.Subckt j h = refl
after_is marks.Free kinds.End j h = refl
after_is marks.Input k j h = sym (ap (λ q. not (may_share q j) || not (may_share kinds.Inputs j)) (no_clock k h) ∙ both j)
after_is marks.Clock k j h = sym (ap (λ q. not (may_share q j) || not (may_share kinds.Clock j)) (no_input k h) ∙ both_again j)
after_is marks.Taken k j h = absurd (both_ways true h refl)

-- one more definition
pub defined : (old : Kind → List ℕ → Bool) (ns : List (List ℕ)) (ms items : List Mark) (i : ℕ) (d m : Mark) (k : Kind) (word : List ℕ) → Same old (forbidden ns ms) → distinct ns ≡ true → i < length ns → length ms ≡ length ns
    → word_at ns i ≡ word → slice_index_or ms i d ≡ m → mark_forbids m k ≡ false → items ≡ slice_set ms i (mark_after m k) → Same (also k word old) (forbidden ns items)
defined old ns ms items i d m k word s h lt e w a f is j v =
    ap (λ l. forbidden ns l j v) is
    ∙ (forbidden_set ns ms i (mark_after m k) j v h lt e
    ∙ go (bytes_eq (word_at ns i) v) refl)
  where
    there : bytes_eq word v ≡ true → forbidden ns ms j v ≡ mark_forbids m j
    there q = ap (forbidden ns ms j) (sym (same_word word v q) ∙ sym w) ∙ forbidden_at ns ms i d m j h lt e a

    go : (b : Bool) → bytes_eq (word_at ns i) v ≡ b → (if b then mark_forbids (mark_after m k) j else forbidden ns ms j v) ≡ also k word old j v
    go true q =
        let here : bytes_eq word v ≡ true = ap (λ x. bytes_eq x v) (sym w) ∙ q in
        after_is m k j f ∙ sym (ap₂ (λ x y. (x && not (may_share k j)) || y) here (sym (s j v) ∙ there here))
    go false q = s j v ∙ sym (ap (λ x. (x && not (may_share k j)) || old j v) (ap (λ x. bytes_eq x v) (sym w) ∙ q))

pub forbidden_before : (old : Kind → List ℕ → Bool) (ns : List (List ℕ)) (ms : List Mark) (i : ℕ) (d m : Mark) (k : Kind) (word : List ℕ) → Same old (forbidden ns ms) → distinct ns ≡ true → i < length ns → length ms ≡ length ns
    → word_at ns i ≡ word → slice_index_or ms i d ≡ m → old k word ≡ mark_forbids m k
forbidden_before old ns ms i d m k word s h lt e w a = sym (s k word) ∙ (ap (forbidden ns ms k) (sym w) ∙ forbidden_at ns ms i d m k h lt e a)
