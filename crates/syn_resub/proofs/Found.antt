-- Forms that are found one after the other, the first 16.
use Rattle.std.proofs.Common.{◌≡◌, ℕ, zero, suc, ◌+◌, ◌<◌, ◌≤◌, ◌&&◌, ◌||◌, not, if◌then◌else◌, Bool, true, false, List, [], ◌∷◌, ◌++◌, append_assoc, drop, filter, get_or, length, map, take, refl, sym, ap, ap₂, ◌∙◌, subst, inl, inr, arith}
use Rattle.std.specs.Bool.{beq}
use Rattle.std.specs.List.{flat_map}
use Rattle.std.proofs.lemmas.Bool.{and_from, both_ways, cases_Bool, cond-false, cond-true, false_from_ne_true, or_left, or_right}
use Rattle.std.proofs.lemmas.List.{append-nil, drop_more, map-append, take-append-le, take_all}
use Rattle.std.proofs.lemmas.List.Elements.{filter-append}
use Rattle.syn_rows.specs.declared.Lit.{Lit}
use Rattle.syn_rows.specs.declared.Row.{Row}
use Rattle.syn_rows.specs.Joining.{complement, lit_of}
use Rattle.syn_truth.specs.Truth.{AtEach}
use Rattle.syn_truth.proofs.Each.{each_at, each_from, same_from_test, same_test}
use Rattle.syn_cones.specs.Values.{value_over}
use Rattle.syn_resub.specs.declared.forms.Form.{Form}
use Rattle.syn_resub.specs.declared.forms.Form.TheVariants.{Constant, One, Both}
use Rattle.syn_resub.specs.Divided.{implies, lit_over}
use Rattle.syn_resub.specs.Forms.{all_ands, ands_of, ands_over, forms, literals_of, signs, stands_for}
use Rattle.syn_resub.specs.declared.sides.Sides.{Sides}
use Rattle.syn_resub.specs.Sides.{AreSides, divisor_of, may_stand, may_stand_by}

-- lists that are cut

pub take-again : {A : Type 0} (k : ℕ) (xs ys : List A) → take k (take k xs ++ ys) ≡ take k (xs ++ ys)
take-again zero xs ys = refl
take-again (suc k) [] ys = refl
take-again (suc k) (x ∷ xs) ys = ap (λ l. x ∷ l) (take-again k xs ys)

-- more behind what was found
pub found_more : {A : Type 0} (k : ℕ) (old mid new xs ys : List A) → mid ≡ take k (old ++ xs) → new ≡ take k (mid ++ ys) → new ≡ take k (old ++ (xs ++ ys))
found_more k old mid new xs ys first second =
    second ∙ ap (λ l. take k (l ++ ys)) first ∙ take-again k (old ++ xs) ys ∙ ap (take k) (append_assoc old xs ys)

-- nothing more
pub found_none : {A : Type 0} (k : ℕ) (old : List A) → length old ≤ k → old ≡ take k (old ++ [])
found_none k old few = sym (ap (take k) (append-nil old) ∙ take_all k old few)

-- no more fits
pub found_full : {A : Type 0} (k : ℕ) (old xs : List A) → length old ≡ k → take k (old ++ xs) ≡ old
found_full k old xs full = take-append-le k old xs (omega (arith, full)) ∙ take_all k old (omega (arith, full))

-- one that may pass
abbrev pub maybe : {A : Type 0} → Bool → A → List A
maybe b x = if b then x ∷ [] else []

filter_two : {A : Type 0} (p : A → Bool) (x y : A) → filter p (x ∷ y ∷ []) ≡ maybe (p x) x ++ maybe (p y) y
filter_two p x y = by (p x) (p y)
  where
    by : (a b : Bool) → (if a then x ∷ (if b then y ∷ [] else []) else (if b then y ∷ [] else [])) ≡ maybe a x ++ maybe b y
    by true b = refl
    by false b = refl

-- two that may pass
pub found_two : {A : Type 0} (k : ℕ) (p : A → Bool) (old mid new : List A) (x y : A) (a b : Bool) → a ≡ p x → b ≡ p y → mid ≡ take k (old ++ maybe a x) → new ≡ take k (mid ++ maybe b y)
    → new ≡ take k (old ++ filter p (x ∷ y ∷ []))
found_two k p old mid new x y a b is_a is_b first second =
    found_more k old mid new (maybe a x) (maybe b y) first second
    ∙ ap (λ l. take k (old ++ l)) (ap₂ (λ c d. maybe c x ++ maybe d y) is_a is_b ∙ sym (filter_two p x y))

-- neither passes
pub filter_neither : {A : Type 0} (p : A → Bool) (x y : A) (rest : List A) → p x ≡ false → p y ≡ false → filter p (x ∷ y ∷ rest) ≡ filter p rest
filter_neither p x y rest no_x no_y =
    cond-false (p x) (x ∷ filter p (y ∷ rest)) (filter p (y ∷ rest)) no_x ∙ cond-false (p y) (y ∷ filter p rest) (filter p rest) no_y

-- the AND of two literals stands only where both are implied

module _ (rows : List Row) (leaves : List ℕ) (node : ℕ) where
  abbrev f : List Bool → Bool
  f xs = value_over rows leaves node xs

  abbrev g : List Bool → Bool
  g xs = not (value_over rows leaves node xs)

  first_implied : (a b c : Bool) → (a && b) ≡ c → (c && a) ≡ c
  first_implied true b c e = by c
    where
      by : (c : Bool) → (c && true) ≡ c
      by true = refl
      by false = refl
  first_implied false b c e = subst (λ k. (k && false) ≡ k) e refl

  second_implied : (a b c : Bool) → (a && b) ≡ c → (c && b) ≡ c
  second_implied a true c e = by c
    where
      by : (c : Bool) → (c && true) ≡ c
      by true = refl
      by false = refl
  second_implied true false c e = subst (λ k. (k && false) ≡ k) e refl
  second_implied false false c e = subst (λ k. (k && false) ≡ k) e refl

  not-not : (a b : Bool) → not a ≡ b → a ≡ not b
  not-not true b e = subst (λ k. true ≡ not k) e refl
  not-not false b e = subst (λ k. false ≡ not k) e refl

  pub plain_implies : (l m : Lit) → stands_for rows leaves node (Both l m false) ≡ true → (implies (length leaves) f (lit_over rows leaves l) ≡ true) × (implies (length leaves) f (lit_over rows leaves m) ≡ true)
  plain_implies l m h = (
    each_from (length leaves) (λ xs. beq (f xs && lit_over rows leaves l xs) (f xs)) (λ xs long. same_test _ _ (first_implied (lit_over rows leaves l xs) (lit_over rows leaves m xs) (f xs) (at xs long))),
    each_from (length leaves) (λ xs. beq (f xs && lit_over rows leaves m xs) (f xs)) (λ xs long. same_test _ _ (second_implied (lit_over rows leaves l xs) (lit_over rows leaves m xs) (f xs) (at xs long))),
  )
    where
      at : AtEach (length leaves) (λ xs. (lit_over rows leaves l xs && lit_over rows leaves m xs) ≡ f xs)
      at xs long = same_from_test _ _ (each_at (length leaves) (λ xs. beq (lit_over rows leaves l xs && lit_over rows leaves m xs) (f xs)) h xs long)

  pub complemented_implies : (l m : Lit) → stands_for rows leaves node (Both l m true) ≡ true → (implies (length leaves) g (lit_over rows leaves l) ≡ true) × (implies (length leaves) g (lit_over rows leaves m) ≡ true)
  complemented_implies l m h = (
    each_from (length leaves) (λ xs. beq (g xs && lit_over rows leaves l xs) (g xs)) (λ xs long. same_test _ _ (first_implied (lit_over rows leaves l xs) (lit_over rows leaves m xs) (g xs) (at xs long))),
    each_from (length leaves) (λ xs. beq (g xs && lit_over rows leaves m xs) (g xs)) (λ xs long. same_test _ _ (second_implied (lit_over rows leaves l xs) (lit_over rows leaves m xs) (g xs) (at xs long))),
  )
    where
      at : AtEach (length leaves) (λ xs. (lit_over rows leaves l xs && lit_over rows leaves m xs) ≡ g xs)
      at xs long = not-not _ _ (same_from_test _ _ (each_at (length leaves) (λ xs. beq (not (lit_over rows leaves l xs && lit_over rows leaves m xs)) (f xs)) h xs long))

  -- so the test of the flags changes nothing
  and_both : (a b c : Bool) → (c ≡ true → (a ≡ true) × (b ≡ true)) → ((a && b) && c) ≡ c
  and_both a b true h = let both = h refl in and_from (a && b) true (and_from a b both.0 both.1) refl
  and_both a b false h = by (a && b)
    where
      by : (d : Bool) → (d && false) ≡ false
      by true = refl
      by false = refl

  pub plain_stands : (l m : Lit) (a b : Bool) → a ≡ implies (length leaves) f (lit_over rows leaves l) → b ≡ implies (length leaves) f (lit_over rows leaves m)
      → ((a && b) && stands_for rows leaves node (Both l m false)) ≡ stands_for rows leaves node (Both l m false)
  plain_stands l m a b is_a is_b = and_both a b (stands_for rows leaves node (Both l m false)) (λ h. let both = plain_implies l m h in (is_a ∙ both.0, is_b ∙ both.1))

  pub complemented_stands : (l m : Lit) (a b : Bool) → a ≡ implies (length leaves) g (lit_over rows leaves l) → b ≡ implies (length leaves) g (lit_over rows leaves m)
      → ((a && b) && stands_for rows leaves node (Both l m true)) ≡ stands_for rows leaves node (Both l m true)
  complemented_stands l m a b is_a is_b = and_both a b (stands_for rows leaves node (Both l m true)) (λ h. let both = complemented_implies l m h in (is_a ∙ both.0, is_b ∙ both.1))

  -- literals that nothing implies

  may_by : (l : Lit) → may_stand_by rows leaves node l ≡ false → (implies (length leaves) f (lit_over rows leaves l) ≡ true → ⊥) × (implies (length leaves) g (lit_over rows leaves l) ≡ true → ⊥)
  may_by l never = (
    λ h. both_ways (may_stand_by rows leaves node l) never (or_left (implies (length leaves) f (lit_over rows leaves l)) (implies (length leaves) g (lit_over rows leaves l)) h),
    λ h. both_ways (may_stand_by rows leaves node l) never (or_right (implies (length leaves) f (lit_over rows leaves l)) (implies (length leaves) g (lit_over rows leaves l)) h),
  )

  none_of_first : (l m : Lit) (rest : List Form) → may_stand_by rows leaves node l ≡ false → filter (stands_for rows leaves node) (ands_of l m ++ rest) ≡ filter (stands_for rows leaves node) rest
  none_of_first l m rest never = filter_neither (stands_for rows leaves node) (Both l m false) (Both l m true) rest
      (false_from_ne_true (stands_for rows leaves node (Both l m false)) (λ h. (may_by l never).0 (plain_implies l m h).0))
      (false_from_ne_true (stands_for rows leaves node (Both l m true)) (λ h. (may_by l never).1 (complemented_implies l m h).0))

  none_of_second : (l m : Lit) (rest : List Form) → may_stand_by rows leaves node m ≡ false → filter (stands_for rows leaves node) (ands_of l m ++ rest) ≡ filter (stands_for rows leaves node) rest
  none_of_second l m rest never = filter_neither (stands_for rows leaves node) (Both l m false) (Both l m true) rest
      (false_from_ne_true (stands_for rows leaves node (Both l m false)) (λ h. (may_by m never).0 (plain_implies l m h).1))
      (false_from_ne_true (stands_for rows leaves node (Both l m true)) (λ h. (may_by m never).1 (complemented_implies l m h).1))

  or_parts : (a b : Bool) → (a || b) ≡ false → (a ≡ false) × (b ≡ false)
  or_parts true b h = absurd (both_ways true h refl)
  or_parts false b h = (refl, h)

  first_never : (d e : ℕ) → may_stand rows leaves node d ≡ false → filter (stands_for rows leaves node) (ands_over d e) ≡ []
  first_never d e never =
      let parts = or_parts (may_stand_by rows leaves node (lit_of d)) (may_stand_by rows leaves node (complement (lit_of d))) never in
      none_of_first (lit_of d) (lit_of e) (ands_of (lit_of d) (complement (lit_of e)) ++ (ands_of (complement (lit_of d)) (lit_of e) ++ ands_of (complement (lit_of d)) (complement (lit_of e)))) parts.0
      ∙ none_of_first (lit_of d) (complement (lit_of e)) (ands_of (complement (lit_of d)) (lit_of e) ++ ands_of (complement (lit_of d)) (complement (lit_of e))) parts.0
      ∙ none_of_first (complement (lit_of d)) (lit_of e) (ands_of (complement (lit_of d)) (complement (lit_of e))) parts.1
      ∙ none_of_first (complement (lit_of d)) (complement (lit_of e)) [] parts.1

  second_never : (d e : ℕ) → may_stand rows leaves node e ≡ false → filter (stands_for rows leaves node) (ands_over d e) ≡ []
  second_never d e never =
      let parts = or_parts (may_stand_by rows leaves node (lit_of e)) (may_stand_by rows leaves node (complement (lit_of e))) never in
      none_of_second (lit_of d) (lit_of e) (ands_of (lit_of d) (complement (lit_of e)) ++ (ands_of (complement (lit_of d)) (lit_of e) ++ ands_of (complement (lit_of d)) (complement (lit_of e)))) parts.0
      ∙ none_of_second (lit_of d) (complement (lit_of e)) (ands_of (complement (lit_of d)) (lit_of e) ++ ands_of (complement (lit_of d)) (complement (lit_of e))) parts.1
      ∙ none_of_second (complement (lit_of d)) (lit_of e) (ands_of (complement (lit_of d)) (complement (lit_of e))) parts.0
      ∙ none_of_second (complement (lit_of d)) (complement (lit_of e)) [] parts.1

  -- divisors that nothing implies may be left out

  all_first_never : (d : ℕ) (es : List ℕ) → may_stand rows leaves node d ≡ false → filter (stands_for rows leaves node) (flat_map (ands_over d) es) ≡ []
  all_first_never d [] never = refl
  all_first_never d (e ∷ es) never = filter-append (stands_for rows leaves node) (ands_over d e) (flat_map (ands_over d) es) ∙ ap₂ (λ xs ys. xs ++ ys) (first_never d e never) (all_first_never d es never)

  among_those : (d : ℕ) (es : List ℕ) → filter (stands_for rows leaves node) (flat_map (ands_over d) es) ≡ filter (stands_for rows leaves node) (flat_map (ands_over d) (filter (may_stand rows leaves node) es))
  among_those d [] = refl
  among_those d (e ∷ es) = filter-append (stands_for rows leaves node) (ands_over d e) (flat_map (ands_over d) es) ∙ by (may_stand rows leaves node e) refl (among_those d es)
    where
      by : (b : Bool) → may_stand rows leaves node e ≡ b → filter (stands_for rows leaves node) (flat_map (ands_over d) es) ≡ filter (stands_for rows leaves node) (flat_map (ands_over d) (filter (may_stand rows leaves node) es))
          → filter (stands_for rows leaves node) (ands_over d e) ++ filter (stands_for rows leaves node) (flat_map (ands_over d) es)
          ≡ filter (stands_for rows leaves node) (flat_map (ands_over d) (if b then e ∷ filter (may_stand rows leaves node) es else filter (may_stand rows leaves node) es))
      by true is ih = ap (λ l. filter (stands_for rows leaves node) (ands_over d e) ++ l) ih ∙ sym (filter-append (stands_for rows leaves node) (ands_over d e) (flat_map (ands_over d) (filter (may_stand rows leaves node) es)))
      by false is ih = ap₂ (λ xs ys. xs ++ ys) (second_never d e is) ih

  pub those_are_all : (ds : List ℕ) → filter (stands_for rows leaves node) (all_ands ds) ≡ filter (stands_for rows leaves node) (all_ands (filter (may_stand rows leaves node) ds))
  those_are_all [] = refl
  those_are_all (d ∷ ds) = filter-append (stands_for rows leaves node) (flat_map (ands_over d) ds) (all_ands ds) ∙ by (may_stand rows leaves node d) refl (those_are_all ds)
    where
      by : (b : Bool) → may_stand rows leaves node d ≡ b → filter (stands_for rows leaves node) (all_ands ds) ≡ filter (stands_for rows leaves node) (all_ands (filter (may_stand rows leaves node) ds))
          → filter (stands_for rows leaves node) (flat_map (ands_over d) ds) ++ filter (stands_for rows leaves node) (all_ands ds)
          ≡ filter (stands_for rows leaves node) (all_ands (if b then d ∷ filter (may_stand rows leaves node) ds else filter (may_stand rows leaves node) ds))
      by true is ih = ap₂ (λ xs ys. xs ++ ys) (among_those d ds) ih ∙ sym (filter-append (stands_for rows leaves node) (flat_map (ands_over d) (filter (may_stand rows leaves node) ds)) (all_ands (filter (may_stand rows leaves node) ds)))
      by false is ih = ap₂ (λ xs ys. xs ++ ys) (all_first_never d ds is) ih

-- the forms that stand
abbrev kept : List Row → List ℕ → ℕ → List Form → List Form
kept rows leaves node fs = filter (stands_for rows leaves node) fs

-- the ANDs of two divisors, literal by literal
pub found_four : (rows : List Row) (leaves : List ℕ) (node d e : ℕ) (old one two three four : List Form) (a b x y : Lit) → a ≡ lit_of d → b ≡ complement (lit_of d) → x ≡ lit_of e → y ≡ complement (lit_of e)
    → one ≡ take 16 (old ++ filter (stands_for rows leaves node) (ands_of a x)) → two ≡ take 16 (one ++ filter (stands_for rows leaves node) (ands_of a y))
    → three ≡ take 16 (two ++ filter (stands_for rows leaves node) (ands_of b x)) → four ≡ take 16 (three ++ filter (stands_for rows leaves node) (ands_of b y))
    → four ≡ take 16 (old ++ filter (stands_for rows leaves node) (ands_over d e))
found_four rows leaves node d e old one two three four a b x y is_a is_b is_x is_y first second third fourth =
    found_more 16 old three four ((kept rows leaves node (ands_of a x) ++ kept rows leaves node (ands_of a y)) ++ kept rows leaves node (ands_of b x)) (kept rows leaves node (ands_of b y))
    (found_more 16 old two three (kept rows leaves node (ands_of a x) ++ kept rows leaves node (ands_of a y)) (kept rows leaves node (ands_of b x)) (found_more 16 old one two (kept rows leaves node (ands_of a x)) (kept rows leaves node (ands_of a y)) first second) third)
    fourth
    ∙ ap (λ (fs : List Form). take 16 (old ++ fs))
    (ap (λ (fs : List Form). (fs ++ kept rows leaves node (ands_of b x)) ++ kept rows leaves node (ands_of b y)) (sym (filter-append (stands_for rows leaves node) (ands_of a x) (ands_of a y)))
    ∙ ap (λ (fs : List Form). fs ++ kept rows leaves node (ands_of b y)) (sym (filter-append (stands_for rows leaves node) (ands_of a x ++ ands_of a y) (ands_of b x)))
    ∙ sym (filter-append (stands_for rows leaves node) ((ands_of a x ++ ands_of a y) ++ ands_of b x) (ands_of b y))
    ∙ ap (kept rows leaves node) (literals is_a is_b is_x is_y))
  where
    literals : a ≡ lit_of d → b ≡ complement (lit_of d) → x ≡ lit_of e → y ≡ complement (lit_of e) → ((ands_of a x ++ ands_of a y) ++ ands_of b x) ++ ands_of b y ≡ ands_over d e
    literals is_a is_b is_x is_y =
        ap₂ (λ k l. ((ands_of k x ++ ands_of k y) ++ ands_of l x) ++ ands_of l y) is_a is_b
        ∙ ap₂ (λ k l. ((ands_of (lit_of d) k ++ ands_of (lit_of d) l) ++ ands_of (complement (lit_of d)) k) ++ ands_of (complement (lit_of d)) l) is_x is_y

-- one step of a loop, and its end

pub found_step : {A : Type 0} (k : ℕ) (old new xs ys : List A) → new ≡ take k (old ++ xs) → take k (new ++ ys) ≡ take k (old ++ (xs ++ ys))
found_step k old new xs ys is = ap (λ l. take k (l ++ ys)) is ∙ take-again k (old ++ xs) ys ∙ ap (take k) (append_assoc old xs ys)

pub found_end : {A : Type 0} (k : ℕ) (new rest target : List A) → length new ≤ k → rest ≡ [] → take k (new ++ rest) ≡ target → new ≡ target
found_end k new rest target few none is = found_none k new few ∙ ap (λ l. take k (new ++ l)) (sym none) ∙ is

module _ (rows : List Row) (leaves : List ℕ) (node : ℕ) where
  pub divisors_step : (ds : List ℕ) (i : ℕ) (old new target : List Form) → i < length ds → new ≡ take 16 (old ++ kept rows leaves node (map One (literals_of (get_or ds i 0))))
      → take 16 (old ++ kept rows leaves node (map One (flat_map literals_of (drop i ds)))) ≡ target → take 16 (new ++ kept rows leaves node (map One (flat_map literals_of (drop (i + 1) ds)))) ≡ target
  divisors_step ds i old new target lt is before =
      found_step 16 old new (kept rows leaves node (map One (literals_of (get_or ds i 0)))) (kept rows leaves node (map One (flat_map literals_of (drop (i + 1) ds)))) is
      ∙ ap (λ (fs : List Form). take 16 (old ++ fs)) (sym (filter-append (stands_for rows leaves node) (map One (literals_of (get_or ds i 0))) (map One (flat_map literals_of (drop (i + 1) ds)))))
      ∙ ap (λ (l : List ℕ). take 16 (old ++ kept rows leaves node (map One (flat_map literals_of l)))) (sym (drop_more ds i 0 lt))
      ∙ before

  pub with_step : (d : ℕ) (others : List Sides) (i : ℕ) (s : Sides) (old new target : List Form) → i < length others → s ≡ get_or others i s → new ≡ take 16 (old ++ kept rows leaves node (ands_over d (divisor_of s)))
      → take 16 (old ++ kept rows leaves node (flat_map (ands_over d) (map divisor_of (drop i others)))) ≡ target → take 16 (new ++ kept rows leaves node (flat_map (ands_over d) (map divisor_of (drop (i + 1) others)))) ≡ target
  with_step d others i s old new target lt at is before =
      found_step 16 old new (kept rows leaves node (ands_over d (divisor_of s))) (kept rows leaves node (flat_map (ands_over d) (map divisor_of (drop (i + 1) others)))) is
      ∙ ap (λ (fs : List Form). take 16 (old ++ fs)) (sym (filter-append (stands_for rows leaves node) (ands_over d (divisor_of s)) (flat_map (ands_over d) (map divisor_of (drop (i + 1) others)))))
      ∙ ap (λ (l : List Sides). take 16 (old ++ kept rows leaves node (flat_map (ands_over d) (map divisor_of l)))) (ap (λ (x : Sides). x ∷ drop (i + 1) others) at ∙ sym (drop_more others i s lt))
      ∙ before

  pub ands_step : (sides : List Sides) (i : ℕ) (s : Sides) (old new target : List Form) → i < length sides → s ≡ get_or sides i s
      → new ≡ take 16 (old ++ kept rows leaves node (flat_map (ands_over (divisor_of s)) (map divisor_of (drop (i + 1) sides))))
      → take 16 (old ++ kept rows leaves node (all_ands (map divisor_of (drop i sides)))) ≡ target → take 16 (new ++ kept rows leaves node (all_ands (map divisor_of (drop (i + 1) sides)))) ≡ target
  ands_step sides i s old new target lt at is before =
      found_step 16 old new (kept rows leaves node (flat_map (ands_over (divisor_of s)) (map divisor_of (drop (i + 1) sides)))) (kept rows leaves node (all_ands (map divisor_of (drop (i + 1) sides)))) is
      ∙ ap (λ (fs : List Form). take 16 (old ++ fs)) (sym (filter-append (stands_for rows leaves node) (flat_map (ands_over (divisor_of s)) (map divisor_of (drop (i + 1) sides))) (all_ands (map divisor_of (drop (i + 1) sides)))))
      ∙ ap (λ (l : List Sides). take 16 (old ++ kept rows leaves node (all_ands (map divisor_of l)))) (ap (λ (x : Sides). x ∷ drop (i + 1) sides) at ∙ sym (drop_more sides i s lt))
      ∙ before

-- those that pass, one after the other

pub passes_more : (p : ℕ → Bool) (ds : List ℕ) (i : ℕ) (done all : List ℕ) → i < length ds → p (get_or ds i 0) ≡ true → done ++ filter p (drop i ds) ≡ all → (done ++ get_or ds i 0 ∷ []) ++ filter p (drop (i + 1) ds) ≡ all
passes_more p ds i done all lt passes before =
    append_assoc done (get_or ds i 0 ∷ []) (filter p (drop (i + 1) ds))
    ∙ ap (λ l. done ++ l) (sym (ap (filter p) (drop_more ds i 0 lt) ∙ cond-true (p (get_or ds i 0)) (get_or ds i 0 ∷ filter p (drop (i + 1) ds)) (filter p (drop (i + 1) ds)) passes))
    ∙ before

pub passes_past : (p : ℕ → Bool) (ds : List ℕ) (i : ℕ) (done all : List ℕ) → i < length ds → p (get_or ds i 0) ≡ false → done ++ filter p (drop i ds) ≡ all → done ++ filter p (drop (i + 1) ds) ≡ all
passes_past p ds i done all lt fails before =
    ap (λ l. done ++ l) (sym (ap (filter p) (drop_more ds i 0 lt) ∙ cond-false (p (get_or ds i 0)) (get_or ds i 0 ∷ filter p (drop (i + 1) ds)) (filter p (drop (i + 1) ds)) fails))
    ∙ before

-- the flags of both literals tell whether a divisor may stand
pub sides_test : (rows : List Row) (leaves : List ℕ) (node : ℕ) (s : Sides) → AreSides rows leaves node s → ((s.plain.above || s.plain.above_not) || (s.complemented.above || s.complemented.above_not)) ≡ may_stand rows leaves node (divisor_of s)
sides_test rows leaves node s are =
    ap₂ (λ a b. a || b)
    (ap₂ (λ a b. a || b) are.plain.above are.plain.above_not ∙ ap (may_stand_by rows leaves node) are.plain_lit)
    (ap₂ (λ a b. a || b) are.complemented.above are.complemented.above_not ∙ ap (may_stand_by rows leaves node) are.complemented_lit)

-- all forms
pub found_all : (rows : List Row) (leaves : List ℕ) (node : ℕ) (ds es : List ℕ) (none one two three : List Form) → none ≡ [] → one ≡ take 16 (none ++ kept rows leaves node (map Constant signs))
    → two ≡ take 16 (one ++ kept rows leaves node (map One (flat_map literals_of ds))) → es ≡ filter (may_stand rows leaves node) ds → three ≡ take 16 (two ++ kept rows leaves node (all_ands es))
    → three ≡ take 16 (kept rows leaves node (forms ds))
found_all rows leaves node ds es none one two three begins first second those third =
    found_more 16 none two three (kept rows leaves node (map Constant signs) ++ kept rows leaves node (map One (flat_map literals_of ds))) (kept rows leaves node (all_ands es))
    (found_more 16 none one two (kept rows leaves node (map Constant signs)) (kept rows leaves node (map One (flat_map literals_of ds))) first second) third
    ∙ ap (λ (fs : List Form). take 16 fs)
    (ap (λ (fs : List Form). fs ++ ((kept rows leaves node (map Constant signs) ++ kept rows leaves node (map One (flat_map literals_of ds))) ++ kept rows leaves node (all_ands es))) begins
    ∙ append_assoc (kept rows leaves node (map Constant signs)) (kept rows leaves node (map One (flat_map literals_of ds))) (kept rows leaves node (all_ands es))
    ∙ ap (λ (fs : List Form). kept rows leaves node (map Constant signs) ++ (kept rows leaves node (map One (flat_map literals_of ds)) ++ fs)) (ap (λ l. kept rows leaves node (all_ands l)) those ∙ sym (those_are_all rows leaves node ds))
    ∙ ap (λ (fs : List Form). kept rows leaves node (map Constant signs) ++ fs) (sym (filter-append (stands_for rows leaves node) (map One (flat_map literals_of ds)) (all_ands ds)))
    ∙ sym (filter-append (stands_for rows leaves node) (map Constant signs) (map One (flat_map literals_of ds) ++ all_ands ds)))

pub passes_step : (p : ℕ → Bool) (ds : List ℕ) (i : ℕ) (done next all : List ℕ) → i < length ds → next ≡ done ++ (if p (get_or ds i 0) then get_or ds i 0 ∷ [] else []) → done ++ filter p (drop i ds) ≡ all → next ++ filter p (drop (i + 1) ds) ≡ all
passes_step p ds i done next all lt is before = elim (cases_Bool (p (get_or ds i 0))) [
  | inl passes ↦ ap (λ l. l ++ filter p (drop (i + 1) ds)) (is ∙ ap (λ l. done ++ l) (cond-true (p (get_or ds i 0)) (get_or ds i 0 ∷ []) [] passes)) ∙ passes_more p ds i done all lt passes before
  | inr fails ↦ ap (λ l. l ++ filter p (drop (i + 1) ds)) (is ∙ ap (λ l. done ++ l) (cond-false (p (get_or ds i 0)) (get_or ds i 0 ∷ []) [] fails) ∙ append-nil done) ∙ passes_past p ds i done all lt fails before
]

-- one divisor's literals
pub sides_pushed : (rows : List Row) (leaves : List ℕ) (node d : ℕ) (old new : List Sides) (s : Sides) → AreSides rows leaves node s → divisor_of s ≡ d → may_stand rows leaves node (divisor_of s) ≡ true → new ≡ old ++ s ∷ []
    → map divisor_of new ≡ map divisor_of old ++ (if may_stand rows leaves node d then d ∷ [] else [])
sides_pushed rows leaves node d old new s are is passes pushed =
    ap (map divisor_of) pushed ∙ map-append divisor_of old (s ∷ [])
    ∙ ap (λ l. map divisor_of old ++ l) (ap (λ k. k ∷ []) is ∙ sym (cond-true (may_stand rows leaves node d) (d ∷ []) [] (subst (λ k. may_stand rows leaves node k ≡ true) is passes)))

pub sides_kept : (rows : List Row) (leaves : List ℕ) (node d : ℕ) (old : List Sides) (s : Sides) → divisor_of s ≡ d → may_stand rows leaves node (divisor_of s) ≡ false
    → map divisor_of old ≡ map divisor_of old ++ (if may_stand rows leaves node d then d ∷ [] else [])
sides_kept rows leaves node d old s is fails =
    sym (ap (λ l. map divisor_of old ++ l) (cond-false (may_stand rows leaves node d) (d ∷ []) [] (subst (λ k. may_stand rows leaves node k ≡ false) is fails)) ∙ append-nil (map divisor_of old))
