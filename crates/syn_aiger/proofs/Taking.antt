-- Names that are taken, and the first that isn't.
use Rattle.std.specs.List.{AllByRecursion, list_all}
use Rattle.std.proofs.Common.{◌≡◌, ℕ, zero, suc, ◌+◌, ◌<◌, ◌≤◌, ◌==◌, ◌&&◌, ◌||◌, not, Bool, true, false, List, [], ◌∷◌, ◌++◌, length, slice_index, bytes_eq, refl, sym, ap, ◌∙◌, subst, inl, inr, arith, length-append}
use Rattle.std.proofs.lemmas.Bool.{and_from, and_left, or_from, or_cases, or_parts, both_ways, cases_Bool, cond-true, cond-false, false_from_ne_true}
use Rattle.std.proofs.lemmas.List.Folds.{list_all-append}
use Rattle.syn_netlist.specs.Numbers.{word_at}
use Rattle.syn_netlist.specs.Words.{has_word, is_word, is_word_byte}
use Rattle.syn_netlist.proofs.Sets.{same_word, has_head, has_tail}
use Rattle.syn_aiger.specs.Keeping.{HasLiteral, Keeps, longest_word, taken_by}
use Rattle.syn_aiger.specs.Naming.{Named, free_name, is_given, is_given_otherwise, longest, underscored}
use Rattle.syn_aiger.specs.declared.given.Given.{Given}

-- a name that is longer than all isn't given
given_past : (given : List Named) (w : List ℕ) → longest given < length w → is_given given w ≡ false
given_past [] w l = refl
given_past (n ∷ ns) w l =
    or_from (bytes_eq n.name w) (is_given ns w)
    (false_from_ne_true (bytes_eq n.name w) (λ e. let same : length n.name ≡ length w = ap length (same_word n.name w e) in omega arith))
    (given_past ns w (omega arith))

pub not_otherwise : (l : ℕ) (given : List Named) (w : List ℕ) → is_given given w ≡ false → is_given_otherwise l given w ≡ false
not_otherwise l [] w h = refl
not_otherwise l (n ∷ ns) w h =
    let p = or_parts (bytes_eq n.name w) (is_given ns w) h in
    or_from (bytes_eq n.name w && not (n.literal == l)) (is_given_otherwise l ns w) (and_left (bytes_eq n.name w) (not (n.literal == l)) p.0) (not_otherwise l ns w p.1)

pub not_taken : (keeps : Bool) (l : ℕ) (given : List Named) (w : List ℕ) → is_given given w ≡ false → taken_by keeps l given w ≡ false
not_taken false l given w h = h
not_taken true l given w h = not_otherwise l given w h

pub not_other : (keeps : Bool) (l : ℕ) (given : List Named) (w : List ℕ) → taken_by keeps l given w ≡ false → is_given_otherwise l given w ≡ false
not_other false l given w h = not_otherwise l given w h
not_other true l given w h = h

taken_past : (keeps : Bool) (l : ℕ) (given : List Named) (w : List ℕ) → longest given < length w → taken_by keeps l given w ≡ false
taken_past keeps l given w lt = not_taken keeps l given w (given_past given w lt)

longer : (w : List ℕ) → length (w ++ 95 ∷ []) ≡ length w + 1
longer w = length-append w (95 ∷ [])

goes_on : (taken : List ℕ → Bool) (k : ℕ) (w : List ℕ) → taken w ≡ true → underscored (suc k) taken w ≡ underscored k taken (w ++ 95 ∷ [])
goes_on taken k w e = cond-true (taken w) (underscored k taken (w ++ 95 ∷ [])) w e

stops : (taken : List ℕ → Bool) (k : ℕ) (w : List ℕ) → taken w ≡ false → underscored k taken w ≡ w
stops taken zero w e = refl
stops taken (suc k) w e = cond-false (taken w) (underscored k taken (w ++ 95 ∷ [])) w e

-- What is left to try, where so many more suffice.
pub record Tries (keeps : Bool) (l : ℕ) (given : List Named) (w target : List ℕ) : Type 0 where
  pub left : ℕ
  pub enough : longest given < length w + left
  pub is : underscored left (taken_by keeps l given) w ≡ target

pub tries_first : (keeps : Bool) (l : ℕ) (given : List Named) (w : List ℕ) → Tries keeps l given w (free_name given (taken_by keeps l given) w)
tries_first keeps l given w = record { left = longest given + 1; enough = omega arith; is = refl }

pub tries_next : (keeps : Bool) (l : ℕ) (given : List Named) (w next target : List ℕ) → next ≡ w ++ 95 ∷ [] → taken_by keeps l given w ≡ true → Tries keeps l given w target → Tries keeps l given next target
tries_next keeps l given w next target e t r = subst (λ (x : List ℕ). Tries keeps l given x target) (sym e) (go r.left r.enough r.is)
  where
    go : (k : ℕ) → longest given < length w + k → underscored k (taken_by keeps l given) w ≡ target → Tries keeps l given (w ++ 95 ∷ []) target
    go zero lt is = absurd (both_ways (taken_by keeps l given w) (taken_past keeps l given w (omega arith)) t)
    go (suc k) lt is = record { left = k; enough = omega (arith, longer w); is = sym (goes_on (taken_by keeps l given) k w t) ∙ is }

pub tries_end : (keeps : Bool) (l : ℕ) (given : List Named) (w target : List ℕ) → taken_by keeps l given w ≡ false → Tries keeps l given w target → w ≡ target
tries_end keeps l given w target f r = sym (stops (taken_by keeps l given) r.left w f) ∙ r.is

ends_free : (keeps : Bool) (l : ℕ) (given : List Named) (k : ℕ) (w : List ℕ) → longest given < length w + k → taken_by keeps l given (underscored k (taken_by keeps l given) w) ≡ false
ends_free keeps l given zero w lt = taken_past keeps l given w (omega arith)
ends_free keeps l given (suc k) w lt = elim (cases_Bool (taken_by keeps l given w)) [
  | inl t ↦ ap (taken_by keeps l given) (goes_on (taken_by keeps l given) k w t) ∙ ends_free keeps l given k (w ++ 95 ∷ []) (omega (arith, longer w))
  | inr f ↦ ap (taken_by keeps l given) (stops (taken_by keeps l given) (suc k) w f) ∙ f
]

-- The name that is given next isn't taken.
pub free_is_free : (keeps : Bool) (l : ℕ) (given : List Named) (w : List ℕ) → taken_by keeps l given (free_name given (taken_by keeps l given) w) ≡ false
free_is_free keeps l given w = ends_free keeps l given (longest given + 1) w (omega arith)

pub word_underscore : (w : List ℕ) → is_word w ≡ true → is_word (w ++ 95 ∷ []) ≡ true
word_underscore [] h = absurd (both_ways false refl h)
word_underscore (b ∷ bs) h = list_all-append is_word_byte (b ∷ bs) (95 ∷ []) ∙ and_from (list_all is_word_byte (b ∷ bs)) true h refl

pub has_longest : (ws : List (List ℕ)) (w : List ℕ) → has_word ws w ≡ true → length w ≤ longest_word ws
has_longest [] w h = absurd (both_ways false refl h)
has_longest (x ∷ xs) w h = elim (or_cases (bytes_eq x w) (has_word xs w) h) [
  | inl e ↦ let same : length x ≡ length w = ap length (same_word x w e) in omega arith
  | inr r ↦ let le = has_longest xs w r in omega arith
]

pub has_at : (ws : List (List ℕ)) (i : ℕ) (w : List ℕ) → i < length ws → word_at ws i ≡ w → has_word ws w ≡ true
has_at [] i w l e = absurd (omega arith)
has_at (x ∷ xs) zero w l e = ap (has_word (x ∷ xs)) (sym e) ∙ has_head x xs
has_at (x ∷ xs) (suc i) w l e = has_tail x w xs (has_at xs i w (omega arith) e)

-- a name is given for another literal exactly where it is given, and its literal is another
step : (e b y z : Bool) → (e ≡ true → z ≡ y) → ((e && not z) || (b && not y)) ≡ ((e || b) && not y)
step false b y z h = refl
step true b y z h = ap (λ (k : Bool). not k || (b && not y)) (h refl) ∙ same b y
  where
    same : (b y : Bool) → (not y || (b && not y)) ≡ not y
    same true true = refl
    same true false = refl
    same false true = refl
    same false false = refl

pub otherwise_is : (names : List (List ℕ)) (literals : List ℕ) (l i : ℕ) (w : List ℕ) → i < length names → word_at names i ≡ w → (given : List Named) → AllByRecursion (HasLiteral names literals) given
    → is_given_otherwise l given w ≡ (is_given given w && not (slice_index literals i == l))
otherwise_is names literals l i w lt at [] h = refl
otherwise_is names literals l i w lt at (n ∷ ns) h =
    ap (λ (b : Bool). (bytes_eq n.name w && not (n.literal == l)) || b) (otherwise_is names literals l i w lt at ns h.1)
    ∙ step (bytes_eq n.name w) (is_given ns w) (slice_index literals i == l) (n.literal == l) (λ e. ap (λ (k : ℕ). k == l) (sym (h.0 i lt (at ∙ sym (same_word n.name w e)))))

module _ (s : Given) (given : List Named) (k : Keeps s given) (l : ℕ) (w : List ℕ) where
  pub none_taken : (keeps : Bool) → has_word s.names w ≡ false → taken_by keeps l given w ≡ false
  none_taken keeps h = not_taken keeps l given w (sym (k.all w) ∙ h)

  pub one_taken : (i : ℕ) → i < length s.names → word_at s.names i ≡ w → taken_by false l given w ≡ true
  one_taken i lt at = sym (k.all w) ∙ has_at s.names i w lt at

  pub other_taken : (i : ℕ) → i < length s.names → word_at s.names i ≡ w → taken_by true l given w ≡ not (slice_index s.literals.items i == l)
  other_taken i lt at =
      otherwise_is s.names s.literals.items l i w lt at given k.literals
      ∙ ap (λ (b : Bool). b && not (slice_index s.literals.items i == l)) (one_taken i lt at)
