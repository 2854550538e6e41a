-- There is a fewest number of slashes: with more slashes than all names have bytes, no inner name is one of them.
use Rattle.std.proofs.Common.{◌≡◌, ℕ, zero, suc, ◌+◌, ◌<◌, ◌≤◌, ◌||◌, not, Bool, true, false, List, [], ◌∷◌, ◌++◌, map, length, bytes_eq, refl, sym, ap, ◌∙◌, inl, inr, arith, length-append, append_assoc}
use Rattle.std.specs.List.{list_any}
use Rattle.std.specs.Int.Digits.{digits_of}
use Rattle.std.proofs.lemmas.Bool.{and_parts, and_right, both_ways, or_cases, or_from, cases_Bool, cases_eq, false_from_ne_true}
use Rattle.std.proofs.lemmas.Int.Digits.{length-digits_of_step}
use Rattle.std.proofs.lemmas.List.{length-map}
use Rattle.syn_netlist.specs.Words.{has_word}
use Rattle.syn_netlist.proofs.Sets.{same_word}
use Rattle.syn_models.specs.Models.{Bind, is_bound}
use Rattle.syn_models.specs.Opening.{Opened, End, Plain, Instance, instances}
use Rattle.syn_models.specs.Flattening.{slashes, digit_byte, inner_name, taken, clashes}
use Rattle.syn_models.specs.Laws.{SlashesAreThere}
use Rattle.syn_models.specs.ReadBack.{is_inner, taken_by}
use Rattle.syn_models.specs.Walking.{Entry}

-- the bytes of all names
abbrev pub bytes_in : List (List ℕ) → ℕ
bytes_in [] = 0
bytes_in (w ∷ ws) = length w + bytes_in ws

length-slashes : (n : ℕ) → length (slashes n) ≡ n
length-slashes zero = refl
length-slashes (suc n) = ap suc (length-slashes n)

long : (count k : ℕ) (x : List ℕ) → count ≤ length (inner_name count k x)
long count k x = omega (arith, length-append (map digit_byte (digits_of 10 k)) (slashes count ++ x), length-append (slashes count) x, length-slashes count)

too_long : (names : List (List ℕ)) (count k : ℕ) (x : List ℕ) → bytes_in names < count → has_word names (inner_name count k x) ≡ false
too_long [] count k x l = refl
too_long (w ∷ ws) count k x l = or_from (bytes_eq w (inner_name count k x)) (has_word ws (inner_name count k x))
    (false_from_ne_true (bytes_eq w (inner_name count k x)) (λ e. absurd (omega (arith, ap length (same_word w (inner_name count k x) e), long count k x))))
    (too_long ws count k x (omega (arith)))

none_taken : (names : List (List ℕ)) (count k : ℕ) (binds : List Bind) (xs : List (List ℕ)) → bytes_in names < count → list_any (taken names (inner_name count k) binds) xs ≡ false
none_taken names count k binds [] l = refl
none_taken names count k binds (x ∷ xs) l = or_from (taken names (inner_name count k) binds x) (list_any (taken names (inner_name count k) binds) xs)
    (and_right (not (is_bound binds x)) (has_word names (inner_name count k x)) (too_long names count k x l))
    (none_taken names count k binds xs l)

no_clash : (names : List (List ℕ)) (count next : ℕ) (tree : Opened) → bytes_in names < count → clashes names (inner_name count) next tree ≡ false
no_clash names count next End l = refl
no_clash names count next (Plain kind rest) l = no_clash names count next rest l
no_clash names count next (Instance c m inside rest) l =
    or_from (list_any (taken names (inner_name count next) c.binds) m.names) (clashes names (inner_name count) (suc next) inside || clashes names (inner_name count) (suc (next + instances inside)) rest)
    (none_taken names count next c.binds m.names l)
    (or_from (clashes names (inner_name count) (suc next) inside) (clashes names (inner_name count) (suc (next + instances inside)) rest) (no_clash names count (suc next) inside l) (no_clash names count (suc (next + instances inside)) rest l))

-- an inner name that is used is longer than its slashes, and so are all names together

long_by_number : (count k : ℕ) (x : List ℕ) → 1 ≤ k → count + 1 ≤ length (inner_name count k x)
long_by_number count k x some =
    omega (arith, length-append (map digit_byte (digits_of 10 k)) (slashes count ++ x), length-append (slashes count) x, length-slashes count, length-map (digits_of 10 k) digit_byte, length-digits_of_step 10 k (omega arith) some)

inner_long : (count k : ℕ) (binds : List Bind) (word : List ℕ) (names : List (List ℕ)) → 1 ≤ k → list_any (is_inner (inner_name count k) binds word) names ≡ true → count + 1 ≤ length word
inner_long count k binds word [] some h = absurd (both_ways false refl h)
inner_long count k binds word (x ∷ xs) some h = elim (or_cases (is_inner (inner_name count k) binds word x) (list_any (is_inner (inner_name count k) binds word) xs) h) [
  | inl here ↦
      let same = ap length (same_word word (inner_name count k x) (and_parts (not (is_bound binds x)) (bytes_eq word (inner_name count k x)) here).1) in
      let long = long_by_number count k x some in
      omega (arith, same, long)
  | inr there ↦ inner_long count k binds word xs some there
]

pub taken_long : (count next : ℕ) (list : List Entry) (word : List ℕ) → 1 ≤ next → taken_by (inner_name count) next list word ≡ true → count + 1 ≤ length word
taken_long count next [] word some h = absurd (both_ways false refl h)
taken_long count next (e ∷ es) word some h = elim (or_cases (list_any (is_inner (inner_name count next) e.binds word) e.inside.names) (taken_by (inner_name count) (suc next) es word) h) [
  | inl here ↦ inner_long count next e.binds word e.inside.names some here
  | inr there ↦ taken_long count (suc next) es word (omega arith) there
]

pub any_taken_long : (count : ℕ) (list : List Entry) (names : List (List ℕ)) → list_any (taken_by (inner_name count) 1 list) names ≡ true → count ≤ bytes_in names
any_taken_long count list [] h = absurd (both_ways false refl h)
any_taken_long count list (w ∷ ws) h = elim (or_cases (taken_by (inner_name count) 1 list w) (list_any (taken_by (inner_name count) 1 list) ws) h) [
  | inl here ↦ let long = taken_long count 1 list w (omega arith) here in omega (arith, long)
  | inr there ↦ let long = any_taken_long count list ws there in omega (arith, long)
]

-- the first number, from one on, that doesn't pass
first_failing : (test : ℕ → Bool) (low fuel : ℕ) → 1 ≤ low → test (low + fuel) ≡ false → ((j : ℕ) → 1 ≤ j → j < low → test j ≡ true)
    → (n : ℕ) × (1 ≤ n) × (test n ≡ false) × ((j : ℕ) → 1 ≤ j → j < n → test j ≡ true)
first_failing test low zero some h below = (low, some, ap test (let e : low ≡ low + 0 = omega arith in e) ∙ h, below)
first_failing test low (suc fuel) some h below = elim (cases_Bool (test low)) [
  | inl t ↦ first_failing test (suc low) fuel (omega arith) (ap test (let e : suc low + fuel ≡ low + suc fuel = omega arith in e) ∙ h)
      (λ j a b. elim (cases_eq j low) [ inl e ↦ ap test e ∙ t | inr ne ↦ below j a (omega arith) ])
  | inr f ↦ (low, some, f, below)
]

pub slashes_are_there : SlashesAreThere
slashes_are_there main tree =
    let found = first_failing (λ count. clashes main.names (inner_name count) 1 tree) 1 (bytes_in main.names) (omega arith) (no_clash main.names (1 + bytes_in main.names) 1 tree (omega arith)) (λ j a b. absurd (omega arith)) in
    (found.0, record { some = found.1; apart = found.2; fewest = found.3 })

-- one more slash at the end
pub slashes-push : (n : ℕ) → slashes (n + 1) ≡ slashes n ++ 47 ∷ []
slashes-push zero = refl
slashes-push (suc n) = ap slashes (let e : suc n + 1 ≡ suc (n + 1) = omega arith in e) ∙ ap (λ (l : List ℕ). 47 ∷ l) (slashes-push n)

pub slashes_more : (new old start : List ℕ) (n : ℕ) → new ≡ old ++ 47 ∷ [] → old ≡ start ++ slashes n → new ≡ start ++ slashes (n + 1)
slashes_more new old start n e h = e ∙ ap (λ (l : List ℕ). l ++ 47 ∷ []) h ∙ append_assoc start (slashes n) (47 ∷ []) ∙ ap (λ (l : List ℕ). start ++ l) (sym (slashes-push n))
