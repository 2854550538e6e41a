-- Which words are inner names, read back from the words.
use Rattle.std.proofs.Common.{◌≡◌, ◌⊎◌, ℕ, zero, suc, ◌+◌, ◌-◌, ◌*◌, ◌≤◌, ◌<◌, ◌&&◌, ◌||◌, not, min, if◌then◌else◌, Bool, true, false, List, [], ◌∷◌, map, length, drop, get_or, bytes_eq, refl, sym, ap, ap₂, ◌∙◌, subst, inl, inr, Option, Some, None, option_map, arith}
use Rattle.std.specs.List.{list_any}
use Rattle.std.specs.Option.{is_some}
use Rattle.std.specs.Int.Digits.{number_from_digits_after}
use Rattle.std.proofs.lemmas.Bool.{and_parts, and_from, or_cases, or_left, or_right, cases_Bool, cases_lt, both_ways, not-true, not_from_false, not_from_true, cond-true, cond-false}
use Rattle.std.proofs.lemmas.List.{drop_all, drop_more}
use Rattle.syn_netlist.specs.Numbers.{word_at}
use Rattle.syn_netlist.specs.Words.{has_word}
use Rattle.syn_netlist.proofs.Sets.{same_word, word_same}
use Rattle.syn_models.specs.Calling.{clash_among, IsFewest}
use Rattle.syn_models.specs.FlatFaults.{told, greatest}
use Rattle.syn_models.specs.Flattening.{inner_name, taken}
use Rattle.syn_models.specs.Models.{Bind, is_bound, actual_of}
use Rattle.syn_models.specs.ReadBack.{is_digit, digit_in, front, behind, number_in, name_in, is_inner, taken_by}
use Rattle.syn_models.specs.declared.met.Instance.{Instance}
use Rattle.syn_models.specs.Walking.{Entry, entry_in}
use Rattle.syn_models.proofs.InnerNames.{number_back, name_back}
use Rattle.syn_models.proofs.Lists.{none_bound}
use Rattle.syn_models.proofs.Totalling.{told_few, told_many}

-- numbers that stop at the greatest

told_top : (n : ℕ) → greatest ≤ n → told n ≡ greatest
told_top n l = elim (cases_lt greatest n) [ inl m ↦ told_many n m | inr m ↦ told_few n m ∙ (let e : n ≡ greatest = omega arith in e) ]

told_digit : (n m d : ℕ) → told n ≡ told m → told (n * 10 + d) ≡ told (m * 10 + d)
told_digit n m d e = elim (cases_lt n greatest) [
  | inl a ↦ elim (cases_lt m greatest) [
    | inl b ↦ ap (λ (k : ℕ). told (k * 10 + d)) (sym (told_few n (omega arith)) ∙ e ∙ told_few m (omega arith))
    | inr b ↦ absurd (let f : n ≡ greatest = sym (told_few n (omega arith)) ∙ e ∙ told_top m b in omega arith)
  ]
  | inr a ↦ elim (cases_lt m greatest) [
    | inl b ↦ absurd (let f : m ≡ greatest = sym (told_few m (omega arith)) ∙ sym e ∙ told_top n a in omega arith)
    | inr b ↦ told_top (n * 10 + d) (omega arith) ∙ sym (told_top (m * 10 + d) (omega arith))
  ]
]

pub told_after : (n m : ℕ) (ds : List ℕ) → told n ≡ told m → told (number_from_digits_after 10 n ds) ≡ told (number_from_digits_after 10 m ds)
told_after n m [] e = e
told_after n m (d ∷ ds) e = told_after (n * 10 + d) (m * 10 + d) ds (told_digit n m d e)

pub told_stops : (n : ℕ) → n ≤ greatest → n ≡ told n
told_stops n l = sym (told_few n l)

-- tests of lists

any_or : {A : Type 0} (p q : A → Bool) (xs : List A) → list_any (λ x. p x || q x) xs ≡ (list_any p xs || list_any q xs)
any_or p q [] = refl
any_or p q (x ∷ xs) = ap (λ (b : Bool). (p x || q x) || b) (any_or p q xs) ∙ four (p x) (q x) (list_any p xs) (list_any q xs)
  where
    four : (a b c d : Bool) → ((a || b) || (c || d)) ≡ ((a || c) || (b || d))
    four true b c d = refl
    four false true true d = refl
    four false true false d = refl
    four false false c d = refl

any_none : {A : Type 0} (xs : List A) → list_any (λ x. false) xs ≡ false
any_none [] = refl
any_none (x ∷ xs) = any_none xs

any_and : {A : Type 0} (b : Bool) (p : A → Bool) (xs : List A) → list_any (λ x. b && p x) xs ≡ (b && list_any p xs)
any_and true p xs = refl
any_and false p xs = any_none xs

any_inner : (inner : List ℕ → List ℕ) (binds : List Bind) (ns names : List (List ℕ)) → list_any (λ w. list_any (is_inner inner binds w) ns) names ≡ list_any (taken names inner binds) ns
any_inner inner binds [] names = any_none names
any_inner inner binds (n ∷ ns) names =
    any_or (λ w. is_inner inner binds w n) (λ w. list_any (is_inner inner binds w) ns) names
    ∙ ap₂ (λ (a b : Bool). a || b) (any_and (not (is_bound binds n)) (λ w. bytes_eq w (inner n)) names) (any_inner inner binds ns names)

-- some name is an inner name where some inner name is a name
pub any_taken_clash : (inner : ℕ → List ℕ → List ℕ) (next : ℕ) (list : List Entry) (names : List (List ℕ)) → list_any (taken_by inner next list) names ≡ clash_among names inner next list
any_taken_clash inner next [] names = any_none names
any_taken_clash inner next (e ∷ es) names =
    any_or (λ w. list_any (is_inner (inner next) e.binds w) e.inside.names) (taken_by inner (suc next) es) names
    ∙ ap₂ (λ (a b : Bool). a || b) (any_inner (inner next) e.binds e.inside.names names) (any_taken_clash inner (suc next) es names)

-- a word is an inner name of the instance whose number it begins with alone

abbrev unbound_at : Entry → List ℕ → Bool
unbound_at e name = has_word e.inside.names name && not (is_bound e.binds name)

record IsTaken (count next : ℕ) (list : List Entry) (word : List ℕ) : Type 0 where
  pub place : ℕ
  pub there : place < length list
  pub number : number_in word ≡ next + place
  pub unbound : (d : Entry) → unbound_at (get_or list place d) (name_in count word) ≡ true
  pub same : word ≡ inner_name count (next + place) (name_in count word)

record HasInner (inner : List ℕ → List ℕ) (binds : List Bind) (word : List ℕ) (ns : List (List ℕ)) : Type 0 where
  pub name : List ℕ
  pub there : has_word ns name ≡ true
  pub free : is_bound binds name ≡ false
  pub same : word ≡ inner name

has_inner : (inner : List ℕ → List ℕ) (binds : List Bind) (word : List ℕ) (ns : List (List ℕ)) → list_any (is_inner inner binds word) ns ≡ true → HasInner inner binds word ns
has_inner inner binds word [] h = absurd (both_ways false refl h)
has_inner inner binds word (n ∷ ns) h = elim (or_cases (is_inner inner binds word n) (list_any (is_inner inner binds word) ns) h) [
  | inl e ↦ (
      let parts = and_parts (not (is_bound binds n)) (bytes_eq word (inner n)) e in
      record { name = n; there = or_left (bytes_eq n n) (has_word ns n) (word_same n); free = not-true (is_bound binds n) parts.0; same = same_word word (inner n) parts.1 })
  | inr r ↦ (
      let i = has_inner inner binds word ns r in
      record { name = i.name; there = or_right (bytes_eq n i.name) (has_word ns i.name) i.there; free = i.free; same = i.same })
]

inner_has : (inner : List ℕ → List ℕ) (binds : List Bind) (word name : List ℕ) (ns : List (List ℕ)) → has_word ns name ≡ true → is_bound binds name ≡ false → word ≡ inner name → list_any (is_inner inner binds word) ns ≡ true
inner_has inner binds word name [] h f e = absurd (both_ways false refl h)
inner_has inner binds word name (n ∷ ns) h f e = elim (or_cases (bytes_eq n name) (has_word ns name) h) [
  | inl s ↦ (
      let same : n ≡ name = same_word n name s in
      or_left (is_inner inner binds word n) (list_any (is_inner inner binds word) ns)
      (and_from (not (is_bound binds n)) (bytes_eq word (inner n)) (not_from_false (is_bound binds n) (ap (is_bound binds) same ∙ f)) (subst (λ (w : List ℕ). bytes_eq word w ≡ true) (e ∙ ap inner (sym same)) (word_same word))))
  | inr r ↦ or_right (is_inner inner binds word n) (list_any (is_inner inner binds word) ns) (inner_has inner binds word name ns r f e)
]

taken_place : (count next : ℕ) (list : List Entry) (word : List ℕ) → 1 ≤ count → taken_by (inner_name count) next list word ≡ true → IsTaken count next list word
taken_place count next [] word some h = absurd (both_ways false refl h)
taken_place count next (e ∷ es) word some h = elim (or_cases (list_any (is_inner (inner_name count next) e.binds word) e.inside.names) (taken_by (inner_name count) (suc next) es word) h) [
  | inl here ↦ (
      let i = has_inner (inner_name count next) e.binds word e.inside.names here in
      let name : name_in count word ≡ i.name = ap (name_in count) i.same ∙ name_back count next i.name some in
      record {
        place = 0;
        there = omega arith;
        number = ap number_in i.same ∙ number_back count next i.name some ∙ (let z : next ≡ next + 0 = omega arith in z);
        unbound = λ d. ap (unbound_at e) name ∙ and_from (has_word e.inside.names i.name) (not (is_bound e.binds i.name)) i.there (not_from_false (is_bound e.binds i.name) i.free);
        same = i.same ∙ ap₂ (λ (k : ℕ) (w : List ℕ). inner_name count k w) (let z : next ≡ next + 0 = omega arith in z) (sym name);
      })
  | inr below ↦ (
      let t = taken_place count (suc next) es word some below in
      let move : suc next + t.place ≡ next + suc t.place = omega arith in
      record { place = suc t.place; there = (let l = t.there in omega arith); number = t.number ∙ move; unbound = t.unbound; same = t.same ∙ ap (λ (k : ℕ). inner_name count k (name_in count word)) move })
]

taken_from : (count next : ℕ) (list : List Entry) (word name : List ℕ) (place : ℕ) (d : Entry) → place < length list → unbound_at (get_or list place d) name ≡ true → word ≡ inner_name count (next + place) name → taken_by (inner_name count) next list word ≡ true
taken_from count next [] word name place d l u e = absurd (omega arith)
taken_from count next (x ∷ xs) word name zero d l u e =
    let parts = and_parts (has_word x.inside.names name) (not (is_bound x.binds name)) u in
    or_left (list_any (is_inner (inner_name count next) x.binds word) x.inside.names) (taken_by (inner_name count) (suc next) xs word)
    (inner_has (inner_name count next) x.binds word name x.inside.names parts.0 (not-true (is_bound x.binds name) parts.1) (e ∙ ap (λ (k : ℕ). inner_name count k name) (let z : next + 0 ≡ next = omega arith in z)))
taken_from count next (x ∷ xs) word name (suc place) d l u e =
    or_right (list_any (is_inner (inner_name count next) x.binds word) x.inside.names) (taken_by (inner_name count) (suc next) xs word)
    (taken_from count (suc next) xs word name place d (omega arith) u (e ∙ ap (λ (k : ℕ). inner_name count k name) (let z : next + suc place ≡ suc next + place = omega arith in z)))

untrue : (b : Bool) → (b ≡ true → ⊥) → b ≡ false
untrue b h = elim (cases_Bool b) [ inl t ↦ absurd (h t) | inr f ↦ f ]

-- no instance has the number
pub none_there : (count : ℕ) (list : List Entry) (word : List ℕ) (k : ℕ) → 1 ≤ count → k ≡ told (number_in word) → length list ≤ greatest → (k ≡ 0) ⊎ (length list < k) → taken_by (inner_name count) 1 list word ≡ false
none_there count list word k some e few out = untrue (taken_by (inner_name count) 1 list word) (λ h.
    let t = taken_place count 1 list word some h in
    let is : k ≡ 1 + t.place = e ∙ ap told t.number ∙ told_few (1 + t.place) (let l = t.there in omega arith) in
    elim out [ inl z ↦ absurd (omega arith) | inr m ↦ absurd (let l = t.there in omega arith) ])

place_is : (count : ℕ) (list : List Entry) (word : List ℕ) (k place : ℕ) → k ≡ told (number_in word) → k ≡ suc place → length list ≤ greatest → (t : IsTaken count 1 list word) → t.place ≡ place
place_is count list word k place e f few t =
    let is : k ≡ 1 + t.place = e ∙ ap told t.number ∙ told_few (1 + t.place) (let l = t.there in omega arith) in omega arith

pub not_unbound : (count : ℕ) (list : List Entry) (word : List ℕ) (k place : ℕ) (d : Entry) → 1 ≤ count → k ≡ told (number_in word) → k ≡ suc place → length list ≤ greatest → unbound_at (get_or list place d) (name_in count word) ≡ false
    → taken_by (inner_name count) 1 list word ≡ false
not_unbound count list word k place d some e f few none = untrue (taken_by (inner_name count) 1 list word) (λ h.
    let t = taken_place count 1 list word some h in
    absurd (both_ways (unbound_at (get_or list place d) (name_in count word)) none (subst (λ (j : ℕ). unbound_at (get_or list j d) (name_in count word) ≡ true) (place_is count list word k place e f few t) (t.unbound d))))

pub inner_same : (count : ℕ) (list : List Entry) (word : List ℕ) (k place : ℕ) (d : Entry) → 1 ≤ count → k ≡ told (number_in word) → k ≡ suc place → length list ≤ greatest → place < length list → unbound_at (get_or list place d) (name_in count word) ≡ true
    → bytes_eq (inner_name count k (name_in count word)) word ≡ taken_by (inner_name count) 1 list word
inner_same count list word k place d some e f few l u = elim (cases_Bool (bytes_eq (inner_name count k (name_in count word)) word)) [
  | inl t ↦ t ∙ sym (taken_from count 1 list word (name_in count word) place d l u (sym (same_word (inner_name count k (name_in count word)) word t) ∙ ap (λ (j : ℕ). inner_name count j (name_in count word)) (let z : k ≡ 1 + place = omega arith in z)))
  | inr n ↦ n ∙ sym (untrue (taken_by (inner_name count) 1 list word) (λ h.
      let t = taken_place count 1 list word some h in
      let same : inner_name count k (name_in count word) ≡ word = ap (λ (j : ℕ). inner_name count j (name_in count word)) (let p = place_is count list word k place e f few t in let z : k ≡ 1 + t.place = omega arith in z) ∙ sym t.same in
      absurd (both_ways (bytes_eq (inner_name count k (name_in count word)) word) n (subst (λ (w : List ℕ). bytes_eq (inner_name count k (name_in count word)) w ≡ true) same (word_same (inner_name count k (name_in count word)))))))
]

-- a formal with an actual is bound
pub some_bound : (binds : List Bind) (name actual : List ℕ) → actual_of binds name ≡ Some actual → is_bound binds name ≡ true
some_bound [] name actual e = absurd (let z : ◌≡◌ {A = Option (List ℕ)} None (Some actual) = e in cc)
some_bound (b ∷ bs) name actual e = elim (cases_Bool (bytes_eq b.formal name)) [
  | inl t ↦ or_left (bytes_eq b.formal name) (is_bound bs name) t
  | inr t ↦ or_right (bytes_eq b.formal name) (is_bound bs name) (some_bound bs name actual (sym (cond-false (bytes_eq b.formal name) (Some b.actual) (actual_of bs name) t) ∙ e))
]

-- the fewest number
pub fewest_is : (names : List (List ℕ)) (list : List Entry) (count : ℕ) → 1 ≤ count → list_any (taken_by (inner_name count) 1 list) names ≡ false → ((fewer : ℕ) → 1 ≤ fewer → fewer < count → clash_among names (inner_name fewer) 1 list ≡ true) → IsFewest names list count
fewest_is names list count some none fewest = record { some = some; apart = sym (any_taken_clash (inner_name count) 1 list names) ∙ none; fewest = fewest }

-- one byte on

front_drop : (word : List ℕ) (i b : ℕ) → i < length word → b ≡ get_or word i 0 → front (drop i word) ≡ (if is_digit b then b ∷ front (drop (i + 1) word) else [])
front_drop word i b l e = ap front (drop_more word i 0 l) ∙ ap (λ (x : ℕ). if is_digit x then x ∷ front (drop (i + 1) word) else []) (sym e)

behind_drop : (word : List ℕ) (i b : ℕ) → i < length word → b ≡ get_or word i 0 → behind (drop i word) ≡ (if is_digit b then behind (drop (i + 1) word) else b ∷ drop (i + 1) word)
behind_drop word i b l e = ap behind (drop_more word i 0 l) ∙ ap (λ (x : ℕ). if is_digit x then behind (drop (i + 1) word) else x ∷ drop (i + 1) word) (sym e)

pub number_ends : (word : List ℕ) (i b n : ℕ) → i < length word → b ≡ get_or word i 0 → is_digit b ≡ false → n ≤ greatest → told (number_from_digits_after 10 n (map digit_in (front (drop i word)))) ≡ told (number_in word) → n ≡ told (number_in word)
number_ends word i b n l e d small h =
    told_stops n small ∙ sym (ap (λ (f : List ℕ). told (number_from_digits_after 10 n (map digit_in f))) (front_drop word i b l e ∙ cond-false (is_digit b) (b ∷ front (drop (i + 1) word)) [] d)) ∙ h

pub number_all : (word : List ℕ) (i n : ℕ) → length word ≤ i → n ≤ greatest → told (number_from_digits_after 10 n (map digit_in (front (drop i word)))) ≡ told (number_in word) → n ≡ told (number_in word)
number_all word i n l small h = told_stops n small ∙ sym (ap (λ (ws : List ℕ). told (number_from_digits_after 10 n (map digit_in (front ws)))) (drop_all i word l)) ∙ h

pub number_on : (word : List ℕ) (i b n m : ℕ) → i < length word → b ≡ get_or word i 0 → is_digit b ≡ true → m ≡ min (min (n * 10) greatest + (b - 48)) greatest → told (number_from_digits_after 10 n (map digit_in (front (drop i word)))) ≡ told (number_in word)
    → told (number_from_digits_after 10 m (map digit_in (front (drop (i + 1) word)))) ≡ told (number_in word)
number_on word i b n m l e d is h =
    told_after m (n * 10 + (b - 48)) (map digit_in (front (drop (i + 1) word))) (saturated (n * 10) (b - 48) m is)
    ∙ sym (ap (λ (f : List ℕ). told (number_from_digits_after 10 n (map digit_in f))) (front_drop word i b l e ∙ cond-true (is_digit b) (b ∷ front (drop (i + 1) word)) [] d)) ∙ h
  where
    saturated : (a c r : ℕ) → r ≡ min (min a greatest + c) greatest → told r ≡ told (a + c)
    saturated a c r e = elim (cases_lt greatest (a + c)) [
      | inl l ↦ told_few r (omega arith) ∙ (let f : r ≡ greatest = omega arith in f) ∙ sym (told_many (a + c) l)
      | inr l ↦ ap told (let f : r ≡ a + c = omega arith in f)
    ]

pub behind_here : (word : List ℕ) (i b : ℕ) → i < length word → b ≡ get_or word i 0 → is_digit b ≡ false → behind (drop i word) ≡ drop i word
behind_here word i b l e d = behind_drop word i b l e ∙ cond-false (is_digit b) (behind (drop (i + 1) word)) (b ∷ drop (i + 1) word) d ∙ ap (λ (x : ℕ). x ∷ drop (i + 1) word) e ∙ sym (drop_more word i 0 l)

pub behind_on : (word : List ℕ) (i b : ℕ) → i < length word → b ≡ get_or word i 0 → is_digit b ≡ true → behind (drop i word) ≡ behind (drop (i + 1) word)
behind_on word i b l e d = behind_drop word i b l e ∙ cond-true (is_digit b) (behind (drop (i + 1) word)) (b ∷ drop (i + 1) word) d

-- a formal is bound where the number of its actual is found
pub unbound_none : (names : List (List ℕ)) (binds : List Bind) (name : List ℕ) (found : Option ℕ) (none : Bool) → option_map (word_at names) found ≡ actual_of binds name → is_some found ≡ not none → none ≡ not (is_bound binds name)
unbound_none names binds name None true e f = sym (not_from_false (is_bound binds name) (none_bound binds name (sym e)))
unbound_none names binds name None false e f = absurd (both_ways false refl f)
unbound_none names binds name (Some i) true e f = absurd (both_ways true f refl)
unbound_none names binds name (Some i) false e f = sym (not_from_true (is_bound binds name) (some_bound binds name (word_at names i) (sym e)))

pub entry_there : (list : List Instance) (i : ℕ) (x : Instance) → i < length list → x ≡ get_or list i x → get_or (map entry_in list) i (entry_in x) ≡ entry_in x
entry_there [] i x l e = absurd (omega arith)
entry_there (y ∷ ys) zero x l e = ap entry_in (sym e)
entry_there (y ∷ ys) (suc i) x l e = entry_there ys i x (omega arith) e

pub unbound_is : (list : List Instance) (i : ℕ) (x : Instance) (name word : List ℕ) (count : ℕ) → i < length list → x ≡ get_or list i x → name ≡ name_in count word
    → unbound_at (get_or (map entry_in list) i (entry_in x)) (name_in count word) ≡ unbound_at (entry_in x) name
unbound_is list i x name word count l e f = ap₂ (λ (d : Entry) (n : List ℕ). unbound_at d n) (entry_there list i x l e) (sym f)
