-- Functions of fewer signals.
use Rattle.std.proofs.Common.{◌≡◌, ◌≢◌, ℕ, zero, suc, ◌+◌, ◌-◌, ◌*◌, ◌<◌, ◌≤◌, ◌&&◌, ◌||◌, if◌then◌else◌, cond, nat_eq, not, Bool, true, false, All, List, [], ◌∷◌, ◌++◌, map, length, get_or, take, refl, sym, ap, ap₂, ◌∙◌, subst, inl, inr, arith}
use Rattle.std.specs.Prelude.{◌⊎◌, Contains, swap_remove}
use Rattle.std.specs.List.{swap, take-map}
use Rattle.std.specs.Int.{bit_at}
use Rattle.std.proofs.Math.ListN.{set}
use Rattle.std.proofs.lemmas.Bool.{cases_lt, both_ways, and_parts, not-true, or_parts, cases_eq, cond-true, cond-false}
use Rattle.std.proofs.lemmas.List.{length-map, length-set, length-take, length_push, get_or-map, get_or-set_same, get_or-set_other, get_or-take, get_or_append_left, get_or_push, get_or_default, same_lists, set-get_or, set-set, map-set}
use Rattle.std.proofs.lemmas.List.Edits.{swap_is, length-swap}
use Rattle.std.proofs.lemmas.List.Elements.{All-take, All-set, All-weaker, All-contains, All-contains_itself, All-from_get_or, Contains-get_or}
use Rattle.syn_lists.specs.Numbers.{distinct_numbers, has_number}
use Rattle.syn_lists.proofs.Once.{number_same, number_other, or_none}
use Rattle.syn_truth.specs.declared.Truth.{Truth}
use Rattle.syn_truth.specs.Truth.{AtEach, Depends, digit, minterm_of, value_of}
use Rattle.syn_truth.specs.Words as words
use Rattle.syn_truth.proofs.Halves.{by_word}
use Rattle.syn_lutnet.specs.LutData.{Lut, lut_value}
use Rattle.syn_lutnet.specs.declared.luts.Lut as code
use Rattle.syn_lutnet.specs.Data.{lut_data}
use Rattle.syn_lutnet.proofs.Ones.{ones_give}
use Rattle.syn_absorb.specs.Needed.{AllNeeded, DependsOn, Ignores, IsNarrower, IsWithout, ReadsNeeded}

-- one variable fewer

none_after : (xs : List Bool) (i : ℕ) → length xs ≤ i → get_or (xs ++ false ∷ []) i false ≡ false
none_after [] zero le = refl
none_after [] (suc i) le = refl
none_after (x ∷ xs) zero le = absurd (omega (arith, le))
none_after (x ∷ xs) (suc i) le = none_after xs i (omega (arith, le))

take_none : (k : ℕ) → minterm_of (take k []) ≡ 0
take_none zero = refl
take_none (suc k) = refl

zero_after : (k : ℕ) (xs : List Bool) → length xs ≤ k → minterm_of (take k (xs ++ false ∷ [])) ≡ minterm_of xs
zero_after zero [] le = refl
zero_after zero (x ∷ xs) le = absurd (omega (arith, le))
zero_after (suc k) [] le = ap (λ m. digit false + 2 * m) (take_none k)
zero_after (suc k) (x ∷ xs) le = ap (λ m. digit x + 2 * m) (zero_after k xs (omega (arith, le)))

-- a table of at most 7 variables, in the low word, has the values of one of a variable more where that is false
pub shorter_is : (t : Truth) (xs : List Bool) → length xs + 1 ≡ t.vars → words.value_in t.low xs ≡ value_of t (xs ++ false ∷ [])
shorter_is t xs e = sym
    (by_word t (xs ++ false ∷ []) (length_push xs false ∙ e)
    ∙ ap (λ b. words.value_in (cond b t.high t.low) (take 7 (xs ++ false ∷ []))) (none_after xs 7 (omega (arith, e, t.few)))
    ∙ ap (λ m. nat_eq (bit_at t.low m) 1) (zero_after 7 xs (omega (arith, e, t.few))))

-- lists

-- the last element in the place of the i-th, and false for that
pub swapped_back : (ws : List Bool) (i last : ℕ) → length ws ≡ suc last → i < length ws → swap (take last (set ws i (get_or ws last false)) ++ false ∷ []) i last ≡ set ws i false
swapped_back ws i last long lt = same_lists (swap (ys ++ false ∷ []) i last) (set ws i false) (length-swap (ys ++ false ∷ []) i last ∙ whole ∙ sym (length-set ws i false)) each
  where
    ys : List Bool
    ys = take last (set ws i (get_or ws last false))

    short : length ys ≡ last
    short = omega (arith, length-take last (set ws i (get_or ws last false)), length-set ws i (get_or ws last false), long)

    whole : length (ys ++ false ∷ []) ≡ length ws
    whole = omega (arith, length_push ys false, short, long)

    is_set : swap (ys ++ false ∷ []) i last ≡ set (set (ys ++ false ∷ []) i (get_or (ys ++ false ∷ []) last false)) last (get_or (ys ++ false ∷ []) i false)
    is_set = sym (swap_is (ys ++ false ∷ []) i last false (omega (arith, whole, lt)) (omega (arith, whole, long)))

    at_last : get_or (ys ++ false ∷ []) last false ≡ false
    at_last = get_or_push ys false false last short

    each : (k : ℕ) (d : Bool) → k < length (swap (ys ++ false ∷ []) i last) → get_or (swap (ys ++ false ∷ []) i last) k d ≡ get_or (set ws i false) k d
    each k d inside =
        let below : k < length ws = omega (arith, inside, length-swap (ys ++ false ∷ []) i last, whole) in
        ap (λ (bs : List Bool). get_or bs k d) (is_set ∙ ap (λ b. set (set (ys ++ false ∷ []) i b) last (get_or (ys ++ false ∷ []) i false)) at_last)
        ∙ elim (cases_lt k last) [
          | inl less ↦
              get_or-set_other (set (ys ++ false ∷ []) i false) last k (get_or (ys ++ false ∷ []) i false) d (λ e. omega (arith, less, e))
              ∙ before k d less
          | inr ge ↦
              let at : k ≡ last = omega (arith, ge, below, long) in
              ap (λ n. get_or (set (set (ys ++ false ∷ []) i false) last (get_or (ys ++ false ∷ []) i false)) n d) at
              ∙ get_or-set_same (set (ys ++ false ∷ []) i false) last (get_or (ys ++ false ∷ []) i false) d (omega (arith, length-set (ys ++ false ∷ []) i false, whole, long))
              ∙ end d ∙ sym (ap (λ n. get_or (set ws i false) n d) at)
        ]
      where
        end : (d : Bool) → get_or (ys ++ false ∷ []) i false ≡ get_or (set ws i false) last d
        end d = elim (cases_lt i last) [
          | inl less ↦
              get_or_append_left ys (false ∷ []) false i (omega (arith, less, short))
              ∙ get_or-take last (set ws i (get_or ws last false)) i false less
              ∙ get_or-set_same ws i (get_or ws last false) false lt
              ∙ get_or_default ws last false d (omega (arith, long))
              ∙ sym (get_or-set_other ws i last false d (λ e. omega (arith, less, e)))
          | inr ge ↦
              let at : i ≡ last = omega (arith, ge, lt, long) in
              ap (λ n. get_or (ys ++ false ∷ []) n false) at ∙ at_last ∙ sym (get_or-set_same ws i false d lt) ∙ ap (λ n. get_or (set ws i false) n d) at
        ]

        before : (k : ℕ) (d : Bool) → k < last → get_or (set (ys ++ false ∷ []) i false) k d ≡ get_or (set ws i false) k d
        before k d less = elim (cases_eq k i) [
          | inl same ↦
              ap (λ n. get_or (set (ys ++ false ∷ []) i false) n d) same ∙ get_or-set_same (ys ++ false ∷ []) i false d (omega (arith, whole, lt))
              ∙ sym (get_or-set_same ws i false d lt) ∙ sym (ap (λ n. get_or (set ws i false) n d) same)
          | inr apart ↦
              get_or-set_other (ys ++ false ∷ []) i k false d apart
              ∙ get_or_append_left ys (false ∷ []) d k (omega (arith, less, short))
              ∙ get_or-take last (set ws i (get_or ws last false)) k d less
              ∙ get_or-set_other ws i k (get_or ws last false) d apart
              ∙ sym (get_or-set_other ws i k false d apart)
        ]

-- the function of one signal fewer
pub record Without (t t2 : Truth) (inputs left : List ℕ) (i : ℕ) : Type 0 where
  pub inside : All (Contains inputs) left
  pub fewer : length left + 1 ≡ length inputs
  pub value : (w : ℕ → Bool) → value_of t2 (map w left) ≡ value_of t (set (map w inputs) i false)

pub without_is : (t t1 t2 : Truth) (inputs left : List ℕ) (i last x : ℕ) → t.vars ≡ length inputs → i < length inputs → last + 1 ≡ t.vars → left ≡ swap_remove inputs i x
    → t1.vars ≡ t.vars → AtEach t.vars (λ xs. value_of t1 xs ≡ value_of t (swap xs i last)) → t2.vars + 1 ≡ t1.vars → AtEach t2.vars (λ xs. value_of t2 xs ≡ value_of t1 (xs ++ false ∷ [])) → Without t t2 inputs left i
without_is t t1 t2 inputs left i last x vars lt last_is left_is vars1 swapped vars2 short = record {
  inside = subst (λ (ns : List ℕ). All (Contains inputs) ns) (sym cut)
      (All-take (Contains inputs) last (set inputs i (get_or inputs last x)) (All-set (Contains inputs) inputs i (get_or inputs last x) (Contains-get_or inputs last x (omega (arith, vars, last_is))) (All-contains_itself inputs)));
  fewer = omega (arith, long, vars, last_is);
  value = λ w.
      let ws : List Bool = map w inputs in
      let wide : length ws ≡ length inputs = length-map inputs w in
      let size : length (map w left) ≡ last = length-map left w ∙ long in
      let end : w (get_or inputs last x) ≡ get_or ws last false = sym (get_or-map w inputs last x false (omega (arith, vars, last_is))) in
      let is : map w left ≡ take last (set ws i (get_or ws last false)) =
      ap (map w) cut ∙ sym (take-map w last (set inputs i (get_or inputs last x))) ∙ ap (take last) (map-set w inputs i (get_or inputs last x)) ∙ ap (λ b. take last (set ws i b)) end in
      short (map w left) (omega (arith, size, vars2, vars1, last_is))
      ∙ swapped (map w left ++ false ∷ []) (omega (arith, length_push (map w left) false, size, last_is))
      ∙ ap (value_of t) (ap (λ (bs : List Bool). swap (bs ++ false ∷ []) i last) is ∙ swapped_back ws i last (omega (arith, wide, vars, last_is)) (omega (arith, wide, lt)));
}
  where
    cut : left ≡ take last (set inputs i (get_or inputs last x))
    cut = left_is ∙ ap (λ n. take n (set inputs i (get_or inputs n x))) (let e : length inputs - 1 ≡ last = omega (arith, vars, last_is) in e)

    long : length left ≡ last
    long = ap (λ (ns : List ℕ). length ns) cut ∙ omega (arith, length-take last (set inputs i (get_or inputs last x)), length-set inputs i (get_or inputs last x), vars, last_is)

-- one variable in the place of another

pub either_value : (a b : Bool) → not (not a && not b) ≡ (a || b)
either_value true b = refl
either_value false true = refl
either_value false false = refl

pub chosen_value : (t : Truth) (xs : List Bool) (j : ℕ) (v : Bool) → ((v && value_of t (set xs j true)) || (not v && value_of t (set xs j false))) ≡ value_of t (set xs j v)
chosen_value t xs j true = or_none (value_of t (set xs j true))
chosen_value t xs j false = refl

-- signals that give nothing

same_or : (a b : Bool) → (a ≡ b) ⊎ (a ≢ b)
same_or true true = inl refl
same_or true false = inr (λ e. both_ways false refl (sym e))
same_or false true = inr (λ e. both_ways false refl e)
same_or false false = inl refl

idle_same : (t : Truth) (i : ℕ) → (Depends t i → ⊥) → (xs : List Bool) → length xs ≡ t.vars → value_of t (set xs i false) ≡ value_of t xs
idle_same t i none xs e =
    both (get_or xs i false) refl ∙ ap (value_of t) (set-get_or xs i false)
  where
    both : (b : Bool) → get_or xs i false ≡ b → value_of t (set xs i false) ≡ value_of t (set xs i (get_or xs i false))
    both false is = ap (λ b. value_of t (set xs i b)) (sym is)
    both true is =
        elim (same_or (value_of t (set xs i true)) (value_of t (set xs i false))) [ inl s ↦ sym s | inr differ ↦ absurd (none (xs, e, differ)) ]
        ∙ ap (λ b. value_of t (set xs i b)) (sym is)

pub ignores_idle : (t : Truth) (inputs : List ℕ) (i signal : ℕ) → t.vars ≡ length inputs → i < length inputs → signal ≡ get_or inputs i 0 → (signal ≡ 0) ⊎ (Depends t i → ⊥) → Ignores t inputs i
ignores_idle t inputs i signal vars lt at (inl zeroth) w low =
    let off : get_or (map w inputs) i false ≡ false = get_or-map w inputs i 0 false lt ∙ ap w (sym at ∙ zeroth) ∙ low in
    ap (λ b. value_of t (set (map w inputs) i b)) (sym off) ∙ ap (value_of t) (set-get_or (map w inputs) i false)
ignores_idle t inputs i signal vars lt at (inr none) w low = idle_same t i none (map w inputs) (length-map inputs w ∙ sym vars)

-- the second of two places of one signal gives nothing once it has the value of the first
pub ignores_twin : (t t1 : Truth) (inputs : List ℕ) (i j : ℕ) → t.vars ≡ length inputs → i < j → j < length inputs → get_or inputs i 0 ≡ get_or inputs j 0
    → AtEach t.vars (λ xs. value_of t1 xs ≡ value_of t (set xs j (get_or xs i false))) → (w : ℕ → Bool) → value_of t1 (set (map w inputs) j false) ≡ value_of t (map w inputs)
ignores_twin t t1 inputs i j vars less lt same joined w =
    let ws : List Bool = map w inputs in
    let there : get_or (set ws j false) i false ≡ get_or ws j false =
    get_or-set_other ws j i false false (λ e. omega (arith, less, e)) ∙ get_or-map w inputs i 0 false (omega (arith, less, lt)) ∙ ap w same ∙ sym (get_or-map w inputs j 0 false lt) in
    joined (set ws j false) (length-set ws j false ∙ length-map inputs w ∙ sym vars)
    ∙ ap (value_of t) (set-set ws j false (get_or (set ws j false) i false) ∙ ap (set ws j) there ∙ set-get_or ws j false)

-- one signal more is needed
pub needed_more : (t : Truth) (inputs : List ℕ) (place i signal : ℕ) → i ≡ place → signal ≡ get_or inputs place 0 → ((k : ℕ) → k < place → (1 ≤ get_or inputs k 0) × Depends t k) → (1 ≤ signal) × Depends t i
    → (k : ℕ) → k < place + 1 → (1 ≤ get_or inputs k 0) × Depends t k
needed_more t inputs place i signal i_is at each here k lt = elim (cases_lt k place) [
  | inl less ↦ each k less
  | inr ge ↦
      let same : place ≡ k = omega (arith, lt, ge) in
      subst (λ n. (1 ≤ get_or inputs n 0) × Depends t n) same (omega (arith, at, here.0), subst (Depends t) i_is here.1)
]

-- LUTs

pub gives : (l : code.Lut) (v : ℕ → Bool) → lut_value v (lut_data l) ≡ value_of l.truth (map v l.inputs.items)
gives l v = (ones_give l.truth).values (map v l.inputs.items) (length-map l.inputs.items v ∙ sym l.vars)

pub narrower : (lut now : code.Lut) (t : Truth) (inputs : List ℕ) (i : ℕ) → inputs ≡ lut.inputs.items → IsWithout t inputs i now
    → ((w : ℕ → Bool) → w 0 ≡ false → value_of t (set (map w inputs) i false) ≡ value_of lut.truth (map w inputs)) → IsNarrower (lut_data lut) (lut_data now)
narrower lut now t inputs i is without same = record {
  value = λ v low. gives now v ∙ without.value v ∙ same v low ∙ ap (λ (ns : List ℕ). value_of lut.truth (map v ns)) is ∙ sym (gives lut v);
  inputs = subst (λ (ns : List ℕ). All (Contains ns) now.inputs.items) is without.inputs;
  fewer = omega (arith, without.fewer, ap (λ (ns : List ℕ). length ns) is);
}

pub narrower_itself : (l : Lut) → IsNarrower l l
narrower_itself l = record { value = λ v low. refl; inputs = All-contains_itself l.inputs; fewer = omega arith }

pub narrower_more : (a b c : Lut) → IsNarrower a b → IsNarrower b c → IsNarrower a c
narrower_more a b c first second = record {
  value = λ v low. second.value v low ∙ first.value v low;
  inputs = All-weaker (Contains b.inputs) (Contains a.inputs) (λ x inside. All-contains (Contains a.inputs) b.inputs x first.inputs inside) c.inputs second.inputs;
  fewer = omega (arith, first.fewer, second.fewer);
}

-- a valuation that gives signals these values
abbrev assigned : List ℕ → List Bool → ℕ → Bool
assigned [] xs m = false
assigned (n ∷ ns) [] m = false
assigned (n ∷ ns) (x ∷ xs) m = if nat_eq n m then x else assigned ns xs m

map_apart : (f g : ℕ → Bool) (n : ℕ) (ns : List ℕ) → has_number ns n ≡ false → ((m : ℕ) → nat_eq n m ≡ false → f m ≡ g m) → map f ns ≡ map g ns
map_apart f g n [] h same = refl
map_apart f g n (m ∷ ms) h same =
    let parts = or_parts (nat_eq m n) (has_number ms n) h in
    ap₂ (λ (y : Bool) (ys : List Bool). y ∷ ys) (same m (number_other n m (λ e. both_ways (nat_eq m n) parts.0 (ap (λ k. nat_eq m k) (sym e) ∙ number_same m)))) (map_apart f g n ms parts.1 same)

map_assigned : (ns : List ℕ) (xs : List Bool) → distinct_numbers ns ≡ true → length xs ≡ length ns → map (assigned ns xs) ns ≡ xs
map_assigned [] [] once long = refl
map_assigned [] (x ∷ xs) once long = absurd (omega (arith, long))
map_assigned (n ∷ ns) [] once long = absurd (omega (arith, long))
map_assigned (n ∷ ns) (x ∷ xs) once long =
    let parts = and_parts (not (has_number ns n)) (distinct_numbers ns) once in
    ap₂ (λ (y : Bool) (ys : List Bool). y ∷ ys) (cond-true (nat_eq n n) x (assigned ns xs n) (number_same n))
    (map_apart (assigned (n ∷ ns) (x ∷ xs)) (assigned ns xs) n ns (not-true (has_number ns n) parts.0) (λ m apart. cond-false (nat_eq n m) x (assigned ns xs m) apart)
    ∙ map_assigned ns xs parts.1 (omega (arith, long)))

assigned_other : (ns : List ℕ) (xs : List Bool) (i n : ℕ) (a b : Bool) → n ≢ get_or ns i 0 → assigned ns (set xs i a) n ≡ assigned ns (set xs i b) n
assigned_other [] xs i n a b ne = refl
assigned_other (k ∷ ks) [] zero n a b ne = refl
assigned_other (k ∷ ks) [] (suc i) n a b ne = refl
assigned_other (k ∷ ks) (x ∷ xs) zero n a b ne =
    cond-false (nat_eq k n) a (assigned ks xs n) (number_other k n ne) ∙ sym (cond-false (nat_eq k n) b (assigned ks xs n) (number_other k n ne))
assigned_other (k ∷ ks) (x ∷ xs) (suc i) n a b ne = ap (λ y. if nat_eq k n then x else y) (assigned_other ks xs i n a b ne)

depends_at : (l : code.Lut) (i : ℕ) → distinct_numbers l.inputs.items ≡ true → Depends l.truth i → DependsOn (lut_data l) (get_or l.inputs.items i 0)
depends_at l i once (xs, long, differ) = record {
  first = assigned l.inputs.items (set xs i true);
  second = assigned l.inputs.items (set xs i false);
  agree = λ n ne. assigned_other l.inputs.items xs i n true false ne;
  differ = λ same. differ (sym (at true) ∙ same ∙ at false);
}
  where
    at : (b : Bool) → lut_value (assigned l.inputs.items (set xs i b)) (lut_data l) ≡ value_of l.truth (set xs i b)
    at b = gives l (assigned l.inputs.items (set xs i b)) ∙ ap (value_of l.truth) (map_assigned l.inputs.items (set xs i b) once (length-set xs i b ∙ long ∙ l.vars))

pub needed_all : (l : code.Lut) (inputs : List ℕ) → inputs ≡ l.inputs.items → AllNeeded l.truth inputs → distinct_numbers inputs ≡ true → ReadsNeeded (lut_data l)
needed_all l inputs is all once = subst (λ (ns : List ℕ). AllNeeded l.truth ns → distinct_numbers ns ≡ true → ReadsNeeded (lut_data l)) (sym is)
    (λ every apart. record {
      once = apart;
      low = All-from_get_or (λ m. 1 ≤ m) l.inputs.items 0 (λ i lt. (every i lt).0);
      depends = All-from_get_or (DependsOn (lut_data l)) l.inputs.items 0 (λ i lt. depends_at l i apart (every i lt).1);
    }) all once
