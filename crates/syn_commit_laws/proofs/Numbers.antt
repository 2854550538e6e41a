-- What changes free, and how many ANDs go and come by them.
use Rattle.std.proofs.Common.{◌≡◌, ◌≢◌, ℕ, zero, suc, ◌+◌, ◌<◌, ◌&&◌, ◌||◌, not, nat_eq, Bool, true, false, if◌then◌else◌, List, [], ◌∷◌, ◌++◌, Some, refl, sym, ap, ◌∙◌, arith, ℤ, pos, ◌+ℤ◌, ◌-ℤ◌}
use Rattle.std.proofs.lemmas.Bool.{eq-eqb, ne_eqb, both_ways}
use Rattle.std.proofs.lemmas.Int.{ints}
use Rattle.syn_rows.specs.declared.Row.{Row}
use Rattle.syn_rows.specs.declared.Row.TheVariants.{Free, Source, And, Alias}
use Rattle.syn_rows.specs.References.{and_count}
use Rattle.syn_core_laws.specs.declared.View.{View}
use Rattle.syn_core_laws.specs.declared.Change.{Change}
use Rattle.syn_core_laws.specs.Views.{known_row}
use Rattle.syn_core_laws.proofs.Counting.{sum_same, sum_change}
use Rattle.syn_commit_laws.specs.Dying.{ands_known, ands_in}
use Rattle.syn_fanout_free.specs.Freed.{is_free}
use Rattle.syn_commit_laws.specs.Freeing.{frees, left, ands_freed, late, redefines, ands_before, ands_after}

-- ---- lists of changes
pub freed_append : (set : ℕ → Bool) (xs ys : List Change) → ands_freed set (xs ++ ys) ≡ ands_freed set xs + ands_freed set ys
freed_append set [] ys = omega arith
freed_append set (x ∷ xs) ys = let rest : ands_freed set (xs ++ ys) ≡ ands_freed set xs + ands_freed set ys = freed_append set xs ys in omega arith

pub before_append : (xs ys : List Change) → ands_before (xs ++ ys) ≡ ands_before xs + ands_before ys
before_append [] ys = omega arith
before_append (x ∷ xs) ys = let rest : ands_before (xs ++ ys) ≡ ands_before xs + ands_before ys = before_append xs ys in omega arith

pub after_append : (xs ys : List Change) → ands_after (xs ++ ys) ≡ ands_after xs + ands_after ys
after_append [] ys = omega arith
after_append (x ∷ xs) ys = let rest : ands_after (xs ++ ys) ≡ ands_after xs + ands_after ys = after_append xs ys in omega arith

pub redefines_append : (xs ys : List Change) → redefines (xs ++ ys) ≡ redefines xs ++ redefines ys
redefines_append [] ys = refl
redefines_append (x ∷ xs) ys = go (is_free x.new) (redefines_append xs ys)
  where
    go : (b : Bool) → redefines (xs ++ ys) ≡ redefines xs ++ redefines ys → (if b then redefines (xs ++ ys) else x ∷ redefines (xs ++ ys)) ≡ (if b then redefines xs else x ∷ redefines xs) ++ redefines ys
    go true e = e
    go false e = ap (λ cs. x ∷ cs) e

-- the ANDs that went are those freed in the set, those freed beside it, and those redefined
pub before_parts : (set : ℕ → Bool) (cs : List Change) → ands_before cs ≡ ands_freed set cs + late set cs + ands_before (redefines cs)
before_parts set [] = refl
before_parts set (c ∷ cs) = go (is_free c.new) (set c.node) (and_count c.old) refl (before_parts set cs)
  where
    go : (f s : Bool) (x : ℕ) → x ≡ and_count c.old → ands_before cs ≡ ands_freed set cs + late set cs + ands_before (redefines cs)
        → x + ands_before cs ≡ ((if f && s then x else 0) + ands_freed set cs) + ((if f && not s then x else 0) + late set cs) + ands_before (if f then redefines cs else c ∷ redefines cs)
    go true true x e ih = omega arith
    go true false x e ih = omega arith
    go false s x e ih = omega arith

-- the ANDs freed are those of the set and those beside it
pub freed_parts : (set : ℕ → Bool) (cs : List Change) → ands_freed (λ n. true) cs ≡ ands_freed set cs + late set cs
freed_parts set [] = refl
freed_parts set (c ∷ cs) = go (is_free c.new) (set c.node) (and_count c.old) (freed_parts set cs)
  where
    go : (f s : Bool) (x : ℕ) → ands_freed (λ n. true) cs ≡ ands_freed set cs + late set cs
        → (if f && true then x else 0) + ands_freed (λ n. true) cs ≡ ((if f && s then x else 0) + ands_freed set cs) + ((if f && not s then x else 0) + late set cs)
    go true true x ih = omega arith
    go true false x ih = omega arith
    go false s x ih = omega arith

free_no_and : (r : Row) → is_free r ≡ true → and_count r ≡ 0
free_no_and Free h = refl
free_no_and Source h = absurd (cc)
free_no_and (And a b) h = absurd (cc)
free_no_and (Alias a) h = absurd (cc)

pub after_parts : (cs : List Change) → ands_after cs ≡ ands_after (redefines cs)
after_parts [] = refl
after_parts (c ∷ cs) = go (is_free c.new) refl (after_parts cs)
  where
    go : (f : Bool) → is_free c.new ≡ f → ands_after cs ≡ ands_after (redefines cs) → and_count c.new + ands_after cs ≡ ands_after (if f then redefines cs else c ∷ redefines cs)
    go true e ih = let none : and_count c.new ≡ 0 = free_no_and c.new e in omega arith
    go false e ih = omega arith

-- ---- what one more change frees
or_false : (b : Bool) → (b || false) ≡ b
or_false true = refl
or_false false = refl

or_assoc : (a b c : Bool) → (a || (b || c)) ≡ ((a || b) || c)
or_assoc true b c = refl
or_assoc false b c = refl

pub frees_append : (xs ys : List Change) (m : ℕ) → frees (xs ++ ys) m ≡ (frees xs m || frees ys m)
frees_append [] ys m = refl
frees_append (x ∷ xs) ys m = ap (λ b. (is_free x.new && nat_eq x.node m) || b) (frees_append xs ys m) ∙ or_assoc (is_free x.new && nat_eq x.node m) (frees xs m) (frees ys m)

module _ (dying : ℕ → Bool) (cs : List Change) (c : Change) where
  -- no free
  pub left_kept : is_free c.new ≡ false → (m : ℕ) → left dying (cs ++ c ∷ []) m ≡ left dying cs m
  left_kept used m =
      let none : frees (c ∷ []) m ≡ false = ap (λ b. (b && nat_eq c.node m) || false) used in
      ap (λ b. dying m && not b) (frees_append cs (c ∷ []) m ∙ (ap (λ b. frees cs m || b) none ∙ or_false (frees cs m)))

  -- a free of another node
  pub left_else : (m : ℕ) → m ≢ c.node → left dying (cs ++ c ∷ []) m ≡ left dying cs m
  left_else m ne =
      let none : frees (c ∷ []) m ≡ false = ap (λ b. (is_free c.new && b) || false) (ne_eqb c.node m (λ e. ne (sym e))) ∙ fails (is_free c.new) in
      ap (λ b. dying m && not b) (frees_append cs (c ∷ []) m ∙ (ap (λ b. frees cs m || b) none ∙ or_false (frees cs m)))
    where
      fails : (b : Bool) → ((b && false) || false) ≡ false
      fails true = refl
      fails false = refl

  -- the node's own free
  pub left_here : is_free c.new ≡ true → left dying (cs ++ c ∷ []) c.node ≡ false
  left_here free =
      let one : frees (c ∷ []) c.node ≡ true = ap (λ b. (b && nat_eq c.node c.node) || false) free ∙ ap (λ b. b || false) (eq-eqb c.node c.node refl) in
      ap (λ b. dying c.node && not b) (frees_append cs (c ∷ []) c.node ∙ (ap (λ b. frees cs c.node || b) one ∙ holds (frees cs c.node))) ∙ fails (dying c.node)
    where
      holds : (b : Bool) → (b || true) ≡ true
      holds true = refl
      holds false = refl

      fails : (b : Bool) → (b && false) ≡ false
      fails true = refl
      fails false = refl

  pub left_less : is_free c.new ≡ true → (m : ℕ) → left dying (cs ++ c ∷ []) m ≡ true → (left dying cs m ≡ true) × (m ≢ c.node)
  left_less free m h =
      let ne : m ≢ c.node = λ e. both_ways (left dying (cs ++ c ∷ []) m) (ap (left dying (cs ++ c ∷ [])) e ∙ left_here free) h in
      (sym (left_else m ne) ∙ h, ne)

  pub left_rest : (m : ℕ) → left dying cs m ≡ true → m ≢ c.node → left dying (cs ++ c ∷ []) m ≡ true
  left_rest m h ne = left_else m ne ∙ h

-- ---- ANDs among the rows that are left
pub ands_same : (nodes : ℕ) (v : View) (s t : ℕ → Bool) → ((m : ℕ) → s m ≡ t m) → ands_in nodes v s ≡ ands_in nodes v t
ands_same nodes v s t same = sum_same nodes (λ n. if s n then ands_known (known_row v n) else 0) (λ n. if t n then ands_known (known_row v n) else 0) (λ n lt. ap (λ b. if b then ands_known (known_row v n) else 0) (same n))

pub ands_none : (nodes : ℕ) (v : View) (s : ℕ → Bool) → ((m : ℕ) → s m ≡ false) → ands_in nodes v s ≡ 0
ands_none zero v s none = refl
ands_none (suc n) v s none =
    let front : ands_in n v s ≡ 0 = ands_none n v s none in
    let here : (if s n then ands_known (known_row v n) else 0) ≡ 0 = ap (λ b. if b then ands_known (known_row v n) else 0) (none n) in
    omega arith

pub ands_less : (nodes : ℕ) (v : View) (s t : ℕ → Bool) (n : ℕ) (r : Row) → n < nodes → known_row v n ≡ Some r → s n ≡ true → t n ≡ false → ((m : ℕ) → m ≢ n → t m ≡ s m)
    → and_count r + ands_in nodes v t ≡ ands_in nodes v s
ands_less nodes v s t n r lt is yes_there none_there others =
    let change : ands_in nodes v s + (if t n then ands_known (known_row v n) else 0) ≡ ands_in nodes v t + (if s n then ands_known (known_row v n) else 0) =
    sum_change nodes n (λ k. if s k then ands_known (known_row v k) else 0) (λ k. if t k then ands_known (known_row v k) else 0) lt (λ k ne. ap (λ b. if b then ands_known (known_row v k) else 0) (sym (others k ne))) in
    let one : (if t n then ands_known (known_row v n) else 0) ≡ 0 = ap (λ b. if b then ands_known (known_row v n) else 0) none_there in
    let two : (if s n then ands_known (known_row v n) else 0) ≡ and_count r = ap (λ b. if b then ands_known (known_row v n) else 0) yes_there ∙ ap ands_known is in
    omega arith

-- ---- differences
pub zero_more : (x : ℤ) → x ≡ x +ℤ pos 0
zero_more x = omega (arith, ints)

pub more_sum : (x y s : ℤ) (b a m k : ℕ) → x +ℤ pos b ≡ s +ℤ pos (m + a) → y ≡ x +ℤ pos k → y +ℤ pos b ≡ s +ℤ pos (m + k + a)
more_sum x y s b a m k p q = omega (arith, ints)

pub stored_sum : (x y s : ℤ) (b a o r m k B A : ℕ) → x +ℤ pos b ≡ s +ℤ pos (m + a) → y +ℤ pos o ≡ x +ℤ pos (k + r) → B ≡ b + o → A ≡ a + r → y +ℤ pos B ≡ s +ℤ pos (m + k + A)
stored_sum x y s b a o r m k B A p q e f = omega (arith, ints)

pub redefined_sum : (x : ℤ) (o r : ℕ) → ((x +ℤ pos r) -ℤ pos o) +ℤ pos (o + 0) ≡ x +ℤ pos (0 + (r + 0))
redefined_sum x o r = omega (arith, ints)

pub freed_sum : (x : ℤ) (o : ℕ) → (x -ℤ pos o) +ℤ pos (o + 0) ≡ x +ℤ pos (0 + (0 + 0))
freed_sum x o = omega (arith, ints)

pub whole_sum : (x s : ℤ) (b a m d l o A : ℕ) → x +ℤ pos b ≡ s +ℤ pos (m + a) → b ≡ d + l + o → a ≡ A → x +ℤ pos (d + l + o) ≡ s +ℤ pos (m + A)
whole_sum x s b a m d l o A p e f = omega (arith, ints)
