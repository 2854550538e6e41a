-- Numbers of names, and what is defined twice, word by word.
use Rattle.std.proofs.Common.{◌≡◌, ℕ, ◌<◌, ◌||◌, Bool, true, false, if◌then◌else◌, List, [], ◌∷◌, ◌++◌, length, map, refl, sym, ap, ap₂, ◌∙◌, Some, append_assoc}
use Rattle.std.proofs.lemmas.Bool.{cond-true, cond-false}
use Rattle.syn_netlist.specs.Numbers.{word_at, words_at, all_below, Grows}
use Rattle.syn_netlist.proofs.Growing.{words_at-grows, all_below-more, length-grows}
use Rattle.syn_reader.specs.declared.Kind.{Kind}
use Rattle.syn_reader.specs.Definitions.{forbids}
use Rattle.syn_reader.specs.Marking.{by_kind, forbidden_by, also, first_twice, Same}
use Rattle.syn_reader.proofs.Naming.{words_at-append, all_below-append}

-- one more number
pub numbers_more : (names more : List (List ℕ)) (word : List ℕ) (is items : List ℕ) (i : ℕ) (rest all : List (List ℕ)) → words_at names is ++ word ∷ rest ≡ all → all_below (length names) is ≡ true → Grows names more → word_at more i ≡ word → items ≡ is ++ i ∷ []
    → words_at more items ++ rest ≡ all
numbers_more names more word is items i rest all e b g w n =
    ap (λ (l : List (List ℕ)). l ++ rest) (ap (words_at more) n ∙ (words_at-append more is i ∙ ap₂ (λ (l : List (List ℕ)) (v : List ℕ). l ++ v ∷ []) (words_at-grows names more is g b) w))
    ∙ (append_assoc (words_at names is) (word ∷ []) rest ∙ e)

pub below_more : (names more : List (List ℕ)) (is items : List ℕ) (i : ℕ) → all_below (length names) is ≡ true → Grows names more → i < length more → items ≡ is ++ i ∷ [] → all_below (length more) items ≡ true
below_more names more is items i b g lt n =
    ap (all_below (length more)) n ∙ all_below-append (length more) is i (all_below-more (length names) (length more) is (length-grows names more g) b) lt

-- tests that forbid the same find the same
pub twice_same : (old new : Kind → List ℕ → Bool) (by : Kind) (ws : List (List ℕ)) → Same old new → first_twice new by ws ≡ first_twice old by ws
twice_same old new by [] s = refl
twice_same old new by (w ∷ ws) s = ap₂ (λ b o. if b then Some w else o) (s by w) (twice_same (also by w old) (also by w new) by ws (λ k v. ap (λ b. forbids (by_kind by w) (by_kind k v) || b) (s k v)))

-- one more word that isn't defined twice
pub twice_step : (old new first : Kind → List ℕ → Bool) (by : Kind) (w : List ℕ) (ws all : List (List ℕ)) → first_twice old by (w ∷ ws) ≡ first_twice first by all → old by w ≡ false → Same (also by w old) new
    → first_twice new by ws ≡ first_twice first by all
twice_step old new first by w ws all e free s =
    twice_same (also by w old) new by ws s
    ∙ (sym (cond-false (old by w) (Some w) (first_twice (also by w old) by ws) free) ∙ e)

pub twice_found : (old first : Kind → List ℕ → Bool) (by : Kind) (w : List ℕ) (ws all : List (List ℕ)) → first_twice old by (w ∷ ws) ≡ first_twice first by all → old by w ≡ true → first_twice first by all ≡ Some w
twice_found old first by w ws all e taken = sym e ∙ cond-true (old by w) (Some w) (first_twice (also by w old) by ws) taken

swap : (a b c : Bool) → (a || (b || c)) ≡ ((b || a) || c)
swap true true c = refl
swap true false c = refl
swap false true c = refl
swap false false c = refl

pub adds_step : (old new first : Kind → List ℕ → Bool) (by : Kind) (w : List ℕ) (ws all : List (List ℕ))
    → ((k : Kind) (v : List ℕ) → (forbidden_by (map (by_kind by) (w ∷ ws)) k v || old k v) ≡ (forbidden_by (map (by_kind by) all) k v || first k v))
    → Same (also by w old) new
    → (k : Kind) (v : List ℕ) → (forbidden_by (map (by_kind by) ws) k v || new k v) ≡ (forbidden_by (map (by_kind by) all) k v || first k v)
adds_step old new first by w ws all e s k v =
    ap (λ b. forbidden_by (map (by_kind by) ws) k v || b) (s k v)
    ∙ (swap (forbidden_by (map (by_kind by) ws) k v) (forbids (by_kind by w) (by_kind k v)) (old k v) ∙ e k v)
