-- Runs are there.
use Rattle.std.proofs.Common.{◌≡◌, ℕ, not, if◌then◌else◌, Bool, true, false, List, [], ◌∷◌, ◌++◌, map, bytes_eq, refl, sym, ap, ap₂, ◌∙◌, subst}
use Rattle.std.specs.List.{AllByRecursion}
use Rattle.std.proofs.lemmas.List.Elements.{All-from_recursion, recursion_from_All}
use Rattle.std.proofs.lemmas.Bool.{cond-true, cond-false, and_parts, and_from, or_parts, both_ways, not_from_false, not-true, false_from_ne_true}
use Rattle.syn_netlist.specs.Lists.{Frame, Latch, Netlist, latch_output, output_of, sources}
use Rattle.syn_netlist.specs.Order.{DefinedOnce}
use Rattle.syn_netlist.specs.Values.{IsTotal}
use Rattle.syn_netlist.specs.Words.{has_word, distinct, without}
use Rattle.syn_netlist.proofs.Sets.{same_word, word_same, has_word-append, has_head, has_tail, has_left, has_right, apart, distinct_right, distinct_head, map_from_each, each_from_map}
use Rattle.syn_seq.specs.Runs.{Begins, Follows, GoesOn, before_all, free_signals, held_after, may_begin, values_in}
use Rattle.syn_seq.specs.Laws.{RunsAreThere}
use Rattle.syn_seq.proofs.Alike.{sources_are}

distinct_left : (xs ys : List (List ℕ)) → distinct (xs ++ ys) ≡ true → distinct xs ≡ true
distinct_left [] ys d = refl
distinct_left (x ∷ xs) ys d =
    let parts = and_parts (not (has_word (xs ++ ys) x)) (distinct (xs ++ ys)) d in
    and_from (not (has_word xs x)) (distinct xs)
    (not_from_false (has_word xs x) (or_parts (has_word xs x) (has_word ys x) (sym (has_word-append xs ys x) ∙ not-true (has_word (xs ++ ys) x) parts.0)).0)
    (distinct_left xs ys parts.1)

-- the values after a step: a latch has what it holds, any other word its given value
abbrev next : (List ℕ → Bool) → (List ℕ → Bool) → (List ℕ → Bool) → List Latch → List ℕ → Bool
next u v g [] word = g word
next u v g (l ∷ ls) word = if bytes_eq l.output word then held_after u v l else next u v g ls word

next_else : (u v g : List ℕ → Bool) (ls : List Latch) (word : List ℕ) → has_word (map latch_output ls) word ≡ false → next u v g ls word ≡ g word
next_else u v g [] word h = refl
next_else u v g (l ∷ ls) word h =
    let parts = or_parts (bytes_eq l.output word) (has_word (map latch_output ls) word) h in
    cond-false (bytes_eq l.output word) (held_after u v l) (next u v g ls word) parts.0 ∙ next_else u v g ls word parts.1

all_within : (P Q : Latch → Type 0) (ls : List Latch) → ((k : Latch) → has_word (map latch_output ls) k.output ≡ true → P k → Q k) → AllByRecursion P ls → AllByRecursion Q ls
all_within P Q [] h a = tt
all_within P Q (l ∷ ls) h a = (h l (has_head l.output (map latch_output ls)) a.0, all_within P Q ls (λ k t. h k (has_tail l.output k.output (map latch_output ls) t)) a.1)

next_holds : (u v g : List ℕ → Bool) (ls : List Latch) → distinct (map latch_output ls) ≡ true → AllByRecursion (λ l. next u v g ls l.output ≡ held_after u v l) ls
next_holds u v g [] d = tt
next_holds u v g (l ∷ ls) d = (
  cond-true (bytes_eq l.output l.output) (held_after u v l) (next u v g ls l.output) (word_same l.output),
  all_within (λ k. next u v g ls k.output ≡ held_after u v k) (λ k. next u v g (l ∷ ls) k.output ≡ held_after u v k) ls
      (λ k t p. cond-false (bytes_eq l.output k.output) (held_after u v l) (next u v g ls k.output)
      (false_from_ne_true (bytes_eq l.output k.output) (λ e. both_ways (has_word (map latch_output ls) l.output) (distinct_head l.output (map latch_output ls) d) (subst (λ x. has_word (map latch_output ls) x ≡ true) (sym (same_word l.output k.output e)) t)))
      ∙ p)
      (next_holds u v g ls (and_parts (not (has_word (map latch_output ls) l.output)) (distinct (map latch_output ls)) d).1),
)

-- the sources of a netlist whose names are defined once
sources_once : (n : Netlist) → DefinedOnce n → distinct (sources n.frame) ≡ true
sources_once n d = distinct_left (sources n.frame) (map output_of n.tables) d.all

pub outputs_once : (n : Netlist) → DefinedOnce n → distinct (map latch_output n.frame.latches) ≡ true
outputs_once n d = distinct_right (without n.frame.inputs n.frame.clocks) (map latch_output n.frame.latches) (distinct_right n.frame.inputs (without n.frame.inputs n.frame.clocks ++ map latch_output n.frame.latches) (sources_once n d))

pub latch_is_source : (f : Frame) (x : List ℕ) → has_word (map latch_output f.latches) x ≡ true → has_word (sources f) x ≡ true
latch_is_source f x h = subst (λ (ws : List (List ℕ)). has_word ws x ≡ true) (sources_are f) (has_right (free_signals f) (map latch_output f.latches) x h)

pub free_is_source : (f : Frame) (x : List ℕ) → has_word (free_signals f) x ≡ true → has_word (sources f) x ≡ true
free_is_source f x h = subst (λ (ws : List (List ℕ)). has_word ws x ≡ true) (sources_are f) (has_left (free_signals f) (map latch_output f.latches) x h)

pub free_is_no_latch : (n : Netlist) → DefinedOnce n → (x : List ℕ) → has_word (free_signals n.frame) x ≡ true → has_word (map latch_output n.frame.latches) x ≡ false
free_is_no_latch n d x h = apart (free_signals n.frame) (map latch_output n.frame.latches) x (subst (λ (ws : List (List ℕ)). distinct ws ≡ true) (sym (sources_are n.frame)) (sources_once n d)) h

-- further steps
further : (n : Netlist) → DefinedOnce n → IsTotal n → (u v : List ℕ → Bool) (more : List (List ℕ → Bool)) → (ws : List (List ℕ → Bool)) × GoesOn n u v ws × (values_in (free_signals n.frame) ws ≡ values_in (free_signals n.frame) more)
further n d t u v [] = ([], tt, refl)
further n d t u v (g ∷ gs) =
    let given : List ℕ → Bool = next u v g n.frame.latches in
    let (w, c, e) = t given in
    let (ws, on, values) = further n d t v w gs in
    let follows = all_within (λ l. given l.output ≡ held_after u v l) (Follows u v w) n.frame.latches
    (λ k s p. each_from_map w given (sources n.frame) e k.output (latch_is_source n.frame k.output s) ∙ p) (next_holds u v g n.frame.latches (outputs_once n d)) in
    let free = map_from_each w g (free_signals n.frame) (λ x s. each_from_map w given (sources n.frame) e x (free_is_source n.frame x s) ∙ next_else u v g n.frame.latches x (free_is_no_latch n d x s)) in
    (w ∷ ws, (c, All-from_recursion (Follows u v w) n.frame.latches follows, on), ap₂ (λ (b : List Bool) (bs : List (List Bool)). b ∷ bs) free values)

pub runs_are_there : RunsAreThere
runs_are_there n given more d t b =
    let (v, c, e) = t given in
    let (ws, on, values) = further n d t before_all v more in
    let same = λ (k : Latch) (s : has_word (map latch_output n.frame.latches) k.output ≡ true). each_from_map v given (sources n.frame) e k.output (latch_is_source n.frame k.output s) in
    let began = recursion_from_All (Begins given) n.frame.latches b in
    let begins = all_within (Begins given) (Begins v) n.frame.latches (λ k s p. ap (λ (x : Bool). may_begin k.init x) (same k s) ∙ p) began in
    let alike = all_within (Begins given) (λ k. v k.output ≡ given k.output) n.frame.latches (λ k s p. same k s) began in
    let free = map_from_each v given (free_signals n.frame) (λ x s. each_from_map v given (sources n.frame) e x (free_is_source n.frame x s)) in
    (v ∷ ws, (c, All-from_recursion (Begins v) n.frame.latches begins, on), ap₂ (λ (x : List Bool) (xs : List (List Bool)). x ∷ xs) free values, All-from_recursion (λ k. v k.output ≡ given k.output) n.frame.latches alike)
