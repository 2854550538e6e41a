-- The order that the check of netlists gives has each model below those that it contains.
use Rattle.std.proofs.Common.{◌≡◌, ℕ, zero, suc, ◌<◌, ◌&&◌, nat_lt, not, true, false, List, [], ◌∷◌, ◌++◌, map, length, slice_index_or, refl, sym, ap, ◌∙◌, subst, append_assoc}
use Rattle.std.specs.List.{list_all}
use Rattle.std.proofs.lemmas.Bool.{and_parts, and_from, both_ways, not_from_false, false_from_ne_true, ltb-true}
use Rattle.std.proofs.lemmas.List.{map-append, length-map}
use Rattle.syn_netlist.specs.Words.{has_word, distinct}
use Rattle.syn_netlist.specs.Lists.{Table, output_of}
use Rattle.syn_netlist.specs.Order.{reads_known}
use Rattle.syn_netlist.specs.Numbers.{word_at, words_at, all_below}
use Rattle.syn_lists.specs.Numbers.{has_number}
use Rattle.syn_netlist.specs.Faults.{no_table}
use Rattle.syn_netlist.proofs.Sets.{apart, has_head}
use Rattle.syn_netlist.proofs.Places.{has_words}
use Rattle.syn_models.specs.Models.{name_of, Model, all_of}
use Rattle.syn_models.specs.FlatFaults.{contents}
use Rattle.syn_models.specs.Numbered.{inner_at, contains_before, ContainsByNumbers, OrderServesTotals}

pub output_is : (ms : List Model) (t : ℕ) → (slice_index_or (map contents ms) t no_table).output ≡ word_at (map name_of ms) t
output_is [] t = refl
output_is (m ∷ ms) zero = refl
output_is (m ∷ ms) (suc t) = output_is ms t

numbers_known : (names : List (List ℕ)) (before xs : List ℕ) → distinct names ≡ true → all_below (length names) before ≡ true → all_below (length names) xs ≡ true
    → list_all (has_word (words_at names before)) (words_at names xs) ≡ true → list_all (has_number before) xs ≡ true
numbers_known names before [] d b h a = refl
numbers_known names before (x ∷ xs) d b h a =
    let below = and_parts (nat_lt x (length names)) (all_below (length names) xs) h in
    let parts = and_parts (has_word (words_at names before) (word_at names x)) (list_all (has_word (words_at names before)) (words_at names xs)) a in
    and_from (has_number before x) (list_all (has_number before) xs) (sym (has_words names before x d b (ltb-true x (length names) below.0)) ∙ parts.0) (numbers_known names before xs d b below.1 parts.1)

push_below : (count : ℕ) (xs : List ℕ) (n : ℕ) → all_below count xs ≡ true → nat_lt n count ≡ true → all_below count (xs ++ n ∷ []) ≡ true
push_below count [] n h l = and_from (nat_lt n count) true l refl
push_below count (x ∷ xs) n h l = let parts = and_parts (nat_lt x count) (all_below count xs) h in and_from (nat_lt x count) (all_below count (xs ++ n ∷ [])) parts.0 (push_below count xs n parts.1 l)

before_from : (ms : List Model) (inner : List (List ℕ)) → distinct (map name_of ms) ≡ true → ContainsByNumbers ms inner → (before order : List ℕ) → all_below (length ms) before ≡ true → all_below (length ms) order ≡ true
    → reads_known (words_at (map name_of ms) before) (map (λ t. slice_index_or (map contents ms) t no_table) order) ≡ true
    → distinct (words_at (map name_of ms) before ++ map output_of (map (λ t. slice_index_or (map contents ms) t no_table) order)) ≡ true → contains_before inner before order ≡ true
before_from ms inner d numbers before [] b o r once = refl
before_from ms inner d numbers before (t ∷ ts) b o r once =
    let names : List (List ℕ) = map name_of ms in
    let table : Table = slice_index_or (map contents ms) t no_table in
    let rest : List Table = map (λ t. slice_index_or (map contents ms) t no_table) ts in
    let count : length names ≡ length ms = length-map ms name_of in
    let below = and_parts (nat_lt t (length ms)) (all_below (length ms) ts) o in
    let there : t < length ms = ltb-true t (length ms) below.0 in
    let parts = and_parts (list_all (has_word (words_at names before)) table.inputs) (reads_known (words_at names before ++ table.output ∷ []) rest) r in
    let b_names : all_below (length names) before ≡ true = ap (λ (n : ℕ). all_below n before) count ∙ b in
    let known : list_all (has_number before) (inner_at inner t) ≡ true = numbers_known names before (inner_at inner t) d b_names (ap (λ (n : ℕ). all_below n (inner_at inner t)) count ∙ numbers.below t there)
    (ap (list_all (has_word (words_at names before))) (numbers.named t there) ∙ parts.0) in
    let apart_names : has_word (words_at names before) table.output ≡ false = false_from_ne_true (has_word (words_at names before) table.output) (λ h. both_ways (has_word (table.output ∷ map output_of rest) table.output) (apart (words_at names before) (table.output ∷ map output_of rest) table.output once h) (has_head table.output (map output_of rest))) in
    let fresh : has_number before t ≡ false = sym (has_words names before t d b_names (subst (λ (n : ℕ). t < n) (sym count) there)) ∙ ap (has_word (words_at names before)) (sym (output_is ms t)) ∙ apart_names in
    let more : words_at names (before ++ t ∷ []) ≡ words_at names before ++ table.output ∷ [] = map-append (word_at names) before (t ∷ []) ∙ ap (λ (w : List ℕ). words_at names before ++ w ∷ []) (sym (output_is ms t)) in
    and_from (list_all (has_number before) (inner_at inner t)) (not (has_number before t) && contains_before inner (before ++ t ∷ []) ts) known
    (and_from (not (has_number before t)) (contains_before inner (before ++ t ∷ []) ts) (not_from_false (has_number before t) fresh)
    (before_from ms inner d numbers (before ++ t ∷ []) ts (push_below (length ms) before t b below.0) below.1
    (subst (λ (l : List (List ℕ)). reads_known l rest ≡ true) (sym more) parts.1)
    (subst (λ (l : List (List ℕ)). distinct (l ++ map output_of rest) ≡ true) (sym more) (ap distinct (append_assoc (words_at names before) (table.output ∷ []) (map output_of rest)) ∙ once))))

pub order_serves_totals : OrderServesTotals
order_serves_totals models inner order d numbers puts =
    before_from (all_of models) inner d numbers [] order refl (subst (λ (n : ℕ). all_below n order ≡ true) (length-map (all_of models) contents) puts.below) puts.ordered.ordered.above puts.ordered.ordered.once.all
