-- Distinct outputs are at most as many as the names.
use Rattle.std.proofs.Common.{◌≡◌, ℕ, ◌<◌, ◌≤◌, not, eqb, true, false, List, [], ◌∷◌, length, map, bytes_eq, refl, sym, ap, ◌∙◌, subst, inl, inr}
use Rattle.std.specs.List.{list_any, AllByRecursion, IsDistinct}
use Rattle.std.proofs.lemmas.Bool.{and_parts, or_cases, or_parts, both_ways, not-true}
use Rattle.std.proofs.lemmas.Bool.Decides.{eqb_tells}
use Rattle.std.proofs.lemmas.List.{length-map}
use Rattle.std.proofs.lemmas.Map.Keys.{IsDistinct-cons}
use Rattle.std.proofs.lemmas.Map.Steps.{length-le_from_distinct_below}
use Rattle.syn_netlist.specs.declared.netlists.Netlist.{Netlist}
use Rattle.syn_netlist.specs.Lists.{output_of, sources}
use Rattle.syn_netlist.specs.Numbers.{word_at, words_at, all_below}
use Rattle.syn_netlist.specs.Views.{netlist_in}
use Rattle.syn_netlist.specs.Walk.{table_output}
use Rattle.syn_netlist.specs.Words.{has_word, distinct}
use Rattle.syn_netlist.proofs.Firsts.{table_outputs_below}
use Rattle.syn_netlist.proofs.Places.{below_parts}
use Rattle.syn_netlist.proofs.Sets.{word_same, distinct_right}
use Rattle.syn_netlist.proofs.Undriven.{words_at-table_outputs}

none_distinct : IsDistinct eqb []
unfolding IsDistinct
none_distinct = tt

numbers_distinct : (names : List (List ℕ)) (ns : List ℕ) → distinct (words_at names ns) ≡ true → IsDistinct eqb ns
numbers_distinct names [] h = none_distinct
numbers_distinct names (n ∷ ns) h =
    let parts = and_parts (not (has_word (words_at names ns) (word_at names n))) (distinct (words_at names ns)) h in
    IsDistinct-cons eqb n ns (others ns (not-true (has_word (words_at names ns) (word_at names n)) parts.0)) (numbers_distinct names ns parts.1)
  where
    others : (xs : List ℕ) → has_word (words_at names xs) (word_at names n) ≡ false → AllByRecursion (λ y. eqb n y ≡ false) xs
    others [] h = tt
    others (x ∷ xs) h =
        let parts = or_parts (bytes_eq (word_at names x) (word_at names n)) (has_word (words_at names xs) (word_at names n)) h in (
          elim (eqb_tells n x) [
            | inl (t, e) ↦ absurd (both_ways (bytes_eq (word_at names x) (word_at names n)) parts.0 (ap (λ k. bytes_eq (word_at names x) (word_at names k)) e ∙ word_same (word_at names x)))
            | inr (t, e) ↦ t
          ],
          others xs parts.1,
        )

below_any : (count : ℕ) (ns : List ℕ) (q : ℕ) → all_below count ns ≡ true → list_any (eqb q) ns ≡ true → q < count
below_any count [] q b h = absurd (both_ways false refl h)
below_any count (n ∷ ns) q b h =
    let (lt, rest) = below_parts count n ns b in
    elim (or_cases (eqb q n) (list_any (eqb q) ns) h) [
      | inl e ↦ elim (eqb_tells q n) [ inl (t, f) ↦ subst (λ k. k < count) (sym f) lt | inr (t, f) ↦ absurd (both_ways (eqb q n) t e) ]
      | inr r ↦ below_any count ns q rest r
    ]

pub few_tables : (n : Netlist) → length n.tables ≤ length n.frame.names
few_tables n =
    let outputs : List ℕ = map table_output n.tables in
    let names : List (List ℕ) = n.frame.names in
    let once : distinct (words_at names outputs) ≡ true = ap distinct (words_at-table_outputs names n.tables) ∙ distinct_right (sources (netlist_in n).frame) (map output_of (netlist_in n).tables) n.once in
    let few : length outputs ≤ length names = length-le_from_distinct_below outputs (length names) (numbers_distinct names outputs once) (λ q h. below_any (length names) outputs q (table_outputs_below (length names) n.tables n.tables_below) h) in
    subst (λ k. k ≤ length names) (length-map n.tables table_output) few
