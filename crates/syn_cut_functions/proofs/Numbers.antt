-- The table of a node over a cut has the node's function as its number.
use Rattle.std.proofs.Common.{◌≡◌, ℕ, ◌<◌, ◌≤◌, ◌==◌, Bool, length, take, refl, sym, ap, ◌∙◌, arith}
use Rattle.std.proofs.lemmas.Bool.{eqb-true}
use Rattle.std.proofs.lemmas.List.{length-take-le}
use Rattle.syn_rows.specs.Values.{value_in}
use Rattle.syn_truth.specs.Truth.{minterm_of, value_of}
use Rattle.syn_npn.specs.Images.{number_of, value_at}
use Rattle.syn_npn.proofs.Computed.{every_at}
use Rattle.syn_npn.proofs.Numbers.{number_of-lt, same_from_values, value_at-number_of}
use Rattle.syn_cones.specs.Values.{values_over}
use Rattle.syn_cones.proofs.Valued.{truth_is_value_over}
use Rattle.syn_cut_functions.specs.Functions.{bits_of, cut_function}
use Rattle.syn_cut_functions.specs.Laws.{FunctionOfTable}

-- the values at a minterm give that minterm

minterm_of_bits : (m : ℕ) → m < 16 → minterm_of (bits_of m) ≡ m
minterm_of_bits m lt = eqb-true (minterm_of (bits_of m)) m (every_at 16 (λ k. minterm_of (bits_of k) == k) refl m lt)

taken : (k : ℕ) (m : ℕ) → k ≤ 4 → length (take k (bits_of m)) ≡ k
taken k m le = length-take-le k (bits_of m) le

pub function_of_table : FunctionOfTable
unfolding cut_function
function_of_table rows leaves node f order inside rise below over =
    same_from_values f (number_of 16 test) over.within (number_of-lt 16 test)
    (λ m lt. value m lt ∙ sym (value_at-number_of 16 test m lt))
  where
    test : ℕ → Bool
    test = λ m. value_in (values_over rows leaves (take (length leaves) (bits_of m))) node

    value : (m : ℕ) → m < 16 → value_at f m ≡ test m
    value m lt =
        let few : length leaves ≤ 4 = let le = over.few in let same = over.truth.vars in omega arith in
        ap (value_at f) (sym (minterm_of_bits m lt))
        ∙ over.values (bits_of m) refl
        ∙ ap (λ k. value_of over.table (take k (bits_of m))) over.truth.vars
        ∙ sym (truth_is_value_over rows leaves node over.table order inside rise below over.truth (take (length leaves) (bits_of m)) (taken (length leaves) m few))
