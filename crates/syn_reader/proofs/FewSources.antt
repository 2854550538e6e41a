-- A netlist by numbers has no more sources than names.
use Rattle.std.proofs.Common.{◌≡◌, ℕ, ◌≤◌, true, List, [], ◌∷◌, length, refl, ap, ◌∙◌, arith}
use Rattle.std.specs.List.{list_all}
use Rattle.std.proofs.lemmas.Bool.{and_from}
use Rattle.std.proofs.lemmas.List.{length-map}
use Rattle.syn_netlist.specs.declared.netlists.Netlist.{Netlist}
use Rattle.syn_netlist.specs.Lists.{sources}
use Rattle.syn_netlist.specs.Numbers.{all_below, word_at, words_at}
use Rattle.syn_netlist.specs.Views.{netlist_in}
use Rattle.syn_netlist.specs.Words.{has_word, distinct}
use Rattle.syn_netlist.proofs.Places.{below_parts, has_word_at}
use Rattle.syn_models.proofs.WordSets.{pigeons}

all_names : (names : List (List ℕ)) (from : List ℕ) → all_below (length names) from ≡ true → list_all (has_word names) (words_at names from) ≡ true
all_names names [] h = refl
all_names names (i ∷ is) h =
    let parts = below_parts (length names) i is h in
    and_from (has_word names (word_at names i)) (list_all (has_word names) (words_at names is)) (has_word_at names i parts.0) (all_names names is parts.1)

-- no more sources than names
pub few_sources : (n : Netlist) (from : List ℕ) → words_at n.frame.names from ≡ sources (netlist_in n).frame → all_below (length n.frame.names) from ≡ true → length from ≤ length n.frame.names
few_sources n from e h =
    let names = n.frame.names in
    let less = pigeons (words_at names from) names (ap distinct e ∙ n.frame.sources_once) (all_names names from h) in
    let size = length-map from (word_at names) in
    omega (arith, less, size)
