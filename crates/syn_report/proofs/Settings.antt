-- Settings of the sources and values from a place on, by those from the next place on.
use Rattle.std.proofs.Common.{◌≡◌, ℕ, ◌+◌, ◌<◌, ◌≤◌, ◌++◌, Bool, false, List, [], ◌∷◌, length, get_or, drop, drop-cons, add-one, refl, arith}
use Rattle.std.proofs.lemmas.List.{drop_all}
use Rattle.syn_netlist.specs.Numbers.{word_at, words_at}
use Rattle.syn_report.specs.Comparisons.{setting, settings}

pub next_setting : (names : List (List ℕ)) (numbers : List ℕ) (values : List Bool) (k : ℕ) → k < length numbers → k < length values
    → settings (words_at names (drop k numbers)) (drop k values) ≡ setting (word_at names (get_or numbers k 0)) (get_or values k false) ++ settings (words_at names (drop (k + 1) numbers)) (drop (k + 1) values)
next_setting names numbers values k there valued = rw (add-one, drop-cons numbers k 0, drop-cons values k false)

none_set : (names : List (List ℕ)) → settings names [] ≡ []
none_set [] = refl
none_set (name ∷ names) = refl

pub no_setting : (names : List (List ℕ)) (numbers : List ℕ) (values : List Bool) (k : ℕ) → length values ≤ k
    → settings (words_at names (drop k numbers)) (drop k values) ≡ settings (words_at names (drop (k + 1) numbers)) (drop (k + 1) values)
no_setting names numbers values k past =
    rw (drop_all k values past, drop_all (k + 1) values (omega arith), none_set (words_at names (drop k numbers)), none_set (words_at names (drop (k + 1) numbers)))
