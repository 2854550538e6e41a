-- A number with more digits behind it is no smaller.
use Rattle.std.proofs.Common.{◌≡◌, ℕ, ◌+◌, ◌-◌, ◌*◌, ◌^◌, ◌<◌, ◌≤◌, List, [], ◌∷◌, length, drop, get_or, ap, arith}
use Rattle.std.proofs.lemmas.List.{drop_more}
use Rattle.syn_words.specs.Numbers.{number_after, number_of}

pub number_after-ge : (n : ℕ) (ds : List ℕ) → n ≤ number_after n ds
number_after-ge n [] = omega arith
number_after-ge n (d ∷ ds) = omega (arith, number_after-ge (n * 10 + (d - 48)) ds)

-- a number that has more than 64 bits with its next digit has so with all of them
pub too_great : (n i : ℕ) (ds : List ℕ) → i < length ds → number_after n (drop i ds) ≡ number_of ds → 2 ^ 64 ≤ n * 10 + (get_or ds i 0 - 48) → 2 ^ 64 ≤ number_of ds
too_great n i ds lt is great =
    let next : number_after n (drop i ds) ≡ number_after (n * 10 + (get_or ds i 0 - 48)) (drop (i + 1) ds) = ap (number_after n) (drop_more ds i 0 lt) in
    omega (arith, next, is, great, number_after-ge (n * 10 + (get_or ds i 0 - 48)) (drop (i + 1) ds))
