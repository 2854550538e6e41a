-- How many literals follow one behind the other.
use Rattle.std.proofs.Common.{◌≡◌, ℕ, zero, suc, ◌+◌, List, length, refl, ap, sym, ◌∙◌}
use Rattle.syn_aiger_files.specs.Literals.{literals_from}

pub literals_count : (variable count : ℕ) → length (literals_from variable count) ≡ count
literals_count variable zero = refl
literals_count variable (suc count) = ap suc (literals_count (variable + 1) count)

pub as_many : (l : List ℕ) (count : ℕ) → l ≡ literals_from 1 count → l ≡ literals_from 1 (length l)
as_many l count e = e ∙ ap (literals_from 1) (sym (ap length e ∙ literals_count 1 count))
