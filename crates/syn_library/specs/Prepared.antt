-- Lists of plans by class.
use Rattle.std.specs.Prelude.{◌≡◌, ℕ, ◌<◌, List, map, slice_index_or}
use Rattle.syn_npn.specs.Keys.{class_of}
use Rattle.syn_library.specs.declared.class_plans.ClassPlans.{ClassPlans}

-- the class of the list at the place that is noted for a class; 65536 is none
abbrev pub class_found : List ClassPlans → List ℕ → ℕ → ℕ
class_found lists places class = slice_index_or (map (λ p. p.class) lists) (slice_index_or places class 0) 65536

-- the list of each of the first so many functions' classes is found
abbrev pub AreFound : ℕ → List ClassPlans → List ℕ → Type 0
AreFound count lists places = (function : ℕ) → function < count → class_found lists places (class_of function) ≡ class_of function
