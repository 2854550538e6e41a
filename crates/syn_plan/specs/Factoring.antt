-- Factoring: a function is put together from its two cofactors by a variable. A function of n variables
-- is given here by its value at each list of n values.
use Rattle.std.specs.Prelude.{◌≡◌, ℕ, zero, suc, ◌+◌, ◌-◌, ◌*◌, ◌^◌, ◌<◌, ◌==◌, ◌&&◌, if◌then◌else◌, nat_lt, not, Bool, true, false, List, [], ◌∷◌, ◌++◌, length, slice_set}
use Rattle.std.specs.Bool.{beq}
use Rattle.std.specs.List.{list_any, list_all}
use Rattle.syn_truth.specs.Truth.{AtEach, holds_at_each}
use Rattle.syn_plan.specs.declared.PLit.{PLit}
use Rattle.syn_plan.specs.declared.factors.Split.{Split}
use Rattle.syn_plan.specs.declared.factors.Split.TheVariants.{Plain, Complemented, AndHigh, AndLow, OrLow, OrHigh, Exclusive, Choice}
use Rattle.syn_plan.specs.Gates.{literal_of, complement_of, literal_value, values_after}

-- the function with variable i set to v
abbrev pub cofactor_of : (List Bool → Bool) → ℕ → Bool → List Bool → Bool
cofactor_of f i v xs = f (slice_set xs i v)

-- f has the value v everywhere
abbrev pub is_constant : ℕ → (List Bool → Bool) → Bool → Bool
is_constant n f v = holds_at_each n (λ xs. beq (f xs) v)

-- f is everywhere the complement of g
abbrev pub is_complement : ℕ → (List Bool → Bool) → (List Bool → Bool) → Bool
is_complement n f g = holds_at_each n (λ xs. beq (f xs) (not (g xs)))

-- f depends on variable i: its two cofactors differ somewhere
abbrev pub depends_on : ℕ → (List Bool → Bool) → ℕ → Bool
depends_on n f i = not (holds_at_each n (λ xs. beq (cofactor_of f i true xs) (cofactor_of f i false xs)))

-- The case of a variable x with the cofactors low, where x is false, and high, where it is true: the first that fits.
abbrev pub split_of : ℕ → (List Bool → Bool) → (List Bool → Bool) → Split
split_of n low high =
    if is_constant n low false && is_constant n high true then Plain
    else if is_constant n low true && is_constant n high false then Complemented
    else if is_constant n low false then AndHigh
    else if is_constant n high false then AndLow
    else if is_constant n low true then OrLow
    else if is_constant n high true then OrHigh
    else if is_complement n low high then Exclusive
    else Choice

-- gates, and the literal of what they build
pub record Built : Type 0 where
  pub gates : List (PLit × PLit)
  pub out : PLit

-- one gate more, the AND of two literals, in a plan of n leaves
abbrev pub with_gate : ℕ → List (PLit × PLit) → PLit → PLit → Built
with_gate n gates a b = record { gates = gates ++ (a, b) ∷ []; out = literal_of (1 + n + length gates) }

abbrev pub complemented : Built → Built
complemented b = record { gates = b.gates; out = complement_of b.out }

-- three gates more: !(!(x & high) & !(!x & low))
abbrev pub with_third : ℕ → Built → Built → Built
with_third n first second = complemented (with_gate n second.gates (complement_of first.out) (complement_of second.out))

abbrev pub with_second : ℕ → Built → PLit → PLit → Built
with_second n first x low = with_third n first (with_gate n first.gates (complement_of x) low)

abbrev pub with_choice : ℕ → List (PLit × PLit) → PLit → PLit → PLit → Built
with_choice n gates x high low = with_second n (with_gate n gates x high) x low

-- What a case builds with the literal x of its variable, after the gates that build the cofactors. Those of low come first.
abbrev pub joined : ℕ → Split → PLit → (List (PLit × PLit) → Built) → (List (PLit × PLit) → Built) → List (PLit × PLit) → Built
joined n Plain x low high gates = record { gates = gates; out = x }
joined n Complemented x low high gates = record { gates = gates; out = complement_of x }
joined n AndHigh x low high gates = with_gate n (high gates).gates x (high gates).out
joined n AndLow x low high gates = with_gate n (low gates).gates (complement_of x) (low gates).out
joined n OrLow x low high gates = complemented (with_gate n (high gates).gates x (complement_of (high gates).out))
joined n OrHigh x low high gates = complemented (with_gate n (low gates).gates (complement_of x) (complement_of (low gates).out))
joined n Exclusive x low high gates = with_choice n (low gates).gates x (complement_of (low gates).out) (low gates).out
joined n Choice x low high gates = with_choice n (high (low gates).gates).gates x (high (low gates).gates).out (low gates).out

-- Factoring f by the variables of an order, after the gates that are there: by the first variable on which f depends,
-- and then its cofactors by the rest. Where none is left, f is constant.
unfoldable pub factored_after : ℕ → List ℕ → (List Bool → Bool) → List (PLit × PLit) → Built
factored_after n [] f gates = record { gates = gates; out = record { 0 = if is_constant n f true then 1 else 0 } }
factored_after n (x ∷ order) f gates =
    if depends_on n f x
    then joined n (split_of n (cofactor_of f x false) (cofactor_of f x true)) (literal_of (1 + x))
    (factored_after n order (cofactor_of f x false)) (factored_after n order (cofactor_of f x true)) gates
    else factored_after n order f gates

-- the same where x is the next variable, and f depends on it
abbrev pub joined_at : ℕ → ℕ → List ℕ → (List Bool → Bool) → List (PLit × PLit) → Built
joined_at n x order f gates =
    joined n (split_of n (cofactor_of f x false) (cofactor_of f x true)) (literal_of (1 + x))
    (factored_after n order (cofactor_of f x false)) (factored_after n order (cofactor_of f x true)) gates

-- factoring f in an order
abbrev pub factored : ℕ → List ℕ → (List Bool → Bool) → Built
factored n order f = factored_after n order f []

-- the order names each of n variables once
abbrev pub names_each : ℕ → List ℕ → Bool
names_each zero order = true
names_each (suc i) order = list_any (λ x. x == i) order && names_each i order

abbrev pub names_once : ℕ → List ℕ → Bool
names_once n order = (length order == n) && list_all (λ i. nat_lt i n) order && names_each n order

-- the order from the highest variable down
abbrev pub falling : ℕ → List ℕ
falling zero = []
falling (suc i) = i ∷ falling i

-- the most gates that factoring a function of n variables takes
abbrev pub most_gates : ℕ → ℕ
most_gates n = 3 * 2 ^ (n - 1) - 3

-- f depends on no variable below n that the order does not name
abbrev pub Covers : ℕ → List ℕ → (List Bool → Bool) → Type 0
Covers n order f = (i : ℕ) → i < n → depends_on n f i ≡ true → list_any (λ x. x == i) order ≡ true

-- the value of what is built where the leaves have these values
abbrev pub built_truth : Built → List Bool → Bool
built_truth b xs = literal_value (values_after (false ∷ xs) b.gates) b.out

-- Factoring a function, in any order that names each variable once, builds that function.
abbrev pub FactoredTruth : Type 0
FactoredTruth = (n : ℕ) (order : List ℕ) (f : List Bool → Bool) → names_once n order ≡ true → AtEach n (λ xs. built_truth (factored n order f) xs ≡ f xs)
