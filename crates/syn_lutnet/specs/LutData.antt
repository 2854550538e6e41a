-- LUTs and nets of them as data, without names: signal 0 is the constant 0, then come the sources, then LUTs, each of which reads smaller signals.
use Rattle.std.specs.Prelude.{◌≡◌, ℕ, suc, ◌+◌, ◌^◌, ◌<◌, ◌==◌, ◌&&◌, max, nat_le, nat_lt, Bool, true, false, All, List, [], ◌∷◌, ◌++◌, length, map, filter, sum_by, slice_index_or, replicate}
use Rattle.std.specs.List.{list_any, list_all}
use Rattle.syn_rows.specs.declared.Lit.{Lit}
use Rattle.syn_rows.specs.Rows.{node_of}
use Rattle.syn_rows.specs.Values.{lit_value, value_in}
use Rattle.syn_rows.specs.Reach.{HasObserved}
use Rattle.syn_lists.specs.Numbers.{distinct_numbers, numbers_from}
use Rattle.syn_truth.specs.declared.Truth.{Truth}
use Rattle.syn_truth.specs.Truth.{AtEach, minterm_of, value_at, value_of}
use Rattle.syn_plan.specs.Factoring.{factored, falling}

-- A LUT: the signals that it reads, and the minterms at which it is true. Bit j of a minterm is the value of input j.
pub record Lut : Type 0 where
  pub inputs : List ℕ
  pub ones : List ℕ

-- the number is in the list
abbrev pub has_one : List ℕ → ℕ → Bool
has_one ones m = list_any (λ one. one == m) ones

-- the function with these minterms, at a list of values of its variables, variable 0 first
abbrev pub ones_value : List ℕ → List Bool → Bool
ones_value ones xs = has_one ones (minterm_of xs)

-- what a LUT gives where the signals have these values
abbrev pub lut_value : (ℕ → Bool) → Lut → Bool
lut_value v l = ones_value l.ones (map v l.inputs)

-- LUT by LUT: what the step computes for each from what was computed for the signals before it, put behind what is done; d stands for signals not yet done
abbrev pub fold_luts : {A : Type 0} → ((ℕ → A) → Lut → A) → A → List A → List Lut → List A
fold_luts step d done [] = done
fold_luts step d done (l ∷ ls) = fold_luts step d (done ++ step (λ n. slice_index_or done n d) l ∷ []) ls

-- the values of all signals where the sources have these
abbrev pub signal_values : List Bool → List Lut → List Bool
signal_values bits luts = fold_luts lut_value false (false ∷ bits) luts

-- a LUT net as a function from the values of the sources to those of the observed literals
abbrev pub luts_function : List Lut → List Lit → List Bool → List Bool
luts_function luts lits bits = map (lit_value (value_in (signal_values bits luts))) lits

-- the greatest value of f on a list, 0 on none
abbrev pub greatest : (ℕ → ℕ) → List ℕ → ℕ
greatest f [] = 0
greatest f (x ∷ xs) = max (f x) (greatest f xs)

-- a LUT lies one deeper than the deepest signal that it reads
abbrev pub lut_depth : (ℕ → ℕ) → Lut → ℕ
lut_depth depth l = greatest depth l.inputs + 1

-- the depths of all signals; those of the constant and of the sources, of which there are so many, are 0
abbrev pub signal_depths : ℕ → List Lut → List ℕ
signal_depths count luts = fold_luts lut_depth 0 (replicate (suc count) 0) luts

-- a list of numbers as a function of the place
abbrev pub depth_in : List ℕ → ℕ → ℕ
depth_in depths n = slice_index_or depths n 0

-- the depth of a net: that of its deepest signal
abbrev pub net_depth : ℕ → List Lut → ℕ
net_depth count luts = greatest (λ d. d) (signal_depths count luts)

-- the gates of factoring a LUT's function, from its highest input down
abbrev pub lut_gates : Lut → ℕ
lut_gates l = length (factored (length l.inputs) (falling (length l.inputs)) (ones_value l.ones)).gates

-- those of all LUTs
abbrev pub net_gates : List Lut → ℕ
net_gates luts = sum_by lut_gates luts

-- the minterms of a table, rising
abbrev pub ones_of : Truth → List ℕ
ones_of t = filter (value_at t) (numbers_from 0 (2 ^ t.vars))

-- the numbers rise
abbrev pub rising : List ℕ → Bool
rising [] = true
rising (n ∷ ns) = list_all (nat_lt n) ns && rising ns

-- a signal that a LUT may read: below n, and not the constant
abbrev pub is_input : ℕ → ℕ → Bool
is_input n i = nat_le 1 i && nat_lt i n

-- the LUT of signal n: two or more different inputs, smaller signals and none the constant, and rising minterms of so many variables
abbrev pub is_lut : ℕ → Lut → Bool
is_lut n l = nat_le 2 (length l.inputs) && (distinct_numbers l.inputs && (list_all (is_input n) l.inputs && (rising l.ones && list_all (λ m. nat_lt m (2 ^ length l.inputs)) l.ones)))

-- the LUT of no signal
abbrev pub no_lut : Lut
no_lut = record { inputs = []; ones = [] }

abbrev pub lut_at : List Lut → ℕ → Lut
lut_at luts j = slice_index_or luts j no_lut

-- the set has with the signal of each LUT, the first of which is `first`, the signals that it reads
abbrev pub IsClosed : ℕ → List Lut → (ℕ → Bool) → Type 0
IsClosed first luts set = (j : ℕ) → j < length luts → set (first + j) ≡ true → All (λ m. set m ≡ true) (lut_at luts j).inputs

-- a signal is reached: every closed set that has the observed signals has it
abbrev pub Reached : ℕ → List Lut → List Lit → ℕ → Type 0
Reached first luts lits n = (set : ℕ → Bool) → IsClosed first luts set → HasObserved lits set → set n ≡ true

-- LUTs and observed literals are a LUT net over so many sources: each LUT is one of its signal, literals of signals that are there, and every LUT is reached.
pub record IsLutNet (count : ℕ) (luts : List Lut) (lits : List Lit) : Type 0 where
  pub luts_fit : (j : ℕ) → j < length luts → is_lut (count + 1 + j) (lut_at luts j) ≡ true
  pub within : All (λ l. node_of l < count + 1 + length luts) lits
  pub reached : (j : ℕ) → j < length luts → Reached (count + 1) luts lits (count + 1 + j)

-- no LUT has more than k inputs
abbrev pub none_exceeds : ℕ → List Lut → Bool
none_exceeds k luts = list_all (λ l. nat_le (length l.inputs) k) luts

-- The minterms of a table rise, are of its variables, and give its function.
pub record AreOnesOf (t : Truth) (ones : List ℕ) : Type 0 where
  pub rise : rising ones ≡ true
  pub small : list_all (λ m. nat_lt m (2 ^ t.vars)) ones ≡ true
  pub values : AtEach t.vars (λ xs. ones_value ones xs ≡ value_of t xs)

abbrev pub OnesGiveTable : Type 0
OnesGiveTable = (t : Truth) → AreOnesOf t (ones_of t)

-- Where every LUT is reached, the depth of the net is that of its deepest observed signal.
abbrev pub DeepestIsObserved : Type 0
DeepestIsObserved = (count : ℕ) (luts : List Lut) (lits : List Lit) → IsLutNet count luts lits → net_depth count luts ≡ greatest (depth_in (signal_depths count luts)) (map node_of lits)
