-- The listed cuts of nodes. A cut is the rising list of its leaves (Mishchenko, Chatterjee and Brayton, DAC 2006, section 2; which cuts are listed, and their order, is this project's choice).
use Rattle.std.specs.Prelude.{ℕ, nat_lt, nat_le, ◌==◌, ◌&&◌, ◌||◌, if◌then◌else◌, Bool, false, List, [], ◌∷◌, ◌++◌, length, map, flat_map, filter, take, bytes_eq}
use Rattle.syn_rows.specs.declared.Row.{Row}
use Rattle.syn_rows.specs.declared.Row.TheVariants.{Free, Source, And, Alias}
use Rattle.syn_rows.specs.Rows.{node_of, fold_rows}

-- x among a rising list: the smaller nodes, x once, and then what `rest` makes of those that are left
abbrev pub among : ℕ → (List ℕ → List ℕ) → List ℕ → List ℕ
among x rest [] = x ∷ rest []
among x rest (y ∷ ys) = if nat_lt x y then x ∷ rest (y ∷ ys) else if x == y then x ∷ rest ys else y ∷ among x rest ys

-- the union of two rising lists, rising
abbrev pub union : List ℕ → List ℕ → List ℕ
union [] ys = ys
union (x ∷ xs) ys = among x (union xs) ys

-- the leaves compared in order: the first that differ decide
abbrev pub leaves_before : List ℕ → List ℕ → Bool
leaves_before [] ys = false
leaves_before (x ∷ xs) [] = false
leaves_before (x ∷ xs) (y ∷ ys) = nat_lt x y || (x == y && leaves_before xs ys)

-- a cut comes before another: by its size, and then by its leaves
abbrev pub comes_before : List ℕ → List ℕ → Bool
comes_before c d = nat_lt (length c) (length d) || (length c == length d && leaves_before c d)

-- a cut put in its place among cuts in order, where it isn't there yet
abbrev pub put : List ℕ → List (List ℕ) → List (List ℕ)
put c [] = c ∷ []
put c (d ∷ ds) = if comes_before c d then c ∷ d ∷ ds else if bytes_eq c d then d ∷ ds else d ∷ put c ds

-- the cuts in order, each once, put one after the other among those that are done
abbrev pub arranged : List (List ℕ) → List (List ℕ) → List (List ℕ)
arranged done [] = done
arranged done (c ∷ cs) = arranged (put c done) cs

-- a cut of at most k leaves
abbrev pub is_small : ℕ → List ℕ → Bool
is_small k c = nat_le (length c) k

-- the unions of a cut with each cut of a list, those with at most k leaves
abbrev pub unions_with : ℕ → List ℕ → List (List ℕ) → List (List ℕ)
unions_with k c ds = filter (is_small k) (map (union c) ds)

-- the unions of each cut of a list with each cut of another
abbrev pub unions : ℕ → List (List ℕ) → List (List ℕ) → List (List ℕ)
unions k cs ds = flat_map (λ c. unions_with k c ds) cs

-- the first 31 of these unions, in order and each once
abbrev pub merge_cut_sets : ℕ → List (List ℕ) → List (List ℕ) → List (List ℕ)
merge_cut_sets k cs ds = take 31 (arranged [] (unions k cs ds))

-- The listed cuts of a node, from those of the nodes that its row refers to: of an AND the first unions of a cut of each of the two, and then the node alone; of a source the node alone.
abbrev pub row_cuts : ℕ → (ℕ → List (List ℕ)) → ℕ → Row → List (List ℕ)
row_cuts k cuts n Free = (n ∷ []) ∷ []
row_cuts k cuts n Source = (n ∷ []) ∷ []
row_cuts k cuts n (And a b) = merge_cut_sets k (cuts (node_of a)) (cuts (node_of b)) ++ (n ∷ []) ∷ []
row_cuts k cuts n (Alias a) = (n ∷ []) ∷ []

-- the listed cuts of each node with at most k leaves, row by row in order
abbrev pub listed_cuts : ℕ → List Row → List (List (List ℕ))
listed_cuts k rows = fold_rows (row_cuts k) [] [] rows
