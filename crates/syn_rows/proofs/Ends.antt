-- Each list of rows that refer only to rows that are there has a reached set: the walk that marks the reached nodes comes to its end.
use Rattle.std.proofs.Common.{◌≡◌, ℕ, zero, suc, ◌+◌, ◌<◌, ◌≤◌, Bool, true, false, List, [], ◌∷◌, ◌++◌, map, length, set, replicate, refl, ap, ◌∙◌, subst, arith, inl, inr, ◌⊎◌, Some, length-append}
use Rattle.std.specs.List.{sum_by}
use Rattle.std.proofs.lemmas.Bool.{cases_Bool}
use Rattle.std.proofs.lemmas.List.Elements.{All-pop}
use Rattle.syn_rows.specs.declared.Lit.{Lit}
use Rattle.syn_rows.specs.declared.Row.{Row}
use Rattle.syn_rows.specs.declared.Row.TheVariants.{Free, Source, And, Alias}
use Rattle.syn_rows.specs.Rows.{node_of, row_at, refs_of, refs_within, lits_within}
use Rattle.syn_rows.specs.Values.{value_in}
use Rattle.syn_rows.specs.Reach.{ands_in, IsReachedSet, AndsAreThere}
use Rattle.syn_rows.specs.Walk.{IsWalk, unmarked}
use Rattle.syn_rows.proofs.Walks.{marks_fall, walk_begins, walk_skip, walk_mark, walk_done}

-- a list is empty, or has a last element
by_last : (xs : List ℕ) → (xs ≡ []) ⊎ ((ys : List ℕ) × (y : ℕ) × (xs ≡ ys ++ y ∷ []))
by_last [] = inl refl
by_last (x ∷ xs) = inr (elim (by_last xs) [
  | inl e ↦ ([], x, ap (λ (l : List ℕ). x ∷ l) e)
  | inr (ys, y, e) ↦ (x ∷ ys, y, ap (λ (l : List ℕ). x ∷ l) e)
])

refs_few : (r : Row) → length (refs_of r) ≤ 2
refs_few Free = omega arith
refs_few Source = omega arith
refs_few (And a b) = omega arith
refs_few (Alias a) = omega arith

longer : (rest : List ℕ) (node : ℕ) (stack : List ℕ) → stack ≡ rest ++ node ∷ [] → length stack ≡ length rest + 1
longer rest node stack e = ap length e ∙ length-append rest (node ∷ [])

stack_inside : (rows : List Row) (observed : List Lit) (marks : List Bool) (rest : List ℕ) (node : ℕ) → IsWalk rows observed marks (rest ++ node ∷ []) → node < length rows
stack_inside rows observed marks rest node walk = (All-pop (λ m. m < length rows) (rest ++ node ∷ []) rest (Some node) refl walk.within).1

-- the walk comes to its end
walk_ends : (rows : List Row) (observed : List Lit) → refs_within rows ≡ true → (fuel : ℕ) (marks : List Bool) (stack : List ℕ)
    → IsWalk rows observed marks stack → sum_by unmarked marks + length stack ≤ fuel → (done : List Bool) × IsWalk rows observed done []
walk_ends rows observed within zero marks stack walk enough = elim (by_last stack) [
  | inl e ↦ (marks, subst (IsWalk rows observed marks) e walk)
  | inr (rest, node, e) ↦ absurd (omega (arith, enough, longer rest node stack e))
]
walk_ends rows observed within (suc less) marks stack walk enough = elim (by_last stack) [
  | inl e ↦ (marks, subst (IsWalk rows observed marks) e walk)
  | inr (rest, node, e) ↦
      let here : IsWalk rows observed marks (rest ++ node ∷ []) = subst (IsWalk rows observed marks) e walk in
      let inside = stack_inside rows observed marks rest node here in
      let long = longer rest node stack e in
      elim (cases_Bool (value_in marks node)) [
        | inl marked ↦ walk_ends rows observed within less marks rest (walk_skip rows observed marks rest node here marked) (omega (arith, enough, long))
        | inr fresh ↦ walk_ends rows observed within less (set marks node true) (rest ++ refs_of (row_at rows node)) (walk_mark rows observed marks rest node here inside within)
            (omega (arith, enough, long, length-append rest (refs_of (row_at rows node)), refs_few (row_at rows node), marks_fall marks node (omega (arith, here.count, inside)) fresh))
      ]
]

pub reached_set : (rows : List Row) (observed : List Lit) → refs_within rows ≡ true → lits_within rows observed ≡ true → (s : ℕ → Bool) × IsReachedSet rows observed s
reached_set rows observed within lits =
    let start = replicate (length rows) false in
    let nodes = map node_of observed in
    let found = walk_ends rows observed within (sum_by unmarked start + length nodes) start nodes (walk_begins rows observed lits) (omega arith) in
    (value_in found.0, walk_done rows observed found.0 found.1)

pub ands_are_there : AndsAreThere
ands_are_there rows observed within lits = let found = reached_set rows observed within lits in (ands_in found.0 rows, (found.0, found.1, refl))
