-- The cuts of a node, one at a time.
use Rattle.std.proofs.Common.{◌≡◌, ℕ, ◌+◌, ◌<◌, All, List, ◌∷◌, [], ◌++◌, length, get_or, take, sym, ap, ◌∙◌, subst, arith}
use Rattle.std.proofs.Math.ListN.{get_or-map}
use Rattle.std.proofs.lemmas.List.{length-map, take_more}
use Rattle.std.proofs.lemmas.Slice.Zip.{all_zipped_more}
use Rattle.arrayvec.specs.ArrayVec.{ArrayVec}
use Rattle.syn_rows.specs.declared.Row.{Row}
use Rattle.syn_cuts.specs.Leaves.{leaves, leaves_of}
use Rattle.syn_cut_functions.specs.Functions.{AreFunctionsOver, IsFunctionOver}
use Rattle.syn_cut_functions.specs.Cuts.{AreLeavesOf}

-- a cut of the list
pub leaves_is : (cuts : List (ArrayVec ℕ)) (i : ℕ) (cut : ArrayVec ℕ) → cut ≡ get_or cuts i cut → cut.items ≡ get_or (leaves_of cuts) i cut.items
leaves_is cuts i cut is = ap leaves is ∙ sym (get_or-map leaves cuts i cut)

pub leaves_at : (rows : List Row) (node : ℕ) (cuts : List (ArrayVec ℕ)) (i : ℕ) (cut : ArrayVec ℕ) → All (AreLeavesOf rows node) (leaves_of cuts) → i < length cuts → cut ≡ get_or cuts i cut → AreLeavesOf rows node cut.items
leaves_at rows node cuts i cut all lt is =
    subst (AreLeavesOf rows node) (sym (leaves_is cuts i cut is)) (all i cut.items (omega (arith, length-map cuts leaves)))

-- one more function
pub more_functions : (rows : List Row) (node : ℕ) (cuts : List (ArrayVec ℕ)) (functions : List ℕ) (i f : ℕ) (cut : ArrayVec ℕ) → i < length cuts → cut ≡ get_or cuts i cut
    → AreFunctionsOver rows node (take i (leaves_of cuts)) functions → IsFunctionOver rows cut.items node f → AreFunctionsOver rows node (take (i + 1) (leaves_of cuts)) (functions ++ f ∷ [])
more_functions rows node cuts functions i f cut lt is before one =
    subst (λ (cs : List (List ℕ)). AreFunctionsOver rows node cs (functions ++ f ∷ []))
    (sym (take_more (leaves_of cuts) i cut.items (omega (arith, length-map cuts leaves)) ∙ ap (λ c. take i (leaves_of cuts) ++ c ∷ []) (sym (leaves_is cuts i cut is))))
    (all_zipped_more (λ c k. IsFunctionOver rows c node k) (take i (leaves_of cuts)) functions cut.items f before one)
