-- The worked redefine is as the law asks.
use Rattle.std.proofs.Common.{◌≡◌, ◌≢◌, ℕ, zero, suc, ◌<◌, false, List, [], ◌∷◌, Some, refl, arith, get_or}
use Rattle.syn_rows.specs.Rows.{row_at}
use Rattle.syn_rows.specs.Nodes.{has_node}
use Rattle.syn_core_laws.specs.Views.{known_row}
use Rattle.syn_decide.specs.Fitting.{IsInside}
use Rattle.syn_decide.specs.Hints.{placed_by_hits}
use Rattle.syn_decide.specs.Worked.{task}
use Rattle.syn_commit_laws.specs.Redefining.{met_leaves, row_made}
use Rattle.syn_commit_laws.specs.Worked.{WorkedRedefine, hit, inner, knowing}

seven : IsInside (task 512) 7
seven = record { other = λ e. absurd (omega (arith, e)); inside = refl }

-- the node at the place is neither node 0 nor a leaf that was met
abbrev IsOut : List ℕ → ℕ → Type 0
IsOut made i = (get_or made i 0 ≢ 0) × (has_node (met_leaves (task 512) inner) (get_or made i 0) ≡ false)

-- without hits
both_out : (i : ℕ) → i < 2 → IsOut (7 ∷ 8 ∷ []) i
both_out zero l = ((λ e. absurd (omega (arith, e))), refl)
both_out (suc zero) l = ((λ e. absurd (omega (arith, e))), refl)
both_out (suc (suc i)) l = absurd (omega (arith, l))

both_known : (i : ℕ) → i < 2 → known_row knowing (get_or (7 ∷ 8 ∷ []) i 0) ≡ Some (row_made (7 ∷ 8 ∷ []) (row_at (placed_by_hits (task 512) []).extra i))
both_known zero l = refl
both_known (suc zero) l = refl
both_known (suc (suc i)) l = absurd (omega (arith, l))

-- with one
one_out : (i : ℕ) → i < 1 → IsOut (8 ∷ []) i
one_out zero l = ((λ e. absurd (omega (arith, e))), refl)
one_out (suc i) l = absurd (omega (arith, l))

one_known : (i : ℕ) → i < 1 → known_row knowing (get_or (8 ∷ []) i 0) ≡ Some (row_made (8 ∷ []) (row_at (placed_by_hits (task 512) hit).extra i))
one_known zero l = refl
one_known (suc i) l = absurd (omega (arith, l))

pub worked_redefine : WorkedRedefine
worked_redefine = record {
  in_order = record { rising = refl; below = refl; positive = λ e. absurd (omega (arith, e)); there = omega arith };
  fitting = record { met = refl; no_circle = refl; same = refl };
  stored = record { inner_known = (refl, (refl, (refl, tt))); hits_known = tt; hits_inside = tt; made_out = both_out; made_known = both_known };
  root = refl;
  one_row = refl;
  with_hit = record { inner_known = (refl, (refl, (refl, tt))); hits_known = (refl, tt); hits_inside = ((seven, omega arith), tt); made_out = one_out; made_known = one_known };
  root_with_hit = refl;
  root_takes_last = refl;
  turned = refl;
  leaves = refl;
}
