-- The first of a list of proposals that saves.
use Rattle.std.proofs.Common.{◌≡◌, ℕ, ◌<◌, List, length, map, sym, ap, ◌∙◌, subst, arith}
use Rattle.std.specs.List.{AllWithin, HoldsAt}
use Rattle.std.proofs.Common.{slice_index_or}
use Rattle.std.proofs.lemmas.List.{get_or-map, length-map}
use Rattle.syn_rows.specs.declared.Lit.{Lit}
use Rattle.syn_rows.specs.declared.Row.{Row}
use Rattle.syn_gain.specs.declared.proposals.Proposal.{Proposal}
use Rattle.syn_gain.specs.Proposals.{replacement}
use Rattle.syn_gain.specs.Replacements.{Replacement}
use Rattle.syn_proposals.specs.Closing.{SavesNothing, SavesSome, IsFirst}

-- the first of a list of anything that stands for proposals
pub first_is : {X : Type 0} (rows : List Row) (observed : List Lit) (f : X → Replacement) (xs : List X) (i : ℕ) (x : X) → i < length xs → x ≡ slice_index_or xs i x
    → SavesSome rows observed (f x) → AllWithin (λ y. SavesNothing rows observed (f y)) xs 0 i → IsFirst rows observed (map f xs) (f x)
first_is rows observed f xs i x lt is some nothing = record {
  place = i;
  there = let e = length-map xs f in omega arith;
  at = λ d. get_or-map f xs i x d lt ∙ ap f (sym is);
  saves = some;
  before = λ k d low high. subst (SavesNothing rows observed) (sym (get_or-map f xs k x d (omega arith))) (nothing k x low high);
}

pub first_taken : (rows : List Row) (observed : List Lit) (ps items : List Proposal) → ps ≡ items → (i : ℕ) (p : Proposal) → i < length ps → p ≡ slice_index_or items i p
    → HoldsAt (λ q. SavesSome rows observed (replacement q)) ps i
    → AllWithin (λ q. SavesNothing rows observed (replacement q)) ps 0 i
    → IsFirst rows observed (map replacement items) (replacement p)
first_taken rows observed ps items same i p lt is some nothing =
    subst (λ (xs : List Proposal). IsFirst rows observed (map replacement xs) (replacement p)) same
    (first_is rows observed replacement ps i p lt here (subst (λ q. SavesSome rows observed (replacement q)) (sym here) (some p)) nothing)
  where
    here : p ≡ slice_index_or ps i p
    here = is ∙ sym (ap (λ (xs : List Proposal). slice_index_or xs i p) same)
