use Rattle.std.proofs.Common.{◌≡◌, ℕ, List, [], length, replicate, Option, None, sym, subst, rules}
use Rattle.syn_compare.specs.Places.{HavePlaces}
use Rattle.syn_compare.proofs.Placed.{none_placed}
use Rattle.syn_compare.proofs.places.Index.of.Goals as goal

pub fill-requires-clause-none : goal.fill-requires-clause-none
fill-requires-clause-none c =
    let names = c.args.names.now in
    let slots : c.as_mut_slice.result.now ≡ replicate {A = Option ℕ} (length names) None = search rules in
    subst (λ (places : List (Option ℕ)). HavePlaces names [] places) (sym slots) (none_placed names)
