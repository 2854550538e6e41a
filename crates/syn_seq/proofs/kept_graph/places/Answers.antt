use Rattle.std.proofs.Common.{◌≡◌, ◌<◌, ℕ, List, [], ◌∷◌, ◌++◌, length, get_or, ap, sym, ◌∙◌, arith, subst}
use Rattle.std.proofs.lemmas.List.{length_push}
use Rattle.syn_seq.specs.Code.{place_after}
use Rattle.syn_seq.specs.Rounds.{Dropped, Fate}
use Rattle.syn_seq.proofs.Placing.{low_push, next_most, places_step}
use Rattle.syn_seq.proofs.kept_graph.places.Goals as goal

pub loop-fate-preserved : goal.loop-fate-preserved
loop-fate-preserved c =
    let places : List ℕ = c.loop-fate.places.items in
    let fate : Fate = get_or c.args.fates.now c.loop-fate.fate-index Dropped in
    let place = c.place_after-place.result in
    let pushed : c.push-in-loop-fate.new.self.items ≡ places ++ place ∷ [] = c.in_ok-push-2.ensures.items in
    let long = length_push places place in
    record {
      items = places_step c.args.first c.loop-fate.next places c.push-in-loop-fate.new.self.items c.next_after-next.result c.args.fates.now c.loop-fate.fate-index (omega arith)
          (pushed ∙ ap (λ (x : ℕ). places ++ x ∷ []) (c.place_after-place.ensures.place ∙ ap (λ (ps : List ℕ). place_after c.args.first ps c.loop-fate.next fate) c.as_slice.ensures.value)) c.next_after-next.ensures
          ∙ c.loop-fate.invariant.items;
      count = ap length pushed ∙ long ∙ (let e = c.loop-fate.invariant.count in omega (arith, e));
      next = omega (arith, c.next_after-next.ensures, next_most c.loop-fate.next fate, c.loop-fate.invariant.next);
      low = subst (λ (xs : List ℕ). (k d : ℕ) → k < length xs → get_or xs k d < 536870912) (sym pushed) (low_push 536870912 places place (λ k d lt. c.loop-fate.invariant.low k d lt) c.place_after-place.ensures.low);
    }
