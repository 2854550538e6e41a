use Rattle.std.proofs.Common.{◌≡◌, ◌<◌, ◌∷◌, List, None, Some, length, ap, sym, ◌∙◌, arith}
use Rattle.syn_paths.specs.declared.places.Next.{Next}
use Rattle.syn_paths.specs.declared.places.Next.TheVariants.{Last}
use Rattle.syn_paths.specs.Augmenting.{along, next_by}
use Rattle.syn_paths.specs.Searching.{left, next_at, node_at, place_at, step_at}
use Rattle.syn_paths.proofs.Followed.{follow_last, follow_step}
use Rattle.syn_paths.proofs.Stamped.{touched_more}
use Rattle.syn_paths.proofs.path_search.follow.Goals as goal

pub loop-i-preserved : goal.loop-i-preserved
loop-i-preserved c =
    let trail = c.args.trail.now in
    let i = c.loop-i.i in
    let j = c.in-Some.j in
    let is : (step_at trail i).from ≡ Some j = c.in-Some.is in
    let less = c.requires.falls i j c.loop-i.invariant.there is in
    let lt : node_at (place_at trail i) < length c.loop-i.next = omega (arith, c.requires.within i c.loop-i.invariant.there, c.loop-i.auto.next) in
    let new : c.leave.new.next ≡ left c.loop-i.next (place_at trail i) (next_by (node_at (place_at trail i)) (place_at trail j)) =
    c.leave.ensures ∙ ap (λ (x : Next). left c.loop-i.next (place_at trail i) x) (c.next_by.ensures ∙ ap (λ n. next_by n (place_at trail j)) c.node_of-node.ensures) in
    record {
      there = omega (arith, less, c.loop-i.invariant.there);
      touched = rw (new, c.in_ok-push.ensures.items, c.node_of-node.ensures)
          (touched_more c.loop-i.next c.loop-i.touched.items (place_at trail i) (next_by (node_at (place_at trail i)) (place_at trail j)) c.loop-i.invariant.touched);
      followed = λ whole at once.
          let sofar = c.loop-i.invariant.followed whole at once in
          let after = follow_step _ trail c.loop-i.next i j is lt sofar.0 sofar.1 sofar.2 sofar.3 in
          (after.0, after.1, after.2, λ v. after.3 v ∙ ap (λ (n : List Next). along (next_at n) (place_at trail j ∷ after.0) v) (sym new));
    }

pub returns-clause-followed : goal.returns-clause-followed
returns-clause-followed c = λ way at once v.
    let trail = c.args.trail.now in
    let i = c.loop-i.i in
    let is : (step_at trail i).from ≡ None = c.in_default.is in
    let lt : node_at (place_at trail i) < length c.loop-i.next = omega (arith, c.requires.within i c.loop-i.invariant.there, c.loop-i.auto.next) in
    let sofar = c.loop-i.invariant.followed way at once in
    ap (λ (n : List Next). next_at n v) c.leave-2.ensures ∙ follow_last _ trail c.loop-i.next i is lt sofar.0 sofar.1 sofar.3 v

pub returns-clause-touched : goal.returns-clause-touched
returns-clause-touched c =
    let trail = c.args.trail.now in
    let i = c.loop-i.i in
    rw (c.leave-2.ensures, c.in_ok-push-2.ensures.items, c.node_of-node-2.ensures) (touched_more c.loop-i.next c.loop-i.touched.items (place_at trail i) Last c.loop-i.invariant.touched)
