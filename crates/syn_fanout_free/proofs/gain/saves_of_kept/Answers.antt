use Rattle.std.proofs.Common.{◌≡◌, ◌+◌, ◌<◌, ◌≤◌, ◌&&◌, ℕ, List, length, subst, ap₂, arith, ℤ, pos, ◌-ℤ◌, ◌≤ℤ◌}
use Rattle.std.proofs.lemmas.Bool.{ltb-true, ltb-false}
use Rattle.std.proofs.lemmas.Int.{ints}
use Rattle.syn_rows.specs.Nodes.{has_node}
use Rattle.syn_rows.specs.Reach.{is_and}
use Rattle.syn_rows.specs.Rows.{row_at}
use Rattle.syn_fanout_free.specs.Freed.{IsFreedByCount}
use Rattle.syn_fanout_free.specs.Freeing.{AreFreed, open_to}
use Rattle.syn_fanout_free.specs.Saved.{count_in}
use Rattle.syn_fanout_free.proofs.AtLeast.{saved_at_least}
use Rattle.syn_fanout_free.proofs.Ends.{saved_by_cone}
use Rattle.syn_fanout_free.proofs.Numbers.{one_if-le, count-le}
use Rattle.syn_fanout_free.proofs.Sweeps.{keeping_sorted}
use Rattle.syn_fanout_free.proofs.gain.saves_of_kept.Goals as goal

no_more : (a b : ℕ) → a ≤ b → (pos a -ℤ pos b) ≤ℤ pos 0
no_more a b le = omega (arith, ints, le)

pub overflow_add-lost : goal.overflow_add-lost
overflow_add-lost c =
    omega (
      arith,
      c.and_count.ensures.number,
      one_if-le (is_and (row_at c.args.was.now c.args.change.node)),
      c.in_ok-dead.ensures.ands,
      c.requires.few,
      count-le (length c.args.was.now) (λ m. is_and (row_at c.args.was.now m) && has_node c.in_ok-dead.dead.nodes.items m),
    )

pub returns-clause-some : goal.returns-clause-some
returns-clause-some c = λ more observed owned.
    let was = c.args.was.now in
    let counts = count_in c.args.counts.now in
    let dead : List ℕ = c.in_ok-dead.dead.nodes.items in
    let away : ℕ = c.and_count.result + c.in_ok-dead.dead.ands in
    let less : c.args.added < away = ltb-true c.args.added away more in
    let free = subst (λ (u : List ℕ). AreFreed was counts c.args.change.node (open_to was c.args.change.node u) dead) c.as_slice.ensures c.in_ok-dead.ensures.sound in
    saved_at_least was observed counts c.args.change.node c.args.change.row c.args.change.extra.now c.args.kept.now.marks.items c.sort_used.new.used.items dead away c.args.added
    c.requires.there owned c.requires.extra
    (keeping_sorted (length was) c.args.change.row c.args.change.extra.now 0 c.args.kept.now.marks.items c.args.kept.now.used.items c.sort_used.new.used.items c.sort_used.ensures.same c.requires.keeping) free
    (ap₂ (λ a b. a + b) c.and_count.ensures.number c.in_ok-dead.ensures.ands) c.requires.added less

pub returns-clause-none : goal.returns-clause-none
returns-clause-none c = λ no observed owned.
    let was = c.args.was.now in
    let counts = count_in c.args.counts.now in
    let dead : List ℕ = c.in_ok-dead.dead.nodes.items in
    let away : ℕ = c.and_count.result + c.in_ok-dead.dead.ands in
    let few : away ≤ c.args.added = ltb-false c.args.added away no in
    let free = subst (λ (u : List ℕ). IsFreedByCount was counts c.args.change.node (open_to was c.args.change.node u) (λ m. has_node dead m)) c.as_slice.ensures (c.in_ok-dead.ensures.freed (omega (arith, few))) in (
      pos away -ℤ pos c.args.added,
      saved_by_cone was observed counts c.args.change.node c.args.change.row c.args.change.extra.now c.args.kept.now.marks.items c.sort_used.new.used.items dead away c.args.added
          c.requires.there owned c.requires.extra
          (keeping_sorted (length was) c.args.change.row c.args.change.extra.now 0 c.args.kept.now.marks.items c.args.kept.now.used.items c.sort_used.new.used.items c.sort_used.ensures.same c.requires.keeping) free
          (ap₂ (λ a b. a + b) c.and_count.ensures.number c.in_ok-dead.ensures.ands) c.requires.added,
      no_more away c.args.added few,
    )
