use Rattle.std.proofs.Common.{rules, List, [], length, nat_lt, ap, ap₂, ◌∙◌, arith}
use Rattle.syn_rows.specs.declared.Lit.{Lit}
use Rattle.syn_plan.specs.declared.PLit.{PLit}
use Rattle.syn_gain.specs.Placing.{literal_below}
use Rattle.syn_gain.specs.Searching.{search_gates, state}
use Rattle.syn_gain.proofs.Bounds.{below_each}
use Rattle.syn_gain.proofs.NodesThere.{begun_placed}
use Rattle.syn_gain.proofs.Fresh.{rows_give}
use Rattle.syn_gain.proofs.new_rows.adds_fewer_anywhere.Goals as goal

pub place_gates-requires : goal.place_gates-requires
place_gates-requires g c =
    let r = c.args.candidate in (
      search rules,
      (
        record { indexed = c.requires.index; once = c.requires.pairs; order = c.requires.order; few = c.requires.few; within = omega arith },
        (
          c.requires.most,
          (
            omega (arith, c.begin.ensures.count, ap length c.as_slice.ensures.value, c.requires.room),
            (
              c.begin.ensures.none,
              begun_placed (length c.args.rows.now) r.plan.now.leaves r.leaves.now c.begin.new.self.literals.items c.begin.ensures.literals (omega (arith, c.requires.root)) (omega (arith, c.requires.few))
                  (λ i lt. omega (arith, below_each r.root r.leaves.now r.below_root i lt, c.requires.root)),
            ),
          ),
        ),
      ),
    )

pub returns : goal.returns
returns g c =
    let n = length c.args.rows.now in
    c.place_gates.ensures.fewer (literal_below c.args.rows.now n) (rows_give c.args.rows.now n c.requires.order c.requires.pairs)
    ∙ ap₂ (λ (l : List Lit) (gates : List (PLit × PLit)). nat_lt (length (search_gates c.args.rows.now n (state l []) gates).extra) c.args.limit) c.begin.ensures.literals c.as_slice.ensures.value
