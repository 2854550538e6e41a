use Rattle.std.proofs.Common.{rules, ◌≡◌, ◌≤◌, length, sym, ap, ap₂, ◌∙◌, arith}
use Rattle.syn_plan.specs.declared.TheConstants.{MAX_GATES}
use Rattle.syn_gain.specs.Placing.{literal_below, literal_for, root_row}
use Rattle.syn_gain.specs.Searching.{Searched}
use Rattle.syn_gain.specs.Proposals.{replacement_of}
use Rattle.syn_gain.specs.Replacements.{new_rows_by, placed_by}
use Rattle.syn_gain.proofs.Bounds.{below_each}
use Rattle.syn_gain.proofs.Fewer.{all_fewer, is_searched}
use Rattle.syn_gain.proofs.NodesThere.{begun_placed}
use Rattle.syn_gain.proofs.Fresh.{rows_give}
use Rattle.syn_gain.proofs.Searches.{searched_is_placed}
use Rattle.syn_gain.proofs.new_rows.place_into.Goals as goal

pub place_gates-requires : goal.place_gates-requires
place_gates-requires g c =
    let r = c.args.candidate in (
      search rules,
      (
        record { indexed = c.requires.index; once = c.requires.pairs; order = c.requires.order; few = c.requires.few; within = omega (arith, c.requires.root) },
        (
          c.requires.most,
          (
            omega (arith, c.begin.ensures.count, ap length c.as_slice.ensures.value, c.requires.room),
            (
              c.begin.ensures.none,
              begun_placed (length c.args.rows.now) r.plan.now.leaves r.leaves.now c.begin.new.self.literals.items c.begin.ensures.literals (omega (arith, c.requires.root)) (omega (arith, c.requires.few))
                  (λ i lt. omega (arith, below_each r.root r.leaves.now r.below_root i lt, c.requires.root)),
            ),
          ),
        ),
      ),
    )

pub returns-clause-extra : goal.returns-clause-extra
returns-clause-extra g c =
    let r = replacement_of c.args.candidate in
    let gates = c.as_slice.result.now in
    let f = literal_below c.args.rows.now r.root in
    let gives = rows_give c.args.rows.now r.root c.requires.order c.requires.pairs in
    let few : length gates ≤ MAX_GATES = search rules in
    let all = c.place_gates.ensures.fewer f gives ∙ sym (all_fewer f (length c.args.rows.now) 4294967295 gates c.begin.new.self.literals.items (omega (arith, few))) in
    let is = is_searched c.args.rows.now r.root r.count r.leaves r.gates gates c.begin.new.self.literals.items
    c.place_gates.new.self.literals.items c.place_gates.new.self.extra.items (c.place_gates.ensures.gates f gives all) c.begin.ensures.literals c.as_slice.ensures.value in
    ap (λ (s : Searched). s.extra) is ∙ (searched_is_placed c.args.rows.now r.root r.count r.leaves r.gates).1

pub returns-clause-root : goal.returns-clause-root
returns-clause-root g c =
    let r = replacement_of c.args.candidate in
    let gates = c.as_slice.result.now in
    let f = literal_below c.args.rows.now r.root in
    let gives = rows_give c.args.rows.now r.root c.requires.order c.requires.pairs in
    let few : length gates ≤ MAX_GATES = search rules in
    let all = c.place_gates.ensures.fewer f gives ∙ sym (all_fewer f (length c.args.rows.now) 4294967295 gates c.begin.new.self.literals.items (omega (arith, few))) in
    let is = is_searched c.args.rows.now r.root r.count r.leaves r.gates gates c.begin.new.self.literals.items
    c.place_gates.new.self.literals.items c.place_gates.new.self.extra.items (c.place_gates.ensures.gates f gives all) c.begin.ensures.literals c.as_slice.ensures.value in
    let same = searched_is_placed c.args.rows.now r.root r.count r.leaves r.gates in
    let literals_are : c.place_gates.new.self.literals.items ≡ (placed_by c.args.rows.now r).literals = ap (λ (s : Searched). s.literals) is ∙ same.0 in
    let extra_are : c.place_gates.new.self.extra.items ≡ new_rows_by c.args.rows.now r = ap (λ (s : Searched). s.extra) is ∙ same.1 in
    c.root_row.ensures
    ∙ ap₂ (λ e o. root_row (length c.args.rows.now) e o) (c.as_slice-3.ensures.value ∙ extra_are)
    (c.literal_for-out.ensures ∙ ap (λ l. literal_for l r.out) (c.as_slice-2.ensures.value ∙ literals_are))
