use Rattle.std.proofs.Common.{◌≡◌, ◌↔◌, ◌-◌, ◌∙◌, ℕ, List, ap, sym, subst, length, true, Bool, arith}
use Rattle.std.specs.Vec.{with_items}
use Rattle.std.proofs.lemmas.List.{with_items_is}
use Rattle.syn_paths.specs.Checking.{are_lists}
use Rattle.syn_paths.specs.Tops.{IsInTop, label_in}
use Rattle.syn_paths.specs.Paths.{ArePathsInto}
use Rattle.syn_paths.proofs.Checked.{count_decides, lists_exact, none_marked, test_decides}
use Rattle.syn_paths.proofs.path_checks.are_paths_for.Goals as goal

pub returns-then-yes-clause-paths : goal.returns-then-yes-clause-paths
returns-then-yes-clause-paths c =
    let rows = c.args.rows.now in
    let labels = c.args.labels.now in
    let old = c.requires.room.fits.marks in
    let marks = c.next-stamp.ensures.marks (length rows) old in
    let stamp = c.next-stamp.result in
    let met = c.next-stamp.new.self.ins.items in
    let none = none_marked met (stamp - 1) stamp (c.next-stamp.ensures.ins (length rows) old) (omega (arith, c.next-stamp.ensures.positive)) in
    let exact = lists_exact rows labels c.args.node c.args.level c.mark_below.new.marks stamp met c.args.lists.now c.requires.order c.next-stamp.ensures.positive c.in_ok-mark_below.ensures.below none
    (c.in_ok-mark_below.ensures.length ∙ ap (λ (l : List ℕ). length l) c.as_mut_slice.ensures.value ∙ marks.below ∙ sym marks.ins) in
    let back : (with_items c.next-stamp.new.self.below c.mark_below.new.marks).items ≡ c.mark_below.new.marks = with_items_is c.next-stamp.new.self.below c.mark_below.new.marks (c.in_ok-mark_below.ensures.length ∙ c.as_mut_slice.ensures.len) in
    let seen : c.as_slice-below.result.now ≡ c.mark_below.new.marks = c.as_slice-below.ensures.value ∙ back in
    let tested = rw (seen, c.as_mut_slice-met.ensures.value) at c.are_paths-yes.ensures.paths in
    count_decides rows (IsInTop rows (label_in labels) c.args.node c.args.level) c.args.count c.args.lists.now (are_lists rows labels c.args.level c.mark_below.new.marks stamp met c.args.lists.now) exact (sym tested ∙ c.if-yes.true)

pub returns-else-yes-clause-paths : goal.returns-else-yes-clause-paths
returns-else-yes-clause-paths c =
    let rows = c.args.rows.now in
    let labels = c.args.labels.now in
    let old = c.requires.room.fits.marks in
    let marks = c.next-stamp.ensures.marks (length rows) old in
    let stamp = c.next-stamp.result in
    let met = c.next-stamp.new.self.ins.items in
    let none = none_marked met (stamp - 1) stamp (c.next-stamp.ensures.ins (length rows) old) (omega (arith, c.next-stamp.ensures.positive)) in
    let exact = lists_exact rows labels c.args.node c.args.level c.mark_below.new.marks stamp met c.args.lists.now c.requires.order c.next-stamp.ensures.positive c.in_ok-mark_below.ensures.below none
    (c.in_ok-mark_below.ensures.length ∙ ap (λ (l : List ℕ). length l) c.as_mut_slice.ensures.value ∙ marks.below ∙ sym marks.ins) in
    let back : (with_items c.next-stamp.new.self.below c.mark_below.new.marks).items ≡ c.mark_below.new.marks = with_items_is c.next-stamp.new.self.below c.mark_below.new.marks (c.in_ok-mark_below.ensures.length ∙ c.as_mut_slice.ensures.len) in
    let seen : c.as_slice-below.result.now ≡ c.mark_below.new.marks = c.as_slice-below.ensures.value ∙ back in
    let tested = rw (seen, c.as_mut_slice-met.ensures.value) at c.are_paths-yes.ensures.paths in
    test_decides rows (IsInTop rows (label_in labels) c.args.node c.args.level) c.args.count c.args.lists.now c.are_paths-yes.result
    (subst (λ (b : Bool). (b ≡ true) ↔ ArePathsInto rows (IsInTop rows (label_in labels) c.args.node c.args.level) (length c.args.lists.now) c.args.lists.now) (sym tested) exact) c.if-yes.false
