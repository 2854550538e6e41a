use Rattle.std.proofs.Common.{rules, ◌≡◌, ◌≤◌, true, List, ℕ, subst}
use Rattle.syn_rows.specs.Nodes.{has_node}
use Rattle.syn_fanout_free.specs.Bounding.{IsHeld}
use Rattle.syn_fanout_free.specs.Saved.{count_in}
use Rattle.syn_fanout_free.proofs.Bounded.{nothing_near}
use Rattle.syn_fanout_free.proofs.bound.gain_is_positive.Goals as goal

pub returns-then-are_held-clause-none : goal.returns-then-are_held-clause-none
returns-then-are_held-clause-none c = λ no observed owned.
    let enough : c.args.most ≤ c.added_ands-added.result = search rules in
    nothing_near c.args.was.now observed (count_in c.args.counts.now) c.args.change.node c.args.change.row c.args.change.extra.now c.keep.new.kept.marks.items c.keep.new.kept.used.items c.args.spared.now
    c.args.most c.added_ands-added.result c.requires.there owned c.requires.extra c.in_ok-keep.ensures
    (subst (λ (used : List ℕ). (m : ℕ) → has_node c.args.spared.now m ≡ true → IsHeld c.args.was.now c.args.change.node (has_node used) m) c.as_slice.ensures (c.are_held.ensures c.if-are_held.true))
    c.requires.most c.added_ands-added.ensures enough
