use Rattle.std.proofs.Common.{nat_lt, length, sym, ◌∙◌, arith}
use Rattle.std.proofs.lemmas.Bool.{both_ways, lt-ltb}
use Rattle.syn_growing.proofs.Inner.{room_below, room_by_first, room_by_second}
use Rattle.syn_growing.proofs.leaves.has_room.Goals.{then-inner-lt-MAX_INNER, else-inner-lt-MAX_INNER}
use Rattle.syn_growing.proofs.leaves.has_room.Goals as goal

pub returns-then-has_node : goal.returns-then-has_node
returns-then-has_node c =
    c.if-has_node.true ∙ sym (elim c.if-inner-lt-MAX_INNER.branch [
      | then-inner-lt-MAX_INNER w ↦ room_below c.args.inner.now c.args.leaf c.args.a c.args.b w.if-inner-lt-MAX_INNER.true
      | else-inner-lt-MAX_INNER w ↦ room_by_first c.args.inner.now c.args.leaf c.args.a c.args.b c.requires (sym w.has_node.ensures ∙ sym w.value-is ∙ c.if-has_node.true)
    ])

pub returns-else-has_node : goal.returns-else-has_node
returns-else-has_node c = elim c.if-inner-lt-MAX_INNER.branch [
  | then-inner-lt-MAX_INNER w ↦ absurd (both_ways (nat_lt (length c.args.inner.now) 48) (sym w.value-is ∙ c.if-has_node.false) (lt-ltb (length c.args.inner.now) 48 w.if-inner-lt-MAX_INNER.true))
  | else-inner-lt-MAX_INNER w ↦
      c.has_node-else-has_node.ensures
      ∙ room_by_second c.args.inner.now c.args.leaf c.args.a c.args.b c.requires (let full = w.if-inner-lt-MAX_INNER.false in omega arith) (sym w.has_node.ensures ∙ sym w.value-is ∙ c.if-has_node.false)
]
