use Rattle.std.proofs.Common.{ℕ, List, length, sym, subst, subst₂, arith}
use Rattle.syn_rows.specs.declared.Row.{Row}
use Rattle.syn_hashed.specs.Pairs.{IsIndex}
use Rattle.syn_hashed.proofs.pairs.push_pair.Goals as goal

pub returns-clause-index : goal.returns-clause-index
returns-clause-index c =
    subst₂ (λ (n : ℕ) (rows : List Row). IsIndex n rows c.link.new.heads.items c.link.new.next.items) (sym c.link.ensures.heads) (sym c.in_ok-push.ensures.items)
    (c.link.ensures.index (length c.make_room.new.heads.items) c.args.rows.now.items (omega (arith, c.len-node.ensures)) (subst (λ (rows : List Row). IsIndex (length c.make_room.new.heads.items) rows c.make_room.new.heads.items c.make_room.new.next.items) c.as_slice.ensures.value c.in_ok-make_room.ensures.index))
