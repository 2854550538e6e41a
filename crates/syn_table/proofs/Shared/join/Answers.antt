use Rattle.std.proofs.Common.{ℕ, List, ◌++◌, length, sym, ap, ap₂, ◌∙◌, subst, arith, length-append}
use Rattle.atomic_table.specs.Table.{Me}
use Rattle.syn_table.specs.declared.Known.{Known}
use Rattle.syn_table.specs.Rule.{IsActive}
use Rattle.syn_table.proofs.JoinLaws.{joins_allowed, joined_active}
use Rattle.syn_table.proofs.Shared.join.Goals as goal

pub join_seat-requires : goal.join_seat-requires
join_seat-requires c = (c.requires.table, c.requires.other_table, c.args.other.no_slots, omega arith, joins_allowed _ _ _ _ _ c.args.seat.now.active.number c.requires.held c.requires.pins)

pub append-requires : goal.append-requires
append-requires c =
    let both = ap (λ (m : Me ℕ Known). length m.0.numbers) (c.see_numbers.ensures.same ∙ c.join_seat.ensures.2) in
    let sum = length-append c.args.seat.now.token.me.0.numbers c.args.other.token.me.0.numbers in
    let mine = ap (λ (ns : List ℕ). length ns) c.args.seat.now.numbers_known in
    let its = ap (λ (ns : List ℕ). length ns) c.args.other.numbers_known in
    omega (arith, both, sum, mine, its, c.see_numbers.ensures.numbers.few)

pub invariant_of-seat-clause-numbers_known : goal.invariant_of-seat-clause-numbers_known
invariant_of-seat-clause-numbers_known c =
    ap (λ (m : Me ℕ Known). m.0.numbers) (c.see_numbers.ensures.same ∙ c.join_seat.ensures.2)
    ∙ (ap₂ (λ (a b : List ℕ). a ++ b) c.args.seat.now.numbers_known c.args.other.numbers_known ∙ sym c.append.ensures)

pub invariant_of-seat-clause-active : goal.invariant_of-seat-clause-active
invariant_of-seat-clause-active c = subst (λ (m : Me ℕ Known). IsActive m.0) (sym (c.see_numbers.ensures.same ∙ c.join_seat.ensures.2)) (joined_active c.args.seat.now.token.me.0 c.args.other.token.me.0 c.args.seat.now.active)

pub returns-clause-more : goal.returns-clause-more
returns-clause-more c =
    let both = ap (λ (m : Me ℕ Known). length m.0.numbers) (c.see_numbers.ensures.same ∙ c.join_seat.ensures.2) in
    omega (arith, both, length-append c.args.seat.now.token.me.0.numbers c.args.other.token.me.0.numbers)
