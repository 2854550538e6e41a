use Rattle.std.proofs.Common.{◌≤◌, ℕ, List, [], ◌∷◌, length, sym, ap, ◌∙◌, subst, arith}
use Rattle.atomic_table.specs.Table.{Me}
use Rattle.syn_table.specs.declared.Known.{Known}
use Rattle.syn_table.specs.Rule.{IsActive}
use Rattle.syn_table.specs.Splitting.{last_of, all_but_last}
use Rattle.syn_table.proofs.SplitLaws.{splits_allowed, left_active, new_active, front_length}
use Rattle.syn_table.proofs.Shared.split.Goals as goal

pub split_seat-token-requires : goal.split_seat-token-requires
split_seat-token-requires c =
    let same = sym c.see_numbers.ensures.same in
    let active = subst (λ (m : Me ℕ Known). IsActive m.0) same c.args.seat.now.active in
    let two = subst (λ (m : Me ℕ Known). 2 ≤ length m.0.numbers) same c.requires.numbers in
    (c.see_numbers.ensures.table ∙ c.requires.table, omega arith, splits_allowed _ _ _ active two)

pub hand_on-numbers-requires : goal.hand_on-numbers-requires
hand_on-numbers-requires c = let known = ap (λ (ns : List ℕ). length ns) c.args.seat.now.numbers_known in omega (arith, known, c.requires.numbers)

pub invariant_of-seat-clause-numbers_known : goal.invariant_of-seat-clause-numbers_known
invariant_of-seat-clause-numbers_known c =
    ap (λ (m : Me ℕ Known). m.0.numbers) c.split_seat-token.ensures.2
    ∙ (ap (λ (m : Me ℕ Known). all_but_last m.0.numbers) c.see_numbers.ensures.same ∙ (ap all_but_last c.args.seat.now.numbers_known ∙ sym c.hand_on-numbers.ensures.left))

pub invariant_of-seat-clause-active : goal.invariant_of-seat-clause-active
invariant_of-seat-clause-active c =
    let same = sym c.see_numbers.ensures.same in
    let active = subst (λ (m : Me ℕ Known). IsActive m.0) same c.args.seat.now.active in
    let two = subst (λ (m : Me ℕ Known). 2 ≤ length m.0.numbers) same c.requires.numbers in
    subst (λ (m : Me ℕ Known). IsActive m.0) (sym c.split_seat-token.ensures.2) (left_active _ active two)

pub invariant_of-result-clause-numbers_known : goal.invariant_of-result-clause-numbers_known
invariant_of-result-clause-numbers_known c =
    ap (λ (m : Me ℕ Known). m.0.numbers) c.split_seat-token.ensures.4
    ∙ (ap (λ (m : Me ℕ Known). last_of m.0.numbers ∷ []) c.see_numbers.ensures.same
    ∙ (ap (λ (ns : List ℕ). last_of ns ∷ []) c.args.seat.now.numbers_known ∙ sym c.hand_on-numbers.ensures.last))

pub invariant_of-result-clause-active : goal.invariant_of-result-clause-active
invariant_of-result-clause-active c =
    let active = subst (λ (m : Me ℕ Known). IsActive m.0) (sym c.see_numbers.ensures.same) c.args.seat.now.active in
    subst (λ (m : Me ℕ Known). IsActive m.0) (sym c.split_seat-token.ensures.4) (new_active _ active c.see_numbers.ensures.numbers)

pub returns-clause-fewer : goal.returns-clause-fewer
returns-clause-fewer c =
    let left = ap (λ (m : Me ℕ Known). length m.0.numbers) c.split_seat-token.ensures.2 in
    let same = ap (λ (m : Me ℕ Known). length (all_but_last m.0.numbers)) c.see_numbers.ensures.same in
    let front = front_length c.args.seat.now.token.me.0.numbers (omega (arith, c.requires.numbers)) in
    omega (arith, left, same, front)
