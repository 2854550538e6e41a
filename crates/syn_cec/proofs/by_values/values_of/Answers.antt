use Rattle.std.proofs.Common.{◌≡◌, ℕ, suc, ◌+◌, ◌-◌, ◌/◌, ◌%◌, nat_eq, Bool, List, [], ◌∷◌, ◌++◌, length, sym, ap, ◌∙◌, arith}
use Rattle.std.proofs.lemmas.List.{append-nil, append_assoc}
use Rattle.syn_truth.specs.Truth.{minterm_of}
use Rattle.syn_truth.proofs.Minterms.{length-values_at, minterm_of-values_at, values_at}
use Rattle.syn_cec.proofs.by_values.values_of.Goals as goal

-- at the end the list is all of the values
whole : (xs : List Bool) (count i left number : ℕ) → xs ++ values_at (count - i) left ≡ values_at count number → count - i ≡ 0 → xs ≡ values_at count number
whole xs count i left number keeps none = sym (append-nil xs) ∙ ap (λ (k : ℕ). xs ++ values_at k left) (sym none) ∙ keeps

pub loop-i-preserved : goal.loop-i-preserved
loop-i-preserved c =
    let xs : List Bool = c.loop-i.values.items in
    let rest : ℕ = c.args.count - (c.loop-i.i + 1) in
    let left : ℕ = c.loop-i.left in
    let next : c.args.count - c.loop-i.i ≡ suc rest = omega arith in
    let is : c.push.new.self.items ≡ xs ++ nat_eq (left % 2) 1 ∷ [] = c.in_ok-push.ensures.items in
    ap (λ (ys : List Bool). ys ++ values_at rest (left / 2)) is ∙ append_assoc xs (nat_eq (left % 2) 1 ∷ []) (values_at rest (left / 2))
    ∙ ap (λ (k : ℕ). xs ++ values_at k left) (sym next) ∙ c.loop-i.invariant

pub returns-clause-count : goal.returns-clause-count
returns-clause-count c =
    ap (λ (ys : List Bool). length ys) (whole c.loop-i.values.items c.args.count c.loop-i.i c.loop-i.left c.args.number c.loop-i.invariant (omega arith))
    ∙ length-values_at c.args.count c.args.number

pub returns-clause-minterm : goal.returns-clause-minterm
returns-clause-minterm c =
    ap minterm_of (whole c.loop-i.values.items c.args.count c.loop-i.i c.loop-i.left c.args.number c.loop-i.invariant (omega arith))
    ∙ minterm_of-values_at c.args.count c.args.number c.requires
