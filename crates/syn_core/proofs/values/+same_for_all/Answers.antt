use Rattle.std.proofs.Common.{rules, ℕ, Option, ◌≡◌, ◌↔◌, [], ◌∷◌, subst, is_some, true, false, IsTrue}
use Rattle.std.proofs.lemmas.Result.{IfOk-weaker}
use Rattle.syn_rows.specs.declared.Row.{Row}
use Rattle.syn_core_laws.specs.Lists.{look}
use Rattle.syn_core.specs.Told.{Covers, SameForAll}
use Rattle.syn_core.proofs.Telling.{none_left, skipped, chosen_more, low_differs, high_decides}
use Rattle.syn_core.proofs.values.+same_for_all.Goals as goal

pub returns-in_default : goal.returns-in_default
returns-in_default t c = λ over covers. c.same_when.ensures over (subst (λ l. Covers over l c.args.chosen.now) (none_left c.args.rest.now c.in_default.ensures.cases) covers)

pub returns-then-is_some : goal.returns-then-is_some
returns-then-is_some t c = λ over covers.
    let known : ℕ → Option Row = λ n. look n c.args.rows.now in
    let split : c.args.rest.now ≡ c.in-Some.node.now ∷ c.in-Some.more.now = c.in-Some.ensures.cases.0 in
    let told : is_some (look c.in-Some.node.now c.args.chosen.now) ≡ true = search rules in
    c.same_for_all.ensures over (skipped known c.args.old c.args.new over c.args.rest.now c.in-Some.more.now c.args.chosen.now [] [] c.in-Some.node.now split told covers)

pub returns-then-not-branch : goal.returns-then-not-branch
returns-then-not-branch t c = λ over covers.
    let known : ℕ → Option Row = λ n. look n c.args.rows.now in
    let split : c.args.rest.now ≡ c.in-Some.node.now ∷ c.in-Some.more.now = c.in-Some.ensures.cases.0 in
    let told : is_some (look c.in-Some.node.now c.args.chosen.now) ≡ false = search rules in
    let one : c.in_ok-low.low.items ≡ (c.in-Some.node.now, false) ∷ c.args.chosen.now = search rules in
    let low : c.in_ok-same_for_all.field-0 ≡ false = search rules in
    low_differs known c.args.old c.args.new over c.args.rest.now c.in-Some.more.now c.args.chosen.now c.as_slice.result.now c.in_ok-low.low.items c.in-Some.node.now
    told one c.as_slice.ensures.value c.in_ok-same_for_all.field-0 low
    (c.in_ok-same_for_all.ensures over (chosen_more known c.args.old c.args.new over c.args.rest.now c.in-Some.more.now c.args.chosen.now c.as_slice.result.now c.in_ok-low.low.items c.in-Some.node.now false split one c.as_slice.ensures.value covers))

pub returns : goal.returns
returns t c = λ over covers.
    let known : ℕ → Option Row = λ n. look n c.args.rows.now in
    let split : c.args.rest.now ≡ c.in-Some.node.now ∷ c.in-Some.more.now = c.in-Some.ensures.cases.0 in
    let told : is_some (look c.in-Some.node.now c.args.chosen.now) ≡ false = search rules in
    let one : c.in_ok-low.low.items ≡ (c.in-Some.node.now, false) ∷ c.args.chosen.now = search rules in
    let two : c.in_ok-high.high.items ≡ (c.in-Some.node.now, true) ∷ c.args.chosen.now = search rules in
    let low : c.in_ok-same_for_all.field-0 ≡ true = search rules in
    IfOk-weaker c.same_for_all-3.result _ (λ b. IsTrue b ↔ SameForAll known over c.args.chosen.now c.args.old c.args.new)
    (λ b h. high_decides known c.args.old c.args.new over c.args.rest.now c.in-Some.more.now c.args.chosen.now c.as_slice.result.now c.in_ok-low.low.items c.in-Some.node.now
    told c.in_ok-high.high.items c.as_slice-2.result.now one c.as_slice.ensures.value two c.as_slice-2.ensures.value c.in_ok-same_for_all.field-0 b low
    (c.in_ok-same_for_all.ensures over (chosen_more known c.args.old c.args.new over c.args.rest.now c.in-Some.more.now c.args.chosen.now c.as_slice.result.now c.in_ok-low.low.items c.in-Some.node.now false split one c.as_slice.ensures.value covers))
    h)
    (c.same_for_all-3.ensures over (chosen_more known c.args.old c.args.new over c.args.rest.now c.in-Some.more.now c.args.chosen.now c.as_slice-2.result.now c.in_ok-high.high.items c.in-Some.node.now true split two c.as_slice-2.ensures.value covers))
