use Rattle.std.proofs.Common.{◌≡◌, ◌<◌, ◌++◌, All, List, length, map, sym, ap, ap₂, ◌∙◌, subst}
use Rattle.std.proofs.lemmas.Result.{IfOk-weaker}
use Rattle.syn_rows.specs.declared.Lit.{Lit}
use Rattle.syn_rows.specs.declared.Row.{Row}
use Rattle.syn_rows.specs.Rows.{node_of}
use Rattle.syn_rows.specs.Values.{rows_function}
use Rattle.syn_remaking.specs.Remaking.{AllStand, moved}
use Rattle.syn_cec.proofs.Joined.{BothStand, both_function, both_lits, both_within}
use Rattle.syn_cec.proofs.joint.joint.Goals as goal

-- the observed literals, as the code has them
are_both : (ls ms xs ys first second made more seen all : List Lit) → seen ≡ all → all ≡ made ++ more → made ≡ map (moved ls) xs → more ≡ map (moved ms) ys → xs ≡ first → ys ≡ second
    → seen ≡ map (moved ls) first ++ map (moved ms) second
are_both ls ms xs ys first second made more seen all e f g h same_first same_second =
    e ∙ f ∙ ap₂ (λ (a b : List Lit). a ++ b) (g ∙ ap (map (moved ls)) same_first) (h ∙ ap (map (moved ms)) same_second)

pub finish-requires-clause-within : goal.finish-requires-clause-within
finish-requires-clause-within c =
    let first = c.args.first.now in
    let second = c.args.second.now in
    let ls = c.in_ok-literals.literals.items in
    let ms = c.in_ok-others.others.items in
    let old = c.placed.new.hashed.rows.items in
    let new = c.placed-2.new.hashed.rows.items in
    let is : c.as_slice-8.result.now ≡ both_lits first second ls ms = are_both ls ms c.as_slice-4.result.now c.as_slice-6.result.now first.observed second.observed c.in_ok-observed.observed.items c.in_ok-more.more.items
    c.as_slice-8.result.now c.extend_from_slice.new.self.items c.as_slice-8.ensures.value (c.in_ok-extend_from_slice.ensures.items ∙ ap (λ (b : List Lit). c.in_ok-observed.observed.items ++ b) c.as_slice-7.ensures.value)
    (c.in_ok-observed.ensures ∙ ap (λ (a : List Lit). map (moved a) c.as_slice-4.result.now) c.as_slice-3.ensures.value)
    (c.in_ok-more.ensures ∙ ap (λ (a : List Lit). map (moved a) c.as_slice-6.result.now) c.as_slice-5.ensures.value) c.as_slice-4.ensures c.as_slice-6.ensures in
    let stand : BothStand first second old new ls ms = record {
      grows = c.placed-2.ensures.grows;
      first_stand = subst (λ (rs : List Row). AllStand rs old ls) c.as_slice.ensures c.in_ok-literals.ensures.standing;
      second_stand = subst (λ (rs : List Row). AllStand rs new ms) c.as_slice-2.ensures c.in_ok-others.ensures.standing;
      first_all = c.in_ok-literals.ensures.all ∙ ap (λ (rs : List Row). length rs) c.as_slice.ensures;
      second_all = c.in_ok-others.ensures.all ∙ ap (λ (rs : List Row). length rs) c.as_slice-2.ensures;
    } in
    subst (All (λ l. node_of l < length new)) (sym is) (both_within first second old new ls ms stand)

pub returns-clause-values : goal.returns-clause-values
returns-clause-values c =
    let first = c.args.first.now in
    let second = c.args.second.now in
    let ls = c.in_ok-literals.literals.items in
    let ms = c.in_ok-others.others.items in
    let old = c.placed.new.hashed.rows.items in
    let new = c.placed-2.new.hashed.rows.items in
    let is : c.as_slice-8.result.now ≡ both_lits first second ls ms = are_both ls ms c.as_slice-4.result.now c.as_slice-6.result.now first.observed second.observed c.in_ok-observed.observed.items c.in_ok-more.more.items
    c.as_slice-8.result.now c.extend_from_slice.new.self.items c.as_slice-8.ensures.value (c.in_ok-extend_from_slice.ensures.items ∙ ap (λ (b : List Lit). c.in_ok-observed.observed.items ++ b) c.as_slice-7.ensures.value)
    (c.in_ok-observed.ensures ∙ ap (λ (a : List Lit). map (moved a) c.as_slice-4.result.now) c.as_slice-3.ensures.value)
    (c.in_ok-more.ensures ∙ ap (λ (a : List Lit). map (moved a) c.as_slice-6.result.now) c.as_slice-5.ensures.value) c.as_slice-4.ensures c.as_slice-6.ensures in
    let stand : BothStand first second old new ls ms = record {
      grows = c.placed-2.ensures.grows;
      first_stand = subst (λ (rs : List Row). AllStand rs old ls) c.as_slice.ensures c.in_ok-literals.ensures.standing;
      second_stand = subst (λ (rs : List Row). AllStand rs new ms) c.as_slice-2.ensures c.in_ok-others.ensures.standing;
      first_all = c.in_ok-literals.ensures.all ∙ ap (λ (rs : List Row). length rs) c.as_slice.ensures;
      second_all = c.in_ok-others.ensures.all ∙ ap (λ (rs : List Row). length rs) c.as_slice-2.ensures;
    } in
    IfOk-weaker c.finish.result _ _
    (λ g compact bits. compact.same_function bits ∙ ap (λ (lits : List Lit). rows_function new lits bits) is ∙ both_function first second old new ls ms stand bits)
    c.finish.ensures.compact
