use Rattle.std.proofs.Common.{rules, ◌≡◌, ℕ, ◌≤◌, All, List, Option, None, length, get_or, sym, ap, ◌∙◌, subst, arith, inl, inr}
use Rattle.std.proofs.lemmas.Bool.{cases_lt}
use Rattle.std.proofs.lemmas.List.{get_or_default}
use Rattle.std.proofs.lemmas.List.Elements.{All-map}
use Rattle.syn_plan.specs.declared.plan.Plan.{Plan}
use Rattle.syn_plan.specs.Naming.{built_of}
use Rattle.syn_library.specs.Library.{NamesOwn}
use Rattle.syn_gain.specs.Replacements.{Replacement}
use Rattle.syn_proposals.specs.Closing.{SavesNothing}
use Rattle.syn_proposals.proofs.Maps.{All-read}
use Rattle.syn_weighing.specs.AllNew.{IsApartOver, IsApartPlan}
use Rattle.syn_weighing.specs.Irredundant.{AreNamed, NamesFirst}
use Rattle.syn_weighing.specs.declared.all_new.AllNew.{AllNew}
use Rattle.syn_weighing.specs.Weighing.{BeginsWith}
use Rattle.syn_function_plans.specs.PlansOf.{ArePlansOf}
use Rattle.syn_rewrite.specs.Rewriting.{cut_proposals, over}
use Rattle.syn_rewrite.proofs.Candidates.{is_function, plans_are}
use Rattle.syn_rewrite.proofs.proposer.some_saves.Goals.{then-leaves_apart, else-leaves_apart, else-plans-via-then-plans+in_ok-saves_nothing+else-branch, else-plans-via-else-plans}
use Rattle.syn_rewrite.proofs.proposer.some_saves.Goals as goal

pub returns : goal.returns
returns c =
    let graph = c.args.graph.now in
    let node = c.args.cut.root in
    let leaves = c.args.cut.leaves.now in
    let all = c.as_slice-all.result.now in
    let f : Plan → Replacement = λ p. over node leaves (built_of p) in
    let same = plans_are graph.rows node c.args.cut.function leaves all (is_function graph node c.args.cut.function leaves c.requires.rooted.gate c.requires.rooted.cut c.requires.rooted.function) (subst (λ (f : ℕ). ArePlansOf f all) c.requires.function c.as_slice-all.ensures.plans) in
    let end : length all ≤ c.loop-i.i = c.loop-i-test.false in
    let none_of_all : All (λ p. SavesNothing graph.rows graph.observed (f p)) all = λ k d lt. c.loop-i.invariant.none k d (omega arith) (omega (arith, lt, end)) in
    let none : All (SavesNothing graph.rows graph.observed) (cut_proposals graph.rows node leaves) =
    subst (λ (l : List Replacement). All (SavesNothing graph.rows graph.observed) l) same (All-map (SavesNothing graph.rows graph.observed) f all none_of_all) in
    search (rules, none)

pub candidate-candidate-requires-clause-names : goal.candidate-candidate-requires-clause-names
candidate-candidate-requires-clause-names c =
    subst (NamesOwn c.index-all-i.result) c.requires.function
    (All-read (λ p. NamesOwn p c.args.plans.now.function) c.as_slice-all.result.now c.loop-i.i c.index-all-i.result (omega (arith, c.loop-i-test.true)) c.index-all-i.is c.as_slice-all.ensures.plans.names)

pub saves_nothing-requires-clause-spared : goal.saves_nothing-requires-clause-spared
saves_nothing-requires-clause-spared c =
    let spared = c.spared_leaves-spared.result.now in
    let first : NamesFirst c.args.plans.now.leaves_named c.index-all-i.result =
    All-read (NamesFirst c.args.plans.now.leaves_named) c.as_slice-all.result.now c.loop-i.i c.index-all-i.result (omega (arith, c.loop-i-test.true)) c.index-all-i.is c.as_slice-all.ensures.first in
    let named : NamesFirst (length spared) c.candidate-candidate.result.plan.now = subst (NamesFirst (length spared)) (sym c.candidate-candidate.ensures.plan) (λ i lt. first i (omega (arith, lt, c.spared_leaves-spared.ensures.named))) in
    subst (λ (ls : List ℕ). AreNamed c.candidate-candidate.result.plan.now ls spared) (sym c.candidate-candidate.ensures.leaves)
    (record { named = named; few = c.spared_leaves-spared.ensures.few; first = c.spared_leaves-spared.ensures.first })

pub saves_nothing-requires-clause-apart : goal.saves_nothing-requires-clause-apart
saves_nothing-requires-clause-apart c = elim c.if-leaves_apart.branch [
  | then-leaves_apart w ↦ λ h.
      let graph = c.args.graph.now in
      let leaves = c.args.cut.leaves.now in
      let all = c.as_slice-all.result.now in
      let levels = c.leaves_apart-leaves_apart.ensures w.if-leaves_apart.true in
      let within = w.names_within-apart.ensures (sym w.apart-is ∙ h) in
      let one : IsApartPlan within.0 c.index-all-i.result = subst (IsApartPlan within.0) (sym c.index-all-i.is)
      (c.as_slice-all.ensures.apart c.loop-i.i c.index-all-i.result within.0 (omega (arith, c.loop-i-test.true)) (ap (λ (said : List (Option AllNew)). get_or said c.loop-i.i None) (sym c.as_slice-told.ensures.value) ∙ within.1)) in
      let over : IsApartOver graph.rows leaves c.candidate-candidate.result.plan.now = (within.0, subst (IsApartPlan within.0) (sym c.candidate-candidate.ensures.plan) one, within.2, levels) in
      subst (λ (ls : List ℕ). IsApartOver graph.rows ls c.candidate-candidate.result.plan.now) (sym c.candidate-candidate.ensures.leaves) over
  | else-leaves_apart w ↦ λ h. absurd (cc (w.apart-is, h))
]

pub loop-i-preserved : goal.loop-i-preserved
loop-i-preserved c =
    let graph = c.args.graph.now in
    let all = c.as_slice-all.result.now in
    let f : Plan → Replacement = λ p. over c.args.cut.root c.args.cut.leaves.now (built_of p) in
    let here : SavesNothing graph.rows graph.observed (f c.index-all-i.result) =
    subst (SavesNothing graph.rows graph.observed) c.candidate-candidate.ensures.is (c.in_ok-saves.ensures.none (search rules)) in
    record {
      none = λ k d le lt. elim (cases_lt k c.loop-i.i) [
        | inl less ↦ c.loop-i.invariant.none k d le less
        | inr ge ↦
            let same : c.loop-i.i ≡ k = omega (arith, ge, lt) in
            let item : c.index-all-i.result ≡ get_or all k d = c.index-all-i.is ∙ get_or_default all c.loop-i.i c.index-all-i.result d (omega (arith, c.loop-i-test.true)) ∙ ap (λ (j : ℕ). get_or all j d) same in
            subst (λ (p : Plan). SavesNothing graph.rows graph.observed (f p)) item here
      ];
      begins = elim c.else-plans.branch [
        | else-plans-via-then-plans+in_ok-saves_nothing+else-branch w ↦
            let four : c.candidate-candidate.result.plan.now.leaves ≡ 4 = ap (λ (r : Replacement). r.count) c.candidate-candidate.ensures.is in
            subst (BeginsWith 4 c.args.cut.leaves.now) (sym w.weighed-is)
            (subst (λ (ls : List ℕ). BeginsWith 4 ls w.saves_nothing.new.weighed) c.candidate-candidate.ensures.leaves
            (subst (λ (n : ℕ). BeginsWith n c.candidate-candidate.result.leaves.now w.saves_nothing.new.weighed) four w.in_ok-saves_nothing.ensures.begins))
        | else-plans-via-else-plans w ↦ subst (BeginsWith 4 c.args.cut.leaves.now) (sym w.weighed-is) c.loop-i.invariant.begins
      ];
    }
