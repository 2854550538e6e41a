use Rattle.std.proofs.Common.{◌≡◌, ◌-◌, List, length, if◌then◌else◌, refl, ap, ap₂, ◌∙◌, arith}
use Rattle.syn_rows.specs.declared.Lit.{Lit}
use Rattle.syn_rows.specs.declared.Row.{Row}
use Rattle.syn_gain.specs.Placing.{literal_for}
use Rattle.syn_decide.specs.declared.decisions.NodeRow.{NodeRow}
use Rattle.syn_decide.specs.Fold.{freed_by}
use Rattle.syn_decide.specs.Hints.{is_last_new, placed_by_hits, rows_needed}
use Rattle.syn_decide.specs.Tasks.{task_of}
use Rattle.syn_decide.specs.Phases.{state_at}
use Rattle.syn_decide.proofs.Answering.{concluded_low, concluded_high}
use Rattle.syn_decide.proofs.answers.conclude.Goals as goal

pub returns-then-freed-added : goal.returns-then-freed-added
returns-then-freed-added c = λ stage.
    let t = task_of c.args.attempt.now in
    let hits = c.args.found.now.hits.items in
    let extra : c.place.new.placed.extra.items ≡ (placed_by_hits t hits).extra = c.place.ensures.extra ∙ ap (λ (h : List NodeRow). (placed_by_hits t h).extra) c.as_slice-hits.ensures.value in
    concluded_low t (state_at stage c.args.inner.now c.args.found.now) c.freed_by-freed.result c.len-added.result c.least_gain.result (placed_by_hits t hits)
    (c.freed_by-freed.ensures ∙ ap₂ (freed_by c.args.inner.now) c.as_slice-hits.ensures.value c.as_slice.ensures.value) refl
    (omega (arith, c.len-added.ensures.value, ap length extra)) c.least_gain.ensures.least c.if-freed-added.true

pub returns : goal.returns
returns c = λ stage.
    let t = task_of c.args.attempt.now in
    let hits = c.args.found.now.hits.items in
    let literals : c.place.new.placed.literals.items ≡ (placed_by_hits t hits).literals = c.place.ensures.literals ∙ ap (λ (h : List NodeRow). (placed_by_hits t h).literals) c.as_slice-hits.ensures.value in
    let extra : c.place.new.placed.extra.items ≡ (placed_by_hits t hits).extra = c.place.ensures.extra ∙ ap (λ (h : List NodeRow). (placed_by_hits t h).extra) c.as_slice-hits.ensures.value in
    c.by_gap.ensures stage c.args.inner.now
    ∙ concluded_high t (state_at stage c.args.inner.now c.args.found.now) c.freed_by-freed.result c.len-added.result c.least_gain.result c.rows_needed-need.result (placed_by_hits t hits)
    (c.freed_by-freed.ensures ∙ ap₂ (freed_by c.args.inner.now) c.as_slice-hits.ensures.value c.as_slice.ensures.value) refl
    (omega (arith, c.len-added.ensures.value, ap length extra)) c.least_gain.ensures.least c.if-freed-added.false
    (c.rows_needed-need.ensures ∙ ap₂ (λ (e : List Row) (l : List Lit). length e - (if is_last_new e (literal_for l t.proposal.out) then 1 else 0)) extra literals)
