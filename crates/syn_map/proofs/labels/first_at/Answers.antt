use Rattle.std.proofs.Common.{◌≡◌, ℕ, List, nat_eq, sym, ap, ◌∙◌, eq-eqb}
use Rattle.std.proofs.lemmas.Bool.{eqb-true, false_from_ne_true}
use Rattle.syn_rows.specs.Levels.{level_in}
use Rattle.syn_cuts.specs.Leaves.{leaves, leaves_of}
use Rattle.syn_lutnet.specs.LutData.{greatest}
use Rattle.syn_map.specs.Labels.{first_at}
use Rattle.syn_map.proofs.Leastness.{first_here, first_next}
use Rattle.syn_map.proofs.labels.first_at.Goals as goal

pub returns-then-greatest_depth-level : goal.returns-then-greatest_depth-level
returns-then-greatest_depth-level c =
    let label : ℕ → ℕ = level_in c.args.labels.now in
    let all : List ℕ = first_at c.args.level label (leaves_of c.args.cuts.now) in
    let is : greatest label (leaves c.cut-item.result) ≡ c.greatest_depth.result = sym (c.greatest_depth.ensures ∙ ap (greatest label) c.as_slice.ensures.value) in
    c.as_slice-then-greatest_depth-level.ensures.value
    ∙ first_here c.args.level label c.args.cuts.now c.loop-cut.cut-index c.cut-item.result all c.loop-cut-test.true c.cut-item.is
    (eq-eqb (greatest label (leaves c.cut-item.result)) c.args.level (is ∙ c.if-greatest_depth-level.true)) c.loop-cut.invariant

pub loop-cut-preserved : goal.loop-cut-preserved
loop-cut-preserved c =
    let label : ℕ → ℕ = level_in c.args.labels.now in
    let all : List ℕ = first_at c.args.level label (leaves_of c.args.cuts.now) in
    let is : greatest label (leaves c.cut-item.result) ≡ c.greatest_depth.result = sym (c.greatest_depth.ensures ∙ ap (greatest label) c.as_slice.ensures.value) in
    first_next c.args.level label c.args.cuts.now c.loop-cut.cut-index c.cut-item.result all c.loop-cut-test.true c.cut-item.is
    (false_from_ne_true (nat_eq (greatest label (leaves c.cut-item.result)) c.args.level) (λ e. c.if-greatest_depth-level.false (sym is ∙ eqb-true (greatest label (leaves c.cut-item.result)) c.args.level e))) c.loop-cut.invariant
