use Rattle.std.proofs.Common.{ℕ, List, length, ap, sym, ◌∙◌, subst}
use Rattle.std.proofs.lemmas.Bool.{both_ways}
use Rattle.syn_rows.specs.declared.Row.{Row}
use Rattle.syn_paths.specs.Tops.{label_in}
use Rattle.syn_flow.specs.Checks.{AllFit}
use Rattle.syn_flow.proofs.Witnessed.{certified_by, unlike_fit, unlike_long}
use Rattle.syn_flow.proofs.certificate.check_paths.Goals as goal

pub noted-requires-clause-hashed : goal.noted-requires-clause-hashed
noted-requires-clause-hashed c = rw c.as_slice-rows.ensures (c.args.graph.now.source_count, c.args.graph.now.graph.hashed)

pub noted-requires-clause-fit : goal.noted-requires-clause-fit
noted-requires-clause-fit c = c.fit_rows-fit.ensures.0 c.if-fit.true

pub returns-then-labels-rows : goal.returns-then-labels-rows
returns-then-labels-rows c =
    unlike_long c.args.k c.args.graph.now.rows c.args.proof.now (λ e. c.if-labels-rows.true (ap (λ (l : List ℕ). length l) c.as_slice-labels.ensures ∙ e ∙ sym (ap (λ (r : List Row). length r) c.as_slice-rows.ensures)))

pub returns-then-fit : goal.returns-then-fit
returns-then-fit c =
    certified_by c.args.k c.args.graph.now.rows c.args.proof.now c.as_slice-rows.result.now c.as_slice-labels.result.now c.as_slice.result.now c.as_slice-then-fit.result.now c.in_ok-marks.marks.items c.all_marked.result
    c.as_slice-rows.ensures c.as_slice-labels.ensures c.as_slice.ensures c.as_slice-then-fit.ensures.value c.if-labels-rows.false (c.fit_rows-fit.ensures.0 c.if-fit.true) c.in_ok-marks.ensures.noted c.all_marked.ensures

pub returns : goal.returns
returns c =
    unlike_fit c.args.k c.args.graph.now.rows c.args.proof.now (λ fit. both_ways c.fit_rows-fit.result c.if-fit.false (c.fit_rows-fit.ensures.1
    (subst (λ (l : List ℕ). AllFit c.as_slice-rows.result.now (label_in l)) (sym c.as_slice-labels.ensures) (subst (λ (r : List Row). AllFit r (label_in c.args.proof.now.labels)) (sym c.as_slice-rows.ensures) fit))))
