use Rattle.std.proofs.Common.{◌≡◌, ◌<◌, ℕ, true}
use Rattle.syn_rows.specs.Rows.{row_at}
use Rattle.syn_paths.specs.Tops.{label_in}
use Rattle.syn_flow.specs.Checks.{fits_row}
use Rattle.syn_flow.proofs.certificate.fit_rows.Given as goal

abbrev pub invariant-loop-n : goal.invariant-loop-n
invariant-loop-n l = (m : ℕ) → m < l.n → fits_row (label_in l.labels) m (row_at l.rows m) ≡ true
