use Rattle.std.proofs.Common.{rules, List, ℕ, Option, refl, ap, ap₂}
use Rattle.std.specs.Io.KnownBytes.{prepend_known}
use Rattle.syn_io.specs.RealLines.{known_left, unread}
use Rattle.syn_io.proofs.LineParts.{begun_kept, left_ended, line_ended, line_longer, Step, step_left, step_line, step_more}
use Rattle.syn_io.proofs.real_lines.RealLines.take_line.Goals as goal

pub returns-then-not-branch-clause-line : goal.returns-then-not-branch-clause-line
returns-then-not-branch-clause-line g c =
    let first : Option (List ℕ) = known_left g.R.Read.remaining c.args.self.now in
    let before : Option (List ℕ) = known_left g.R.Read.remaining c.loop.self in
    let now : Option (List ℕ) = known_left g.R.Read.remaining c.fill.new.self in
    line_ended first now c.loop.line.items (begun_kept first before now c.loop.line.items c.loop.invariant.begun c.in_ok-fill.ensures.kept) (c.in_ok-fill.ensures.end (search rules)) (search rules)

pub returns-then-not-branch-clause-left : goal.returns-then-not-branch-clause-left
returns-then-not-branch-clause-left g c =
    let first : Option (List ℕ) = known_left g.R.Read.remaining c.args.self.now in
    let before : Option (List ℕ) = known_left g.R.Read.remaining c.loop.self in
    let now : Option (List ℕ) = known_left g.R.Read.remaining c.fill.new.self in
    left_ended first now c.loop.line.items (begun_kept first before now c.loop.line.items c.loop.invariant.begun c.in_ok-fill.ensures.kept) (c.in_ok-fill.ensures.end (search rules))

pub returns-in_err-take_part-clause-too_long : goal.returns-in_err-take_part-clause-too_long
returns-in_err-take_part-clause-too_long g c = λ longer.
    let first : Option (List ℕ) = known_left g.R.Read.remaining c.args.self.now in
    let before : Option (List ℕ) = known_left g.R.Read.remaining c.loop.self in
    let read : Option (List ℕ) = known_left g.R.Read.remaining c.fill.new.self in
    let line : List ℕ = c.loop.line.items in
    line_longer first (g.R.Read.remaining c.fill.new.self.reader) line (unread c.fill.new.self) c.args.limit (begun_kept first before read line c.loop.invariant.begun c.in_ok-fill.ensures.kept) (c.in_err-take_part.ensures.too_long (search rules))

pub returns-then-branch-clause-line : goal.returns-then-branch-clause-line
returns-then-branch-clause-line g c =
    let first : Option (List ℕ) = known_left g.R.Read.remaining c.args.self.now in
    let before : Option (List ℕ) = known_left g.R.Read.remaining c.loop.self in
    let read : Option (List ℕ) = known_left g.R.Read.remaining c.fill.new.self in
    let remaining : Option (List ℕ) = g.R.Read.remaining c.fill.new.self.reader in
    let now : Option (List ℕ) = known_left g.R.Read.remaining c.take_part.new.self in
    let line : List ℕ = c.loop.line.items in
    let part : List ℕ = unread c.fill.new.self in
    let whole : List ℕ = c.take_part.new.line.items in
    let step : Step first before read remaining now line part whole = record {
      so_far = c.loop.invariant.begun;
      kept = c.in_ok-fill.ensures.kept;
      is = refl;
      left = ap₂ prepend_known c.in_ok-take_part.ensures.rest (ap g.R.Read.remaining c.in_ok-take_part.ensures.reader);
      taken = c.in_ok-take_part.ensures.part;
    } in
    step_line first before read remaining now line part whole step (c.in_ok-take_part.ensures.found c.if-branch.true)

pub returns-then-branch-clause-left : goal.returns-then-branch-clause-left
returns-then-branch-clause-left g c =
    let first : Option (List ℕ) = known_left g.R.Read.remaining c.args.self.now in
    let before : Option (List ℕ) = known_left g.R.Read.remaining c.loop.self in
    let read : Option (List ℕ) = known_left g.R.Read.remaining c.fill.new.self in
    let remaining : Option (List ℕ) = g.R.Read.remaining c.fill.new.self.reader in
    let now : Option (List ℕ) = known_left g.R.Read.remaining c.take_part.new.self in
    let line : List ℕ = c.loop.line.items in
    let part : List ℕ = unread c.fill.new.self in
    let whole : List ℕ = c.take_part.new.line.items in
    let step : Step first before read remaining now line part whole = record {
      so_far = c.loop.invariant.begun;
      kept = c.in_ok-fill.ensures.kept;
      is = refl;
      left = ap₂ prepend_known c.in_ok-take_part.ensures.rest (ap g.R.Read.remaining c.in_ok-take_part.ensures.reader);
      taken = c.in_ok-take_part.ensures.part;
    } in
    step_left first before read remaining now line part whole step (c.in_ok-take_part.ensures.found c.if-branch.true)

pub loop-preserved : goal.loop-preserved
loop-preserved g c =
    let first : Option (List ℕ) = known_left g.R.Read.remaining c.args.self.now in
    let before : Option (List ℕ) = known_left g.R.Read.remaining c.loop.self in
    let read : Option (List ℕ) = known_left g.R.Read.remaining c.fill.new.self in
    let remaining : Option (List ℕ) = g.R.Read.remaining c.fill.new.self.reader in
    let now : Option (List ℕ) = known_left g.R.Read.remaining c.take_part.new.self in
    let line : List ℕ = c.loop.line.items in
    let part : List ℕ = unread c.fill.new.self in
    let whole : List ℕ = c.take_part.new.line.items in
    let step : Step first before read remaining now line part whole = record {
      so_far = c.loop.invariant.begun;
      kept = c.in_ok-fill.ensures.kept;
      is = refl;
      left = ap₂ prepend_known c.in_ok-take_part.ensures.rest (ap g.R.Read.remaining c.in_ok-take_part.ensures.reader);
      taken = c.in_ok-take_part.ensures.part;
    } in
    record {
      within = search rules;
      faults = search rules;
      begun = step_more first before read remaining now line part whole step (c.in_ok-take_part.ensures.missing c.if-branch.false);
    }
