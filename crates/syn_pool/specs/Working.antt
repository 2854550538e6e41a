-- Workers at a table, and what their commits leave.
use Rattle.std.specs.Prelude.{◌≡◌, ◌⊎◌, ℕ, ◌+◌, ◌*◌, ◌^◌, ◌≤◌, All, Bool, false, List, [], ◌∷◌, length, pos, ◌+ℤ◌, ◌≤ℤ◌}
use Rattle.syn_rows.specs.declared.TheConstants.{NODE_LIMIT}
use Rattle.syn_graph.specs.declared.Graph.{Graph}
use Rattle.syn_decide.specs.Decided.{Answer}
use Rattle.syn_proposals.specs.declared.gains.Report.{Report}
use Rattle.syn_table.specs.declared.Seat.{Seat}
use Rattle.syn_table.specs.declared.Shared.{Shared}
use Rattle.syn_table.specs.Seating.{IsOf, graph_of, known_of, view_of}
use Rattle.syn_table.specs.Steps.{with_view}
use Rattle.syn_commit.specs.Giving.{HoldsAlone, IsAtRest}
use Rattle.syn_pool.specs.declared.rounds.workers.Worker.{Worker}
use Rattle.syn_pool.specs.Closing.{IsLeft}
use Rattle.syn_pool.specs.Reports.{BeginsAnew, HasTriedAll, IsSum, Sweep, all_answers, all_differences, reported}

-- the seat is one of this table, it holds its spare nodes alone, and nothing is pinned
pub record IsAtWork (shared : Shared) (w : Worker) : Type 0 where
  pub table : IsOf w.seat shared
  pub alone : HoldsAlone w.pool (view_of w.seat)

-- What a worker has since the earlier moment: the same seat with another view; it tried to commit, with these answers, and reports them; the difference in ANDs fell by what the report gained, or more; and where gains of 0 are not enough, no more is done than gained, if it was so before.
pub record HasWorked (zero_gain : Bool) (was now : Worker) : Type 0 where
  pub known : known_of now.seat ≡ with_view (known_of was.seat) (view_of now.seat)
  pub answers : List Answer
  pub tried : HasTriedAll zero_gain answers (view_of was.seat) (view_of now.seat)
  pub report : now.report ≡ reported was.report answers
  pub fell : ((view_of now.seat).difference +ℤ pos now.report.gained) ≤ℤ ((view_of was.seat).difference +ℤ pos was.report.gained)
  pub gains : zero_gain ≡ false → was.report.done ≤ was.report.gained → now.report.done ≤ now.report.gained

-- What a seat at rest has done, and those that were split from it and joined again: it is at rest again; what it met and stored it met and stored by its own attempts; its difference in ANDs is what these and the others' attempts leave together, where each of the others began anew; and the report has the sums of all these attempts.
pub record HasSwept (shared : Shared) (zero_gain : Bool) (was now : Seat) (report : Report) : Type 0 where
  pub table : IsOf now shared
  pub rest : IsAtRest (view_of now)
  pub known : known_of now ≡ with_view (known_of was) (view_of now)
  pub own : Sweep zero_gain
  pub others : List (Sweep zero_gain)
  pub since : (own.before.changes ≡ (view_of was).changes) × (own.before.difference ≡ (view_of was).difference)
  pub until : ((view_of now).changes ≡ own.after.changes) × ((view_of now).reads ≡ own.after.reads)
  pub anew : All BeginsAnew others
  pub difference : (view_of now).difference ≡ own.after.difference +ℤ all_differences others
  pub sums : IsSum (all_answers (own ∷ others)) report
  pub fell : ((view_of now).difference +ℤ pos report.gained) ≤ℤ (view_of was).difference
  pub gains : zero_gain ≡ false → report.done ≤ report.gained

-- What workers report who went over a table of the graph: with its first seat, which had stored nothing, and with those that were split from it and joined again.
pub record IsRoundReport (was : Graph) (zero_gain : Bool) (report : Report) : Type 0 where
  pub shared : Shared
  pub graph : graph_of shared ≡ was
  pub first : Seat
  pub last : Seat
  pub fresh : (view_of first).changes ≡ []
  pub swept : HasSwept shared zero_gain first last report

-- A round: what its workers report, and the graph that their last seat leaves where it closes the table, by its difference in ANDs.
pub record IsRound (was : Graph) (zero_gain : Bool) (report : Report) (now : Graph) : Type 0 where
  pub workers : IsRoundReport was zero_gain report
  pub left : IsLeft was (view_of workers.last).difference now

-- Workers went over a table of the graph, and none of their attempts was done.
pub record NothingDone (was : Graph) (zero_gain : Bool) : Type 0 where
  pub report : Report
  pub round : IsRoundReport was zero_gain report
  pub none : report.done ≡ 0

-- A graph has no room for a table of so many workers: of their spare nodes below the limit of nodes, or of its observed signals.
abbrev pub HasNoRoom : Graph → ℕ → Type 0
HasNoRoom was workers = (NODE_LIMIT ≤ length was.rows + 512 * workers) ⊎ (2 ^ 30 ≤ length was.observed)
