-- A worked redefine, on the rows and the proposal of the worked reads: 6 = And(9, 11), 4 = And(2, 4), 5 = And(2, 6); gates !b & !c and a & !gate1.
use Rattle.std.specs.Prelude.{◌≡◌, ◌+◌, ◌*◌, List, [], ◌∷◌}
use Rattle.syn_core_laws.specs.declared.View.{View}
use Rattle.syn_core_laws.specs.Openings.{empty_view}
use Rattle.syn_decide.specs.declared.decisions.NodeRow.{NodeRow}
use Rattle.syn_decide.specs.Hints.{first_new, new_root_row, placed_by_hits, rows_needed}
use Rattle.syn_decide.specs.Fitting.{IsFitting}
use Rattle.syn_decide.specs.Worked.{alias, and, asked, proposal, task}
use Rattle.syn_commit_laws.specs.Redefining.{AreStored, IsInOrder, met_leaves, row_made}

-- the inner rows
abbrev pub inner : List NodeRow
inner = record { node = 6; row = and 9 11 } ∷ record { node = 4; row = and 2 4 } ∷ record { node = 5; row = and 2 6 } ∷ []

-- node 7 is And(5, 7), as a hit
abbrev pub hit : List NodeRow
hit = record { node = 7; row = and 5 7 } ∷ []

-- a seat that knows the inner rows, with both gates' rows at 7 and 8
abbrev pub knowing : View
knowing = record (empty_view 0) { rows = (8, and 2 15) ∷ (7, and 5 7) ∷ (6, and 9 11) ∷ (4, and 2 4) ∷ (5, and 2 6) ∷ [] }

pub record WorkedRedefine : Type 0 where
  -- without hits the two gates' rows are at 7 and 8, and the root becomes an alias of the complement of 8
  pub in_order : IsInOrder (task 512)
  pub fitting : IsFitting (task 512) inner
  pub stored : AreStored (task 512) inner [] (7 ∷ 8 ∷ []) knowing
  pub root : row_made (7 ∷ 8 ∷ []) (new_root_row (task 512) (placed_by_hits (task 512) [])) ≡ alias 17
  -- with node 7 as a hit one gate's row is left, at 8
  pub one_row : rows_needed (task 512) (placed_by_hits (task 512) hit) ≡ 1
  pub with_hit : AreStored (task 512) inner hit (8 ∷ []) knowing
  pub root_with_hit : row_made (8 ∷ []) (new_root_row (task 512) (placed_by_hits (task 512) hit)) ≡ alias 17
  -- an output that is the last gate, uncomplemented: its row becomes the root's
  pub root_takes_last : row_made (7 ∷ []) (new_root_row (asked (proposal 10) 512) (placed_by_hits (asked (proposal 10) 512) [])) ≡ and 2 15
  -- a new gate's literal comes first where its node is the smaller one
  pub turned : row_made (7 ∷ []) (and 18 (2 * first_new + 1)) ≡ and 15 18
  -- each leaf is met
  pub leaves : met_leaves (task 512) inner ≡ 1 ∷ 2 ∷ 3 ∷ []
