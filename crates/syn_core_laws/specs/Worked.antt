-- Worked lists of events, on a = 1, b = 2, c = 3, 4 = And(2, 4), 5 = And(2, 6), 6 = And(9, 11), observed 13, with two seats.
use Rattle.std.specs.Prelude.{◌≡◌, ℕ, [], ◌∷◌}
use Rattle.syn_rows.specs.declared.Row.{Row}
use Rattle.syn_rows.specs.declared.Row.TheVariants.{Source, And, Alias}
use Rattle.syn_rows.specs.declared.Lit.{Lit}
use Rattle.syn_core_laws.specs.declared.Event.{Event}
use Rattle.syn_core_laws.specs.declared.Seen.TheVariants as Seen
use Rattle.syn_core_laws.specs.declared.EventKind.{EventKind}
use Rattle.syn_core_laws.specs.declared.EventKind.TheVariants as Kind
use Rattle.syn_core_laws.specs.Cores.{Core}
use Rattle.syn_core_laws.specs.Runs.{Runs, FirstForbidden}
use Rattle.syn_core_laws.specs.Openings.{opening_of, empty_view}

abbrev pub lit : ℕ → Lit
lit n = record { 0 = n }

abbrev pub and : ℕ → ℕ → Row
and a b = And (lit a) (lit b)

-- the opening, with nothing spare
abbrev pub start : Core
start = opening_of (Source ∷ Source ∷ Source ∷ Source ∷ and 2 4 ∷ and 2 6 ∷ and 9 11 ∷ []) (lit 13 ∷ []) (0 ∷ 0 ∷ 0 ∷ 0 ∷ 1 ∷ 1 ∷ 2 ∷ []) 0 2

abbrev pub event : ℕ → EventKind → Event
event s k = record { seat = s; kind = k }

pub record Worked : Type 0 where
  pub counts : start.counts ≡ 0 ∷ 2 ∷ 1 ∷ 1 ∷ 1 ∷ 1 ∷ 1 ∷ []
  -- seat 1 fails to claim 6, and all words are the opening's after the release
  pub missed : Runs start (event 0 (Kind.Claim 6) ∷ event 1 (Kind.ClaimFailed 6) ∷ event 0 (Kind.Release 6) ∷ [])
      (record start { seats = empty_view 0 ∷ record (empty_view 1) { misses = 6 ∷ []; reads = Seen.Miss 6 ∷ [] } ∷ [] })
  -- seat 0 lets go what it doesn't hold
  pub lone_release : FirstForbidden start (event 0 (Kind.Release 6) ∷ []) 0
  -- the loaded row is among the reads, and all words are the opening's
  pub loaded : Runs start (event 0 (Kind.Claim 6) ∷ event 0 (Kind.LoadRow 6) ∷ event 0 (Kind.Pin 4) ∷ event 0 (Kind.Unpin 4) ∷ event 0 (Kind.Release 6) ∷ [])
      (record start { seats = record (empty_view 0) { reads = Seen.Row 6 (and 9 11) ∷ [] } ∷ empty_view 1 ∷ [] })
  -- a pin by a row that isn't known
  pub unknown_row : FirstForbidden start (event 0 (Kind.Claim 6) ∷ event 0 (Kind.Pin 4) ∷ []) 1
  -- a redefine of a row that isn't known
  pub unknown_redefine : FirstForbidden start (event 0 (Kind.Claim 6) ∷ event 0 (Kind.Redefine 6 (Alias (lit 8)) (record { items = [] })) ∷ []) 1
  -- the second claim must be a failed one
  pub second_claim : FirstForbidden start (event 0 (Kind.Claim 6) ∷ event 1 (Kind.Claim 6) ∷ []) 1
