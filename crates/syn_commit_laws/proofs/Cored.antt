-- What a sound core adds to a seat's view, and the whole law among the events of all seats.
use Rattle.std.proofs.Common.{◌++◌, ◌⊎◌, All, ◌≡◌, ◌≢◌, ℕ, ◌<◌, Bool, true, false, if◌then◌else◌, List, [], ◌∷◌, length, set, get_or, length-set, Some, refl, sym, ap, ◌∙◌, subst, arith, inl, inr}
use Rattle.std.proofs.lemmas.Bool.{cases_eq, eq-eqb, ne_eqb}
use mathlib.Core.Option.{some}
use lib.ListN.{get_elem?}
use Rattle.syn_rows.specs.declared.Row.TheVariants.{Free}
use Rattle.syn_rows.specs.Rows.{row_at}
use Rattle.syn_core_laws.specs.declared.View.{View}
use Rattle.syn_core_laws.specs.declared.Change.{Change}
use Rattle.syn_core_laws.specs.declared.Event.{Event}
use Rattle.syn_core_laws.specs.declared.EventKind.{EventKind}
use Rattle.syn_core_laws.specs.declared.EventKind.TheVariants as Kind
use Rattle.syn_rows.specs.Nodes.{has_node}
use Rattle.syn_rows.specs.Rows.{is_derived}
use Rattle.syn_core_laws.specs.Views.{claimed, missed, released, row_loaded, pinned, unpinned, count_loaded, key_loaded, key_set, made, redefined, freed}
use Rattle.syn_core_laws.specs.Cores.{Core}
use Rattle.syn_core_laws.specs.Events.{May, event_node, after}
use Rattle.syn_core_laws.specs.Sound.{IsSound}
use Rattle.syn_core_laws.specs.Runs.{Runs}
use Rattle.syn_core_laws.proofs.Listing.{at_one, set_else, set_there}
use Rattle.syn_core_laws.proofs.Showing.{counts_cover_seats, seats_are_shown}
use Rattle.syn_core_laws.proofs.Laws.{events_keep_sound, runs_keep_sound}
use Rattle.syn_core_laws.specs.Shown.{HasNoCircle}
use Rattle.syn_commit_laws.specs.Turning.{loads, HasCount, Turns, makes, TurnsAll, CommitsAll}
use Rattle.syn_commit_laws.specs.Dying.{IsLoaded, AreDoomed}
use Rattle.syn_commit_laws.specs.Freeing.{IsTold, IsFreed}
use Rattle.syn_commit_laws.specs.Running.{own, CommitsAlong}
use Rattle.syn_commit_laws.specs.Laws.{EventsTurn, OthersStay, NodesStay, RunsTurn, DyingRowsAreFreed, ReadsCount, CommittedRowsAreFreed}
use Rattle.syn_commit_laws.proofs.Deaths.{loads_tell, dying_are_doomed}
use Rattle.std.proofs.lemmas.List.{append_cancel_left}
use Rattle.syn_core_laws.specs.declared.Seen.{Seen}
use Rattle.syn_commit_laws.proofs.Goings.{commits_free}

module _ (c : Core) (id : ℕ) (v : View) (s : IsSound c) (at : get_elem? c.seats id ≡ some v) where
  abbrev Turned : EventKind → Type 0
  Turned e = (w : View) × (get_elem? (after c id v e).seats id ≡ some w) × Turns (length c.rows) v e w

  turned : (e : EventKind) → event_node e < length c.rows → May c v e → Turned e
  turned (Kind.Claim n) there may = (claimed v n, set_there c.seats id v (claimed v n) at, refl)
  turned (Kind.ClaimFailed n) there may = (missed v n, set_there c.seats id v (missed v n) at, refl)
  turned (Kind.Release n) there may = (released v n, set_there c.seats id v (released v n) at, refl)
  turned (Kind.LoadRow n) there may = (row_loaded v n (row_at c.rows n), set_there c.seats id v (row_loaded v n (row_at c.rows n)) at, (row_at c.rows n, refl))
  turned (Kind.Pin n) there may = (pinned v n, set_there c.seats id v (pinned v n) at, refl)
  turned (Kind.Unpin n) there may = (
    unpinned v n (get_or c.counts n 0),
    set_there c.seats id v (unpinned v n (get_or c.counts n 0)) at,
    (get_or c.counts n 0, may, λ h. ((s.seats id v at).soles n h).2, refl),
  )
  turned (Kind.LoadCount n) there may = (
    count_loaded (length c.rows) v n (get_or c.counts n 0),
    set_there c.seats id v (count_loaded (length c.rows) v n (get_or c.counts n 0)) at,
    (get_or c.counts n 0, counts_cover_seats c id v n s at, refl),
  )
  turned (Kind.LoadKey n) there may = (key_loaded v n (get_or c.keys n 0), set_there c.seats id v (key_loaded v n (get_or c.keys n 0)) at, (get_or c.keys n 0, refl))
  turned (Kind.SetKey n key) there may = (key_set v n key, set_there c.seats id v (key_set v n key) at, refl)
  turned (Kind.Make n row) there may = (made v n row, set_there c.seats id v (made v n row) at, (there, may.0, may.2.0, refl))
  turned (Kind.Redefine n row over) there may =
      let m = may.1 in
      let is : row_at c.rows n ≡ may.0 = ((s.seats id v at).knows_rows n may.0 m.0).1 in
      (redefined v n (row_at c.rows n) row, set_there c.seats id v (redefined v n (row_at c.rows n) row) at, (row_at c.rows n, there, m.0 ∙ ap Some (sym is), m.2, m.3.0, refl))
  turned (Kind.Free n) there may =
      let gate = ((s.seats id v at).idles n may.0).0 in
      let is : row_at c.rows n ≡ gate.0 = ((s.seats id v at).knows_rows n gate.0 gate.1).1 in
      (freed v n (row_at c.rows n), set_there c.seats id v (freed v n (row_at c.rows n)) at, (row_at c.rows n, there, gate.1 ∙ ap Some (sym is), ap is_derived is ∙ gate.2, omega (arith, counts_cover_seats c id v n s at, ((s.seats id v at).idles n may.0).1), may.0, refl))

pub events_turn : EventsTurn
events_turn c e d v s step at =
    let t : Turned c e.seat step.0 s step.1 e.kind = turned c e.seat step.0 s step.1 e.kind step.3 step.4 in
    subst (λ u. (w : View) × (get_elem? d.seats e.seat ≡ some w) × Turns (length c.rows) u e.kind w) (at_one c.seats e.seat step.0 v step.1 at)
    (t.0, ap (λ (z : Core). get_elem? z.seats e.seat) step.5 ∙ t.1, t.2)

-- ---- what an event leaves
one_seat : (c : Core) (id : ℕ) (v : View) (e : EventKind) → (w : View) × ((after c id v e).seats ≡ set c.seats id w)
one_seat c id v (Kind.Claim n) = (claimed v n, refl)
one_seat c id v (Kind.ClaimFailed n) = (missed v n, refl)
one_seat c id v (Kind.Release n) = (released v n, refl)
one_seat c id v (Kind.LoadRow n) = (row_loaded v n (row_at c.rows n), refl)
one_seat c id v (Kind.Pin n) = (pinned v n, refl)
one_seat c id v (Kind.Unpin n) = (unpinned v n (get_or c.counts n 0), refl)
one_seat c id v (Kind.LoadCount n) = (count_loaded (length c.rows) v n (get_or c.counts n 0), refl)
one_seat c id v (Kind.LoadKey n) = (key_loaded v n (get_or c.keys n 0), refl)
one_seat c id v (Kind.SetKey n key) = (key_set v n key, refl)
one_seat c id v (Kind.Make n row) = (made v n row, refl)
one_seat c id v (Kind.Redefine n row over) = (redefined v n (row_at c.rows n) row, refl)
one_seat c id v (Kind.Free n) = (freed v n (row_at c.rows n), refl)

pub others_stay : OthersStay
others_stay c e d j u step ne there =
    let t : (w : View) × ((after c e.seat step.0 e.kind).seats ≡ set c.seats e.seat w) = one_seat c e.seat step.0 e.kind in
    ap (λ (z : Core). get_elem? z.seats j) step.5 ∙ (ap (λ l. get_elem? l j) t.1 ∙ (set_else c.seats e.seat j t.0 ne ∙ there))

rows_after : (c : Core) (id : ℕ) (v : View) (e : EventKind) → length (after c id v e).rows ≡ length c.rows
rows_after c id v (Kind.Claim n) = refl
rows_after c id v (Kind.ClaimFailed n) = refl
rows_after c id v (Kind.Release n) = refl
rows_after c id v (Kind.LoadRow n) = refl
rows_after c id v (Kind.Pin n) = refl
rows_after c id v (Kind.Unpin n) = refl
rows_after c id v (Kind.LoadCount n) = refl
rows_after c id v (Kind.LoadKey n) = refl
rows_after c id v (Kind.SetKey n key) = refl
rows_after c id v (Kind.Make n row) = length-set c.rows n row
rows_after c id v (Kind.Redefine n row over) = length-set c.rows n row
rows_after c id v (Kind.Free n) = length-set c.rows n Free

pub nodes_stay : NodesStay
nodes_stay c e d step = ap (λ (z : Core). length z.rows) step.5 ∙ rows_after c e.seat step.0 e.kind

-- ---- lists of events
own_here : (id : ℕ) (e : Event) (es : List Event) → e.seat ≡ id → own id (e ∷ es) ≡ e.kind ∷ own id es
own_here id e es same = ap (λ b. if b then e.kind ∷ own id es else own id es) (eq-eqb e.seat id same)

own_else : (id : ℕ) (e : Event) (es : List Event) → e.seat ≢ id → own id (e ∷ es) ≡ own id es
own_else id e es ne = ap (λ b. if b then e.kind ∷ own id es else own id es) (ne_eqb e.seat id ne)

pub runs_turn : RunsTurn
runs_turn c [] d id v s run at = (v, ap (λ (z : Core). get_elem? z.seats id) run ∙ at, refl)
runs_turn c (e ∷ es) d id v s run at =
    let next : Core = run.0 in
    let sound : IsSound next = events_keep_sound c e next s run.1 in
    let size : length next.rows ≡ length c.rows = nodes_stay c e next run.1 in
    elim (cases_eq e.seat id) [
      | inl same ↦
          let one : (u : View) × (get_elem? next.seats e.seat ≡ some u) × Turns (length c.rows) v e.kind u = events_turn c e next v s run.1 (ap (get_elem? c.seats) same ∙ at) in
          let rest : (w : View) × (get_elem? d.seats id ≡ some w) × TurnsAll (length next.rows) one.0 (own id es) w = runs_turn next es d id one.0 sound run.2 (ap (get_elem? next.seats) (sym same) ∙ one.1) in
          (rest.0, rest.1, subst (λ l. TurnsAll (length c.rows) v l rest.0) (sym (own_here id e es same)) (one.0, one.2, subst (λ k. TurnsAll k one.0 (own id es) rest.0) size rest.2))
      | inr ne ↦
          let rest : (w : View) × (get_elem? d.seats id ≡ some w) × TurnsAll (length next.rows) v (own id es) w = runs_turn next es d id v sound run.2 (others_stay c e next id v run.1 (λ same. ne (sym same)) at) in
          (rest.0, rest.1, subst (λ l. TurnsAll (length c.rows) v l rest.0) (sym (own_else id e es ne)) (subst (λ k. TurnsAll k v (own id es) rest.0) size rest.2))
    ]

-- the same of a commit
commits_turn : (c : Core) (es : List Event) (d : Core) (id root : ℕ) (dying : ℕ → Bool) (v : View) → IsSound c → CommitsAlong id root dying c es d → get_elem? c.seats id ≡ some v
    → (w : View) × (get_elem? d.seats id ≡ some w) × IsSound d × (length d.rows ≡ length c.rows) × CommitsAll (length c.rows) root dying v (own id es) w
commits_turn c [] d id root dying v s run at = (v, ap (λ (z : Core). get_elem? z.seats id) run ∙ at, subst IsSound (sym run) s, ap (λ (z : Core). length z.rows) run, refl)
commits_turn c (e ∷ es) d id root dying v s run at =
    let next : Core = run.0 in
    let sound : IsSound next = events_keep_sound c e next s run.1 in
    let size : length next.rows ≡ length c.rows = nodes_stay c e next run.1 in
    elim (cases_eq e.seat id) [
      | inl same ↦
          let one : (u : View) × (get_elem? next.seats e.seat ≡ some u) × Turns (length c.rows) v e.kind u = events_turn c e next v s run.1 (ap (get_elem? c.seats) same ∙ at) in
          let rest : (w : View) × (get_elem? d.seats id ≡ some w) × IsSound d × (length d.rows ≡ length next.rows) × CommitsAll (length next.rows) root dying one.0 (own id es) w =
          commits_turn next es d id root dying one.0 sound run.3 (ap (get_elem? next.seats) (sym same) ∙ one.1) in (
            rest.0,
            rest.1,
            rest.2,
            rest.3 ∙ size,
            subst (λ l. CommitsAll (length c.rows) root dying v l rest.0) (sym (own_here id e es same))
                (one.0, one.2, run.2 same v at, subst (λ k. CommitsAll k root dying one.0 (own id es) rest.0) size rest.4),
          )
      | inr ne ↦
          let rest : (w : View) × (get_elem? d.seats id ≡ some w) × IsSound d × (length d.rows ≡ length next.rows) × CommitsAll (length next.rows) root dying v (own id es) w =
          commits_turn next es d id root dying v sound run.3 (others_stay c e next id v run.1 (λ same. ne (sym same)) at) in (
            rest.0,
            rest.1,
            rest.2,
            rest.3 ∙ size,
            subst (λ l. CommitsAll (length c.rows) root dying v l rest.0) (sym (own_else id e es ne)) (subst (λ k. CommitsAll k root dying v (own id es) rest.0) size rest.4),
          )
    ]

pub dying_rows_are_freed : DyingRowsAreFreed
dying_rows_are_freed c es d id root dying v w s run at there doom pins idle spares =
    let t : (u : View) × (get_elem? d.seats id ≡ some u) × IsSound d × (length d.rows ≡ length c.rows) × CommitsAll (length c.rows) root dying v (own id es) u = commits_turn c es d id root dying v s run at in
    let same : t.0 ≡ w = at_one d.seats id t.0 w t.1 there in
    let ends : (changes : List Change) × IsTold v (makes (own id es)) changes w × IsFreed (length c.rows) dying v changes w =
    commits_free (length c.rows) root dying v w (own id es) doom (subst (λ u. CommitsAll (length c.rows) root dying v (own id es) u) same t.4) pins idle (subst (λ k. HasNoCircle k w) t.3 (seats_are_shown d id w t.2 there).no_circle) spares in (
      ends.0,
      ends.1,
      ends.2,
      λ m h. elim (ends.2.gone m h) [
        | inl free ↦ inl ((t.2.seats id w there).knows_rows m Free free).1
        | inr off ↦ inr off.1
      ],
    )

-- ---- from before the loads
runs_nodes : (c : Core) (es : List Event) (d : Core) → Runs c es d → length d.rows ≡ length c.rows
runs_nodes c [] d run = ap (λ (z : Core). length z.rows) run
runs_nodes c (e ∷ es) d run = runs_nodes run.0 es d run.2 ∙ nodes_stay c e run.0 run.1

counts_loaded : (nodes : ℕ) (v : View) (reads : List Seen) → All (HasCount nodes v) reads → (m x : ℕ) → ReadsCount reads m x → IsLoaded nodes v m x
counts_loaded nodes v reads all m x t = (subst (HasCount nodes v) t.3 (all t.0 (Seen.Miss 0) t.2)).0

pub committed_rows_are_freed : CommittedRowsAreFreed
committed_rows_are_freed b c d before after id root ns counts may dying u v w reads s run at_u at_v only_loads is_read told walk dies commits at_w pins idle spares =
    let nodes : ℕ = length b.rows in
    let sound : IsSound c = runs_keep_sound b before c s run in
    let size : length c.rows ≡ length b.rows = runs_nodes b before c run in
    let t : (z : View) × (get_elem? c.seats id ≡ some z) × TurnsAll (length b.rows) u (own id before) z = runs_turn b before c id u s run at_u in
    let same : t.0 ≡ v = at_one c.seats id t.0 v t.1 at_v in
    let turns : TurnsAll (length b.rows) u (loads ns) v = subst (λ l. TurnsAll (length b.rows) u l v) only_loads (subst (λ z. TurnsAll (length b.rows) u (own id before) z) same t.2) in
    let l : (v.rows ≡ u.rows) × (v.pins ≡ u.pins) × (reads : List Seen) × (v.reads ≡ u.reads ++ reads) × All (HasCount (length b.rows) v) reads = loads_tell (length b.rows) u v ns turns in
    let is : l.2 ≡ reads = append_cancel_left u.reads l.2 reads (sym l.3 ∙ is_read) in
    let all : All (HasCount (length b.rows) v) reads = subst (λ (rs : List Seen). All (HasCount (length b.rows) v) rs) is l.4 in
    let doom : AreDoomed (length b.rows) root dying v = dying_are_doomed (length b.rows) v counts root may dying walk (λ m can. counts_loaded (length b.rows) v reads all m (counts m) (told m can)) dies in
    let ends : (changes : List Change) × IsTold v (makes (own id after)) changes w × IsFreed (length c.rows) dying v changes w × ((m : ℕ) → dying m ≡ true → (row_at d.rows m ≡ Free) ⊎ (has_node w.held m ≡ false)) =
    dying_rows_are_freed c after d id root dying v w sound commits at_v at_w (subst (λ k. AreDoomed k root dying v) (sym size) doom) pins idle spares in
    (ends.0, ends.1, subst (λ k. IsFreed k dying v ends.0 w) size ends.2, ends.3)
