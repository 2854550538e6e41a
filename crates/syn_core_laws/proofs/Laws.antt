-- The laws of the core.
use Rattle.std.proofs.Common.{◌≡◌, ◌≢◌, ℕ, zero, suc, ◌-◌, ◌<◌, ◌&&◌, Bool, true, List, [], ◌∷◌, length, get_or, refl, sym, ap, ap₂, ◌∙◌, subst, arith, inr, if◌then◌else◌, nat_eq, not, ◌%◌}
use mathlib.Core.Option.{some}
use lib.ListN.{get_elem?}
use Rattle.syn_rows.specs.declared.Row.{Row}
use Rattle.syn_rows.specs.declared.Row.TheVariants.{Free, Source, And, Alias}
use Rattle.syn_rows.specs.declared.Lit.{Lit}
use Rattle.syn_rows.specs.Rows.{row_at, node_of}
use Rattle.syn_rows.specs.Values.{lit_value, RowFits, Fits, SameSources}
use Rattle.syn_core_laws.specs.declared.View.{View}
use Rattle.syn_core_laws.specs.declared.EventKind.{EventKind}
use Rattle.syn_core_laws.specs.declared.EventKind.TheVariants as Kind
use Rattle.syn_rows.specs.Nodes.{has_node}
use Rattle.syn_core_laws.specs.Views.{redefined, freed}
use Rattle.syn_core_laws.specs.Cores.{Core}
use Rattle.syn_core_laws.specs.Events.{event_node, May, after, row_stored}
use Rattle.syn_core_laws.specs.Sound.{RowRests, IsSound}
use Rattle.syn_core_laws.specs.Runs.{EventsKeepSound, RunsKeepSound, RunsStaySound, SoleCountsStay, SoleCountsStayAlong, OneValuation}
use Rattle.syn_core_laws.proofs.Listing.{set_else}
use Rattle.syn_core_laws.proofs.Claiming.{claim_sound, miss_sound, release_sound, load_row_sound}
use Rattle.syn_core_laws.proofs.Pinning.{pin_sound, unpin_sound, load_count_sound, load_key_sound, count_stays}
use Rattle.syn_core_laws.proofs.Storing.{set_key_sound, make_sound, redefine_sound, free_sound}

pub event_sound : (c : Core) (id : ℕ) (v : View) → IsSound c → get_elem? c.seats id ≡ some v → v.number < 64 → (e : EventKind) → event_node e < length c.rows → May c v e → IsSound (after c id v e)
event_sound c id v s at small (Kind.Claim n) there may = claim_sound c id v s at n small there may.0
event_sound c id v s at small (Kind.ClaimFailed n) there may = miss_sound c id v s at n
event_sound c id v s at small (Kind.Release n) there may = release_sound c id v s at n small may.0 may.1
event_sound c id v s at small (Kind.LoadRow n) there may = load_row_sound c id v s at n may
event_sound c id v s at small (Kind.Pin n) there may = pin_sound c id v s at n small may.0 may.1
event_sound c id v s at small (Kind.Unpin n) there may = unpin_sound c id v s at n small may
event_sound c id v s at small (Kind.LoadCount n) there may = load_count_sound c id v s at n may
event_sound c id v s at small (Kind.LoadKey n) there may = load_key_sound c id v s at n may
event_sound c id v s at small (Kind.SetKey n key) there may = set_key_sound c id v s at n key small may
event_sound c id v s at small (Kind.Make n row) there may = make_sound c id v s at small n row may.0 may.1 may.2
event_sound c id v s at small (Kind.Redefine n row over) there may =
    let old : Row = may.0 in
    let m = may.1 in
    subst (λ o. IsSound (row_stored c id (redefined v n o row) n row)) (sym ((s.seats id v at).knows_rows n old m.0).1)
    (redefine_sound c id v s at small n old row over.items m.0 m.1 m.2 m.3 m.4 m.6)
event_sound c id v s at small (Kind.Free n) there may =
    let gate = ((s.seats id v at).idles n may.0).0 in
    subst (λ o. IsSound (row_stored c id (freed v n o) n Free)) (sym ((s.seats id v at).knows_rows n gate.0 gate.1).1)
    (free_sound c id v s at small n gate.0 gate.1 may.0 (may.1 gate.0 gate.1))

pub events_keep_sound : EventsKeepSound
events_keep_sound c e d s step = subst IsSound (sym step.5) (event_sound c e.seat step.0 s step.1 step.2 e.kind step.3 step.4)

pub runs_keep_sound : RunsKeepSound
runs_keep_sound c [] d s run = subst IsSound (sym run) s
runs_keep_sound c (e ∷ es) d s run = runs_keep_sound run.0 es d (events_keep_sound c e run.0 s run.1) run.2

pub runs_stay_sound : RunsStaySound
runs_stay_sound c [] s = s
runs_stay_sound c (e ∷ es) s = (s, λ next step. runs_stay_sound next es (events_keep_sound c e next s step))

-- ---- a sole node's count
counts_stay : (c : Core) (id : ℕ) (v : View) → IsSound c → get_elem? c.seats id ≡ some v → v.number < 64 → (e : EventKind) → May c v e
    → (j : ℕ) (u : View) (m : ℕ) → j ≢ id → get_elem? c.seats j ≡ some u → has_node u.sole m ≡ true → get_or (after c id v e).counts m 0 ≡ get_or c.counts m 0
counts_stay c id v s at small (Kind.Claim n) may j u m ne there h = refl
counts_stay c id v s at small (Kind.ClaimFailed n) may j u m ne there h = refl
counts_stay c id v s at small (Kind.Release n) may j u m ne there h = refl
counts_stay c id v s at small (Kind.LoadRow n) may j u m ne there h = refl
counts_stay c id v s at small (Kind.Pin n) may j u m ne there h = count_stays c id v s at n m j (suc (get_or c.counts n 0)) u small may.0 ne there h
counts_stay c id v s at small (Kind.Unpin n) may j u m ne there h = count_stays c id v s at n m j (get_or c.counts n 0 - 1) u small (inr may) ne there h
counts_stay c id v s at small (Kind.LoadCount n) may j u m ne there h = refl
counts_stay c id v s at small (Kind.LoadKey n) may j u m ne there h = refl
counts_stay c id v s at small (Kind.SetKey n key) may j u m ne there h = refl
counts_stay c id v s at small (Kind.Make n row) may j u m ne there h = refl
counts_stay c id v s at small (Kind.Redefine n row over) may j u m ne there h = refl
counts_stay c id v s at small (Kind.Free n) may j u m ne there h = refl

seats_stay : (c : Core) (id : ℕ) (v : View) (e : EventKind) (j : ℕ) (u : View) → j ≢ id → get_elem? c.seats j ≡ some u → get_elem? (after c id v e).seats j ≡ some u
seats_stay c id v (Kind.Claim n) j u ne there = set_else c.seats id j _ ne ∙ there
seats_stay c id v (Kind.ClaimFailed n) j u ne there = set_else c.seats id j _ ne ∙ there
seats_stay c id v (Kind.Release n) j u ne there = set_else c.seats id j _ ne ∙ there
seats_stay c id v (Kind.LoadRow n) j u ne there = set_else c.seats id j _ ne ∙ there
seats_stay c id v (Kind.Pin n) j u ne there = set_else c.seats id j _ ne ∙ there
seats_stay c id v (Kind.Unpin n) j u ne there = set_else c.seats id j _ ne ∙ there
seats_stay c id v (Kind.LoadCount n) j u ne there = set_else c.seats id j _ ne ∙ there
seats_stay c id v (Kind.LoadKey n) j u ne there = set_else c.seats id j _ ne ∙ there
seats_stay c id v (Kind.SetKey n key) j u ne there = set_else c.seats id j _ ne ∙ there
seats_stay c id v (Kind.Make n row) j u ne there = set_else c.seats id j _ ne ∙ there
seats_stay c id v (Kind.Redefine n row over) j u ne there = set_else c.seats id j _ ne ∙ there
seats_stay c id v (Kind.Free n) j u ne there = set_else c.seats id j _ ne ∙ there

pub sole_counts_stay : SoleCountsStay
sole_counts_stay c e d j u m s step ne there h = (
  ap (λ (z : Core). get_or z.counts m 0) step.5 ∙ counts_stay c e.seat step.0 s step.1 step.2 e.kind step.4 j u m ne there h,
  ap (λ (z : Core). get_elem? z.seats j) step.5 ∙ seats_stay c e.seat step.0 e.kind j u ne there,
)

pub sole_counts_stay_along : SoleCountsStayAlong
sole_counts_stay_along c [] d j u m s run others there h = (ap (λ (z : Core). get_or z.counts m 0) run, ap (λ (z : Core). get_elem? z.seats j) run ∙ there)
sole_counts_stay_along c (e ∷ es) d j u m s run others there h =
    let one = sole_counts_stay c e run.0 j u m s run.1 (others 0 e (omega arith)) there h in
    let rest = sole_counts_stay_along run.0 es d j u m (events_keep_sound c e run.0 s run.1) run.2 (λ k x lt. others (suc k) x (omega arith)) one.1 h in
    (rest.0 ∙ one.0, rest.1)

-- ---- keys are the measure of values
pub value_below : (rows : List Row) (keys : List ℕ) (v w : ℕ → Bool) → ((n : ℕ) → RowRests rows keys n (row_at rows n)) → Fits rows v → Fits rows w → SameSources rows v w
    → (k n : ℕ) → get_or keys n 0 < k → row_at rows n ≢ Free → v n ≡ w n
value_below rows keys v w rests fv fw same zero n lt used = absurd (omega arith)
value_below rows keys v w rests fv fw same (suc k) n lt used = go (row_at rows n) refl (rests n) (fv.each n) (fw.each n) (value_below rows keys v w rests fv fw same k)
  where
    go : (r : Row) → row_at rows n ≡ r → RowRests rows keys n r → RowFits v n r → RowFits w n r → ((m : ℕ) → get_or keys m 0 < k → row_at rows m ≢ Free → v m ≡ w m) → v n ≡ w n
    go Free e rest a b ih = absurd (used e)
    go Source e rest a b ih = same n e
    go (And x y) e rest a b ih =
        let first : v (node_of x) ≡ w (node_of x) = ih (node_of x) (omega (arith, rest.0.1)) rest.0.0 in
        let second : v (node_of y) ≡ w (node_of y) = ih (node_of y) (omega (arith, rest.1.1)) rest.1.0 in
        a ∙ (ap₂ (λ p q. p && q) (lit_same x first) (lit_same y second) ∙ sym b)
      where
        lit_same : (l : Lit) → v (node_of l) ≡ w (node_of l) → lit_value v l ≡ lit_value w l
        lit_same l e = ap (λ z. if nat_eq (l.0 % 2) 0 then z else not z) e
    go (Alias x) e rest a b ih =
        let first : v (node_of x) ≡ w (node_of x) = ih (node_of x) (omega (arith, rest.1)) rest.0 in
        a ∙ (ap (λ z. if nat_eq (x.0 % 2) 0 then z else not z) first ∙ sym b)

pub one_valuation : OneValuation
one_valuation c v w s fv fw same n used = value_below c.rows c.keys v w s.rests fv fw same (suc (get_or c.keys n 0)) n (omega arith) used
