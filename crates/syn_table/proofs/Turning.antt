-- Each step on a word is one event, which the rule allows.
use Rattle.std.proofs.Common.{◌≡◌, ◌≢◌, ◌⊎◌, ℕ, suc, ◌+◌, ◌-◌, ◌*◌, ◌%◌, ◌^◌, ◌<◌, ◌≤◌, true, false, if◌then◌else◌, nat_eq, List, length, set, get_or, refl, sym, ap, ◌∙◌, subst, arith, inl, inr}
use Rattle.std.proofs.lemmas.List.{set-get_or}
use Rattle.std.proofs.lemmas.Bool.{cases_eq, eq-eqb, ne_eqb}
use mathlib.Core.Option.{some, none, some-injective}
use lib.ListN.{get_elem?}
use prog.Atomic.{either}
use Rattle.atomic_table.specs.Table.{State, Me, Act, step, stepped, carried_after, keeps, Valid, Allows}
use Rattle.atomic_table.proofs.Lists.{exchanged}
use Rattle.syn_rows.specs.declared.Row.{Row}
use Rattle.syn_rows.specs.Rows.{row_at}
use Rattle.syn_core_laws.specs.declared.View.{View}
use Rattle.syn_core_laws.specs.declared.EventKind.TheVariants as Kind
use Rattle.syn_rows.specs.Nodes.{has_node}
use Rattle.syn_core_laws.specs.Views.{is_mine, claimed, missed, released, row_loaded, pinned, unpinned, count_loaded, key_loaded}
use Rattle.syn_core_laws.specs.Cores.{Core}
use Rattle.syn_core_laws.specs.Events.{MayPin, after}
use Rattle.syn_core_laws.proofs.Listing.{or_cases}
use Rattle.syn_core_laws.proofs.Pinning.{pins_count}
use Rattle.syn_core_laws.proofs.Within.{counts_fit, nodes_are_there, rows_pack}
use Rattle.syn_core_laws.specs.Openings.{empty_view}
use Rattle.syn_table.specs.declared.Known.{Known}
use Rattle.syn_table.specs.declared.Opening.{Opening}
use Rattle.syn_table.specs.Laying.{IsLaid, node_at}
use Rattle.syn_table.specs.Rule.{IsTable, IsCore, IsActive}
use Rattle.syn_table.specs.Events.{IsEvent}
use Rattle.syn_table.specs.Steps.{with_view, Becomes, UnpinsAt, TellsClaim, TellsRelease, TellsRow, TellsPin, TellsUnpin, TellsCount, TellsKey}
use Rattle.syn_table.proofs.Wording.{laid_claim, laid_count, laid_same, claim_node, row_node, count_node, key_node}
use Rattle.syn_table.proofs.Listed.{seat_of_view}
use Rattle.syn_table.proofs.Numbering.{others_spent}
use Rattle.syn_table.proofs.Ruling.{seat_there, stepped_on, event_is, event_of, view_at, nodes_known, is_active}

-- what a step owes where word i becomes x: a new view of the seat under which the rule holds, and which tells T
abbrev pub Goes : Opening → State ℕ Known → ℕ → Me ℕ Known → ℕ → ℕ → (Me ℕ Known → Type 0) → Type 0
Goes o s id me i x T = (w : Known) × (a : Act ℕ) × Valid s.homes me.1 a × IsCore o (stepped s i x id me.1 w a) × T (w, carried_after me.1 a)

pub goes : (o : Opening) (s : State ℕ Known) (id : ℕ) (me : Me ℕ Known) (i x : ℕ) (T : Me ℕ Known → Type 0) (v : View) (c : Core)
    → IsTable o (set s.words i x) (set s.views id (with_view me.0 v)) c → T (with_view me.0 v, me.1) → Goes o s id me i x T
goes o s id me i x T v c table told = (with_view me.0 v, keeps, tt, (c, table), told)

-- the seat has the view v, which may be written in another way
pub becomes : (o : Opening) (words : List ℕ) (seats : List Known) (c : Core) (id : ℕ) (me : Me ℕ Known) (v w : View)
    → get_elem? seats id ≡ some me.0 → v.number < 64 → IsTable o words (set seats id (with_view me.0 v)) c → v ≡ w → Becomes me w (with_view me.0 v, me.1)
becomes o words seats c id me v w at small t same =
    subst (λ u. Becomes me u (with_view me.0 v, me.1)) same (refl, is_active o words (set seats id (with_view me.0 v)) c id (with_view me.0 v) t (seat_there seats id me.0 (with_view me.0 v) at) small)

-- ---- claim, or failed claim
-- where one seat has all numbers, each claim is its own
all_free : (o : Opening) (words : List ℕ) (seats : List Known) (c : Core) (id : ℕ) (k : Known) (n : ℕ) → IsTable o words seats c → get_elem? seats id ≡ some k → length k.numbers ≡ 64
    → has_node k.core.held n ≡ false → get_or c.claims n 0 ≢ 0 → ⊥
all_free o words seats c id k n t at full free ne =
    let holder = t.sound.claimant n ne in
    let seat = seat_of_view seats holder.0 holder.1 (ap (λ (vs : List View). get_elem? vs holder.0) (sym t.views) ∙ holder.2) in
    let held : has_node seat.0.core.held n ≡ true = subst (λ (v : View). has_node v.held n ≡ true) (sym seat.2) holder.3 in
    elim (cases_eq holder.0 id) [
      | inl same ↦
          let mine : seat.0 ≡ k = some-injective seat.0 k (sym seat.1 ∙ (ap (get_elem? seats) same ∙ at)) in
          let both : has_node k.core.held n ≡ true = subst (λ (x : Known). has_node x.core.held n ≡ true) mine held in
          absurd (cc)
      | inr other ↦
          let spent : seat.0.core ≡ empty_view 64 = others_spent o words seats c id holder.0 k seat.0 t at full other seat.1 in
          let none : has_node seat.0.core.held n ≡ false = ap (λ (v : View). has_node v.held n) spent in
          absurd (cc)
    ]

claim_won : (o : Opening) (slots id : ℕ) (me : Me ℕ Known) (n x : ℕ) (s : State ℕ Known) → IsActive me.0 → x ≡ suc me.0.core.number → n < length me.0.opening → has_node me.0.core.held n ≡ false
    → IsCore o s → get_elem? s.views id ≡ some me.0 → get_or s.words (1 + 4 * n) 0 ≡ 0
    → Goes o s id me (1 + 4 * n) x (TellsClaim (step slots (1 + 4 * n) 0 x none) me (get_or s.words (1 + 4 * n) 0))
claim_won o slots id me n x s active is inside free core at e =
    let c : Core = core.0 in
    let v : View = me.0.core in
    let t : IsTable o s.words s.views c = core.1 in
    let found : ℕ = get_or s.words (1 + 4 * n) 0 in
    let there : n < length c.rows = omega (arith, nodes_known o s.words s.views c id me.0 t at active.number) in
    let word : found ≡ get_or c.claims n 0 = t.laid.claims n there in
    let next : Core = after c id v (Kind.Claim n) in
    let table : IsTable o (set s.words (1 + 4 * n) x) (set s.views id (with_view me.0 (claimed v n))) next =
    stepped_on o s.words (set s.words (1 + 4 * n) x) s.views c id me.0 (Kind.Claim n) (claimed v n) t at active.number there (sym word ∙ e, free) refl
    (subst (λ y. IsLaid (set s.words (1 + 4 * n) y) next) (sym is) (laid_claim s.words c n (suc v.number) (set c.seats id (claimed v n)) t.laid there t.sound.claims_count)) refl refl refl refl in
    goes o s id me (1 + 4 * n) x (TellsClaim (step slots (1 + 4 * n) 0 x none) me found) (claimed v n) next table (
      (λ full. e),
      becomes o (set s.words (1 + 4 * n) x) s.views next id me (claimed v n) _ at active.number table
          (ap (λ b. if b then claimed v n else missed v n) (sym (eq-eqb found 0 e)) ∙ ap (λ m. if nat_eq found 0 then claimed v m else missed v m) (sym (claim_node n))),
      subst (λ m. IsEvent me.0 (if nat_eq found 0 then Kind.Claim m else Kind.ClaimFailed m) (claimed v n)) (sym (claim_node n))
          (subst (λ b. IsEvent me.0 (if b then Kind.Claim n else Kind.ClaimFailed n) (claimed v n)) (sym (eq-eqb found 0 e))
          (event_is o s.words s.views c id me.0 (Kind.Claim n) (claimed v n) t at active.number there (sym word ∙ e, free) refl)),
    )

claim_lost : (o : Opening) (slots id : ℕ) (me : Me ℕ Known) (n x : ℕ) (s : State ℕ Known) → IsActive me.0 → n < length me.0.opening → has_node me.0.core.held n ≡ false
    → IsCore o s → get_elem? s.views id ≡ some me.0 → get_or s.words (1 + 4 * n) 0 ≢ 0
    → Goes o s id me (1 + 4 * n) (get_or s.words (1 + 4 * n) 0) (TellsClaim (step slots (1 + 4 * n) 0 x none) me (get_or s.words (1 + 4 * n) 0))
claim_lost o slots id me n x s active inside free core at ne =
    let c : Core = core.0 in
    let v : View = me.0.core in
    let t : IsTable o s.words s.views c = core.1 in
    let found : ℕ = get_or s.words (1 + 4 * n) 0 in
    let there : n < length c.rows = omega (arith, nodes_known o s.words s.views c id me.0 t at active.number) in
    let word : found ≡ get_or c.claims n 0 = t.laid.claims n there in
    let next : Core = after c id v (Kind.ClaimFailed n) in
    let table : IsTable o (set s.words (1 + 4 * n) found) (set s.views id (with_view me.0 (missed v n))) next =
    stepped_on o s.words (set s.words (1 + 4 * n) found) s.views c id me.0 (Kind.ClaimFailed n) (missed v n) t at active.number there ((λ e. ne (word ∙ e)), free) refl
    (subst (λ l. IsLaid l next) (sym (set-get_or s.words (1 + 4 * n) 0)) (laid_same s.words c (set c.seats id (missed v n)) t.laid)) refl refl refl refl in
    goes o s id me (1 + 4 * n) found (TellsClaim (step slots (1 + 4 * n) 0 x none) me found) (missed v n) next table (
      (λ full. absurd (all_free o s.words s.views c id me.0 n t at full free (λ z. ne (word ∙ z)))),
      becomes o (set s.words (1 + 4 * n) found) s.views next id me (missed v n) _ at active.number table
          (ap (λ b. if b then claimed v n else missed v n) (sym (ne_eqb found 0 ne)) ∙ ap (λ m. if nat_eq found 0 then claimed v m else missed v m) (sym (claim_node n))),
      subst (λ m. IsEvent me.0 (if nat_eq found 0 then Kind.Claim m else Kind.ClaimFailed m) (missed v n)) (sym (claim_node n))
          (subst (λ b. IsEvent me.0 (if b then Kind.Claim n else Kind.ClaimFailed n) (missed v n)) (sym (ne_eqb found 0 ne))
          (event_is o s.words s.views c id me.0 (Kind.ClaimFailed n) (missed v n) t at active.number there ((λ z. ne (word ∙ z)), free) refl)),
    )

claims_turn : (o : Opening) (slots id : ℕ) (me : Me ℕ Known) (n x : ℕ) → IsActive me.0 → x ≡ suc me.0.core.number → n < length me.0.opening → has_node me.0.core.held n ≡ false
    → Allows (IsCore o) slots id me (1 + 4 * n) (λ k. either (nat_eq k 0) x k) (TellsClaim (step slots (1 + 4 * n) 0 x none) me)
claims_turn o slots id me n x active is inside free s core homes at fits =
    let found : ℕ = get_or s.words (1 + 4 * n) 0 in
    exchanged found 0 x (λ y. Goes o s id me (1 + 4 * n) y (TellsClaim (step slots (1 + 4 * n) 0 x none) me found))
    (λ e. claim_won o slots id me n x s active is inside free core at e) (λ ne. claim_lost o slots id me n x s active inside free core at ne)

-- ---- release
releases_turn : (o : Opening) (slots id : ℕ) (me : Me ℕ Known) (n : ℕ) → IsActive me.0 → has_node me.0.core.held n ≡ true → has_node me.0.core.idle n ≡ false
    → Allows (IsCore o) slots id me (1 + 4 * n) (λ _. 0) (λ _. TellsRelease (step slots (1 + 4 * n) 0 0 none) me 0)
releases_turn o slots id me n active held idle s core homes at fits =
    let c : Core = core.0 in
    let v : View = me.0.core in
    let t : IsTable o s.words s.views c = core.1 in
    let there : n < length c.rows = nodes_are_there c id v n t.sound (view_at o s.words s.views c id me.0 t at) (inl held) in
    let next : Core = after c id v (Kind.Release n) in
    let table : IsTable o (set s.words (1 + 4 * n) 0) (set s.views id (with_view me.0 (released v n))) next =
    stepped_on o s.words (set s.words (1 + 4 * n) 0) s.views c id me.0 (Kind.Release n) (released v n) t at active.number there (held, idle) refl
    (laid_claim s.words c n 0 (set c.seats id (released v n)) t.laid there t.sound.claims_count) refl refl refl refl in
    goes o s id me (1 + 4 * n) 0 (TellsRelease (step slots (1 + 4 * n) 0 0 none) me 0) (released v n) next table (
      becomes o (set s.words (1 + 4 * n) 0) s.views next id me (released v n) _ at active.number table (ap (released v) (sym (claim_node n))),
      subst (λ m. IsEvent me.0 (Kind.Release m) (released v n)) (sym (claim_node n)) (event_is o s.words s.views c id me.0 (Kind.Release n) (released v n) t at active.number there (held, idle) refl),
    )

-- ---- loads
rows_turn : (o : Opening) (slots id : ℕ) (me : Me ℕ Known) (n : ℕ) → IsActive me.0 → has_node me.0.core.held n ≡ true
    → Allows (IsCore o) slots id me (2 + 4 * n) (λ k. k) (TellsRow (step slots (2 + 4 * n) 0 0 none) me)
rows_turn o slots id me n active held s core homes at fits =
    let c : Core = core.0 in
    let v : View = me.0.core in
    let t : IsTable o s.words s.views c = core.1 in
    let there : n < length c.rows = nodes_are_there c id v n t.sound (view_at o s.words s.views c id me.0 t at) (inl held) in
    let found : ℕ = get_or s.words (2 + 4 * n) 0 in
    let row : Row = row_at c.rows n in
    let next : Core = after c id v (Kind.LoadRow n) in
    let table : IsTable o (set s.words (2 + 4 * n) found) (set s.views id (with_view me.0 (row_loaded v n row))) next =
    stepped_on o s.words (set s.words (2 + 4 * n) found) s.views c id me.0 (Kind.LoadRow n) (row_loaded v n row) t at active.number there held refl
    (subst (λ l. IsLaid l next) (sym (set-get_or s.words (2 + 4 * n) 0)) (laid_same s.words c (set c.seats id (row_loaded v n row)) t.laid)) refl refl refl refl in
    goes o s id me (2 + 4 * n) found (TellsRow (step slots (2 + 4 * n) 0 0 none) me found) (row_loaded v n row) next table (
      row,
      rows_pack c n t.sound t.small.nodes,
      sym (t.laid.rows n there),
      becomes o (set s.words (2 + 4 * n) found) s.views next id me (row_loaded v n row) _ at active.number table (ap (λ m. row_loaded v m row) (sym (row_node n))),
      subst (λ m. IsEvent me.0 (Kind.LoadRow m) (row_loaded v n row)) (sym (row_node n)) (event_is o s.words s.views c id me.0 (Kind.LoadRow n) (row_loaded v n row) t at active.number there held refl),
    )

counts_turn : (o : Opening) (slots id : ℕ) (me : Me ℕ Known) (n : ℕ) → IsActive me.0 → has_node me.0.core.held n ≡ true
    → Allows (IsCore o) slots id me (3 + 4 * n) (λ k. k) (TellsCount (step slots (3 + 4 * n) 0 0 none) me)
counts_turn o slots id me n active held s core homes at fits =
    let c : Core = core.0 in
    let v : View = me.0.core in
    let t : IsTable o s.words s.views c = core.1 in
    let there : n < length c.rows = nodes_are_there c id v n t.sound (view_at o s.words s.views c id me.0 t at) (inl held) in
    let found : ℕ = get_or s.words (3 + 4 * n) 0 in
    let count : ℕ = get_or c.counts n 0 in
    let word : found ≡ count = t.laid.counts n there in
    let nodes : length me.0.opening ≡ length c.rows = nodes_known o s.words s.views c id me.0 t at active.number in
    let loaded : View = count_loaded (length c.rows) v n count in
    let next : Core = after c id v (Kind.LoadCount n) in
    let table : IsTable o (set s.words (3 + 4 * n) found) (set s.views id (with_view me.0 loaded)) next =
    stepped_on o s.words (set s.words (3 + 4 * n) found) s.views c id me.0 (Kind.LoadCount n) loaded t at active.number there held refl
    (subst (λ l. IsLaid l next) (sym (set-get_or s.words (3 + 4 * n) 0)) (laid_same s.words c (set c.seats id loaded) t.laid)) refl refl refl refl in
    goes o s id me (3 + 4 * n) found (TellsCount (step slots (3 + 4 * n) 0 0 none) me found) loaded next table (
      omega (arith, counts_fit c n t.sound t.small),
      becomes o (set s.words (3 + 4 * n) found) s.views next id me loaded _ at active.number table
          (ap (λ z. count_loaded z v n count) (sym nodes) ∙ (ap (λ m. count_loaded (length me.0.opening) v m count) (sym (count_node n)) ∙ ap (count_loaded (length me.0.opening) v (node_at (3 + 4 * n))) (sym word))),
      subst (λ m. IsEvent me.0 (Kind.LoadCount m) loaded) (sym (count_node n)) (event_is o s.words s.views c id me.0 (Kind.LoadCount n) loaded t at active.number there held refl),
    )

-- what a seat holds or has pinned is in its reach
pub reached : (v : View) (n : ℕ) → is_mine v n ≡ true → (has_node v.held n ≡ true) ⊎ MayPin v n
reached v n mine = elim (or_cases (has_node v.held n) (has_node v.pins n) mine) [ inl held ↦ inl held | inr pinned ↦ inr (inr pinned) ]

keys_turn : (o : Opening) (slots id : ℕ) (me : Me ℕ Known) (n : ℕ) → IsActive me.0 → is_mine me.0.core n ≡ true
    → Allows (IsCore o) slots id me (4 + 4 * n) (λ k. k) (TellsKey (step slots (4 + 4 * n) 0 0 none) me)
keys_turn o slots id me n active mine s core homes at fits =
    let c : Core = core.0 in
    let v : View = me.0.core in
    let t : IsTable o s.words s.views c = core.1 in
    let there : n < length c.rows = nodes_are_there c id v n t.sound (view_at o s.words s.views c id me.0 t at) (reached v n mine) in
    let found : ℕ = get_or s.words (4 + 4 * n) 0 in
    let key : ℕ = get_or c.keys n 0 in
    let word : found ≡ key = t.laid.keys n there in
    let next : Core = after c id v (Kind.LoadKey n) in
    let table : IsTable o (set s.words (4 + 4 * n) found) (set s.views id (with_view me.0 (key_loaded v n key))) next =
    stepped_on o s.words (set s.words (4 + 4 * n) found) s.views c id me.0 (Kind.LoadKey n) (key_loaded v n key) t at active.number there mine refl
    (subst (λ l. IsLaid l next) (sym (set-get_or s.words (4 + 4 * n) 0)) (laid_same s.words c (set c.seats id (key_loaded v n key)) t.laid)) refl refl refl refl in
    goes o s id me (4 + 4 * n) found (TellsKey (step slots (4 + 4 * n) 0 0 none) me found) (key_loaded v n key) next table (
      becomes o (set s.words (4 + 4 * n) found) s.views next id me (key_loaded v n key) _ at active.number table
          (ap (λ m. key_loaded v m key) (sym (key_node n)) ∙ ap (key_loaded v (node_at (4 + 4 * n))) (sym word)),
      subst (λ m. IsEvent me.0 (Kind.LoadKey m) (key_loaded v n key)) (sym (key_node n)) (event_is o s.words s.views c id me.0 (Kind.LoadKey n) (key_loaded v n key) t at active.number there mine refl),
    )

-- ---- pin and unpin
pins_turn : (o : Opening) (slots id : ℕ) (me : Me ℕ Known) (n : ℕ) → IsActive me.0 → MayPin me.0.core n → length me.0.core.pins < 512
    → Allows (IsCore o) slots id me (3 + 4 * n) (λ k. (k + 1) % 2 ^ 64) (TellsPin (step slots (3 + 4 * n) 1 0 none) me)
pins_turn o slots id me n active may room s core homes at fits =
    let c : Core = core.0 in
    let v : View = me.0.core in
    let t : IsTable o s.words s.views c = core.1 in
    let there : n < length c.rows = nodes_are_there c id v n t.sound (view_at o s.words s.views c id me.0 t at) (inr may) in
    let found : ℕ = get_or s.words (3 + 4 * n) 0 in
    let count : ℕ = get_or c.counts n 0 in
    let word : found ≡ count = t.laid.counts n there in
    let few : count + 1 < 2 ^ 32 = counts_fit c n t.sound t.small in
    let same : (found + 1) % 2 ^ 64 ≡ suc count = omega arith in
    let next : Core = after c id v (Kind.Pin n) in
    let table : IsTable o (set s.words (3 + 4 * n) ((found + 1) % 2 ^ 64)) (set s.views id (with_view me.0 (pinned v n))) next =
    stepped_on o s.words (set s.words (3 + 4 * n) ((found + 1) % 2 ^ 64)) s.views c id me.0 (Kind.Pin n) (pinned v n) t at active.number there (may, room) refl
    (subst (λ y. IsLaid (set s.words (3 + 4 * n) y) next) (sym same) (laid_count s.words c n (suc count) (set c.seats id (pinned v n)) t.laid there t.sound.counts_count)) refl refl refl refl in
    goes o s id me (3 + 4 * n) ((found + 1) % 2 ^ 64) (TellsPin (step slots (3 + 4 * n) 1 0 none) me found) (pinned v n) next table (
      becomes o (set s.words (3 + 4 * n) ((found + 1) % 2 ^ 64)) s.views next id me (pinned v n) _ at active.number table (ap (pinned v) (sym (count_node n))),
      subst (λ m. IsEvent me.0 (Kind.Pin m) (pinned v n)) (sym (count_node n)) (event_is o s.words s.views c id me.0 (Kind.Pin n) (pinned v n) t at active.number there (may, room) refl),
    )

unpins_turn : (o : Opening) (slots id : ℕ) (me : Me ℕ Known) (n : ℕ) → IsActive me.0 → has_node me.0.core.pins n ≡ true
    → Allows (IsCore o) slots id me (3 + 4 * n) (λ k. (k + (2 ^ 64 - 1)) % 2 ^ 64) (TellsUnpin (step slots (3 + 4 * n) 1 0 none) me)
unpins_turn o slots id me n active mine s core homes at fits =
    let c : Core = core.0 in
    let v : View = me.0.core in
    let t : IsTable o s.words s.views c = core.1 in
    let seated : get_elem? c.seats id ≡ some v = view_at o s.words s.views c id me.0 t at in
    let there : n < length c.rows = nodes_are_there c id v n t.sound seated (inr (inr mine)) in
    let found : ℕ = get_or s.words (3 + 4 * n) 0 in
    let count : ℕ = get_or c.counts n 0 in
    let word : found ≡ count = t.laid.counts n there in
    let few : count + 1 < 2 ^ 32 = counts_fit c n t.sound t.small in
    let some_pin : 1 ≤ count = pins_count c id v t.sound seated n mine in
    let same : (found + (2 ^ 64 - 1)) % 2 ^ 64 ≡ count - 1 = omega arith in
    let unpin = event_of o s.words s.views c id me.0 (Kind.Unpin n) (unpinned v n count) t at active.number there mine refl in
    let next : Core = after c id v (Kind.Unpin n) in
    let table : IsTable o (set s.words (3 + 4 * n) ((found + (2 ^ 64 - 1)) % 2 ^ 64)) (set s.views id (with_view me.0 (unpinned v n count))) next =
    stepped_on o s.words (set s.words (3 + 4 * n) ((found + (2 ^ 64 - 1)) % 2 ^ 64)) s.views c id me.0 (Kind.Unpin n) (unpinned v n count) t at active.number there mine refl
    (subst (λ y. IsLaid (set s.words (3 + 4 * n) y) next) (sym same) (laid_count s.words c n (count - 1) (set c.seats id (unpinned v n count)) t.laid there t.sound.counts_count)) refl refl refl refl in
    goes o s id me (3 + 4 * n) ((found + (2 ^ 64 - 1)) % 2 ^ 64) (TellsUnpin (step slots (3 + 4 * n) 1 0 none) me found) (unpinned v n count) next table (
      subst (λ m. UnpinsAt me.0 m found (unpinned v n count)) (sym (count_node n)) (unpin.0, word ∙ ap (λ (x : Core). get_or x.counts n 0) (sym unpin.1)),
      becomes o (set s.words (3 + 4 * n) ((found + (2 ^ 64 - 1)) % 2 ^ 64)) s.views next id me (unpinned v n count) _ at active.number table
          (ap (λ m. unpinned v m count) (sym (count_node n)) ∙ ap (unpinned v (node_at (3 + 4 * n))) (sym word)),
    )

-- ---- the same, wherever the index of the word comes from
pub claims_allowed : (o : Opening) (slots id : ℕ) (me : Me ℕ Known) (n x : ℕ) (i : ℕ) → i ≡ 1 + 4 * n → IsActive me.0 → x ≡ suc me.0.core.number → n < length me.0.opening → has_node me.0.core.held n ≡ false
    → Allows (IsCore o) slots id me i (λ k. either (nat_eq k 0) x k) (TellsClaim (step slots i 0 x none) me)
claims_allowed o slots id me n x i e active is inside free =
    subst (λ w. Allows (IsCore o) slots id me w (λ k. either (nat_eq k 0) x k) (TellsClaim (step slots w 0 x none) me)) (sym e) (claims_turn o slots id me n x active is inside free)

pub releases_allowed : (o : Opening) (slots id : ℕ) (me : Me ℕ Known) (n : ℕ) (i : ℕ) → i ≡ 1 + 4 * n → IsActive me.0 → has_node me.0.core.held n ≡ true → has_node me.0.core.idle n ≡ false
    → Allows (IsCore o) slots id me i (λ _. 0) (λ _. TellsRelease (step slots i 0 0 none) me 0)
releases_allowed o slots id me n i e active held busy =
    subst (λ w. Allows (IsCore o) slots id me w (λ _. 0) (λ _. TellsRelease (step slots w 0 0 none) me 0)) (sym e) (releases_turn o slots id me n active held busy)

pub rows_allowed : (o : Opening) (slots id : ℕ) (me : Me ℕ Known) (n : ℕ) (i : ℕ) → i ≡ 2 + 4 * n → IsActive me.0 → has_node me.0.core.held n ≡ true
    → Allows (IsCore o) slots id me i (λ k. k) (TellsRow (step slots i 0 0 none) me)
rows_allowed o slots id me n i e active held =
    subst (λ w. Allows (IsCore o) slots id me w (λ k. k) (TellsRow (step slots w 0 0 none) me)) (sym e) (rows_turn o slots id me n active held)

pub counts_allowed : (o : Opening) (slots id : ℕ) (me : Me ℕ Known) (n : ℕ) (i : ℕ) → i ≡ 3 + 4 * n → IsActive me.0 → has_node me.0.core.held n ≡ true
    → Allows (IsCore o) slots id me i (λ k. k) (TellsCount (step slots i 0 0 none) me)
counts_allowed o slots id me n i e active held =
    subst (λ w. Allows (IsCore o) slots id me w (λ k. k) (TellsCount (step slots w 0 0 none) me)) (sym e) (counts_turn o slots id me n active held)

pub keys_allowed : (o : Opening) (slots id : ℕ) (me : Me ℕ Known) (n : ℕ) (i : ℕ) → i ≡ 4 + 4 * n → IsActive me.0 → is_mine me.0.core n ≡ true
    → Allows (IsCore o) slots id me i (λ k. k) (TellsKey (step slots i 0 0 none) me)
keys_allowed o slots id me n i e active mine =
    subst (λ w. Allows (IsCore o) slots id me w (λ k. k) (TellsKey (step slots w 0 0 none) me)) (sym e) (keys_turn o slots id me n active mine)

pub pins_allowed : (o : Opening) (slots id : ℕ) (me : Me ℕ Known) (n : ℕ) (i : ℕ) → i ≡ 3 + 4 * n → IsActive me.0 → MayPin me.0.core n → length me.0.core.pins < 512
    → Allows (IsCore o) slots id me i (λ k. (k + 1) % 2 ^ 64) (TellsPin (step slots i 1 0 none) me)
pins_allowed o slots id me n i e active may room =
    subst (λ w. Allows (IsCore o) slots id me w (λ k. (k + 1) % 2 ^ 64) (TellsPin (step slots w 1 0 none) me)) (sym e) (pins_turn o slots id me n active may room)

pub unpins_allowed : (o : Opening) (slots id : ℕ) (me : Me ℕ Known) (n : ℕ) (i : ℕ) → i ≡ 3 + 4 * n → IsActive me.0 → has_node me.0.core.pins n ≡ true
    → Allows (IsCore o) slots id me i (λ k. (k + (2 ^ 64 - 1)) % 2 ^ 64) (TellsUnpin (step slots i 1 0 none) me)
unpins_allowed o slots id me n i e active mine =
    subst (λ w. Allows (IsCore o) slots id me w (λ k. (k + (2 ^ 64 - 1)) % 2 ^ 64) (TellsUnpin (step slots w 1 0 none) me)) (sym e) (unpins_turn o slots id me n active mine)
