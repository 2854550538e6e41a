-- The list of made rows: a commit adds those of its new gates, and nothing else does.
use Rattle.std.proofs.Common.{◌≡◌, ℕ, ◌+◌, List, [], ◌∷◌, ◌++◌, refl, sym, ap, ap₂, ◌∙◌, subst, append-nil, append_assoc}
use Rattle.arrayvec.specs.ArrayVec.{ArrayVec}
use Rattle.syn_rows.specs.declared.Row.{Row}
use Rattle.syn_rows.specs.Rows.{refs_of}
use Rattle.syn_core_laws.specs.declared.View.{View}
use Rattle.syn_core_laws.specs.declared.Made.{Made}
use Rattle.syn_core_laws.specs.declared.EventKind.{EventKind}
use Rattle.syn_core_laws.specs.declared.EventKind.TheVariants as Kind
use Rattle.syn_core_laws.specs.Views.{last_key, or_zero}
use Rattle.syn_core_laws.proofs.Listing.{look_here}
use Rattle.syn_decide.specs.declared.decisions.NodeRow.{NodeRow}
use Rattle.syn_commit_laws.specs.Turning.{TurnsAll}
use Rattle.syn_commit.specs.Storing.{RedefinesRow, key_at, keyed_row, keyed_rows, makes_row, makes_rows, pins_of}

pins_make : (nodes : ℕ) (v w : View) (ns : List ℕ) (more : List EventKind) → TurnsAll nodes v (pins_of ns ++ more) w → (u : View) × (u.makes ≡ v.makes) × TurnsAll nodes u more w
pins_make nodes v w [] more t = (v, refl, t)
pins_make nodes v w (n ∷ ns) more t = let rest = pins_make nodes t.0 w ns more t.2 in (rest.0, rest.1 ∙ ap (λ (y : View). y.makes) t.1, rest.2)

row_makes : (nodes : ℕ) (v w : View) (r : NodeRow) (key : ℕ) (more : List EventKind) → TurnsAll nodes v (makes_row r.node r.row key ++ more) w → (u : View) × (u.makes ≡ v.makes ++ keyed_row r key ∷ []) × TurnsAll nodes u more w
row_makes nodes v w r key more t =
    let pinned = pins_make nodes v w (refs_of r.row) ((Kind.SetKey r.node key ∷ Kind.Make r.node r.row ∷ []) ++ more)
    (subst (λ (es : List EventKind). TurnsAll nodes v es w) (append_assoc (pins_of (refs_of r.row)) (Kind.SetKey r.node key ∷ Kind.Make r.node r.row ∷ []) more) t) in
    let keyed = pinned.2 in
    let made = keyed.2 in
    let key_is : last_key keyed.0 r.node ≡ key = ap (λ (y : View). last_key y r.node) keyed.1 ∙ ap or_zero (look_here r.node key pinned.0.keys) in (
      made.0,
      ap (λ (y : View). y.makes) made.1.3 ∙ ap₂ (λ (ms : List Made) (k : ℕ). ms ++ keyed_row r k ∷ []) (ap (λ (y : View). y.makes) keyed.1 ∙ pinned.1) key_is,
      made.2,
    )

pub rows_make : (nodes low step i : ℕ) (v w : View) (new : List NodeRow) → TurnsAll nodes v (makes_rows low step i new) w → w.makes ≡ v.makes ++ keyed_rows low step i new
rows_make nodes low step i v w [] t = ap (λ (y : View). y.makes) t ∙ sym (append-nil v.makes)
rows_make nodes low step i v w (r ∷ new) t =
    let one = row_makes nodes v w r (key_at low step i) (makes_rows low step (i + 1) new) t in
    rows_make nodes low step (i + 1) one.0 w new one.2 ∙ (ap (λ (ms : List Made). ms ++ keyed_rows low step (i + 1) new) one.1 ∙ append_assoc v.makes (keyed_row r (key_at low step i) ∷ []) (keyed_rows low step (i + 1) new))

pub root_makes : (nodes : ℕ) (v w : View) (n : ℕ) (row : Row) → RedefinesRow nodes v n row w → w.makes ≡ v.makes
root_makes nodes v w n row redefines =
    let over : ArrayVec ℕ = record { items = [] } in
    let pinned = pins_make nodes v w (refs_of row) (Kind.Redefine n row over ∷ []) (redefines over) in
    let last = pinned.2 in
    ap (λ (y : View). y.makes) last.2 ∙ (ap (λ (y : View). y.makes) last.1.5 ∙ pinned.1)
