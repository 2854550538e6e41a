use Rattle.std.proofs.Common.{◌≡◌, false, if◌then◌else◌, sym, ap, ◌∙◌, subst, inr, rules}
use Rattle.syn_rows.specs.Rows.{is_derived}
use Rattle.syn_core_laws.specs.declared.View.{View}
use Rattle.syn_core_laws.specs.Shown.{IsShown}
use Rattle.syn_core_laws.specs.Views.{claimed, released, row_loaded}
use Rattle.syn_table.specs.declared.Known.{Known}
use Rattle.syn_table.specs.Seating.{nodes_of, view_of}
use Rattle.syn_commit.specs.Walks.{looked_at}
use Rattle.syn_commit.proofs.cone_walk.enter.Goals as goal

pub returns-then-not-is_derived-clause-entered : goal.returns-then-not-is_derived-clause-entered
returns-then-not-is_derived-clause-entered c =
    let n = c.args.node in
    let row = c.row_of-row.result in
    let v : View = claimed (view_of c.args.seat.now) n in
    let held : view_of c.claim.new.seat ≡ v = search rules in
    let loaded : view_of c.row_of-row.new.seat ≡ row_loaded v n row = ap (λ (k : Known). k.core) c.row_of-row.ensures.known ∙ ap (λ y. row_loaded y n row) held in
    let source : is_derived row ≡ false = search rules in
    let let_go : view_of c.release.new.seat ≡ looked_at (view_of c.args.seat.now) n row =
    ap (λ (k : Known). k.core) c.release.ensures.known ∙ (ap (λ y. released y n) loaded ∙ sym (ap (λ b. if b then row_loaded v n row else released (row_loaded v n row) n) source)) in
    inr (row, let_go, search rules, subst (IsShown (nodes_of c.args.shared.now)) loaded c.seats_reach_nodes-2.ensures.shown)
