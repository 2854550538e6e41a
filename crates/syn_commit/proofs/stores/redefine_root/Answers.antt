use Rattle.std.proofs.Common.{◌≡◌, ◌<◌, ◌++◌, take, sym, ap, ◌∙◌, subst}
use Rattle.std.proofs.lemmas.List.{take_at}
use Rattle.syn_rows.specs.Rows.{refs_of}
use Rattle.syn_core_laws.specs.declared.View.{View}
use Rattle.syn_core_laws.specs.Views.{redefined}
use Rattle.syn_table.specs.declared.Known.{Known}
use Rattle.syn_table.specs.Seating.{nodes_of, view_of}
use Rattle.syn_table.specs.Steps.{KnowsRedefine}
use Rattle.syn_commit_laws.specs.Turning.{TurnsAll}
use Rattle.syn_commit.specs.Giving.{IsGiving}
use Rattle.syn_commit.specs.Storing.{redefines_row, with_pins, with_row}
use Rattle.syn_commit.proofs.Making.{all_pins_may}
use Rattle.syn_commit.proofs.Replacing.{knows_redefine, redefined_is, root_gives, root_served, root_turns}
use Rattle.syn_commit.proofs.stores.redefine_root.Goals as goal

pub pin_places-requires-clause-may : goal.pin_places-requires-clause-may
pin_places-requires-clause-may c = all_pins_may (view_of c.args.seat.now) c.requires.may.0 c.args.row c.requires.may.2

pub redefine-requires-clause-may : goal.redefine-requires-clause-may
redefine-requires-clause-may c =
    let is : view_of c.pin_places.new.seat ≡ with_pins (refs_of c.args.row) (view_of c.args.seat.now) = ap (λ (k : Known). k.core) c.pin_places.ensures.known in
    let given = subst (IsGiving c.args.pool.now (c.args.holding.now.pins.items ++ refs_of c.args.row) c.pin_places.new.holding.gates.items c.pin_places.new.holding.idle.items) is
    (subst (λ ps. IsGiving c.args.pool.now ps c.pin_places.new.holding.gates.items c.pin_places.new.holding.idle.items (view_of c.pin_places.new.seat)) c.pin_places.ensures.pins c.pin_places.ensures.giving) in
    subst (λ (u : View). KnowsRedefine u c.args.root.node c.args.row c.args.over.now) (sym is)
    (knows_redefine c.args.pool.now c.args.holding.now.pins.items c.pin_places.new.holding.gates.items c.pin_places.new.holding.idle.items (view_of c.args.seat.now) c.args.root.node c.requires.may.0 c.args.root.row c.args.row given
    c.requires.root c.requires.was c.requires.gate c.args.over.now c.requires.may.1 c.requires.may.2 c.requires.few c.requires.over c.requires.same)

pub returns-clause-giving : goal.returns-clause-giving
returns-clause-giving c =
    let is : view_of c.pin_places.new.seat ≡ with_pins (refs_of c.args.row) (view_of c.args.seat.now) = ap (λ (k : Known). k.core) c.pin_places.ensures.known in
    let given = subst (IsGiving c.args.pool.now (c.args.holding.now.pins.items ++ refs_of c.args.row) c.pin_places.new.holding.gates.items c.pin_places.new.holding.idle.items) is
    (subst (λ ps. IsGiving c.args.pool.now ps c.pin_places.new.holding.gates.items c.pin_places.new.holding.idle.items (view_of c.pin_places.new.seat)) c.pin_places.ensures.pins c.pin_places.ensures.giving) in
    let r = c.redefine.ensures.known in
    let stands = root_gives c.args.pool.now c.args.holding.now.pins.items c.pin_places.new.holding.gates.items c.pin_places.new.holding.idle.items (view_of c.args.seat.now) c.args.root.node c.requires.may.0 c.args.root.row c.args.row given
    c.requires.root c.requires.was c.requires.gate in
    let view : view_of c.redefine.new.seat ≡ redefined (with_pins (refs_of c.args.row) (view_of c.args.seat.now)) c.args.root.node c.args.root.row c.args.row =
    redefined_is c.args.pool.now c.args.holding.now.pins.items c.pin_places.new.holding.gates.items c.pin_places.new.holding.idle.items (view_of c.args.seat.now) c.args.root.node c.requires.may.0 c.args.root.row c.args.row given
    c.requires.root c.requires.was c.requires.gate (view_of c.pin_places.new.seat) (view_of c.redefine.new.seat) r.0 is r.1 (ap (λ (k : Known). k.core) r.2) in
    let pins : c.add_refs.new.pins.items ≡ c.args.holding.now.pins.items ++ refs_of c.args.root.row =
    c.add_refs.ensures ∙ ap (λ ps. ps ++ refs_of c.args.root.row) (c.truncate.ensures.items ∙ (ap (take c.len-before.result) c.pin_places.ensures.pins ∙ take_at c.args.holding.now.pins.items (refs_of c.args.row) c.len-before.result (sym c.len-before.ensures.value))) in
    subst (IsGiving c.args.pool.now c.add_refs.new.pins.items c.set_row.new.gates.items c.set_row-2.new.gates.items) (sym view)
    (subst (λ ps. IsGiving c.args.pool.now ps c.set_row.new.gates.items c.set_row-2.new.gates.items (redefined (with_pins (refs_of c.args.row) (view_of c.args.seat.now)) c.args.root.node c.args.root.row c.args.row)) (sym pins)
    (subst (λ gs. IsGiving c.args.pool.now (c.args.holding.now.pins.items ++ refs_of c.args.root.row) gs c.set_row-2.new.gates.items (redefined (with_pins (refs_of c.args.row) (view_of c.args.seat.now)) c.args.root.node c.args.root.row c.args.row)) (sym c.set_row.ensures.gates)
    (subst (λ gs. IsGiving c.args.pool.now (c.args.holding.now.pins.items ++ refs_of c.args.root.row) (with_row c.args.root.node c.args.row c.pin_places.new.holding.gates.items) gs (redefined (with_pins (refs_of c.args.row) (view_of c.args.seat.now)) c.args.root.node c.args.root.row c.args.row)) (sym c.set_row-2.ensures.gates) stands)))

pub returns-clause-turns : goal.returns-clause-turns
returns-clause-turns c over =
    let is : view_of c.pin_places.new.seat ≡ with_pins (refs_of c.args.row) (view_of c.args.seat.now) = ap (λ (k : Known). k.core) c.pin_places.ensures.known in
    let given = subst (IsGiving c.args.pool.now (c.args.holding.now.pins.items ++ refs_of c.args.row) c.pin_places.new.holding.gates.items c.pin_places.new.holding.idle.items) is
    (subst (λ ps. IsGiving c.args.pool.now ps c.pin_places.new.holding.gates.items c.pin_places.new.holding.idle.items (view_of c.pin_places.new.seat)) c.pin_places.ensures.pins c.pin_places.ensures.giving) in
    let r = c.redefine.ensures.known in
    let view : view_of c.redefine.new.seat ≡ redefined (with_pins (refs_of c.args.row) (view_of c.args.seat.now)) c.args.root.node c.args.root.row c.args.row =
    redefined_is c.args.pool.now c.args.holding.now.pins.items c.pin_places.new.holding.gates.items c.pin_places.new.holding.idle.items (view_of c.args.seat.now) c.args.root.node c.requires.may.0 c.args.root.row c.args.row given
    c.requires.root c.requires.was c.requires.gate (view_of c.pin_places.new.seat) (view_of c.redefine.new.seat) r.0 is r.1 (ap (λ (k : Known). k.core) r.2) in
    let there : c.args.root.node < nodes_of c.args.shared.now = (c.seats_reach_nodes.ensures.shown.rows c.args.root.node c.args.root.row c.requires.root).0 in
    let served = root_served c.args.pool.now c.args.holding.now.pins.items c.pin_places.new.holding.gates.items c.pin_places.new.holding.idle.items (view_of c.args.seat.now) c.args.root.node c.requires.may.0 c.args.root.row c.args.row given
    c.requires.root c.requires.was c.requires.gate c.requires.may.2 in
    subst (TurnsAll (nodes_of c.args.shared.now) (view_of c.args.seat.now) (redefines_row c.args.root.node c.args.row over)) (sym view)
    (root_turns c.args.pool.now c.args.holding.now.pins.items c.pin_places.new.holding.gates.items c.pin_places.new.holding.idle.items (view_of c.args.seat.now) c.args.root.node c.requires.may.0 c.args.root.row c.args.row given
    c.requires.root c.requires.was c.requires.gate (nodes_of c.args.shared.now) over there served)
