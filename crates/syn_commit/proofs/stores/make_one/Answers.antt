use Rattle.std.proofs.Common.{◌≡◌, ℕ, suc, ◌<◌, ◌+◌, ◌++◌, ◌∷◌, [], true, length, take, Some, sym, ap, ◌∙◌, subst, arith, inl}
use Rattle.std.proofs.lemmas.List.{take_at}
use Rattle.syn_rows.specs.declared.Row.TheVariants.{Free}
use Rattle.syn_rows.specs.Rows.{is_derived, refs_of}
use Rattle.syn_rows.specs.Nodes.{has_node}
use Rattle.syn_rows.proofs.Nodes.{has_here, has_right}
use Rattle.syn_core_laws.specs.declared.View.{View}
use Rattle.syn_core_laws.specs.Events.{MayRest}
use Rattle.syn_core_laws.specs.Views.{key_set, known_row, made, own_pins}
use Rattle.syn_table.specs.declared.Known.{Known}
use Rattle.syn_table.specs.Seating.{nodes_of, view_of}
use Rattle.syn_commit_laws.specs.Turning.{IsServed, TurnsAll}
use Rattle.syn_commit.specs.declared.returns.TheConstants.{MAX_HELD}
use Rattle.syn_commit.specs.Giving.{IsGiving}
use Rattle.syn_commit.specs.Storing.{KeepsKnown, MayReferTo, makes_row, row_stored, with_pins}
use Rattle.syn_commit.proofs.Making.{all_pins_may, made_free, made_gives, made_pinned, may_rest}
use Rattle.syn_commit.proofs.Stepping.{row_keeps, row_keyed, row_turns}
use Rattle.syn_commit.proofs.stores.make_one.Goals as goal

-- the view once the places are pinned
pinned_view : (c : goal.After-push) → view_of c.pin_places.new.seat ≡ with_pins (refs_of c.args.row) (view_of c.args.seat.now)
pinned_view c = ap (λ (k : Known). k.core) c.pin_places.ensures.known

-- and what is held then
pinned_gives : (c : goal.After-push) → IsGiving (c.take-node.new.self ++ c.take-node.result ∷ []) (c.args.holding.now.pins.items ++ refs_of c.args.row) c.pin_places.new.holding.gates.items c.pin_places.new.holding.idle.items (view_of c.pin_places.new.seat)
pinned_gives c =
    subst (λ pool. IsGiving pool (c.args.holding.now.pins.items ++ refs_of c.args.row) c.pin_places.new.holding.gates.items c.pin_places.new.holding.idle.items (view_of c.pin_places.new.seat)) c.take-node.ensures
    (subst (λ ps. IsGiving c.args.pool.now ps c.pin_places.new.holding.gates.items c.pin_places.new.holding.idle.items (view_of c.pin_places.new.seat)) c.pin_places.ensures.pins c.pin_places.ensures.giving)

made_view : (c : goal.After-push) → view_of c.make.new.seat ≡ row_stored (view_of c.args.seat.now) c.take-node.result c.args.row c.args.key
made_view c = ap (λ (k : Known). k.core) c.make.ensures.known ∙ ap (λ (u : View). made (key_set u c.take-node.result c.args.key) c.take-node.result c.args.row) (pinned_view c)

-- the node is the pool's
spare : (c : goal.After-push) → has_node c.args.pool.now c.take-node.result ≡ true
spare c = subst (λ pool. has_node pool c.take-node.result ≡ true) (sym c.take-node.ensures) (has_right c.take-node.new.self (c.take-node.result ∷ []) c.take-node.result (has_here c.take-node.result []))

derived : (c : goal.After-push) → is_derived c.args.row ≡ true
derived c = ap is_derived c.requires.row.2

pins_same : (c : goal.After-push) (m : ℕ) → own_pins (row_stored (view_of c.args.seat.now) c.take-node.result c.args.row c.args.key) m ≡ own_pins (view_of c.args.seat.now) m
pins_same c m =
    subst (λ (u : View). own_pins (made (key_set u c.take-node.result c.args.key) c.take-node.result c.args.row) m ≡ own_pins (view_of c.args.seat.now) m) (pinned_view c)
    (made_pinned c.take-node.new.self c.args.holding.now.pins.items c.pin_places.new.holding.gates.items c.pin_places.new.holding.idle.items (view_of c.pin_places.new.seat) c.take-node.result c.args.key c.args.row (pinned_gives c) m
    ∙ sym (c.requires.giving.pinned m))

rests : (c : goal.After-push) → MayRest (view_of c.pin_places.new.seat) c.args.key c.args.row
rests c =
    subst (λ v. MayRest v c.args.key c.args.row) (sym (pinned_view c))
    (may_rest (c.take-node.new.self ++ c.take-node.result ∷ []) c.args.holding.now.pins.items c.pin_places.new.holding.gates.items c.pin_places.new.holding.idle.items (view_of c.args.seat.now) c.args.key c.args.row c.requires.may
    (subst (IsGiving (c.take-node.new.self ++ c.take-node.result ∷ []) (c.args.holding.now.pins.items ++ refs_of c.args.row) c.pin_places.new.holding.gates.items c.pin_places.new.holding.idle.items) (pinned_view c) (pinned_gives c)))

pub make-requires-clause-rests : goal.make-requires-clause-rests
make-requires-clause-rests c =
    let is : view_of c.pin_places.new.seat ≡ with_pins (refs_of c.args.row) (view_of c.args.seat.now) = ap (λ (k : Known). k.core) c.pin_places.ensures.known in
    let given = subst (λ ps. IsGiving c.args.pool.now ps c.pin_places.new.holding.gates.items c.pin_places.new.holding.idle.items (view_of c.pin_places.new.seat)) c.pin_places.ensures.pins c.pin_places.ensures.giving in
    subst (λ v. MayRest v c.args.key c.args.row) (sym is)
    (may_rest c.args.pool.now c.args.holding.now.pins.items c.pin_places.new.holding.gates.items c.pin_places.new.holding.idle.items (view_of c.args.seat.now) c.args.key c.args.row c.requires.may
    (subst (IsGiving c.args.pool.now (c.args.holding.now.pins.items ++ refs_of c.args.row) c.pin_places.new.holding.gates.items c.pin_places.new.holding.idle.items) is given))

pub returns-clause-giving : goal.returns-clause-giving
returns-clause-giving c =
    let pins : c.truncate.new.self.items ≡ c.args.holding.now.pins.items = c.truncate.ensures.items ∙ (ap (take c.len-before.result) c.pin_places.ensures.pins ∙ take_at c.args.holding.now.pins.items (refs_of c.args.row) c.len-before.result (sym c.len-before.ensures.value)) in
    let room : length c.pin_places.new.holding.gates.items + length c.pin_places.new.holding.idle.items < MAX_HELD = omega (arith, c.pin_places.ensures.size, c.requires.room) in
    let stands = made_gives c.take-node.new.self c.args.holding.now.pins.items c.pin_places.new.holding.gates.items c.pin_places.new.holding.idle.items (view_of c.pin_places.new.seat) c.take-node.result c.args.key c.args.row (pinned_gives c) (derived c) room in
    subst (IsGiving c.take-node.new.self c.truncate.new.self.items c.pin_places.new.holding.gates.items c.push.new.self.items) (sym (ap (λ (k : Known). k.core) c.make.ensures.known))
    (subst (λ is. IsGiving c.take-node.new.self c.truncate.new.self.items c.pin_places.new.holding.gates.items is (made (key_set (view_of c.pin_places.new.seat) c.take-node.result c.args.key) c.take-node.result c.args.row)) (sym c.push.ensures.items)
    (subst (λ ps. IsGiving c.take-node.new.self ps c.pin_places.new.holding.gates.items (c.pin_places.new.holding.idle.items ++ (record { node = c.take-node.result; row = c.args.row }) ∷ []) (made (key_set (view_of c.pin_places.new.seat) c.take-node.result c.args.key) c.take-node.result c.args.row)) (sym pins) stands))

pub returns-clause-turns : goal.returns-clause-turns
returns-clause-turns c =
    let there : c.take-node.result < nodes_of c.args.shared.now = c.seats_reach_nodes.ensures.reach c.take-node.result (inl (c.requires.giving.spare.held c.take-node.result (spare c))) in
    let free : known_row (with_pins (refs_of c.args.row) (view_of c.args.seat.now)) c.take-node.result ≡ Some Free =
    subst (λ (u : View). known_row u c.take-node.result ≡ Some Free) (pinned_view c)
    (made_free c.take-node.new.self c.args.holding.now.pins.items c.pin_places.new.holding.gates.items c.pin_places.new.holding.idle.items (view_of c.pin_places.new.seat) c.take-node.result c.args.key c.args.row (pinned_gives c)) in
    subst (TurnsAll (nodes_of c.args.shared.now) (view_of c.args.seat.now) (makes_row c.take-node.result c.args.row c.args.key)) (sym (made_view c))
    (row_turns (nodes_of c.args.shared.now) (view_of c.args.seat.now) c.take-node.result c.args.row c.args.key there free (subst (λ (u : View). IsServed u c.args.row) (pinned_view c) (rests c).0))

pub returns-clause-keeps : goal.returns-clause-keeps
returns-clause-keeps c =
    let free = c.requires.giving.spare.free c.take-node.result (spare c) in
    let held = c.requires.giving.spare.held c.take-node.result (spare c) in
    subst (KeepsKnown (view_of c.args.seat.now)) (sym (made_view c))
    (row_keeps (nodes_of c.args.shared.now) (view_of c.args.seat.now) c.take-node.result c.args.row c.args.key c.seats_reach_nodes.ensures.shown free (derived c) held (pins_same c))

pub returns-clause-keyed : goal.returns-clause-keyed
returns-clause-keyed c =
    let free = c.requires.giving.spare.free c.take-node.result (spare c) in
    let held = c.requires.giving.spare.held c.take-node.result (spare c) in
    subst (λ (w : View). MayReferTo w (suc c.args.key) c.take-node.result) (sym (made_view c))
    (row_keyed (nodes_of c.args.shared.now) (view_of c.args.seat.now) c.take-node.result c.args.row c.args.key c.seats_reach_nodes.ensures.shown free (derived c) held (pins_same c))

pub pin_places-requires-clause-may : goal.pin_places-requires-clause-may
pin_places-requires-clause-may c = all_pins_may (view_of c.args.seat.now) c.args.key c.args.row c.requires.may
