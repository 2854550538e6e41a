use Rattle.std.proofs.Common.{◌≡◌, nat_lt, if◌then◌else◌, false, true, ℕ, List, [], ◌++◌, length, sym, ap, ◌∙◌, subst}
use Rattle.syn_rows.specs.declared.Row.{Row}
use Rattle.syn_rows.specs.Rows.{refs_of}
use Rattle.syn_rows.specs.Nodes.{has_node}
use Rattle.syn_core_laws.specs.declared.View.{View}
use Rattle.syn_core_laws.specs.declared.EventKind.TheVariants as Kind
use Rattle.syn_core_laws.specs.Views.{freed, released}
use Rattle.syn_table.specs.declared.Known.{Known}
use Rattle.syn_table.specs.Seating.{known_of, nodes_of, view_of}
use Rattle.syn_commit_laws.specs.Turning.{Turns}
use Rattle.syn_commit.specs.Giving.{IsGiving}
use Rattle.syn_commit.proofs.Draining.{freed_is, frees_give, may_free, off_list, still_held}
use Rattle.syn_commit.proofs.Happening.{event_turns}
use Rattle.syn_commit.proofs.returns.free.Goals as goal

-- where there was no pin, the pins are the row's nodes
pins_are : (old new : List ℕ) (row : Row) → new ≡ old ++ refs_of row → old ≡ [] → new ≡ refs_of row
pins_are old new row e none = e ∙ ap (λ ps. ps ++ refs_of row) none

pub free-requires-clause-may : goal.free-requires-clause-may
free-requires-clause-may c =
    may_free (nodes_of c.args.shared.now) c.args.pool.now c.args.holding.now.gates.items c.args.holding.now.idle.items c.args.gate (view_of c.args.seat.now) c.seats_reach_nodes.ensures.shown c.requires.giving

pub take_in-requires-clause-held : goal.take_in-requires-clause-held
take_in-requires-clause-held c =
    let f = c.free.ensures.known in
    let is : view_of c.free.new.seat ≡ freed (view_of c.args.seat.now) c.args.gate.node c.args.gate.row =
    freed_is (nodes_of c.args.shared.now) c.args.pool.now c.args.holding.now.gates.items c.args.holding.now.idle.items c.args.gate (view_of c.args.seat.now) c.seats_reach_nodes.ensures.shown c.requires.giving
    (view_of c.free.new.seat) f.0 f.1 (ap (λ (k : Known). k.core) f.2) in
    subst (λ (v : View). has_node v.held c.args.gate.node ≡ true) (sym is)
    (still_held (nodes_of c.args.shared.now) c.args.pool.now c.args.holding.now.gates.items c.args.holding.now.idle.items c.args.gate (view_of c.args.seat.now) c.seats_reach_nodes.ensures.shown c.requires.giving)

pub take_in-requires-clause-busy : goal.take_in-requires-clause-busy
take_in-requires-clause-busy c =
    let f = c.free.ensures.known in
    let is : view_of c.free.new.seat ≡ freed (view_of c.args.seat.now) c.args.gate.node c.args.gate.row =
    freed_is (nodes_of c.args.shared.now) c.args.pool.now c.args.holding.now.gates.items c.args.holding.now.idle.items c.args.gate (view_of c.args.seat.now) c.seats_reach_nodes.ensures.shown c.requires.giving
    (view_of c.free.new.seat) f.0 f.1 (ap (λ (k : Known). k.core) f.2) in
    subst (λ (v : View). has_node v.idle c.args.gate.node ≡ false) (sym is)
    (off_list (nodes_of c.args.shared.now) c.args.pool.now c.args.holding.now.gates.items c.args.holding.now.idle.items c.args.gate (view_of c.args.seat.now) c.seats_reach_nodes.ensures.shown c.requires.giving)

pub returns-clause-giving : goal.returns-clause-giving
returns-clause-giving c =
    let f = c.free.ensures.known in
    let is : view_of c.free.new.seat ≡ freed (view_of c.args.seat.now) c.args.gate.node c.args.gate.row =
    freed_is (nodes_of c.args.shared.now) c.args.pool.now c.args.holding.now.gates.items c.args.holding.now.idle.items c.args.gate (view_of c.args.seat.now) c.seats_reach_nodes.ensures.shown c.requires.giving
    (view_of c.free.new.seat) f.0 f.1 (ap (λ (k : Known). k.core) f.2) in
    let turned = event_turns (known_of c.args.seat.now) (Kind.Free c.args.gate.node) (view_of c.free.new.seat) c.free.ensures.event (nodes_of c.args.shared.now) c.seats_reach_nodes.ensures.opening in
    let given = frees_give (nodes_of c.args.shared.now) c.args.pool.now c.args.holding.now.gates.items c.args.holding.now.idle.items c.args.gate (view_of c.args.seat.now) c.seats_reach_nodes.ensures.shown c.requires.giving
    (view_of c.take_in.new.seat) c.take_in.new.self (subst (λ (v : View). Turns (nodes_of c.args.shared.now) (view_of c.args.seat.now) (Kind.Free c.args.gate.node) v) is turned)
    (c.take_in.ensures.view ∙ ap (λ y. if nat_lt (length c.args.pool.now) 512 then y else released y c.args.gate.node) is) c.take_in.ensures.pool in
    subst (λ ps. IsGiving c.take_in.new.self ps c.args.holding.now.gates.items c.args.holding.now.idle.items (view_of c.take_in.new.seat)) (sym (pins_are _ _ c.args.gate.row c.add_refs.ensures c.requires.none)) given.0

pub returns-clause-gives : goal.returns-clause-gives
returns-clause-gives c =
    let f = c.free.ensures.known in
    let is : view_of c.free.new.seat ≡ freed (view_of c.args.seat.now) c.args.gate.node c.args.gate.row =
    freed_is (nodes_of c.args.shared.now) c.args.pool.now c.args.holding.now.gates.items c.args.holding.now.idle.items c.args.gate (view_of c.args.seat.now) c.seats_reach_nodes.ensures.shown c.requires.giving
    (view_of c.free.new.seat) f.0 f.1 (ap (λ (k : Known). k.core) f.2) in
    let turned = event_turns (known_of c.args.seat.now) (Kind.Free c.args.gate.node) (view_of c.free.new.seat) c.free.ensures.event (nodes_of c.args.shared.now) c.seats_reach_nodes.ensures.opening in
    (frees_give (nodes_of c.args.shared.now) c.args.pool.now c.args.holding.now.gates.items c.args.holding.now.idle.items c.args.gate (view_of c.args.seat.now) c.seats_reach_nodes.ensures.shown c.requires.giving
    (view_of c.take_in.new.seat) c.take_in.new.self (subst (λ (v : View). Turns (nodes_of c.args.shared.now) (view_of c.args.seat.now) (Kind.Free c.args.gate.node) v) is turned)
    (c.take_in.ensures.view ∙ ap (λ y. if nat_lt (length c.args.pool.now) 512 then y else released y c.args.gate.node) is) c.take_in.ensures.pool).1

pub returns-clause-pins : goal.returns-clause-pins
returns-clause-pins c = pins_are _ _ c.args.gate.row c.add_refs.ensures c.requires.none
