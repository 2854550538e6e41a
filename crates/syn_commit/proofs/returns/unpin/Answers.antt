use Rattle.std.proofs.Common.{◌≡◌, ◌++◌, ◌∷◌, ◌<◌, false, true, [], length, sym, ap, ◌∙◌, subst, rules}
use Rattle.syn_rows.specs.Nodes.{has_node}
use Rattle.syn_table.specs.declared.Known.{Known}
use Rattle.syn_table.specs.Seating.{known_of, nodes_of, view_of}
use Rattle.syn_decide.specs.Walk.{nodes_of as nodes_of_rows}
use Rattle.syn_core_laws.specs.declared.EventKind.TheVariants as Kind
use Rattle.syn_commit.specs.Giving.{IsGiving}
use Rattle.syn_commit.proofs.Draining.{gate_idle, has_pin, no_gate, still_used}
use Rattle.syn_commit.proofs.Happening.{event_turns}
use Rattle.syn_commit.proofs.returns.unpin.Goals as goal

pub unpin-requires-clause-pinned : goal.unpin-requires-clause-pinned
unpin-requires-clause-pinned c =
    has_pin (nodes_of c.args.shared.now) c.args.pool.now c.args.holding.now.pins.items c.args.holding.now.gates.items c.args.holding.now.idle.items (view_of c.args.seat.now) c.args.pin 0 c.seats_reach_nodes.ensures.shown c.requires.giving

pub returns-then-not-unpin-clause-giving : goal.returns-then-not-unpin-clause-giving
returns-then-not-unpin-clause-giving c =
    let u = c.unpin.ensures.known in
    let more : c.unpin.result ≡ false = search rules in
    subst (IsGiving c.args.pool.now c.args.holding.now.pins.items c.args.holding.now.gates.items c.args.holding.now.idle.items) (sym (ap (λ (k : Known). k.core) u.2))
    (still_used (nodes_of c.args.shared.now) c.args.pool.now c.args.holding.now.pins.items c.args.holding.now.gates.items c.args.holding.now.idle.items (view_of c.args.seat.now) c.args.pin u.0
    c.seats_reach_nodes.ensures.shown c.requires.giving (sym u.1 ∙ more))

pub returns-then-not-unpin-clause-turns : goal.returns-then-not-unpin-clause-turns
returns-then-not-unpin-clause-turns c = event_turns (known_of c.args.seat.now) (Kind.Unpin c.args.pin) (view_of c.unpin.new.seat) c.unpin.ensures.event.0 (nodes_of c.args.shared.now) c.seats_reach_nodes.ensures.opening

pub returns-in_default-clause-giving : goal.returns-in_default-clause-giving
returns-in_default-clause-giving c =
    let u = c.unpin.ensures.known in
    let none : has_node (nodes_of_rows c.args.holding.now.gates.items) c.args.pin ≡ false = search rules in
    subst (IsGiving c.args.pool.now c.args.holding.now.pins.items c.args.holding.now.gates.items c.args.holding.now.idle.items) (sym (ap (λ (k : Known). k.core) u.2))
    (no_gate (nodes_of c.args.shared.now) c.args.pool.now c.args.holding.now.pins.items c.args.holding.now.gates.items c.args.holding.now.idle.items (view_of c.args.seat.now) c.args.pin u.0
    c.seats_reach_nodes.ensures.shown c.requires.giving none)

pub returns-in_default-clause-turns : goal.returns-in_default-clause-turns
returns-in_default-clause-turns c = event_turns (known_of c.args.seat.now) (Kind.Unpin c.args.pin) (view_of c.unpin.new.seat) c.unpin.ensures.event.0 (nodes_of c.args.shared.now) c.seats_reach_nodes.ensures.opening

pub returns-clause-giving : goal.returns-clause-giving
returns-clause-giving c =
    let u = c.unpin.ensures.known in
    let last : c.unpin.result ≡ true = search rules in
    let e = c.set_idle.ensures.idle in
    let within : c.in-Some.place < length c.args.holding.now.gates.items = search rules in
    let named : e.0.node ≡ c.args.pin = search (rules, e.1) in
    let given = gate_idle (nodes_of c.args.shared.now) c.args.pool.now c.args.holding.now.pins.items c.args.holding.now.gates.items c.args.holding.now.idle.items (view_of c.args.seat.now) c.args.pin u.0
    c.seats_reach_nodes.ensures.shown c.requires.giving c.in-Some.place e.0 c.set_idle.new.holding.gates.items within e.1 named c.set_idle.ensures.gates c.set_idle.ensures.size (sym u.1 ∙ last) in
    subst (λ ps. IsGiving c.args.pool.now ps c.set_idle.new.holding.gates.items c.set_idle.new.holding.idle.items (view_of c.unpin.new.seat)) (sym c.set_idle.ensures.pins)
    (subst (λ is. IsGiving c.args.pool.now c.args.holding.now.pins.items c.set_idle.new.holding.gates.items is (view_of c.unpin.new.seat)) (sym e.2)
    (subst (IsGiving c.args.pool.now c.args.holding.now.pins.items c.set_idle.new.holding.gates.items (c.args.holding.now.idle.items ++ e.0 ∷ [])) (sym (ap (λ (k : Known). k.core) u.2)) given))

pub returns-clause-turns : goal.returns-clause-turns
returns-clause-turns c = event_turns (known_of c.args.seat.now) (Kind.Unpin c.args.pin) (view_of c.unpin.new.seat) c.unpin.ensures.event.0 (nodes_of c.args.shared.now) c.seats_reach_nodes.ensures.opening
