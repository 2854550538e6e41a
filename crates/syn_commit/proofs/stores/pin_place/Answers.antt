use Rattle.std.proofs.Common.{◌≡◌, ◌<◌, ◌++◌, ◌∷◌, [], false, length, sym, ap, ◌∙◌, subst, rules}
use Rattle.syn_rows.specs.Nodes.{has_node}
use Rattle.syn_core_laws.specs.Views.{pinned}
use Rattle.syn_decide.specs.Walk.{nodes_of}
use Rattle.syn_table.specs.declared.Known.{Known}
use Rattle.syn_table.specs.Seating.{view_of}
use Rattle.syn_commit.specs.Giving.{IsGiving}
use Rattle.syn_commit.proofs.Making.{few_pins, idle_pinned, used_pinned}
use Rattle.syn_commit.proofs.stores.pin_place.Goals as goal

pub pin-requires-clause-few : goal.pin-requires-clause-few
pin-requires-clause-few c = few_pins c.args.pool.now c.args.holding.now.pins.items c.args.holding.now.gates.items c.args.holding.now.idle.items (view_of c.args.seat.now) 512 c.requires.giving c.requires.few

pub returns-in_default-clause-giving : goal.returns-in_default-clause-giving
returns-in_default-clause-giving c =
    let none : has_node (nodes_of c.args.holding.now.idle.items) c.args.node ≡ false = search rules in
    subst (IsGiving c.args.pool.now c.push.new.self.items c.args.holding.now.gates.items c.args.holding.now.idle.items) (sym (ap (λ (k : Known). k.core) c.pin.ensures.known))
    (subst (λ ps. IsGiving c.args.pool.now ps c.args.holding.now.gates.items c.args.holding.now.idle.items (pinned (view_of c.args.seat.now) c.args.node)) (sym c.push.ensures.items)
    (used_pinned c.args.pool.now c.args.holding.now.pins.items c.args.holding.now.gates.items c.args.holding.now.idle.items (view_of c.args.seat.now) c.args.node c.requires.giving none))

pub returns-clause-giving : goal.returns-clause-giving
returns-clause-giving c =
    let e = c.set_busy.ensures.gates in
    let within : c.in-Some.place < length c.args.holding.now.idle.items = search rules in
    let named : e.0.node ≡ c.args.node = search (rules, e.1) in
    let given = idle_pinned c.args.pool.now c.args.holding.now.pins.items c.args.holding.now.gates.items c.args.holding.now.idle.items (view_of c.args.seat.now) c.args.node c.requires.giving
    c.in-Some.place e.0 c.set_busy.new.holding.idle.items within e.1 named c.set_busy.ensures.idle c.set_busy.ensures.size in
    subst (IsGiving c.args.pool.now c.set_busy.new.holding.pins.items c.set_busy.new.holding.gates.items c.set_busy.new.holding.idle.items) (sym (ap (λ (k : Known). k.core) c.pin.ensures.known))
    (subst (λ ps. IsGiving c.args.pool.now ps c.set_busy.new.holding.gates.items c.set_busy.new.holding.idle.items (pinned (view_of c.args.seat.now) c.args.node)) (sym (c.set_busy.ensures.pins ∙ c.push.ensures.items))
    (subst (λ gs. IsGiving c.args.pool.now (c.args.holding.now.pins.items ++ c.args.node ∷ []) gs c.set_busy.new.holding.idle.items (pinned (view_of c.args.seat.now) c.args.node)) (sym e.2) given))
