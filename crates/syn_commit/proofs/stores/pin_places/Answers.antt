use Rattle.std.proofs.Common.{sym, ap, subst}
use Rattle.syn_rows.specs.declared.Row.TheVariants.{And, Alias}
use Rattle.syn_rows.specs.Rows.{AllRefs}
use Rattle.syn_core_laws.specs.Events.{MayPin}
use Rattle.syn_table.specs.declared.Known.{Known}
use Rattle.syn_table.specs.Seating.{view_of}
use Rattle.syn_commit.proofs.Making.{pin_lasts}
use Rattle.syn_commit.proofs.stores.pin_places.Goals as goal

pub pin_place-requires-clause-may : goal.pin_place-requires-clause-may
pin_place-requires-clause-may c =
    let both : AllRefs (MayPin (view_of c.args.seat.now)) (And c.in-And.a c.in-And.b) = subst (AllRefs (MayPin (view_of c.args.seat.now))) c.in-And.is c.requires.may in
    subst (MayPin (view_of c.args.seat.now)) (sym c.node.ensures) both.0

pub pin_place-requires-in-And-clause-may : goal.pin_place-requires-in-And-clause-may
pin_place-requires-in-And-clause-may c =
    let both : AllRefs (MayPin (view_of c.args.seat.now)) (And c.in-And.a c.in-And.b) = subst (AllRefs (MayPin (view_of c.args.seat.now))) c.in-And.is c.requires.may in
    subst (λ v. MayPin v c.node-in-And.result) (sym (ap (λ (k : Known). k.core) c.pin_place.ensures.known))
    (pin_lasts (view_of c.args.seat.now) c.node.result c.node-in-And.result (subst (MayPin (view_of c.args.seat.now)) (sym c.node-in-And.ensures) both.1))

pub pin_place-requires-in-Alias-clause-may : goal.pin_place-requires-in-Alias-clause-may
pin_place-requires-in-Alias-clause-may c =
    let one : AllRefs (MayPin (view_of c.args.seat.now)) (Alias c.in-Alias.a) = subst (AllRefs (MayPin (view_of c.args.seat.now))) c.in-Alias.is c.requires.may in
    subst (MayPin (view_of c.args.seat.now)) (sym c.node-in-Alias.ensures) one
