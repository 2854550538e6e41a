use Rattle.std.proofs.Common.{refl, sym, ◌∙◌}
use Rattle.syn_aiger.proofs.Placed.{added_apart, added_next}
use Rattle.syn_aiger.proofs.places.Places.add.Goals as goal

pub returns-then-self-place-clause-places : goal.returns-then-self-place-clause-places
returns-then-self-place-clause-places c known h free =
    added_next c.args.self.now _ known c.args.variable h free (c.if-variable-place.true ∙ h.count) (c.if-self-place.true ∙ sym c.if-variable-place.true) refl (sym c.if-variable-place.true) refl

pub returns-clause-places : goal.returns-clause-places
returns-clause-places c known h free = added_apart c.args.self.now _ known c.args.variable h free refl refl c.in_ok-insert.ensures.updates.0
