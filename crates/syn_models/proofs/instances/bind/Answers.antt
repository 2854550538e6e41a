use Rattle.std.proofs.Common.{refl, sym, ap, ◌∙◌}
use Rattle.syn_netlist.specs.Words.{has_word}
use Rattle.syn_models.proofs.Instance.{bind_some, bind_none}
use Rattle.syn_models.proofs.instances.bind.Goals as goal

pub returns-in-Some-clause-each : goal.returns-in-Some-clause-each
returns-in-Some-clause-each c = λ binds h.
    bind_some c.args.own.now c.args.b.now binds c.args.actuals.now c.in-Some.i c.len-count.ensures.distinct c.requires c.in-Some.ensures.some.0 (c.in-Some.ensures.some.1 ∙ c.as_slice.ensures) h

pub returns-in-None-clause-each : goal.returns-in-None-clause-each
returns-in-None-clause-each c = λ binds h. bind_none c.args.own.now c.args.b.now binds c.args.actuals.now (ap (has_word c.args.own.now) (sym c.as_slice.ensures) ∙ c.in-None.ensures.none.0 refl) h
