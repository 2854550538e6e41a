use Rattle.std.proofs.Common.{drop}
use Rattle.syn_models.proofs.Numbering.{IsCalling}
use Rattle.syn_models.proofs.instance_calls.call_names.Given as goal

abbrev pub invariant-loop-i : goal.invariant-loop-i
invariant-loop-i l = IsCalling l.called.names l.called.maps.items l.main l.instances (drop l.i l.instances) l.count l.i
