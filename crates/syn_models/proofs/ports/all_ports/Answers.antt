use Rattle.std.proofs.Common.{◌++◌, ◌∷◌, [], take, subst, sym, arith, List, rules, ◌≡◌}
use Rattle.syn_models.specs.declared.hierarchy.Model.{Model}
use Rattle.syn_models.specs.declared.ports.Ports.{Ports}
use Rattle.syn_models.specs.Listed.{AllPorts}
use Rattle.syn_models.proofs.Listing.{taken_to, all_ports_push}
use Rattle.syn_models.proofs.ports.all_ports.Goals as goal

pub loop-m-preserved : goal.loop-m-preserved
loop-m-preserved c =
    let items : c.push.new.self.items ≡ c.loop-m.all.items ++ c.in_ok-ports_of.field-0 ∷ [] = search rules in
    subst (λ (ms : List Model). AllPorts ms c.push.new.self.items) (sym (taken_to c.args.models.now c.loop-m.m-index c.m-item.result (omega arith) c.m-item.is))
    (subst (λ (ps : List Ports). AllPorts (take c.loop-m.m-index c.args.models.now ++ c.m-item.result ∷ []) ps) (sym items)
    (all_ports_push (take c.loop-m.m-index c.args.models.now) c.loop-m.all.items c.m-item.result c.in_ok-ports_of.field-0 c.loop-m.invariant c.in_ok-ports_of.ensures))
