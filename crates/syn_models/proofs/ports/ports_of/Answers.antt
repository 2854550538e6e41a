use Rattle.std.proofs.Common.{rules, ◌≡◌, ℕ, ◌++◌, flat_map, length, List, ap₂, ◌∙◌, subst}
use Rattle.syn_netlist.specs.Marks.{AreMarks}
use Rattle.syn_netlist.specs.Numbers.{all_below}
use Rattle.syn_models.specs.declared.ports.Role.TheVariants as roles
use Rattle.syn_models.specs.Listed.{listed_in}
use Rattle.syn_models.proofs.Listing.{listed_below, reading_below, ports_are}
use Rattle.syn_models.proofs.ports.ports_of.Goals as goal

pub marks_of-requires : goal.marks_of-requires
marks_of-requires c =
    let items : c.deref-2.result.now ≡ flat_map (listed_in roles.Input) c.args.m.now.statements ++ flat_map (listed_in roles.Clock) c.args.m.now.statements = search rules in
    ap₂ all_below c.len.ensures.value items ∙ reading_below c.args.m.now

pub marks_of-requires-2 : goal.marks_of-requires-2
marks_of-requires-2 c =
    let items : c.deref-3.result.now ≡ flat_map (listed_in roles.Output) c.args.m.now.statements = search rules in
    ap₂ all_below c.len-2.ensures.value items ∙ listed_below (length c.args.m.now.names) roles.Output c.args.m.now.statements c.args.m.now.below

pub returns : goal.returns
returns c =
    let items : c.extend_from_slice.new.self.items ≡ flat_map (listed_in roles.Input) c.args.m.now.statements ++ flat_map (listed_in roles.Clock) c.args.m.now.statements = search rules in
    let outputs : c.deref-3.result.now ≡ flat_map (listed_in roles.Output) c.args.m.now.statements = search rules in
    ports_are c.args.m.now _ c.len.ensures.distinct items (c.in_ok-reads.ensures.length ∙ c.len.ensures.value)
    (subst (λ (ns : List ℕ). AreMarks ns c.in_ok-reads.reads.items) c.deref-2.ensures.value c.in_ok-reads.ensures.marks)
    (c.in_ok-outputs-2.ensures.length ∙ c.len-2.ensures.value)
    (subst (λ (ns : List ℕ). AreMarks ns c.in_ok-outputs-2.outputs.items) outputs c.in_ok-outputs-2.ensures.marks)
