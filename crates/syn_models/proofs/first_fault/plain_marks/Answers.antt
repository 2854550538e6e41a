use Rattle.std.proofs.Common.{◌≡◌, List, ℕ, length, flat_map, sym, ap, ap₂, ◌∙◌, subst, append-nil}
use Rattle.syn_netlist.specs.Marks.{AreMarks}
use Rattle.syn_netlist.specs.Numbers.{all_below}
use Rattle.syn_models.specs.Listed.{plain_in}
use Rattle.syn_models.specs.Models as models
use Rattle.syn_models.specs.FlatFaults.{defined_plainly}
use Rattle.syn_models.specs.Views.{model_in}
use Rattle.syn_models.proofs.Listing.{marks_tell}
use Rattle.syn_models.proofs.Stepping.{plain_words, plain_below}
use Rattle.syn_models.proofs.first_fault.plain_marks.Goals as goal

pub marks_of-requires : goal.marks_of-requires
marks_of-requires c = ap₂ all_below c.len.ensures.value (c.deref.ensures.value ∙ c.in_ok-numbers.ensures ∙ ap (flat_map plain_in) c.as_slice.ensures) ∙ plain_below (length c.args.m.now.names) c.args.m.now.statements c.args.m.now.below

pub returns : goal.returns
returns c = λ all.
    let m = c.args.m.now in
    let low = plain_below (length m.names) m.statements m.below in
    let marks : AreMarks (flat_map plain_in m.statements) c.in_ok-marks.marks.items =
    subst (λ (ns : List ℕ). AreMarks ns c.in_ok-marks.marks.items) (c.deref.ensures.value ∙ c.in_ok-numbers.ensures ∙ ap (flat_map plain_in) c.as_slice.ensures) c.in_ok-marks.ensures.marks in
    let size : length c.in_ok-marks.marks.items ≡ length m.names = c.in_ok-marks.ensures.length ∙ c.len.ensures.value in
    let words = plain_words m.names m.statements ∙ sym (append-nil (flat_map (λ (s : models.Statement). defined_plainly s.kind) (model_in m).statements)) in
    record { size = size; at = marks_tell m.names (flat_map plain_in m.statements) _ c.in_ok-marks.marks.items c.len.ensures.distinct low words size marks }
