use Rattle.std.proofs.Common.{length, get_or, ap, ◌∙◌, arith}
use Rattle.syn_models.proofs.Listing.{ports_size}
use Rattle.syn_models.proofs.Siting.{ports_of_number}
use Rattle.syn_models.proofs.undriven.push_subcircuit.Goals as goal

pub bounds-as_slice-number : goal.bounds-as_slice-number
bounds-as_slice-number c = omega (arith, c.in-Some.ensures.below, ports_size c.args.file.now.models.now c.args.file.now.ports.items c.requires.ports, ap length c.as_slice-in-Some.ensures.value)

pub push_bound-requires : goal.push_bound-requires
push_bound-requires c =
    ports_of_number c.args.file.now.models.now c.args.file.now.ports.items c.in-Some.number c.index-file-number.result c.index-as_slice-number.result c.requires.ports c.in-Some.ensures.below c.index-file-number.is
    (c.index-as_slice-number.is ∙ ap (λ ps. get_or ps c.in-Some.number c.index-as_slice-number.result) c.as_slice-in-Some.ensures.value)
