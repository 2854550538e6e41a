use Rattle.std.proofs.Common.{[], ℕ, List, length, option_map, slice_index_or, ap, ap₂, ◌∙◌, inl, arith}
use Rattle.syn_models.specs.declared.flat_fault.FlatFault.TheVariants.{Undriven}
use Rattle.syn_models.specs.declared.hierarchy.Model.{Model}
use Rattle.syn_models.proofs.Undefined.{reads_below}
use Rattle.syn_netlist.specs.Faults.{first_undefined}
use Rattle.syn_netlist.specs.Numbers.{all_below, words_at}
use Rattle.syn_netlist.specs.Views.{netlist_in}
use Rattle.syn_reader.proofs.Driving.{alone_fault}
use Rattle.syn_reader.proofs.Moving.{alone_flattens, alone_too_long, alone_within, one_is}
use Rattle.syn_reader.proofs.alone.alone.Goals as goal

pub undriven-requires : goal.undriven-requires
undriven-requires c =
    let m = c.remove-main.result in
    ap₂ all_below (ap length c.in_ok-netlist.ensures.names) (c.deref.ensures.value ∙ c.in_ok-netlist.ensures.reads) ∙ reads_below (length m.names) [] m.statements m.below

pub returns-in-Some-clause-fault : goal.returns-in-Some-clause-fault
returns-in-Some-clause-fault c =
    let ms = c.args.models.models in
    let m = c.remove-main.result in
    let one = one_is ms m c.requires (c.remove-main.ensures.value ∙ ap (λ (l : List Model). slice_index_or l 0 m) c.into_vec-all.ensures) in
    let moved = c.in_ok-netlist in
    let found = c.in_ok-name.ensures ∙ ap (λ (l : List ℕ). first_undefined (netlist_in moved.field-0.netlist) (words_at moved.field-0.netlist.frame.names l)) c.deref.ensures.value in
    let fault = alone_fault ms m (netlist_in moved.field-0.netlist) moved.field-0.netlist.frame.names moved.field-0.reads.items c.in_ok-name.field-0 one.0 one.1 moved.ensures.netlist moved.ensures.names moved.ensures.reads found in
    inl (fault ∙ ap (option_map Undriven) c.in-Some.is)

pub returns-then-words-gt-MAX_WORDS-clause-fault : goal.returns-then-words-gt-MAX_WORDS-clause-fault
returns-then-words-gt-MAX_WORDS-clause-fault c =
    let ms = c.args.models.models in
    let m = c.remove-main.result in
    let one = one_is ms m c.requires (c.remove-main.ensures.value ∙ ap (λ (l : List Model). slice_index_or l 0 m) c.into_vec-all.ensures) in
    let moved = c.in_ok-netlist in
    let found = c.in_ok-name.ensures ∙ ap (λ (l : List ℕ). first_undefined (netlist_in moved.field-0.netlist) (words_at moved.field-0.netlist.frame.names l)) c.deref.ensures.value in
    let fault = alone_fault ms m (netlist_in moved.field-0.netlist) moved.field-0.netlist.frame.names moved.field-0.reads.items c.in_ok-name.field-0 one.0 one.1 moved.ensures.netlist moved.ensures.names moved.ensures.reads found in
    alone_too_long ms m one.0 one.1 (fault ∙ ap (option_map Undriven) c.in_default.is) (omega arith) (omega arith)

pub returns-clause-netlist : goal.returns-clause-netlist
returns-clause-netlist c =
    let ms = c.args.models.models in
    let m = c.remove-main.result in
    let one = one_is ms m c.requires (c.remove-main.ensures.value ∙ ap (λ (l : List Model). slice_index_or l 0 m) c.into_vec-all.ensures) in
    let moved = c.in_ok-netlist in
    let found = c.in_ok-name.ensures ∙ ap (λ (l : List ℕ). first_undefined (netlist_in moved.field-0.netlist) (words_at moved.field-0.netlist.frame.names l)) c.deref.ensures.value in
    let fault = alone_fault ms m (netlist_in moved.field-0.netlist) moved.field-0.netlist.frame.names moved.field-0.reads.items c.in_ok-name.field-0 one.0 one.1 moved.ensures.netlist moved.ensures.names moved.ensures.reads found in
    alone_flattens ms m (netlist_in moved.field-0.netlist) one.0 one.1 (fault ∙ ap (option_map Undriven) c.in_default.is) moved.ensures.netlist

pub returns-clause-within : goal.returns-clause-within
returns-clause-within c =
    let ms = c.args.models.models in
    let m = c.remove-main.result in
    let one = one_is ms m c.requires (c.remove-main.ensures.value ∙ ap (λ (l : List Model). slice_index_or l 0 m) c.into_vec-all.ensures) in
    alone_within ms m one.0 one.1 (omega arith)
