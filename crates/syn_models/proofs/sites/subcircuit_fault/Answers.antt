use Rattle.std.proofs.Common.{◌≡◌, ℕ, List, map, length, get_or, Option, Some, None, option_map, sym, ap, ◌∙◌, subst, arith}
use Rattle.std.specs.List.{list_all}
use Rattle.std.specs.Option.{option_or}
use Rattle.std.proofs.lemmas.Bool.{and_parts}
use Rattle.syn_netlist.specs.Words.{is_word}
use Rattle.syn_models.specs.declared.flat_fault.FlatFault.TheVariants.{DefinedTwice}
use Rattle.syn_models.specs.declared.hierarchy.Bind.{Bind}
use Rattle.syn_models.specs.declared.hierarchy.Model as code
use Rattle.syn_models.specs.FlatFaults.{first_again, foreign, unbound}
use Rattle.syn_models.specs.Files.{all_in}
use Rattle.syn_models.specs.Kept.{bind_in, subcircuit_in}
use Rattle.syn_models.specs.Marked.{Marked, defined_before, defines_in, pushed}
use Rattle.syn_models.specs.Models.{Model, formal_of, model_named}
use Rattle.syn_models.specs.Views.{model_in}
use Rattle.syn_models.proofs.Listing.{ports_size}
use Rattle.syn_models.proofs.Siting.{ports_of_number, few_binds, formals_any, twice_found, marked_below}
use Rattle.syn_models.proofs.sites.subcircuit_fault.Goals as goal

pub bounds-as_slice-number : goal.bounds-as_slice-number
bounds-as_slice-number c = omega (arith, c.in-Some.ensures.below, ports_size c.args.file.now.models.now c.args.file.now.ports.items c.requires.file.ports, ap length c.as_slice-2.ensures.value)

pub unknown_port-requires : goal.unknown_port-requires
unknown_port-requires c =
    ports_of_number c.args.file.now.models.now c.args.file.now.ports.items c.in-Some.number c.index-file-number.result c.index-as_slice-number.result c.requires.file.ports c.in-Some.ensures.below c.index-file-number.is
    (c.index-as_slice-number.is ∙ ap (λ ps. get_or ps c.in-Some.number c.index-as_slice-number.result) c.as_slice-2.ensures.value)

pub port_missing-requires-clause-ports : goal.port_missing-requires-clause-ports
port_missing-requires-clause-ports c =
    ports_of_number c.args.file.now.models.now c.args.file.now.ports.items c.in-Some.number c.index-file-number.result c.index-as_slice-number.result c.requires.file.ports c.in-Some.ensures.below c.index-file-number.is
    (c.index-as_slice-number.is ∙ ap (λ ps. get_or ps c.in-Some.number c.index-as_slice-number.result) c.as_slice-2.ensures.value)

pub defined_twice-requires-clause-ports : goal.defined_twice-requires-clause-ports
defined_twice-requires-clause-ports c =
    ports_of_number c.args.file.now.models.now c.args.file.now.ports.items c.in-Some.number c.index-file-number.result c.index-as_slice-number.result c.requires.file.ports c.in-Some.ensures.below c.index-file-number.is
    (c.index-as_slice-number.is ∙ ap (λ ps. get_or ps c.in-Some.number c.index-as_slice-number.result) c.as_slice-2.ensures.value)

pub port_missing-requires-clause-few : goal.port_missing-requires-clause-few
port_missing-requires-clause-few c =
    let home : List (List ℕ) = c.args.home.now in
    let all : List Model = all_in c.args.file.now in
    let inside : code.Model = get_or c.args.file.now.models.now c.in-Some.number c.index-file-number.result in
    let named : model_named all c.args.c.now.model ≡ Some (model_in inside) = ap (model_named all) (sym c.as_slice.ensures) ∙ c.in-Some.ensures.some inside (ap (get_or c.args.file.now.models.now c.in-Some.number) c.index-file-number.is) in
    let port : foreign (map (bind_in home) c.args.c.now.binds) (Some (model_in inside)) ≡ None =
    sym (ap (λ (bs : List Bind). foreign (map (bind_in home) bs) (Some (model_in inside))) c.as_slice-binds.ensures) ∙ sym (c.in_ok-formal.ensures home) ∙ c.in_default-2.is in
    let ports = ports_of_number c.args.file.now.models.now c.args.file.now.ports.items c.in-Some.number c.index-file-number.result c.index-as_slice-number.result c.requires.file.ports c.in-Some.ensures.below c.index-file-number.is
    (c.index-as_slice-number.is ∙ ap (λ ps. get_or ps c.in-Some.number c.index-as_slice-number.result) c.as_slice-2.ensures.value) in
    omega (arith, few_binds inside c.index-as_slice-number.result home c.args.c.now.binds ports c.requires.once port, c.len-count.ensures.value, c.len-count.type_inv, ap length c.as_slice-binds.ensures)

pub port_missing-requires-clause-words : goal.port_missing-requires-clause-words
port_missing-requires-clause-words c =
    let parts = and_parts (is_word c.args.c.now.model) (list_all is_word (map formal_of (map (bind_in c.args.home.now) c.args.c.now.binds))) c.requires.spelled in
    λ names.
    ap (λ (bs : List Bind). list_all is_word (map formal_of (map (bind_in names) bs))) c.as_slice-binds.ensures
    ∙ ap (list_all is_word) (formals_any names c.args.home.now c.args.c.now.binds) ∙ parts.1

pub returns-in-Some-4-clause-found : goal.returns-in-Some-4-clause-found
returns-in-Some-4-clause-found c =
    let home : List (List ℕ) = c.args.home.now in
    let all : List Model = all_in c.args.file.now in
    let inside : code.Model = get_or c.args.file.now.models.now c.in-Some.number c.index-file-number.result in
    let named : model_named all c.args.c.now.model ≡ Some (model_in inside) = ap (model_named all) (sym c.as_slice.ensures) ∙ c.in-Some.ensures.some inside (ap (get_or c.args.file.now.models.now c.in-Some.number) c.index-file-number.is) in
    let port : foreign (map (bind_in home) c.args.c.now.binds) (Some (model_in inside)) ≡ None =
    sym (ap (λ (bs : List Bind). foreign (map (bind_in home) bs) (Some (model_in inside))) c.as_slice-binds.ensures) ∙ sym (c.in_ok-formal.ensures home) ∙ c.in_default-2.is in
    let missing : unbound (map (bind_in home) c.args.c.now.binds) (Some (model_in inside)) ≡ None =
    sym (ap (λ (bs : List Bind). unbound (map (bind_in home) bs) (Some (model_in inside))) c.as_slice-binds.ensures) ∙ sym (c.in_ok-port.ensures home) ∙ c.in_default-3.is in
    λ m above h.
    ap (λ (r : Option (List ℕ)). option_or (option_map (DefinedTwice c.args.line) r) None) (sym c.in-Some-4.is)
    ∙ twice_found all m above c.args.line (subcircuit_in home c.args.c.now) (model_in inside) c.in_ok-name.field-0 named port missing
    (c.in_ok-name.ensures.found (defined_before all m above) h ∙ ap (λ (bs : List Bind). first_again (defined_before all m above) (defines_in home (model_in inside) bs)) c.as_slice-binds.ensures)

pub returns-clause-found : goal.returns-clause-found
returns-clause-found c =
    let home : List (List ℕ) = c.args.home.now in
    let all : List Model = all_in c.args.file.now in
    let inside : code.Model = get_or c.args.file.now.models.now c.in-Some.number c.index-file-number.result in
    let named : model_named all c.args.c.now.model ≡ Some (model_in inside) = ap (model_named all) (sym c.as_slice.ensures) ∙ c.in-Some.ensures.some inside (ap (get_or c.args.file.now.models.now c.in-Some.number) c.index-file-number.is) in
    let port : foreign (map (bind_in home) c.args.c.now.binds) (Some (model_in inside)) ≡ None =
    sym (ap (λ (bs : List Bind). foreign (map (bind_in home) bs) (Some (model_in inside))) c.as_slice-binds.ensures) ∙ sym (c.in_ok-formal.ensures home) ∙ c.in_default-2.is in
    let missing : unbound (map (bind_in home) c.args.c.now.binds) (Some (model_in inside)) ≡ None =
    sym (ap (λ (bs : List Bind). unbound (map (bind_in home) bs) (Some (model_in inside))) c.as_slice-binds.ensures) ∙ sym (c.in_ok-port.ensures home) ∙ c.in_default-3.is in
    λ m above h.
    ap (λ (r : Option (List ℕ)). option_or (option_map (DefinedTwice c.args.line) r) None) (sym c.in_default-4.is)
    ∙ twice_found all m above c.args.line (subcircuit_in home c.args.c.now) (model_in inside) c.in_ok-name.field-0 named port missing
    (c.in_ok-name.ensures.found (defined_before all m above) h ∙ ap (λ (bs : List Bind). first_again (defined_before all m above) (defines_in home (model_in inside) bs)) c.as_slice-binds.ensures)

pub returns-clause-marked : goal.returns-clause-marked
returns-clause-marked c =
    let home : List (List ℕ) = c.args.home.now in
    let all : List Model = all_in c.args.file.now in
    let inside : code.Model = get_or c.args.file.now.models.now c.in-Some.number c.index-file-number.result in
    let named : model_named all c.args.c.now.model ≡ Some (model_in inside) = ap (model_named all) (sym c.as_slice.ensures) ∙ c.in-Some.ensures.some inside (ap (get_or c.args.file.now.models.now c.in-Some.number) c.index-file-number.is) in
    let marked = rw c.in_default-4.is at c.in_ok-name.ensures.marked in
    λ m above h.
    marked_below home all m above c.args.line (subcircuit_in home c.args.c.now) (model_in inside) c.defined_twice.new.marks named
    (subst (λ (bs : List Bind). Marked home (pushed (defined_before all m above) (defines_in home (model_in inside) bs)) c.defined_twice.new.marks) c.as_slice-binds.ensures (marked (defined_before all m above) h))
