use Rattle.std.proofs.Common.{◌≡◌, ◌++◌, List, ℕ, length, map, refl, ap, ◌∙◌, arith}
use Rattle.std.proofs.lemmas.List.{length-map}
use Rattle.syn_aiger_files.specs.Files.{latch_literal}
use Rattle.syn_aiger_files.specs.declared.files.AigLatch.{AigLatch}
use Rattle.syn_aiger.specs.Keeping.{Keeps}
use Rattle.syn_aiger.specs.Naming.{outputs_of, sources_of}
use Rattle.syn_aiger.proofs.Counting.{few_parts}
use Rattle.syn_aiger.proofs.Feeding.{keeps_all, kept_outputs, numbers_many}
use Rattle.syn_aiger.proofs.names.names_of.Goals as goal

pub name_feeds-requires-clause-sources : goal.name_feeds-requires-clause-sources
name_feeds-requires-clause-sources c =
    let g = c.args.file.now.aig in
    let k : Keeps c.name_places-3.new.given (sources_of g ++ outputs_of g) = kept_outputs g _ _ _ _ c.as_slice-symbols.result.now c.as_slice-2.result.now c.as_slice-3.result.now c.as_slice-outputs.result.now c.as_slice-symbols.ensures (c.as_slice-2.ensures.value ∙ c.in_ok-inputs.ensures)
    (c.as_slice-3.ensures.value ∙ c.in_ok-latches.ensures ∙ ap (λ (ls : List AigLatch). map latch_literal ls) c.as_slice.ensures) c.as_slice-outputs.ensures c.new-given.ensures.keeps c.in_ok-name_places.ensures.keeps c.in_ok-name_places-2.ensures.keeps c.in_ok-name_places-3.ensures.keeps in
    numbers_many g c.name_places-3.new.given k

pub returns-clause-keeps : goal.returns-clause-keeps
returns-clause-keeps c =
    let g = c.args.file.now.aig in
    let k : Keeps c.name_places-3.new.given (sources_of g ++ outputs_of g) = kept_outputs g _ _ _ _ c.as_slice-symbols.result.now c.as_slice-2.result.now c.as_slice-3.result.now c.as_slice-outputs.result.now c.as_slice-symbols.ensures (c.as_slice-2.ensures.value ∙ c.in_ok-inputs.ensures)
    (c.as_slice-3.ensures.value ∙ c.in_ok-latches.ensures ∙ ap (λ (ls : List AigLatch). map latch_literal ls) c.as_slice.ensures) c.as_slice-outputs.ensures c.new-given.ensures.keeps c.in_ok-name_places.ensures.keeps c.in_ok-name_places-2.ensures.keeps c.in_ok-name_places-3.ensures.keeps in
    keeps_all g c.name_feeds.new.given (c.in_ok-name_feeds.ensures.keeps (sources_of g ++ outputs_of g) (outputs_of g) k refl)

pub returns-clause-few : goal.returns-clause-few
returns-clause-few c =
    let g = c.args.file.now.aig in
    let ins : length c.as_slice-2.result.now ≡ length g.inputs = ap (λ (ns : List ℕ). length ns) (c.as_slice-2.ensures.value ∙ c.in_ok-inputs.ensures) in
    let lts : length c.as_slice-3.result.now ≡ length g.latches =
    ap (λ (ns : List ℕ). length ns) (c.as_slice-3.ensures.value ∙ c.in_ok-latches.ensures) ∙ length-map c.as_slice.result.now latch_literal ∙ ap (λ (ls : List AigLatch). length ls) c.as_slice.ensures in
    let outs : length c.as_slice-outputs.result.now ≡ length g.outputs = ap (λ (ns : List ℕ). length ns) c.as_slice-outputs.ensures in
    let parts = few_parts g c.args.file.now.sound in
    omega (arith, c.in_ok-name_feeds.ensures.few, c.in_ok-name_places-3.ensures.few, c.in_ok-name_places-2.ensures.few, c.in_ok-name_places.ensures.few, c.new-given.ensures.none, c.args.file.now.sound.outputs, parts)
