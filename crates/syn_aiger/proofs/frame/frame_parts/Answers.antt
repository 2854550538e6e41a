use Rattle.std.proofs.Common.{List, ℕ, length, ap, ◌∙◌, arith}
use Rattle.syn_aiger_files.specs.declared.files.AigLatch.{AigLatch}
use Rattle.syn_aiger.proofs.Parting.{many_numbers, parted, parts_of}
use Rattle.syn_aiger.proofs.frame.frame_parts.Goals as goal

pub split_at-requires : goal.split_at-requires
split_at-requires c = omega (arith, many_numbers c.args.file.now.aig c.args.given.now c.requires, c.len.ensures, ap (λ (ns : List ℕ). length ns) c.as_slice.ensures.value)

pub split_at-requires-2 : goal.split_at-requires-2
split_at-requires-2 c =
    omega (arith, many_numbers c.args.file.now.aig c.args.given.now c.requires, c.len.ensures, ap (λ (ns : List ℕ). length ns) c.as_slice.ensures.value, c.split_at.ensures.back_len, ap (λ (ls : List AigLatch). length ls) c.as_slice-states.ensures)

pub split_at-requires-3 : goal.split_at-requires-3
split_at-requires-3 c =
    omega (arith, many_numbers c.args.file.now.aig c.args.given.now c.requires, c.len.ensures, ap (λ (ns : List ℕ). length ns) c.as_slice.ensures.value, c.split_at.ensures.back_len, ap (λ (ls : List AigLatch). length ls) c.as_slice-states.ensures, c.split_at-2.ensures.back_len, ap (λ (ns : List ℕ). length ns) c.as_slice-2.ensures)

pub latches-requires-clause-feeds : goal.latches-requires-clause-feeds
latches-requires-clause-feeds c =
    omega (arith, many_numbers c.args.file.now.aig c.args.given.now c.requires, c.len.ensures, ap (λ (ns : List ℕ). length ns) c.as_slice.ensures.value, c.split_at.ensures.back_len, ap (λ (ls : List AigLatch). length ls) c.as_slice-states.ensures, c.split_at-2.ensures.back_len, ap (λ (ns : List ℕ). length ns) c.as_slice-2.ensures, c.split_at-3.ensures.back_len)

pub returns : goal.returns
returns c =
    let g = c.args.file.now.aig in
    let p = parted g c.args.given.now c.requires c.as_slice.result.now c.split_at.result.0.now c.split_at.result.1.now c.split_at-2.result.0.now c.split_at-2.result.1.now c.split_at-3.result.0.now c.split_at-3.result.1.now
    c.len.result (length c.as_slice-states.result.now) (length c.as_slice-2.result.now) c.as_slice.ensures.value c.len.ensures (ap (λ (ls : List AigLatch). length ls) c.as_slice-states.ensures) (ap (λ (ns : List ℕ). length ns) c.as_slice-2.ensures)
    c.split_at.ensures.front c.split_at.ensures.back c.split_at-2.ensures.front c.split_at-2.ensures.back c.split_at-3.ensures.front c.split_at-3.ensures.back in
    parts_of g c.args.given.now.names c.split_at.result.0.now c.split_at-2.result.0.now c.split_at-3.result.0.now c.split_at-3.result.1.now c.of.result c.of-2.result c.of-3.result c.as_slice-states.result.now c.in_ok-latches.latches.items c.of-4.result
    p (c.of.ensures ∙ c.in_ok-to_vec.ensures.items_if_clones_equal (λ x y e. e)) (c.of-2.ensures ∙ c.in_ok-to_vec-2.ensures.items_if_clones_equal (λ x y e. e))
    (c.of-3.ensures ∙ c.in_ok-to_vec-3.ensures.items_if_clones_equal (λ x y e. e)) c.of-4.ensures c.as_slice-states.ensures c.in_ok-latches.ensures.words c.in_ok-latches.ensures.below c.in_ok-latches.ensures.controls
