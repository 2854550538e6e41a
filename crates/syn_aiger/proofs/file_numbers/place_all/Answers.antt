use Rattle.syn_aiger.proofs.Counting.{inputs_once, placed_all}
use Rattle.syn_aiger.proofs.file_numbers.place_all.Goals as goal

pub place_inputs-requires-clause-once : goal.place_inputs-requires-clause-once
place_inputs-requires-clause-once c = inputs_once c.args.aig.now c.requires

pub returns : goal.returns
returns c = placed_all c.args.aig.now c.requires _ _ _ _ _ c.as_slice.ensures c.as_slice-2.ensures c.in_ok-places.ensures c.in_ok-place_latches.ensures.places c.in_ok-place_ands.ensures.places
