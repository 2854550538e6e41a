use Rattle.std.proofs.Common.{arith}
use Rattle.syn_reader.proofs.FewSources.{few_sources}
use Rattle.syn_reader.proofs.checked.source_count.Goals as goal

pub overflow_cast-result : goal.overflow_cast-result
overflow_cast-result c =
    let few = few_sources c.args.n.now c.in_ok-sources.sources.items c.in_ok-sources.ensures.words c.in_ok-sources.ensures.below in
    omega (arith, few)
