use Rattle.std.proofs.lemmas.Result.{err_from_is_err_and}
use Rattle.syn_aiger.proofs.Judging.{parse_left, spelled_same}
use Rattle.syn_aiger.proofs.Soundness.{sound_of}
use Rattle.syn_aiger.proofs.reader.read_aig.Goals as goal

pub returns-in_err-parse-clause-fault : goal.returns-in_err-parse-clause-fault
returns-in_err-parse-clause-fault c =
    let p = err_from_is_err_and c.from_residual.result c.from_residual.ensures.1 in
    parse_left c.args.properties c.args.bytes.now c.from_residual.result p.0 c.in_err-parse.field-0.0 p.1 p.2 c.in_err-parse.ensures.fault

pub of-requires : goal.of-requires
of-requires c = sound_of c.args.properties c.args.bytes.now c.in_ok-parse.field-0 c.in_ok-parse.ensures.says

pub graph_within-requires : goal.graph_within-requires
graph_within-requires c = spelled_same c.args.properties c.args.bytes.now c.in_ok-parse.field-0 c.in_ok-file.file.aig c.in_ok-parse.ensures.says c.in_ok-file.ensures
