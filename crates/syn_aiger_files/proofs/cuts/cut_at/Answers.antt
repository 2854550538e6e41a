use Rattle.syn_aiger_files.proofs.Cutting.{code_none, code_some}
use Rattle.syn_aiger_files.proofs.cuts.cut_at.Goals as goal

pub returns-in-Some-clause-front : goal.returns-in-Some-clause-front
returns-in-Some-clause-front c = (code_some c.args.end c.args.text.now c.split_at.result.0.now c.split_at.result.1.now c.bytes_before.result _ c.in-Some.behind.now c.bytes_before.ensures.value c.split_at.ensures.front c.split_at.ensures.back c.in-Some.ensures.cases.0).0

pub returns-in-Some-clause-behind : goal.returns-in-Some-clause-behind
returns-in-Some-clause-behind c = (code_some c.args.end c.args.text.now c.split_at.result.0.now c.split_at.result.1.now c.bytes_before.result _ c.in-Some.behind.now c.bytes_before.ensures.value c.split_at.ensures.front c.split_at.ensures.back c.in-Some.ensures.cases.0).1

pub returns-in-None-clause-front : goal.returns-in-None-clause-front
returns-in-None-clause-front c = (code_none c.args.end c.args.text.now c.split_at.result.0.now c.split_at.result.1.now c.bytes_before.result c.bytes_before.ensures.value c.split_at.ensures.front c.split_at.ensures.back c.in-None.ensures.cases).0

pub returns-in-None-clause-behind : goal.returns-in-None-clause-behind
returns-in-None-clause-behind c = (code_none c.args.end c.args.text.now c.split_at.result.0.now c.split_at.result.1.now c.bytes_before.result c.bytes_before.ensures.value c.split_at.ensures.front c.split_at.ensures.back c.in-None.ensures.cases).1
