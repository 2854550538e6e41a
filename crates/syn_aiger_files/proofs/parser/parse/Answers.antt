use Rattle.std.proofs.Common.{[], length, ◌-◌, Ok, ap, sym, ◌∙◌, inr}
use Rattle.std.proofs.lemmas.Result.{err_from_is_err_and}
use Rattle.syn_aiger_files.specs.Files.{Aig}
use Rattle.syn_aiger_files.specs.Gathered.{body_by, lists_of}
use Rattle.syn_aiger_files.specs.Spelling.{header_in, judged, spelled}
use Rattle.syn_aiger_files.specs.Symbols.{symbols_of}
use Rattle.syn_aiger_files.specs.Texts.{lines_at, words_of}
use Rattle.syn_aiger_files.proofs.Parsed.{passes, says_all, says_body_fault, says_header_fault, says_symbol_fault}
use Rattle.syn_aiger_files.proofs.parser.parse.Goals as goal

pub returns-in_err-header-clause-fault : goal.returns-in_err-header-clause-fault
returns-in_err-header-clause-fault c =
    let p = err_from_is_err_and c.from_residual.result c.from_residual.ensures.1 in
    passes c.from_residual.result p.0 c.in_err-header.field-0.0 (judged c.args.properties (header_in (words_of c.cut_line.result.0.now))) (spelled c.args.properties c.args.bytes.now) p.1 p.2
    (λ f k. says_header_fault c.args.properties c.args.bytes.now c.cut_line.result.1.now c.cut_line.ensures.behind c.cut_line.result.0.now c.cut_line.ensures.line f k)
    (inr c.in_err-header.ensures.fault)

pub returns-in_err-body-clause-fault : goal.returns-in_err-body-clause-fault
returns-in_err-body-clause-fault c =
    let p = err_from_is_err_and c.from_residual-in_err-body.result c.from_residual-in_err-body.ensures.1 in
    let h = c.in_ok-header.header in
    passes c.from_residual-in_err-body.result p.0 c.in_err-body.field-0.0 (body_by h.ascii h (length c.args.bytes.now) c.cut_line.result.1.now) (spelled c.args.properties c.args.bytes.now) p.1 p.2
    (λ f k. says_body_fault c.args.properties c.args.bytes.now c.cut_line.result.1.now c.cut_line.ensures.behind c.cut_line.result.0.now h c.cut_line.ensures.line c.in_ok-header.ensures.header f k)
    c.in_err-body.ensures.fault

pub returns-in_err-symbols-clause-fault : goal.returns-in_err-symbols-clause-fault
returns-in_err-symbols-clause-fault c =
    let p = err_from_is_err_and c.from_residual-in_err-symbols.result c.from_residual-in_err-symbols.ensures.1 in
    let h = c.in_ok-header.header in
    let rest = c.in_ok-body.rest.now in
    passes c.from_residual-in_err-symbols.result p.0 c.in_err-symbols.field-0.0 (symbols_of h [] (lines_at (length c.args.bytes.now - length rest) rest)) (spelled c.args.properties c.args.bytes.now) p.1 p.2
    (λ f k. says_symbol_fault c.args.properties c.args.bytes.now c.cut_line.result.1.now c.cut_line.ensures.behind c.cut_line.result.0.now h c.cut_line.ensures.line c.in_ok-header.ensures.header (lists_of c.in_ok-body.body) rest c.in_ok-body.ensures.body f k)
    c.in_err-symbols.ensures.fault

pub returns-clause-says : goal.returns-clause-says
returns-clause-says c =
    let h = c.in_ok-header.header in
    let rest = c.in_ok-body.rest.now in
    says_all c.args.properties c.args.bytes.now c.cut_line.result.1.now c.cut_line.ensures.behind c.cut_line.result.0.now h c.cut_line.ensures.line c.in_ok-header.ensures.header (lists_of c.in_ok-body.body) rest c.in_ok-body.ensures.body c.in_ok-symbols.symbols.items c.in_ok-symbols.ensures.symbols
    ∙ ap (λ (g : Aig). Ok g) (sym (c.aig_by.ensures c.in_ok-symbols.symbols.items c.in_ok-all.ensures))
