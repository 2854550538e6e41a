use Rattle.std.proofs.Common.{◌+◌, List, ◌∙◌, subst, arith}
use Rattle.std.proofs.lemmas.Result.{on_ok_weaker}
use Rattle.syn_hashed.specs.Hashed.{IsHashed}
use Rattle.syn_lutnet.specs.LutData as spelled
use Rattle.syn_lutnet.specs.Data.{luts_data}
use Rattle.syn_mfs.specs.Replacing.{IsLater}
use Rattle.syn_mfs.proofs.Functions.{pass_trims}
use Rattle.syn_mfs.proofs.passes.replace_in.Goals as goal

pub returns-clause-same : goal.returns-clause-same
returns-clause-same c =
    let net = c.args.net.now in
    let count = net.source_count in
    let lits = c.args.lits.now in
    let old = c.args.hashed.now in
    let after = c.improve_all.new in
    let new = after.hashed.rows.items in
    let now = luts_data after.luts.items in
    let known = after.tools.solver.clauses in
    on_ok_weaker c.improve_all.result
    (λ later.
    pass_trims count (luts_data net.luts) now lits net.observed old.rows.items new known net.net (omega (arith, old.hashed.there)) (subst (λ n. IsHashed n new) (c.improve_all.ensures.sources ∙ c.requires.count) after.hashed.hashed) c.requires.sources
    c.requires.placed
    (subst (λ (ls : List spelled.Lut). IsLater (count + 1) lits ls old.rows.items now new known) c.requires.luts later))
    c.improve_all.ensures.later
