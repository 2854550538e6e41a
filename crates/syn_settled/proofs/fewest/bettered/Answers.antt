use Rattle.std.proofs.lemmas.Result.{IfOk-weaker}
use Rattle.syn_lutnet.specs.declared.nets.LutNet.{LutNet}
use Rattle.syn_area.specs.Plain.{IsEither, IsNoDearer}
use Rattle.syn_area.proofs.Bettering.{if_both}
use Rattle.syn_settled.specs.Fewest.{AreFewestLutsOf, AreWrittenLutsOf}
use Rattle.syn_settled.proofs.Loosening.{either_written, fewest}
use Rattle.syn_settled.proofs.fewest.bettered.Goals as goal

pub returns-in-Ok-clause-luts : goal.returns-in-Ok-clause-luts
returns-in-Ok-clause-luts c =
    let gr = c.args.graph.now in
    let few = c.args.few in
    let net = c.in-Ok.net in
    let room = c.in-Ok.room in
    IfOk-weaker c.cheaper.result (IsEither room net few) (AreWrittenLutsOf c.args.k gr)
    (λ kept either. either_written c.args.k room c.args.areas.now gr net few kept c.in-Ok.ensures.luts c.requires.luts either) c.cheaper.ensures.either

pub returns-in-Ok-clause-fewest : goal.returns-in-Ok-clause-fewest
returns-in-Ok-clause-fewest c =
    let gr = c.args.graph.now in
    let areas = c.args.areas.now in
    let few = c.args.few in
    let net = c.in-Ok.net in
    let room = c.in-Ok.room in
    IfOk-weaker c.cheaper.result (λ (kept : LutNet). IsEither room net few kept × IsNoDearer areas kept few) (AreFewestLutsOf c.args.k areas c.args.slack gr)
    (λ kept both. fewest c.args.k room areas c.args.slack gr net few kept c.in-Ok.ensures.luts c.requires.luts c.in-Ok.ensures.room both.0 both.1)
    (if_both c.cheaper.result (IsEither room net few) (λ kept. IsNoDearer areas kept few) c.cheaper.ensures.either c.cheaper.ensures.no_dearer)
