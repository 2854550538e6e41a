use Rattle.std.proofs.lemmas.Result.{IfOk-weaker}
use Rattle.syn_lutnet.specs.declared.nets.LutNet.{LutNet}
use Rattle.syn_area.specs.Plain.{IsEither, IsNoDearer, IsNoWorse}
use Rattle.syn_area.proofs.Bettering.{either_no_worse, if_both}
use Rattle.syn_area.proofs.mapper.bettered.Goals as goal

pub returns-in-Ok-clause-no_worse : goal.returns-in-Ok-clause-no_worse
returns-in-Ok-clause-no_worse c =
    let gr = c.args.graph.now in
    let areas = c.args.areas.now in
    let plain = c.args.plain in
    let net = c.in-Ok.net in
    let most = c.in-Ok.most in
    IfOk-weaker c.cheaper.result (λ (kept : LutNet). IsEither most net plain kept × IsNoDearer areas kept plain) (λ kept. IsNoWorse c.args.k areas kept plain)
    (λ kept both. either_no_worse c.args.k most areas gr net plain kept c.in-Ok.ensures.luts c.requires.luts c.in-Ok.ensures.depth both.0 both.1)
    (if_both c.cheaper.result (IsEither most net plain) (λ kept. IsNoDearer areas kept plain) c.cheaper.ensures.either c.cheaper.ensures.no_dearer)
