use Rattle.std.proofs.Common.{sym, ◌∙◌}
use Rattle.std.proofs.lemmas.Result.{IfOk-weaker}
use Rattle.syn_netlist.specs.Frames.{frame_in}
use Rattle.syn_network.specs.Written.{network_of}
use Rattle.syn_compare.proofs.Compared.{compares, inside}
use Rattle.syn_compare.proofs.Matched.{back_within, matched_suits, suits_itself}
use Rattle.syn_compare.proofs.Ordered.{network_function}
use Rattle.syn_compare.proofs.comparing.compared.Goals as goal

pub ordered-requires-clause-suits : goal.ordered-requires-clause-suits
ordered-requires-clause-suits c = suits_itself (frame_in c.args.first.now.frame)

pub ordered-requires-2-clause-suits : goal.ordered-requires-2-clause-suits
ordered-requires-2-clause-suits c =
    let f = c.args.first.now.frame in
    let s = c.args.second.now.frame in
    matched_suits (frame_in f) (frame_in s) f.sources_once s.sources_once c.requires.matched

pub equal-requires-clause-sources : goal.equal-requires-clause-sources
equal-requires-clause-sources c = c.in_ok-other.ensures.sources_are ∙ sym c.in_ok-one.ensures.sources_are

pub equal-requires-clause-observed : goal.equal-requires-clause-observed
equal-requires-clause-observed c = c.in_ok-other.ensures.count ∙ sym c.in_ok-one.ensures.count

pub told-requires : goal.told-requires
told-requires c = inside (frame_in c.args.first.now.frame) (network_of c.args.first.now) c.in_ok-one.one c.in_ok-other.other c.in_ok-one.ensures c.in_ok-equality.equality c.in_ok-equality.ensures

pub returns : goal.returns
returns c =
    let first = c.args.first.now in
    let second = c.args.second.now in
    IfOk-weaker c.told.result _ _
    (λ answer told. compares (network_of first) (network_of second) c.in_ok-one.one c.in_ok-other.other (network_function first).total (network_function second).total first.frame.sources_once
    (back_within (frame_in first.frame) (frame_in second.frame) c.requires.matched) c.in_ok-one.ensures c.in_ok-other.ensures c.in_ok-equality.equality answer c.in_ok-equality.ensures told)
    c.told.ensures
