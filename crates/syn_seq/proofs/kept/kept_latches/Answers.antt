use Rattle.std.proofs.Common.{◌++◌, List, ap, ◌∙◌, drop, get_or, if◌then◌else◌, [], ◌∷◌, ◌+◌, arith}
use Rattle.syn_netlist.specs.declared.Latch.{Latch}
use Rattle.syn_seq.specs.Code.{is_kept, kept_latches}
use Rattle.syn_seq.specs.Rounds.{Dropped}
use Rattle.syn_seq.proofs.KeptLatches.{kept_step}
use Rattle.syn_seq.proofs.kept.kept_latches.Goals as goal

pub loop-j-preserved : goal.loop-j-preserved
loop-j-preserved c =
    let j = c.loop-j.j in
    ap (λ (ks : List Latch). ks ++ kept_latches (drop (j + 1) c.args.fates.now) (drop (j + 1) c.args.latches.now)) (c.in_ok-push_kept.ensures ∙ ap (λ (x : Latch). c.loop-j.kept.items ++ (if is_kept (get_or c.args.fates.now j Dropped) then x ∷ [] else [])) c.index-latches-j.is)
    ∙ kept_step c.loop-j.kept.items c.args.fates.now c.args.latches.now j c.index-latches-j.result c.loop-j-test.true (omega (arith, c.loop-j-test.true, c.requires))
    ∙ c.loop-j.invariant
