use Rattle.std.proofs.Common.{◌≡◌, IfOk, subst}
use Rattle.syn_fanout_free.specs.Freeing.{AreFreed, ands_among, open_to}
use Rattle.syn_fanout_free.specs.Saved.{count_in}
use Rattle.syn_fanout_free.proofs.Ends.{reached_referred}
use Rattle.syn_gain.proofs.Owning.{as_owned}
use Rattle.syn_gain.proofs.bound.mffc.Goals as goal

pub freed-requires-clause-referred : goal.freed-requires-clause-referred
freed-requires-clause-referred c =
    reached_referred c.as_slice.result.now c.args.graph.now.observed (count_in c.as_slice-2.result.now) c.args.root
    (as_owned c.args.graph.now c.args.uses.now c.args.root c.requires.uses c.requires.root c.as_slice.result.now c.as_slice-2.result.now c.as_slice.ensures c.as_slice-2.ensures.value)

pub returns-clause-gone : goal.returns-clause-gone
returns-clause-gone c =
    subst (λ rows. IfOk c.freed.result (λ f. AreFreed rows (count_in c.args.uses.now.counts.items) c.args.root (open_to rows c.args.root c.args.spared.now) f.nodes.items)) c.as_slice.ensures
    (subst (λ counts. IfOk c.freed.result (λ f. AreFreed c.as_slice.result.now (count_in counts) c.args.root (open_to c.as_slice.result.now c.args.root c.args.spared.now) f.nodes.items)) c.as_slice-2.ensures.value
    c.freed.ensures.sound)

pub returns-clause-ands : goal.returns-clause-ands
returns-clause-ands c = subst (λ rows. IfOk c.freed.result (λ f. f.ands ≡ ands_among rows f.nodes.items)) c.as_slice.ensures c.freed.ensures.ands
