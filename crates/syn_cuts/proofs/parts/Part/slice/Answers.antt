use Rattle.std.proofs.Common.{ap, ◌∙◌, drop, take}
use Rattle.syn_cuts.specs.Leaves.{leaves_of}
use Rattle.syn_cuts.proofs.Spans.{slice_leaves}
use Rattle.syn_cuts.proofs.parts.Part.slice.Goals as goal

pub returns : goal.returns
returns c =
    ap leaves_of c.cuts_from.ensures
    ∙ slice_leaves c.deref.result.now c.args.start c.args.len
    ∙ ap (λ l. take c.args.len (drop c.args.start l)) (ap leaves_of c.deref.ensures.value ∙ c.self.view_is)
