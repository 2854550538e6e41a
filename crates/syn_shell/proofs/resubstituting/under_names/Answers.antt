use Rattle.std.proofs.Common.{sym, subst}
use Rattle.syn_netlist.specs.Frames.{frame_in}
use Rattle.syn_netlist.specs.Lists.{Frame}
use Rattle.syn_network.specs.Networks.{IsNamed}
use Rattle.syn_shell.proofs.ResubstitutedLuts.{names_fit_luts}
use Rattle.syn_shell.proofs.resubstituting.under_names.Goals as goal

pub of-requires-clause-named : goal.of-requires-clause-named
of-requires-clause-named c =
    let named = names_fit_luts (frame_in c.args.net.now.frame) c.args.net.now.body c.args.body c.requires c.args.net.now.named in
    subst (λ (f : Frame). IsNamed f c.args.body.source_count c.args.body.observed) (sym c.in_ok-frame.ensures.same) named
