use Rattle.syn_shell.proofs.ResubstitutedLuts.{resubstituted_of}
use Rattle.syn_shell.proofs.resubstituting.resubstituted.Goals as goal

pub under_names-requires : goal.under_names-requires
under_names-requires c = c.in_ok-body.ensures.same

pub returns : goal.returns
returns c =
    resubstituted_of (record { luts = c.network_of_luts.ensures; function = c.luts_have_function.ensures; same = c.same_from_function.ensures }) c.args.net.now c.in_ok-body.body c.under_names.result
    c.under_names.ensures.frame c.under_names.ensures.body c.in_ok-body.ensures
