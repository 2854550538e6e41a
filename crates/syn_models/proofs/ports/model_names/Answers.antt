use Rattle.std.proofs.Common.{◌<◌, map, length, arith, ap₂, ◌∙◌}
use Rattle.syn_netlist.specs.Numbers.{with_word}
use Rattle.syn_models.specs.Models.{name_of}
use Rattle.syn_models.specs.Views.{model_in}
use Rattle.syn_models.proofs.Listing.{name_at, names_size, one_more_name}
use Rattle.syn_models.proofs.ports.model_names.Goals as goal

pub loop-m-preserved : goal.loop-m-preserved
loop-m-preserved c =
    let ms = c.args.models.now in
    let inside : c.loop-m.m-index < length (map name_of (map model_in ms)) = omega (arith, names_size ms) in
    c.in_ok-add.ensures.ok
    ∙ ap₂ with_word c.loop-m.invariant c.as_slice.ensures
    ∙ one_more_name (map name_of (map model_in ms)) c.loop-m.m-index c.m-item.result.name c.requires.distinct inside (name_at ms c.loop-m.m-index c.m-item.result (omega arith) c.m-item.is)
