use Rattle.std.proofs.Common.{◌^◌, [], refl}
use Rattle.syn_rows.specs.Rows.{refs_of, row_at}
use Rattle.syn_cones.proofs.Walking.{rises_puts}
use Rattle.syn_growing.specs.Growing.{cone_of, over_fan_ins}
use Rattle.syn_growing.proofs.Choosing.{none_may_be}
use Rattle.syn_growing.proofs.Falling.{begins_below, grown_ends}
use Rattle.syn_growing.proofs.laws.grows_until_none.Goals as goal

pub returns : goal.returns
returns c rows node have gate =
    none_may_be rows (cone_of rows node) (grown_ends rows have (2 ^ node) (over_fan_ins rows node) (rises_puts (refs_of (row_at rows node)) [] refl) (begins_below rows node have gate))
