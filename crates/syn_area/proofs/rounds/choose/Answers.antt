use Rattle.std.proofs.Common.{◌≡◌, List, length, map, ap, ◌∙◌}
use Rattle.std.proofs.lemmas.List.{length-map}
use Rattle.syn_rows.specs.declared.Row.{Row}
use Rattle.syn_area.specs.Kept as kept
use Rattle.syn_area.proofs.Joining.{fan_ins_chosen}
use Rattle.syn_area.proofs.rounds.choose.Goals as goal

pub loop-step-init : goal.loop-step-init
loop-step-init c =
    let gr = c.args.graph.now in
    let chosen = c.in_ok-chosen.chosen in
    let is : chosen ≡ map kept.fan_ins gr.rows = c.in_ok-chosen.ensures ∙ ap (λ (l : List Row). map kept.fan_ins l) c.as_slice.ensures in
    record {
      count = ap length is ∙ length-map gr.rows kept.fan_ins;
      fit = fan_ins_chosen c.args.k gr.source_count gr.rows chosen c.requires.many gr.graph.hashed is;
    }
