use Rattle.std.proofs.Common.{ℕ, List, map, sym, ap, ◌∙◌}
use Rattle.std.specs.List.{list_all}
use Rattle.syn_netlist.specs.Frames.{frame_in}
use Rattle.syn_netlist.specs.Lists.{Frame, observed}
use Rattle.syn_aiger.specs.Naming.{literal_named}
use Rattle.syn_aiger.specs.Placing.{is_defined}
use Rattle.syn_aiger.proofs.Judging.{observed_end}
use Rattle.syn_aiger.proofs.Slicing.{observed_stand}
use Rattle.syn_aiger.proofs.reader.observed_lits.Goals as goal

pub returns-clause-defined : goal.returns-clause-defined
returns-clause-defined c =
    let g = c.args.file.now.aig in
    ap (λ (f : Frame). list_all (is_defined g) (map (literal_named g) (observed f))) (sym c.requires.frame)
    ∙ ap (λ (ws : List (List ℕ)). list_all (is_defined g) (map (literal_named g) ws)) (sym c.in_ok-numbers.ensures.words)
    ∙ observed_stand g c.args.framed.now.frame.names c.in_ok-numbers.numbers.items c.requires.stand c.in_ok-numbers.ensures.below

pub returns-clause-lits : goal.returns-clause-lits
returns-clause-lits c =
    observed_end c.args.file.now.aig c.args.framed.now.frame.names c.in_ok-numbers.numbers.items c.as_slice-number-items.result.now c.loop-number.lits.items c.loop-number.number-index (frame_in c.args.framed.now.frame)
    c.as_slice-number-items.ensures.value c.in_ok-numbers.ensures.words c.requires.frame c.loop-number-test.false c.loop-number.invariant.lits
