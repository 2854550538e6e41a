use Rattle.std.proofs.Common.{◌+◌, List, length, refl, sym, ap, subst, arith}
use Rattle.std.proofs.lemmas.List.{length-map, map-set}
use Rattle.syn_sat.specs.declared.solver.Solver.{Solver}
use Rattle.syn_fraig.specs.Sweeping.{AreTrueBy}
use Rattle.syn_lutnet.specs.LutData as spelled
use Rattle.syn_lutnet.specs.declared.luts.Lut.{Lut}
use Rattle.syn_lutnet.specs.Data.{lut_data, luts_data}
use Rattle.syn_mfs.specs.Replacing.{IsLater}
use Rattle.syn_mfs.proofs.Later.{fit_reads, later_grown, later_set}
use Rattle.syn_mfs.proofs.attempts.attempt.Goals as goal

pub ask_lut-requires-clause-inputs : goal.ask_lut-requires-clause-inputs
ask_lut-requires-clause-inputs c =
    fit_reads (c.args.first + c.args.place) (length c.args.lits.now) (lut_data c.in-Some.lut) (c.if-not-is_fit.ensures.fit refl)
    (omega (arith, c.requires.pass.placed.long, c.requires.place, length-map c.args.luts.now.items lut_data))

pub returns-in_ok-take-in-Refuted-clause-later : goal.returns-in_ok-take-in-Refuted-clause-later
returns-in_ok-take-in-Refuted-clause-later c =
    let first = c.args.first in
    let lits = c.args.lits.now in
    let luts = c.args.luts.now.items in
    let i = c.args.place in
    let lut = c.in-Some.lut in
    let old = c.args.hashed.now in
    let new = c.ask_lut.new.hashed.rows.items in
    let after = c.ask_lut.new.tools.solver.clauses in
    subst (λ (ls : List spelled.Lut). IsLater first lits (luts_data luts) old.rows.items ls new after) (sym (map-set lut_data luts i lut))
    (later_set first lits (luts_data luts) old.rows.items new c.args.tools.now.solver.clauses after i (lut_data lut) (omega (arith, old.hashed.there)) (omega (arith, c.requires.place, length-map luts lut_data)) c.requires.pass c.ask_lut.ensures.grows
    c.in_ok-ask_lut.ensures.clauses (c.if-not-is_fit.ensures.fit refl)
    (omega (arith, c.if-not-is_fit.ensures.few refl, c.input_count-most.ensures, ap (λ (ls : List Lut). length (spelled.lut_at (luts_data ls) i).inputs) c.as_slice.ensures.value)) (c.in_ok-ask_lut.ensures.value c.in-Refuted.is))

pub returns-in_ok-note-in-Model-clause-later : goal.returns-in_ok-note-in-Model-clause-later
returns-in_ok-note-in-Model-clause-later c =
    let old = c.args.hashed.now in
    let new = c.ask_lut.new.hashed.rows.items in
    later_grown c.args.first c.args.lits.now (luts_data c.args.luts.now.items) old.rows.items new c.args.tools.now.solver.clauses c.note.new.self.solver.clauses (omega (arith, old.hashed.there)) c.requires.pass c.ask_lut.ensures.grows
    (subst (λ (s : Solver). AreTrueBy new s.clauses) (sym c.note.ensures) c.in_ok-ask_lut.ensures.clauses)

pub returns-in-Undecided-clause-later : goal.returns-in-Undecided-clause-later
returns-in-Undecided-clause-later c =
    let old = c.args.hashed.now in
    later_grown c.args.first c.args.lits.now (luts_data c.args.luts.now.items) old.rows.items c.ask_lut.new.hashed.rows.items c.args.tools.now.solver.clauses c.ask_lut.new.tools.solver.clauses (omega (arith, old.hashed.there)) c.requires.pass
    c.ask_lut.ensures.grows c.in_ok-ask_lut.ensures.clauses
