use Rattle.std.proofs.Common.{◌≡◌, ◌+◌, ◌<◌, ◌∙◌, List, length, Bool, sym, ap, subst, refl, arith}
use Rattle.std.proofs.lemmas.List.{length-map, length_push, get_or-map}
use Rattle.syn_rows.specs.declared.Lit.{Lit}
use Rattle.syn_rows.specs.Values.{value_in}
use Rattle.syn_lutnet.specs.LutData as spelled
use Rattle.syn_lutnet.specs.Data.{lut_data, luts_data}
use Rattle.syn_absorb.specs.Rebuilding.{IsNext, IsRebuilt}
use Rattle.syn_absorb.proofs.Steps.{rebuilt_next}
use Rattle.syn_absorb.proofs.Trimmed.{lits_low}
use Rattle.syn_absorb.proofs.rebuild.rebuild.Goals as goal

pub next_literal-requires-clause-few : goal.next_literal-requires-clause-few
next_literal-requires-clause-few c = omega (arith, c.loop-j.invariant.done.few, c.loop-j.invariant.long, c.loop-j-test.true, length-map c.loop-j.new.items lut_data)

pub next_literal-requires-clause-low : goal.next_literal-requires-clause-low
next_literal-requires-clause-low c =
    lits_low c.args.source_count (luts_data c.args.luts.now) (luts_data c.loop-j.new.items) (value_in c.args.marks.now) c.loop-j.lits.items c.as_slice.result.now c.as_slice.ensures.value c.loop-j.invariant.done
    (omega (arith, c.loop-j.invariant.long, c.loop-j-test.true, c.requires.few))

pub loop-j-preserved : goal.loop-j-preserved
loop-j-preserved c =
    let count = c.args.source_count in
    let luts = c.args.luts.now in
    let set = value_in c.args.marks.now in
    let lits = c.loop-j.lits.items in
    let new = luts_data c.loop-j.new.items in
    let now = luts_data c.next_literal.new.luts.items in
    let j = c.loop-j.j in
    let inv = c.loop-j.invariant in
    let lit = c.in_ok-lit.lit in
    let there : j < length (luts_data luts) = omega (arith, c.loop-j-test.true, length-map luts lut_data) in
    let old = c.index-luts-j.result in
    let wanted : Bool = value_in c.args.marks.now (count + 1 + j) in
    let at : lut_data old ≡ spelled.lut_at (luts_data luts) j = ap lut_data c.index-luts-j.is ∙ sym (get_or-map lut_data luts j old spelled.no_lut c.loop-j-test.true) in
    let next : IsNext (count + 1) wanted lits (spelled.lut_at (luts_data luts) j) new now lit =
    subst (λ (l : spelled.Lut). IsNext (count + 1) wanted lits l new now lit) at (subst (λ (ls : List Lit). IsNext (count + 1) wanted ls (lut_data old) new now lit) c.as_slice.ensures.value c.in_ok-lit.ensures) in
    let done = rebuilt_next count (luts_data luts) set lits new inv.done j inv.long there (c.requires.fit j c.loop-j-test.true) (c.requires.closed j there) wanted lit now refl next in
    record {
      long = omega (arith, ap (λ (ls : List Lit). length ls) c.in_ok-push.ensures.items, length_push lits lit, inv.long);
      done = subst (λ (ls : List Lit). IsRebuilt count (luts_data luts) set ls now) (sym c.in_ok-push.ensures.items) done;
    }
