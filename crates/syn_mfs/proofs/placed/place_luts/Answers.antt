use Rattle.std.proofs.Common.{◌≡◌, ◌+◌, false, List, length, map, sym, ap, ◌∙◌, subst, arith}
use Rattle.std.proofs.lemmas.List.{length-map}
use Rattle.syn_rows.specs.declared.Lit.{Lit}
use Rattle.syn_rows.specs.Joining.{lit_of}
use Rattle.syn_hashed.specs.Hashed.{lit_at}
use Rattle.syn_hashed.specs.Growing.{value_by}
use Rattle.syn_hashed.proofs.Rising.{source_value}
use Rattle.syn_lutnet.specs.LutData.{fold_luts, lut_value, net_gates}
use Rattle.syn_lutnet.specs.declared.luts.Lut.{Lut}
use Rattle.syn_lutnet.specs.Data.{lut_data, luts_data}
use Rattle.syn_absorb.proofs.Trimmed.{inside_at}
use Rattle.syn_lut_rows.specs.LutLiterals.{AllThere, ReadEarlier}
use Rattle.syn_lut_rows.proofs.Literals.{length-plain, net_reads_earlier, plain_at, plain_there}
use Rattle.syn_mfs.proofs.Placings.{net_placed}
use Rattle.syn_mfs.proofs.placed.place_luts.Goals as goal

pub name_luts-requires-clause-inputs : goal.name_luts-requires-clause-inputs
name_luts-requires-clause-inputs c =
    let net = c.args.net.now in
    let start : List Lit = c.in_ok-lits.lits.items in
    let long : length start ≡ net.source_count + 1 = ap (λ (ls : List Lit). length ls) c.in_ok-lits.ensures ∙ length-plain (net.source_count + 1) in
    subst (λ (ls : List Lut). ReadEarlier (length start) (luts_data ls)) (sym c.as_slice.ensures) (net_reads_earlier (luts_data net.luts) net.observed net.source_count (length start) long net.net)

pub name_luts-requires-clause-there : goal.name_luts-requires-clause-there
name_luts-requires-clause-there c =
    let net = c.args.net.now in
    subst (AllThere c.in_ok-hashed.hashed.rows.items) (sym c.in_ok-lits.ensures) (plain_there c.in_ok-hashed.hashed.rows.items 0 (net.source_count + 1) (omega (arith, c.in_ok-hashed.ensures.rows)))

pub name_luts-requires-clause-room : goal.name_luts-requires-clause-room
name_luts-requires-clause-room c =
    let shown = ap (λ (ls : List Lut). net_gates (luts_data ls)) c.as_slice.ensures in
    omega (arith, shown, c.in_ok-hashed.ensures.rows, c.requires)

pub returns-clause-few : goal.returns-clause-few
returns-clause-few c =
    let shown = ap (λ (ls : List Lut). net_gates (luts_data ls)) c.as_slice.ensures in
    omega (arith, shown, c.in_ok-name_luts.ensures.few, c.in_ok-hashed.ensures.rows, c.requires)

pub returns-clause-sources : goal.returns-clause-sources
returns-clause-sources c n low =
    let net = c.args.net.now in
    let plain = ap (λ (ls : List Lit). length ls) c.in_ok-lits.ensures in
    c.in_ok-name_luts.ensures.begins n (omega (arith, low, plain, length-plain (net.source_count + 1))) ∙ ap (λ (ls : List Lit). lit_at ls n) c.in_ok-lits.ensures ∙ plain_at 0 (net.source_count + 1) n low
    ∙ ap lit_of (let s : 0 + n ≡ n = omega arith in s)

pub returns-clause-placed : goal.returns-clause-placed
returns-clause-placed c =
    let net = c.args.net.now in
    let begun = c.in_ok-hashed.hashed in
    let old = begun.rows.items in
    let after = c.name_luts.new.hashed in
    let new = after.rows.items in
    let before : List Lit = c.in_ok-lits.lits.items in
    let long : length before ≡ net.source_count + 1 = ap (λ (ls : List Lit). length ls) c.in_ok-lits.ensures ∙ length-plain (net.source_count + 1) in
    let shown = ap (λ (ls : List Lut). length ls) c.as_slice.ensures in
    net_placed (net.source_count + 1) (luts_data net.luts) old new before c.name_luts.new.signals.items long (omega arith)
    (ap (λ (ls : List Lit). lit_at ls 0) c.in_ok-lits.ensures ∙ plain_at 0 (net.source_count + 1) 0 (omega arith) ∙ ap lit_of (let s : 0 + 0 ≡ 0 = omega arith in s))
    (omega (arith, c.in_ok-name_luts.ensures.len, shown, length-map net.luts lut_data))
    c.in_ok-name_luts.ensures.there
    (λ given zeroth. source_value begun.source_count old begun.hashed given 0 (omega arith) ∙ zeroth)
    (λ given zeroth. source_value after.source_count new after.hashed given 0 (omega arith) ∙ zeroth)
    (inside_at net.source_count (luts_data net.luts) net.net.luts_fit)
    (λ given zeroth. c.in_ok-name_luts.ensures.values given zeroth ∙ ap (λ (ls : List Lut). fold_luts lut_value false (map (value_by given old) before) (luts_data ls)) c.as_slice.ensures)
