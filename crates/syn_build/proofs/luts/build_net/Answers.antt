use Rattle.std.proofs.Common.{◌≡◌, ℕ, ◌+◌, ◌<◌, All, false, List, length, map, refl, sym, ap, ap₂, ◌∙◌, subst, arith}
use Rattle.std.proofs.lemmas.List.{length-map}
use Rattle.syn_rows.specs.Joining.{lit_of}
use Rattle.syn_rows.specs.declared.Lit.{Lit}
use Rattle.syn_rows.specs.Rows.{node_of}
use Rattle.syn_rows.specs.Values.{given_by}
use Rattle.syn_hashed.specs.Growing.{value_by}
use Rattle.syn_hashed.specs.Hashed.{IsHashed, lit_at}
use Rattle.syn_lutnet.specs.LutData.{fold_luts, lut_value, net_gates}
use Rattle.syn_lutnet.specs.declared.luts.Lut.{Lut}
use Rattle.syn_lutnet.specs.Data.{lut_data, luts_data}
use Rattle.syn_lut_rows.specs.LutLiterals.{AllThere}
use Rattle.syn_lut_rows.specs.LutLiterals.{ReadEarlier, plain_literals}
use Rattle.syn_build.specs.LutLiterals.{signed_by}
use Rattle.syn_lut_rows.proofs.Literals.{length-plain, net_reads_earlier, plain_at, plain_there}
use Rattle.syn_build.proofs.LutValues.{net_function, signed_stay, signed_there}
use Rattle.syn_build.proofs.luts.build_net.Goals as goal

-- so many signals are there at the end
signal_count : (count : ℕ) (luts slice : List Lut) (signals after : List Lit) → signals ≡ plain_literals (count + 1) → slice ≡ luts → length after ≡ length signals + length slice → count + 1 + length (luts_data luts) ≡ length after
signal_count count luts slice signals after signals_are slice_is len =
    let plain = ap (λ (ls : List Lit). length ls) signals_are in
    let shown = ap (λ (ls : List Lut). length ls) slice_is in
    omega (arith, plain, length-plain (count + 1), shown, len, length-map luts lut_data)

pub name_luts-requires-clause-inputs : goal.name_luts-requires-clause-inputs
name_luts-requires-clause-inputs c =
    let net = c.args.net.now in
    let start : List Lit = c.in_ok-signals.signals.items in
    let long : length start ≡ net.source_count + 1 = ap (λ (ls : List Lit). length ls) c.in_ok-signals.ensures ∙ length-plain (net.source_count + 1) in
    subst (λ (ls : List Lut). ReadEarlier (length start) (luts_data ls)) (sym c.as_slice.ensures) (net_reads_earlier (luts_data net.luts) net.observed net.source_count (length start) long net.net)

pub name_luts-requires-clause-there : goal.name_luts-requires-clause-there
name_luts-requires-clause-there c =
    let net = c.args.net.now in
    subst (AllThere c.in_ok-hashed.hashed.rows.items) (sym c.in_ok-signals.ensures) (plain_there c.in_ok-hashed.hashed.rows.items 0 (net.source_count + 1) (omega (arith, c.in_ok-hashed.ensures.rows)))

pub name_luts-requires-clause-room : goal.name_luts-requires-clause-room
name_luts-requires-clause-room c =
    let shown = ap (λ (ls : List Lut). net_gates (luts_data ls)) c.as_slice.ensures in
    omega (arith, shown, c.in_ok-hashed.ensures.rows, c.requires)

pub signed_literals-requires : goal.signed_literals-requires
signed_literals-requires c =
    let net = c.args.net.now in
    let after : List Lit = c.name_luts.new.signals.items in
    let total = signal_count net.source_count net.luts c.as_slice.result.now c.in_ok-signals.signals.items after c.in_ok-signals.ensures c.as_slice.ensures c.in_ok-name_luts.ensures.len in
    subst (λ (ls : List Lit). All (λ l. node_of l < length ls) c.as_slice-3.result.now) (sym c.as_slice-2.ensures.value)
    (subst (λ (os : List Lit). All (λ l. node_of l < length after) os) (sym c.as_slice-3.ensures) (subst (λ n. All (λ l. node_of l < n) net.observed) total net.net.within))

pub returns-clause-few : goal.returns-clause-few
returns-clause-few c =
    let shown = ap (λ (ls : List Lut). net_gates (luts_data ls)) c.as_slice.ensures in
    omega (arith, shown, c.in_ok-name_luts.ensures.few, c.in_ok-hashed.ensures.rows)

pub returns-clause-count : goal.returns-clause-count
returns-clause-count c =
    let net = c.args.net.now in
    let after : List Lit = c.name_luts.new.signals.items in
    let outs : c.in_ok-observed.observed.items ≡ map (signed_by after) net.observed = c.in_ok-observed.ensures ∙ ap₂ (λ (ls os : List Lit). map (signed_by ls) os) c.as_slice-2.ensures.value c.as_slice-3.ensures in
    ap (λ (ls : List Lit). length ls) outs ∙ length-map net.observed (signed_by after)

pub returns-clause-within : goal.returns-clause-within
returns-clause-within c =
    let net = c.args.net.now in
    let after : List Lit = c.name_luts.new.signals.items in
    let new = c.name_luts.new.hashed.rows.items in
    let outs : c.in_ok-observed.observed.items ≡ map (signed_by after) net.observed = c.in_ok-observed.ensures ∙ ap₂ (λ (ls os : List Lit). map (signed_by ls) os) c.as_slice-2.ensures.value c.as_slice-3.ensures in
    let total = signal_count net.source_count net.luts c.as_slice.result.now c.in_ok-signals.signals.items after c.in_ok-signals.ensures c.as_slice.ensures c.in_ok-name_luts.ensures.len in
    subst (AllThere new) (sym outs) (signed_there new after net.observed c.in_ok-name_luts.ensures.there (subst (λ n. All (λ l. node_of l < n) net.observed) total net.net.within))

pub returns-clause-stay : goal.returns-clause-stay
returns-clause-stay c =
    let net = c.args.net.now in
    let after : List Lit = c.name_luts.new.signals.items in
    let outs : c.in_ok-observed.observed.items ≡ map (signed_by after) net.observed = c.in_ok-observed.ensures ∙ ap₂ (λ (ls os : List Lit). map (signed_by ls) os) c.as_slice-2.ensures.value c.as_slice-3.ensures in
    let plain = ap (λ (ls : List Lit). length ls) c.in_ok-signals.ensures in
    signed_stay net.source_count net.observed after c.in_ok-observed.observed.items
    (λ i low. c.in_ok-name_luts.ensures.begins i (omega (arith, low, plain, length-plain (net.source_count + 1))) ∙ ap (λ (ls : List Lit). lit_at ls i) c.in_ok-signals.ensures ∙ plain_at 0 (net.source_count + 1) i low ∙ ap lit_of (let s : 0 + i ≡ i = omega arith in s))
    outs

pub returns-clause-function : goal.returns-clause-function
returns-clause-function c bits long =
    let net = c.args.net.now in
    let old = c.in_ok-hashed.hashed.rows.items in
    let new = c.name_luts.new.hashed.rows.items in
    let after : List Lit = c.name_luts.new.signals.items in
    let start : List Lit = c.in_ok-signals.signals.items in
    let outs : c.in_ok-observed.observed.items ≡ map (signed_by after) net.observed = c.in_ok-observed.ensures ∙ ap₂ (λ (ls os : List Lit). map (signed_by ls) os) c.as_slice-2.ensures.value c.as_slice-3.ensures in
    let total = signal_count net.source_count net.luts c.as_slice.result.now start after c.in_ok-signals.ensures c.as_slice.ensures c.in_ok-name_luts.ensures.len in
    net_function bits net.source_count old new (luts_data net.luts) net.observed start after c.in_ok-observed.observed.items
    (subst (λ n. IsHashed n old) c.in_ok-hashed.ensures.sources c.in_ok-hashed.hashed.hashed) long
    c.in_ok-signals.ensures
    (c.in_ok-name_luts.ensures.values (given_by bits) refl ∙ ap (λ (ls : List Lut). fold_luts lut_value false (map (value_by (given_by bits) old) start) (luts_data ls)) c.as_slice.ensures)
    (subst (λ n. All (λ l. node_of l < n) net.observed) total net.net.within) outs
