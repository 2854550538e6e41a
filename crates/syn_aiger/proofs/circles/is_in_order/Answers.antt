use Rattle.std.proofs.Common.{◌≡◌, ◌+◌, ◌<◌, List, length, sym, ap, ◌∙◌, arith}
use Rattle.syn_aiger_files.specs.declared.files.AigAnd.{AigAnd}
use Rattle.syn_aiger.proofs.Counting.{same_at}
use Rattle.syn_aiger.proofs.Ordering.{goes_on, known_at, known_long, known_split, left_at, stops_first, stops_second}
use Rattle.syn_aiger.proofs.circles.is_in_order.Goals as goal

pub returns-then-not-is_below : goal.returns-then-not-is_below
returns-then-not-is_below c =
    let g = c.args.file.now.aig in
    let k = c.loop-k.k in
    let inside : k < length g.ands = omega (arith, ap (λ (es : List AigAnd). length es) c.as_slice-a-items.ensures) in
    let long : length (known_at g k) ≡ c.source_count-first.result + 1 + k = omega (arith, known_long g k (omega arith), c.source_count-first.ensures) in
    stops_first g k _ _ _ inside (same_at _ _ _ _ c.as_slice-a-items.ensures) c.loop-k.invariant
    (sym c.if-not-is_below.true ∙ c.is_below.ensures (known_at g k) (left_at g k) (known_split g k) long)

pub returns-then-not-is_below-2 : goal.returns-then-not-is_below-2
returns-then-not-is_below-2 c =
    let g = c.args.file.now.aig in
    let k = c.loop-k.k in
    let inside : k < length g.ands = omega (arith, ap (λ (es : List AigAnd). length es) c.as_slice-a-items.ensures) in
    let long : length (known_at g k) ≡ c.source_count-first.result + 1 + k = omega (arith, known_long g k (omega arith), c.source_count-first.ensures) in
    stops_second g k _ _ _ inside (same_at _ _ _ _ c.as_slice-a-items.ensures) c.loop-k.invariant
    (sym c.if-not-is_below-2.true ∙ c.is_below-in-loop-k.ensures (known_at g k) (left_at g k) (known_split g k) long)

pub loop-k-preserved : goal.loop-k-preserved
loop-k-preserved c =
    let g = c.args.file.now.aig in
    let k = c.loop-k.k in
    let inside : k < length g.ands = omega (arith, ap (λ (es : List AigAnd). length es) c.as_slice-a-items.ensures) in
    let long : length (known_at g k) ≡ c.source_count-first.result + 1 + k = omega (arith, known_long g k (omega arith), c.source_count-first.ensures) in
    goes_on g k _ _ _ inside (same_at _ _ _ _ c.as_slice-a-items.ensures) c.loop-k.invariant
    (sym c.if-not-is_below.false ∙ c.is_below.ensures (known_at g k) (left_at g k) (known_split g k) long)
    (sym c.if-not-is_below-2.false ∙ c.is_below-in-loop-k.ensures (known_at g k) (left_at g k) (known_split g k) long)
