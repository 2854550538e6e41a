use Rattle.std.proofs.Common.{◌≡◌, ◌+◌, ◌-◌, ◌<◌, List, ℕ, length, slice_index, if◌then◌else◌, ap, ◌∙◌, subst, arith}
use Rattle.std.specs.Vec.{with_items}
use Rattle.std.proofs.lemmas.List.{with_items_is}
use Rattle.syn_aiger_files.specs.Symbols.{is_at}
use Rattle.syn_aiger_files.specs.FirstNames.{symbol_by}
use Rattle.syn_aiger_files.proofs.Called.{table_step}
use Rattle.syn_aiger_files.proofs.first_names.symbol_table.Goals as goal

pub loop-k-preserved : goal.loop-k-preserved
loop-k-preserved c =
    let old = c.loop-k.table in
    let new = c.put_symbol.new.table in
    let symbols = c.args.symbols.now in
    let k = c.loop-k.k in
    let long : length new ≡ length c.as_mut_slice.result.now = c.put_symbol.auto.table in
    let back : (with_items old new).items ≡ new = with_items_is old new (long ∙ c.as_mut_slice.ensures.len) in
    let was : length old.items ≡ c.args.count = c.loop-k.invariant.count in
    let same : c.as_mut_slice.result.now ≡ old.items = c.as_mut_slice.ensures.value in
    let put : (i : ℕ) → i < length old.items → slice_index new i ≡ (if is_at c.args.place i c.index-symbols-k.result then k - 1 + 1 else slice_index old.items i) =
    subst (λ (t : List ℕ). (i : ℕ) → i < length t → slice_index new i ≡ (if is_at c.args.place i c.index-symbols-k.result then k - 1 + 1 else slice_index t i)) same c.put_symbol.ensures.at in
    record {
      count = ap (λ (l : List ℕ). length l) back ∙ long ∙ ap (λ (l : List ℕ). length l) same ∙ was;
      found = λ i l.
          ap (λ (t : List ℕ). symbol_by symbols (slice_index t i)) back
          ∙ table_step symbols c.args.place c.args.count old.items new (k - 1) k (k - 1 + 1) c.index-symbols-k.result (omega arith) (omega arith) (omega arith) c.index-symbols-k.is was c.loop-k.invariant.found put i l;
    }
