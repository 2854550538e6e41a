use Rattle.std.proofs.Common.{◌≡◌, ℕ, List, take, drop, ap, ◌∙◌}
use Rattle.syn_aiger.proofs.WrittenFiles.{symbols_made}
use Rattle.syn_aiger.proofs.writer.symbols_of.Goals as goal

pub returns : goal.returns
returns c =
    let srcs : List ℕ = c.in_ok-numbers.numbers.items in
    let front : c.split_at.result.0.now ≡ take c.args.free srcs = c.split_at.ensures.front ∙ ap (take c.args.free) c.deref.ensures.value in
    let back : c.split_at.result.1.now ≡ drop c.args.free srcs = c.split_at.ensures.back ∙ ap (drop c.args.free) c.deref.ensures.value in
    symbols_made c.args.frame.now srcs c.args.free c.new-symbols.result.items c.push_symbols.new.symbols.items c.push_symbols-2.new.symbols.items c.push_symbols-3.new.symbols.items
    c.split_at.result.0.now c.split_at.result.1.now c.as_slice.result.now c.in_ok-numbers.ensures.words c.requires.free front back c.as_slice.ensures
    c.new-symbols.ensures.items c.in_ok-push_symbols.ensures c.in_ok-push_symbols-2.ensures c.in_ok-push_symbols-3.ensures
