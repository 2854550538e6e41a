use Rattle.std.proofs.Common.{◌≡◌, ◌∷◌, Option, Some, IfOk, IfSome, ap, sym, subst, ◌∙◌}
use Rattle.syn_aiger_files.specs.Files.{Place, Symbol}
use Rattle.syn_aiger_files.specs.Seen.{AreGiven}
use Rattle.syn_aiger_files.specs.Symbols.{symbol_at, symbol_of}
use Rattle.syn_aiger_files.specs.Texts.{behind, front, number_of}
use Rattle.syn_aiger_files.proofs.symbols.symbol_of.Goals as goal

pub returns : goal.returns
returns c ss given =
    let text = c.in-Some.text.now in
    let e : symbol_of c.args.h.now ss c.args.line.now ≡ symbol_at c.args.h.now ss (Some c.in-Some-place_of.place) (number_of (front 32 text)) (behind 32 text) =
    ap (symbol_of c.args.h.now ss) c.in-Some.ensures.cases.0 ∙ ap (λ (p : Option Place). symbol_at c.args.h.now ss p (number_of (front 32 text)) (behind 32 text)) (sym c.place_of.ensures ∙ c.in-Some-place_of.is) in
    subst (λ (x : Option Symbol). IfOk c.symbol_at.result (λ (s : Option Symbol). (s ≡ x) × IfSome s (λ (t : Symbol). AreGiven c.symbol_at.new.given (t ∷ ss)))) (sym e) (c.symbol_at.ensures ss given)
