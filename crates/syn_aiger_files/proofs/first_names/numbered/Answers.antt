use Rattle.std.proofs.Common.{◌≡◌, ◌∷◌, ◌++◌, [], List, ℕ, decimal, ap, ap₂, ◌∙◌, arith}
use Rattle.syn_aiger_files.proofs.Called.{numbered_word}
use Rattle.syn_aiger_files.proofs.first_names.numbered.Goals as goal

pub returns-clause-word : goal.returns-clause-word
returns-clause-word c =
    let e : c.extend_from_slice.new.self.items ≡ c.args.letter ∷ decimal c.args.number =
    c.in_ok-extend_from_slice.ensures.items
    ∙ ap₂ (λ (a b : List ℕ). a ++ b) (c.in_ok-push.ensures.items ∙ ap (λ (l : List ℕ). l ++ c.args.letter ∷ []) c.new-word.ensures.items) (c.as_bytes.ensures.value ∙ c.format.ensures.text) in
    numbered_word c.extend_from_slice.new.self.items c.args.letter c.args.number e c.requires (omega arith)
