use Rattle.std.proofs.Common.{◌≡◌, ◌-◌, ◌∷◌, decimal, refl, sym, ap, inl, inr, arith, ◌∙◌}
use Rattle.syn_netlist.specs.Words.{is_word}
use Rattle.syn_aiger_files.specs.declared.files.Symbol.{Symbol}
use Rattle.syn_aiger_files.specs.FirstNames.{first_name}
use Rattle.syn_aiger_files.proofs.Called.{called_by_number, called_by_symbol, called_no_word, if_ok, none_by}
use Rattle.syn_aiger_files.proofs.first_names.first_name.Goals as goal
use Rattle.syn_aiger_files.proofs.first_names.first_name.Goals.{then-number-gt0+then-number-symbols+else-is_word, else-number-gt0, else-number-gt0-via-then-number-gt0+else-number-symbols, else-number-gt0-via-else-number-gt0}

pub returns-then-is_word-clause-name : goal.returns-then-is_word-clause-name
returns-then-is_word-clause-name c =
    let s = c.index-symbols-number.result in
    let same : c.as_slice-name.result.now ≡ s.name = c.as_slice-name.ensures ∙ ap (λ (x : Symbol). x.name) (sym c.index-symbols-number.is) in
    if_ok _ _ c.to_vec.result c.to_vec.ensures.items_if_clones_equal
    (λ v h. called_by_symbol c.args.symbols.now c.args.place c.args.index c.args.number (c.args.number - 1) s v.items c.requires (omega arith) (omega arith) c.index-symbols-number.is
    (ap is_word (sym same) ∙ sym c.is_word.ensures ∙ c.if-is_word.true) (h (λ x y e. e) ∙ same))

pub returns-clause-name : goal.returns-clause-name
returns-clause-name c =
    let symbols = c.args.symbols.now in
    let fact : c.letter_of.result ∷ decimal c.args.index ≡ first_name symbols c.args.place c.args.index = elim c.if-number-gt0.branch [
      | then-number-gt0+then-number-symbols+else-is_word w ↦
          let s : Symbol = w.index-symbols-number.result in
          called_no_word symbols c.args.place c.args.index c.args.number (c.args.number - 1) c.letter_of.result s (c.letter_of.result ∷ decimal c.args.index) c.requires (omega arith) (omega arith) w.index-symbols-number.is
          (ap is_word (sym (w.as_slice-name.ensures ∙ ap (λ (x : Symbol). x.name) (sym w.index-symbols-number.is))) ∙ sym w.is_word.ensures ∙ w.if-is_word.false) c.letter_of.ensures.letter refl
      | else-number-gt0 w ↦
          called_by_number symbols c.args.place c.args.index c.args.number c.letter_of.result (c.letter_of.result ∷ decimal c.args.index) c.requires
          (none_by symbols c.args.number (elim w.else-number-gt0.branch [
            | else-number-gt0-via-then-number-gt0+else-number-symbols v ↦ inr (omega arith)
            | else-number-gt0-via-else-number-gt0 v ↦ inl (omega arith)
          ])) c.letter_of.ensures.letter refl
    ] in
    if_ok _ _ c.numbered.result c.numbered.ensures.name (λ v h. h ∙ fact)
