use Rattle.std.proofs.Common.{◌<◌, ◌≤◌, ℕ, List, length, Some, option_map, ap, sym, subst, ◌∙◌, arith, refl, eqb-true, Bor}
use Rattle.syn_aiger_files.proofs.Cutting.{some_there}
use Rattle.syn_aiger_files.proofs.Naming.{empty_name, far_index, from_false, from_true, given_before, is_symbol, no_index, no_name}
use Rattle.syn_aiger_files.proofs.symbols.symbol_at.Goals as goal

pub returns-in_default : goal.returns-in_default
returns-in_default c ss given = (no_name c.args.h.now ss c.args.place c.args.text.now c.cut_at.result.0.now (option_map (λ (t : Bor (List ℕ)). t.now) c.cut_at.result.1) c.cut_at.ensures.front c.cut_at.ensures.behind (ap (option_map (λ (t : Bor (List ℕ)). t.now)) c.in_default.is), tt)

pub returns-in_default-number_of : goal.returns-in_default-number_of
returns-in_default-number_of c ss given = (no_index c.args.h.now ss c.args.place c.args.text.now c.cut_at.result.0.now (option_map (λ (t : Bor (List ℕ)). t.now) c.cut_at.result.1) c.cut_at.ensures.front c.cut_at.ensures.behind c.in-Some.name.now (ap (option_map (λ (t : Bor (List ℕ)). t.now)) c.in-Some.is) (sym c.in_default-number_of.is ∙ c.number_of.ensures), tt)

pub returns-then-is_empty : goal.returns-then-is_empty
returns-then-is_empty c ss given = (empty_name c.args.h.now ss c.args.place c.args.text.now c.cut_at.result.0.now (option_map (λ (t : Bor (List ℕ)). t.now) c.cut_at.result.1) c.cut_at.ensures.front c.cut_at.ensures.behind c.in-Some.name.now (ap (option_map (λ (t : Bor (List ℕ)). t.now)) c.in-Some.is) c.in-Some-number_of.index (sym c.in-Some-number_of.is ∙ c.number_of.ensures) (eqb-true (length c.in-Some.name.now) 0 (sym c.is_empty.ensures ∙ c.if-is_empty.true)), tt)

pub returns-then-index-count_of : goal.returns-then-index-count_of
returns-then-index-count_of c ss given =
    let l : c.count_of.result ≤ c.in-Some-number_of.index = omega (arith, c.if-index-count_of.true) in
    (far_index c.args.h.now ss c.args.place c.args.text.now c.cut_at.result.0.now (option_map (λ (t : Bor (List ℕ)). t.now) c.cut_at.result.1) c.cut_at.ensures.front c.cut_at.ensures.behind c.in-Some.name.now (ap (option_map (λ (t : Bor (List ℕ)). t.now)) c.in-Some.is) c.in-Some-number_of.index (sym c.in-Some-number_of.is ∙ c.number_of.ensures) (subst (λ (n : ℕ). n ≤ c.in-Some-number_of.index) c.count_of.ensures l), tt)

pub returns-then-not-new : goal.returns-then-not-new
returns-then-not-new c ss given =
    let d = c.in_ok-new.ensures ss given in
    (given_before c.args.h.now ss c.args.place c.args.text.now c.cut_at.result.0.now (option_map (λ (t : Bor (List ℕ)). t.now) c.cut_at.result.1) c.cut_at.ensures.front c.cut_at.ensures.behind c.in-Some.name.now (ap (option_map (λ (t : Bor (List ℕ)). t.now)) c.in-Some.is) c.in-Some-number_of.index (sym c.in-Some-number_of.is ∙ c.number_of.ensures) (from_false _ (sym d.0 ∙ c.if-not-new.true)), tt)

pub returns : goal.returns
returns c ss given =
    let d = c.in_ok-new.ensures ss given in
    let l : c.in-Some-number_of.index < c.count_of.result = omega (arith, c.if-index-count_of.false) in (
      ap (λ (n : List ℕ). Some (record { place = c.args.place; index = c.in-Some-number_of.index; name = n })) c.in_ok-name.ensures
          ∙ is_symbol c.args.h.now ss c.args.place c.args.text.now c.cut_at.result.0.now (option_map (λ (t : Bor (List ℕ)). t.now) c.cut_at.result.1) c.cut_at.ensures.front c.cut_at.ensures.behind c.in-Some.name.now (ap (option_map (λ (t : Bor (List ℕ)). t.now)) c.in-Some.is) c.in-Some-number_of.index (sym c.in-Some-number_of.is ∙ c.number_of.ensures) (subst (λ (n : ℕ). c.in-Some-number_of.index < n) c.count_of.ensures l) (from_true _ (sym d.0 ∙ c.if-not-new.false)) (some_there c.in-Some.name.now (sym c.is_empty.ensures ∙ c.if-is_empty.false)),
      d.1 (record { place = c.args.place; index = c.in-Some-number_of.index; name = c.in_ok-name.name }) refl refl,
    )
