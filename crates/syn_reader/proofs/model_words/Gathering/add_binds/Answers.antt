use Rattle.std.proofs.Common.{◌≡◌, ◌∷◌, ◌+◌, [], drop, get_or, length, map, option_map, true, Some, sym, ap, ◌∙◌, ℕ, arith}
use Rattle.std.specs.List.{list_all}
use Rattle.std.proofs.lemmas.Bool.{and_parts}
use Rattle.std.proofs.lemmas.List.{drop_more}
use Rattle.std.proofs.lemmas.Result.{err_from_is_err_and}
use Rattle.syn_netlist.specs.Words.{has_word}
use Rattle.syn_netlist.proofs.Growing.{Grows-again, length-grows}
use Rattle.syn_models.specs.FlatFaults.{first_again}
use Rattle.syn_reader.specs.Faults.{Fault, PortTwice}
use Rattle.syn_reader.specs.Marking.{with_words}
use Rattle.syn_reader.specs.declared.subcircuits.BindLine.{BindLine}
use Rattle.syn_reader.specs.Binds.{actual_in_line, are_bind_words, bind_in_line, formal_in_line}
use Rattle.syn_reader.proofs.Binding.{again_step, again_stop, with_word-length}
use Rattle.syn_reader.proofs.Growing.{actuals_more, bind_more}
use Rattle.syn_reader.proofs.FaultLaws.{passes_fault}
use Rattle.syn_reader.proofs.model_words.Gathering.add_binds.Goals as goal

pub add_bind-requires-clause-words : goal.add_bind-requires-clause-words
add_bind-requires-clause-words c =
    let i : ℕ = c.loop-bind.bind-index in
    let binds = c.args.binds.now in
    let none : BindLine = record { formal = record { ref_ptr = (0, 0); now = [] }; actual = record { ref_ptr = (0, 0); now = [] } } in
    let left : drop i binds ≡ get_or binds i none ∷ drop (i + 1) binds = drop_more binds i none (omega arith) in
    (and_parts (are_bind_words (get_or binds i none)) (list_all are_bind_words (drop (i + 1) binds)) (sym (ap (list_all are_bind_words) left) ∙ c.loop-bind.invariant.words)).0

pub returns-in_err-bind-clause-fault : goal.returns-in_err-bind-clause-fault
returns-in_err-bind-clause-fault c =
    let p = err_from_is_err_and c.from_residual.result c.from_residual.ensures.1 in
    let i : ℕ = c.loop-bind.bind-index in
    let binds = c.args.binds.now in
    let none : BindLine = record { formal = record { ref_ptr = (0, 0); now = [] }; actual = record { ref_ptr = (0, 0); now = [] } } in
    let x = get_or binds i none in
    let left : drop i binds ≡ x ∷ drop (i + 1) binds = drop_more binds i none (omega arith) in
    passes_fault c.from_residual.result p.0 c.in_err-bind.field-0.0 (λ f. (f ≡ PortTwice c.args.line (formal_in_line x)) × (has_word c.loop-bind.formals (formal_in_line x) ≡ true)) (λ f. option_map (PortTwice c.args.line) (first_again [] (map formal_in_line binds)) ≡ Some f) p.1 p.2
    (λ f h. ap (option_map (PortTwice c.args.line)) (again_stop c.loop-bind.formals (formal_in_line x) (map formal_in_line (drop i binds)) (map formal_in_line (drop (i + 1) binds)) _ (ap (map formal_in_line) left) h.1 c.loop-bind.invariant.once)
    ∙ ap (λ (y : Fault). Some y) (sym h.0)) c.in_err-bind.ensures.fault

pub loop-bind-preserved : goal.loop-bind-preserved
loop-bind-preserved c =
    let i : ℕ = c.loop-bind.bind-index in
    let binds = c.args.binds.now in
    let none : BindLine = record { formal = record { ref_ptr = (0, 0); now = [] }; actual = record { ref_ptr = (0, 0); now = [] } } in
    let x = get_or binds i none in
    let rest = drop (i + 1) binds in
    let left : drop i binds ≡ x ∷ rest = drop_more binds i none (omega arith) in
    let before = c.loop-bind.invariant in
    let one = c.in_ok-bind.ensures in
    let old = c.loop-bind.self.signals.names in
    let new = c.add_bind.new.self.signals.names in
    let size = ap length left in
    let all = and_parts (are_bind_words x) (list_all are_bind_words rest) (sym (ap (list_all are_bind_words) left) ∙ before.words) in
    record {
      binds = bind_more old new c.loop-bind.made.items c.push.new.self.items c.in_ok-bind.bind (bind_in_line x) (map bind_in_line (drop i binds)) (map bind_in_line rest) (map bind_in_line binds) c.in_ok-push.ensures.items one.grows before.below one.bind (ap (map bind_in_line) left) before.binds;
      below = actuals_more (length old) (length new) c.loop-bind.made.items c.push.new.self.items c.in_ok-bind.bind c.in_ok-push.ensures.items (length-grows old new one.grows) before.below one.below;
      marked = one.marked;
      grows = Grows-again c.args.self.now.signals.names old new before.grows one.grows;
      names = ap (λ n. with_words n (map actual_in_line rest)) one.names ∙ (ap (λ l. with_words old (map actual_in_line l)) (sym left) ∙ before.names);
      count = let a = one.count in let b = before.count in omega (arith, a, b, size);
      same = λ k w. one.same k w ∙ before.same k w;
      kept = (one.kept.0 ∙ before.kept.0, one.kept.1 ∙ before.kept.1);
      once = again_step c.loop-bind.formals c.add_bind.new.formals (formal_in_line x) (map formal_in_line (drop i binds)) (map formal_in_line rest) _ (ap (map formal_in_line) left) one.absent one.formals before.once;
      few = let a = ap length one.formals in let b = with_word-length c.loop-bind.formals (formal_in_line x) in let d = before.few in omega (arith, a, b, d);
      words = all.1;
    }
