use Rattle.std.proofs.Common.{◌≡◌, ◌+◌, ◌++◌, ◌∷◌, [], length, map, List, ℕ, Some, Vec, option_map, rules, sym, ap, ap₂, ◌∙◌, arith, inr}
use Rattle.std.specs.Global.{Global}
use Rattle.std.proofs.lemmas.List.{length-map}
use Rattle.std.proofs.lemmas.Result.{err_from_is_err_and}
use Rattle.syn_lex.specs.Words.{text_of}
use Rattle.syn_netlist.specs.Numbers.{all_below}
use Rattle.syn_netlist.specs.Words.{has_word}
use Rattle.syn_models.specs.declared.hierarchy.Statement.{Statement}
use Rattle.syn_models.specs.declared.hierarchy.StatementKind.TheVariants as said
use Rattle.syn_models.specs.FlatFaults.{first_again}
use Rattle.syn_models.specs.Kept.{actual_number, bind_in}
use Rattle.syn_models.specs.Models as models
use Rattle.syn_reader.specs.declared.Kind.TheVariants as kinds
use Rattle.syn_reader.specs.Faults.{PortTwice}
use Rattle.syn_reader.specs.Binds.{actual_in_line, bind_in_line, formal_in_line, subcircuit_in_line}
use Rattle.syn_reader.specs.Gathers.{IsSubcktFault}
use Rattle.syn_reader.specs.Saying.{on_line}
use Rattle.syn_reader.proofs.Binding.{actuals_are, formals_are, subckt_stands}
use Rattle.syn_reader.proofs.Gathered.{gathers, sound_after}
use Rattle.syn_reader.proofs.Growing.{below_actuals}
use Rattle.syn_reader.proofs.FaultLaws.{passes_fault}
use Rattle.syn_reader.proofs.model_words.Gathering.add_subckt.Goals as goal

pub returns-in_err-binds-clause-fault : goal.returns-in_err-binds-clause-fault
returns-in_err-binds-clause-fault c =
    let p = err_from_is_err_and c.from_residual-in_err-binds.result c.from_residual-in_err-binds.ensures.1 in
    let line = c.in_ok-subckt.subckt in
    passes_fault c.from_residual-in_err-binds.result p.0 c.in_err-binds.field-0.0 (λ f. option_map (PortTwice c.args.line) (first_again [] (map formal_in_line c.deref.result.now)) ≡ Some f) (IsSubcktFault c.args.line (map text_of c.args.words)) p.1 p.2
    (λ f h. inr (subcircuit_in_line line, c.in_ok-subckt.ensures.spelled, ap (λ l. option_map (PortTwice c.args.line) (first_again [] l)) (formals_are line.binds.items ∙ ap (map formal_in_line) (sym c.deref.ensures.value)) ∙ h)) c.in_err-binds.ensures.fault

pub returns-clause-gathers : goal.returns-clause-gathers
returns-clause-gathers c rows =
    let line = c.in_ok-subckt.subckt in
    let read = c.in_ok-subckt.ensures in
    let one = c.in_ok-binds.ensures in
    let say = c.in_ok-say.ensures in
    let s = c.add_binds.new.self.signals in
    let made = c.in_ok-binds.binds.items in
    let binds = c.deref.result.now in
    let words = map text_of c.args.words in
    let kind = said.Subckt (record { model = c.in_ok-model.model; binds = c.of-binds.result }) in
    let spelled = ap (map (bind_in s.names)) c.of-binds.ensures ∙ (one.binds ∙ ap (map bind_in_line) c.deref.ensures.value) in
    let size = length-map c.args.words text_of in
    let count = one.count in
    let all = read.count in
    let same = ap length c.deref.ensures.value in
    let some = ap length one.binds in
    let left = length-map made (bind_in s.names) in
    let right = length-map binds bind_in_line in
    let taken : c.len.result ≡ length made = search (rules, c.len.ensures) in
    let kept = one.kept.1 in
    let total = say.words in
    gathers c.args.self.now c.say.new.self s c.args.line kinds.Subckt words rows kind (models.OneSubcircuit (subcircuit_in_line line)) (map actual_in_line binds) (2 + c.len.result) c.requires.sound one.grows say.signals
    (say.statements ∙ ap (λ (v : Vec Statement Global). v.items ++ record { line = c.args.line; kind = kind } ∷ []) one.kept.0)
    (ap₂ (λ (m : List ℕ) (b : List models.Bind). models.OneSubcircuit (record { model = m; binds = b })) c.in_ok-model.ensures spelled)
    (λ rest. ap (option_map (λ x. on_line c.args.line (models.OneSubcircuit x) rest)) read.spelled) one.same one.names
    (λ w. ap (λ l. has_word l w) (ap (map actual_in_line) c.deref.ensures.value ∙ sym (actuals_are line.binds.items))) (omega (arith, size, count, all, same)) (omega (arith, kept, total)) (omega (arith, size, all, same, some, left, right, taken))

pub returns-clause-fine : goal.returns-clause-fine
returns-clause-fine c =
    let line = c.in_ok-subckt.subckt in
    (subcircuit_in_line line, c.in_ok-subckt.ensures.spelled, ap (first_again []) (formals_are line.binds.items ∙ ap (map formal_in_line) (sym c.deref.ensures.value)) ∙ c.in_ok-binds.ensures.once)

pub returns-clause-sound : goal.returns-clause-sound
returns-clause-sound c =
    let line = c.in_ok-subckt.subckt in
    let read = c.in_ok-subckt.ensures in
    let one = c.in_ok-binds.ensures in
    let say = c.in_ok-say.ensures in
    let s = c.add_binds.new.self.signals in
    let kind = said.Subckt (record { model = c.in_ok-model.model; binds = c.of-binds.result }) in
    let spelled = ap (map (bind_in s.names)) c.of-binds.ensures ∙ (one.binds ∙ ap (map bind_in_line) c.deref.ensures.value) in
    sound_after c.args.self.now c.say.new.self s c.args.line kind (models.OneSubcircuit (subcircuit_in_line line)) c.requires.sound one.grows say.signals
    (say.statements ∙ ap (λ (v : Vec Statement Global). v.items ++ record { line = c.args.line; kind = kind } ∷ []) one.kept.0)
    (ap₂ (λ (m : List ℕ) (b : List models.Bind). models.OneSubcircuit (record { model = m; binds = b })) c.in_ok-model.ensures spelled)
    one.marked (ap (λ l. all_below (length s.names) (map actual_number l)) c.of-binds.ensures ∙ (sym (below_actuals (length s.names) c.in_ok-binds.binds.items) ∙ one.below))
    (subckt_stands line c.args.line read.model read.words (ap (λ l. first_again [] (map formal_in_line l)) (sym c.deref.ensures.value) ∙ one.once))
