use Rattle.std.proofs.Common.{◌∷◌, arith, length, map, refl, sym, ap, ◌∙◌, List, ℕ}
use Rattle.std.proofs.lemmas.Bool.{and_parts}
use Rattle.std.proofs.lemmas.List.{length-map}
use Rattle.std.proofs.lemmas.Result.{err_from_is_err_and}
use Rattle.syn_lex.specs.Words.{text_of}
use Rattle.syn_netlist.specs.Words.{is_word}
use Rattle.syn_reader.specs.declared.ReadFault.TheVariants as answers
use Rattle.syn_reader.specs.Faults.{LatchType, LatchInit}
use Rattle.syn_reader.specs.Keywords.{latch_fault}
use Rattle.syn_reader.specs.Heard.{all_words}
use Rattle.syn_reader.proofs.LatchLaws.{bad_type, bad_init, no_fault, words_fit, names_fault}
use Rattle.syn_reader.proofs.latch_lines.read_latch.Goals as goal

pub returns-in_err-kind-clause-fault : goal.returns-in_err-kind-clause-fault
returns-in_err-kind-clause-fault c =
    let p = err_from_is_err_and c.from_residual.result c.from_residual.ensures.1 in
    let words = ap (map text_of) c.in-Some.ensures.steps ∙ (ap (λ (l : List (List ℕ)). c.in-Some.feed.now ∷ l) (ap (map text_of) c.in-Some-next.ensures.steps) ∙ ap (λ (l : List (List ℕ)). c.in-Some.feed.now ∷ c.in-Some-next.output.now ∷ l) c.in-Some-rest_of.ensures.some) in
    let err = c.in_err-kind.ensures.err in
    names_fault c.from_residual.result p.0 (answers.LatchType c.args.line) (latch_fault c.args.line (map text_of c.args.words)) (LatchType c.args.line) p.1 (p.2 ∙ err.0) refl (bad_type c.args.line c.in-Some.feed.now c.in-Some-next.output.now c.in-Some-rest_of.rest (map text_of c.args.words) words err.1 err.2)

pub returns-in_err-init-clause-fault : goal.returns-in_err-init-clause-fault
returns-in_err-init-clause-fault c =
    let p = err_from_is_err_and c.from_residual-in_err-init.result c.from_residual-in_err-init.ensures.1 in
    let words = ap (map text_of) c.in-Some.ensures.steps ∙ (ap (λ (l : List (List ℕ)). c.in-Some.feed.now ∷ l) (ap (map text_of) c.in-Some-next.ensures.steps) ∙ ap (λ (l : List (List ℕ)). c.in-Some.feed.now ∷ c.in-Some-next.output.now ∷ l) c.in-Some-rest_of.ensures.some) in
    let err = c.in_err-init.ensures.err in
    names_fault c.from_residual-in_err-init.result p.0 (answers.LatchInit c.args.line) (latch_fault c.args.line (map text_of c.args.words)) (LatchInit c.args.line) p.1 (p.2 ∙ err.0) refl (bad_init c.args.line c.in-Some.feed.now c.in-Some-next.output.now c.in-Some-rest_of.rest c.in_ok-kind.kind (map text_of c.args.words) words c.in_ok-kind.ensures.ok err.1 err.2)

pub returns-clause-words : goal.returns-clause-words
returns-clause-words c =
    let both = and_parts (is_word c.in-Some.feed.now) (all_words c.next.new.self) (ap all_words (sym c.in-Some.ensures.steps) ∙ c.requires) in
    let more = and_parts (is_word c.in-Some-next.output.now) (all_words c.next-2.new.self) (ap all_words (sym c.in-Some-next.ensures.steps) ∙ both.1) in
    words_fit c.in-Some.feed.now c.in-Some-next.output.now c.in-Some-rest_of.rest c.in_ok-kind.kind both.0 more.0 c.in-Some-rest_of.ensures.words c.in_ok-kind.ensures.ok

pub returns-clause-faultless : goal.returns-clause-faultless
returns-clause-faultless c =
    let words = ap (map text_of) c.in-Some.ensures.steps ∙ (ap (λ (l : List (List ℕ)). c.in-Some.feed.now ∷ l) (ap (map text_of) c.in-Some-next.ensures.steps) ∙ ap (λ (l : List (List ℕ)). c.in-Some.feed.now ∷ c.in-Some-next.output.now ∷ l) c.in-Some-rest_of.ensures.some) in
    no_fault c.args.line c.in-Some.feed.now c.in-Some-next.output.now c.in-Some-rest_of.rest c.in_ok-kind.kind c.in_ok-init.init (map text_of c.args.words) words c.in_ok-kind.ensures.ok c.in_ok-init.ensures.ok

pub returns-clause-all : goal.returns-clause-all
returns-clause-all c =
    let one = ap length c.in-Some.ensures.steps in
    let two = ap length c.in-Some-next.ensures.steps in
    let rest = ap length c.in-Some-rest_of.ensures.some in
    let size = length-map c.next-2.new.self text_of in
    let count = c.count.ensures in
    omega (arith, one, two, rest, size, count)
