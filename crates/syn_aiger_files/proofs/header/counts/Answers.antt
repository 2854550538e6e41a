use Rattle.std.proofs.Common.{ℕ, List, option_map, sym, ◌∙◌, Bor}
use Rattle.syn_aiger_files.proofs.FirstLines.{good, miss0, miss1, miss2, miss3, miss4, miss5, miss_format}
use Rattle.syn_aiger_files.proofs.header.counts.Goals as goal

pub returns-in_default : goal.returns-in_default
returns-in_default c = miss_format c.args.line.now c.cut_word.result.0.now (option_map (λ (t : Bor (List ℕ)). t.now) c.cut_word.result.1) c.cut_word.ensures (sym c.in_default.is ∙ c.format_of.ensures)

pub returns-in_default-next_number : goal.returns-in_default-next_number
returns-in_default-next_number c =
    miss0 c.args.line.now c.cut_word.result.0.now (option_map (λ (t : Bor (List ℕ)). t.now) c.cut_word.result.1) c.in-Some.ascii c.cut_word.ensures (sym c.in-Some.is ∙ c.format_of.ensures)
    c.in_default-next_number.ensures.none

pub returns-in_default-next_number-2 : goal.returns-in_default-next_number-2
returns-in_default-next_number-2 c =
    miss1 c.args.line.now c.cut_word.result.0.now (option_map (λ (t : Bor (List ℕ)). t.now) c.cut_word.result.1) c.in-Some.ascii c.cut_word.ensures (sym c.in-Some.is ∙ c.format_of.ensures)
    c.in-Some-next_number.variables (option_map (λ (t : Bor (List ℕ)). t.now) c.in-Some-next_number.rest) c.in-Some-next_number.ensures.some
    c.in_default-next_number-2.ensures.none

pub returns-in_default-next_number-3 : goal.returns-in_default-next_number-3
returns-in_default-next_number-3 c =
    miss2 c.args.line.now c.cut_word.result.0.now (option_map (λ (t : Bor (List ℕ)). t.now) c.cut_word.result.1) c.in-Some.ascii c.cut_word.ensures (sym c.in-Some.is ∙ c.format_of.ensures)
    c.in-Some-next_number.variables (option_map (λ (t : Bor (List ℕ)). t.now) c.in-Some-next_number.rest) c.in-Some-next_number.ensures.some
    c.in-Some-next_number-2.inputs (option_map (λ (t : Bor (List ℕ)). t.now) c.in-Some-next_number-2.rest) c.in-Some-next_number-2.ensures.some
    c.in_default-next_number-3.ensures.none

pub returns-in_default-next_number-4 : goal.returns-in_default-next_number-4
returns-in_default-next_number-4 c =
    miss3 c.args.line.now c.cut_word.result.0.now (option_map (λ (t : Bor (List ℕ)). t.now) c.cut_word.result.1) c.in-Some.ascii c.cut_word.ensures (sym c.in-Some.is ∙ c.format_of.ensures)
    c.in-Some-next_number.variables (option_map (λ (t : Bor (List ℕ)). t.now) c.in-Some-next_number.rest) c.in-Some-next_number.ensures.some
    c.in-Some-next_number-2.inputs (option_map (λ (t : Bor (List ℕ)). t.now) c.in-Some-next_number-2.rest) c.in-Some-next_number-2.ensures.some
    c.in-Some-next_number-3.latches (option_map (λ (t : Bor (List ℕ)). t.now) c.in-Some-next_number-3.rest) c.in-Some-next_number-3.ensures.some
    c.in_default-next_number-4.ensures.none

pub returns-in_default-next_number-5 : goal.returns-in_default-next_number-5
returns-in_default-next_number-5 c =
    miss4 c.args.line.now c.cut_word.result.0.now (option_map (λ (t : Bor (List ℕ)). t.now) c.cut_word.result.1) c.in-Some.ascii c.cut_word.ensures (sym c.in-Some.is ∙ c.format_of.ensures)
    c.in-Some-next_number.variables (option_map (λ (t : Bor (List ℕ)). t.now) c.in-Some-next_number.rest) c.in-Some-next_number.ensures.some
    c.in-Some-next_number-2.inputs (option_map (λ (t : Bor (List ℕ)). t.now) c.in-Some-next_number-2.rest) c.in-Some-next_number-2.ensures.some
    c.in-Some-next_number-3.latches (option_map (λ (t : Bor (List ℕ)). t.now) c.in-Some-next_number-3.rest) c.in-Some-next_number-3.ensures.some
    c.in-Some-next_number-4.outputs (option_map (λ (t : Bor (List ℕ)). t.now) c.in-Some-next_number-4.rest) c.in-Some-next_number-4.ensures.some
    c.in_default-next_number-5.ensures.none

pub returns-in_default-further : goal.returns-in_default-further
returns-in_default-further c =
    miss5 c.args.line.now c.cut_word.result.0.now (option_map (λ (t : Bor (List ℕ)). t.now) c.cut_word.result.1) c.in-Some.ascii c.cut_word.ensures (sym c.in-Some.is ∙ c.format_of.ensures)
    c.in-Some-next_number.variables (option_map (λ (t : Bor (List ℕ)). t.now) c.in-Some-next_number.rest) c.in-Some-next_number.ensures.some
    c.in-Some-next_number-2.inputs (option_map (λ (t : Bor (List ℕ)). t.now) c.in-Some-next_number-2.rest) c.in-Some-next_number-2.ensures.some
    c.in-Some-next_number-3.latches (option_map (λ (t : Bor (List ℕ)). t.now) c.in-Some-next_number-3.rest) c.in-Some-next_number-3.ensures.some
    c.in-Some-next_number-4.outputs (option_map (λ (t : Bor (List ℕ)). t.now) c.in-Some-next_number-4.rest) c.in-Some-next_number-4.ensures.some
    c.in-Some-next_number-5.ands (option_map (λ (t : Bor (List ℕ)). t.now) c.in-Some-next_number-5.rest) c.in-Some-next_number-5.ensures.some
    (sym c.in_default-further.is ∙ c.further.ensures)

pub returns : goal.returns
returns c =
    good c.args.line.now c.cut_word.result.0.now (option_map (λ (t : Bor (List ℕ)). t.now) c.cut_word.result.1) c.in-Some.ascii c.cut_word.ensures (sym c.in-Some.is ∙ c.format_of.ensures)
    c.in-Some-next_number.variables (option_map (λ (t : Bor (List ℕ)). t.now) c.in-Some-next_number.rest) c.in-Some-next_number.ensures.some
    c.in-Some-next_number-2.inputs (option_map (λ (t : Bor (List ℕ)). t.now) c.in-Some-next_number-2.rest) c.in-Some-next_number-2.ensures.some
    c.in-Some-next_number-3.latches (option_map (λ (t : Bor (List ℕ)). t.now) c.in-Some-next_number-3.rest) c.in-Some-next_number-3.ensures.some
    c.in-Some-next_number-4.outputs (option_map (λ (t : Bor (List ℕ)). t.now) c.in-Some-next_number-4.rest) c.in-Some-next_number-4.ensures.some
    c.in-Some-next_number-5.ands (option_map (λ (t : Bor (List ℕ)). t.now) c.in-Some-next_number-5.rest) c.in-Some-next_number-5.ensures.some
    c.in-Some-further.further (sym c.in-Some-further.is ∙ c.further.ensures)
