use Rattle.std.proofs.Common.{◌≡◌, ◌++◌, ◌∷◌, [], length, map, refl, rules, sym, ap, ap₂, ◌∙◌, arith, Some, None, inr, ◌==◌, ◌+◌, if◌then◌else◌, nat_lt, option_map, length-append}
use Rattle.std.proofs.lemmas.Bool.{and_from, lt-ltb}
use Rattle.std.proofs.lemmas.List.{length-map}
use Rattle.std.proofs.lemmas.Result.{err_from_is_err_and}
use Rattle.syn_lex.specs.Words.{text_of}
use Rattle.syn_netlist.specs.Kept.{rows_fit}
use Rattle.syn_netlist.specs.Numbers.{word_at, words_at, all_below}
use Rattle.syn_netlist.specs.Tables.{table_in}
use Rattle.syn_netlist.specs.Words.{has_word}
use Rattle.syn_models.specs.declared.hierarchy.StatementKind.TheVariants as said
use Rattle.syn_models.specs.Models as models
use Rattle.syn_reader.specs.Statements.{rows_below}
use Rattle.syn_reader.specs.declared.Kind.TheVariants as kinds
use Rattle.syn_reader.specs.Computed.{row_parts}
use Rattle.syn_reader.specs.Rows.{rows_fault, IsTableFault}
use Rattle.syn_reader.specs.Shapes.{all_but_last}
use Rattle.syn_reader.proofs.Words.{all_but_snoc}
use Rattle.syn_reader.proofs.FaultLaws.{passes_fault}
use Rattle.syn_reader.proofs.TableLines.{table_is, parts_fit}
use Rattle.syn_reader.specs.Gathers.{forbids_in}
use Rattle.syn_reader.specs.Saying.{on_line}
use Rattle.syn_reader.proofs.Gathered.{gathers, rows_total, sound_after, table_order}
use Rattle.syn_reader.proofs.model_words.Gathering.add_table.Goals as goal

pub returns-in_err-rows-clause-fault : goal.returns-in_err-rows-clause-fault
returns-in_err-rows-clause-fault c =
    let p = err_from_is_err_and c.from_residual-in_err-rows.result c.from_residual-in_err-rows.ensures.1 in
    let one = c.in_ok-names.ensures in
    let names = c.define_table.new.self.names in
    let inputs = c.in_ok-names.names.inputs.items in
    let sized : c.len-inputs.result ≡ length inputs = search (rules, c.len-inputs.ensures) in
    let same : c.len-inputs.result ≡ length (all_but_last (map text_of c.args.words)) =
    sized ∙ (sym (length-map inputs (word_at names)) ∙ ap length (sym (ap all_but_last one.words ∙ all_but_snoc (words_at names inputs) (word_at names c.in_ok-names.names.output)))) in
    passes_fault c.from_residual-in_err-rows.result p.0 c.in_err-rows.field-0.0 (λ f. rows_fault c.len-inputs.result None c.args.statements.now ≡ Some f) (IsTableFault (forbids_in c.args.self.now) c.args.line (map text_of c.args.words) c.args.statements.now) p.1 p.2
    (λ f h. inr (one.faultless, sym (ap (λ n. rows_fault n None c.args.statements.now) same) ∙ h)) c.in_err-rows.ensures.fault

pub table_of-requires-clause-rows : goal.table_of-requires-clause-rows
table_of-requires-clause-rows c =
    let names = c.define_table.new.self.names in
    let inputs = c.in_ok-names.names.inputs.items in
    let sized : c.len-inputs.result ≡ length inputs = search (rules, c.len-inputs.ensures) in
    ap (λ n. rows_fit n c.in_ok-rows.rows.parts.items) (sym sized)
    ∙ parts_fit (words_at names inputs) (rows_below c.args.statements.now) c.len-inputs.result c.in_ok-rows.rows.on c.in_ok-rows.rows.parts.items (sized ∙ sym (length-map inputs (word_at names))) c.in_ok-rows.ensures.parts

pub returns-clause-gathers : goal.returns-clause-gathers
returns-clause-gathers c =
    let one = c.in_ok-names.ensures in
    let say = c.in_ok-say.ensures in
    let s = c.define_table.new.self in
    let names = s.names in
    let inputs = c.in_ok-names.names.inputs.items in
    let table = c.table_of.result in
    let made = c.table_of.ensures in
    let rows = c.in_ok-rows.ensures in
    let below = rows_below c.args.statements.now in
    let parts = c.in_ok-rows.rows.parts.items in
    let line = map text_of c.args.words in
    let sized : c.len-inputs.result ≡ length inputs = search (rules, c.len-inputs.ensures) in
    let counted : c.len.result ≡ length parts = search (rules, c.len.ensures) in
    let words : line ≡ words_at names table.inputs ++ word_at names table.output ∷ [] =
    one.words ∙ ap₂ (λ i o. words_at names i ++ word_at names o ∷ []) (sym made.inputs) (sym made.output) in
    let spelled = table_is line (words_at names table.inputs) (word_at names table.output) below c.len-inputs.result table.on table.rows words
    (sized ∙ (ap length (sym made.inputs) ∙ sym (length-map table.inputs (word_at names)))) (rows.on ∙ sym made.on)
    (ap (λ b. row_parts c.len-inputs.result b below) made.on ∙ (rows.parts ∙ ap Some (sym made.rows))) in
    let size = length-map c.args.words text_of in
    let count = one.count in
    let total : c.words_of_rows.result ≡ _ = c.words_of_rows.ensures ∙ (ap (λ n. if c.len-inputs.result == 0 then n else (n + n)) counted ∙ sym (rows_total c.len-inputs.result c.in_ok-rows.rows.on below parts rows.parts)) in
    let long : length line ≡ length inputs + 1 = ap length one.words ∙ (length-append (words_at names inputs) (word_at names c.in_ok-names.names.output ∷ []) ∙ ap (λ n. n + 1) (length-map inputs (word_at names))) in
    gathers c.args.self.now c.say.new.self s c.args.line kinds.Names line below (said.Table table) (models.OneTable (table_in names table)) line _ c.requires.sound one.grows say.signals say.statements refl
    (λ rest. ap (option_map (λ t. on_line c.args.line (models.OneTable t) rest)) spelled) one.defined one.names
    (λ w. ap (λ l. has_word l w) words ∙ table_order (word_at names table.output) w (words_at names table.inputs)) (omega (arith, size, count)) say.words (omega (arith, sized, long, total))

pub returns-clause-rows : goal.returns-clause-rows
returns-clause-rows c =
    let one = c.in_ok-names.ensures in
    let names = c.define_table.new.self.names in
    let inputs = c.in_ok-names.names.inputs.items in
    let sized : c.len-inputs.result ≡ length inputs = search (rules, c.len-inputs.ensures) in
    let same : c.len-inputs.result ≡ length (all_but_last (map text_of c.args.words)) =
    sized ∙ (sym (length-map inputs (word_at names)) ∙ ap length (sym (ap all_but_last one.words ∙ all_but_snoc (words_at names inputs) (word_at names c.in_ok-names.names.output)))) in
    sym (ap (λ n. rows_fault n None c.args.statements.now) same) ∙ c.in_ok-rows.ensures.fine

pub returns-clause-sound : goal.returns-clause-sound
returns-clause-sound c =
    let one = c.in_ok-names.ensures in
    let say = c.in_ok-say.ensures in
    let s = c.define_table.new.self in
    let made = c.table_of.ensures in
    let count = length s.names in
    sound_after c.args.self.now c.say.new.self s c.args.line (said.Table c.table_of.result) (models.OneTable (table_in s.names c.table_of.result)) c.requires.sound one.grows say.signals say.statements refl one.marked
    (and_from (nat_lt c.table_of.result.output count) (all_below count c.table_of.result.inputs) (ap (λ o. nat_lt o count) made.output ∙ lt-ltb c.in_ok-names.names.output count one.output) (ap (all_below count) made.inputs ∙ one.inputs)) refl
