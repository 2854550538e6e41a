-- What a netlist is written as reads as that netlist.
use Rattle.std.proofs.Common.{◌≡◌, ℕ, true, false, List, [], ◌∷◌, refl, sym, ap, ◌∙◌, subst, None}
use Rattle.std.specs.List.{list_all}
use Rattle.std.proofs.lemmas.Bool.{and_parts, both_ways}
use Rattle.syn_lex.specs.Lines.{bad_byte}
use Rattle.syn_netlist.specs.Lists.{Netlist}
use Rattle.syn_netlist.specs.Words.{is_word}
use Rattle.syn_netlist.proofs.Checked.{orderable_reaches_no_circle}
use Rattle.syn_text.specs.Printed.{printed}
use Rattle.syn_models.specs.Models.{alone}
use Rattle.syn_reader.specs.declared.Kind.{Kind}
use Rattle.syn_reader.specs.declared.Kind.TheVariants as kinds
use Rattle.syn_reader.specs.Definitions.{first_undriven}
use Rattle.syn_reader.specs.LineFaults.{checks, first_fault_of_lines}
use Rattle.syn_reader.specs.Reading.{NoCircle, Reads}
use Rattle.syn_reader.specs.Saying.{Say}
use Rattle.syn_reader.specs.Statements.{Statement, is_subckt, statements}
use Rattle.syn_reader.proofs.Built.{model_of}
use Rattle.syn_reader.proofs.OneLists.{NoSubckts}
use Rattle.syn_reader.proofs.OneModel.{alone_reads}
use Rattle.syn_text.specs.WellFormed.{IsWellFormed, PrintedReads}
use Rattle.syn_text.specs.Written.{Line, line_fits, lines_of, numbered, said, written}
use Rattle.syn_text.proofs.Lexed.{statements_of, no_bad_byte}
use Rattle.syn_text.proofs.WrittenFits.{lines_fit, lines_bytes}
use Rattle.syn_text.proofs.WrittenSpells.{is_written, say_written}
use Rattle.syn_text.proofs.WrittenNames.{all_driven}
use Rattle.syn_text.proofs.WrittenFaults.{no_fault}

pub reads_as_written : (n : Netlist) → IsWellFormed n → statements (printed n) ≡ written n
reads_as_written n w = sym (ap statements (lines_bytes n w)) ∙ statements_of (lines_of n) (lines_fit n w)

no_byte : (n : Netlist) → IsWellFormed n → bad_byte (printed n) ≡ None
no_byte n w = sym (ap bad_byte (lines_bytes n w)) ∙ no_bad_byte (lines_of n) 0 (lines_fit n w)

-- no line is a subcircuit's
plain_line : (kind : Kind) (words : List (List ℕ)) → line_fits (said kind words) ≡ true → is_subckt kind ≡ false
plain_line kinds.Subckt words h = absurd (both_ways false refl (and_parts (list_all is_word words) false h).1)
plain_line kind words h = refl

plain_lines : (ls : List Line) (k : ℕ) → list_all line_fits ls ≡ true → NoSubckts (numbered k ls)
plain_lines [] k h = tt
plain_lines (l ∷ ls) k h = let p = and_parts (line_fits l) (list_all line_fits ls) h in (plain_line l.kind l.words p.0, plain_lines ls _ p.1)

pub printed_reads : PrintedReads
printed_reads n w c =
    let same = reads_as_written n w in
    let s = say_written n w in
    let is : alone (model_of (statements (printed n)) s.said) ≡ n = ap (λ (ss : List Statement). alone (model_of ss s.said)) same ∙ is_written n w in
    subst (Reads (printed n)) is
    (alone_reads (printed n) s.said (no_byte n w) (subst NoSubckts (sym same) (plain_lines (lines_of n) 1 (lines_fit n w)))
    (ap (first_fault_of_lines checks []) same ∙ no_fault n w)
    (ap first_undriven same ∙ all_driven n w c.driven)
    (subst (λ (ss : List Statement). Say ss s.said) (sym same) s.say)
    (subst NoCircle (sym is) (λ name r. orderable_reaches_no_circle n c.order name c.ordered r)))
