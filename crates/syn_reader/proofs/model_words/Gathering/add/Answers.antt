use Rattle.std.proofs.Common.{◌≡◌, ◌∷◌, ◌≤◌, map, length, sym, ap, ◌∙◌, subst, Some, None, inl, inr, List, ℕ}
use Rattle.syn_lex.specs.Words.{text_of}
use Rattle.syn_reader.specs.declared.Kind.TheVariants as kinds
use Rattle.syn_reader.specs.Faults.{Fault}
use Rattle.syn_reader.specs.Heard.{statement}
use Rattle.syn_reader.specs.Keywords.{line_fault}
use Rattle.syn_reader.specs.Rows.{IsTableFault}
use Rattle.syn_reader.specs.Shapes.{all_but_last}
use Rattle.syn_reader.specs.Statements.{Statement, rows_below}
use Rattle.syn_reader.proofs.LineLaws.{rows_length}
use Rattle.syn_reader.specs.Gathers.{Gathers, IsSubcktFault, forbids_in}
use Rattle.syn_reader.specs.Owned.{HasGathered, behind, own}
use Rattle.syn_reader.proofs.FaultLaws.{hands_fault, hands_four, hands_ok, hands_two}
use Rattle.syn_reader.proofs.Owning.{below_behind, below_own, fault_own, rows_own}
use Rattle.syn_reader.proofs.Steps.{inputs_step, clocks_step, outputs_step, latch_step, subckt_step, table_step, inputs_stop, clocks_stop, latch_stop, names_stop, rows_stop, shape_stop, port_stop}
use Rattle.syn_reader.proofs.model_words.Gathering.add.Goals as goal

pub returns-in-Inputs-clause-gathered : goal.returns-in-Inputs-clause-gathered
returns-in-Inputs-clause-gathered c =
    let words = map text_of c.args.parts.words in
    let ss = own c.args.many c.args.statements.now in
    hands_two c.add_inputs.result _ _ _
    (λ g e models all h. inputs_step models all ss c.args.parts.line words c.args.self.now c.add_inputs.new.self (subst (λ k. HasGathered models all (statement c.args.parts.line k words ∷ ss) c.args.self.now) c.in-Inputs.is h) e (g (rows_below ss)))
    c.add_inputs.ensures.gathers c.add_inputs.ensures.faultless

pub returns-in-Inputs-clause-fault : goal.returns-in-Inputs-clause-fault
returns-in-Inputs-clause-fault c =
    let words = map text_of c.args.parts.words in
    let ss = own c.args.many c.args.statements.now in
    hands_fault c.add_inputs.result (λ f. line_fault (forbids_in c.args.self.now) kinds.Inputs c.args.parts.line words ≡ Some f) _
    (λ f e models all h. inputs_stop models all ss c.args.parts.line words c.args.self.now f (subst (λ k. HasGathered models all (statement c.args.parts.line k words ∷ ss) c.args.self.now) c.in-Inputs.is h) e)
    c.add_inputs.ensures.fault

pub returns-in-Clock-clause-gathered : goal.returns-in-Clock-clause-gathered
returns-in-Clock-clause-gathered c =
    let words = map text_of c.args.parts.words in
    let ss = own c.args.many c.args.statements.now in
    hands_two c.add_clocks.result _ _ _
    (λ g e models all h. clocks_step models all ss c.args.parts.line words c.args.self.now c.add_clocks.new.self (subst (λ k. HasGathered models all (statement c.args.parts.line k words ∷ ss) c.args.self.now) c.in-Clock.is h) e (g (rows_below ss)))
    c.add_clocks.ensures.gathers c.add_clocks.ensures.faultless

pub returns-in-Clock-clause-fault : goal.returns-in-Clock-clause-fault
returns-in-Clock-clause-fault c =
    let words = map text_of c.args.parts.words in
    let ss = own c.args.many c.args.statements.now in
    hands_fault c.add_clocks.result (λ f. line_fault (forbids_in c.args.self.now) kinds.Clock c.args.parts.line words ≡ Some f) _
    (λ f e models all h. clocks_stop models all ss c.args.parts.line words c.args.self.now f (subst (λ k. HasGathered models all (statement c.args.parts.line k words ∷ ss) c.args.self.now) c.in-Clock.is h) e)
    c.add_clocks.ensures.fault

pub returns-in-Latch-clause-gathered : goal.returns-in-Latch-clause-gathered
returns-in-Latch-clause-gathered c =
    let words = map text_of c.args.parts.words in
    let ss = own c.args.many c.args.statements.now in
    hands_two c.add_latch.result _ _ _
    (λ g e models all h. latch_step models all ss c.args.parts.line words c.args.self.now c.add_latch.new.self (subst (λ k. HasGathered models all (statement c.args.parts.line k words ∷ ss) c.args.self.now) c.in-Latch.is h) e (g (rows_below ss)))
    c.add_latch.ensures.gathers c.add_latch.ensures.faultless

pub returns-in-Latch-clause-fault : goal.returns-in-Latch-clause-fault
returns-in-Latch-clause-fault c =
    let words = map text_of c.args.parts.words in
    let ss = own c.args.many c.args.statements.now in
    hands_fault c.add_latch.result (λ f. line_fault (forbids_in c.args.self.now) kinds.Latch c.args.parts.line words ≡ Some f) _
    (λ f e models all h. latch_stop models all ss c.args.parts.line words c.args.self.now f (subst (λ k. HasGathered models all (statement c.args.parts.line k words ∷ ss) c.args.self.now) c.in-Latch.is h) e)
    c.add_latch.ensures.fault

pub returns-in-Outputs-clause-gathered : goal.returns-in-Outputs-clause-gathered
returns-in-Outputs-clause-gathered c =
    let words = map text_of c.args.parts.words in
    let ss = own c.args.many c.args.statements.now in
    hands_ok c.add_outputs.result _ _
    (λ g models all h. outputs_step models all ss c.args.parts.line words c.args.self.now c.add_outputs.new.self (subst (λ k. HasGathered models all (statement c.args.parts.line k words ∷ ss) c.args.self.now) c.in-Outputs.is h) (g (rows_below ss)))
    c.add_outputs.ensures.gathers

pub returns-in-Names-clause-gathered : goal.returns-in-Names-clause-gathered
returns-in-Names-clause-gathered c =
    let words = map text_of c.args.parts.words in
    let many = c.args.many in
    let ss = c.args.statements.now in
    hands_four c.add_table.result _ _ _ _ _
    (λ g e r b models all h.
    subst (λ l. HasGathered models all l c.add_table.new.self) (below_own many ss ∙ ap (own many) (sym b))
    (table_step models all (own many ss) c.args.parts.line words c.args.self.now c.add_table.new.self (subst (λ k. HasGathered models all (statement c.args.parts.line k words ∷ own many ss) c.args.self.now) c.in-Names.is h) e
    (fault_own many (length (all_but_last words)) None ss ∙ r) (subst (λ (l : List (List (List ℕ))). Gathers kinds.Names c.args.parts.line words l c.args.self.now c.add_table.new.self) (sym (rows_own many ss)) g)))
    c.add_table.ensures.gathers c.add_table.ensures.faultless c.add_table.ensures.rows c.add_table.ensures.below

pub returns-in-Names-clause-left : goal.returns-in-Names-clause-left
returns-in-Names-clause-left c = hands_ok c.add_table.result _ _ (λ b. ap (behind c.args.many) b ∙ below_behind c.args.many c.args.statements.now) c.add_table.ensures.below

pub returns-in-Names-clause-less : goal.returns-in-Names-clause-less
returns-in-Names-clause-less c =
    hands_ok c.add_table.result _ _ (λ b. subst (λ (l : List Statement). length l ≤ length c.args.statements.now) (sym b) (rows_length c.args.statements.now)) c.add_table.ensures.below

pub returns-in-Names-clause-fault : goal.returns-in-Names-clause-fault
returns-in-Names-clause-fault c =
    let words = map text_of c.args.parts.words in
    let many = c.args.many in
    let ss = c.args.statements.now in
    hands_fault c.add_table.result (IsTableFault (forbids_in c.args.self.now) c.args.parts.line words ss) _
    (λ f e models all h.
    let there = subst (λ k. HasGathered models all (statement c.args.parts.line k words ∷ own many ss) c.args.self.now) c.in-Names.is h in
    elim e [
      | inl z ↦ names_stop models all (own many ss) c.args.parts.line words c.args.self.now f there z
      | inr z ↦ rows_stop models all (own many ss) c.args.parts.line words c.args.self.now f there z.0 (fault_own many (length (all_but_last words)) None ss ∙ z.1)
    ])
    c.add_table.ensures.fault

pub returns-in-Subckt-clause-gathered : goal.returns-in-Subckt-clause-gathered
returns-in-Subckt-clause-gathered c =
    let words = map text_of c.args.parts.words in
    let ss = own c.args.many c.args.statements.now in
    hands_two c.add_subckt.result _ _ _
    (λ g f models all h. subckt_step models all ss c.args.parts.line words f.0 c.args.self.now c.add_subckt.new.self (subst (λ k. HasGathered models all (statement c.args.parts.line k words ∷ ss) c.args.self.now) c.in-Subckt.is h) f.1 f.2 (g (rows_below ss)))
    c.add_subckt.ensures.gathers c.add_subckt.ensures.fine

pub returns-in-Subckt-clause-fault : goal.returns-in-Subckt-clause-fault
returns-in-Subckt-clause-fault c =
    let words = map text_of c.args.parts.words in
    let ss = own c.args.many c.args.statements.now in
    hands_fault c.add_subckt.result (IsSubcktFault c.args.parts.line words) _
    (λ f e models all h.
    let there = subst (λ k. HasGathered models all (statement c.args.parts.line k words ∷ ss) c.args.self.now) c.in-Subckt.is h in
    elim e [
      | inl z ↦ shape_stop models all ss c.args.parts.line words c.args.self.now there z.1 ∙ ap (λ (x : Fault). Some x) (sym z.0)
      | inr z ↦ port_stop models all ss c.args.parts.line words z.0 c.args.self.now f there z.1 z.2
    ])
    c.add_subckt.ensures.fault
