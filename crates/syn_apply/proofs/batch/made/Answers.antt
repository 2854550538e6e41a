use Rattle.std.proofs.Common.{◌≡◌, ℕ, IfOk, List, false, [], ◌∷◌, ◌++◌, length, sym, ap, ap₂, ◌∙◌, subst, arith, inl, inr}
use Rattle.syn_rows.specs.declared.Lit.{Lit}
use Rattle.syn_rows.specs.declared.Row.{Row}
use Rattle.syn_rows.specs.Joining.{lit_of}
use Rattle.syn_rows.specs.Reach.{is_and}
use Rattle.syn_rows.specs.Rows.{row_at}
use Rattle.syn_rows.proofs.JoinLaws.{same_lit}
use Rattle.syn_gain.specs.declared.proposals.Proposal.{Proposal}
use Rattle.syn_gain.specs.Proposals.{replacement}
use Rattle.syn_apply.specs.Applied.{IsNext, NoneTaken, remade}
use Rattle.syn_apply.specs.Remaking.{Stands}
use Rattle.syn_apply.specs.Sound.{IsSoundBy}
use Rattle.syn_apply.proofs.Standing.{IfOk-map, on_and_if, open_stands}
use Rattle.syn_apply.proofs.batch.made.Goals as goal

pub returns-in-None-clause-stands : goal.returns-in-None-clause-stands
returns-in-None-clause-stands c =
    let old = c.args.hashed.now in
    open_stands old.source_count c.args.rows.now old.rows.items c.args.node c.of.result c.requires.hashed old.hashed c.requires.inside c.in-None.ensures.none
    (same_lit c.of.result (lit_of c.args.node) (omega (arith, c.of.ensures)))

pub planned-requires-clause-node : goal.planned-requires-clause-node
planned-requires-clause-node c =
    let p = c.index-proposals-place.result in
    ap (λ (q : Proposal). q.root) c.index-proposals-place.is ∙ c.is_taken-here.ensures.root c.if-here.true p ∙ c.requires.node

pub planned-requires-clause-sound : goal.planned-requires-clause-sound
planned-requires-clause-sound c =
    let p = c.index-proposals-place.result in
    subst (λ (q : Proposal). IsSoundBy c.args.rows.now (replacement q)) (sym c.index-proposals-place.is) (c.requires.sound c.args.place p (c.is_taken-here.ensures.there c.if-here.true))

pub returns-then-here-clause-stands : goal.returns-then-here-clause-stands
returns-then-here-clause-stands c =
    let p = c.index-proposals-place.result in
    let root : p.root ≡ c.args.node = ap (λ (q : Proposal). q.root) c.index-proposals-place.is ∙ c.is_taken-here.ensures.root c.if-here.true p in
    subst (λ (k : ℕ). IfOk c.planned.result (Stands c.args.rows.now c.planned.new.hashed.rows.items k)) root c.planned.ensures.stands

pub returns-in-None-clause-next : goal.returns-in-None-clause-next
returns-in-None-clause-next c =
    let literals = c.args.literals.now in
    inl (record {
      no_and = subst (λ (n : ℕ). is_and (row_at c.args.rows.now n) ≡ false) c.requires.node c.in-None.ensures.none;
      made = ap (λ (l : Lit). remade c.args.hashed.now.rows.items (literals ++ l ∷ [])) (same_lit c.of.result (lit_of c.args.node) (omega (arith, c.of.ensures)) ∙ ap lit_of c.requires.node);
    })

pub returns-then-here-clause-next : goal.returns-then-here-clause-next
returns-then-here-clause-next c =
    let p = c.index-proposals-place.result in
    let literals = c.args.literals.now in
    on_and_if c.planned.result
    (λ l rows literal. inr (inr (record {
      place = c.args.place;
      there = c.is_taken-here.ensures.there c.if-here.true;
      next = subst (λ (n : ℕ). IsNext c.args.proposals.now n c.args.place) c.requires.node c.requires.next;
      is_taken = c.is_taken-here.ensures.taken c.if-here.true;
      p = p;
      at = sym c.index-proposals-place.is;
      root = ap (λ (q : Proposal). q.root) c.index-proposals-place.is ∙ c.is_taken-here.ensures.root c.if-here.true p ∙ c.requires.node;
      made = ap₂ (λ (rs : List Row) (x : Lit). remade rs (literals ++ x ∷ [])) rows literal;
    }))) c.planned.ensures.rows c.planned.ensures.literal

pub returns-else-here-clause-next : goal.returns-else-here-clause-next
returns-else-here-clause-next c =
    let none : NoneTaken c.args.proposals.now c.args.taken.now (length c.args.literals.now) = record {
      place = c.args.place;
      next = subst (λ (n : ℕ). IsNext c.args.proposals.now n c.args.place) c.requires.node c.requires.next;
      other = λ d lt taken same. c.is_taken-here.ensures.other c.if-here.false d lt taken (same ∙ sym c.requires.node);
    } in
    IfOk-map c.joined.result (λ l h. inr (inl (h, none))) c.joined.ensures.again
