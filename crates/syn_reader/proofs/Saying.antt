-- Statements say what is computed from them.
use Rattle.std.proofs.Common.{◌≡◌, ℕ, List, [], ◌∷◌, sym, ap, ◌∙◌, Option, Some, None, option_map, option_and_then}
use Rattle.syn_models.specs.Models as models
use Rattle.syn_models.specs.Models.{OneLatch, OneTable, OneSubcircuit}
use Rattle.syn_reader.specs.declared.Kind.{Kind}
use Rattle.syn_reader.specs.declared.Kind.TheVariants as kinds
use Rattle.syn_reader.specs.Computed.{latch_of, table_of}
use Rattle.syn_reader.specs.Statements.{Statement, rows_below}
use Rattle.syn_reader.proofs.Latches.{latch_again, latch_back}
use Rattle.syn_reader.proofs.TableLaws.{table_again, table_back}
use Rattle.syn_reader.proofs.Words.{mapped, then_some}
use Rattle.syn_reader.specs.Computed.{said_by, said_of}
use Rattle.syn_reader.specs.Laws.{SayComputed}
use Rattle.syn_reader.specs.Saying.{on_line, Say, Says}
use Rattle.syn_reader.specs.Subcircuits.{subcircuit_of}

says_again : (line : ℕ) (k : Kind) (words : List (List ℕ)) (rows : List (List (List ℕ))) (rest said : List models.Statement) → Says line k words rows rest said → said_by line k words rows rest ≡ Some said
says_again line kinds.Row words rows rest said h = ap Some (sym h)
says_again line kinds.Unknown words rows rest said h = absurd h
says_again line kinds.Model words rows rest said h = ap Some (sym h)
says_again line kinds.Inputs words rows rest said h = ap Some (sym h)
says_again line kinds.Outputs words rows rest said h = ap Some (sym h)
says_again line kinds.Clock words rows rest said h = ap Some (sym h)
says_again line kinds.Names words rows rest said h = ap (option_map (λ t. on_line line (OneTable t) rest)) (table_again words rows h.0 h.1) ∙ ap Some (sym h.2)
says_again line kinds.Latch words rows rest said h = ap (option_map (λ l. on_line line (OneLatch l) rest)) (latch_again words h.0 h.1) ∙ ap Some (sym h.2)
says_again line kinds.Subckt words rows rest said h = ap (option_map (λ c. on_line line (OneSubcircuit c) rest)) h.1 ∙ ap Some (sym h.2)
says_again line kinds.End words rows rest said h = ap Some (sym h)

some_same : (a b : List models.Statement) → Some a ≡ Some b → a ≡ b
some_same a b e = cc

says_back : (line : ℕ) (k : Kind) (words : List (List ℕ)) (rows : List (List (List ℕ))) (rest said : List models.Statement) → said_by line k words rows rest ≡ Some said → Says line k words rows rest said
says_back line kinds.Row words rows rest said e = sym (some_same _ _ e)
says_back line kinds.Unknown words rows rest said e = absurd (let z : ◌≡◌ {A = Option (List models.Statement)} None (Some said) = e in cc)
says_back line kinds.Model words rows rest said e = sym (some_same _ _ e)
says_back line kinds.Inputs words rows rest said e = sym (some_same _ _ e)
says_back line kinds.Outputs words rows rest said e = sym (some_same _ _ e)
says_back line kinds.Clock words rows rest said e = sym (some_same _ _ e)
says_back line kinds.Names words rows rest said e = let p = mapped (λ t. on_line line (OneTable t) rest) (table_of words rows) said e in (p.0, table_back words rows p.0 p.1, sym p.2)
says_back line kinds.Latch words rows rest said e = let p = mapped (λ l. on_line line (OneLatch l) rest) (latch_of words) said e in (p.0, latch_back words p.0 p.1, sym p.2)
says_back line kinds.Subckt words rows rest said e = let p = mapped (λ c. on_line line (OneSubcircuit c) rest) (subcircuit_of words) said e in (p.0, p.1, sym p.2)
says_back line kinds.End words rows rest said e = sym (some_same _ _ e)

say_again : (ss : List Statement) (said : List models.Statement) → Say ss said → said_of ss ≡ Some said
say_again [] said h = ap Some (sym h)
say_again (s ∷ ss) said h = ap (option_and_then (said_by s.line s.kind s.words (rows_below ss))) (say_again ss h.0 h.1) ∙ says_again s.line s.kind s.words (rows_below ss) h.0 said h.2

pub say_back : (ss : List Statement) (said : List models.Statement) → said_of ss ≡ Some said → Say ss said
say_back [] said e = sym (some_same _ _ e)
say_back (s ∷ ss) said e =
    let p = then_some (said_by s.line s.kind s.words (rows_below ss)) (said_of ss) said e in
    (p.0, say_back ss p.0 p.1, says_back s.line s.kind s.words (rows_below ss) p.0 said p.2)

pub say_computed : SayComputed
say_computed ss said = (say_again ss said, say_back ss said)
