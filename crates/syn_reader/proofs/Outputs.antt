-- The outputs of a netlist that is read are words of its main model.
use Rattle.std.proofs.Common.{arith, ℕ, suc, ◌+◌, ◌≤◌, if◌then◌else◌, List, [], ◌∷◌, length, flat_map, ap}
use Rattle.std.proofs.lemmas.List.{length-append}
use Rattle.syn_models.specs.Models as models
use Rattle.syn_models.specs.Models.{Models, all_of, outputs_in, outputs_of}
use Rattle.syn_netlist.specs.Lists.{Netlist}
use Rattle.syn_reader.specs.declared.Kind.{Kind}
use Rattle.syn_reader.specs.declared.Kind.TheVariants as kinds
use Rattle.syn_reader.specs.Statements.{Statement, is_end, is_row, statements, rows_below}
use Rattle.syn_reader.specs.Parted.{by_model, words_of}
use Rattle.syn_reader.specs.Saying.{Say, Says, SpellAll}
use Rattle.syn_reader.specs.Laws.{FewOutputs}
use Rattle.syn_reader.proofs.Alike.{AllAlike}
use Rattle.syn_reader.proofs.Faults.{file_alike}

-- the outputs that statements say
abbrev said_outputs : List models.Statement → List (List ℕ)
said_outputs said = flat_map (λ s. outputs_in s.kind) said

abbrev words_by : Kind → List (List ℕ) → ℕ
words_by kind words = if is_row kind then length words else if is_end kind then 0 else suc (length words)

-- what one statement adds
step : (line : ℕ) (kind : Kind) (words : List (List ℕ)) (rows : List (List (List ℕ))) (rest said : List models.Statement) → Says line kind words rows rest said → length (said_outputs said) ≤ words_by kind words + length (said_outputs rest)
step line kinds.Unknown words rows rest said a = absurd a
step line kinds.Row words rows rest said a = let e = ap (λ (l : List models.Statement). length (said_outputs l)) a in omega (arith, e)
step line kinds.Model words rows rest said a = let e = ap (λ (l : List models.Statement). length (said_outputs l)) a in omega (arith, e)
step line kinds.Inputs words rows rest said a = let e = ap (λ (l : List models.Statement). length (said_outputs l)) a in omega (arith, e)
step line kinds.Outputs words rows rest said a =
    let e = ap (λ (l : List models.Statement). length (said_outputs l)) a in
    let sum = length-append words (said_outputs rest) in
    omega (arith, e, sum)
step line kinds.Clock words rows rest said a = let e = ap (λ (l : List models.Statement). length (said_outputs l)) a in omega (arith, e)
step line kinds.Latch words rows rest said a = let e = ap (λ (l : List models.Statement). length (said_outputs l)) a.2 in omega (arith, e)
step line kinds.Subckt words rows rest said a = let e = ap (λ (l : List models.Statement). length (said_outputs l)) a.2 in omega (arith, e)
step line kinds.End words rows rest said a = let e = ap (λ (l : List models.Statement). length (said_outputs l)) a in omega (arith, e)
step line kinds.Names words rows rest said a = let e = ap (λ (l : List models.Statement). length (said_outputs l)) a.2 in omega (arith, e)

said_few : (ss : List Statement) (said : List models.Statement) → Say ss said → length (said_outputs said) ≤ words_of ss
said_few [] said say = let e = ap (λ (l : List models.Statement). length (said_outputs l)) say in omega (arith, e)
said_few (s ∷ ss) said say =
    let here = step s.line s.kind s.words (rows_below ss) say.0 said say.2 in
    let rest = said_few ss say.0 say.1 in
    omega (arith, here, rest)

-- the main model has no more outputs than words
main_few : (parts : List (List Statement)) (m : models.Model) (ms : List models.Model) → SpellAll parts (m ∷ ms) → length (outputs_of m) ≤ m.words
main_few [] m ms s = absurd s
main_few (p ∷ ps) m ms s = let few = said_few p m.statements s.0.said in let words = s.0.words in omega (arith, few, words)

pub few_outputs : FewOutputs
few_outputs bytes n reads within =
    let ms : Models = reads.models in
    let ws : Models = within.words.0 in
    let alike : AllAlike (all_of ms) (all_of ws) = file_alike bytes ms ws reads.spelled within.words.1 in
    let are = ap (λ (m : Netlist). length m.frame.outputs) reads.flattened.flattening.is in
    let same = ap (λ (l : List models.Statement). length (said_outputs l)) alike.0.statements in
    let few = main_few (by_model (statements bytes)) ws.main ws.others within.words.1.spelled in
    omega (arith, are, same, few, within.words.2.2)
