use Rattle.std.proofs.Common.{◌≡◌, ℕ, ◌<◌, ◌∷◌, [], List, length, rules, sym, ◌∙◌, subst}
use Rattle.syn_models.specs.Called.{called_number}
use Rattle.syn_models.specs.Calling.{AreMaps, AreSpelled}
use Rattle.syn_models.proofs.Numbering.{main_maps, main_spelled}
use Rattle.syn_models.proofs.instance_calls.main_names.Goals as goal

pub returns-clause-maps : goal.returns-clause-maps
returns-clause-maps c =
    let own : List (List ℕ) = c.args.main.now.names in
    let maps : c.push.new.self.items ≡ c.in_ok-own.own.items ∷ [] = search rules in
    let size : length c.in_ok-own.own.items ≡ length own = c.in_ok-own.ensures.size ∙ c.len.ensures.value in
    let each : (i : ℕ) → i < length own → called_number c.in_ok-own.own.items i ≡ i = λ i l. c.in_ok-own.ensures.each i (subst (λ (n : ℕ). i < n) (sym c.len.ensures.value) l) in
    subst (λ (ns : List (List ℕ)). AreMaps (length ns) (own ∷ []) c.push.new.self.items) (sym c.in_ok-names.ensures) (subst (AreMaps (length own) (own ∷ [])) (sym maps) (main_maps own c.in_ok-own.own.items size each))

pub returns-clause-each : goal.returns-clause-each
returns-clause-each c = λ calls e.
    let own : List (List ℕ) = c.args.main.now.names in
    let maps : c.push.new.self.items ≡ c.in_ok-own.own.items ∷ [] = search rules in
    let size : length c.in_ok-own.own.items ≡ length own = c.in_ok-own.ensures.size ∙ c.len.ensures.value in
    let each : (i : ℕ) → i < length own → called_number c.in_ok-own.own.items i ≡ i = λ i l. c.in_ok-own.ensures.each i (subst (λ (n : ℕ). i < n) (sym c.len.ensures.value) l) in
    subst (λ (ns : List (List ℕ)). AreSpelled ns (own ∷ []) calls c.push.new.self.items) (sym c.in_ok-names.ensures) (subst (AreSpelled own (own ∷ []) calls) (sym maps) (main_spelled own c.in_ok-own.own.items size each calls e))
