use Rattle.std.proofs.Common.{◌≡◌, ℕ, true, List, sym, ap, ap₂, ◌∙◌, subst, subst₂}
use Rattle.std.specs.List.{list_all}
use Rattle.std.proofs.lemmas.Result.{IfOk-weaker}
use Rattle.syn_netlist.specs.Numbers.{words_at}
use Rattle.syn_netlist.specs.Words.{distinct, has_word}
use Rattle.syn_compare.specs.Places.{places_in}
use Rattle.syn_compare.proofs.ordering.source_places.Goals as goal

-- the words of an index
indexed : (names all : List (List ℕ)) (numbers slice items : List ℕ) (words : List (List ℕ)) → names ≡ all → numbers ≡ slice → slice ≡ items → words_at all items ≡ words → words_at names numbers ≡ words
indexed names all numbers slice items words e f g h = ap₂ (λ (ws : List (List ℕ)) (ns : List ℕ). words_at ws ns) e (f ∙ g) ∙ h

pub places_of-requires-clause-once : goal.places_of-requires-clause-once
places_of-requires-clause-once c =
    let o = c.args.order.now in
    let index = c.in_ok-index.index in
    let is = indexed index.names.now o.names index.numbers.now c.as_slice.result.now c.in_ok-numbers.numbers.items _ c.in_ok-index.ensures.names c.in_ok-index.ensures.numbers c.as_slice.ensures.value c.in_ok-numbers.ensures.words in
    subst (λ (ws : List (List ℕ)). distinct ws ≡ true) (sym is) o.sources_once

pub places_of-requires-clause-there : goal.places_of-requires-clause-there
places_of-requires-clause-there c =
    let o = c.args.order.now in
    let f = c.args.frame.now in
    let index = c.in_ok-index.index in
    let is = indexed index.names.now o.names index.numbers.now c.as_slice.result.now c.in_ok-numbers.numbers.items _ c.in_ok-index.ensures.names c.in_ok-index.ensures.numbers c.as_slice.ensures.value c.in_ok-numbers.ensures.words in
    let own = ap (words_at f.names) c.as_slice-2.ensures.value ∙ c.in_ok-own.ensures.words in
    subst₂ (λ (ws xs : List (List ℕ)). list_all (has_word ws) xs ≡ true) (sym is) (sym own) c.requires

pub returns : goal.returns
returns c =
    let o = c.args.order.now in
    let f = c.args.frame.now in
    let index = c.in_ok-index.index in
    let is = indexed index.names.now o.names index.numbers.now c.as_slice.result.now c.in_ok-numbers.numbers.items _ c.in_ok-index.ensures.names c.in_ok-index.ensures.numbers c.as_slice.ensures.value c.in_ok-numbers.ensures.words in
    let own = ap (words_at f.names) c.as_slice-2.ensures.value ∙ c.in_ok-own.ensures.words in
    IfOk-weaker c.places_of.result _ _ (λ v e. e ∙ ap₂ (λ (ws xs : List (List ℕ)). places_in ws xs) is own) c.places_of.ensures
