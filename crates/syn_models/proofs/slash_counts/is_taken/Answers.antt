use Rattle.std.proofs.Common.{◌≡◌, ◌≤◌, ◌<◌, ◌-◌, ℕ, suc, List, bytes_eq, drop, length, map, inl, inr, sym, ap, ◌∙◌, arith}
use Rattle.std.proofs.lemmas.List.{length-map}
use Rattle.syn_models.specs.declared.met.Instance.{Instance}
use Rattle.syn_models.specs.FlatFaults.{greatest}
use Rattle.syn_models.specs.Flattening.{inner_name}
use Rattle.syn_models.specs.ReadBack.{name_in}
use Rattle.syn_models.specs.Walking.{Entry, entry_in}
use Rattle.syn_models.proofs.ReadingBack.{none_there, not_unbound, inner_same, unbound_is}
use Rattle.syn_models.proofs.slash_counts.is_taken.Goals.{then-k-eq0-via-then-k-eq0, then-k-eq0-via-else-k-eq0+then-k-instances}
use Rattle.syn_models.proofs.slash_counts.is_taken.Goals as goal

pub returns-then-k-eq0 : goal.returns-then-k-eq0
returns-then-k-eq0 c =
    let list : List Entry = map entry_in c.args.instances.now in
    let count : length (map entry_in c.args.instances.now) ≡ length c.args.instances.now = length-map c.args.instances.now entry_in in
    let few : length (map entry_in c.args.instances.now) ≤ greatest = omega (arith, count) in
    elim c.then-k-eq0.branch [
      | then-k-eq0-via-then-k-eq0 w ↦ sym (none_there c.args.count list c.args.word.now c.number_in-k.result c.requires c.number_in-k.ensures few (inl w.if-k-eq0.true))
      | then-k-eq0-via-else-k-eq0+then-k-instances w ↦ sym (none_there c.args.count list c.args.word.now c.number_in-k.result c.requires c.number_in-k.ensures few (inr (let h = w.if-k-instances.true in omega (arith, count))))
    ]

pub returns-then-not-is_unbound : goal.returns-then-not-is_unbound
returns-then-not-is_unbound c =
    let list : List Entry = map entry_in c.args.instances.now in
    let x : Instance = c.index-instances-k.result in
    let place : ℕ = c.number_in-k.result - 1 in
    let count : length (map entry_in c.args.instances.now) ≡ length c.args.instances.now = length-map c.args.instances.now entry_in in
    let few : length (map entry_in c.args.instances.now) ≤ greatest = omega (arith, count) in
    let next : c.number_in-k.result ≡ suc (c.number_in-k.result - 1) = omega arith in
    let inside : c.number_in-k.result - 1 < length c.args.instances.now = omega arith in
    let name : c.without_first-name.result.now ≡ name_in c.args.count c.args.word.now = c.without_first-name.ensures ∙ ap (drop c.args.count) c.behind_digits.ensures in
    sym (not_unbound c.args.count list c.args.word.now c.number_in-k.result place (entry_in x) c.requires c.number_in-k.ensures next few
    (unbound_is c.args.instances.now place x c.without_first-name.result.now c.args.word.now c.args.count inside c.index-instances-k.is name ∙ sym c.is_unbound.ensures ∙ c.if-not-is_unbound.true))

pub returns : goal.returns
returns c =
    let list : List Entry = map entry_in c.args.instances.now in
    let x : Instance = c.index-instances-k.result in
    let place : ℕ = c.number_in-k.result - 1 in
    let count : length (map entry_in c.args.instances.now) ≡ length c.args.instances.now = length-map c.args.instances.now entry_in in
    let few : length (map entry_in c.args.instances.now) ≤ greatest = omega (arith, count) in
    let next : c.number_in-k.result ≡ suc (c.number_in-k.result - 1) = omega arith in
    let inside : c.number_in-k.result - 1 < length c.args.instances.now = omega arith in
    let inside_list : c.number_in-k.result - 1 < length (map entry_in c.args.instances.now) = omega (arith, count) in
    let name : c.without_first-name.result.now ≡ name_in c.args.count c.args.word.now = c.without_first-name.ensures ∙ ap (drop c.args.count) c.behind_digits.ensures in
    let written : c.as_slice.result.now ≡ inner_name c.args.count c.number_in-k.result (name_in c.args.count c.args.word.now) = c.as_slice.ensures.value ∙ c.in_ok-inner.ensures ∙ ap (inner_name c.args.count c.number_in-k.result) name in
    c.eq.ensures ∙ ap (λ (w : List ℕ). bytes_eq w c.args.word.now) written
    ∙ inner_same c.args.count list c.args.word.now c.number_in-k.result place (entry_in x) c.requires c.number_in-k.ensures next few inside_list
    (unbound_is c.args.instances.now place x c.without_first-name.result.now c.args.word.now c.args.count inside c.index-instances-k.is name ∙ sym c.is_unbound.ensures ∙ c.if-not-is_unbound.false)
