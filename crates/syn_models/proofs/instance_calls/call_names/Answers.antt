use Rattle.std.proofs.Common.{◌≡◌, ℕ, ◌+◌, ◌<◌, ◌++◌, ◌∷◌, [], List, length, map, drop, get_or, suc, rules, sym, ap, ◌∙◌, subst, arith}
use Rattle.syn_models.specs.declared.met.Instance.{Instance}
use Rattle.syn_models.specs.Called.{Spells}
use Rattle.syn_models.specs.Calling.{map_at}
use Rattle.syn_models.specs.Flattening.{called_inside, inner_name}
use Rattle.syn_models.specs.Views.{bind_in}
use Rattle.syn_models.specs.Walking.{inner_names}
use Rattle.std.proofs.lemmas.List.{drop_all}
use Rattle.syn_models.proofs.Listing.{left_from}
use Rattle.syn_models.proofs.Numbering.{IsCalling, calling_begins, calling_on, calling_ends, outer_there}
use Rattle.syn_models.proofs.Sums.{by_default}
use Rattle.syn_models.proofs.instance_calls.call_names.Goals as goal

pub loop-i-init : goal.loop-i-init
loop-i-init c =
    calling_begins c.in_ok-called.called.names c.in_ok-called.called.maps.items c.args.main.now c.args.instances.now c.args.count c.requires.wired c.requires.few c.in_ok-called.ensures.names c.in_ok-called.ensures.maps c.in_ok-called.ensures.each

pub loop-i-preserved : goal.loop-i-preserved
loop-i-preserved c =
    let i : ℕ = c.loop-i.i in
    let x : Instance = c.index-instances-i.result in
    let rest : List Instance = drop (c.loop-i.i + 1) c.args.instances.now in
    let h : IsCalling c.loop-i.called.names c.loop-i.called.maps.items c.args.main.now c.args.instances.now (x ∷ rest) c.args.count c.loop-i.i =
    subst (λ (l : List Instance). IsCalling c.loop-i.called.names c.loop-i.called.maps.items c.args.main.now c.args.instances.now l c.args.count c.loop-i.i) (left_from c.args.instances.now c.loop-i.i x (omega arith) c.index-instances-i.is) c.loop-i.invariant in
    let maps : c.push.new.self.items ≡ c.loop-i.called.maps.items ++ c.in_ok-map.map.items ∷ [] = search rules in
    let there : c.index-instances-i.result.outer.number < length c.loop-i.called.maps.items = outer_there c.loop-i.called.names c.loop-i.called.maps.items c.args.main.now c.args.instances.now rest c.args.count i x h in
    let outer : c.as_slice-outer.result.now ≡ map_at c.loop-i.called.maps.items c.index-instances-i.result.outer.number =
    c.as_slice-outer.ensures ∙ sym (by_default c.loop-i.called.maps.items c.index-instances-i.result.outer.number c.index-as_slice-instance.result there (c.index-as_slice-instance.is ∙ ap (λ (xs : List (List ℕ)). get_or xs c.index-instances-i.result.outer.number c.index-as_slice-instance.result) c.as_slice.ensures.value)) in
    calling_on c.loop-i.called.names c.instance_names.new.all c.loop-i.called.maps.items c.push.new.self.items c.args.main.now c.args.instances.now rest c.args.count i x c.in_ok-map.map.items maps
    c.in_ok-map.ensures.size c.in_ok-map.ensures.grows c.in_ok-map.ensures.few
    (λ names called s.
    subst (λ (k : ℕ). Spells c.instance_names.new.all (inner_names x) (called_inside called (inner_name c.args.count k) (map (bind_in names) c.index-instances-i.result.binds.now)) c.in_ok-map.map.items)
    (let e : c.loop-i.i + 1 ≡ suc c.loop-i.i = omega arith in e)
    (c.in_ok-map.ensures.each names called (subst (λ (m : List ℕ). Spells c.loop-i.called.names names called m) (sym outer) s)))
    c.in_ok-map.ensures.below h

pub returns-clause-maps : goal.returns-clause-maps
returns-clause-maps c =
    let none : drop c.loop-i.i c.args.instances.now ≡ [] = drop_all c.loop-i.i c.args.instances.now (omega arith) in
    (calling_ends c.loop-i.called.names c.loop-i.called.maps.items c.args.main.now c.args.instances.now (drop c.loop-i.i c.args.instances.now) c.args.count c.loop-i.i none c.loop-i.invariant).0

pub returns-clause-each : goal.returns-clause-each
returns-clause-each c =
    let none : drop c.loop-i.i c.args.instances.now ≡ [] = drop_all c.loop-i.i c.args.instances.now (omega arith) in
    (calling_ends c.loop-i.called.names c.loop-i.called.maps.items c.args.main.now c.args.instances.now (drop c.loop-i.i c.args.instances.now) c.args.count c.loop-i.i none c.loop-i.invariant).1
