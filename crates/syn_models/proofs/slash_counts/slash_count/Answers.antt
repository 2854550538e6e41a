use Rattle.std.proofs.Common.{◌≡◌, ℕ, List, map, true, false, inl, inr, rules, sym, ap, ◌∙◌, arith}
use Rattle.std.proofs.lemmas.Bool.{cases_eq}
use Rattle.std.specs.List.{list_any}
use Rattle.syn_models.specs.Calling.{clash_among}
use Rattle.syn_models.specs.Flattening.{inner_name}
use Rattle.syn_models.specs.ReadBack.{taken_by}
use Rattle.syn_models.specs.Walking.{Entry, entry_in}
use Rattle.syn_models.proofs.ReadingBack.{any_taken_clash, fewest_is}
use Rattle.syn_models.proofs.Slashes.{any_taken_long}
use Rattle.syn_models.proofs.slash_counts.slash_count.Goals as goal

pub returns : goal.returns
returns c =
    let list : List Entry = map entry_in c.args.instances.now in
    let none : list_any (taken_by (inner_name c.loop-count.count) 1 (map entry_in c.args.instances.now)) c.args.names.now ≡ false = sym c.in_ok-any_taken.ensures.taken ∙ search rules in
    fewest_is c.args.names.now list c.loop-count.count c.loop-count.invariant.some none c.loop-count.invariant.fewest

pub loop-count-preserved : goal.loop-count-preserved
loop-count-preserved c =
    let list : List Entry = map entry_in c.args.instances.now in
    let taken : list_any (taken_by (inner_name c.loop-count.count) 1 (map entry_in c.args.instances.now)) c.args.names.now ≡ true = sym c.in_ok-any_taken.ensures.taken ∙ search rules in
    record {
      some = omega arith;
      fewest = λ fewer some l. elim (cases_eq fewer c.loop-count.count) [
        | inl e ↦ ap (λ (n : ℕ). clash_among c.args.names.now (inner_name n) 1 list) e ∙ sym (any_taken_clash (inner_name c.loop-count.count) 1 list c.args.names.now) ∙ taken
        | inr ne ↦ c.loop-count.invariant.fewest fewer some (omega arith)
      ];
    }

pub loop-count-smaller : goal.loop-count-smaller
loop-count-smaller c =
    let taken : list_any (taken_by (inner_name c.loop-count.count) 1 (map entry_in c.args.instances.now)) c.args.names.now ≡ true = sym c.in_ok-any_taken.ensures.taken ∙ search rules in
    let long = any_taken_long c.loop-count.count (map entry_in c.args.instances.now) c.args.names.now taken in
    omega (arith, long)
