use Rattle.std.proofs.Common.{rules, [], subst, sym}
use Rattle.atomic_table.specs.Table as State
use Rattle.syn_table.specs.declared.Opening.{Opening}
use Rattle.syn_table.specs.Rule.{IsCore, first_known}
use Rattle.syn_table.proofs.Beginning.{CanOpen, first_table}
use Rattle.syn_table.proofs.Shared.start.Goals as goal

pub of_words-requires : goal.of_words-requires
of_words-requires c =
    let graph = c.args.graph.now in
    let can : CanOpen graph c.args.spare c.in_ok-counts.counts.items c.args.keys.now c.in_ok-words.words.items = record {
      rising = c.requires.keys;
      few = c.requires.nodes;
      few_literals = c.requires.literals;
      counted = c.in_ok-counts.ensures.refs;
      laid = search rules;
    } in
    let opening : Opening = record { graph = c.of.result; spare = c.args.spare } in
    subst (λ l. IsCore opening (State.opening l [] (first_known opening))) (sym c.as_slice-5.ensures.value)
    (first_table opening _ _ _ (subst (λ g. CanOpen g c.args.spare c.in_ok-counts.counts.items c.args.keys.now c.in_ok-words.words.items) (sym c.of.ensures) can))
