use Rattle.std.proofs.Common.{◌≡◌, length, sym, ap, ◌∙◌}
use Rattle.syn_core_laws.specs.declared.View.{View}
use Rattle.syn_decide.specs.Tasks.{task_of}
use Rattle.syn_table.specs.declared.Known.{Known}
use Rattle.syn_table.specs.Seating.{known_of, view_of}
use Rattle.syn_commit.proofs.Sole.{never_busy}
use Rattle.syn_commit.proofs.answers.answer.Goals as goal

pub returns-clause-free : goal.returns-clause-free
returns-clause-free g c = λ all n e.
    let keyed : length (known_of c.keys.new.seat).numbers ≡ 64 = ap (λ (k : Known). length k.numbers) c.keys.ensures.known ∙ (ap (λ (k : Known). length k.numbers) c.walk.ensures.known ∙ all) in
    let same : (view_of c.counts.new.seat).misses ≡ (view_of c.args.trial.now.start.now.value).misses =
    c.counts.ensures.misses ∙ (c.try_hints.ensures.sole keyed ∙ (c.keys.ensures.misses ∙ (c.walk.ensures.sole all ∙ ap (λ (v : View). v.misses) (sym c.requires.begins.start)))) in
    never_busy (task_of c.args.trial.now.attempt) (view_of c.args.trial.now.start.now.value) (view_of c.counts.new.seat) c.counts.new.deciding c.counts.ensures.way.trying.reads same n e
