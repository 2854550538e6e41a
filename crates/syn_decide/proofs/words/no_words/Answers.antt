use Rattle.std.proofs.Common.{◌≡◌, None, rules, refl, subst, sym}
use Rattle.std.specs.List.{All}
use Rattle.std.proofs.lemmas.List.Elements.{All-push}
use Rattle.syn_decide.proofs.words.no_words.Goals as goal

pub loop-row-preserved : goal.loop-row-preserved
loop-row-preserved c = record {
  count = search rules;
  none = subst (λ ws. All (λ w. w ≡ None) ws) (sym c.push.ensures.items) (All-push (λ w. w ≡ None) c.loop-row.words.items None c.loop-row.invariant.none refl);
}
