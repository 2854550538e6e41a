use Rattle.std.proofs.Common.{◌≡◌, length, rules, sym, ap, ◌∙◌, ◌++◌, [], ◌∷◌, if◌then◌else◌, take}
use Rattle.syn_resub.proofs.Found.{found_full, found_none}
use Rattle.syn_resub.proofs.form_search.push_form.Goals.{else-stands-via-then-stands+else-not-is_full, else-stands-via-else-stands}
use Rattle.syn_resub.proofs.form_search.push_form.Goals as goal

pub returns-else-stands-clause-found : goal.returns-else-stands-clause-found
returns-else-stands-clause-found c = elim c.else-stands.branch [
  | else-stands-via-then-stands+else-not-is_full w ↦
      let full : length c.args.found.now.items ≡ 16 = search rules in
      sym (found_full 16 c.args.found.now.items (if c.args.stands then c.args.form ∷ [] else []) full)
  | else-stands-via-else-stands w ↦
      found_none 16 c.args.found.now.items c.requires.few ∙ ap (λ b. take 16 (c.args.found.now.items ++ (if b then c.args.form ∷ [] else []))) (sym w.if-stands.false)
]
