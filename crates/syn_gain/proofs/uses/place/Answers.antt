use Rattle.std.proofs.Common.{List, Result, Ok, Err, IfOk, ap, ◌∙◌}
use Rattle.syn_rows.specs.declared.Row.{Row}
use Rattle.syn_gain.specs.Proposals.{replacement_of}
use Rattle.syn_gain.specs.Replacements.{new_root_by}
use Rattle.syn_gain.proofs.uses.place.Goals as goal

IfOk-map : {T E : Type 0} {P Q : T → Type 0} (r : Result T E) → ((x : T) → P x → Q x) → IfOk r P → IfOk r Q
IfOk-map (Ok x) f h = f x h
IfOk-map (Err e) f h = h

pub returns-clause-root : goal.returns-clause-root
returns-clause-root c =
    IfOk-map c.place_rows.result (λ new h. h ∙ ap (λ (r : List Row). new_root_by r (replacement_of c.args.candidate)) c.as_slice.ensures) c.place_rows.ensures.root
