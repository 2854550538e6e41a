-- Commands one after the other: one that is accepted, one that is refused, none left.
use Rattle.std.proofs.Common.{◌≡◌, ℕ, ◌+◌, ◌<◌, List, [], ◌∷◌, length, get_or, drop, refl, sym, ap, ◌∙◌, subst, inl, inr, Option, None, Some, Ok, Err}
use Rattle.std.proofs.lemmas.List.{drop_more}
use Rattle.syn_words.specs.declared.Command.{Command}
use Rattle.syn_shell.specs.declared.refusal.Refusal.{Refusal}
use Rattle.syn_shell.specs.Outside.{State}
use Rattle.syn_shell.specs.Scripts.{Refused, RunsCommands, name_in}
use Rattle.syn_shell.specs.Steps.{SessionStep}

pub left_at : (cs : List Command) (i : ℕ) (c : Command) → i < length cs → c ≡ get_or cs i c → drop i cs ≡ c ∷ drop (i + 1) cs
left_at cs i c lt is = drop_more cs i c lt ∙ ap (λ (x : Command). x ∷ drop (i + 1) cs) (sym is)

pub goes_on : (left rest : List Command) (c : Command) (before between after : State) (outcome : Option Refused) → left ≡ c ∷ rest
    → SessionStep c before (Ok tt) between → RunsCommands rest between outcome after → RunsCommands left before outcome after
goes_on left rest c before between after outcome is step more =
    subst (λ (cs : List Command). RunsCommands cs before outcome after) (sym is) (inl (between, step, more))

pub stops : (left rest : List Command) (c : Command) (cause : Refusal) (before after : State) → left ≡ c ∷ rest
    → SessionStep c before (Err cause) after → RunsCommands left before (Some (record { cause = cause; name = name_in c })) after
stops left rest c cause before after is step =
    subst (λ (cs : List Command). RunsCommands cs before (Some (record { cause = cause; name = name_in c })) after) (sym is) (inr (cause, refl, step))

pub ends : (left : List Command) (before : State) → left ≡ [] → RunsCommands left before None before
ends left before is = subst (λ (cs : List Command). RunsCommands cs before None before) (sym is) (refl, refl)
