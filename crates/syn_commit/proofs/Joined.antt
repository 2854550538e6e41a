-- What a seat frees while it gives back joins its pool: by its events, and so by its changes.
use Rattle.std.proofs.Common.{◌≡◌, ℕ, List, [], ◌∷◌, ◌++◌, refl, sym, ap, ◌∙◌, subst, append-nil, append_assoc, pos, ◌+ℤ◌}
use Rattle.std.proofs.lemmas.List.{append_cancel_left}
use Rattle.syn_rows.specs.declared.Row.TheVariants.{Free}
use Rattle.syn_core_laws.specs.declared.View.{View}
use Rattle.syn_core_laws.specs.declared.Change.{Change}
use Rattle.syn_core_laws.specs.declared.EventKind.{EventKind}
use Rattle.syn_core_laws.specs.declared.EventKind.TheVariants as Kind
use Rattle.syn_decide.specs.Fold.{State}
use Rattle.syn_commit_laws.specs.Freeing.{late, redefines}
use Rattle.syn_commit.specs.Committed.{HasStoredNone, pool_with}
use Rattle.syn_commit.specs.Counts.{dying_by}
use Rattle.syn_commit.proofs.Handing.{makes_stay}
use Rattle.syn_commit.specs.Giving.{FellByLate, GivesBackAll, HasGivenUp, pool_after, pool_after_all}

pub gives_joined : (nodes : ℕ) (v w : View) (es : List EventKind) (pool : List ℕ) → GivesBackAll nodes v es w → (changes : List Change) × (w.changes ≡ v.changes ++ changes) × (redefines changes ≡ []) × (pool_after_all pool es ≡ pool_with pool changes)
gives_joined nodes v w [] pool e = ([], ap (λ (x : View). x.changes) e ∙ sym (append-nil v.changes), refl, refl)
gives_joined nodes v w (Kind.Claim n ∷ es) pool e = absurd e.2
gives_joined nodes v w (Kind.ClaimFailed n ∷ es) pool e = absurd e.2
gives_joined nodes v w (Kind.Release n ∷ es) pool e = let rest = gives_joined nodes e.0 w es pool e.3 in (rest.0, rest.1 ∙ ap (λ (x : View). x.changes ++ rest.0) e.1, rest.2, rest.3)
gives_joined nodes v w (Kind.LoadRow n ∷ es) pool e = absurd e.2
gives_joined nodes v w (Kind.Pin n ∷ es) pool e = absurd e.2
gives_joined nodes v w (Kind.Unpin n ∷ es) pool e = let rest = gives_joined nodes e.0 w es pool e.3 in (rest.0, rest.1 ∙ ap (λ (x : View). x.changes ++ rest.0) e.1.3, rest.2, rest.3)
gives_joined nodes v w (Kind.LoadCount n ∷ es) pool e = absurd e.2
gives_joined nodes v w (Kind.LoadKey n ∷ es) pool e = absurd e.2
gives_joined nodes v w (Kind.SetKey n key ∷ es) pool e = absurd e.2
gives_joined nodes v w (Kind.Make n row ∷ es) pool e = absurd e.2
gives_joined nodes v w (Kind.Redefine n row over ∷ es) pool e = absurd e.2
gives_joined nodes v w (Kind.Free n ∷ es) pool e =
    let rest = gives_joined nodes e.0 w es (pool_after pool (Kind.Free n)) e.3 in
    let change : Change = record { node = n; old = e.1.0; new = Free } in
    (change ∷ rest.0, rest.1 ∙ (ap (λ (x : View). x.changes ++ rest.0) e.1.6 ∙ append_assoc v.changes (change ∷ []) rest.0), rest.2, rest.3)

-- a commit that gave up: what it stored is told once for the pool and for the difference
pub stored_none : (nodes : ℕ) (start v w : View) (pool grown : List ℕ) (s : State) → v.makes ≡ start.makes → v.changes ≡ start.changes → HasGivenUp nodes v pool w grown → FellByLate start w s → HasStoredNone s start pool w grown
stored_none nodes start v w pool grown s made same g fell =
    let j = gives_joined nodes v g.0 g.1.0 pool g.1.1 in
    let since : w.changes ≡ start.changes ++ j.0 = g.2.changes ∙ (j.1 ∙ ap (λ (cs : List Change). cs ++ j.0) same) in
    record {
      made = makes_stay v w nodes pool grown g ∙ made;
      changes = j.0;
      since = since;
      none = j.2;
      joined = g.1.2 ∙ j.3;
      fell = subst (λ (cs : List Change). w.difference +ℤ pos (late (dying_by s) cs) ≡ start.difference) (append_cancel_left start.changes fell.0 j.0 (sym fell.1 ∙ since)) fell.3;
    }
