use Rattle.std.proofs.Common.{◌≡◌, true, false, [], ◌∷◌, Option, Some, None, refl, sym, ap, subst, ◌∙◌, arith, inl, inr}
use mathlib.Core.Option.{some-injective}
use Rattle.syn_core_laws.specs.declared.View.{View}
use Rattle.syn_core_laws.specs.declared.EventKind.TheVariants as Kind
use Rattle.syn_rows.specs.Nodes.{has_node}
use Rattle.syn_core_laws.specs.Views.{known_row}
use Rattle.syn_rows.specs.declared.Row.{Row}
use Rattle.syn_rows.specs.declared.Row.TheVariants.{Alias}
use Rattle.syn_core_laws.specs.Cores.{Core}
use Rattle.syn_core_laws.specs.Events.{MayPin, Allowed, claim_stored}
use Rattle.syn_core_laws.specs.Openings.{empty_view}
use Rattle.syn_core_laws.specs.Worked.{lit, and, start}
use Rattle.syn_core_laws.proofs.worked_rows.Goals as goal

release_forbidden : Allowed start 0 (Kind.Release 6) → ⊥
release_forbidden h = let is : empty_view 0 ≡ h.0 = some-injective (empty_view 0) h.0 h.1 in let differs : false ≡ true = ap (λ (v : View). has_node v.held 6) is ∙ h.4.0 in absurd (cc)

-- seat 0's view when it holds 6
abbrev holding : View
holding = record (empty_view 0) { held = 6 ∷ [] }

abbrev taken : Core
taken = claim_stored start 0 holding 6 1

no_row : (r : Row) → ◌≡◌ {A = Option Row} None (Some r) → ⊥
no_row r e = absurd (cc)

pin_forbidden : Allowed taken 0 (Kind.Pin 4) → ⊥
pin_forbidden h = let is : holding ≡ h.0 = some-injective holding h.0 h.1 in go (subst (λ v. MayPin v 4) (sym is) h.4.0)
  where
    go : MayPin holding 4 → ⊥
    go (inl (inl used)) = no_row used.0 used.1
    go (inl (inr refers)) = no_row refers.1 refers.2
    go (inr e) = absurd (cc)

redefine_forbidden : Allowed taken 0 (Kind.Redefine 6 (Alias (lit 8)) (record { items = [] })) → ⊥
redefine_forbidden h = let is : holding ≡ h.0 = some-injective holding h.0 h.1 in no_row h.4.0 (ap (λ v. known_row v 6) is ∙ h.4.1.0)

claim_forbidden : Allowed taken 1 (Kind.Claim 6) → ⊥
claim_forbidden h = let free : 1 ≡ 0 = h.4.0 in absurd (omega arith)

pub returns : goal.returns
returns c = record {
  counts = refl;
  missed = (
    _,
    (empty_view 0, refl, omega arith, omega arith, (refl, refl), refl),
    (
      _,
      (empty_view 1, refl, omega arith, omega arith, ((λ e. omega arith), refl), refl),
      (_, (record (empty_view 0) { held = 6 ∷ [] }, refl, omega arith, omega arith, (refl, refl), refl), refl),
    ),
  );
  lone_release = release_forbidden;
  loaded = (
    _,
    (empty_view 0, refl, omega arith, omega arith, (refl, refl), refl),
    (
      _,
      (_, refl, omega arith, omega arith, refl, refl),
      (
        _,
        (_, refl, omega arith, omega arith, (inl (inr (6, and 9 11, refl, inr (omega arith))), omega arith), refl),
        (
          _,
          (_, refl, omega arith, omega arith, refl, refl),
          (_, (_, refl, omega arith, omega arith, (refl, refl), refl), refl),
        ),
      ),
    ),
  );
  unknown_row = (_, (empty_view 0, refl, omega arith, omega arith, (refl, refl), refl), pin_forbidden);
  unknown_redefine = (_, (empty_view 0, refl, omega arith, omega arith, (refl, refl), refl), redefine_forbidden);
  second_claim = (_, (empty_view 0, refl, omega arith, omega arith, (refl, refl), refl), claim_forbidden);
}
