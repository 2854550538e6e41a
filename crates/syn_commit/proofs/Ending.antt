-- What becomes of the dying rows and of the difference, once a commit that has stored gave back.
use Rattle.std.proofs.Common.{◌≡◌, ◌⊎◌, ℕ, ◌+◌, ◌==◌, not, Bool, true, List, [], ◌∷◌, ◌++◌, Some, None, refl, sym, ap, ◌∙◌, subst, arith, inl, inr, append-nil, pos, ◌+ℤ◌}
use Rattle.std.proofs.lemmas.Bool.{cases_eq, ne_eqb}
use Rattle.syn_rows.specs.declared.Row.{Row}
use Rattle.syn_rows.specs.declared.Row.TheVariants.{Free}
use Rattle.syn_rows.proofs.Nodes.{node_same}
use Rattle.syn_core_laws.specs.declared.View.{View}
use Rattle.syn_core_laws.specs.declared.Change.{Change}
use Rattle.syn_core_laws.specs.declared.EventKind.{EventKind}
use Rattle.syn_core_laws.specs.declared.EventKind.TheVariants as Kind
use Rattle.syn_core_laws.specs.Shown.{HasNoCircle}
use Rattle.syn_core_laws.specs.Views.{differs, freed, known_row, released}
use Rattle.syn_core_laws.proofs.Listing.{look_dropped, look_here, look_kept, look_there}
use Rattle.syn_commit_laws.specs.Dying.{AreDoomed}
use Rattle.syn_commit_laws.specs.Freeing.{IsFreeing, late, redefines}
use Rattle.syn_commit_laws.specs.Turning.{Spares, stored_by}
use Rattle.syn_commit_laws.proofs.Goings.{freed_tell_gain, freeing_ends, freeing_goes_on, frees_add_none}
use Rattle.syn_commit.specs.Finishing.{FellByGain, HasStored, root_change}
use Rattle.syn_commit.specs.Giving.{GivesBackAll, Gives, IsLetGo}

-- the root has this row still, or was freed, and perhaps let go after that
abbrev RootIs : ℕ → Row → View → Type 0
RootIs root new v = (known_row v root ≡ Some new) ⊎ ((known_row v root ≡ Some Free) ⊎ (known_row v root ≡ None))

-- the same row is known of the root
root_same : (root : ℕ) (new : Row) (v w : View) → known_row w root ≡ known_row v root → RootIs root new v → RootIs root new w
root_same root new v w e (inl is) = inl (e ∙ is)
root_same root new v w e (inr (inl free)) = inr (inl (e ∙ free))
root_same root new v w e (inr (inr gone)) = inr (inr (e ∙ gone))

root_released : (root : ℕ) (new : Row) (v : View) (n : ℕ) → RootIs root new v → RootIs root new (released v n)
root_released root new v n r = elim (cases_eq root n) [
  | inl same ↦ inr (inr (look_dropped (differs n) root v.rows (ap not (subst (λ k. (root == k) ≡ true) same (node_same root)))))
  | inr ne ↦ root_same root new v (released v n) (look_kept (differs n) root v.rows (ap not (ne_eqb root n ne))) r
]

module _ (nodes root : ℕ) (dying : ℕ → Bool) (start : View) (doom : AreDoomed nodes root dying start) (new : Row) (made : ℕ) where
  -- what a commit keeps while it gives back
  record IsFinishing (first : List Change) (v : View) : Type 0 where
    changes : List Change
    freeing : IsFreeing nodes root dying start made changes v
    root_row : RootIs root new v
    stores : redefines changes ≡ first

  none_made : (cs : List Change) (v : View) → IsFreeing nodes root dying start (made + 0) cs v → IsFreeing nodes root dying start made cs v
  none_made cs v f = let none : made + 0 ≡ made = omega arith in subst (λ k. IsFreeing nodes root dying start k cs v) none f

  finishes : (first : List Change) (v w : View) (es : List EventKind) → IsFinishing first v → GivesBackAll nodes v es w → IsFinishing first w
  finishes first v w [] f e = subst (IsFinishing first) (sym e) f
  finishes first v w (Kind.Claim n ∷ es) f e = absurd e.2
  finishes first v w (Kind.ClaimFailed n ∷ es) f e = absurd e.2
  finishes first v w (Kind.Release n ∷ es) f e = finishes first e.0 w es (record {
    changes = f.changes ++ [];
    freeing = none_made (f.changes ++ []) e.0 (freeing_goes_on nodes root dying start v e.0 made f.changes (Kind.Release n) doom f.freeing e.1 e.2);
    root_row = subst (RootIs root new) (sym e.1) (root_released root new v n f.root_row);
    stores = ap redefines (append-nil f.changes) ∙ f.stores;
  }) e.3
  finishes first v w (Kind.LoadRow n ∷ es) f e = absurd e.2
  finishes first v w (Kind.Pin n ∷ es) f e = absurd e.2
  finishes first v w (Kind.Unpin n ∷ es) f e = finishes first e.0 w es (record {
    changes = f.changes ++ [];
    freeing = none_made (f.changes ++ []) e.0 (freeing_goes_on nodes root dying start v e.0 made f.changes (Kind.Unpin n) doom f.freeing e.1 tt);
    root_row = root_same root new v e.0 (ap (λ (x : View). known_row x root) e.1.3) f.root_row;
    stores = ap redefines (append-nil f.changes) ∙ f.stores;
  }) e.3
  finishes first v w (Kind.LoadCount n ∷ es) f e = absurd e.2
  finishes first v w (Kind.LoadKey n ∷ es) f e = absurd e.2
  finishes first v w (Kind.SetKey n key ∷ es) f e = absurd e.2
  finishes first v w (Kind.Make n row ∷ es) f e = absurd e.2
  finishes first v w (Kind.Redefine n row over ∷ es) f e = absurd e.2
  finishes first v w (Kind.Free n ∷ es) f e = finishes first e.0 w es (record {
    changes = f.changes ++ stored_by v (Kind.Free n);
    freeing = none_made (f.changes ++ stored_by v (Kind.Free n)) e.0 (freeing_goes_on nodes root dying start v e.0 made f.changes (Kind.Free n) doom f.freeing e.1 tt);
    root_row = elim (cases_eq root n) [
      | inl same ↦ inr (inl (ap (λ (x : View). known_row x root) e.1.6 ∙ subst (λ k. known_row (freed v n e.1.0) k ≡ Some Free) (sym same) (look_here n Free v.rows)))
      | inr ne ↦ root_same root new v e.0 (ap (λ (x : View). known_row x root) e.1.6 ∙ look_there root n Free v.rows ne) f.root_row
    ];
    stores = frees_add_none v n f.changes ∙ f.stores;
  }) e.3

  spares : Spares dying new → (v : View) → RootIs root new v → (row : Row) → known_row v root ≡ Some row → Spares dying row
  spares spared v (inl is) row e = let same : new ≡ row = (let both : Some new ≡ Some row = sym is ∙ e in cc) in subst (Spares dying) same spared
  spares spared v (inr (inl free)) row e = let same : Free ≡ row = (let both : Some Free ≡ Some row = sym free ∙ e in cc) in subst (Spares dying) same (λ m d. refl)
  spares spared v (inr (inr gone)) row e = absurd (cc)

-- the gain
pub fell_by_gain : (nodes root : ℕ) (dying : ℕ → Bool) (counted : View) (old new : Row) (made gain : ℕ) (v u w : View) (pool grown : List ℕ) → HasStored nodes root dying counted old new made gain v → Gives nodes v pool u grown → u.pins ≡ [] → u.idle ≡ []
    → HasNoCircle nodes u → IsLetGo u w → FellByGain root dying counted old new gain w
fell_by_gain nodes root dying counted old new made gain v u w pool grown s g pins idle no_circle l =
    let f = finishes nodes root dying counted s.doomed new made (root_change root old new ∷ []) v u g.0 (record { changes = root_change root old new ∷ []; freeing = s.freeing; root_row = inl s.root_row; stores = s.first }) g.1 in
    let freed = freeing_ends nodes root dying counted u made f.changes s.doomed f.freeing pins idle no_circle (spares nodes root dying counted s.doomed new made s.spared u f.root_row) in (
      f.changes,
      l.changes ∙ f.freeing.told.stored,
      f.stores,
      ap (λ d. d +ℤ pos (gain + late dying f.changes)) l.difference ∙ freed_tell_gain nodes root dying counted u made f.changes old new gain f.freeing.told freed f.stores s.ands,
    )
