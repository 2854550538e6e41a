-- Latches and tables are copied one after the other.
use Rattle.std.proofs.Common.{◌≡◌, ℕ, ◌++◌, List, [], ◌∷◌, map, flat_map, sym, ap, ap₂, ◌∙◌, append_assoc, append-nil}
use Rattle.syn_models.specs.declared.met.Part.{Part}
use Rattle.syn_models.specs.Models.{StatementKind}
use Rattle.syn_models.specs.Walking.{part_in}

pub copied_on : {A : Type 0} (gives : ℕ × StatementKind → List A) (old new whole : List A) (x : Part) (ps rest : List Part) → ps ≡ x ∷ rest → new ≡ old ++ gives (part_in x) → old ++ flat_map gives (map part_in ps) ≡ whole
    → new ++ flat_map gives (map part_in rest) ≡ whole
copied_on gives old new whole x ps rest e n h =
    ap (λ l. l ++ flat_map gives (map part_in rest)) n ∙ append_assoc old (gives (part_in x)) (flat_map gives (map part_in rest)) ∙ ap (λ (l : List Part). old ++ flat_map gives (map part_in l)) (sym e) ∙ h

pub copied_all : {A : Type 0} (gives : ℕ × StatementKind → List A) (old whole : List A) (ps : List Part) → ps ≡ [] → old ++ flat_map gives (map part_in ps) ≡ whole → old ≡ whole
copied_all gives old whole ps e h = sym (append-nil old) ∙ ap (λ (l : List Part). old ++ flat_map gives (map part_in l)) (sym e) ∙ h
