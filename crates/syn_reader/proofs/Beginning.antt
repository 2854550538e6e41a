-- The beginning of a model.
use Rattle.std.proofs.Common.{◌≡◌, ℕ, Bool, true, false, if◌then◌else◌, List, [], ◌∷◌, ◌++◌, length, refl, sym, ap, ap₂, ◌∙◌, subst, Option, Some, None, option_map, option_and_then, map, arith}
use Rattle.std.specs.Option.{option_or}
use Rattle.std.proofs.lemmas.Bool.{both_ways, false_from_ne_true}
use Rattle.syn_netlist.specs.Words.{has_word}
use Rattle.syn_models.specs.Kept.{statement_in}
use Rattle.syn_models.specs.Models as hierarchy
use Rattle.syn_reader.specs.declared.Kind.{Kind}
use Rattle.syn_reader.specs.declared.Kind.TheVariants as kinds
use Rattle.syn_reader.specs.Faults.{ModelTwice}
use Rattle.syn_reader.specs.Heard.{statement, Begins}
use Rattle.syn_reader.specs.LineFaults.{first_found}
use Rattle.syn_reader.specs.Marking.{Same}
use Rattle.syn_reader.specs.Statements.{Statement, begins_model, is_model}
use Rattle.syn_reader.specs.declared.model_words.Gathering.{Gathering}
use Rattle.syn_reader.specs.Computed.{said_of}
use Rattle.syn_reader.specs.ModelFaults.{model_checks}
use Rattle.syn_reader.specs.Gathers.{forbids_in, said_in}
use Rattle.syn_reader.specs.Owned.{HasGathered, first, others, own}
use Rattle.syn_reader.specs.Saying.{names_of}
use Rattle.syn_reader.proofs.Owning.{behind_none, own_all}
use Rattle.syn_reader.proofs.Steps.{found_more, passed}

same_said : (o : Option (List hierarchy.Statement)) → option_map (λ out. [] ++ out) o ≡ o
same_said None = refl
same_said (Some r) = refl

-- nothing is said yet
none_said : (g : Gathering) → g.statements.items ≡ [] → said_in g ≡ []
none_said g e = ap (map (statement_in g.signals.names)) e

pub first_all : (ss : List Statement) → first false ss ≡ ss
first_all [] = refl
first_all (s ∷ ss) = ap (λ (l : List Statement). s ∷ l) (own_all ss)

pub others_none : (ss : List Statement) → others false ss ≡ []
others_none [] = refl
others_none (s ∷ ss) = behind_none ss

no_model : (ss : List Statement) → begins_model ss ≡ false → Begins kinds.Model ss → ⊥
no_model [] h b = b
no_model (s ∷ ss) h b = both_ways (is_model s.kind) h (ap is_model b)

-- a model without a `.model` line
pub begun_plain : (models : List (List ℕ)) (ss : List Statement) (g : Gathering) → begins_model ss ≡ false → g.signals.names ≡ [] → g.statements.items ≡ [] → g.words ≡ 0 → Same (λ k w. false) (forbids_in g) → HasGathered models ss ss g
begun_plain models ss g h names items words free = record {
  above = [];
  faults = refl;
  going = refl;
  begun = λ n b. no_model ss h b;
  closed = λ b. refl;
  taken = λ k w. sym (free k w);
  said = ap (λ l. option_map (λ out. l ++ out) (said_of ss)) (none_said g items) ∙ same_said (said_of ss);
  known = λ w. ap (λ l. has_word l w) names ∙ sym (ap (λ l. has_word (names_of l) w) (none_said g items));
  count = let z = ap length names in omega (arith, z);
  total = omega (arith, words);
  few = let z = ap length names in omega (arith, z);
}

-- a name that no model above has
model_new : (models : List (List ℕ)) (line : ℕ) (name : List ℕ) → has_word models name ≡ false → first_found (model_checks models) [] (statement line kinds.Model (name ∷ [])) ≡ None
model_new models line name h = found_more models [] (statement line kinds.Model (name ∷ [])) None refl (ap (λ (b : Bool). option_or (if b then Some (ModelTwice line) else None) None) h)

pub begun_model : (models : List (List ℕ)) (line : ℕ) (words : List (List ℕ)) (name : List ℕ) (ss : List Statement) (g : Gathering) → words ≡ name ∷ [] → has_word models name ≡ false → g.signals.names ≡ [] → g.statements.items ≡ [] → g.words ≡ 2 → Same (λ k w. false) (forbids_in g)
    → HasGathered models (statement line kinds.Model words ∷ ss) ss g
begun_model models line words name ss g w h names items total free =
    subst (λ (l : List (List ℕ)). HasGathered models (statement line kinds.Model l ∷ ss) ss g) (sym w) (record {
      above = statement line kinds.Model (name ∷ []) ∷ [];
      faults = passed models [] (statement line kinds.Model (name ∷ [])) ss (model_new models line name h);
      going = refl;
      begun = λ n b. both_ways false refl n;
      closed = λ b. refl;
      taken = λ k v. sym (free k v);
      said = ap (λ l. option_map (λ out. l ++ out) (said_of ss)) (none_said g items) ∙ (same_said (said_of ss) ∙ again (said_of ss));
      known = λ v. ap (λ l. has_word l v) names ∙ sym (ap (λ l. has_word (names_of l) v) (none_said g items));
      count = let z = ap length names in omega (arith, z);
      total = omega (arith, total);
      few = let z = ap length names in omega (arith, z);
    })
  where
    again : (o : Option (List hierarchy.Statement)) → o ≡ option_and_then (λ r. Some r) o
    again None = refl
    again (Some r) = refl

model_kind : (k : Kind) → is_model k ≡ true → k ≡ kinds.Model
model_kind kinds.Model h = refl
model_kind kinds.Row h = absurd (both_ways false refl h)
model_kind kinds.Unknown h = absurd (both_ways false refl h)
model_kind kinds.Inputs h = absurd (both_ways false refl h)
model_kind kinds.Outputs h = absurd (both_ways false refl h)
model_kind kinds.Clock h = absurd (both_ways false refl h)
model_kind kinds.Names h = absurd (both_ways false refl h)
model_kind kinds.Latch h = absurd (both_ways false refl h)
model_kind kinds.Subckt h = absurd (both_ways false refl h)
model_kind kinds.End h = absurd (both_ways false refl h)

not_begun : (ss : List Statement) → (Begins kinds.Model ss → ⊥) → begins_model ss ≡ false
not_begun [] h = refl
not_begun (s ∷ ss) h = false_from_ne_true (is_model s.kind) (λ e. h (model_kind s.kind e))

-- the only model, of which nothing was taken
pub begun_only : (models : List (List ℕ)) (many : Bool) (old new : List Statement) (g : Gathering) → begins_model old ≡ many → new ≡ old → (Begins kinds.Model old → ⊥) → g.signals.names ≡ [] → g.statements.items ≡ [] → g.words ≡ 0 → Same (λ k w. false) (forbids_in g)
    → HasGathered models (first many old) (own many new) g
begun_only models many old new g m e h names items words free =
    let n = not_begun old h in
    let f : many ≡ false = sym m ∙ n in
    let whole : first many old ≡ old = ap (λ b. first b old) f ∙ first_all old in
    let left : own many new ≡ old = ap₂ own f e ∙ own_all old in
    subst (λ (l : List Statement). HasGathered models l (own many new) g) (sym whole) (subst (λ (l : List Statement). HasGathered models old l g) (sym left) (begun_plain models old g n names items words free))
