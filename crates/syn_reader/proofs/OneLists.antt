-- What the statements of one model without subcircuits say defines and reads what they do.
use Rattle.std.proofs.Common.{◌≡◌, ◌≢◌, ℕ, not, ◌||◌, true, false, List, [], ◌∷◌, ◌++◌, map, flat_map, bytes_eq, refl, sym, ap, ap₂, ◌∙◌, subst, inl, inr, Option, Some, None, ◌+◌}
use Rattle.std.proofs.lemmas.List.{map-append}
use Rattle.std.proofs.lemmas.Bool.{both_ways, cond-true, false_from_ne_true}
use Rattle.syn_netlist.specs.declared.LatchKind.{LatchKind}
use Rattle.syn_netlist.specs.Lists.{Latch, control_of, latch_reads}
use Rattle.syn_netlist.specs.Words.{without}
use Rattle.syn_netlist.proofs.Sets.{same_word}
use Rattle.syn_models.specs.FlatFaults.{defined_plainly, names_read as read_in}
use Rattle.syn_models.specs.Models as models
use Rattle.syn_models.specs.Models.{Model}
use Rattle.syn_models.specs.Opening.{is_subcircuit}
use Rattle.syn_reader.specs.declared.Kind.{Kind}
use Rattle.syn_reader.specs.declared.Kind.TheVariants as kinds
use Rattle.syn_reader.specs.Definitions.{definitions, name_of, names_defined, names_read, reads}
use Rattle.syn_reader.specs.Saying.{Say, Says}
use Rattle.syn_reader.specs.Shapes.{IsLatch, all_but_last, control_name, nil_control, type_and_control}
use Rattle.syn_reader.specs.Statements.{Statement, is_model, is_subckt, rows_below}
use Rattle.syn_reader.proofs.OnceLaws.{latch_defines}
use Rattle.syn_reader.proofs.TableLines.{defines_last}
use Rattle.syn_reader.proofs.Words.{all_but_snoc}

-- No statement is a `.subckt` line; none is `.model`.
abbrev pub NoSubckts : List Statement → Type 0
NoSubckts [] = Unit {0}
NoSubckts (s ∷ ss) = (is_subckt s.kind ≡ false) × NoSubckts ss

abbrev pub NoModels : List Statement → Type 0
NoModels [] = Unit {0}
NoModels (s ∷ ss) = (is_model s.kind ≡ false) × NoModels ss

-- only the first may be
abbrev pub NoMoreModels : List Statement → Type 0
NoMoreModels [] = Unit {0}
NoMoreModels (s ∷ ss) = NoModels ss

-- what a latch's words read
no_nil : (name : List ℕ) → name ≢ nil_control → without (nil_control ∷ []) (name ∷ []) ≡ name ∷ []
no_nil name ne =
    let apart : bytes_eq nil_control name ≡ false = false_from_ne_true (bytes_eq nil_control name) (λ e. ne (sym (same_word nil_control name e))) in
    cond-true (not (bytes_eq nil_control name || false)) (name ∷ []) [] (ap (λ t. not (t || false)) apart)

reads_both : (feed output : List ℕ) (kind : Option (LatchKind × Option (List ℕ))) (more : List ℕ) → control_name kind ≢ nil_control
    → (names_read kinds.Latch ((feed ∷ output ∷ type_and_control kind) ++ more ∷ []) ≡ feed ∷ control_of kind) × (names_read kinds.Latch (feed ∷ output ∷ type_and_control kind) ≡ feed ∷ control_of kind)
reads_both feed output None more ne = (refl, refl)
reads_both feed output (Some (k, None)) more ne = (refl, refl)
reads_both feed output (Some (k, Some name)) more ne = (ap (λ (l : List (List ℕ)). feed ∷ l) (no_nil name ne), ap (λ (l : List (List ℕ)). feed ∷ l) (no_nil name ne))

latch_reads_are : (words : List (List ℕ)) (latch : Latch) → IsLatch words latch → names_read kinds.Latch words ≡ latch_reads latch
latch_reads_are words latch is =
    let two = reads_both latch.feed latch.output latch.kind ((latch.init + 48) ∷ []) is.signal in
    elim is.spelled [
      | inl e ↦ ap (names_read kinds.Latch) e ∙ two.0
      | inr e ↦ ap (names_read kinds.Latch) e.0 ∙ two.1
    ]

abbrev pub defined_all : List models.Statement → List (List ℕ)
defined_all said = flat_map (λ s. defined_plainly s.kind) said

abbrev pub read_all : List Model → List models.Statement → List (List ℕ)
read_all all said = flat_map (λ s. read_in all s.kind) said

-- No statement is a subcircuit.
abbrev pub Plain : List models.Statement → Type 0
Plain [] = Unit {0}
Plain (s ∷ ss) = (is_subcircuit s.kind ≡ false) × Plain ss

-- What a statement says defines and reads what its words do.
record Tells (all : List Model) (kind : Kind) (words : List (List ℕ)) (rest said : List models.Statement) : Type 0 where
  defines : defined_all said ≡ names_defined kind words ++ defined_all rest
  reads : read_all all said ≡ names_read kind words ++ read_all all rest
  plain : Plain rest → Plain said

tells : (all : List Model) (line : ℕ) (kind : Kind) (words : List (List ℕ)) (rows : List (List (List ℕ))) (rest said : List models.Statement) → is_subckt kind ≡ false → Says line kind words rows rest said → Tells all kind words rest said
tells all line kinds.Row words rows rest said n e = record { defines = ap defined_all e; reads = ap (read_all all) e; plain = λ p. subst Plain (sym e) p }
tells all line kinds.Unknown words rows rest said n e = absurd e
tells all line kinds.Model words rows rest said n e = record { defines = ap defined_all e; reads = ap (read_all all) e; plain = λ p. subst Plain (sym e) p }
tells all line kinds.End words rows rest said n e = record { defines = ap defined_all e; reads = ap (read_all all) e; plain = λ p. subst Plain (sym e) p }
tells all line kinds.Inputs words rows rest said n e = record { defines = ap defined_all e; reads = ap (read_all all) e; plain = λ p. subst Plain (sym e) (refl, p) }
tells all line kinds.Outputs words rows rest said n e = record { defines = ap defined_all e; reads = ap (read_all all) e; plain = λ p. subst Plain (sym e) (refl, p) }
tells all line kinds.Clock words rows rest said n e = record { defines = ap defined_all e; reads = ap (read_all all) e; plain = λ p. subst Plain (sym e) (refl, p) }
tells all line kinds.Subckt words rows rest said n e = absurd (both_ways true n refl)
tells all line kinds.Latch words rows rest said n e = record {
  defines = ap defined_all e.2 ∙ ap (λ (l : List (List ℕ)). l ++ defined_all rest) (sym (latch_defines words e.0 e.1));
  reads = ap (read_all all) e.2 ∙ ap (λ (l : List (List ℕ)). l ++ read_all all rest) (sym (latch_reads_are words e.0 e.1));
  plain = λ p. subst Plain (sym e.2) (refl, p);
}
tells all line kinds.Names words rows rest said n e = record {
  defines = ap defined_all e.2 ∙ ap (λ (l : List (List ℕ)). l ++ defined_all rest) (sym (ap (names_defined kinds.Names) e.1.names ∙ defines_last e.0.inputs e.0.output));
  reads = ap (read_all all) e.2 ∙ ap (λ (l : List (List ℕ)). l ++ read_all all rest) (sym (ap all_but_last e.1.names ∙ all_but_snoc e.0.inputs e.0.output));
  plain = λ p. subst Plain (sym e.2) (refl, p);
}

names_back : (kind : Kind) (ws : List (List ℕ)) → map name_of (map (λ name. record { by = kind; name = name }) ws) ≡ ws
names_back kind [] = refl
names_back kind (w ∷ ws) = ap (λ (l : List (List ℕ)). w ∷ l) (names_back kind ws)

-- What is said defines and reads what the statements do, and none of it is a subcircuit.
pub record SaysAll (all : List Model) (ss : List Statement) (said : List models.Statement) : Type 0 where
  pub defines : defined_all said ≡ map name_of (flat_map definitions ss)
  pub reads : read_all all said ≡ flat_map reads ss
  pub plain : Plain said

pub says_all : (all : List Model) (ss : List Statement) (said : List models.Statement) → NoSubckts ss → Say ss said → SaysAll all ss said
says_all all [] said n say = record { defines = ap defined_all say; reads = ap (read_all all) say; plain = subst Plain (sym say) tt }
says_all all (s ∷ ss) said n say =
    let rest = says_all all ss say.0 n.1 say.1 in
    let here = tells all s.line s.kind s.words (rows_below ss) say.0 said n.0 say.2 in
    record {
      defines = here.defines ∙ ap₂ (λ (a b : List (List ℕ)). a ++ b) (sym (names_back s.kind (names_defined s.kind s.words))) rest.defines ∙ sym (map-append name_of (definitions s) (flat_map definitions ss));
      reads = here.reads ∙ ap (λ (l : List (List ℕ)). names_read s.kind s.words ++ l) rest.reads;
      plain = here.plain rest.plain;
    }
