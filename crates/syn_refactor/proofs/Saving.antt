-- The one proposal of a node, where it saves or saves nothing.
use Rattle.std.proofs.Common.{◌≡◌, ℕ, All, List, [], ◌∷◌, refl, sym, ap, ◌∙◌, subst, arith}
use Rattle.std.proofs.lemmas.List.Elements.{All-nil, All-cons}
use Rattle.syn_rows.specs.declared.Lit.{Lit}
use Rattle.syn_rows.specs.declared.Row.{Row}
use Rattle.syn_apply.specs.Sound.{IsSoundBy}
use Rattle.syn_gain.specs.declared.proposals.Proposal.{Proposal}
use Rattle.syn_gain.specs.Proposals.{replacement}
use Rattle.syn_gain.specs.Replacements.{Replacement}
use Rattle.syn_proposals.specs.Closing.{IsFirst, SavesNothing, SavesSome}
use Rattle.syn_proposals.specs.Sound.{IsSound}

-- it is the first
pub first_of_one : (rows : List Row) (observed : List Lit) (all : List Replacement) (r p : Replacement) → r ∷ [] ≡ all → p ≡ r → SavesSome rows observed r → IsFirst rows observed all p
first_of_one rows observed all r p are is some =
    subst (λ l. IsFirst rows observed l p) are (subst (λ x. IsFirst rows observed (r ∷ []) x) (sym is) (record {
      place = 0;
      there = omega arith;
      at = λ d. refl;
      saves = some;
      before = λ k d low high. absurd (omega arith);
    }))

-- there is none
pub none_of_one : (rows : List Row) (observed : List Lit) (all : List Replacement) (r : Replacement) → r ∷ [] ≡ all → SavesNothing rows observed r → All (SavesNothing rows observed) all
none_of_one rows observed all r are nothing = subst (λ l. All (SavesNothing rows observed) l) are (All-cons (SavesNothing rows observed) r [] nothing (All-nil (SavesNothing rows observed)))

-- as a proposal of its own it has the same root
pub has_root : (p : Proposal) (r : Replacement) (node : ℕ) → replacement p ≡ r → r.root ≡ node → p.root ≡ node
has_root p r node is root = ap (λ (q : Replacement). q.root) is ∙ root

-- and is sound
pub sound : (rows : List Row) (p : Proposal) (r : Replacement) → replacement p ≡ r → IsSoundBy rows r → IsSound rows p
sound rows p r is h = subst (IsSoundBy rows) (sym is) h
