-- A borrowed proposal is the same as data.
use Rattle.std.proofs.Common.{◌≡◌, ℕ, List, ap, ◌∙◌}
use Rattle.syn_plan.specs.declared.plan.Plan.{Plan}
use Rattle.syn_gain.specs.declared.proposals.Candidate.{Candidate}
use Rattle.syn_gain.specs.declared.proposals.Proposal.{Proposal}
use Rattle.syn_gain.specs.Proposals.{replacement, replacement_of}
use Rattle.syn_gain.specs.Replacements.{Replacement}

abbrev with_parts : ℕ → List ℕ → Plan → Replacement
with_parts root leaves plan = record { root = root; leaves = leaves; count = plan.leaves; gates = plan.gates.items; out = plan.out }

pub borrowed_is : (c : Candidate) (p : Proposal) → c.root ≡ p.root → c.leaves.now ≡ p.leaves.items → c.plan.now ≡ p.plan → replacement_of c ≡ replacement p
borrowed_is c p root leaves plan =
    ap (λ n. with_parts n c.leaves.now c.plan.now) root
    ∙ ap (λ ls. with_parts p.root ls c.plan.now) leaves
    ∙ ap (λ q. with_parts p.root p.leaves.items q) plan
