-- What the turns of a pass report.
use Rattle.std.proofs.Common.{◌≡◌, ℕ, ◌+◌, ◌-◌, ◌^◌, ◌≤◌, All, Bool, true, false, List, [], ◌∷◌, ◌++◌, refl, sym, ap, ap₂, ◌∙◌, subst, arith, inl, inr}
use Rattle.std.proofs.lemmas.Bool.{cases_lt}
use Rattle.syn_graph.specs.declared.Graph.{Graph}
use Rattle.syn_gain.specs.declared.proposals.Proposal.{Proposal}
use Rattle.syn_proposals.specs.declared.gains.Report.{Report}
use Rattle.syn_proposals.specs.Following.{Follows}
use Rattle.syn_proposals.specs.Sound.{AppliesSome, IsSoundSaving}
use Rattle.syn_pool.specs.Reports.{told}
use Rattle.syn_pool.specs.Working.{IsRound}
use Rattle.syn_pool.specs.Turns.{IsPassReport, LeadTo, Turn, all_done, all_gained}
use Rattle.syn_pool.proofs.Sums.{told_both, told_high, told_low}

-- ---- turns one after the other
lead_both : (strict : Bool) (was mid now : Graph) (ts us : List Turn) → LeadTo strict was ts mid → LeadTo strict mid us now → LeadTo strict was (ts ++ us) now
lead_both strict was mid now [] us first second = subst (λ (g : Graph). LeadTo strict g us now) first second
lead_both strict was mid now (t ∷ ts) us first second = (first.0, lead_both strict t.now mid now ts us first.1 second)

done_both : (ts us : List Turn) → all_done (ts ++ us) ≡ all_done ts + all_done us
done_both [] us = omega arith
done_both (t ∷ ts) us = let rest = done_both ts us in omega (arith, rest)

gained_both : (ts us : List Turn) → all_gained (ts ++ us) ≡ all_gained ts + all_gained us
gained_both [] us = omega arith
gained_both (t ∷ ts) us = let rest = gained_both ts us in omega (arith, rest)

pub report_both : (strict : Bool) (was mid now : Graph) (r s t : Report) → IsPassReport strict was mid r → IsPassReport strict mid now s → t.done ≡ told (r.done + s.done) → t.gained ≡ told (r.gained + s.gained)
    → IsPassReport strict was now t
report_both strict was mid now r s t f g done gained = record {
  turns = f.turns ++ g.turns;
  lead = lead_both strict was mid now f.turns g.turns f.lead g.lead;
  done = done ∙ ap₂ (λ (a b : ℕ). told (a + b)) f.done g.done ∙ told_both (all_done f.turns) (all_done g.turns) ∙ ap told (sym (done_both f.turns g.turns));
  gained = gained ∙ ap₂ (λ (a b : ℕ). told (a + b)) f.gained g.gained ∙ told_both (all_gained f.turns) (all_gained g.turns) ∙ ap told (sym (gained_both f.turns g.turns));
}

-- ---- one turn
told_few : (m : ℕ) → told m ≤ 2 ^ 64 - 1
told_few m = elim (cases_lt m (2 ^ 64 - 1)) [
  | inl lt ↦ (let is = told_low m (omega (arith, lt)) in omega (arith, is, lt))
  | inr ge ↦ (let is = told_high m ge in omega (arith, is))
]

told_alone : (n m : ℕ) → n ≡ told m → n ≡ told (n + 0)
told_alone n m is =
    let few = told_few m in
    sym (told_low (n + 0) (omega (arith, is, few)) ∙ omega arith)

pub one_round : (strict : Bool) (was now : Graph) (zero_gain : Bool) (r : Report) → (strict ≡ true → zero_gain ≡ false) → IsRound was zero_gain r now → 1 ≤ r.done → Follows was r.gained now → IsPassReport strict was now r
one_round strict was now zero_gain r saving round done follows =
    let sums = round.workers.swept.sums in
    record {
      turns = record { now = now; report = r } ∷ [];
      lead = (inl (record { zero_gain = zero_gain; saving = saving; round = round; done = done; follows = follows }), refl);
      done = told_alone r.done _ sums.done;
      gained = told_alone r.gained _ sums.gained;
    }

-- one in which gains of 0 aren't let through
pub one_saving_round : (was now : Graph) (r : Report) → IsRound was false r now → 1 ≤ r.done → Follows was r.gained now → (strict : Bool) → IsPassReport strict was now r
one_saving_round was now r round done follows strict = one_round strict was now false r (λ _. refl) round done follows

pub one_applied : (was now : Graph) (found : List Proposal) (r : Report) → r.done ≡ 0 → r.gained ≡ 0 → Follows was 1 now → All (IsSoundSaving was) found → AppliesSome was found now → (strict : Bool) → IsPassReport strict was now r
one_applied was now found r done gained follows saving applied strict = record {
  turns = record { now = now; report = r } ∷ [];
  lead = (inr (record { done = done; gained = gained; follows = follows; found = found; saving = saving; applied = applied }), refl);
  done = told_alone r.done 0 done;
  gained = told_alone r.gained 0 gained;
}
