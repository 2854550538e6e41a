use Rattle.std.proofs.Common.{◌≡◌, ℕ, suc, List, ◌+◌, ◌∷◌, [], ◌++◌, length, sym, ap, ◌∙◌, subst, arith}
use Rattle.std.proofs.lemmas.List.{length_push}
use Rattle.syn_rows.specs.declared.Lit.{Lit}
use Rattle.syn_rows.specs.Joining.{lit_of}
use Rattle.syn_apply.specs.Applied.{AreRemade, MakesNext, remade}
use Rattle.syn_apply.specs.Remaking.{AllStand, SourcesStay, Stands}
use Rattle.syn_apply.proofs.Standing.{all_stand_more, sources_stay_more}
use Rattle.syn_apply.proofs.batch.remade.Goals as goal

next_is : (n : ℕ) → suc n ≡ n + 1
next_is n = omega arith

pub loop-node-preserved : goal.loop-node-preserved
loop-node-preserved c =
    let rows = c.args.rows.now in
    let old = c.loop-node.hashed.rows.items in
    let new = c.made.new.hashed.rows.items in
    let lits = c.loop-node.literals.items in
    let l = c.in_ok-literal.literal in
    let keeps = c.loop-node.invariant in
    let made = c.in_ok-literal.ensures in
    let is : c.push.new.self.items ≡ lits ++ l ∷ [] = c.in_ok-push.ensures.items in
    let next : MakesNext rows c.args.proposals.now c.args.taken.now (remade old lits) (remade new (lits ++ l ∷ [])) =
    subst (λ (ls : List Lit). MakesNext rows c.args.proposals.now c.args.taken.now (remade old ls) (remade new (ls ++ l ∷ []))) c.as_slice-before.ensures.value made.next in
    record {
      next = c.place_after-place.ensures;
      all = omega (arith, ap length is, length_push lits l, keeps.all);
      sources = made.sources ∙ keeps.sources;
      remade = subst (λ (k : ℕ). AreRemade c.args.hashed.now.source_count rows c.args.proposals.now c.args.taken.now k (remade new c.push.new.self.items)) (next_is c.loop-node.node)
          (remade old lits, keeps.remade, subst (λ (ls : List Lit). MakesNext rows c.args.proposals.now c.args.taken.now (remade old lits) (remade new ls)) (sym is) next);
      few = λ room. made.grown.few (keeps.few room);
      standing = subst (AllStand rows new) (sym is) (all_stand_more rows old new lits l made.grown keeps.standing (subst (λ k. Stands rows new k l) (sym keeps.all) made.stands));
      stay = subst (SourcesStay c.args.hashed.now.source_count) (sym is) (sources_stay_more c.args.hashed.now.source_count lits l keeps.stay
          (λ lt. made.source (omega (arith, lt, keeps.all, keeps.sources)) ∙ ap lit_of (sym keeps.all)));
    }
