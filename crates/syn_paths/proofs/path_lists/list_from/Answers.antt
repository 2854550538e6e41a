use Rattle.std.proofs.Common.{◌≡◌, ◌≢◌, ◌++◌, ◌∷◌, [], ℕ, List, append_assoc, ap, refl, sym, ◌∙◌}
use Rattle.syn_paths.specs.declared.places.Next.{Next}
use Rattle.syn_paths.specs.declared.places.Next.TheVariants.{Off, Last, To}
use Rattle.syn_paths.specs.Searching.{next_at}
use Rattle.syn_paths.proofs.path_lists.list_from.Goals as goal

nil_right : (xs : List ℕ) → xs ++ [] ≡ xs
nil_right [] = refl
nil_right (x ∷ xs) = ap (λ (l : List ℕ). x ∷ l) (nil_right xs)

last_left : (n : Next) → n ≢ Off → ((w : ℕ) → n ≡ To w → ⊥) → n ≡ Last
last_left Off on to = absurd (on refl)
last_left Last on to = refl
last_left (To w) on to = absurd (to w refl)

pub loop-other-preserved : goal.loop-other-preserved
loop-other-preserved c =
    let to : next_at c.args.next.now c.loop-other.node ≡ To c.in-To.other = sym c.next_at.ensures ∙ c.in-To.is in
    record {
      on = c.requires.up.on c.loop-other.node c.in-To.other to;
      listed = λ rest from.
          let all = c.loop-other.invariant.listed (c.in-To.other ∷ rest) (to, from) in
          (all.0, ap (λ (l : List ℕ). l ++ rest) c.in_ok-push-2.ensures.items ∙ append_assoc c.loop-other.list.items (c.in-To.other ∷ []) rest ∙ all.1, all.2);
    }

pub returns : goal.returns
returns c =
    let last = last_left (next_at c.args.next.now c.loop-other.node) c.loop-other.invariant.on (λ w to. c.in_default.not-To w (c.next_at.ensures ∙ to)) in
    let all = c.loop-other.invariant.listed [] last in
    (all.0, c.of.ensures ∙ sym (nil_right c.loop-other.list.items) ∙ all.1, all.2)
