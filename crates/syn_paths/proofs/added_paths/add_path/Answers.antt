use Rattle.std.proofs.Common.{◌≡◌, ◌∷◌, ◌++◌, [], ℕ, List, length, ap, sym, subst, ◌∙◌, arith}
use Rattle.std.specs.Vec.{with_items}
use Rattle.std.proofs.lemmas.List.{with_items_is}
use Rattle.syn_paths.specs.declared.places.Next.{Next}
use Rattle.syn_paths.specs.declared.places.Step.{Step}
use Rattle.syn_paths.specs.Checking.{AreUpTo}
use Rattle.syn_paths.specs.declared.places.Place.{Place}
use Rattle.syn_paths.specs.Augmenting.{along, AreOnce}
use Rattle.syn_paths.specs.Searching.{IsStart, IsTrail, IsWayAt, next_at, node_at, place_at}
use Rattle.syn_paths.specs.Rooms.{HoldsPaths}
use Rattle.syn_paths.proofs.Added.{added, holds_more, next_within, starts_within, trail_within}
use Rattle.syn_paths.proofs.added_paths.add_path.Goals as goal

pub search-requires-clause-next : goal.search-requires-clause-next
search-requires-clause-next c =
    let marks = c.next-stamp.ensures.marks (length c.args.rows.now) c.requires.room.marks in
    let long : length c.as_mut_slice.result.now ≡ length c.args.rows.now = ap (λ (l : List ℕ). length l) c.as_mut_slice.ensures.value ∙ marks.ins in
    rw c.as_slice-2.ensures.value
    (next_within c.args.rows.now c.args.labels.now c.args.root c.args.level c.args.room.now.next.items (length c.as_mut_slice.result.now) c.requires.paths.paths (omega (arith, c.requires.root, long)))

pub search-requires-clause-starts : goal.search-requires-clause-starts
search-requires-clause-starts c =
    let marks = c.next-stamp.ensures.marks (length c.args.rows.now) c.requires.room.marks in
    let long : length c.as_mut_slice.result.now ≡ length c.args.rows.now = ap (λ (l : List ℕ). length l) c.as_mut_slice.ensures.value ∙ marks.ins in
    rw c.as_slice-3.ensures.value
    (starts_within c.args.rows.now c.args.labels.now c.args.root c.args.level c.args.room.now.starts.items (length c.as_mut_slice.result.now) c.requires.order c.requires.starts (omega (arith, c.requires.root, long)))

pub returns-in_default-clause-room : goal.returns-in_default-clause-room
returns-in_default-clause-room c =
    let marks = c.next-stamp.ensures.marks (length c.args.rows.now) c.requires.room.marks in
    let ins_back : (with_items c.next-stamp.new.self.ins c.search.new.ins).items ≡ c.search.new.ins = with_items_is c.next-stamp.new.self.ins c.search.new.ins (c.in_ok-found.ensures.ins_long ∙ c.as_mut_slice.ensures.len) in
    let outs_back : (with_items c.next-stamp.new.self.outs c.search.new.outs).items ≡ c.search.new.outs = with_items_is c.next-stamp.new.self.outs c.search.new.outs (c.in_ok-found.ensures.outs_long ∙ c.as_mut_slice-2.ensures.len) in
    record {
      marks = record {
        below = marks.below;
        ins = ap (λ (l : List ℕ). length l) ins_back ∙ c.in_ok-found.ensures.ins_long ∙ ap (λ (l : List ℕ). length l) c.as_mut_slice.ensures.value ∙ marks.ins;
        outs = ap (λ (l : List ℕ). length l) outs_back ∙ c.in_ok-found.ensures.outs_long ∙ ap (λ (l : List ℕ). length l) c.as_mut_slice-2.ensures.value ∙ marks.outs;
        below_stamps = marks.below_stamps;
        ins_stamps = subst (λ (l : List ℕ). AreUpTo l c.next-stamp.new.self.stamp) (sym ins_back) (subst (λ k. AreUpTo c.search.new.ins k) c.next-stamp.ensures.stamp c.in_ok-found.ensures.ins_stamps);
        outs_stamps = subst (λ (l : List ℕ). AreUpTo l c.next-stamp.new.self.stamp) (sym outs_back) (subst (λ k. AreUpTo c.search.new.outs k) c.next-stamp.ensures.stamp c.in_ok-found.ensures.outs_stamps);
      };
      next = c.requires.room.next;
    }

pub follow-requires-clause-within : goal.follow-requires-clause-within
follow-requires-clause-within c =
    let told = rw c.in-Some.is at c.in_ok-found.ensures.trail in
    let trail : IsTrail c.args.rows.now c.args.room.now.next.items (IsStart c.args.room.now.starts.items) c.search.new.trail.items = rw (c.as_slice-2.ensures.value, c.as_slice-3.ensures.value) at told in
    rw (c.as_slice-5.ensures.value, c.as_mut_slice-3.ensures.value)
    (trail_within c.args.rows.now c.args.labels.now c.args.root c.args.level c.args.room.now.next.items c.args.room.now.starts.items c.search.new.trail.items (length c.args.room.now.next.items) c.requires.order c.requires.falls
    c.requires.starts c.requires.paths.paths trail (omega (arith, c.requires.root, c.requires.room.next)))

pub returns-clause-room : goal.returns-clause-room
returns-clause-room c =
    let marks = c.next-stamp.ensures.marks (length c.args.rows.now) c.requires.room.marks in
    let ins_back : (with_items c.next-stamp.new.self.ins c.search.new.ins).items ≡ c.search.new.ins = with_items_is c.next-stamp.new.self.ins c.search.new.ins (c.in_ok-found.ensures.ins_long ∙ c.as_mut_slice.ensures.len) in
    let outs_back : (with_items c.next-stamp.new.self.outs c.search.new.outs).items ≡ c.search.new.outs = with_items_is c.next-stamp.new.self.outs c.search.new.outs (c.in_ok-found.ensures.outs_long ∙ c.as_mut_slice-2.ensures.len) in
    let next_back : (with_items c.args.room.now.next c.follow.new.next).items ≡ c.follow.new.next = with_items_is c.args.room.now.next c.follow.new.next (c.in_ok-follow.ensures.length ∙ c.as_mut_slice-3.ensures.len) in
    record {
      marks = record {
        below = marks.below;
        ins = ap (λ (l : List ℕ). length l) ins_back ∙ c.in_ok-found.ensures.ins_long ∙ ap (λ (l : List ℕ). length l) c.as_mut_slice.ensures.value ∙ marks.ins;
        outs = ap (λ (l : List ℕ). length l) outs_back ∙ c.in_ok-found.ensures.outs_long ∙ ap (λ (l : List ℕ). length l) c.as_mut_slice-2.ensures.value ∙ marks.outs;
        below_stamps = marks.below_stamps;
        ins_stamps = subst (λ (l : List ℕ). AreUpTo l c.next-stamp.new.self.stamp) (sym ins_back) (subst (λ k. AreUpTo c.search.new.ins k) c.next-stamp.ensures.stamp c.in_ok-found.ensures.ins_stamps);
        outs_stamps = subst (λ (l : List ℕ). AreUpTo l c.next-stamp.new.self.stamp) (sym outs_back) (subst (λ k. AreUpTo c.search.new.outs k) c.next-stamp.ensures.stamp c.in_ok-found.ensures.outs_stamps);
      };
      next = ap (λ (l : List Next). length l) next_back ∙ c.in_ok-follow.ensures.length ∙ ap (λ (l : List Next). length l) c.as_mut_slice-3.ensures.value ∙ c.requires.room.next;
    }

pub returns-clause-paths : goal.returns-clause-paths
returns-clause-paths c =
    let rows = c.args.rows.now in
    let labels = c.args.labels.now in
    let next = c.args.room.now.next.items in
    let sources = c.args.room.now.sources.items in
    let next_back : (with_items c.args.room.now.next c.follow.new.next).items ≡ c.follow.new.next = with_items_is c.args.room.now.next c.follow.new.next (c.in_ok-follow.ensures.length ∙ c.as_mut_slice-3.ensures.len) in
    let told = rw c.in-Some.is at c.in_ok-found.ensures.trail in
    let trail : IsTrail c.args.rows.now c.args.room.now.next.items (IsStart c.args.room.now.starts.items) c.search.new.trail.items = rw (c.as_slice-2.ensures.value, c.as_slice-3.ensures.value) at told in
    let found = rw c.in-Some.is at c.in_ok-found.ensures.found in
    let along_slice = subst (λ (t : List Step). (way : List Place) → IsWayAt t c.in-Some.i way → AreOnce (place_at t c.in-Some.i ∷ way) → (v : ℕ) → next_at c.follow.new.next v ≡ along (next_at c.as_mut_slice-3.result.now) (place_at t c.in-Some.i ∷ way) v)
    c.as_slice-5.ensures.value c.in_ok-follow.ensures.followed in
    let followed = subst (λ (n : List Next). (way : List Place) → IsWayAt c.search.new.trail.items c.in-Some.i way → AreOnce (place_at c.search.new.trail.items c.in-Some.i ∷ way) → (v : ℕ) → next_at c.follow.new.next v ≡ along (next_at n) (place_at c.search.new.trail.items c.in-Some.i ∷ way) v)
    c.as_mut_slice-3.ensures.value along_slice in
    let all = added rows labels c.args.root c.args.level next c.follow.new.next c.args.room.now.starts.items c.search.new.trail.items c.in-Some.i c.requires.order c.requires.falls c.requires.starts c.requires.paths.paths trail found followed in
    let source : all.1.0 ≡ c.source_of.result = sym (c.source_of.ensures ∙ ap (λ (t : List Step). node_at (place_at t c.in-Some.i)) c.as_slice-4.ensures.value ∙ ap node_at all.1.1) in
    let held = holds_more rows labels c.args.root c.args.level next c.follow.new.next sources c.args.room.now.touched.items all.1.0 c.requires.paths all.0 all.1.2 all.2 c.follow.new.touched.items c.in_ok-follow.ensures.touched in
    let pushed : c.push.new.self.items ≡ sources ++ all.1.0 ∷ [] = c.in_ok-push.ensures.items ∙ ap (λ v. sources ++ v ∷ []) (sym source) in
    subst (λ (l : List Next). HoldsPaths rows labels c.args.root c.args.level l c.push.new.self.items c.follow.new.touched.items) (sym next_back)
    (subst (λ (l : List ℕ). HoldsPaths rows labels c.args.root c.args.level c.follow.new.next l c.follow.new.touched.items) (sym pushed) held)
