-- The kept latches by numbers, and the frame that has them.
use Rattle.std.proofs.Common.{◌≡◌, ℕ, ◌||◌, not, Bool, true, false, List, [], ◌∷◌, ◌++◌, map, bytes_eq, length, drop, get_or, if◌then◌else◌, append_assoc, append-nil, ◌+◌, ◌<◌, refl, sym, ap, ap₂, ◌∙◌}
use Rattle.std.specs.List.{list_all}
use Rattle.std.proofs.lemmas.Bool.{and_parts, and_from, both_ways}
use Rattle.syn_netlist.specs.declared.Latch.{Latch}
use Rattle.syn_netlist.specs.declared.frames.Frame.{Frame}
use Rattle.syn_netlist.specs.Frames.{frame_in}
use Rattle.syn_netlist.specs.Numbers.{words_at}
use Rattle.syn_netlist.specs.Kept.{frame_of, latch_in}
use Rattle.syn_netlist.specs.Lists as lists
use Rattle.syn_netlist.specs.Lists.{latch_output, sources}
use Rattle.syn_netlist.specs.Words.{distinct, has_word, without}
use Rattle.syn_netlist.proofs.Sets.{distinct_right, has_word-append}
use Rattle.std.proofs.lemmas.List.{drop_more}
use Rattle.syn_seq.specs.Code.{is_kept, kept_latches}
use Rattle.syn_seq.specs.Rounds.{Dropped, Fate, Kept, Merged, kept_by, swept_frame}

pub all_kept_latches : (p : Latch → Bool) (fates : List Fate) (ls : List Latch) → list_all p ls ≡ true → list_all p (kept_latches fates ls) ≡ true
all_kept_latches p [] ls h = refl
all_kept_latches p (Kept ∷ fs) [] h = refl
all_kept_latches p (Merged i ∷ fs) [] h = refl
all_kept_latches p (Dropped ∷ fs) [] h = refl
all_kept_latches p (Kept ∷ fs) (l ∷ ls) h = let q = and_parts (p l) (list_all p ls) h in and_from (p l) (list_all p (kept_latches fs ls)) q.0 (all_kept_latches p fs ls q.1)
all_kept_latches p (Merged i ∷ fs) (l ∷ ls) h = all_kept_latches p fs ls (and_parts (p l) (list_all p ls) h).1
all_kept_latches p (Dropped ∷ fs) (l ∷ ls) h = all_kept_latches p fs ls (and_parts (p l) (list_all p ls) h).1

pub kept_in_words : (names : List (List ℕ)) (fates : List Fate) (ls : List Latch) → map (latch_in names) (kept_latches fates ls) ≡ kept_by fates (map (latch_in names) ls)
kept_in_words names [] ls = refl
kept_in_words names (Kept ∷ fs) [] = refl
kept_in_words names (Merged i ∷ fs) [] = refl
kept_in_words names (Dropped ∷ fs) [] = refl
kept_in_words names (Kept ∷ fs) (l ∷ ls) = ap (λ (ks : List lists.Latch). latch_in names l ∷ ks) (kept_in_words names fs ls)
kept_in_words names (Merged i ∷ fs) (l ∷ ls) = kept_in_words names fs ls
kept_in_words names (Dropped ∷ fs) (l ∷ ls) = kept_in_words names fs ls

or_none : (a b : Bool) → (a || b) ≡ false → (a ≡ false) × (b ≡ false)
or_none false b e = (refl, e)
or_none true b e = absurd (both_ways true e refl)

none_or : (a b : Bool) → a ≡ false → b ≡ false → (a || b) ≡ false
none_or false b e h = h
none_or true b e h = absurd (both_ways true e refl)

none_kept : (fates : List Fate) (ls : List lists.Latch) (w : List ℕ) → has_word (map latch_output ls) w ≡ false → has_word (map latch_output (kept_by fates ls)) w ≡ false
none_kept [] ls w h = refl
none_kept (Kept ∷ fs) [] w h = refl
none_kept (Merged i ∷ fs) [] w h = refl
none_kept (Dropped ∷ fs) [] w h = refl
none_kept (Kept ∷ fs) (l ∷ ls) w h = let q = or_none (bytes_eq l.output w) (has_word (map latch_output ls) w) h in none_or (bytes_eq l.output w) (has_word (map latch_output (kept_by fs ls)) w) q.0 (none_kept fs ls w q.1)
none_kept (Merged i ∷ fs) (l ∷ ls) w h = none_kept fs ls w (or_none (bytes_eq l.output w) (has_word (map latch_output ls) w) h).1
none_kept (Dropped ∷ fs) (l ∷ ls) w h = none_kept fs ls w (or_none (bytes_eq l.output w) (has_word (map latch_output ls) w) h).1

not_true : (a : Bool) → not a ≡ true → a ≡ false
not_true false e = refl
not_true true e = absurd (both_ways false refl e)

kept_once : (fates : List Fate) (ls : List lists.Latch) → distinct (map latch_output ls) ≡ true → distinct (map latch_output (kept_by fates ls)) ≡ true
kept_once [] ls h = refl
kept_once (Kept ∷ fs) [] h = refl
kept_once (Merged i ∷ fs) [] h = refl
kept_once (Dropped ∷ fs) [] h = refl
kept_once (Kept ∷ fs) (l ∷ ls) h =
    let q = and_parts (not (has_word (map latch_output ls) l.output)) (distinct (map latch_output ls)) h in
    and_from (not (has_word (map latch_output (kept_by fs ls)) l.output)) (distinct (map latch_output (kept_by fs ls)))
    (ap not (none_kept fs ls l.output (not_true (has_word (map latch_output ls) l.output) q.0))) (kept_once fs ls q.1)
kept_once (Merged i ∷ fs) (l ∷ ls) h = kept_once fs ls (and_parts (not (has_word (map latch_output ls) l.output)) (distinct (map latch_output ls)) h).1
kept_once (Dropped ∷ fs) (l ∷ ls) h = kept_once fs ls (and_parts (not (has_word (map latch_output ls) l.output)) (distinct (map latch_output ls)) h).1

front_none : (xs ys zs : List (List ℕ)) (w : List ℕ) → (has_word ys w ≡ false → has_word zs w ≡ false) → has_word (xs ++ ys) w ≡ false → has_word (xs ++ zs) w ≡ false
front_none xs ys zs w h e =
    let q = or_none (has_word xs w) (has_word ys w) (sym (has_word-append xs ys w) ∙ e) in
    has_word-append xs zs w ∙ none_or (has_word xs w) (has_word zs w) q.0 (h q.1)

front_once : (xs ys zs : List (List ℕ)) → distinct (xs ++ ys) ≡ true → ((w : List ℕ) → has_word ys w ≡ false → has_word zs w ≡ false) → distinct zs ≡ true → distinct (xs ++ zs) ≡ true
front_once [] ys zs d h z = z
front_once (x ∷ xs) ys zs d h z =
    let q = and_parts (not (has_word (xs ++ ys) x)) (distinct (xs ++ ys)) d in
    and_from (not (has_word (xs ++ zs) x)) (distinct (xs ++ zs)) (ap not (front_none xs ys zs x (h x) (not_true (has_word (xs ++ ys) x) q.0))) (front_once xs ys zs q.1 h z)

pub kept_sources_once : (f : lists.Frame) (fates : List Fate) → distinct (sources f) ≡ true → distinct (sources (swept_frame f fates)) ≡ true
kept_sources_once f fates d =
    let inner : List (List ℕ) = without f.inputs f.clocks in
    let outs : List (List ℕ) = map latch_output f.latches in
    let kept : List (List ℕ) = map latch_output (kept_by fates f.latches) in
    let back = distinct_right f.inputs (inner ++ outs) d in
    let right = distinct_right inner outs back in
    front_once f.inputs (inner ++ outs) (inner ++ kept) d (λ w. front_none inner outs kept w (none_kept fates f.latches w))
    (front_once inner outs kept back (none_kept fates f.latches) (kept_once fates f.latches right))

kept_one : (ks : List Latch) (f : Fate) (l : Latch) (fs : List Fate) (ls : List Latch) → (ks ++ (if is_kept f then l ∷ [] else [])) ++ kept_latches fs ls ≡ ks ++ kept_latches (f ∷ fs) (l ∷ ls)
kept_one ks Kept l fs ls = append_assoc ks (l ∷ []) (kept_latches fs ls)
kept_one ks (Merged i) l fs ls = ap (λ (x : List Latch). x ++ kept_latches fs ls) (append-nil ks)
kept_one ks Dropped l fs ls = ap (λ (x : List Latch). x ++ kept_latches fs ls) (append-nil ks)

-- one latch more
pub kept_step : (ks : List Latch) (fs : List Fate) (ls : List Latch) (j : ℕ) (d : Latch) → j < length fs → j < length ls
    → (ks ++ (if is_kept (get_or fs j Dropped) then get_or ls j d ∷ [] else [])) ++ kept_latches (drop (j + 1) fs) (drop (j + 1) ls) ≡ ks ++ kept_latches (drop j fs) (drop j ls)
kept_step ks fs ls j d lf ll =
    kept_one ks (get_or fs j Dropped) (get_or ls j d) (drop (j + 1) fs) (drop (j + 1) ls)
    ∙ ap₂ (λ (x : List Fate) (y : List Latch). ks ++ kept_latches x y) (sym (drop_more fs j Dropped lf)) (sym (drop_more ls j d ll))

-- a frame of these parts is the swept frame
pub same_swept : (f : Frame) (fates : List Fate) (names : List (List ℕ)) (model : List ℕ) (inputs clocks outputs : List ℕ) (latches : List Latch) → names ≡ f.names → model ≡ f.model → inputs ≡ f.inputs → clocks ≡ f.clocks → outputs ≡ f.outputs → latches ≡ kept_latches fates f.latches
    → frame_of names model inputs clocks outputs latches ≡ swept_frame (frame_in f) fates
same_swept f fates names model inputs clocks outputs latches en em ei ec eo el =
    ap (λ (ns : List (List ℕ)). frame_of ns model inputs clocks outputs latches) en
    ∙ ap₂ (λ (m : List ℕ) (i : List ℕ). frame_of f.names m i clocks outputs latches) em ei
    ∙ ap₂ (λ (c o : List ℕ). frame_of f.names f.model f.inputs c o latches) ec eo
    ∙ ap (λ (ls : List Latch). frame_of f.names f.model f.inputs f.clocks f.outputs ls) el
    ∙ ap (λ (ls : List lists.Latch). let fr : lists.Frame = record { model = f.model; inputs = words_at f.names f.inputs; clocks = words_at f.names f.clocks; outputs = words_at f.names f.outputs; latches = ls } in fr) (kept_in_words f.names fates f.latches)
